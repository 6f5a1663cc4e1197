use Rattle.network.proofs.Steps.{goes_on}
use Rattle.network.proofs.laws_go_on_stands.Goals as goal

pub returns : goal.returns
returns c = goes_on
