use Rattle.network.proofs.Steps.{starts}
use Rattle.network.proofs.laws_start_stands.Goals as goal

pub returns : goal.returns
returns c = starts
