use Rattle.network.proofs.Bound.{all_end}
use Rattle.network.proofs.last_exit_bound_stands.Goals as goal

pub returns : goal.returns
returns c = all_end
