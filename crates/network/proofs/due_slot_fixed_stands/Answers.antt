use Rattle.network.proofs.Slacks.{due_fixed}
use Rattle.network.proofs.due_slot_fixed_stands.Goals as goal

pub returns : goal.returns
returns c = due_fixed
