use Rattle.schedule.proofs.Named.{no_pile}
use Rattle.std.proofs.Common.{rules}
use Rattle.schedule.proofs.head.pile_of.Goals as goal

pub returns : goal.returns
returns c = search (rules, no_pile)
