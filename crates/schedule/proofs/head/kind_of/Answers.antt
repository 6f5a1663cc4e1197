use Rattle.schedule.proofs.Named.{no_kind}
use Rattle.std.proofs.Common.{rules}
use Rattle.schedule.proofs.head.kind_of.Goals as goal

pub returns-in_err-kind : goal.returns-in_err-kind
returns-in_err-kind c = search (rules, no_kind)
