-- Slack and due slots, from the recording alone.
use Rattle.std.proofs.Common.{zero, suc, arith}
use Rattle.std.proofs.lemmas.Int.{ints}
use Rattle.network.specs.Networks.{last}
use Rattle.network.specs.Slacks.{DueFixed, LastSlack}

pub due_fixed : DueFixed
due_fixed N r x c zero = omega (arith, ints)
due_fixed N r x c (suc h) = let e = due_fixed N r x c h in omega (arith, ints)

pub last_slack_is : LastSlack
last_slack_is N O r x c cn = let e = due_fixed N r x c (last N c) in omega (arith, ints)
