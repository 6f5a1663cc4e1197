use Rattle.std.proofs.Common.{◌≡◌, map, take}
use Rattle.outcome.specs.Ends.{slot_told}
use Rattle.outcome.proofs.ended.Ended.slots.Given as goal

abbrev pub invariant-loop-hop : goal.invariant-loop-hop
invariant-loop-hop l = l.slots.items ≡ map slot_told (take l.hop-index l.hop-items)
