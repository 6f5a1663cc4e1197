use Rattle.std.proofs.Common.{ℕ, ◌+◌, ◌-◌, cond, eqb}
use Rattle.schedule.specs.Chains.{Walking}
use Rattle.schedule.proofs.checked.Checked.walk.Given as goal

-- so many records have passed
abbrev pub invariant-loop-index : goal.invariant-loop-index
invariant-loop-index l = (k : ℕ) × Walking l.self.image.bytes.now l.cell k l.index l.seen l.found

-- indices rise, and 0 is the end
abbrev pub decreases-loop-index : goal.decreases-loop-index
decreases-loop-index l = cond (eqb l.index 0) 0 (l.self.image.head.hops + 1 - l.index)
