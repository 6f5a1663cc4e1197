use Rattle.std.proofs.Common.{◌≡◌, ℕ, ◌<◌, get_or, pos}
use Rattle.arrayvec.specs.ArrayVec.{array_vec_len}
use Rattle.outcome.specs.Outcomes.{held_slack, slack_left}
use Rattle.outcome.proofs.ended.Ended.slacks.Given as goal

abbrev pub invariant-loop-cell : goal.invariant-loop-cell
invariant-loop-cell l =
    (array_vec_len l.slacks ≡ l.cell)
    × ((k : ℕ) → k < l.cell → get_or l.slacks.items k (pos 0) ≡ held_slack (slack_left l.self.recording.now l.self.log.now k))
