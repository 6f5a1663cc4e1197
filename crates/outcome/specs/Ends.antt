-- When a recording has ended, with a hop log that tells of it.
use Rattle.std.specs.Prelude.{◌≡◌, ℕ, not, List, length, Some, None, Ok, Err, Option, Result, nat_le, nat_lt}
use Rattle.std.specs.Option.{unwrap_or}
use Rattle.refusal.specs.Tests.{when, or_else}
use Rattle.refusal.specs.declared.Refusal.{Refusal}
use Rattle.refusal.specs.declared.Refusal.TheVariants.{RunNotEnded, NoPlace}
use Rattle.plan.specs.Cells.{hops_in}
use Rattle.plan.specs.Plans.{cells_of}
use Rattle.rules.specs.declared.hop.HopRecord.{HopRecord}
use Rattle.run.specs.declared.recording.Recording.{Recording}
use Rattle.outcome.specs.declared.ended.Ended.{Ended}

-- before every cell is gone; then a hop log shorter than the hops
abbrev pub ended_test : Recording → List HopRecord → Option Refusal
ended_test r log =
    or_else (when (not (nat_le (length (cells_of r.plan)) r.gone)) RunNotEnded)
    (when (nat_lt (length log) (hops_in (cells_of r.plan))) NoPlace)

-- the recording with its log, or the first test that fails
abbrev pub Opens : Recording → List HopRecord → Result Ended Refusal → Type 0
Opens r log (Ok e) = (ended_test r log ≡ None) × (e.recording.now ≡ r) × (e.log.now ≡ log)
Opens r log (Err e) = ended_test r log ≡ Some e

-- the slot that a record of the hop log tells, and 0 where it tells none
abbrev pub slot_told : HopRecord → ℕ
slot_told h = unwrap_or h.sent 0
