-- How each cell of a recording fared.
use Rattle.std.specs.Prelude.{ℕ, ◌-◌, cond, not, List, length, ℤ, pos, negsuc, ◌-ℤ◌, Option, int_le, nat_le, nat_lt, slice_index_or}
use Rattle.std.specs.Option.{unwrap_or}
use Rattle.refusal.specs.Tests.{when, or_else}
use Rattle.refusal.specs.declared.Refusal.{Refusal}
use Rattle.refusal.specs.declared.Refusal.TheVariants.{RunNotEnded, UnknownItem, NoPlace}
use Rattle.plan.specs.Cells.{no_cell, hops_in, travel}
use Rattle.plan.specs.Plans.{delays_of, cells_of}
use Rattle.rules.specs.Loads.{sent_in}
use Rattle.rules.specs.declared.hop.HopRecord.{HopRecord}
use Rattle.run.specs.declared.recording.Recording.{Recording}
use Rattle.outcome.specs.declared.cell.CellOutcome.{CellOutcome}

-- the slot in which cell c was sent from its last port
abbrev pub exit_slot : Recording → List HopRecord → ℕ → ℕ
exit_slot r log c = unwrap_or (sent_in (cells_of r.plan) log c (length (slice_index_or (cells_of r.plan) c no_cell).route - 1)) 0

-- its exit minus its own entry slot minus the least travel along its route
abbrev pub slack_left : Recording → List HopRecord → ℕ → ℤ
slack_left r log c =
    pos (exit_slot r log c) -ℤ pos (slice_index_or (cells_of r.plan) c no_cell).entry
    -ℤ pos (travel (delays_of r.plan) (slice_index_or (cells_of r.plan) c no_cell).route)

-- the nearest slack that 32 bits hold: a slack itself, in every run that is left unaltered
abbrev pub held_slack : ℤ → ℤ
held_slack z = cond (int_le z (pos 2147483647)) (cond (int_le (negsuc 2147483647) z) z (negsuc 2147483647)) (pos 2147483647)

abbrev pub outcome_of : Recording → List HopRecord → ℕ → CellOutcome
outcome_of r log c = record { entry = (slice_index_or (cells_of r.plan) c no_cell).entry; exit = exit_slot r log c; slack = slack_left r log c }

-- an unknown cell; a hop log shorter than the hops
abbrev pub fared_test : Recording → List HopRecord → ℕ → Option Refusal
fared_test r log c =
    or_else (when (nat_le (length (cells_of r.plan)) c) UnknownItem) (when (nat_lt (length log) (hops_in (cells_of r.plan))) NoPlace)

-- before every cell is gone; an unknown cell; a hop log shorter than the hops
abbrev pub outcome_test : Recording → List HopRecord → ℕ → Option Refusal
outcome_test r log c =
    or_else (when (not (nat_le (length (cells_of r.plan)) r.gone)) RunNotEnded)
    (or_else (when (nat_le (length (cells_of r.plan)) c) UnknownItem)
    (when (nat_lt (length log) (hops_in (cells_of r.plan))) NoPlace))
