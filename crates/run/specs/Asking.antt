-- The tests of the questions.
use Rattle.std.specs.Prelude.{ℕ, ◌||◌, List, length, Option, nat_le, nat_lt, slice_index_or}
use Rattle.refusal.specs.Tests.{when, or_else}
use Rattle.refusal.specs.declared.Refusal.{Refusal}
use Rattle.refusal.specs.declared.Refusal.TheVariants.{UnknownItem, NoPlace}
use Rattle.plan.specs.Cells.{Planned, no_cell, hops_in}
use Rattle.rules.specs.declared.hop.HopRecord.{HopRecord}

-- an unknown cell, or a position that its route does not have; then a hop log shorter than the hops
abbrev pub sent_test : List Planned → List HopRecord → ℕ → ℕ → Option Refusal
sent_test cs log cell position =
    or_else (when (nat_le (length cs) cell || nat_le (length (slice_index_or cs cell no_cell).route) position) UnknownItem)
    (when (nat_lt (length log) (hops_in cs)) NoPlace)

-- an unknown port
abbrev pub port_test : List ℕ → ℕ → Option Refusal
port_test delays port = when (nat_le (length delays) port) UnknownItem
