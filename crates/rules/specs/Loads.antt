-- A plan as a network, and its hop log as a schedule.
use Rattle.std.specs.Prelude.{ℕ, ◌+◌, List, length, take, None, Option, slice_index, slice_index_or}
use Rattle.std.specs.Option.{unwrap_or}
use Rattle.network.specs.Networks.{Network}
use Rattle.network.specs.Schedules.{Schedule}
use Rattle.plan.specs.Cells.{Planned, no_cell, hops_in}
use Rattle.rules.specs.declared.hop.HopRecord.{HopRecord}

-- the ports with these delays, and these cells
abbrev pub network : List ℕ → List Planned → Network
network ds cs = record {
  cells = length cs;
  entry = λ c. (slice_index_or cs c no_cell).entry;
  len = λ c. length (slice_index_or cs c no_cell).route;
  port = λ c h. slice_index (slice_index_or cs c no_cell).route h;
  delay = λ p. slice_index ds p;
}

abbrev pub flow_of : List Planned → ℕ → ℕ
flow_of cs c = (slice_index_or cs c no_cell).flow

-- the place of the first hop of cell c in the hop log: the hops of the cells before it
abbrev pub first_hop : List Planned → ℕ → ℕ
first_hop cs c = hops_in (take c cs)

-- what stands past the end of the log
abbrev pub no_hop : HopRecord
no_hop = record { sent = None }

-- the slot in which each cell was sent from each of its hops, or none yet
abbrev pub Sent : Type 0
Sent = ℕ → ℕ → Option ℕ

abbrev pub sent_in : List Planned → List HopRecord → Sent
sent_in cs log c h = (slice_index_or log (first_hop cs c + h) no_hop).sent

-- the same as a schedule with horizon t
abbrev pub slots : Sent → ℕ → Schedule
slots s t c h = unwrap_or (s c h) t
