-- The content of a schedule file, and which contents there are.
use Rattle.std.specs.Prelude.{◌≡◌, ℕ, ◌+◌, ◌^◌, ◌<◌, ◌≤◌, List, [], ◌∷◌, map, length, get_or, ℤ, pos, FitsSigned, slice_index_or}
use Rattle.std.specs.Int.{w32}
use Rattle.plan.specs.Cells.{Planned, Delays, Cells}
use Rattle.layout.specs.declared.kind.Kind.{Kind}
use Rattle.layout.specs.declared.kind.Kind.TheVariants as kinds
use Rattle.layout.specs.declared.kind.Pile.{Pile}
use Rattle.layout.specs.declared.kind.Pile.TheVariants as piles

-- the first byte of a file
abbrev pub kind_number : Kind → ℕ
kind_number kinds.Load = 1
kind_number kinds.Recording = 2
kind_number kinds.Replay = 3

-- the second
abbrev pub pile_number : Pile → ℕ
pile_number piles.Fifo = 0
pile_number piles.Lifo = 1
pile_number piles.Aged = 2

-- a position of a cell's route: its port, and the slot in which the cell was sent from it
pub record Hop : Type 0 where
  pub port : ℕ
  pub sent : ℕ

-- a cell: its entry slot, its flow, its slack, and its hops along the route
pub record Scheduled : Type 0 where
  pub entry : ℕ
  pub flow : ℕ
  pub slack : ℤ
  pub hops : List Hop

pub record Content : Type 0 where
  pub kind : Kind
  pub pile : Pile
  pub delays : List ℕ
  pub cells : List Scheduled

-- what stands past the last hop and the last cell
abbrev pub no_hop : Hop
no_hop = record { port = 0; sent = 0 }

abbrev pub no_scheduled : Scheduled
no_scheduled = record { entry = 0; flow = 0; slack = pos 0; hops = [] }

-- the part of a cell that a plan has
abbrev pub plan_part : Scheduled → Planned
plan_part c = record { entry = c.entry; flow = c.flow; route = map (λ h. h.port) c.hops }

-- how many hops all cells have together
abbrev pub total_hops : List Scheduled → ℕ
total_hops [] = 0
total_hops (c ∷ cs) = length c.hops + total_hops cs

-- a slack of 32 bits and sent slots of 32 bits, all of them zero in a load
abbrev pub Marked : Kind → Scheduled → Type 0
Marked k c =
    FitsSigned w32 c.slack
    × ((j : ℕ) → j < length c.hops → (get_or c.hops j no_hop).sent < 2 ^ 32)
    × (k ≡ kinds.Load → c.slack ≡ pos 0)
    × (k ≡ kinds.Load → (j : ℕ) → j < length c.hops → (get_or c.hops j no_hop).sent ≡ 0)

-- the contents that a file can hold: 1 to 32 ports, 1 to 256 cells, each as a plan keeps it and marked
pub record Fit (x : Content) : Type 0 where
  pub has_ports : 0 < length x.delays
  pub few_ports : length x.delays ≤ 32
  pub delays : Delays x.delays
  pub has_cells : 0 < length x.cells
  pub few_cells : length x.cells ≤ 256
  pub cells : Cells (length x.delays) (map plan_part x.cells)
  pub marks : (c : ℕ) → c < length x.cells → Marked x.kind (slice_index_or x.cells c no_scheduled)
