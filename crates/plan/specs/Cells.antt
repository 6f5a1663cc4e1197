-- Cells and routes as numbers and lists, and what every plan keeps of them.
use Rattle.std.specs.Prelude.{ℕ, ◌+◌, ◌-◌, ◌<◌, ◌≤◌, Bool, false, not, ◌&&◌, ◌||◌, List, [], ◌∷◌, map, length, take, sum, Option, ◌==◌, ◌≢◌, nat_le, nat_lt, slice_index, slice_index_or}
use Rattle.std.specs.List.{list_any}
use Rattle.refusal.specs.Tests.{when, or_else}
use Rattle.refusal.specs.declared.Refusal.{Refusal}
use Rattle.refusal.specs.declared.Refusal.TheVariants.{BadDelay, BadRouteLength, UnknownPort, PortTwice, BadFlow, PlanFull}
use Rattle.plan.specs.declared.cell.Route.{Route}
use Rattle.plan.specs.declared.cell.Cell.{Cell}

-- the ports of a route, in their order
abbrev pub ports_of : Route → List ℕ
ports_of r = take r.len r.ports

-- a cell of a plan: its entry slot, its flow, and the ports on its way
pub record Planned : Type 0 where
  pub entry : ℕ
  pub flow : ℕ
  pub route : List ℕ

abbrev pub planned : Cell → Planned
planned c = record { entry = c.entry; flow = c.flow; route = ports_of c.route }

-- what stands past the last cell
abbrev pub no_cell : Planned
no_cell = record { entry = 0; flow = 0; route = [] }

-- every delay is 1 to 255
abbrev pub Delays : List ℕ → Type 0
Delays ds = (p : ℕ) → p < length ds → (0 < slice_index ds p) × (slice_index ds p ≤ 255)

-- a route of 1 to 8 of the n ports, none twice
abbrev pub Routed : ℕ → List ℕ → Type 0
Routed n r =
    (0 < length r) × (length r ≤ 8)
    × ((i : ℕ) → i < length r → slice_index r i < n)
    × ((i j : ℕ) → i < j → j < length r → slice_index r i ≢ slice_index r j)

-- an entry slot of 16 bits, a flow of 0 to 7, and a route over the n ports
abbrev pub Fitting : ℕ → Planned → Type 0
Fitting n c = (c.entry ≤ 65535) × (c.flow ≤ 7) × Routed n c.route

abbrev pub Cells : ℕ → List Planned → Type 0
Cells n cs = (k : ℕ) → k < length cs → Fitting n (slice_index_or cs k no_cell)

-- whether a list has a number
abbrev pub has : List ℕ → ℕ → Bool
has xs x = list_any (λ y. y == x) xs

-- whether a route names a port that is not among the n ports
abbrev pub names_unknown : ℕ → List ℕ → Bool
names_unknown n ps = list_any (nat_le n) ps

-- whether a route names a port twice
abbrev pub names_twice : List ℕ → Bool
names_twice [] = false
names_twice (p ∷ ps) = has ps p || names_twice ps

-- whether low ≤ x ≤ high
abbrev pub within : ℕ → ℕ → ℕ → Bool
within low high x = nat_le low x && nat_le x high

-- the tests of a delay for one more port, where ds are the delays of the ports held
abbrev pub port_test : List ℕ → ℕ → Option Refusal
port_test ds delay =
    or_else (when (not (within 1 255 delay)) (BadDelay (length ds)))
    (when (nat_le 32 (length ds)) (PlanFull (length ds)))

-- the tests of a route over n ports, for the cell with the number c
abbrev pub route_test : ℕ → ℕ → List ℕ → Option Refusal
route_test n c r =
    or_else (when (not (within 1 8 (length r))) (BadRouteLength c))
    (or_else (when (names_unknown n r) (UnknownPort c))
    (when (names_twice r) (PortTwice c)))

-- the tests of one more cell, where n ports and c cells are held
abbrev pub cell_test : ℕ → ℕ → ℕ → List ℕ → Option Refusal
cell_test n c flow r =
    or_else (route_test n c r)
    (or_else (when (nat_lt 7 flow) (BadFlow c))
    (when (nat_le 256 c) (PlanFull c)))

-- the least travel along a route: the delays of its ports without the last
abbrev pub travel : List ℕ → List ℕ → ℕ
travel ds r = sum (map (λ p. slice_index ds p) (take (length r - 1) r))

-- how many hops all cells have together
abbrev pub hops_in : List Planned → ℕ
hops_in [] = 0
hops_in (c ∷ cs) = length c.route + hops_in cs
