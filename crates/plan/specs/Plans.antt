-- What a plan holds, and what its calls leave.
use Rattle.std.specs.Prelude.{◌≡◌, ℕ, ◌<◌, ◌≤◌, List, [], ◌∷◌, ◌++◌, map, length, Some, None, Ok, Err, vec_items, Option, Result}
use Rattle.refusal.specs.Tests.{Refuses}
use Rattle.refusal.specs.declared.Refusal.{Refusal}
use Rattle.plan.specs.Cells.{Planned, planned, port_test, cell_test}
use Rattle.plan.specs.declared.plan.Plan.{Plan}

-- the delay of each port
abbrev pub delays_of : Plan → List ℕ
delays_of p = vec_items p.delays

-- each cell
abbrev pub cells_of : Plan → List Planned
cells_of p = map planned (vec_items p.cells)

-- the plan holds just these ports and cells
pub record Holds (p : Plan) (ds : List ℕ) (cs : List Planned) : Type 0 where
  pub delays : delays_of p ≡ ds
  pub cells : cells_of p ≡ cs

-- a port is added at the end and gets the next number, or the first test that fails refuses it and the plan holds what it held
abbrev pub PortAdded : Plan → ℕ → Result ℕ Refusal → Plan → Type 0
PortAdded p delay (Ok n) q =
    (port_test (delays_of p) delay ≡ None) × (n ≡ length (delays_of p)) × Holds q (delays_of p ++ delay ∷ []) (cells_of p)
PortAdded p delay (Err e) q = Refuses (port_test (delays_of p) delay) e × Holds q (delays_of p) (cells_of p)

-- the same of a cell
abbrev pub CellAdded : Plan → ℕ → ℕ → List ℕ → Result ℕ Refusal → Plan → Type 0
CellAdded p entry flow route (Ok n) q =
    (cell_test (length (delays_of p)) (length (cells_of p)) flow route ≡ None)
    × (n ≡ length (cells_of p))
    × Holds q (delays_of p) (cells_of p ++ record { entry = entry; flow = flow; route = route } ∷ [])
CellAdded p entry flow route (Err e) q =
    Refuses (cell_test (length (delays_of p)) (length (cells_of p)) flow route) e × Holds q (delays_of p) (cells_of p)

-- a question about the item with the number i, of n items: P holds of the answer, and there is none past the last item
abbrev pub Asked : {X : Type 0} → ℕ → ℕ → Option X → (X → Type 0) → Type 0
Asked n i (Some x) P = (i < n) × P x
Asked n i None P = n ≤ i
