-- The hops of the cells at the front of a plan.
use Rattle.std.proofs.Common.{◌≡◌, ℕ, zero, suc, ◌+◌, ◌<◌, ◌≤◌, List, [], ◌∷◌, length, get_or, take, add-one, arith}
use Rattle.plan.specs.Cells.{Planned, no_cell, hops_in}

step : (cs : List Planned) (k : ℕ) → k < length cs → hops_in (take (suc k) cs) ≡ hops_in (take k cs) + length (get_or cs k no_cell).route
step [] k l = absurd (omega arith)
step (c ∷ cs) zero l = omega arith
step (c ∷ cs) (suc k) l = let more = step cs k (omega arith) in omega arith

-- one cell more
pub hops_more : (cs : List Planned) (k : ℕ) → k < length cs → hops_in (take (k + 1) cs) ≡ hops_in (take k cs) + length (get_or cs k no_cell).route
hops_more cs k l = rw add-one (step cs k l)

-- the cells at the front have no more hops than all
pub hops_part : (cs : List Planned) (k : ℕ) → hops_in (take k cs) ≤ hops_in cs
hops_part [] zero = omega arith
hops_part [] (suc k) = omega arith
hops_part (c ∷ cs) zero = omega arith
hops_part (c ∷ cs) (suc k) = let less = hops_part cs k in omega arith
