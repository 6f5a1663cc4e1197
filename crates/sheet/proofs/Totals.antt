-- How many hops cells have together.
use Rattle.std.proofs.Common.{◌≡◌, ℕ, suc, ◌<◌, List, [], ◌∷◌, length, get_or, refl, arith}
use Rattle.plan.specs.Cells.{Planned, no_cell, hops_in}
use Rattle.layout.specs.Contents.{Scheduled, no_scheduled, total_hops}

-- as many hops where every cell has as many
pub same_total : (cs : List Planned) (ys : List Scheduled) → length ys ≡ length cs
    → ((k : ℕ) → k < length cs → length (get_or ys k no_scheduled).hops ≡ length (get_or cs k no_cell).route) → total_hops ys ≡ hops_in cs
same_total [] [] e h = refl
same_total [] (y ∷ ys) e h = absurd (omega arith)
same_total (c ∷ cs) [] e h = absurd (omega arith)
same_total (c ∷ cs) (y ∷ ys) e h =
    let first = h 0 (omega arith) in
    let rest = same_total cs ys (omega arith) (λ k l. h (suc k) (omega arith)) in
    omega arith
