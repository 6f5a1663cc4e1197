-- The limits that a content keeps, for each cell and for the counts.
use Rattle.std.proofs.Common.{◌≡◌, ℕ, zero, suc, ◌+◌, ◌*◌, ◌<◌, ◌≤◌, List, [], ◌∷◌, length, get_or, take, refl, ap, subst, arith}
use Rattle.std.proofs.lemmas.List.{get_or-map, length-map}
use Rattle.plan.specs.Cells.{Fitting, no_cell}
use Rattle.layout.specs.Contents.{Scheduled, Content, no_scheduled, plan_part, total_hops, Fit}

-- the cell with the number c
abbrev pub cell : Content → ℕ → Scheduled
cell x c = get_or x.cells c no_scheduled

-- the hops of the cells below c
abbrev pub before : ℕ → List Scheduled → ℕ
before c cs = total_hops (take c cs)

-- the hops of one more cell
pub before_more :
    (cs : List Scheduled) (c : ℕ) → c < length cs
    → before (suc c) cs ≡ before c cs + length (get_or cs c no_scheduled).hops
before_more [] c l = absurd (omega arith)
before_more (x ∷ cs) zero l = omega arith
before_more (x ∷ cs) (suc c) l = let a = before_more cs c (omega arith) in omega arith

pub before_all : (cs : List Scheduled) → before (length cs) cs ≡ total_hops cs
before_all [] = refl
before_all (x ∷ cs) = ap (λ n. length x.hops + n) (before_all cs)

pub before_le : (cs : List Scheduled) (c : ℕ) → before c cs ≤ total_hops cs
before_le cs zero = omega arith
before_le [] (suc c) = omega arith
before_le (x ∷ cs) (suc c) = let a = before_le cs c in omega arith

-- 8 hops at most for each cell
pub total_hops_le :
    (cs : List Scheduled) → ((c : ℕ) → c < length cs → length (get_or cs c no_scheduled).hops ≤ 8)
    → total_hops cs ≤ 8 * length cs
total_hops_le [] h = omega arith
total_hops_le (x ∷ cs) h =
    let a = h 0 (omega arith) in
    let b = total_hops_le cs (λ c l. h (suc c) (omega arith)) in
    omega arith

module _ (x : Content) (fit : Fit x) where
  pub fitting : (c : ℕ) → c < length x.cells → Fitting (length x.delays) (plan_part (cell x c))
  fitting c l =
      subst (Fitting (length x.delays)) (get_or-map plan_part x.cells c no_scheduled no_cell l)
      (fit.cells c (simp length-map l))

  -- a route has 1 to 8 hops
  pub hops_some : (c : ℕ) → c < length x.cells → 0 < length (cell x c).hops
  hops_some c l = simp length-map at (fitting c l).2.0

  pub hops_few : (c : ℕ) → c < length x.cells → length (cell x c).hops ≤ 8
  hops_few c l = simp length-map at (fitting c l).2.1

  -- so there are 2048 at most
  pub total_few : total_hops x.cells ≤ 2048
  total_few =
      let a = total_hops_le x.cells hops_few in
      let b = fit.few_cells in
      omega arith

  -- the cells before c and c itself have no more hops than all
  pub before_few : (c : ℕ) → c < length x.cells → before c x.cells + length (cell x c).hops ≤ total_hops x.cells
  before_few c l =
      let a = before_more x.cells c l in
      let b = before_le x.cells (suc c) in
      omega arith
