-- Where hops lie in the hop log.
use Rattle.std.proofs.Common.{◌≡◌, ℕ, zero, suc, ◌+◌, ◌<◌, List, [], ◌∷◌, length, get_or, refl, ap, arith}
use Rattle.plan.specs.Cells.{Planned, no_cell, hops_in}
use Rattle.rules.specs.Loads.{first_hop}

-- how many hops a cell has
abbrev pub long : List Planned → ℕ → ℕ
long cs c = length (get_or cs c no_cell).route

-- a hop lies within the log
pub place_within : (cs : List Planned) (c h : ℕ) → c < length cs → h < long cs c → first_hop cs c + h < hops_in cs
place_within [] c h l m = absurd (omega arith)
place_within (x ∷ cs) zero h l m = omega arith
place_within (x ∷ cs) (suc c) h l m = let i = place_within cs c h (omega arith) m in omega arith

-- two hops lie apart
pub place_apart : (cs : List Planned) (c h d g : ℕ) → c < length cs → h < long cs c → d < length cs → g < long cs d
    → first_hop cs c + h ≡ first_hop cs d + g → (c ≡ d) × (h ≡ g)
place_apart [] c h d g l m k n e = absurd (omega arith)
place_apart (x ∷ cs) zero h zero g l m k n e = (refl, omega arith)
place_apart (x ∷ cs) zero h (suc d) g l m k n e = absurd (omega arith)
place_apart (x ∷ cs) (suc c) h zero g l m k n e = absurd (omega arith)
place_apart (x ∷ cs) (suc c) h (suc d) g l m k n e =
    let i = place_apart cs c h d g (omega arith) m (omega arith) n (omega arith) in (ap suc i.0, i.1)
