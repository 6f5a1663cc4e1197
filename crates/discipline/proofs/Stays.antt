-- A cell that waits at a port, and its stay.
use Rattle.std.proofs.Common.{◌≡◌, ℕ, ◌<◌, ◌≤◌, true, Some, None, Option, refl, ap, ◌∙◌, arith}
use Rattle.std.proofs.lemmas.Bool.{eq-eqb, eqb-true, false≢true}
use Rattle.discipline.specs.Meaning.{Waiting, At, Limits, stays_at}
use Rattle.discipline.specs.declared.stay.Stay.{Stay}

pub at_stay : (w : Waiting) (p c : ℕ) → At w p c → (s : Stay) × (w c ≡ Some s) × (s.port ≡ p)
at_stay w p c h = go (w c) refl h
  where
    go : (o : Option Stay) → w c ≡ o → stays_at p o ≡ true → (s : Stay) × (w c ≡ Some s) × (s.port ≡ p)
    go None e k = absurd (false≢true k)
    go (Some s) e k = (s, e, eqb-true s.port p k)

pub stay_at : (w : Waiting) (p c : ℕ) (s : Stay) → w c ≡ Some s → s.port ≡ p → At w p c
stay_at w p c s e q = ap (stays_at p) e ∙ eq-eqb s.port p q

-- a cell that waits is one of the 256, at one of the 32 ports
pub at_limits : (w : Waiting) → Limits w → (p c : ℕ) → At w p c → (c ≤ 255) × (p ≤ 31)
at_limits w limits p c a =
    let s = at_stay w p c a in
    let b = limits c s.0 s.1 in
    let e = s.2 in
    (b.0, omega (arith, b.1))

pub at_limit : (w : Waiting) → Limits w → (p c : ℕ) → At w p c → c < 256
at_limit w limits p c a = omega (arith, (at_limits w limits p c a).0)
