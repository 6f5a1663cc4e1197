-- When the tests of a file pass.
use Rattle.std.proofs.Common.{◌≡◌, ℕ, suc, ◌+◌, ◌<◌, ◌≤◌, Bool, false, not, ◌&&◌, eqb, ltb, leb, List, [], ◌∷◌, length, get_or, None, Option, sym, refl, ap, ◌∙◌, arith}
use Rattle.std.proofs.lemmas.Bool.{le-leb, lt-leb, lt-ltb, eq-eqb, ne_eqb, and_from, or_from, or_right, not_from_true}
use Rattle.refusal.specs.Tests.{when, or_else}
use Rattle.refusal.specs.declared.Refusal.{Refusal}
use Rattle.refusal.specs.declared.Refusal.TheVariants.{BadRouteLength, UnknownPort, PortTwice}
use Rattle.plan.specs.Cells.{has, names_unknown, names_twice, within, route_test, Routed}
use Rattle.layout.specs.declared.kind.Kind.{Kind}
use Rattle.layout.specs.declared.kind.Kind.TheVariants as kinds
use Rattle.layout.specs.Contents.{Hop, kind_number}
use Rattle.layout.specs.Canonical.{next_of}
use Rattle.layout.specs.Order.{leads_on}

pub passes : (b : Bool) (e : Refusal) → b ≡ false → when b e ≡ None
passes b e h = ap (λ v. when v e) h

pub both_pass : (o p : Option Refusal) → o ≡ None → p ≡ None → or_else o p ≡ None
both_pass o p h k = ap (λ v. or_else v p) h ∙ k

pub within_passes : (low high x : ℕ) → low ≤ x → x ≤ high → not (within low high x) ≡ false
within_passes low high x l h =
    not_from_true (within low high x) (and_from (leb low x) (leb x high) (le-leb low x l) (le-leb x high h))

-- a field that must be zero in a load
pub zero_passes : (k : Kind) (v : ℕ) → (k ≡ kinds.Load → v ≡ 0) → (eqb (kind_number k) 1 && not (eqb v 0)) ≡ false
zero_passes kinds.Load v h = not_from_true (eqb v 0) (eq-eqb v 0 (h refl))
zero_passes kinds.Recording v h = refl
zero_passes kinds.Replay v h = refl

-- the next index of a canonical record
pub leads_passes : (hops i : ℕ) (hs : List Hop) → i + length hs ≤ hops → not (leads_on hops i (next_of i hs)) ≡ false
leads_passes hops i [] l = refl
leads_passes hops i (h ∷ hs) l =
    not_from_true (leads_on hops i (i + 1))
    (or_right (eqb (i + 1) 0) (ltb i (i + 1) && leb (i + 1) hops)
    (and_from (ltb i (i + 1)) (leb (i + 1) hops) (lt-ltb i (i + 1) (omega arith)) (le-leb (i + 1) hops (omega arith))))

has_not : (r : List ℕ) (x : ℕ) → ((i : ℕ) → i < length r → get_or r i 0 ≡ x → ⊥) → has r x ≡ false
has_not [] x h = refl
has_not (p ∷ ps) x h =
    or_from (eqb p x) (has ps x) (ne_eqb p x (h 0 (omega arith))) (has_not ps x (λ i l. h (suc i) (omega arith)))

none_unknown : (n : ℕ) (r : List ℕ) → ((i : ℕ) → i < length r → get_or r i 0 < n) → names_unknown n r ≡ false
none_unknown n [] h = refl
none_unknown n (p ∷ ps) h =
    or_from (leb n p) (names_unknown n ps) (lt-leb n p (h 0 (omega arith)))
    (none_unknown n ps (λ i l. h (suc i) (omega arith)))

none_twice : (r : List ℕ) → ((i j : ℕ) → i < j → j < length r → get_or r i 0 ≡ get_or r j 0 → ⊥) → names_twice r ≡ false
none_twice [] h = refl
none_twice (p ∷ ps) h =
    or_from (has ps p) (names_twice ps)
    (has_not ps p (λ i l e. h 0 (suc i) (omega arith) (omega arith) (sym e)))
    (none_twice ps (λ i j k l. h (suc i) (suc j) (omega arith) (omega arith)))

-- a route
pub route_passes : (n c : ℕ) (r : List ℕ) → Routed n r → route_test n c r ≡ None
route_passes n c r h =
    both_pass _ _ (passes _ (BadRouteLength c) (within_passes 1 8 (length r) h.0 h.1))
    (both_pass _ _ (passes _ (UnknownPort c) (none_unknown n r h.2))
    (passes _ (PortTwice c) (none_twice r h.3)))
