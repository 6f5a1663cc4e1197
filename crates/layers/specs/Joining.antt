-- The cells of two halves together.
use Rattle.std.proofs.Common.{◌≡◌, ℕ, ◌+◌, ◌≤◌, false, cond, not, ◌||◌, eqb, ltb, is_some, Some, None, Option, sym, refl, ap, ◌∙◌, inl, inr, arith}
use Rattle.std.proofs.lemmas.Bool.{cases_eq, eq-eqb, ne_eqb, false≢true}
use Rattle.refusal.specs.Tests.{when, or_else}
use Rattle.refusal.specs.declared.Refusal.TheVariants.{OutOfRange, AlreadyWaits, NoneWaits, NotWaiting}
use Rattle.refusal.proofs.Options.{none_some}
use Rattle.discipline.specs.declared.stay.Stay.{Stay}
use Rattle.discipline.specs.Calls.{arrive_test, pick_test, withdraw_test}
use Rattle.discipline.specs.Meaning.{Waiting, stays_at, waits_at, At, count_at, Limits, Same, Lawful, with_cell, without_cell}
use Rattle.discipline.proofs.Counting.{passing_either, passing_some, passing_find, with_at, with_off, without_at, without_off}
use Rattle.discipline.proofs.Stays.{at_limit}
use Rattle.discipline.proofs.Tests.{arrive_tells}
use Rattle.layers.specs.Halves.{stay_of, joined, Apart, half_choice}

stay_none : (o : Option Stay) → stay_of o None ≡ o
stay_none (Some s) = refl
stay_none None = refl

-- a cell that does not wait in one half waits as in the other
pub only_second : (v w : Waiting) (c : ℕ) → v c ≡ None → joined v w c ≡ w c
only_second v w c e = ap (λ o. stay_of o (w c)) e

pub only_first : (v w : Waiting) (c : ℕ) → w c ≡ None → joined v w c ≡ v c
only_first v w c e = ap (λ o. stay_of (v c) o) e ∙ stay_none (v c)

-- a cell that waits does not stand empty
pub at_none : (w : Waiting) (p c : ℕ) → At w p c → w c ≡ None → ⊥
at_none w p c h e = false≢true (sym (ap (stays_at p) e) ∙ h)

pub not_second : (v w : Waiting) (p c : ℕ) → Apart v w → At v p c → w c ≡ None
not_second v w p c a h = elim (a c) [ inl e ↦ absurd (at_none v p c h e) | inr e ↦ e ]

pub not_first : (v w : Waiting) (p c : ℕ) → Apart v w → At w p c → v c ≡ None
not_first v w p c a h = elim (a c) [ inl e ↦ e | inr e ↦ absurd (at_none w p c h e) ]

pub at_first : (v w : Waiting) (p c : ℕ) → Apart v w → At v p c → At (joined v w) p c
at_first v w p c a h = ap (stays_at p) (only_first v w c (not_second v w p c a h)) ∙ h

pub at_second : (v w : Waiting) (p c : ℕ) → Apart v w → At w p c → At (joined v w) p c
at_second v w p c a h = ap (stays_at p) (only_second v w c (not_first v w p c a h)) ∙ h

-- a cell that does not wait at a port in the first half waits there as in the second
pub elsewhere : (v w : Waiting) (p c : ℕ) → Apart v w → waits_at v p c ≡ false → waits_at (joined v w) p c ≡ waits_at w p c
elsewhere v w p c a h =
    elim (a c) [
      | inl e ↦ ap (stays_at p) (only_second v w c e)
      | inr e ↦ ap (stays_at p) (only_first v w c e) ∙ h ∙ sym (ap (stays_at p) e)
    ]

-- the cells of a port are those of both halves
pub count_joined : (v w : Waiting) (p : ℕ) → Apart v w → count_at (joined v w) p ≡ count_at v p + count_at w p
count_joined v w p a =
    passing_either 256 (waits_at v p) (waits_at w p) (waits_at (joined v w) p)
    (λ k. elim (a k) [
      | inl e ↦ inl (ap (stays_at p) e, ap (stays_at p) (only_second v w k e))
      | inr e ↦ inr (ap (stays_at p) e, ap (stays_at p) (only_first v w k e))
    ])

pub limits_joined : (v w : Waiting) → Limits v → Limits w → Limits (joined v w)
limits_joined v w l m c s h = go (v c) refl h
  where
    go : (o : Option Stay) → v c ≡ o → stay_of o (w c) ≡ Some s → (c ≤ 255) × (s.port ≤ 31)
    go None e h = m c s h
    go (Some x) e h = l c s (e ∙ h)

-- the choice of the first half where a cell waits in it, else that of the second
pub lawful_joined : (v w : Waiting) (p x y : ℕ) → Limits v → Limits w → Apart v w → Lawful v p x → Lawful w p y → Lawful (joined v w) p (half_choice v p x y)
lawful_joined v w p x y l m a f s c h =
    elim (cases_eq (count_at v p) 0) [
      | inl z ↦
          (let some = passing_some 256 (waits_at (joined v w) p) c (at_limit (joined v w) (limits_joined v w l m) p c h) h in
          let sum = count_joined v w p a in
          let k = passing_find 256 (waits_at w p) (omega arith) in
          ap (waits_at (joined v w) p) (ap (λ b. cond b y x) (eq-eqb (count_at v p) 0 z)) ∙ at_second v w p y a (s k.0 k.2))
      | inr z ↦
          (let k = passing_find 256 (waits_at v p) (omega arith) in
          ap (waits_at (joined v w) p) (ap (λ b. cond b y x) (ne_eqb (count_at v p) 0 z)) ∙ at_first v w p x a (f k.0 k.2))
    ]

-- a cell comes to the first half, or to the second
pub with_first : (v w x : Waiting) (c : ℕ) (s : Stay) → Apart v w → w c ≡ None → Same x (with_cell v c s) → Apart x w × Same (joined x w) (with_cell (joined v w) c s)
with_first v w x c s a e h = (
  λ k. elim (cases_eq k c) [
    | inl q ↦ inr (ap w q ∙ e)
    | inr n ↦ elim (a k) [ inl y ↦ inl (h k ∙ with_off v c s k n ∙ y) | inr y ↦ inr y ]
  ],
  λ k. elim (cases_eq k c) [
    | inl q ↦ ap (λ o. stay_of o (w k)) (h k ∙ with_at v c s k q) ∙ sym (with_at (joined v w) c s k q)
    | inr n ↦ ap (λ o. stay_of o (w k)) (h k ∙ with_off v c s k n) ∙ sym (with_off (joined v w) c s k n)
  ],
)

pub with_second : (v w x : Waiting) (c : ℕ) (s : Stay) → Apart v w → v c ≡ None → Same x (with_cell w c s) → Apart v x × Same (joined v x) (with_cell (joined v w) c s)
with_second v w x c s a e h = (
  λ k. elim (cases_eq k c) [
    | inl q ↦ inl (ap v q ∙ e)
    | inr n ↦ elim (a k) [ inl y ↦ inl y | inr y ↦ inr (h k ∙ with_off w c s k n ∙ y) ]
  ],
  λ k. elim (cases_eq k c) [
    | inl q ↦ only_second v x k (ap v q ∙ e) ∙ h k ∙ with_at w c s k q ∙ sym (with_at (joined v w) c s k q)
    | inr n ↦ ap (λ o. stay_of (v k) o) (h k ∙ with_off w c s k n) ∙ sym (with_off (joined v w) c s k n)
  ],
)

-- a cell leaves the first half, or the second
pub without_first : (v w x : Waiting) (c : ℕ) → Apart v w → w c ≡ None → Same x (without_cell v c) → Apart x w × Same (joined x w) (without_cell (joined v w) c)
without_first v w x c a e h = (
  λ k. elim (cases_eq k c) [
    | inl q ↦ inr (ap w q ∙ e)
    | inr n ↦ elim (a k) [ inl y ↦ inl (h k ∙ without_off v c k n ∙ y) | inr y ↦ inr y ]
  ],
  λ k. elim (cases_eq k c) [
    | inl q ↦ only_first x w k (ap w q ∙ e) ∙ h k ∙ without_at v c k q ∙ sym (without_at (joined v w) c k q)
    | inr n ↦ ap (λ o. stay_of o (w k)) (h k ∙ without_off v c k n) ∙ sym (without_off (joined v w) c k n)
  ],
)

pub without_second : (v w x : Waiting) (c : ℕ) → Apart v w → v c ≡ None → Same x (without_cell w c) → Apart v x × Same (joined v x) (without_cell (joined v w) c)
without_second v w x c a e h = (
  λ k. elim (cases_eq k c) [
    | inl q ↦ inl (ap v q ∙ e)
    | inr n ↦ elim (a k) [ inl y ↦ inl y | inr y ↦ inr (h k ∙ without_off w c k n ∙ y) ]
  ],
  λ k. elim (cases_eq k c) [
    | inl q ↦ only_second v x k (ap v q ∙ e) ∙ h k ∙ without_at w c k q ∙ sym (without_at (joined v w) c k q)
    | inr n ↦ ap (λ o. stay_of (v k) o) (h k ∙ without_off w c k n) ∙ sym (without_off (joined v w) c k n)
  ],
)

-- the tests of the whole and of the half that is asked
none_either : (o q : Option Stay) → stay_of o q ≡ None → (o ≡ None) × (q ≡ None)
none_either None q h = (refl, h)
none_either (Some s) q h = absurd (none_some s h refl)

pub arrive_free : (v w : Waiting) (p c f : ℕ) → arrive_test (joined v w) p c f ≡ None → (v c ≡ None) × (w c ≡ None)
arrive_free v w p c f h = none_either (v c) (w c) (arrive_tells (joined v w) p c f h).3

pub arrive_alike : (v w : Waiting) (p c f : ℕ) → v c ≡ w c → arrive_test v p c f ≡ arrive_test w p c f
arrive_alike v w p c f e = ap (λ o. or_else (when (ltb 31 p || (ltb 255 c || ltb 7 f)) OutOfRange) (when (is_some o) AlreadyWaits)) e

pub pick_alike : (v w : Waiting) (p : ℕ) → count_at v p ≡ count_at w p → pick_test v p ≡ pick_test w p
pick_alike v w p e = ap (λ n. or_else (when (ltb 31 p) OutOfRange) (when (eqb n 0) NoneWaits)) e

-- cells wait in both
pub pick_some : (v w : Waiting) (p : ℕ) → (count_at v p ≡ 0 → ⊥) → (count_at w p ≡ 0 → ⊥) → pick_test v p ≡ pick_test w p
pick_some v w p m n =
    ap (λ b. or_else (when (ltb 31 p) OutOfRange) (when b NoneWaits)) (ne_eqb (count_at v p) 0 m ∙ sym (ne_eqb (count_at w p) 0 n))

pub withdraw_alike : (v w : Waiting) (p c : ℕ) → waits_at v p c ≡ waits_at w p c → withdraw_test v p c ≡ withdraw_test w p c
withdraw_alike v w p c e = ap (λ b. or_else (when (ltb 31 p || ltb 255 c) OutOfRange) (when (not b) NotWaiting)) e

pub pick_second : (v w : Waiting) (p : ℕ) → Apart v w → count_at v p ≡ 0 → pick_test (joined v w) p ≡ pick_test w p
pick_second v w p a z = pick_alike (joined v w) w p (let sum = count_joined v w p a in omega arith)

pub pick_first : (v w : Waiting) (p : ℕ) → Apart v w → (count_at v p ≡ 0 → ⊥) → pick_test (joined v w) p ≡ pick_test v p
pick_first v w p a n = pick_some (joined v w) v p (λ z. n (let sum = count_joined v w p a in omega arith)) n

pub withdraw_first : (v w : Waiting) (p c : ℕ) → Apart v w → At v p c → withdraw_test (joined v w) p c ≡ withdraw_test v p c
withdraw_first v w p c a h = withdraw_alike (joined v w) v p c (at_first v w p c a h ∙ sym h)

pub withdraw_second : (v w : Waiting) (p c : ℕ) → Apart v w → waits_at v p c ≡ false → withdraw_test (joined v w) p c ≡ withdraw_test w p c
withdraw_second v w p c a h = withdraw_alike (joined v w) w p c (elsewhere v w p c a h)
