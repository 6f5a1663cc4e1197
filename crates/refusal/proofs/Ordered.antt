-- Laws of tests in an order.
use Rattle.std.proofs.Common.{◌≡◌, ℕ, zero, suc, ◌+◌, ◌<◌, Bool, true, false, ◌⊎◌, Some, None, Ok, Err, Option, sym, refl, ap, ◌∙◌, inl, inr, add-one, arith}
use Rattle.std.proofs.lemmas.Bool.{cases_eq}
use Rattle.refusal.specs.declared.Refusal.{Refusal}
use Rattle.refusal.specs.Tests.{when, or_else, each_below, tested, Refuses}
use Rattle.refusal.specs.declared.Refusal.TheVariants.{NoMemory}

pub or_else_none : (o : Option Refusal) → or_else o None ≡ o
or_else_none (Some e) = refl
or_else_none None = refl

-- after a test that passes
pub or_else_after : (o p : Option Refusal) → o ≡ None → or_else o p ≡ p
or_else_after o p h = ap (λ x. or_else x p) h

-- both parts pass where both in their order pass
pub or_else_passes : (o p : Option Refusal) → or_else o p ≡ None → (o ≡ None) × (p ≡ None)
or_else_passes None p h = (refl, h)
or_else_passes (Some e) p h = let z : ◌≡◌ {A = ℕ} 0 1 = cc in absurd (omega arith)

pub when_passes : (b : Bool) (e : Refusal) → when b e ≡ None → b ≡ false
when_passes true e h = let z : ◌≡◌ {A = ℕ} 0 1 = cc in absurd (omega arith)
when_passes false e h = refl

-- what a call that only tests has returned
pub tested_passes : (o : Option Refusal) (u : Unit {0}) → Ok u ≡ tested o → o ≡ None
tested_passes None u h = refl
tested_passes (Some e) u h = let z : ◌≡◌ {A = ℕ} 0 1 = cc in absurd (omega arith)

pub tested_refuses : (o : Option Refusal) (e : Refusal) → Err e ≡ tested o → o ≡ Some e
tested_refuses None e h = let z : ◌≡◌ {A = ℕ} 0 1 = cc in absurd (omega arith)
tested_refuses (Some x) e h = cc

module _ (f : ℕ → Option Refusal) where
  -- a loop's step
  pub each_below_more : (i : ℕ) → each_below i f ≡ None → f i ≡ None → each_below (i + 1) f ≡ None
  each_below_more i h k = rw add-one (ap (λ o. or_else o (f i)) h ∙ k)

  -- what a loop that stops at the first failing test has found
  pub each_below_stops : (i n : ℕ) (e : Refusal) → i < n → each_below i f ≡ None → f i ≡ Some e → each_below n f ≡ Some e
  each_below_stops i zero e l h k = absurd (omega arith)
  each_below_stops i (suc n) e l h k =
      elim (cases_eq i n) [
        | inl q ↦ ap (λ m. or_else (each_below m f) (f m)) (sym q) ∙ ap (λ o. or_else o (f i)) h ∙ k
        | inr q ↦ ap (λ o. or_else o (f n)) (each_below_stops i n e (omega arith) h k)
      ]

  -- a loop of calls that only test: a turn that is refused
  pub turn_refuses : (i n : ℕ) (e : Refusal) → i < n → each_below i f ≡ None → Err e ≡ tested (f i) → Err e ≡ tested (each_below n f)
  turn_refuses i n e l h k = sym (ap tested (each_below_stops i n e l h (tested_refuses (f i) e k)))

  -- all pass where all in their order pass
  pub each_below_passes : (n i : ℕ) → each_below n f ≡ None → i < n → f i ≡ None
  each_below_passes zero i h l = absurd (omega arith)
  each_below_passes (suc n) i h l =
      let both = or_else_passes (each_below n f) (f n) h in
      elim (cases_eq i n) [
        | inl q ↦ ap f q ∙ both.1
        | inr q ↦ each_below_passes n i both.0 (omega arith)
      ]

  pub each_below_all : (n : ℕ) → ((i : ℕ) → i < n → f i ≡ None) → each_below n f ≡ None
  each_below_all zero h = refl
  each_below_all (suc n) h =
      ap (λ o. or_else o (f n)) (each_below_all n (λ i l. h i (omega arith))) ∙ h n (omega arith)

-- a call that tests first and then allocates
pub refuses_none : (o : Option Refusal) (e : Refusal) → o ≡ None → Refuses o e → e ≡ NoMemory
refuses_none None e h r = r
refuses_none (Some x) e h r = let z : ◌≡◌ {A = ℕ} 0 1 = cc in absurd (omega arith)

pub refuses_by : (o : Option Refusal) (e : Refusal) → Refuses o e → (e ≡ NoMemory) ⊎ (o ≡ Some e)
refuses_by None e r = inl r
refuses_by (Some x) e r = inr (ap (λ y. Some y) (sym r))
