-- What classes owe as a discipline, where both halves keep it.
use Rattle.std.specs.Prelude.{◌≡◌, ℕ, Bool, cond, None, ◌==◌}
use Rattle.std.proofs.Common.{sym, ap, ◌∙◌, subst, inl, inr}
use Rattle.std.proofs.lemmas.Bool.{cases_Bool, cases_eq, eq-eqb, ne_eqb}
use Rattle.discipline.specs.declared.stay.Stay.{Stay}
use Rattle.discipline.specs.Calls.{arrive_test, pick_test, withdraw_test}
use Rattle.discipline.specs.Meaning.{Waiting, waits_at, count_at, Same, Lawful, with_cell, without_cell}
use Rattle.discipline.proofs.Tests.{chosen_at, withdraw_tells}
use Rattle.layers.specs.Halves.{joined, Apart, half_choice, Either, BothSound}
use Rattle.layers.specs.Joining.{arrive_free, arrive_alike, only_first, only_second, not_first, not_second, with_first, with_second, without_first, without_second, pick_first, pick_second, withdraw_first, withdraw_second}
use Rattle.layers.specs.Ways.{either_yes, either_no}

-- the halves are a and b before the call, and x and y after it; v and w are the cells that wait in them
module _ {A B : Type 0} (v : A → Waiting) (w : B → Waiting) (P : A → Type 0) (Q : B → Type 0) (a x : A) (b y : B) where
  -- only the first half changed, or only the second
  first_changed : (S : Waiting → Type 0) → y ≡ b → P x → Q b → Apart (v x) (w b) × S (joined (v x) (w b)) → BothSound (P x) (Q y) (v x) (w y) × S (joined (v x) (w y))
  first_changed S e i j z =
      let R : B → Type 0 = λ q. BothSound (P x) (Q q) (v x) (w q) × S (joined (v x) (w q)) in subst R (sym e) ((i, j, z.0), z.1)

  second_changed : (S : Waiting → Type 0) → x ≡ a → P a → Q y → Apart (v a) (w y) × S (joined (v a) (w y)) → BothSound (P x) (Q y) (v x) (w y) × S (joined (v x) (w y))
  second_changed S e i j z =
      let R : A → Type 0 = λ q. BothSound (P q) (Q y) (v q) (w y) × S (joined (v q) (w y)) in subst R (sym e) ((i, j, z.0), z.1)

  -- a cell came to one half, by a test t
  pub arrived_joined : (p c f : ℕ) (s : Stay) (t : Bool) (F S : Type 0) → BothSound (P a) (Q b) (v a) (w b) → arrive_test (joined (v a) (w b)) p c f ≡ None → Either t (F × (y ≡ b)) (S × (x ≡ a)) → (arrive_test (v a) p c f ≡ None → F → P x × Same (v x) (with_cell (v a) c s)) → (arrive_test (w b) p c f ≡ None → S → Q y × Same (w y) (with_cell (w b) c s)) → BothSound (P x) (Q y) (v x) (w y) × Same (joined (v x) (w y)) (with_cell (joined (v a) (w b)) c s)
  arrived_joined p c f s t F S i h z first second =
      let free = arrive_free (v a) (w b) p c f h in
      let R : Waiting → Type 0 = λ k. Same k (with_cell (joined (v a) (w b)) c s) in
      elim (cases_Bool t) [
        | inl e ↦
            (let k = either_yes t (F × (y ≡ b)) (S × (x ≡ a)) e z in
            let r = first (arrive_alike (v a) (joined (v a) (w b)) p c f (sym (only_first (v a) (w b) c free.1)) ∙ h) k.0 in
            first_changed R k.1 r.0 i.1 (with_first (v a) (w b) (v x) c s i.2 free.1 r.1))
        | inr e ↦
            (let k = either_no t (F × (y ≡ b)) (S × (x ≡ a)) e z in
            let r = second (arrive_alike (w b) (joined (v a) (w b)) p c f (sym (only_second (v a) (w b) c free.0)) ∙ h) k.0 in
            second_changed R k.1 i.0 r.0 (with_second (v a) (w b) (w y) c s i.2 free.0 r.1))
      ]

  -- the choice m of the first half left it where a cell waits there, else the choice n of the second
  pub picked_joined : (p c m n : ℕ) (F S : Type 0) → BothSound (P a) (Q b) (v a) (w b) → pick_test (joined (v a) (w b)) p ≡ None → Either (count_at (v a) p == 0) (S × (x ≡ a)) (F × (y ≡ b)) → Lawful (v a) p m → Lawful (w b) p n → (pick_test (v a) p ≡ None → F → P x × (c ≡ m) × Same (v x) (without_cell (v a) c)) → (pick_test (w b) p ≡ None → S → Q y × (c ≡ n) × Same (w y) (without_cell (w b) c)) → BothSound (P x) (Q y) (v x) (w y) × (c ≡ half_choice (v a) p m n) × Same (joined (v x) (w y)) (without_cell (joined (v a) (w b)) c)
  picked_joined p c m n F S i h z lawful_first lawful_second first second =
      let R : Waiting → Type 0 = λ k. Same k (without_cell (joined (v a) (w b)) c) in
      elim (cases_eq (count_at (v a) p) 0) [
        | inl e ↦
            (let none = eq-eqb (count_at (v a) p) 0 e in
            let k = either_yes (count_at (v a) p == 0) (S × (x ≡ a)) (F × (y ≡ b)) none z in
            let passes = sym (pick_second (v a) (w b) p i.2 e) ∙ h in
            let r = second passes k.0 in
            let at = ap (waits_at (w b) p) r.1 ∙ chosen_at (w b) p n passes lawful_second in
            let o = second_changed R k.1 i.0 r.0 (without_second (v a) (w b) (w y) c i.2 (not_first (v a) (w b) p c i.2 at) r.2) in
            (o.0, r.1 ∙ sym (ap (λ q. cond q n m) none), o.1))
        | inr e ↦
            (let some = ne_eqb (count_at (v a) p) 0 e in
            let k = either_no (count_at (v a) p == 0) (S × (x ≡ a)) (F × (y ≡ b)) some z in
            let passes = sym (pick_first (v a) (w b) p i.2 e) ∙ h in
            let r = first passes k.0 in
            let at = ap (waits_at (v a) p) r.1 ∙ chosen_at (v a) p m passes lawful_first in
            let o = first_changed R k.1 r.0 i.1 (without_first (v a) (w b) (v x) c i.2 (not_second (v a) (w b) p c i.2 at) r.2) in
            (o.0, r.1 ∙ sym (ap (λ q. cond q n m) some), o.1))
      ]

  -- a cell left the half in which it waited
  pub withdrawn_joined : (p c : ℕ) (F S : Type 0) → BothSound (P a) (Q b) (v a) (w b) → withdraw_test (joined (v a) (w b)) p c ≡ None → Either (waits_at (v a) p c) (F × (y ≡ b)) (S × (x ≡ a)) → (withdraw_test (v a) p c ≡ None → F → P x × Same (v x) (without_cell (v a) c)) → (withdraw_test (w b) p c ≡ None → S → Q y × Same (w y) (without_cell (w b) c)) → BothSound (P x) (Q y) (v x) (w y) × Same (joined (v x) (w y)) (without_cell (joined (v a) (w b)) c)
  withdrawn_joined p c F S i h z first second =
      let R : Waiting → Type 0 = λ k. Same k (without_cell (joined (v a) (w b)) c) in
      elim (cases_Bool (waits_at (v a) p c)) [
        | inl e ↦
            (let k = either_yes (waits_at (v a) p c) (F × (y ≡ b)) (S × (x ≡ a)) e z in
            let r = first (sym (withdraw_first (v a) (w b) p c i.2 e) ∙ h) k.0 in
            first_changed R k.1 r.0 i.1 (without_first (v a) (w b) (v x) c i.2 (not_second (v a) (w b) p c i.2 e) r.1))
        | inr e ↦
            (let k = either_no (waits_at (v a) p c) (F × (y ≡ b)) (S × (x ≡ a)) e z in
            let passes = sym (withdraw_second (v a) (w b) p c i.2 e) ∙ h in
            let r = second passes k.0 in
            second_changed R k.1 i.0 r.0 (without_second (v a) (w b) (w y) c i.2 (not_first (v a) (w b) p c i.2 (withdraw_tells (w b) p c passes).2) r.1))
      ]
