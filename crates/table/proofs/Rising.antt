-- Lists in which each element is before all that follow it.
use Rattle.std.proofs.Common.{◌≡◌, Bool, true, false, cond, List, [], ◌∷◌, Some, refl, subst, inl, inr}
use Rattle.std.proofs.ByRecursion.{All-weaker, all-has}
use Rattle.std.proofs.lemmas.Bool.{cases_Bool, both_ways}
use Rattle.std.specs.List.{AllByRecursion}
use Rattle.table.specs.Order.{Lawful, Sorted, Rising, put_in, first_from, taken_from}
use Rattle.table.proofs.Laws.{all_put_in, all_taken_from, has_first_from}

pub all_both : {X : Type 0} (P Q : X → Type 0) (xs : List X) → AllByRecursion P xs → AllByRecursion Q xs → AllByRecursion (λ x. P x × Q x) xs
all_both P Q [] a b = tt
all_both P Q (x ∷ xs) a b = ((a.0, b.0), all_both P Q xs a.1 b.1)

module _ {X : Type 0} (le : X → X → Bool) (o : Lawful le) where
  -- it is sorted
  pub rising_sorted : (xs : List X) → Rising le xs → Sorted le xs
  rising_sorted [] r = tt
  rising_sorted (x ∷ xs) r = (All-weaker (λ y. le y x ≡ false) (λ y. le x y ≡ true) (λ y h. o.total y x h) xs r.0, rising_sorted xs r.1)

  -- an element that is like none of the list, put in
  pub rising_put_in : (e : X) (xs : List X) → AllByRecursion (λ y. le y e ≡ true → le e y ≡ true → ⊥) xs → Rising le xs → Rising le (put_in le e xs)
  rising_put_in e [] n r = (tt, tt)
  rising_put_in e (x ∷ xs) n r = go (rising_put_in e xs n.1 r.1) (le x e) refl
    where
      later : le x e ≡ true → le e x ≡ false
      later h = elim (cases_Bool (le e x)) [ inl k ↦ absurd (n.0 h k) | inr k ↦ k ]

      past : le x e ≡ false → (y : X) → le y x ≡ false → le y e ≡ false
      past h y k = elim (cases_Bool (le y e)) [ inl l ↦ absurd (both_ways (le x e) h (o.trans x y e (o.total y x k) l)) | inr l ↦ l ]

      go : Rising le (put_in le e xs) → (b : Bool) → le x e ≡ b → Rising le (cond b (x ∷ put_in le e xs) (e ∷ x ∷ xs))
      go deeper true h = (all_put_in le e (λ y. le y x ≡ false) xs (later h) r.0, deeper)
      go deeper false h = ((h, All-weaker (λ y. le y x ≡ false) (λ y. le y e ≡ false) (past h) xs r.0), r)

  -- the first from a mark, taken out
  pub rising_taken : (m : X) (xs : List X) → Rising le xs → Rising le (taken_from le m xs)
  rising_taken m [] r = tt
  rising_taken m (x ∷ xs) r =
      let deeper = rising_taken m xs r.1 in
      elim (le m x) as (λ b. Rising le (cond b xs (x ∷ taken_from le m xs)))
      [ true ↦ r.1 | false ↦ (all_taken_from le m (λ y. le y x ≡ false) xs r.0, deeper) ]

  -- and no element that is left is like it
  pub taken_once : (m x : X) (xs : List X) → Rising le xs → first_from le m xs ≡ Some x → AllByRecursion (λ y. le y x ≡ true → le x y ≡ true → ⊥) (taken_from le m xs)
  taken_once m x [] r h = tt
  taken_once m x (y ∷ ys) r h = go (taken_once m x ys r.1) (le m y) refl h
    where
      apart : (z : X) → le z y ≡ false → le z y ≡ true → le y z ≡ true → ⊥
      apart z a b c = both_ways (le z y) a b

      front : first_from le m ys ≡ Some x → le y x ≡ true → le x y ≡ true → ⊥
      front f a b = both_ways (le x y) (all-has (λ z. le z y ≡ false) ys x r.0 (has_first_from le m ys x f)) b

      go : (first_from le m ys ≡ Some x → AllByRecursion (λ z. le z x ≡ true → le x z ≡ true → ⊥) (taken_from le m ys))
          → (b : Bool) → le m y ≡ b → cond b (Some y) (first_from le m ys) ≡ Some x
          → AllByRecursion (λ z. le z x ≡ true → le x z ≡ true → ⊥) (cond b ys (y ∷ taken_from le m ys))
      go deeper true e f =
          let same : y ≡ x = cc in
          subst (λ w. AllByRecursion (λ z. le z w ≡ true → le w z ≡ true → ⊥) ys) same (All-weaker (λ z. le z y ≡ false) (λ z. le z y ≡ true → le y z ≡ true → ⊥) apart ys r.0)
      go deeper false e f = (front f, deeper f)
