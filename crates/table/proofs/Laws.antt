-- Laws of what a table holds and of put_in, first_from and taken_from.
use Rattle.std.proofs.Common.{◌≡◌, ℕ, zero, suc, ◌+◌, ◌<◌, ◌≤◌, Bool, true, false, cond, not, ◌⊎◌, List, [], ◌∷◌, ◌++◌, length, take, Some, None, filter, Option, sym, refl, ap, ◌∙◌, subst, inl, inr, arith, length-take}
use Rattle.std.specs.List.{ContainsAt, HoldsAt, AllByRecursion}
use Rattle.std.specs.List.Sorted.{IsPermutation}
use Rattle.std.proofs.ByRecursion.{All-weaker, all-has, has_shuffled, all_shuffled}
use Rattle.std.proofs.lemmas.List.{take_all}
use Rattle.std.proofs.lemmas.List.Sorted.{IsPermutation-refl, IsPermutation-sym, IsPermutation-trans, IsPermutation-swap, IsPermutation-cons, length_permutation}
use Rattle.std.proofs.lemmas.Bool.{both_ways, cases_Bool, cases_lt, cond-true, cond-false}
use Rattle.table.specs.Elements.{elements}
use Rattle.table.specs.Order.{Lawful, Sorted, put_in, behind_equals, first_from, taken_from, LeastFrom}
use Rattle.table.specs.declared.table.Table.{Table}

-- as many at the front as the first n are, are the first n
pub take_short : {X : Type 0} (n len : ℕ) (xs : List X) → len ≡ length (take n xs) → take len xs ≡ take n xs
take_short n len xs all =
    let k = length-take n xs in
    elim (cases_lt n (length xs)) [
      | inl h ↦ ap (λ m. take m xs) (omega arith)
      | inr h ↦ take_all len xs (omega arith) ∙ sym (take_all n xs h)
    ]

module _ {X : Type 0} (t : Table X) where
  -- no table has more elements than places
  pub elements_few : length (elements t) ≤ length t.places.now
  elements_few = omega (arith, length-take t.len t.places.now)

  -- a table that goes on with as many places holds the same elements
  pub elements_resumed : take (length (elements t)) t.places.now ≡ elements t
  elements_resumed = take_short t.len (length (elements t)) t.places.now refl

-- an element of a list with one more at its front
module _ {X : Type 0} (x : X) (xs : List X) (y : X) where
  has_later : ContainsAt xs y → ContainsAt (x ∷ xs) y
  has_later h = (suc h.0, omega (arith, h.1), h.2)

  has_cases : ContainsAt (x ∷ xs) y → (y ≡ x) ⊎ ContainsAt xs y
  has_cases h = at h.0 h.1 h.2
    where
      at : (k : ℕ) → k < suc (length xs) → HoldsAt (λ z. z ≡ y) (x ∷ xs) k → (y ≡ x) ⊎ ContainsAt xs y
      at zero l is = inl (sym (is x))
      at (suc k) l is = inr (k, omega arith, is)

has_first : {X : Type 0} (x : X) (xs : List X) → ContainsAt (x ∷ xs) x
has_first x xs = (0, omega arith, λ d. refl)

swapped : {X : Type 0} (x y : X) (xs : List X) → IsPermutation (x ∷ y ∷ xs) (y ∷ x ∷ xs)
swapped x y xs = IsPermutation-swap (x ∷ y ∷ xs) (y ∷ x ∷ xs) 0 1 (omega arith) (omega arith) refl

module _ {X : Type 0} (le : X → X → Bool) (e : X) where
  -- nothing is lost or made up
  pub shuffled_put_in : (xs : List X) → IsPermutation (e ∷ xs) (put_in le e xs)
  shuffled_put_in [] = IsPermutation-refl (e ∷ [])
  shuffled_put_in (x ∷ xs) =
      elim (le x e) as (λ b. IsPermutation (e ∷ x ∷ xs) (cond b (x ∷ put_in le e xs) (e ∷ x ∷ xs))) [
        | true ↦ IsPermutation-trans (e ∷ x ∷ xs) (x ∷ e ∷ xs) (x ∷ put_in le e xs) (swapped e x xs) (IsPermutation-cons x (e ∷ xs) (put_in le e xs) (shuffled_put_in xs))
        | false ↦ IsPermutation-refl (e ∷ x ∷ xs)
      ]

  pub length_put_in : (xs : List X) → length (put_in le e xs) ≡ length xs + 1
  length_put_in xs = omega (arith, length_permutation (e ∷ xs) (put_in le e xs) (shuffled_put_in xs))

  pub has_put_in : (xs : List X) → ContainsAt (put_in le e xs) e
  has_put_in xs = has_shuffled (e ∷ xs) (put_in le e xs) e (shuffled_put_in xs) (has_first e xs)

  pub has_put_in_old : (xs : List X) (x : X) → ContainsAt xs x → ContainsAt (put_in le e xs) x
  has_put_in_old xs x h = has_shuffled (e ∷ xs) (put_in le e xs) x (shuffled_put_in xs) (has_later e xs x h)

  pub has_put_in_cases : (xs : List X) (x : X) → ContainsAt (put_in le e xs) x → (x ≡ e) ⊎ ContainsAt xs x
  has_put_in_cases xs x h = has_cases e xs x (has_shuffled (put_in le e xs) (e ∷ xs) x (IsPermutation-sym (e ∷ xs) (put_in le e xs) (shuffled_put_in xs)) h)

  pub all_put_in : (P : X → Type 0) (xs : List X) → P e → AllByRecursion P xs → AllByRecursion P (put_in le e xs)
  all_put_in P xs here all = all_shuffled P (e ∷ xs) (put_in le e xs) (shuffled_put_in xs) (here, all)

  -- an element that is put in before a mark is not told from that mark on
  pub first_from_put_in_before : (m : X) (xs : List X) → le m e ≡ false → first_from le m (put_in le e xs) ≡ first_from le m xs
  first_from_put_in_before m [] h = cond-false (le m e) (Some e) None h
  first_from_put_in_before m (x ∷ xs) h =
      elim (le x e) as (λ b. first_from le m (cond b (x ∷ put_in le e xs) (e ∷ x ∷ xs)) ≡ first_from le m (x ∷ xs)) [
        | true ↦ ap (λ o. cond (le m x) (Some x) o) (first_from_put_in_before m xs h)
        | false ↦ cond-false (le m e) (Some e) (first_from le m (x ∷ xs)) h
      ]

-- with e as the mark
module _ {X : Type 0} (le : X → X → Bool) (e : X) where
  -- where none is told, all are before the mark, and none is taken
  pub first_from_none : (xs : List X) → first_from le e xs ≡ None → AllByRecursion (λ y. le e y ≡ false) xs
  first_from_none [] h = tt
  first_from_none (x ∷ xs) h =
      (elim (le e x) as (λ b. le e x ≡ b → cond b (Some x) (first_from le e xs) ≡ None → AllByRecursion (λ y. le e y ≡ false) (x ∷ xs)) [
        | true ↦ λ is h. let z : ◌≡◌ {A = ℕ} 0 1 = cc in absurd (omega arith)
        | false ↦ λ is h. (is, first_from_none xs h)
      ]) refl h

  pub taken_from_none : (xs : List X) → first_from le e xs ≡ None → taken_from le e xs ≡ xs
  taken_from_none [] h = refl
  taken_from_none (x ∷ xs) h =
      (elim (le e x) as (λ b. cond b (Some x) (first_from le e xs) ≡ None → cond b xs (x ∷ taken_from le e xs) ≡ x ∷ xs) [
        | true ↦ λ h. let z : ◌≡◌ {A = ℕ} 0 1 = cc in absurd (omega arith)
        | false ↦ λ h. ap (λ l. x ∷ l) (taken_from_none xs h)
      ]) h

  -- what is told and what is left are the list
  pub shuffled_taken_from : (xs : List X) (y : X) → first_from le e xs ≡ Some y → IsPermutation (y ∷ taken_from le e xs) xs
  shuffled_taken_from [] y h = let z : ◌≡◌ {A = ℕ} 0 1 = cc in absurd (omega arith)
  shuffled_taken_from (x ∷ xs) y h =
      (elim (le e x) as (λ b. cond b (Some x) (first_from le e xs) ≡ Some y → IsPermutation (y ∷ cond b xs (x ∷ taken_from le e xs)) (x ∷ xs)) [
        | true ↦ λ h. let same : x ≡ y = cc in subst (λ z. IsPermutation (z ∷ xs) (x ∷ xs)) same (IsPermutation-refl (x ∷ xs))
        | false ↦ λ h. IsPermutation-trans (y ∷ x ∷ taken_from le e xs) (x ∷ y ∷ taken_from le e xs) (x ∷ xs) (swapped y x (taken_from le e xs)) (IsPermutation-cons x (y ∷ taken_from le e xs) xs (shuffled_taken_from xs y h))
      ]) h

  pub length_taken_from : (xs : List X) (y : X) → first_from le e xs ≡ Some y → length (taken_from le e xs) + 1 ≡ length xs
  length_taken_from xs y h = omega (arith, length_permutation (y ∷ taken_from le e xs) xs (shuffled_taken_from xs y h))

  pub has_first_from : (xs : List X) (y : X) → first_from le e xs ≡ Some y → ContainsAt xs y
  has_first_from xs y h = has_shuffled (y ∷ taken_from le e xs) xs y (shuffled_taken_from xs y h) (has_first y (taken_from le e xs))

  pub first_from_passes : (xs : List X) (y : X) → first_from le e xs ≡ Some y → le e y ≡ true
  first_from_passes [] y h = let z : ◌≡◌ {A = ℕ} 0 1 = cc in absurd (omega arith)
  first_from_passes (x ∷ xs) y h =
      (elim (le e x) as (λ b. le e x ≡ b → cond b (Some x) (first_from le e xs) ≡ Some y → le e y ≡ true) [
        | true ↦ λ is h. let same : x ≡ y = cc in subst (λ z. le e z ≡ true) same is
        | false ↦ λ is h. first_from_passes xs y h
      ]) refl h

  pub has_taken_from : (xs : List X) (x : X) → ContainsAt (taken_from le e xs) x → ContainsAt xs x
  has_taken_from xs x k =
      (elim (first_from le e xs) as (λ o. first_from le e xs ≡ o → ContainsAt xs x) [
        | None ↦ λ h. subst (λ l. ContainsAt l x) (taken_from_none xs h) k
        | Some y ↦ λ h. has_shuffled (y ∷ taken_from le e xs) xs x (shuffled_taken_from xs y h) (has_later y (taken_from le e xs) x k)
      ]) refl

  pub has_taken_from_cases : (xs : List X) (y x : X) → first_from le e xs ≡ Some y → ContainsAt xs x → (x ≡ y) ⊎ ContainsAt (taken_from le e xs) x
  has_taken_from_cases xs y x h k =
      has_cases y (taken_from le e xs) x (has_shuffled xs (y ∷ taken_from le e xs) x (IsPermutation-sym (y ∷ taken_from le e xs) xs (shuffled_taken_from xs y h)) k)

  pub all_taken_from : (P : X → Type 0) (xs : List X) → AllByRecursion P xs → AllByRecursion P (taken_from le e xs)
  all_taken_from P [] all = tt
  all_taken_from P (x ∷ xs) all =
      elim (le e x) as (λ b. AllByRecursion P (cond b xs (x ∷ taken_from le e xs))) [ true ↦ all.1 | false ↦ (all.0, all_taken_from P xs all.1) ]

-- e is put in where all are before the mark m: then e is told and taken
module _ {X : Type 0} (le : X → X → Bool) (e m : X) (here : le m e ≡ true) where
  pub first_from_put_in_none : (xs : List X) → AllByRecursion (λ y. le m y ≡ false) xs → first_from le m (put_in le e xs) ≡ Some e
  first_from_put_in_none [] all = cond-true (le m e) (Some e) None here
  first_from_put_in_none (x ∷ xs) all =
      elim (le x e) as (λ b. first_from le m (cond b (x ∷ put_in le e xs) (e ∷ x ∷ xs)) ≡ Some e) [
        | true ↦ cond-false (le m x) (Some x) (first_from le m (put_in le e xs)) all.0 ∙ first_from_put_in_none xs all.1
        | false ↦ cond-true (le m e) (Some e) (first_from le m (x ∷ xs)) here
      ]

  pub taken_from_put_in_none : (xs : List X) → AllByRecursion (λ y. le m y ≡ false) xs → taken_from le m (put_in le e xs) ≡ xs
  taken_from_put_in_none [] all = cond-true (le m e) [] (e ∷ []) here
  taken_from_put_in_none (x ∷ xs) all =
      elim (le x e) as (λ b. taken_from le m (cond b (x ∷ put_in le e xs) (e ∷ x ∷ xs)) ≡ x ∷ xs) [
        | true ↦ cond-false (le m x) (put_in le e xs) (x ∷ taken_from le m (put_in le e xs)) all.0 ∙ ap (λ l. x ∷ l) (taken_from_put_in_none xs all.1)
        | false ↦ cond-true (le m e) (x ∷ xs) (e ∷ taken_from le m (x ∷ xs)) here
      ]

-- filters that keep nothing and all
none_kept : {X : Type 0} (p : X → Bool) (xs : List X) → AllByRecursion (λ y. p y ≡ false) xs → filter p xs ≡ []
none_kept p [] all = refl
none_kept p (x ∷ xs) all = cond-false (p x) (x ∷ filter p xs) (filter p xs) all.0 ∙ none_kept p xs all.1

all_kept : {X : Type 0} (p : X → Bool) (xs : List X) → AllByRecursion (λ y. p y ≡ true) xs → filter p xs ≡ xs
all_kept p [] all = refl
all_kept p (x ∷ xs) all = cond-true (p x) (x ∷ filter p xs) (filter p xs) all.0 ∙ ap (λ l. x ∷ l) (all_kept p xs all.1)

-- in a total order
module _ {X : Type 0} (le : X → X → Bool) (o : Lawful le) where
  pub reflexive : (x : X) → le x x ≡ true
  reflexive x = elim (cases_Bool (le x x)) [ inl h ↦ h | inr h ↦ o.total x x h ]

  -- what is not before an element after e is after e
  after : (e x y : X) → le x e ≡ false → le x y ≡ true → le y e ≡ false
  after e x y h k = elim (cases_Bool (le y e)) [ inl l ↦ absurd (both_ways (le x e) h (o.trans x y e k l)) | inr l ↦ l ]

  module _ (e : X) where
    pub sorted_put_in : (xs : List X) → Sorted le xs → Sorted le (put_in le e xs)
    sorted_put_in [] s = (tt, tt)
    sorted_put_in (x ∷ xs) s =
        (elim (le x e) as (λ b. le x e ≡ b → Sorted le (cond b (x ∷ put_in le e xs) (e ∷ x ∷ xs))) [
          | true ↦ λ h. (all_put_in le e (λ y. le x y ≡ true) xs h s.0, sorted_put_in xs s.1)
          | false ↦ λ h. ((o.total x e h, All-weaker (λ y. le x y ≡ true) (λ y. le e y ≡ true) (λ y k. o.trans e x y (o.total x e h) k) xs s.0), s)
        ]) refl

    pub sorted_taken_from : (xs : List X) → Sorted le xs → Sorted le (taken_from le e xs)
    sorted_taken_from [] s = tt
    sorted_taken_from (x ∷ xs) s =
        elim (le e x) as (λ b. Sorted le (cond b xs (x ∷ taken_from le e xs)))
        [ true ↦ s.1 | false ↦ (all_taken_from le e (λ y. le x y ≡ true) xs s.0, sorted_taken_from xs s.1) ]

    -- equals come out in the order of putting
    pub put_in_behind_equals : (xs : List X) → Sorted le xs → put_in le e xs ≡ behind_equals le e xs
    put_in_behind_equals [] s = refl
    put_in_behind_equals (x ∷ xs) s =
        (elim (le x e) as (λ b. le x e ≡ b → cond b (x ∷ put_in le e xs) (e ∷ x ∷ xs) ≡ cond b (x ∷ filter (λ x. le x e) xs) (filter (λ x. le x e) xs) ++ (e ∷ cond (not b) (x ∷ filter (λ x. not (le x e)) xs) (filter (λ x. not (le x e)) xs))) [
          | true ↦ λ h. ap (λ l. x ∷ l) (put_in_behind_equals xs s.1)
          | false ↦ λ h.
              let later = All-weaker (λ y. le x y ≡ true) (λ y. le y e ≡ false) (λ y k. after e x y h k) xs s.0 in
              ap (λ l. l ++ (e ∷ x ∷ xs)) (sym (none_kept (λ y. le y e) xs later))
              ∙ ap (λ l. filter (λ y. le y e) xs ++ (e ∷ x ∷ l)) (sym (all_kept (λ y. not (le y e)) xs (All-weaker (λ y. le y e ≡ false) (λ y. not (le y e) ≡ true) (λ y k. ap not k) xs later)))
        ]) refl

    -- what is told is the least that is not before the mark e
    pub first_from_least : (xs : List X) → Sorted le xs → LeastFrom le e xs (first_from le e xs)
    first_from_least [] s = tt
    first_from_least (x ∷ xs) s =
        (elim (le e x) as (λ b. le e x ≡ b → LeastFrom le e (x ∷ xs) (cond b (Some x) (first_from le e xs))) [
          | true ↦ λ h. (has_first x xs, h, ((λ k. reflexive x), All-weaker (λ y. le x y ≡ true) (λ y. le e y ≡ true → le x y ≡ true) (λ y k l. k) xs s.0))
          | false ↦ λ h. past (first_from le e xs) h (first_from_least xs s.1)
        ]) refl
      where
        past : (a : Option X) → le e x ≡ false → LeastFrom le e xs a → LeastFrom le e (x ∷ xs) a
        past None h k = (h, k)
        past (Some z) h k = (has_later x xs z k.0, k.1, ((λ l. absurd (both_ways (le e x) h l)), k.2))

    -- e is put in where x is told from the mark m on: then x stays the one told if it is not after e, and else e is
    module _ (m x : X) (here : le m e ≡ true) where
      later : (y : X) (xs : List X) → AllByRecursion (λ z. le y z ≡ true) xs → first_from le m xs ≡ Some x → le y e ≡ false → le x e ≡ false
      later y xs all told h = after e y x h (all-has (λ z. le y z ≡ true) xs x all (has_first_from le m xs x told))

      pub first_from_put_in_some : (xs : List X) → Sorted le xs → first_from le m xs ≡ Some x → first_from le m (put_in le e xs) ≡ Some (cond (le x e) x e)
      first_from_put_in_some [] s told = let z : ◌≡◌ {A = ℕ} 0 1 = cc in absurd (omega arith)
      first_from_put_in_some (y ∷ xs) s told =
          (elim (le m y) as (λ b. le m y ≡ b → cond b (Some y) (first_from le m xs) ≡ Some x → first_from le m (put_in le e (y ∷ xs)) ≡ Some (cond (le x e) x e)) [
            | true ↦ λ h told. let same : y ≡ x = cc in subst (λ z. first_from le m (put_in le e (y ∷ xs)) ≡ Some (cond (le z e) z e)) same (at h)
            | false ↦ λ h told. past h told (first_from_put_in_some xs s.1 told)
          ]) refl told
        where
          at : le m y ≡ true → first_from le m (put_in le e (y ∷ xs)) ≡ Some (cond (le y e) y e)
          at h =
              elim (le y e) as (λ b. first_from le m (cond b (y ∷ put_in le e xs) (e ∷ y ∷ xs)) ≡ Some (cond b y e)) [
                | true ↦ cond-true (le m y) (Some y) (first_from le m (put_in le e xs)) h
                | false ↦ cond-true (le m e) (Some e) (first_from le m (y ∷ xs)) here
              ]

          past : le m y ≡ false → first_from le m xs ≡ Some x → first_from le m (put_in le e xs) ≡ Some (cond (le x e) x e) → first_from le m (put_in le e (y ∷ xs)) ≡ Some (cond (le x e) x e)
          past h told more =
              (elim (le y e) as (λ b. le y e ≡ b → first_from le m (cond b (y ∷ put_in le e xs) (e ∷ y ∷ xs)) ≡ Some (cond (le x e) x e)) [
                | true ↦ λ k. cond-false (le m y) (Some y) (first_from le m (put_in le e xs)) h ∙ more
                | false ↦ λ k. cond-true (le m e) (Some e) (first_from le m (y ∷ xs)) here ∙ ap Some (sym (cond-false (le x e) x e (later y xs s.0 told k)))
              ]) refl
