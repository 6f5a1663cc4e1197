-- Where an element is put in, told or taken, and what is put in, told or taken there.
use Rattle.std.proofs.Common.{◌≡◌, ℕ, suc, ◌+◌, ◌-◌, ◌<◌, ◌≤◌, Bool, true, false, cond, not, List, [], ◌∷◌, ◌++◌, length, get_or, take, drop, nat_lt, Some, None, sym, refl, ap, ◌∙◌, inl, inr, arith}
use Rattle.std.specs.Option.{unwrap_or}
use Rattle.std.specs.List.{insert, remove, position, position_or_len}
use Rattle.std.proofs.lemmas.Bool.{cases_lt, lt-ltb, le-ltb, cond-true, cond-false}
use Rattle.std.proofs.lemmas.List.{take_at, drop_at, length-take-le}
use Rattle.std.proofs.lemmas.List.Edits.{length-insert, length-remove}
use Rattle.std.proofs.lemmas.List.Sums.{prefix_len-le-length}
use Rattle.table.specs.Order.{put_in, first_from, taken_from}

-- how many at the front are not after e
abbrev pub behind : {X : Type 0} → (X → X → Bool) → X → List X → ℕ
behind le e xs = position_or_len (λ x. not (le x e)) xs

-- how many at the front are before the mark
abbrev pub before : {X : Type 0} → (X → X → Bool) → X → List X → ℕ
before le m xs = position_or_len (le m) xs

pub behind_few : {X : Type 0} (le : X → X → Bool) (e : X) (xs : List X) → behind le e xs ≤ length xs
behind_few le e xs = prefix_len-le-length (λ x. not (not (le x e))) xs

-- the first place that passes, or n where none does
pub place_or_end : {X : Type 0} (p : X → Bool) (xs : List X) (n : ℕ) → n ≡ length xs → unwrap_or (position p xs) n ≡ position_or_len p xs
place_or_end p xs n long =
    let few : position_or_len p xs ≤ length xs = prefix_len-le-length (λ x. not (p x)) xs in
    elim (cases_lt (position_or_len p xs) (length xs)) [
      | inl l ↦ ap (λ o. unwrap_or o n) (cond-true (nat_lt (position_or_len p xs) (length xs)) (Some (position_or_len p xs)) None (lt-ltb (position_or_len p xs) (length xs) l))
      | inr l ↦
          ap (λ o. unwrap_or o n) (cond-false (nat_lt (position_or_len p xs) (length xs)) (Some (position_or_len p xs)) None (le-ltb (position_or_len p xs) (length xs) l))
          ∙ omega arith
    ]

module _ {X : Type 0} (le : X → X → Bool) (e : X) where
  put_in_at : (xs : List X) → put_in le e xs ≡ insert xs (behind le e xs) e
  put_in_at [] = refl
  put_in_at (x ∷ xs) =
      let next : suc (behind le e xs) ≡ 1 + behind le e xs = omega arith in
      elim (le x e) as (λ b. cond b (x ∷ put_in le e xs) (e ∷ x ∷ xs) ≡ insert (x ∷ xs) (cond (not (not b)) (1 + behind le e xs) 0) e)
      [ true ↦ ap (λ l. x ∷ l) (put_in_at xs) ∙ ap (λ n. insert (x ∷ xs) n e) next | false ↦ refl ]

  -- with e as the mark
  first_from_at : (xs : List X) (d : X) → before le e xs < length xs → first_from le e xs ≡ Some (get_or xs (before le e xs) d)
  first_from_at [] d = λ h. absurd (omega arith)
  first_from_at (x ∷ xs) d =
      let next : suc (before le e xs) ≡ 1 + before le e xs = omega arith in
      elim (le e x) as (λ b. cond (not b) (1 + before le e xs) 0 < suc (length xs) → cond b (Some x) (first_from le e xs) ≡ Some (get_or (x ∷ xs) (cond (not b) (1 + before le e xs) 0) d))
      [ true ↦ λ h. refl | false ↦ λ h. first_from_at xs d (omega arith) ∙ ap (λ n. Some (get_or (x ∷ xs) n d)) next ]

  first_from_past : (xs : List X) → length xs ≤ before le e xs → first_from le e xs ≡ None
  first_from_past [] = λ h. refl
  first_from_past (x ∷ xs) =
      elim (le e x) as (λ b. suc (length xs) ≤ cond (not b) (1 + before le e xs) 0 → cond b (Some x) (first_from le e xs) ≡ None)
      [ true ↦ λ h. absurd (omega arith) | false ↦ λ h. first_from_past xs (omega arith) ]

  taken_from_at : (xs : List X) → before le e xs < length xs → taken_from le e xs ≡ remove xs (before le e xs)
  taken_from_at [] = λ h. absurd (omega arith)
  taken_from_at (x ∷ xs) =
      let next : suc (before le e xs) ≡ 1 + before le e xs = omega arith in
      elim (le e x) as (λ b. cond (not b) (1 + before le e xs) 0 < suc (length xs) → cond b xs (x ∷ taken_from le e xs) ≡ remove (x ∷ xs) (cond (not b) (1 + before le e xs) 0))
      [ true ↦ λ h. refl | false ↦ λ h. ap (λ l. x ∷ l) (taken_from_at xs (omega arith)) ∙ ap (remove (x ∷ xs)) next ]

  -- what a search from the mark e on found among xs
  module _ (xs : List X) where
    pub found_at : (k : ℕ) (d : X) → Some k ≡ position (le e) xs → (k < length xs) × (k ≡ before le e xs) × (Some (get_or xs k d) ≡ first_from le e xs)
    found_at k d h =
        elim (cases_lt (before le e xs) (length xs)) [
          | inl l ↦
              (let f : Some k ≡ Some (before le e xs) = h ∙ cond-true (nat_lt (before le e xs) (length xs)) (Some (before le e xs)) None (lt-ltb (before le e xs) (length xs) l) in
              let same : k ≡ before le e xs = cc in
              (omega arith, same, ap (λ n. Some (get_or xs n d)) same ∙ sym (first_from_at xs d l)))
          | inr l ↦
              (let f : Some k ≡ None = h ∙ cond-false (nat_lt (before le e xs) (length xs)) (Some (before le e xs)) None (le-ltb (before le e xs) (length xs) l) in
              let z : ◌≡◌ {A = ℕ} 0 1 = cc in absurd (omega arith))
        ]

    pub found_none : None ≡ position (le e) xs → None ≡ first_from le e xs
    found_none h =
        elim (cases_lt (before le e xs) (length xs)) [
          | inl l ↦
              (let f : None ≡ Some (before le e xs) = h ∙ cond-true (nat_lt (before le e xs) (length xs)) (Some (before le e xs)) None (lt-ltb (before le e xs) (length xs) l) in
              let z : ◌≡◌ {A = ℕ} 0 1 = cc in absurd (omega arith))
          | inr l ↦ sym (first_from_past xs l)
        ]

  -- the places after e was put in at r: they were xs and are ys
  module _ (xs ys : List X) (len r : ℕ) (room : len < length xs) (at : r ≡ behind le e (take len xs)) (bound : r ≤ len) (is : ys ≡ insert (take len xs) r e ++ drop (len + 1) xs) where
    more : length (insert (take len xs) r e) ≡ len + 1
    more =
        let n : length (take len xs) ≡ len = length-take-le len xs (omega arith) in
        let m = length-insert (take len xs) r e (omega arith) in
        omega arith

    pub put_elements : take (len + 1) ys ≡ put_in le e (take len xs)
    put_elements =
        ap (take (len + 1)) is ∙ take_at (insert (take len xs) r e) (drop (len + 1) xs) (len + 1) more
        ∙ ap (λ n. insert (take len xs) n e) at ∙ sym (put_in_at (take len xs))

  -- the places after the element at r was taken out
  module _ (xs ys : List X) (len r : ℕ) (room : len ≤ length xs) (at : r ≡ before le e (take len xs)) (bound : r < len) (is : ys ≡ remove (take len xs) r ++ drop (len - 1) xs) where
    fewer : length (remove (take len xs) r) ≡ len - 1
    fewer =
        let n : length (take len xs) ≡ len = length-take-le len xs (omega arith) in
        let m = length-remove (take len xs) r (omega arith) in
        omega arith

    inside : before le e (take len xs) < length (take len xs)
    inside = let n : length (take len xs) ≡ len = length-take-le len xs (omega arith) in omega arith

    pub take_elements : take (len - 1) ys ≡ taken_from le e (take len xs)
    take_elements =
        ap (take (len - 1)) is ∙ take_at (remove (take len xs) r) (drop (len - 1) xs) (len - 1) fewer
        ∙ ap (λ n. remove (take len xs) n) at ∙ sym (taken_from_at (take len xs) inside)

    pub take_rest : drop (len - 1) ys ≡ drop (len - 1) xs
    take_rest = ap (drop (len - 1)) is ∙ drop_at (remove (take len xs) r) (drop (len - 1) xs) (len - 1) fewer
