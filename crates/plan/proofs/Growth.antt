-- What a plan keeps when it grows.
use Rattle.std.proofs.Common.{◌≡◌, ℕ, ◌<◌, Bool, true, false, cond, List, [], ◌∷◌, ◌++◌, map, length, get_or, refl, inl, inr, arith}
use Rattle.std.proofs.lemmas.List.{length_push, get_or_push, get_or_append_left, map_push}
use Rattle.std.proofs.lemmas.Bool.{cases_lt}

-- what holds of each element holds of each where one more is pushed, or none
pub each_pushed : {X : Type 0} (P : X → Type 0) (d : X) (xs : List X) (x : X) (b : Bool) → ((k : ℕ) → k < length xs → P (get_or xs k d)) → P x → (k : ℕ) → k < length (cond b (xs ++ x ∷ []) xs) → P (get_or (cond b (xs ++ x ∷ []) xs) k d)
each_pushed P d xs x false h p k l = h k l
each_pushed P d xs x true h p k l =
    elim (cases_lt k (length xs)) [
      | inl m ↦ rw get_or_append_left (h k m)
      | inr m ↦ let q : length xs ≡ k = omega (arith, length_push xs x) in rw get_or_push p
    ]

pub map_pushed : {X Y : Type 0} (f : X → Y) (xs : List X) (x : X) (b : Bool) → map f (cond b (xs ++ x ∷ []) xs) ≡ cond b (map f xs ++ f x ∷ []) (map f xs)
map_pushed f xs x true = map_push f xs x
map_pushed f xs x false = refl
