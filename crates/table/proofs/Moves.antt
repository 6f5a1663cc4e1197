-- Elements that are moved by one place: xs are the places before, and ys after the move.
use Rattle.std.proofs.Common.{◌≡◌, ℕ, ◌+◌, ◌-◌, ◌<◌, ◌≤◌, List, ◌++◌, length, get_or, take, drop, set, arith, rules}
use Rattle.std.specs.List.{insert, remove, CopiedTo, SameBelow, SameFrom}
use Rattle.std.proofs.lemmas.List.{places, get_or-set_same, same_lists}
use Rattle.std.proofs.lemmas.Bool.{cases_eq, cases_lt}

-- those from a place on were moved down, and e was written there
module _ {X : Type 0} (xs ys : List X) (len at : ℕ) (e : X) (low : at ≤ len) (high : len < length xs) (long : length ys ≡ length xs) where
  pub opened : CopiedTo xs ys at (at + 1) (len - at) × SameBelow xs ys (at + 1) × SameFrom xs ys (at + 1 + (len - at)) → set ys at e ≡ insert (take len xs) at e ++ drop (len + 1) xs
  opened moved =
      same_lists _ _ (search (rules, places)) at_each
    where
      at_each : (k : ℕ) (d : X) → k < length (set ys at e) → get_or (set ys at e) k d ≡ get_or (insert (take len xs) at e ++ drop (len + 1) xs) k d
      at_each k d h =
          let s = cases_eq k at in
          let t = cases_lt k at in
          let u = cases_lt len k in
          let p = moved.0 k d in
          let q = moved.1 k d in
          let r = moved.2 k d in
          grind (arith, places, get_or-set_same)

-- those behind a place were moved up
module _ {X : Type 0} (xs ys : List X) (len at : ℕ) (low : at < len) (high : len ≤ length xs) (long : length ys ≡ length xs) where
  pub closed : CopiedTo xs ys (at + 1) at (len - (at + 1)) × SameBelow xs ys at × SameFrom xs ys (at + (len - (at + 1))) → ys ≡ remove (take len xs) at ++ drop (len - 1) xs
  closed moved =
      same_lists _ _ (search (rules, places)) at_each
    where
      at_each : (k : ℕ) (d : X) → k < length ys → get_or ys k d ≡ get_or (remove (take len xs) at ++ drop (len - 1) xs) k d
      at_each k d h =
          let t = cases_lt k at in
          let u = cases_lt k (len - 1) in
          let p = moved.0 k d in
          let q = moved.1 k d in
          let r = moved.2 k d in
          grind (arith, places)
