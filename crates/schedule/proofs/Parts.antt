-- A place of a part of a list, as a place of the list.
use Rattle.std.proofs.Common.{◌≡◌, ℕ, ◌+◌, ◌<◌, List, get_or, take, drop, ap, ◌∙◌}
use Rattle.std.proofs.lemmas.List.{get_or-take, get_or-drop}

pub in_part : (xs : List ℕ) (at n k i : ℕ) (part : List ℕ) → part ≡ take n (drop at xs) → k < n → at + k ≡ i → get_or part k 0 ≡ get_or xs i 0
in_part xs at n k i part e l is =
    ap (λ ys. get_or ys k 0) e ∙ get_or-take n (drop at xs) k 0 l ∙ get_or-drop at xs k 0 ∙ ap (λ j. get_or xs j 0) is
