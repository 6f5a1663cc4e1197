-- Lists in an order that is given by a test: le x y says that x is not after y.
use Rattle.std.specs.Prelude.{◌≡◌, Bool, true, false, cond, not, List, [], ◌∷◌, ◌++◌, Some, None, filter, Option}
use Rattle.std.specs.List.{ContainsAt, AllByRecursion}

-- of two elements one is not after the other, and not-after is transitive
pub record Lawful {X : Type 0} (le : X → X → Bool) : Type 0 where
  pub total : (x y : X) → le x y ≡ false → le y x ≡ true
  pub trans : (x y z : X) → le x y ≡ true → le y z ≡ true → le x z ≡ true

-- each element is not after any that follows it
abbrev pub Sorted : {X : Type 0} → (X → X → Bool) → List X → Type 0
Sorted le [] = Unit {0}
Sorted le (x ∷ xs) = AllByRecursion (λ y. le x y ≡ true) xs × Sorted le xs

-- each element is before all that follow it
abbrev pub Rising : {X : Type 0} → (X → X → Bool) → List X → Type 0
Rising le [] = Unit {0}
Rising le (x ∷ xs) = AllByRecursion (λ y. le y x ≡ false) xs × Rising le xs

-- the list with e put in, behind all at the front that are not after e
abbrev pub put_in : {X : Type 0} → (X → X → Bool) → X → List X → List X
put_in le e [] = e ∷ []
put_in le e (x ∷ xs) = cond (le x e) (x ∷ put_in le e xs) (e ∷ x ∷ xs)

-- all that are not after e, then e, then the others; both parts keep their order, so e is behind its equals
abbrev pub behind_equals : {X : Type 0} → (X → X → Bool) → X → List X → List X
behind_equals le e xs = filter (λ x. le x e) xs ++ (e ∷ filter (λ x. not (le x e)) xs)

-- the first element that is not before the mark
abbrev pub first_from : {X : Type 0} → (X → X → Bool) → X → List X → Option X
first_from le m [] = None
first_from le m (x ∷ xs) = cond (le m x) (Some x) (first_from le m xs)

-- the list without that element
abbrev pub taken_from : {X : Type 0} → (X → X → Bool) → X → List X → List X
taken_from le m [] = []
taken_from le m (x ∷ xs) = cond (le m x) xs (x ∷ taken_from le m xs)

-- the answer is the least of the elements that are not before the mark, or that there is none
abbrev pub LeastFrom : {X : Type 0} → (X → X → Bool) → X → List X → Option X → Type 0
LeastFrom le m xs None = AllByRecursion (λ y. le m y ≡ false) xs
LeastFrom le m xs (Some x) = ContainsAt xs x × (le m x ≡ true) × AllByRecursion (λ y. le m y ≡ true → le x y ≡ true) xs
