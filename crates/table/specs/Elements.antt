-- What a table holds, and what its calls leave.
use Rattle.std.specs.Prelude.{◌≡◌, Bool, List, length, take, drop, nat_le}
use Rattle.table.specs.declared.table.Table.{Table}

-- the elements of a table, in their order: the first of its places
abbrev pub elements : {X : Type 0} → Table X → List X
elements t = take t.len t.places.now

-- whether no place is free
abbrev pub full : {X : Type 0} → Table X → Bool
full t = nat_le (length t.places.now) (length (elements t))

-- from t to u no element and no place has changed
abbrev pub Unchanged : {X : Type 0} → Table X → Table X → Type 0
Unchanged t u = (elements u ≡ elements t) × (u.places.now ≡ t.places.now)

-- from t to u no place past the elements of u has changed
abbrev pub RestKept : {X : Type 0} → Table X → Table X → Type 0
RestKept t u = drop (length (elements u)) u.places.now ≡ drop (length (elements u)) t.places.now

-- from t to u the places are the same lent memory, and as many
abbrev pub SamePlaces : {X : Type 0} → Table X → Table X → Type 0
SamePlaces t u = (u.places.ghost_name ≡ t.places.ghost_name) × (length u.places.now ≡ length t.places.now)
