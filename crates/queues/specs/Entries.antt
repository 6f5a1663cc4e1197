-- Waiting cells as a list of entries, in the order in which they arrived.
use Rattle.std.specs.Prelude.{◌≡◌, ℕ, suc, ◌<◌, Bool, true, cond, not, ◌&&◌, List, [], ◌∷◌, length, ℤ, pos, is_some, Some, None, ◌==◌, ◌≢◌, nat_lt, slice_index_or}
use Rattle.discipline.specs.Meaning.{Waiting}
use Rattle.discipline.specs.declared.stay.Stay.{Stay}
use Rattle.queues.specs.declared.entry.Entry.{Entry}

-- the entry of a cell that arrives at a port in a slot, with its due slot
abbrev pub entry_of : ℕ → ℕ → ℕ → ℤ → Entry
entry_of cell port slot due = record { cell = cell; port = port; slot = slot; due = due }

-- what stands past the last entry
abbrev pub no_entry : Entry
no_entry = entry_of 0 0 0 (pos 0)

-- the stay that an entry tells
abbrev pub stay_of : Entry → Stay
stay_of e = record { port = e.port; slot = e.slot; due = e.due }

-- each cell that has an entry waits, with that entry's stay
abbrev pub waiting_in : List Entry → Waiting
waiting_in [] k = None
waiting_in (e ∷ q) k = cond (k == e.cell) (Some (stay_of e)) (waiting_in q k)

-- how many entries are at port p
abbrev pub at_port : List Entry → ℕ → ℕ
at_port [] p = 0
at_port (e ∷ q) p = cond (e.port == p) (suc (at_port q p)) (at_port q p)

-- the cell of the first entry at port p; 0 where none is there
abbrev pub first_at : List Entry → ℕ → ℕ
first_at [] p = 0
first_at (e ∷ q) p = cond (e.port == p) e.cell (first_at q p)

-- the cell of the last entry at port p; 0 where none is there
abbrev pub last_at : List Entry → ℕ → ℕ
last_at [] p = 0
last_at (e ∷ q) p = cond (at_port q p == 0) (first_at (e ∷ []) p) (last_at q p)

-- the entries of the other cells
abbrev pub without : List Entry → ℕ → List Entry
without [] c = []
without (e ∷ q) c = cond (e.cell == c) (without q c) (e ∷ without q c)

-- every cell is below 256 and has no second entry, and every port is below 32
abbrev pub proper : List Entry → Bool
proper [] = true
proper (e ∷ q) = (nat_lt e.cell 256 && (nat_lt e.port 32 && not (is_some (waiting_in q e.cell)))) && proper q

-- at place i stands the entry of cell c
abbrev pub Stands : List Entry → ℕ → ℕ → Type 0
Stands q c i = (i < length q) × ((slice_index_or q i no_entry).cell ≡ c)

-- and it is at port p
abbrev pub StandsAt : List Entry → ℕ → ℕ → ℕ → Type 0
StandsAt q p c i = (i < length q) × ((slice_index_or q i no_entry).cell ≡ c) × ((slice_index_or q i no_entry).port ≡ p)

-- no entry has P
abbrev pub HasNo : (Entry → Type 0) → List Entry → Type 0
HasNo P q = (k : ℕ) → k < length q → P (slice_index_or q k no_entry) → ⊥

-- place i is the first at port p, or the last
abbrev pub IsFirstAt : List Entry → ℕ → ℕ → Type 0
IsFirstAt q p i =
    (i < length q) × ((slice_index_or q i no_entry).port ≡ p)
    × ((k : ℕ) → k < i → (slice_index_or q k no_entry).port ≢ p)

abbrev pub IsLastAt : List Entry → ℕ → ℕ → Type 0
IsLastAt q p i =
    (i < length q) × ((slice_index_or q i no_entry).port ≡ p)
    × ((k : ℕ) → i < k → k < length q → (slice_index_or q k no_entry).port ≢ p)
