-- Least slack first: what a queue of due cells and the stays of its cells have to do with each other.
use Rattle.std.specs.Prelude.{◌≡◌, ℕ, ◌-◌, ◌^◌, ◌<◌, ◌≤◌, true, List, length, ℤ, negsuc, is_some, Some, None, Option, int_le, slice_index, slice_index_or}
use Rattle.std.specs.List.{ContainsAt, AllByRecursion}
use Rattle.discipline.specs.Meaning.{Waiting, passing, count_at}
use Rattle.discipline.specs.declared.stay.Stay.{Stay}
use Rattle.table.specs.Kinds.{due_upto}
use Rattle.table.specs.Order.{first_from, Rising}
use Rattle.table.specs.declared.due.DueCell.{DueCell}

-- the cells that wait, from their stays by number
abbrev pub waiting_by : List (Option Stay) → Waiting
waiting_by stays c = slice_index_or stays c None

-- cell c with its stay, as the queue has it
abbrev pub due_cell : ℕ → Stay → DueCell
due_cell c s = record { port = s.port; due = s.due; cell = c }

-- the earliest due slot that there is
abbrev pub earliest : ℤ
earliest = negsuc (2 ^ 63 - 1)

-- no due cell at port p is before this one
abbrev pub mark : ℕ → DueCell
mark p = record { port = p; due = earliest; cell = 0 }

-- the cell of an answer; 0 where there is none
abbrev pub cell_of : Option DueCell → ℕ
cell_of None = 0
cell_of (Some x) = x.cell

-- the first due cell at port p or past it
abbrev pub next_due : List DueCell → ℕ → ℕ
next_due xs p = cell_of (first_from due_upto (mark p) xs)

-- x is a cell that waits as its stay says
abbrev pub Stays : List (Option Stay) → DueCell → Type 0
Stays stays x = (s : Stay) × (waiting_by stays x.cell ≡ Some s) × (due_cell x.cell s ≡ x)

-- The queue has just the cells that wait, each once and in order, there is room for 256, and the counts are true.
pub record Sound (stays : List (Option Stay)) (counts : List ℕ) (xs : List DueCell) (room : ℕ) : Type 0 where
  pub stays_long : length stays ≡ 256
  pub counts_long : length counts ≡ 32
  pub room_for_all : 256 ≤ room
  pub rising : Rising due_upto xs
  pub staying : AllByRecursion (Stays stays) xs
  pub queued : (c : ℕ) (s : Stay) → waiting_by stays c ≡ Some s → (s.port ≤ 31) × (int_le earliest s.due ≡ true) × ContainsAt xs (due_cell c s)
  pub size : length xs ≡ passing 256 (λ c. is_some (waiting_by stays c))
  pub counted : (p : ℕ) → p < 32 → slice_index counts p ≡ count_at (waiting_by stays) p
