-- Cells that have waited long, over one discipline.
use Rattle.std.specs.Prelude.{◌≡◌, ℕ, zero, suc, ◌-◌, ◌<◌, ◌≤◌, Bool, true, cond, ◌&&◌, ◌⊎◌, List, length, Some, None, Option, nat_le, nat_lt, slice_index}
use Rattle.discipline.specs.declared.stay.Stay.{Stay}
use Rattle.discipline.specs.Meaning.{Waiting, waits_at}

-- the arrival slot of a stay; 0 where there is none
abbrev pub slot_of : Option Stay → ℕ
slot_of None = 0
slot_of (Some s) = s.slot

-- whether cell c waits at port p, in slot t for a slots or more; a slot before the arrival counts as no wait
abbrev pub old : Waiting → ℕ → ℕ → ℕ → ℕ → Bool
old w a p t c = waits_at w p c && nat_le a (t - slot_of (w c))

-- cell c is old at port p
abbrev pub Old : Waiting → ℕ → ℕ → ℕ → ℕ → Type 0
Old w a p t c = old w a p t c ≡ true

-- x arrived before y, or with it and has the lower number
abbrev pub Earlier : Waiting → ℕ → ℕ → Type 0
Earlier w x y = (slot_of (w x) < slot_of (w y)) ⊎ ((slot_of (w x) ≡ slot_of (w y)) × (x ≤ y))

-- x is the cell of least arrival slot, then lowest number, among the old cells at port p
abbrev pub Oldest : Waiting → ℕ → ℕ → ℕ → ℕ → Type 0
Oldest w a p t x = Old w a p t x × ((c : ℕ) → Old w a p t c → Earlier w x c)

-- a pick where some cell is old is a withdrawal of the oldest, and elsewhere a pick of the discipline below
abbrev pub AgedPick : Waiting → ℕ → ℕ → ℕ → ℕ → Type 0 → Type 0 → Type 0
AgedPick w a p t c Withdraws Picks =
    ((k : ℕ) → Old w a p t k → Oldest w a p t c × Withdraws) × (((k : ℕ) → Old w a p t k → ⊥) → Picks)

-- the cell held, or cell c where none is held or c has a lower slot
abbrev pub earlier_of : (ℕ → ℕ) → Option ℕ → ℕ → Option ℕ
earlier_of slots None c = Some c
earlier_of slots (Some x) c = cond (nat_lt (slots c) (slots x)) (Some c) (Some x)

-- the oldest of the cells below n, or none
unfoldable pub oldest_below : Waiting → ℕ → ℕ → ℕ → ℕ → Option ℕ
oldest_below w a p t zero = None
oldest_below w a p t (suc n) =
    cond (old w a p t n) (earlier_of (λ c. slot_of (w c)) (oldest_below w a p t n) n) (oldest_below w a p t n)

-- the oldest cell where there is one, else the choice x of the discipline below
abbrev pub aged_choice : Option ℕ → ℕ → ℕ
aged_choice None x = x
aged_choice (Some c) x = c

-- the table of arrival slots has those of all the cells that wait
abbrev pub Noted : List ℕ → Waiting → Type 0
Noted slots w = (length slots ≡ 256) × ((c : ℕ) (s : Stay) → w c ≡ Some s → slice_index slots c ≡ s.slot)

-- a cell that is held is one of the table
abbrev pub Held : Option ℕ → Type 0
Held None = Unit {0}
Held (Some x) = x < 256
