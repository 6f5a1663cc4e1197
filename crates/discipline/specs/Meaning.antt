-- What a queue discipline means: which cells wait, and which one is chosen.
use Rattle.std.specs.Prelude.{◌≡◌, ℕ, zero, suc, ◌≤◌, Bool, true, false, cond, ◌⊎◌, ℤ, pos, ◌<ℤ◌, Some, None, Option, ◌==◌}
use Rattle.discipline.specs.declared.stay.Stay.{Stay}

-- the cells that wait, each with its stay: no cell waits twice
abbrev pub Waiting : Type 0
Waiting = ℕ → Option Stay

-- whether a stay is at port p
abbrev pub stays_at : ℕ → Option Stay → Bool
stays_at p None = false
stays_at p (Some s) = s.port == p

-- whether cell c waits at port p
abbrev pub waits_at : Waiting → ℕ → ℕ → Bool
waits_at w p c = stays_at p (w c)

-- cell c waits at port p
abbrev pub At : Waiting → ℕ → ℕ → Type 0
At w p c = waits_at w p c ≡ true

-- how many of the numbers below n pass
unfoldable pub passing : ℕ → (ℕ → Bool) → ℕ
passing zero f = 0
passing (suc n) f = cond (f n) (suc (passing n f)) (passing n f)

-- how many cells wait at port p
abbrev pub count_at : Waiting → ℕ → ℕ
count_at w p = passing 256 (waits_at w p)

-- the port of a stay
abbrev pub stay_port : Option Stay → Option ℕ
stay_port None = None
stay_port (Some s) = Some s.port

-- the due slot of a stay
abbrev pub stay_due : Option Stay → Option ℤ
stay_due None = None
stay_due (Some s) = Some s.due

-- only cells up to 255 wait, and only at ports up to 31
abbrev pub Limits : Waiting → Type 0
Limits w = (c : ℕ) (s : Stay) → w c ≡ Some s → (c ≤ 255) × (s.port ≤ 31)

-- the same cells wait, with the same stays
abbrev pub Same : Waiting → Waiting → Type 0
Same v w = (c : ℕ) → v c ≡ w c

-- with one cell more, and with one cell less
abbrev pub with_cell : Waiting → ℕ → Stay → Waiting
with_cell w c s k = cond (k == c) (Some s) (w k)

abbrev pub without_cell : Waiting → ℕ → Waiting
without_cell w c k = cond (k == c) None (w k)

-- the choice at a port is one of the cells that wait there
abbrev pub Lawful : Waiting → ℕ → ℕ → Type 0
Lawful w p x = (c : ℕ) → At w p c → At w p x

-- the due slot of a stay; 0 where there is none
abbrev pub due_of : Option Stay → ℤ
due_of None = pos 0
due_of (Some s) = s.due

-- x is due before y, or due with it and of the lower number
abbrev pub Before : Waiting → ℕ → ℕ → Type 0
Before w x y = (due_of (w x) <ℤ due_of (w y)) ⊎ ((due_of (w x) ≡ due_of (w y)) × (x ≤ y))

-- x is the cell of least due slot, then lowest number, among those that wait at port p
abbrev pub MostUrgent : Waiting → ℕ → ℕ → Type 0
MostUrgent w p x = (c : ℕ) → At w p c → At w p x × Before w x c

-- no cell waits
abbrev pub Empty : Waiting → Type 0
Empty w = (c : ℕ) → w c ≡ None
