-- What a slot can change, and what the condition of a cell says.
use Rattle.std.specs.Prelude.{◌≡◌, ℕ, ◌<◌, ◌≤◌, Bool, true, false, pos, is_some, Some, None, Option}
use Rattle.discipline.specs.declared.stay.Stay.{Stay}
use Rattle.network.specs.Networks.{Network}
use Rattle.network.specs.Schedules.{arrival}
use Rattle.rules.specs.Loads.{Sent, slots}
use Rattle.rules.specs.declared.condition.Condition.{Condition}
use Rattle.rules.specs.declared.condition.Condition.TheVariants.{Outside, Waiting, OnLink, Gone}

-- a run in the middle of a slot: the condition of each cell, the slots in which cells were sent, the contested ports,
-- how many cells are gone, and the queue discipline
pub record Moment (D : Type 0) : Type 0 where
  pub condition : ℕ → Condition
  pub sent : Sent
  pub contested : ℕ → Bool
  pub gone : ℕ
  pub queue : D

-- the slot in which a cell comes to wait next, if it is outside or on a link
abbrev pub pending : Network → ℕ → Condition → Option ℕ
pending N c Outside = Some (N.entry c)
pending N c (Waiting h a) = None
pending N c (OnLink h u) = Some u
pending N c Gone = None

-- the stay of a cell that waits; a recording hands in due slot 0
abbrev pub stay : Network → ℕ → Condition → Option Stay
stay N c Outside = None
stay N c (Waiting h a) = Some (record { port = N.port c h; slot = a; due = pos 0 })
stay N c (OnLink h u) = None
stay N c Gone = None

abbrev pub is_gone : Condition → Bool
is_gone Outside = false
is_gone (Waiting h a) = false
is_gone (OnLink h u) = false
is_gone Gone = true

-- cell c was sent from each position below h, and from none from h on
pub record Reached (N : Network) (s : Sent) (c h : ℕ) : Type 0 where
  pub done : (g : ℕ) → g < h → is_some (s c g) ≡ true
  pub left : (g : ℕ) → h ≤ g → g < N.len c → s c g ≡ None

-- the condition of cell c agrees with what was sent: it is at, or on its way to, the first position from which it was not
-- sent yet, and was or will be there by its arrival slot
abbrev pub Placed : Network → Sent → ℕ → ℕ → Condition → Type 0
Placed N s t c Outside = Reached N s c 0
Placed N s t c (Waiting h a) = (h < N.len c) × Reached N s c h × (a ≡ arrival N (slots s t) c h) × (a ≤ t)
Placed N s t c (OnLink h u) = (h < N.len c) × Reached N s c h × (u ≡ arrival N (slots s t) c h)
Placed N s t c Gone = Reached N s c (N.len c)
