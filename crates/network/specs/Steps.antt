-- One slot of a run, from a schedule x with horizon t to a schedule y with horizon t + 1.
use Rattle.std.specs.Prelude.{◌≡◌, ℕ, suc, ◌<◌, ◌≤◌, ◌≤ℤ◌}
use Rattle.network.specs.Networks.{Network, Hop, Sound}
use Rattle.network.specs.OnTime.{LeastSlackFirst}
use Rattle.network.specs.Schedules.{Schedule, arrival, Sends, WorkConserving}
use Rattle.network.specs.Slacks.{due}

pub record Steps (N : Network) (t : ℕ) (x y : Schedule) : Type 0 where
  -- what was sent before slot t stays as it was, and nothing more is sent then
  pub kept : (c h : ℕ) → Hop N c h → x c h < t → y c h ≡ x c h
  pub still : (c h : ℕ) → Hop N c h → t ≤ x c h → t ≤ y c h
  -- a cell that is sent in slot t has arrived
  pub after : (c h : ℕ) → Hop N c h → y c h ≡ t → arrival N x c h ≤ t
  -- a port sends at most one cell in slot t
  pub alone : (c h q g : ℕ) → Hop N c h → Hop N q g → N.port c h ≡ N.port q g → y c h ≡ t → y q g ≡ t → (c ≡ q) × (h ≡ g)

-- each port where a cell waits sends one in slot t
abbrev pub StepsBusy : Network → ℕ → Schedule → Schedule → Type 0
StepsBusy N t x y = (c h : ℕ) → Hop N c h → arrival N x c h ≤ t → t ≤ x c h
    → (q : ℕ) × (g : ℕ) × Hop N q g × (N.port q g ≡ N.port c h) × (y q g ≡ t)

-- what is sent in slot t is due no later than any cell that waits at its port
abbrev pub StepsFirst : Network → Schedule → ℕ → Schedule → Schedule → Type 0
StepsFirst N r t x y = (q g c h : ℕ) → Hop N q g → Hop N c h → N.port q g ≡ N.port c h
    → y q g ≡ t → arrival N x c h ≤ t → t ≤ x c h → due N r x q g ≤ℤ due N r x c h

-- each law of a run holds at horizon 0, where nothing is sent yet
pub record LawStarts (N : Network) (r x : Schedule) : Type 0 where
  pub sends : Sends N 0 x
  pub busy : WorkConserving N 0 x
  pub first : LeastSlackFirst N r 0 x

-- each law of a run that holds at horizon t holds one slot later
pub record LawGoesOn (N : Network) (t : ℕ) (x y : Schedule) : Type 0 where
  pub sends : Sends N t x → Sends N (suc t) y
  pub busy : WorkConserving N t x → StepsBusy N t x y → WorkConserving N (suc t) y
  pub first : (r : Schedule) → LeastSlackFirst N r t x → StepsFirst N r t x y → LeastSlackFirst N r (suc t) y

abbrev pub Starts : Type 0
Starts = (N : Network) (r x : Schedule) → LawStarts N r x

abbrev pub GoesOn : Type 0
GoesOn = (N : Network) (t : ℕ) (x y : Schedule) → Sound N → Steps N t x y → LawGoesOn N t x y
