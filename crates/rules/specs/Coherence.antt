-- What the parts of a run have to do with each other.
use Rattle.std.specs.Prelude.{◌≡◌, ℕ, ◌<◌, ◌≤◌, List, length, is_some, Some, None}
use Rattle.std.specs.List.{ContainsAt, AllByRecursion}
use Rattle.discipline.specs.Meaning.{Waiting, passing}
use Rattle.network.specs.Networks.{Network, Hop}
use Rattle.table.specs.Kinds.{flight_upto}
use Rattle.table.specs.Order.{Rising}
use Rattle.table.specs.declared.flight.Flight.{Flight}
use Rattle.rules.specs.Moments.{Moment, pending, stay, is_gone, Placed}
use Rattle.rules.specs.declared.condition.Condition.{Condition}

-- The flights have just the cells that are outside or on a link, each once and with the slot of its arrival, by slot and
-- number.
pub record Flying (N : Network) (condition : ℕ → Condition) (fs : List Flight) : Type 0 where
  pub rising : Rising flight_upto fs
  pub each : AllByRecursion (λ f. (f.cell < N.cells) × (pending N f.cell (condition f.cell) ≡ Some f.slot)) fs
  pub all : (c s : ℕ) → c < N.cells → pending N c (condition c) ≡ Some s → ContainsAt fs (record { slot = s; cell = c })
  pub size : length fs ≡ passing N.cells (λ c. is_some (pending N c (condition c)))

-- no cell comes to wait before slot k
abbrev pub Ahead : Network → ℕ → (ℕ → Condition) → Type 0
Ahead N k condition = (c s : ℕ) → c < N.cells → pending N c (condition c) ≡ Some s → k ≤ s

-- In the middle of slot t: conditions, log, discipline and count of a run agree.
pub record Inside (N : Network) {D : Type 0} (waiting : D → Waiting) (sound : D → Type 0) (t : ℕ) (m : Moment D) : Type 0 where
  pub placed : (c : ℕ) → c < N.cells → Placed N m.sent t c (m.condition c)
  pub past : (c h v : ℕ) → Hop N c h → m.sent c h ≡ Some v → v ≤ t
  pub lawful : sound m.queue
  pub queued : (c : ℕ) → c < N.cells → waiting m.queue c ≡ stay N c (m.condition c)
  pub strangers : (c : ℕ) → N.cells ≤ c → waiting m.queue c ≡ None
  pub left : m.gone ≡ passing N.cells (λ c. is_gone (m.condition c))
