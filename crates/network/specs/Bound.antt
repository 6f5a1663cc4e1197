-- By when each cell has left.
use Rattle.std.specs.Prelude.{ℕ, ◌+◌, ◌-◌, ◌*◌, ◌<◌, ◌≤◌, min}
use Rattle.network.specs.Networks.{Network, Hop, Sound, hops}
use Rattle.network.specs.Schedules.{Schedule, WorkConserving}

-- Let no cell enter after slot i, and no delay be longer than l. Then no cell of a work-conserving run is sent after slot
-- i + (hops - 1) * l, and once that slot is done, each cell has been sent from each of its hops.
abbrev pub Ends : Type 0
Ends = (N : Network) (t : ℕ) (x : Schedule) (i l : ℕ) → Sound N → WorkConserving N t x
    → ((c : ℕ) → c < N.cells → N.entry c ≤ i) → ((c h : ℕ) → Hop N c h → N.delay (N.port c h) ≤ l)
    → (c h : ℕ) → Hop N c h → min (x c h) t ≤ i + (hops N - 1) * l
