-- A replay by least slack first, which knows of the recording only the slot in which each cell left.
use Rattle.std.specs.Prelude.{◌≡◌, ℕ, ◌<◌, ◌≤◌, pos, ◌≤ℤ◌}
use Rattle.network.specs.Networks.{Network, Hop, Sound, last}
use Rattle.network.specs.Schedules.{Schedule, arrival, Sends, WorkConserving, Whole, Contested}
use Rattle.network.specs.Slacks.{slack, due}

-- In each slot below t, a cell that is sent is due no later than any that is at its port. Of cells at one port in one slot, the one of
-- least slack is the one that is due first.
abbrev pub LeastSlackFirst : (N : Network) (r : Schedule) (t : ℕ) (x : Schedule) → Type 0
LeastSlackFirst N r t x = (q g c h : ℕ) → Hop N q g → Hop N c h → N.port q g ≡ N.port c h
    → x q g < t → arrival N x c h ≤ x q g → x q g ≤ x c h → due N r x q g ≤ℤ due N r x c h

-- the slots below t of a replay of r
pub record Replays (N : Network) (r : Schedule) (t : ℕ) (x : Schedule) : Type 0 where
  pub sends : Sends N t x
  pub busy : WorkConserving N t x
  pub first : LeastSlackFirst N r t x

-- no route has three contested hops
abbrev pub TwoAtMost : (N : Network) (t₀ : ℕ) (r : Schedule) (t : ℕ) (x : Schedule) → Type 0
TwoAtMost N t₀ r t x = (c g h k : ℕ) → Hop N c k → g < h → h < k
    → Contested N t₀ r t x (N.port c g) → Contested N t₀ r t x (N.port c h) → Contested N t₀ r t x (N.port c k) → ⊥

-- no cell is late in the slots below t
pub record IsOnTime (N : Network) (r : Schedule) (t : ℕ) (x : Schedule) : Type 0 where
  -- no cell is sent after its due slot
  pub sent : (c h : ℕ) → Hop N c h → x c h < t → pos (x c h) ≤ℤ due N r x c h
  -- no cell that waits is past its due slot
  pub waiting : (c h : ℕ) → Hop N c h → arrival N x c h < t → t ≤ x c h → pos t ≤ℤ due N r x c h
  -- no cell arrives at a hop with negative slack
  pub spare : (c h : ℕ) → Hop N c h → arrival N x c h < t → pos 0 ≤ℤ slack N r x c h
  -- each cell that has left did so no later than in the recording
  pub left : (c : ℕ) → c < N.cells → x c (last N c) < t → x c (last N c) ≤ r c (last N c)

-- A replay of a whole recording is on time if no route has three contested hops.
abbrev pub OnTimeReplay : Type 0
OnTimeReplay = (N : Network) (t₀ : ℕ) (r : Schedule) (t : ℕ) (x : Schedule)
    → Sound N → Whole N t₀ r → Replays N r t x → TwoAtMost N t₀ r t x → IsOnTime N r t x
