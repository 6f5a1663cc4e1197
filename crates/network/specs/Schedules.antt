-- When each cell is sent from each of its hops.
use Rattle.std.specs.Prelude.{◌≡◌, ℕ, zero, suc, ◌+◌, ◌<◌, ◌≤◌, ◌⊎◌}
use Rattle.network.specs.Networks.{Network, Hop}

-- The slot x c h in which cell c is sent from its hop h. A schedule is read with a horizon t: the slots below t are done, and x c h is
-- t or more where cell c is not sent from hop h in one of them.
abbrev pub Schedule : Type 0
Schedule = ℕ → ℕ → ℕ

-- the slot in which cell c arrives at its hop h
abbrev pub arrival : Network → Schedule → ℕ → ℕ → ℕ
arrival N x c zero = N.entry c
arrival N x c (suc h) = x c h + N.delay (N.port c h)

-- what holds of the slots below t of any run
pub record Sends (N : Network) (t : ℕ) (x : Schedule) : Type 0 where
  -- no cell is sent from a hop before it arrives there
  pub after : (c h : ℕ) → Hop N c h → x c h < t → arrival N x c h ≤ x c h
  -- a port sends at most one cell in a slot
  pub alone : (c h q g : ℕ) → Hop N c h → Hop N q g → N.port c h ≡ N.port q g → x c h < t → x c h ≡ x q g → (c ≡ q) × (h ≡ g)

-- in each slot below t a port sends a cell if one is there
abbrev pub WorkConserving : Network → ℕ → Schedule → Type 0
WorkConserving N t x = (u c h : ℕ) → u < t → Hop N c h → arrival N x c h ≤ u → u ≤ x c h
    → (q : ℕ) × (g : ℕ) × Hop N q g × (N.port q g ≡ N.port c h) × (x q g ≡ u)

-- a whole run: in the slots below t each cell is sent from each of its hops
pub record Whole (N : Network) (t : ℕ) (x : Schedule) : Type 0 where
  pub sends : Sends N t x
  pub all : (c h : ℕ) → Hop N c h → x c h < t

-- cell c, at its hop h with port p, waited at the end of some slot below t
pub record Waits (N : Network) (t : ℕ) (x : Schedule) (p c h : ℕ) : Type 0 where
  pub on : Hop N c h
  pub at : N.port c h ≡ p
  pub late : (arrival N x c h < t) × (arrival N x c h < x c h)

-- some cell waited at port p
abbrev pub Waited : Network → ℕ → Schedule → ℕ → Type 0
Waited N t x p = (c : ℕ) × (h : ℕ) × Waits N t x p c h

-- some cell waited at port p, in the recording r with horizon t₀ or in the replay x with horizon t
abbrev pub Contested : (N : Network) (t₀ : ℕ) (r : Schedule) (t : ℕ) (x : Schedule) (p : ℕ) → Type 0
Contested N t₀ r t x p = Waited N t₀ r p ⊎ Waited N t x p
