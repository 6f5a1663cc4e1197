-- A network of ports with delays, and the cells that go through it by their routes.
use Rattle.std.specs.Prelude.{ℕ, zero, suc, ◌+◌, ◌-◌, ◌<◌}

-- The cells are the numbers below `cells`. Cell c enters in slot `entry c` and has the hops below `len c`. From hop h it is sent by
-- port `port c h`, and it arrives at the next hop `delay` of that port later.
pub record Network : Type 0 where
  pub cells : ℕ
  pub entry : ℕ → ℕ
  pub len : ℕ → ℕ
  pub port : ℕ → ℕ → ℕ
  pub delay : ℕ → ℕ

-- cell c is one of the network, and h is a hop of its route
pub record Hop (N : Network) (c h : ℕ) : Type 0 where
  pub cell : c < N.cells
  pub hop : h < N.len c

-- each route has a hop, and each delay is at least one slot
pub record Sound (N : Network) : Type 0 where
  pub some : (c : ℕ) → c < N.cells → 0 < N.len c
  pub apart : (c h : ℕ) → Hop N c h → 0 < N.delay (N.port c h)

-- the last hop of cell c
abbrev pub last : Network → ℕ → ℕ
last N c = N.len c - 1

-- the delays of the hops of cell c before hop h, together
abbrev pub travel : Network → ℕ → ℕ → ℕ
travel N c zero = 0
travel N c (suc h) = travel N c h + N.delay (N.port c h)

-- the slots from the entry of cell c to its sending from its last hop, if it never waits
abbrev pub least_travel : Network → ℕ → ℕ
least_travel N c = travel N c (last N c)

-- f 0 + f 1 + .. + f (n - 1)
abbrev pub sum : (ℕ → ℕ) → ℕ → ℕ
sum f zero = 0
sum f (suc n) = sum f n + f n

-- the hops of all cells together
abbrev pub hops : Network → ℕ
hops N = sum N.len N.cells
