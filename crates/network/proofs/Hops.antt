-- Hops of a route.
use Rattle.std.proofs.Common.{ℕ, suc, ◌<◌, arith}
use Rattle.network.specs.Networks.{Network, Hop, Sound, last}

pub hop_before : (N : Network) (c h : ℕ) → Hop N c (suc h) → Hop N c h
hop_before N c h on = record { cell = on.cell; hop = (let l = on.hop in omega arith) }

pub hop_last : (N : Network) → Sound N → (c : ℕ) → c < N.cells → Hop N c (last N c)
hop_last N O c cn = let l = O.some c cn in record { cell = cn; hop = omega arith }
