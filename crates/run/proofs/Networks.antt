-- What the network of a plan keeps.
use Rattle.std.proofs.Common.{ℕ, ◌<◌, ◌≤◌, length, arith}
use Rattle.network.specs.Networks.{Network, Hop, Sound}
use Rattle.plan.specs.Plans.{delays_of, cells_of}
use Rattle.plan.specs.declared.plan.Plan.{Plan}
use Rattle.plan.proofs.Facts.{cells_fit, delays_fit_lem, few_ports_lem, few_cells_lem}
use Rattle.rules.specs.Loads.{network, flow_of}

module _ (p : Plan) where
  abbrev N : Network
  N = network (delays_of p) (cells_of p)

  pub port_known : (c h : ℕ) → Hop N c h → N.port c h < length (delays_of p)
  port_known c h on = (cells_fit p c on.cell).2.2 h on.hop

  pub port_few : (c h : ℕ) → Hop N c h → N.port c h ≤ 31
  port_few c h on = let a = port_known c h on in let b = few_ports_lem p in omega arith

  pub route_few : (c : ℕ) → c < N.cells → N.len c ≤ 8
  route_few c l = (cells_fit p c l).2.1

  pub cell_few : (c : ℕ) → c < N.cells → c ≤ 255
  cell_few c l = let a = few_cells_lem p in omega arith

  pub flow_few : (c : ℕ) → c < N.cells → flow_of (cells_of p) c ≤ 7
  flow_few c l = (cells_fit p c l).1

  pub entry_few : (c : ℕ) → c < N.cells → N.entry c ≤ 65535
  entry_few c l = (cells_fit p c l).0

  pub delay_few : (c h : ℕ) → Hop N c h → N.delay (N.port c h) ≤ 255
  delay_few c h on = (delays_fit_lem p (N.port c h) (port_known c h on)).1

  pub sound : Sound N
  sound = record {
    some = λ c l. (cells_fit p c l).2.0;
    apart = λ c h on. (delays_fit_lem p (N.port c h) (port_known c h on)).0;
  }
