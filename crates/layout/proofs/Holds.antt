-- The canonical file holds its content.
use Rattle.std.proofs.Common.{ℕ, ◌<◌, length, sym, ap, ◌∙◌, arith, w32, to_z}
use Rattle.std.proofs.lemmas.Int.{to_z-of_z}
use Rattle.layout.specs.Contents.{Content, Fit}
use Rattle.layout.specs.Holding.{CellHeld, Held}
use Rattle.layout.specs.Canonical.{canonical}
use Rattle.layout.proofs.Limits.{cell, hops_some, total_few, before_few}
use Rattle.layout.proofs.Image.{first_of, kind_is, pile_is, ports_is, cells_is, delay_is, cell_is, route_is}
use Rattle.layout.proofs.Chains.{Consecutive, consecutive, chained}

module _ (x : Content) (fit : Fit x) where
  -- the hop records of cell c follow one another
  pub route_consecutive : (c : ℕ) → c < length x.cells → Consecutive (canonical x) (first_of x c) (cell x c).hops
  route_consecutive c l =
      let a = before_few x fit c l in
      let b = total_few x fit in
      consecutive (canonical x) (first_of x c) (cell x c).hops (omega arith) (omega arith) (fit.marks c l).1
      (route_is x fit c l)

  pub cell_held : (c : ℕ) → c < length x.cells → CellHeld (canonical x) c (cell x c)
  cell_held c l =
      let r = cell_is x fit c l in
      let some = hops_some x fit c l in
      record {
        entry = sym r.entry;
        flow = sym r.flow;
        slack = sym (ap (to_z w32) r.slack ∙ to_z-of_z w32 (cell x c).slack (fit.marks c l).0);
        hops = rw r.first (chained (canonical x) (first_of x c) (cell x c).hops (omega arith) some (route_consecutive c l));
      }

  pub holds : Held (canonical x) x
  holds =
      record {
        kind = sym (kind_is x);
        pile = sym (pile_is x);
        ports = sym (ports_is x fit);
        cells = sym (cells_is x fit);
        delays = λ p l. sym (delay_is x fit p l);
        each = cell_held;
      }
