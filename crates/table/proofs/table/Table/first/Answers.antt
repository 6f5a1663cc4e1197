use Rattle.std.proofs.Common.{◌≡◌, ◌<◌, get_or, Some, sym, ap, ◌∙◌, subst, arith}
use Rattle.std.proofs.lemmas.List.{get_or-take, length-take-le}
use Rattle.table.specs.Elements.{elements}
use Rattle.table.specs.Order.{Lawful, LeastFrom, first_from}
use Rattle.table.proofs.Laws.{first_from_least}
use Rattle.table.proofs.Places.{found_at, found_none}
use Rattle.table.proofs.table.Table.first.Goals as goal

pub returns-in_err-at : goal.returns-in_err-at
returns-in_err-at g c =
    let le = g.E.Ordered.upto in
    let m = c.args.mark.now in
    let xs = elements c.args.self.now in
    let o : Lawful le = record { total = g.met.E.Ordered.total; trans = g.met.E.Ordered.trans } in
    let told = c.from_residual.ensures ∙ found_none le m xs c.in_err-at.ensures in
    record {
      value = told;
      least = λ s. subst (LeastFrom le m xs) (sym told) (first_from_least le o m xs s);
    }

pub returns : goal.returns
returns g c =
    let le = g.E.Ordered.upto in
    let m = c.args.mark.now in
    let xs = elements c.args.self.now in
    let o : Lawful le = record { total = g.met.E.Ordered.total; trans = g.met.E.Ordered.trans } in
    let n = c.args.self.now.len in
    let places = c.args.self.now.places.now in
    let r = c.in_ok-at.at in
    let x = c.index-self-at.result in
    let found = found_at le m xs r x c.in_ok-at.ensures in
    let bound : r < n = omega (arith, found.0, length-take-le n places c.args.self.now.within) in
    let told : Some (get_or places r x) ≡ first_from le m xs = ap Some (sym (get_or-take n places r x bound)) ∙ found.2 in
    record {
      value = told;
      least = λ s. subst (LeastFrom le m xs) (sym told) (first_from_least le o m xs s);
    }
