use Rattle.std.proofs.Common.{◌≡◌, ◌+◌, ◌-◌, ◌<◌, get_or, take, drop, Some, sym, ap, ◌∙◌, subst, arith, rules}
use Rattle.std.specs.List.{CopiedTo, SameBelow, SameFrom}
use Rattle.std.proofs.lemmas.List.{get_or-take, length-take-le}
use Rattle.table.specs.Elements.{elements}
use Rattle.table.specs.Order.{Lawful, Sorted, first_from}
use Rattle.table.proofs.Laws.{sorted_taken_from, taken_from_none}
use Rattle.table.proofs.Moves.{closed}
use Rattle.table.proofs.Places.{found_at, found_none, take_elements, take_rest}
use Rattle.table.proofs.table.Table.take_first.Goals as goal

pub returns-in_err-at : goal.returns-in_err-at
returns-in_err-at g c =
    let le = g.E.Ordered.upto in
    let m = c.args.mark.now in
    let xs = elements c.args.self.now in
    let none = found_none le m xs c.in_err-at.ensures in
    record {
      value = c.from_residual.ensures ∙ none;
      done = sym (taken_from_none le m xs (sym none));
      none = search rules;
      sorted = search rules;
      rest = search rules;
      same = search rules;
    }

pub returns : goal.returns
returns g c =
    let le = g.E.Ordered.upto in
    let o : Lawful le = record { total = g.met.E.Ordered.total; trans = g.met.E.Ordered.trans } in
    let m = c.args.mark.now in
    let xs = c.args.self.now.places.now in
    let n = c.args.self.now.len in
    let r = c.in_ok-at.at in
    let x = c.index-self-at.result in
    let zs = c.copy_within.new.self in
    let found = found_at le m (take n xs) r x c.in_ok-at.ensures in
    let bound : r < n = omega (arith, found.0, length-take-le n xs c.args.self.now.within) in
    let told : Some (get_or xs r x) ≡ first_from le m (take n xs) = ap Some (sym (get_or-take n xs r x bound)) ∙ found.2 in
    let moved : CopiedTo xs zs (r + 1) r (n - (r + 1)) × SameBelow xs zs r × SameFrom xs zs (r + (n - (r + 1))) = search rules in
    let is = closed xs zs n r bound c.args.self.now.within c.copy_within.ensures.len moved in
    let taken = take_elements le m xs zs n r c.args.self.now.within found.1 bound is in
    record {
      value = told;
      done = taken;
      none = search rules;
      sorted = λ s. subst (Sorted le) (sym taken) (sorted_taken_from le o m (take n xs) s);
      rest = subst (λ k. drop k zs ≡ drop k xs) (sym (length-take-le (n - 1) zs (omega (arith, c.args.self.now.within, c.copy_within.ensures.len)))) (take_rest le m xs zs n r c.args.self.now.within found.1 bound is);
      same = search rules;
    }
