use Rattle.std.proofs.Common.{◌+◌, ◌-◌, ◌≤◌, not, take, slice_set, sym, ap, ◌∙◌, subst, arith, rules}
use Rattle.std.specs.List.{CopiedTo, SameBelow, SameFrom}
use Rattle.std.specs.Option.{unwrap_or}
use Rattle.std.proofs.lemmas.List.{length-take-le}
use Rattle.table.specs.Elements.{elements}
use Rattle.table.specs.Order.{Lawful, Sorted}
use Rattle.table.proofs.Laws.{sorted_put_in, put_in_behind_equals}
use Rattle.table.proofs.Moves.{opened}
use Rattle.table.proofs.Places.{behind_few, place_or_end, put_elements}
use Rattle.table.proofs.table.Table.put.Goals as goal

pub returns-clause-done : goal.returns-clause-done
returns-clause-done g c =
    let le = g.E.Ordered.upto in
    let e = c.args.e in
    let xs = c.args.self.now.places.now in
    let n = c.args.self.now.len in
    let r = c.unwrap_or-at.result in
    let zs = c.copy_within.new.self in
    let long = length-take-le n xs c.args.self.now.within in
    let at = c.unwrap_or-at.ensures ∙ ap (λ o. unwrap_or o n) c.place_after.ensures.value ∙ place_or_end (λ x. not (le x e)) (take n xs) n (sym long) in
    let bound : r ≤ n = omega (arith, at, long, behind_few le e (take n xs)) in
    let moved : CopiedTo xs zs r (r + 1) (n - r) × SameBelow xs zs (r + 1) × SameFrom xs zs (r + 1 + (n - r)) = search rules in
    let is = opened xs zs n r e bound (omega arith) c.copy_within.ensures.len moved in
    put_elements le e xs (slice_set zs r e) n r (omega arith) at bound is

pub returns-clause-sorted : goal.returns-clause-sorted
returns-clause-sorted g c s =
    let le = g.E.Ordered.upto in
    let o : Lawful le = record { total = g.met.E.Ordered.total; trans = g.met.E.Ordered.trans } in
    subst (Sorted le) (sym (returns-clause-done g c)) (sorted_put_in le o c.args.e (elements c.args.self.now) s)

pub returns-clause-stable : goal.returns-clause-stable
returns-clause-stable g c s =
    let le = g.E.Ordered.upto in
    let o : Lawful le = record { total = g.met.E.Ordered.total; trans = g.met.E.Ordered.trans } in
    returns-clause-done g c ∙ put_in_behind_equals le o c.args.e (elements c.args.self.now) s
