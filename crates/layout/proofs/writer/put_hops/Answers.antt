use Rattle.std.proofs.Common.{sym, refl, arith, rules}
use Rattle.layout.proofs.Placing.{placed_none}
use Rattle.layout.proofs.Limits.{before_few, total_few}
use Rattle.layout.proofs.Steps.{total_more, hops_more}
use Rattle.layout.proofs.writer.put_hops.Goals as goal

pub loop-c-init : goal.loop-c-init
loop-c-init g c = (refl, sym (placed_none _ _))

pub put_route-requires : goal.put_route-requires
put_route-requires g c =
    let x = g.S.Source.content c.args.s.now in
    let fit = g.met.S.Source.fits c.args.s.now in
    let part = before_few x fit c.loop-c.c (omega arith) in
    let few = total_few x fit in
    record { cell_bound = omega arith; cell_in_bounds = omega arith }

pub overflow_add-before : goal.overflow_add-before
overflow_add-before g c =
    let fit = g.met.S.Source.fits c.args.s.now in
    let part = before_few _ fit c.loop-c.c (omega arith) in
    let few = total_few _ fit in
    search rules

pub loop-c-preserved : goal.loop-c-preserved
loop-c-preserved g c =
    let x = g.S.Source.content c.args.s.now in
    let total = total_more x.cells c.loop-c.c (omega arith) in
    let part = before_few x (g.met.S.Source.fits c.args.s.now) c.loop-c.c (omega arith) in (
      omega arith,
      hops_more x c.args.out.now c.loop-c.c c.loop-c.before (omega arith) (omega arith) c.loop-c.invariant.1 c.put_route.ensures c.loop-c.invariant.0,
    )
