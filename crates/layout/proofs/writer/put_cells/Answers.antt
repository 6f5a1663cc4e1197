use Rattle.std.proofs.Common.{sym, refl, arith, rules}
use Rattle.layout.proofs.Placing.{placed_none}
use Rattle.layout.proofs.Limits.{before_few, total_few}
use Rattle.layout.proofs.Steps.{total_more, cells_more}
use Rattle.layout.proofs.writer.put_cells.Goals as goal

pub loop-c-init : goal.loop-c-init
loop-c-init g c = (refl, sym (placed_none _ _))

pub overflow_cast-first : goal.overflow_cast-first
overflow_cast-first g c =
    let fit = g.met.S.Source.fits c.args.s.now in
    let part = before_few _ fit c.loop-c.c (omega arith) in
    let few = total_few _ fit in
    search rules

pub overflow_add-first : goal.overflow_add-first
overflow_add-first g c =
    let fit = g.met.S.Source.fits c.args.s.now in
    let part = before_few _ fit c.loop-c.c (omega arith) in
    let few = total_few _ fit in
    search rules

pub loop-c-preserved : goal.loop-c-preserved
loop-c-preserved g c =
    let total = total_more (g.S.Source.content c.args.s.now).cells c.loop-c.c (omega arith) in (
      omega arith,
      cells_more (g.S.Source.content c.args.s.now) c.args.out.now c.loop-c.c c.cell-cell.result (omega arith) c.requires
          c.loop-c.invariant.1 c.put.ensures (omega arith) c.loop-c.invariant.0 c.cell-cell.ensures c.cell_record.ensures,
    )
