use Rattle.std.proofs.Common.{length, sym, refl, ap, ◌∙◌, arith}
use Rattle.plan.specs.Plans.{cells_of}
use Rattle.table.specs.Elements.{elements}
use Rattle.run.proofs.Prepared.{cell_read, launched_more}
use Rattle.run.proofs.recording.seal.put_flights.Goals as goal

pub loop-number-preserved : goal.loop-number-preserved
loop-number-preserved c =
    let cs = cells_of c.args.plan.now in
    let read = cell_read c.all_cells-cell-items.result.now cs c.loop-number.number c.cell-item.result c.all_cells-cell-items.ensures c.loop-number-test.true c.cell-item.is in (
      (c.put.ensures.same.0 ∙ c.loop-number.invariant.0.0, c.put.ensures.same.1 ∙ c.loop-number.invariant.0.1),
      λ e l.
          launched_more cs c.loop-number.number (length c.loop-number.table.places.now) _ (elements c.loop-number.table) (elements c.put.new.self) c.put.result _
          read.0 (let long = c.loop-number.invariant.0.1 in omega arith) (c.loop-number.invariant.1 e l)
          (c.from-slot.ensures ∙ c.entry.ensures ∙ ap (λ x. x.entry) (sym read.1)) refl c.put.ensures.value c.put.ensures.done,
    )
