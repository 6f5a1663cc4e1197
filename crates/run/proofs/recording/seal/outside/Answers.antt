use Rattle.std.proofs.Common.{◌≡◌, ◌+◌, length, sym, refl, ap, ◌∙◌, subst, arith, rules}
use Rattle.plan.specs.Cells.{ports_of}
use Rattle.plan.specs.Plans.{cells_of}
use Rattle.plan.proofs.Facts.{few_hops}
use Rattle.plan.proofs.Hops.{hops_more, hops_part}
use Rattle.rules.specs.Loads.{first_hop}
use Rattle.run.specs.Sealing.{Ready}
use Rattle.run.proofs.Prepared.{cell_read, ready_more}
use Rattle.run.proofs.recording.seal.outside.Goals as goal

-- the hops up to and with the cell that was read
turn : (c : goal.After-ports) → c.loop-cell.first + length c.ports.result.now ≡ first_hop (cells_of c.args.plan.now) (c.loop-cell.cell-index + 1)
turn c =
    let cs = cells_of c.args.plan.now in
    let cell = cell_read c.all_cells-cell-items.result.now cs c.loop-cell.cell-index c.cell-item.result c.all_cells-cell-items.ensures c.loop-cell-test.true c.cell-item.is in
    let long = ap length (c.ports.ensures ∙ ap ports_of c.route.ensures ∙ ap (λ x. x.route) (sym cell.1)) in
    let more = hops_more cs c.loop-cell.cell-index cell.0 in
    let first = c.loop-cell.invariant.0 in
    omega arith

pub overflow_add-first : goal.overflow_add-first
overflow_add-first c =
    let all = turn c in
    let within = hops_part (cells_of c.args.plan.now) (c.loop-cell.cell-index + 1) in
    let few = few_hops c.args.plan.now in
    search rules

pub loop-cell-preserved : goal.loop-cell-preserved
loop-cell-preserved c =
    let inv = c.loop-cell.invariant in (
      turn c,
      subst (Ready (cells_of c.args.plan.now) (c.loop-cell.cell-index + 1)) (sym c.push.ensures.items)
          (ready_more (cells_of c.args.plan.now) c.loop-cell.cell-index c.loop-cell.records.items _ inv.1 refl inv.0),
    )
