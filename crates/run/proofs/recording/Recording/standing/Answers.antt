use Rattle.std.proofs.Common.{◌∙◌, length, sym, ap, arith, rules}
use Rattle.std.proofs.lemmas.Bool.{ltb-true}
use Rattle.plan.specs.Cells.{ports_of}
use Rattle.plan.specs.Plans.{cells_of}
use Rattle.plan.proofs.Facts.{few_hops}
use Rattle.run.proofs.Hops.{place_within}
use Rattle.run.proofs.recording.Recording.standing.Goals as goal

-- the hop of a cell of the plan lies within the log
pub overflow_add-result-2 : goal.overflow_add-result-2
overflow_add-result-2 c =
    let plan = c.args.self.now.plan in
    let cell = c.in_ok-planned.ensures in
    let long = ap length (c.ports-ports.ensures ∙ ap ports_of c.route-route.ensures ∙ ap (λ x. x.route) cell.1) in
    let here = ltb-true c.in-Waiting.position (length c.ports-ports.result.now) (sym c.in_ok-port.ensures.lookup.0) in
    let within = place_within (cells_of plan) c.args.cell c.in-Waiting.position cell.0 (omega arith) in
    let few = few_hops plan in
    let first = c.args.self.now.offsets c.args.cell cell.0 in
    search rules
