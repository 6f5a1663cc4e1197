use Rattle.std.proofs.Common.{◌+◌, ◌<◌, length, get_or, ap, ◌∙◌, arith, rules}
use Rattle.plan.specs.Cells.{ports_of}
use Rattle.plan.specs.Plans.{cells_of}
use Rattle.plan.proofs.Facts.{few_hops}
use Rattle.run.specs.Offsets.{no_record}
use Rattle.run.proofs.Hops.{place_within}
use Rattle.run.proofs.recording.Recording.sent.Goals as goal

-- the hop lies within the log
within : (c : goal.After-deref) → ((get_or c.deref.result.now c.args.cell no_record).first + c.args.position < length c.args.log.now) × ((get_or c.deref.result.now c.args.cell no_record).first + c.args.position < 2048)
within c =
    let plan = c.args.self.now.plan in
    let cell = c.in-Some.ensures in
    let ports = ap length (c.ports.ensures ∙ ap ports_of c.route.ensures ∙ ap (λ x. x.route) cell.1) in
    let here = c.if-position-ports.false in
    let place = place_within (cells_of plan) c.args.cell c.args.position cell.0 (omega arith) in
    let first = ap (λ l. (get_or l c.args.cell no_record).first) c.deref.ensures.0 ∙ c.args.self.now.offsets c.args.cell cell.0 in
    let few = few_hops plan in
    let log = c.if-log-hops.false in
    let hops = c.hops.ensures in
    (omega arith, omega arith)

pub overflow_add-result : goal.overflow_add-result
overflow_add-result c = let l = (within c).1 in search rules

pub offset_bounds-log-deref : goal.offset_bounds-log-deref
offset_bounds-log-deref c = let l = (within c).1 in search rules

pub bounds-log-deref : goal.bounds-log-deref
bounds-log-deref c = (within c).0
