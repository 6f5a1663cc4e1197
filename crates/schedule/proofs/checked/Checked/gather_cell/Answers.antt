use Rattle.std.proofs.Common.{◌≡◌, ◌+◌, ◌<◌, sym, ap, ◌∙◌, subst, add-one, arith, w32, SFits, to_z, of_z, rules}
use Rattle.std.proofs.lemmas.Result.{err_from_is_err_and}
use Rattle.std.proofs.lemmas.Int.{to_z-of_z}
use Rattle.plan.specs.Plans.{delays_of, cells_of}
use Rattle.layout.specs.Fields.{cell_count, slack_at}
use Rattle.layout.specs.Order.{reached}
use Rattle.schedule.specs.Chains.{Seen}
use Rattle.schedule.specs.declared.marks.Marks.{Marks}
use Rattle.schedule.proofs.Gathered.{gather_stops, gather_passes, gather_done, gathered_as}
use Rattle.schedule.proofs.checked.Checked.gather_cell.Goals as goal

pub returns-in_err-add_cell : goal.returns-in_err-add_cell
returns-in_err-add_cell c =
    let p = err_from_is_err_and c.from_residual-in_err-add_cell.result c.from_residual-in_err-add_cell.ensures.1 in
    let bs = c.args.self.now.image.bytes.now in
    let g = c.requires.gathered.held in
    let w = c.in_ok-found.ensures in
    let known : c.args.cell < cell_count bs = omega arith in
    let few : c.args.cell < 256 = omega arith in
    let h = c.in_err-add_cell.ensures in
    rw (p.1, p.2)
    (gather_stops bs c.args.self.now.passed c.args.cell known few (delays_of c.args.gathering.now.plan) (cells_of c.args.gathering.now.plan) _ _ _
    g.ports.count g.cells (ap (λ r. r.flow) c.cell-raw.ensures) c.ports.ensures w.0 w.1 _ h.0)

pub returns : goal.returns
returns c =
    let bs = c.args.self.now.image.bytes.now in
    let g = c.requires.gathered.held in
    let w = c.in_ok-found.ensures in
    let limits = c.args.self.now.image.limits in
    let cells_are = c.args.self.now.image.cells_read in
    let before = c.requires.known in
    let known : c.args.cell < cell_count bs = omega arith in
    let few : c.args.cell < 256 = omega arith in
    let raw = c.cell-raw.ensures in
    let h = c.in_ok-add_cell.ensures in
    let small : SFits w32 c.cast_signed-slack.result = search rules in
    let same : to_z w32 (of_z w32 c.cast_signed-slack.result) ≡ c.cast_signed-slack.result = to_z-of_z w32 _ small in
    let m : Marks = record { slack = to_z w32 (of_z w32 c.cast_signed-slack.result); sent = c.sent-sent.result } in
    let slack-is : m.slack ≡ slack_at bs c.args.cell = same ∙ c.cast_signed-slack.ensures ∙ ap (λ r. to_z w32 r.slack) raw in
    let fits : SFits w32 m.slack = subst (SFits w32) (sym same) small in
    let passes = gather_passes bs c.args.self.now.passed c.args.cell known few (delays_of c.args.gathering.now.plan) (cells_of c.args.gathering.now.plan) _ _ _
    g.ports.count g.cells (ap (λ r. r.flow) raw) c.ports.ensures w.0 w.1 h.0 in
    let done = gather_done bs c.args.self.now.passed c.args.cell known few (delays_of c.args.gathering.now.plan) (cells_of c.args.gathering.now.plan) _ _ _
    g.ports.count g.cells (ap (λ r. r.flow) raw) c.ports.ensures w.0 w.1 h.0
    c.args.self.now.image.head.kind _ _ m c.args.self.now.image.kind_read (ap (λ r. r.entry) raw) slack-is c.sent-sent.ensures fits g in (
      passes,
      record {
        long = w.3;
        seen = subst (λ n. Seen c.walk.new.seen (reached bs n)) (sym (add-one c.args.cell)) w.2;
        held = gathered_as bs c.args.self.now.image.head.kind (c.args.cell + 1) h.2.delays h.2.cells c.in_ok-push.ensures.items done;
      },
    )
