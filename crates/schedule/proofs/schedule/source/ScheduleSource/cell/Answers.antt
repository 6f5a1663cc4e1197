use Rattle.std.proofs.Common.{length, sym, ap, ◌∙◌, subst, w32, SFits, rules}
use Rattle.std.proofs.lemmas.Int.{to_z-of_z}
use Rattle.plan.specs.Cells.{planned, ports_of}
use Rattle.layout.specs.Sources.{TellsCell}
use Rattle.schedule.specs.Contents.{cell_is, cell_past, length_hops}
use Rattle.schedule.proofs.schedule.source.ScheduleSource.cell.Goals as goal

pub returns-in_default : goal.returns-in_default
returns-in_default c =
    subst (TellsCell _) (sym (cell_past c.args.self.now c.args.cell c.in_default.ensures))
    (let z = c.default.ensures in record { entry = z.0; flow = z.1.0; slack = z.1.1.0; hops = z.1.1.1 })

pub returns : goal.returns
returns c =
    let h = c.in-Some.ensures in
    let m = c.index.result.now in
    let small : SFits w32 m.slack = search rules in
    subst (TellsCell _) (sym (cell_is c.args.self.now c.args.cell (planned c.in-Some.planned) m h.0 h.1 c.index.ensures))
    (record {
      entry = c.entry.ensures;
      flow = c.flow.ensures;
      slack = to_z-of_z w32 m.slack small;
      hops = ap length (c.ports-hops.ensures ∙ ap ports_of c.route.ensures) ∙ sym (length_hops (ports_of c.in-Some.planned.route) m.sent);
    })
