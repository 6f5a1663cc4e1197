use Rattle.run.proofs.Entering.{stands_somewhere, arrives_so}
use Rattle.run.proofs.recording.Recording.enter.Goals as goal

pub returns-in-Some-clause-arrives : goal.returns-in-Some-clause-arrives
returns-in-Some-clause-arrives g c = λ log I l p.
    let h = c.happen.ensures in
    arrives_so g.D.Discipline.waiting g.D.Discipline.sound g.D.Discipline.arrives g.D.Discipline.picks
    c.args.self.now c.happen.new.self c.args.cell l h.kept h.records h.contested h.gone log c.args.queue.now I p
    c.in-Some.standing c.in-Some.ensures c.arrive.result c.arrive.new.self c.arrive.ensures

pub returns-in_default-clause-arrives : goal.returns-in_default-clause-arrives
returns-in_default-clause-arrives g c = λ log I l p.
    let h = c.happen.ensures in
    absurd (
    stands_somewhere g.D.Discipline.waiting g.D.Discipline.sound g.D.Discipline.arrives g.D.Discipline.picks
    c.args.self.now c.happen.new.self c.args.cell l h.kept h.records h.contested h.gone log c.args.queue.now I p
    c.in_default.ensures)
