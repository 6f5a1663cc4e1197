use Rattle.std.proofs.Common.{length, arith}
use Rattle.table.specs.Elements.{elements}
use Rattle.rules.proofs.Disciplines.{Laws}
use Rattle.run.proofs.Networks.{route_few}
use Rattle.run.proofs.Serving.{turn_idle, stands_somewhere, turn_sends}
use Rattle.run.proofs.recording.Recording.serve.Given as given
use Rattle.run.proofs.recording.Recording.serve.Goals as goal

laws : (g : given.Over) → Laws g.D.Discipline.waiting g.D.Discipline.choice g.D.Discipline.sound g.D.Discipline.arrives g.D.Discipline.picks
laws g = record {
  limits = g.met.D.Discipline.limits;
  chosen = g.met.D.Discipline.chosen;
  arrived = g.met.D.Discipline.arrived;
  picked = g.met.D.Discipline.picked;
}

pub returns-in_default-clause-turn : goal.returns-in_default-clause-turn
returns-in_default-clause-turn g c =
    turn_idle _ _ _ _ _ (laws g) c.args.self.now c.args.log.now c.args.queue.now (elements c.args.flights.now) (length c.args.flights.now.places.now) c.args.port
    c.in_default.field-0 c.pick.new.self c.in_default.ensures

pub returns-in_default-standing-clause-turn : goal.returns-in_default-standing-clause-turn
returns-in_default-standing-clause-turn g c = λ I F A l w. absurd (
    stands_somewhere _ _ _ _ _ (laws g) c.args.self.now c.args.log.now c.args.queue.now (elements c.args.flights.now) (length c.args.flights.now.places.now) c.args.port
    c.in-Ok.cell c.pick.new.self c.in-Ok.ensures I c.in_default-standing.ensures)

pub invariant_of-send : goal.invariant_of-send
invariant_of-send g c =
    let s = c.in-Some.ensures in
    let few = route_few c.args.self.now.plan c.in-Ok.cell s.0.cell in
    let here = s.0.hop in
    record { short = omega arith }

pub returns-clause-turn : goal.returns-clause-turn
returns-clause-turn g c = λ I F A l w.
    let sent = c.send.ensures in
    let mark = c.mark.ensures in
    turn_sends _ _ _ _ _ (laws g) c.args.self.now c.args.log.now c.args.queue.now (elements c.args.flights.now) (length c.args.flights.now.places.now) c.args.port
    c.in-Ok.cell c.pick.new.self c.in-Ok.ensures I
    c.in-Some.standing c.in-Some.ensures c.send.new.self c.mark.new.self sent.sent
    mark.same mark.records mark.gone mark.contested c.requires l
    F A w (elements c.send.new.flights) sent.flown c.send.new.log sent.log
