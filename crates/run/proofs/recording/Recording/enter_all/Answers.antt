use Rattle.std.proofs.Common.{length, refl, ap, ◌∙◌, arith}
use Rattle.table.specs.Elements.{elements}
use Rattle.table.specs.Kinds.{flight_upto}
use Rattle.table.proofs.Laws.{length_taken_from}
use Rattle.rules.specs.Landing.{from_slot}
use Rattle.rules.proofs.Disciplines.{Laws}
use Rattle.run.proofs.Kept.{kept_again}
use Rattle.run.proofs.Landed.{landed_start, landed_more, landed_end}
use Rattle.run.proofs.recording.Recording.enter_all.Given as given
use Rattle.run.proofs.recording.Recording.enter_all.Goals as goal

laws : (g : given.Over) → Laws g.D.Discipline.waiting g.D.Discipline.choice g.D.Discipline.sound g.D.Discipline.arrives g.D.Discipline.picks
laws g = record {
  limits = g.met.D.Discipline.limits;
  chosen = g.met.D.Discipline.chosen;
  arrived = g.met.D.Discipline.arrived;
  picked = g.met.D.Discipline.picked;
}

pub loop-cell-init : goal.loop-cell-init
loop-cell-init g c = (
  record { plan = refl; pile = refl; next = refl; flying = refl },
  (refl, refl),
  landed_start _ _ _ _ _ (laws g) c.args.self.now c.args.queue.now (elements c.args.flights.now),
)

pub loop-cell-smaller : goal.loop-cell-smaller
loop-cell-smaller g c =
    let t = c.in-Some.ensures.taken in
    let a = length_taken_from flight_upto (from_slot c.args.self.now.next) (elements c.loop-cell.flights) _ t.0 in
    let b = ap length t.1 in
    omega arith

pub loop-cell-preserved : goal.loop-cell-preserved
loop-cell-preserved g c = (
  kept_again c.loop-cell.invariant.0 c.enter.ensures.same,
  (c.in-Some.ensures.places.0 ∙ c.loop-cell.invariant.1.0, c.in-Some.ensures.places.1 ∙ c.loop-cell.invariant.1.1),
  landed_more _ _ _ _ _ (laws g) c.args.self.now c.args.queue.now (elements c.args.flights.now) c.loop-cell.self c.loop-cell.invariant.0
      c.loop-cell.queue (elements c.loop-cell.flights) (elements c.take_landing.new.flights) c.loop-cell.invariant.2
      c.in-Some.cell c.in-Some.ensures.taken c.enter.new.self c.enter.new.queue c.enter.ensures.arrives,
)

pub returns-clause-enters : goal.returns-clause-enters
returns-clause-enters g c =
    landed_end _ _ _ _ _ (laws g) c.args.self.now c.args.queue.now (elements c.args.flights.now) c.loop-cell.self c.loop-cell.invariant.0
    c.loop-cell.queue (elements c.loop-cell.flights) (elements c.take_landing.new.flights) c.loop-cell.invariant.2 c.in_default.ensures.taken
