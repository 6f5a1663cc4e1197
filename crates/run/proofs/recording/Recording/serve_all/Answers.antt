use Rattle.std.proofs.Common.{length, refl, ◌∙◌}
use Rattle.table.specs.Elements.{elements}
use Rattle.rules.proofs.Disciplines.{Laws}
use Rattle.run.proofs.Kept.{kept_again}
use Rattle.run.proofs.Serving.{turns_start, turns_more}
use Rattle.run.proofs.recording.Recording.serve_all.Given as given
use Rattle.run.proofs.recording.Recording.serve_all.Goals as goal

laws : (g : given.Over) → Laws g.D.Discipline.waiting g.D.Discipline.choice g.D.Discipline.sound g.D.Discipline.arrives g.D.Discipline.picks
laws g = record {
  limits = g.met.D.Discipline.limits;
  chosen = g.met.D.Discipline.chosen;
  arrived = g.met.D.Discipline.arrived;
  picked = g.met.D.Discipline.picked;
}

pub loop-port-init : goal.loop-port-init
loop-port-init g c = (
  record { plan = refl; pile = refl; next = refl; flying = refl },
  (refl, refl),
  turns_start _ _ _ _ _ (laws g) (length c.args.flights.now.places.now) c.args.self.now c.args.log.now c.args.queue.now (elements c.args.flights.now),
)

pub loop-port-preserved : goal.loop-port-preserved
loop-port-preserved g c = (
  kept_again c.loop-port.invariant.0 c.serve.ensures.same,
  (c.serve.ensures.places.0 ∙ c.loop-port.invariant.1.0, c.serve.ensures.places.1 ∙ c.loop-port.invariant.1.1),
  turns_more _ _ _ _ _ (laws g) (length c.args.flights.now.places.now) c.args.self.now c.args.log.now c.args.queue.now (elements c.args.flights.now)
      c.loop-port.port c.loop-port.self c.loop-port.log c.loop-port.queue (elements c.loop-port.flights) c.loop-port.invariant.0 c.loop-port.auto.log c.loop-port.invariant.2
      (length c.loop-port.flights.places.now) c.loop-port.invariant.1.1
      c.serve.new.self c.serve.new.log c.serve.new.queue (elements c.serve.new.flights) c.serve.ensures.turn,
)
