use Rattle.std.proofs.Common.{length}
use Rattle.table.specs.Elements.{elements, SamePlaces}
use Rattle.run.specs.Recordings.{Kept}
use Rattle.run.specs.Steps.{Turns}
use Rattle.run.proofs.recording.Recording.serve_all.Given as goal

abbrev pub invariant-loop-port : goal.invariant-loop-port
invariant-loop-port g l =
    Kept l.initial.self l.self
    × SamePlaces l.initial.flights l.flights
    × Turns g.D.Discipline.waiting g.D.Discipline.sound g.D.Discipline.arrives g.D.Discipline.picks (length l.initial.flights.places.now) l.port
    l.initial.self l.initial.log l.initial.queue (elements l.initial.flights) l.self l.log l.queue (elements l.flights)
