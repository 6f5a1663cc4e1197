use Rattle.std.proofs.Common.{length}
use Rattle.table.specs.Elements.{elements, SamePlaces}
use Rattle.run.specs.Recordings.{Kept}
use Rattle.run.proofs.Landed.{Landed}
use Rattle.run.proofs.recording.Recording.enter_all.Given as goal

abbrev pub invariant-loop-cell : goal.invariant-loop-cell
invariant-loop-cell g l =
    Kept l.initial.self l.self
    × SamePlaces l.initial.flights l.flights
    × Landed g.D.Discipline.waiting g.D.Discipline.sound g.D.Discipline.arrives g.D.Discipline.picks l.initial.self l.initial.queue (elements l.initial.flights) l.self l.queue (elements l.flights)

abbrev pub decreases-loop-cell : goal.decreases-loop-cell
decreases-loop-cell g l = length (elements l.flights)
