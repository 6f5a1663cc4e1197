use Rattle.run.specs.Slots.{Coherent}
use Rattle.run.proofs.Calling.{Made}
use Rattle.run.proofs.recording.Recording.slots.Given as goal

abbrev pub invariant-loop-call : goal.invariant-loop-call
invariant-loop-call g l =
    Coherent g.D.Discipline.waiting g.D.Discipline.sound l.initial.self l.initial.flights l.initial.log l.initial.queue
    → Made g.D.Discipline.waiting g.D.Discipline.sound g.D.Discipline.arrives g.D.Discipline.picks l.initial.self l.initial.log l.initial.queue l._call l.self l.flights l.log l.queue
