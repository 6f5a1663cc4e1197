use Rattle.std.proofs.Common.{◌≡◌, ◌≤◌, [], length}
use Rattle.plan.specs.Plans.{cells_of}
use Rattle.table.specs.Elements.{elements, SamePlaces}
use Rattle.run.specs.Sealing.{launched}
use Rattle.run.proofs.recording.seal.put_flights.Given as goal

abbrev pub invariant-loop-number : goal.invariant-loop-number
invariant-loop-number l =
    SamePlaces l.initial.table l.table
    × (elements l.initial.table ≡ [] → length (cells_of l.plan) ≤ length l.initial.table.places.now → elements l.table ≡ launched (cells_of l.plan) l.number)
