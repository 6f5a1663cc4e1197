use Rattle.std.proofs.Common.{◌≡◌}
use Rattle.plan.specs.Plans.{cells_of}
use Rattle.rules.specs.Loads.{first_hop}
use Rattle.run.specs.Sealing.{Ready}
use Rattle.run.proofs.recording.seal.outside.Given as goal

abbrev pub invariant-loop-cell : goal.invariant-loop-cell
invariant-loop-cell l = (l.first ≡ first_hop (cells_of l.plan) l.cell-index) × Ready (cells_of l.plan) l.cell-index l.records.items
