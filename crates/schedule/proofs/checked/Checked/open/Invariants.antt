use Rattle.std.proofs.Common.{◌≡◌, []}
use Rattle.plan.specs.Plans.{delays_of, cells_of}
use Rattle.schedule.specs.Gathering.{Ported}
use Rattle.schedule.proofs.checked.Checked.open.Given as goal

abbrev pub invariant-loop-port : goal.invariant-loop-port
invariant-loop-port l = Ported l.self.image.bytes.now l.port (delays_of l.plan) × (cells_of l.plan ≡ [])
