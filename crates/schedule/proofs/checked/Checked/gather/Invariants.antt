use Rattle.std.proofs.Common.{◌≡◌, None}
use Rattle.refusal.specs.Tests.{each_below}
use Rattle.layout.specs.Order.{chain_test}
use Rattle.schedule.specs.Gathering.{GatheredTo}
use Rattle.schedule.proofs.checked.Checked.gather.Given as goal

abbrev pub invariant-loop-cell : goal.invariant-loop-cell
invariant-loop-cell l =
    (each_below l.cell (chain_test l.self.image.bytes.now) ≡ None)
    × GatheredTo l.self.image.bytes.now l.self.image.head.kind l.cell l.gathering
