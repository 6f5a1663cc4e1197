use Rattle.std.proofs.Common.{◌≡◌}
use Rattle.layout.specs.Placed.{placed}
use Rattle.layout.proofs.Steps.{ports_done}
use Rattle.layout.proofs.writer.put_ports.Given as goal

abbrev pub invariant-loop-p : goal.invariant-loop-p
invariant-loop-p g l = l.out ≡ placed l.initial.out 8 (ports_done (g.S.Source.content l.s) l.p)
