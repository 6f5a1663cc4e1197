use Rattle.std.proofs.Common.{◌≡◌, ◌+◌}
use Rattle.layout.specs.Placed.{placed, hop_start, hops_of}
use Rattle.layout.proofs.Steps.{route_done}
use Rattle.layout.proofs.writer.put_route.Given as goal

abbrev pub invariant-loop-position : goal.invariant-loop-position
invariant-loop-position g l =
    l.out ≡ placed l.initial.out (hop_start (g.S.Source.content l.s) l.before) (route_done (1 + l.before) (hops_of (g.S.Source.content l.s) l.cell) l.position)
