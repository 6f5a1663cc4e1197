use Rattle.std.proofs.Common.{◌≡◌, take}
use Rattle.layout.specs.Contents.{total_hops}
use Rattle.layout.specs.Placed.{placed, hop_start}
use Rattle.layout.proofs.Steps.{hops_done}
use Rattle.layout.proofs.writer.put_hops.Given as goal

abbrev pub invariant-loop-c : goal.invariant-loop-c
invariant-loop-c g l =
    (l.before ≡ total_hops (take l.c (g.S.Source.content l.s).cells))
    × (l.out ≡ placed l.initial.out (hop_start (g.S.Source.content l.s) 0) (hops_done (g.S.Source.content l.s) l.c))
