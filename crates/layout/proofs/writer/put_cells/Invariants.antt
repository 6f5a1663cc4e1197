use Rattle.std.proofs.Common.{◌≡◌, ◌+◌, take}
use Rattle.layout.specs.Contents.{total_hops}
use Rattle.layout.specs.Placed.{placed, cells_start}
use Rattle.layout.proofs.Steps.{cells_done}
use Rattle.layout.proofs.writer.put_cells.Given as goal

abbrev pub invariant-loop-c : goal.invariant-loop-c
invariant-loop-c g l =
    (l.first ≡ 1 + total_hops (take l.c (g.S.Source.content l.s).cells))
    × (l.out ≡ placed l.initial.out (cells_start (g.S.Source.content l.s)) (cells_done (g.S.Source.content l.s) l.c))
