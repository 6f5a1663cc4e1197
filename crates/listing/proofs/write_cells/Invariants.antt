use Rattle.std.proofs.Common.{◌≡◌, ◌++◌, drop, string_bytes}
use Rattle.listing.specs.Listed.{lines_from, cell_line}
use Rattle.listing.proofs.write_cells.Given as goal

-- what is written, with the lines that are left, is the whole
abbrev pub invariant-loop-cell : goal.invariant-loop-cell
invariant-loop-cell g l =
    string_bytes l.text ++ lines_from (cell_line (g.S.Source.content l.s).kind) l.cell (drop l.cell (g.S.Source.content l.s).cells)
    ≡ string_bytes l.initial.text ++ lines_from (cell_line (g.S.Source.content l.s).kind) 0 (g.S.Source.content l.s).cells
