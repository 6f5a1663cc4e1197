use Rattle.std.proofs.Common.{◌≡◌, ℕ, ◌<◌, map, length, get_or, take, drop, pos}
use Rattle.plan.specs.Cells.{planned, no_cell, hops_in}
use Rattle.layout.specs.Contents.{no_scheduled}
use Rattle.sheet.specs.Rows.{scheduled}
use Rattle.sheet.specs.Sheets.{Told}
use Rattle.sheet.proofs.sheet.build.rows_of.Given as goal

-- a row for each cell so far, and the slots that are left are those of the others
abbrev pub invariant-loop-cell : goal.invariant-loop-cell
invariant-loop-cell l =
    (length l.rows.items ≡ length l.yielded)
    × (l.rest ≡ drop (hops_in (take (length l.yielded) (map planned l.cells))) l.slots)
    × ((k : ℕ) → k < length l.yielded → Told (get_or (map planned l.cells) k no_cell) (get_or l.slacks k (pos 0)) l.slots (hops_in (take k (map planned l.cells))) (get_or (map scheduled l.rows.items) k no_scheduled))
