use Rattle.std.proofs.Common.{◌≡◌, ◌++◌, string_bytes}
use Rattle.summary.specs.Summaries.{cell_lines}
use Rattle.summary.proofs.write_cells.Given as goal

abbrev pub invariant-loop-cell : goal.invariant-loop-cell
invariant-loop-cell l = string_bytes l.text ≡ string_bytes l.initial.text ++ cell_lines l.ended.recording.now l.ended.log.now l.cell
