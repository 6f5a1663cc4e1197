use Rattle.std.proofs.Common.{◌≡◌, ◌++◌, length, string_bytes, subst, ◌∙◌, append_assoc, add-one}
use Rattle.plan.specs.Plans.{cells_of, Asked}
use Rattle.outcome.specs.Outcomes.{outcome_of}
use Rattle.summary.specs.Summaries.{cell_line, cell_lines}
use Rattle.summary.proofs.write_cells.Goals as goal

pub loop-cell-preserved : goal.loop-cell-preserved
loop-cell-preserved c =
    let e = c.args.ended.now in
    let i = c.loop-cell.cell in
    let is : c.unwrap.result ≡ outcome_of e.recording.now e.log.now i =
    (subst (λ o. Asked (length (cells_of e.recording.now.plan)) i o (λ x. x ≡ outcome_of e.recording.now e.log.now i)) c.unwrap.ensures c.fared.ensures).1 in
    let lines = cell_lines e.recording.now e.log.now in
    c.in_ok-write_cell.ensures ∙ (λ k. c.loop-cell.invariant k ++ cell_line i (is k))
    ∙ rw add-one (append_assoc (string_bytes c.args.text.now) (lines i) (cell_line i (outcome_of e.recording.now e.log.now i)))
