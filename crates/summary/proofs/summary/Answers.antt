use Rattle.std.proofs.Common.{◌≡◌, [], ◌++◌, length, string_bytes, ap, ◌∙◌}
use Rattle.plan.specs.Plans.{cells_of}
use Rattle.summary.specs.Summaries.{cell_lines, ports_line, summarized}
use Rattle.summary.proofs.summary.Goals as goal

pub returns : goal.returns
unfolding summarized
returns c =
    let log = c.args.log.now in
    let e = c.in_ok-ended.ensures in
    let own = c.in_ok-ended.ended in
    let none : string_bytes c.new-text.result ≡ [] = c.new-text.ensures.bytes in
    let lines = cell_lines own.recording.now own.log.now (length (cells_of own.recording.now.plan)) in
    let cells : string_bytes c.write_cells.new.text ≡ lines = c.in_ok-write_cells.ensures ∙ ap (λ t. t ++ lines) none in
    let same : lines ≡ cell_lines c.args.recording.now log (length (cells_of c.args.recording.now.plan)) =
    λ i. cell_lines (e.1 i) (e.2 i) (length (cells_of (e.1 i).plan)) in
    let ports = c.as_slice.ensures.value ∙ c.in_ok-contested_ports.ensures in (
      e.0,
      c.in_ok-write_contested.ensures ∙ (λ i. (cells ∙ same) i ++ ports_line (ports i)),
    )
