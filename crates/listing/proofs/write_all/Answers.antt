use Rattle.std.proofs.Common.{◌≡◌, ◌++◌, string_bytes, append_assoc, rules}
use Rattle.std.proofs.lemmas.Result.{IfOk-weaker}
use Rattle.listing.specs.Listed.{kind_line, pile_line, port_line, lines_from, cell_line, listed}
use Rattle.listing.proofs.write_all.Goals as goal

pub returns : goal.returns
unfolding listed
returns g c =
    let x = g.S.Source.content c.args.s.now in
    let head : string_bytes c.write_head.new.text ≡ string_bytes c.args.text.now ++ (kind_line x.kind ++ pile_line x.pile) = search rules in
    let ports : string_bytes c.write_ports.new.text ≡ string_bytes c.write_head.new.text ++ lines_from port_line 0 x.delays = search rules in
    IfOk-weaker c.write_cells.result _ _
    (λ _ e. let cells : string_bytes c.write_cells.new.text ≡ string_bytes c.write_ports.new.text ++ lines_from (cell_line x.kind) 0 x.cells = e in
    simp (cells, ports, head, append_assoc))
    c.write_cells.ensures
