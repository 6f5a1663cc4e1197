use Rattle.std.proofs.Common.{◌≡◌, ◌++◌, get_or, string_bytes, codes, decimal, append_assoc, rules}
use Rattle.std.proofs.lemmas.Result.{IfOk-weaker}
use Rattle.layout.specs.Contents.{no_scheduled}
use Rattle.listing.specs.Listed.{slack_part, route_part, feed}
use Rattle.listing.proofs.cell.write_cell.Goals as goal

pub returns : goal.returns
returns g c =
    let x = g.S.Source.content c.args.s.now in
    let it = get_or x.cells c.args.cell no_scheduled in
    let fields : string_bytes c.write.new.self ≡ string_bytes c.args.text.now ++ (codes "cell " ++ (decimal c.args.cell ++ (codes " entry " ++ (decimal it.entry ++ (codes " flow " ++ decimal it.flow))))) = search rules in
    let slack : string_bytes c.write_slack.new.text ≡ string_bytes c.write.new.self ++ slack_part x.kind it.slack = search rules in
    let route : string_bytes c.write_route.new.text ≡ string_bytes c.write_slack.new.text ++ route_part x.kind it.hops = search rules in
    IfOk-weaker c.writeln.result _ _
    (λ _ e. let line : string_bytes c.writeln.new.self ≡ string_bytes c.write_route.new.text ++ feed = search rules in
    simp (line, route, slack, fields, append_assoc))
    c.writeln.ensures.bytes
