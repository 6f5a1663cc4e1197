use Rattle.std.proofs.Common.{get_or, ap, ◌∙◌, rules}
use Rattle.rules.specs.Loads.{no_hop}
use Rattle.run.proofs.Prepared.{cleared}
use Rattle.run.proofs.recording.seal.clear.Goals as goal

pub returns : goal.returns
returns c =
    let none = c.fill.ensures.after (λ y h. h) in
    cleared c.args.hops c.min-end.result c.args.log.now c.fill.new.self c.min-end.ensures c.fill.ensures.len
    (λ k l. ap (λ xs. get_or xs k no_hop) none ∙ search rules)
