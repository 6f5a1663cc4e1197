use Rattle.std.proofs.Common.{get_or, Some, sym, ap, ◌∙◌}
use Rattle.discipline.specs.Meaning.{stay_port}
use Rattle.queues.specs.Entries.{no_entry}
use Rattle.queues.specs.Lines.{queue}
use Rattle.queues.proofs.Kept.{stands_with}
use Rattle.queues.proofs.line.Line.port_of.Goals as goal

pub returns : goal.returns
returns c =
    let l = c.args.self.now in
    let at = c.in_ok-at.at in
    ap Some (c.from.ensures ∙ ap (λ q. (get_or q at no_entry).port) c.deref.ensures.0)
    ∙ sym (ap stay_port (stands_with (queue l) c.args.cell at l.each_proper c.in_ok-at.ensures))
