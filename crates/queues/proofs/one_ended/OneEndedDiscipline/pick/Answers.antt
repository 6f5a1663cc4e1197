use Rattle.std.proofs.Common.{◌≡◌, refl, ◌∙◌, subst}
use Rattle.discipline.proofs.Tests.{pick_last}
use Rattle.queues.specs.Entries.{waiting_in, at_port}
use Rattle.queues.specs.Lines.{queue}
use Rattle.queues.specs.Queued.{at_port_counts}
use Rattle.queues.proofs.one_ended.OneEndedDiscipline.pick.Goals as goal

pub returns-in_default : goal.returns-in_default
returns-in_default g c s =
    let l = c.args.self.now.line in
    let p = c.args.port in
    let none : at_port (queue l) p ≡ 0 = subst (λ q. at_port q p ≡ 0) c.waiting.ensures c.in_default.ensures in
    (pick_last (waiting_in (queue l)) p 0 c.in_ok-test_port.ensures.passed (at_port_counts (queue l) p l.each_proper ∙ none), refl {a = c.args.self.now})
