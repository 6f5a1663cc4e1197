use Rattle.std.proofs.Common.{◌≤◌, Ok, sym, ap, ◌∙◌}
use Rattle.std.proofs.lemmas.Bool.{le-ltb}
use Rattle.refusal.specs.Tests.{when}
use Rattle.refusal.specs.declared.Refusal.TheVariants.{OutOfRange}
use Rattle.discipline.specs.Meaning.{count_at}
use Rattle.discipline.specs.Calls.{told}
use Rattle.queues.specs.Entries.{waiting_in}
use Rattle.queues.specs.Lines.{queue}
use Rattle.queues.proofs.Kept.{count_is}
use Rattle.queues.proofs.line.Line.count.Goals as goal

pub returns : goal.returns
returns c =
    let l = c.args.self.now in
    let p = c.args.port in
    let small : p ≤ 31 = c.in_ok-test_port.ensures.passed in
    ap (λ n. Ok n) (sym (count_is (queue l) l.counts l.each_proper l.counted p small))
    ∙ sym (ap (λ b. told (when b OutOfRange) (count_at (waiting_in (queue l)) p)) (le-ltb 31 p small))
