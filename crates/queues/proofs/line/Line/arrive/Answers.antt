use Rattle.std.proofs.Common.{sym, refl, ap, ◌∙◌}
use Rattle.refusal.specs.Tests.{when}
use Rattle.refusal.specs.declared.Refusal.TheVariants.{AlreadyWaits}
use Rattle.discipline.proofs.Tests.{arrive_last}
use Rattle.queues.specs.Entries.{waiting_in}
use Rattle.queues.specs.Lines.{queue}
use Rattle.queues.proofs.Kept.{found_waits}
use Rattle.queues.proofs.line.Line.arrive.Goals as goal

pub returns-then-is_some : goal.returns-then-is_some
returns-then-is_some c =
    let l = c.args.self.now in
    let small = c.in_ok-test_arrival.ensures.passed in
    let here = found_waits (queue l) c.args.cell l.each_proper c.place_of.result c.place_of.ensures (sym c.if-is_some.ensures) in (
      arrive_last (waiting_in (queue l)) c.args.stay.port c.args.cell c.args.flow small.0 small.1 small.2
          ∙ ap (λ b. when b AlreadyWaits) here,
      refl {a = l},
    )
