use Rattle.std.proofs.Common.{◌≡◌, not, get_or, refl, sym, ap, ◌∙◌}
use Rattle.std.proofs.lemmas.Bool.{eq-eqb, ne_eqb}
use Rattle.refusal.specs.Tests.{when}
use Rattle.refusal.specs.declared.Refusal.TheVariants.{NotWaiting}
use Rattle.discipline.specs.Meaning.{stays_at}
use Rattle.discipline.proofs.Tests.{withdraw_last, withdraw_passes}
use Rattle.queues.specs.Entries.{waiting_in, without, no_entry}
use Rattle.queues.specs.Lines.{queue}
use Rattle.queues.proofs.Kept.{stands_with}
use Rattle.queues.proofs.line.Line.withdraw.Goals as goal

pub returns-then-from-port : goal.returns-then-from-port
returns-then-from-port c =
    let l = c.args.self.now in
    let p = c.args.port in
    let at = c.in-Some.at in
    let small = c.in_ok-test_place.ensures.passed in
    let read : c.from.result ≡ (get_or (queue l) at no_entry).port = c.from.ensures ∙ ap (λ q. (get_or q at no_entry).port) c.deref.ensures.0 in
    let elsewhere =
    ap (stays_at p) (stands_with (queue l) c.args.cell at l.each_proper c.in-Some.ensures)
    ∙ ne_eqb (get_or (queue l) at no_entry).port p (λ e. c.if-from-port.true (read ∙ e)) in (
      withdraw_last (waiting_in (queue l)) p c.args.cell small.0 small.1 ∙ ap (λ b. when (not b) NotWaiting) elsewhere,
      refl {a = l},
    )

pub returns : goal.returns
returns c =
    let l = c.args.self.now in
    let p = c.args.port in
    let at = c.in-Some.at in
    let small = c.in_ok-test_place.ensures.passed in
    let read : c.from.result ≡ (get_or (queue l) at no_entry).port = c.from.ensures ∙ ap (λ q. (get_or q at no_entry).port) c.deref.ensures.0 in
    let here =
    ap (stays_at p) (stands_with (queue l) c.args.cell at l.each_proper c.in-Some.ensures)
    ∙ eq-eqb (get_or (queue l) at no_entry).port p (sym read ∙ c.if-from-port.false) in (
      withdraw_passes (waiting_in (queue l)) p c.args.cell small.0 small.1 here,
      c.take_at.ensures.left ∙ ap (without (queue l)) (c.take_at.ensures.cell ∙ c.in-Some.ensures.1),
    )
