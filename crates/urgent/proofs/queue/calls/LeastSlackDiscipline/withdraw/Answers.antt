use Rattle.std.proofs.Common.{◌≡◌, ◌-◌, get_or, set, Some, sym, ap, ◌∙◌, w64, SFits, rules}
use Rattle.std.proofs.lemmas.Int.{to_z-of_z}
use Rattle.discipline.proofs.Stays.{stay_at}
use Rattle.discipline.proofs.Tests.{withdraw_passes}
use Rattle.table.specs.Kinds.{due_upto}
use Rattle.table.specs.Order.{taken_from}
use Rattle.urgent.specs.Slack.{waiting_by, due_cell}
use Rattle.urgent.specs.Sound.{found, sound_remove, sound_as}
use Rattle.urgent.proofs.queue.calls.LeastSlackDiscipline.withdraw.Goals as goal

pub returns : goal.returns
returns g c ok =
    let self = c.args.self.now in
    let s = c.in-Some.stay in
    let waits : waiting_by self.stays c.args.cell ≡ Some s = sym c.in-Some.ensures in
    let small : SFits w64 s.due = search rules in
    let port : s.port ≡ c.args.port = c.if-stay-port.false in
    let at = stay_at (waiting_by self.stays) c.args.port c.args.cell s waits port in
    let f = c.forget.ensures in
    let x = due_cell c.args.cell s in (
      withdraw_passes (waiting_by self.stays) c.args.port c.args.cell c.in_ok-test_place.ensures.passed.0 c.in_ok-test_place.ensures.passed.1 at,
      (
        sound_as f.stays (f.counts ∙ ap (λ k. set self.counts k (get_or self.counts k 0 - 1)) (sym port))
            (ap g.T.Store.cells f.queue ∙ c.take_first.ensures.done
            ∙ ap (λ d. taken_from due_upto d (g.T.Store.cells self.queue)) (λ i. record { port = sym port i; due = to_z-of_z w64 s.due small i; cell = c.args.cell }))
            (ap g.T.Store.room f.queue ∙ c.take_first.ensures.long)
            (sound_remove _ _ _ _ ok c.args.cell s waits x (found _ _ _ _ ok c.args.cell s waits)),
        f.stays,
      ),
    )
