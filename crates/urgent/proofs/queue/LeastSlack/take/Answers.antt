use Rattle.std.proofs.Common.{◌≡◌, ℕ, ◌-◌, ◌<◌, ◌≤◌, get_or, set, Some, None, Option, sym, ap, ◌∙◌, arith}
use Rattle.discipline.specs.Meaning.{count_at}
use Rattle.discipline.proofs.Tests.{pick_passes}
use Rattle.table.specs.declared.due.DueCell.{DueCell}
use Rattle.urgent.specs.Slack.{waiting_by, next_due, mark, due_cell}
use Rattle.urgent.specs.Sound.{next_told, sound_remove, sound_as}
use Rattle.urgent.proofs.queue.LeastSlack.take.Goals as goal

pub returns-in_default : goal.returns-in_default
returns-in_default g c ok =
    let self = c.args.self.now in
    let port : c.args.port ≤ 31 = c.in_ok-test_port.ensures.passed in
    let here = ok.counted c.args.port (omega arith) in
    let some : 0 < count_at (waiting_by self.stays) c.args.port = omega arith in
    let n = next_told _ _ _ _ ok c.args.port some in
    let e : ◌≡◌ {A = Option DueCell} None (Some (due_cell (next_due (g.T.Store.cells self.queue) c.args.port) n.0)) = c.in_default.ensures.value ∙ n.1 in
    let z : ◌≡◌ {A = ℕ} 0 1 = cc in
    absurd (omega arith)

pub returns : goal.returns
returns g c ok =
    let self = c.args.self.now in
    let port : c.args.port ≤ 31 = c.in_ok-test_port.ensures.passed in
    let here = ok.counted c.args.port (omega arith) in
    let some : 0 < count_at (waiting_by self.stays) c.args.port = omega arith in
    let n = next_told _ _ _ _ ok c.args.port some in
    let x = next_due (g.T.Store.cells self.queue) c.args.port in
    let e : ◌≡◌ {A = Option DueCell} (Some c.in-Some.next) (Some (due_cell x n.0)) = c.in-Some.ensures.value ∙ n.1 in
    let same : c.in-Some.next ≡ due_cell x n.0 = cc in
    let cell : c.in-Some.next.cell ≡ x = ap (λ d. d.cell) same in
    let f = c.forget.ensures in (
      pick_passes _ _ port some,
      λ t. (
        cell,
        (
          sound_as (f.stays ∙ ap (λ k. set self.stays k None) cell)
              (f.counts ∙ ap (λ k. set self.counts k (get_or self.counts k 0 - 1)) (sym n.3))
              (ap g.T.Store.cells f.queue ∙ c.in-Some.ensures.done)
              (ap g.T.Store.room f.queue ∙ c.in-Some.ensures.long)
              (sound_remove _ _ _ _ ok x n.0 n.2 (mark c.args.port) n.1),
          f.stays,
        ),
      ),
    )
