use Rattle.std.proofs.Common.{◌≡◌, ℕ, ◌+◌, ◌<◌, nat_le, get_or, set, Ok, Err, Result, refl, ap, ◌∙◌, arith, w64, SFits, rules}
use Rattle.std.proofs.lemmas.Int.{to_z-of_z}
use Rattle.std.proofs.lemmas.Bool.{lt-leb}
use Rattle.table.specs.Kinds.{due_upto}
use Rattle.table.specs.Order.{put_in}
use Rattle.refusal.specs.Tests.{tested, when}
use Rattle.refusal.specs.declared.Refusal.{Refusal}
use Rattle.refusal.specs.declared.Refusal.TheVariants.{NoPlace}
use Rattle.discipline.proofs.Counting.{passing_few}
use Rattle.discipline.specs.Meaning.{waits_at}
use Rattle.urgent.specs.Slack.{waiting_by}
use Rattle.urgent.specs.Sound.{has_room, sound_add, sound_as, not_too_early}
use Rattle.urgent.proofs.queue.LeastSlack.add.Goals as goal

-- where there is room no put is refused
never_full : (a b : ℕ) (e : Refusal) → b < a → Err e ≡ tested (when (nat_le a b) NoPlace) → ⊥
never_full a b e l h =
    let f : ◌≡◌ {A = Result (Unit {0}) Refusal} (Err e) (Ok tt) = h ∙ ap (λ t. tested (when t NoPlace)) (lt-leb a b l) in
    let z : ◌≡◌ {A = ℕ} 0 1 = cc in omega arith

pub returns-in_err-put : goal.returns-in_err-put
returns-in_err-put g c ok free =
    absurd (never_full _ _ _ (has_room _ _ _ _ ok c.args.cell c.args.stay c.requires.0 free) c.in_err-put.ensures.value)

pub returns : goal.returns
returns g c ok free =
    let self = c.args.self.now in
    let s = c.args.stay in
    let small : SFits w64 s.due = search rules in
    let below : s.port < 32 = c.requires.1 in
    let here = ok.counted s.port below in
    let few = passing_few 256 (waits_at (waiting_by self.stays) s.port) in
    let one : c.saturating_add.result ≡ get_or self.counts s.port 0 + 1 = (let e = c.saturating_add.ensures in omega arith) in (
      refl,
      (
        sound_as refl (ap (set self.counts s.port) one)
            (c.in_ok-put.ensures.done ∙ ap (λ z. put_in due_upto (record { port = s.port; due = z; cell = c.args.cell }) (g.T.Store.cells self.queue)) (to_z-of_z w64 s.due small)) c.in_ok-put.ensures.long
            (sound_add _ _ _ _ ok c.args.cell s c.requires.0 free (omega arith) (not_too_early s.due small)),
        refl,
      ),
    )
