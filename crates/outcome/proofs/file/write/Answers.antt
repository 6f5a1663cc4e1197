use Rattle.std.proofs.Common.{ap, ◌∙◌, sym, subst, length, get_or, pos}
use Rattle.outcome.specs.Ends.{ended_test}
use Rattle.outcome.specs.Files.{file_test, Filed}
use Rattle.outcome.proofs.Telling.{filed}
use Rattle.sheet.specs.Sheets.{content_of}
use Rattle.outcome.proofs.file.write.Goals as goal

pub returns : goal.returns
returns c =
    let before = c.args.out.now in
    let after = c.write.new.out in
    let own = c.in_ok-ended.ended in
    let e = c.in_ok-ended.ensures in
    let slacks = c.deref.ensures.0 in
    let done =
    filed own.recording.now own.log.now c.deref.result.now c.deref-2.result.now (ap length slacks ∙ c.slacks.ensures.long) own.long
    (c.deref-2.ensures.0 ∙ c.slots.ensures) before c.write.result after (c.plan.ensures ∙ ap (λ r. r.plan) (sym e.1))
    (c.pile.ensures ∙ ap (λ r. r.pile) (sym e.1)) ((λ i. ended_test (e.1 i) (e.2 i)) ∙ e.0)
    (λ k l. ap (λ xs. get_or xs k (pos 0)) slacks ∙ c.slacks.ensures.slacks k l) (content_of c.in_ok-sheet.sheet)
    c.in_ok-sheet.ensures.answers c.write.ensures.written in
    subst (λ l. Filed (file_test c.args.recording.now l) c.args.recording.now l before c.write.result after) e.2
    (subst (λ r. Filed (file_test r own.log.now) r own.log.now before c.write.result after) e.1 done)
