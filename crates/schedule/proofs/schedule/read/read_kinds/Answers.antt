use Rattle.std.proofs.Common.{◌≡◌, ℕ, List, Some, None, sym, ap, ◌∙◌, subst, inr}
use Rattle.std.proofs.lemmas.Result.{err_from_is_err_and}
use Rattle.refusal.proofs.Ordered.{or_else_after}
use Rattle.plan.specs.Cells.{Planned}
use Rattle.layout.specs.Contents.{kind_number, pile_number}
use Rattle.layout.specs.Fields.{kind_at, pile_at, cell_count}
use Rattle.layout.specs.declared.kind.Kind.{Kind}
use Rattle.schedule.specs.Gathering.{Gathered, Stops}
use Rattle.schedule.specs.declared.marks.Marks.{Marks}
use Rattle.layout.specs.Order.{first_refusal, field_tests, chain_tests}
use Rattle.schedule.proofs.Gathered.{stops_at_once, stops_later}
use Rattle.schedule.specs.Contents.{held_whole}
use Rattle.schedule.proofs.schedule.read.read_kinds.Goals as goal

-- the image's bytes and kind are those that were handed in
renamed : {bs bs' : List ℕ} {k k' : Kind} {ds : List ℕ} {cs : List Planned} {ms : List Marks} → bs ≡ bs' → k ≡ k'
    → Gathered bs k (cell_count bs) ds cs ms → Gathered bs' k' (cell_count bs') ds cs ms
renamed {bs} {bs'} {k} {k'} {ds} {cs} {ms} b e g =
    subst (λ x. Gathered bs' x (cell_count bs') ds cs ms) e (subst (λ x. Gathered x k (cell_count x) ds cs ms) b g)

pub returns-in_err-image : goal.returns-in_err-image
unfolding first_refusal
returns-in_err-image c =
    let p = err_from_is_err_and c.from_residual.result c.from_residual.ensures.1 in
    rw (p.1, p.2) (stops_at_once _ _ _ (inr c.in_err-image.ensures))

pub returns-in_err-checked : goal.returns-in_err-checked
unfolding first_refusal
returns-in_err-checked c =
    let p = err_from_is_err_and c.from_residual-in_err-checked.result c.from_residual-in_err-checked.ensures.1 in
    let image = c.in_ok-image.ensures in
    let e = c.in_err-checked.field-0.0 in
    let failed : field_tests c.args.bytes.now ≡ Some e = subst (λ b. field_tests b ≡ Some e) image.1 c.in_err-checked.ensures in
    rw (p.1, p.2) (stops_later _ _ _ image.0 (stops_at_once _ _ _ (inr failed)))

pub returns-in_err-gathering : goal.returns-in_err-gathering
unfolding first_refusal
returns-in_err-gathering c =
    let p = err_from_is_err_and c.from_residual-in_err-gathering.result c.from_residual-in_err-gathering.ensures.1 in
    let image = c.in_ok-image.ensures in
    let same = ap (λ i. i.bytes.now) c.in_ok-checked.ensures ∙ image.1 in
    let passed : field_tests c.args.bytes.now ≡ None = subst (λ b. field_tests b ≡ None) same c.in_ok-checked.checked.passed in
    rw (p.1, p.2) (stops_later _ _ _ image.0 (stops_later _ _ _ passed
    (subst (λ b. Stops (chain_tests b) c.in_err-gathering.field-0.0) same c.in_err-gathering.ensures)))

pub returns : goal.returns
unfolding first_refusal
returns c =
    let image = c.in_ok-image.image in
    let bytes = c.in_ok-image.ensures.1 in
    let same = ap (λ i. i.bytes.now) c.in_ok-checked.ensures ∙ bytes in
    let passed : field_tests c.args.bytes.now ≡ None = subst (λ b. field_tests b ≡ None) same c.in_ok-checked.checked.passed in
    let chains : chain_tests c.args.bytes.now ≡ None = subst (λ b. chain_tests b ≡ None) same c.in_ok-gathering.ensures.0 in
    let g = renamed same (ap (λ i. i.head.kind) c.in_ok-checked.ensures ∙ sym c.kind.ensures) c.in_ok-gathering.ensures.1 in (
      or_else_after _ _ c.in_ok-image.ensures.0 ∙ or_else_after _ _ passed ∙ chains,
      held_whole _ _ _ _ _ _ (ap kind_number c.kind.ensures ∙ image.kind_read ∙ ap kind_at bytes) (ap pile_number c.pile.ensures ∙ image.pile_read ∙ ap pile_at bytes) g,
    )
