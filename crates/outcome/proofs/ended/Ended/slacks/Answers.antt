use Rattle.std.proofs.Common.{◌≡◌, [], ◌∷◌, length, get_or, pos, ap, subst, ◌∙◌, arith, w32, w64, SFits, to_z, of_z, rules, below_more}
use Rattle.std.proofs.lemmas.Int.{to_z-of_z}
use Rattle.std.proofs.lemmas.List.{get_or_append_left, get_or_push}
use Rattle.plan.specs.Plans.{cells_of, Asked}
use Rattle.outcome.specs.Outcomes.{held_slack, outcome_of}
use Rattle.outcome.proofs.ended.Ended.slacks.Goals as goal

pub loop-cell-preserved : goal.loop-cell-preserved
loop-cell-preserved c =
    let told = c.loop-cell.slacks.items in
    let one = to_z w32 (of_z w32 c.held.result) in
    let long : length told ≡ c.loop-cell.cell = c.loop-cell.invariant.0 in
    let small : SFits w32 c.held.result = search rules in
    let fits : SFits w64 c.unwrap.result.slack = search rules in
    let r = c.args.self.now.recording.now in
    let log = c.args.self.now.log.now in
    let is : c.unwrap.result ≡ outcome_of r log c.loop-cell.cell =
    (subst (λ o. Asked (length (cells_of r.plan)) c.loop-cell.cell o (λ x. x ≡ outcome_of r log c.loop-cell.cell)) c.unwrap.ensures c.fared.ensures).1 in
    let now = ap (λ l. get_or l c.loop-cell.cell (pos 0)) c.push.ensures.items in (
      omega arith,
      below_more _ _ (λ k l. ap (λ x. get_or x k (pos 0)) c.push.ensures.items ∙ get_or_append_left told (one ∷ []) (pos 0) k (omega arith) ∙ c.loop-cell.invariant.1 k l)
          (now ∙ get_or_push told one (pos 0) c.loop-cell.cell long ∙ to_z-of_z w32 c.held.result small ∙ c.held.ensures
          ∙ ap held_slack (to_z-of_z w64 c.unwrap.result.slack fits) ∙ ap (λ o. held_slack o.slack) is),
    )
