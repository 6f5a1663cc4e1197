use Rattle.std.proofs.Common.{rules, ◌≡◌, ◌+◌, ◌<◌, None, ◌∙◌, subst, inr, arith}
use Rattle.std.proofs.lemmas.Result.{err_from_is_err_and}
use Rattle.refusal.specs.Tests.{each_below}
use Rattle.refusal.proofs.Ordered.{tested_refuses}
use Rattle.layout.specs.Fields.{cell_count, hop_count}
use Rattle.layout.specs.Order.{chain_test, unreached_test}
use Rattle.schedule.proofs.Gathered.{stops_at_once, stops_later, stops_within}
use Rattle.schedule.proofs.checked.Checked.gather.Goals as goal

pub returns-in_err-gather_cell : goal.returns-in_err-gather_cell
returns-in_err-gather_cell c =
    let p = err_from_is_err_and c.from_residual-in_err-gather_cell.result c.from_residual-in_err-gather_cell.ensures.1 in
    let bs = c.args.self.now.image.bytes.now in
    let in' : c.loop-cell.cell < cell_count bs = omega arith in
    rw (p.1, p.2)
    (stops_at_once (each_below (cell_count bs) (chain_test bs)) (each_below (hop_count bs) (λ k. unreached_test bs (k + 1))) _
    (stops_within (chain_test bs) c.loop-cell.cell (cell_count bs) _ in' c.loop-cell.invariant.0 c.in_err-gather_cell.ensures))

pub returns-in_err-test_each : goal.returns-in_err-test_each
returns-in_err-test_each c =
    let p = err_from_is_err_and c.from_residual-in_err-test_each.result c.from_residual-in_err-test_each.ensures.1 in
    let bs = c.args.self.now.image.bytes.now in
    let e : c.loop-cell.cell ≡ cell_count bs = omega arith in
    let passed : each_below (cell_count bs) (chain_test bs) ≡ None = subst (λ n. each_below n (chain_test bs) ≡ None) e c.loop-cell.invariant.0 in
    let failed = tested_refuses _ _ (c.in_err-test_each.ensures (λ k. unreached_test bs (k + 1)) (λ k r l p. search rules)) in
    rw (p.1, p.2)
    (stops_later (each_below (cell_count bs) (chain_test bs)) (each_below (hop_count bs) (λ k. unreached_test bs (k + 1))) _ passed
    (inr (rw (c.hops.ensures ∙ c.args.self.now.image.hops_read) at failed)))
