use Rattle.std.proofs.Common.{◌≡◌, Err, Option, ap, ◌∙◌, ap₂}
use Rattle.std.proofs.lemmas.Result.{err_from_is_err_and}
use Rattle.refusal.specs.declared.Refusal.{Refusal}
use Rattle.refusal.specs.Tests.{or_else, tested}
use Rattle.refusal.proofs.Ordered.{tested_refuses}
use Rattle.plan.specs.Cells.{cell_test}
use Rattle.plan.proofs.plan.Plan.test_cell.Goals as goal

-- the first test refuses, so all do
first : (o q : Option Refusal) (e : Refusal) → Err e ≡ tested o → Err e ≡ tested (or_else o q)
first o q e h = rw (tested_refuses o e h)

pub returns-in_err-test_route : goal.returns-in_err-test_route
returns-in_err-test_route c =
    let e = err_from_is_err_and c.from_residual.result c.from_residual.ensures.1 in
    e.1 ∙ ap Err e.2 ∙ first _ _ _ c.in_err-test_route.ensures
    ∙ ap₂ (λ n k. tested (cell_test n k c.args.flow c.args.route.now)) c.ports.ensures c.cells-cell.ensures
