use Rattle.std.proofs.lemmas.Result.{err_from_is_err_and}
use Rattle.refusal.proofs.Ordered.{turn_refuses}
use Rattle.schedule.proofs.order.test_each.Goals as goal

pub returns-in_err-test : goal.returns-in_err-test
returns-in_err-test g c tests tells =
    let p = err_from_is_err_and c.from_residual.result c.from_residual.ensures.1 in
    rw (p.1, p.2) (turn_refuses tests _ _ _ c.loop-k-test.true (c.loop-k.invariant tests tells) (tells _ _ c.loop-k-test.true c.in_err-test.ensures))
