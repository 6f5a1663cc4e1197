use Rattle.std.proofs.Common.{◌≡◌, ℕ, ◌<◌, None, Option}
use Rattle.refusal.specs.declared.Refusal.{Refusal}
use Rattle.refusal.specs.Tests.{tested, each_below}
use Rattle.schedule.proofs.order.test_each.Given as goal

abbrev pub invariant-loop-k : goal.invariant-loop-k
invariant-loop-k g l =
    (tests : ℕ → Option Refusal) → ((k : ℕ) (r : _) → k < l.n → goal.F-post g l.test k r → r ≡ tested (tests k)) → each_below l.k tests ≡ None
