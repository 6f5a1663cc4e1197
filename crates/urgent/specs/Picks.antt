-- What a pick that passes its test finds.
use Rattle.std.specs.Prelude.{◌≡◌, ℕ, ◌<◌, None}
use Rattle.discipline.specs.Calls.{pick_test}
use Rattle.discipline.specs.Meaning.{Waiting, count_at}
use Rattle.discipline.proofs.Tests.{pick_tells}

-- a pick that passes finds a cell
pub some_waits : (w : Waiting) (p : ℕ) → pick_test w p ≡ None → 0 < count_at w p
some_waits w p h = (pick_tells w p h).1
