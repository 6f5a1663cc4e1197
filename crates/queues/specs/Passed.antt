-- What tests that pass tell.
use Rattle.std.specs.Prelude.{◌≡◌, ℕ, ◌<◌, true, List, None}
use Rattle.std.proofs.Common.{arith}
use Rattle.discipline.specs.Meaning.{Waiting}
use Rattle.discipline.specs.Calls.{arrive_test, pick_test}
use Rattle.discipline.proofs.Tests.{arrive_tells, pick_tells}
use Rattle.queues.specs.Entries.{waiting_in, at_port, proper}
use Rattle.queues.specs.declared.entry.Entry.{Entry}
use Rattle.queues.specs.Queued.{at_port_counts}

-- a cell that may arrive does not wait
pub arrives_new : (w : Waiting) (p c f : ℕ) → arrive_test w p c f ≡ None → w c ≡ None
arrives_new w p c f h = (arrive_tells w p c f h).3

-- where a pick passes, some entry is at the port
pub pick_some : (q : List Entry) (p : ℕ) → proper q ≡ true → pick_test (waiting_in q) p ≡ None → 0 < at_port q p
pick_some q p h t =
    let some = (pick_tells (waiting_in q) p t).1 in
    let counts = at_port_counts q p h in
    omega arith
