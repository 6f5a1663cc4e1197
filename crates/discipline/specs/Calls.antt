-- The tests of the calls, in their order, and what the calls leave.
use Rattle.std.specs.Prelude.{◌≡◌, ℕ, not, ◌||◌, is_some, Some, None, Ok, Err, Option, Result, ◌==◌, nat_lt}
use Rattle.refusal.specs.Tests.{when, or_else}
use Rattle.refusal.specs.declared.Refusal.{Refusal}
use Rattle.refusal.specs.declared.Refusal.TheVariants.{OutOfRange, AlreadyWaits, NoneWaits, NotWaiting}
use Rattle.discipline.specs.Meaning.{Waiting, waits_at, count_at}

-- a port over 31, a cell over 255 or a flow over 7; then a cell that waits already
abbrev pub arrive_test : Waiting → ℕ → ℕ → ℕ → Option Refusal
arrive_test w port cell flow =
    or_else (when (nat_lt 31 port || (nat_lt 255 cell || nat_lt 7 flow)) OutOfRange) (when (is_some (w cell)) AlreadyWaits)

-- a port over 31; then none that waits there
abbrev pub pick_test : Waiting → ℕ → Option Refusal
pick_test w port = or_else (when (nat_lt 31 port) OutOfRange) (when (count_at w port == 0) NoneWaits)

-- a port over 31 or a cell over 255; then a cell that does not wait at that port
abbrev pub withdraw_test : Waiting → ℕ → ℕ → Option Refusal
withdraw_test w port cell =
    or_else (when (nat_lt 31 port || nat_lt 255 cell) OutOfRange) (when (not (waits_at w port cell)) NotWaiting)

-- a call that may change a discipline from d to e: what it leaves is a step where it is accepted, and d where it is refused
abbrev pub Answers : {D X : Type 0} → Option Refusal → D → Result X Refusal → D → (X → Type 0) → Type 0
Answers test d (Ok x) e Step = (test ≡ None) × Step x
Answers test d (Err r) e Step = (test ≡ Some r) × (e ≡ d)

-- what a question returns
abbrev pub told : {X : Type 0} → Option Refusal → X → Result X Refusal
told (Some e) x = Err e
told None x = Ok x
