-- Tests in an order: the refusal of the first one that fails, or none.
use Rattle.std.specs.Prelude.{◌≡◌, ℕ, zero, suc, Bool, true, false, Some, None, Ok, Err, Option, Result}
use Rattle.refusal.specs.declared.Refusal.{Refusal}
use Rattle.refusal.specs.declared.Refusal.TheVariants.{NoMemory}

-- one test: it refuses by e where b holds
abbrev pub when : Bool → Refusal → Option Refusal
when true e = Some e
when false e = None

-- one test, and then another
abbrev pub or_else : Option Refusal → Option Refusal → Option Refusal
or_else (Some e) o = Some e
or_else None o = o

-- the tests f 0, f 1, .. of all numbers below n, in rising order
abbrev pub each_below : ℕ → (ℕ → Option Refusal) → Option Refusal
each_below zero f = None
each_below (suc n) f = or_else (each_below n f) (f n)

-- what a call that only tests returns
abbrev pub tested : Option Refusal → Result (Unit {0}) Refusal
tested (Some e) = Err e
tested None = Ok tt

-- a call that tests first and then allocates refuses by the first test that fails, and for want of memory only where none does
abbrev pub Refuses : Option Refusal → Refusal → Type 0
Refuses (Some x) e = e ≡ x
Refuses None e = e ≡ NoMemory
