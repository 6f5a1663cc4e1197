-- The orders of the two kinds of elements.
use Rattle.std.specs.Prelude.{Bool, true, false, cond, int_le, nat_le}
use Rattle.table.specs.declared.due.DueCell.{DueCell}
use Rattle.table.specs.declared.flight.Flight.{Flight}

-- by a part of the element
abbrev pub by : {X K : Type 0} → (X → K) → (K → K → Bool) → X → X → Bool
by part le x y = le (part x) (part y)

-- by one order, and among its equals by another
infixr 20 ◌then◌
abbrev pub ◌then◌ : {X : Type 0} → (X → X → Bool) → (X → X → Bool) → X → X → Bool
(p then q) x y = cond (p x y) (cond (p y x) (q x y) true) false

-- flights: by the slot, then by the cell
abbrev pub flight_upto : Flight → Flight → Bool
flight_upto = by (λ f. f.slot) nat_le then by (λ f. f.cell) nat_le

-- due cells: by the port, then by the due slot, then by the cell
abbrev pub due_upto : DueCell → DueCell → Bool
due_upto = by (λ d. d.port) nat_le then by (λ d. d.due) int_le then by (λ d. d.cell) nat_le
