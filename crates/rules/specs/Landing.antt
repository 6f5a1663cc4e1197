-- The flights that land in a slot.
use Rattle.std.specs.Prelude.{◌≡◌, ℕ, List, Some, None, Option, ◌≢◌}
use Rattle.table.specs.Kinds.{flight_upto}
use Rattle.table.specs.Order.{first_from, taken_from}
use Rattle.table.specs.declared.flight.Flight.{Flight}

-- the first flight from slot t on
abbrev pub from_slot : ℕ → Flight
from_slot t = record { slot = t; cell = 0 }

-- a cell that lands in slot t has the first flight from t on, which is taken out; where there is none, that flight is later
abbrev pub Landing : ℕ → List Flight → Option ℕ → List Flight → Type 0
Landing t fs (Some c) gs =
    (first_from flight_upto (from_slot t) fs ≡ Some (record { slot = t; cell = c })) × (gs ≡ taken_from flight_upto (from_slot t) fs)
Landing t fs None gs = ((f : Flight) → first_from flight_upto (from_slot t) fs ≡ Some f → f.slot ≢ t) × (gs ≡ fs)
