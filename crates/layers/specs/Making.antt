-- What the test before a layer is made answers.
use Rattle.std.specs.Prelude.{◌≡◌, Bool, true, false, Ok, Err, Result}
use Rattle.refusal.specs.declared.Refusal.{Refusal}
use Rattle.refusal.specs.declared.Refusal.TheVariants.{BadSetting, HoldsCells}

-- parts that must be empty: accepted where they are, else refused
abbrev pub Emptied : Type 0 → Result (Unit {0}) Refusal → Type 0
Emptied E (Ok u) = E
Emptied E (Err r) = (r ≡ HoldsCells) × (E → ⊥)

-- first a setting that is out of range, then parts that are not empty
abbrev pub Tested : Bool → Type 0 → Result (Unit {0}) Refusal → Type 0
Tested true E r = r ≡ Err BadSetting
Tested false E r = Emptied E r
