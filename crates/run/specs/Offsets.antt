-- Where the hops of the cells begin in the hop log.
use Rattle.std.specs.Prelude.{◌≡◌, ℕ, ◌<◌, List, length, slice_index_or}
use Rattle.plan.specs.Cells.{Planned}
use Rattle.rules.specs.declared.condition.CellRecord.{CellRecord}
use Rattle.rules.specs.declared.condition.Condition.TheVariants.{Outside}
use Rattle.rules.specs.Loads.{first_hop}

-- what stands past the last record
abbrev pub no_record : CellRecord
no_record = record { condition = Outside; first = 0 }

-- each cell's record has the place of its first hop
abbrev pub Offsets : List Planned → List CellRecord → Type 0
Offsets cs rs = (c : ℕ) → c < length cs → (slice_index_or rs c no_record).first ≡ first_hop cs c
