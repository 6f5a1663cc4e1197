-- When a plan can be sealed, and what a seal makes.
use Rattle.std.specs.Prelude.{◌≡◌, ℕ, zero, suc, ◌<◌, ◌≤◌, false, ◌⊎◌, List, [], length, get_or, Ok, Err, Result, slice_index_or}
use Rattle.refusal.specs.declared.Refusal.{Refusal}
use Rattle.refusal.specs.declared.Refusal.TheVariants.{NoCells, NoPlace, HoldsCells}
use Rattle.discipline.specs.Meaning.{Waiting, Empty}
use Rattle.plan.specs.Cells.{Planned, no_cell, hops_in}
use Rattle.table.specs.Kinds.{flight_upto}
use Rattle.table.specs.Order.{put_in}
use Rattle.table.specs.declared.flight.Flight.{Flight}
use Rattle.rules.specs.Loads.{first_hop, no_hop}
use Rattle.run.specs.Offsets.{no_record}
use Rattle.rules.specs.declared.condition.CellRecord.{CellRecord}
use Rattle.rules.specs.declared.condition.Condition.TheVariants.{Outside}
use Rattle.rules.specs.declared.hop.HopRecord.{HopRecord}
use Rattle.run.specs.declared.recording.Recording.{Recording}

-- a flight for each cell and a record for each hop
abbrev pub Roomy : List Planned → List Flight → List HopRecord → Type 0
Roomy cs flights log = (length cs ≤ length flights) × (hops_in cs ≤ length log)

-- The tests in their order: there is a cell, the memory suffices, and no cell waits. The first that fails refuses the seal.
abbrev pub SealTested : List Planned → List Flight → List HopRecord → Waiting → Result (Unit {0}) Refusal → Type 0
SealTested cs flights log w (Ok u) = (0 < length cs) × Roomy cs flights log × Empty w
SealTested cs flights log w (Err e) =
    ((e ≡ NoCells) × (length cs ≡ 0))
    ⊎ ((e ≡ NoPlace) × (0 < length cs) × (Roomy cs flights log → ⊥))
    ⊎ ((e ≡ HoldsCells) × (0 < length cs) × Roomy cs flights log × (Empty w → ⊥))

-- the records of the first k cells: each is outside, and has the place of its first hop
pub record Ready (cs : List Planned) (k : ℕ) (rs : List CellRecord) : Type 0 where
  pub size : length rs ≡ k
  pub outside : (c : ℕ) → (get_or rs c no_record).condition ≡ Outside
  pub first : (c : ℕ) → c < k → (get_or rs c no_record).first ≡ first_hop cs c

-- the flights of the first k cells to their entry slots
abbrev pub launched : List Planned → ℕ → List Flight
launched cs zero = []
launched cs (suc k) = put_in flight_upto (record { slot = (get_or cs k no_cell).entry; cell = k }) (launched cs k)

-- the records of the first hops tell no slot, and the others are as they were
pub record Cleared (hops : ℕ) (log log' : List HopRecord) : Type 0 where
  pub none : (i : ℕ) → i < hops → slice_index_or log' i no_hop ≡ no_hop
  pub rest : (i : ℕ) → hops ≤ i → slice_index_or log' i no_hop ≡ slice_index_or log i no_hop

-- before the first slot every cell is outside and no port is contested
pub record Starting (r : Recording) : Type 0 where
  pub next : r.next ≡ 0
  pub gone : r.gone ≡ 0
  pub outside : (c : ℕ) → (get_or r.records.items c no_record).condition ≡ Outside
  pub calm : (p : ℕ) → slice_index_or r.contested p false ≡ false
