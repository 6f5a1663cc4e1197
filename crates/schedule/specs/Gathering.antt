-- How much of a file's content has been gathered.
use Rattle.std.specs.Prelude.{◌≡◌, ℕ, ◌+◌, ◌<◌, ◌⊎◌, List, length, Some, None, Ok, Err, vec_items, Option, Result, slice_index, slice_index_or}
use Rattle.refusal.specs.declared.Refusal.{Refusal}
use Rattle.refusal.specs.declared.Refusal.TheVariants.{NoMemory}
use Rattle.plan.specs.Cells.{Planned, no_cell}
use Rattle.plan.specs.Plans.{delays_of, cells_of}
use Rattle.layout.specs.Contents.{Marked}
use Rattle.layout.specs.Fields.{port_count, cell_count, delay_at}
use Rattle.layout.specs.Holding.{CellHeld}
use Rattle.layout.specs.Order.{field_tests, chain_test, chain_tests, reached}
use Rattle.layout.specs.declared.kind.Kind.{Kind}
use Rattle.schedule.specs.Chains.{Seen}
use Rattle.schedule.specs.Marking.{scheduled, no_marks}
use Rattle.schedule.specs.declared.checked.Checked.{Checked}
use Rattle.schedule.specs.declared.checked.Gathering.{Gathering}
use Rattle.schedule.specs.declared.image.Image.{Image}
use Rattle.schedule.specs.declared.marks.Marks.{Marks}

-- a call that tests and allocates by turns refuses by the first test that fails, unless it finds no memory before it
abbrev pub Stops : Option Refusal → Refusal → Type 0
Stops o e = (e ≡ NoMemory) ⊎ (o ≡ Some e)

-- the file, where the tests of its fields pass, or the refusal of the first that fails
abbrev pub FieldsTested : Image → Result Checked Refusal → Type 0
FieldsTested i (Ok c) = c.image ≡ i
FieldsTested i (Err e) = field_tests i.bytes.now ≡ Some e

-- these are the delays of the first n ports
pub record Ported (bs : List ℕ) (n : ℕ) (ds : List ℕ) : Type 0 where
  pub count : length ds ≡ n
  pub each : (p : ℕ) → p < n → slice_index ds p ≡ delay_at bs p

-- these are the ports of the file and its first n cells, with their marks
pub record Gathered (bs : List ℕ) (k : Kind) (n : ℕ) (ds : List ℕ) (cs : List Planned) (ms : List Marks) : Type 0 where
  pub ports : Ported bs (port_count bs) ds
  pub cells : length cs ≡ n
  pub marks : length ms ≡ n
  pub held : (c : ℕ) → c < n → CellHeld bs c (scheduled (slice_index_or cs c no_cell) (slice_index_or ms c no_marks))
  pub marked : (c : ℕ) → c < n → Marked k (scheduled (slice_index_or cs c no_cell) (slice_index_or ms c no_marks))

-- so much has been gathered of the first n cells
pub record GatheredTo (bs : List ℕ) (k : Kind) (n : ℕ) (g : Gathering) : Type 0 where
  pub long : length g.seen ≡ 2049
  pub seen : Seen g.seen (reached bs n)
  pub held : Gathered bs k n (delays_of g.plan) (cells_of g.plan) (vec_items g.marks)

-- the ports of the file and no cell yet
abbrev pub Opened : List ℕ → Kind → Result Gathering Refusal → Type 0
Opened bs k (Ok g) = GatheredTo bs k 0 g
Opened bs k (Err e) = e ≡ NoMemory

-- one cell more
abbrev pub CellGathered : List ℕ → Kind → ℕ → Result (Unit {0}) Refusal → Gathering → Type 0
CellGathered bs k n (Ok u) g = (chain_test bs n ≡ None) × GatheredTo bs k (n + 1) g
CellGathered bs k n (Err e) g = Stops (chain_test bs n) e

-- all cells, with their chains tested to the end
abbrev pub AllGathered : List ℕ → Kind → Result Gathering Refusal → Type 0
AllGathered bs k (Ok g) =
    (chain_tests bs ≡ None) × Gathered bs k (cell_count bs) (delays_of g.plan) (cells_of g.plan) (vec_items g.marks)
AllGathered bs k (Err e) = Stops (chain_tests bs) e
