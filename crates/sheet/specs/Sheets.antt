-- What a sheet tells of a plan whose cells were sent, and how one is made.
use Rattle.std.specs.Prelude.{◌≡◌, ℕ, ◌+◌, ◌<◌, ◌||◌, List, length, get_or, take, ℤ, pos, Some, None, Ok, Err, Option, Result, ◌==◌, nat_lt, slice_index, slice_index_or}
use Rattle.refusal.specs.Tests.{when, or_else}
use Rattle.refusal.specs.declared.Refusal.{Refusal}
use Rattle.refusal.specs.declared.Refusal.TheVariants.{NoCells, NoPlace}
use Rattle.plan.specs.Cells.{Planned, no_cell, hops_in}
use Rattle.plan.specs.Plans.{delays_of, cells_of}
use Rattle.plan.specs.declared.plan.Plan.{Plan}
use Rattle.layout.specs.Contents.{Scheduled, Content, no_hop, no_scheduled}
use Rattle.layout.specs.declared.kind.Kind.{Kind}
use Rattle.layout.specs.declared.kind.Pile.{Pile}
use Rattle.sheet.specs.Rows.{content_from}
use Rattle.sheet.specs.Runs.{kind_of}
use Rattle.sheet.specs.declared.run.Run.{Run}
use Rattle.sheet.specs.declared.sheet.Sheet.{Sheet}

abbrev pub content_of : Sheet → Content
content_of s = content_from s.run s.pile s.delays.items s.rows.items

-- x is the cell c with the slack s, sent in the slots that stand in ss from the index first on
pub record Told (c : Planned) (s : ℤ) (ss : List ℕ) (first : ℕ) (x : Scheduled) : Type 0 where
  pub entry : x.entry ≡ c.entry
  pub flow : x.flow ≡ c.flow
  pub slack : x.slack ≡ s
  pub long : length x.hops ≡ length c.route
  pub port : (h : ℕ) → h < length c.route → (get_or x.hops h no_hop).port ≡ slice_index c.route h
  pub sent : (h : ℕ) → h < length c.route → (get_or x.hops h no_hop).sent ≡ slice_index ss (first + h)

-- each cell of cs is told: its slack stands in xs at its number, its slots in ss behind those of the cells before it
abbrev pub EachTold : List Planned → List ℤ → List ℕ → List Scheduled → Type 0
EachTold cs xs ss ys =
    (k : ℕ) → k < length cs → Told (slice_index_or cs k no_cell) (slice_index_or xs k (pos 0)) ss (hops_in (take k cs)) (slice_index_or ys k no_scheduled)

-- and no cell is told but those
abbrev pub RowsTold : List Planned → List ℤ → List ℕ → List Scheduled → Type 0
RowsTold cs xs ss ys = (length ys ≡ length cs) × EachTold cs xs ss ys

-- the content x tells of ports with the delays ds, and of the cells cs with their slacks xs and their sent slots ss
pub record Tells (k : Kind) (p : Pile) (ds : List ℕ) (cs : List Planned) (xs : List ℤ) (ss : List ℕ) (x : Content) : Type 0 where
  pub kind : x.kind ≡ k
  pub pile : x.pile ≡ p
  pub delays : x.delays ≡ ds
  pub count : length x.cells ≡ length cs
  pub each : EachTold cs xs ss x.cells

-- no two contents tell the same
pub record OneTelling : Type 0 where
  pub same : (k : Kind) (p : Pile) (ds : List ℕ) (cs : List Planned) (xs : List ℤ) (ss : List ℕ) (x y : Content)
      → Tells k p ds cs xs ss x → Tells k p ds cs xs ss y → x ≡ y

-- the tests of a sheet: a plan without a cell, and a slack or a sent slot too few
abbrev pub sheet_test : List Planned → List ℤ → List ℕ → Option Refusal
sheet_test cs xs ss =
    or_else (when (length cs == 0) NoCells)
    (when (nat_lt (length xs) (length cs) || nat_lt (length ss) (hops_in cs)) NoPlace)

-- where every test passes, a sheet that tells of the plan; else the refusal of the first test that fails
abbrev pub Answers : Run → Pile → Plan → List ℤ → List ℕ → Result Sheet Refusal → Type 0
Answers run pile p xs ss (Ok s) =
    (sheet_test (cells_of p) xs ss ≡ None) × Tells (kind_of run) pile (delays_of p) (cells_of p) xs ss (content_of s)
Answers run pile p xs ss (Err e) = sheet_test (cells_of p) xs ss ≡ Some e
