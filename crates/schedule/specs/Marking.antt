-- The cells of a plan together with their marks.
use Rattle.std.specs.Prelude.{ℕ, ◌<◌, List, [], ◌∷◌, length, pos, slice_index_or}
use Rattle.plan.specs.Cells.{Planned, no_cell}
use Rattle.layout.specs.Contents.{Hop, Scheduled, Marked}
use Rattle.layout.specs.declared.kind.Kind.{Kind}
use Rattle.schedule.specs.declared.marks.Marks.{Marks}

-- the ports of a route with the slots in which the cell was sent from them
abbrev pub hops_of : List ℕ → List ℕ → List Hop
hops_of [] ss = []
hops_of (p ∷ ps) [] = record { port = p; sent = 0 } ∷ hops_of ps []
hops_of (p ∷ ps) (s ∷ ss) = record { port = p; sent = s } ∷ hops_of ps ss

abbrev pub scheduled : Planned → Marks → Scheduled
scheduled c m = record { entry = c.entry; flow = c.flow; slack = m.slack; hops = hops_of c.route m.sent }

-- the cells of a plan, each with its marks
abbrev pub timed : List Planned → List Marks → List Scheduled
timed [] ms = []
timed (c ∷ cs) [] = []
timed (c ∷ cs) (m ∷ ms) = scheduled c m ∷ timed cs ms

-- what stands past the last marks
abbrev pub no_marks : Marks
no_marks = record { slack = pos 0; sent = 0 ∷ 0 ∷ 0 ∷ 0 ∷ 0 ∷ 0 ∷ 0 ∷ 0 ∷ [] }

-- each cell is marked as the kind asks
abbrev pub AllMarked : Kind → List Planned → List Marks → Type 0
AllMarked k cs ms = (c : ℕ) → c < length cs → Marked k (scheduled (slice_index_or cs c no_cell) (slice_index_or ms c no_marks))
