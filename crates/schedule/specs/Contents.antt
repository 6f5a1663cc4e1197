-- The content of a plan and its marks.
use Rattle.std.specs.Prelude.{◌≡◌, ℕ, zero, suc, ◌<◌, ◌≤◌, List, [], ◌∷◌, map, length, get_or, vec_items, slice_index, slice_index_or, refl}
use Rattle.std.proofs.Common.{sym, ap, subst, ◌∙◌, arith}
use Rattle.std.proofs.lemmas.List.{get_or_default, get_or_read, get_or_past}
use Rattle.plan.specs.Cells.{Planned, no_cell, hops_in, Cells}
use Rattle.layout.specs.Contents.{Fit, Marked, no_hop, no_scheduled, plan_part, total_hops, kind_number, pile_number}
use Rattle.layout.specs.Fields.{kind_at, pile_at, cell_count}
use Rattle.layout.specs.Holding.{Held, CellHeld}
use Rattle.layout.specs.declared.kind.Kind.{Kind}
use Rattle.layout.specs.declared.kind.Pile.{Pile}
use Rattle.schedule.specs.Gathering.{Gathered}
use Rattle.schedule.specs.Marking.{hops_of, scheduled, timed, no_marks}
use Rattle.plan.specs.Plans.{delays_of, cells_of}
use Rattle.plan.proofs.Facts.{few_ports_lem, few_cells_lem, delays_fit_lem, cells_fit}
use Rattle.schedule.specs.Reading.{content_of}
use Rattle.schedule.specs.declared.marks.Marks.{Marks}
use Rattle.schedule.specs.declared.schedule.Schedule.{Schedule}

pub length_timed : (cs : List Planned) (ms : List Marks) → length cs ≡ length ms → length (timed cs ms) ≡ length cs
length_timed [] ms h = refl
length_timed (c ∷ cs) [] h = absurd (omega arith)
length_timed (c ∷ cs) (m ∷ ms) h = ap suc (length_timed cs ms (omega arith))

-- each cell is that of the plan with its marks
pub get_or_timed : (cs : List Planned) (ms : List Marks) (i : ℕ) → length cs ≡ length ms → i < length cs
    → slice_index_or (timed cs ms) i no_scheduled ≡ scheduled (slice_index_or cs i no_cell) (slice_index_or ms i no_marks)
get_or_timed [] ms i h l = absurd (omega arith)
get_or_timed (c ∷ cs) [] i h l = absurd (omega arith)
get_or_timed (c ∷ cs) (m ∷ ms) zero h l = refl
get_or_timed (c ∷ cs) (m ∷ ms) (suc i) h l = get_or_timed cs ms i (omega arith) (omega arith)

-- the hops of a route with its sent slots
pub length_hops : (ps ss : List ℕ) → length (hops_of ps ss) ≡ length ps
length_hops [] ss = refl
length_hops (p ∷ ps) [] = ap suc (length_hops ps [])
length_hops (p ∷ ps) (s ∷ ss) = ap suc (length_hops ps ss)

pub get_or_hops : (ps ss : List ℕ) (j : ℕ) → j < length ps → slice_index_or (hops_of ps ss) j no_hop ≡ record { port = slice_index ps j; sent = slice_index ss j }
get_or_hops [] ss j l = absurd (omega arith)
get_or_hops (p ∷ ps) [] zero l = refl
get_or_hops (p ∷ ps) [] (suc j) l = get_or_hops ps [] j (omega arith)
get_or_hops (p ∷ ps) (s ∷ ss) zero l = refl
get_or_hops (p ∷ ps) (s ∷ ss) (suc j) l = get_or_hops ps ss j (omega arith)

ports_are : (ps ss : List ℕ) → map (λ h. h.port) (hops_of ps ss) ≡ ps
ports_are [] ss = refl
ports_are (p ∷ ps) [] = ap (λ x. p ∷ x) (ports_are ps [])
ports_are (p ∷ ps) (s ∷ ss) = ap (λ x. p ∷ x) (ports_are ps ss)

-- without its marks a cell is the plan's
pub plan_parts : (cs : List Planned) (ms : List Marks) → length cs ≡ length ms → map plan_part (timed cs ms) ≡ cs
plan_parts [] ms h = refl
plan_parts (c ∷ cs) [] h = absurd (omega arith)
plan_parts (c ∷ cs) (m ∷ ms) h =
    λ i. record { entry = c.entry; flow = c.flow; route = ports_are c.route m.sent i } ∷ plan_parts cs ms (omega arith) i

-- as many hops as the plan has
pub total_timed : (cs : List Planned) (ms : List Marks) → length cs ≡ length ms → total_hops (timed cs ms) ≡ hops_in cs
total_timed [] ms h = refl
total_timed (c ∷ cs) [] h = absurd (omega arith)
total_timed (c ∷ cs) (m ∷ ms) h = let a = length_hops c.route m.sent in let b = total_timed cs ms (omega arith) in omega arith

-- what has been gathered of all cells is what the file holds
pub held_whole : (bs : List ℕ) (k : Kind) (p : Pile) (ds : List ℕ) (cs : List Planned) (ms : List Marks)
    → kind_number k ≡ kind_at bs → pile_number p ≡ pile_at bs → Gathered bs k (cell_count bs) ds cs ms
    → Held bs (record { kind = k; pile = p; delays = ds; cells = timed cs ms })
held_whole bs k p ds cs ms kind pile g =
    let same : length cs ≡ length ms = g.cells ∙ sym g.marks in
    let count = length_timed cs ms same in
    let n = g.cells in
    let ports = g.ports.count in
    record {
      kind = kind;
      pile = pile;
      ports = g.ports.count;
      cells = count ∙ g.cells;
      delays = λ i l. g.ports.each i (omega arith);
      each = λ i l.
          let in' : i < length cs = omega arith in
          subst (CellHeld bs i) (sym (get_or_timed cs ms i same in')) (g.held i (omega arith));
    }

-- what every schedule holds can be held by a file
module _ (s : Schedule) where
  pub as_many : length (cells_of s.plan) ≡ length (vec_items s.marks)
  as_many = sym s.each_marked ∙ s.marks.ok.0

  pub fits : Fit (content_of s)
  fits =
      record {
        has_ports = s.some_ports;
        few_ports = few_ports_lem s.plan;
        delays = delays_fit_lem s.plan;
        has_cells = let n = length_timed _ _ as_many in let m = s.some_cells in omega arith;
        few_cells = let n = length_timed _ _ as_many in let m = few_cells_lem s.plan in omega arith;
        cells = subst (Cells (length (delays_of s.plan))) (sym (plan_parts _ _ as_many)) (cells_fit s.plan);
        marks = λ c l.
            let n = length_timed _ _ as_many in
            let in' : c < length (cells_of s.plan) = omega arith in
            let x = scheduled (slice_index_or (cells_of s.plan) c no_cell) (slice_index_or (vec_items s.marks) c no_marks) in
            let one : Marked s.kind x = s.marks_fit c in' in
            subst (Marked s.kind) (sym (get_or_timed _ _ c as_many in')) one;
      }

  -- a cell of the content
  pub cell_is : (i : ℕ) (x : Planned) (m : Marks) → i < length (cells_of s.plan) → x ≡ slice_index_or (cells_of s.plan) i no_cell
      → m ≡ slice_index_or (vec_items s.marks) i m → slice_index_or (content_of s).cells i no_scheduled ≡ scheduled x m
  cell_is i x m l e f =
      let n = as_many in
      let in' : i < length (vec_items s.marks) = omega arith in
      get_or_timed _ _ i as_many l ∙ ap (λ y. scheduled y (slice_index_or (vec_items s.marks) i no_marks)) (sym e)
      ∙ ap (scheduled x) (sym (get_or_read (vec_items s.marks) i m in' f no_marks))

  -- and none past the last
  pub cell_past : (i : ℕ) → length (cells_of s.plan) ≤ i → slice_index_or (content_of s).cells i no_scheduled ≡ no_scheduled
  cell_past i l = let n = length_timed _ _ as_many in get_or_past (content_of s).cells i no_scheduled (omega arith)

  -- a hop of a cell, and none past the last
  pub hop_is : (i j : ℕ) (x : Planned) (m : Marks) → i < length (cells_of s.plan) → x ≡ slice_index_or (cells_of s.plan) i no_cell
      → m ≡ slice_index_or (vec_items s.marks) i m → j < length x.route
      → slice_index_or (get_or (content_of s).cells i no_scheduled).hops j no_hop ≡ record { port = slice_index x.route j; sent = slice_index m.sent j }
  hop_is i j x m l e f k = ap (λ y. get_or y.hops j no_hop) (cell_is i x m l e f) ∙ get_or_hops x.route m.sent j k

  pub hop_past : (i j : ℕ) (x : Planned) → i < length (cells_of s.plan) → x ≡ slice_index_or (cells_of s.plan) i no_cell
      → length x.route ≤ j → slice_index_or (get_or (content_of s).cells i no_scheduled).hops j no_hop ≡ no_hop
  hop_past i j x l e k =
      let m = get_or (vec_items s.marks) i no_marks in
      let n = as_many in
      let in' : i < length (vec_items s.marks) = omega arith in
      let long = length_hops x.route m.sent in
      ap (λ y. get_or y.hops j no_hop) (cell_is i x m l e (get_or_default (vec_items s.marks) i no_marks m in'))
      ∙ get_or_past (hops_of x.route m.sent) j no_hop (omega arith)
