-- The records of cells and hops, one more at a time, and how many there are.
use Rattle.std.proofs.Common.{◌≡◌, ℕ, zero, suc, ◌+◌, ◌<◌, cond, ltb, List, [], ◌∷◌, ◌++◌, length, get_or, drop, refl, ap, ◌∙◌, add-zero, add_assoc, arith}
use Rattle.std.proofs.lemmas.List.{append-nil, append_assoc}
use Rattle.std.proofs.lemmas.Bool.Decides.{nat_tests}
use Rattle.layout.specs.Contents.{Hop, Scheduled, no_hop, total_hops}
use Rattle.layout.specs.declared.fields.CellFields.{CellFields}
use Rattle.layout.specs.declared.fields.HopFields.{HopFields}
use Rattle.layout.specs.Sources.{TellsCell, TellsHop}
use Rattle.layout.specs.Canonical.{RecordOfCell, RecordOfHop, cell_records, next_of, route_records, hop_records}

-- the record of a cell whose first hop record has the index i
abbrev pub cell_record : ℕ → Scheduled → RecordOfCell
cell_record i c = record { entry = c.entry; flow = c.flow; first = i; slack = c.slack }

-- the record of a hop that the record with the index n follows
abbrev pub hop_record : ℕ → Hop → RecordOfHop
hop_record n h = record { next = n; port = h.port; sent = h.sent }

-- what a source tells of a cell or a hop gives its record
pub told_cell : (f : CellFields) (c : Scheduled) {i j : ℕ} → TellsCell f c → i ≡ j → record { entry = f.entry; flow = f.flow; first = i; slack = f.slack } ≡ cell_record j c
told_cell f c t e = rw (t.entry, t.flow, t.slack, e)

pub told_hop : (f : HopFields) (h : Hop) {i j : ℕ} → TellsHop f h → i ≡ j → record { next = i; port = f.port; sent = f.sent } ≡ hop_record j h
told_hop f h t e = rw (t.port, t.sent, e)

-- one more cell
pub cell_records_push : (i : ℕ) (cs : List Scheduled) (c : Scheduled) → cell_records i (cs ++ c ∷ []) ≡ cell_records i cs ++ cell_record (i + total_hops cs) c ∷ []
cell_records_push i [] c = rw add-zero
cell_records_push i (b ∷ cs) c = ap (λ w. cell_record i b ∷ w) (cell_records_push (i + length b.hops) cs c ∙ rw add_assoc)

pub hop_records_push : (i : ℕ) (cs : List Scheduled) (c : Scheduled) → hop_records i (cs ++ c ∷ []) ≡ hop_records i cs ++ route_records (i + total_hops cs) c.hops
hop_records_push i [] c = rw (append-nil, add-zero)
hop_records_push i (b ∷ cs) c = rw (hop_records_push (i + length b.hops) cs c, append_assoc, add_assoc)

-- the record at a position of a route
pub route_record_at : (i : ℕ) (hs : List Hop) (j : ℕ) (d : RecordOfHop) → j < length hs → get_or (route_records i hs) j d ≡ hop_record (next_of (i + j) (drop (j + 1) hs)) (get_or hs j no_hop)
route_record_at i [] j d l = absurd (omega arith)
route_record_at i (h ∷ hs) zero d l = rw add-zero
route_record_at i (h ∷ hs) (suc j) d l =
    let e : i + suc j ≡ i + 1 + j = omega arith in
    let f : suc j + 1 ≡ suc (j + 1) = omega arith in
    rw (e, f) (route_record_at (i + 1) hs j d (omega arith))

-- what follows a position of a route
pub next_of_drop : (i k : ℕ) (hs : List Hop) → next_of i (drop k hs) ≡ cond (ltb k (length hs)) (i + 1) 0
next_of_drop i zero [] = refl
next_of_drop i zero (h ∷ hs) = grind (arith, nat_tests)
next_of_drop i (suc k) [] = grind (arith, nat_tests)
next_of_drop i (suc k) (h ∷ hs) = let e = next_of_drop i k hs in grind (arith, nat_tests)
