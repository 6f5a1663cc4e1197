-- The fields of the canonical file at their offsets.
use Rattle.std.proofs.Common.{◌≡◌, ℕ, zero, suc, ◌+◌, ◌*◌, ◌<◌, List, [], ◌∷◌, ◌++◌, length, get_or, sym, refl, ap, ◌∙◌, subst, add-zero, add_assoc, arith}
use Rattle.std.specs.List.{flat_map}
use Rattle.layout.specs.Fields.{kind_at, pile_at, port_count, cell_count, hop_count, delay_at, cell_offset, hop_offset}
use Rattle.layout.specs.Contents.{Scheduled, Content, no_scheduled, total_hops, kind_number, pile_number, Fit}
use Rattle.layout.specs.Canonical.{RecordOfCell, word_bytes, cell_bytes, hop_bytes, cell_records, route_records, hop_records, head_bytes, canonical}
use Rattle.layout.proofs.Blocks.{Stands, stands_whole, stands_left, stands_right, stands_joined, joined_append, length_joined}
use Rattle.layout.proofs.Bytes.{word_stands, ReadsCell, reads_cell}
use Rattle.layout.proofs.Records.{cell_record}
use Rattle.layout.proofs.Size.{length_cell_records, length_route_records}
use Rattle.layout.proofs.Limits.{cell, before, fitting, total_few, before_few}

-- the record of cell c
pub get_or_cell_records :
    (i : ℕ) (cs : List Scheduled) (c : ℕ) (e : RecordOfCell) → c < length cs
    → get_or (cell_records i cs) c e ≡ cell_record (i + before c cs) (get_or cs c no_scheduled)
get_or_cell_records i [] c e l = absurd (omega arith)
get_or_cell_records i (x ∷ cs) zero e l = ap (λ k. cell_record k x) (sym (add-zero i))
get_or_cell_records i (x ∷ cs) (suc c) e l =
    get_or_cell_records (i + length x.hops) cs c e (omega arith)
    ∙ ap (λ k. cell_record k (get_or cs c no_scheduled)) (add_assoc i (length x.hops) (before c cs))

-- the records of the route of cell c stand 8 * (hops before it) further on
pub stands_route :
    (bs : List ℕ) (n i : ℕ) (cs : List Scheduled) (c : ℕ) → c < length cs
    → Stands bs n (flat_map hop_bytes (hop_records i cs))
    → Stands bs (n + 8 * before c cs) (flat_map hop_bytes (route_records (i + before c cs) (get_or cs c no_scheduled).hops))
stands_route bs n i [] c l s = absurd (omega arith)
stands_route bs n i (x ∷ cs) zero l s =
    let here = flat_map hop_bytes (route_records i x.hops) in
    let rest = flat_map hop_bytes (hop_records (i + length x.hops) cs) in
    rw (add-zero n, add-zero i) (stands_left bs here rest n (rw joined_append at s))
stands_route bs n i (x ∷ cs) (suc c) l s =
    let here = flat_map hop_bytes (route_records i x.hops) in
    let rest = flat_map hop_bytes (hop_records (i + length x.hops) cs) in
    let more = n + 8 * length x.hops in
    let a : length here ≡ 8 * length x.hops =
    length_joined hop_bytes 8 (λ r. refl) (route_records i x.hops) ∙ ap (λ k. 8 * k) (length_route_records i x.hops) in
    let b : more + 8 * before c cs ≡ n + 8 * (length x.hops + before c cs) = omega arith in
    let d : i + length x.hops + before c cs ≡ i + (length x.hops + before c cs) = omega arith in
    rw (← b, ← d)
    (stands_route bs more (i + length x.hops) cs c (omega arith)
    (stands_right bs here rest n more (ap (λ k. n + k) a) (rw joined_append at s)))

-- the index of the first hop of cell c
abbrev pub first_of : Content → ℕ → ℕ
first_of x c = 1 + before c x.cells

-- where the parts begin
module _ (x : Content) where
  abbrev delay_part : List ℕ
  delay_part = flat_map word_bytes x.delays

  abbrev cell_part : List ℕ
  cell_part = flat_map cell_bytes (cell_records 1 x.cells)

  abbrev hop_part : List ℕ
  hop_part = flat_map hop_bytes (hop_records 1 x.cells)

  stands_rest : Stands (canonical x) 8 (delay_part ++ (cell_part ++ hop_part))
  unfolding canonical
  stands_rest =
      stands_right (canonical x) (head_bytes x) (delay_part ++ (cell_part ++ hop_part)) 0 8 refl (stands_whole (canonical x))

  pub stands_delays : Stands (canonical x) 8 delay_part
  stands_delays = stands_left (canonical x) delay_part (cell_part ++ hop_part) 8 stands_rest

  stands_records : Stands (canonical x) (8 + 2 * length x.delays) (cell_part ++ hop_part)
  stands_records =
      stands_right (canonical x) delay_part (cell_part ++ hop_part) 8 _
      (ap (λ k. 8 + k) (length_joined word_bytes 2 (λ v. refl) x.delays))
      stands_rest

  pub stands_cells : Stands (canonical x) (8 + 2 * length x.delays) cell_part
  stands_cells = stands_left (canonical x) cell_part hop_part _ stands_records

  pub stands_hops : Stands (canonical x) (8 + 2 * length x.delays + 10 * length x.cells) hop_part
  stands_hops =
      stands_right (canonical x) cell_part hop_part _ _
      (ap (λ k. 8 + 2 * length x.delays + k)
      (length_joined cell_bytes 10 (λ r. refl) (cell_records 1 x.cells) ∙ ap (λ k. 10 * k) (length_cell_records 1 x.cells)))
      stands_records

  -- the head
  pub kind_is : kind_at (canonical x) ≡ kind_number x.kind
  unfolding canonical
  kind_is = refl

  pub pile_is : pile_at (canonical x) ≡ pile_number x.pile
  unfolding canonical
  pile_is = refl

module _ (x : Content) (fit : Fit x) where
  pub ports_is : port_count (canonical x) ≡ length x.delays
  unfolding canonical
  ports_is =
      let a = fit.few_ports in
      word_stands (canonical x) 2 (length x.delays) (omega arith) (_, refl)

  pub cells_is : cell_count (canonical x) ≡ length x.cells
  unfolding canonical
  cells_is =
      let a = fit.few_cells in
      word_stands (canonical x) 4 (length x.cells) (omega arith) (_, refl)

  pub hops_is : hop_count (canonical x) ≡ total_hops x.cells
  unfolding canonical
  hops_is =
      let a = total_few x fit in
      word_stands (canonical x) 6 (total_hops x.cells) (omega arith) (_, refl)

  pub delay_is : (p : ℕ) → p < length x.delays → delay_at (canonical x) p ≡ get_or x.delays p 0
  delay_is p l =
      let a = fit.delays p l in
      word_stands (canonical x) _ (get_or x.delays p 0) (omega arith)
      (stands_joined word_bytes 2 (λ v. refl) (canonical x) x.delays 8 p 0 l (stands_delays x))

  -- the fields of cell c
  pub cell_is :
      (c : ℕ) → c < length x.cells
      → ReadsCell (canonical x) (cell_offset (canonical x) c) (cell_record (first_of x c) (cell x c))
  cell_is c l =
      let e = cell_record 0 no_scheduled in
      let a = (fitting x fit c l).0 in
      let b = before_few x fit c l in
      let d = total_few x fit in
      let s =
      stands_joined cell_bytes 10 (λ r. refl) (canonical x) (cell_records 1 x.cells) (8 + 2 * length x.delays) c e
      (simp length_cell_records l) (stands_cells x) in
      rw ports_is
      (reads_cell (canonical x) _ (cell_record (first_of x c) (cell x c)) (omega arith) (omega arith) (fit.marks c l).0
      (rw (get_or_cell_records 1 x.cells c e l) at s))

  -- the hop records of cell c
  pub route_is :
      (c : ℕ) → c < length x.cells
      → Stands (canonical x) (hop_offset (canonical x) (first_of x c))
      (flat_map hop_bytes (route_records (first_of x c) (cell x c).hops))
  route_is c l =
      let a = ports_is in
      let b = cells_is in
      let n = 8 + 2 * length x.delays + 10 * length x.cells in
      let e : n + 8 * before c x.cells ≡ hop_offset (canonical x) (first_of x c) = omega arith in
      subst (λ m. Stands (canonical x) m (flat_map hop_bytes (route_records (first_of x c) (cell x c).hops))) e
      (stands_route (canonical x) n 1 x.cells c l (stands_hops x))
