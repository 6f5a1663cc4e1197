-- What the writer's loops have written, one step more, and in the end.
use Rattle.std.proofs.Common.{◌≡◌, ℕ, ◌+◌, ◌*◌, ◌<◌, ◌≤◌, cond, ltb, List, [], ◌∷◌, ◌++◌, length, get_or, take, drop, sym, refl, ap, ◌∙◌, add-one, arith}
use Rattle.std.specs.List.{flat_map}
use Rattle.std.proofs.lemmas.List.{append_assoc, length-append, length-take-le, take_more, take_all}
use Rattle.layout.specs.declared.fields.CellFields.{CellFields}
use Rattle.layout.specs.declared.fields.HopFields.{HopFields}
use Rattle.layout.specs.Sources.{TellsCell, TellsHop}
use Rattle.layout.specs.Contents.{Hop, Scheduled, Content, no_hop, no_scheduled, total_hops}
use Rattle.layout.specs.Fields.{file_length}
use Rattle.layout.specs.Canonical.{word_bytes, cell_bytes, hop_bytes, next_of, cell_records, route_records, hop_records, head_bytes, canonical, canonical_length}
use Rattle.layout.specs.Placed.{placed, cells_start, hop_start, hops_of}
use Rattle.layout.proofs.Blocks.{length_joined, joined_append}
use Rattle.layout.proofs.Limits.{before_more}
use Rattle.layout.proofs.Placing.{placed_front, placed_twice, placed_more}
use Rattle.layout.proofs.Records.{cell_record, hop_record, told_cell, told_hop, cell_records_push, hop_records_push, route_record_at, next_of_drop}
use Rattle.layout.proofs.Size.{canonical_size, length_cell_records, length_route_records, length_hop_records}

-- the bytes of the first p ports
abbrev pub ports_done : Content → ℕ → List ℕ
ports_done x p = flat_map word_bytes (take p x.delays)

-- of the first k cells
abbrev pub cells_done : Content → ℕ → List ℕ
cells_done x k = flat_map cell_bytes (cell_records 1 (take k x.cells))

-- of the hops of the first k cells
abbrev pub hops_done : Content → ℕ → List ℕ
hops_done x k = flat_map hop_bytes (hop_records 1 (take k x.cells))

-- of the first j hops of a route whose records begin at index i
abbrev pub route_done : ℕ → List Hop → ℕ → List ℕ
route_done i hs j = flat_map hop_bytes (take j (route_records i hs))

-- the ports: one more
pub ports_more : (x : Content) (out : List ℕ) (p : ℕ) {now after bs : List ℕ} {n : ℕ} → p < length x.delays → cells_start x ≤ length out → now ≡ placed out 8 (ports_done x p) → after ≡ placed now n bs → n ≡ file_length p 0 0 → bs ≡ word_bytes (get_or x.delays p 0) → after ≡ placed out 8 (ports_done x (p + 1))
ports_more x out p l room before put at is =
    let long = length-take-le p x.delays (omega arith) in
    placed_more word_bytes 2 (λ _. refl) out 8 (take p x.delays) (get_or x.delays p 0) before put is
    (take_more x.delays p 0 l) (omega arith) (omega arith)

-- the hops of one more cell are counted
pub total_more : (cs : List Scheduled) (k : ℕ) → k < length cs → total_hops (take (k + 1) cs) ≡ total_hops (take k cs) + length (get_or cs k no_scheduled).hops
total_more cs k l = rw add-one (before_more cs k l)

-- the cells: one more
pub cells_more : (x : Content) (out : List ℕ) (k : ℕ) (f : CellFields) {now after bs : List ℕ} {n first : ℕ} → k < length x.cells → hop_start x 0 ≤ length out → now ≡ placed out (cells_start x) (cells_done x k) → after ≡ placed now n bs → n ≡ file_length (length x.delays) k 0 → first ≡ 1 + total_hops (take k x.cells) → TellsCell f (get_or x.cells k no_scheduled) → bs ≡ cell_bytes (record { entry = f.entry; flow = f.flow; first = first; slack = f.slack }) → after ≡ placed out (cells_start x) (cells_done x (k + 1))
cells_more x out k f l room before put at from tells is =
    let front = take k x.cells in
    let cell = get_or x.cells k no_scheduled in
    let long = length-take-le k x.cells (omega arith) in
    let as_long = length_cell_records 1 front in
    placed_more cell_bytes 10 (λ _. refl) out (cells_start x) (cell_records 1 front) (cell_record (1 + total_hops front) cell) before put
    (is ∙ ap cell_bytes (told_cell f cell tells from))
    (ap (cell_records 1) (take_more x.cells k no_scheduled l) ∙ cell_records_push 1 front cell) (omega arith) (omega arith)

-- the hops of a route: one more, and all
pub route_more : (hs : List Hop) (out : List ℕ) (i at j : ℕ) (f : HopFields) {now after bs : List ℕ} {n next : ℕ} → j < length hs → at + 8 * length hs ≤ length out → now ≡ placed out at (route_done i hs j) → after ≡ placed now n bs → n ≡ at + 8 * j → next ≡ cond (ltb (j + 1) (length hs)) (i + j + 1) 0 → TellsHop f (get_or hs j no_hop) → bs ≡ hop_bytes (record { next = next; port = f.port; sent = f.sent }) → after ≡ placed out at (route_done i hs (j + 1))
route_more hs out i at j f l room before put off follows tells is =
    let all = length_route_records i hs in
    let long = length-take-le j (route_records i hs) (omega arith) in
    let here = hop_record (next_of (i + j) (drop (j + 1) hs)) (get_or hs j no_hop) in
    let at_j = route_record_at i hs j here l in
    placed_more hop_bytes 8 (λ _. refl) out at (take j (route_records i hs)) here before put
    (is ∙ ap hop_bytes (told_hop f (get_or hs j no_hop) tells (follows ∙ sym (next_of_drop (i + j) (j + 1) hs))))
    (take_more (route_records i hs) j here (omega arith) ∙ ap (λ h. take j (route_records i hs) ++ h ∷ []) at_j) (omega arith) (omega arith)

pub route_all : (hs : List Hop) (out : List ℕ) (i at j : ℕ) {now : List ℕ} → length hs ≤ j → now ≡ placed out at (route_done i hs j) → now ≡ placed out at (flat_map hop_bytes (route_records i hs))
route_all hs out i at j l e =
    let all = length_route_records i hs in
    let long : length (route_records i hs) ≤ j = omega arith in
    rw take_all at e

-- the hops of all cells: one more cell
hops_done_more : (x : Content) (k : ℕ) → k < length x.cells → hops_done x (k + 1) ≡ hops_done x k ++ flat_map hop_bytes (route_records (1 + total_hops (take k x.cells)) (hops_of x k))
hops_done_more x k l =
    let front = take k x.cells in
    ap (λ w. flat_map hop_bytes (hop_records 1 w)) (take_more x.cells k no_scheduled l)
    ∙ ap (flat_map hop_bytes) (hop_records_push 1 front (get_or x.cells k no_scheduled))
    ∙ joined_append hop_bytes (hop_records 1 front) (route_records (1 + total_hops front) (hops_of x k))

pub hops_more : (x : Content) (out : List ℕ) (k before : ℕ) {now after : List ℕ} → k < length x.cells → hop_start x (total_hops (take k x.cells)) ≤ length out → now ≡ placed out (hop_start x 0) (hops_done x k) → after ≡ placed now (hop_start x before) (flat_map hop_bytes (route_records (1 + before) (hops_of x k))) → before ≡ total_hops (take k x.cells) → after ≡ placed out (hop_start x 0) (hops_done x (k + 1))
hops_more x out k before l room was put from =
    let front = take k x.cells in
    let long = length_joined hop_bytes 8 (λ _. refl) (hop_records 1 front) in
    let as_long = length_hop_records 1 front in
    rw (put, was, from, hops_done_more x k l)
    (placed_twice out (hop_start x 0) (hop_start x (total_hops front)) (hops_done x k) (flat_map hop_bytes (route_records (1 + total_hops front) (hops_of x k))) (omega arith) room)

-- the head, the ports, the cells and the hops are the file
pub all_written : (x : Content) (out : List ℕ) {one two three four : List ℕ} → canonical_length x ≤ length out → one ≡ placed out 0 (head_bytes x) → two ≡ placed one 8 (flat_map word_bytes x.delays) → three ≡ placed two (cells_start x) (flat_map cell_bytes (cell_records 1 x.cells)) → four ≡ placed three (hop_start x 0) (flat_map hop_bytes (hop_records 1 x.cells)) → four ≡ canonical x ++ drop (canonical_length x) out
unfolding canonical
all_written x out {two = two} {three = three} room head-put ports-put cells-put hops-put =
    let size = canonical_size x in
    let ports = flat_map word_bytes x.delays in
    let cells = flat_map cell_bytes (cell_records 1 x.cells) in
    let hops = flat_map hop_bytes (hop_records 1 x.cells) in
    let p : length ports ≡ 2 * length x.delays = length_joined word_bytes 2 (λ _. refl) x.delays in
    let c : length cells ≡ 10 * length (cell_records 1 x.cells) = length_joined cell_bytes 10 (λ _. refl) (cell_records 1 x.cells) in
    let n = length_cell_records 1 x.cells in
    let front = head_bytes x ++ ports in
    let at_cells : cells_start x ≡ length front = simp length-append (omega arith) in
    let at-hops : hop_start x 0 ≡ length (front ++ cells) = simp length-append (omega arith) in
    rw (hops-put, cells-put, ports-put, head-put)
    (rw (placed_twice out 0 8 (head_bytes x) ports refl (omega arith))
    (rw (placed_twice out 0 (cells_start x) front cells (omega arith) (omega arith))
    (placed_twice out 0 (hop_start x 0) (front ++ cells) hops (omega arith) (omega arith)
    ∙ ap (placed out 0) (simp append_assoc) ∙ placed_front out (canonical x))))
