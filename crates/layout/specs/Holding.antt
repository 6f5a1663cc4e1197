-- What it means that bytes hold a content: each field stands at its offset, and each cell's hops are the records of a
-- chain that begins at the cell's first index and ends at index 0.
use Rattle.std.specs.Prelude.{◌≡◌, ℕ, ◌<◌, List, [], ◌∷◌, length, slice_index, slice_index_or}
use Rattle.layout.specs.Fields.{kind_at, pile_at, port_count, cell_count, delay_at, entry_at, flow_at, first_at, slack_at, next_at, port_at, sent_at}
use Rattle.layout.specs.Contents.{Hop, Scheduled, Content, no_scheduled, kind_number, pile_number}

-- the chain of records from index i on holds these hops
abbrev pub Chained : List ℕ → ℕ → List Hop → Type 0
Chained bs i [] = i ≡ 0
Chained bs i (h ∷ hs) =
    (0 < i) × (h.port ≡ port_at bs i) × (h.sent ≡ sent_at bs i) × Chained bs (next_at bs i) hs

-- the bytes hold x as the cell with the number c
pub record CellHeld (bs : List ℕ) (c : ℕ) (x : Scheduled) : Type 0 where
  pub entry : x.entry ≡ entry_at bs c
  pub flow : x.flow ≡ flow_at bs c
  pub slack : x.slack ≡ slack_at bs c
  pub hops : Chained bs (first_at bs c) x.hops

pub record Held (bs : List ℕ) (x : Content) : Type 0 where
  pub kind : kind_number x.kind ≡ kind_at bs
  pub pile : pile_number x.pile ≡ pile_at bs
  pub ports : length x.delays ≡ port_count bs
  pub cells : length x.cells ≡ cell_count bs
  pub delays : (p : ℕ) → p < length x.delays → slice_index x.delays p ≡ delay_at bs p
  pub each : (c : ℕ) → c < length x.cells → CellHeld bs c (slice_index_or x.cells c no_scheduled)
