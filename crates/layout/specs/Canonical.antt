-- The canonical file of a content: hop records cell by cell along each route.
use Rattle.std.specs.Prelude.{ℕ, ◌+◌, ◌/◌, ◌%◌, List, [], ◌∷◌, ◌++◌, length, ℤ}
use Rattle.std.specs.Int.{w32}
use Rattle.std.proofs.Common.{of_z}
use Rattle.std.specs.List.{flat_map}
use Rattle.layout.specs.Contents.{Hop, Scheduled, Content, kind_number, pile_number, total_hops}

abbrev pub word_bytes : ℕ → List ℕ
word_bytes v = v / 256 % 256 ∷ v % 256 ∷ []

abbrev pub long_bytes : ℕ → List ℕ
long_bytes v = v / 16777216 % 256 ∷ v / 65536 % 256 ∷ v / 256 % 256 ∷ v % 256 ∷ []

-- a cell's record, with the index of its first hop record
pub record RecordOfCell : Type 0 where
  pub entry : ℕ
  pub flow : ℕ
  pub first : ℕ
  pub slack : ℤ

pub record RecordOfHop : Type 0 where
  pub next : ℕ
  pub port : ℕ
  pub sent : ℕ

abbrev pub cell_bytes : RecordOfCell → List ℕ
cell_bytes c = word_bytes c.entry ++ (c.flow ∷ 0 ∷ (word_bytes c.first ++ long_bytes (of_z w32 c.slack)))

abbrev pub hop_bytes : RecordOfHop → List ℕ
hop_bytes h = word_bytes h.next ++ (h.port ∷ 0 ∷ long_bytes h.sent)

-- the records of the cells, where the hops of the first of them begin at index i
abbrev pub cell_records : ℕ → List Scheduled → List RecordOfCell
cell_records i [] = []
cell_records i (c ∷ cs) =
    record { entry = c.entry; flow = c.flow; first = i; slack = c.slack } ∷ cell_records (i + length c.hops) cs

-- the index after i, or 0 where no hop follows
abbrev pub next_of : ℕ → List Hop → ℕ
next_of i [] = 0
next_of i (h ∷ hs) = i + 1

-- the records of one route, from index i on
abbrev pub route_records : ℕ → List Hop → List RecordOfHop
route_records i [] = []
route_records i (h ∷ hs) = record { next = next_of i hs; port = h.port; sent = h.sent } ∷ route_records (i + 1) hs

-- the records of all routes
abbrev pub hop_records : ℕ → List Scheduled → List RecordOfHop
hop_records i [] = []
hop_records i (c ∷ cs) = route_records i c.hops ++ hop_records (i + length c.hops) cs

abbrev pub head_bytes : Content → List ℕ
head_bytes x =
    kind_number x.kind ∷ pile_number x.pile
    ∷ (word_bytes (length x.delays) ++ (word_bytes (length x.cells) ++ word_bytes (total_hops x.cells)))

unfoldable pub canonical : Content → List ℕ
canonical x =
    head_bytes x
    ++ (flat_map word_bytes x.delays
    ++ (flat_map cell_bytes (cell_records 1 x.cells)
    ++ flat_map hop_bytes (hop_records 1 x.cells)))

-- its length
abbrev pub canonical_length : Content → ℕ
canonical_length x = length (canonical x)
