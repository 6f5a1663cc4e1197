-- The tests of a schedule file, in the order in which they are made.
use Rattle.std.specs.Prelude.{ℕ, zero, suc, ◌+◌, Bool, cond, not, ◌&&◌, ◌||◌, List, [], ◌∷◌, ◌++◌, map, length, take, Option, ◌==◌, nat_le, nat_lt, slice_index}
use Rattle.refusal.specs.Tests.{when, or_else, each_below}
use Rattle.refusal.specs.declared.Refusal.{Refusal}
use Rattle.refusal.specs.declared.Refusal.TheVariants.{WrongLength, BadField, BadCount, BadDelay, BadIndex, BadChain, BadFlow}
use Rattle.plan.specs.Cells.{has, within, route_test}
use Rattle.layout.specs.declared.kind.Accepts.{Accepts}
use Rattle.layout.specs.declared.kind.Accepts.TheVariants.{AnyKind, LoadsOnly}
use Rattle.layout.specs.Fields.{byte, long, kind_at, pile_at, port_count, cell_count, hop_count, file_length, port_offset, delay_at, cell_offset, flow_at, first_at, hop_offset, next_at, port_at, sent_at}

-- whether the caller takes a kind
abbrev pub takes : Accepts → ℕ → Bool
takes AnyKind k = within 1 3 k
takes LoadsOnly k = k == 1

-- the limits of the counts
abbrev pub count_tests : ℕ → ℕ → ℕ → Option Refusal
count_tests ports cells hops =
    or_else (when (not (within 1 32 ports)) (BadCount 2))
    (or_else (when (not (within 1 256 cells)) (BadCount 4))
    (when (nat_lt 2048 hops) (BadCount 6)))

-- the head, and the length that it asks for
abbrev pub head_test : Accepts → List ℕ → Option Refusal
head_test a bs =
    or_else (when (nat_lt (length bs) 8) (WrongLength (length bs)))
    (or_else (when (not (takes a (kind_at bs))) (BadField 0))
    (or_else (when (nat_lt 2 (pile_at bs)) (BadField 1))
    (or_else (count_tests (port_count bs) (cell_count bs) (hop_count bs))
    (when (not (length bs == file_length (port_count bs) (cell_count bs) (hop_count bs))) (WrongLength (length bs))))))

-- whether a field that is zero in a load is not
abbrev pub load_nonzero : List ℕ → ℕ → Bool
load_nonzero bs v = kind_at bs == 1 && not (v == 0)

-- the field of port p
abbrev pub port_fields : List ℕ → ℕ → Option Refusal
port_fields bs p = when (not (within 1 255 (delay_at bs p))) (BadDelay (port_offset p))

-- the fields of cell c
abbrev pub cell_fields : List ℕ → ℕ → Option Refusal
cell_fields bs c =
    or_else (when (nat_lt 7 (flow_at bs c)) (BadFlow c))
    (or_else (when (not (byte bs (cell_offset bs c + 3) == 0)) (BadField (cell_offset bs c + 3)))
    (or_else (when (nat_lt (hop_count bs) (first_at bs c)) (BadIndex (cell_offset bs c + 4)))
    (when (load_nonzero bs (long bs (cell_offset bs c + 6))) (BadField (cell_offset bs c + 6)))))

-- whether a next index is 0, or above its own and not above the hop count
abbrev pub leads_on : ℕ → ℕ → ℕ → Bool
leads_on hops i n = n == 0 || (nat_lt i n && nat_le n hops)

-- the fields of hop record i
abbrev pub hop_fields : List ℕ → ℕ → Option Refusal
hop_fields bs i =
    or_else (when (not (leads_on (hop_count bs) i (next_at bs i))) (BadIndex (hop_offset bs i)))
    (or_else (when (not (byte bs (hop_offset bs i + 3) == 0)) (BadField (hop_offset bs i + 3)))
    (when (load_nonzero bs (sent_at bs i)) (BadField (hop_offset bs i + 4))))

-- the indices of the records on the chain from index i on, at most n of them
abbrev pub chain_from : ℕ → List ℕ → ℕ → List ℕ
chain_from zero bs i = []
chain_from (suc n) bs i = cond (i == 0) [] (i ∷ chain_from n bs (next_at bs i))

-- the chain of cell c: where every next index leads on, no chain is longer than there are records
abbrev pub chain_of : List ℕ → ℕ → List ℕ
chain_of bs c = chain_from (hop_count bs) bs (first_at bs c)

-- the records on the chains of the cells below c, in the order in which they are reached
abbrev pub reached : List ℕ → ℕ → List ℕ
reached bs zero = []
reached bs (suc c) = reached bs c ++ chain_of bs c

-- the k-th record on the chain of cell c, which must not have been reached before
abbrev pub twice_test : List ℕ → ℕ → ℕ → Option Refusal
twice_test bs c k =
    when (has (reached bs c ++ take k (chain_of bs c)) (slice_index (chain_of bs c) k)) (BadChain (slice_index (chain_of bs c) k))

-- the walk along the chain of cell c, and then its route
abbrev pub chain_test : List ℕ → ℕ → Option Refusal
chain_test bs c =
    or_else (each_below (length (chain_of bs c)) (twice_test bs c))
    (route_test (port_count bs) c (map (port_at bs) (chain_of bs c)))

-- record i must be on some chain
abbrev pub unreached_test : List ℕ → ℕ → Option Refusal
unreached_test bs i = when (not (has (reached bs (cell_count bs)) i)) (BadChain i)

-- all fields in file order
abbrev pub field_tests : List ℕ → Option Refusal
field_tests bs =
    or_else (each_below (port_count bs) (port_fields bs))
    (or_else (each_below (cell_count bs) (cell_fields bs))
    (each_below (hop_count bs) (λ k. hop_fields bs (k + 1))))

-- the chains of all cells, and last the records that none has reached
abbrev pub chain_tests : List ℕ → Option Refusal
chain_tests bs =
    or_else (each_below (cell_count bs) (chain_test bs))
    (each_below (hop_count bs) (λ k. unreached_test bs (k + 1)))

-- the refusal of the first test that fails
unfoldable pub first_refusal : Accepts → List ℕ → Option Refusal
first_refusal a bs = or_else (head_test a bs) (or_else (field_tests bs) (chain_tests bs))
