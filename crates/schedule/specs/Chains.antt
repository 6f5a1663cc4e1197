-- Chains of hop records, and how far a walk along one has come.
use Rattle.std.specs.Prelude.{◌≡◌, ℕ, ◌-◌, ◌^◌, ◌<◌, ◌≤◌, Bool, true, false, List, ◌++◌, map, length, take, drop, Some, None, Ok, Err, Result, slice_index, slice_index_or}
use Rattle.refusal.specs.Tests.{each_below}
use Rattle.refusal.specs.declared.Refusal.{Refusal}
use Rattle.plan.specs.Cells.{has}
use Rattle.layout.specs.Fields.{cell_count, hop_count, first_at, next_at, port_at, sent_at}
use Rattle.layout.specs.Order.{leads_on, chain_from, chain_of, reached, twice_test}
use Rattle.schedule.specs.declared.chain.Found.{Found}

-- no index points past the records, and every next index leads on
pub record Linked (bs : List ℕ) : Type 0 where
  pub first : (c : ℕ) → c < cell_count bs → first_at bs c ≤ hop_count bs
  pub next : (i : ℕ) → 0 < i → i ≤ hop_count bs → leads_on (hop_count bs) i (next_at bs i) ≡ true

-- the flags tell which of the indices have been reached
abbrev pub Seen : List Bool → List ℕ → Type 0
Seen flags is = (j : ℕ) → j < length flags → slice_index_or flags j false ≡ has is j

-- found has what stands in the first k records of a chain: their ports, of which 9 are kept, and their sent slots, of
-- which 8 are
pub record Noted (bs : List ℕ) (chain : List ℕ) (k : ℕ) (f : Found) : Type 0 where
  pub ports : f.ports.items ≡ take 9 (map (port_at bs) (take k chain))
  pub sent : (j : ℕ) → j < k → j < 8 → slice_index f.sent j ≡ sent_at bs (slice_index chain j)
  pub fits : (j : ℕ) → j < 8 → slice_index f.sent j < 2 ^ 32
  pub sent_long : length f.sent ≡ 8

-- the first k records on the chain of cell c have passed, and the next one is i, or 0 at the end
pub record Walking (bs : List ℕ) (c k i : ℕ) (flags : List Bool) (f : Found) : Type 0 where
  pub index : i ≤ hop_count bs
  pub rises : 0 < i → k < i
  pub within : k ≤ length (chain_of bs c)
  pub rest : drop k (chain_of bs c) ≡ chain_from (hop_count bs - k) bs i
  pub passed : each_below k (twice_test bs c) ≡ None
  pub flags_long : length flags ≡ 2049
  pub seen : Seen flags (reached bs c ++ take k (chain_of bs c))
  pub noted : Noted bs (chain_of bs c) k f

-- the whole chain of cell c has passed, or one of its records was reached before
abbrev pub Walked : List ℕ → ℕ → Result Found Refusal → List Bool → Type 0
Walked bs c (Ok f) flags =
    (each_below (length (chain_of bs c)) (twice_test bs c) ≡ None)
    × Noted bs (chain_of bs c) (length (chain_of bs c)) f
    × Seen flags (reached bs c ++ chain_of bs c)
    × (length flags ≡ 2049)
Walked bs c (Err e) flags = each_below (length (chain_of bs c)) (twice_test bs c) ≡ Some e
