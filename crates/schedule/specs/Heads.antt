-- What the tests of a head leave.
use Rattle.std.specs.Prelude.{◌≡◌, ℕ, ◌<◌, ◌≤◌, true, false, List, length, Some, None, Ok, Err, Result, nat_lt}
use Rattle.refusal.specs.declared.Refusal.{Refusal}
use Rattle.refusal.specs.declared.Refusal.TheVariants.{BadField}
use Rattle.layout.specs.Contents.{kind_number, pile_number}
use Rattle.layout.specs.Fields.{kind_at, pile_at, port_count, cell_count, hop_count, file_length}
use Rattle.layout.specs.Order.{takes, head_test}
use Rattle.layout.specs.declared.kind.Accepts.{Accepts}
use Rattle.layout.specs.declared.kind.Kind.{Kind}
use Rattle.layout.specs.declared.kind.Pile.{Pile}
use Rattle.schedule.specs.declared.head.Head.{Head}

-- the kind of the byte k, or 2 at 0 where the caller does not take it
abbrev pub KindRead : Accepts → ℕ → Result Kind Refusal → Type 0
KindRead a k (Ok x) = (takes a k ≡ true) × (kind_number x ≡ k)
KindRead a k (Err e) = (takes a k ≡ false) × (e ≡ BadField 0)

-- the pile of the byte p, or 2 at 1
abbrev pub PileRead : ℕ → Result Pile Refusal → Type 0
PileRead p (Ok x) = (nat_lt 2 p ≡ false) × (pile_number x ≡ p)
PileRead p (Err e) = (nat_lt 2 p ≡ true) × (e ≡ BadField 1)

-- the head says what the bytes say, its counts are within their limits, and the bytes are as many as they ask for
pub record Headed (bs : List ℕ) (h : Head) : Type 0 where
  pub kind : kind_number h.kind ≡ kind_at bs
  pub pile : pile_number h.pile ≡ pile_at bs
  pub ports : h.ports ≡ port_count bs
  pub cells : h.cells ≡ cell_count bs
  pub hops : h.hops ≡ hop_count bs
  pub has_ports : 0 < h.ports
  pub few_ports : h.ports ≤ 32
  pub has_cells : 0 < h.cells
  pub few_cells : h.cells ≤ 256
  pub few_hops : h.hops ≤ 2048
  pub whole : length bs ≡ file_length h.ports h.cells h.hops

abbrev pub HeadRead : Accepts → List ℕ → Result Head Refusal → Type 0
HeadRead a bs (Ok h) = (head_test a bs ≡ None) × Headed bs h
HeadRead a bs (Err e) = head_test a bs ≡ Some e
