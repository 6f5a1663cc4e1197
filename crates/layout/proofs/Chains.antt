-- Hop records that follow one another, and the chains along them.
use Rattle.std.proofs.Common.{◌≡◌, ℕ, zero, suc, ◌+◌, ◌^◌, ◌<◌, ◌≤◌, eqb, List, [], ◌∷◌, map, length, get_or, sym, refl, ap, ◌∙◌, arith}
use Rattle.std.specs.List.{flat_map, range_with_len}
use Rattle.std.proofs.lemmas.Bool.{ne_eqb, cond-false}
use Rattle.layout.specs.Fields.{hop_offset, next_at, port_at}
use Rattle.layout.specs.Contents.{Hop, no_hop}
use Rattle.layout.specs.Holding.{Chained}
use Rattle.layout.specs.Canonical.{RecordOfHop, hop_bytes, next_of, route_records}
use Rattle.layout.specs.Order.{chain_from}
use Rattle.layout.proofs.Blocks.{Stands, stands_left, stands_right}
use Rattle.layout.proofs.Bytes.{ReadsHop, reads_hop}

-- the records from index i on hold these hops, each with the index of the one after it
abbrev pub Consecutive : List ℕ → ℕ → List Hop → Type 0
Consecutive bs i [] = Unit {0}
Consecutive bs i (h ∷ hs) =
    ReadsHop bs (hop_offset bs i) (record { next = next_of i hs; port = h.port; sent = h.sent })
    × Consecutive bs (i + 1) hs

next_small : (i : ℕ) (hs : List Hop) → i + length hs < 2 ^ 16 → next_of i hs < 2 ^ 16
next_small i [] l = omega arith
next_small i (h ∷ hs) l = omega arith

-- so do the records of a route
pub consecutive :
    (bs : List ℕ) (i : ℕ) (hs : List Hop) → 0 < i → i + length hs < 2 ^ 16
    → ((j : ℕ) → j < length hs → (get_or hs j no_hop).sent < 2 ^ 32)
    → Stands bs (hop_offset bs i) (flat_map hop_bytes (route_records i hs)) → Consecutive bs i hs
consecutive bs i [] p l m s = tt
consecutive bs i (h ∷ hs) p l m s =
    let r : RecordOfHop = record { next = next_of i hs; port = h.port; sent = h.sent } in
    let rest = flat_map hop_bytes (route_records (i + 1) hs) in (
      reads_hop bs (hop_offset bs i) r (next_small i hs (omega arith)) (m 0 (omega arith))
          (stands_left bs (hop_bytes r) rest (hop_offset bs i) s),
      consecutive bs (i + 1) hs (omega arith) (omega arith) (λ j k. m (suc j) (omega arith))
          (stands_right bs (hop_bytes r) rest (hop_offset bs i) (hop_offset bs (i + 1)) (omega arith) s),
    )

-- they are a chain
pub chained : (bs : List ℕ) (i : ℕ) (hs : List Hop) → 0 < i → 0 < length hs → Consecutive bs i hs → Chained bs i hs
chained bs i [] p l r = absurd (omega arith)
chained bs i (h ∷ []) p l r = (p, sym r.0.port, sym r.0.sent, r.0.next)
chained bs i (h ∷ (k ∷ hs)) p l r =
    (p, sym r.0.port, sym r.0.sent, rw r.0.next (chained bs (i + 1) (k ∷ hs) (omega arith) (omega arith) r.1))

chain_end : (n : ℕ) (bs : List ℕ) → chain_from n bs 0 ≡ []
chain_end zero bs = refl
chain_end (suc n) bs = refl

chain_step : (n : ℕ) (bs : List ℕ) (i : ℕ) → 0 < i → chain_from (suc n) bs i ≡ i ∷ chain_from n bs (next_at bs i)
chain_step n bs i p = cond-false (eqb i 0) [] (i ∷ chain_from n bs (next_at bs i)) (ne_eqb i 0 (λ e. omega arith))

-- which visits them in their order
pub chain_is :
    (bs : List ℕ) (n i : ℕ) (hs : List Hop) → 0 < i → 0 < length hs → length hs ≤ n → Consecutive bs i hs
    → chain_from n bs i ≡ range_with_len i (length hs)
chain_is bs zero i hs p q l r = absurd (omega arith)
chain_is bs (suc n) i [] p q l r = absurd (omega arith)
chain_is bs (suc n) i (h ∷ []) p q l r =
    chain_step n bs i p ∙ ap (λ k. i ∷ chain_from n bs k) r.0.next ∙ ap (λ ks. i ∷ ks) (chain_end n bs)
chain_is bs (suc n) i (h ∷ (k ∷ hs)) p q l r =
    chain_step n bs i p ∙ ap (λ k. i ∷ chain_from n bs k) r.0.next
    ∙ ap (λ ks. i ∷ ks) (chain_is bs n (i + 1) (k ∷ hs) (omega arith) (omega arith) (omega arith) r.1)

-- and meets their ports
pub ports_are :
    (bs : List ℕ) (i : ℕ) (hs : List Hop) → Consecutive bs i hs
    → map (port_at bs) (range_with_len i (length hs)) ≡ map (λ h. h.port) hs
ports_are bs i [] r = refl
ports_are bs i (h ∷ hs) r =
    let a : port_at bs i ≡ h.port = r.0.port in
    let b = ports_are bs (i + 1) hs r.1 in
    cc
