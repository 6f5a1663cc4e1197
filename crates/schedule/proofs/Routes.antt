-- What a walk has found, as a route and as hops.
use Rattle.std.proofs.Common.{◌≡◌, ℕ, zero, suc, ◌+◌, ◌<◌, ◌≤◌, cond, not, leb, List, [], ◌∷◌, map, length, get_or, take, Some, None, Option, sym, refl, ap, ◌∙◌, subst, inl, inr, arith}
use Rattle.std.proofs.lemmas.List.{length-take, take_all}
use Rattle.std.proofs.lemmas.Bool.{cases_lt, lt-leb, and_right, ne_eqb}
use Rattle.refusal.specs.Tests.{when, or_else}
use Rattle.refusal.proofs.Ordered.{or_else_passes, when_passes}
use Rattle.refusal.specs.declared.Refusal.TheVariants.{BadRouteLength, UnknownPort, PortTwice}
use Rattle.refusal.specs.declared.Refusal.{Refusal}
use Rattle.plan.specs.Cells.{route_test, names_unknown, names_twice}
use Rattle.layout.specs.Contents.{Hop}
use Rattle.layout.specs.Fields.{hop_count, next_at, port_at, sent_at}
use Rattle.layout.specs.Holding.{Chained}
use Rattle.layout.specs.Order.{chain_from}
use Rattle.schedule.specs.Chains.{Linked, Noted}
use Rattle.schedule.specs.Marking.{hops_of}
use Rattle.schedule.specs.declared.chain.Found.{Found}
use Rattle.schedule.proofs.Chains.{next_cases}
use Rattle.plan.proofs.Passed.{within_parts}

-- the ports that were kept are the first 9 of the chain's
pub kept_ports : (bs chain : List ℕ) (f : Found) → Noted bs chain (length chain) f → f.ports.items ≡ take 9 (map (port_at bs) chain)
kept_ports bs chain f n = n.ports ∙ ap (λ is. take 9 (map (port_at bs) is)) (take_all (length chain) chain (omega arith))

-- a route of more than 8 ports is refused for its length, however much longer it is
too_long : (n c : ℕ) (r : List ℕ) → 8 < length r → route_test n c r ≡ Some (BadRouteLength c)
too_long n c r l = ap (λ b. or_else (when (not b) (BadRouteLength c)) (rest n c r)) (and_right (leb 1 (length r)) (leb (length r) 8) (lt-leb (length r) 8 l))
  where
    rest : ℕ → ℕ → List ℕ → Option Refusal
    rest n c r = or_else (when (names_unknown n r) (UnknownPort c)) (when (names_twice r) (PortTwice c))

pub test_kept : (n c : ℕ) (r : List ℕ) → route_test n c (take 9 r) ≡ route_test n c r
test_kept n c r =
    elim (cases_lt (length r) 9) [
      | inl l ↦ ap (route_test n c) (take_all 9 r (omega arith))
      | inr l ↦ too_long n c (take 9 r) (let e = length-take 9 r in omega arith) ∙ sym (too_long n c r (omega arith))
    ]

-- a route that passes has 1 to 8 ports
pub route_few : (n c : ℕ) (r : List ℕ) → route_test n c r ≡ None → (1 ≤ length r) × (length r ≤ 8)
route_few n c r h = within_parts 1 8 (length r) (when_passes _ _ (or_else_passes _ _ h).0)

-- the hop that a record holds
abbrev pub hop_at : List ℕ → ℕ → Hop
hop_at bs i = record { port = port_at bs i; sent = sent_at bs i }

-- the ports of a chain with the sent slots that were kept of it are its hops
pub hops_are : (bs chain ss : List ℕ) → ((j : ℕ) → j < length chain → get_or ss j 0 ≡ sent_at bs (get_or chain j 0))
    → hops_of (map (port_at bs) chain) ss ≡ map (hop_at bs) chain
hops_are bs [] ss h = refl
hops_are bs (i ∷ is) [] h =
    λ d. record { port = port_at bs i; sent = h 0 (omega arith) d } ∷ hops_are bs is [] (λ j l. h (suc j) (omega arith)) d
hops_are bs (i ∷ is) (s ∷ ss) h =
    λ d. record { port = port_at bs i; sent = h 0 (omega arith) d } ∷ hops_are bs is ss (λ j l. h (suc j) (omega arith)) d

-- where every next index leads on, the records of a chain hold its hops to the end
pub chained : (bs : List ℕ) → Linked bs → (n i : ℕ) → i ≤ hop_count bs → (0 < i → hop_count bs < n + i) → Chained bs i (map (hop_at bs) (chain_from n bs i))
chained bs linked zero i l enough =
    elim (cases_lt 0 i) [ inl p ↦ (let e = enough p in absurd (omega arith)) | inr p ↦ omega arith ]
chained bs linked (suc n) i l enough =
    elim (cases_lt 0 i) [
      | inl p ↦
          (let step = next_cases (hop_count bs) i (next_at bs i) (linked.next i p l) in
          let e = enough p in
          subst (λ is. Chained bs i (map (hop_at bs) is)) (sym (ap (λ b. cond b [] (i ∷ chain_from n bs (next_at bs i))) (ne_eqb i 0 (λ z. omega arith))))
          (p, refl, refl, chained bs linked n (next_at bs i) (omega arith) (λ q. omega arith)))
      | inr p ↦
          (let z : i ≡ 0 = omega arith in
          subst (λ x. Chained bs x (map (hop_at bs) (chain_from (suc n) bs x))) (sym z) refl)
    ]

-- every record of a chain is one of the file's
pub in_file : (bs : List ℕ) → Linked bs → (n i : ℕ) → i ≤ hop_count bs → (j : ℕ) → j < length (chain_from n bs i)
    → (0 < get_or (chain_from n bs i) j 0) × (get_or (chain_from n bs i) j 0 ≤ hop_count bs)
in_file bs linked zero i l j m = absurd (omega arith)
in_file bs linked (suc n) i l j m =
    elim (cases_lt 0 i) [
      | inl p ↦
          (let e : chain_from (suc n) bs i ≡ i ∷ chain_from n bs (next_at bs i) = ap (λ b. cond b [] (i ∷ chain_from n bs (next_at bs i))) (ne_eqb i 0 (λ z. omega arith)) in
          let step = next_cases (hop_count bs) i (next_at bs i) (linked.next i p l) in
          let o : next_at bs i ≤ hop_count bs = omega arith in
          subst (λ is. (0 < get_or is j 0) × (get_or is j 0 ≤ hop_count bs)) (sym e)
          (here_or_on i (chain_from n bs (next_at bs i)) j (subst (λ is. j < length is) e m) (p, l) (λ k q. in_file bs linked n (next_at bs i) o k q)))
      | inr p ↦
          (let z : i ≡ 0 = omega arith in
          let none : length (chain_from (suc n) bs i) ≡ 0 = ap (λ x. length (chain_from (suc n) bs x)) z in
          absurd (omega arith))
    ]
  where
    here_or_on : (x : ℕ) (xs : List ℕ) (k : ℕ) → k < length (x ∷ xs) → (0 < x) × (x ≤ hop_count bs)
        → ((j : ℕ) → j < length xs → (0 < get_or xs j 0) × (get_or xs j 0 ≤ hop_count bs))
        → (0 < get_or (x ∷ xs) k 0) × (get_or (x ∷ xs) k 0 ≤ hop_count bs)
    here_or_on x xs zero q a b = a
    here_or_on x xs (suc k) q a b = b k (omega arith)
