-- The canonical file passes every test.
use Rattle.std.proofs.Common.{◌≡◌, ℕ, zero, suc, ◌+◌, ◌-◌, ◌<◌, ◌≤◌, true, false, not, eqb, ltb, List, [], ◌∷◌, map, length, get_or, None, refl, ap, ◌∙◌, inl, inr, add-zero, arith, w32, of_z}
use Rattle.std.proofs.lemmas.List.FromFn.{length-range_with_len, get_or-range_with_len}
use Rattle.std.proofs.lemmas.Bool.{le-ltb, eq-eqb, not_from_true, cases_lt}
use Rattle.refusal.proofs.Ordered.{each_below_all}
use Rattle.plan.specs.Cells.{within}
use Rattle.layout.specs.declared.kind.Accepts.{Accepts}
use Rattle.layout.specs.declared.kind.Kind.TheVariants as kinds
use Rattle.layout.specs.declared.kind.Pile.{Pile}
use Rattle.layout.specs.declared.kind.Pile.TheVariants as piles
use Rattle.layout.specs.Fields.{byte, long, kind_at, pile_at, port_count, cell_count, hop_count, file_length, flow_at, first_at, cell_offset}
use Rattle.layout.specs.Contents.{Hop, Content, no_hop, total_hops, kind_number, pile_number, Fit}
use Rattle.layout.specs.Canonical.{canonical}
use Rattle.layout.specs.Order.{takes, head_test, load_nonzero, port_fields, cell_fields, leads_on, hop_fields, chain_of, twice_test, chain_test, unreached_test, field_tests, chain_tests, first_refusal}
use Rattle.layout.proofs.Size.{canonical_size}
use Rattle.layout.proofs.Limits.{cell, before, before_more, before_all, fitting, hops_some, total_few, before_few}
use Rattle.layout.proofs.Image.{first_of, kind_is, pile_is, ports_is, cells_is, hops_is, delay_is, cell_is}
use Rattle.layout.proofs.Chains.{Consecutive, ports_are}
use Rattle.layout.proofs.Holds.{route_consecutive}
use Rattle.layout.proofs.Counted.{counting_append, take_counting, counted, not_counted}
use Rattle.layout.proofs.Reached.{chain_of_is, reached_is}
use Rattle.layout.proofs.Passing.{passes, both_pass, within_passes, zero_passes, leads_passes, route_passes}

-- records that follow one another pass
pub hop_passes :
    (bs : List ℕ) (i : ℕ) (hs : List Hop) → i + length hs ≤ hop_count bs + 1
    → ((j : ℕ) → j < length hs → load_nonzero bs (get_or hs j no_hop).sent ≡ false)
    → Consecutive bs i hs → (j : ℕ) → j < length hs → hop_fields bs (i + j) ≡ None
hop_passes bs i [] l z r j k = absurd (omega arith)
hop_passes bs i (h ∷ hs) l z r zero k =
    let leads = leads_passes (hop_count bs) i hs (omega arith) in
    rw add-zero
    (both_pass _ _
    (passes _ _ (ap (λ n. not (leads_on (hop_count bs) i n)) r.0.next ∙ leads))
    (both_pass _ _
    (passes _ _ (not_from_true _ (eq-eqb _ 0 r.0.none)))
    (passes _ _ (ap (load_nonzero bs) r.0.sent ∙ z 0 (omega arith)))))
hop_passes bs i (h ∷ hs) l z r (suc j) k =
    let e : i + 1 + j ≡ i + suc j = omega arith in
    rw (← e) (hop_passes bs (i + 1) hs (omega arith) (λ m n. z (suc m) (omega arith)) r.1 j (omega arith))

pile_few : (p : Pile) → pile_number p ≤ 2
pile_few piles.Fifo = omega arith
pile_few piles.Lifo = omega arith
pile_few piles.Aged = omega arith

module _ (x : Content) (fit : Fit x) where
  load_passes : (v : ℕ) → (x.kind ≡ kinds.Load → v ≡ 0) → load_nonzero (canonical x) v ≡ false
  load_passes v h = rw (kind_is x) (zero_passes x.kind v h)

  -- the head
  pub head_passes : (a : Accepts) → takes a (kind_number x.kind) ≡ true → head_test a (canonical x) ≡ None
  head_passes a t =
      let bs = canonical x in
      let size = canonical_size x in
      let ports = ports_is x fit in
      let cells = cells_is x fit in
      let hops = hops_is x fit in
      let few = total_few x fit in
      let long-enough : ltb (length bs) 8 ≡ false = le-ltb (length bs) 8 (omega arith) in
      let taken : not (takes a (kind_at bs)) ≡ false = not_from_true _ (ap (takes a) (kind_is x) ∙ t) in
      let piled : ltb 2 (pile_at bs) ≡ false = le-ltb 2 (pile_at bs) (rw (pile_is x) (pile_few x.pile)) in
      let has_ports : not (within 1 32 (port_count bs)) ≡ false =
      within_passes 1 32 (port_count bs) (rw ports fit.has_ports) (rw ports fit.few_ports) in
      let has_cells : not (within 1 256 (cell_count bs)) ≡ false =
      within_passes 1 256 (cell_count bs) (rw cells fit.has_cells) (rw cells fit.few_cells) in
      let few_hops : ltb 2048 (hop_count bs) ≡ false = le-ltb 2048 (hop_count bs) (rw hops few) in
      let sized : not (eqb (length bs) (file_length (port_count bs) (cell_count bs) (hop_count bs))) ≡ false =
      not_from_true _ (eq-eqb (length bs) _ (rw (ports, cells, hops) size)) in
      rw (long-enough, taken, piled, has_ports, has_cells, few_hops, sized)

  -- the fields
  pub port_passes : (p : ℕ) → p < port_count (canonical x) → port_fields (canonical x) p ≡ None
  port_passes p l =
      let k : p < length x.delays = rw (ports_is x fit) at l in
      let d = fit.delays p k in
      passes _ _ (rw (delay_is x fit p k) (within_passes 1 255 (get_or x.delays p 0) d.0 d.1))

  pub cell_passes : (c : ℕ) → c < cell_count (canonical x) → cell_fields (canonical x) c ≡ None
  cell_passes c l =
      let k : c < length x.cells = rw (cells_is x fit) at l in
      let r = cell_is x fit c k in
      let flow = (fitting x fit c k).1 in
      let first = before_few x fit c k in
      let some = hops_some x fit c k in
      let a : ltb 7 (flow_at (canonical x) c) ≡ false = rw r.flow (le-ltb 7 (cell x c).flow flow) in
      let b : not (eqb (byte (canonical x) (cell_offset (canonical x) c + 3)) 0) ≡ false =
      not_from_true _ (eq-eqb _ 0 r.none) in
      let d : ltb (hop_count (canonical x)) (first_at (canonical x) c) ≡ false =
      rw (r.first, hops_is x fit) (le-ltb (total_hops x.cells) (first_of x c) (omega arith)) in
      let e : load_nonzero (canonical x) (long (canonical x) (cell_offset (canonical x) c + 6)) ≡ false =
      rw r.slack (load_passes (of_z w32 (cell x c).slack) (λ e. ap (of_z w32) ((fit.marks c k).2 e))) in
      rw (a, b, d, e)

  -- the hop records of the cells below c
  hops_below : (c : ℕ) → c ≤ length x.cells → (i : ℕ) → i < before c x.cells → hop_fields (canonical x) (i + 1) ≡ None
  hops_below zero l i k = absurd (omega arith)
  hops_below (suc c) l i k =
      let more = before_more x.cells c (omega arith) in
      let few = before_few x fit c (omega arith) in
      let hops = hops_is x fit in
      elim (cases_lt i (before c x.cells)) [
        | inl h ↦ hops_below c (omega arith) i h
        | inr h ↦
            let e : first_of x c + (i - before c x.cells) ≡ i + 1 = omega arith in
            rw (← e)
            (hop_passes (canonical x) (first_of x c) (cell x c).hops (omega arith)
            (λ j m. load_passes _ (λ e. (fit.marks c (omega arith)).3 e j m))
            (route_consecutive x fit c (omega arith)) (i - before c x.cells) (omega arith))
      ]

  pub hops_pass : (k : ℕ) → k < hop_count (canonical x) → hop_fields (canonical x) (k + 1) ≡ None
  hops_pass k l =
      let a = hops_is x fit in
      let b = before_all x.cells in
      hops_below (length x.cells) (omega arith) k (omega arith)

  pub fields_pass : field_tests (canonical x) ≡ None
  fields_pass =
      both_pass _ _ (each_below_all (port_fields (canonical x)) (port_count (canonical x)) port_passes)
      (both_pass _ _ (each_below_all (cell_fields (canonical x)) (cell_count (canonical x)) cell_passes)
      (each_below_all (λ k. hop_fields (canonical x) (k + 1)) (hop_count (canonical x)) hops_pass))

  -- the chains
  pub twice_passes :
      (c : ℕ) → c < length x.cells → (k : ℕ) → k < length (cell x c).hops → twice_test (canonical x) c k ≡ None
  twice_passes c l k m =
      let n = length (cell x c).hops in
      let a = reached_is x fit c (omega arith) in
      let b = chain_of_is x fit c l in
      let d = take_counting k (first_of x c) n (omega arith) in
      let e = get_or-range_with_len (first_of x c) n k 0 m in
      let f = counting_append 1 (before c x.cells) (first_of x c) k refl in
      passes _ _ (rw (a, b, d, e, f) (not_counted 1 (before c x.cells + k) (first_of x c + k) (omega arith)))

  pub chain_passes : (c : ℕ) → c < cell_count (canonical x) → chain_test (canonical x) c ≡ None
  chain_passes c l =
      let k : c < length x.cells = rw (cells_is x fit) at l in
      let a = chain_of_is x fit c k in
      let n = length (cell x c).hops in
      let r = ports_are (canonical x) (first_of x c) (cell x c).hops (route_consecutive x fit c k) in
      let b = length-range_with_len (first_of x c) n in
      let route = map (λ h. h.port) (cell x c).hops in
      both_pass _ _
      (each_below_all (twice_test (canonical x) c) (length (chain_of (canonical x) c)) (λ j m. twice_passes c k j (rw (a, b) at m)))
      (rw (a, r, ports_is x fit) (route_passes (length x.delays) c route (fitting x fit c k).2))

  pub unreached_passes : (k : ℕ) → k < hop_count (canonical x) → unreached_test (canonical x) (k + 1) ≡ None
  unreached_passes k l =
      let a = reached_is x fit (length x.cells) (omega arith) in
      let b = before_all x.cells in
      let m : k < total_hops x.cells = rw (hops_is x fit) at l in
      let has = counted 1 (total_hops x.cells) (k + 1) (omega arith) (omega arith) in
      passes _ _ (not_from_true _ (rw (cells_is x fit, a, b) has))

  pub chains_pass : chain_tests (canonical x) ≡ None
  chains_pass =
      both_pass _ _ (each_below_all (chain_test (canonical x)) (cell_count (canonical x)) chain_passes)
      (each_below_all (λ k. unreached_test (canonical x) (k + 1)) (hop_count (canonical x)) unreached_passes)

  -- all of them
  pub accepted_by : (a : Accepts) → takes a (kind_number x.kind) ≡ true → first_refusal a (canonical x) ≡ None
  unfolding first_refusal
  accepted_by a t = both_pass _ _ (head_passes a t) (both_pass _ _ fields_pass chains_pass)
