-- One port, and one cell more of what has been gathered.
use Rattle.std.proofs.Common.{◌≡◌, ℕ, ◌+◌, ◌<◌, ◌≤◌, not, leb, List, [], ◌∷◌, ◌++◌, map, length, get_or, None, Option, sym, ap, ◌∙◌, subst, inl, inr, arith, w32, SFits, to_z}
use Rattle.std.proofs.lemmas.List.{length_push, get_or_append_left, get_or_push, length-map, get_or-map, take_all}
use Rattle.std.proofs.lemmas.Bool.{cases_eq, le-leb, lt-leb, le-ltb, and_from}
use Rattle.refusal.specs.Tests.{when, or_else, each_below, Refuses}
use Rattle.refusal.specs.declared.Refusal.{Refusal}
use Rattle.refusal.specs.declared.Refusal.TheVariants.{BadDelay, BadFlow, PlanFull}
use Rattle.refusal.proofs.Ordered.{or_else_none, or_else_after, or_else_passes, refuses_by, each_below_stops}
use Rattle.plan.specs.Cells.{Planned, no_cell, port_test, route_test, cell_test}
use Rattle.layout.specs.Contents.{Marked, no_hop, kind_number}
use Rattle.layout.specs.Fields.{kind_at, port_count, cell_count, hop_count, delay_at, entry_at, flow_at, first_at, slack_at, port_at, sent_at}
use Rattle.layout.specs.Holding.{CellHeld, Chained}
use Rattle.layout.specs.Order.{field_tests, chain_of, chain_test, twice_test}
use Rattle.layout.specs.declared.kind.Kind.{Kind}
use Rattle.schedule.specs.Chains.{Noted}
use Rattle.schedule.specs.Gathering.{Ported, Gathered, Stops}
use Rattle.schedule.specs.Marking.{hops_of, scheduled, no_marks}
use Rattle.schedule.specs.declared.chain.Found.{Found}
use Rattle.schedule.specs.declared.marks.Marks.{Marks}
use Rattle.schedule.proofs.Fielded.{flow_fits, first_fits, slack_zero, sent_zero, linked}
use Rattle.schedule.proofs.Routes.{kept_ports, test_kept, route_few, hop_at, hops_are, chained, in_file}

-- what holds of each place of two lists, with one place more
push_both : {X Y : Type 0} (P : ℕ → X → Y → Type 0) (xs : List X) (ys : List Y) (x d : X) (y e : Y) (n : ℕ) → length xs ≡ n → length ys ≡ n
    → ((i : ℕ) → i < n → P i (get_or xs i d) (get_or ys i e)) → P n x y
    → (i : ℕ) → i < n + 1 → P i (get_or (xs ++ x ∷ []) i d) (get_or (ys ++ y ∷ []) i e)
push_both P xs ys x d y e n a b below here i l =
    elim (cases_eq i n) [
      | inl q ↦ subst (λ k. P k (get_or (xs ++ x ∷ []) k d) (get_or (ys ++ y ∷ []) k e)) (sym q)
          (subst (λ v. P n v (get_or (ys ++ y ∷ []) n e)) (sym (get_or_push xs x d n a)) (subst (P n x) (sym (get_or_push ys y e n b)) here))
      | inr q ↦
          (let m : i < n = omega arith in
          let v : i < length xs = omega arith in
          let w : i < length ys = omega arith in
          subst (λ z. P i z (get_or (ys ++ y ∷ []) i e)) (sym (get_or_append_left xs (x ∷ []) d i v)) (subst (P i (get_or xs i d)) (sym (get_or_append_left ys (y ∷ []) e i w)) (below i m)))
    ]

-- a delay of 1 to 255 for one of at most 32 ports passes
pub port_passes : (ds : List ℕ) (d : ℕ) → 1 ≤ d → d ≤ 255 → length ds < 32 → port_test ds d ≡ None
port_passes ds d low high few =
    ap (λ b. or_else (when (not b) (BadDelay (length ds))) (when (leb 32 (length ds)) (PlanFull (length ds)))) (and_from (leb 1 d) (leb d 255) (le-leb 1 d low) (le-leb d 255 high))
    ∙ ap (λ b. when b (PlanFull (length ds))) (lt-leb 32 (length ds) few)

-- one port more
pub ported_more : (bs : List ℕ) (n d : ℕ) (ds : List ℕ) → d ≡ delay_at bs n → Ported bs n ds → Ported bs (n + 1) (ds ++ d ∷ [])
ported_more bs n d ds e h =
    record {
      count = length_push ds d ∙ ap (λ k. k + 1) h.count;
      each = push_both (λ i a b. a ≡ delay_at bs i) ds ds d 0 d 0 n h.count h.count h.each e;
    }

module _ (bs : List ℕ) (passed : field_tests bs ≡ None) (c : ℕ) (known : c < cell_count bs) where
  -- where the fields have passed, a cell is refused for its route alone
  pub cell_passes : (n flow : ℕ) (r : List ℕ) → flow ≡ flow_at bs c → c < 256 → cell_test n c flow r ≡ route_test n c r
  cell_passes n flow r e few =
      let f = flow_fits bs passed c known in
      ap (or_else (route_test n c r))
      (ap (λ b. or_else (when b (BadFlow c)) (when (leb 256 c) (PlanFull c))) (le-ltb 7 flow (omega arith))
      ∙ ap (λ b. when b (PlanFull c)) (lt-leb 256 c few))
      ∙ or_else_none (route_test n c r)

  -- the tests of the kept ports are those of the whole route
  pub kept_test : (n flow : ℕ) (f : Found) → flow ≡ flow_at bs c → c < 256 → Noted bs (chain_of bs c) (length (chain_of bs c)) f
      → cell_test n c flow f.ports.items ≡ route_test n c (map (port_at bs) (chain_of bs c))
  kept_test n flow f e few noted =
      cell_passes n flow f.ports.items e few
      ∙ ap (route_test n c) (kept_ports bs (chain_of bs c) f noted)
      ∙ test_kept n c (map (port_at bs) (chain_of bs c))

  module _ (n : ℕ) (f : Found) (noted : Noted bs (chain_of bs c) (length (chain_of bs c)) f)
      (fits : route_test n c (map (port_at bs) (chain_of bs c)) ≡ None) where
    few_hops : length (chain_of bs c) ≤ 8
    few_hops = let a = route_few n c (map (port_at bs) (chain_of bs c)) fits in let b = length-map (chain_of bs c) (port_at bs) in omega arith

    -- the route is whole
    pub route_whole : f.ports.items ≡ map (port_at bs) (chain_of bs c)
    route_whole =
        let a = few_hops in
        let b = length-map (chain_of bs c) (port_at bs) in
        kept_ports bs (chain_of bs c) f noted ∙ take_all 9 (map (port_at bs) (chain_of bs c)) (omega arith)

    pub hops_whole : hops_of (map (port_at bs) (chain_of bs c)) f.sent ≡ map (hop_at bs) (chain_of bs c)
    hops_whole = hops_are bs (chain_of bs c) f.sent (λ j l. let a = few_hops in noted.sent j l (omega arith))

    -- the k-th hop
    hop_is : (j : ℕ) → j < length (chain_of bs c) → get_or (map (hop_at bs) (chain_of bs c)) j no_hop ≡ hop_at bs (get_or (chain_of bs c) j 0)
    hop_is j l = get_or-map (hop_at bs) (chain_of bs c) j 0 no_hop l

    -- the cell as the file holds it
    module _ (x : Planned) (m : Marks) (entry : x.entry ≡ entry_at bs c) (flow : x.flow ≡ flow_at bs c)
        (route : x.route ≡ f.ports.items) (slack : m.slack ≡ slack_at bs c) (sent : m.sent ≡ f.sent) where
      hops_held : (scheduled x m).hops ≡ map (hop_at bs) (chain_of bs c)
      hops_held = ap (λ r. hops_of r m.sent) (route ∙ route_whole) ∙ ap (hops_of (map (port_at bs) (chain_of bs c))) sent ∙ hops_whole

      pub held_more : CellHeld bs c (scheduled x m)
      held_more =
          record {
            entry = entry;
            flow = flow;
            slack = slack;
            hops = subst (λ hs. Chained bs (first_at bs c) hs) (sym hops_held)
                (chained bs (linked bs passed) (hop_count bs) (first_at bs c) (first_fits bs passed c known) (λ p. omega arith));
          }

      pub marked_more : (k : Kind) → kind_number k ≡ kind_at bs → SFits w32 m.slack → Marked k (scheduled x m)
      marked_more k kind small =
          let long-is : length (scheduled x m).hops ≡ length (chain_of bs c) = ap length hops_held ∙ length-map (chain_of bs c) (hop_at bs) in
          let at : (j : ℕ) → j < length (chain_of bs c) → (get_or (scheduled x m).hops j no_hop).sent ≡ sent_at bs (get_or (chain_of bs c) j 0)
          = λ j l. ap (λ hs. (get_or hs j no_hop).sent) hops_held ∙ ap (λ h. h.sent) (hop_is j l) in (
            small,
            (λ j l. let in' : j < length (chain_of bs c) = omega arith in let a = few_hops in let e = at j in' in
                let g = noted.sent j in' (omega arith) in let b = noted.fits j (omega arith) in omega arith),
            (λ e. slack ∙ ap (to_z w32) (slack_zero bs passed c known (sym kind ∙ ap kind_number e))),
            (λ e j l. let in' : j < length (chain_of bs c) = omega arith in
                let r = in_file bs (linked bs passed) (hop_count bs) (first_at bs c) (first_fits bs passed c known) j in' in
                at j in' ∙ sent_zero bs passed (get_or (chain_of bs c) j 0) r.0 r.1 (sym kind ∙ ap kind_number e)),
          )

-- one cell more
pub gathered_more : (bs : List ℕ) (k : Kind) (n : ℕ) (ds : List ℕ) (cs : List Planned) (ms : List Marks) (x : Planned) (m : Marks)
    → CellHeld bs n (scheduled x m) → Marked k (scheduled x m) → Gathered bs k n ds cs ms → Gathered bs k (n + 1) ds (cs ++ x ∷ []) (ms ++ m ∷ [])
gathered_more bs k n ds cs ms x m held marked g =
    record {
      ports = g.ports;
      cells = length_push cs x ∙ ap (λ i. i + 1) g.cells;
      marks = length_push ms m ∙ ap (λ i. i + 1) g.marks;
      held = push_both (λ i a b. CellHeld bs i (scheduled a b)) cs ms x no_cell m no_marks n g.cells g.marks g.held held;
      marked = push_both (λ i a b. Marked k (scheduled a b)) cs ms x no_cell m no_marks n g.cells g.marks g.marked marked;
    }

-- the same under other names
pub gathered_as : (bs : List ℕ) (k : Kind) (n : ℕ) {ds ds' : List ℕ} {cs cs' : List Planned} {ms ms' : List Marks}
    → ds' ≡ ds → cs' ≡ cs → ms' ≡ ms → Gathered bs k n ds cs ms → Gathered bs k n ds' cs' ms'
gathered_as bs k n {ds} {ds'} {cs} {cs'} {ms} {ms'} d c m g =
    subst (λ x. Gathered bs k n x cs' ms') (sym d) (subst (λ x. Gathered bs k n ds x ms') (sym c) (subst (λ x. Gathered bs k n ds cs x) (sym m) g))

-- a refusal of one of several tests in their order
pub stops_at_once : (a b : Option Refusal) (e : Refusal) → Stops a e → Stops (or_else a b) e
stops_at_once a b e (inl m) = inl m
stops_at_once a b e (inr s) = inr (ap (λ o. or_else o b) s)

pub stops_later : (a b : Option Refusal) (e : Refusal) → a ≡ None → Stops b e → Stops (or_else a b) e
stops_later a b e h (inl m) = inl m
stops_later a b e h (inr s) = inr (or_else_after a b h ∙ s)

pub stops_within : (f : ℕ → Option Refusal) (i n : ℕ) (e : Refusal) → i < n → each_below i f ≡ None → Stops (f i) e → Stops (each_below n f) e
stops_within f i n e l h (inl m) = inl m
stops_within f i n e l h (inr s) = inr (each_below_stops f i n e l h s)

-- nothing yet
pub gathered_none : (bs : List ℕ) (k : Kind) (ds : List ℕ) (cs : List Planned) (ms : List Marks)
    → Ported bs (port_count bs) ds → cs ≡ [] → ms ≡ [] → Gathered bs k 0 ds cs ms
gathered_none bs k ds cs ms ported no_cells none =
    record { ports = ported; cells = ap length no_cells; marks = ap length none; held = λ c l. absurd (omega arith); marked = λ c l. absurd (omega arith) }

-- the plan tests the kept ports as the file's chain is tested
module _ (bs : List ℕ) (passed : field_tests bs ≡ None) (c : ℕ) (known : c < cell_count bs) (few : c < 256)
    (ds : List ℕ) (cs : List Planned) (flow : ℕ) (r : List ℕ) (f : Found)
    (ports : length ds ≡ port_count bs) (cells : length cs ≡ c) (flow-is : flow ≡ flow_at bs c)
    (route : r ≡ f.ports.items)
    (walked : each_below (length (chain_of bs c)) (twice_test bs c) ≡ None)
    (noted : Noted bs (chain_of bs c) (length (chain_of bs c)) f) where
  chain_tested : chain_test bs c ≡ cell_test (length ds) (length cs) flow r
  chain_tested =
      or_else_after _ (route_test (port_count bs) c (map (port_at bs) (chain_of bs c))) walked
      ∙ sym (ap (cell_test (length ds) (length cs) flow) route
      ∙ ap (λ n. cell_test n (length cs) flow f.ports.items) ports
      ∙ ap (λ n. cell_test (port_count bs) n flow f.ports.items) cells
      ∙ kept_test bs passed c known (port_count bs) flow f flow-is few noted)

  -- its refusal is that of the chain's tests
  pub gather_stops : (e : Refusal) → Refuses (cell_test (length ds) (length cs) flow r) e → Stops (chain_test bs c) e
  gather_stops e h = elim (refuses_by _ e h) [ inl m ↦ inl m | inr s ↦ inr (chain_tested ∙ s) ]

  module _ (accepted : cell_test (length ds) (length cs) flow r ≡ None) where
    pub gather_passes : chain_test bs c ≡ None
    gather_passes = chain_tested ∙ accepted

    -- and what it takes is what the file holds
    pub gather_done : (k : Kind) (entry : ℕ) (ms : List Marks) (m : Marks) → kind_number k ≡ kind_at bs → entry ≡ entry_at bs c
        → m.slack ≡ slack_at bs c → m.sent ≡ f.sent → SFits w32 m.slack → Gathered bs k c ds cs ms
        → Gathered bs k (c + 1) ds (cs ++ record { entry = entry; flow = flow; route = r } ∷ []) (ms ++ m ∷ [])
    gather_done k entry ms m kind entry-is slack sent small g =
        let x : Planned = record { entry = entry; flow = flow; route = r } in
        let route-ok : route_test (port_count bs) c (map (port_at bs) (chain_of bs c)) ≡ None = (or_else_passes _ _ gather_passes).1 in
        gathered_more bs k c ds cs ms x m
        (held_more bs passed c known (port_count bs) f noted route-ok x m entry-is flow-is route slack sent)
        (marked_more bs passed c known (port_count bs) f noted route-ok x m entry-is flow-is route slack sent k kind small) g
