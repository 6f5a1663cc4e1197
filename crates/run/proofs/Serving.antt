-- The turn of a port.
use Rattle.std.proofs.Common.{◌≡◌, ℕ, suc, ◌+◌, ◌<◌, ◌≤◌, Bool, true, false, cond, ◌||◌, ltb, leb, List, length, get_or, set, ℤ, Some, None, sym, refl, ap, ◌∙◌, subst, inl, inr, add-one, arith}
use Rattle.std.proofs.Math.Bool.{or-false, or-true}
use Rattle.std.proofs.lemmas.List.{get_or-set_same, get_or-set_other}
use Rattle.std.proofs.lemmas.Bool.{cases_eq, cases_lt, cases_Bool, lt-leb}
use Rattle.refusal.proofs.Options.{none_some, some_one}
use Rattle.refusal.specs.declared.Refusal.{Refusal}
use Rattle.discipline.specs.Calls.{pick_test}
use Rattle.discipline.specs.Meaning.{Waiting, At, count_at}
use Rattle.discipline.proofs.Counting.{passing_few}
use Rattle.network.specs.Networks.{Network, Hop}
use Rattle.plan.specs.Cells.{hops_in}
use Rattle.plan.specs.Plans.{cells_of, delays_of}
use Rattle.plan.proofs.Facts.{few_cells_lem, few_ports_lem}
use Rattle.rules.specs.Coherence.{Inside, Flying, Ahead}
use Rattle.rules.specs.Conditions.{next_condition}
use Rattle.rules.specs.Loads.{sent_in, first_hop, no_hop}
use Rattle.rules.specs.Moments.{pending, is_gone, Placed}
use Rattle.run.specs.Offsets.{no_record}
use Rattle.run.specs.Recordings.{network_of, flows, moment, Kept}
use Rattle.rules.specs.Rules.{Sends, Served, But, goes_on, onward}
use Rattle.rules.specs.Rules.Served.{start, idle, sends}
use Rattle.run.specs.Steps.{InSlot, Stands, SentOn, Flown, leaving, Serves, Turn, Turns}
use Rattle.rules.specs.declared.condition.Condition.{Condition}
use Rattle.rules.specs.declared.condition.Condition.TheVariants as is
use Rattle.rules.specs.declared.condition.Event.TheVariants.{SentOnward, SentOut}
use Rattle.rules.specs.declared.hop.HopRecord.{HopRecord}
use Rattle.run.specs.declared.recording.Recording.{Recording}
use Rattle.run.specs.declared.standing.Standing.{Standing}
use Rattle.table.specs.Kinds.{flight_upto}
use Rattle.table.specs.Order.{put_in}
use Rattle.table.specs.declared.flight.Flight.{Flight}
use Rattle.rules.proofs.Disciplines.{Laws}
use Rattle.rules.proofs.Flights.{flying_room, flying_more, flying_out}
use Rattle.run.proofs.Hops.{place_within, place_apart}
use Rattle.discipline.proofs.Stays.{at_stay}
use Rattle.discipline.proofs.Tests.{pick_passes_at, chosen_at}
use Rattle.rules.proofs.Inside.{sends_inside}
use Rattle.rules.proofs.Waits.{waits_so, sent_known}
use Rattle.run.proofs.Entering.{plan_arrives}
use Rattle.run.proofs.Kept.{kept_again, kept_to, kept_from}
use Rattle.run.proofs.Networks as net

module _ {D : Type 0} (waiting : D → Waiting) (choice : D → ℕ → ℕ → ℕ) (sound : D → Type 0)
    (arrives : D → ℕ → ℕ → ℕ → ℕ → ℤ → D → Type 0) (picks : D → ℕ → ℕ → ℕ → D → Type 0) (L : Laws waiting choice sound arrives picks)
    (r : Recording) (log : List HopRecord) (d : D) (fs : List Flight) (room p : ℕ) where
  abbrev N : Network
  N = network_of r

  abbrev t : ℕ
  t = r.next

  -- where no cell waits, nothing changes
  pub turn_idle : (x : Refusal) (e : D) → (sound d → (pick_test (waiting d) p ≡ Some x) × (e ≡ d)) → Turn waiting sound arrives picks room p r log d fs r log e fs
  turn_idle x e told I F A long wide =
      let a = told I.lawful in (
        inl (λ c at. none_some x (pick_passes_at (waiting d) (L.limits d I.lawful) p c at) a.0, ap (moment r log) a.1),
        F,
        A,
      )

  module _ (c : ℕ) (e : D) (told : sound d → (pick_test (waiting d) p ≡ None) × picks d p t c e) (I : InSlot waiting sound r log d) where
    there : At (waiting d) p c
    there =
        let a = told I.lawful in
        let q = (L.picked d p t c e I.lawful a.0 a.1).1 in
        subst (At (waiting d) p) (sym q) (chosen_at (waiting d) p (choice d p t) a.0 (L.chosen d I.lawful p t))

    known : c < N.cells
    known =
        let s = at_stay (waiting d) p c there in
        elim (cases_lt c N.cells) [ inl l ↦ l | inr l ↦ absurd (none_some s.0 (I.strangers c l) s.1) ]

    -- the cell that was picked waits at this port
    waits : (h : ℕ) × (a : ℕ) × ((get_or r.records.items c no_record).condition ≡ is.Waiting h a) × (N.port c h ≡ p)
    waits =
        let s = at_stay (waiting d) p c there in
        let w = waits_so N c (get_or r.records.items c no_record).condition s.0 (sym (I.queued c known) ∙ s.1) in
        (w.0, w.1, w.2, w.3 ∙ s.2)

    pub stands_somewhere : Stands r c None → ⊥
    stands_somewhere n =
        let w = waits in
        let P = I.placed c known in
        n w.0 w.1 (record { cell = known; hop = short (get_or r.records.items c no_record).condition w.0 w.1 w.2 P }) w.2
      where
        short : (k : Condition) (h a : ℕ) → k ≡ is.Waiting h a → Placed N (sent_in (cells_of r.plan) log) t c k → h < N.len c
        short k h a e P = (subst (Placed N (sent_in (cells_of r.plan) log) t c) e P).0

    -- the cell that was picked is sent, and its port is marked
    module _ (s : Standing) (S : Stands r c (Some s)) (q₁ q : Recording) (sent : SentOn r c s (get_or (delays_of r.plan) p 0) q₁)
        (same : Kept q₁ q) (records : q.records.items ≡ q₁.records.items) (gone : q.gone ≡ q₁.gone)
        (contested : sound e → q.contested ≡ cond (ltb 0 (count_at (waiting e) p)) (set q₁.contested p true) q₁.contested)
        (port : p < length (delays_of r.plan)) (long : hops_in (cells_of r.plan) ≤ length log) where
      abbrev h : ℕ
      h = s.position

      abbrev log' : List HopRecord
      log' = set log s.place (record { sent = Some t })

      here : Hop N c h
      here = S.0

      kept : Kept r q
      kept = kept_again sent.same same

      -- the port of its position is this one
      port_is : N.port c h ≡ p
      port_is =
          let w = waits in
          let a : (get_or r.records.items c no_record).condition ≡ is.Waiting h S.1.0 = S.1.1 in
          let b : (get_or r.records.items c no_record).condition ≡ is.Waiting w.0 w.1 = w.2 in
          let at : h ≡ w.0 = cc in
          ap (N.port c) at ∙ w.3

      leaving_is : leaving s t (get_or (delays_of r.plan) p 0) ≡ onward N t c h
      leaving_is =
          ap (λ b. cond b (SentOnward (h + 1) (t + get_or (delays_of r.plan) p 0)) SentOut) S.4
          ∙ ap (λ j. cond (goes_on N c h) (SentOnward (h + 1) (t + get_or (delays_of r.plan) j 0)) SentOut) (sym port_is)

      own : q.records.items ≡ set r.records.items c
          (record { condition = next_condition (get_or r.records.items c no_record).condition (leaving s t (get_or (delays_of r.plan) p 0)); first = (get_or r.records.items c no_record).first })
      own = records ∙ sent.records

      becomes : (get_or q.records.items c no_record).condition ≡ next_condition (get_or r.records.items c no_record).condition (onward N t c h)
      becomes =
          let few = net.cell_few r.plan c here.cell in
          let counted = r.counted in
          ap (λ x. (get_or x c no_record).condition) own ∙ ap (λ x. x.condition) (get_or-set_same r.records.items c _ no_record (omega arith))
          ∙ ap (λ o. next_condition (get_or r.records.items c no_record).condition o) leaving_is

      place_is : s.place ≡ first_hop (cells_of r.plan) c + h
      place_is = S.5

      sent_same : (moment q log' e).sent ≡ sent_in (cells_of r.plan) log'
      sent_same = ap (λ x. sent_in (cells_of x) log') kept.plan

      sound_after : sound e
      sound_after = let a = told I.lawful in (L.picked d p t c e I.lawful a.0 a.1).0

      marked : q.contested ≡ cond (ltb 0 (count_at (waiting e) p)) (set r.contested p true) r.contested
      marked = contested sound_after ∙ ap (λ x. cond (ltb 0 (count_at (waiting e) p)) (set x p true) x) sent.contested

      few_gone : r.gone ≤ 256
      few_gone = let a = I.left in let b = passing_few N.cells (λ k. is_gone ((moment r log d).condition k)) in let f = few_cells_lem r.plan in omega arith

      pub sends_so : Sends N (flows r) t waiting arrives picks p c (moment r log d) (moment q log' e)
      sends_so =
          let broad = r.broad in
          let ports = few_ports_lem r.plan in
          record {
            position = h;
            since = S.1.0;
            there = there;
            picked = (told I.lawful).1;
            waited = S.1.1;
            becomes = becomes;
            others = λ k n. ap (λ x. (get_or x k no_record).condition) own ∙ ap (λ x. x.condition) (get_or-set_other r.records.items c k _ no_record n);
            sent = ap (λ x. x c h) sent_same ∙ ap (λ i. (get_or log' i no_hop).sent) (sym place_is)
                ∙ ap (λ x. x.sent) (get_or-set_same log s.place _ no_hop (let a = place_within (cells_of r.plan) c h here.cell here.hop in let b = place_is in omega arith));
            kept = λ k g on ne. ap (λ x. x k g) sent_same
                ∙ ap (λ x. x.sent) (get_or-set_other log s.place (first_hop (cells_of r.plan) k + g) _ no_hop (λ z.
                let y = place_apart (cells_of r.plan) k g c h on.cell on.hop here.cell here.hop (z ∙ place_is) in
                elim ne [ inl n ↦ n y.0 | inr n ↦ n y.1 ]));
            contested = ap (λ x. get_or x p false) marked ∙ elim (cases_Bool (ltb 0 (count_at (waiting e) p))) [
              | inl y ↦ ap (λ b. get_or (cond b (set r.contested p true) r.contested) p false) y ∙ get_or-set_same r.contested p true false (omega arith)
                  ∙ sym (or-true (get_or r.contested p false)) ∙ ap (λ b. get_or r.contested p false || b) (sym y)
              | inr y ↦ ap (λ b. get_or (cond b (set r.contested p true) r.contested) p false) y
                  ∙ sym (or-false (get_or r.contested p false)) ∙ ap (λ b. get_or r.contested p false || b) (sym y)
            ];
            others_contested = λ k n. ap (λ x. get_or x k false) marked ∙ elim (cases_Bool (ltb 0 (count_at (waiting e) p))) [
              | inl y ↦ ap (λ b. get_or (cond b (set r.contested p true) r.contested) k false) y ∙ get_or-set_other r.contested p k true false n
              | inr y ↦ ap (λ b. get_or (cond b (set r.contested p true) r.contested) k false) y
            ];
            gone = gone ∙ sent.gone few_gone ∙ ap {B = ℕ} (λ b. r.gone + cond b 0 1) S.4;
          }

      -- the flights after it
      module _ (F : Flying N (moment r log d).condition fs) (A : Ahead N (suc t) (moment r log d).condition)
          (wide : length (cells_of r.plan) ≤ room) (gs : List Flight) (flown : Flown r c s (get_or (delays_of r.plan) p 0) (leb room (length fs)) fs gs) where
        abbrev k₀ : Condition
        k₀ = (get_or r.records.items c no_record).condition

        idle_before : pending N c k₀ ≡ None
        idle_before = ap (pending N c) S.1.1

        next_pending : (b : Bool) → goes_on N c h ≡ b → pending N c (get_or q.records.items c no_record).condition ≡ cond b (Some (t + N.delay (N.port c h))) None
        next_pending b g = ap (pending N c) (becomes ∙ ap (λ k. next_condition k (onward N t c h)) S.1.1
            ∙ ap (λ x. next_condition (is.Waiting h S.1.0) (cond x (SentOnward (h + 1) (t + N.delay (N.port c h))) SentOut)) g) ∙ by b
          where
            by : (b : Bool) → pending N c (next_condition (is.Waiting h S.1.0) (cond b (SentOnward (h + 1) (t + N.delay (N.port c h))) SentOut)) ≡ cond b (Some (t + N.delay (N.port c h))) None
            by true = refl
            by false = refl

        others : But (moment r log d).condition (moment q log' e).condition c
        others = sends_so.others

        gs_is : gs ≡ cond (goes_on N c h) (put_in flight_upto (record { slot = t + N.delay (N.port c h); cell = c }) fs) fs
        gs_is =
            let free = flying_room N (moment r log d).condition (moment q log' e).condition fs F c here.cell others idle_before in
            flown (lt-leb room (length fs) (omega arith))
            ∙ ap (λ b. cond b (put_in flight_upto (record { slot = t + get_or (delays_of r.plan) p 0; cell = c }) fs) fs) S.4
            ∙ ap (λ j. cond (goes_on N c h) (put_in flight_upto (record { slot = t + get_or (delays_of r.plan) j 0; cell = c }) fs) fs) (sym port_is)

        flying : Flying N (moment q log' e).condition gs
        flying = elim (cases_Bool (goes_on N c h)) [
          | inl g ↦ subst (Flying N (moment q log' e).condition) (sym (gs_is ∙ ap (λ b. cond b (put_in flight_upto (record { slot = t + N.delay (N.port c h); cell = c }) fs) fs) g))
              (flying_more N (moment r log d).condition (moment q log' e).condition fs F c here.cell others idle_before (t + N.delay (N.port c h)) (next_pending true g))
          | inr g ↦ subst (Flying N (moment q log' e).condition) (sym (gs_is ∙ ap (λ b. cond b (put_in flight_upto (record { slot = t + N.delay (N.port c h); cell = c }) fs) fs) g))
              (flying_out N (moment r log d).condition (moment q log' e).condition fs F c here.cell others idle_before (next_pending false g))
        ]

        ahead : Ahead N (suc t) (moment q log' e).condition
        ahead k u l y = elim (cases_eq k c) [
          | inl z ↦ (
              let w : pending N c (get_or q.records.items c no_record).condition ≡ Some u = ap (λ j. pending N j ((moment q log' e).condition j)) (sym z) ∙ y in
              let far = (net.sound r.plan).apart c h here in
              elim (cases_Bool (goes_on N c h)) [
                | inl g ↦ (let v = some_one _ u (next_pending true g) w in omega arith)
                | inr g ↦ absurd (none_some u (next_pending false g) w)
              ])
          | inr z ↦ A k u l (ap (pending N k) (sym (others k z)) ∙ y)
        ]

        pub turn_sends : (log'' : List HopRecord) → log'' ≡ log' → Serves N (flows r) t waiting arrives picks p (moment r log d) (moment q log'' e)
            × Flying N (moment q log'' e).condition gs × Ahead N (suc t) (moment q log'' e).condition
        turn_sends log'' noted =
            subst (λ x. Serves N (flows r) t waiting arrives picks p (moment r log d) (moment q x e) × Flying N (moment q x e).condition gs × Ahead N (suc t) (moment q x e).condition)
            (sym noted) (inr (c, sends_so), flying, ahead)

-- the turns of the first ports
module _ {D : Type 0} (waiting : D → Waiting) (choice : D → ℕ → ℕ → ℕ) (sound : D → Type 0)
    (arrives : D → ℕ → ℕ → ℕ → ℕ → ℤ → D → Type 0) (picks : D → ℕ → ℕ → ℕ → D → Type 0) (L : Laws waiting choice sound arrives picks)
    (room : ℕ) (r : Recording) (log : List HopRecord) (d : D) (fs : List Flight) where
  pub turns_start : Turns waiting sound arrives picks room 0 r log d fs r log d fs
  turns_start I F A long wide = (start, I, F, A)

  pub turns_more : (p : ℕ) (q : Recording) (log₁ : List HopRecord) (e : D) (gs : List Flight) → Kept r q → length log₁ ≡ length log
      → Turns waiting sound arrives picks room p r log d fs q log₁ e gs
      → (room₁ : ℕ) → room₁ ≡ room → (q' : Recording) (log₂ : List HopRecord) (e' : D) (hs : List Flight)
      → Turn waiting sound arrives picks room₁ p q log₁ e gs q' log₂ e' hs
      → Turns waiting sound arrives picks room (p + 1) r log d fs q' log₂ e' hs
  turns_more p q log₁ e gs K same T room₁ wider q' log₂ e' hs turn I F A long wide =
      let X = T I F A long wide in
      let m = moment r log d in
      let n = moment q log₁ e in
      let o = moment q' log₂ e' in
      let step = turn (kept_to (λ N f t. Inside N waiting sound t n) r q K X.1) (kept_to (λ N f t. Flying N n.condition gs) r q K X.2)
      (kept_to (λ N f t. Ahead N (suc t) n.condition) r q K X.3)
      (let a = ap (λ p. hops_in (cells_of p)) K.plan in omega arith) (let a = ap (λ p. length (cells_of p)) K.plan in omega arith) in
      let serves = kept_from (λ N f t. Serves N f t waiting arrives picks p n o) r q K step.0 in
      let next : Served (network_of r) (flows r) r.next waiting arrives picks (suc p) m o × Inside (network_of r) waiting sound r.next o =
      elim serves [
        | inl z ↦ subst (λ x. Served (network_of r) (flows r) r.next waiting arrives picks (suc p) m x × Inside (network_of r) waiting sound r.next x) (sym z.1)
            (idle X.0 z.0, X.1)
        | inr z ↦ (
          sends X.0 z.1,
          sends_inside (network_of r) (flows r) r.next (net.sound r.plan) waiting choice sound arrives picks L (plan_arrives r) n o X.1 z.0 (sent_known (network_of r) (flows r) r.next waiting sound arrives picks p z.0 n o X.1 z.1) p z.1,
        )
      ] in (
        subst (λ k. Served (network_of r) (flows r) r.next waiting arrives picks k m o) (sym (add-one p)) next.0,
        next.1,
        kept_from (λ N f t. Flying N o.condition hs) r q K step.1,
        kept_from (λ N f t. Ahead N (suc t) o.condition) r q K step.2,
      )
