-- A run in the middle of a slot stays coherent: when a cell enters or lands, and when a port sends one.
use Rattle.std.proofs.Common.{◌≡◌, ℕ, zero, suc, ◌+◌, ◌<◌, ◌≤◌, true, false, cond, ℤ, pos, is_some as option_is_some, Some, None, unwrap_or, sym, refl, ap, ◌∙◌, subst, inl, inr, add-one, arith}
use Rattle.std.proofs.lemmas.Bool.{cases_eq, cases_Bool, eq-eqb, ne_eqb, ltb-true, ltb-false}
use Rattle.refusal.proofs.Options.{none_some, some_one}
use Rattle.discipline.specs.Calls.{arrive_test}
use Rattle.discipline.specs.Meaning.{Waiting, passing}
use Rattle.discipline.proofs.Tests.{pick_passes_at}
use Rattle.discipline.proofs.Counting.{passing_same, passing_more}
use Rattle.network.specs.Networks.{Network, Hop, Sound}
use Rattle.network.specs.Schedules.{arrival}
use Rattle.rules.specs.Coherence.{Inside}
use Rattle.rules.specs.Conditions.{next_condition}
use Rattle.rules.specs.Loads.{Sent, slots}
use Rattle.rules.specs.Moments.{Moment, pending, stay, is_gone, Reached, Placed}
use Rattle.rules.specs.Rules.{Arrives, Sends, goes_on, onward}
use Rattle.rules.specs.declared.condition.Condition.{Condition}
use Rattle.rules.proofs.Disciplines.{Laws}
use Rattle.rules.specs.declared.condition.Condition.TheVariants as is
use Rattle.rules.specs.declared.condition.Event.TheVariants.{Arrive, SentOnward, SentOut}

-- the same slots of one cell, up to its last hop
module _ (N : Network) (s u : Sent) (t c : ℕ) (same : (h : ℕ) → h < N.len c → u c h ≡ s c h) where
  reached_same : (h : ℕ) → h ≤ N.len c → Reached N s c h → Reached N u c h
  reached_same h l r = record {
    done = λ g m. ap option_is_some (same g (omega arith)) ∙ r.done g m;
    left = λ g m n. same g n ∙ r.left g m n;
  }

  arrival_same : (h : ℕ) → h < N.len c → arrival N (slots s t) c h ≡ arrival N (slots u t) c h
  arrival_same zero l = refl
  arrival_same (suc h) l = ap (λ o. unwrap_or o t + N.delay (N.port c h)) (sym (same h (omega arith)))

  pub placed_same : (k : Condition) → Placed N s t c k → Placed N u t c k
  placed_same is.Outside p = reached_same 0 (omega arith) p
  placed_same (is.Waiting h a) p = (p.0, reached_same h (let l = p.0 in omega arith) p.1, p.2 ∙ arrival_same h p.0, p.3)
  placed_same (is.OnLink h a) p = (p.0, reached_same h (let l = p.0 in omega arith) p.1, p.2 ∙ arrival_same h p.0)
  placed_same is.Gone p = reached_same (N.len c) (omega arith) p

-- a cell that comes in slot t waits since t at a hop of its route
lands_placed : (N : Network) (s : Sent) (t c : ℕ) (k : Condition) → Sound N → c < N.cells → Placed N s t c k → pending N c k ≡ Some t
    → Placed N s t c (next_condition k (Arrive t))
lands_placed N s t c is.Outside O l p e = let q : N.entry c ≡ t = some_one (N.entry c) t refl e in (O.some c l, p, sym q, omega arith)
lands_placed N s t c (is.Waiting h a) O l p e = p
lands_placed N s t c (is.OnLink h u) O l p e = let q : u ≡ t = some_one u t refl e in (p.0, p.1, sym q ∙ p.2, omega arith)
lands_placed N s t c is.Gone O l p e = p

-- and was not gone
lands_not_gone : (N : Network) (t c : ℕ) (k : Condition) → pending N c k ≡ Some t → is_gone k ≡ false
lands_not_gone N t c is.Outside e = refl
lands_not_gone N t c (is.Waiting h a) e = refl
lands_not_gone N t c (is.OnLink h u) e = refl
lands_not_gone N t c is.Gone e = absurd (none_some t refl e)

module _ (N : Network) (flow : ℕ → ℕ) (t : ℕ) (O : Sound N) {D : Type 0} (waiting : D → Waiting) (choice : D → ℕ → ℕ → ℕ) (sound : D → Type 0)
    (arrives : D → ℕ → ℕ → ℕ → ℕ → ℤ → D → Type 0) (picks : D → ℕ → ℕ → ℕ → D → Type 0)
    (L : Laws waiting choice sound arrives picks)
    (fits : (w : Waiting) (c h : ℕ) → Hop N c h → w c ≡ None → arrive_test w (N.port c h) c (flow c) ≡ None) where
  module _ (m n : Moment D) (I : Inside N waiting sound t m) (c : ℕ) (l : c < N.cells) where
    pub arrives_inside : pending N c (m.condition c) ≡ Some t → Arrives N flow t waiting arrives picks c m n → Inside N waiting sound t n
    arrives_inside e A =
        let here : Placed N m.sent t c (n.condition c) =
        subst (Placed N m.sent t c) (sym A.becomes) (lands_placed N m.sent t c (m.condition c) O l (I.placed c l) e) in
        let wait : Placed N m.sent t c (is.Waiting A.position t) = subst (Placed N m.sent t c) A.waits here in
        let free : waiting m.queue c ≡ None = I.queued c l ∙ no_stay (m.condition c) e in
        let law = L.arrived m.queue (N.port c A.position) c (flow c) t (pos 0) n.queue I.lawful
        (fits (waiting m.queue) c A.position (record { cell = l; hop = wait.0 }) free) A.told in
        record {
          placed = λ k lk. elim (cases_eq k c) [
            | inl q ↦ subst (λ s. Placed N s t k (n.condition k)) (sym A.sent) (subst (λ j. Placed N m.sent t j (n.condition j)) (sym q) here)
            | inr q ↦ subst (λ s. Placed N s t k (n.condition k)) (sym A.sent) (subst (Placed N m.sent t k) (sym (A.others k q)) (I.placed k lk))
          ];
          past = λ k h v on p. I.past k h v on (ap (λ s. s k h) (sym A.sent) ∙ p);
          lawful = law.0;
          queued = λ k lk. elim (cases_eq k c) [
            | inl q ↦ law.1 k ∙ ap (λ b. cond b (Some (record { port = N.port c A.position; slot = t; due = pos 0 })) (waiting m.queue k)) (eq-eqb k c q)
                ∙ sym (ap (stay N c) A.waits) ∙ ap (λ j. stay N j (n.condition j)) (sym q)
            | inr q ↦ law.1 k ∙ ap (λ b. cond b (Some (record { port = N.port c A.position; slot = t; due = pos 0 })) (waiting m.queue k)) (ne_eqb k c q)
                ∙ I.queued k lk ∙ ap (stay N k) (sym (A.others k q))
          ];
          strangers = λ k lk. law.1 k
              ∙ ap (λ b. cond b (Some (record { port = N.port c A.position; slot = t; due = pos 0 })) (waiting m.queue k)) (ne_eqb k c (λ q. omega arith))
              ∙ I.strangers k lk;
          left = A.gone ∙ I.left ∙ passing_same N.cells _ _ (λ k lk. elim (cases_eq k c) [
            | inl q ↦ ap (λ j. is_gone (m.condition j)) q ∙ lands_not_gone N t c (m.condition c) e
                ∙ sym (ap is_gone A.waits) ∙ ap (λ j. is_gone (n.condition j)) (sym q)
            | inr q ↦ ap is_gone (sym (A.others k q))
          ]);
        }
      where
        no_stay : (k : Condition) → pending N c k ≡ Some t → stay N c k ≡ None
        no_stay is.Outside e = refl
        no_stay (is.Waiting h a) e = absurd (none_some t refl e)
        no_stay (is.OnLink h u) e = refl
        no_stay is.Gone e = refl

    module _ (p : ℕ) (S : Sends N flow t waiting arrives picks p c m n) where
      abbrev h : ℕ
      h = S.position

      was : Placed N m.sent t c (is.Waiting h S.since)
      was = subst (Placed N m.sent t c) S.waited (I.placed c l)

      -- where cell c goes
      next_is : n.condition c ≡ next_condition (is.Waiting h S.since) (onward N t c h)
      next_is = S.becomes ∙ ap (λ k. next_condition k (onward N t c h)) S.waited

      goes : goes_on N c h ≡ true → n.condition c ≡ is.OnLink (h + 1) (t + N.delay (N.port c h))
      goes e = next_is ∙ ap (λ b. next_condition (is.Waiting h S.since) (cond b (SentOnward (h + 1) (t + N.delay (N.port c h))) SentOut)) e

      leaves : goes_on N c h ≡ false → n.condition c ≡ is.Gone
      leaves e = next_is ∙ ap (λ b. next_condition (is.Waiting h S.since) (cond b (SentOnward (h + 1) (t + N.delay (N.port c h))) SentOut)) e

      other_hop : (g : ℕ) → (g ≡ h → ⊥) → g < N.len c → n.sent c g ≡ m.sent c g
      other_hop g ne lg = S.kept c g (record { cell = l; hop = lg }) (inr ne)

      reached : Reached N n.sent c (suc h)
      reached = record {
        done = λ g lg. elim (cases_eq g h) [
          | inl q ↦ ap (λ j. option_is_some (n.sent c j)) q ∙ ap option_is_some S.sent
          | inr q ↦ ap option_is_some (other_hop g q (let lh = was.0 in omega arith)) ∙ was.1.done g (omega arith)
        ];
        left = λ g lg mg. other_hop g (λ q. omega arith) mg ∙ was.1.left g (omega arith) mg;
      }

      here : Placed N n.sent t c (n.condition c)
      here = elim (cases_Bool (goes_on N c h)) [
        | inl e ↦ subst (Placed N n.sent t c) (sym (goes e)) (
            let more = ltb-true (h + 1) (N.len c) e in
            subst (λ j. Placed N n.sent t c (is.OnLink j (t + N.delay (N.port c h)))) (sym (add-one h)) (
              (let a : suc h < N.len c = omega arith in a),
              reached,
              ap (λ o. unwrap_or o t + N.delay (N.port c h)) (sym S.sent),
            ))
        | inr e ↦ subst (Placed N n.sent t c) (sym (leaves e)) (
            let end : suc h ≡ N.len c = (let a = ltb-false (h + 1) (N.len c) e in let b = was.0 in omega arith) in
            subst (Reached N n.sent c) end reached)
      ]

      -- gone or on a link, it does not wait
      pub no_wait : stay N c (n.condition c) ≡ None
      no_wait = elim (cases_Bool (goes_on N c h)) [ inl e ↦ ap (stay N c) (goes e) | inr e ↦ ap (stay N c) (leaves e) ]

      count : n.gone ≡ passing N.cells (λ k. is_gone (n.condition k))
      count = elim (cases_Bool (goes_on N c h)) [
        | inl e ↦ (
            let more : n.gone ≡ m.gone = (let z : ◌≡◌ {A = ℕ} (cond (goes_on N c h) 0 1) 0 = ap {B = ℕ} (λ b. cond b 0 1) e in let y = S.gone in omega arith) in
            more ∙ I.left ∙ passing_same N.cells _ _ (λ k lk. elim (cases_eq k c) [
              | inl q ↦ ap (λ j. is_gone (m.condition j)) q ∙ ap is_gone S.waited ∙ sym (ap is_gone (goes e)) ∙ ap (λ j. is_gone (n.condition j)) (sym q)
              | inr q ↦ ap is_gone (sym (S.others k q))
            ]))
        | inr e ↦ (
            let more : n.gone ≡ m.gone + 1 = (let z : ◌≡◌ {A = ℕ} (cond (goes_on N c h) 0 1) 1 = ap {B = ℕ} (λ b. cond b 0 1) e in let y = S.gone in omega arith) in
            let y = passing_more N.cells (λ k. is_gone (m.condition k)) (λ k. is_gone (n.condition k)) c l (ap is_gone S.waited) (ap is_gone (leaves e)) (λ k q. ap is_gone (S.others k q)) in
            let z = I.left in
            omega arith)
      ]

      pub sends_inside : Inside N waiting sound t n
      sends_inside =
          let law = L.picked m.queue p t c n.queue I.lawful (pick_passes_at (waiting m.queue) (L.limits m.queue I.lawful) p c S.there) S.picked in
          record {
            placed = λ k lk. elim (cases_eq k c) [
              | inl q ↦ subst (λ j. Placed N n.sent t j (n.condition j)) (sym q) here
              | inr q ↦ subst (Placed N n.sent t k) (sym (S.others k q))
                  (placed_same N m.sent n.sent t k (λ g lg. S.kept k g (record { cell = lk; hop = lg }) (inl q)) (m.condition k) (I.placed k lk))
            ];
            past = λ k g v on e. elim (cases_eq k c) [
              | inl q ↦ (elim (cases_eq g h) [
                | inl z ↦ (
                    let same : n.sent k g ≡ Some t = (ap (λ j. n.sent j g) q ∙ ap (n.sent c) z) ∙ S.sent in
                    let w : v ≡ t = some_one v t e same in omega arith)
                | inr z ↦ I.past k g v on (sym (S.kept k g on (inr z)) ∙ e)
              ])
              | inr q ↦ I.past k g v on (sym (S.kept k g on (inl q)) ∙ e)
            ];
            lawful = law.0;
            queued = λ k lk. elim (cases_eq k c) [
              | inl q ↦ law.2 k ∙ ap (λ b. cond b None (waiting m.queue k)) (eq-eqb k c q) ∙ sym no_wait ∙ ap (λ j. stay N j (n.condition j)) (sym q)
              | inr q ↦ law.2 k ∙ ap (λ b. cond b None (waiting m.queue k)) (ne_eqb k c q) ∙ I.queued k lk ∙ ap (stay N k) (sym (S.others k q))
            ];
            strangers = λ k lk. law.2 k ∙ ap (λ b. cond b None (waiting m.queue k)) (ne_eqb k c (λ q. omega arith)) ∙ I.strangers k lk;
            left = count;
          }
