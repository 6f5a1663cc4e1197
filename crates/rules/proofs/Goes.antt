-- A run between slots goes on by one slot: all parts agree again, and the laws of a schedule hold one slot later.
use Rattle.std.proofs.Common.{◌≡◌, ℕ, zero, suc, ◌+◌, ◌<◌, ◌≤◌, true, ◌⊎◌, ℤ, is_some, Some, None, Option, unwrap_or, sym, refl, ap, ◌∙◌, subst, inl, inr, arith}
use Rattle.std.proofs.lemmas.Bool.{cases_order, false≢true}
use Rattle.discipline.specs.Calls.{arrive_test}
use Rattle.discipline.specs.Meaning.{Waiting}
use Rattle.network.specs.Networks.{Network, Hop, Sound}
use Rattle.network.specs.Schedules.{Schedule, arrival, Waited}
use Rattle.network.specs.Steps.{Steps, StepsBusy}
use Rattle.network.proofs.Steps as laws
use Rattle.rules.specs.Coherence.{Inside, Ahead}
use Rattle.rules.specs.Loads.{Sent, slots}
use Rattle.rules.specs.Moments.{Moment, pending, Reached, Placed}
use Rattle.rules.specs.Rules.{Entered, Served}
use Rattle.rules.specs.Between.{Between}
use Rattle.rules.specs.declared.condition.Condition.{Condition}
use Rattle.rules.specs.declared.condition.Condition.TheVariants as is
use Rattle.rules.proofs.Chains.{Came, came, Just, After, after}
use Rattle.rules.proofs.Disciplines.{Laws}

-- sent or not
sent_or_not : (o : Option ℕ) → (o ≡ None) ⊎ ((v : ℕ) × (o ≡ Some v))
sent_or_not None = inl refl
sent_or_not (Some v) = inr (v, refl)

some_not_none : (o : Option ℕ) → is_some o ≡ true → o ≡ None → ⊥
some_not_none o y n = false≢true (sym (ap is_some n) ∙ y)

same_value : (o : Option ℕ) (u v : ℕ) → is_some o ≡ true → unwrap_or o u ≡ unwrap_or o v
same_value None u v e = absurd (false≢true e)
same_value (Some x) u v e = refl

module _ (N : Network) (O : Sound N) where
  -- an arrival at a hop that is reached does not depend on the horizon
  arrival_fixed : (s : Sent) (c h u v : ℕ) → Reached N s c h → arrival N (slots s u) c h ≡ arrival N (slots s v) c h
  arrival_fixed s c zero u v r = refl
  arrival_fixed s c (suc h) u v r = ap (λ x. x + N.delay (N.port c h)) (same_value (s c h) u v (r.done h (omega arith)))

  placed_later : (s : Sent) (t c : ℕ) (k : Condition) → Placed N s t c k → Placed N s (suc t) c k
  placed_later s t c is.Outside p = p
  placed_later s t c (is.Waiting h a) p = (p.0, p.1, p.2 ∙ arrival_fixed s c h t (suc t) p.1, (let l = p.3 in omega arith))
  placed_later s t c (is.OnLink h u) p = (p.0, p.1, p.2 ∙ arrival_fixed s c h t (suc t) p.1)
  placed_later s t c is.Gone p = p

  -- a hop past the one that is reached has not been arrived at
  too_far : (s : Sent) (t u c h g : ℕ) → Reached N s c g → Hop N c h → t ≤ u → g < h → arrival N (slots s u) c h ≤ t → ⊥
  too_far s t u c zero g r on l m a = omega arith
  too_far s t u c (suc h) g r on l m a =
      let b : Hop N c h = record { cell = on.cell; hop = (let x = on.hop in omega arith) } in
      let e = ap (λ o. unwrap_or o u) (r.left h (omega arith) b.hop) in
      let d = O.apart c h b in
      omega arith

  -- a cell that has arrived at a hop and was not sent from there waits there
  stands_by : (s : Sent) (t u c h : ℕ) (k : Condition) → t ≤ u → Hop N c h → Placed N s t c k → ((v : ℕ) → pending N c k ≡ Some v → suc t ≤ v)
      → arrival N (slots s u) c h ≤ t → s c h ≡ None → (a : ℕ) × (k ≡ is.Waiting h a)
  stands_by s t u c zero is.Outside l on p ahead a n = absurd (let z = ahead (N.entry c) refl in omega arith)
  stands_by s t u c (suc h) is.Outside l on p ahead a n = absurd (too_far s t u c (suc h) 0 p on l (omega arith) a)
  stands_by s t u c h (is.Waiting g b) l on p ahead a n = elim (cases_order h g) [
    | inl e ↦ (b, ap (λ j. is.Waiting j b) (sym e))
    | inr o ↦ (elim o [
      | inl m ↦ absurd (some_not_none (s c h) (p.1.done h m) n)
      | inr m ↦ absurd (too_far s t u c h g p.1 on l m a)
    ])
  ]
  stands_by s t u c h (is.OnLink g v) l on p ahead a n = elim (cases_order h g) [
    | inl e ↦ absurd (
        let w = ahead v refl in
        let f = arrival_fixed s c g u t p.1 in
        let j = ap (arrival N (slots s u) c) e in
        let i = p.2 in
        omega arith)
    | inr o ↦ (elim o [
      | inl m ↦ absurd (some_not_none (s c h) (p.1.done h m) n)
      | inr m ↦ absurd (too_far s t u c h g p.1 on l m a)
    ])
  ]
  stands_by s t u c h is.Gone l on p ahead a n = absurd (some_not_none (s c h) (p.done h on.hop) n)

module _ (N : Network) (flow : ℕ → ℕ) (t : ℕ) (O : Sound N) {D : Type 0} (waiting : D → Waiting) (choice : D → ℕ → ℕ → ℕ) (sound : D → Type 0)
    (arrives : D → ℕ → ℕ → ℕ → ℕ → ℤ → D → Type 0) (picks : D → ℕ → ℕ → ℕ → D → Type 0) (L : Laws waiting choice sound arrives picks)
    (fits : (w : Waiting) (c h : ℕ) → Hop N c h → w c ≡ None → arrive_test w (N.port c h) c (flow c) ≡ None)
    (ports : ℕ) (small : (c h : ℕ) → Hop N c h → N.port c h < ports)
    (m k n : Moment D) (B : Between N waiting sound t m)
    (entered : Entered N flow t waiting arrives picks N.cells m k) (I : Inside N waiting sound t k) (ahead : Ahead N (suc t) k.condition)
    (served : Served N flow t waiting arrives picks ports k n) (last : Ahead N (suc t) n.condition) where
  C : Came N flow t waiting choice sound arrives picks m k
  C = came N flow t waiting choice sound arrives picks N.cells m k entered

  A : After N flow t waiting choice sound arrives picks L O fits ports k n
  A = after N flow t waiting choice sound arrives picks L O fits ports k n I served

  abbrev x : Schedule
  x = slots m.sent t

  abbrev y : Schedule
  y = slots n.sent (suc t)

  was : (c h : ℕ) → k.sent c h ≡ m.sent c h
  was c h = ap (λ s. s c h) C.sent

  -- a hop: sent before slot t, in it, or not yet
  data Cases (c h : ℕ) : Type 0 where
    earlier : (v : ℕ) → m.sent c h ≡ Some v → n.sent c h ≡ Some v → v < t → Cases c h
    just : Just N flow t waiting choice sound arrives picks L O fits ports k n c h → m.sent c h ≡ None → Cases c h
    later : m.sent c h ≡ None → n.sent c h ≡ None → Cases c h

  cases : (c h : ℕ) → Hop N c h → Cases c h
  cases c h on = elim (A.sent c h on) [
    | inl e ↦ (elim (sent_or_not (m.sent c h)) [
      | inl z ↦ later z (e ∙ was c h ∙ z)
      | inr z ↦ earlier z.0 z.1 (e ∙ was c h ∙ z.1) (B.past c h z.0 on z.1)
    ])
    | inr j ↦ just j (sym (was c h) ∙ j.before)
  ]

  sent_x : (c h v : ℕ) → m.sent c h ≡ Some v → x c h ≡ v
  sent_x c h v e = ap (λ o. unwrap_or o t) e

  sent_y : (c h v : ℕ) → n.sent c h ≡ Some v → y c h ≡ v
  sent_y c h v e = ap (λ o. unwrap_or o (suc t)) e

  unsent_x : (c h : ℕ) → m.sent c h ≡ None → x c h ≡ t
  unsent_x c h e = ap (λ o. unwrap_or o t) e

  unsent_y : (c h : ℕ) → n.sent c h ≡ None → y c h ≡ suc t
  unsent_y c h e = ap (λ o. unwrap_or o (suc t)) e

  -- a cell that was just sent had arrived
  arrived : (c h : ℕ) → Hop N c h → Just N flow t waiting choice sound arrives picks L O fits ports k n c h → arrival N x c h ≤ t
  arrived c h on j =
      let p = subst (Placed N k.sent t c) j.waited (I.placed c on.cell) in
      let e : arrival N (slots k.sent t) c h ≡ arrival N x c h = ap (λ s. arrival N (slots s t) c h) C.sent in
      let a = p.2 in let b = p.3 in
      omega arith

  steps : Steps N t x y
  steps = record {
    kept = λ c h on l. elim (cases c h on) [
      | earlier v a b w ↦ sent_y c h v b ∙ sym (sent_x c h v a)
      | just j a ↦ absurd (let e = unsent_x c h a in omega arith)
      | later a b ↦ absurd (let e = unsent_x c h a in omega arith)
    ];
    still = λ c h on l. elim (cases c h on) [
      | earlier v a b w ↦ absurd (let e = sent_x c h v a in omega arith)
      | just j a ↦ (let e = sent_y c h t j.now in omega arith)
      | later a b ↦ (let e = unsent_y c h b in omega arith)
    ];
    after = λ c h on e. elim (cases c h on) [
      | earlier v a b w ↦ absurd (let f = sent_y c h v b in omega arith)
      | just j a ↦ arrived c h on j
      | later a b ↦ absurd (let f = unsent_y c h b in omega arith)
    ];
    alone = λ c h q g on og p e f. A.alone c h q g on og p (justly c h on e) (justly q g og f);
  }
    where
      justly : (c h : ℕ) → Hop N c h → y c h ≡ t → Just N flow t waiting choice sound arrives picks L O fits ports k n c h
      justly c h on e = elim (cases c h on) [
        | earlier v a b w ↦ absurd (let f = sent_y c h v b in omega arith)
        | just j a ↦ j
        | later a b ↦ absurd (let f = unsent_y c h b in omega arith)
      ]

  steps_busy : StepsBusy N t x y
  steps_busy c h on a l =
      let unsent : m.sent c h ≡ None = elim (cases c h on) [
        | earlier v z b w ↦ absurd (let e = sent_x c h v z in omega arith)
        | just j z ↦ z
        | later z b ↦ z
      ] in
      let e : arrival N (slots k.sent t) c h ≡ arrival N x c h = ap (λ s. arrival N (slots s t) c h) C.sent in
      let w = stands_by N O k.sent t t c h (k.condition c) (omega arith) on (I.placed c on.cell) (λ v p. ahead c v on.cell p) (omega arith) (was c h ∙ unsent) in
      let b = A.busy c h w.0 on w.1 (small c h on) in
      (b.0, b.1, b.2, b.3, sent_y b.0 b.1 t b.4.now)

  -- what arrived by slot t arrived at the same time in both schedules
  comes : (c h : ℕ) → Hop N c h → (arrival N x c h ≡ arrival N y c h) ⊎ ((t < arrival N x c h) × (t < arrival N y c h))
  comes c zero on = inl refl
  comes c (suc h) on =
      let b : Hop N c h = record { cell = on.cell; hop = (let z = on.hop in omega arith) } in
      let d = O.apart c h b in
      elim (cases c h b) [
        | earlier v a e w ↦ inl (ap (λ z. z + N.delay (N.port c h)) (sent_x c h v a ∙ sym (sent_y c h v e)))
        | just j a ↦ inr (let e = unsent_x c h a in let f = sent_y c h t j.now in (omega arith, omega arith))
        | later a e ↦ inr (let f = unsent_x c h a in let g = unsent_y c h e in (omega arith, omega arith))
      ]

  -- a cell that waited by slot t - 1 waited by slot t
  waited_on : (p : ℕ) → Waited N t x p → Waited N (suc t) y p
  waited_on p w =
      let c = w.0 in let h = w.1 in let W = w.2 in
      let z = comes c h W.on in
      let a = W.late.0 in let b = W.late.1 in (
        c,
        h,
        record {
          on = W.on;
          at = W.at;
          late = elim (cases c h W.on) [
            | earlier v e f l ↦ (let i = sent_x c h v e in let j = sent_y c h v f in (omega arith, omega arith))
            | just j e ↦ (let i = sent_y c h t j.now in (omega arith, omega arith))
            | later e f ↦ (let i = unsent_y c h f in (omega arith, omega arith))
          ];
        },
      )

  -- a cell that waits at the end of slot t
  waits_now : (c h a : ℕ) → c < N.cells → n.condition c ≡ is.Waiting h a → Waited N (suc t) y (N.port c h)
  waits_now c h a l e =
      let p = subst (Placed N n.sent t c) e (A.inside.placed c l) in
      let f = arrival_fixed N O n.sent c h t (suc t) p.1 in
      let g = unsent_y c h (p.1.left h (omega arith) p.0) in
      let i = p.2 in let j = p.3 in
      (c, h, record { on = record { cell = l; hop = p.0 }; at = refl; late = (omega arith, omega arith) })

  marked : (p : ℕ) → n.contested p ≡ true → Waited N (suc t) y p
  marked p e = elim (A.marked p e) [
    | inl z ↦ waited_on p (B.marked p (ap (λ f. f p) (sym C.contested) ∙ z))
    | inr z ↦ subst (Waited N (suc t) y) z.5 (waits_now z.0 z.1 z.2 z.3 z.4)
  ]

  marks : (p : ℕ) → Waited N (suc t) y p → n.contested p ≡ true
  marks p w =
      let c = w.0 in let h = w.1 in let W = w.2 in
      let z = comes c h W.on in
      let a = W.late.0 in let b = W.late.1 in
      let before : arrival N x c h < t → arrival N x c h < x c h → n.contested p ≡ true = λ i j.
      A.kept p (ap (λ f. f p) C.contested ∙ B.marks p (c, h, record { on = W.on; at = W.at; late = (i, j) })) in
      elim (cases c h W.on) [
        | earlier v e f l ↦ (let i = sent_x c h v e in let j = sent_y c h v f in before (omega arith) (omega arith))
        | just j e ↦ (let i = sent_y c h t j.now in let g = unsent_x c h e in before (omega arith) (omega arith))
        | later e f ↦ (
            let s = stands_by N O n.sent t (suc t) c h (n.condition c) (omega arith) W.on (A.inside.placed c W.on.cell) (λ v q. last c v W.on.cell q) (omega arith) f in
            ap n.contested (sym W.at) ∙ A.marks c h s.0 W.on.cell s.1 (small c h W.on))
      ]

  pub goes_between : Between N waiting sound (suc t) n
  goes_between =
      let law = laws.goes_on N t x y O steps in
      record {
        inside = record {
          placed = λ c l. placed_later N O n.sent t c (n.condition c) (A.inside.placed c l);
          past = λ c h v on e. let a = A.inside.past c h v on e in omega arith;
          lawful = A.inside.lawful;
          queued = A.inside.queued;
          strangers = A.inside.strangers;
          left = A.inside.left;
        };
        ahead = last;
        past = λ c h v on e. let a = A.inside.past c h v on e in omega arith;
        since = λ c h a l e. let p = subst (Placed N n.sent t c) e (A.inside.placed c l) in let q = p.3 in omega arith;
        sends = law.sends B.sends;
        busy = law.busy B.busy steps_busy;
        marked = marked;
        marks = marks;
      }
