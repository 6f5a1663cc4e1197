-- What a slot changes, from its start to its end: the cells that enter or land, and the turns of the ports.
use Rattle.std.proofs.Common.{◌≡◌, ℕ, suc, ◌<◌, ◌≤◌, true, ltb, ◌⊎◌, ℤ, Some, None, sym, refl, ap, ◌∙◌, subst, inl, inr, arith}
use Rattle.std.proofs.lemmas.Bool.{cases_eq, cases_lt, lt-ltb, ltb-true, or_cases, or_left, or_right}
use Rattle.refusal.proofs.Options.{none_some}
use Rattle.discipline.specs.Calls.{arrive_test}
use Rattle.discipline.specs.Meaning.{Waiting, At, waits_at, count_at}
use Rattle.discipline.proofs.Stays.{at_stay, stay_at}
use Rattle.discipline.proofs.Counting.{passing_find, passing_some}
use Rattle.network.specs.Networks.{Network, Hop, Sound}
use Rattle.rules.specs.Coherence.{Inside}
use Rattle.rules.specs.Moments.{Moment, pending, stay, Placed}
use Rattle.rules.specs.Rules.{Entered, Sends, Served}
use Rattle.rules.specs.Rules.Entered.{start as none_entered, passes, enters}
use Rattle.rules.specs.Rules.Served.{start as none_served, idle, sends}
use Rattle.rules.specs.declared.condition.Condition.TheVariants as is
use Rattle.rules.proofs.Disciplines.{Laws}
use Rattle.rules.proofs.Inside.{no_wait, sends_inside}
use Rattle.rules.proofs.Waits.{waits_so, sent_known}

module _ (N : Network) (flow : ℕ → ℕ) (t : ℕ) {D : Type 0} (waiting : D → Waiting) (choice : D → ℕ → ℕ → ℕ) (sound : D → Type 0)
    (arrives : D → ℕ → ℕ → ℕ → ℕ → ℤ → D → Type 0) (picks : D → ℕ → ℕ → ℕ → D → Type 0) where
  -- from m to n only cells that come in slot t have changed, and these wait since t
  pub record Came (m n : Moment D) : Type 0 where
    pub sent : n.sent ≡ m.sent
    pub contested : n.contested ≡ m.contested
    pub cells : (c : ℕ) → (n.condition c ≡ m.condition c) ⊎ ((pending N c (m.condition c) ≡ Some t) × ((h : ℕ) × (n.condition c ≡ is.Waiting h t)))

  pub came : (k : ℕ) (m n : Moment D) → Entered N flow t waiting arrives picks k m n → Came m n
  came _ m _ none_entered = record { sent = refl; contested = refl; cells = λ c. inl refl }
  came _ m n (passes E no_one) = came _ m n E
  came _ m o (enters {c = c} {n = n} E p A) =
      let I = came _ m n E in
      record {
        sent = A.sent ∙ I.sent;
        contested = A.contested ∙ I.contested;
        cells = λ k. elim (cases_eq k c) [
          | inl q ↦ (
              let was : pending N k (n.condition k) ≡ Some t = ap (λ j. pending N j (n.condition j)) q ∙ p in
              elim (I.cells k) [
                | inl e ↦ inr (ap (pending N k) (sym e) ∙ was, (A.position, ap o.condition q ∙ A.waits))
                | inr e ↦ absurd (none_some t (ap (pending N k) e.1.1) was)
              ])
          | inr q ↦ (elim (I.cells k) [
            | inl e ↦ inl (A.others k q ∙ e)
            | inr e ↦ inr (e.0, (e.1.0, A.others k q ∙ e.1.1))
          ])
        ];
      }

  module _ (L : Laws waiting choice sound arrives picks) (O : Sound N)
      (fits : (w : Waiting) (c h : ℕ) → Hop N c h → w c ≡ None → arrive_test w (N.port c h) c (flow c) ≡ None) where
    -- cell c was sent from hop h in slot t, by a port below p, where it waited when the first port had its turn
    pub record Just (p : ℕ) (k n : Moment D) (c h : ℕ) : Type 0 where
      pub before : k.sent c h ≡ None
      pub now : n.sent c h ≡ Some t
      pub port : N.port c h < p
      pub since : ℕ
      pub waited : k.condition c ≡ is.Waiting h since

    -- from k to n the ports below p had their turns
    pub record After (p : ℕ) (k n : Moment D) : Type 0 where
      pub inside : Inside N waiting sound t n
      pub sent : (c h : ℕ) → Hop N c h → (n.sent c h ≡ k.sent c h) ⊎ Just p k n c h
      pub alone : (c h q g : ℕ) → Hop N c h → Hop N q g → N.port c h ≡ N.port q g → Just p k n c h → Just p k n q g → (c ≡ q) × (h ≡ g)
      pub busy : (c h a : ℕ) → Hop N c h → k.condition c ≡ is.Waiting h a → N.port c h < p
          → (q : ℕ) × (g : ℕ) × Hop N q g × (N.port q g ≡ N.port c h) × Just p k n q g
      pub still : (c h a : ℕ) → c < N.cells → n.condition c ≡ is.Waiting h a → k.condition c ≡ is.Waiting h a
      pub waits : (c h a : ℕ) → c < N.cells → k.condition c ≡ is.Waiting h a → p ≤ N.port c h → n.condition c ≡ is.Waiting h a
      pub marked : (q : ℕ) → n.contested q ≡ true
          → (k.contested q ≡ true) ⊎ ((c : ℕ) × (h : ℕ) × (a : ℕ) × (c < N.cells) × (n.condition c ≡ is.Waiting h a) × (N.port c h ≡ q) × (q < p))
      pub marks : (c h a : ℕ) → c < N.cells → n.condition c ≡ is.Waiting h a → N.port c h < p → n.contested (N.port c h) ≡ true
      pub kept : (q : ℕ) → k.contested q ≡ true → n.contested q ≡ true

    -- before the first turn
    after_start : (k : Moment D) → Inside N waiting sound t k → After 0 k k
    after_start k I = record {
      inside = I;
      sent = λ c h on. inl refl;
      alone = λ c h q g on og e a b. absurd (let l = a.port in omega arith);
      busy = λ c h a on e l. absurd (omega arith);
      still = λ c h a l e. e;
      waits = λ c h a l e p. e;
      marked = λ q e. inl e;
      marks = λ c h a l e p. absurd (omega arith);
      kept = λ q e. e;
    }

    -- a cell that waits at a hop waits in the discipline
    at_port : (n : Moment D) → Inside N waiting sound t n → (c h a : ℕ) → c < N.cells → n.condition c ≡ is.Waiting h a → At (waiting n.queue) (N.port c h) c
    at_port n I c h a l e = stay_at (waiting n.queue) (N.port c h) c _ (I.queued c l ∙ ap (stay N c) e) refl

    hop_of : (n : Moment D) → Inside N waiting sound t n → (c h a : ℕ) → c < N.cells → n.condition c ≡ is.Waiting h a → Hop N c h
    hop_of n I c h a l e = record { cell = l; hop = (subst (Placed N n.sent t c) e (I.placed c l)).0 }

    -- a turn in which no cell waits
    after_idle : (p : ℕ) (k n : Moment D) → After p k n → ((c : ℕ) → At (waiting n.queue) p c → ⊥) → After (suc p) k n
    after_idle p k n A none =
        let wider : (c h : ℕ) → Just p k n c h → Just (suc p) k n c h = λ c h j.
        record { before = j.before; now = j.now; port = (let l = j.port in omega arith); since = j.since; waited = j.waited } in
        let narrower : (c h : ℕ) → Hop N c h → Just (suc p) k n c h → Just p k n c h = λ c h on j.
        elim (A.sent c h on) [ inl e ↦ absurd (none_some t (e ∙ j.before) j.now) | inr y ↦ y ] in
        let free : (c h a : ℕ) → c < N.cells → n.condition c ≡ is.Waiting h a → N.port c h ≡ p → ⊥ = λ c h a l e q.
        none c (subst (λ z. At (waiting n.queue) z c) q (at_port n A.inside c h a l e)) in
        record {
          inside = A.inside;
          sent = λ c h on. elim (A.sent c h on) [ inl e ↦ inl e | inr y ↦ inr (wider c h y) ];
          alone = λ c h q g on og e a b. A.alone c h q g on og e (narrower c h on a) (narrower q g og b);
          busy = λ c h a on e l. elim (cases_lt (N.port c h) p) [
            | inl m ↦ (let b = A.busy c h a on e m in (b.0, b.1, b.2, b.3, wider b.0 b.1 b.4))
            | inr m ↦ absurd (free c h a on.cell (A.waits c h a on.cell e m) (omega arith))
          ];
          still = A.still;
          waits = λ c h a l e q. A.waits c h a l e (omega arith);
          marked = λ q e. elim (A.marked q e) [ inl y ↦ inl y | inr y ↦ inr (y.0, y.1, y.2, y.3, y.4, y.5, (let l = y.6 in omega arith)) ];
          marks = λ c h a l e q. elim (cases_lt (N.port c h) p) [
            | inl m ↦ A.marks c h a l e m
            | inr m ↦ absurd (free c h a l e (omega arith))
          ];
          kept = A.kept;
        }

    -- a turn in which cell c is sent
    module _ (p : ℕ) (k n o : Moment D) (A : After p k n) (c : ℕ) (S : Sends N flow t waiting arrives picks p c n o) where
      abbrev h : ℕ
      h = S.position

      known : c < N.cells
      known = sent_known N flow t waiting sound arrives picks p c n o A.inside S

      here : Hop N c h
      here = hop_of n A.inside c h S.since known S.waited

      port_is : N.port c h ≡ p
      port_is =
          let s = at_stay (waiting n.queue) p c S.there in
          let w = waits_so N c (n.condition c) s.0 (sym (A.inside.queued c known) ∙ s.1) in
          let a : n.condition c ≡ is.Waiting h S.since = S.waited in
          let b : n.condition c ≡ is.Waiting w.0 w.1 = w.2 in
          let at : h ≡ w.0 = cc in
          ap (N.port c) at ∙ w.3 ∙ s.2

      inside : Inside N waiting sound t o
      inside = sends_inside N flow t O waiting choice sound arrives picks L fits n o A.inside c known p S

      -- it was not sent from there before
      unsent : n.sent c h ≡ None
      unsent = (subst (Placed N n.sent t c) S.waited (A.inside.placed c known)).1.left h (omega arith) here.hop

      fresh : k.sent c h ≡ None
      fresh = elim (A.sent c h here) [ inl e ↦ sym e ∙ unsent | inr y ↦ absurd (none_some t unsent y.now) ]

      -- it waits no more
      moved : (j a : ℕ) → o.condition c ≡ is.Waiting j a → ⊥
      moved j a e = none_some _ (no_wait N flow t O waiting choice sound arrives picks L fits n o A.inside c known p S) (ap (stay N c) e)

      -- what was sent before is another hop
      apart : (q g : ℕ) → Just p k n q g → ((q ≡ c → ⊥) ⊎ (g ≡ h → ⊥))
      apart q g j = elim (cases_eq q c) [
        | inl x ↦ inr (λ y. none_some t ((ap (λ z. n.sent z g) x ∙ ap (n.sent c) y) ∙ unsent) j.now)
        | inr x ↦ inl x
      ]

      wider : (q g : ℕ) → Hop N q g → Just p k n q g → Just (suc p) k o q g
      wider q g og j = record {
        before = j.before;
        now = S.kept q g og (apart q g j) ∙ j.now;
        port = (let l = j.port in omega arith);
        since = j.since;
        waited = j.waited;
      }

      just_now : Just (suc p) k o c h
      just_now = record { before = fresh; now = S.sent; port = (let e = port_is in omega arith); since = S.since; waited = A.still c h S.since known S.waited }

      -- what was just sent was sent in this turn or before
      which : (q g : ℕ) → Hop N q g → Just (suc p) k o q g → ((q ≡ c) × (g ≡ h)) ⊎ Just p k n q g
      which q g og j = elim (cases_eq q c) [
        | inl x ↦ (elim (cases_eq g h) [ inl y ↦ inl (x, y) | inr y ↦ inr (old (inr y)) ])
        | inr x ↦ inr (old (inl x))
      ]
        where
          old : (q ≡ c → ⊥) ⊎ (g ≡ h → ⊥) → Just p k n q g
          old ne = elim (A.sent q g og) [
            | inl e ↦ absurd (none_some t (e ∙ j.before) (sym (S.kept q g og ne) ∙ j.now))
            | inr y ↦ y
          ]

      not_here : (q g : ℕ) → Just p k n q g → N.port q g ≡ p → ⊥
      not_here q g j e = let l = j.port in omega arith

      after_sends : After (suc p) k o
      after_sends = record {
        inside = inside;
        sent = λ q g og. elim (cases_eq q c) [
          | inl x ↦ (elim (cases_eq g h) [
            | inl y ↦ inr (subst (λ z. Just (suc p) k o z g) (sym x) (subst (Just (suc p) k o c) (sym y) just_now))
            | inr y ↦ before q g og (inr y)
          ])
          | inr x ↦ before q g og (inl x)
        ];
        alone = λ q g u v og ov e a b. elim (which q g og a) [
          | inl x ↦ (elim (which u v ov b) [
            | inl y ↦ (x.0 ∙ sym y.0, x.1 ∙ sym y.1)
            | inr y ↦ absurd (not_here u v y (sym e ∙ at q g x.0 x.1))
          ])
          | inr x ↦ (elim (which u v ov b) [
            | inl y ↦ absurd (not_here q g x (e ∙ at u v y.0 y.1))
            | inr y ↦ A.alone q g u v og ov e x y
          ])
        ];
        busy = λ q g a og e l. elim (cases_lt (N.port q g) p) [
          | inl m ↦ (let b = A.busy q g a og e m in (b.0, b.1, b.2, b.3, wider b.0 b.1 b.2 b.4))
          | inr m ↦ (c, h, here, (let x = port_is in omega arith), just_now)
        ];
        still = λ q g a l e. A.still q g a l (sym (S.others q (other_cell q g a e)) ∙ e);
        waits = λ q g a l e m.
            let w = A.waits q g a l e (omega arith) in
            S.others q (λ x. let z = port_is in let y : N.port q g ≡ p = same_port q g a x w in omega arith) ∙ w;
        marked = λ q e. elim (cases_eq q p) [
          | inl x ↦ (elim (or_cases (n.contested p) (ltb 0 (count_at (waiting o.queue) p)) (sym S.contested ∙ (ap o.contested (sym x) ∙ e))) [
            | inl y ↦ old_mark q (ap n.contested x ∙ y)
            | inr y ↦ (
                let f = passing_find 256 (waits_at (waiting o.queue) p) (ltb-true 0 _ y) in
                let s = at_stay (waiting o.queue) p f.0 f.2 in
                let l : f.0 < N.cells = elim (cases_lt f.0 N.cells) [ inl l ↦ l | inr l ↦ absurd (none_some s.0 (inside.strangers f.0 l) s.1) ] in
                let w = waits_so N f.0 (o.condition f.0) s.0 (sym (inside.queued f.0 l) ∙ s.1) in
                inr (f.0, w.0, w.1, l, w.2, w.3 ∙ s.2 ∙ sym x, omega arith))
          ])
          | inr x ↦ old_mark q (sym (S.others_contested q x) ∙ e)
        ];
        marks = λ q g a l e m. elim (cases_lt (N.port q g) p) [
          | inl y ↦ S.others_contested (N.port q g) (λ z. omega arith) ∙ A.marks q g a l (sym (S.others q (other_cell q g a e)) ∙ e) y
          | inr y ↦ (
              let x : N.port q g ≡ p = omega arith in
              let some = passing_some 256 (waits_at (waiting o.queue) p) q (let lim = (L.limits o.queue inside.lawful q _ (inside.queued q l ∙ ap (stay N q) e)).0 in omega arith)
              (subst (λ z. At (waiting o.queue) z q) x (at_port o inside q g a l e)) in
              ap o.contested x ∙ S.contested ∙ or_right (n.contested p) _ (lt-ltb 0 _ some))
        ];
        kept = λ q e. elim (cases_eq q p) [
          | inl x ↦ ap o.contested x ∙ S.contested ∙ or_left (n.contested p) _ (ap n.contested (sym x) ∙ A.kept q e)
          | inr x ↦ S.others_contested q x ∙ A.kept q e
        ];
      }
        where
          before : (q g : ℕ) → Hop N q g → (q ≡ c → ⊥) ⊎ (g ≡ h → ⊥) → (o.sent q g ≡ k.sent q g) ⊎ Just (suc p) k o q g
          before q g og ne = elim (A.sent q g og) [ inl e ↦ inl (S.kept q g og ne ∙ e) | inr y ↦ inr (wider q g og y) ]

          at : (q g : ℕ) → q ≡ c → g ≡ h → N.port q g ≡ p
          at q g x y = (ap (λ z. N.port z g) x ∙ ap (N.port c) y) ∙ port_is

          other_cell : (q g a : ℕ) → o.condition q ≡ is.Waiting g a → q ≡ c → ⊥
          other_cell q g a e x = moved g a (ap o.condition (sym x) ∙ e)

          same_port : (q g a : ℕ) → q ≡ c → n.condition q ≡ is.Waiting g a → N.port q g ≡ p
          same_port q g a x e =
              let u : n.condition c ≡ is.Waiting g a = ap n.condition (sym x) ∙ e in
              let v : n.condition c ≡ is.Waiting h S.since = S.waited in
              let y : g ≡ h = cc in
              at q g x y

          old_mark : (q : ℕ) → n.contested q ≡ true → (k.contested q ≡ true) ⊎ ((c : ℕ) × (h : ℕ) × (a : ℕ) × (c < N.cells) × (o.condition c ≡ is.Waiting h a) × (N.port c h ≡ q) × (q < suc p))
          old_mark q e = elim (A.marked q e) [
            | inl y ↦ inl y
            | inr y ↦ inr (
              y.0,
              y.1,
              y.2,
              y.3,
              (S.others y.0 (λ x. let z = same_port y.0 y.1 y.2 x y.4 in let l = y.6 in let w = y.5 in omega arith) ∙ y.4),
              y.5,
              (let l = y.6 in omega arith),
            )
          ]

    -- all turns
    pub after : (p : ℕ) (k n : Moment D) → Inside N waiting sound t k → Served N flow t waiting arrives picks p k n → After p k n
    after _ k _ I none_served = after_start k I
    after _ k n I (idle {p = p} E none) = after_idle p k n (after p k n I E) none
    after _ k o I (sends {p = p} {c = c} {n = n} E S) = after_sends p k n o (after p k n I E) c S
