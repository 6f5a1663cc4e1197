-- A walk along a chain: its start, a step, and its end.
use Rattle.std.proofs.Common.{◌≡◌, ℕ, zero, suc, ◌+◌, ◌-◌, ◌^◌, ◌<◌, ◌≤◌, Bool, true, false, cond, ◌||◌, eqb, ltb, leb, ◌⊎◌, List, [], ◌∷◌, ◌++◌, map, min, length, get_or, take, drop, set, Some, None, Ok, sym, refl, ap, ◌∙◌, subst, inl, inr, append_assoc, append-nil, arith, length-set}
use Rattle.std.proofs.lemmas.List.{take_more, drop_more, length-drop, length-take, length-map, map_push, take_all, get_or-set_same, get_or-set_other, set_past}
use Rattle.std.proofs.lemmas.Bool.{cases_eq, cases_lt, eqb-true, ne_eqb, ltb-true, leb-true, or_cases, and_parts, or_right, eq-eqb}
use Rattle.refusal.specs.Tests.{when, each_below}
use Rattle.refusal.proofs.Ordered.{each_below_more, each_below_stops}
use Rattle.refusal.specs.declared.Refusal.TheVariants.{BadChain}
use Rattle.plan.specs.Cells.{has}
use Rattle.layout.specs.Fields.{cell_count, hop_count, first_at, next_at, port_at, sent_at}
use Rattle.layout.specs.Order.{leads_on, chain_from, chain_of, reached, twice_test}
use Rattle.schedule.specs.Chains.{Linked, Seen, Noted, Walking, Walked}
use Rattle.schedule.specs.declared.chain.Found.{Found}

-- a next index is 0, or above its own and not above the hop count
pub next_cases : (n i x : ℕ) → leads_on n i x ≡ true → (x ≡ 0) ⊎ ((i < x) × (x ≤ n))
next_cases n i x h =
    elim (or_cases (eqb x 0) _ h) [
      | inl e ↦ inl (eqb-true x 0 e)
      | inr e ↦ let p = and_parts (ltb i x) (leb x n) e in inr (ltb-true i x p.0, leb-true x n p.1)
    ]

-- so the indices of a walk rise to the end
pub nearer : (h n i j x : ℕ) → h ≡ n → j ≡ x → 0 < i → i ≤ n → (x ≡ 0) ⊎ ((i < x) × (x ≤ n))
    → cond (eqb j 0) 0 (h + 1 - j) < cond (eqb i 0) 0 (h + 1 - i)
nearer h n i j x e f p l next =
    let here : cond (eqb i 0) 0 (h + 1 - i) ≡ h + 1 - i = ap (λ b. cond b 0 (h + 1 - i)) (ne_eqb i 0 (λ z. omega arith)) in
    elim next [
      | inl z ↦ (let end : cond (eqb j 0) 0 (h + 1 - j) ≡ 0 = ap (λ b. cond b 0 (h + 1 - j)) (eq-eqb j 0 (f ∙ z)) in omega arith)
      | inr q ↦ (let a = q.0 in let b = q.1 in
          let on : cond (eqb j 0) 0 (h + 1 - j) ≡ h + 1 - j = ap (λ b. cond b 0 (h + 1 - j)) (ne_eqb j 0 (λ z. omega arith)) in omega arith)
    ]

-- the chain from a record on
pub chain_step : (n : ℕ) (bs : List ℕ) (i : ℕ) → 0 < n → 0 < i → chain_from n bs i ≡ i ∷ chain_from (n - 1) bs (next_at bs i)
chain_step zero bs i p q = absurd (omega arith)
chain_step (suc n) bs i p q =
    let e : suc n - 1 ≡ n = omega arith in
    rw e (ap (λ b. cond b [] (i ∷ chain_from n bs (next_at bs i))) (ne_eqb i 0 (λ z. omega arith)))

pub chain_end : (n : ℕ) (bs : List ℕ) → chain_from n bs 0 ≡ []
chain_end zero bs = refl
chain_end (suc n) bs = refl

-- one number more at the end
or_regroup : (a b c : Bool) → (a || (b || c)) ≡ ((a || b) || c)
or_regroup true b c = refl
or_regroup false b c = refl

pub has_push : (is : List ℕ) (i j : ℕ) → has (is ++ i ∷ []) j ≡ (has is j || eqb i j)
has_push [] i j = elim (eqb i j) as (λ b. (b || false) ≡ b) [ true ↦ refl | false ↦ refl ]
has_push (x ∷ is) i j = ap (λ b. eqb x j || b) (has_push is i j) ∙ or_regroup (eqb x j) (has is j) (eqb i j)

-- the next record on a chain of which k have passed
module _ (bs : List ℕ) (c k i : ℕ) (flags : List Bool) (f : Found) (w : Walking bs c k i flags f) (more : 0 < i) where
  opened : drop k (chain_of bs c) ≡ i ∷ chain_from (hop_count bs - k - 1) bs (next_at bs i)
  opened =
      let r = w.rises more in
      let b = w.index in
      w.rest ∙ chain_step (hop_count bs - k) bs i (omega arith) more

  pub not_past : k < length (chain_of bs c)
  not_past = let e : length (drop k (chain_of bs c)) ≡ suc (length (chain_from (hop_count bs - k - 1) bs (next_at bs i))) = ap length opened in
      let d = length-drop k (chain_of bs c) in omega arith

  pub is_next : get_or (chain_of bs c) k 0 ≡ i
  is_next = let a = drop_more (chain_of bs c) k 0 not_past in let b = opened in cc

  pub after_next : drop (k + 1) (chain_of bs c) ≡ chain_from (hop_count bs - (k + 1)) bs (next_at bs i)
  after_next =
      let a = drop_more (chain_of bs c) k 0 not_past in
      let b = opened in
      let e : hop_count bs - k - 1 ≡ hop_count bs - (k + 1) = omega arith in
      cc

  -- its flag tells whether it was reached before
  pub flag_tells : i < length flags → twice_test bs c k ≡ when (get_or flags i false) (BadChain i)
  flag_tells l =
      ap (λ x. when (has (reached bs c ++ take k (chain_of bs c)) x) (BadChain x)) is_next
      ∙ ap (λ b. when b (BadChain i)) (sym (w.seen i l))

  pub stops : i < length flags → get_or flags i false ≡ true → each_below (length (chain_of bs c)) (twice_test bs c) ≡ Some (BadChain i)
  stops l h =
      each_below_stops (twice_test bs c) k (length (chain_of bs c)) (BadChain i) not_past w.passed
      (flag_tells l ∙ ap (λ b. when b (BadChain i)) h)

-- flags with one more set
pub seen_more : (flags : List Bool) (is : List ℕ) (i : ℕ) → i < length flags → Seen flags is → Seen (set flags i true) (is ++ i ∷ [])
seen_more flags is i l s j m =
    let m' : j < length flags = simp length-set at m in
    elim (cases_eq j i) [
      | inl e ↦
          ap (λ x. get_or (set flags i true) x false) e ∙ get_or-set_same flags i true false l
          ∙ sym (has_push is i j ∙ or_right (has is j) (eqb i j) (eq-eqb i j (sym e)))
      | inr e ↦
          get_or-set_other flags i j true false e ∙ s j m'
          ∙ sym (has_push is i j ∙ ap (λ b. has is j || b) (ne_eqb i j (λ q. e (sym q))) ∙ or_none (has is j))
    ]
  where
    or_none : (b : Bool) → (b || false) ≡ b
    or_none true = refl
    or_none false = refl

-- a list of which the first k elements are those of F, with one more
stored_more : (xs : List ℕ) (F : ℕ → ℕ) (k v : ℕ) → ((j : ℕ) → j < k → j < length xs → get_or xs j 0 ≡ F j) → v ≡ F k
    → (j : ℕ) → j < k + 1 → j < length xs → get_or (set xs k v) j 0 ≡ F j
stored_more xs F k v h e j l m =
    elim (cases_eq j k) [
      | inl q ↦ (let in' : k < length xs = omega arith in ap (λ x. get_or (set xs k v) x 0) q ∙ get_or-set_same xs k v 0 in' ∙ e ∙ ap F (sym q))
      | inr q ↦ get_or-set_other xs k j v 0 q ∙ h j (omega arith) m
    ]

-- the first n of a list with one more are those of its first n with one more
take_push : (n : ℕ) (xs : List ℕ) (x : ℕ) → take n (take n xs ++ x ∷ []) ≡ take n (xs ++ x ∷ [])
take_push zero xs x = refl
take_push (suc n) [] x = refl
take_push (suc n) (y ∷ ys) x = ap (λ zs. y ∷ zs) (take_push n ys x)

-- as many ports are kept as records have passed, up to 9
kept : (bs chain : List ℕ) (k : ℕ) (f : Found) → k ≤ length chain → Noted bs chain k f → length f.ports.items ≡ min 9 k
kept bs chain k f l n =
    omega (arith, ap length n.ports, length-take 9 (map (port_at bs) (take k chain)), length-map (take k chain) (port_at bs), length-take k chain)

-- so a slot is written at the place of its record, or nowhere
sent_place : (bs chain : List ℕ) (k v : ℕ) (f : Found) → k ≤ length chain → Noted bs chain k f → set f.sent (length f.ports.items) v ≡ set f.sent k v
sent_place bs chain k v f l n =
    let m = kept bs chain k f l n in
    let s = n.sent_long in
    elim (cases_lt k 9) [
      | inl q ↦ (let e : length f.ports.items ≡ k = omega arith in ap (λ j. set f.sent j v) e)
      | inr q ↦ set_past f.sent (length f.ports.items) v (omega arith) ∙ sym (set_past f.sent k v (omega arith))
    ]

-- found with one record more
pub noted_more : (bs chain : List ℕ) (k i : ℕ) (f g : Found) → k < length chain → get_or chain k 0 ≡ i
    → g.ports.items ≡ take 9 (f.ports.items ++ port_at bs i ∷ []) → g.sent ≡ set f.sent (length f.ports.items) (sent_at bs i)
    → sent_at bs i < 2 ^ 32 → Noted bs chain k f → Noted bs chain (k + 1) g
noted_more bs chain k i f g here at ports stored fits n =
    let s8 = n.sent_long in
    let sent : g.sent ≡ set f.sent k (sent_at bs i) = stored ∙ sent_place bs chain k (sent_at bs i) f (omega arith) n in
    record {
      ports =
          ports ∙ ap (λ ps. take 9 (ps ++ port_at bs i ∷ [])) n.ports ∙ take_push 9 (map (port_at bs) (take k chain)) (port_at bs i)
          ∙ ap (take 9) (sym (map_push (port_at bs) (take k chain) i))
          ∙ ap (λ is. take 9 (map (port_at bs) is)) (ap (λ x. take k chain ++ x ∷ []) (sym at) ∙ sym (take_more chain k 0 here));
      sent = λ j l m.
          ap (λ xs. get_or xs j 0) sent
          ∙ stored_more f.sent (λ x. sent_at bs (get_or chain x 0)) k (sent_at bs i)
          (λ x a b. n.sent x a (omega arith)) (ap (sent_at bs) (sym at)) j l (omega arith);
      fits = λ j l.
          elim (cases_eq j k) [
            | inl q ↦ (let in' : k < length f.sent = omega arith in
                let e : get_or g.sent j 0 ≡ sent_at bs i = ap (λ xs. get_or xs j 0) sent ∙ ap (λ x. get_or (set f.sent k (sent_at bs i)) x 0) q ∙ get_or-set_same f.sent k (sent_at bs i) 0 in' in
                omega arith)
            | inr q ↦ (let e : get_or g.sent j 0 ≡ get_or f.sent j 0 = ap (λ xs. get_or xs j 0) sent ∙ get_or-set_other f.sent k j (sent_at bs i) 0 q in
                let b = n.fits j l in omega arith)
          ];
      sent_long = ap length sent ∙ length-set f.sent k (sent_at bs i) ∙ n.sent_long;
    }

-- the start of a walk
pub walking_none : (bs : List ℕ) (c i : ℕ) (flags : List Bool) (f : Found) → i ≡ first_at bs c → Linked bs → c < cell_count bs
    → length flags ≡ 2049 → Seen flags (reached bs c) → Noted bs (chain_of bs c) 0 f → Walking bs c 0 i flags f
walking_none bs c i flags f first-is linked l long s n = subst (λ x. Walking bs c 0 x flags f) (sym first-is) start
  where
    start : Walking bs c 0 (first_at bs c) flags f
    start = record {
      index = linked.first c l;
      rises = λ h. h;
      within = omega arith;
      rest = let e : hop_count bs ≡ hop_count bs - 0 = omega arith in ap (λ n. chain_from n bs (first_at bs c)) e;
      passed = refl;
      flags_long = long;
      seen = λ j m. s j m ∙ ap (λ is. has is j) (sym (append-nil (reached bs c)));
      noted = n;
    }

-- a step
pub walking_more : (bs : List ℕ) (c k i : ℕ) (flags : List Bool) (f : Found) (i' : ℕ) (flags' : List Bool) (g : Found)
    → Linked bs → Walking bs c k i flags f → 0 < i → i < length flags → get_or flags i false ≡ false
    → i' ≡ next_at bs i → flags' ≡ set flags i true → g.ports.items ≡ take 9 (f.ports.items ++ port_at bs i ∷ [])
    → g.sent ≡ set f.sent (length f.ports.items) (sent_at bs i) → sent_at bs i < 2 ^ 32 → Walking bs c (k + 1) i' flags' g
walking_more bs c k i flags f i' flags' g linked w more l free next_is flags-are ports sent fits =
    subst (λ x. Walking bs c (k + 1) x flags' g) (sym next_is)
    (subst (λ x. Walking bs c (k + 1) (next_at bs i) x g) (sym flags-are) step)
  where
    here : k < length (chain_of bs c)
    here = not_past bs c k i flags f w more

    noted : Noted bs (chain_of bs c) (k + 1) g
    noted = noted_more bs (chain_of bs c) k i f g here (is_next bs c k i flags f w more) ports sent fits w.noted

    onward : (next_at bs i ≡ 0) ⊎ ((i < next_at bs i) × (next_at bs i ≤ hop_count bs))
    onward = next_cases (hop_count bs) i (next_at bs i) (linked.next i more w.index)

    step : Walking bs c (k + 1) (next_at bs i) (set flags i true) g
    step =
        let o = onward in
        let r = w.rises more in
        record {
          index = omega arith;
          rises = λ p. omega arith;
          within = let p = here in omega arith;
          rest = after_next bs c k i flags f w more;
          passed = each_below_more (twice_test bs c) k w.passed (flag_tells bs c k i flags f w more l ∙ ap (λ b. when b (BadChain i)) free);
          flags_long = length-set flags i true ∙ w.flags_long;
          seen = subst (λ is. Seen (set flags i true) is)
              (append_assoc (reached bs c) (take k (chain_of bs c)) (i ∷ [])
              ∙ ap (λ t. reached bs c ++ t) (ap (λ x. take k (chain_of bs c) ++ x ∷ []) (sym (is_next bs c k i flags f w more)) ∙ sym (take_more (chain_of bs c) k 0 here)))
              (seen_more flags (reached bs c ++ take k (chain_of bs c)) i l w.seen);
          noted = noted;
        }

-- the end
pub walking_all : (bs : List ℕ) (c k i : ℕ) (flags : List Bool) (f : Found) → i ≡ 0 → Walking bs c k i flags f → Walked bs c (Ok f) flags
walking_all bs c k i flags f end w =
    let done : drop k (chain_of bs c) ≡ [] = w.rest ∙ ap (chain_from (hop_count bs - k) bs) end ∙ chain_end (hop_count bs - k) bs in
    let d = length-drop k (chain_of bs c) in
    let z : length (drop k (chain_of bs c)) ≡ 0 = ap length done in
    let in' = w.within in
    let e : k ≡ length (chain_of bs c) = omega arith in (
      subst (λ n. each_below n (twice_test bs c) ≡ None) e w.passed,
      subst (λ n. Noted bs (chain_of bs c) n f) e w.noted,
      subst (λ is. Seen flags (reached bs c ++ is)) (take_all k (chain_of bs c) (omega arith)) w.seen,
      w.flags_long,
    )
