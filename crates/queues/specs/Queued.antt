-- Lists of entries.
use Rattle.std.specs.Prelude.{◌≡◌, ℕ, zero, suc, ◌+◌, ◌<◌, ◌≤◌, Bool, true, false, cond, not, ◌&&◌, List, [], ◌∷◌, ◌++◌, length, get_or, is_some, Some, None, Option, ◌==◌, ◌≢◌, nat_lt, slice_index_or, refl}
use Rattle.std.proofs.Common.{sym, ap, ◌∙◌, inl, inr, arith}
use Rattle.std.specs.List.{remove}
use Rattle.std.proofs.lemmas.Bool.{cases_eq, cases_Bool, eq-eqb, ne_eqb, lt-ltb, ltb-true, and_parts, and_from, not-true, cond-true, cond-false}
use Rattle.refusal.proofs.Options.{none_some}
use Rattle.discipline.specs.Meaning.{passing, count_at, Limits, Same, with_cell, without_cell}
use Rattle.discipline.specs.declared.stay.Stay.{Stay}
use Rattle.discipline.proofs.Counting.{passing_few, passing_more, count_with, count_with_other, empty_count}
use Rattle.discipline.proofs.Tests.{none_waits}
use Rattle.queues.specs.Entries.{stay_of, no_entry, waiting_in, at_port, without, proper}
use Rattle.queues.specs.declared.entry.Entry.{Entry}

-- what proper says of the first entry, and of the others
pub record Fits (e : Entry) (q : List Entry) : Type 0 where
  pub cell : e.cell < 256
  pub port : e.port < 32
  pub new : waiting_in q e.cell ≡ None
  pub rest : proper q ≡ true

pub fits : (e : Entry) (q : List Entry) → proper (e ∷ q) ≡ true → Fits e q
fits e q h =
    let a = and_parts (nat_lt e.cell 256 && (nat_lt e.port 32 && not (is_some (waiting_in q e.cell)))) (proper q) h in
    let b = and_parts (nat_lt e.cell 256) (nat_lt e.port 32 && not (is_some (waiting_in q e.cell))) a.0 in
    let c = and_parts (nat_lt e.port 32) (not (is_some (waiting_in q e.cell))) b.1 in
    record {
      cell = ltb-true e.cell 256 b.0;
      port = ltb-true e.port 32 c.0;
      new = none_waits (waiting_in q e.cell) (not-true (is_some (waiting_in q e.cell)) c.1);
      rest = a.1;
    }

pub fit : (e : Entry) (q : List Entry) → e.cell < 256 → e.port < 32 → waiting_in q e.cell ≡ None → proper q ≡ true → proper (e ∷ q) ≡ true
fit e q c p n r =
    and_from (nat_lt e.cell 256 && (nat_lt e.port 32 && not (is_some (waiting_in q e.cell)))) (proper q)
    (and_from (nat_lt e.cell 256) (nat_lt e.port 32 && not (is_some (waiting_in q e.cell))) (lt-ltb e.cell 256 c)
    (and_from (nat_lt e.port 32) (not (is_some (waiting_in q e.cell))) (lt-ltb e.port 32 p) (ap (λ o. not (is_some o)) n))) r

-- the first entry, and the others
pub waits_first : (e : Entry) (q : List Entry) (k : ℕ) → k ≡ e.cell → waiting_in (e ∷ q) k ≡ Some (stay_of e)
waits_first e q k h = cond-true (k == e.cell) (Some (stay_of e)) (waiting_in q k) (eq-eqb k e.cell h)

pub waits_later : (e : Entry) (q : List Entry) (k : ℕ) → (k ≢ e.cell) → waiting_in (e ∷ q) k ≡ waiting_in q k
waits_later e q k h = cond-false (k == e.cell) (Some (stay_of e)) (waiting_in q k) (ne_eqb k e.cell h)

-- a cell that is not first, where the whole list has no entry of it
none_first : (e : Entry) (q : List Entry) (k : ℕ) → waiting_in (e ∷ q) k ≡ None → k ≢ e.cell
none_first e q k h x = none_some (stay_of e) h (waits_first e q k x)

none_later : (e : Entry) (q : List Entry) (k : ℕ) → waiting_in (e ∷ q) k ≡ None → waiting_in q k ≡ None
none_later e q k h = sym (waits_later e q k (none_first e q k h)) ∙ h

-- only cells below 256 wait, and only at ports below 32
pub limits_in : (q : List Entry) → proper q ≡ true → Limits (waiting_in q)
limits_in [] h c s w = let z : ◌≡◌ {A = ℕ} 0 1 = cc in absurd (omega arith)
limits_in (e ∷ q) h c s w =
    let f = fits e q h in
    elim (cases_eq c e.cell) [
      | inl x ↦
          (let y : Some (stay_of e) ≡ Some s = sym (waits_first e q c x) ∙ w in
          let p : e.port ≡ s.port = cc in
          let a = f.cell in let b = f.port in
          (omega arith, omega arith))
      | inr x ↦ limits_in q f.rest c s (sym (waits_later e q c x) ∙ w)
    ]

-- the cell that stands at a place waits with the stay of its entry
pub waits_at_place : (q : List Entry) (i : ℕ) → proper q ≡ true → i < length q → waiting_in q (get_or q i no_entry).cell ≡ Some (stay_of (slice_index_or q i no_entry))
waits_at_place [] i h l = absurd (omega arith)
waits_at_place (e ∷ q) zero h l = waits_first e q e.cell refl
waits_at_place (e ∷ q) (suc i) h l =
    let f = fits e q h in
    let w = waits_at_place q i f.rest (omega arith) in
    let other : (get_or q i no_entry).cell ≡ e.cell → ⊥ = λ x. none_some (stay_of (slice_index_or q i no_entry)) (ap (waiting_in q) x ∙ f.new) w in
    waits_later e q (get_or q i no_entry).cell other ∙ w

-- how many entries are at a port is how many cells wait there
pub at_port_counts : (q : List Entry) (p : ℕ) → proper q ≡ true → count_at (waiting_in q) p ≡ at_port q p
at_port_counts [] p h = empty_count (waiting_in []) p (λ c. refl)
at_port_counts (e ∷ q) p h =
    let f = fits e q h in
    let r = at_port_counts q p f.rest in
    elim (cases_eq e.port p) [
      | inl x ↦
          (let n : count_at (waiting_in (e ∷ q)) p ≡ count_at (waiting_in q) p + 1 = count_with (waiting_in q) e.cell (stay_of e) p f.cell f.new x in
          let m = cond-true (e.port == p) (suc (at_port q p)) (at_port q p) (eq-eqb e.port p x) in
          omega arith)
      | inr x ↦
          (let n : count_at (waiting_in (e ∷ q)) p ≡ count_at (waiting_in q) p = count_with_other (waiting_in q) e.cell (stay_of e) p f.new x in
          let m = cond-false (e.port == p) (suc (at_port q p)) (at_port q p) (ne_eqb e.port p x) in
          omega arith)
    ]

-- no more entries are at a port than there are
pub at_port_few : (q : List Entry) (p : ℕ) → at_port q p ≤ length q
at_port_few [] p = omega arith
at_port_few (e ∷ q) p =
    let r = at_port_few q p in
    elim (cases_Bool (e.port == p)) [
      | inl x ↦ (let m = cond-true (e.port == p) (suc (at_port q p)) (at_port q p) x in omega arith)
      | inr x ↦ (let m = cond-false (e.port == p) (suc (at_port q p)) (at_port q p) x in omega arith)
    ]

pub at_port_append : (q r : List Entry) (p : ℕ) → at_port (q ++ r) p ≡ at_port q p + at_port r p
at_port_append [] r p = omega arith
at_port_append (e ∷ q) r p =
    let h = at_port_append q r p in
    elim (cases_Bool (e.port == p)) [
      | inl x ↦
          (let m = cond-true (e.port == p) (suc (at_port q p)) (at_port q p) x in
          let n = cond-true (e.port == p) (suc (at_port (q ++ r) p)) (at_port (q ++ r) p) x in
          omega arith)
      | inr x ↦
          (let m = cond-false (e.port == p) (suc (at_port q p)) (at_port q p) x in
          let n = cond-false (e.port == p) (suc (at_port (q ++ r) p)) (at_port (q ++ r) p) x in
          omega arith)
    ]

-- one entry
pub at_port_one : (e : Entry) (p : ℕ) → e.port ≡ p → at_port (e ∷ []) p ≡ 1
at_port_one e p h = cond-true (e.port == p) 1 0 (eq-eqb e.port p h)

pub at_port_other : (e : Entry) (p : ℕ) → (e.port ≢ p) → at_port (e ∷ []) p ≡ 0
at_port_other e p h = cond-false (e.port == p) 1 0 (ne_eqb e.port p h)

-- whether a cell has an entry
waits : List Entry → ℕ → Bool
waits q c = is_some (waiting_in q c)

waits_same : (e : Entry) (q : List Entry) (k : ℕ) → (k ≢ e.cell) → waits (e ∷ q) k ≡ waits q k
unfolding waits
waits_same e q k n = ap is_some (waits_later e q k n)

waits_new : (q : List Entry) (c : ℕ) → waiting_in q c ≡ None → waits q c ≡ false
unfolding waits
waits_new q c h = ap is_some h

waits_head : (e : Entry) (q : List Entry) → waits (e ∷ q) e.cell ≡ true
unfolding waits
waits_head e q = ap is_some (waits_first e q e.cell refl)

waits_none : (n : ℕ) → passing n (waits []) ≡ 0
unfolding waits passing
waits_none zero = refl
waits_none (suc n) = waits_none n

-- distinct cells below n: of the numbers below n, as many have an entry as there are entries
each_once : (n : ℕ) (q : List Entry) → 256 ≤ n → proper q ≡ true → passing n (waits q) ≡ length q
each_once n [] l h = waits_none n
each_once n (e ∷ q) l h =
    let f = fits e q h in
    let r = each_once n q l f.rest in
    let a = f.cell in
    let m = passing_more n (waits q) (waits (e ∷ q)) e.cell (omega arith) (waits_new q e.cell f.new) (waits_head e q) (waits_same e q) in
    omega arith

-- so there are at most 256
pub few_entries : (q : List Entry) → proper q ≡ true → length q ≤ 256
few_entries q h =
    let a = each_once 256 q (omega arith) h in
    let b = passing_few 256 (waits q) in
    omega arith

-- one entry more
pub same_with : (q : List Entry) (e : Entry) → waiting_in q e.cell ≡ None → Same (waiting_in (q ++ e ∷ [])) (with_cell (waiting_in q) e.cell (stay_of e))
same_with [] e h k = refl
same_with (x ∷ q) e h k =
    let r = same_with q e (none_later x q e.cell h) k in
    elim (cases_eq k e.cell) [
      | inl y ↦
          (let other : k ≡ x.cell → ⊥ = λ z. none_first x q e.cell h (sym y ∙ z) in
          waits_later x (q ++ e ∷ []) k other ∙ r
          ∙ cond-true (k == e.cell) (Some (stay_of e)) (waiting_in q k) (eq-eqb k e.cell y)
          ∙ sym (cond-true (k == e.cell) (Some (stay_of e)) (waiting_in (x ∷ q) k) (eq-eqb k e.cell y)))
      | inr y ↦
          (let s : waiting_in (q ++ e ∷ []) k ≡ waiting_in q k = r ∙ cond-false (k == e.cell) (Some (stay_of e)) (waiting_in q k) (ne_eqb k e.cell y) in
          ap (λ o. cond (k == x.cell) (Some (stay_of x)) o) s
          ∙ sym (cond-false (k == e.cell) (Some (stay_of e)) (waiting_in (x ∷ q) k) (ne_eqb k e.cell y)))
    ]

pub proper_with : (q : List Entry) (e : Entry) → proper q ≡ true → e.cell < 256 → e.port < 32 → waiting_in q e.cell ≡ None → proper (q ++ e ∷ []) ≡ true
proper_with [] e h c p n = fit e [] c p refl refl
proper_with (x ∷ q) e h c p n =
    let f = fits x q h in
    let later = none_later x q e.cell n in
    let other : x.cell ≡ e.cell → ⊥ = λ z. none_first x q e.cell n (sym z) in
    let new : waiting_in (q ++ e ∷ []) x.cell ≡ None =
    same_with q e later x.cell ∙ cond-false (x.cell == e.cell) (Some (stay_of e)) (waiting_in q x.cell) (ne_eqb x.cell e.cell other) ∙ f.new in
    fit x (q ++ e ∷ []) f.cell f.port new (proper_with q e f.rest c p later)

-- the entries of the other cells
without_this : (x : Entry) (q : List Entry) (c : ℕ) → x.cell ≡ c → without (x ∷ q) c ≡ without q c
without_this x q c h = cond-true (x.cell == c) (without q c) (x ∷ without q c) (eq-eqb x.cell c h)

without_other : (x : Entry) (q : List Entry) (c : ℕ) → (x.cell ≢ c) → without (x ∷ q) c ≡ x ∷ without q c
without_other x q c h = cond-false (x.cell == c) (without q c) (x ∷ without q c) (ne_eqb x.cell c h)

pub without_none : (q : List Entry) (c : ℕ) → waiting_in q c ≡ None → without q c ≡ q
without_none [] c h = refl
without_none (x ∷ q) c h =
    without_other x q c (λ z. none_first x q c h (sym z)) ∙ ap (λ r. x ∷ r) (without_none q c (none_later x q c h))

pub same_without : (q : List Entry) (c : ℕ) → Same (waiting_in (without q c)) (without_cell (waiting_in q) c)
same_without [] c k = elim (k == c) as (λ b. ◌≡◌ {A = Option Stay} None (cond b None None)) [ true ↦ refl | false ↦ refl ]
same_without (x ∷ q) c k =
    let r = same_without q c k in
    elim (cases_eq x.cell c) [
      | inl y ↦
          (ap (λ l. waiting_in l k) (without_this x q c y) ∙ r
          ∙ elim (cases_eq k c) [
            | inl z ↦
                cond-true (k == c) None (waiting_in q k) (eq-eqb k c z)
                ∙ sym (cond-true (k == c) None (waiting_in (x ∷ q) k) (eq-eqb k c z))
            | inr z ↦ ap (λ o. cond (k == c) None o) (sym (waits_later x q k (λ w. z (w ∙ y))))
          ])
      | inr y ↦
          (ap (λ l. waiting_in l k) (without_other x q c y)
          ∙ elim (cases_eq k x.cell) [
            | inl z ↦
                waits_first x (without q c) k z
                ∙ sym (cond-false (k == c) None (waiting_in (x ∷ q) k) (ne_eqb k c (λ w. y (sym z ∙ w))) ∙ waits_first x q k z)
            | inr z ↦ waits_later x (without q c) k z ∙ r ∙ ap (λ o. cond (k == c) None o) (sym (waits_later x q k z))
          ])
    ]

pub proper_without : (q : List Entry) (c : ℕ) → proper q ≡ true → proper (without q c) ≡ true
proper_without [] c h = refl
proper_without (x ∷ q) c h =
    let f = fits x q h in
    let r = proper_without q c f.rest in
    elim (cases_eq x.cell c) [
      | inl y ↦ ap proper (without_this x q c y) ∙ r
      | inr y ↦
          (let new : waiting_in (without q c) x.cell ≡ None =
          same_without q c x.cell ∙ cond-false (x.cell == c) None (waiting_in q x.cell) (ne_eqb x.cell c y) ∙ f.new in
          ap proper (without_other x q c y) ∙ fit x (without q c) f.cell f.port new r)
    ]

-- what is left once the entry at a place is taken out
pub removed_is : (q : List Entry) (i : ℕ) → proper q ≡ true → i < length q → remove q i ≡ without q (get_or q i no_entry).cell
removed_is [] i h l = absurd (omega arith)
removed_is (x ∷ q) zero h l =
    let f = fits x q h in sym (without_this x q x.cell refl ∙ without_none q x.cell f.new)
removed_is (x ∷ q) (suc i) h l =
    let f = fits x q h in
    let w = waits_at_place q i f.rest (omega arith) in
    let other : x.cell ≡ (get_or q i no_entry).cell → ⊥ = λ z. none_some (stay_of (slice_index_or q i no_entry)) (ap (waiting_in q) (sym z) ∙ f.new) w in
    ap (λ r. x ∷ r) (removed_is q i f.rest (omega arith)) ∙ sym (without_other x q (get_or q i no_entry).cell other)

pub at_port_removed : (q : List Entry) (i p : ℕ) → i < length q → at_port q p ≡ at_port (remove q i) p + at_port (slice_index_or q i no_entry ∷ []) p
at_port_removed [] i p l = absurd (omega arith)
at_port_removed (x ∷ q) zero p l =
    let r : at_port (remove (x ∷ q) 0) p ≡ at_port q p = refl in
    elim (cases_eq x.port p) [
      | inl y ↦
          (let m = cond-true (x.port == p) (suc (at_port q p)) (at_port q p) (eq-eqb x.port p y) in
          let n : at_port (x ∷ []) p ≡ 1 = at_port_one x p y in
          omega arith)
      | inr y ↦
          (let m = cond-false (x.port == p) (suc (at_port q p)) (at_port q p) (ne_eqb x.port p y) in
          let n : at_port (x ∷ []) p ≡ 0 = at_port_other x p y in
          omega arith)
    ]
at_port_removed (x ∷ q) (suc i) p l =
    let h = at_port_removed q i p (omega arith) in
    elim (cases_Bool (x.port == p)) [
      | inl y ↦
          (let m = cond-true (x.port == p) (suc (at_port q p)) (at_port q p) y in
          let n = cond-true (x.port == p) (suc (at_port (remove q i) p)) (at_port (remove q i) p) y in
          omega arith)
      | inr y ↦
          (let m = cond-false (x.port == p) (suc (at_port q p)) (at_port q p) y in
          let n = cond-false (x.port == p) (suc (at_port (remove q i) p)) (at_port (remove q i) p) y in
          omega arith)
    ]
