-- How many numbers pass a test, and how many cells wait at a port.
use Rattle.std.proofs.Common.{◌≡◌, ℕ, zero, suc, ◌+◌, ◌<◌, ◌≤◌, Bool, true, false, cond, ◌⊎◌, Some, None, Option, sym, refl, ap, ◌∙◌, inl, inr, arith}
use Rattle.std.proofs.lemmas.Bool.{cases_eq, cases_Bool, eq-eqb, ne_eqb, false≢true}
use Rattle.discipline.specs.Meaning.{Waiting, stays_at, waits_at, At, passing, count_at, Limits, Same, with_cell, without_cell, Empty}
use Rattle.discipline.specs.declared.stay.Stay.{Stay}

-- one number more
pub passing_yes : (n : ℕ) (f : ℕ → Bool) → f n ≡ true → passing (suc n) f ≡ suc (passing n f)
unfolding passing
passing_yes n f h = ap (λ b. cond b (suc (passing n f)) (passing n f)) h

pub passing_no : (n : ℕ) (f : ℕ → Bool) → f n ≡ false → passing (suc n) f ≡ passing n f
unfolding passing
passing_no n f h = ap (λ b. cond b (suc (passing n f)) (passing n f)) h

-- tests that agree
pub passing_same : (n : ℕ) (f g : ℕ → Bool) → ((k : ℕ) → k < n → f k ≡ g k) → passing n f ≡ passing n g
unfolding passing
passing_same zero f g h = refl
passing_same (suc n) f g h =
    ap (λ b. cond b (suc (passing n f)) (passing n f)) (h n (omega arith))
    ∙ ap (λ m. cond (g n) (suc m) m) (passing_same n f g (λ k l. h k (omega arith)))

pub passing_few : (n : ℕ) (f : ℕ → Bool) → passing n f ≤ n
unfolding passing
passing_few zero f = omega arith
passing_few (suc n) f =
    let h = passing_few n f in
    elim (cases_Bool (f n)) [ inl y ↦ (let e = passing_yes n f y in omega arith) | inr y ↦ (let e = passing_no n f y in omega arith) ]

-- none passes, or one does
pub passing_none : (n : ℕ) (f : ℕ → Bool) → passing n f ≡ 0 → (k : ℕ) → k < n → f k ≡ false
unfolding passing
passing_none zero f h k l = absurd (omega arith)
passing_none (suc n) f h k l =
    elim (cases_Bool (f n)) [
      | inl y ↦ (let e = passing_yes n f y in absurd (omega arith))
      | inr y ↦
          (let e = passing_no n f y in
          let h' : passing n f ≡ 0 = omega arith in
          elim (cases_eq k n) [ inl q ↦ ap f q ∙ y | inr q ↦ passing_none n f h' k (omega arith) ])
    ]

pub passing_some : (n : ℕ) (f : ℕ → Bool) (k : ℕ) → k < n → f k ≡ true → 0 < passing n f
passing_some n f k l y =
    elim (cases_eq (passing n f) 0) [
      | inl z ↦ absurd (false≢true (sym (passing_none n f z k l) ∙ y))
      | inr z ↦ omega arith
    ]

pub passing_find : (n : ℕ) (f : ℕ → Bool) → 0 < passing n f → (k : ℕ) × (k < n) × (f k ≡ true)
unfolding passing
passing_find zero f h = absurd (omega arith)
passing_find (suc n) f h =
    elim (cases_Bool (f n)) [
      | inl y ↦ (n, omega arith, y)
      | inr y ↦
          (let e = passing_no n f y in
          let r = passing_find n f (omega arith) in
          (r.0, (let b = r.1 in omega arith), r.2))
    ]

-- none of the numbers passes
pub passing_zero : (n : ℕ) (f : ℕ → Bool) → ((k : ℕ) → k < n → f k ≡ false) → passing n f ≡ 0
passing_zero n f h =
    elim (cases_eq (passing n f) 0) [
      | inl z ↦ z
      | inr z ↦ (let r = passing_find n f (omega arith) in absurd (false≢true (sym (h r.0 r.1) ∙ r.2)))
    ]

-- where as many pass as there are, all pass
pub passing_all : (n : ℕ) (f : ℕ → Bool) → n ≤ passing n f → (k : ℕ) → k < n → f k ≡ true
passing_all zero f h k l = absurd (omega arith)
passing_all (suc n) f h k l =
    let few = passing_few n f in
    elim (cases_Bool (f n)) [
      | inl y ↦
          (let e = passing_yes n f y in
          elim (cases_eq k n) [ inl q ↦ ap f q ∙ y | inr q ↦ passing_all n f (omega arith) k (omega arith) ])
      | inr y ↦ (let e = passing_no n f y in absurd (omega arith))
    ]

pub all_passing : (n : ℕ) (f : ℕ → Bool) → ((k : ℕ) → k < n → f k ≡ true) → passing n f ≡ n
unfolding passing
all_passing zero f h = refl
all_passing (suc n) f h = passing_yes n f (h n (omega arith)) ∙ ap suc (all_passing n f (λ k l. h k (omega arith)))

-- numbers that pass one of two tests, and none both
pub passing_either : (n : ℕ) (f g h : ℕ → Bool) → ((k : ℕ) → ((f k ≡ false) × (h k ≡ g k)) ⊎ ((g k ≡ false) × (h k ≡ f k))) → passing n h ≡ passing n f + passing n g
unfolding passing
passing_either zero f g h s = refl
passing_either (suc n) f g h s =
    let r = passing_either n f g h s in
    elim (s n) [
      | inl x ↦
          (let a = passing_no n f x.0 in
          elim (cases_Bool (g n)) [
            | inl y ↦ (let b = passing_yes n g y in let d = passing_yes n h (x.1 ∙ y) in omega arith)
            | inr y ↦ (let b = passing_no n g y in let d = passing_no n h (x.1 ∙ y) in omega arith)
          ])
      | inr x ↦
          (let a = passing_no n g x.0 in
          elim (cases_Bool (f n)) [
            | inl y ↦ (let b = passing_yes n f y in let d = passing_yes n h (x.1 ∙ y) in omega arith)
            | inr y ↦ (let b = passing_no n f y in let d = passing_no n h (x.1 ∙ y) in omega arith)
          ])
    ]

-- one number passes besides those that did
pub passing_more : (n : ℕ) (f g : ℕ → Bool) (c : ℕ) → c < n → f c ≡ false → g c ≡ true → ((k : ℕ) → (k ≡ c → ⊥) → g k ≡ f k) → passing n g ≡ passing n f + 1
unfolding passing
passing_more zero f g c l a b h = absurd (omega arith)
passing_more (suc n) f g c l a b h =
    elim (cases_eq c n) [
      | inl q ↦
          (let fn : f n ≡ false = ap f (sym q) ∙ a in
          let gn : g n ≡ true = ap g (sym q) ∙ b in
          let x = passing_yes n g gn in
          let y = passing_no n f fn in
          let z = passing_same n g f (λ k m. h k (λ e. omega arith)) in
          omega arith)
      | inr q ↦
          (let r = passing_more n f g c (omega arith) a b h in
          let s = h n (λ e. q (sym e)) in
          elim (cases_Bool (f n)) [
            | inl y ↦ (let x = passing_yes n f y in let z = passing_yes n g (s ∙ y) in omega arith)
            | inr y ↦ (let x = passing_no n f y in let z = passing_no n g (s ∙ y) in omega arith)
          ])
    ]

-- the same cells wait
pub count_same : (v w : Waiting) (p : ℕ) → Same v w → count_at v p ≡ count_at w p
count_same v w p h = passing_same 256 (waits_at v p) (waits_at w p) (λ k l. ap (stays_at p) (h k))

-- a cell more, and a cell less, at its own number and at the others
pub with_at : (w : Waiting) (c : ℕ) (s : Stay) (k : ℕ) → k ≡ c → with_cell w c s k ≡ Some s
with_at w c s k q = ap (λ b. cond b (Some s) (w k)) (eq-eqb k c q)

pub with_off : (w : Waiting) (c : ℕ) (s : Stay) (k : ℕ) → (k ≡ c → ⊥) → with_cell w c s k ≡ w k
with_off w c s k n = ap (λ b. cond b (Some s) (w k)) (ne_eqb k c n)

pub without_at : (w : Waiting) (c k : ℕ) → k ≡ c → without_cell w c k ≡ None
without_at w c k q = ap (λ b. cond b None (w k)) (eq-eqb k c q)

pub without_off : (w : Waiting) (c k : ℕ) → (k ≡ c → ⊥) → without_cell w c k ≡ w k
without_off w c k n = ap (λ b. cond b None (w k)) (ne_eqb k c n)

-- a cell more at its port, and none more elsewhere
pub count_with : (w : Waiting) (c : ℕ) (s : Stay) (p : ℕ) → c < 256 → w c ≡ None → s.port ≡ p → count_at (with_cell w c s) p ≡ count_at w p + 1
count_with w c s p l a e =
    passing_more 256 (waits_at w p) (waits_at (with_cell w c s) p) c l (ap (stays_at p) a)
    (ap (stays_at p) (with_at w c s c refl) ∙ eq-eqb s.port p e) (λ k n. ap (stays_at p) (with_off w c s k n))

pub count_with_other : (w : Waiting) (c : ℕ) (s : Stay) (p : ℕ) → w c ≡ None → (s.port ≡ p → ⊥) → count_at (with_cell w c s) p ≡ count_at w p
count_with_other w c s p a n =
    passing_same 256 (waits_at (with_cell w c s) p) (waits_at w p)
    (λ k l. elim (cases_eq k c) [
      | inl q ↦ ap (stays_at p) (with_at w c s k q) ∙ ne_eqb s.port p n ∙ sym (ap (stays_at p) (ap w q ∙ a))
      | inr q ↦ ap (stays_at p) (with_off w c s k q)
    ])

-- a cell less at its port, and none less elsewhere
pub count_without : (w : Waiting) (c p : ℕ) → c < 256 → At w p c → count_at w p ≡ count_at (without_cell w c) p + 1
count_without w c p l a =
    passing_more 256 (waits_at (without_cell w c) p) (waits_at w p) c l (ap (stays_at p) (without_at w c c refl)) a
    (λ k n. sym (ap (stays_at p) (without_off w c k n)))

pub count_without_other : (w : Waiting) (c p : ℕ) → waits_at w p c ≡ false → count_at (without_cell w c) p ≡ count_at w p
count_without_other w c p a =
    passing_same 256 (waits_at (without_cell w c) p) (waits_at w p)
    (λ k l. elim (cases_eq k c) [
      | inl q ↦ ap (stays_at p) (without_at w c k q) ∙ sym (ap (waits_at w p) q ∙ a)
      | inr q ↦ ap (stays_at p) (without_off w c k q)
    ])

-- no cell waits where every port is empty
pub empty_ports : (w : Waiting) → Limits w → ((p : ℕ) → p < 32 → count_at w p ≡ 0) → Empty w
empty_ports w limits h c = go (w c) refl
  where
    go : (o : Option Stay) → w c ≡ o → o ≡ None
    go None e = refl
    go (Some s) e =
        let b = limits c s e in
        let yes-at : waits_at w s.port c ≡ true = ap (stays_at s.port) e ∙ eq-eqb s.port s.port refl in
        absurd (false≢true (sym (passing_none 256 (waits_at w s.port) (h s.port (let x = b.1 in omega arith)) c (let x = b.0 in omega arith)) ∙ yes-at))

pub empty_count : (w : Waiting) (p : ℕ) → Empty w → count_at w p ≡ 0
empty_count w p h = passing_zero 256 (waits_at w p) (λ k l. ap (stays_at p) (h k))
