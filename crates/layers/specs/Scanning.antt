-- What a scan over the cells of a port finds.
use Rattle.std.proofs.Common.{◌≡◌, ℕ, zero, suc, ◌+◌, ◌-◌, ◌<◌, true, false, cond, ltb, leb, List, get_or, Some, None, Option, sym, refl, ap, ◌∙◌, subst, inl, inr, add-one, arith}
use Rattle.std.proofs.lemmas.Bool.{cases_eq, cases_Bool, cases_lt, lt-ltb, le-ltb, and_parts}
use Rattle.discipline.specs.Meaning.{Waiting, waits_at, At, Limits, Lawful}
use Rattle.discipline.proofs.Stays.{at_limit}
use Rattle.layers.specs.Ages.{slot_of, old, Old, Earlier, Oldest, earlier_of, oldest_below, aged_choice, Noted}
use Rattle.layers.specs.Noting.{noted_slot}

-- the scan of the cells below n has found none, or the oldest of them
abbrev pub Found : Waiting → ℕ → ℕ → ℕ → ℕ → Option ℕ → Type 0
Found w a p t n None = (c : ℕ) → c < n → Old w a p t c → ⊥
Found w a p t n (Some x) = (x < n) × Old w a p t x × ((c : ℕ) → c < n → Old w a p t c → Earlier w x c)

-- an old cell waits at the port
pub old_at : (w : Waiting) (a p t c : ℕ) → Old w a p t c → At w p c
old_at w a p t c h = (and_parts (waits_at w p c) (leb a (t - slot_of (w c))) h).0

module _ (w : Waiting) (a p t : ℕ) where
  -- a cell that is old
  found_old : (n : ℕ) (o : Option ℕ) → Old w a p t n → Found w a p t n o → Found w a p t (suc n) (earlier_of (λ c. slot_of (w c)) o n)
  found_old n None y f = (
    omega arith,
    y,
    λ c l h. elim (cases_eq c n) [
      | inl q ↦ inr (ap (λ k. slot_of (w k)) (sym q), omega arith)
      | inr q ↦ absurd (f c (omega arith) h)
    ],
  )
  found_old n (Some x) y f =
      let P : Option ℕ → Type 0 = Found w a p t (suc n) in
      let b = f.0 in
      elim (cases_lt (slot_of (w n)) (slot_of (w x))) [
        | inl l ↦
            subst P (sym (ap (λ q. cond q (Some n) (Some x)) (lt-ltb (slot_of (w n)) (slot_of (w x)) l))) (
              omega arith,
              y,
              λ c m h. elim (cases_eq c n) [
                | inl q ↦ inr (ap (λ k. slot_of (w k)) (sym q), omega arith)
                | inr q ↦ elim (f.2 c (omega arith) h) [ inl r ↦ inl (omega arith) | inr r ↦ inl (let s = r.0 in omega arith) ]
              ],
            )
        | inr l ↦
            subst P (sym (ap (λ q. cond q (Some n) (Some x)) (le-ltb (slot_of (w n)) (slot_of (w x)) l))) (
              omega arith,
              f.1,
              λ c m h. elim (cases_eq c n) [
                | inl q ↦
                    (let s = ap (λ k. slot_of (w k)) q in
                    elim (cases_lt (slot_of (w x)) (slot_of (w n))) [ inl r ↦ inl (omega arith) | inr r ↦ inr (omega arith, omega arith) ])
                | inr q ↦ f.2 c (omega arith) h
              ],
            )
      ]

  -- a cell that is not
  found_young : (n : ℕ) (o : Option ℕ) → old w a p t n ≡ false → Found w a p t n o → Found w a p t (suc n) o
  found_young n None y f =
      λ c l h. elim (cases_eq c n) [
        | inl q ↦ (let z : true ≡ false = sym h ∙ ap (old w a p t) q ∙ y in let k : ◌≡◌ {A = ℕ} 0 1 = cc in omega arith)
        | inr q ↦ f c (omega arith) h
      ]
  found_young n (Some x) y f =
      let b = f.0 in (
        omega arith,
        f.1,
        λ c l h. elim (cases_eq c n) [
          | inl q ↦ (let z : true ≡ false = sym h ∙ ap (old w a p t) q ∙ y in let k : ◌≡◌ {A = ℕ} 0 1 = cc in absurd (omega arith))
          | inr q ↦ f.2 c (omega arith) h
        ],
      )

  pub found : (n : ℕ) → Found w a p t n (oldest_below w a p t n)
  unfolding oldest_below
  found zero = λ c l h. omega arith
  found (suc n) =
      let P : Option ℕ → Type 0 = Found w a p t (suc n) in
      let o = oldest_below w a p t n in
      elim (cases_Bool (old w a p t n)) [
        | inl y ↦ subst P (sym (ap (λ b. cond b (earlier_of (λ c. slot_of (w c)) o n) o) y)) (found_old n o y (found n))
        | inr y ↦ subst P (sym (ap (λ b. cond b (earlier_of (λ c. slot_of (w c)) o n) o) y)) (found_young n o y (found n))
      ]

  -- one turn of the scan
  pub scan_none : oldest_below w a p t 0 ≡ None
  unfolding oldest_below
  scan_none = refl

  pub scan_old : (n : ℕ) → Old w a p t n → oldest_below w a p t (n + 1) ≡ earlier_of (λ c. slot_of (w c)) (oldest_below w a p t n) n
  unfolding oldest_below
  scan_old n y =
      rw add-one (ap (λ b. cond b (earlier_of (λ c. slot_of (w c)) (oldest_below w a p t n) n) (oldest_below w a p t n)) y)

  pub scan_young : (n : ℕ) → old w a p t n ≡ false → oldest_below w a p t (n + 1) ≡ oldest_below w a p t n
  unfolding oldest_below
  scan_young n y =
      rw add-one (ap (λ b. cond b (earlier_of (λ c. slot_of (w c)) (oldest_below w a p t n) n) (oldest_below w a p t n)) y)

  -- a turn that compares by the table
  pub scan_noted : (slots : List ℕ) (n : ℕ) (o r : Option ℕ) → Noted slots w → Old w a p t n → o ≡ oldest_below w a p t n → r ≡ earlier_of (λ c. get_or slots c 0) o n → r ≡ oldest_below w a p t (n + 1)
  scan_noted slots n o r noted y e q =
      let P : Option ℕ → Type 0 = Found w a p t n in
      q ∙ same o (subst P (sym e) (found n)) ∙ ap (λ x. earlier_of (λ c. slot_of (w c)) x n) e ∙ sym (scan_old n y)
    where
      slot : (c : ℕ) → Old w a p t c → get_or slots c 0 ≡ slot_of (w c)
      slot c h = noted_slot slots w p c noted (old_at w a p t c h)

      same : (x : Option ℕ) → Found w a p t n x → earlier_of (λ c. get_or slots c 0) x n ≡ earlier_of (λ c. slot_of (w c)) x n
      same None f = refl
      same (Some x) f =
          ap (λ m. cond (ltb m (get_or slots x 0)) (Some n) (Some x)) (slot n y) ∙ ap (λ m. cond (ltb (slot_of (w n)) m) (Some n) (Some x)) (slot x f.1)

  -- two that are oldest are one
  pub oldest_one : (x y : ℕ) → Oldest w a p t x → Oldest w a p t y → x ≡ y
  oldest_one x y f g =
      elim (f.1 y g.0) [
        | inl h ↦ elim (g.1 x f.0) [ inl k ↦ absurd (omega arith) | inr k ↦ (let s = k.0 in absurd (omega arith)) ]
        | inr h ↦
            (let s = h.0 in
            let l = h.1 in
            elim (g.1 x f.0) [ inl k ↦ absurd (omega arith) | inr k ↦ (let m = k.1 in omega arith) ])
      ]

  -- the scan of all cells, by what it finds
  pub whole_none : Limits w → oldest_below w a p t 256 ≡ None → (c : ℕ) → Old w a p t c → ⊥
  whole_none limits e c h =
      let P : Option ℕ → Type 0 = Found w a p t 256 in
      subst P e (found 256) c (at_limit w limits p c (old_at w a p t c h)) h

  pub whole_some : Limits w → (x : ℕ) → oldest_below w a p t 256 ≡ Some x → Oldest w a p t x
  whole_some limits x e =
      let P : Option ℕ → Type 0 = Found w a p t 256 in
      let f = subst P e (found 256) in
      (f.1, λ c h. f.2 c (at_limit w limits p c (old_at w a p t c h)) h)

  -- the choice is the oldest cell, or that of the discipline below
  pub choice_oldest : Limits w → (x c : ℕ) → Oldest w a p t c → c ≡ aged_choice (oldest_below w a p t 256) x
  choice_oldest limits x c h = go (oldest_below w a p t 256) refl
    where
      go : (o : Option ℕ) → oldest_below w a p t 256 ≡ o → c ≡ aged_choice o x
      go None e = absurd (whole_none limits e c h.0)
      go (Some y) e = oldest_one c y h (whole_some limits y e)

  pub lawful_aged : Limits w → (x : ℕ) → Lawful w p x → Lawful w p (aged_choice (oldest_below w a p t 256) x)
  lawful_aged limits x lawful c h = go (oldest_below w a p t 256) refl
    where
      go : (o : Option ℕ) → oldest_below w a p t 256 ≡ o → At w p (aged_choice o x)
      go None e = lawful c h
      go (Some y) e = old_at w a p t y (whole_some limits y e).0
