-- The flights after a cell has landed, and after one more has left.
use Rattle.std.proofs.Common.{◌≡◌, ℕ, ◌<◌, ◌≤◌, Bool, true, ◌||◌, eqb, leb, List, length, is_some, Some, None, sym, refl, ap, ◌∙◌, subst, inl, inr, arith}
use Rattle.std.proofs.Math.Bool.{or-false}
use Rattle.std.specs.List.{ContainsAt}
use Rattle.std.proofs.ByRecursion.{All-weaker}
use Rattle.std.proofs.lemmas.Bool.{cases_eq, leb-true, le-leb, eq-eqb, ne_eqb, or_right}
use Rattle.refusal.proofs.Options.{none_some, some_one}
use Rattle.discipline.proofs.Counting.{passing_more, passing_same, passing_few}
use Rattle.network.specs.Networks.{Network}
use Rattle.table.specs.Kinds.{flight_upto}
use Rattle.table.specs.Order.{put_in, first_from, taken_from}
use Rattle.table.specs.declared.flight.Flight.{Flight}
use Rattle.table.proofs.Laws.{reflexive, length_put_in, has_put_in, has_put_in_old, all_put_in, length_taken_from, has_taken_from_cases, all_taken_from}
use Rattle.table.specs.Lexical.{then_first, then_second, flight_lawful}
use Rattle.table.proofs.Rising.{all_both, rising_put_in, rising_taken, taken_once}
use Rattle.rules.specs.Coherence.{Flying}
use Rattle.rules.specs.Moments.{pending}
use Rattle.rules.specs.Rules.{But}
use Rattle.rules.specs.declared.condition.Condition.{Condition}

-- a flight that is not after another is not later, and of the same slot it has no higher number
pub flight_order : (x y : Flight) → flight_upto x y ≡ true → (x.slot ≤ y.slot) × (y.slot ≤ x.slot → x.cell ≤ y.cell)
flight_order x y h = (
  leb-true x.slot y.slot (then_first (leb x.slot y.slot) (leb y.slot x.slot) (leb x.cell y.cell) h),
  λ l. leb-true x.cell y.cell (then_second (leb x.slot y.slot) (leb y.slot x.slot) (leb x.cell y.cell) h (le-leb y.slot x.slot l)),
)

-- two flights, neither after the other, are one
flight_same : (x y : Flight) → flight_upto x y ≡ true → flight_upto y x ≡ true → x ≡ y
flight_same x y h k =
    let a = flight_order x y h in
    let b = flight_order y x k in
    let s : x.slot ≡ y.slot = (let p = a.0 in let q = b.0 in omega arith) in
    let c : x.cell ≡ y.cell = (let p = a.1 (omega arith) in let q = b.1 (omega arith) in omega arith) in
    λ i. record { slot = s i; cell = c i }

module _ (N : Network) (f g : ℕ → Condition) (fs : List Flight) (F : Flying N f fs) (c : ℕ) (l : c < N.cells) (but : But f g c) where
  abbrev Flies : (ℕ → Condition) → Flight → Type 0
  Flies k x = (x.cell < N.cells) × (pending N x.cell (k x.cell) ≡ Some x.slot)

  abbrev flies : (ℕ → Condition) → ℕ → Bool
  flies k j = is_some (pending N j (k j))

  other : (j s : ℕ) → (j ≡ c → ⊥) → pending N j (f j) ≡ Some s → pending N j (g j) ≡ Some s
  other j s n h = ap (pending N j) (but j n) ∙ h

  back : (j s : ℕ) → (j ≡ c → ⊥) → pending N j (g j) ≡ Some s → pending N j (f j) ≡ Some s
  back j s n h = ap (pending N j) (sym (but j n)) ∙ h

  -- cell c has landed, and its flight is taken out
  pub flying_less : (m : Flight) (t : ℕ) → first_from flight_upto m fs ≡ Some (record { slot = t; cell = c }) → pending N c (f c) ≡ Some t
      → pending N c (g c) ≡ None → Flying N g (taken_from flight_upto m fs)
  flying_less m t first was now =
      let x : Flight = record { slot = t; cell = c } in
      let left = taken_once flight_upto flight_lawful m x fs F.rising first in
      let apart : (y : Flight) → (Flies f y) × (flight_upto y x ≡ true → flight_upto x y ≡ true → ⊥) → Flies g y = λ y h.
      let ne : y.cell ≡ c → ⊥ = λ e.
      let s : y.slot ≡ t = some_one y.slot t h.0.1 (ap (λ j. pending N j (f j)) e ∙ was) in
      let same : y ≡ x = (λ i. record { slot = s i; cell = e i }) in
      let r = reflexive flight_upto flight_lawful x in
      h.1 (subst (λ z. flight_upto z x ≡ true) (sym same) r) (subst (λ z. flight_upto x z ≡ true) (sym same) r) in
      (h.0.0, other y.cell y.slot ne h.0.1) in
      record {
        rising = rising_taken flight_upto flight_lawful m fs F.rising;
        each = All-weaker _ (Flies g) apart (taken_from flight_upto m fs)
            (all_both (Flies f) (λ y. flight_upto y x ≡ true → flight_upto x y ≡ true → ⊥) (taken_from flight_upto m fs) (all_taken_from flight_upto m (Flies f) fs F.each) left);
        all = λ j s lj h. elim (cases_eq j c) [
          | inl e ↦ absurd (none_some s (ap (λ k. pending N k (g k)) e ∙ now) h)
          | inr n ↦ (elim (has_taken_from_cases flight_upto m fs x (record { slot = s; cell = j }) first (F.all j s lj (back j s n h))) [
            | inl e ↦ absurd (n (ap (λ y. y.cell) e))
            | inr k ↦ k
          ])
        ];
        size = (
            let a = length_taken_from flight_upto m fs x first in
            let b = F.size in
            let d = passing_more N.cells (flies g) (flies f) c l (ap is_some now) (ap is_some was) (λ j n. ap (λ k. is_some (pending N j k)) (sym (but j n))) in
            omega arith);
      }

  module _ (was : pending N c (f c) ≡ None) where
    apart : (y : Flight) → Flies f y → y.cell ≡ c → ⊥
    apart y h e = none_some y.slot (ap (λ j. pending N j (f j)) e ∙ was) h.1

    kept : (y : Flight) → Flies f y → Flies g y
    kept y h = (h.0, other y.cell y.slot (apart y h) h.1)

    -- there is room for one more
    pub flying_room : length fs < N.cells
    flying_room =
        let a = passing_few N.cells (λ j. flies f j || eqb j c) in
        let b = passing_more N.cells (flies f) (λ j. flies f j || eqb j c) c l (ap is_some was)
        (or_right _ _ (eq-eqb c c refl))
        (λ j n. ap (λ b. flies f j || b) (ne_eqb j c n) ∙ or-false (flies f j)) in
        let d = F.size in
        omega arith

    -- cell c has left, and lands in slot u
    pub flying_more : (u : ℕ) → pending N c (g c) ≡ Some u → Flying N g (put_in flight_upto (record { slot = u; cell = c }) fs)
    flying_more u now =
        let x : Flight = record { slot = u; cell = c } in
        record {
          rising = rising_put_in flight_upto flight_lawful x fs
              (All-weaker (Flies f) (λ y. flight_upto y x ≡ true → flight_upto x y ≡ true → ⊥) (λ y h a b. apart y h (ap (λ z. z.cell) (flight_same y x a b))) fs F.each)
              F.rising;
          each = all_put_in flight_upto x (Flies g) fs (l, now) (All-weaker (Flies f) (Flies g) kept fs F.each);
          all = λ j s lj h. elim (cases_eq j c) [
            | inl e ↦ (
                let same : s ≡ u = some_one s u h (ap (λ k. pending N k (g k)) e ∙ now) in
                subst (ContainsAt (put_in flight_upto x fs)) (λ i. record { slot = sym same i; cell = sym e i }) (has_put_in flight_upto x fs))
            | inr n ↦ has_put_in_old flight_upto x fs (record { slot = s; cell = j }) (F.all j s lj (back j s n h))
          ];
          size = (
              let a = length_put_in flight_upto x fs in
              let b = F.size in
              let d = passing_more N.cells (flies f) (flies g) c l (ap is_some was) (ap is_some now) (λ j n. ap (λ k. is_some (pending N j k)) (but j n)) in
              omega arith);
        }

    -- cell c has left for good
    pub flying_out : pending N c (g c) ≡ None → Flying N g fs
    flying_out now = record {
      rising = F.rising;
      each = All-weaker (Flies f) (Flies g) kept fs F.each;
      all = λ j s lj h. elim (cases_eq j c) [
        | inl e ↦ absurd (none_some s (ap (λ k. pending N k (g k)) e ∙ now) h)
        | inr n ↦ F.all j s lj (back j s n h)
      ];
      size = F.size ∙ passing_same N.cells (flies f) (flies g) (λ j lj. elim (cases_eq j c) [
        | inl e ↦ ap (λ k. is_some (pending N k (f k))) e ∙ ap is_some was ∙ sym (ap is_some now) ∙ ap (λ k. is_some (pending N k (g k))) (sym e)
        | inr n ↦ ap (λ k. is_some (pending N j k)) (sym (but j n))
      ]);
    }
