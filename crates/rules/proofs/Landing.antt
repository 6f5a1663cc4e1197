-- The cells that enter or land in a slot, one after another in ascending number.
use Rattle.std.proofs.Common.{◌≡◌, ℕ, zero, suc, ◌<◌, ◌≤◌, Bool, true, false, cond, leb, List, ℤ, Some, None, Option, sym, refl, ap, ◌∙◌, subst, inl, inr, arith}
use native.Mathlib.Decide.{dec_le}
use Rattle.std.proofs.ByRecursion.{all-has}
use Rattle.std.proofs.lemmas.Bool.{cases_eq, le-leb}
use Rattle.refusal.proofs.Options.{none_some}
use Rattle.discipline.specs.Meaning.{Waiting}
use Rattle.network.specs.Networks.{Network}
use Rattle.table.specs.Kinds.{flight_upto}
use Rattle.table.specs.Order.{first_from, LeastFrom}
use Rattle.table.specs.declared.flight.Flight.{Flight}
use Rattle.table.proofs.Laws.{first_from_least, has_first_from}
use Rattle.table.specs.Lexical.{flight_lawful}
use Rattle.table.proofs.Rising.{rising_sorted}
use Rattle.rules.specs.Coherence.{Inside, Flying, Ahead}
use Rattle.rules.specs.Moments.{Moment, pending}
use Rattle.rules.specs.Rules.{Arrives, Entered}
use Rattle.rules.specs.Rules.Entered.{start, passes, enters}
use Rattle.rules.specs.Landing.{from_slot, Landing}
use Rattle.rules.specs.declared.condition.Condition.{Condition}
use Rattle.rules.proofs.Flights.{flight_order, flying_less}

-- the mark of a slot is not after a flight of that slot
from_first : (t c : ℕ) → flight_upto (from_slot t) (record { slot = t; cell = c }) ≡ true
from_first t c = go (leb t t) (leb 0 c) (le-leb t t (omega arith)) (le-leb 0 c (omega arith))
  where
    go : (a b : Bool) → a ≡ true → b ≡ true → cond a (cond a b true) false ≡ true
    go true true p q = refl
    go true false p q = q
    go false b p q = p

module _ (N : Network) (f : ℕ → Condition) (fs : List Flight) (F : Flying N f fs) (t : ℕ) where
  least : LeastFrom flight_upto (from_slot t) fs (first_from flight_upto (from_slot t) fs)
  least = first_from_least flight_upto flight_lawful (from_slot t) fs (rising_sorted flight_upto flight_lawful fs F.rising)

  -- the first cell that lands
  pub lands_pending : (c : ℕ) → first_from flight_upto (from_slot t) fs ≡ Some (record { slot = t; cell = c })
      → (c < N.cells) × (pending N c (f c) ≡ Some t)
  lands_pending c e = all-has (λ x. (x.cell < N.cells) × (pending N x.cell (f x.cell) ≡ Some x.slot)) fs _ F.each (has_first_from flight_upto (from_slot t) fs _ e)

  -- has the lowest number
  pub lands_first : (c : ℕ) → first_from flight_upto (from_slot t) fs ≡ Some (record { slot = t; cell = c })
      → (j : ℕ) → j < N.cells → pending N j (f j) ≡ Some t → c ≤ j
  lands_first c e j l p =
      let L = subst (LeastFrom flight_upto (from_slot t) fs) e least in
      let o = all-has (λ y. flight_upto (from_slot t) y ≡ true → flight_upto (record { slot = t; cell = c }) y ≡ true) fs (record { slot = t; cell = j }) L.2 (F.all j t l p) (from_first t j) in
      (flight_order (record { slot = t; cell = c }) (record { slot = t; cell = j }) o).1 (omega arith)

  -- none lands
  pub lands_none : ((x : Flight) → first_from flight_upto (from_slot t) fs ≡ Some x → x.slot ≡ t → ⊥) → (j : ℕ) → j < N.cells → pending N j (f j) ≡ Some t → ⊥
  lands_none n j l p = go (first_from flight_upto (from_slot t) fs) refl least
    where
      go : (o : Option Flight) → first_from flight_upto (from_slot t) fs ≡ o → LeastFrom flight_upto (from_slot t) fs o → ⊥
      go None e L =
          let a = all-has (λ y. flight_upto (from_slot t) y ≡ false) fs (record { slot = t; cell = j }) L (F.all j t l p) in
          let z : ◌≡◌ {A = Bool} true false = sym (from_first t j) ∙ a in
          let y : ◌≡◌ {A = ℕ} 0 1 = cc in omega arith
      go (Some x) e L =
          let a = all-has (λ y. flight_upto (from_slot t) y ≡ true → flight_upto x y ≡ true) fs (record { slot = t; cell = j }) L.2 (F.all j t l p) (from_first t j) in
          let b = (flight_order x (record { slot = t; cell = j }) a).0 in
          let d = (flight_order (from_slot t) x L.1).0 in
          n x e (omega arith)

module _ (N : Network) (flow : ℕ → ℕ) (t : ℕ) {D : Type 0} (waiting : D → Waiting) (sound : D → Type 0)
    (arrives : D → ℕ → ℕ → ℕ → ℕ → ℤ → D → Type 0) (picks : D → ℕ → ℕ → ℕ → D → Type 0) where
  -- The cells below `past` have entered or landed if they do in slot t; m₀ was before, m is now.
  pub record Partly (m₀ m : Moment D) (fs : List Flight) : Type 0 where
    pub past : ℕ
    pub few : past ≤ N.cells
    pub entered : Entered N flow t waiting arrives picks past m₀ m
    pub inside : Inside N waiting sound t m
    pub flying : Flying N m.condition fs
    pub ahead : Ahead N t m.condition
    pub rest : (c : ℕ) → c < N.cells → pending N c (m.condition c) ≡ Some t → past ≤ c

  pub partly_start : (m : Moment D) (fs : List Flight) → Inside N waiting sound t m → Flying N m.condition fs → Ahead N t m.condition → Partly m m fs
  partly_start m fs I F A = record { past = 0; few = omega arith; entered = start; inside = I; flying = F; ahead = A; rest = λ c l p. omega arith }

  -- no cell from past up to c comes in slot t
  passed : (m₀ m : Moment D) (past c : ℕ) → past ≤ c → Entered N flow t waiting arrives picks past m₀ m
      → ((j : ℕ) → past ≤ j → j < c → pending N j (m.condition j) ≡ Some t → ⊥) → Entered N flow t waiting arrives picks c m₀ m
  passed m₀ m past zero l E n = let e : past ≡ 0 = omega arith in subst (λ k. Entered N flow t waiting arrives picks k m₀ m) e E
  passed m₀ m past (suc c) l E n = elim (dec_le past c) [
    | yes h ↦ passes (passed m₀ m past c h E (λ j a b. n j a (omega arith))) (n c h (omega arith))
    | no h ↦ (let e : past ≡ suc c = omega arith in subst (λ k. Entered N flow t waiting arrives picks k m₀ m) e E)
  ]

  module _ (m₀ m : Moment D) (fs gs : List Flight) (P : Partly m₀ m fs) where
    pub partly_more : (n : Moment D) (c : ℕ) → Landing t fs (Some c) gs → Arrives N flow t waiting arrives picks c m n → Inside N waiting sound t n → Partly m₀ n gs
    partly_more n c L A I =
        let was = lands_pending N m.condition fs P.flying t c L.0 in
        let first = lands_first N m.condition fs P.flying t c L.0 in
        let now : pending N c (n.condition c) ≡ None = ap (pending N c) A.waits in
        let other : (j s : ℕ) → pending N j (n.condition j) ≡ Some s → (j ≡ c → ⊥) × (pending N j (m.condition j) ≡ Some s) = λ j s p. elim (cases_eq j c) [
          | inl q ↦ absurd (none_some s (ap (λ k. pending N k (n.condition k)) q ∙ now) p)
          | inr q ↦ (q, ap (pending N j) (sym (A.others j q)) ∙ p)
        ] in
        record {
          past = suc c;
          few = was.0;
          entered = enters (passed m₀ m P.past c (P.rest c was.0 was.1) P.entered
              (λ j a b p. let d = first j (let e = was.0 in omega arith) p in omega arith)) was.1 A;
          inside = I;
          flying = subst (Flying N n.condition) (sym L.1) (flying_less N m.condition n.condition fs P.flying c was.0 A.others (from_slot t) t L.0 was.1 now);
          ahead = λ j s l p. P.ahead j s l (other j s p).1;
          rest = λ j l p. let o = other j t p in let d = first j l o.1 in let e = o.0 in elim (cases_eq j c) [ inl q ↦ absurd (e q) | inr q ↦ omega arith ];
        }

    pub partly_end : Landing t fs None gs → Entered N flow t waiting arrives picks N.cells m₀ m × Inside N waiting sound t m × Flying N m.condition gs × Ahead N (suc t) m.condition
    partly_end L =
        let none = lands_none N m.condition fs P.flying t L.0 in (
          passed m₀ m P.past N.cells P.few P.entered (λ j a b p. none j b p),
          P.inside,
          subst (Flying N m.condition) (sym L.1) P.flying,
          λ j s l p. let a = P.ahead j s l p in elim (cases_eq s t) [
            | inl q ↦ absurd (none j l (p ∙ ap Some q))
            | inr q ↦ omega arith
          ],
        )
