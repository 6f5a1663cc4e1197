-- Searches among entries: what stands at the place that was found, or what is missing.
use Rattle.std.proofs.Common.{◌≡◌, ℕ, zero, suc, ◌+◌, List, [], ◌∷◌, drop, eqb, Some, None, Option, MatchOption, refl, sym, ◌∙◌, subst, arith}
use Rattle.std.proofs.lemmas.List.{get_or-drop, length-drop}
use Rattle.std.proofs.lemmas.Bool.{eq-eqb, ne_eqb, cond-true, cond-false}
use Rattle.queues.specs.Entries.{no_entry, waiting_in, at_port, first_at, last_at, HasNo, IsFirstAt, IsLastAt, Stands, StandsAt}
use Rattle.queues.specs.declared.entry.Entry.{Entry}
use Rattle.queues.specs.Queued.{waits_later}
use Rattle.queues.specs.Chosen.{last_is}

-- a cell that has no entry, and a port at which no entry is
pub none_waits_here : (q : List Entry) (c : ℕ) → HasNo (λ e. e.cell ≡ c) q → waiting_in q c ≡ None
none_waits_here [] c h = refl
none_waits_here (e ∷ q) c h =
    waits_later e q c (λ x. h 0 (omega arith) (sym x)) ∙ none_waits_here q c (λ k l. h (suc k) (omega arith))

pub none_at_port : (q : List Entry) (p : ℕ) → HasNo (λ e. e.port ≡ p) q → at_port q p ≡ 0
none_at_port [] p h = refl
none_at_port (e ∷ q) p h =
    cond-false (eqb e.port p) (suc (at_port q p)) (at_port q p) (ne_eqb e.port p (h 0 (omega arith)))
    ∙ none_at_port q p (λ k l. h (suc k) (omega arith))

pub first_stands_at : (q : List Entry) (p i : ℕ) → IsFirstAt q p i → StandsAt q p (first_at q p) i
first_stands_at [] p i h = let l = h.0 in absurd (omega arith)
first_stands_at (e ∷ q) p zero h = (h.0, sym (cond-true (eqb e.port p) e.cell (first_at q p) (eq-eqb e.port p h.1)), h.1)
first_stands_at (e ∷ q) p (suc i) h =
    let l = h.0 in
    let r = first_stands_at q p i (omega arith, h.1, λ k m. h.2 (suc k) (omega arith)) in
    (h.0, r.1 ∙ sym (cond-false (eqb e.port p) e.cell (first_at q p) (ne_eqb e.port p (h.2 0 (omega arith)))), r.2)

pub last_stands_at : (q : List Entry) (p i : ℕ) → IsLastAt q p i → StandsAt q p (last_at q p) i
last_stands_at q p i h =
    let l = h.0 in
    let past : at_port (drop (suc i) q) p ≡ 0 =
    none_at_port (drop (suc i) q) p
    (λ k m x.
    let long = length-drop (suc i) q in
    h.2 (suc i + k) (omega arith) (omega arith) (subst (λ e. e.port ≡ p) (get_or-drop (suc i) q k no_entry) x)) in
    (h.0, sym (last_is q p i h.0 h.1 past), h.1)

-- what the searches answer
module _ (q : List Entry) where
  pub cell_found : (c : ℕ) (r : Option ℕ) → MatchOption r (HasNo (λ e. e.cell ≡ c) q) (Stands q c) → MatchOption r (waiting_in q c ≡ None) (Stands q c)
  cell_found c None h = none_waits_here q c h
  cell_found c (Some i) h = h

  pub first_found : (p : ℕ) (r : Option ℕ) → MatchOption r (HasNo (λ e. e.port ≡ p) q) (IsFirstAt q p) → MatchOption r (at_port q p ≡ 0) (StandsAt q p (first_at q p))
  first_found p None h = none_at_port q p h
  first_found p (Some i) h = first_stands_at q p i h

  pub last_found : (p : ℕ) (r : Option ℕ) → MatchOption r (HasNo (λ e. e.port ≡ p) q) (IsLastAt q p) → MatchOption r (at_port q p ≡ 0) (StandsAt q p (last_at q p))
  last_found p None h = none_at_port q p h
  last_found p (Some i) h = last_stands_at q p i h
