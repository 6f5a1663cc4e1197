-- The first and the last entry at a port.
use Rattle.std.specs.Prelude.{◌≡◌, ℕ, zero, suc, ◌<◌, true, List, [], ◌∷◌, length, drop, ◌==◌, ◌≢◌, nat_eq, slice_index_or}
use Rattle.std.proofs.Common.{sym, ap, ◌∙◌, inl, inr, arith}
use Rattle.std.proofs.lemmas.Bool.{cases_eq, cases_Bool, eq-eqb, ne_eqb, eqb-true, cond-true, cond-false}
use Rattle.discipline.specs.Meaning.{stays_at, waits_at, At, Lawful}
use Rattle.queues.specs.Entries.{no_entry, waiting_in, at_port, first_at, last_at, proper, StandsAt}
use Rattle.queues.specs.declared.entry.Entry.{Entry}
use Rattle.queues.specs.Queued.{waits_first, waits_later, waits_at_place}

-- a cell that waits at a port has an entry there
pub at_port_some : (q : List Entry) (p c : ℕ) → At (waiting_in q) p c → 0 < at_port q p
at_port_some [] p c h = let z : ◌≡◌ {A = ℕ} 0 1 = cc in absurd (omega arith)
at_port_some (e ∷ q) p c h =
    elim (cases_Bool (e.port == p)) [
      | inl x ↦ (let m = cond-true (e.port == p) (suc (at_port q p)) (at_port q p) x in omega arith)
      | inr x ↦
          (let m = cond-false (e.port == p) (suc (at_port q p)) (at_port q p) x in
          elim (cases_eq c e.cell) [
            | inl y ↦
                (let t : nat_eq e.port p ≡ true = sym (ap (stays_at p) (waits_first e q c y)) ∙ h in
                let z : ◌≡◌ {A = ℕ} 0 1 = cc in absurd (omega arith))
            | inr y ↦ (let r = at_port_some q p c (sym (ap (stays_at p) (waits_later e q c y)) ∙ h) in omega arith)
          ])
    ]

-- the first entry where it is at the port, and the last where none behind it is there
first_one : (e : Entry) (p : ℕ) → e.port ≡ p → first_at (e ∷ []) p ≡ e.cell
first_one e p h = cond-true (e.port == p) e.cell 0 (eq-eqb e.port p h)

last_one : (e : Entry) (q : List Entry) (p : ℕ) → e.port ≡ p → at_port q p ≡ 0 → last_at (e ∷ q) p ≡ e.cell
last_one e q p h n = cond-true (at_port q p == 0) (first_at (e ∷ []) p) (last_at q p) (eq-eqb (at_port q p) 0 n) ∙ first_one e p h

last_later : (e : Entry) (q : List Entry) (p : ℕ) → (at_port q p ≢ 0) → last_at (e ∷ q) p ≡ last_at q p
last_later e q p n = cond-false (at_port q p == 0) (first_at (e ∷ []) p) (last_at q p) (ne_eqb (at_port q p) 0 n)

-- the entry of the choice
pub first_stands : (q : List Entry) (p : ℕ) → 0 < at_port q p → (i : ℕ) × StandsAt q p (first_at q p) i
first_stands [] p h = absurd (omega arith)
first_stands (e ∷ q) p h =
    elim (cases_Bool (e.port == p)) [
      | inl x ↦ (0, (omega arith, sym (cond-true (e.port == p) e.cell (first_at q p) x), eqb-true e.port p x))
      | inr x ↦
          (let m = cond-false (e.port == p) (suc (at_port q p)) (at_port q p) x in
          let r = first_stands q p (omega arith) in
          (suc r.0, ((let a = r.1.0 in omega arith), r.1.1 ∙ sym (cond-false (e.port == p) e.cell (first_at q p) x), r.1.2)))
    ]

pub last_stands : (q : List Entry) (p : ℕ) → 0 < at_port q p → (i : ℕ) × StandsAt q p (last_at q p) i
last_stands [] p h = absurd (omega arith)
last_stands (e ∷ q) p h =
    elim (cases_eq (at_port q p) 0) [
      | inl x ↦
          (elim (cases_Bool (e.port == p)) [
            | inl y ↦ (0, (omega arith, sym (last_one e q p (eqb-true e.port p y) x), eqb-true e.port p y))
            | inr y ↦ (let m = cond-false (e.port == p) (suc (at_port q p)) (at_port q p) y in absurd (omega arith))
          ])
      | inr x ↦
          (let r = last_stands q p (omega arith) in
          (suc r.0, ((let a = r.1.0 in omega arith), r.1.1 ∙ sym (last_later e q p x), r.1.2)))
    ]

-- a cell whose entry is at a port waits there
pub stands_waits : (q : List Entry) (p c i : ℕ) → proper q ≡ true → StandsAt q p c i → At (waiting_in q) p c
stands_waits q p c i h s =
    ap (waits_at (waiting_in q) p) (sym s.1) ∙ ap (stays_at p) (waits_at_place q i h s.0) ∙ eq-eqb (slice_index_or q i no_entry).port p s.2

pub first_lawful : (q : List Entry) (p : ℕ) → proper q ≡ true → Lawful (waiting_in q) p (first_at q p)
first_lawful q p h c w =
    let s = first_stands q p (at_port_some q p c w) in stands_waits q p (first_at q p) s.0 h s.1

pub last_lawful : (q : List Entry) (p : ℕ) → proper q ≡ true → Lawful (waiting_in q) p (last_at q p)
last_lawful q p h c w =
    let s = last_stands q p (at_port_some q p c w) in stands_waits q p (last_at q p) s.0 h s.1

-- an entry at a port is counted there
pub at_port_place : (q : List Entry) (p i : ℕ) → i < length q → (slice_index_or q i no_entry).port ≡ p → 0 < at_port q p
at_port_place [] p i l h = absurd (omega arith)
at_port_place (e ∷ q) p zero l h =
    let m = cond-true (e.port == p) (suc (at_port q p)) (at_port q p) (eq-eqb e.port p h) in omega arith
at_port_place (e ∷ q) p (suc i) l h =
    let r = at_port_place q p i (omega arith) h in
    elim (cases_Bool (e.port == p)) [
      | inl x ↦ (let m = cond-true (e.port == p) (suc (at_port q p)) (at_port q p) x in omega arith)
      | inr x ↦ (let m = cond-false (e.port == p) (suc (at_port q p)) (at_port q p) x in omega arith)
    ]

-- the last entry at a port is the one behind which none is there
pub last_is : (q : List Entry) (p i : ℕ) → i < length q → (slice_index_or q i no_entry).port ≡ p → at_port (drop (suc i) q) p ≡ 0 → last_at q p ≡ (slice_index_or q i no_entry).cell
last_is [] p i l h n = absurd (omega arith)
last_is (e ∷ q) p zero l h n = last_one e q p h n
last_is (e ∷ q) p (suc i) l h n =
    let some = at_port_place q p i (omega arith) h in
    last_later e q p (λ z. omega arith) ∙ last_is q p i (omega arith) h n
