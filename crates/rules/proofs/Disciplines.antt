-- The laws of a queue discipline, as a run uses them.
use Rattle.std.proofs.Common.{◌≡◌, ℕ, ℤ, None}
use Rattle.discipline.specs.Calls.{arrive_test, pick_test}
use Rattle.discipline.specs.Meaning.{Waiting, Limits, Lawful, Same, with_cell, without_cell}

pub record Laws {D : Type 0} (waiting : D → Waiting) (choice : D → ℕ → ℕ → ℕ) (sound : D → Type 0)
    (arrives : D → ℕ → ℕ → ℕ → ℕ → ℤ → D → Type 0) (picks : D → ℕ → ℕ → ℕ → D → Type 0) : Type 0 where
  pub limits : (d : D) → sound d → Limits (waiting d)
  pub chosen : (d : D) → sound d → (p t : ℕ) → Lawful (waiting d) p (choice d p t)
  pub arrived : (d : D) (p c f t : ℕ) (u : ℤ) (e : D) → sound d → arrive_test (waiting d) p c f ≡ None → arrives d p c f t u e
      → sound e × Same (waiting e) (with_cell (waiting d) c (record { port = p; slot = t; due = u }))
  pub picked : (d : D) (p t c : ℕ) (e : D) → sound d → pick_test (waiting d) p ≡ None → picks d p t c e
      → sound e × (c ≡ choice d p t) × Same (waiting e) (without_cell (waiting d) c)
