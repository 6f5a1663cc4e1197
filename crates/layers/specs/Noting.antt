-- The table of arrival slots, and what it says of the cells that wait.
use Rattle.std.proofs.Common.{◌≡◌, ℕ, ◌<◌, List, length, get_or, set, Some, None, Option, sym, refl, ap, ◌∙◌, inl, inr, arith, length-set, get_or-set_other, get_or-set_same}
use Rattle.std.proofs.lemmas.Bool.{cases_eq, false≢true}
use Rattle.discipline.specs.declared.stay.Stay.{Stay}
use Rattle.discipline.specs.Meaning.{Waiting, At, Same, stays_at, with_cell, without_cell}
use Rattle.discipline.proofs.Counting.{with_at, with_off, without_at, without_off}
use Rattle.layers.specs.Ages.{slot_of, Noted}

-- a cell that waits has its arrival slot in the table
pub noted_slot : (slots : List ℕ) (w : Waiting) (p c : ℕ) → Noted slots w → At w p c → get_or slots c 0 ≡ slot_of (w c)
noted_slot slots w p c n h = go (w c) refl
  where
    go : (o : Option Stay) → w c ≡ o → get_or slots c 0 ≡ slot_of o
    go None e = absurd (false≢true (sym (ap (stays_at p) e) ∙ h))
    go (Some s) e = n.1 c s e

-- the table after a cell came
pub noted_with : (slots : List ℕ) (w x : Waiting) (c : ℕ) (s : Stay) → c < 256 → Noted slots w → Same x (with_cell w c s) → Noted (set slots c s.slot) x
noted_with slots w x c s l n h =
    let size = n.0 in (
      length-set slots c s.slot ∙ size,
      λ k y e. elim (cases_eq k c) [
        | inl q ↦
            (let i : c < length slots = omega arith in
            let same : ◌≡◌ {A = Option Stay} (Some s) (Some y) = sym (with_at w c s k q) ∙ sym (h k) ∙ e in
            let z : s ≡ y = cc in
            ap (λ m. get_or (set slots c s.slot) m 0) q ∙ get_or-set_same slots c s.slot 0 i ∙ ap (λ v. v.slot) z)
        | inr q ↦ get_or-set_other slots c k s.slot 0 q ∙ n.1 k y (sym (with_off w c s k q) ∙ sym (h k) ∙ e)
      ],
    )

-- the table after a cell went
pub noted_without : (slots : List ℕ) (w x : Waiting) (c : ℕ) → Noted slots w → Same x (without_cell w c) → Noted slots x
noted_without slots w x c n h = (
  n.0,
  λ k y e. elim (cases_eq k c) [
    | inl q ↦
        (let same : ◌≡◌ {A = Option Stay} None (Some y) = sym (without_at w c k q) ∙ sym (h k) ∙ e in
        let z : ◌≡◌ {A = ℕ} 0 1 = cc in
        absurd (omega arith))
    | inr q ↦ n.1 k y (sym (without_off w c k q) ∙ sym (h k) ∙ e)
  ],
)
