-- Numbers in a row, and whether one is among them.
use Rattle.std.proofs.Common.{◌≡◌, ℕ, zero, suc, ◌+◌, ◌<◌, ◌≤◌, true, false, eqb, ◌∷◌, ◌++◌, take, refl, ap, inl, inr, add-zero, zero-add, arith}
use Rattle.std.specs.List.{range_with_len}
use Rattle.std.proofs.lemmas.Bool.{cases_eq, eq-eqb, ne_eqb, or_from, or_left, or_right}
use Rattle.plan.specs.Cells.{has}

pub counting_append : (a m b n : ℕ) → a + m ≡ b → range_with_len a m ++ range_with_len b n ≡ range_with_len a (m + n)
counting_append a zero b n e = rw (zero-add, ← e, add-zero)
counting_append a (suc m) b n e =
    let q : suc m + n ≡ suc (m + n) = omega arith in
    rw q (ap (λ l. a ∷ l) (counting_append (a + 1) m b n (omega arith)))

pub take_counting : (k a n : ℕ) → k ≤ n → take k (range_with_len a n) ≡ range_with_len a k
take_counting zero a n l = refl
take_counting (suc k) a zero l = absurd (omega arith)
take_counting (suc k) a (suc n) l = ap (λ xs. a ∷ xs) (take_counting k (a + 1) n (omega arith))

-- a number past the row is not in it
pub not_counted : (a n x : ℕ) → a + n ≤ x → has (range_with_len a n) x ≡ false
not_counted a zero x l = refl
not_counted a (suc n) x l =
    or_from (eqb a x) (has (range_with_len (a + 1) n) x) (ne_eqb a x (λ e. omega arith)) (not_counted (a + 1) n x (omega arith))

-- a number of the row is
pub counted : (a n x : ℕ) → a ≤ x → x < a + n → has (range_with_len a n) x ≡ true
counted a zero x h l = absurd (omega arith)
counted a (suc n) x h l =
    elim (cases_eq a x) [
      | inl e ↦ or_left (eqb a x) (has (range_with_len (a + 1) n) x) (eq-eqb a x e)
      | inr e ↦ or_right (eqb a x) (has (range_with_len (a + 1) n) x) (counted (a + 1) n x (omega arith) (omega arith))
    ]
