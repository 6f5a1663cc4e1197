-- Case distinctions over numbers, in forms that `omega` can use: it takes sums apart, and does not try the two sides of a premise.
use Rattle.std.proofs.Common.{◌≡◌, ℕ, ◌<◌, ◌≤◌, ◌≢◌, ◌⊎◌, inl, inr, arith}
use native.Mathlib.Decide.{ℕ_discrete, dec_le}

-- m ≤ n may be proved with the excluded middle
pub stable : (m n : ℕ) → ((m ≤ n → ⊥) → ⊥) → m ≤ n
stable m n f = elim (dec_le m n) [ yes p ↦ p | no p ↦ absurd (f p) ]

pub by_cases : (A : Type 0) (m n : ℕ) → (A → m ≤ n) → ((A → ⊥) → m ≤ n) → m ≤ n
by_cases A m n f g = stable m n (λ late. late (g (λ a. late (f a))))

-- what holds of an m below n, and of one from n on
pub halves : {A B : Type 0} (m n : ℕ) → (m < n → A) → (n ≤ m → B) → ((m < n) × A) ⊎ ((n ≤ m) × B)
halves m n f g = elim (dec_le n m) [ yes h ↦ inr (h, g h) | no h ↦ (let l : m < n = omega arith in inl (l, f l)) ]

-- what holds of two numbers that are equal
pub alike : {A : Type 0} (m n : ℕ) → (m ≡ n → A) → (m ≢ n) ⊎ A
alike m n f = elim (ℕ_discrete m n) [ yes e ↦ inr (f e) | no e ↦ inl e ]
