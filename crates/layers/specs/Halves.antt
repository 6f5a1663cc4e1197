-- Two disciplines side by side: the cells of the lower flows wait in the first, the others in the second.
use Rattle.std.specs.Prelude.{◌≡◌, ℕ, Bool, true, false, cond, ◌⊎◌, Some, None, Option, ◌==◌}
use Rattle.discipline.specs.declared.stay.Stay.{Stay}
use Rattle.discipline.specs.Meaning.{Waiting, count_at}

-- the first stay where there is one, else the second
abbrev pub stay_of : Option Stay → Option Stay → Option Stay
stay_of (Some s) o = Some s
stay_of None o = o

-- the cells that wait in either half
abbrev pub joined : Waiting → Waiting → Waiting
joined v w c = stay_of (v c) (w c)

-- no cell waits in both
abbrev pub Apart : Waiting → Waiting → Type 0
Apart v w = (c : ℕ) → (v c ≡ None) ⊎ (w c ≡ None)

-- the choice of the first half where a cell waits at the port in it, else that of the second
abbrev pub half_choice : Waiting → ℕ → ℕ → ℕ → ℕ
half_choice v p x y = cond (count_at v p == 0) y x

-- the one fact where a test holds, the other where it does not
abbrev pub Either : Bool → Type 0 → Type 0 → Type 0
Either true P Q = P
Either false P Q = Q

-- both halves are sound, and no cell waits in both
abbrev pub BothSound : Type 0 → Type 0 → Waiting → Waiting → Type 0
BothSound P Q v w = P × Q × Apart v w
