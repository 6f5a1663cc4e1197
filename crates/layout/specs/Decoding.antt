-- What a byte of a file's head stands for.
use Rattle.std.specs.Prelude.{◌≡◌, ◌≢◌, ℕ, Result, MatchResult}
use Rattle.layout.specs.declared.kind.UnknownByte.{UnknownByte}

-- the value whose number is the byte, or an error with the byte where no value has it
abbrev pub Decodes : {X : Type 0} → (X → ℕ) → ℕ → Result X UnknownByte → Type 0
Decodes number byte r = MatchResult r (λ x. number x ≡ byte) (λ e. (e.0 ≡ byte) × ((x : _) → number x ≢ byte))
