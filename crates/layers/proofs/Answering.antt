-- What a layer answers where the discipline below answers.
use Rattle.std.proofs.Common.{◌≡◌, ℕ, ◌<◌, Bool, true, false, Some, None, Ok, Err, Option, Result, refl, ◌∙◌, arith}
use Rattle.refusal.specs.Tests.{when}
use Rattle.refusal.specs.declared.Refusal.{Refusal}
use Rattle.discipline.specs.declared.stay.Stay.{Stay}
use Rattle.discipline.specs.Calls.{Answers, told}
use Rattle.discipline.specs.Meaning.{Waiting, Limits}

-- the same test: a step of the part is a step of the whole, and a part that stays leaves the whole
pub answers_through : {D E X : Type 0} (s t : Option Refusal) (d e : D) (x y : E) (r : Result X Refusal) (P Q : X → Type 0) → t ≡ s → ((z : X) → s ≡ None → P z → Q z) → (e ≡ d → y ≡ x) → Answers s d r e P → Answers t x r y Q
answers_through s t d e x y (Ok z) P Q h step stays a = (h ∙ a.0, step z a.0 a.1)
answers_through s t d e x y (Err r) P Q h step stays a = (h ∙ a.0, stays a.1)

-- a question that is answered passed its test
pub passed_told : {X : Type 0} (b : Bool) (r : Refusal) (x y : X) → Ok y ≡ told (when b r) x → (b ≡ false) × (x ≡ y)
passed_told false r x y h = (refl, cc)
passed_told true r x y h = let z : ◌≡◌ {A = ℕ} 0 1 = cc in absurd (omega arith)

-- a question that is refused failed its test
pub refused_told : {X : Type 0} (b : Bool) (r : Refusal) (x : X) (e : Refusal) → Err e ≡ told (when b r) x → b ≡ true
refused_told true r x e h = refl
refused_told false r x e h = let z : ◌≡◌ {A = ℕ} 0 1 = cc in absurd (omega arith)

-- no cell over 255 waits
pub past_limits : (w : Waiting) → Limits w → (c : ℕ) → 255 < c → w c ≡ None
past_limits w limits c l = go (w c) refl
  where
    go : (o : Option Stay) → w c ≡ o → o ≡ None
    go None e = refl
    go (Some s) e = let b = limits c s e in let x = b.0 in absurd (omega arith)
