-- Cells that wait in the discipline of a run, and picks of them.
use Rattle.std.proofs.Common.{◌≡◌, ℕ, ◌<◌, ℤ, Some, refl, ap, inl, inr}
use Rattle.std.proofs.lemmas.Bool.{cases_lt}
use Rattle.refusal.proofs.Options.{none_some, some_one}
use Rattle.discipline.specs.Meaning.{Waiting}
use Rattle.discipline.specs.declared.stay.Stay.{Stay}
use Rattle.discipline.proofs.Stays.{at_stay}
use Rattle.network.specs.Networks.{Network}
use Rattle.rules.specs.Coherence.{Inside}
use Rattle.rules.specs.Moments.{Moment, stay}
use Rattle.rules.specs.Rules.{Sends}
use Rattle.rules.specs.declared.condition.Condition.{Condition}
use Rattle.rules.specs.declared.condition.Condition.TheVariants as is

-- a cell with a stay waits at the port of its position
pub waits_so : (N : Network) (c : ℕ) (k : Condition) (s : Stay) → stay N c k ≡ Some s → (h : ℕ) × (a : ℕ) × (k ≡ is.Waiting h a) × (N.port c h ≡ s.port)
waits_so N c is.Outside s e = absurd (none_some s refl e)
waits_so N c (is.Waiting h a) s e = (h, a, refl, ap (λ x. x.port) (some_one _ s refl e))
waits_so N c (is.OnLink h u) s e = absurd (none_some s refl e)
waits_so N c is.Gone s e = absurd (none_some s refl e)

-- a cell that is sent is one of the plan
pub sent_known : (N : Network) (flow : ℕ → ℕ) (t : ℕ) {D : Type 0} (waiting : D → Waiting) (sound : D → Type 0)
    (arrives : D → ℕ → ℕ → ℕ → ℕ → ℤ → D → Type 0) (picks : D → ℕ → ℕ → ℕ → D → Type 0) (p c : ℕ) (m n : Moment D)
    → Inside N waiting sound t m → Sends N flow t waiting arrives picks p c m n → c < N.cells
sent_known N flow t waiting sound arrives picks p c m n I S =
    let s = at_stay (waiting m.queue) p c S.there in
    elim (cases_lt c N.cells) [ inl l ↦ l | inr l ↦ absurd (none_some s.0 (I.strangers c l) s.1) ]
