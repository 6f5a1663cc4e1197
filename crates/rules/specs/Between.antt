-- A run between two slots.
use Rattle.std.specs.Prelude.{◌≡◌, ℕ, ◌<◌, true, Some}
use Rattle.discipline.specs.Meaning.{Waiting}
use Rattle.network.specs.Networks.{Network, Hop}
use Rattle.network.specs.Schedules.{Sends, WorkConserving, Waited}
use Rattle.rules.specs.Coherence.{Inside, Ahead}
use Rattle.rules.specs.Loads.{slots}
use Rattle.rules.specs.Moments.{Moment}
use Rattle.rules.specs.declared.condition.Condition.TheVariants.{Waiting as Waits}

-- A run between slots, with horizon t: all parts agree, every slot below t is done and none from t on, and the schedule that the log
-- tells obeys the laws of a run: no cell is sent before it arrives, no port sends two in a slot, and a port where a cell waits sends
-- one. A port is contested just if a cell waited there.
pub record Between (N : Network) {D : Type 0} (waiting : D → Waiting) (sound : D → Type 0) (t : ℕ) (m : Moment D) : Type 0 where
  pub inside : Inside N waiting sound t m
  pub ahead : Ahead N t m.condition
  pub past : (c h v : ℕ) → Hop N c h → m.sent c h ≡ Some v → v < t
  pub since : (c h a : ℕ) → c < N.cells → m.condition c ≡ Waits h a → a < t
  pub sends : Sends N t (slots m.sent t)
  pub busy : WorkConserving N t (slots m.sent t)
  pub marked : (p : ℕ) → m.contested p ≡ true → Waited N t (slots m.sent t) p
  pub marks : (p : ℕ) → Waited N t (slots m.sent t) p → m.contested p ≡ true
