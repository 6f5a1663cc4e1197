-- The cells that enter or land in a slot of a recording.
use Rattle.std.proofs.Common.{◌≡◌, ℕ, ◌<◌, List, length, ℤ, Some, None}
use Rattle.discipline.specs.Meaning.{Waiting}
use Rattle.plan.specs.Plans.{cells_of}
use Rattle.rules.specs.Coherence.{Inside, Flying, Ahead}
use Rattle.rules.specs.Landing.{Landing}
use Rattle.rules.specs.Moments.{pending}
use Rattle.rules.specs.Rules.{Arrives}
use Rattle.rules.specs.declared.hop.HopRecord.{HopRecord}
use Rattle.rules.proofs.Disciplines.{Laws}
use Rattle.rules.proofs.Inside.{arrives_inside}
use Rattle.rules.proofs.Landing.{Partly, lands_pending, partly_start, partly_more, partly_end}
use Rattle.run.specs.Recordings.{network_of, flows, moment, Kept}
use Rattle.run.specs.Steps.{InSlot, Enters}
use Rattle.run.specs.declared.recording.Recording.{Recording}
use Rattle.table.specs.declared.flight.Flight.{Flight}
use Rattle.run.proofs.Entering.{plan_arrives}
use Rattle.run.proofs.Kept.{kept_to, kept_from}
use Rattle.run.proofs.Networks.{sound as sound_net}

-- over recordings: from r with d and fs the run has come to q with e and gs
abbrev pub Landed : {D : Type 0} (waiting : D → Waiting) (sound : D → Type 0) (arrives : D → ℕ → ℕ → ℕ → ℕ → ℤ → D → Type 0)
    (picks : D → ℕ → ℕ → ℕ → D → Type 0) → Recording → D → List Flight → Recording → D → List Flight → Type 0
Landed waiting sound arrives picks r d fs q e gs = (log : List HopRecord)
    → InSlot waiting sound r log d → Flying (network_of r) (moment r log d).condition fs → Ahead (network_of r) r.next (moment r log d).condition
    → Partly (network_of r) (flows r) r.next waiting sound arrives picks (moment r log d) (moment q log e) gs

module _ {D : Type 0} (waiting : D → Waiting) (choice : D → ℕ → ℕ → ℕ) (sound : D → Type 0) (arrives : D → ℕ → ℕ → ℕ → ℕ → ℤ → D → Type 0)
    (picks : D → ℕ → ℕ → ℕ → D → Type 0) (L : Laws waiting choice sound arrives picks) (r : Recording) (d : D) (fs : List Flight) where
  pub landed_start : Landed waiting sound arrives picks r d fs r d fs
  landed_start log I F A = partly_start (network_of r) (flows r) r.next waiting sound arrives picks (moment r log d) fs I F A

  module _ (q : Recording) (K : Kept r q) (e : D) (gs hs : List Flight) (P : Landed waiting sound arrives picks r d fs q e gs) where
    -- the next cell that lands
    pub landed_more : (c : ℕ) → Landing r.next gs (Some c) hs → (q' : Recording) (e' : D)
        → ((log : List HopRecord) → InSlot waiting sound q log e → c < length (cells_of q.plan) → pending (network_of q) c ((moment q log e).condition c) ≡ Some q.next
        → Arrives (network_of q) (flows q) q.next waiting arrives picks c (moment q log e) (moment q' log e'))
        → Landed waiting sound arrives picks r d fs q' e' hs
    landed_more c land q' e' step log I F A =
        let X = P log I F A in
        let was = lands_pending (network_of r) (moment q log e).condition gs X.flying r.next c land.0 in
        let came = step log
        (kept_to (λ N f t. Inside N waiting sound t (moment q log e)) r q K X.inside)
        (kept_to (λ N f t. c < N.cells) r q K was.0)
        (kept_to (λ N f t. pending N c ((moment q log e).condition c) ≡ Some t) r q K was.1) in
        let B = kept_from (λ N f t. Arrives N f t waiting arrives picks c (moment q log e) (moment q' log e')) r q K came in
        partly_more (network_of r) (flows r) r.next waiting sound arrives picks (moment r log d) (moment q log e) gs hs X (moment q' log e') c land B
        (arrives_inside (network_of r) (flows r) r.next (sound_net r.plan) waiting choice sound arrives picks L (plan_arrives r) (moment q log e) (moment q' log e') X.inside c was.0 was.1 B)

    pub landed_end : Landing r.next gs None hs → Enters waiting sound arrives picks r d fs q e hs
    landed_end land log I F A =
        partly_end (network_of r) (flows r) r.next waiting sound arrives picks (moment r log d) (moment q log e) gs hs (P log I F A) land
