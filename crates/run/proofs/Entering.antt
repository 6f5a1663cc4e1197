-- A cell enters or lands.
use Rattle.std.proofs.Common.{◌≡◌, ℕ, ◌<◌, false, List, length, get_or, set, ℤ, pos, Some, None, Ok, Err, Option, Result, sym, refl, ap, ◌∙◌, subst, arith}
use Rattle.std.proofs.lemmas.List.{get_or-set_same, get_or-set_other}
use Rattle.refusal.proofs.Options.{none_some}
use Rattle.refusal.specs.declared.Refusal.{Refusal}
use Rattle.discipline.specs.Calls.{arrive_test, Answers}
use Rattle.discipline.specs.Meaning.{Waiting}
use Rattle.discipline.proofs.Tests.{arrive_passes}
use Rattle.network.specs.Networks.{Network, Hop, Sound}
use Rattle.plan.specs.Plans.{cells_of, delays_of}
use Rattle.rules.specs.Conditions.{next_condition}
use Rattle.rules.specs.Loads.{Sent, network, flow_of, sent_in}
use Rattle.rules.specs.Moments.{pending, stay, Placed}
use Rattle.run.specs.Offsets.{no_record}
use Rattle.run.specs.Recordings.{network_of, flows, moment, Kept}
use Rattle.rules.specs.Rules.{Arrives}
use Rattle.run.specs.Steps.{InSlot, Stands}
use Rattle.rules.specs.declared.condition.Condition.{Condition}
use Rattle.rules.specs.declared.condition.Condition.TheVariants as is
use Rattle.rules.specs.declared.condition.Event.TheVariants.{Arrive}
use Rattle.rules.specs.declared.hop.HopRecord.{HopRecord}
use Rattle.run.specs.declared.recording.Recording.{Recording}
use Rattle.run.specs.declared.standing.Standing.{Standing}
use Rattle.run.proofs.Networks as net

-- a cell whose condition says that it comes in slot t then waits at a hop of its route; before, it does not wait
pub lands : (N : Network) (s : Sent) (t c : ℕ) (k : Condition) → Sound N → c < N.cells → Placed N s t c k → pending N c k ≡ Some t
    → (h : ℕ) × (next_condition k (Arrive t) ≡ is.Waiting h t) × (h < N.len c) × (stay N c k ≡ None)
lands N s t c is.Outside O l p e = (0, refl, O.some c l, refl)
lands N s t c (is.Waiting h a) O l p e = absurd (none_some t refl e)
lands N s t c (is.OnLink h u) O l p e = (h, refl, p.0, refl)
lands N s t c is.Gone O l p e = absurd (none_some t refl e)

-- the discipline accepts a cell of the plan that does not wait
pub plan_arrives : (r : Recording) (w : Waiting) (c h : ℕ) → Hop (network_of r) c h → w c ≡ None
    → arrive_test w ((network_of r).port c h) c (flows r c) ≡ None
plan_arrives r w c h on e =
    arrive_passes w ((network_of r).port c h) c (flows r c) (net.port_few r.plan c h on) (net.cell_few r.plan c on.cell) (net.flow_few r.plan c on.cell) e

-- what an accepted call leaves
pub accepted : {D X : Type 0} (test : Option Refusal) (d e : D) (Step : X → Type 0) (a : Result X Refusal) → test ≡ None → Answers test d a e Step → (x : X) × Step x
accepted test d e Step (Ok x) p h = (x, h.1)
accepted test d e Step (Err r) p h = absurd (none_some r p h.0)

module _ {D : Type 0} (waiting : D → Waiting) (sound : D → Type 0)
    (arrives : D → ℕ → ℕ → ℕ → ℕ → ℤ → D → Type 0) (picks : D → ℕ → ℕ → ℕ → D → Type 0)
    (r q : Recording) (c : ℕ) (l : c < length (cells_of r.plan)) (same : Kept r q)
    (records : q.records.items ≡ set r.records.items c (record { condition = next_condition (get_or r.records.items c no_record).condition (Arrive r.next); first = (get_or r.records.items c no_record).first }))
    (contested : q.contested ≡ r.contested) (gone : q.gone ≡ r.gone)
    (log : List HopRecord) (d : D) (I : InSlot waiting sound r log d)
    (pends : pending (network_of r) c ((moment r log d).condition c) ≡ Some r.next) where
  abbrev k : Condition
  k = (get_or r.records.items c no_record).condition

  abbrev to : (h : ℕ) × (next_condition k (Arrive r.next) ≡ is.Waiting h r.next) × (h < (network_of r).len c) × (stay (network_of r) c k ≡ None)
  to = lands (network_of r) (sent_in (cells_of r.plan) log) r.next c k (net.sound r.plan) l (I.placed c l) pends

  here : (get_or q.records.items c no_record).condition ≡ next_condition k (Arrive r.next)
  here =
      let few = net.cell_few r.plan c l in
      let counted = r.counted in
      ap (λ x. (get_or x c no_record).condition) records ∙ ap (λ x. x.condition) (get_or-set_same r.records.items c _ no_record (omega arith))

  -- it stands at a hop
  pub stands_somewhere : Stands q c None → ⊥
  stands_somewhere n =
      n to.0 r.next (subst (λ p. Hop (network (delays_of p) (cells_of p)) c to.0) (sym same.plan) (record { cell = l; hop = to.2 })) (here ∙ to.1)

  -- the discipline is told of it, and that is all
  pub arrives_so : (s : Standing) → Stands q c (Some s) → (a : Result (Unit {0}) Refusal) (e : D)
      → (sound d → Answers (arrive_test (waiting d) s.port c s.flow) d a e (λ _. arrives d s.port c s.flow r.next (pos 0) e))
      → Arrives (network_of r) (flows r) r.next waiting arrives picks c (moment r log d) (moment q log e)
  arrives_so s S a e told =
      let W : (get_or q.records.items c no_record).condition ≡ is.Waiting s.position S.1.0 = S.1.1 in
      let V : (get_or q.records.items c no_record).condition ≡ is.Waiting to.0 r.next = here ∙ to.1 in
      let at : s.position ≡ to.0 = cc in
      let port : s.port ≡ (network_of r).port c to.0 = S.2 ∙ ap (λ p. (network (delays_of p) (cells_of p)).port c s.position) same.plan ∙ ap ((network_of r).port c) at in
      let flow : s.flow ≡ flows r c = S.3 ∙ ap (λ p. flow_of (cells_of p) c) same.plan in
      let free : waiting d c ≡ None = I.queued c l ∙ to.3 in
      let pass = plan_arrives r (waiting d) c to.0 (record { cell = l; hop = to.2 }) free in
      let test : arrive_test (waiting d) s.port c s.flow ≡ None = ap (λ x. arrive_test (waiting d) x c s.flow) port ∙ ap (arrive_test (waiting d) ((network_of r).port c to.0) c) flow ∙ pass in
      let step = (accepted _ d e (λ _. arrives d s.port c s.flow r.next (pos 0) e) a test (told I.lawful)).1 in
      record {
        position = to.0;
        becomes = here;
        waits = V;
        others = λ j n. ap (λ x. (get_or x j no_record).condition) records ∙ ap (λ x. x.condition) (get_or-set_other r.records.items c j _ no_record n);
        told = subst (λ x. arrives d x c (flows r c) r.next (pos 0) e) port (subst (λ x. arrives d s.port c x r.next (pos 0) e) flow step);
        sent = ap (λ p. sent_in (cells_of p) log) same.plan;
        contested = ap (λ x. λ p. get_or x p false) contested;
        gone = gone;
      }
