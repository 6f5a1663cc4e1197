-- One slot of a recording: the cells that enter or land, then the ports.
use Rattle.std.proofs.Common.{◌≡◌, ℕ, suc, ◌+◌, ◌≤◌, List, length, ℤ, sym, ap, subst, add-one, arith}
use Rattle.discipline.specs.Meaning.{Waiting}
use Rattle.plan.specs.Cells.{hops_in}
use Rattle.plan.specs.Plans.{delays_of, cells_of}
use Rattle.rules.specs.Coherence.{Inside, Flying, Ahead}
use Rattle.run.specs.Recordings.{network_of, flows, moment, Kept}
use Rattle.rules.specs.Rules.{Slot, Served}
use Rattle.rules.specs.Between.{Between}
use Rattle.run.specs.Steps.{Enters, Turns}
use Rattle.rules.specs.declared.hop.HopRecord.{HopRecord}
use Rattle.run.specs.declared.recording.Recording.{Recording}
use Rattle.table.specs.declared.flight.Flight.{Flight}
use Rattle.rules.proofs.Disciplines.{Laws}
use Rattle.run.proofs.Entering.{plan_arrives}
use Rattle.rules.proofs.Goes.{goes_between}
use Rattle.run.proofs.Kept.{kept_again, kept_to, kept_from}
use Rattle.run.proofs.Networks as net

module _ {D : Type 0} (waiting : D → Waiting) (choice : D → ℕ → ℕ → ℕ) (sound : D → Type 0)
    (arrives : D → ℕ → ℕ → ℕ → ℕ → ℤ → D → Type 0) (picks : D → ℕ → ℕ → ℕ → D → Type 0) (L : Laws waiting choice sound arrives picks)
    (r : Recording) (log : List HopRecord) (d : D) (fs : List Flight) (B : Between (network_of r) waiting sound r.next (moment r log d))
    (F : Flying (network_of r) (moment r log d).condition fs) (long : hops_in (cells_of r.plan) ≤ length log)
    (q : Recording) (K : Kept r q) (e : D) (gs : List Flight) (entered : Enters waiting sound arrives picks r d fs q e gs)
    (room : ℕ) (wide : length (cells_of r.plan) ≤ room)
    (p : Recording) (J : Kept q p) (log' : List HopRecord) (f : D) (hs : List Flight)
    (turns : Turns waiting sound arrives picks room (length (delays_of q.plan)) q log e gs p log' f hs) where
  pub record Done : Type 0 where
    pub slot : Slot (network_of r) (flows r) r.next waiting arrives picks (length (delays_of r.plan)) (moment r log d) (moment p log' f)
    pub between : Between (network_of p) waiting sound (p.next + 1) (moment p log' f)
    pub flying : Flying (network_of p) (moment p log' f).condition hs

  pub done : Done
  done =
      let E = entered log B.inside F B.ahead in
      let T = turns
      (kept_to (λ N w t. Inside N waiting sound t (moment q log e)) r q K E.1)
      (kept_to (λ N w t. Flying N (moment q log e).condition gs) r q K E.2)
      (kept_to (λ N w t. Ahead N (suc t) (moment q log e).condition) r q K E.3)
      (let a = ap (λ x. hops_in (cells_of x)) K.plan in omega arith) (let a = ap (λ x. length (cells_of x)) K.plan in omega arith) in
      let ports : length (delays_of q.plan) ≡ length (delays_of r.plan) = ap (λ x. length (delays_of x)) K.plan in
      let served : Served (network_of r) (flows r) r.next waiting arrives picks (length (delays_of r.plan)) (moment q log e) (moment p log' f) =
      subst (λ k. Served (network_of r) (flows r) r.next waiting arrives picks k (moment q log e) (moment p log' f)) ports
      (kept_from (λ N w t. Served N w t waiting arrives picks (length (delays_of q.plan)) (moment q log e) (moment p log' f)) r q K T.0) in
      let last = kept_from (λ N w t. Ahead N (suc t) (moment p log' f).condition) r q K T.3 in
      let M = kept_again K J in
      let next = goes_between (network_of r) (flows r) r.next (net.sound r.plan) waiting choice sound arrives picks L (plan_arrives r)
      (length (delays_of r.plan)) (net.port_known r.plan) (moment r log d) (moment q log e) (moment p log' f) B E.0 E.1 E.3 served last in
      record {
        slot = record { between = moment q log e; entered = E.0; served = served };
        between = subst (λ t. Between (network_of p) waiting sound t (moment p log' f)) (sym (add-one p.next))
            (kept_to (λ N w t. Between N waiting sound (suc t) (moment p log' f)) r p M next);
        flying = kept_to (λ N w t. Flying N (moment p log' f).condition hs) r p M (kept_from (λ N w t. Flying N (moment p log' f).condition hs) r q K T.2);
      }
