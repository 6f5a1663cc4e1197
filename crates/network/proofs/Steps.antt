-- The laws of a run, slot by slot.
use Rattle.std.proofs.Common.{◌≡◌, ℕ, zero, suc, ◌<◌, ◌≤◌, ◌⊎◌, sym, refl, ◌∙◌, inl, inr, arith}
use native.Mathlib.Decide.{dec_lt}
use Rattle.network.specs.Networks.{Network, Hop, Sound}
use Rattle.network.specs.OnTime.{LeastSlackFirst}
use Rattle.network.specs.Schedules.{Schedule, arrival, Sends, WorkConserving}
use Rattle.network.specs.Slacks.{due}
use Rattle.network.specs.Steps.{Steps, StepsBusy, StepsFirst, Starts, GoesOn}
use Rattle.network.proofs.Cases.{halves}
use Rattle.network.proofs.Hops.{hop_before}
use Rattle.network.proofs.Slacks.{due_fixed}

-- no due slot depends on the replay
pub due_same : (N : Network) (r x y : Schedule) (c h : ℕ) → due N r x c h ≡ due N r y c h
due_same N r x y c h = due_fixed N r x c h ∙ sym (due_fixed N r y c h)

module _ (N : Network) (t : ℕ) (x y : Schedule) (O : Sound N) (S : Steps N t x y) where
  -- the slots of a hop in x and in y
  slots : (c h : ℕ) → Hop N c h → ((x c h < t) × (y c h ≡ x c h)) ⊎ ((t ≤ x c h) × (t ≤ y c h))
  slots c h on = halves (x c h) t (S.kept c h on) (S.still c h on)

  -- what arrives by slot t arrives in the same slot in both
  arrivals : (c h : ℕ) → Hop N c h → (arrival N x c h ≡ arrival N y c h) ⊎ ((t < arrival N x c h) × (t < arrival N y c h))
  arrivals c zero on = inl refl
  arrivals c (suc h) on =
      let b = hop_before N c h on in
      let d = O.apart c h b in
      elim (slots c h b) [
        | inl s ↦ inl (let e : y c h ≡ x c h = s.1 in omega arith)
        | inr s ↦ inr (let e : t ≤ x c h = s.0 in let f : t ≤ y c h = s.1 in omega arith)
      ]

  sends : Sends N t x → Sends N (suc t) y
  sends L = record {
    after = λ c h on l.
        let s = slots c h on in let a = arrivals c h on in
        elim (dec_lt (y c h) t) [
          | yes m ↦ (let b = L.after c h on (omega arith) in omega arith)
          | no m ↦ (let b = S.after c h on (omega arith) in omega arith)
        ];
    alone = λ c h q g on og p l e.
        let s = slots c h on in let z = slots q g og in
        elim (dec_lt (y c h) t) [
          | yes m ↦ L.alone c h q g on og p (omega arith) (omega arith)
          | no m ↦ S.alone c h q g on og p (omega arith) (omega arith)
        ];
  }

  busy : WorkConserving N t x → StepsBusy N t x y → WorkConserving N (suc t) y
  busy L now u c h ut on a l =
      let s = slots c h on in let z = arrivals c h on in
      elim (dec_lt u t) [
        | yes m ↦ (
            let w = L u c h m on (omega arith) (omega arith) in
            let e : x w.0 w.1 ≡ u = w.4 in
            let v = slots w.0 w.1 w.2 in
            (w.0, w.1, w.2, w.3, omega arith))
        | no m ↦ (
            let e : t ≡ u = omega arith in
            let w = now c h on (omega arith) (omega arith) in (w.0, w.1, w.2, w.3, w.4 ∙ e))
      ]

  first : (r : Schedule) → LeastSlackFirst N r t x → StepsFirst N r t x y → LeastSlackFirst N r (suc t) y
  first r L now q g c h og on p l a m =
      let s = slots c h on in let z = arrivals c h on in let v = slots q g og in
      let e = due_same N r x y q g in
      let f = due_same N r x y c h in
      elim (dec_lt (y q g) t) [
        | yes n ↦ (let k = L q g c h og on p (omega arith) (omega arith) (omega arith) in rw (e, f) at k)
        | no n ↦ (let k = now q g c h og on p (omega arith) (omega arith) (omega arith) in rw (e, f) at k)
      ]

pub starts : Starts
starts N r x = record {
  sends = record { after = λ c h on l. absurd (omega arith); alone = λ c h q g on og p l e. absurd (omega arith) };
  busy = λ u c h l on a m. absurd (omega arith);
  first = λ q g c h og on p l a m. absurd (omega arith);
}

pub goes_on : GoesOn
goes_on N t x y O S = record { sends = sends N t x y O S; busy = busy N t x y O S; first = first N t x y O S }
