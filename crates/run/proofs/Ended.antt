-- When a run has ended, and by when it does.
use Rattle.std.proofs.Common.{◌≡◌, ℕ, zero, suc, ◌+◌, ◌-◌, ◌*◌, ◌<◌, ◌≤◌, true, false, ltb, leb, List, [], ◌∷◌, length, get_or, Some, None, unwrap_or, sym, refl, ap, ◌∙◌, inl, inr, mul-le-mul_right, arith}
use Rattle.std.proofs.lemmas.Bool.{cases_Bool, le-leb, leb-true, ltb-true, or_cases, or_left, false≢true}
use Rattle.discipline.specs.Meaning.{Waiting}
use Rattle.discipline.proofs.Counting.{passing_all, all_passing}
use Rattle.network.specs.Networks.{Network, Hop, Sound, sum, hops}
use Rattle.network.proofs.Bound.{all_end}
use Rattle.plan.specs.Cells.{Planned, no_cell, hops_in}
use Rattle.plan.specs.Plans.{cells_of}
use Rattle.plan.proofs.Facts.{few_hops}
use Rattle.rules.specs.Loads.{Sent, slots}
use Rattle.rules.specs.Moments.{is_gone, Placed}
use Rattle.run.specs.Recordings.{network_of, moment}
use Rattle.rules.specs.Between.{Between}
use Rattle.run.specs.Slots.{AllGone, ended}
use Rattle.rules.specs.declared.condition.Condition.{Condition}
use Rattle.rules.specs.declared.condition.Condition.TheVariants as is
use Rattle.rules.specs.declared.hop.HopRecord.{HopRecord}
use Rattle.run.specs.declared.recording.Recording.{Recording}
use Rattle.run.proofs.Networks as net

-- the hops of all cells, counted from either end
sum_shift : (f : ℕ → ℕ) (n : ℕ) → sum f (suc n) ≡ f 0 + sum (λ k. f (suc k)) n
sum_shift f zero = omega arith
sum_shift f (suc n) = let i = sum_shift f n in omega arith

hops_same : (cs : List Planned) → sum (λ c. length (get_or cs c no_cell).route) (length cs) ≡ hops_in cs
hops_same [] = refl
hops_same (c ∷ cs) = sum_shift (λ k. length (get_or (c ∷ cs) k no_cell).route) (length cs) ∙ ap (λ n. length c.route + n) (hops_same cs)

-- a cell that is not gone has a hop from which it was not sent
unsent_hop : (N : Network) → Sound N → (s : Sent) (t c : ℕ) (k : Condition) → c < N.cells → Placed N s t c k → is_gone k ≡ false → (h : ℕ) × Hop N c h × (s c h ≡ None)
unsent_hop N O s t c is.Outside l p g = (0, record { cell = l; hop = O.some c l }, p.left 0 (omega arith) (O.some c l))
unsent_hop N O s t c (is.Waiting h a) l p g = (h, record { cell = l; hop = p.0 }, p.1.left h (omega arith) p.0)
unsent_hop N O s t c (is.OnLink h u) l p g = (h, record { cell = l; hop = p.0 }, p.1.left h (omega arith) p.0)
unsent_hop N O s t c is.Gone l p g = absurd (false≢true (sym g))

module _ {D : Type 0} (waiting : D → Waiting) (sound : D → Type 0) (r : Recording) (log : List HopRecord) (d : D)
    (B : Between (network_of r) waiting sound r.next (moment r log d)) where
  abbrev N : Network
  N = network_of r

  module _ (i l : ℕ) (enters : (c : ℕ) → c < N.cells → N.entry c ≤ i) (longest : (c h : ℕ) → Hop N c h → N.delay (N.port c h) ≤ l) where
    -- while a cell is not gone, the next slot is not past the bound
    pub not_past : (c : ℕ) → c < N.cells → is_gone ((moment r log d).condition c) ≡ false → r.next ≤ i + (hops N - 1) * l
    not_past c lc g =
        let u = unsent_hop N (net.sound r.plan) (moment r log d).sent r.next c ((moment r log d).condition c) lc (B.inside.placed c lc) g in
        let e = all_end N r.next (slots (moment r log d).sent r.next) i l (net.sound r.plan) B.busy enters longest c u.0 u.1 in
        let f = ap (λ o. unwrap_or o r.next) u.2 in
        omega arith

    -- no cell was sent after it
    pub none_later : (c h v : ℕ) → Hop N c h → (moment r log d).sent c h ≡ Some v → v ≤ i + (hops N - 1) * l
    none_later c h v on e =
        let a = all_end N r.next (slots (moment r log d).sent r.next) i l (net.sound r.plan) B.busy enters longest c h on in
        let b = B.past c h v on e in
        let f = ap (λ o. unwrap_or o r.next) e in
        omega arith

    -- past it every cell is gone
    pub all_gone_past : i + (hops N - 1) * l < r.next → AllGone r
    all_gone_past m c lc = elim (cases_Bool (is_gone ((moment r log d).condition c))) [
      | inl y ↦ y
      | inr y ↦ absurd (let z = not_past c lc y in omega arith)
    ]

  few : hops N ≤ 2048
  few = let a = hops_same (cells_of r.plan) in let b = few_hops r.plan in omega arith

  pub ended_gone : ended r ≡ true → AllGone r
  ended_gone e = elim (or_cases (leb N.cells r.gone) (ltb 587520 r.next) e) [
    | inl y ↦ (let a = leb-true N.cells r.gone y in let b = B.inside.left in passing_all N.cells (λ c. is_gone ((moment r log d).condition c)) (omega arith))
    | inr y ↦ (
        let a = ltb-true 587520 r.next y in
        let f = few in
        let p : hops N - 1 ≤ 2047 = omega arith in
        let q = mul-le-mul_right 255 p in
        all_gone_past 65535 255 (net.entry_few r.plan) (net.delay_few r.plan) (omega arith))
  ]

  pub gone_ended : AllGone r → ended r ≡ true
  gone_ended h =
      let a = all_passing N.cells (λ c. is_gone ((moment r log d).condition c)) h in
      let b = B.inside.left in
      or_left (leb N.cells r.gone) (ltb 587520 r.next) (le-leb N.cells r.gone (omega arith))
