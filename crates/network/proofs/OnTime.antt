-- A replay by least slack first is on time, if no route has three contested hops.
use Rattle.std.proofs.Common.{◌≡◌, ℕ, zero, suc, ◌+◌, ◌-◌, ◌<◌, ◌≤◌, min, pos, sym, refl, ◌∙◌, ap₂, inl, inr, arith}
use native.Mathlib.Decide.{le_ind}
use Rattle.std.proofs.lemmas.Int.{ints}
use Rattle.network.specs.Networks.{Network, Hop, Sound, last, travel, least_travel}
use Rattle.network.specs.OnTime.{Replays, TwoAtMost, IsOnTime, OnTimeReplay}
use Rattle.network.specs.Schedules.{Schedule, arrival, Whole, Contested}
use Rattle.network.specs.Slacks.{due}
use Rattle.network.proofs.Cases.{stable, by_cases, halves}
use Rattle.network.proofs.Exchange.{Runs, Witness, earliest_due_first}
use Rattle.network.proofs.Hops.{hop_before, hop_last}
use Rattle.network.proofs.Slacks.{due_fixed}

module _ (N : Network) (t₀ : ℕ) (r : Schedule) (W : Whole N t₀ r) where
  whole : (c h : ℕ) → Hop N c h → arrival N r c h ≤ r c h
  whole c h on = W.sends.after c h on (W.all c h on)

  -- from one hop to another a cell takes at least the travel between them
  onward : (c h k : ℕ) → c < N.cells → h ≤ k → k < N.len c → r c h + travel N c k ≤ r c k + travel N c h
  onward c h k cn l = le_ind {n = h} (λ m. m < N.len c → r c h + travel N c m ≤ r c m + travel N c h)
      (λ _. omega arith)
      (λ m hm ih ml. let i = ih (omega arith) in let a = whole c (suc m) (record { cell = cn; hop = ml }) in omega arith)
      k l

  -- and just that if it never waits
  straight : (c h k : ℕ) → c < N.cells → h ≤ k → k < N.len c → ((g : ℕ) → h < g → g < N.len c → r c g ≡ arrival N r c g)
      → r c h + travel N c k ≡ r c k + travel N c h
  straight c h k cn l kl flat = le_ind {n = h} (λ m. m < N.len c → r c h + travel N c m ≡ r c m + travel N c h)
      (λ _. omega arith)
      (λ m hm ih ml. let i = ih (omega arith) in let a = flat (suc m) (omega arith) ml in omega arith)
      k l kl

-- the due slot as a natural number: that of a whole recording is never below 0
limit : Network → Schedule → ℕ → ℕ → ℕ
limit N r c h = r c (last N c) + travel N c h - least_travel N c

module _ (N : Network) (t₀ : ℕ) (r : Schedule) (W : Whole N t₀ r) where
  to_last : (c h : ℕ) → Hop N c h → r c h + least_travel N c ≤ r c (last N c) + travel N c h
  to_last c h on = let k = on.hop in onward N t₀ r W c h (last N c) on.cell (omega arith) (omega arith)

  limit_is : (c h : ℕ) → Hop N c h → limit N r c h + least_travel N c ≡ r c (last N c) + travel N c h
  unfolding limit
  limit_is c h on = let o = to_last c h on in omega arith

  limit_due : (x : Schedule) (c h : ℕ) → Hop N c h → due N r x c h ≡ pos (limit N r c h)
  limit_due x c h on = let e = due_fixed N r x c h in let f = limit_is c h on in omega (arith, ints)

  limit_after : (c h : ℕ) → Hop N c h → r c h ≤ limit N r c h
  limit_after c h on = let o = to_last c h on in let f = limit_is c h on in omega arith

  limit_next : (c h : ℕ) → Hop N c (suc h) → limit N r c (suc h) ≡ limit N r c h + N.delay (N.port c h)
  limit_next c h on = let f = limit_is c h (hop_before N c h on) in let g = limit_is c (suc h) on in omega arith

-- the jobs of a port: the hops from which it sends
abbrev Job : Network → ℕ → Type 0
Job N p = (c : ℕ) × (h : ℕ) × Hop N c h × (N.port c h ≡ p)

-- a schedule, by job
abbrev by_job : (N : Network) (p : ℕ) → Schedule → Job N p → ℕ
by_job N p x j = x j.0 j.1

module _ (N : Network) (t₀ : ℕ) (r : Schedule) (t : ℕ) (x : Schedule) (O : Sound N) (W : Whole N t₀ r) (R : Replays N r t x)
    (two : TwoAtMost N t₀ r t x) where
  -- no cell waits at a port that is not contested
  calm_recorded : (c h : ℕ) → Hop N c h → (Contested N t₀ r t x (N.port c h) → ⊥) → r c h ≡ arrival N r c h
  calm_recorded c h on calm =
      let a = whole N t₀ r W c h on in
      let l = W.all c h on in
      let b : r c h ≤ arrival N r c h = stable _ _ (λ n.
      calm (inl (c, h, record { on = on; at = refl; late = (omega arith, omega arith) }))) in
      omega arith

  calm_replayed : (c h : ℕ) → Hop N c h → arrival N x c h < t → (Contested N t₀ r t x (N.port c h) → ⊥) → x c h ≡ arrival N x c h
  calm_replayed c h on now calm =
      let a = halves (x c h) t (R.sends.after c h on) (λ i. i) in
      let b : x c h ≤ arrival N x c h = stable _ _ (λ n.
      calm (inr (c, h, record { on = on; at = refl; late = (now, omega arith) }))) in
      omega arith

  -- up to the first contested hop the two runs agree
  agree : (c h : ℕ) → Hop N c h → arrival N x c h < t → ((g : ℕ) → g < h → Contested N t₀ r t x (N.port c g) → ⊥)
      → arrival N x c h ≡ arrival N r c h
  agree c zero on now calm = refl
  agree c (suc h) on now calm =
      let b = hop_before N c h on in
      let d = O.apart c h b in
      let a = halves (x c h) t (R.sends.after c h b) (λ i. i) in
      let i : arrival N x c h ≡ arrival N r c h = agree c h b (omega arith) (λ g l. calm g (omega arith)) in
      let e = calm_replayed c h b (omega arith) (calm h (omega arith)) in
      let f = calm_recorded c h b (calm h (omega arith)) in
      omega arith

  -- in the slots below u no cell is late
  InTime : ℕ → Type 0
  InTime u = (c h : ℕ) → Hop N c h → arrival N x c h < u → min (x c h) u ≤ limit N r c h

  -- then what arrives in slot u is not late
  arrives : (u c h : ℕ) → u < t → InTime u → Hop N c h → arrival N x c h ≤ u → arrival N x c h ≤ limit N r c h
  unfolding InTime
  arrives u c zero ut good on l = let a = whole N t₀ r W c zero on in let b = limit_after N t₀ r W c zero on in omega arith
  arrives u c (suc h) ut good on l =
      let b = hop_before N c h on in
      let d = O.apart c h b in
      let a = R.sends.after c h b (omega arith) in
      let i = good c h b (omega arith) in
      let e = limit_next N t₀ r W c h on in
      omega arith

  -- and at a contested port a cell arrives no later than it was sent in the recording
  fits : (u c h : ℕ) → u < t → InTime u → Hop N c h → Contested N t₀ r t x (N.port c h) → arrival N x c h ≤ u → arrival N x c h ≤ r c h
  fits u c h ut good on con l =
      by_cases ((k : ℕ) × (h < k) × (k < N.len c) × Contested N t₀ r t x (N.port c k)) _ _
      -- a later hop is contested, so no earlier one is: up to here the two runs agree
      (λ w.
      let e : arrival N x c h ≡ arrival N r c h = agree c h on (omega arith)
      (λ g gh cg. two c g h w.0 (record { cell = on.cell; hop = w.2 }) gh w.1 cg con w.3) in
      let a = whole N t₀ r W c h on in omega arith)
      -- no later hop is: from here on the cell does not wait in the recording
      (λ none.
      let k = on.hop in
      let e = straight N t₀ r W c h (last N c) on.cell (omega arith) (omega arith)
      (λ g hg gl. calm_recorded c g (record { cell = on.cell; hop = gl }) (λ cg. none (g, hg, gl, cg))) in
      let f = limit_is N t₀ r W c h on in
      let a = arrives u c h ut good on l in omega arith)

  -- so there the recording is a witness, and one slot later no cell of the port is late
  module _ (u : ℕ) (ut : u < t) (good : InTime u) (p : ℕ) (con : Contested N t₀ r t x p) where
    runs : Runs (Job N p) (suc u) (by_job N p (arrival N x)) (by_job N p (limit N r)) (by_job N p x)
    runs = record {
      after = λ j h. R.sends.after j.0 j.1 j.2 (omega arith);
      busy = λ v j vu aj h none.
          let w = R.busy v j.0 j.1 (omega arith) j.2 aj h in
          none (w.0, w.1, w.2, w.3 ∙ j.3) w.4;
      first = λ q j h aj l.
          let z = R.first q.0 q.1 j.0 j.1 q.2 j.2 (q.3 ∙ sym j.3) (omega arith) aj l in
          let e = limit_due N t₀ r W x q.0 q.1 q.2 in
          let f = limit_due N t₀ r W x j.0 j.1 j.2 in
          omega (arith, ints);
    }

    witness : Witness (Job N p) (suc u) 0 (by_job N p (arrival N x)) (by_job N p (limit N r)) (by_job N p x) (by_job N p r)
    witness = record {
      fits = λ j aj. (fits u j.0 j.1 ut good j.2 (rw j.3 con) (omega arith), limit_after N t₀ r W j.0 j.1 j.2);
      same = λ j k e.
          let l = W.all j.0 j.1 j.2 in
          let o = W.sends.alone j.0 j.1 k.0 k.1 j.2 k.2 (j.3 ∙ sym k.3) l e in
          ap₂ x o.0 o.1;
      back = λ j k h e.
          let o = R.sends.alone j.0 j.1 k.0 k.1 j.2 k.2 (j.3 ∙ sym k.3) (omega arith) e in
          ap₂ r o.0 o.1;
      done = λ j h. absurd (omega arith);
      ahead = λ j aj h. omega arith;
    }

    served : (c h : ℕ) → Hop N c h → N.port c h ≡ p → arrival N x c h < suc u → min (x c h) (suc u) ≤ limit N r c h
    served c h on e l =
        earliest_due_first (Job N p) (suc u) (by_job N p (arrival N x)) (by_job N p (limit N r)) (by_job N p x) runs
        (by_job N p r) witness (c, h, on, e) l

  in_time : (u : ℕ) → u ≤ t → InTime u
  unfolding InTime
  in_time zero l c h on now = absurd (omega arith)
  in_time (suc u) l c h on now =
      let good : InTime u = in_time u (omega arith) in
      by_cases (Contested N t₀ r t x (N.port c h)) _ _
      (λ con. served u l good (N.port c h) con c h on refl now)
      (λ calm. let e = calm_replayed c h on (omega arith) calm in let a = arrives u c h l good on (omega arith) in omega arith)

  on_time : IsOnTime N r t x
  unfolding InTime
  on_time = record {
    sent = λ c h on l.
        let a = R.sends.after c h on l in
        let g = in_time t (omega arith) c h on (omega arith) in
        let e = limit_due N t₀ r W x c h on in omega (arith, ints);
    waiting = λ c h on now l.
        let g = in_time t (omega arith) c h on now in
        let e = limit_due N t₀ r W x c h on in omega (arith, ints);
    spare = λ c h on now.
        let a = halves (x c h) t (R.sends.after c h on) (λ i. i) in
        let g = in_time t (omega arith) c h on now in
        let e = limit_due N t₀ r W x c h on in omega (arith, ints);
    left = λ c cn l.
        let on = hop_last N O c cn in
        let a = R.sends.after c (last N c) on l in
        let g = in_time t (omega arith) c (last N c) on (omega arith) in
        let e = limit_is N t₀ r W c (last N c) on in omega arith;
  }

pub on_time_replay : OnTimeReplay
on_time_replay = on_time
