-- At one port, earliest due first is best. The jobs have arrivals a, due slots d and slots x in which they are sent; x j is t or more
-- where job j is not sent in the slots below t. If some schedule of the port sends each job by its due slot, the witness, then so does
-- x. The proof is by exchange: slot by slot the witness is turned into x.
use Rattle.std.proofs.Common.{◌≡◌, ℕ, zero, suc, ◌<◌, ◌≤◌, min, ◌≢◌, ◌⊎◌, refl, ap, inl, inr, arith}
use native.Mathlib.Decide.{ℕ_discrete}
use Rattle.network.proofs.Cases.{stable, halves, alike}

-- u and v change places
swap_by : (u v n : ℕ) → Dec (n ≡ u) → Dec (n ≡ v) → ℕ
swap_by u v n (yes p) b = v
swap_by u v n (no p) (yes q) = u
swap_by u v n (no p) (no q) = n

swap : ℕ → ℕ → ℕ → ℕ
swap u v n = swap_by u v n (ℕ_discrete n u) (ℕ_discrete n v)

abbrev Swapped : ℕ → ℕ → ℕ → ℕ → Type 0
Swapped u v n m = ((n ≡ u) × (m ≡ v)) ⊎ (((n ≢ u) × (n ≡ v) × (m ≡ u)) ⊎ ((n ≢ u) × (n ≢ v) × (m ≡ n)))

swapped_by : (u v n : ℕ) (a : Dec (n ≡ u)) (b : Dec (n ≡ v)) → Swapped u v n (swap_by u v n a b)
unfolding swap_by
swapped_by u v n (yes p) b = inl (p, refl)
swapped_by u v n (no p) (yes q) = inr (inl (p, q, refl))
swapped_by u v n (no p) (no q) = inr (inr (p, q, refl))

swapped : (u v n : ℕ) → Swapped u v n (swap u v n)
unfolding swap
swapped u v n = swapped_by u v n (ℕ_discrete n u) (ℕ_discrete n v)

swap_same : (u v m n : ℕ) → swap u v m ≡ swap u v n → m ≡ n
swap_same u v m n e =
    let p : Swapped u v m (swap u v m) = swapped u v m in
    let q : Swapped u v n (swap u v n) = swapped u v n in
    omega arith

-- x is work-conserving and sends what is due first
pub record Runs (J : Type 0) (t : ℕ) (a d x : J → ℕ) : Type 0 where
  pub after : (j : J) → x j < t → a j ≤ x j
  pub busy : (u : ℕ) (j : J) → u < t → a j ≤ u → u ≤ x j → ((q : J) → x q ≡ u → ⊥) → ⊥
  pub first : (q j : J) → x q < t → a j ≤ x q → x q ≤ x j → d q ≤ d j

-- The witness s sends each job by its due slot, and agrees with x on the slots below u. Both send one job a slot: jobs with one slot
-- in s have one in x, and the other way round.
pub record Witness (J : Type 0) (t u : ℕ) (a d x s : J → ℕ) : Type 0 where
  pub fits : (j : J) → a j < t → (a j ≤ s j) × (s j ≤ d j)
  pub same : (j k : J) → s j ≡ s k → x j ≡ x k
  pub back : (j k : J) → x j < t → x j ≡ x k → s j ≡ s k
  pub done : (j : J) → x j < u → s j ≡ x j
  pub ahead : (j : J) → a j < t → u ≤ x j → u ≤ s j

module _ (J : Type 0) (t : ℕ) (a d x : J → ℕ) (R : Runs J t a d x) where
  -- no job is sent in slot u: none has arrived, so the witness sends none either
  idle : (u : ℕ) (s : J → ℕ) → u < t → Witness J t u a d x s → ((q : J) → x q ≡ u → ⊥) → Witness J t (suc u) a d x s
  idle u s ut w none = record {
    fits = w.fits;
    same = w.same;
    back = w.back;
    done = λ j h. let ne : x j ≢ u = none j in w.done j (omega arith);
    ahead = λ j aj h.
        let lo : u ≤ s j = w.ahead j aj (omega arith) in
        let ne : s j ≢ u = λ i. R.busy u j ut (let f = w.fits j aj in omega arith) (omega arith) none in
        omega arith;
  }

  -- q is sent in slot u: the job that the witness has in slot u goes where it has q, which is no later than q is due
  exchange : (u : ℕ) (s : J → ℕ) → u < t → Witness J t u a d x s → (q : J) → x q ≡ u
      → Witness J t (suc u) a d x (λ j. swap u (s q) (s j))
  exchange u s ut w q e =
      let aq : a q ≤ u = (let h : a q ≤ x q = R.after q (omega arith) in omega arith) in
      let uq : u ≤ s q = w.ahead q (omega arith) (omega arith) in
      record {
        fits = λ j aj.
            let f = w.fits j aj in
            let g = w.fits q (omega arith) in
            let sw = swapped u (s q) (s j) in
            let kept = halves (x j) u (w.done j) (λ h. h) in
            let due = alike (s j) u (λ i. R.first q j (omega arith) (omega arith) (omega arith)) in
            let here = alike (s j) (s q) (λ i.
            let o : x j ≡ x q = w.same j q i in
            let h : a j ≤ x j = R.after j (omega arith) in
            let k : a j ≤ u = omega arith in k) in
            omega arith;
        same = λ j k h. w.same j k (swap_same u (s q) (s j) (s k) h);
        back = λ j k h i. ap (swap u (s q)) (w.back j k h i);
        done = λ j h.
            let sw = swapped u (s q) (s j) in
            let kept = halves (x j) u (w.done j) (λ i. w.back q j (omega arith) (omega arith)) in
            omega arith;
        ahead = λ j aj h.
            let sw = swapped u (s q) (s j) in
            let lo : u ≤ s j = w.ahead j aj (omega arith) in
            let ne : s j ≢ s q = λ i. let o : x j ≡ x q = w.same j q i in omega arith in
            omega arith;
      }

  -- slot by slot: some witness agrees with x on the slots below u
  turned : (s : J → ℕ) → Witness J t 0 a d x s → (u : ℕ) → u ≤ t → ((s' : J → ℕ) → Witness J t u a d x s' → ⊥) → ⊥
  turned s w zero h k = k s w
  turned s w (suc u) h k =
      turned s w u (omega arith) (λ s' w'.
      let none : (q : J) → x q ≡ u → ⊥ = λ q e. k (λ j. swap u (s' q) (s' j)) (exchange u s' h w' q e) in
      k s' (idle u s' h w' none))

  -- no job that has arrived is sent, or still waits, after it is due
  pub earliest_due_first : (s : J → ℕ) → Witness J t 0 a d x s → (j : J) → a j < t → min (x j) t ≤ d j
  earliest_due_first s w j aj = stable _ _ (λ late. turned s w t (omega arith) (λ s' w'.
      let f = w'.fits j aj in
      let kept = halves (x j) t (w'.done j) (w'.ahead j aj) in
      omega arith))
