-- By when each cell has left: if a cell is not sent from some hop before slot w, then w is at most i + l * (the sendings before slot w).
use Rattle.std.proofs.Common.{◌≡◌, ℕ, zero, suc, ◌+◌, ◌-◌, ◌*◌, ◌<◌, ◌≤◌, min, refl, mul-le-mul_right, arith}
use native.Mathlib.Decide.{dec_le, dec_lt}
use Rattle.network.specs.Bound.{Ends}
use Rattle.network.specs.Networks.{Network, Hop, Sound, sum, hops}
use Rattle.network.specs.Schedules.{Schedule, arrival, WorkConserving}
use Rattle.network.proofs.Hops.{hop_before}

sum_le : (f g : ℕ → ℕ) (n : ℕ) → ((k : ℕ) → k < n → f k ≤ g k) → sum f n ≤ sum g n
sum_le f g zero h = omega arith
sum_le f g (suc n) h = let i = sum_le f g n (λ k l. h k (omega arith)) in let j = h n (omega arith) in omega arith

-- one that is less makes the sum less
sum_lt : (f g : ℕ → ℕ) (n : ℕ) → ((k : ℕ) → k < n → f k ≤ g k) → (m : ℕ) → m < n → f m < g m → sum f n < sum g n
sum_lt f g zero h m mn l = absurd (omega arith)
sum_lt f g (suc n) h m mn l = elim (dec_lt m n) [
  | yes k ↦ (let i = sum_lt f g n (λ k l. h k (omega arith)) m k l in let j = h n (omega arith) in omega arith)
  | no k ↦ (
      let e : m ≡ n = omega arith in
      let j : f n < g n = (rw e at l) in
      let i = sum_le f g n (λ k l. h k (omega arith)) in omega arith)
]

sum_one : (n : ℕ) → sum (λ _. 1) n ≡ n
sum_one zero = refl
sum_one (suc n) = let i = sum_one n in omega arith

-- f over all hops of all cells
abbrev total : Network → (ℕ → ℕ → ℕ) → ℕ
total N f = sum (λ c. sum (f c) (N.len c)) N.cells

total_lt : (N : Network) (f g : ℕ → ℕ → ℕ) → ((c h : ℕ) → f c h ≤ g c h) → (c h : ℕ) → Hop N c h → f c h < g c h → total N f < total N g
total_lt N f g le c h on l =
    sum_lt (λ c. sum (f c) (N.len c)) (λ c. sum (g c) (N.len c)) N.cells (λ c _. sum_le (f c) (g c) (N.len c) (λ h _. le c h))
    c on.cell (sum_lt (f c) (g c) (N.len c) (λ h _. le c h) h on.hop l)

total_one : (N : Network) → total N (λ _ _. 1) ≡ hops N
total_one N = go N.cells
  where
    go : (n : ℕ) → sum (λ c. sum (λ _. 1) (N.len c)) n ≡ sum N.len n
    go zero = refl
    go (suc n) = let i = go n in let j = sum_one (N.len n) in omega arith

-- 1 where slot v is below w, else 0
bit : ℕ → ℕ → ℕ
bit w v = min 1 (w - v)

-- the sendings in the slots below w
count : Network → Schedule → ℕ → ℕ
count N x w = total N (λ c h. bit w (x c h))

count_more : (N : Network) (x : Schedule) (v w c h : ℕ) → Hop N c h → v ≤ x c h → x c h < w → count N x v < count N x w
unfolding count bit
count_more N x v w c h on l m = total_lt N (λ c h. bit v (x c h)) (λ c h. bit w (x c h)) (λ c h. omega arith) c h on (omega arith)

count_below : (N : Network) (x : Schedule) (w c h : ℕ) → Hop N c h → w ≤ x c h → count N x w < hops N
unfolding count bit
count_below N x w c h on l =
    let i = total_lt N (λ c h. bit w (x c h)) (λ _ _. 1) (λ c h. omega arith) c h on (omega arith) in
    let e = total_one N in omega arith

module _ (N : Network) (t : ℕ) (x : Schedule) (i l : ℕ) (O : Sound N) (busy : WorkConserving N t x)
    (enters : (c : ℕ) → c < N.cells → N.entry c ≤ i) (longest : (c h : ℕ) → Hop N c h → N.delay (N.port c h) ≤ l) where
  abbrev Early : ℕ → Type 0
  Early w = (c h : ℕ) → Hop N c h → w ≤ x c h → w ≤ i + count N x w * l

  -- a cell waits in slot v: then one is sent in it
  waits : (v : ℕ) → v < t → Early v → (c h : ℕ) → Hop N c h → v < x c h → arrival N x c h ≤ v → suc v ≤ i + count N x (suc v) * l
  waits v vt early c h on late a =
      let w = busy v c h vt on a (omega arith) in
      let e : x w.0 w.1 ≡ v = w.4 in
      let d = O.apart c h on in
      let f = longest c h on in
      let m = count_more N x v (suc v) w.0 w.1 w.2 (omega arith) (omega arith) in
      let j = early c h on (omega arith) in
      let k = mul-le-mul_right l m in omega arith

  -- a cell that is not sent by slot v waits, or was sent from the hop before less than l slots ago, or has yet to enter
  more : (v : ℕ) → v < t → ((w : ℕ) → w ≤ v → Early w) → (c h : ℕ) → Hop N c h → v < x c h → suc v ≤ i + count N x (suc v) * l
  more v vt ih c zero on late = elim (dec_le (N.entry c) v) [
    | yes a ↦ waits v vt (ih v (omega arith)) c zero on late a
    | no a ↦ (let e = enters c on.cell in omega arith)
  ]
  more v vt ih c (suc h) on late = elim (dec_le (arrival N x c (suc h)) v) [
    | yes a ↦ waits v vt (ih v (omega arith)) c (suc h) on late a
    | no a ↦ (
        let b = hop_before N c h on in
        elim (dec_le (suc v) (x c h)) [
          | yes n ↦ more v vt ih c h b n
          | no n ↦ (
              let d = longest c h b in
              let j = ih (x c h) (omega arith) c h b (omega arith) in
              let m = count_more N x (x c h) (suc v) c h b (omega arith) (omega arith) in
              let k = mul-le-mul_right l m in omega arith)
        ])
  ]

  early : (w : ℕ) → w ≤ t → (v : ℕ) → v ≤ w → Early v
  early zero wt v vw c h on late = omega arith
  early (suc w) wt v vw c h on late = elim (dec_le v w) [
    | yes a ↦ early w (omega arith) v a c h on late
    | no a ↦ (
        let e : suc w ≡ v = omega arith in
        let m = more w wt (early w (omega arith)) c h on (omega arith) in
        rw e at m)
  ]

  ends : (c h : ℕ) → Hop N c h → min (x c h) t ≤ i + (hops N - 1) * l
  ends c h on =
      let w : ℕ = min (x c h) t in
      let b = count_below N x w c h on (omega arith) in
      let j = early t (omega arith) w (omega arith) c h on (omega arith) in
      let p : count N x w ≤ hops N - 1 = omega arith in
      let k = mul-le-mul_right l p in omega arith

pub all_end : Ends
all_end = ends
