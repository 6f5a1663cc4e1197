-- What the tests of the calls tell where they pass, and when they pass.
use Rattle.std.proofs.Common.{◌≡◌, ℕ, ◌<◌, ◌≤◌, false, not, ◌||◌, eqb, ltb, is_some, None, Some, Option, refl, ap, ◌∙◌, arith}
use Rattle.std.proofs.lemmas.Bool.{eqb-false, ne_eqb, ltb-false, le-ltb, not-false, or_parts, or_from}
use Rattle.refusal.specs.Tests.{when, or_else}
use Rattle.refusal.specs.declared.Refusal.TheVariants.{OutOfRange, AlreadyWaits, NoneWaits, NotWaiting}
use Rattle.refusal.proofs.Ordered.{or_else_passes, when_passes}
use Rattle.discipline.specs.Calls.{arrive_test, pick_test, withdraw_test}
use Rattle.discipline.specs.Meaning.{Waiting, At, Limits, Lawful, waits_at, count_at}
use Rattle.discipline.specs.declared.stay.Stay.{Stay}
use Rattle.discipline.proofs.Counting.{passing_some, passing_find}
use Rattle.discipline.proofs.Stays.{at_limit, at_limits}

pub none_waits : (o : Option Stay) → is_some o ≡ false → o ≡ None
none_waits None h = refl
none_waits (Some s) h = let z : ◌≡◌ {A = ℕ} 0 1 = cc in absurd (omega arith)

-- a test that passes finds the numbers in range, and then the cell free, or a cell there
pub arrive_tells : (w : Waiting) (p c f : ℕ) → arrive_test w p c f ≡ None → (p ≤ 31) × (c ≤ 255) × (f ≤ 7) × (w c ≡ None)
arrive_tells w p c f h =
    let both = or_else_passes (when (ltb 31 p || (ltb 255 c || ltb 7 f)) OutOfRange) (when (is_some (w c)) AlreadyWaits) h in
    let range = or_parts (ltb 31 p) (ltb 255 c || ltb 7 f) (when_passes _ _ both.0) in
    let rest = or_parts (ltb 255 c) (ltb 7 f) range.1 in
    (ltb-false 31 p range.0, ltb-false 255 c rest.0, ltb-false 7 f rest.1, none_waits (w c) (when_passes _ _ both.1))

pub pick_tells : (w : Waiting) (p : ℕ) → pick_test w p ≡ None → (p ≤ 31) × (0 < count_at w p)
pick_tells w p h =
    let both = or_else_passes (when (ltb 31 p) OutOfRange) (when (eqb (count_at w p) 0) NoneWaits) h in
    let some = eqb-false (count_at w p) 0 (when_passes _ _ both.1) in
    (ltb-false 31 p (when_passes _ _ both.0), omega arith)

pub withdraw_tells : (w : Waiting) (p c : ℕ) → withdraw_test w p c ≡ None → (p ≤ 31) × (c ≤ 255) × At w p c
withdraw_tells w p c h =
    let both = or_else_passes (when (ltb 31 p || ltb 255 c) OutOfRange) (when (not (waits_at w p c)) NotWaiting) h in
    let range = or_parts (ltb 31 p) (ltb 255 c) (when_passes _ _ both.0) in
    (ltb-false 31 p range.0, ltb-false 255 c range.1, not-false (waits_at w p c) (when_passes _ _ both.1))

-- the test that stands last, where the numbers are in range
pub arrive_last : (w : Waiting) (p c f : ℕ) → p ≤ 31 → c ≤ 255 → f ≤ 7 → arrive_test w p c f ≡ when (is_some (w c)) AlreadyWaits
arrive_last w p c f lp lc lf =
    ap (λ b. or_else (when b OutOfRange) (when (is_some (w c)) AlreadyWaits))
    (or_from (ltb 31 p) (ltb 255 c || ltb 7 f) (le-ltb 31 p lp) (or_from (ltb 255 c) (ltb 7 f) (le-ltb 255 c lc) (le-ltb 7 f lf)))

pub pick_last : (w : Waiting) (p n : ℕ) → p ≤ 31 → count_at w p ≡ n → pick_test w p ≡ when (eqb n 0) NoneWaits
pick_last w p n l h =
    ap (λ b. or_else (when b OutOfRange) (when (eqb (count_at w p) 0) NoneWaits)) (le-ltb 31 p l)
    ∙ ap (λ m. when (eqb m 0) NoneWaits) h

pub withdraw_last : (w : Waiting) (p c : ℕ) → p ≤ 31 → c ≤ 255 → withdraw_test w p c ≡ when (not (waits_at w p c)) NotWaiting
withdraw_last w p c lp lc =
    ap (λ b. or_else (when b OutOfRange) (when (not (waits_at w p c)) NotWaiting))
    (or_from (ltb 31 p) (ltb 255 c) (le-ltb 31 p lp) (le-ltb 255 c lc))

-- so it passes where the cell is free, or a cell is there
pub arrive_passes : (w : Waiting) (p c f : ℕ) → p ≤ 31 → c ≤ 255 → f ≤ 7 → w c ≡ None → arrive_test w p c f ≡ None
arrive_passes w p c f lp lc lf h = arrive_last w p c f lp lc lf ∙ ap (λ o. when (is_some o) AlreadyWaits) h

pub pick_passes : (w : Waiting) (p : ℕ) → p ≤ 31 → 0 < count_at w p → pick_test w p ≡ None
pick_passes w p l some = pick_last w p (count_at w p) l refl ∙ ap (λ b. when b NoneWaits) (ne_eqb (count_at w p) 0 (λ e. omega arith))

pub withdraw_passes : (w : Waiting) (p c : ℕ) → p ≤ 31 → c ≤ 255 → At w p c → withdraw_test w p c ≡ None
withdraw_passes w p c lp lc h = withdraw_last w p c lp lc ∙ ap (λ b. when (not b) NotWaiting) h

-- a pick at a port where a cell waits
pub pick_passes_at : (w : Waiting) → Limits w → (p c : ℕ) → At w p c → pick_test w p ≡ None
pick_passes_at w limits p c a =
    pick_passes w p (at_limits w limits p c a).1 (passing_some 256 (waits_at w p) c (at_limit w limits p c a) a)

-- finds its choice waiting
pub chosen_at : (w : Waiting) (p x : ℕ) → pick_test w p ≡ None → Lawful w p x → At w p x
chosen_at w p x h lawful =
    let k = passing_find 256 (waits_at w p) (pick_tells w p h).1 in lawful k.0 k.2
