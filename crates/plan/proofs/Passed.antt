-- What passes the tests fits the plan.
use Rattle.std.proofs.Common.{◌≡◌, ℕ, zero, suc, ◌+◌, ◌-◌, ◌<◌, ◌≤◌, Bool, false, not, ◌||◌, eqb, ltb, leb, List, [], ◌∷◌, length, get_or, drop, None, sym, refl, ◌∙◌, add-one, arith}
use Rattle.std.proofs.lemmas.List.{get_or-drop, length-drop}
use Rattle.std.proofs.lemmas.Bool.{and_parts, or_parts, not-false, leb-true, leb-false, ltb-false, eqb-false}
use Rattle.refusal.specs.declared.Refusal.TheVariants.{BadRouteLength, UnknownPort, PortTwice, BadFlow, PlanFull}
use Rattle.refusal.specs.Tests.{when, or_else}
use Rattle.refusal.proofs.Ordered.{or_else_passes, when_passes}
use Rattle.plan.specs.Cells.{Routed, Fitting, has, names_unknown, names_twice, within, route_test, cell_test}

-- A test of a list that holds where t holds of some element and of what stands behind it: where it does not hold, t holds
-- nowhere.
module _ (F : List ℕ → Bool) (t : ℕ → List ℕ → Bool) (cons : (x : ℕ) (xs : List ℕ) → F (x ∷ xs) ≡ (t x xs || F xs)) where
  false_at : (xs : List ℕ) (i : ℕ) → F xs ≡ false → i < length xs → t (get_or xs i 0) (drop (i + 1) xs) ≡ false
  false_at [] i h l = absurd (omega arith)
  false_at (x ∷ xs) zero h l = (or_parts (t x xs) (F xs) (sym (cons x xs) ∙ h)).0
  false_at (x ∷ xs) (suc i) h l = rw add-one (rw add-one at (false_at xs i (or_parts (t x xs) (F xs) (sym (cons x xs) ∙ h)).1 (omega arith)))

-- a number within bounds
pub within_parts : (low high x : ℕ) → not (within low high x) ≡ false → (low ≤ x) × (x ≤ high)
within_parts low high x h =
    let p = and_parts (leb low x) (leb x high) (not-false (within low high x) h) in
    (leb-true low x p.0, leb-true x high p.1)

not_had : (xs : List ℕ) (x i : ℕ) → has xs x ≡ false → i < length xs → get_or xs i 0 ≡ x → ⊥
not_had xs x i h l =
    eqb-false (get_or xs i 0) x (false_at (λ ys. has ys x) (λ y _. eqb y x) (λ y ys. refl) xs i h l)

-- a route that passes the tests fits the plan
pub route_fits : (n c : ℕ) (r : List ℕ) → route_test n c r ≡ None → Routed n r
route_fits n c r h =
    let a = or_else_passes (when (not (within 1 8 (length r))) (BadRouteLength c)) (or_else (when (names_unknown n r) (UnknownPort c)) (when (names_twice r) (PortTwice c))) h in
    let b = or_else_passes (when (names_unknown n r) (UnknownPort c)) (when (names_twice r) (PortTwice c)) a.1 in
    let long = within_parts 1 8 (length r) (when_passes _ _ a.0) in
    let known = when_passes (names_unknown n r) _ b.0 in
    let once = when_passes (names_twice r) _ b.1 in (
      omega (arith, long.0),
      long.1,
      (λ i l. leb-false n (get_or r i 0) (false_at (names_unknown n) (λ x _. leb n x) (λ x xs. refl) r i known l)),
      (λ i j l m e.
          let rest = false_at names_twice (λ x xs. has xs x) (λ x xs. refl) r i once (omega arith) in
          let at : i + 1 + (j - (i + 1)) ≡ j = omega arith in
          not_had (drop (i + 1) r) (get_or r i 0) (j - (i + 1)) rest (simp length-drop (omega arith)) (rw (get_or-drop, at) (sym e))),
    )

-- so does a cell, and there is room for it
pub cell_fits : (n c entry flow : ℕ) (r : List ℕ) → entry ≤ 65535 → cell_test n c flow r ≡ None → Fitting n (record { entry = entry; flow = flow; route = r }) × (c < 256)
cell_fits n c entry flow r l h =
    let a = or_else_passes (route_test n c r) (or_else (when (ltb 7 flow) (BadFlow c)) (when (leb 256 c) (PlanFull c))) h in
    let b = or_else_passes (when (ltb 7 flow) (BadFlow c)) (when (leb 256 c) (PlanFull c)) a.1 in
    ((l, ltb-false 7 flow (when_passes _ _ b.0), route_fits n c r a.0), leb-false 256 c (when_passes _ _ b.1))
