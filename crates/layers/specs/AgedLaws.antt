-- What ageing owes as a discipline, where the discipline below keeps it.
use Rattle.std.specs.Prelude.{◌≡◌, ℕ, List, Some, None, Option, slice_set, refl}
use Rattle.std.proofs.Common.{sym, ap, ◌∙◌, subst, arith}
use Rattle.discipline.specs.declared.stay.Stay.{Stay}
use Rattle.discipline.specs.Calls.{arrive_test, pick_test, withdraw_test}
use Rattle.discipline.specs.Meaning.{Waiting, Limits, Same, with_cell, without_cell}
use Rattle.discipline.proofs.Stays.{at_limits}
use Rattle.discipline.proofs.Tests.{arrive_tells, withdraw_passes}
use Rattle.layers.specs.Ages.{AgedPick, oldest_below, aged_choice, Noted}
use Rattle.layers.specs.Noting.{noted_with, noted_without}
use Rattle.layers.specs.Scanning.{old_at, whole_none, whole_some, choice_oldest}

-- the cells w wait before the call and x after it; the tables of arrival slots are l and m
module _ (w x : Waiting) (l m : List ℕ) (P : Type 0) where
  -- the table after a cell left
  kept_noted : (c : ℕ) → Noted l w → m ≡ l → Same x (without_cell w c) → Noted m x
  kept_noted c n e h =
      let R : List ℕ → Type 0 = λ k. Noted k x in subst R (sym e) (noted_without l w x c n h)

  -- a cell came
  pub arrived_aged : (p c f : ℕ) (s : Stay) → Noted l w → arrive_test w p c f ≡ None → m ≡ slice_set l c s.slot → P × Same x (with_cell w c s) → (P × Noted m x) × Same x (with_cell w c s)
  arrived_aged p c f s n h e r =
      let R : List ℕ → Type 0 = λ k. Noted k x in
      ((r.0, subst R (sym e) (noted_with l w x c s (let b = (arrive_tells w p c f h).1 in omega arith) n r.1)), r.1)

  -- the oldest cell left, or where none is old the choice q of the discipline below
  pub picked_aged : (a p t c q : ℕ) (W K : Type 0) → Noted l w → Limits w → pick_test w p ≡ None → m ≡ l → AgedPick w a p t c W K → (withdraw_test w p c ≡ None → W → P × Same x (without_cell w c)) → (K → P × (c ≡ q) × Same x (without_cell w c)) → (P × Noted m x) × (c ≡ aged_choice (oldest_below w a p t 256) q) × Same x (without_cell w c)
  picked_aged a p t c q W K n limits h e z withdrawn picked = go (oldest_below w a p t 256) refl
    where
      go : (o : Option ℕ) → oldest_below w a p t 256 ≡ o → (P × Noted m x) × (c ≡ aged_choice (oldest_below w a p t 256) q) × Same x (without_cell w c)
      go None i =
          let r = picked (z.1 (whole_none w a p t limits i)) in
          ((r.0, kept_noted c n e r.2), r.1 ∙ sym (ap (λ o. aged_choice o q) i), r.2)
      go (Some y) i =
          let o = whole_some w a p t limits y i in
          let k = z.0 y o.0 in
          let at = old_at w a p t c k.0.0 in
          let b = at_limits w limits p c at in
          let r = withdrawn (withdraw_passes w p c b.1 b.0 at) k.1 in
          ((r.0, kept_noted c n e r.1), choice_oldest w a p t limits q c k.0, r.1)

  -- a cell left
  pub withdrawn_aged : (c : ℕ) → Noted l w → m ≡ l → P × Same x (without_cell w c) → (P × Noted m x) × Same x (without_cell w c)
  withdrawn_aged c n e r = ((r.0, kept_noted c n e r.1), r.1)
