-- The records of the cells.
use Rattle.std.proofs.Common.{◌≡◌, ℕ, ◌<◌, List, length, get_or, drop, set, sym, ap, ◌∙◌, subst, inl, inr, length-set}
use Rattle.std.specs.List.{refill}
use Rattle.std.proofs.lemmas.List.{get_or-set_same, get_or-set_other, take_at}
use Rattle.std.proofs.lemmas.Bool.{cases_eq}
use Rattle.plan.specs.Cells.{Planned}
use Rattle.run.specs.Offsets.{no_record, Offsets}
use Rattle.rules.specs.declared.condition.CellRecord.{CellRecord}

-- a record that keeps the place of its first hop
offsets_set : (cs : List Planned) (rs : List CellRecord) (c : ℕ) (r : CellRecord) → c < length rs
    → r.first ≡ (get_or rs c no_record).first → Offsets cs rs → Offsets cs (set rs c r)
offsets_set cs rs c r l e o k m =
    elim (cases_eq k c) [
      | inl q ↦ ap (λ j. (get_or (set rs c r) j no_record).first) q ∙ ap (λ x. x.first) (get_or-set_same rs c r no_record l) ∙ e
          ∙ ap (λ j. (get_or rs j no_record).first) (sym q) ∙ o k m
      | inr q ↦ ap (λ x. x.first) (get_or-set_other rs c k r no_record q) ∙ o k m
    ]

-- the same of one that was written in the vector's slice xs
pub offsets_written : (cs : List Planned) (rs xs : List CellRecord) (c : ℕ) (r : CellRecord) → xs ≡ rs → c < length rs
    → r.first ≡ (get_or xs c no_record).first → Offsets cs rs → Offsets cs (refill (length rs) rs (set xs c r))
offsets_written cs rs xs c r e l f o =
    let whole = take_at (set xs c r) (drop (length (set xs c r)) rs) (length rs) (length-set xs c r ∙ ap length e) ∙ ap (λ ys. set ys c r) e in
    subst (Offsets cs) (sym whole) (offsets_set cs rs c r l (f ∙ ap (λ ys. (get_or ys c no_record).first) e) o)
