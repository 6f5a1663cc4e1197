use Rattle.std.proofs.Common.{◌≡◌, ℕ, Option, sym, ◌∙◌, subst}
use Rattle.layers.specs.Ages.{Held}
use Rattle.layers.specs.Scanning.{scan_none, scan_young, scan_noted}
use Rattle.layers.proofs.ageing.Ageing.oldest.Goals as goal
use Rattle.layers.proofs.ageing.Ageing.oldest.Goals.{then-is_old, else-is_old}

held_is : (x y : Option ℕ) → x ≡ y → Held y → Held x
held_is x y e h = let P : Option ℕ → Type 0 = Held in subst P (sym e) h

pub loop-cell-init : goal.loop-cell-init
loop-cell-init g c = (tt, λ s n. sym (scan_none _ _ _ _))

pub loop-cell-preserved : goal.loop-cell-preserved
loop-cell-preserved g c =
    elim c.if-is_old.branch [
      | then-is_old w ↦ (
        held_is _ _ w.best-is w.earlier-best.ensures.held,
        λ s n. scan_noted _ _ _ _ c.args.self.now.slots c.loop-cell.cell c.loop-cell.best c.if-is_old.best n (sym (w.if-is_old.ensures s n)) (c.loop-cell.invariant.1 s n) (w.best-is ∙ w.earlier-best.ensures.is),
      )
      | else-is_old w ↦ (
        held_is _ _ w.best-is c.loop-cell.invariant.0,
        λ s n. w.best-is ∙ c.loop-cell.invariant.1 s n ∙ sym (scan_young _ _ _ _ c.loop-cell.cell (sym (w.if-is_old.ensures s n))),
      )
    ]
