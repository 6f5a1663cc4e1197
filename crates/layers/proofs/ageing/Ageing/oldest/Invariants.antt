use Rattle.std.proofs.Common.{◌≡◌}
use Rattle.layers.specs.Ages.{oldest_below, Noted, Held}
use Rattle.layers.proofs.ageing.Ageing.oldest.Given as goal

abbrev pub invariant-loop-cell : goal.invariant-loop-cell
invariant-loop-cell g l =
    Held l.best × (g.D.Discipline.sound l.self.below → Noted l.self.slots (g.D.Discipline.waiting l.self.below) → l.best ≡ oldest_below (g.D.Discipline.waiting l.self.below) l.self.age l.port l.slot l.cell)
