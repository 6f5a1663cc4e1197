use Rattle.std.proofs.Common.{◌≡◌, ltb, Ok, refl, ap, arith, rules}
use Rattle.std.proofs.lemmas.Bool.{eq-eqb, ne_eqb}
use Rattle.refusal.specs.Tests.{when}
use Rattle.refusal.specs.declared.Refusal.TheVariants.{OutOfRange}
use Rattle.discipline.specs.Calls.{told}
use Rattle.discipline.specs.Meaning.{count_at}
use Rattle.layers.proofs.Answering.{answers_through, passed_told}
use Rattle.layers.specs.Joining.{pick_first, pick_second}
use Rattle.layers.specs.Ways.{yes_either, no_either}
use Rattle.layers.proofs.classes.ClassesDiscipline.pick.Goals as goal

pub returns-else-branch-gt0 : goal.returns-else-branch-gt0
returns-else-branch-gt0 g c s =
    let v = g.F.Discipline.waiting c.args.self.now.first in
    let w = g.S.Discipline.waiting c.args.self.now.second in
    let counted : Ok c.in_ok-count.field-0 ≡ told (when (ltb 31 c.args.port) OutOfRange) (count_at v c.args.port) = search (rules, c.in_ok-count.ensures) in
    let a = passed_told (ltb 31 c.args.port) OutOfRange (count_at v c.args.port) c.in_ok-count.field-0 counted in
    let n : count_at v c.args.port ≡ 0 = let x = a.1 in omega arith in
    answers_through _ _ _ _ _ _ c.pick-else-branch-gt0.result _ _ (pick_second v w c.args.port s.2 n)
    (λ z h step. (refl, yes_either _ _ _ (eq-eqb (count_at v c.args.port) 0 n) (step, refl)))
    (λ q. ap (λ y. record { below = c.args.self.now.below; first = c.args.self.now.first; second = y }) q)
    (c.pick-else-branch-gt0.ensures s.1)

pub returns-then-branch-gt0 : goal.returns-then-branch-gt0
returns-then-branch-gt0 g c s =
    let v = g.F.Discipline.waiting c.args.self.now.first in
    let w = g.S.Discipline.waiting c.args.self.now.second in
    let counted : Ok c.in_ok-count.field-0 ≡ told (when (ltb 31 c.args.port) OutOfRange) (count_at v c.args.port) = search (rules, c.in_ok-count.ensures) in
    let a = passed_told (ltb 31 c.args.port) OutOfRange (count_at v c.args.port) c.in_ok-count.field-0 counted in
    let n : count_at v c.args.port ≡ 0 → ⊥ = λ z. let x = a.1 in omega arith in
    answers_through _ _ _ _ _ _ c.pick.result _ _ (pick_first v w c.args.port s.2 n)
    (λ z h step. (refl, no_either _ _ _ (ne_eqb (count_at v c.args.port) 0 n) (step, refl)))
    (λ q. ap (λ x. record { below = c.args.self.now.below; first = x; second = c.args.self.now.second }) q)
    (c.pick.ensures s.0)
