use Rattle.std.proofs.Common.{◌≡◌, ℕ, sym, refl, ap, ◌∙◌, arith}
use Rattle.discipline.proofs.Stays.{at_limits}
use Rattle.discipline.proofs.Tests.{pick_passes_at, withdraw_passes}
use Rattle.layers.proofs.Answering.{answers_through}
use Rattle.layers.specs.Scanning.{old_at, whole_none, whole_some}
use Rattle.layers.proofs.ageing.AgeingDiscipline.pick.Goals as goal

pub returns : goal.returns
returns g c s =
    let w = g.D.Discipline.waiting c.args.self.now.below in
    let limits = g.met.D.Discipline.limits c.args.self.now.below s.0 in
    let o = whole_some w c.args.self.now.age c.args.port c.args.slot limits c.in-Some.oldest (sym (c.in-Some.ensures s.0 s.1)) in
    let at = old_at w c.args.self.now.age c.args.port c.args.slot c.in-Some.oldest o.0 in
    (pick_passes_at w limits c.args.port c.in-Some.oldest at, (refl, refl, (λ k h. (o, (c.in_ok-withdraw.ensures s.0).1), λ n. absurd (n c.in-Some.oldest o.0))))

pub returns-in_err-withdraw : goal.returns-in_err-withdraw
returns-in_err-withdraw g c s =
    let w = g.D.Discipline.waiting c.args.self.now.below in
    let limits = g.met.D.Discipline.limits c.args.self.now.below s.0 in
    let o = whole_some w c.args.self.now.age c.args.port c.args.slot limits c.in-Some.oldest (sym (c.in-Some.ensures s.0 s.1)) in
    let at = old_at w c.args.self.now.age c.args.port c.args.slot c.in-Some.oldest o.0 in
    let b = at_limits w limits c.args.port c.in-Some.oldest at in
    let e = sym (withdraw_passes w c.args.port c.in-Some.oldest b.1 b.0 at) ∙ (c.in_err-withdraw.ensures s.0).0 in
    let z : ◌≡◌ {A = ℕ} 0 1 = cc e in
    absurd (omega arith)

pub returns-in_default : goal.returns-in_default
returns-in_default g c s =
    let w = g.D.Discipline.waiting c.args.self.now.below in
    let limits = g.met.D.Discipline.limits c.args.self.now.below s.0 in
    let none = whole_none w c.args.self.now.age c.args.port c.args.slot limits (sym (c.in_default.ensures s.0 s.1)) in
    answers_through _ _ _ _ _ _ c.pick.result _ _ refl
    (λ z h step. (refl, refl, (λ k o. absurd (none k o), λ n. step)))
    (λ q. ap (λ y. record { age = c.args.self.now.age; slots = c.args.self.now.slots; below = y }) q)
    (c.pick.ensures s.0)
