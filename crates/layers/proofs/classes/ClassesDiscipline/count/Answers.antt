use Rattle.std.proofs.Common.{◌≡◌, Ok, sym, ap, ◌∙◌, arith}
use Rattle.refusal.specs.Tests.{when}
use Rattle.refusal.specs.declared.Refusal.TheVariants.{OutOfRange}
use Rattle.discipline.specs.Calls.{told}
use Rattle.discipline.specs.Meaning.{waits_at, count_at}
use Rattle.discipline.proofs.Counting.{passing_few}
use Rattle.layers.specs.Halves.{joined}
use Rattle.layers.specs.Joining.{count_joined}
use Rattle.layers.proofs.Answering.{passed_told}
use Rattle.layers.proofs.classes.ClassesDiscipline.count.Goals as goal

pub returns : goal.returns
returns g c s =
    let v = g.F.Discipline.waiting c.args.self.now.first in
    let w = g.S.Discipline.waiting c.args.self.now.second in
    let p = c.args.port in
    let a = passed_told _ OutOfRange (count_at v p) c.in_ok-first.first (c.in_ok-first.ensures s.0) in
    let b = passed_told _ OutOfRange (count_at w p) c.in_ok-second.second (c.in_ok-second.ensures s.1) in
    let sum = count_joined v w p s.2 in
    let few = passing_few 256 (waits_at v p) in
    let fews = passing_few 256 (waits_at w p) in
    let x = a.1 in
    let y = b.1 in
    let same : c.saturating_add.result ≡ count_at (joined v w) p = omega arith in
    ap (λ n. Ok n) same ∙ sym (ap (λ q. told (when q OutOfRange) (count_at (joined v w) p)) a.0)
