use Rattle.std.proofs.Common.{rules, ◌≡◌, ◌<◌, ◌^◌, sum_by, length, vec_items, ◌∙◌, arith}
use Rattle.std.proofs.iter.runs.Made.{chains}
use Rattle.plan.specs.Cells.{planned}
use Rattle.plan.proofs.Facts.{few_hops, hops_sum}
use Rattle.plan.proofs.plan.Plan.hops.Goals as goal

pub sum-requires-clause-fits : goal.sum-requires-clause-fits
sum-requires-clause-fits c =
    let few : sum_by (λ x. length (planned x).route) (vec_items c.args.self.now.cells) < 2 ^ 64 =
    omega (arith, hops_sum (vec_items c.args.self.now.cells), few_hops c.args.self.now) in
    search (rules, chains)

pub returns : goal.returns
returns c =
    let found : c.sum.result ≡ sum_by (λ x. length (planned x).route) (vec_items c.args.self.now.cells) = search (rules, chains) in
    let all = found ∙ hops_sum (vec_items c.args.self.now.cells) in
    omega (arith, all)
