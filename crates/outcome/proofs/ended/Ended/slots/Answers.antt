use Rattle.std.proofs.Common.{length, take, ap, ◌∙◌, arith}
use Rattle.std.proofs.lemmas.List.{length-map, length-take}
use Rattle.plan.proofs.Facts.{few_hops}
use Rattle.outcome.specs.Ends.{slot_told}
use Rattle.outcome.proofs.ended.Ended.slots.Goals as goal

pub push-requires : goal.push-requires
push-requires c =
    let hops = take c.hops.result c.args.self.now.log.now in
    let so_far = ap length c.loop-hop.invariant ∙ length-map (take c.loop-hop.hop-index hops) slot_told ∙ length-take c.loop-hop.hop-index hops in
    let few = few_hops c.plan.result.now in
    let all = length-take c.hops.result c.args.self.now.log.now in
    (omega arith, omega arith)
