use Rattle.std.proofs.Common.{◌+◌, cond, ltb, sym, ap, ◌∙◌, arith}
use Rattle.layout.specs.Placed.{hop_start, hops_of}
use Rattle.layout.proofs.Placing.{placed_none}
use Rattle.layout.proofs.Steps.{route_more, route_all}
use Rattle.layout.proofs.writer.put_route.Goals as goal

pub loop-position-init : goal.loop-position-init
loop-position-init g c = sym (placed_none _ _)

pub loop-position-preserved : goal.loop-position-preserved
loop-position-preserved g c =
    let x = g.S.Source.content c.args.s.now in
    route_more (hops_of x c.args.cell) c.args.out.now (1 + c.args.before) (hop_start x c.args.before) c.loop-position.position
    c.hop.result (omega arith) (omega arith) c.loop-position.invariant c.put.ensures (omega arith)
    (c.next_index-next.ensures ∙ ap (λ n. cond (ltb (c.loop-position.position + 1) n) (1 + c.args.before + c.loop-position.position + 1) 0) c.cell-hops.ensures.hops)
    c.hop.ensures c.hop_record-record.ensures

pub returns : goal.returns
returns g c =
    let x = g.S.Source.content c.args.s.now in
    route_all (hops_of x c.args.cell) c.args.out.now (1 + c.args.before) (hop_start x c.args.before) c.loop-position.position (omega arith) c.loop-position.invariant
