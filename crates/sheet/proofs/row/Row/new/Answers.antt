use Rattle.std.proofs.Common.{◌≡◌, min, length, get_or, ap, ◌∙◌, arith, w32}
use Rattle.std.proofs.lemmas.List.{length-map}
use Rattle.std.proofs.lemmas.Int.{to_z-of_z}
use Rattle.std.proofs.lemmas.Slice.Zip.{zip_end}
use Rattle.plan.specs.Cells.{ports_of}
use Rattle.sheet.specs.Rows.{hop_of}
use Rattle.sheet.proofs.row.Row.new.Goals as goal

pub returns : goal.returns
returns c =
    let route = c.ports-ports.ensures ∙ ap ports_of c.route-route.ensures in
    let n = ap length route in
    let all : length c.loop-port.yielded ≡ min (length c.ports-ports.result.now) (length c.args.slots.now) = zip_end c.ports-ports.result.now c.args.slots.now c.loop-port.yielded c.into_iter-port-iterator.result c.loop-port.port-iterator c.next.new.self _ (cc) (cc) c.loop-port.yielded_by c.in-None.is c.next.ensures.steps in
    let most = c.requires in
    let long = length-map c.loop-port.hops.items hop_of in
    record {
      entry = c.entry.ensures;
      flow = c.flow.ensures;
      slack = to_z-of_z w32 c.args.slack c.ranges.slack;
      long = omega (arith, c.loop-port.invariant.0);
      port = λ h l. ap (λ x. x.port) (c.loop-port.invariant.1 h (omega arith));
      sent = λ h l. ap (λ x. x.sent) (c.loop-port.invariant.1 h (omega arith)) ∙ ap (λ k. get_or c.args.slots.now k 0) (omega arith);
    }
