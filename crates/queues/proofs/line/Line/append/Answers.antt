use Rattle.std.proofs.Common.{◌≡◌, ◌≤◌, ap, ◌∙◌, length, get_or, arith, rules}
use Rattle.queues.specs.Entries.{proper}
use Rattle.queues.specs.Lines.{queue}
use Rattle.queues.proofs.Kept.{count_few, room, put_proper, put_counted}
use Rattle.queues.proofs.line.Line.append.Goals as goal

pub push-requires : goal.push-requires
push-requires c =
    let l = c.args.self.now in
    (omega arith, room (queue l) l.counts l.each_proper l.counted c.args.e c.requires.cell c.requires.port c.requires.new)

pub overflow_add-self : goal.overflow_add-self
overflow_add-self c =
    let l = c.args.self.now in
    let small : get_or l.counts c.args.e.port 0 ≤ 256 = count_few (queue l) l.counts l.each_proper l.counted c.args.e.port (omega (arith, c.requires.port)) in
    rw c.from.ensures (omega arith)

pub invariant_of-self : goal.invariant_of-self
invariant_of-self c =
    let l = c.args.self.now in
    let e = c.args.e in
    let wide : length l.counts ≡ 32 = search rules in
    record {
      each_proper = ap proper c.push.ensures.items ∙ put_proper (queue l) l.counts l.each_proper l.counted e c.requires.cell c.requires.port c.requires.new;
      counted = rw c.from.ensures (rw c.push.ensures.items (put_counted (queue l) l.counts l.each_proper l.counted e c.requires.cell c.requires.port c.requires.new wide));
    }
