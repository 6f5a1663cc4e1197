use Rattle.std.proofs.Common.{◌≡◌, length, get_or, ap, ◌∙◌, rules}
use Rattle.queues.specs.Entries.{no_entry, proper}
use Rattle.queues.specs.Lines.{queue}
use Rattle.queues.proofs.Kept.{gone_port, some_there, gone_is, gone_proper, gone_counted}
use Rattle.queues.proofs.line.Line.take_at.Goals as goal

pub bounds-self-from : goal.bounds-self-from
bounds-self-from c =
    let l = c.args.self.now in
    let e = get_or c.deref.result.now c.args.at no_entry in
    let is = ap (λ q. get_or q c.args.at no_entry) c.deref.ensures.0 in
    rw c.from.ensures (gone_port (queue l) l.counts l.each_proper l.counted c.args.at c.requires e is)

pub overflow_sub-self : goal.overflow_sub-self
overflow_sub-self c =
    let l = c.args.self.now in
    let e = get_or c.deref.result.now c.args.at no_entry in
    let is = ap (λ q. get_or q c.args.at no_entry) c.deref.ensures.0 in
    rw c.from.ensures (some_there (queue l) l.counts l.each_proper l.counted c.args.at c.requires e is)

pub bounds-self-from-2 : goal.bounds-self-from-2
bounds-self-from-2 c =
    let l = c.args.self.now in
    let e = get_or c.deref.result.now c.args.at no_entry in
    let is = ap (λ q. get_or q c.args.at no_entry) c.deref.ensures.0 in
    rw c.from.ensures (gone_port (queue l) l.counts l.each_proper l.counted c.args.at c.requires e is)

pub invariant_of-self : goal.invariant_of-self
invariant_of-self c =
    let l = c.args.self.now in
    let e = get_or c.deref.result.now c.args.at no_entry in
    let is = ap (λ q. get_or q c.args.at no_entry) c.deref.ensures.0 in
    let wide : length l.counts ≡ 32 = search rules in
    record {
      each_proper = ap proper c.remove.ensures.items ∙ gone_proper (queue l) l.counts l.each_proper l.counted c.args.at c.requires e is;
      counted = rw c.from.ensures (rw c.remove.ensures.items (gone_counted (queue l) l.counts l.each_proper l.counted c.args.at c.requires e is wide));
    }

pub returns-clause-left : goal.returns-clause-left
returns-clause-left c =
    let l = c.args.self.now in
    let e = get_or c.deref.result.now c.args.at no_entry in
    let is = ap (λ q. get_or q c.args.at no_entry) c.deref.ensures.0 in
    rw c.from-2.ensures (c.remove.ensures.items ∙ gone_is (queue l) l.counts l.each_proper l.counted c.args.at c.requires e is)
