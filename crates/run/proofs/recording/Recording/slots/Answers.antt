use Rattle.std.proofs.Common.{◌≡◌, subst, arith}
use Rattle.run.proofs.Calling.{Made, made_none, made_more, made_called}
use Rattle.run.proofs.recording.Recording.slots.Goals as goal

pub loop-call-init : goal.loop-call-init
loop-call-init g c = λ C. made_none _ _ _ _ c.args.self.now c.args.log.now c.args.queue.now c.args.flights.now C

pub loop-call-preserved : goal.loop-call-preserved
loop-call-preserved g c = λ C.
    made_more _ _ _ _ c.args.self.now c.args.log.now c.args.queue.now c.loop-call._call c.loop-call.self c.loop-call.flights c.loop-call.log c.loop-call.queue (c.loop-call.invariant C)
    c.slot.result c.slot.new.self c.slot.new.flights c.slot.new.log c.slot.new.queue c.slot.ensures.value c.slot.ensures.refused c.slot.ensures.performed c.slot.ensures.ends

pub returns : goal.returns
returns g c = λ C.
    let all : c.loop-call._call ≡ c.args.calls = omega arith in
    made_called _ _ _ _ c.args.self.now c.args.log.now c.args.queue.now c.args.calls c.loop-call.self c.loop-call.flights c.loop-call.log c.loop-call.queue
    (subst (λ n. Made g.D.Discipline.waiting g.D.Discipline.sound g.D.Discipline.arrives g.D.Discipline.picks c.args.self.now c.args.log.now c.args.queue.now n c.loop-call.self c.loop-call.flights c.loop-call.log c.loop-call.queue) all (c.loop-call.invariant C))
