use Rattle.run.proofs.Ended.{ended_gone, gone_ended}
use Rattle.run.proofs.recording.Recording.slot.Goals as goal

pub returns-in_err-test_slot-clause-ends : goal.returns-in_err-test_slot-clause-ends
returns-in_err-test_slot-clause-ends g c = λ C.
    (ended_gone _ _ c.args.self.now c.args.log.now c.args.queue.now C.between, gone_ended _ _ c.args.self.now c.args.log.now c.args.queue.now C.between)

pub returns-clause-ends : goal.returns-clause-ends
returns-clause-ends g c = λ C.
    (ended_gone _ _ c.args.self.now c.args.log.now c.args.queue.now C.between, gone_ended _ _ c.args.self.now c.args.log.now c.args.queue.now C.between)
