use Rattle.std.proofs.Common.{arith}
use Rattle.plan.specs.Plans.{cells_of}
use Rattle.run.proofs.Records.{offsets_written}
use Rattle.run.proofs.recording.Recording.send.Goals as goal

pub invariant_of-self-clause-offsets : goal.invariant_of-self-clause-offsets
invariant_of-self-clause-offsets c =
    let self = c.args.self.now in
    let counted = self.counted in
    offsets_written (cells_of self.plan) self.records.items c.deref_mut.result.now c.args.picked.cell c.forward.new.own
    c.deref_mut.ensures.value (omega arith) c.forward.ensures.first self.offsets

pub invariant_of-self-else-picked-clause-offsets : goal.invariant_of-self-else-picked-clause-offsets
invariant_of-self-else-picked-clause-offsets c =
    let self = c.args.self.now in
    let counted = self.counted in
    offsets_written (cells_of self.plan) self.records.items c.deref_mut.result.now c.args.picked.cell c.let_out.new.own
    c.deref_mut.ensures.value (omega arith) c.let_out.ensures.first self.offsets
