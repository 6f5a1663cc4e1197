use Rattle.std.proofs.Common.{arith}
use Rattle.layout.proofs.Placing.{placed_from_part}
use Rattle.layout.proofs.writer.put.Goals as goal

-- src/write.rt:23:1
pub returns : goal.returns
returns c = placed_from_part _ _ _ _ _ (omega arith) c.copy_from_slice.ensures.after
