use Rattle.std.proofs.Common.{◌+◌, ◌*◌, ◌∙◌, arith}
use Rattle.schedule.proofs.Parts.{in_part}
use Rattle.layout.specs.Fields.{long}
use Rattle.schedule.proofs.numbers.long_at.Goals as goal

pub returns : goal.returns
unfolding long
returns c =
    let bs = c.args.bytes.now in
    let part = c.bytes_at.ensures in
    c.from_be_bytes.ensures ∙ (λ i.
    in_part bs c.args.at 4 0 c.args.at _ part (omega arith) (omega arith) i * 16777216
    + in_part bs c.args.at 4 1 (c.args.at + 1) _ part (omega arith) (omega arith) i * 65536
    + in_part bs c.args.at 4 2 (c.args.at + 2) _ part (omega arith) (omega arith) i * 256
    + in_part bs c.args.at 4 3 (c.args.at + 3) _ part (omega arith) (omega arith) i)
