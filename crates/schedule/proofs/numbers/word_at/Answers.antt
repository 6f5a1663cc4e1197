use Rattle.std.proofs.Common.{◌+◌, ◌*◌, ◌∙◌, arith}
use Rattle.schedule.proofs.Parts.{in_part}
use Rattle.layout.specs.Fields.{word}
use Rattle.schedule.proofs.numbers.word_at.Goals as goal

pub returns : goal.returns
unfolding word
returns c =
    let bs = c.args.bytes.now in
    let part = c.bytes_at.ensures in
    c.from_be_bytes.ensures ∙ (λ i. in_part bs c.args.at 2 0 c.args.at _ part (omega arith) (omega arith) i * 256 + in_part bs c.args.at 2 1 (c.args.at + 1) _ part (omega arith) (omega arith) i)
