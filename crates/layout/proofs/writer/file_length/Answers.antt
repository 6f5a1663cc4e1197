use Rattle.std.proofs.Common.{arith}
use Rattle.layout.proofs.Limits.{total_few}
use Rattle.layout.proofs.Size.{canonical_size}
use Rattle.layout.proofs.writer.file_length.Goals as goal

pub bytes_for-requires : goal.bytes_for-requires
bytes_for-requires g c =
    let fit = g.met.S.Source.fits c.args.s.now in
    let few = total_few _ fit in
    (omega arith, (omega arith, omega arith))

pub returns : goal.returns
returns g c =
    let size = canonical_size (g.S.Source.content c.args.s.now) in
    omega arith
