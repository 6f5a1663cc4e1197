use Rattle.std.proofs.Common.{length, refl, ap, ◌∙◌, arith}
use Rattle.layout.specs.Placed.{placed}
use Rattle.layout.proofs.RoundTrip.{every_content_reads_back}
use Rattle.layout.proofs.Size.{canonical_size}
use Rattle.layout.proofs.Steps.{all_written}
use Rattle.layout.proofs.writer.write.Goals as goal

pub put-requires : goal.put-requires
put-requires g c =
    let size = canonical_size (g.S.Source.content c.args.s.now) in
    let head = ap length c.head.ensures in
    omega arith

pub put_ports-requires : goal.put_ports-requires
put_ports-requires g c =
    let size = canonical_size (g.S.Source.content c.args.s.now) in
    omega arith

pub put_cells-requires : goal.put_cells-requires
put_cells-requires g c =
    let size = canonical_size (g.S.Source.content c.args.s.now) in
    omega arith

pub put_hops-requires : goal.put_hops-requires
put_hops-requires g c =
    let size = canonical_size (g.S.Source.content c.args.s.now) in
    omega arith

pub returns : goal.returns
returns g c =
    let x = g.S.Source.content c.args.s.now in
    let out = c.args.out.now in
    let all =
    all_written x out (omega arith) (c.put.ensures ∙ ap (placed out 0) c.head.ensures) c.put_ports.ensures
    c.put_cells.ensures c.put_hops.ensures in
    record { written = (c.file_length-length.ensures, rw c.file_length-length.ensures all); reads_back = every_content_reads_back x (g.met.S.Source.fits c.args.s.now) }

pub returns-then-out-length : goal.returns-then-out-length
returns-then-out-length g c =
    record { written = (refl, omega arith, refl); reads_back = every_content_reads_back _ (g.met.S.Source.fits c.args.s.now) }
