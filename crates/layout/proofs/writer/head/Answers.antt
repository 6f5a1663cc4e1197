use Rattle.std.proofs.Common.{rules}
use Rattle.layout.proofs.Limits.{total_few}
use Rattle.layout.proofs.writer.head.Goals as goal

pub overflow_cast-hops : goal.overflow_cast-hops
overflow_cast-hops g c =
    let few = total_few _ (g.met.S.Source.fits c.args.s.now) in
    search rules
