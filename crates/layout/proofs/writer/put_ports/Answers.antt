use Rattle.std.proofs.Common.{sym, ap, ◌∙◌, arith}
use Rattle.layout.specs.Canonical.{word_bytes}
use Rattle.layout.proofs.Placing.{placed_none}
use Rattle.layout.proofs.Steps.{ports_more}
use Rattle.layout.proofs.writer.put_ports.Goals as goal

pub loop-p-init : goal.loop-p-init
loop-p-init g c = sym (placed_none _ _)

pub loop-p-preserved : goal.loop-p-preserved
loop-p-preserved g c =
    ports_more (g.S.Source.content c.args.s.now) c.args.out.now c.loop-p.p (omega arith) c.requires c.loop-p.invariant
    c.put.ensures c.bytes_for.ensures
    (c.to_be_bytes.ensures ∙ ap word_bytes (c.from-delay.ensures ∙ c.delay.ensures))
