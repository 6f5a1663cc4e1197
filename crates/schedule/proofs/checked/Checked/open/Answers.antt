use Rattle.std.proofs.Common.{false, refl, ◌≡◌, ◌+◌, ◌<◌, length, sym, ap, ◌∙◌, subst, arith}
use Rattle.std.proofs.lemmas.List.{get_or-replicate}
use Rattle.std.proofs.lemmas.Result.{err_from_is_err_and}
use Rattle.refusal.proofs.Ordered.{refuses_none}
use Rattle.plan.specs.Plans.{delays_of}
use Rattle.layout.specs.Fields.{port_count}
use Rattle.schedule.specs.Gathering.{Ported}
use Rattle.schedule.proofs.Fielded.{delay_fits}
use Rattle.schedule.proofs.Gathered.{port_passes, ported_more, gathered_none}
use Rattle.schedule.proofs.checked.Checked.open.Goals as goal

pub loop-port-init : goal.loop-port-init
loop-port-init c =
    let h = c.new-plan.ensures in
    (record { count = ap length h.delays; each = λ p l. absurd (omega arith) }, h.cells)

pub loop-port-preserved : goal.loop-port-preserved
loop-port-preserved c =
    let bs = c.args.self.now.image.bytes.now in
    let h = c.in_ok-add_port.ensures in (
      subst (λ ds. Ported bs (c.loop-port.port + 1) ds) (sym h.2.delays)
          (ported_more bs c.loop-port.port c.delay.result (delays_of c.loop-port.plan) c.delay.ensures c.loop-port.invariant.0),
      h.2.cells ∙ c.loop-port.invariant.1,
    )

pub returns-in_err-add_port : goal.returns-in_err-add_port
returns-in_err-add_port c =
    let p = err_from_is_err_and c.from_residual.result c.from_residual.ensures.1 in
    let bs = c.args.self.now.image.bytes.now in
    let h = c.in_err-add_port.ensures in
    let in' : c.loop-port.port < port_count bs = omega arith in
    let f = delay_fits bs c.args.self.now.passed c.loop-port.port in' in
    let e = c.delay.ensures in
    let n = c.loop-port.invariant.0.count in
    let few : length (delays_of c.loop-port.plan) < 32 = omega arith in
    rw (p.1, p.2) (refuses_none _ _ (port_passes (delays_of c.loop-port.plan) c.delay.result (omega arith) (omega arith) few) h.0)

pub returns : goal.returns
returns c =
    let bs = c.args.self.now.image.bytes.now in
    let e : c.loop-port.port ≡ port_count bs = omega arith in
    record {
      long = refl;
      seen = λ j l. get_or-replicate 2049 j false false l;
      held = gathered_none _ _ _ _ _ (subst (λ n. Ported bs n (delays_of c.loop-port.plan)) e c.loop-port.invariant.0) c.loop-port.invariant.1 c.new.ensures.items;
    }
