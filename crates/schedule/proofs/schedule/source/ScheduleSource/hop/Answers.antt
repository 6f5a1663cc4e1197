use Rattle.std.proofs.Common.{◌≡◌, ℕ, length, get_or, sym, ap, ◌∙◌, arith}
use Rattle.plan.specs.Cells.{planned, ports_of}
use Rattle.layout.specs.Contents.{Hop, no_hop}
use Rattle.layout.specs.Sources.{TellsHop}
use Rattle.layout.specs.declared.fields.HopFields.{HopFields}
use Rattle.schedule.specs.Contents.{cell_past, hop_is, hop_past}
use Rattle.schedule.proofs.schedule.source.ScheduleSource.hop.Goals as goal

-- what is told of a hop that is known
told : (p s : ℕ) {h : Hop} → h ≡ record { port = p; sent = s } → TellsHop (record { port = p; sent = s }) h
told p s e = record { port = ap (λ x. x.port) (sym e); sent = ap (λ x. x.sent) (sym e) }

-- what is told where there is none
told_none : (f : HopFields) {h : Hop} → (f.port ≡ 0) × (f.sent ≡ 0) → h ≡ no_hop → TellsHop f h
told_none f z e = record { port = z.0 ∙ ap (λ x. x.port) (sym e); sent = z.1 ∙ ap (λ x. x.sent) (sym e) }

pub returns-in_default : goal.returns-in_default
returns-in_default c = told_none c.default.result c.default.ensures (ap (λ x. get_or x.hops c.args.position no_hop) (cell_past c.args.self.now c.args.cell c.in_default.ensures))

pub returns-then-position-ports : goal.returns-then-position-ports
returns-then-position-ports c =
    let h = c.in-Some.ensures in
    let e = ap length (c.ports-ports.ensures ∙ ap ports_of c.route-route.ensures) in
    told_none c.default-then-position-ports.result c.default-then-position-ports.ensures (hop_past c.args.self.now c.args.cell c.args.position (planned c.in-Some.planned) h.0 h.1 (omega arith))

pub returns : goal.returns
returns c =
    let h = c.in-Some.ensures in
    let e = c.ports-ports.ensures ∙ ap ports_of c.route-route.ensures in
    let n = ap length e in
    told _ _ (hop_is c.args.self.now c.args.cell c.args.position (planned c.in-Some.planned) c.index.result.now h.0 h.1 c.index.ensures (omega arith)
    ∙ ap (λ ps. record { port = get_or ps c.args.position 0; sent = get_or c.index.result.now.sent c.args.position 0 }) (sym e))
