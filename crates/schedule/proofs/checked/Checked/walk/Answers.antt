use Rattle.std.proofs.Common.{◌≡◌, ◌^◌, ◌<◌, [], ◌∷◌, ◌++◌, length, take, set, ap, ◌∙◌, arith, rules}
use Rattle.std.proofs.lemmas.Result.{err_from_is_err_and}
use Rattle.layout.specs.Fields.{cell_count, hop_count, first_at, next_at, port_at, sent_at}
use Rattle.layout.specs.Order.{chain_of}
use Rattle.schedule.proofs.Fielded.{linked}
use Rattle.schedule.proofs.Chains.{next_cases, nearer, walking_none, walking_more, walking_all, stops}
use Rattle.schedule.proofs.checked.Checked.walk.Goals as goal

pub loop-index-init : goal.loop-index-init
loop-index-init c =
    let bs = c.args.self.now.image.bytes.now in
    let n = c.none-found.ensures bs (chain_of bs c.args.cell) in
    let first : c.from-index.result ≡ first_at bs c.args.cell = search rules in
    let known : c.args.cell < cell_count bs = search rules in
    let long : length c.args.seen.now ≡ 2049 = search rules in
    (0, walking_none bs c.args.cell _ c.args.seen.now c.none-found.result first (linked bs c.args.self.now.passed) known long c.requires.seen n)

pub returns-in_err-reach : goal.returns-in_err-reach
returns-in_err-reach c =
    let p = err_from_is_err_and c.from_residual.result c.from_residual.ensures.1 in
    let h = c.in_err-reach.ensures in
    let w = c.loop-index.invariant.1 in
    let more : 0 < c.loop-index.index = omega arith in
    let a = w.index in
    let b = w.flags_long in
    let in' : c.loop-index.index < length c.loop-index.seen = omega arith in
    rw (p.1, p.2, h.1) (stops _ _ _ _ _ _ w more in' h.0)

pub loop-index-preserved : goal.loop-index-preserved
loop-index-preserved c =
    let bs = c.args.self.now.image.bytes.now in
    let i = c.loop-index.index in
    let w = c.loop-index.invariant.1 in
    let more : 0 < i = omega arith in
    let a = w.index in
    let b = w.flags_long in
    let in' : i < length c.loop-index.seen = omega arith in
    let h = c.in_ok-reach.ensures in
    let r = c.hop-hop.ensures in
    let sent_is : c.hop-hop.result.sent ≡ sent_at bs i = ap (λ x. x.sent) r in
    let port_is : c.hop-hop.result.port ≡ port_at bs i = ap (λ x. x.port) r in
    let next_is : c.from-index-in-loop-index.result ≡ next_at bs i = c.from-index-in-loop-index.ensures ∙ ap (λ x. x.next) r in
    let small : c.hop-hop.result.sent < 2 ^ 32 = search rules in
    let fits : sent_at bs i < 2 ^ 32 = omega arith in
    let f = c.loop-index.found in (
      _,
      walking_more bs c.args.cell c.loop-index.invariant.0 i c.loop-index.seen f _ _ c.note.new.self (linked bs c.args.self.now.passed) w more in' h.0
          next_is h.1
          (c.note.ensures.ports ∙ ap (λ p. take 9 (f.ports.items ++ p ∷ [])) port_is)
          (c.note.ensures.sent ∙ ap (set f.sent (length f.ports.items)) sent_is) fits,
    )

pub loop-index-smaller : goal.loop-index-smaller
loop-index-smaller c =
    let bs = c.args.self.now.image.bytes.now in
    let i = c.loop-index.index in
    let w = c.loop-index.invariant.1 in
    let more : 0 < i = omega arith in
    let next_is : c.from-index-in-loop-index.result ≡ next_at bs i = c.from-index-in-loop-index.ensures ∙ ap (λ x. x.next) c.hop-hop.ensures in
    nearer c.args.self.now.image.head.hops (hop_count bs) i _ (next_at bs i) c.args.self.now.image.hops_read next_is more w.index
    (next_cases (hop_count bs) i (next_at bs i) ((linked bs c.args.self.now.passed).next i more w.index))

pub returns : goal.returns
returns c = walking_all _ _ c.loop-index.invariant.0 _ _ _ c.loop-index-test.false c.loop-index.invariant.1
