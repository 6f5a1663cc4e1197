-- What is told pins the content.
use Rattle.std.proofs.Common.{◌≡◌, ℕ, ◌<◌, List, length, ℤ, sym, ◌∙◌, arith}
use Rattle.std.proofs.lemmas.List.{ext_get_or}
use Rattle.plan.specs.Cells.{Planned}
use Rattle.layout.specs.Contents.{Scheduled, no_hop, no_scheduled}
use Rattle.sheet.specs.Sheets.{Told, OneTelling}

told_once : (c : Planned) (s : ℤ) (ss : List ℕ) (first : ℕ) (x y : Scheduled) → Told c s ss first x → Told c s ss first y → x ≡ y
told_once c s ss first x y a b =
    let m = a.long in
    let n = b.long in
    let hops : x.hops ≡ y.hops =
    ext_get_or no_hop x.hops y.hops (omega arith) (λ h l.
    let here : h < length c.route = omega arith in
    λ i. record { port = (a.port h here ∙ sym (b.port h here)) i; sent = (a.sent h here ∙ sym (b.sent h here)) i }) in
    λ i. record {
      entry = (a.entry ∙ sym b.entry) i;
      flow = (a.flow ∙ sym b.flow) i;
      slack = (a.slack ∙ sym b.slack) i;
      hops = hops i;
    }

pub one_telling : OneTelling
one_telling =
    record {
      same = λ k p ds cs xs ss x y a b.
          let m = a.count in
          let n = b.count in
          let cells : x.cells ≡ y.cells =
          ext_get_or no_scheduled x.cells y.cells (omega arith) (λ j l.
          let here : j < length cs = omega arith in
          told_once _ _ _ _ _ _ (a.each j here) (b.each j here)) in
          λ i. record {
            kind = (a.kind ∙ sym b.kind) i;
            pile = (a.pile ∙ sym b.pile) i;
            delays = (a.delays ∙ sym b.delays) i;
            cells = cells i;
          };
    }
