-- Two contents that the same bytes hold are alike, part by part.
use Rattle.std.proofs.Common.{◌≡◌, ℕ, List, [], ◌∷◌, length, sym, refl, ◌∙◌, arith}
use Rattle.std.proofs.lemmas.List.{ext_get_or}
use Rattle.layout.specs.declared.kind.Kind.{Kind}
use Rattle.layout.specs.declared.kind.Kind.TheVariants as kinds
use Rattle.layout.specs.declared.kind.Pile.{Pile}
use Rattle.layout.specs.declared.kind.Pile.TheVariants as piles
use Rattle.layout.specs.Contents.{Hop, Scheduled, Content, no_scheduled, kind_number, pile_number}
use Rattle.layout.specs.Fields.{next_at}
use Rattle.layout.specs.Holding.{Chained, CellHeld, Held}

pub same_kind : (k l : Kind) → kind_number k ≡ kind_number l → k ≡ l
same_kind kinds.Load kinds.Load e = refl
same_kind kinds.Load kinds.Recording e = absurd (omega arith)
same_kind kinds.Load kinds.Replay e = absurd (omega arith)
same_kind kinds.Recording kinds.Load e = absurd (omega arith)
same_kind kinds.Recording kinds.Recording e = refl
same_kind kinds.Recording kinds.Replay e = absurd (omega arith)
same_kind kinds.Replay kinds.Load e = absurd (omega arith)
same_kind kinds.Replay kinds.Recording e = absurd (omega arith)
same_kind kinds.Replay kinds.Replay e = refl

pub same_pile : (p q : Pile) → pile_number p ≡ pile_number q → p ≡ q
same_pile piles.Fifo piles.Fifo e = refl
same_pile piles.Fifo piles.Lifo e = absurd (omega arith)
same_pile piles.Fifo piles.Aged e = absurd (omega arith)
same_pile piles.Lifo piles.Fifo e = absurd (omega arith)
same_pile piles.Lifo piles.Lifo e = refl
same_pile piles.Lifo piles.Aged e = absurd (omega arith)
same_pile piles.Aged piles.Fifo e = absurd (omega arith)
same_pile piles.Aged piles.Lifo e = absurd (omega arith)
same_pile piles.Aged piles.Aged e = refl

-- a chain holds one list of hops
pub same_hops : (bs : List ℕ) (i : ℕ) (xs ys : List Hop) → Chained bs i xs → Chained bs i ys → xs ≡ ys
same_hops bs i [] [] h k = refl
same_hops bs i [] (y ∷ ys) h k = absurd (omega arith)
same_hops bs i (x ∷ xs) [] h k = absurd (omega arith)
same_hops bs i (x ∷ xs) (y ∷ ys) h k =
    let tails = same_hops bs (next_at bs i) xs ys h.3 k.3 in
    let port : x.port ≡ y.port = h.1 ∙ sym k.1 in
    let sent : x.sent ≡ y.sent = h.2 ∙ sym k.2 in
    let heads : x ≡ y = λ i. record { port = port i; sent = sent i } in
    cc

-- a cell's place holds one cell
pub same_cell : (bs : List ℕ) (c : ℕ) (x y : Scheduled) → CellHeld bs c x → CellHeld bs c y → x ≡ y
same_cell bs c x y h k =
    let entry : x.entry ≡ y.entry = h.entry ∙ sym k.entry in
    let flow : x.flow ≡ y.flow = h.flow ∙ sym k.flow in
    let slack : x.slack ≡ y.slack = h.slack ∙ sym k.slack in
    let hops : x.hops ≡ y.hops = same_hops bs _ x.hops y.hops h.hops k.hops in
    λ i. record { entry = entry i; flow = flow i; slack = slack i; hops = hops i }

-- and a file one content
pub same_content : (bs : List ℕ) (x y : Content) → Held bs x → Held bs y → x ≡ y
same_content bs x y h k =
    let kind : x.kind ≡ y.kind = same_kind x.kind y.kind (h.kind ∙ sym k.kind) in
    let pile : x.pile ≡ y.pile = same_pile x.pile y.pile (h.pile ∙ sym k.pile) in
    let ports : length x.delays ≡ length y.delays = h.ports ∙ sym k.ports in
    let many : length x.cells ≡ length y.cells = h.cells ∙ sym k.cells in
    let delays : x.delays ≡ y.delays =
    ext_get_or 0 x.delays y.delays ports (λ p l. h.delays p l ∙ sym (k.delays p (omega arith))) in
    let cells : x.cells ≡ y.cells =
    ext_get_or no_scheduled x.cells y.cells many
    (λ c l. same_cell bs c _ _ (h.each c l) (k.each c (omega arith))) in
    λ i. record { kind = kind i; pile = pile i; delays = delays i; cells = cells i }
