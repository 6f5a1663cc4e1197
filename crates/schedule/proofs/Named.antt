-- Bytes that name no kind, or no discipline.
use Rattle.std.proofs.Common.{◌≡◌, ℕ, ◌≢◌, true, false, ltb, arith}
use Rattle.layout.specs.Contents.{kind_number, pile_number}
use Rattle.layout.specs.Order.{takes}
use Rattle.layout.specs.declared.kind.Accepts.{Accepts}
use Rattle.layout.specs.declared.kind.Accepts.TheVariants.{AnyKind, LoadsOnly}
use Rattle.layout.specs.declared.kind.Kind.{Kind}
use Rattle.layout.specs.declared.kind.Kind.TheVariants.{Load, Recording, Replay}
use Rattle.layout.specs.declared.kind.Pile.{Pile}
use Rattle.layout.specs.declared.kind.Pile.TheVariants.{Fifo, Lifo, Aged}

pub no_kind : (a : Accepts) (b : ℕ) → ((x : Kind) → kind_number x ≢ b) → takes a b ≡ false
no_kind AnyKind b h = let e = h Load in let f = h Recording in let g = h Replay in grind arith
no_kind LoadsOnly b h = let e = h Load in grind arith

pub no_pile : (b : ℕ) → ((x : Pile) → pile_number x ≢ b) → ltb 2 b ≡ true
no_pile b h = let e = h Fifo in let f = h Lifo in let g = h Aged in grind arith
