-- One fact of two, by a test.
use Rattle.std.proofs.Common.{◌≡◌, Bool, true, false}
use Rattle.std.proofs.lemmas.Bool.{true≢false, false≢true}
use Rattle.layers.specs.Halves.{Either}

pub either_yes : (b : Bool) (P Q : Type 0) → b ≡ true → Either b P Q → P
either_yes true P Q h x = x
either_yes false P Q h x = absurd (false≢true h)

pub either_no : (b : Bool) (P Q : Type 0) → b ≡ false → Either b P Q → Q
either_no true P Q h x = absurd (true≢false h)
either_no false P Q h x = x

pub yes_either : (b : Bool) (P Q : Type 0) → b ≡ true → P → Either b P Q
yes_either true P Q h x = x
yes_either false P Q h x = absurd (false≢true h)

pub no_either : (b : Bool) (P Q : Type 0) → b ≡ false → Q → Either b P Q
no_either true P Q h x = absurd (true≢false h)
no_either false P Q h x = x
