-- What is there, and what is not.
use Rattle.std.proofs.Common.{◌≡◌, ℕ, Some, None, Option, arith}

pub none_some : {X : Type 0} {o : Option X} (x : X) → o ≡ None → o ≡ Some x → ⊥
none_some x h k = let z : ◌≡◌ {A = ℕ} 0 1 = cc in omega arith

pub some_one : {X : Type 0} {o : Option X} (x y : X) → o ≡ Some x → o ≡ Some y → x ≡ y
some_one x y h k = cc
