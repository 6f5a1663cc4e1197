-- An order by one part and then by another is lawful where both are, and so are the orders of the kinds.
use Rattle.std.specs.Prelude.{◌≡◌, Bool, true, false, cond, int_le, nat_le, refl}
use Rattle.std.proofs.Common.{sym, arith}
use Rattle.std.proofs.lemmas.Int.{ints}
use Rattle.std.proofs.lemmas.Bool.{leb-true, leb-false, le-leb, false≢true}
use Rattle.table.specs.Kinds.{by, ◌then◌, flight_upto, due_upto}
use Rattle.table.specs.Order.{Lawful}

-- what an order by two parts says of both
pub then_first : (b c d : Bool) → cond b (cond c d true) false ≡ true → b ≡ true
then_first true c d h = refl
then_first false c d h = absurd (false≢true h)

pub then_second : (b c d : Bool) → cond b (cond c d true) false ≡ true → c ≡ true → d ≡ true
then_second true true d h k = h
then_second true false d h k = absurd (false≢true k)
then_second false c d h k = absurd (false≢true h)

-- how an order by two parts comes about
pub then_both : (b c d : Bool) → b ≡ true → (c ≡ true → d ≡ true) → cond b (cond c d true) false ≡ true
then_both true true d h k = k refl
then_both true false d h k = refl
then_both false c d h k = absurd (false≢true h)

-- and how it comes about that it fails
then_fails : (b c d e : Bool) → (b ≡ false → c ≡ true) → (d ≡ false → e ≡ true) → cond b (cond c d true) false ≡ false → cond c (cond b e true) false ≡ true
then_fails true true d e f g h = g h
then_fails true false d e f g h = absurd (false≢true (sym h))
then_fails false true d e f g h = refl
then_fails false false d e f g h = absurd (false≢true (f refl))

-- a test that cannot fail passes
passes : (b : Bool) → (b ≡ false → ⊥) → b ≡ true
passes true f = refl
passes false f = absurd (f refl)

pub nat_le_lawful : Lawful nat_le
nat_le_lawful = record {
  total = λ x y h. le-leb y x (let l = leb-false x y h in omega arith);
  trans = λ x y z h k. le-leb x z (let l = leb-true x y h in let m = leb-true y z k in omega arith);
}

pub int_le_lawful : Lawful int_le
int_le_lawful = record {
  total = λ x y h. passes (int_le y x) (λ e. omega (arith, ints));
  trans = λ x y z h k. passes (int_le x z) (λ e. omega (arith, ints));
}

pub by_lawful : {X K : Type 0} (part : X → K) (le : K → K → Bool) → Lawful le → Lawful (by part le)
by_lawful part le o = record {
  total = λ x y h. o.total (part x) (part y) h;
  trans = λ x y z h k. o.trans (part x) (part y) (part z) h k;
}

pub then_lawful : {X : Type 0} (p q : X → X → Bool) → Lawful p → Lawful q → Lawful (p then q)
then_lawful p q o u = record {
  total = λ x y. then_fails (p x y) (p y x) (q x y) (q y x) (o.total x y) (u.total x y);
  trans = λ x y z h k.
      let a = then_first (p x y) (p y x) (q x y) h in
      let b = then_first (p y z) (p z y) (q y z) k in
      then_both (p x z) (p z x) (q x z) (o.trans x y z a b)
      (λ c. u.trans x y z (then_second (p x y) (p y x) (q x y) h (o.trans y z x b c)) (then_second (p y z) (p z y) (q y z) k (o.trans z x y c a)));
}

pub flight_lawful : Lawful flight_upto
flight_lawful =
    then_lawful (by (λ f. f.slot) nat_le) (by (λ f. f.cell) nat_le)
    (by_lawful (λ f. f.slot) nat_le nat_le_lawful)
    (by_lawful (λ f. f.cell) nat_le nat_le_lawful)

pub due_lawful : Lawful due_upto
due_lawful =
    then_lawful (by (λ d. d.port) nat_le) (by (λ d. d.due) int_le then by (λ d. d.cell) nat_le)
    (by_lawful (λ d. d.port) nat_le nat_le_lawful)
    (then_lawful (by (λ d. d.due) int_le) (by (λ d. d.cell) nat_le)
    (by_lawful (λ d. d.due) int_le int_le_lawful)
    (by_lawful (λ d. d.cell) nat_le nat_le_lawful))
