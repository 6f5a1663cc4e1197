-- The order of due cells: by port, then due slot, then number.
use Rattle.std.specs.Prelude.{◌≡◌, ℕ, ◌≤◌, true, false, ◌⊎◌, ℤ, ◌<ℤ◌, int_le, nat_le}
use Rattle.std.proofs.Common.{sym, inl, inr, arith}
use Rattle.std.proofs.lemmas.Int.{ints}
use Rattle.std.proofs.lemmas.Bool.{leb-true, le-leb, cases_Bool}
use Rattle.table.specs.Kinds.{by, ◌then◌, due_upto}
use Rattle.table.specs.declared.due.DueCell.{DueCell}
use Rattle.table.specs.Lexical.{then_first, then_second, then_both}
use Rattle.urgent.specs.Slack.{mark, earliest}

int_le_same : (a b : ℤ) → int_le a b ≡ true → int_le b a ≡ true → a ≡ b
int_le_same a b h k = omega (arith, ints)

int_le_less : (a b : ℤ) → int_le a b ≡ true → int_le b a ≡ false → a <ℤ b
int_le_less a b h k = omega (arith, ints)

-- not after is not past the port
pub due_port : (x y : DueCell) → due_upto x y ≡ true → x.port ≤ y.port
due_port x y h = leb-true x.port y.port (then_first (nat_le x.port y.port) (nat_le y.port x.port) ((by (λ d. d.due) int_le then by (λ d. d.cell) nat_le) x y) h)

-- at one port: due before, or with it and of no higher number
pub due_before : (x y : DueCell) → due_upto x y ≡ true → x.port ≡ y.port → (x.due <ℤ y.due) ⊎ ((x.due ≡ y.due) × (x.cell ≤ y.cell))
due_before x y h e =
    let inner = then_second (nat_le x.port y.port) (nat_le y.port x.port) ((by (λ d. d.due) int_le then by (λ d. d.cell) nat_le) x y) h (le-leb y.port x.port (omega arith)) in
    let first = then_first (int_le x.due y.due) (int_le y.due x.due) (nat_le x.cell y.cell) inner in
    elim (cases_Bool (int_le y.due x.due)) [
      | inl k ↦ inr (int_le_same x.due y.due first k, leb-true x.cell y.cell (then_second (int_le x.due y.due) (int_le y.due x.due) (nat_le x.cell y.cell) inner k))
      | inr k ↦ inl (int_le_less x.due y.due first k)
    ]

-- two due cells, neither after the other, are one
pub due_same : (x y : DueCell) → due_upto x y ≡ true → due_upto y x ≡ true → x ≡ y
due_same x y h k =
    let a = due_port x y h in
    let b = due_port y x k in
    let p : x.port ≡ y.port = omega arith in
    same x y p (due_before x y h p) (due_before y x k (sym p))
  where
    same : (x y : DueCell) → x.port ≡ y.port → (x.due <ℤ y.due) ⊎ ((x.due ≡ y.due) × (x.cell ≤ y.cell)) → (y.due <ℤ x.due) ⊎ ((y.due ≡ x.due) × (y.cell ≤ x.cell)) → x ≡ y
    same x y p (inl a) (inl b) = let z : ⊥ = omega (arith, ints) in absurd z
    same x y p (inl a) (inr b) = let z : ⊥ = omega (arith, ints, b.0) in absurd z
    same x y p (inr a) (inl b) = let z : ⊥ = omega (arith, ints, a.0) in absurd z
    same x y p (inr a) (inr b) =
        let c : x.cell ≡ y.cell = omega (arith, a.1, b.1) in
        λ i. record { port = p i; due = a.0 i; cell = c i }

-- the mark of a port is before all that wait there, and none that is not before it is at a lower port
pub mark_first : (p : ℕ) (x : DueCell) → x.port ≡ p → int_le earliest x.due ≡ true → due_upto (mark p) x ≡ true
mark_first p x e h =
    then_both (nat_le p x.port) (nat_le x.port p) _ (le-leb p x.port (omega arith))
    (λ k. then_both (int_le earliest x.due) (int_le x.due earliest) (nat_le 0 x.cell) h (λ l. le-leb 0 x.cell (omega arith)))
