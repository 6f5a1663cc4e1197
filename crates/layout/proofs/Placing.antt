-- Bytes placed in an output: one write after another, and a loop that writes blocks of one length.
use Rattle.std.proofs.Common.{◌≡◌, ℕ, ◌+◌, ◌*◌, ◌≤◌, List, [], ◌∷◌, ◌++◌, length, take, drop, sym, ap, ◌∙◌, add-zero, zero-add, arith}
use borrow.Rule.Slice.PartMut.{put_mid}
use Rattle.std.specs.List.{flat_map}
use Rattle.std.proofs.lemmas.List.{append_assoc, length-append, length-take, flat_map_more, take-append-drop, take_at, drop_at, drop-drop}
use Rattle.layout.specs.Placed.{placed}
use Rattle.layout.proofs.Blocks.{length_joined}

-- what a copy into a part leaves
pub placed_from_part : (out : List ℕ) (at k : ℕ) (bs ys : List ℕ) → k ≡ length bs → ys ≡ bs → put_mid at k out ys ≡ placed out at bs
unfolding placed
placed_from_part out at k bs ys e f = rw (f, drop-drop, e)

pub placed_none : (out : List ℕ) (at : ℕ) → placed out at [] ≡ out
unfolding placed
placed_none out at = rw (add-zero, take-append-drop)

pub placed_front : (out bs : List ℕ) → placed out 0 bs ≡ bs ++ drop (length bs) out
unfolding placed
placed_front out bs = rw zero-add

-- bs right behind a front p
behind : (p q bs : List ℕ) (n : ℕ) → length p ≡ n → placed (p ++ q) n bs ≡ p ++ (bs ++ drop (length bs) q)
unfolding placed
behind p q bs n e = rw (take_at p q n e, ← drop-drop (length bs) n (p ++ q), drop_at p q n e)

-- a write right behind another
pub placed_twice : (out : List ℕ) (at n : ℕ) (a b : List ℕ) → n ≡ at + length a → n ≤ length out → placed (placed out at a) n b ≡ placed out at (a ++ b)
unfolding placed
placed_twice out at n a b e h =
    let long : length (take at out ++ a) ≡ n = simp (length-append, length-take) (omega arith) in
    let end : at + length a + length b ≡ at + length (a ++ b) = simp length-append (omega arith) in
    let rest = drop-drop (length b) (at + length a) out ∙ ap (λ k. drop k out) end in
    ap (λ w. placed w n b) (sym (append_assoc (take at out) a (drop (at + length a) out)))
    ∙ behind (take at out ++ a) (drop (at + length a) out) b n long
    ∙ ap (λ w. (take at out ++ a) ++ (b ++ w)) rest
    ∙ simp append_assoc

-- A loop's step: behind the blocks of xs, of w bytes each, the block of x is written at the offset n.
pub placed_more : {X : Type 0} (f : X → List ℕ) (w : ℕ) → ((x : X) → length (f x) ≡ w) → (out : List ℕ) (at : ℕ) (xs : List X) (x : X) {now after bs : List ℕ} {n : ℕ} {ys : List X} → now ≡ placed out at (flat_map f xs) → after ≡ placed now n bs → bs ≡ f x → ys ≡ xs ++ x ∷ [] → n ≡ at + w * length xs → n ≤ length out → after ≡ placed out at (flat_map f ys)
placed_more f w each out at xs x {n = n} before put is more e h =
    let long : n ≡ at + length (flat_map f xs) = e ∙ ap (λ k. at + k) (sym (length_joined f w each xs)) in
    rw (put, before, is, more, placed_twice out at n (flat_map f xs) (f x) long h, flat_map_more f [] xs x)
