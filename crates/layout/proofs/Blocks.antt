-- A list joined of blocks of equal length, and lists that stand inside another at an offset.
use Rattle.std.proofs.Common.{◌≡◌, ℕ, zero, suc, ◌+◌, ◌*◌, ◌<◌, List, [], ◌∷◌, ◌++◌, length, get_or, drop, sym, refl, ap, ◌∙◌, append_assoc, add-zero, mul-zero, mul-suc, arith, length-append}
use Rattle.std.specs.List.{flat_map}
use Rattle.std.proofs.lemmas.List.{append-nil, drop-drop, drop_at, get_or-drop}

-- vs stands in bs at the offset n
abbrev pub Stands : {A : Type 0} → List A → ℕ → List A → Type 0
Stands {A} bs n vs = (rest : List A) × (drop n bs ≡ vs ++ rest)

module _ {A : Type 0} where
  pub stands_whole : (bs : List A) → Stands bs 0 bs
  stands_whole bs = ([], sym (append-nil bs))

  -- the front of what stands at an offset
  pub stands_left : (bs us vs : List A) (n : ℕ) → Stands bs n (us ++ vs) → Stands bs n us
  stands_left bs us vs n s = (vs ++ s.0, s.1 ∙ append_assoc us vs s.0)

  -- and what follows the front
  pub stands_right : (bs us vs : List A) (n m : ℕ) → n + length us ≡ m → Stands bs n (us ++ vs) → Stands bs m vs
  stands_right bs us vs n m e s = (
    s.0,
    ap (λ k. drop k bs) (sym e) ∙ sym (drop-drop (length us) n bs)
        ∙ ap (drop (length us)) (s.1 ∙ append_assoc us vs s.0) ∙ drop_at us (vs ++ s.0) (length us) refl,
  )

  -- what stands k further on
  pub stands_on :
      (bs vs ws rest : List A) (n k : ℕ) (s : Stands bs n vs) → drop k (vs ++ s.0) ≡ ws ++ rest → Stands bs (n + k) ws
  stands_on bs vs ws rest n k s e = (rest, sym (drop-drop k n bs) ∙ ap (drop k) s.1 ∙ e)

  -- the elements
  pub stands_get_or : (bs vs : List A) (n k : ℕ) (d : A) (s : Stands bs n vs) → get_or bs (n + k) d ≡ get_or (vs ++ s.0) k d
  stands_get_or bs vs n k d s = sym (get_or-drop n bs k d) ∙ ap (λ l. get_or l k d) s.1

module _ {X A : Type 0} (f : X → List A) where
  pub joined_append : (xs ys : List X) → flat_map f (xs ++ ys) ≡ flat_map f xs ++ flat_map f ys
  joined_append [] ys = refl
  joined_append (x ∷ xs) ys = ap (λ l. f x ++ l) (joined_append xs ys) ∙ sym (append_assoc (f x) (flat_map f xs) (flat_map f ys))

  -- blocks of the length w
  module _ (w : ℕ) (equal : (x : X) → length (f x) ≡ w) where
    pub length_joined : (xs : List X) → length (flat_map f xs) ≡ w * length xs
    length_joined [] = sym (mul-zero w)
    length_joined (x ∷ xs) =
        let a = length-append (f x) (flat_map f xs) in
        let b = equal x in
        let c = length_joined xs in
        let d = mul-suc w (length xs) in
        omega arith

    -- the block k stands w * k further on
    pub stands_joined :
        (bs : List A) (xs : List X) (n k : ℕ) (e : X) → k < length xs → Stands bs n (flat_map f xs)
        → Stands bs (n + w * k) (f (get_or xs k e))
    stands_joined bs [] n k e l s = absurd (omega arith)
    stands_joined bs (x ∷ xs) n zero e l s =
        rw (mul-zero, add-zero) (stands_left bs (f x) (flat_map f xs) n s)
    stands_joined bs (x ∷ xs) n (suc k) e l s =
        let a = mul-suc w k in
        let q : (n + w) + w * k ≡ n + w * suc k = omega arith in
        let rest = stands_right bs (f x) (flat_map f xs) n (n + w) (ap (λ m. n + m) (equal x)) s in
        rw (← q) (stands_joined bs xs (n + w) k e (omega arith) rest)
