-- Numbers of two and four bytes, read where they stand.
use Rattle.std.proofs.Common.{◌≡◌, ℕ, ◌+◌, ◌*◌, ◌/◌, ◌%◌, ◌^◌, ◌<◌, List, [], ◌∷◌, ◌++◌, ℤ, sym, refl, ap, ◌∙◌, add-zero, mod-eq_of_lt, div-add-mod', arith, w32, SFits, of_z}
use native.Mathlib.Nat.{div-div-eq-div-mul}
use mir.Facts.{Fits-of_z}
use Rattle.layout.specs.Fields.{byte, word, long}
use Rattle.layout.specs.Canonical.{RecordOfCell, RecordOfHop, word_bytes, long_bytes, cell_bytes, hop_bytes}
use Rattle.layout.proofs.Blocks.{Stands, stands_left, stands_on, stands_get_or}

-- the byte at the offset itself
pub byte_stands : (bs vs : List ℕ) (n v : ℕ) → Stands bs n (v ∷ vs) → byte bs n ≡ v
byte_stands bs vs n v s = ap (byte bs) (sym (add-zero n)) ∙ stands_get_or bs (v ∷ vs) n 0 0 s

-- a number of two bytes
pub word_stands : (bs : List ℕ) (n v : ℕ) → v < 2 ^ 16 → Stands bs n (word_bytes v) → word bs n ≡ v
unfolding word
word_stands bs n v l s =
    let a = byte_stands bs (v % 256 ∷ []) n (v / 256 % 256) s in
    let b : byte bs (n + 1) ≡ v % 256 = stands_get_or bs (word_bytes v) n 1 0 s in
    rw (a, b) (omega arith)

four_bytes :
    (v : ℕ) → v < 2 ^ 32
    → v / 16777216 % 256 * 16777216 + v / 65536 % 256 * 65536 + v / 256 % 256 * 256 + v % 256 ≡ v
four_bytes v l =
    let top : v / 16777216 < 256 = omega arith in
    sum v (v / 256) (v / 65536) (v / 16777216) (v % 256) (v / 256 % 256) (v / 65536 % 256) (v / 16777216 % 256)
    (div-add-mod' v 256)
    (rw (div-div-eq-div-mul v 256 256) at (div-add-mod' (v / 256) 256))
    (rw (div-div-eq-div-mul v 65536 256) at (div-add-mod' (v / 65536) 256))
    (mod-eq_of_lt top)
  where
    sum :
        (v a b c p q r s : ℕ) → a * 256 + p ≡ v → b * 256 + q ≡ a → c * 256 + r ≡ b → s ≡ c
        → s * 16777216 + r * 65536 + q * 256 + p ≡ v
    sum v a b c p q r s e f g h = omega arith

-- a number of four bytes
pub long_stands : (bs : List ℕ) (n v : ℕ) → v < 2 ^ 32 → Stands bs n (long_bytes v) → long bs n ≡ v
unfolding long
long_stands bs n v l s =
    let a = byte_stands bs (v / 65536 % 256 ∷ v / 256 % 256 ∷ v % 256 ∷ []) n (v / 16777216 % 256) s in
    let b : byte bs (n + 1) ≡ v / 65536 % 256 = stands_get_or bs (long_bytes v) n 1 0 s in
    let c : byte bs (n + 2) ≡ v / 256 % 256 = stands_get_or bs (long_bytes v) n 2 0 s in
    let d : byte bs (n + 3) ≡ v % 256 = stands_get_or bs (long_bytes v) n 3 0 s in
    rw (a, b, c, d) (four_bytes v l)

-- a slack of 32 bits, as the number of four bytes that it is in two's complement
pub slack_stands : (bs : List ℕ) (n : ℕ) (z : ℤ) → SFits w32 z → Stands bs n (long_bytes (of_z w32 z)) → long bs n ≡ of_z w32 z
slack_stands bs n z f s = long_stands bs n (of_z w32 z) (Fits-of_z f).fits s

-- what the bytes at an offset read as a cell record
pub record ReadsCell (bs : List ℕ) (n : ℕ) (r : RecordOfCell) : Type 0 where
  pub entry : word bs n ≡ r.entry
  pub flow : byte bs (n + 2) ≡ r.flow
  pub none : byte bs (n + 3) ≡ 0
  pub first : word bs (n + 4) ≡ r.first
  pub slack : long bs (n + 6) ≡ of_z w32 r.slack

pub reads_cell :
    (bs : List ℕ) (n : ℕ) (r : RecordOfCell) → r.entry < 2 ^ 16 → r.first < 2 ^ 16 → SFits w32 r.slack
    → Stands bs n (cell_bytes r) → ReadsCell bs n r
reads_cell bs n r e f z s =
    let rest = r.flow ∷ 0 ∷ (word_bytes r.first ++ long_bytes (of_z w32 r.slack)) in
    record {
      entry = word_stands bs n r.entry e (stands_left bs (word_bytes r.entry) rest n s);
      flow = stands_get_or bs (cell_bytes r) n 2 0 s;
      none = stands_get_or bs (cell_bytes r) n 3 0 s;
      first = word_stands bs (n + 4) r.first f (stands_on bs (cell_bytes r) (word_bytes r.first) _ n 4 s refl);
      slack = slack_stands bs (n + 6) r.slack z (stands_on bs (cell_bytes r) (long_bytes (of_z w32 r.slack)) _ n 6 s refl);
    }

-- the same of a hop record
pub record ReadsHop (bs : List ℕ) (n : ℕ) (r : RecordOfHop) : Type 0 where
  pub next : word bs n ≡ r.next
  pub port : byte bs (n + 2) ≡ r.port
  pub none : byte bs (n + 3) ≡ 0
  pub sent : long bs (n + 4) ≡ r.sent

pub reads_hop :
    (bs : List ℕ) (n : ℕ) (r : RecordOfHop) → r.next < 2 ^ 16 → r.sent < 2 ^ 32 → Stands bs n (hop_bytes r) → ReadsHop bs n r
reads_hop bs n r e f s =
    record {
      next = word_stands bs n r.next e (stands_left bs (word_bytes r.next) (r.port ∷ 0 ∷ long_bytes r.sent) n s);
      port = stands_get_or bs (hop_bytes r) n 2 0 s;
      none = stands_get_or bs (hop_bytes r) n 3 0 s;
      sent = long_stands bs (n + 4) r.sent f (stands_on bs (hop_bytes r) (long_bytes r.sent) _ n 4 s refl);
    }
