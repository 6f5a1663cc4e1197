-- What is written reads back as itself.
use Rattle.std.specs.Prelude.{◌≡◌, ℕ, ◌<◌, List, ◌++◌, length, drop, None, Ok, Err, Result}
use Rattle.refusal.specs.declared.Refusal.{Refusal}
use Rattle.refusal.specs.declared.Refusal.TheVariants.{ShortOutput}
use Rattle.layout.specs.declared.kind.Kind.TheVariants.{Load}
use Rattle.layout.specs.declared.kind.Accepts.TheVariants.{AnyKind, LoadsOnly}
use Rattle.layout.specs.Contents.{Content, Fit}
use Rattle.layout.specs.Holding.{Held}
use Rattle.layout.specs.Order.{first_refusal}
use Rattle.layout.specs.Canonical.{canonical, canonical_length}

-- The canonical file of x passes every test of a file, that of a load also where only loads are taken; it holds x; and
-- whatever content it holds is x.
pub record ReadsBack (x : Content) : Type 0 where
  pub accepted : first_refusal AnyKind (canonical x) ≡ None
  pub load_accepted : x.kind ≡ Load → first_refusal LoadsOnly (canonical x) ≡ None
  pub holds : Held (canonical x) x
  pub itself : (y : Content) → Held (canonical x) y → y ≡ x

-- so it is for every content that a file can hold
abbrev pub EveryContentReadsBack : Type 0
EveryContentReadsBack = (x : Content) → Fit x → ReadsBack x

-- bytes hold one content at most
abbrev pub OneContent : Type 0
OneContent = (bs : List ℕ) (x y : Content) → Held bs x → Held bs y → x ≡ y

-- The canonical file stands at the front of the output, and what lies past it is as it was; an output shorter than
-- the file is refused, and as it was.
abbrev pub Written : Content → List ℕ → Result ℕ Refusal → List ℕ → Type 0
Written x before (Ok n) after = (n ≡ canonical_length x) × (after ≡ canonical x ++ drop n before)
Written x before (Err e) after = (e ≡ ShortOutput) × (length before < canonical_length x) × (after ≡ before)
