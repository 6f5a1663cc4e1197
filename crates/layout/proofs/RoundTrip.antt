-- What is written reads back as itself.
use Rattle.std.proofs.Common.{◌≡◌, true, refl, ap}
use Rattle.layout.specs.declared.kind.Accepts.TheVariants.{AnyKind, LoadsOnly}
use Rattle.layout.specs.declared.kind.Kind.{Kind}
use Rattle.layout.specs.declared.kind.Kind.TheVariants as kinds
use Rattle.layout.specs.Contents.{kind_number}
use Rattle.layout.specs.Canonical.{canonical}
use Rattle.layout.specs.Order.{takes}
use Rattle.layout.specs.RoundTrip.{EveryContentReadsBack, OneContent}
use Rattle.layout.proofs.Alike.{same_content}
use Rattle.layout.proofs.Holds.{holds}
use Rattle.layout.proofs.Accepted.{accepted_by}

-- bytes hold one content at most
pub one_content : OneContent
one_content = same_content

any_taken : (k : Kind) → takes AnyKind (kind_number k) ≡ true
any_taken kinds.Load = refl
any_taken kinds.Recording = refl
any_taken kinds.Replay = refl

-- the canonical file of a content that a file can hold is accepted, and holds that content and no other
pub every_content_reads_back : EveryContentReadsBack
every_content_reads_back x fit =
    record {
      accepted = accepted_by x fit AnyKind (any_taken x.kind);
      load_accepted = λ e. accepted_by x fit LoadsOnly (ap (λ k. takes LoadsOnly (kind_number k)) e);
      holds = holds x fit;
      itself = λ y h. one_content (canonical x) y x h (holds x fit);
    }
