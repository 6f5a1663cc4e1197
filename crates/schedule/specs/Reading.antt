-- What a schedule holds, and what reading answers.
use Rattle.std.specs.Prelude.{◌≡◌, ℕ, List, None, Ok, Err, vec_items, Result}
use Rattle.refusal.specs.declared.Refusal.{Refusal}
use Rattle.plan.specs.Plans.{delays_of, cells_of}
use Rattle.layout.specs.Contents.{Content}
use Rattle.layout.specs.Holding.{Held}
use Rattle.layout.specs.Order.{first_refusal}
use Rattle.layout.specs.declared.kind.Accepts.{Accepts}
use Rattle.schedule.specs.Gathering.{Stops}
use Rattle.schedule.specs.Marking.{timed}
use Rattle.schedule.specs.declared.schedule.Schedule.{Schedule}

abbrev pub content_of : Schedule → Content
content_of s =
    record {
      kind = s.kind;
      pile = s.pile;
      delays = delays_of s.plan;
      cells = timed (cells_of s.plan) (vec_items s.marks);
    }

-- Where every test passes, the content that the bytes hold; else the refusal of the first test that fails. Want of
-- memory may refuse too.
abbrev pub Answers : Accepts → List ℕ → Result Schedule Refusal → Type 0
Answers a bs (Ok s) = (first_refusal a bs ≡ None) × Held bs (content_of s)
Answers a bs (Err e) = Stops (first_refusal a bs) e
