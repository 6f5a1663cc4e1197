-- A schedule file whose head has passed, and its records as they lie in its bytes.
use Rattle.std.specs.Prelude.{◌≡◌, ℕ, ◌+◌, List, Some, None, Ok, Err, Result}
use Rattle.refusal.specs.declared.Refusal.{Refusal}
use Rattle.layout.specs.Order.{head_test}
use Rattle.layout.specs.declared.kind.Accepts.{Accepts}
use Rattle.schedule.specs.declared.image.Image.{Image}
use Rattle.layout.specs.Fields.{byte, long, cell_offset, entry_at, flow_at, first_at, hop_offset, next_at, port_at, sent_at}
use Rattle.schedule.specs.declared.raw.RawCell.{RawCell}
use Rattle.schedule.specs.declared.raw.RawHop.{RawHop}

-- the record of cell c
abbrev pub raw_cell : List ℕ → ℕ → RawCell
raw_cell bs c =
    record {
      entry = entry_at bs c;
      flow = flow_at bs c;
      zero = byte bs (cell_offset bs c + 3);
      first = first_at bs c;
      slack = long bs (cell_offset bs c + 6);
    }

-- hop record i
abbrev pub raw_hop : List ℕ → ℕ → RawHop
raw_hop bs i =
    record {
      next = next_at bs i;
      port = port_at bs i;
      zero = byte bs (hop_offset bs i + 3);
      sent = sent_at bs i;
    }

-- the file, where the tests of its head pass, or the refusal of the first that fails
abbrev pub ImageRead : Accepts → List ℕ → Result Image Refusal → Type 0
ImageRead a bs (Ok i) = (head_test a bs ≡ None) × (i.bytes.now ≡ bs)
ImageRead a bs (Err e) = head_test a bs ≡ Some e
