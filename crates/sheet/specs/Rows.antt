-- The content that rows hold.
use Rattle.std.specs.Prelude.{ℕ, List, map}
use Rattle.layout.specs.Contents.{Hop, Scheduled, Content}
use Rattle.layout.specs.declared.fields.HopFields.{HopFields}
use Rattle.layout.specs.declared.kind.Pile.{Pile}
use Rattle.sheet.specs.Runs.{kind_of}
use Rattle.sheet.specs.declared.row.Row.{Row}
use Rattle.sheet.specs.declared.run.Run.{Run}

abbrev pub hop_of : HopFields → Hop
hop_of f = record { port = f.port; sent = f.sent }

-- the cell of a row
abbrev pub scheduled : Row → Scheduled
scheduled r =
    record {
      entry = r.entry;
      flow = r.flow;
      slack = r.slack;
      hops = map hop_of r.hops.items;
    }

-- these delays and rows
abbrev pub content_from : Run → Pile → List ℕ → List Row → Content
content_from run pile ds rs = record { kind = kind_of run; pile = pile; delays = ds; cells = map scheduled rs }
