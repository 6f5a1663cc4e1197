-- What a line holds.
use Rattle.std.specs.Prelude.{List}
use Rattle.queues.specs.declared.entry.Entry.{Entry}
use Rattle.queues.specs.declared.line.Line.{Line}

-- the entries, in the order in which their cells arrived
abbrev pub queue : Line → List Entry
queue l = l.entries.items
