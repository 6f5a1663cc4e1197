-- The kind of the file that tells of a run.
use Rattle.layout.specs.declared.kind.Kind.{Kind}
use Rattle.layout.specs.declared.kind.Kind.TheVariants as kinds
use Rattle.sheet.specs.declared.run.Run.{Run}
use Rattle.sheet.specs.declared.run.Run.TheVariants as runs

abbrev pub kind_of : Run → Kind
kind_of runs.Recording = kinds.Recording
kind_of runs.Replay = kinds.Replay
