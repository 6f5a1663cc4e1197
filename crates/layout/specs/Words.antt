-- The words for a kind and for a queue discipline.
use Rattle.std.specs.Prelude.{ℕ, List, codes}
use Rattle.layout.specs.declared.kind.Kind.{Kind}
use Rattle.layout.specs.declared.kind.Kind.TheVariants.{Load, Recording, Replay}
use Rattle.layout.specs.declared.kind.Pile.{Pile}
use Rattle.layout.specs.declared.kind.Pile.TheVariants.{Fifo, Lifo, Aged}

-- the word for a kind
abbrev pub kind_word : Kind → List ℕ
kind_word Load = codes "load"
kind_word Recording = codes "recording"
kind_word Replay = codes "replay"

-- the number of a queue discipline, and the words for it
abbrev pub pile_words : Pile → List ℕ
pile_words Fifo = codes "0 fifo"
pile_words Lifo = codes "1 lifo"
pile_words Aged = codes "2 ageing 16 over classes 4 over fifo and lifo"
