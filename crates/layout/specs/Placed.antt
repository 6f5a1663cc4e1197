-- Bytes that stand at an offset of an output, and the offsets at which the writer places them.
use Rattle.std.specs.Prelude.{ℕ, ◌+◌, List, ◌++◌, length, take, drop, slice_index_or}
use Rattle.layout.specs.Contents.{Hop, Content, no_scheduled}
use Rattle.layout.specs.Fields.{file_length}

-- the output with bs at offset `at`, and all else as it was
unfoldable pub placed : List ℕ → ℕ → List ℕ → List ℕ
placed out at bs = take at out ++ (bs ++ drop (at + length bs) out)

-- where the records of the cells begin
abbrev pub cells_start : Content → ℕ
cells_start x = file_length (length x.delays) 0 0

-- where the hop record stands that has k others before it
abbrev pub hop_start : Content → ℕ → ℕ
hop_start x k = file_length (length x.delays) (length x.cells) k

-- the hops of cell c
abbrev pub hops_of : Content → ℕ → List Hop
hops_of x c = (slice_index_or x.cells c no_scheduled).hops
