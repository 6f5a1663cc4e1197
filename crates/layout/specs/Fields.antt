-- The fields of a schedule file at their offsets. Numbers are big-endian, slacks in two's complement.
-- Ports and cells count from 0, hop records from 1.
use Rattle.std.specs.Prelude.{ℕ, ◌+◌, ◌-◌, ◌*◌, List, ℤ, slice_index}
use Rattle.std.specs.Int.{w32}
use Rattle.std.proofs.Common.{to_z}

abbrev pub byte : List ℕ → ℕ → ℕ
byte bs at = slice_index bs at

-- a number of two bytes
unfoldable pub word : List ℕ → ℕ → ℕ
word bs at = byte bs at * 256 + byte bs (at + 1)

-- a number of four bytes
unfoldable pub long : List ℕ → ℕ → ℕ
long bs at = byte bs at * 16777216 + byte bs (at + 1) * 65536 + byte bs (at + 2) * 256 + byte bs (at + 3)

-- the head: kind, pile, and how many ports, cells and hop records follow
abbrev pub kind_at : List ℕ → ℕ
kind_at bs = byte bs 0

abbrev pub pile_at : List ℕ → ℕ
pile_at bs = byte bs 1

abbrev pub port_count : List ℕ → ℕ
port_count bs = word bs 2

abbrev pub cell_count : List ℕ → ℕ
cell_count bs = word bs 4

abbrev pub hop_count : List ℕ → ℕ
hop_count bs = word bs 6

-- 8 bytes of head, 2 for each port, 10 for each cell, 8 for each hop record
abbrev pub file_length : ℕ → ℕ → ℕ → ℕ
file_length ports cells hops = 8 + 2 * ports + 10 * cells + 8 * hops

-- a port: its delay
abbrev pub port_offset : ℕ → ℕ
port_offset p = 8 + 2 * p

abbrev pub delay_at : List ℕ → ℕ → ℕ
delay_at bs p = word bs (port_offset p)

-- a cell: entry slot, flow, a zero, the index of its first hop record, slack
abbrev pub cell_offset : List ℕ → ℕ → ℕ
cell_offset bs c = 8 + 2 * port_count bs + 10 * c

abbrev pub entry_at : List ℕ → ℕ → ℕ
entry_at bs c = word bs (cell_offset bs c)

abbrev pub flow_at : List ℕ → ℕ → ℕ
flow_at bs c = byte bs (cell_offset bs c + 2)

abbrev pub first_at : List ℕ → ℕ → ℕ
first_at bs c = word bs (cell_offset bs c + 4)

abbrev pub slack_at : List ℕ → ℕ → ℤ
slack_at bs c = to_z w32 (long bs (cell_offset bs c + 6))

-- a hop record: the index of the next one or 0, port, a zero, sent slot
abbrev pub hop_offset : List ℕ → ℕ → ℕ
hop_offset bs i = 8 + 2 * port_count bs + 10 * cell_count bs + 8 * (i - 1)

abbrev pub next_at : List ℕ → ℕ → ℕ
next_at bs i = word bs (hop_offset bs i)

abbrev pub port_at : List ℕ → ℕ → ℕ
port_at bs i = byte bs (hop_offset bs i + 2)

abbrev pub sent_at : List ℕ → ℕ → ℕ
sent_at bs i = long bs (hop_offset bs i + 4)
