use Rattle.std.proofs.Common.{◌≡◌, ℕ, ◌<◌, map, length, get_or}
use Rattle.plan.specs.Cells.{ports_of}
use Rattle.layout.specs.Contents.{no_hop}
use Rattle.sheet.specs.Rows.{hop_of}
use Rattle.sheet.proofs.row.Row.new.Given as goal

-- a hop for each port so far
abbrev pub invariant-loop-port : goal.invariant-loop-port
invariant-loop-port l =
    (length l.hops.items ≡ length l.yielded)
    × ((h : ℕ) → h < length l.yielded → get_or (map hop_of l.hops.items) h no_hop ≡ record { port = get_or (ports_of l.cell.route) h 0; sent = get_or l.slots h 0 })
