use Rattle.std.proofs.Common.{◌≡◌, ◌++◌, drop, string_bytes}
use Rattle.listing.specs.Listed.{lines_from, port_line}
use Rattle.listing.proofs.write_ports.Given as goal

-- what is written, with the lines that are left, is the whole
abbrev pub invariant-loop-port : goal.invariant-loop-port
invariant-loop-port g l =
    string_bytes l.text ++ lines_from port_line l.port-counter (drop l.port-counter (g.S.Source.content l.s).delays)
    ≡ string_bytes l.initial.text ++ lines_from port_line 0 (g.S.Source.content l.s).delays
