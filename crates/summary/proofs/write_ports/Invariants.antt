use Rattle.std.proofs.Common.{◌≡◌, ◌++◌, take, string_bytes}
use Rattle.std.specs.List.{flat_map}
use Rattle.summary.specs.Summaries.{port_part}
use Rattle.summary.proofs.write_ports.Given as goal

-- the ports so far are written
abbrev pub invariant-loop-port : goal.invariant-loop-port
invariant-loop-port l = string_bytes l.text ≡ string_bytes l.initial.text ++ flat_map port_part (take l.port-index l.ports)
