use Rattle.std.proofs.Common.{◌≡◌, ◌++◌, get_or, drop, string_bytes}
use Rattle.std.specs.List.{flat_map}
use Rattle.layout.specs.Contents.{no_scheduled}
use Rattle.listing.specs.Listed.{hop_part}
use Rattle.listing.proofs.cell.write_route.Given as goal

-- what is written, with the hops that are left, is the whole
abbrev pub invariant-loop-position : goal.invariant-loop-position
invariant-loop-position g l =
    string_bytes l.text ++ flat_map (λ h. hop_part (g.S.Source.content l.s).kind h.port h.sent) (drop l.position (get_or (g.S.Source.content l.s).cells l.cell no_scheduled).hops)
    ≡ string_bytes l.initial.text ++ flat_map (λ h. hop_part (g.S.Source.content l.s).kind h.port h.sent) (get_or (g.S.Source.content l.s).cells l.cell no_scheduled).hops
