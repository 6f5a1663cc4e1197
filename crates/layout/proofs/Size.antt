-- The length of the canonical file.
use Rattle.std.proofs.Common.{◌≡◌, ℕ, suc, ◌+◌, List, [], ◌∷◌, ◌++◌, length, refl, ap, arith, length-append}
use Rattle.std.specs.List.{flat_map}
use Rattle.layout.specs.Fields.{file_length}
use Rattle.layout.specs.Contents.{Hop, Scheduled, Content, total_hops}
use Rattle.layout.specs.Canonical.{word_bytes, cell_bytes, hop_bytes, cell_records, route_records, hop_records, canonical, canonical_length}
use Rattle.layout.proofs.Blocks.{length_joined}

pub length_cell_records : (i : ℕ) (cs : List Scheduled) → length (cell_records i cs) ≡ length cs
length_cell_records i [] = refl
length_cell_records i (c ∷ cs) = ap suc (length_cell_records (i + length c.hops) cs)

pub length_route_records : (i : ℕ) (hs : List Hop) → length (route_records i hs) ≡ length hs
length_route_records i [] = refl
length_route_records i (h ∷ hs) = ap suc (length_route_records (i + 1) hs)

pub length_hop_records : (i : ℕ) (cs : List Scheduled) → length (hop_records i cs) ≡ total_hops cs
length_hop_records i [] = refl
length_hop_records i (c ∷ cs) =
    let a = length-append (route_records i c.hops) (hop_records (i + length c.hops) cs) in
    let b = length_route_records i c.hops in
    let d = length_hop_records (i + length c.hops) cs in
    omega arith

-- 8 bytes of head, 2 for each port, 10 for each cell, 8 for each hop record
pub canonical_size :
    (x : Content) → canonical_length x ≡ file_length (length x.delays) (length x.cells) (total_hops x.cells)
unfolding canonical
canonical_size x =
    let ds = flat_map word_bytes x.delays in
    let cs = flat_map cell_bytes (cell_records 1 x.cells) in
    let hs = flat_map hop_bytes (hop_records 1 x.cells) in
    let a = length-append ds (cs ++ hs) in
    let b = length-append cs hs in
    let d = length_joined word_bytes 2 (λ v. refl) x.delays in
    let e = length_joined cell_bytes 10 (λ v. refl) (cell_records 1 x.cells) in
    let f = length_joined hop_bytes 8 (λ v. refl) (hop_records 1 x.cells) in
    let g = length_cell_records 1 x.cells in
    let h = length_hop_records 1 x.cells in
    omega arith
