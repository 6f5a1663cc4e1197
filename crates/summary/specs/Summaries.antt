-- What came of a recording that has ended, as text for a person.
use Rattle.std.specs.Prelude.{◌≡◌, ℕ, zero, suc, Bool, false, cond, List, [], ◌∷◌, ◌++◌, length, None, Ok, Err, string_bytes, codes, decimal, Result, String, slice_index_or}
use Rattle.std.specs.List.{flat_map}
use Rattle.std.specs.Fmt.{signed_decimal}
use Rattle.std.specs.declared.alloc.Global.{Global}
use Rattle.refusal.specs.Tests.{Refuses}
use Rattle.refusal.specs.declared.Refusal.{Refusal}
use Rattle.plan.specs.Plans.{delays_of, cells_of}
use Rattle.rules.specs.declared.hop.HopRecord.{HopRecord}
use Rattle.run.specs.declared.recording.Recording.{Recording}
use Rattle.outcome.specs.Ends.{ended_test}
use Rattle.outcome.specs.Outcomes.{outcome_of}
use Rattle.outcome.specs.declared.cell.CellOutcome.{CellOutcome}

-- what ends a line
abbrev pub feed : List ℕ
feed = 10 ∷ []

-- the line of the cell with the number n
abbrev pub cell_line : ℕ → CellOutcome → List ℕ
cell_line n o =
    codes "cell " ++ (decimal n
    ++ (codes " entry " ++ (decimal o.entry
    ++ (codes " exit " ++ (decimal o.exit
    ++ (codes " waited " ++ (signed_decimal o.slack ++ feed)))))))

-- the lines of the cells below n, in rising order
abbrev pub cell_lines : Recording → List HopRecord → ℕ → List ℕ
cell_lines r log zero = []
cell_lines r log (suc n) = cell_lines r log n ++ cell_line n (outcome_of r log n)

-- the ports below n whose flag is set, in rising order
abbrev pub flagged : List Bool → ℕ → List ℕ
flagged flags zero = []
flagged flags (suc n) = cond (slice_index_or flags n false) (flagged flags n ++ n ∷ []) (flagged flags n)

-- a port in a line
abbrev pub port_part : ℕ → List ℕ
port_part p = codes " " ++ decimal p

-- ports in a line, one after another, or the word for none
abbrev pub ports_part : List ℕ → List ℕ
ports_part [] = codes " none"
ports_part (p ∷ ps) = flat_map port_part (p ∷ ps)

-- the line of contested ports
abbrev pub ports_line : List ℕ → List ℕ
ports_line ps = codes "contested" ++ (ports_part ps ++ feed)

-- the contested ports of the plan
abbrev pub contested_ports : Recording → List ℕ
contested_ports r = flagged r.contested (length (delays_of r.plan))

-- their line
abbrev pub contested_line : Recording → List ℕ
contested_line r = ports_line (contested_ports r)

-- the whole text
unfoldable pub summarized : Recording → List HopRecord → List ℕ
summarized r log = cell_lines r log (length (cells_of r.plan)) ++ contested_line r

-- the text, or the first test that fails, or no memory where none does
abbrev pub Answers : Recording → List HopRecord → Result (String Global) Refusal → Type 0
Answers r log (Ok t) = (ended_test r log ≡ None) × (string_bytes t ≡ summarized r log)
Answers r log (Err e) = Refuses (ended_test r log) e
