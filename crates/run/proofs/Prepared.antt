-- The records, the flights and the hop log that a seal prepares.
use Rattle.std.proofs.Common.{◌≡◌, ℕ, zero, suc, ◌+◌, ◌-◌, ◌<◌, ◌≤◌, min, Bool, true, false, leb, List, [], ◌∷◌, ◌++◌, map, length, get_or, take, drop, replicate, Result, sym, refl, ap, ◌∙◌, subst, inl, inr, add-one, arith, length-append, length-drop, length-take, MatchResult}
use lib.ListN.{length-replicate, get_or-replicate}
use Rattle.std.proofs.lemmas.List.{get_or-map, get_or_past, get_or-drop, get_or_append_left, get_or-append_right, get_or_push, length-map}
use Rattle.std.proofs.lemmas.Bool.{cases_eq, cases_lt, lt-leb}
use Rattle.refusal.specs.Tests.{when, tested}
use Rattle.refusal.specs.declared.Refusal.{Refusal}
use Rattle.refusal.specs.declared.Refusal.TheVariants.{NoPlace}
use Rattle.plan.specs.Cells.{Planned, planned, no_cell}
use Rattle.plan.specs.declared.cell.Cell.{Cell}
use Rattle.table.specs.Kinds.{flight_upto}
use Rattle.table.specs.Order.{put_in}
use Rattle.table.specs.declared.flight.Flight.{Flight}
use Rattle.table.proofs.Laws.{length_put_in}
use Rattle.rules.specs.Loads.{first_hop, no_hop}
use Rattle.run.specs.Offsets.{no_record}
use Rattle.run.specs.Sealing.{Ready, launched, Cleared}
use Rattle.rules.specs.declared.condition.CellRecord.{CellRecord}
use Rattle.rules.specs.declared.condition.Condition.TheVariants.{Outside}
use Rattle.rules.specs.declared.hop.HopRecord.{HopRecord}

-- a cell that was read is the one of the plan
pub cell_read : (xs : List Cell) (cs : List Planned) (i : ℕ) (x : Cell) → map planned xs ≡ cs → i < length xs → x ≡ get_or xs i x
    → (i < length cs) × (get_or cs i no_cell ≡ planned x)
cell_read xs cs i x e l h = (
  omega (arith, ap length e, length-map xs planned),
  ap (λ ys. get_or ys i no_cell) (sym e) ∙ get_or-map planned xs i x no_cell l ∙ ap planned (sym h),
)

-- all cells were read
pub cells_read : (xs : List Cell) (cs : List Planned) (i : ℕ) → map planned xs ≡ cs → length xs ≤ i → i ≤ length xs → i ≡ length cs
cells_read xs cs i e l m = omega (arith, ap length e, length-map xs planned)

-- an array of one value
pub get_or_same : {X : Type 0} (n i : ℕ) (x : X) → get_or (replicate n x) i x ≡ x
get_or_same n i x = elim (cases_lt i n) [
  | inl l ↦ get_or-replicate n i x x l
  | inr l ↦ get_or_past (replicate n x) i x (omega (arith, length-replicate n x))
]

-- the record of one cell more
pub ready_more : (cs : List Planned) (k : ℕ) (rs : List CellRecord) (x : CellRecord) → Ready cs k rs → x.condition ≡ Outside → x.first ≡ first_hop cs k
    → Ready cs (k + 1) (rs ++ x ∷ [])
ready_more cs k rs x R out at =
    let size = R.size in
    let here : get_or (rs ++ x ∷ []) k no_record ≡ x = get_or_push rs x no_record k size in
    let there : (c : ℕ) → c < k → get_or (rs ++ x ∷ []) c no_record ≡ get_or rs c no_record = λ c l. get_or_append_left rs (x ∷ []) no_record c (omega arith) in
    record {
      size = omega (arith, length-append rs (x ∷ []));
      outside = λ c. elim (cases_lt c k) [
        | inl l ↦ ap (λ y. y.condition) (there c l) ∙ R.outside c
        | inr m ↦ elim (cases_eq c k) [
          | inl q ↦ ap (λ j. (get_or (rs ++ x ∷ []) j no_record).condition) q ∙ ap (λ y. y.condition) here ∙ out
          | inr n ↦ ap (λ y. y.condition) (get_or_past (rs ++ x ∷ []) c no_record (omega (arith, length-append rs (x ∷ []))))
        ]
      ];
      first = λ c m. elim (cases_eq c k) [
        | inl q ↦ ap (λ j. (get_or (rs ++ x ∷ []) j no_record).first) q ∙ ap (λ y. y.first) here ∙ at ∙ ap (first_hop cs) (sym q)
        | inr q ↦ ap (λ y. y.first) (there c (omega arith)) ∙ R.first c (omega arith)
      ];
    }

pub length_launched : (cs : List Planned) (k : ℕ) → length (launched cs k) ≡ k
length_launched cs zero = refl
length_launched cs (suc k) =
    let i = length_launched cs k in
    let e = length_put_in flight_upto (record { slot = (get_or cs k no_cell).entry; cell = k }) (launched cs k) in
    omega arith

-- where there is a free place, what is put is in
put_done : (free : Bool) (P : Unit {0} → Type 0) (Q : Refusal → Type 0) (r : Result (Unit {0}) Refusal) → r ≡ tested (when free NoPlace) → free ≡ false
    → MatchResult r P Q → P tt
put_done true P Q r e f d = let z : ◌≡◌ {A = ℕ} 0 1 = cc in absurd (omega arith)
put_done false P Q r e f d = subst (λ s. MatchResult s P Q) e d

-- the flight of one cell more
pub launched_more : (cs : List Planned) (k room : ℕ) (x : Flight) (fs gs : List Flight) (r : Result (Unit {0}) Refusal) (Q : Refusal → Type 0)
    → k < length cs → length cs ≤ room → fs ≡ launched cs k → x.slot ≡ (get_or cs k no_cell).entry → x.cell ≡ k
    → r ≡ tested (when (leb room (length fs)) NoPlace) → MatchResult r (λ _. gs ≡ put_in flight_upto x fs) Q → gs ≡ launched cs (k + 1)
launched_more cs k room x fs gs r Q l w e slot cell test done =
    let size = ap length e ∙ length_launched cs k in
    let put = put_done (leb room (length fs)) (λ _. gs ≡ put_in flight_upto x fs) Q r test (lt-leb room (length fs) (omega arith)) done in
    let same : x ≡ record { slot = (get_or cs k no_cell).entry; cell = k } = (λ i. record { slot = slot i; cell = cell i }) in
    put ∙ ap (λ y. put_in flight_upto y fs) same ∙ ap (put_in flight_upto (record { slot = (get_or cs k no_cell).entry; cell = k })) e ∙ ap (launched cs) (sym (add-one k))

-- the first records are cleared, and the others stay
pub cleared : (hops end : ℕ) (log front : List HopRecord) → end ≡ min hops (length log) → length front ≡ length (take end log)
    → ((k : ℕ) → k < length front → get_or front k no_hop ≡ no_hop) → Cleared hops log (front ++ drop end log)
cleared hops end log front e size none =
    let a = length-take end log in
    let long : length front ≡ end = omega arith in
    record {
      none = λ i l. elim (cases_lt i end) [
        | inl m ↦ get_or_append_left front (drop end log) no_hop i (omega arith) ∙ none i (omega arith)
        | inr m ↦ get_or_past (front ++ drop end log) i no_hop (omega (arith, length-append front (drop end log), length-drop end log))
      ];
      rest = λ i l.
          let at : end + (i - end) ≡ i = omega arith in
          get_or-append_right front (drop end log) end i no_hop long (omega arith) ∙ get_or-drop end log (i - end) no_hop ∙ ap (λ j. get_or log j no_hop) at;
    }
