-- What a sheet tells can be held by a file.
use Rattle.std.specs.Prelude.{◌≡◌, ℕ, ◌+◌, ◌<◌, List, map, length, get_or, take, ℤ, FitsSigned, ◌≢◌, slice_index, slice_index_or}
use Rattle.std.proofs.Common.{sym, ap, subst, ◌∙◌, arith, Fits}
use Rattle.std.specs.Int.{w32}
use Rattle.std.proofs.lemmas.List.{ext_get_or, length-map, get_or-map}
use Rattle.plan.specs.Cells.{Planned, no_cell, hops_in, Delays, Fitting}
use Rattle.plan.specs.Plans.{delays_of, cells_of}
use Rattle.plan.specs.declared.plan.Plan.{Plan}
use Rattle.plan.proofs.Facts.{few_ports_lem, few_cells_lem, delays_fit_lem, cells_fit}
use Rattle.layout.specs.Contents.{Scheduled, Content, Fit, Marked, no_hop, no_scheduled, plan_part}
use Rattle.layout.specs.declared.kind.Kind.TheVariants.{Load}
use Rattle.layout.specs.declared.kind.Pile.{Pile}
use Rattle.sheet.specs.Runs.{kind_of}
use Rattle.sheet.specs.Sheets.{Told, Tells}
use Rattle.sheet.specs.declared.run.Run.{Run}
use Rattle.sheet.specs.declared.run.Run.TheVariants.{Recording, Replay}

-- no run makes a load
not_load : (run : Run) → kind_of run ≢ Load
not_load Recording e = let z : ◌≡◌ {A = ℕ} 0 1 = cc in omega arith
not_load Replay e = let z : ◌≡◌ {A = ℕ} 0 1 = cc in omega arith

-- without its slack and its slots a cell is the plan's
plan_told : (c : Planned) (s : ℤ) (ss : List ℕ) (first : ℕ) (y : Scheduled) → Told c s ss first y → plan_part y ≡ c
plan_told c s ss first y t =
    let long = t.long in
    let mapped = length-map y.hops (λ h. h.port) in
    let route : map (λ h. h.port) y.hops ≡ c.route = ext_get_or 0 _ _ (omega arith) (λ h l.
    let here : h < length y.hops = omega arith in
    get_or-map (λ h. h.port) y.hops h no_hop 0 here ∙ t.port h (omega arith)) in
    λ i. record { entry = t.entry i; flow = t.flow i; route = route i }

module _ (run : Run) (pile : Pile) (p : Plan) (xs : List ℤ) (ss : List ℕ) (x : Content)
    (some : 0 < length (cells_of p)) (t : Tells (kind_of run) pile (delays_of p) (cells_of p) xs ss x)
    (slacks : (k : ℕ) → k < length x.cells → FitsSigned w32 (get_or x.cells k no_scheduled).slack)
    (slots : (i : ℕ) → Fits w32 (slice_index ss i)) where
  marked : (k : ℕ) → k < length x.cells → Marked x.kind (slice_index_or x.cells k no_scheduled)
  marked k l =
      let n = t.count in
      let told = t.each k (omega arith) in
      let long = told.long in (
        slacks k l,
        (λ j m. let e = told.sent j (omega arith) in let f = slots (hops_in (take k (cells_of p)) + j) in omega arith),
        (λ e. absurd (not_load run (sym t.kind ∙ e))),
        (λ e. absurd (not_load run (sym t.kind ∙ e))),
      )

  pub tells_fit : Fit x
  tells_fit =
      let n = t.count in
      let e = ap length t.delays in
      let first = (cells_fit p 0 some).2 in
      let port = first.2 0 first.0 in
      record {
        has_ports = omega arith;
        few_ports = let few = few_ports_lem p in omega arith;
        delays = subst Delays (sym t.delays) (delays_fit_lem p);
        has_cells = omega arith;
        few_cells = let few = few_cells_lem p in omega arith;
        cells = λ k l.
            let m = length-map x.cells plan_part in
            let here : k < length x.cells = omega arith in
            let in' : k < length (cells_of p) = omega arith in
            let same = get_or-map plan_part x.cells k no_scheduled no_cell here ∙ plan_told _ _ _ _ _ (t.each k in') in
            subst (λ d. Fitting d (slice_index_or (map plan_part x.cells) k no_cell)) (sym e)
            (subst (Fitting (length (delays_of p))) (sym same) (cells_fit p k in'));
        marks = marked;
      }
