use Rattle.std.proofs.Common.{◌≡◌, ℕ, ◌-◌, ◌<◌, ltb, List, length, get_or, pos, ◌-ℤ◌, Some, None, Ok, Option, Result, unwrap_or, sym, refl, ap, subst, ◌∙◌, arith, w64, SFits, rules}
use Rattle.std.proofs.lemmas.Int.{to_z-of_z}
use Rattle.std.proofs.lemmas.Bool.{lt-leb, or_from}
use Rattle.refusal.specs.Tests.{when, or_else}
use Rattle.refusal.specs.declared.Refusal.{Refusal}
use Rattle.refusal.specs.declared.Refusal.TheVariants.{UnknownItem, NoPlace}
use Rattle.discipline.specs.Calls.{told}
use Rattle.plan.specs.Cells.{Planned, planned, ports_of, no_cell, hops_in, travel}
use Rattle.plan.specs.Plans.{cells_of, delays_of, Asked}
use Rattle.plan.specs.declared.cell.Cell.{Cell}
use Rattle.plan.specs.declared.cell.Route.{Route}
use Rattle.plan.proofs.Facts.{cells_fit}
use Rattle.rules.specs.Loads.{sent_in}
use Rattle.rules.specs.declared.hop.HopRecord.{HopRecord}
use Rattle.run.specs.Asking.{sent_test}
use Rattle.run.specs.declared.recording.Recording.{Recording}
use Rattle.outcome.specs.Outcomes.{fared_test, outcome_of}
use Rattle.outcome.proofs.cell.fared.Goals as goal

-- the ports that were read are those of the plan
ports_are : {ports : List ℕ} {r : Route} (x : Cell) {y : Planned} → ports ≡ ports_of r → r ≡ x.route → planned x ≡ y → ports ≡ y.route
ports_are x a b e = a ∙ ap ports_of b ∙ ap (λ z. z.route) e

module _ (r : Recording) (log : List HopRecord) (c : ℕ) (l : c < length (cells_of r.plan)) where
  abbrev last : ℕ
  last = length (get_or (cells_of r.plan) c no_cell).route - 1

  -- at the last position of a cell of the plan, only a short log is refused
  asked : sent_test (cells_of r.plan) log c last ≡ fared_test r log c
  asked =
      let s = (cells_fit r.plan c l).2.0 in
      ap (λ b. or_else (when b UnknownItem) (when (ltb (length log) (hops_in (cells_of r.plan))) NoPlace))
      (or_from _ _ (lt-leb (length (cells_of r.plan)) c l) (lt-leb (length (get_or (cells_of r.plan) c no_cell).route) last (omega arith))
      ∙ sym (lt-leb (length (cells_of r.plan)) c l))

-- what was told where a test passes
told_ok : {X Y : Type 0} (t : Option Refusal) (x v : X) (y : Y) → Ok v ≡ told t x → (v ≡ x) × (◌≡◌ {A = Result Y Refusal} (Ok y) (told t y))
told_ok (Some f) x v y h = absurd (let z : ◌≡◌ {A = ℕ} 0 1 = cc in omega arith)
told_ok None x v y h = ((let z : v ≡ x = cc in z), refl)

pub returns : goal.returns
returns c =
    let r = c.args.recording.now in
    let log = c.args.log.now in
    let p = c.plan-plan.ensures in
    let l : c.args.cell < length (cells_of r.plan) = (let k = ap (λ x. length (cells_of x)) p in let m = c.in-Some.ensures.0 in omega arith) in
    let own = c.in-Some.ensures.1 ∙ ap (λ x. get_or (cells_of x) c.args.cell no_cell) p in
    let at : length c.ports.result.now - 1 ≡ length (get_or (cells_of r.plan) c.args.cell no_cell).route - 1 =
    ap (λ x. length x - 1) (ports_are c.in-Some.planned c.ports.ensures c.route.ensures own) in
    let what = c.in_ok-sent.ensures ∙ ap (λ h. told (sent_test (cells_of r.plan) log c.args.cell h) (sent_in (cells_of r.plan) log c.args.cell h)) at
    ∙ ap (λ t. told t (sent_in (cells_of r.plan) log c.args.cell (last r log c.args.cell l))) (asked r log c.args.cell l) in
    let ok = told_ok (fared_test r log c.args.cell) _ _ (outcome_of r log c.args.cell) what in
    let exit = c.unwrap_or-exit.ensures ∙ ap (λ o. unwrap_or o 0) ok.0 in
    let entry = c.entry-entry.ensures ∙ ap (λ x. x.entry) own in
    let travels = (subst (λ o. Asked (length (cells_of c.plan-plan.result.now)) c.args.cell o (λ t. t ≡ travel (delays_of c.plan-plan.result.now) (get_or (cells_of c.plan-plan.result.now) c.args.cell no_cell).route)) c.unwrap-travel.ensures c.least_travel.ensures).1
    ∙ ap (λ x. travel (delays_of x) (get_or (cells_of x) c.args.cell no_cell).route) p in
    let small : SFits w64 c.left_over.result = search rules in
    let slack = to_z-of_z w64 c.left_over.result small ∙ c.left_over.ensures ∙ (λ i. pos (exit i) -ℤ pos (entry i) -ℤ pos (travels i)) in
    ap Ok (λ i. record { entry = entry i; exit = exit i; slack = slack i }) ∙ ok.1
