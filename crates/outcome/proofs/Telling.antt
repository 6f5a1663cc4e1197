-- What a sheet of a recording that has ended tells.
use Rattle.std.proofs.Common.{◌≡◌, ℕ, ◌+◌, ◌<◌, ◌≤◌, eqb, List, map, length, get_or, take, ℤ, pos, None, Result, sym, ap, ◌∙◌, subst, arith}
use Rattle.std.proofs.lemmas.Bool.{le-ltb, or_from}
use Rattle.std.proofs.lemmas.List.{get_or-map, get_or-take, length-map, length-take-le}
use Rattle.refusal.specs.Tests.{when, or_else}
use Rattle.refusal.specs.declared.Refusal.{Refusal}
use Rattle.refusal.specs.declared.Refusal.TheVariants.{NoCells, NoPlace}
use Rattle.refusal.proofs.Ordered.{or_else_none}
use Rattle.layout.specs.Contents.{Content}
use Rattle.layout.specs.RoundTrip.{Written}
use Rattle.layout.specs.declared.kind.Pile.{Pile}
use Rattle.layout.specs.declared.kind.Kind.TheVariants.{Recording as KindRecording}
use Rattle.plan.specs.Cells.{hops_in}
use Rattle.plan.specs.Plans.{delays_of, cells_of}
use Rattle.plan.specs.declared.plan.Plan.{Plan}
use Rattle.rules.specs.Loads.{no_hop, first_hop}
use Rattle.rules.specs.declared.hop.HopRecord.{HopRecord}
use Rattle.run.specs.declared.recording.Recording.{Recording}
use Rattle.run.proofs.Hops.{place_within}
use Rattle.sheet.specs.Sheets.{Tells, sheet_test}
use Rattle.outcome.specs.Ends.{ended_test, slot_told}
use Rattle.outcome.specs.Files.{Recorded, file_test, Filed}
use Rattle.outcome.specs.Outcomes.{held_slack, slack_left}

module _ (r : Recording) (log : List HopRecord) (xs : List ℤ) (ss : List ℕ) (wide : length xs ≡ length (cells_of r.plan))
    (long : hops_in (cells_of r.plan) ≤ length log) (slots : ss ≡ map slot_told (take (hops_in (cells_of r.plan)) log)) where
  broad : length ss ≡ hops_in (cells_of r.plan)
  broad = ap length slots ∙ length-map (take (hops_in (cells_of r.plan)) log) slot_told ∙ length-take-le (hops_in (cells_of r.plan)) log long

  -- it is refused just if there is no cell
  pub sheet_passes : sheet_test (cells_of r.plan) xs ss ≡ when (eqb (length (cells_of r.plan)) 0) NoCells
  sheet_passes =
      ap (λ b. or_else (when (eqb (length (cells_of r.plan)) 0) NoCells) (when b NoPlace))
      (or_from _ _ (le-ltb (length xs) (length (cells_of r.plan)) (omega arith)) (le-ltb (length ss) (hops_in (cells_of r.plan)) (omega (arith, broad))))
      ∙ or_else_none (when (eqb (length (cells_of r.plan)) 0) NoCells)

  slot : (k : ℕ) → k < hops_in (cells_of r.plan) → get_or ss k 0 ≡ slot_told (get_or log k no_hop)
  slot k l =
      ap (λ l. get_or l k 0) slots ∙ get_or-map slot_told (take (hops_in (cells_of r.plan)) log) k no_hop 0 (let e = broad in let f = length-take-le (hops_in (cells_of r.plan)) log long in omega arith)
      ∙ ap slot_told (get_or-take (hops_in (cells_of r.plan)) log k no_hop l)

  -- it is the recording
  pub recorded : (slacks : (c : ℕ) → c < length (cells_of r.plan) → get_or xs c (pos 0) ≡ held_slack (slack_left r log c))
      → (x : Content) → Tells KindRecording r.pile (delays_of r.plan) (cells_of r.plan) xs ss x → Recorded r log x
  recorded slacks x T = record {
    kind = T.kind;
    pile = T.pile;
    delays = T.delays;
    count = T.count;
    each = λ c l. record {
      entry = (T.each c l).entry;
      flow = (T.each c l).flow;
      slack = (T.each c l).slack ∙ slacks c l;
      long = (T.each c l).long;
      port = (T.each c l).port;
      sent = λ h m. (T.each c l).sent h m ∙ slot (first_hop (cells_of r.plan) c + h) (place_within (cells_of r.plan) c h l m);
    };
  }

  -- and its file is written
  pub filed : {p : Plan} {q : Pile} (before : List ℕ) (a : Result ℕ Refusal) (after : List ℕ) → p ≡ r.plan → q ≡ r.pile → ended_test r log ≡ None
      → ((c : ℕ) → c < length (cells_of r.plan) → get_or xs c (pos 0) ≡ held_slack (slack_left r log c))
      → (x : Content) → (sheet_test (cells_of p) xs ss ≡ None) × Tells KindRecording q (delays_of p) (cells_of p) xs ss x
      → Written x before a after → Filed (file_test r log) r log before a after
  filed {q = q} before a after plan pile ended slacks x told written =
      let here = subst (λ p. (sheet_test (cells_of p) xs ss ≡ None) × Tells KindRecording q (delays_of p) (cells_of p) xs ss x) plan told in
      let tells = subst (λ q. Tells KindRecording q (delays_of r.plan) (cells_of r.plan) xs ss x) pile here.1 in
      let passes = ap (λ t. or_else t (when (eqb (length (cells_of r.plan)) 0) NoCells)) ended ∙ sym sheet_passes ∙ here.0 in
      subst (λ t. Filed t r log before a after) (sym passes) (x, recorded slacks x tells, written)
