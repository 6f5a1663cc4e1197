use Rattle.std.specs.Prelude.{MatchResult, length, ◌<◌}
use Rattle.std.proofs.Common.{◌≡◌, ℕ, ◌≤◌, ◌||◌, eqb, ltb, map, None, ◌∙◌, subst, arith}
use Rattle.std.proofs.lemmas.Bool.{ne_eqb, le-ltb}
use Rattle.refusal.specs.Tests.{when, or_else}
use Rattle.refusal.specs.declared.Refusal.TheVariants.{NoCells, NoPlace}
use Rattle.sheet.specs.Rows.{scheduled}
use Rattle.sheet.specs.Sheets.{RowsTold}
use Rattle.sheet.proofs.Made.{tells, all_hops, fit}
use Rattle.sheet.proofs.Once.{one_telling}
use Rattle.sheet.proofs.sheet.Sheet.new.Goals as goal

-- enough cells, slacks and slots pass the tests
passes : (n a b h : ℕ) → (n ≡ 0 → ⊥) → n ≤ a → h ≤ b → or_else (when (eqb n 0) NoCells) (when (ltb a n || ltb b h) NoPlace) ≡ None
passes n a b h some l m = rw (ne_eqb n 0 some, le-ltb a n l, le-ltb b h m)

pub returns-then-cells-eq0-clause-one : goal.returns-then-cells-eq0-clause-one
returns-then-cells-eq0-clause-one c = one_telling

pub returns-then-slacks-cells-clause-one : goal.returns-then-slacks-cells-clause-one
returns-then-slacks-cells-clause-one c = one_telling

pub invariant_of-result : goal.invariant_of-result
invariant_of-result c =
    let p = c.args.plan.now in
    let some = c.if-cells-eq0.false in
    let delays = (subst (λ r. MatchResult r (λ v. (v.items ≡ c.delays.result.now) × (length c.delays.result.now ≤ 32)) (λ _. 32 < length c.delays.result.now)) c.unwrap.ensures c.try_from.ensures).0 ∙ c.delays.ensures in
    let told = subst (λ cs. RowsTold cs c.args.slacks.now c.args.slots.now (map scheduled c.rows_of.result.items)) c.all_cells.ensures c.rows_of.ensures in
    record {
      all_hops = c.hops-hops.ensures ∙ all_hops c.args.run c.args.pile p c.args.slacks.now c.args.slots.now c.unwrap.result.items c.rows_of.result.items delays told;
      fit = fit c.args.run c.args.pile p c.args.slacks.now c.args.slots.now c.unwrap.result.items c.rows_of.result.items delays told (omega arith) c.type_inv.slots;
    }

pub returns : goal.returns
returns c =
    let p = c.args.plan.now in
    let n = c.cells-cells.ensures in
    let h = c.hops-hops.ensures in
    let some = c.if-cells-eq0.false in
    let delays = (subst (λ r. MatchResult r (λ v. (v.items ≡ c.delays.result.now) × (length c.delays.result.now ≤ 32)) (λ _. 32 < length c.delays.result.now)) c.unwrap.ensures c.try_from.ensures).0 ∙ c.delays.ensures in
    let told = subst (λ cs. RowsTold cs c.args.slacks.now c.args.slots.now (map scheduled c.rows_of.result.items)) c.all_cells.ensures c.rows_of.ensures in
    record {
      answers = (passes _ _ _ _ (λ e. some (n ∙ e)) (omega arith) (omega arith), tells c.args.run c.args.pile p c.args.slacks.now c.args.slots.now c.unwrap.result.items c.rows_of.result.items delays told);
      one = one_telling;
    }
