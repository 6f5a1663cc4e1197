-- What follows where all fields have passed.
use Rattle.std.proofs.Common.{◌≡◌, ℕ, ◌+◌, ◌-◌, ◌<◌, ◌≤◌, true, false, not, eqb, ltb, List, None, Option, sym, ◌∙◌, subst, inl, inr, arith}
use Rattle.std.proofs.lemmas.Bool.{ltb-false, eqb-true, not-false, and_cases, eq-eqb, false≢true}
use Rattle.refusal.specs.declared.Refusal.{Refusal}
use Rattle.refusal.specs.declared.Refusal.TheVariants.{BadField, BadFlow, BadIndex}
use Rattle.refusal.specs.Tests.{when, or_else, each_below}
use Rattle.refusal.proofs.Ordered.{or_else_passes, when_passes, each_below_passes}
use Rattle.plan.proofs.Passed.{within_parts}
use Rattle.layout.specs.Fields.{byte, long, kind_at, port_count, cell_count, hop_count, delay_at, cell_offset, flow_at, first_at, hop_offset, next_at, sent_at}
use Rattle.layout.specs.Order.{load_nonzero, port_fields, cell_fields, hop_fields, leads_on, field_tests}
use Rattle.schedule.specs.Chains.{Linked}

-- the last of three tests
last_passes : (a b c : Option Refusal) → or_else a (or_else b c) ≡ None → c ≡ None
last_passes a b c h = (or_else_passes b c (or_else_passes a (or_else b c) h).1).1

-- a field that must be zero in a load
pub load_zero : (bs : List ℕ) (v : ℕ) → load_nonzero bs v ≡ false → kind_at bs ≡ 1 → v ≡ 0
load_zero bs v h k =
    elim (and_cases (eqb (kind_at bs) 1) (not (eqb v 0)) h) [
      | inl e ↦ absurd (false≢true (sym e ∙ eq-eqb (kind_at bs) 1 k))
      | inr e ↦ eqb-true v 0 (not-false (eqb v 0) e)
    ]

module _ (bs : List ℕ) (passed : field_tests bs ≡ None) where
  ports_passed : each_below (port_count bs) (port_fields bs) ≡ None
  ports_passed = (or_else_passes _ _ passed).0

  rest_passed : (each_below (cell_count bs) (cell_fields bs) ≡ None) × (each_below (hop_count bs) (λ k. hop_fields bs (k + 1)) ≡ None)
  rest_passed = or_else_passes _ _ (or_else_passes _ _ passed).1

  pub delay_fits : (p : ℕ) → p < port_count bs → (1 ≤ delay_at bs p) × (delay_at bs p ≤ 255)
  delay_fits p l = within_parts 1 255 (delay_at bs p) (when_passes _ _ (each_below_passes (port_fields bs) (port_count bs) p ports_passed l))

  module _ (c : ℕ) (l : c < cell_count bs) where
    cell_passed : cell_fields bs c ≡ None
    cell_passed = each_below_passes (cell_fields bs) (cell_count bs) c rest_passed.0 l

    pub flow_fits : flow_at bs c ≤ 7
    flow_fits = ltb-false 7 (flow_at bs c) (when_passes _ _ (or_else_passes _ _ cell_passed).0)

    index_passed : or_else (when (ltb (hop_count bs) (first_at bs c)) (BadIndex (cell_offset bs c + 4))) (when (load_nonzero bs (long bs (cell_offset bs c + 6))) (BadField (cell_offset bs c + 6))) ≡ None
    index_passed = last_passes (when (ltb 7 (flow_at bs c)) (BadFlow c)) (when (not (eqb (byte bs (cell_offset bs c + 3)) 0)) (BadField (cell_offset bs c + 3))) _ cell_passed

    pub first_fits : first_at bs c ≤ hop_count bs
    first_fits = ltb-false (hop_count bs) (first_at bs c) (when_passes _ _ (or_else_passes _ _ index_passed).0)

    pub slack_zero : kind_at bs ≡ 1 → long bs (cell_offset bs c + 6) ≡ 0
    slack_zero = load_zero bs (long bs (cell_offset bs c + 6)) (when_passes _ (BadField (cell_offset bs c + 6)) (or_else_passes (when (ltb (hop_count bs) (first_at bs c)) (BadIndex (cell_offset bs c + 4))) _ index_passed).1)

  module _ (i : ℕ) (some : 0 < i) (l : i ≤ hop_count bs) where
    hop_passed : hop_fields bs i ≡ None
    hop_passed =
        let e : i - 1 + 1 ≡ i = omega arith in
        subst (λ x. hop_fields bs x ≡ None) e (each_below_passes (λ k. hop_fields bs (k + 1)) (hop_count bs) (i - 1) rest_passed.1 (omega arith))

    pub next_fits : leads_on (hop_count bs) i (next_at bs i) ≡ true
    next_fits = not-false _ (when_passes _ _ (or_else_passes _ _ hop_passed).0)

    pub sent_zero : kind_at bs ≡ 1 → sent_at bs i ≡ 0
    sent_zero = load_zero bs (sent_at bs i) (when_passes _ (BadField (hop_offset bs i + 4)) (last_passes (when (not (leads_on (hop_count bs) i (next_at bs i))) (BadIndex (hop_offset bs i))) (when (not (eqb (byte bs (hop_offset bs i + 3)) 0)) (BadField (hop_offset bs i + 3))) _ hop_passed))

  pub linked : Linked bs
  linked = record { first = first_fits; next = next_fits }
