-- Calls of `slot`, one after another.
use Rattle.std.proofs.Common.{◌≡◌, ℕ, ◌+◌, ◌≤◌, true, false, ◌⊎◌, List, length, ℤ, IfOk, IfErr, Ok, Err, Result, sym, ap, ◌∙◌, subst, inl, inr, arith}
use Rattle.std.proofs.lemmas.Bool.{cases_Bool, le-ltb, or_from}
use Rattle.refusal.specs.Tests.{tested, when, or_else}
use Rattle.refusal.specs.declared.Refusal.{Refusal}
use Rattle.refusal.specs.declared.Refusal.TheVariants.{RunEnded, NoPlace}
use Rattle.discipline.specs.Meaning.{Waiting}
use Rattle.plan.specs.Cells.{hops_in}
use Rattle.plan.specs.Plans.{cells_of}
use Rattle.run.specs.Slots.{Coherent, Performed, Calls, Called, AllGone, ended, too_short, slot_test}
use Rattle.run.specs.Slots.Calls.{none, performed, refused}
use Rattle.rules.specs.declared.hop.HopRecord.{HopRecord}
use Rattle.run.specs.declared.recording.Recording.{Recording}
use Rattle.table.specs.declared.flight.Flight.{Flight}
use Rattle.run.proofs.Ended.{none_later, all_gone_past}

-- where the run has not ended and the memory suffices, the slot is not refused; where it has ended, it is
never_ok : (r : Recording) (flights : List Flight) (log : List HopRecord) → ended r ≡ true → Ok tt ≡ tested (slot_test r flights log) → ⊥
never_ok r flights log e v =
    let w : Ok tt ≡ tested (or_else (when true RunEnded) (when (too_short r flights log) NoPlace)) = v ∙ ap (λ b. tested (or_else (when b RunEnded) (when (too_short r flights log) NoPlace))) e in
    let z : ◌≡◌ {A = ℕ} 0 1 = cc in omega arith

never_short : (r : Recording) (flights : List Flight) (log : List HopRecord) (x : Refusal) → length (cells_of r.plan) ≤ length flights → hops_in (cells_of r.plan) ≤ length log
    → Err x ≡ tested (slot_test r flights log) → ended r ≡ true
never_short r flights log x a b v = elim (cases_Bool (ended r)) [
  | inl y ↦ y
  | inr y ↦ absurd (
      let s : too_short r flights log ≡ false = or_from _ _ (le-ltb (length flights) (length (cells_of r.plan)) a) (le-ltb (length log) (hops_in (cells_of r.plan)) b) in
      let w : Err x ≡ tested (or_else (when false RunEnded) (when false NoPlace)) =
      v ∙ ap (λ e. tested (or_else (when e RunEnded) (when (too_short r flights log) NoPlace))) y ∙ ap (λ e. tested (when e NoPlace)) s in
      let z : ◌≡◌ {A = ℕ} 0 1 = cc in omega arith)
]

module _ {D : Type 0} (waiting : D → Waiting) (sound : D → Type 0) (arrives : D → ℕ → ℕ → ℕ → ℕ → ℤ → D → Type 0) (picks : D → ℕ → ℕ → ℕ → D → Type 0)
    (r : Recording) (log : List HopRecord) (d : D) where
  -- after n calls: either as many slots are done, or every cell is gone
  pub record Made (n : ℕ) (q : Recording) (flights : List Flight) (log' : List HopRecord) (e : D) : Type 0 where
    pub calls : Calls waiting sound arrives picks r log d n q log' e
    pub coherent : Coherent waiting sound q flights log' e
    pub count : (n ≤ q.next) ⊎ AllGone q

  pub made_none : (flights : List Flight) → Coherent waiting sound r flights log d → Made 0 r flights log d
  made_none flights C = record { calls = none; coherent = C; count = inl (omega arith) }

  pub made_more : (n : ℕ) (q : Recording) (flights : List Flight) (log' : List HopRecord) (e : D) → Made n q flights log' e
      → (a : Result (Unit {0}) Refusal) (p : Recording) (flights' : List Flight) (log'' : List HopRecord) (f : D)
      → a ≡ tested (slot_test q flights log')
      → IfErr a (λ _. (p ≡ q) × (flights' ≡ flights) × (log'' ≡ log') × (f ≡ e))
      → (Coherent waiting sound q flights log' e → IfOk a (λ _. Performed waiting sound arrives picks q log' e p flights' log'' f))
      → (Coherent waiting sound q flights log' e → (ended q ≡ true → AllGone q) × (AllGone q → ended q ≡ true))
      → Made (n + 1) p flights' log'' f
  made_more n q flights log' e M (Ok x) p flights' log'' f value left done ends =
      let P = done M.coherent in
      record {
        calls = performed M.calls P;
        coherent = P.coherent;
        count = elim M.count [
          | inl l ↦ inl (let k = P.next in omega arith)
          | inr g ↦ absurd (never_ok q flights log' ((ends M.coherent).1 g) value)
        ];
      }
  made_more n q flights log' e M (Err x) p flights' log'' f value left done ends =
      let C = M.coherent in
      let gone = (ends C).0 (never_short q flights log' x C.room C.long value) in
      let same : Made (n + 1) q flights log' e = record { calls = refused M.calls gone; coherent = C; count = inr gone } in
      subst (λ z. Made (n + 1) z flights' log'' f) (sym left.0)
      (subst (λ z. Made (n + 1) q z log'' f) (sym left.1)
      (subst (λ z. Made (n + 1) q flights z f) (sym left.2)
      (subst (λ z. Made (n + 1) q flights log' z) (sym left.3) same)))

  pub made_called : (n : ℕ) (q : Recording) (flights : List Flight) (log' : List HopRecord) (e : D) → Made n q flights log' e → Called waiting sound arrives picks n r log d q flights log' e
  made_called n q flights log' e M = record {
    calls = M.calls;
    coherent = M.coherent;
    no_later = λ i l a b c h v on s. none_later waiting sound q log' e M.coherent.between i l a b c h v on s;
    all_gone = λ i l a b more. elim M.count [
      | inl k ↦ all_gone_past waiting sound q log' e M.coherent.between i l a b (omega arith)
      | inr g ↦ g
    ];
  }
