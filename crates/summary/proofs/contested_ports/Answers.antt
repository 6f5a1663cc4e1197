use Rattle.std.proofs.Common.{◌≡◌, ℕ, zero, suc, ◌+◌, ◌++◌, Bool, true, false, cond, List, [], ◌∷◌, length, get_or, Ok, Some, None, Option, Result, refl, ap, ◌∙◌, append-nil, arith, rules}
use Rattle.std.specs.List.{filter, range_with_len}
use Rattle.std.proofs.lemmas.List.Elements.{filter-append}
use Rattle.std.proofs.lemmas.Iterator.{YieldsList-from_range}
use Rattle.std.proofs.lemmas.Iterator.Adapters.{fact_from_collect}
use Rattle.std.proofs.lemmas.Iterator.Consumers.{YieldsList-from_filter}
use Rattle.std.proofs.lemmas.Result.{IfOk-weaker}
use Rattle.refusal.specs.declared.Refusal.{Refusal}
use Rattle.discipline.specs.Calls.{told}
use Rattle.plan.specs.Plans.{delays_of}
use Rattle.summary.specs.Summaries.{flagged}
use Rattle.summary.proofs.contested_ports.Goals as goal

range_more : (a n : ℕ) → range_with_len a (suc n) ≡ range_with_len a n ++ (a + n) ∷ []
range_more a zero = let e : a ≡ a + 0 = omega arith in ap (λ x. x ∷ []) e
range_more a (suc n) = let e : a + 1 + n ≡ a + suc n = omega arith in ap (λ xs. a ∷ xs) (range_more (a + 1) n ∙ ap (λ x. range_with_len (a + 1) n ++ x ∷ []) e)

put_if : (b : Bool) (xs : List ℕ) (x : ℕ) → xs ++ cond b (x ∷ []) [] ≡ cond b (xs ++ x ∷ []) xs
put_if true xs x = refl
put_if false xs x = append-nil xs

module _ (flags : List Bool) where
  abbrev set : ℕ → Bool
  set p = get_or flags p false

  flagged_is : (n : ℕ) → filter set (range_with_len 0 n) ≡ flagged flags n
  flagged_is zero = refl
  flagged_is (suc n) =
      let e : 0 + n ≡ n = omega arith in
      ap (filter set) (range_more 0 n ∙ ap (λ x. range_with_len 0 n ++ x ∷ []) e) ∙ filter-append set (range_with_len 0 n) (n ∷ [])
      ∙ ap (λ xs. xs ++ cond (set n) (n ∷ []) []) (flagged_is n) ∙ put_if (set n) (flagged flags n) n

-- what a question has told
told_is : {X : Type 0} (t : Option Refusal) (x y : X) (r : Result X Refusal) → r ≡ told t x → r ≡ Ok y → y ≡ x
told_is (Some e) x y r g h = absurd (let z : ◌≡◌ {A = ℕ} 0 1 = cc in omega arith)
told_is None x y r g h = cc

pub returns : goal.returns
returns c =
    let r = c.args.recording.now in
    let all : ℕ = c.ports.result in
    let is : all ≡ length (delays_of r.plan) = c.ports.ensures ∙ ap (λ p. length (delays_of p)) c.plan.ensures in
    IfOk-weaker c.collect.result _ _ (λ v e. e ∙ flagged_is r.contested all ∙ ap (flagged r.contested) is)
    (fact_from_collect (λ xs v. v.items ≡ xs) _ c.collect.ensures.ran
    (YieldsList-from_filter _ (set r.contested) (YieldsList-from_range 0 all all c.filter.ensures.source (omega arith)) c.filter.ensures.closure
    (λ x b q k. search (rules, told_is))))
