use Rattle.std.proofs.Common.{rules, ℕ, ◌≡◌, ◌<◌, ◌≤◌, ◌^◌, ◌-◌, List, length, get_or, take, sym, ap, subst, ◌∙◌, arith}
use Rattle.std.proofs.lemmas.List.{length-take, get_or_read, get_or-take}
use Rattle.std.proofs.lemmas.Iterator.{YieldsList-from_slice}
use Rattle.std.proofs.lemmas.Iterator.Adapters.{serves_from_places, fits_from_length, at_most_from_yields_List}
use Rattle.plan.specs.Cells.{Routed}
use Rattle.plan.specs.Plans.{delays_of}
use Rattle.plan.proofs.plan.Plan.travel_along.Goals as goal

port_known : (n : ℕ) (r : List ℕ) (m i port : ℕ) → Routed n r → i < length (take m r) → port ≡ get_or (take m r) i port → port < n
port_known n r m i port h l e =
    let k : i < m = omega (arith, length-take m r) in
    let is = get_or_read (take m r) i port l e 0 in
    omega (arith, is, get_or-take m r i 0 k, h.2 i (omega (arith, length-take m r)))

pub sum-requires-clause-can : goal.sum-requires-clause-can
sum-requires-clause-can c =
    let r = c.args.ports.now in
    let most = length r - 1 in
    let same = ap (λ i. i.rest.now) c.map.ensures.source ∙ c.iter.ensures.rest in (
      tt,
      serves_from_places (YieldsList-from_slice (take most r) same) (λ x q h. search rules) (λ x k l e _ _ _ _ _ _.
          subst (λ f. x.now < length (delays_of f.0.now)) (sym c.map.ensures.closure) (port_known _ r most k x.now c.requires l e)),
    )

pub sum-requires-clause-fits : goal.sum-requires-clause-fits
sum-requires-clause-fits c =
    let r = c.args.ports.now in
    let most = length r - 1 in
    let same = ap (λ i. i.rest.now) c.map.ensures.source ∙ c.iter.ensures.rest in
    let few : length (take most r) ≤ 8 = omega (arith, length-take most r, c.requires.1) in
    fits_from_length _ _ 8 (2 ^ 32) (at_most_from_yields_List (YieldsList-from_slice (take most r) same) few) c.map.ensures.closure (omega arith) (λ x r q k. search rules)
