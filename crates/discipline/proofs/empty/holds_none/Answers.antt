use Rattle.std.proofs.Common.{◌≡◌, ℕ, ◌<◌, ◌≢◌, length, get_or, subst, arith, rules}
use Rattle.std.specs.Bool.{MatchBool}
use Rattle.std.specs.List.{AllWithin, HoldsAt, range_with_len}
use Rattle.std.proofs.lemmas.Iterator.{cases_from_all, YieldsList-from_range}
use Rattle.std.proofs.lemmas.List.FromFn.{get_or-range_with_len, length-range_with_len}
use Rattle.discipline.specs.Meaning.{count_at}
use Rattle.discipline.proofs.Counting.{empty_ports, empty_count}
use Rattle.discipline.proofs.empty.holds_none.Goals as goal

pub returns : goal.returns
returns g c =
    let w = g.D.Discipline.waiting c.args.d.now in
    let Sound : Type 0 = g.D.Discipline.sound c.args.d.now in
    let None-at : ℕ → Type 0 = λ p. Sound → p < 32 → count_at w p ≡ 0 in
    let Some-at : ℕ → Type 0 = λ p. Sound → p < 32 → count_at w p ≢ 0 in
    let ports = range_with_len 0 32 in
    let long : length ports ≡ 32 = length-range_with_len 0 32 in
    let Every : Type 0 = AllWithin None-at ports 0 (length ports) in
    let One : Type 0 = (k : ℕ) × (k < length ports) × HoldsAt Some-at ports k in
    let cases : MatchBool c.all.result Every One = cases_from_all _ _ _ None-at Some-at c.all.ensures.ran (YieldsList-from_range 0 32 32 (cc) (cc)) (λ x q k. search rules) (λ x q k. search rules) in
    record {
      empty = λ s all.
          let every : Every = subst (λ b. MatchBool b Every One) all cases in
          empty_ports w (g.met.D.Discipline.limits c.args.d.now s)
          (λ p l.
          let at : get_or ports p 0 ≡ p = (let e = get_or-range_with_len 0 32 p 0 l in omega arith) in
          subst (λ q. count_at w q ≡ 0) at (every p 0 (omega arith) (omega arith) s (omega arith)));
      some = λ s all none.
          let one : One = subst (λ b. MatchBool b Every One) all cases in
          let inside : one.0 < 32 = (let l = one.1 in omega arith) in
          let at : get_or ports one.0 0 ≡ one.0 = (let e = get_or-range_with_len 0 32 one.0 0 inside in omega arith) in
          one.2 0 s (omega arith) (empty_count w (get_or ports one.0 0) none);
    }
