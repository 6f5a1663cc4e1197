-- The chains of the canonical file reach its hop records one after another.
use Rattle.std.proofs.Common.{◌≡◌, ℕ, zero, suc, ◌<◌, ◌≤◌, length, refl, ap, ◌∙◌, arith}
use Rattle.std.specs.List.{range_with_len}
use Rattle.layout.specs.Contents.{Content, Fit}
use Rattle.layout.specs.Canonical.{canonical}
use Rattle.layout.specs.Order.{chain_from, chain_of, reached}
use Rattle.layout.proofs.Limits.{cell, before, before_more, before_few, hops_some}
use Rattle.layout.proofs.Image.{first_of, hops_is, cell_is}
use Rattle.layout.proofs.Chains.{chain_is}
use Rattle.layout.proofs.Holds.{route_consecutive}
use Rattle.layout.proofs.Counted.{counting_append}

module _ (x : Content) (fit : Fit x) where
  pub chain_of_is :
      (c : ℕ) → c < length x.cells → chain_of (canonical x) c ≡ range_with_len (first_of x c) (length (cell x c).hops)
  chain_of_is c l =
      let a = before_few x fit c l in
      let b = hops_is x fit in
      let some = hops_some x fit c l in
      ap (chain_from _ (canonical x)) (cell_is x fit c l).first
      ∙ chain_is (canonical x) _ (first_of x c) (cell x c).hops (omega arith) some (omega arith)
      (route_consecutive x fit c l)

  pub reached_is : (c : ℕ) → c ≤ length x.cells → reached (canonical x) c ≡ range_with_len 1 (before c x.cells)
  reached_is zero l = refl
  reached_is (suc c) l =
      let a = reached_is c (omega arith) in
      let b = chain_of_is c (omega arith) in
      let d = counting_append 1 (before c x.cells) (first_of x c) (length (cell x c).hops) refl in
      let e = before_more x.cells c (omega arith) in
      rw (a, b, d, e)
