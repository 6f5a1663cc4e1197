-- What every plan keeps.
use Rattle.std.proofs.Common.{◌≡◌, ℕ, suc, ◌*◌, ◌<◌, ◌≤◌, List, [], ◌∷◌, map, length, get_or, sum_by, vec_items, vec_len, refl, sym, ◌∙◌, subst, arith}
use Rattle.std.proofs.lemmas.List.{length-map}
use Rattle.std.proofs.lemmas.List.Sums.{sum_by-cons}
use Rattle.plan.specs.Cells.{Planned, planned, no_cell, Delays, Cells, hops_in}
use Rattle.plan.specs.Plans.{delays_of, cells_of}
use Rattle.plan.specs.declared.cell.Cell.{Cell}
use Rattle.plan.specs.declared.plan.Plan.{Plan}

hops_few : (cs : List Planned) → ((k : ℕ) → k < length cs → length (get_or cs k no_cell).route ≤ 8) → hops_in cs ≤ 8 * length cs
hops_few [] h = omega arith
hops_few (c ∷ cs) h = omega (arith, h 0 (omega arith), hops_few cs (λ k l. h (suc k) (omega arith)))

-- the hops of all cells, as the sum that counts them
pub hops_sum : (cs : List Cell) → sum_by (λ c. length (planned c).route) cs ≡ hops_in (map planned cs)
hops_sum [] = refl
hops_sum (c ∷ cs) = omega (arith, sum_by-cons (λ x. length (planned x).route) c cs, hops_sum cs)

module _ (p : Plan) where
  pub count_ports : vec_len p.delays ≡ length (delays_of p)
  count_ports = p.delays.ok.0

  pub count_cells : vec_len p.cells ≡ length (cells_of p)
  count_cells = p.cells.ok.0 ∙ sym (length-map (vec_items p.cells) planned)

  pub few_ports_lem : length (delays_of p) ≤ 32
  few_ports_lem = omega (arith, p.few_ports, count_ports)

  pub few_cells_lem : length (cells_of p) ≤ 256
  few_cells_lem = omega (arith, p.few_cells, count_cells)

  pub delays_fit_lem : Delays (delays_of p)
  delays_fit_lem = p.delays_fit

  pub cells_fit : Cells (length (delays_of p)) (cells_of p)
  cells_fit = subst (λ n. Cells n (cells_of p)) count_ports p.cells_fit

  pub few_hops : hops_in (cells_of p) ≤ 2048
  few_hops = omega (arith, few_cells_lem, hops_few (cells_of p) (λ k l. (cells_fit k l).2.1))
