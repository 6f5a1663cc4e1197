use Rattle.std.proofs.Common.{ℕ, List, map, length, vec_items, vec_len, Option, sym, refl, subst, arith}
use Rattle.std.proofs.lemmas.Result.{err_from_is_err_and}
use Rattle.refusal.specs.declared.Refusal.{Refusal}
use Rattle.refusal.proofs.Ordered.{tested_passes, tested_refuses}
use Rattle.plan.specs.Cells.{planned, no_cell, Fitting, Cells, cell_test}
use Rattle.plan.specs.Plans.{delays_of, cells_of}
use Rattle.plan.specs.declared.plan.Plan.{Plan}
use Rattle.plan.proofs.Facts.{count_ports, count_cells, cells_fit}
use Rattle.plan.proofs.Growth.{each_pushed, map_pushed}
use Rattle.plan.proofs.Passed.{cell_fits}
use Rattle.plan.proofs.plan.Plan.add_cell.Goals as goal

abbrev tests_of : Plan → ℕ → List ℕ → Option Refusal
tests_of p flow r = cell_test (length (delays_of p)) (length (cells_of p)) flow r

pub returns-in_err-test_cell : goal.returns-in_err-test_cell
returns-in_err-test_cell c =
    let e = err_from_is_err_and c.from_residual.result c.from_residual.ensures.1 in
    let first = tested_refuses (tests_of c.args.self.now c.args.flow c.args.route.now) _ c.in_err-test_cell.ensures in
    rw (e.1, e.2, first) (refl, record { delays = refl; cells = refl })

pub invariant_of-self : goal.invariant_of-self
invariant_of-self c =
    let p = c.args.self.now in
    let n = length (delays_of p) in
    let passed = tested_passes (tests_of p c.args.flow c.args.route.now) _ c.in_ok-test_cell.ensures in
    let fits = cell_fits n (length (cells_of p)) c.args.entry c.args.flow c.args.route.now (omega arith) passed in
    let kept : Cells (vec_len p.delays) (map planned (vec_items c.push.new.self)) =
    rw (c.push.ensures.items, map_pushed, count_ports p)
    (each_pushed (Fitting n) no_cell (cells_of p) _ _ (cells_fit p) (subst (Fitting n) (sym c.new.ensures) fits.0)) in
    record {
      few_ports = p.few_ports;
      few_cells = omega (arith, fits.1, count_cells p);
      delays_fit = p.delays_fit;
      cells_fit = kept;
    }
