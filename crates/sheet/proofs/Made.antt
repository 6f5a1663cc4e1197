-- What a sheet of these rows tells of a plan.
use Rattle.std.proofs.Common.{◌≡◌, ℕ, ◌<◌, List, map, length, get_or, ℤ, sym, refl, w32, Fits}
use Rattle.plan.specs.Cells.{hops_in}
use Rattle.plan.specs.Plans.{delays_of, cells_of}
use Rattle.plan.specs.declared.plan.Plan.{Plan}
use Rattle.layout.specs.Contents.{Fit, total_hops}
use Rattle.layout.specs.declared.kind.Pile.{Pile}
use Rattle.sheet.specs.Rows.{scheduled, content_from}
use Rattle.sheet.specs.Runs.{kind_of}
use Rattle.sheet.specs.Sheets.{RowsTold, Tells}
use Rattle.sheet.specs.declared.row.Row.{Row}
use Rattle.sheet.specs.declared.run.Run.{Run}
use Rattle.sheet.specs.Fitting.{tells_fit}
use Rattle.sheet.proofs.Rows.{slack_fits_lem}
use Rattle.sheet.proofs.Totals.{same_total}

module _ (run : Run) (pile : Pile) (p : Plan) (xs : List ℤ) (ss : List ℕ) (ds : List ℕ) (rs : List Row)
    (delays : ds ≡ delays_of p) (told : RowsTold (cells_of p) xs ss (map scheduled rs)) where
  pub tells : Tells (kind_of run) pile (delays_of p) (cells_of p) xs ss (content_from run pile ds rs)
  tells = record { kind = refl; pile = refl; delays = delays; count = told.0; each = told.1 }

  pub all_hops : hops_in (cells_of p) ≡ total_hops (map scheduled rs)
  all_hops = sym (same_total (cells_of p) (map scheduled rs) told.0 (λ k l. (told.1 k l).long))

  pub fit : 0 < length (cells_of p) → ((i : ℕ) → Fits w32 (get_or ss i 0)) → Fit (content_from run pile ds rs)
  fit some slots = tells_fit run pile p xs ss (content_from run pile ds rs) some tells (λ k l. slack_fits_lem rs k l) slots
