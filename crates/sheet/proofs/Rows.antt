-- Rows and their hops, by index.
use Rattle.std.proofs.Common.{ℕ, zero, suc, ◌<◌, List, [], ◌∷◌, map, length, get_or, arith, w32, SFits}
use Rattle.layout.specs.Contents.{no_scheduled}
use Rattle.sheet.specs.Rows.{scheduled}
use Rattle.sheet.specs.declared.row.Row.{Row}

-- every slack has 32 bits
pub slack_fits_lem : (rs : List Row) (k : ℕ) → k < length (map scheduled rs) → SFits w32 (get_or (map scheduled rs) k no_scheduled).slack
slack_fits_lem [] k l = absurd (omega arith)
slack_fits_lem (r ∷ rs) zero l = record { sfits = r.slack_fits }
slack_fits_lem (r ∷ rs) (suc k) l = slack_fits_lem rs k (omega arith)
