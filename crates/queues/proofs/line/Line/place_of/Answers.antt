use Rattle.std.proofs.Common.{◌≡◌, MatchOption, subst}
use Rattle.queues.specs.Entries.{HasNo, Stands}
use Rattle.queues.specs.Lines.{queue}
use Rattle.queues.proofs.Seeking.{cell_found}
use Rattle.queues.proofs.line.Line.place_of.Goals as goal

pub returns : goal.returns
returns c =
    let r = c.place_of.result in
    let cell = c.args.cell in
    cell_found (queue c.args.self.now) cell r
    (subst (λ q. MatchOption r (HasNo (λ e. e.cell ≡ cell) q) (Stands q cell)) c.waiting.ensures c.place_of.ensures)
