use Rattle.std.proofs.Common.{◌≡◌, [], ◌∷◌, length, sym, rules}
use Rattle.std.proofs.lemmas.List.{take_at}
use Rattle.schedule.proofs.chain.Found.note.Goals as goal

pub returns-else-not-is_full-clause-ports : goal.returns-else-not-is_full-clause-ports
returns-else-not-is_full-clause-ports c =
    let ports = c.args.self.now.ports.items in
    let full : length ports ≡ 9 = search rules in
    sym (take_at ports (c.args.port ∷ []) 9 full)
