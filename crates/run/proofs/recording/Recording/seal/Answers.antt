use Rattle.std.proofs.Common.{◌≡◌, ℕ, false, get_or, replicate, refl, ap, ◌∙◌, subst, arith}
use Rattle.run.specs.Offsets.{no_record}
use Rattle.run.specs.Sealing.{Cleared, Starting}
use Rattle.rules.specs.declared.condition.Condition.TheVariants.{Outside}
use Rattle.run.specs.declared.recording.Recording.{Recording}
use Rattle.run.proofs.Prepared.{get_or_same}
use Rattle.run.proofs.Sealed.{coherent}
use Rattle.run.proofs.recording.Recording.seal.Goals as goal

starting : (r : Recording) → r.next ≡ 0 → r.gone ≡ 0 → ((c : ℕ) → (get_or r.records.items c no_record).condition ≡ Outside) → r.contested ≡ replicate 32 false → Starting r
starting r next gone outside calm =
    record { next = next; gone = gone; outside = outside; calm = λ p. ap (λ b. get_or b p false) calm ∙ get_or_same 32 p false }

pub returns-clause-start : goal.returns-clause-start
returns-clause-start g c = starting _ refl refl c.outside-records.ensures.outside refl

pub returns-clause-coherent : goal.returns-clause-coherent
returns-clause-coherent g c = λ lawful empty room long.
    let cleared = subst (λ n. Cleared n c.args.log.now c.clear.new.log) c.hops.ensures c.clear.ensures in
    coherent g.D.Discipline.waiting g.D.Discipline.sound _ c.args.log.now c.clear.new.log c.args.queue.now
    (starting _ refl refl c.outside-records.ensures.outside refl) cleared lawful empty c.launch-flying.new.flights (c.launch-flying.ensures room)
    (let kept = c.launch-flying.auto.flights in omega arith) (let kept = c.clear.auto.log in omega arith)
