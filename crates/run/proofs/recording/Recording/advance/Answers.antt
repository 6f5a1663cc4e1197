use Rattle.std.proofs.Common.{◌≡◌, ℕ, ◌+◌, List, length, take, sym, ap, ◌∙◌, subst, arith}
use Rattle.plan.specs.Cells.{hops_in}
use Rattle.plan.specs.Plans.{cells_of}
use Rattle.table.specs.Elements.{elements}
use Rattle.rules.specs.Coherence.{Flying}
use Rattle.run.specs.Recordings.{network_of, moment}
use Rattle.rules.proofs.Disciplines.{Laws}
use Rattle.run.proofs.Kept.{kept_again}
use Rattle.run.proofs.Performing.{done}
use Rattle.run.proofs.recording.Recording.advance.Given as given
use Rattle.run.proofs.recording.Recording.advance.Goals as goal

laws : (g : given.Over) → Laws g.D.Discipline.waiting g.D.Discipline.choice g.D.Discipline.sound g.D.Discipline.arrives g.D.Discipline.picks
laws g = record {
  limits = g.met.D.Discipline.limits;
  chosen = g.met.D.Discipline.chosen;
  arrived = g.met.D.Discipline.arrived;
  picked = g.met.D.Discipline.picked;
}

-- What a table holds is what the memory holds that it gives back.
given_back : {A : Type 0} (places memory : List A) (n : ℕ) {xs : List A} → take n places ≡ xs → memory ≡ places → xs ≡ take n memory
given_back places memory n e m = sym (ap (take n) m ∙ e)

pub returns : goal.returns
returns g c = λ C.
    let r = c.args.self.now in
    let q = c.enter_all.new.self in
    let p = c.serve_all.new.self in
    let K = c.enter_all.ensures.same in
    let J = c.serve_all.ensures.same in
    let M = kept_again K J in
    let long : length c.enter_all.new.flights.places.now ≡ length c.args.flights.now = c.enter_all.ensures.places.1 ∙ ap length c.resume-table.ensures.places in
    let X = done _ _ _ _ _ (laws g) r c.args.log.now c.args.queue.now (elements c.resume-table.result) C.between
    (subst (Flying (network_of r) (moment r c.args.log.now c.args.queue.now).condition) (sym c.resume-table.ensures.elements) C.flying) C.long
    q K c.enter_all.new.queue (elements c.enter_all.new.flights) c.enter_all.ensures.enters
    (length c.enter_all.new.flights.places.now) (let a = C.room in omega arith)
    p J c.serve_all.new.log c.serve_all.new.queue (elements c.serve_all.new.flights) c.serve_all.ensures.turns in
    record {
      plan = M.plan;
      pile = M.pile;
      next = ap (λ n. n + 1) M.next;
      slot = X.slot;
      coherent = record {
        between = X.between;
        flying = subst (Flying (network_of p) (moment p c.serve_all.new.log c.serve_all.new.queue).condition)
            (given_back c.serve_all.new.flights.places.now _ c.len-self.result c.len-self.ensures.places (grind arith)) X.flying;
        room = (
            let a = C.room in
            let b = ap (λ x. length (cells_of x)) M.plan in
            let e = c.serve_all.ensures.places.1 in
            grind arith);
        long = (
            let a = C.long in
            let b = ap (λ x. hops_in (cells_of x)) M.plan in
            let k = c.serve_all.auto.log in
            omega arith);
      };
    }
