use Rattle.std.proofs.Common.{vec_items, sym, refl}
use Rattle.plan.specs.Plans.{cells_of}
use Rattle.schedule.specs.Contents.{plan_parts, as_many}
use Rattle.schedule.proofs.schedule.Schedule.into_plan.Goals as goal

pub returns : goal.returns
returns c = record {
  delays = refl;
  cells = sym (plan_parts (cells_of c.args.self.plan) (vec_items c.args.self.marks) (as_many c.args.self));
}
