use Rattle.std.proofs.Common.{sym, ◌∙◌}
use Rattle.schedule.specs.Contents.{as_many, total_timed}
use Rattle.schedule.proofs.schedule.source.ScheduleSource.hops.Goals as goal

pub returns : goal.returns
returns c = c.hops.ensures ∙ sym (total_timed _ _ (as_many c.args.self.now))
