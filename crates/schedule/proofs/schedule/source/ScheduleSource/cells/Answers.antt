use Rattle.std.proofs.Common.{sym, ◌∙◌}
use Rattle.schedule.specs.Contents.{as_many, length_timed}
use Rattle.schedule.proofs.schedule.source.ScheduleSource.cells.Goals as goal

pub returns : goal.returns
returns c = c.cells.ensures ∙ sym (length_timed _ _ (as_many c.args.self.now))
