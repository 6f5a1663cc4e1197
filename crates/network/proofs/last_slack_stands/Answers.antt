use Rattle.network.proofs.Slacks.{last_slack_is}
use Rattle.network.proofs.last_slack_stands.Goals as goal

pub returns : goal.returns
returns c = last_slack_is
