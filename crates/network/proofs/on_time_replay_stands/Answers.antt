use Rattle.network.proofs.OnTime.{on_time_replay}
use Rattle.network.proofs.on_time_replay_stands.Goals as goal

pub returns : goal.returns
returns c = on_time_replay
