-- The slack of a cell in a replay x of a recording r, as in Universal Packet Scheduling (NSDI 2016): the slots that it may still wait
-- and leave no later than recorded.
use Rattle.std.specs.Prelude.{◌≡◌, ℕ, zero, suc, ◌<◌, ℤ, pos, ◌+ℤ◌, ◌-ℤ◌}
use Rattle.network.specs.Networks.{Network, Sound, last, travel, least_travel}
use Rattle.network.specs.Schedules.{Schedule, arrival}

-- The slack of cell c as it arrives at hop h: at its entry the slots that it waited in the recording, and each slot that it waits in
-- the replay is taken off.
abbrev pub slack : Network → Schedule → Schedule → ℕ → ℕ → ℤ
slack N r x c zero = pos (r c (last N c)) -ℤ pos (N.entry c) -ℤ pos (least_travel N c)
slack N r x c (suc h) = slack N r x c h -ℤ (pos (x c h) -ℤ pos (arrival N x c h))

-- the due slot of cell c at hop h: the last slot in which it may be sent from there
abbrev pub due : Network → Schedule → Schedule → ℕ → ℕ → ℤ
due N r x c h = pos (arrival N x c h) +ℤ slack N r x c h

-- the slack of cell c once it is sent from its last hop
abbrev pub last_slack : Network → Schedule → Schedule → ℕ → ℤ
last_slack N r x c = slack N r x c (suc (last N c))

-- The last slack is how much earlier the cell leaves in the replay than in the recording, whatever the two schedules are.
abbrev pub LastSlack : Type 0
LastSlack = (N : Network) → Sound N → (r x : Schedule) (c : ℕ) → c < N.cells
    → last_slack N r x c ≡ pos (r c (last N c)) -ℤ pos (x c (last N c))

-- The due slot at hop h is the recorded exit minus the travel from hop h to the last hop, so it does not depend on the replay.
abbrev pub DueFixed : Type 0
DueFixed = (N : Network) (r x : Schedule) (c h : ℕ) → due N r x c h ≡ pos (r c (last N c)) -ℤ (pos (least_travel N c) -ℤ pos (travel N c h))
