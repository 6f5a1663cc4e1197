-- What a least-slack queue means, over a store that holds due cells in a room.
use Rattle.std.specs.Prelude.{◌≡◌, ℕ, List, Option, slice_set}
use Rattle.discipline.specs.Meaning.{Waiting}
use Rattle.discipline.specs.declared.stay.Stay.{Stay}
use Rattle.table.specs.declared.due.DueCell.{DueCell}
use Rattle.urgent.specs.Slack.{waiting_by, next_due, Sound}
use Rattle.urgent.specs.declared.queue.LeastSlack.{LeastSlack}

abbrev pub waiting_in : {T : Type 0} → LeastSlack T → Waiting
waiting_in q = waiting_by q.stays

module _ {T : Type 0} (cells : T → List DueCell) where
  abbrev pub choice_of : LeastSlack T → ℕ → ℕ
  choice_of q p = next_due (cells q.queue) p

  module _ (room : T → ℕ) where
    abbrev pub SoundQueue : LeastSlack T → Type 0
    SoundQueue q = Sound q.stays q.counts (cells q.queue) (room q.queue)

    -- the stay of cell c becomes o, and the queue is sound again
    abbrev pub Becomes : LeastSlack T → ℕ → Option Stay → LeastSlack T → Type 0
    Becomes q c o r = SoundQueue r × (r.stays ≡ slice_set q.stays c o)
