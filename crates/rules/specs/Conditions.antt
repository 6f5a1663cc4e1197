-- The next condition of a cell, by its condition and an event.
use Rattle.rules.specs.declared.condition.Condition.{Condition}
use Rattle.rules.specs.declared.condition.Condition.TheVariants.{Outside, Waiting, OnLink, Gone}
use Rattle.rules.specs.declared.condition.Event.{Event}
use Rattle.rules.specs.declared.condition.Event.TheVariants.{Arrive, SentOnward, SentOut}

-- a cell that is outside or on a link arrives, and one that waits is sent, onward or out; nothing else happens to a cell
abbrev pub next_condition : Condition → Event → Condition
next_condition Outside (Arrive t) = Waiting 0 t
next_condition Outside (SentOnward k u) = Outside
next_condition Outside SentOut = Outside
next_condition (Waiting h a) (Arrive t) = Waiting h a
next_condition (Waiting h a) (SentOnward k u) = OnLink k u
next_condition (Waiting h a) SentOut = Gone
next_condition (OnLink h u) (Arrive t) = Waiting h t
next_condition (OnLink h u) (SentOnward k v) = OnLink h u
next_condition (OnLink h u) SentOut = OnLink h u
next_condition Gone (Arrive t) = Gone
next_condition Gone (SentOnward k u) = Gone
next_condition Gone SentOut = Gone
