-- The parts of a slot, as the calls that perform it tell them.
use Rattle.std.specs.Prelude.{◌≡◌, ℕ, suc, ◌+◌, ◌≤◌, Bool, false, cond, ◌⊎◌, List, length, ℤ, Some, None, Option, ◌≢◌, slice_index_or, slice_set}
use Rattle.discipline.specs.Meaning.{Waiting, At}
use Rattle.network.specs.Networks.{Network, Hop}
use Rattle.plan.specs.Cells.{hops_in}
use Rattle.plan.specs.Plans.{cells_of}
use Rattle.table.specs.Kinds.{flight_upto}
use Rattle.table.specs.Order.{put_in}
use Rattle.table.specs.declared.flight.Flight.{Flight}
use Rattle.rules.specs.Coherence.{Inside, Flying, Ahead}
use Rattle.rules.specs.Conditions.{next_condition}
use Rattle.rules.specs.Loads.{first_hop}
use Rattle.rules.specs.Moments.{Moment}
use Rattle.run.specs.Offsets.{no_record}
use Rattle.run.specs.Recordings.{network_of, flows, moment, Kept}
use Rattle.rules.specs.Rules.{Entered, Sends, Served, goes_on}
use Rattle.rules.specs.declared.condition.Condition.TheVariants.{Waiting as Waits}
use Rattle.rules.specs.declared.condition.Event.{Event}
use Rattle.rules.specs.declared.condition.Event.TheVariants.{SentOnward, SentOut}
use Rattle.run.specs.declared.standing.Standing.{Standing}
use Rattle.rules.specs.declared.hop.HopRecord.{HopRecord}
use Rattle.run.specs.declared.recording.Recording.{Recording}

-- a recording in the middle of its next slot
abbrev pub InSlot : {D : Type 0} → (D → Waiting) → (D → Type 0) → Recording → List HopRecord → D → Type 0
InSlot waiting sound r log q = Inside (network_of r) waiting sound r.next (moment r log q)

-- a cell of the plan that waits, where its route says; none for a cell that is unknown or does not wait
abbrev pub Stands : Recording → ℕ → Option Standing → Type 0
Stands r c (Some s) =
    Hop (network_of r) c s.position
    × ((a : ℕ) × ((slice_index_or r.records.items c no_record).condition ≡ Waits s.position a))
    × (s.port ≡ (network_of r).port c s.position)
    × (s.flow ≡ flows r c)
    × (s.goes_on ≡ goes_on (network_of r) c s.position)
    × (s.place ≡ first_hop (cells_of r.plan) c + s.position)
Stands r c None = (h a : ℕ) → Hop (network_of r) c h → (slice_index_or r.records.items c no_record).condition ≢ Waits h a

-- what happens to a cell that is sent in slot t by a port with this delay
abbrev pub leaving : Standing → ℕ → ℕ → Event
leaving s t delay = cond s.goes_on (SentOnward (s.position + 1) (t + delay)) SentOut

-- cell c, which stands there, was sent by a port with this delay: what changed in the recording, the hop log and the flights
pub record SentOn (r : Recording) (c : ℕ) (s : Standing) (delay : ℕ) (q : Recording) : Type 0 where
  pub same : Kept r q
  pub records : q.records.items ≡ slice_set r.records.items c
      (record { condition = next_condition (slice_index_or r.records.items c no_record).condition (leaving s r.next delay); first = (slice_index_or r.records.items c no_record).first })
  pub contested : q.contested ≡ r.contested
  pub gone : r.gone ≤ 256 → q.gone ≡ r.gone + cond s.goes_on 0 1

-- the flights after it, where there was room for one
abbrev pub Flown : Recording → ℕ → Standing → ℕ → Bool → List Flight → List Flight → Type 0
Flown r c s delay full fs gs =
    full ≡ false → gs ≡ cond s.goes_on (put_in flight_upto (record { slot = r.next + delay; cell = c }) fs) fs

-- port p had its turn: no cell waited there and nothing changed, or it sent one
module _ (N : Network) (flow : ℕ → ℕ) (t : ℕ) {D : Type 0} (waiting : D → Waiting)
    (arrives : D → ℕ → ℕ → ℕ → ℕ → ℤ → D → Type 0) (picks : D → ℕ → ℕ → ℕ → D → Type 0) where
  abbrev pub Serves : ℕ → Moment D → Moment D → Type 0
  Serves p m n = (((c : ℕ) → At (waiting m.queue) p c → ⊥) × (n ≡ m)) ⊎ ((c : ℕ) × Sends N flow t waiting arrives picks p c m n)

-- The cells that enter or land in a slot, from recording r with discipline d and flights fs to q, e and gs: where r is coherent and no
-- cell comes before this slot, each has its turn in ascending number, and no cell comes before the next slot.
abbrev pub Enters : {D : Type 0} (waiting : D → Waiting) (sound : D → Type 0) (arrives : D → ℕ → ℕ → ℕ → ℕ → ℤ → D → Type 0)
    (picks : D → ℕ → ℕ → ℕ → D → Type 0) → Recording → D → List Flight → Recording → D → List Flight → Type 0
Enters waiting sound arrives picks r d fs q e gs = (log : List HopRecord)
    → InSlot waiting sound r log d → Flying (network_of r) (moment r log d).condition fs → Ahead (network_of r) r.next (moment r log d).condition
    → Entered (network_of r) (flows r) r.next waiting arrives picks (network_of r).cells (moment r log d) (moment q log e)
    × Inside (network_of r) waiting sound r.next (moment q log e)
    × Flying (network_of r) (moment q log e).condition gs
    × Ahead (network_of r) (suc r.next) (moment q log e).condition

-- The turn of port p, from r with hop log, discipline d and flights fs, in memory for so many flights, to q, log', e and gs: where r is
-- coherent, no cell comes before the next slot, and the memory suffices, the port sends a cell if one waits there.
abbrev pub Turn : {D : Type 0} (waiting : D → Waiting) (sound : D → Type 0) (arrives : D → ℕ → ℕ → ℕ → ℕ → ℤ → D → Type 0)
    (picks : D → ℕ → ℕ → ℕ → D → Type 0) → ℕ → ℕ → Recording → List HopRecord → D → List Flight → Recording → List HopRecord → D → List Flight → Type 0
Turn waiting sound arrives picks room p r log d fs q log' e gs =
    InSlot waiting sound r log d → Flying (network_of r) (moment r log d).condition fs → Ahead (network_of r) (suc r.next) (moment r log d).condition
    → hops_in (cells_of r.plan) ≤ length log → length (cells_of r.plan) ≤ room
    → Serves (network_of r) (flows r) r.next waiting arrives picks p (moment r log d) (moment q log' e)
    × Flying (network_of r) (moment q log' e).condition gs
    × Ahead (network_of r) (suc r.next) (moment q log' e).condition

-- the turns of all ports, in ascending number
abbrev pub Turns : {D : Type 0} (waiting : D → Waiting) (sound : D → Type 0) (arrives : D → ℕ → ℕ → ℕ → ℕ → ℤ → D → Type 0)
    (picks : D → ℕ → ℕ → ℕ → D → Type 0) → ℕ → ℕ → Recording → List HopRecord → D → List Flight → Recording → List HopRecord → D → List Flight → Type 0
Turns waiting sound arrives picks room ports r log d fs q log' e gs =
    InSlot waiting sound r log d → Flying (network_of r) (moment r log d).condition fs → Ahead (network_of r) (suc r.next) (moment r log d).condition
    → hops_in (cells_of r.plan) ≤ length log → length (cells_of r.plan) ≤ room
    → Served (network_of r) (flows r) r.next waiting arrives picks ports (moment r log d) (moment q log' e)
    × Inside (network_of r) waiting sound r.next (moment q log' e)
    × Flying (network_of r) (moment q log' e).condition gs
    × Ahead (network_of r) (suc r.next) (moment q log' e).condition
