-- A recording with what it is handed: the flights, the hop log and the queue discipline. What a slot does with them.
use Rattle.std.specs.Prelude.{◌≡◌, ℕ, ◌+◌, ◌-◌, ◌*◌, ◌<◌, ◌≤◌, Bool, true, ◌||◌, List, length, take, ℤ, Some, Option, nat_le, nat_lt, slice_index_or}
use Rattle.refusal.specs.Tests.{when, or_else}
use Rattle.refusal.specs.declared.Refusal.{Refusal}
use Rattle.refusal.specs.declared.Refusal.TheVariants.{RunEnded, NoPlace}
use Rattle.discipline.specs.Meaning.{Waiting}
use Rattle.network.specs.Networks.{Hop, hops}
use Rattle.plan.specs.Cells.{hops_in}
use Rattle.plan.specs.Plans.{delays_of, cells_of}
use Rattle.table.specs.declared.flight.Flight.{Flight}
use Rattle.rules.specs.Between.{Between}
use Rattle.rules.specs.Coherence.{Flying}
use Rattle.rules.specs.Loads.{sent_in}
use Rattle.rules.specs.Moments.{is_gone}
use Rattle.run.specs.Offsets.{no_record}
use Rattle.run.specs.Recordings.{network_of, flows, moment}
use Rattle.rules.specs.Rules.{Slot}
use Rattle.rules.specs.declared.hop.HopRecord.{HopRecord}
use Rattle.run.specs.declared.recording.Recording.{Recording}

-- The recording, the flights, the hop log and the discipline are as the seal or the last slot left them.
pub record Coherent {D : Type 0} (waiting : D → Waiting) (sound : D → Type 0) (r : Recording) (flights : List Flight) (log : List HopRecord) (d : D) : Type 0 where
  pub between : Between (network_of r) waiting sound r.next (moment r log d)
  pub flying : Flying (network_of r) (moment r log d).condition (take r.flying flights)
  pub room : length (cells_of r.plan) ≤ length flights
  pub long : hops_in (cells_of r.plan) ≤ length log

-- fewer flights than cells, or a hop log shorter than the hops
abbrev pub too_short : Recording → List Flight → List HopRecord → Bool
too_short r flights log = nat_lt (length flights) (length (cells_of r.plan)) || nat_lt (length log) (hops_in (cells_of r.plan))

-- Every cell is gone. (A run whose memory was altered might never end, so that slot 587,520 is the last for any.)
abbrev pub ended : Recording → Bool
ended r = nat_le (length (cells_of r.plan)) r.gone || nat_lt 587520 r.next

abbrev pub slot_test : Recording → List Flight → List HopRecord → Option Refusal
slot_test r flights log = or_else (when (ended r) RunEnded) (when (too_short r flights log) NoPlace)

-- each cell of the plan is gone
abbrev pub AllGone : Recording → Type 0
AllGone r = (c : ℕ) → c < (network_of r).cells → is_gone (slice_index_or r.records.items c no_record).condition ≡ true

-- the next slot was performed by its rules, and all is coherent again
pub record Performed {D : Type 0} (waiting : D → Waiting) (sound : D → Type 0) (arrives : D → ℕ → ℕ → ℕ → ℕ → ℤ → D → Type 0) (picks : D → ℕ → ℕ → ℕ → D → Type 0)
    (r : Recording) (log : List HopRecord) (d : D) (q : Recording) (flights' : List Flight) (log' : List HopRecord) (e : D) : Type 0 where
  pub plan : q.plan ≡ r.plan
  pub pile : q.pile ≡ r.pile
  pub next : q.next ≡ r.next + 1
  pub slot : Slot (network_of r) (flows r) r.next waiting arrives picks (length (delays_of r.plan)) (moment r log d) (moment q log' e)
  pub coherent : Coherent waiting sound q flights' log' e

-- no cell enters after slot i
abbrev pub EntersBy : Recording → ℕ → Type 0
EntersBy r i = (c : ℕ) → c < (network_of r).cells → (network_of r).entry c ≤ i

-- no port that a route crosses has a delay over l
abbrev pub DelaysUpto : Recording → ℕ → Type 0
DelaysUpto r l = (c h : ℕ) → Hop (network_of r) c h → (network_of r).delay ((network_of r).port c h) ≤ l

-- no cell was sent after slot i + (h - 1) × l, where h is the number of all hops
abbrev pub NoLater : Recording → List HopRecord → Type 0
NoLater r log = (i l : ℕ) → EntersBy r i → DelaysUpto r l
    → (c h v : ℕ) → Hop (network_of r) c h → sent_in (cells_of r.plan) log c h ≡ Some v → v ≤ i + (hops (network_of r) - 1) * l

-- From a recording r with its log and discipline, so many calls of `slot` led here. Each performed the next slot by its rules, or was
-- refused since every cell was gone.
pub data Calls {D : Type 0} (waiting : D → Waiting) (sound : D → Type 0) (arrives : D → ℕ → ℕ → ℕ → ℕ → ℤ → D → Type 0) (picks : D → ℕ → ℕ → ℕ → D → Type 0)
    (r : Recording) (log : List HopRecord) (d : D) : ℕ → Recording → List HopRecord → D → Type 0 where
  none : Calls waiting sound arrives picks r log d 0 r log d
  performed : {n : ℕ} {q p : Recording} {flights : List Flight} {log' log'' : List HopRecord} {e f : D} → Calls waiting sound arrives picks r log d n q log' e
      → Performed waiting sound arrives picks q log' e p flights log'' f → Calls waiting sound arrives picks r log d (n + 1) p log'' f
  refused : {n : ℕ} {q : Recording} {log' : List HopRecord} {e : D} → Calls waiting sound arrives picks r log d n q log' e → AllGone q
      → Calls waiting sound arrives picks r log d (n + 1) q log' e

-- After n calls, to q with its flights, log and discipline: all is coherent again, no cell was sent after slot i + (h - 1) × l, and with
-- more calls than that number every cell is gone.
pub record Called {D : Type 0} (waiting : D → Waiting) (sound : D → Type 0) (arrives : D → ℕ → ℕ → ℕ → ℕ → ℤ → D → Type 0) (picks : D → ℕ → ℕ → ℕ → D → Type 0)
    (n : ℕ) (r : Recording) (log : List HopRecord) (d : D) (q : Recording) (flights : List Flight) (log' : List HopRecord) (e : D) : Type 0 where
  pub calls : Calls waiting sound arrives picks r log d n q log' e
  pub coherent : Coherent waiting sound q flights log' e
  pub no_later : NoLater q log'
  pub all_gone : (i l : ℕ) → EntersBy q i → DelaysUpto q l → i + (hops (network_of q) - 1) * l < n → AllGone q
