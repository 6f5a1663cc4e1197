-- A recording as a moment.
use Rattle.std.specs.Prelude.{◌≡◌, ℕ, false, List, get_or, slice_index_or}
use Rattle.network.specs.Networks.{Network}
use Rattle.plan.specs.Plans.{delays_of, cells_of}
use Rattle.rules.specs.Loads.{network, flow_of, sent_in}
use Rattle.rules.specs.Moments.{Moment}
use Rattle.run.specs.Offsets.{no_record}
use Rattle.rules.specs.declared.hop.HopRecord.{HopRecord}
use Rattle.run.specs.declared.recording.Recording.{Recording}

abbrev pub network_of : Recording → Network
network_of r = network (delays_of r.plan) (cells_of r.plan)

abbrev pub flows : Recording → ℕ → ℕ
flows r = flow_of (cells_of r.plan)

-- with its hop log and its queue discipline
abbrev pub moment : {D : Type 0} → Recording → List HopRecord → D → Moment D
moment r log q = record {
  condition = λ c. (get_or r.records.items c no_record).condition;
  sent = sent_in (cells_of r.plan) log;
  contested = λ p. slice_index_or r.contested p false;
  gone = r.gone;
  queue = q;
}

-- from r to s nothing changed but conditions, contested ports and the count of gone cells
pub record Kept (r s : Recording) : Type 0 where
  pub plan : s.plan ≡ r.plan
  pub pile : s.pile ≡ r.pile
  pub next : s.next ≡ r.next
  pub flying : s.flying ≡ r.flying
