-- A sealed plan is coherent.
use Rattle.std.proofs.Common.{◌≡◌, ℕ, zero, suc, ◌<◌, ◌≤◌, cond, ltb, List, length, take, is_some, Some, None, sym, ap, ◌∙◌, subst, inl, inr, arith}
use Rattle.std.proofs.ByRecursion.{All-weaker}
use Rattle.std.proofs.lemmas.Bool.{cases_lt, lt-ltb, le-ltb, false≢true}
use Rattle.refusal.proofs.Options.{none_some}
use Rattle.discipline.specs.Meaning.{Waiting, Empty}
use Rattle.discipline.proofs.Counting.{passing_same, passing_zero}
use Rattle.network.specs.Networks.{Network, Hop}
use Rattle.network.proofs.Steps.{starts}
use Rattle.plan.specs.Cells.{Planned, hops_in}
use Rattle.plan.specs.Plans.{cells_of, delays_of}
use Rattle.table.specs.declared.flight.Flight.{Flight}
use Rattle.rules.specs.Coherence.{Flying}
use Rattle.rules.specs.Loads.{network, slots}
use Rattle.rules.specs.Moments.{Moment, pending, stay, is_gone, Placed}
use Rattle.run.specs.Recordings.{network_of, moment}
use Rattle.run.specs.Sealing.{launched, Cleared, Starting}
use Rattle.rules.specs.Between.{Between}
use Rattle.run.specs.Slots.{Coherent}
use Rattle.rules.specs.declared.condition.Condition.{Condition}
use Rattle.rules.specs.declared.condition.Condition.TheVariants as is
use Rattle.rules.specs.declared.hop.HopRecord.{HopRecord}
use Rattle.run.specs.declared.recording.Recording.{Recording}
use Rattle.rules.proofs.Flights.{flying_more}
use Rattle.run.proofs.Hops.{place_within}

outside_waits : {k : Condition} (h a : ℕ) → k ≡ is.Outside → k ≡ is.Waiting h a → ⊥
outside_waits h a e f = let z : ◌≡◌ {A = ℕ} 0 1 = cc in omega arith

module _ (ds : List ℕ) (cs : List Planned) where
  abbrev N : Network
  N = network ds cs

  -- the flights tell apart the conditions of the cells alone
  flying_same : (f g : ℕ → Condition) (fs : List Flight) → ((c : ℕ) → c < N.cells → f c ≡ g c) → Flying N f fs → Flying N g fs
  flying_same f g fs e F = record {
    rising = F.rising;
    each = All-weaker (λ y. (y.cell < N.cells) × (pending N y.cell (f y.cell) ≡ Some y.slot)) (λ y. (y.cell < N.cells) × (pending N y.cell (g y.cell) ≡ Some y.slot))
        (λ y h. (h.0, ap (pending N y.cell) (sym (e y.cell h.0)) ∙ h.1)) fs F.each;
    all = λ c s l h. F.all c s l (ap (pending N c) (e c l) ∙ h);
    size = F.size ∙ passing_same N.cells _ _ (λ c l. ap (λ k. is_some (pending N c k)) (e c l));
  }

  -- the first k cells are outside; the others have no flight yet, as if they were gone
  abbrev upto : ℕ → ℕ → Condition
  upto k c = cond (ltb c k) is.Outside is.Gone

  upto_below : (k c : ℕ) → c < k → upto k c ≡ is.Outside
  upto_below k c l = ap (λ b. cond b is.Outside is.Gone) (lt-ltb c k l)

  upto_past : (k c : ℕ) → k ≤ c → upto k c ≡ is.Gone
  upto_past k c l = ap (λ b. cond b is.Outside is.Gone) (le-ltb c k l)

  flying_launched : (k : ℕ) → k ≤ length cs → Flying N (upto k) (launched cs k)
  flying_launched zero l = record {
    rising = tt;
    each = tt;
    all = λ c s m h. absurd (none_some s (ap (pending N c) (upto_past 0 c (omega arith))) h);
    size = sym (passing_zero N.cells _ (λ c m. ap (λ k. is_some (pending N c k)) (upto_past 0 c (omega arith))));
  }
  flying_launched (suc k) l =
      flying_more N (upto k) (upto (suc k)) (launched cs k) (flying_launched k (omega arith)) k l
      (λ j n. elim (cases_lt j k) [
        | inl m ↦ upto_below (suc k) j (omega arith) ∙ sym (upto_below k j m)
        | inr m ↦ upto_past (suc k) j (omega arith) ∙ sym (upto_past k j m)
      ])
      (ap (pending N k) (upto_past k k (omega arith))) (N.entry k) (ap (pending N k) (upto_below (suc k) k (omega arith)))

  -- all cells
  pub flying_all : (f : ℕ → Condition) → ((c : ℕ) → f c ≡ is.Outside) → Flying N f (launched cs (length cs))
  flying_all f out = flying_same (upto (length cs)) f (launched cs (length cs)) (λ c l. upto_below (length cs) c l ∙ sym (out c)) (flying_launched (length cs) (omega arith))

module _ {D : Type 0} (waiting : D → Waiting) (sound : D → Type 0) (r : Recording) (log log' : List HopRecord) (d : D)
    (S : Starting r) (C : Cleared (hops_in (cells_of r.plan)) log log') (lawful : sound d) (empty : Empty (waiting d)) where
  abbrev m : Moment D
  m = moment r log' d

  unsent : (c h : ℕ) → Hop (network_of r) c h → m.sent c h ≡ None
  unsent c h on = ap (λ x. x.sent) (C.none _ (place_within (cells_of r.plan) c h on.cell on.hop))

  placed : (c : ℕ) → c < (network_of r).cells → Placed (network_of r) m.sent 0 c (m.condition c)
  placed c l =
      subst (Placed (network_of r) m.sent 0 c) (sym (S.outside c))
      (record { done = λ g k. absurd (omega arith); left = λ g k on. unsent c g (record { cell = l; hop = on }) })

  between : Between (network_of r) waiting sound 0 m
  between = record {
    inside = record {
      placed = placed;
      past = λ c h v on e. absurd (none_some v (unsent c h on) e);
      lawful = lawful;
      queued = λ c l. empty c ∙ ap (stay (network_of r) c) (sym (S.outside c));
      strangers = λ c l. empty c;
      left = S.gone ∙ sym (passing_zero (network_of r).cells _ (λ c l. ap is_gone (S.outside c)));
    };
    ahead = λ c s l h. omega arith;
    past = λ c h v on e. absurd (none_some v (unsent c h on) e);
    since = λ c h a l e. absurd (outside_waits h a (S.outside c) e);
    sends = (starts (network_of r) (slots m.sent 0) (slots m.sent 0)).sends;
    busy = (starts (network_of r) (slots m.sent 0) (slots m.sent 0)).busy;
    marked = λ p e. absurd (false≢true (sym (S.calm p) ∙ e));
    marks = λ p w. absurd (let l = w.2.late.0 in omega arith);
  }

  pub coherent : (flights : List Flight) → take r.flying flights ≡ launched (cells_of r.plan) (length (cells_of r.plan))
      → length (cells_of r.plan) ≤ length flights → hops_in (cells_of r.plan) ≤ length log' → Coherent waiting sound r flights log' d
  coherent flights e room long = record {
    between = subst (λ t. Between (network_of r) waiting sound t m) (sym S.next) between;
    flying = subst (Flying (network_of r) m.condition) (sym e) (flying_all (delays_of r.plan) (cells_of r.plan) m.condition S.outside);
    room = room;
    long = long;
  }
