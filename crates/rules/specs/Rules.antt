-- The rules of a slot.
use Rattle.std.specs.Prelude.{◌≡◌, ℕ, suc, ◌+◌, Bool, cond, ◌||◌, ◌⊎◌, ℤ, pos, Some, ◌≢◌, nat_lt}
use Rattle.discipline.specs.Meaning.{Waiting as Stays, At, count_at}
use Rattle.network.specs.Networks.{Network, Hop}
use Rattle.rules.specs.Conditions.{next_condition}
use Rattle.rules.specs.Moments.{Moment, pending}
use Rattle.rules.specs.declared.condition.Condition.TheVariants.{Waiting}
use Rattle.rules.specs.declared.condition.Event.{Event}
use Rattle.rules.specs.declared.condition.Event.TheVariants.{Arrive, SentOnward, SentOut}

-- whether the route of cell c goes on behind position h
abbrev pub goes_on : Network → ℕ → ℕ → Bool
goes_on N c h = nat_lt (h + 1) (N.len c)

-- what happens to cell c when it is sent from position h in slot t: it goes onto the link to the next position, until the slot that
-- the delay of the sending port says, or out
abbrev pub onward : Network → ℕ → ℕ → ℕ → Event
onward N t c h = cond (goes_on N c h) (SentOnward (h + 1) (t + N.delay (N.port c h))) SentOut

-- g is f but for what it has at c
abbrev pub But : {X : Type 0} → (ℕ → X) → (ℕ → X) → ℕ → Type 0
But f g c = (k : ℕ) → (k ≢ c) → g k ≡ f k

module _ (N : Network) (flow : ℕ → ℕ) (t : ℕ) {D : Type 0} (waiting : D → Stays)
    (arrives : D → ℕ → ℕ → ℕ → ℕ → ℤ → D → Type 0) (picks : D → ℕ → ℕ → ℕ → D → Type 0) where
  -- cell c becomes waiting since t, and the discipline is told
  pub record Arrives (c : ℕ) (m n : Moment D) : Type 0 where
    pub position : ℕ
    pub becomes : n.condition c ≡ next_condition (m.condition c) (Arrive t)
    pub waits : n.condition c ≡ Waiting position t
    pub others : But m.condition n.condition c
    pub told : arrives m.queue (N.port c position) c (flow c) t (pos 0) n.queue
    pub sent : n.sent ≡ m.sent
    pub contested : n.contested ≡ m.contested
    pub gone : n.gone ≡ m.gone

  -- from m to n each of the first cells, in ascending number, became waiting if it enters or lands in slot t
  pub data Entered : ℕ → Moment D → Moment D → Type 0 where
    start : {m : Moment D} → Entered 0 m m
    passes : {c : ℕ} {m n : Moment D} → Entered c m n → (pending N c (n.condition c) ≢ Some t) → Entered (suc c) m n
    enters : {c : ℕ} {m n o : Moment D} → Entered c m n → pending N c (n.condition c) ≡ Some t → Arrives c n o → Entered (suc c) m o

  -- port p picks cell c and sends it in slot t; the port is contested if a cell still waits there
  pub record Sends (p c : ℕ) (m n : Moment D) : Type 0 where
    pub position : ℕ
    pub since : ℕ
    pub there : At (waiting m.queue) p c
    pub picked : picks m.queue p t c n.queue
    pub waited : m.condition c ≡ Waiting position since
    pub becomes : n.condition c ≡ next_condition (m.condition c) (onward N t c position)
    pub others : But m.condition n.condition c
    pub sent : n.sent c position ≡ Some t
    pub kept : (k h : ℕ) → Hop N k h → ((k ≢ c) ⊎ (h ≢ position)) → n.sent k h ≡ m.sent k h
    pub contested : n.contested p ≡ (m.contested p || nat_lt 0 (count_at (waiting n.queue) p))
    pub others_contested : But m.contested n.contested p
    pub gone : n.gone ≡ m.gone + cond (goes_on N c position) 0 1

  -- from m to n each of the first ports, in ascending number, had its turn: it sent a cell if one waited there
  pub data Served : ℕ → Moment D → Moment D → Type 0 where
    start : {m : Moment D} → Served 0 m m
    idle : {p : ℕ} {m n : Moment D} → Served p m n → ((c : ℕ) → At (waiting n.queue) p c → ⊥) → Served (suc p) m n
    sends : {p c : ℕ} {m n o : Moment D} → Served p m n → Sends p c n o → Served (suc p) m o

  -- slot t from m to n: the cells that enter or land, and then the ports
  pub record Slot (ports : ℕ) (m n : Moment D) : Type 0 where
    pub between : Moment D
    pub entered : Entered N.cells m between
    pub served : Served ports between n
