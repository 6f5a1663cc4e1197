-- What a call leaves as it was, a recording goes on with.
use Rattle.std.proofs.Common.{ℕ, sym, ◌∙◌, subst}
use Rattle.network.specs.Networks.{Network}
use Rattle.plan.specs.Plans.{cells_of, delays_of}
use Rattle.rules.specs.Loads.{network, flow_of}
use Rattle.run.specs.Recordings.{network_of, flows, Kept}
use Rattle.run.specs.declared.recording.Recording.{Recording}

pub kept_again : {r q s : Recording} → Kept r q → Kept q s → Kept r s
kept_again a b = record { plan = b.plan ∙ a.plan; pile = b.pile ∙ a.pile; next = b.next ∙ a.next; flying = b.flying ∙ a.flying }

-- what holds of the network, the flows and the next slot of one recording holds of those of the other
pub kept_to : (P : Network → (ℕ → ℕ) → ℕ → Type 0) (r q : Recording) → Kept r q → P (network_of r) (flows r) r.next → P (network_of q) (flows q) q.next
kept_to P r q K h =
    subst (λ t. P (network_of q) (flows q) t) (sym K.next)
    (subst (λ p. P (network (delays_of p) (cells_of p)) (flow_of (cells_of p)) r.next) (sym K.plan) h)

pub kept_from : (P : Network → (ℕ → ℕ) → ℕ → Type 0) (r q : Recording) → Kept r q → P (network_of q) (flows q) q.next → P (network_of r) (flows r) r.next
kept_from P r q K h =
    subst (λ p. P (network (delays_of p) (cells_of p)) (flow_of (cells_of p)) r.next) K.plan
    (subst (λ t. P (network_of q) (flows q) t) K.next h)
