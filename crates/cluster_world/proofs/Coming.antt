-- What comes to a node.
use Rattle.std.proofs.Common.{◌≡◌, ◌<◌, ℕ, Option, Some, None, refl, subst, length, slice_get}
use Rattle.txn_types.specs.declared.event.Happening.{Happening}
use Rattle.txn_types.specs.declared.event.Happening.TheVariants as what
use Rattle.txn_types.specs.declared.message.Envelope.{Envelope}
use Rattle.txn_types.specs.declared.node.NodeId.{NodeId}
use Rattle.cluster_core.specs.Nodes.{Nodes}
use Rattle.cluster_core.specs.Trace.{MayCome}
use Rattle.cluster_world.specs.World.{HasNode, GoesTo, ComesAlone}
use Rattle.cluster_world.proofs.Set.{get_within, has_got}

was_sent_by : (nodes : Nodes) (number : ℕ) (o : Option Envelope) → slice_get nodes.sent number ≡ o
    → GoesTo nodes o → number < length nodes.sent
was_sent_by nodes number None is may = absurd may
was_sent_by nodes number (Some e) is may = get_within nodes.sent number e is

pub was_sent : (nodes : Nodes) (number : ℕ) → GoesTo nodes (slice_get nodes.sent number)
    → number < length nodes.sent
was_sent nodes number may = was_sent_by nodes number (slice_get nodes.sent number) refl may

pub goes_to : (nodes : Nodes) (number : ℕ) (e : Envelope)
    → GoesTo nodes (slice_get nodes.sent number) → slice_get nodes.sent number ≡ Some e
    → HasNode nodes e.to × MayCome nodes.sent e.to (what.Deliver e)
goes_to nodes number e may is =
    (subst (GoesTo nodes) is may, (has_got nodes.sent number e is, refl))

alone_by : (nodes : Nodes) (n : NodeId) (h : Happening) → ComesAlone h → MayCome nodes.sent n h
alone_by nodes n (what.Deliver e) h = absurd h
alone_by nodes n (what.Client conn bytes) h = tt
alone_by nodes n (what.Gone conn) h = tt
alone_by nodes n what.Resend h = tt
alone_by nodes n what.Moment h = tt
