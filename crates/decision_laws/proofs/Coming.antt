-- What comes to a node of a cluster of one shard was sent: it is of one shard, and was named.
use Rattle.std.proofs.Common.{◌≡◌}
use Rattle.std.proofs.lemmas.List.Elements.{All-contains}
use Rattle.txn_types.specs.declared.event.Happening.{Happening}
use Rattle.txn_types.specs.declared.event.Happening.TheVariants as what
use Rattle.txn_types.specs.declared.message.Commit.{Commit}
use Rattle.txn_types.specs.declared.message.Envelope.{Envelope}
use Rattle.txn_types.specs.declared.message.Msg.TheVariants as msg
use Rattle.txn_types.specs.declared.node.NodeId.{NodeId}
use Rattle.shard_core.specs.Effect.{NamesBy}
use Rattle.cluster_core.specs.Nodes.{Nodes}
use Rattle.cluster_core.specs.Trace.{MayCome}
use Rattle.one_shard_laws.specs.Alone.{IsAlone, EventAlone}
use Rattle.one_shard_laws.specs.Lasting.{OneShard, WasNamed}
use Rattle.one_shard_laws.proofs.Behind.{sent_named}
use Rattle.one_shard_laws.proofs.Growing.{WasSent as CameFrom}
use Rattle.decision_laws.specs.Ends.{WasSent}
use Rattle.decision_laws.proofs.Steps.{asked_by}

module _ (nodes : Nodes) (o : OneShard nodes) (node : NodeId) where
  pub alone_at : (w : Happening) → MayCome nodes.sent node w → EventAlone w
  alone_at (what.Deliver d) c =
      All-contains (λ (x : Envelope). IsAlone x.msg) nodes.sent d o.alone c.0
  alone_at (what.Client conn frame) c = tt
  alone_at (what.Gone conn) c = tt
  alone_at what.Resend c = tt
  alone_at what.Moment c = tt

  pub came_at : (w : Happening) → MayCome nodes.sent node w → CameFrom nodes.sent w
  came_at (what.Deliver d) c = c.0
  came_at (what.Client conn frame) c = tt
  came_at (what.Gone conn) c = tt
  came_at what.Resend c = tt
  came_at what.Moment c = tt

  pub names_at : (w : Happening) → MayCome nodes.sent node w → NamesBy (WasNamed nodes.sent) w
  names_at (what.Deliver d) c = sent_named nodes.sent d c.0
  names_at (what.Client conn frame) c = tt
  names_at (what.Gone conn) c = tt
  names_at what.Resend c = tt
  names_at what.Moment c = tt

  -- a commit that is asked for
  pub commit_asked : (w : Happening) → MayCome nodes.sent node w → (m : Commit)
      → asked_by w ≡ msg.Commit m → WasSent nodes.sent m
  commit_asked (what.Deliver d) c m is = (d, c.0, is)
  commit_asked (what.Client conn frame) c m is = cc
  commit_asked (what.Gone conn) c m is = cc
  commit_asked what.Resend c m is = cc
  commit_asked what.Moment c m is = cc
