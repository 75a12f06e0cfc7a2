-- What a step gives out, as letters to shards and as bytes to clients.
use Rattle.std.specs.Prelude.{ℕ, List}
use Rattle.op_msg.specs.Message.{message}
use Rattle.txn_types.specs.Letters.{Letter}
use Rattle.txn_types.specs.declared.node.NodeId.TheVariants.{Shard}
use Rattle.client_reply.specs.Replies.{reply_frame}
use Rattle.router_state.specs.State.{Post}
use Rattle.router_state.specs.declared.deed.Sent.{Sent}

abbrev pub letter_of : Post → Letter
letter_of post = (Shard post.0, post.1)

-- the bytes of a reply, at the router's time after the step
abbrev pub spelled : ℕ → Sent → ℕ × List ℕ
spelled time sent = (sent.conn, message (reply_frame sent.reply sent.request sent.legacy time))
