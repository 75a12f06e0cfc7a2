-- How a router commits a transaction that it hasn't begun: it asks the shard that the token names
-- how the transaction ended. What is known as committed is known by its tag, since a session may
-- have begun one number at two routers.
use Rattle.std.specs.Prelude.{ℕ, ℤ, ◌&&◌, Bool, List, [], ◌∷◌, ◌++◌, nat_eq, int_lt, Option, Some}
use Rattle.std.specs.Prelude.{None, if◌then◌else◌}
use Rattle.std.specs.List.{list_any}
use Rattle.txn_types.specs.Order.{same_tag}
use Rattle.txn_types.specs.declared.decision.Told.{Told}
use Rattle.txn_types.specs.declared.decision.Told.TheVariants as told_as
use Rattle.txn_types.specs.declared.decision.Token.TheVariants as token
use Rattle.txn_types.specs.declared.message.Msg.TheVariants as msg
use Rattle.txn_types.specs.declared.message.Outcome.{Outcome}
use Rattle.txn_types.specs.declared.names.Tag.{Tag}
use Rattle.txn_types.specs.declared.node.Lsid.{Lsid}
use Rattle.client_reply.specs.declared.reply.Reply.{Reply}
use Rattle.client_reply.specs.declared.reply.Reply.TheVariants as reply
use Rattle.router_state.specs.declared.state.Asker.{Asker}
use Rattle.router_state.specs.declared.state.Seeking.{Seeking}
use Rattle.router_state.specs.declared.state.Session.{Session}
use Rattle.router_state.specs.declared.state.Doing.TheVariants.{Begun, Sought}
use Rattle.router_state.specs.State.{Post}
use Rattle.router_state.specs.declared.deed.Given.{Given}
use Rattle.router_state.specs.declared.deed.Deed.{Deed}
use Rattle.router_state.specs.Deeds.{nothing, both, aborting, sending, telling, told, told_if}
use Rattle.router_state.specs.Deeds.{stays}
use Rattle.router_rules.specs.Ends.{leaves}
use Rattle.router_rules.specs.Commits.{outcome_reply}

abbrev pub is_known : Tag → List Tag → Bool
is_known tag known = list_any (same_tag tag) known

-- the same token
abbrev pub same_place : Seeking → Seeking → Bool
same_place a b = same_tag a.tag b.tag && nat_eq a.shard b.shard && nat_eq a.boot b.boot

abbrev pub recover_to : Lsid → ℤ → Seeking → Post
recover_to lsid number k =
    (k.shard, msg.Recover (record { tag = k.tag; lsid = lsid; number = number; boot = k.boot }))

abbrev pub sought : ℤ → Option Seeking → List Tag → Given → Deed
sought number seeking known given =
    record { session = record { number = number; doing = Sought seeking known }; given = given }

abbrev pub asks_anew : Lsid → ℤ → Seeking → List Tag → Deed
asks_anew lsid number k known =
    sought number (Some k) known (sending (recover_to lsid number k ∷ []))

-- an unanswered question by the same token is listened to
abbrev pub asks_for : Lsid → ℤ → Seeking → Option Seeking → List Tag → Deed
asks_for lsid number k None known = asks_anew lsid number k known
asks_for lsid number k (Some older) known = if same_place older k
    then sought number (Some k) known nothing else asks_anew lsid number k known

abbrev pub token_reply : Seeking → Reply
token_reply k = reply.Ended (Some (token.Placed k.tag k.shard k.boot))

abbrev pub seeks_in : Lsid → ℤ → Asker → Seeking → Option Seeking → List Tag → Deed
seeks_in lsid number asker k seeking known =
    if is_known k.tag known
    then sought number seeking known (telling (told asker (token_reply k) ∷ []))
    else asks_for lsid number k seeking known

-- of a larger number, the session's older transaction is left
abbrev pub seeks_by : Lsid → ℤ → Asker → Seeking → Option Session → Deed
seeks_by lsid number asker k None = asks_anew lsid number k []
seeks_by lsid number asker k (Some session) =
    if int_lt session.number number
    then (let deed = asks_anew lsid number k [] in
    record { session = deed.session; given = both (aborting (leaves lsid session)) deed.given })
    else elim (session.doing) [
      | Sought seeking known ↦ seeks_in lsid number asker k seeking known
      | Begun t ↦ stays session
    ]

abbrev pub seeks : Lsid → ℤ → Asker → Tag → ℕ → ℕ → Option Session → Deed
seeks lsid number asker tag shard boot session = seeks_by lsid number asker
    (record { asker = Some asker; tag = tag; shard = shard; boot = boot }) session

-- The shard's outcome is told; only a commit is kept.

abbrev pub known_by : Tag → List Tag → Told → List Tag
known_by tag known (told_as.Committed at) = known ++ tag ∷ []
known_by tag known told_as.Released = known ++ tag ∷ []
known_by tag known other = known

abbrev pub recovered : ℤ → Seeking → List Tag → Outcome → Deed
recovered number k known o = sought number None (known_by k.tag known o.told)
    (telling (told_if k.asker (outcome_reply o.shard number (token_reply k) o.told)))

abbrev pub on_recovered : ℤ → Option Seeking → List Tag → Outcome → Deed
on_recovered number None known o = sought number None known nothing
on_recovered number (Some k) known o =
    if same_tag k.tag o.tag && nat_eq k.shard o.shard then recovered number k known o
    else sought number (Some k) known nothing
