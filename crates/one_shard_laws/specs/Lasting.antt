-- What holds of a cluster of one shard in each state that it comes to.
use Rattle.std.specs.Prelude.{◌≡◌, ◌⊎◌, ◌≤◌, ◌<◌, ◌++◌, ℕ, List, [], ◌∷◌, filter_map, All, Contains}
use Rattle.std.specs.Prelude.{Some, None}
use Rattle.txn_types.specs.declared.message.Commit.{Commit}
use Rattle.txn_types.specs.declared.message.Envelope.{Envelope}
use Rattle.txn_types.specs.declared.message.Msg.TheVariants as msg
use Rattle.txn_types.specs.declared.message.Statement.{Statement}
use Rattle.txn_types.specs.declared.names.Tag.{Tag}
use Rattle.txn_types.specs.declared.node.Lsid.{Lsid}
use Rattle.txn_semantics.specs.declared.commits.Entry.{Entry}
use Rattle.txn_semantics.specs.Writes.{write_set}
use Rattle.participant.specs.declared.said.Open.{Open}
use Rattle.participant.specs.Part.{Part, open_of}
use Rattle.journal_rec.specs.declared.record.Rec.{Rec}
use Rattle.shard_image.specs.Image.{image_of}
use Rattle.part_laws.specs.Each.{Each}
use Rattle.part_laws.specs.Sound.{Opens, Served, written}
use Rattle.part_laws.specs.Parts.{IsServing}
use Rattle.part_laws.specs.Turned.{IsOf}
use Rattle.shard_core.specs.State.{ShardState}
use Rattle.shard_core.specs.NodeStep.{NodeState}
use Rattle.durable_laws.specs.Backed.{IsBacked, IsDurableNode}
use Rattle.txn_model.specs.Commits.{commits}
use Rattle.txn_types.specs.Letters.{Named, named_in}
use Rattle.cluster_core.specs.Nodes.{Nodes}
use Rattle.serving_laws.specs.Telling.{IsToldBy}
use Rattle.one_shard_laws.specs.Sessions.{SessionsNamed, IsHeld}
use Rattle.one_shard_laws.specs.Alone.{IsAlone, RecAlone}
use Rattle.one_shard_laws.specs.Asking.{AllRoutersAsk}

-- a message named it
abbrev pub WasNamed : List Envelope → Named → Type 0
WasNamed sent x = Contains (filter_map (λ e. named_in e.msg) sent) x

-- Each statement that was served was sent. The first of its transaction in a boot of the shard
-- names no boot, and was read at the time that it names, if it names one; a later one names the
-- boot.

-- none of these is of the transaction, in the boot
abbrev pub NoneOf : Tag → ℕ → List Served → Type 0
NoneOf tag life before = Each (λ y. y.tag ≡ tag → y.life ≡ life → ⊥) before

abbrev pub BeganBy : Statement → List Served → Served → Type 0
BeganBy m before x = (m.boot ≡ 0) × ((m.read_at ≡ 0) ⊎ (x.read_at ≡ m.read_at))
    × NoneOf x.tag x.life before

abbrev pub WentOnBy : Statement → Served → Type 0
WentOnBy m x = (0 < m.boot) × (m.boot ≡ x.life)

abbrev pub WasAsked : List Envelope → List Served → Served → Type 0
WasAsked sent before x = (e : Envelope) × (m : Statement) × Contains sent e
    × (e.msg ≡ msg.Statement m) × IsOf m x × (BeganBy m before x ⊎ WentOnBy m x)

-- of a list with the newest first
abbrev pub AllAsked : List Envelope → List Served → Type 0
AllAsked sent [] = Unit {0}
AllAsked sent (x ∷ served) = WasAsked sent served x × AllAsked sent served

-- of two statements of one transaction in one boot the newer has the greater place, and both read
-- at one moment
abbrev pub ComesAfter : Served → Served → Type 0
ComesAfter x y = y.tag ≡ x.tag → y.life ≡ x.life → (y.k < x.k) × (y.read_at ≡ x.read_at)

abbrev pub InOrder : List Served → Type 0
InOrder [] = Unit {0}
InOrder (x ∷ served) = Each (ComesAfter x) served × InOrder served

-- the commit was asked for in the boot in which its transaction ran, and holds the last write to
-- each document of what its statements wrote there
abbrev pub WasCommitted : List Envelope → List Served → Entry → Type 0
WasCommitted sent served e = (d : Envelope) × (m : Commit) × Contains sent d
    × (d.msg ≡ msg.Commit m) × (m.tag ≡ e.tag)
    × (e.writes ≡ write_set (written e.tag m.boot served))

-- the commits of one journal
abbrev pub commits_by : List Rec → List Entry
commits_by recs = commits (recs ∷ [])

-- Records of a shard that commits alone: each was named, and each commit's session stands in the
-- state that they leave, with its number or a larger one.
pub record RecordsAlone (P : Named → Type 0) (recs : List Rec) : Type 0 where
  pub records : All (RecAlone P) recs
  pub coord : (image_of recs).coord ≡ []
  pub named : SessionsNamed P (image_of recs).sessions
  pub held : Each (λ e. IsHeld P (image_of recs).sessions e.tag) (commits_by recs)

-- A state of a shard, with the records that hold it: its part is right beside their commits and
-- what was served, which all Answers that were sent tell of.
pub record Lasts (sent : List Envelope) (recs : List Rec) (s : ShardState)
    (served : List Served) : Type 0 where
  pub opens : Opens
  pub holds : IsServing s.part opens s.clock.last (commits_by recs) served
  pub below : Each (λ e. e.at ≤ s.clock.last) (commits_by recs)
  pub clock : s.clock.last ≤ s.clock.ceiling
  pub backed : IsBacked recs s
  pub lives : Each (λ x. (0 < x.life) × (x.life ≤ s.part.boot)) served
  pub told : All (λ e. IsToldBy served e.msg) sent
  pub asked : AllAsked sent served
  pub rises : InOrder served
  pub whole : Each (WasCommitted sent served) (commits_by recs)
  pub alone : RecordsAlone (WasNamed sent) recs

-- of the statements of a transaction that is live, its newest has the greatest place, and all read
-- at its moment
abbrev pub IsUpTo : ℕ → Open → Served → Type 0
IsUpTo boot o x = x.tag ≡ o.tag → x.life ≡ boot → (x.k ≤ o.k) × (x.read_at ≡ o.read_at)

abbrev pub AllUpTo : Part → List Served → Type 0
AllUpTo p served = (lsid : Lsid) (o : Open) → open_of p lsid ≡ Some o
    → Each (IsUpTo p.boot o) served

-- a shard that runs has the session of each transaction that it served in this boot, and of each
-- that committed; and a live transaction has its newest statement
pub record Runs (P : Named → Type 0) (s : ShardState) (entries : List Entry)
    (served : List Served) : Type 0 where
  pub coord : s.coord ≡ []
  pub boot : 0 < s.part.boot
  pub named : SessionsNamed P s.part.sessions
  pub has_served : Each (λ x. x.life ≡ s.part.boot → IsHeld P s.part.sessions x.tag) served
  pub has_committed : Each (λ e. IsHeld P s.part.sessions e.tag) entries
  pub has_newest : AllUpTo s.part served

-- Of a node, by its core, its records and those in hand: what its records hold is right, and so is
-- what they hold with those in hand; and while it runs, that is its own state.

abbrev pub HasLast : List Envelope → List Rec → Type 0
HasLast sent recs = (s : ShardState) × (served : List Served) × Lasts sent recs s served

abbrev pub HasRun : List Envelope → ShardState → List Rec → List Rec → Type 0
HasRun sent core recs hand =
    (served : List Served) × Lasts sent recs core served
    × Runs (WasNamed sent) core (commits_by recs) served × (hand ≡ [])

pub record IsRight (sent : List Envelope) (core : ShardState) (recs hand : List Rec) : Type 0 where
  pub kept : HasLast sent recs
  pub with_hand : HasLast sent (recs ++ hand)
  pub runs : core.stopped ≡ None → HasRun sent core recs hand

pub record OneShard (nodes : Nodes) : Type 0 where
  pub node : NodeState
  pub shards : nodes.shards ≡ node ∷ []
  pub routers : AllRoutersAsk nodes
  pub alone : All (λ (e : Envelope). IsAlone e.msg) nodes.sent
  pub durable : IsDurableNode node
  pub right : IsRight nodes.sent node.core node.records node.hand
