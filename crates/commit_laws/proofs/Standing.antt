-- What stands of all routers and of all that was sent, and how it is kept where no statement and no
-- commit is sent.
use Rattle.std.proofs.Common.{◌≡◌, ◌⊎◌, inl, inr, ◌++◌, ◌<◌, ℕ, All, List, []}
use Rattle.std.proofs.Common.{Some, None, refl, sym, ap, subst, ◌∙◌, arith}
use Rattle.std.specs.Prelude.{Contains, slice_get}
use Rattle.std.proofs.lemmas.List.Elements.{All-contains, Contains-append_left}
use Rattle.std.proofs.lemmas.List.Elements.{Contains-append_cases}
use Rattle.txn_types.specs.BySession.{BySession, entry_of}
use Rattle.txn_types.specs.declared.message.Commit.{Commit}
use Rattle.txn_types.specs.declared.message.Envelope.{Envelope}
use Rattle.txn_types.specs.declared.message.Msg.{Msg}
use Rattle.txn_types.specs.declared.message.Msg.TheVariants as msg
use Rattle.txn_types.specs.declared.names.Tag.{Tag}
use Rattle.txn_types.specs.declared.node.Lsid.{Lsid}
use Rattle.txn_types.specs.declared.node.NodeId.{NodeId}
use Rattle.txn_semantics.specs.declared.commits.Answered.{Answered}
use Rattle.chunk_map.specs.Map.{Map}
use Rattle.router_state.specs.declared.state.Doing.TheVariants.{Begun}
use Rattle.router_state.specs.declared.state.Session.{Session}
use Rattle.router_state.specs.declared.state.Transaction.{Transaction}
use Rattle.router_state.specs.State.{RouterState, session_of}
use Rattle.cluster_core.specs.Answering.{Unanswered}
use Rattle.cluster_core.specs.Nodes.{Nodes}
use Rattle.answer_laws.specs.Comes.{IsOfOne}
use Rattle.told_laws.proofs.Lists.{contained}
use Rattle.told_laws.proofs.Standing.{reply_on}
use Rattle.commit_laws.specs.Speaking.{Gave, CommitFollows, MsgFollows}
use Rattle.commit_laws.proofs.Once.{OnceUnder}
use Rattle.commit_laws.proofs.Follows.{IsPast, IsNoAsk, statement_on, doing_on}
use Rattle.commit_laws.proofs.Moves.{RouterFollows}

-- the commit was sent
abbrev pub CommitSent : List Envelope → Commit → Type 0
CommitSent sent m = (e : Envelope) × Contains sent e × (e.msg ≡ msg.Commit m)

-- where a commit of a session's transaction was sent, no statement of it is asked any more
abbrev pub ArePast : List Envelope → RouterState → Type 0
ArePast sent r = (lsid : Lsid) (s : Session) (t : Transaction) → session_of r lsid ≡ Some s
    → s.doing ≡ Begun t → (m : Commit) → CommitSent sent m → m.tag ≡ t.tag → IsPast t.phase

pub record RouterStand (chunks : Map) (sent : List Envelope) (told : List Answered)
    (r : RouterState) : Type 0 where
  pub follows : RouterFollows (Gave sent told) r
  pub once : OnceUnder r.sessions
  pub chunks_are : r.chunks ≡ chunks
  pub past : ArePast sent r

pub record Stand (chunks : Map) (nodes : Nodes) (begun : List Unanswered)
    (told : List Answered) : Type 0 where
  pub routers : (n : ℕ) (r : RouterState) → slice_get nodes.routers n ≡ Some r
      → RouterStand chunks nodes.sent told r
  pub sent : All (λ e. MsgFollows (Gave nodes.sent told) begun told e.to e.msg) nodes.sent
  pub places : (v : Unanswered) → Contains begun v → 0 < v.k

-- More was sent and told.

pub one_on : (sent out : List Envelope) (a : Answered) → IsOfOne sent a → IsOfOne (sent ++ out) a
one_on sent out a h = record {
  envelope = h.envelope;
  answer = h.answer;
  meaning = h.meaning;
  was_sent = Contains-append_left sent out h.envelope h.was_sent;
  msg = h.msg;
  tag = h.tag;
  k = h.k;
  read_at = h.read_at;
  says = h.says;
  outcome = h.outcome;
}

pub gave_on : (sent out : List Envelope) (told now : List Answered) (tag : Tag) (k boot : ℕ)
    → Gave sent told tag k boot → Gave (sent ++ out) (told ++ now) tag k boot
unfolding one_on
gave_on sent out told now tag k boot h = record {
  answer = h.answer;
  among = Contains-append_left told now h.answer h.among;
  tag_is = h.tag_is;
  k_is = h.k_is;
  one = one_on sent out h.answer h.one;
  replied = h.replied;
  boot_is = h.boot_is;
}

pub follows_on : (sent out : List Envelope) (told now : List Answered) (r : RouterState)
    → RouterFollows (Gave sent told) r → RouterFollows (Gave (sent ++ out) (told ++ now)) r
follows_on sent out told now r h lsid s there =
    doing_on (Gave sent told) (Gave (sent ++ out) (told ++ now)) (gave_on sent out told now) s.doing
    (h lsid s there)

-- no statement of a transaction was opened among these
abbrev pub NoneOpened : List Unanswered → Tag → Type 0
NoneOpened new tag = (v : Unanswered) → Contains new v → v.tag ≡ tag → ⊥

pub commit_on : (sent out : List Envelope) (begun new : List Unanswered) (told now : List Answered)
    (m : Commit) → NoneOpened new m.tag → CommitFollows (Gave sent told) begun told m
    → CommitFollows (Gave (sent ++ out) (told ++ now)) (begun ++ new) (told ++ now) m
commit_on sent out begun new told now m none h = record {
  k = h.k;
  newest = gave_on sent out told now m.tag h.k m.boot h.newest;
  below = λ v there same.
      elim (Contains-append_cases begun new v there) [
        | inl w ↦ h.below v w same
        | inr w ↦ absurd (none v w same)
      ];
  replied = λ v there same.
      elim (Contains-append_cases begun new v there) [
        | inl w ↦ reply_on told now v (h.replied v w same)
        | inr w ↦ absurd (none v w same)
      ];
}

pub msg_on : (sent out : List Envelope) (begun new : List Unanswered) (told now : List Answered)
    (to : NodeId) (m : Msg) → ((c : Commit) → m ≡ msg.Commit c → NoneOpened new c.tag)
    → MsgFollows (Gave sent told) begun told to m
    → MsgFollows (Gave (sent ++ out) (told ++ now)) (begun ++ new) (told ++ now) to m
msg_on sent out begun new told now to (msg.Statement m) none h = (
  h.0,
  statement_on (Gave sent told) (Gave (sent ++ out) (told ++ now)) (gave_on sent out told now) m
      h.1,
)
msg_on sent out begun new told now to (msg.Commit m) none h =
    commit_on sent out begun new told now m (none m refl) h
msg_on sent out begun new told now to other none h = tt

pub no_ask : (G : Tag → ℕ → ℕ → Type 0) (begun : List Unanswered) (told : List Answered)
    (to : NodeId) (m : Msg) → IsNoAsk m → MsgFollows G begun told to m
no_ask G begun told to (msg.Statement m) h = absurd h
no_ask G begun told to (msg.Commit m) h = absurd h
no_ask G begun told to other h = tt

pub not_commit : (m : Msg) (c : Commit) → IsNoAsk m → m ≡ msg.Commit c → ⊥
not_commit m c h e = subst IsNoAsk e h

-- Where what is sent is no statement and no commit, and no statement is opened.

past_on : (sent out : List Envelope) (r : RouterState)
    → ((e : Envelope) → Contains out e → IsNoAsk e.msg) → ArePast sent r → ArePast (sent ++ out) r
past_on sent out r none h lsid s t there doing m was same =
    elim (Contains-append_cases sent out was.0 was.1) [
      | inl w ↦ h lsid s t there doing m (was.0, w, was.2) same
      | inr w ↦ absurd (not_commit was.0.msg m (none was.0 w) was.2)
    ]

-- a router that is as it was, or has just started
abbrev pub IsOld : Map → Nodes → ℕ → RouterState → Type 0
IsOld chunks old n r =
    (slice_get old.routers n ≡ Some r) ⊎ ((r.sessions ≡ []) × (r.chunks ≡ chunks))

pub started_stands : (chunks : Map) (sent : List Envelope) (told : List Answered) (r : RouterState)
    → r.sessions ≡ [] → r.chunks ≡ chunks → RouterStand chunks sent told r
started_stands chunks sent told r none is = record {
  follows = λ lsid s there. absurd (nothing lsid s there);
  once = subst (λ (xs : BySession Session). OnceUnder xs) (sym none) tt;
  chunks_are = is;
  past = λ lsid s t there doing m was same. absurd (nothing lsid s there);
}
  where
    nothing : (lsid : Lsid) (s : Session) → session_of r lsid ≡ Some s → ⊥
    nothing lsid s there =
        let no : None ≡ Some s = sym (ap (λ (xs : BySession Session). entry_of lsid xs) none)
        ∙ there in
        grind (arith, no)

quiet_router : (chunks : Map) (old : Nodes) (out : List Envelope) (begun : List Unanswered)
    (told : List Answered) (n : ℕ) (r : RouterState) → Stand chunks old begun told
    → ((e : Envelope) → Contains out e → IsNoAsk e.msg) → IsOld chunks old n r
    → RouterStand chunks (old.sent ++ out) (told ++ []) r
quiet_router chunks old out begun told n r h none (inl there) =
    let k = h.routers n r there in
    record {
      follows = follows_on old.sent out told [] r k.follows;
      once = k.once;
      chunks_are = k.chunks_are;
      past = past_on old.sent out r none k.past;
    }
quiet_router chunks old out begun told n r h none (inr new) =
    started_stands chunks (old.sent ++ out) (told ++ []) r new.0 new.1

pub quiet_stand : (chunks : Map) (old new : Nodes) (out : List Envelope) (begun : List Unanswered)
    (told : List Answered) → new.sent ≡ old.sent ++ out
    → ((e : Envelope) → Contains out e → IsNoAsk e.msg)
    → ((n : ℕ) (r : RouterState) → slice_get new.routers n ≡ Some r → IsOld chunks old n r)
    → Stand chunks old begun told → Stand chunks new (begun ++ []) (told ++ [])
quiet_stand chunks old new out begun told is none routers h = record {
  routers = λ n r at.
      subst (λ (s : List Envelope). RouterStand chunks s (told ++ []) r) (sym is)
      (quiet_router chunks old out begun told n r h none (routers n r at));
  sent = subst (λ (s : List Envelope).
      All (λ (e : Envelope).
      MsgFollows (Gave s (told ++ [])) (begun ++ []) (told ++ []) e.to e.msg) s)
      (sym is)
      (contained
      (λ (e : Envelope). MsgFollows (Gave (old.sent ++ out) (told ++ [])) (begun ++ [])
      (told ++ []) e.to e.msg) (old.sent ++ out)
      (λ e c. elim (Contains-append_cases old.sent out e c) [
        | inl w ↦ msg_on old.sent out begun [] told [] e.to e.msg
            (λ m is v there same. absurd (omega (arith, there.1)))
            (All-contains (λ (e : Envelope). MsgFollows (Gave old.sent told) begun told e.to e.msg)
            old.sent e h.sent w)
        | inr w ↦ no_ask (Gave (old.sent ++ out) (told ++ [])) (begun ++ []) (told ++ []) e.to e.msg
            (none e w)
      ]));
  places = λ v c.
      elim (Contains-append_cases begun [] v c) [
        | inl w ↦ h.places v w
        | inr w ↦ absurd (omega (arith, w.1))
      ];
}
