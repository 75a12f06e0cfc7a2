-- All requests to commit one transaction name one boot: that of the shard that takes part, which
-- isn't changed any more once one was sent.
use Rattle.std.proofs.Common.{◌≡◌, inl, inr, ◌++◌, ℕ, Bool, true, false, List}
use Rattle.std.proofs.Common.{[], ◌∷◌, Some, refl, sym, ap, subst, ◌∙◌, arith}
use Rattle.std.proofs.lemmas.List.Elements.{All-contains, Contains-append_cases}
use Rattle.txn_types.specs.Letters.{given_out}
use Rattle.txn_types.specs.Order.{same_tag}
use Rattle.txn_types.specs.declared.event.Happening.{Happening}
use Rattle.txn_types.specs.declared.event.Happening.TheVariants as what
use Rattle.txn_types.specs.declared.event.NodeEvent.{NodeEvent}
use Rattle.txn_types.specs.declared.message.Commit.{Commit}
use Rattle.txn_types.specs.declared.message.Envelope.{Envelope}
use Rattle.txn_types.specs.declared.message.Msg.{Msg}
use Rattle.txn_types.specs.declared.message.Msg.TheVariants as msg
use Rattle.txn_types.specs.declared.names.Tag.{Tag}
use Rattle.txn_types.specs.declared.node.Lsid.{Lsid}
use Rattle.txn_types.specs.declared.operation.Op.{Op}
use Rattle.txn_semantics.specs.declared.commits.Answered.{Answered}
use Rattle.participant.proofs.Tags.{tag_self, tag_same}
use Rattle.chunk_map.specs.Map.{Map, IsMap}
use Rattle.router_state.specs.declared.state.Asker.{Asker}
use Rattle.router_state.specs.declared.state.Doing.{Doing}
use Rattle.router_state.specs.declared.state.Doing.TheVariants.{Begun, Sought}
use Rattle.router_state.specs.declared.state.Phase.{Phase}
use Rattle.router_state.specs.declared.state.Phase.TheVariants.{Idle, Asking, Checking, Deciding}
use Rattle.router_state.specs.declared.state.Phase.TheVariants.{Committed, Released, Aborted}
use Rattle.router_state.specs.declared.state.Session.{Session}
use Rattle.router_state.specs.declared.state.Transaction.{Transaction}
use Rattle.router_state.specs.State.{Post, RouterState, session_of}
use Rattle.router_rules.specs.Times.{walled}
use Rattle.cluster_core.specs.Answering.{Unanswered}
use Rattle.told_laws.proofs.Booking.{same_tag_of}
use Rattle.told_laws.proofs.Quiet.{IsSettled}
use Rattle.told_laws.proofs.Standing.{RouterStands}
use Rattle.commit_laws.specs.Speaking.{Gave}
use Rattle.commit_laws.proofs.Follows.{Heard, Commits, Follows, DoingFollows, IsPast, IsNoAsk}
use Rattle.commit_laws.proofs.Moves.{SessionFrom, SentFrom, MoveFrom}
use Rattle.commit_laws.proofs.Requests.{Ready, MsgGiven, WhatGiven, happened_from}
use Rattle.commit_laws.proofs.Standing.{RouterStand, ArePast, not_commit}
use Rattle.commit_laws.proofs.Stepping.{move_of, did, post_of, commit_case}
use Rattle.decision_laws.specs.Ends.{WasSent}
use Rattle.decision_laws.proofs.Following.{follows_to}

-- of this boot of the one shard, unless it was aborted
abbrev pub IsOfBoot : ℕ → Transaction → Phase → Type 0
IsOfBoot boot t (Aborted sent) = Unit {0}
IsOfBoot boot t other = t.parts ≡ (0, boot) ∷ []

of_boot : (boot : ℕ) (t : Transaction) (p : Phase) → t.parts ≡ (0, boot) ∷ [] → IsOfBoot boot t p
of_boot boot t (Aborted sent) h = tt
of_boot boot t Idle h = h
of_boot boot t (Asking asker op answers) h = h
of_boot boot t (Checking asker) h = h
of_boot boot t (Deciding asker) h = h
of_boot boot t Committed h = h
of_boot boot t Released h = h

settled_parts : (boot : ℕ) (t : Transaction) (p : Phase) → IsSettled p → IsOfBoot boot t p
    → t.parts ≡ (0, boot) ∷ []
settled_parts boot t (Aborted sent) k h = absurd k
settled_parts boot t Idle k h = h
settled_parts boot t (Asking asker op answers) k h = h
settled_parts boot t (Checking asker) k h = h
settled_parts boot t (Deciding asker) k h = h
settled_parts boot t Committed k h = h
settled_parts boot t Released k h = h

pub same_boots : (parts : List (ℕ × ℕ)) (a b : ℕ) → parts ≡ (0, a) ∷ [] → parts ≡ (0, b) ∷ []
    → a ≡ b
same_boots parts a b e f = let same : (0, a) ∷ [] ≡ (0, b) ∷ [] = sym e ∙ f in grind (arith, same)

-- what holds of each session's transaction of which a commit was sent
abbrev pub AreOfBoots : List Envelope → RouterState → Type 0
AreOfBoots sent r = (lsid : Lsid) (s : Session) (t : Transaction) → session_of r lsid ≡ Some s
    → s.doing ≡ Begun t → (c : Commit) → WasSent sent c → c.tag ≡ t.tag
    → IsOfBoot c.boot t t.phase

module _ (tag : Tag) (boot : ℕ) where
  -- what is known of this transaction is of this boot
  abbrev pub InBoot : Tag → ℕ → ℕ → Type 0
  InBoot t k b = same_tag t tag ≡ true → b ≡ boot

  heard_in : (G : Tag → ℕ → ℕ → Type 0) (t : Transaction) (h : Heard G t.tag t.k t.parts t.wrote)
      → t.parts ≡ (0, boot) ∷ [] → Heard InBoot t.tag t.k t.parts t.wrote
  heard_in G t h is = record {
    boot = h.boot;
    parts_are = h.parts_are;
    wrote_is = h.wrote_is;
    gave = λ so. same_boots t.parts h.boot boot h.parts_are is;
  }

  commits_in : (G : Tag → ℕ → ℕ → Type 0) (t : Transaction) → Commits G t
      → t.parts ≡ (0, boot) ∷ [] → Commits InBoot t
  unfolding heard_in
  commits_in G t h is = (heard_in G t h.0 is, h.1)

  past_follows : (G : Tag → ℕ → ℕ → Type 0) (t : Transaction) (p : Phase) → IsPast p
      → IsOfBoot boot t p → Follows G t p → Follows InBoot t p
  past_follows G t (Aborted sent) past is h = h
  past_follows G t Idle past is h = absurd past
  past_follows G t (Asking asker op answers) past is h = absurd past
  past_follows G t (Checking asker) past is h = commits_in G t h is
  past_follows G t (Deciding asker) past is h = commits_in G t h is
  past_follows G t Committed past is h = commits_in G t h is
  past_follows G t Released past is h = commits_in G t h is

  vacuous : (t : Tag) (b : ℕ) → same_tag t tag ≡ false → same_tag t tag ≡ true → b ≡ boot
  vacuous t b f so = let no : true ≡ false = sym so ∙ f in absurd (grind (arith, no))

  txn_follows : (G : Tag → ℕ → ℕ → Type 0) (t : Transaction) (test : Bool)
      → same_tag t.tag tag ≡ test → (tag ≡ t.tag → IsPast t.phase × IsOfBoot boot t t.phase)
      → Follows G t t.phase → Follows InBoot t t.phase
  txn_follows G t true is k h =
      let both = k (sym (tag_same t.tag tag is)) in
      past_follows G t t.phase both.0 both.1 h
  txn_follows G t false is k h = follows_to G InBoot t (λ j b g. vacuous t.tag b is) t.phase h

  -- what follows so is of this boot
  follows_boot : (t : Transaction) (p : Phase) → tag ≡ t.tag → IsPast p → Follows InBoot t p
      → IsOfBoot boot t p
  follows_boot t p e past h = by p past h
    where
      it_is : same_tag t.tag tag ≡ true
      it_is = ap (λ (x : Tag). same_tag x tag) (sym e) ∙ tag_self tag

      parts_of : (h : Heard InBoot t.tag t.k t.parts t.wrote) → t.parts ≡ (0, boot) ∷ []
      parts_of h = h.parts_are ∙ ap (λ (b : ℕ). (0, b) ∷ []) (h.gave it_is)

      by : (p : Phase) → IsPast p → Follows InBoot t p → IsOfBoot boot t p
      by (Aborted sent) past h = tt
      by Idle past h = absurd past
      by (Asking asker op answers) past h = absurd past
      by (Checking asker) past h = parts_of h.0
      by (Deciding asker) past h = parts_of h.0
      by Committed past h = parts_of h.0
      by Released past h = parts_of h.0

module _ (chunks : Map) (is : IsMap chunks) (one : chunks.shards ≡ 1) (r : RouterState)
    (e : NodeEvent) (sent : List Envelope) (told : List Answered)
    (stood : RouterStand chunks sent told r) where
  abbrev before : RouterState
  before = walled r e.wall

  ready_maps : IsMap before.chunks × (before.chunks.shards ≡ 1)
  ready_maps = (
    subst IsMap (sym stood.chunks_are) is,
    ap (λ (m : Map). m.shards) stood.chunks_are ∙ one,
  )

  -- An older request to commit.

  module _ (held : AreOfBoots sent r) (c : Commit) (was : WasSent sent c) where
    abbrev G : Tag → ℕ → ℕ → Type 0
    G = InBoot c.tag c.boot

    both_of : (lsid : Lsid) (s : Session) (t : Transaction) → session_of r lsid ≡ Some s
        → s.doing ≡ Begun t → c.tag ≡ t.tag → IsPast t.phase × IsOfBoot c.boot t t.phase
    both_of lsid s t there doing same =
        (stood.past lsid s t there doing c was same, held lsid s t there doing c was same)

    doing_follows : (lsid : Lsid) (s : Session) (doing : Doing) → session_of r lsid ≡ Some s
        → s.doing ≡ doing → DoingFollows (Gave sent told) doing → DoingFollows G doing
    doing_follows lsid s (Begun t) there doing h =
        txn_follows c.tag c.boot (Gave sent told) t (same_tag t.tag c.tag) refl
        (both_of lsid s t there doing) h
    doing_follows lsid s (Sought seeking known) there doing h = tt

    ready : Ready G before
    ready = (
      λ lsid s there. doing_follows lsid s s.doing there refl (stood.follows lsid s there),
      (stood.once, ready_maps),
    )

    given_case : (t : Transaction) (test : Bool) (b : ℕ) → same_tag t.tag c.tag ≡ test
        → (c.tag ≡ t.tag → IsPast t.phase × IsOfBoot c.boot t t.phase) → (asker : Asker) (op : Op)
        → t.phase ≡ Asking asker op [] → G t.tag t.k b
    given_case t true b same k asker op phase =
        absurd (subst IsPast phase (k (sym (tag_same t.tag c.tag same))).0)
    given_case t false b same k asker op phase = vacuous c.tag c.boot t.tag b same

    msg_given : (m : Msg) → MsgGiven G before m
    msg_given (msg.Answer a) = λ lsid s t there doing asker op phase so done ok.
        given_case t (same_tag t.tag c.tag) a.boot refl (both_of lsid s t there doing) asker op
        phase
    msg_given other = tt

    what_given : (w : Happening) → WhatGiven G before w
    what_given (what.Deliver x) = msg_given x.msg
    what_given other = tt

    pub old_held : (lsid : Lsid) (s : Session) (t : Transaction)
        → session_of (move_of r e).state lsid ≡ Some s → s.doing ≡ Begun t → c.tag ≡ t.tag
        → IsPast t.phase → IsOfBoot c.boot t t.phase
    old_held lsid s t there doing same past =
        let moved = happened_from G before e.what ready (what_given e.what) in
        follows_boot c.tag c.boot t t.phase same past
        (subst (SessionFrom G before lsid) doing (moved.sessions lsid s there)).0

  -- A new one.

  abbrev Any : Tag → ℕ → ℕ → Type 0
  Any t k boot = Unit {0}

  any_follows : (doing : Doing) → DoingFollows (Gave sent told) doing → DoingFollows Any doing
  any_follows (Begun t) h = follows_to (Gave sent told) Any t (λ k boot g. tt) t.phase h
  any_follows (Sought seeking known) h = tt

  any_msg : (m : Msg) → MsgGiven Any before m
  any_msg (msg.Answer a) = λ lsid s t there doing asker op phase so done ok. tt
  any_msg other = tt

  any_given : (w : Happening) → WhatGiven Any before w
  any_given (what.Deliver x) = any_msg x.msg
  any_given other = tt

  moved : MoveFrom Any before (move_of r e)
  moved = happened_from Any before e.what (
    λ lsid s there. any_follows s.doing (stood.follows lsid s there),
    (stood.once, ready_maps),
  ) (any_given e.what)

  -- the session whose transaction it commits
  pub record IsFrom (c : Commit) : Type 0 where
    pub lsid : Lsid
    pub session : Session
    pub there : session_of (move_of r e).state lsid ≡ Some session
    pub t : Transaction
    pub doing : session.doing ≡ Begun t
    pub tag_is : c.tag ≡ t.tag
    pub settled : IsSettled t.phase
    pub parts : t.parts ≡ (0, c.boot) ∷ []

  from_case : (p : ℕ) (c : Commit) → SentFrom (move_of r e).state.sessions (p, msg.Commit c)
      → IsFrom c
  from_case p c k =
      let done = commit_case Any k.t k.t.phase refl
      (subst (SessionFrom Any before k.lsid) k.doing (moved.sessions k.lsid k.session k.there)).0
      p c k.waits in
      record {
        lsid = k.lsid;
        session = k.session;
        there = k.there;
        t = k.t;
        doing = k.doing;
        tag_is = done.1.0;
        settled = done.1.1.1.1;
        parts = done.0.parts_are ∙ ap (λ (b : ℕ). (0, b) ∷ []) (sym done.1.1.0);
      }

  pub new_from : (c : Commit) → WasSent (given_out (did r e)) c → IsFrom c
  new_from c was =
      let p = post_of r e was.0 was.1 in
      let path : p.0.1 ≡ msg.Commit c = sym p.2.0 ∙ was.2 in
      elim (Contains-append_cases (move_of r e).given.aborts (move_of r e).given.sends p.0 p.1) [
        | inl w ↦ absurd (not_commit p.0.1 c
            (All-contains (λ (post : Post). IsNoAsk post.1) (move_of r e).given.aborts p.0
            moved.aborts w) path)
        | inr w ↦ elim (moved.sends p.0 w) [
          | inl k ↦ from_case p.0.0 c
              (subst (λ (y : Msg). SentFrom (move_of r e).state.sessions (p.0.0, y)) path k)
          | inr quiet ↦ absurd (not_commit p.0.1 c quiet path)
        ]
      ]

  -- All of them, where each transaction is of one session.

  module _ (held : AreOfBoots sent r) (n : ℕ) (begun us : List Unanswered) (now : List Answered)
      (stands : RouterStands n begun us now (move_of r e).state)
      (past : ArePast (sent ++ given_out (did r e)) (move_of r e).state) where
    same_txn : (lsid other : Lsid) (s v : Session) (t u : Transaction)
        → session_of (move_of r e).state lsid ≡ Some s → s.doing ≡ Begun t
        → session_of (move_of r e).state other ≡ Some v → v.doing ≡ Begun u → t.tag ≡ u.tag → t ≡ u
    same_txn lsid other s v t u there doing at is_u same =
        let key : lsid ≡ other = stands.alone lsid other s v there at
        (same_tag_of s.doing v.doing t u doing is_u same) in
        let sessions : Some s ≡ Some v = sym there
        ∙ ap (λ (l : Lsid). session_of (move_of r e).state l) key ∙ at in
        let session : s ≡ v = grind (arith, sessions) in
        let doings : Begun t ≡ Begun u = sym doing ∙ ap (λ (x : Session). x.doing) session ∙ is_u in
        grind (arith, doings)

    pub held_now : AreOfBoots (sent ++ given_out (did r e)) (move_of r e).state
    held_now lsid s t there doing c was same =
        elim (Contains-append_cases sent (given_out (did r e)) was.0 was.1) [
          | inl w ↦ old_held held c (was.0, w, was.2) lsid s t there doing same
              (past lsid s t there doing c was same)
          | inr w ↦
              let f = new_from c (was.0, w, was.2) in
              let txns : f.t ≡ t = same_txn f.lsid lsid f.session s f.t t f.there f.doing there
              doing (sym f.tag_is ∙ same) in
              of_boot c.boot t t.phase (subst (λ (x : Transaction). x.parts ≡ (0, c.boot) ∷ [])
              txns f.parts)
        ]

    pub old_new : (c d : Commit) → WasSent (sent ++ given_out (did r e)) c
        → WasSent (given_out (did r e)) d → c.tag ≡ d.tag → c.boot ≡ d.boot
    old_new c d was is_new same =
        let f = new_from d is_new in
        same_boots f.t.parts c.boot d.boot
        (settled_parts c.boot f.t f.t.phase f.settled
        (held_now f.lsid f.session f.t f.there f.doing c was (same ∙ f.tag_is)))
        f.parts
