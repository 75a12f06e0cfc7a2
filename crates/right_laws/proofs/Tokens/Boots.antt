-- What stands of a token that was told: which boot it names is that of the shard in which its
-- transaction's newest statement was answered then, and no later statement nor commit of it names
-- another.
use Rattle.std.proofs.Common.{◌≡◌, ◌⊎◌, inl, inr, ◌++◌, ◌<◌, ◌≤◌, ℕ, Bool, true, false, List}
use Rattle.std.proofs.Common.{[], ◌∷◌, Some, None, Result, Ok, Err, refl, sym, ap, subst, ◌∙◌}
use Rattle.std.proofs.Common.{arith}
use Rattle.std.proofs.Common.{nat_eq, ◌&&◌, All}
use Rattle.std.specs.Prelude.{Contains, IsOk, slice_get, slice_set}
use Rattle.std.proofs.lemmas.List.Elements.{All-contains, Contains-append_cases}
use Rattle.txn_types.specs.BySession.{BySession, entry_of}
use Rattle.txn_types.specs.Letters.{given_out}
use Rattle.txn_types.specs.Order.{same_tag}
use Rattle.txn_types.specs.declared.cause.Cause.{Cause}
use Rattle.txn_types.specs.declared.decision.Token.TheVariants as token
use Rattle.txn_types.specs.declared.event.Happening.{Happening}
use Rattle.txn_types.specs.declared.event.Happening.TheVariants as what
use Rattle.txn_types.specs.declared.event.NodeEvent.{NodeEvent}
use Rattle.txn_types.specs.declared.message.Answer.{Answer}
use Rattle.txn_types.specs.declared.message.Commit.{Commit}
use Rattle.txn_types.specs.declared.message.Envelope.{Envelope}
use Rattle.txn_types.specs.declared.message.Msg.{Msg}
use Rattle.txn_types.specs.declared.message.Msg.TheVariants as msg
use Rattle.txn_types.specs.declared.message.Statement.{Statement}
use Rattle.txn_types.specs.declared.names.Tag.{Tag}
use Rattle.txn_types.specs.declared.node.Lsid.{Lsid}
use Rattle.txn_types.specs.declared.node.NodeId.{NodeId}
use Rattle.txn_types.specs.declared.node.NodeId.TheVariants.{Router}
use Rattle.txn_types.specs.declared.operation.Op.{Op}
use Rattle.txn_types.specs.declared.operation.OpReply.{OpReply}
use Rattle.txn_semantics.specs.declared.commits.Answered.{Answered}
use Rattle.participant.proofs.Tags.{tag_self}
use Rattle.part_laws.specs.Each.{Each, Among}
use Rattle.part_laws.specs.Sound.{Served}
use Rattle.chunk_map.specs.Map.{Map, IsMap}
use Rattle.router_state.specs.declared.state.Asker.{Asker}
use Rattle.router_state.specs.declared.state.Doing.{Doing}
use Rattle.router_state.specs.declared.state.Doing.TheVariants.{Begun, Sought}
use Rattle.router_state.specs.declared.state.Phase.{Phase}
use Rattle.router_state.specs.declared.state.Phase.TheVariants.{Idle, Asking, Checking, Deciding}
use Rattle.router_state.specs.declared.state.Phase.TheVariants.{Committed, Released, Aborted}
use Rattle.router_state.specs.declared.state.Session.{Session}
use Rattle.router_state.specs.declared.state.Transaction.{Transaction}
use Rattle.router_state.specs.State.{Post, RouterState, session_of, boot_of, is_waited, token_by}
use Rattle.router_state.specs.State.{token_of}
use Rattle.router_rules.specs.Times.{walled}
use Rattle.cluster_core.specs.Answering.{Unanswered}
use Rattle.cluster_core.specs.Nodes.{Nodes}
use Rattle.cluster_core.specs.Trace.{MayCome}
use Rattle.serving_laws.specs.Telling.{IsToldBy, ToldThere}
use Rattle.one_shard_laws.specs.Asking.{OneWrote}
use Rattle.one_shard_laws.specs.Concluding.{ServedRight}
use Rattle.one_shard_laws.specs.Lasting.{AllAsked, BeganBy, WentOnBy}
use Rattle.one_shard_laws.specs.Lasting as la
use Rattle.world_laws.proofs.Going.{some_same}
use Rattle.world_laws.proofs.Naming.{tag_is}
use Rattle.answer_laws.specs.Parts.{SentTo, SentFit, IsPart}
use Rattle.answer_laws.proofs.Lists.{both_true, nat_is}
use Rattle.told_laws.specs.Places.{IsOpened}
use Rattle.told_laws.proofs.Answering.{takes}
use Rattle.told_laws.proofs.Booking.{same_tag_of}
use Rattle.told_laws.proofs.Lists.{set_cases}
use Rattle.told_laws.proofs.Standing.{RouterStands, DoingStands, TxnStands, PhaseStands, IsAsked}
use Rattle.told_laws.proofs.Standing.{Asked, ListsStand}
use Rattle.commit_laws.specs.Speaking.{Gave, StatementFollows, MsgFollows}
use Rattle.commit_laws.proofs.Chaining.{WasAskedFor}
use Rattle.commit_laws.proofs.Follows.{Heard, Follows, DoingFollows, IsNoAsk}
use Rattle.commit_laws.proofs.Moves.{RouterFollows, SessionFrom, SentFrom, MoveFrom}
use Rattle.commit_laws.proofs.Requests.{Ready, MsgGiven, WhatGiven, happened_from}
use Rattle.commit_laws.proofs.Standing.{RouterStand, Stand, gave_on, not_commit}
use Rattle.commit_laws.proofs.Stepping.{move_of, did, post_of, commit_case, statement_case}
use Rattle.decision_laws.specs.Ends.{WasSent}
use Rattle.decision_laws.proofs.Boots.{IsOfBoot, AreOfBoots, same_boots}
use Rattle.decision_laws.proofs.Following.{follows_to}
use Rattle.right_laws.proofs.Tokens.Deeds.{IsTold}

-- of this transaction, at or behind this place, the shard's boot is this one
abbrev pub InBoot : Tag → ℕ → ℕ → Tag → ℕ → ℕ → Type 0
InBoot tag place boot t k b = t ≡ tag → (place ≤ k) × (b ≡ boot)

-- the statements of it behind that place name the boot
abbrev pub StatementsName : List Envelope → Tag → ℕ → ℕ → Type 0
StatementsName sent tag place boot = (e : Envelope) (m : Statement) → Contains sent e
    → e.msg ≡ msg.Statement m → m.tag ≡ tag → place < m.k → m.boot ≡ boot

abbrev pub CommitsName : List Envelope → Tag → ℕ → Type 0
CommitsName sent tag boot = (c : Commit) → WasSent sent c → c.tag ≡ tag → c.boot ≡ boot

-- a token of the transaction which names the boot may have been told
pub record IsKnown (nodes : Nodes) (told : List Answered) (tag : Tag) (boot : ℕ) : Type 0 where
  pub place : ℕ
  pub gave : Gave nodes.sent told tag place boot
  pub follows : (n : ℕ) (r : RouterState) → slice_get nodes.routers n ≡ Some r
      → RouterFollows (InBoot tag place boot) r
  pub statements : StatementsName nodes.sent tag place boot
  pub commits : CommitsName nodes.sent tag boot

-- What was served.

pub each_among : {A : Type 0} (P : A → Type 0) (xs : List A) (x : A) → Each P xs → Among x xs → P x
each_among P [] x h c = absurd c
each_among P (y ∷ xs) x h (inl e) = subst P (sym e) h.0
each_among P (y ∷ xs) x h (inr c) = each_among P xs x h.1 c

ok_done : (o : Result (OpReply × Bool) Cause) → IsOk o → (done : OpReply × Bool) × (o ≡ Ok done)
ok_done (Ok done) h = (done, refl)
ok_done (Err why) h = let no : false ≡ true = h in absurd (grind (arith, no))

asked_of : (sent : List Envelope) (served : List Served) (x : Served) → AllAsked sent served
    → Among x served → WasAskedFor sent x
asked_of sent [] x h c = absurd c
asked_of sent (y ∷ served) x h (inl e) = subst (WasAskedFor sent) (sym e) (first h.0)
  where
    boot : (m : Statement) → BeganBy m served y ⊎ WentOnBy m y → (m.boot ≡ 0) ⊎ (m.boot ≡ y.life)
    boot m (inl b) = inl b.0
    boot m (inr b) = inr b.1

    first : la.WasAsked sent served y → WasAskedFor sent y
    first w = (w.0, w.1, w.2, w.3, w.4, boot w.1 w.5)
asked_of sent (y ∷ served) x h (inr c) = asked_of sent served x h.1 c

-- a statement that was answered in this boot was served in it
pub record WasServed (served : List Served) (tag : Tag) (k boot : ℕ) : Type 0 where
  pub x : Served
  pub among : Among x served
  pub tag_is : x.tag ≡ tag
  pub k_is : x.k ≡ k
  pub life : x.life ≡ boot

pub reply_served : (sent : List Envelope) (served : List Served)
    → All (λ (e : Envelope). IsToldBy served e.msg) sent → (e : Envelope) (a : Answer)
    → Contains sent e → e.msg ≡ msg.Answer a → (done : OpReply × Bool) → a.outcome ≡ Ok done
    → WasServed served a.tag a.k a.boot
reply_served sent served told e a there is done ok =
    let t : ToldThere served a (Ok done) =
    subst (ToldThere served a) ok (subst (IsToldBy served) is
    (All-contains (λ (e : Envelope). IsToldBy served e.msg) sent e told there)) in
    record { x = t.0; among = t.1; tag_is = t.2; k_is = t.3; life = t.6 }

pub gave_served : (sent : List Envelope) (served : List Served)
    → All (λ (e : Envelope). IsToldBy served e.msg) sent → (answered : List Answered) (tag : Tag)
    (k boot : ℕ) → Gave sent answered tag k boot → WasServed served tag k boot
gave_served sent served told answered tag k boot g =
    let ok = ok_done g.one.answer.outcome g.replied in
    let w = reply_served sent served told g.one.envelope g.one.answer g.one.was_sent g.one.msg ok.0
    ok.1 in
    record {
      x = w.x;
      among = w.among;
      tag_is = w.tag_is ∙ g.one.tag ∙ g.tag_is;
      k_is = w.k_is ∙ g.one.k ∙ g.k_is;
      life = w.life ∙ g.boot_is;
    }

-- Where no statement and no commit is sent.

not_statement : (m : Msg) (s : Statement) → IsNoAsk m → m ≡ msg.Statement s → ⊥
not_statement m s h e = subst IsNoAsk e h

pub none_follow : (G : Tag → ℕ → ℕ → Type 0) (r : RouterState) → r.sessions ≡ [] → RouterFollows G r
none_follow G r none lsid s there =
    let no : None ≡ Some s = sym (ap (λ (xs : BySession Session). entry_of lsid xs) none) ∙ there in
    absurd (grind (arith, no))

pub quiet_known : (old new : Nodes) (out : List Envelope) (told now : List Answered)
    → new.sent ≡ old.sent ++ out → ((x : Envelope) → Contains out x → IsNoAsk x.msg)
    → ((n : ℕ) (r : RouterState) → slice_get new.routers n ≡ Some r
    → (slice_get old.routers n ≡ Some r) ⊎ (r.sessions ≡ []))
    → (tag : Tag) (boot : ℕ) → IsKnown old told tag boot → IsKnown new (told ++ now) tag boot
quiet_known old new out told now sent none routers tag boot k = record {
  place = k.place;
  gave = subst (λ (s : List Envelope). Gave s (told ++ now) tag k.place boot) (sym sent)
      (gave_on old.sent out told now tag k.place boot k.gave);
  follows = λ n r at. elim (routers n r at) [
    | inl there ↦ k.follows n r there
    | inr fresh ↦ none_follow (InBoot tag k.place boot) r fresh
  ];
  statements = subst (λ (s : List Envelope). StatementsName s tag k.place boot) (sym sent)
      (λ e m c is same less. elim (Contains-append_cases old.sent out e c) [
        | inl w ↦ k.statements e m w is same less
        | inr w ↦ absurd (not_statement e.msg m (none e w) is)
      ]);
  commits = subst (λ (s : List Envelope). CommitsName s tag boot) (sym sent)
      (λ c was same. elim (Contains-append_cases old.sent out was.0 was.1) [
        | inl w ↦ k.commits c (was.0, w, was.2) same
        | inr w ↦ absurd (not_commit was.0.msg c (none was.0 w) was.2)
      ]);
}

-- A router's step.

module _ (chunks : Map) (is : IsMap chunks) (one : chunks.shards ≡ 1) (old new : Nodes) (n : ℕ)
    (r : RouterState) (e : NodeEvent) (begun us : List Unanswered) (told now : List Answered)
    (there : slice_get old.routers n ≡ Some r) (comes : MayCome old.sent (Router n) e.what)
    (routers : new.routers ≡ slice_set old.routers n (move_of r e).state)
    (sent : new.sent ≡ old.sent ++ given_out (did r e)) (stood : RouterStand chunks old.sent told r)
    (stands : RouterStands n begun us told r) (lists : ListsStand begun us told)
    (places : (v : Unanswered) → Contains begun v → 0 < v.k) (served : ServedRight old)
    (tag : Tag) (boot : ℕ) (k : IsKnown old told tag boot) where
  abbrev before : RouterState
  before = walled r e.wall

  abbrev behind : RouterState
  behind = (move_of r e).state

  abbrev out : List Envelope
  out = given_out (did r e)

  abbrev G : Tag → ℕ → ℕ → Type 0
  G = InBoot tag k.place boot

  ready : Ready G before
  ready = (
    k.follows n r there,
    (
      stood.once,
      (
        subst IsMap (sym stood.chunks_are) is,
        ap (λ (m : Map). m.shards) stood.chunks_are ∙ one,
      ),
    ),
  )

  some_place : 0 < k.place
  some_place =
      let o = All-contains (IsOpened begun) told k.gave.answer lists.of k.gave.among in
      let up = places o.statement o.opened in
      let same : k.gave.answer.k ≡ o.statement.k = o.k in
      let at : k.gave.answer.k ≡ k.place = k.gave.k_is in
      omega (arith, up, same, at)

  life_some : {t : Tag} {j b : ℕ} → (w : WasServed served.served t j b) → 0 < b
  life_some {t} {j} {b} w =
      subst (λ (i : ℕ). 0 < i) w.life
      (each_among (λ (x : Served). 0 < x.life) served.served w.x served.lives w.among)

  some_boot : 0 < boot
  some_boot =
      life_some (gave_served old.sent served.served served.told told tag k.place boot k.gave)

  -- The Answer that comes was given in the boot.

  module _ (x : Envelope) (a : Answer) (was : Contains old.sent x)
      (is_answer : x.msg ≡ msg.Answer a)
      (t : Transaction) (asker : Asker) (op : Op) (asking : t.phase ≡ Asking asker op [])
      (own : TxnStands n begun us told t) (so : takes a t ≡ true) (done : OpReply × Bool)
      (ok : a.outcome ≡ Ok done) (same : t.tag ≡ tag) where
    parts : (same_tag t.tag a.tag ≡ true) × (nat_eq a.k t.k ≡ true)
    parts = both_true (same_tag t.tag a.tag) (nat_eq a.k t.k)
        (both_true (same_tag t.tag a.tag && nat_eq a.k t.k) (is_waited a.shard t.waiting) so).0

    asked : Asked n begun us told t asker op []
    asked = by (subst (PhaseStands n begun us told t) asking own.phase)
      where
        by : IsAsked n begun us told t asker op [] → Asked n begun us told t asker op []
        by (inr h) = h
        by (inl h) =
            let waits = (both_true (same_tag t.tag a.tag && nat_eq a.k t.k)
            (is_waited a.shard t.waiting) so).1 in
            let no : false ≡ true = ap (is_waited a.shard) (sym h.0) ∙ waits in
            absurd (grind (arith, no))

    later : k.place < t.k
    later =
        let less : k.gave.answer.k < asked.statement.k = lists.newest asked.statement k.gave.answer
        asked.there k.gave.among (k.gave.tag_is ∙ sym same ∙ sym asked.tag) in
        let at : k.gave.answer.k ≡ k.place = k.gave.k_is in
        let here : asked.statement.k ≡ t.k = asked.k in
        omega (arith, less, at, here)

    in_boot : a.boot ≡ boot
    in_boot =
        let w = reply_served old.sent served.served served.told x a was is_answer done ok in
        let q = asked_of old.sent served.served w.x served.asked w.among in
        let place : t.k ≡ q.1.k = sym (nat_is a.k t.k parts.1) ∙ sym w.k_is ∙ q.4.1 in
        let names : q.1.boot ≡ boot = k.statements q.0 q.1 q.2 q.3
        (sym q.4.0 ∙ w.tag_is ∙ sym (tag_is t.tag a.tag parts.0) ∙ same)
        (omega (arith, later, place)) in
        by q.1 w.x names w.life q.5
      where
        by : (m : Statement) (y : Served) → m.boot ≡ boot → y.life ≡ a.boot
            → (m.boot ≡ 0) ⊎ (m.boot ≡ y.life) → a.boot ≡ boot
        by m y names life (inl none) =
            let some = some_boot in
            let zero : m.boot ≡ 0 = none in
            let named : m.boot ≡ boot = names in
            absurd (omega (arith, some, zero, named))
        by m y names life (inr lives) = sym life ∙ sym lives ∙ names

    answered : (k.place ≤ t.k) × (a.boot ≡ boot)
    answered = (omega (arith, later), in_boot)

  txn_of : (s : Session) (t : Transaction) → s.doing ≡ Begun t
      → DoingStands n r begun us told s.doing → TxnStands n begun us told t
  txn_of s t doing h = (subst (DoingStands n r begun us told) doing h).1

  msg_given : (x : Envelope) → Contains old.sent x → (m : Msg) → x.msg ≡ m → MsgGiven G before m
  msg_given x was (msg.Answer a) is_answer = λ lsid s t at doing asker op asking so done ok same.
      answered x a was is_answer t asker op asking
      (txn_of s t doing (stands.sessions lsid s at)) so done ok same
  msg_given x was other is_other = tt

  what_given : (w : Happening) → MayCome old.sent (Router n) w → WhatGiven G before w
  what_given (what.Deliver x) c = msg_given x c.0 x.msg refl
  what_given other c = tt

  moved : MoveFrom G before (move_of r e)
  moved = happened_from G before e.what ready (what_given e.what comes)

  session_is : (lsid : Lsid) (s : Session) (t : Transaction) → session_of behind lsid ≡ Some s
      → s.doing ≡ Begun t → Follows G t t.phase
  session_is lsid s t at doing =
      (subst (SessionFrom G before lsid) doing (moved.sessions lsid s at)).0

  behind_follows : RouterFollows G behind
  behind_follows lsid s at = by s.doing refl
    where
      by : (doing : Doing) → s.doing ≡ doing → DoingFollows G doing
      by (Begun t) doing = session_is lsid s t at doing
      by (Sought seeking known) doing = tt

  -- what goes out is what a session waits for
  from_session : (x : Envelope) (m : Msg) → Contains out x → x.msg ≡ m → (IsNoAsk m → ⊥)
      → (p : ℕ) × SentFrom behind.sessions (p, m)
  from_session x m c is_m asks =
      let p = post_of r e x c in
      let path : p.0.1 ≡ m = sym p.2.0 ∙ is_m in
      elim (Contains-append_cases (move_of r e).given.aborts (move_of r e).given.sends p.0 p.1) [
        | inl w ↦ absurd (asks (subst IsNoAsk path
            (All-contains (λ (post : Post). IsNoAsk post.1) (move_of r e).given.aborts p.0
            moved.aborts w)))
        | inr w ↦ elim (moved.sends p.0 w) [
          | inl f ↦ (p.0.0, subst (λ (y : Msg). SentFrom behind.sessions (p.0.0, y)) path f)
          | inr quiet ↦ absurd (asks (subst IsNoAsk path quiet))
        ]
      ]

  new_statement : (x : Envelope) (m : Statement) → Contains out x → x.msg ≡ msg.Statement m
      → m.tag ≡ tag → k.place < m.k → m.boot ≡ boot
  new_statement x m c is_m same less =
      let f = from_session x (msg.Statement m) c is_m (λ no. no) in
      let a = statement_case G f.1.t f.1.t.phase refl
      (session_is f.1.lsid f.1.session f.1.t f.1.there f.1.doing) f.0 m f.1.waits in
      by a.0
    where
      by : StatementFollows G m → m.boot ≡ boot
      by (inl first) =
          let one_is : m.k ≡ 1 = first.0 in
          let some = some_place in
          absurd (omega (arith, some, one_is, less))
      by (inr h) = (h.2 same).1

  new_commit : (x : Envelope) (c : Commit) → Contains out x → x.msg ≡ msg.Commit c → c.tag ≡ tag
      → c.boot ≡ boot
  new_commit x c among is_c same =
      let f = from_session x (msg.Commit c) among is_c (λ no. no) in
      let a = commit_case G f.1.t f.1.t.phase refl
      (session_is f.1.lsid f.1.session f.1.t f.1.there f.1.doing) f.0 c f.1.waits in
      a.1.1.0 ∙ (a.0.gave (sym a.1.0 ∙ same)).1

  pub did_known : IsKnown new (told ++ now) tag boot
  did_known = record {
    place = k.place;
    gave = subst (λ (s : List Envelope). Gave s (told ++ now) tag k.place boot) (sym sent)
        (gave_on old.sent out told now tag k.place boot k.gave);
    follows = λ m x at. elim (set_cases old.routers n m behind x
        (ap (λ (rs : List RouterState). slice_get rs m) (sym routers) ∙ at)) [
          | inl w ↦ subst (RouterFollows G) (sym w.1) behind_follows
          | inr w ↦ k.follows m x w.1
        ];
    statements = subst (λ (s : List Envelope). StatementsName s tag k.place boot) (sym sent)
        (λ x m c is_m same less. elim (Contains-append_cases old.sent out x c) [
          | inl w ↦ k.statements x m w is_m same less
          | inr w ↦ new_statement x m w is_m same less
        ]);
    commits = subst (λ (s : List Envelope). CommitsName s tag boot) (sym sent)
        (λ c was same. elim (Contains-append_cases old.sent out was.0 was.1) [
          | inl w ↦ k.commits c (was.0, w, was.2) same
          | inr w ↦ new_commit was.0 c w was.2 same
        ]);
  }

-- The token of a session's transaction.

-- what it had of the shard
pub told_heard : (G : Tag → ℕ → ℕ → Type 0) (t : Transaction) (p : Phase) → IsTold p → Follows G t p
    → Heard G t.tag t.k t.parts t.wrote
told_heard G t Idle so h = h.0
told_heard G t Committed so h = h.0
told_heard G t Released so h = h.0
told_heard G t (Asking asker op answers) so h = absurd so
told_heard G t (Checking asker) so h = absurd so
told_heard G t (Deciding asker) so h = absurd so
told_heard G t (Aborted sent) so h = absurd so

told_parts : (boot : ℕ) (t : Transaction) (p : Phase) → IsTold p → IsOfBoot boot t p
    → t.parts ≡ (0, boot) ∷ []
told_parts boot t Idle so h = h
told_parts boot t Committed so h = h
told_parts boot t Released so h = h
told_parts boot t (Asking asker op answers) so h = absurd so
told_parts boot t (Checking asker) so h = absurd so
told_parts boot t (Deciding asker) so h = absurd so
told_parts boot t (Aborted sent) so h = absurd so

module _ (G : Tag → ℕ → ℕ → Type 0) (t : Transaction) where
  abbrev heard_in : (h : Heard G t.tag t.k t.parts t.wrote)
      → Heard (InBoot t.tag t.k h.boot) t.tag t.k t.parts t.wrote
  heard_in h = record {
    boot = h.boot;
    parts_are = h.parts_are;
    wrote_is = h.wrote_is;
    gave = λ same. (omega arith, refl);
  }

  told_follows : (p : Phase) (so : IsTold p) (h : Follows G t p)
      → Follows (InBoot t.tag t.k (told_heard G t p so h).boot) t p
  unfolding told_heard
  told_follows Idle so h = (heard_in h.0, h.1)
  told_follows Committed so h = (heard_in h.0, h.1)
  told_follows Released so h = (heard_in h.0, h.1)
  told_follows (Asking asker op answers) so h = absurd so
  told_follows (Checking asker) so h = absurd so
  told_follows (Deciding asker) so h = absurd so
  told_follows (Aborted sent) so h = absurd so

placed_tag : (tag other : Tag) (shard one boot named : ℕ)
    → token.Placed tag shard boot ≡ token.Placed other one named → tag ≡ other
placed_tag tag other shard one boot named e = cc

placed_boot : (tag other : Tag) (shard one boot named : ℕ)
    → token.Placed tag shard boot ≡ token.Placed other one named → boot ≡ named
placed_boot tag other shard one boot named e = cc

not_early : (tag other : Tag) (one named : ℕ) → token.Early tag ≡ token.Placed other one named → ⊥
not_early tag other one named e = cc

-- a token that names a boot names the one that the transaction has
pub token_names : (G : Tag → ℕ → ℕ → Type 0) (t : Transaction)
    (h : Heard G t.tag t.k t.parts t.wrote) (tag : Tag) (shard boot : ℕ)
    → token_of t ≡ token.Placed tag shard boot → (t.tag ≡ tag) × (h.boot ≡ boot)
token_names G t h tag shard boot e = by h.wrote_is
  where
    by : OneWrote t.wrote → (t.tag ≡ tag) × (h.boot ≡ boot)
    by (inl none) = absurd (not_early t.tag tag shard boot (sym (ap (token_by t) none) ∙ e))
    by (inr wrote) =
        let placed : token.Placed t.tag 0 (boot_of t.parts 0) ≡ token.Placed tag shard boot =
        sym (ap (token_by t) wrote) ∙ e in
        let here : boot_of t.parts 0 ≡ h.boot = ap (λ (parts : List (ℕ × ℕ)). boot_of parts 0)
        h.parts_are in (
          placed_tag t.tag tag 0 shard (boot_of t.parts 0) boot placed,
          sym here ∙ placed_boot t.tag tag 0 shard (boot_of t.parts 0) boot placed,
        )

module _ (chunks : Map) (nodes : Nodes) (begun us : List Unanswered) (told : List Answered)
    (stand : Stand chunks nodes begun told)
    (books : (n : ℕ) (r : RouterState) → slice_get nodes.routers n ≡ Some r
    → RouterStands n begun us told r)
    (fit : SentFit (IsPart chunks begun) nodes.sent)
    (boots : (n : ℕ) (r : RouterState) → slice_get nodes.routers n ≡ Some r
    → AreOfBoots nodes.sent r)
    (n : ℕ) (r : RouterState) (there : slice_get nodes.routers n ≡ Some r) (lsid : Lsid)
    (s : Session) (t : Transaction) (at : session_of r lsid ≡ Some s) (doing : s.doing ≡ Begun t)
    (so : IsTold t.phase) where
  abbrev Given : Tag → ℕ → ℕ → Type 0
  Given = Gave nodes.sent told

  own_follows : Follows Given t t.phase
  own_follows = subst (DoingFollows Given) doing ((stand.routers n r there).follows lsid s at)

  heard : Heard Given t.tag t.k t.parts t.wrote
  heard = told_heard Given t t.phase so own_follows

  abbrev In : Tag → ℕ → ℕ → Type 0
  In = InBoot t.tag t.k heard.boot

  stands_of : (m : ℕ) (x : RouterState) (l : Lsid) (v : Session) (u : Transaction)
      → slice_get nodes.routers m ≡ Some x → session_of x l ≡ Some v → v.doing ≡ Begun u
      → DoingStands m x begun us told (Begun u)
  stands_of m x l v u here is doing_is = subst (DoingStands m x begun us told) doing_is
      ((books m x here).sessions l v is)

  -- another session's transaction is another, or the same one
  same_txn : (m : ℕ) (x : RouterState) (l : Lsid) (v : Session) (u : Transaction)
      → slice_get nodes.routers m ≡ Some x → session_of x l ≡ Some v → v.doing ≡ Begun u
      → u.tag ≡ t.tag → u ≡ t
  same_txn m x l v u here is doing_is same =
      let own = (stands_of n r lsid s t there at doing).0 in
      let its = (stands_of m x l v u here is doing_is).0 in
      let number : m ≡ n = sym (books m x here).number ∙ sym its.router
      ∙ ap (λ (y : Tag). y.router) same ∙ own.router ∙ (books n r there).number in
      let router : x ≡ r = some_same x r (sym here
      ∙ ap (slice_get nodes.routers) number ∙ there) in
      let is_here : session_of r l ≡ Some v = subst (λ (y : RouterState). session_of y l ≡ Some v)
      router is in
      let key : l ≡ lsid = (books n r there).alone l lsid v s is_here at
      (same_tag_of v.doing s.doing u t doing_is doing same) in
      let session : v ≡ s = some_same v s (sym is_here ∙ ap (session_of r) key ∙ at) in
      let doings : Begun u ≡ Begun t = sym doing_is ∙ ap (λ (y : Session). y.doing) session
      ∙ doing in
      grind (arith, doings)

  other_tag : (u : Transaction) → same_tag u.tag t.tag ≡ false → u.tag ≡ t.tag → ⊥
  other_tag u f same =
      let no : true ≡ false = sym (ap (λ (y : Tag). same_tag y t.tag) same ∙ tag_self t.tag) ∙ f in
      grind (arith, no)

  txn_follows : (m : ℕ) (x : RouterState) (l : Lsid) (v : Session) (u : Transaction) (test : Bool)
      → same_tag u.tag t.tag ≡ test → slice_get nodes.routers m ≡ Some x
      → session_of x l ≡ Some v → v.doing ≡ Begun u → Follows In u u.phase
  unfolding heard told_heard
  txn_follows m x l v u true it here is doing_is =
      subst (λ (y : Transaction). Follows In y y.phase)
      (sym (same_txn m x l v u here is doing_is (tag_is u.tag t.tag it)))
      (told_follows Given t t.phase so own_follows)
  txn_follows m x l v u false other here is doing_is =
      follows_to Given In u (λ j b g same. absurd (other_tag u other same)) u.phase
      (subst (DoingFollows Given) doing_is ((stand.routers m x here).follows l v is))

  all_follow : (m : ℕ) (x : RouterState) → slice_get nodes.routers m ≡ Some x → RouterFollows In x
  all_follow m x here l v is = by v.doing refl
    where
      by : (d : Doing) → v.doing ≡ d → DoingFollows In d
      by (Begun u) doing_is =
          txn_follows m x l v u (same_tag u.tag t.tag) refl here is doing_is
      by (Sought seeking known) doing_is = tt

  -- no statement of it was asked behind its newest
  no_later : (e : Envelope) (m : Statement) → Contains nodes.sent e → e.msg ≡ msg.Statement m
      → m.tag ≡ t.tag → t.k < m.k → ⊥
  no_later e m c is same less =
      let f : MsgFollows Given begun told e.to (msg.Statement m) =
      subst (MsgFollows Given begun told e.to) is
      (All-contains (λ (e : Envelope). MsgFollows Given begun told e.to e.msg) nodes.sent e
      stand.sent c) in
      let fits : SentTo (IsPart chunks begun) e.to e.msg =
      All-contains (λ (e : Envelope). SentTo (IsPart chunks begun) e.to e.msg) nodes.sent e fit c in
      let part : IsPart chunks begun 0 m =
      subst (λ (to : NodeId). SentTo (IsPart chunks begun) to (msg.Statement m)) f.0
      (subst (SentTo (IsPart chunks begun) e.to) is fits) in
      let own = (stands_of n r lsid s t there at doing).1 in
      let below : part.statement.k ≤ t.k = own.below part.statement part.opened
      (sym part.tag ∙ same) in
      let place : m.k ≡ part.statement.k = part.k in
      omega (arith, below, place, less)

  own_known : IsKnown nodes told t.tag heard.boot
  own_known = record {
    place = t.k;
    gave = heard.gave;
    follows = all_follow;
    statements = λ e m c is same less. absurd (no_later e m c is same less);
    commits = λ c was same.
        same_boots t.parts c.boot heard.boot
        (told_parts c.boot t t.phase so (boots n r there lsid s t at doing c was same))
        heard.parts_are;
  }

  pub token_known : (tag : Tag) (shard boot : ℕ) → token_of t ≡ token.Placed tag shard boot
      → IsKnown nodes told tag boot
  token_known tag shard boot e =
      let names = token_names Given t heard tag shard boot e in
      subst (λ (x : Tag). IsKnown nodes told x boot) names.0
      (subst (IsKnown nodes told t.tag) names.1 own_known)
