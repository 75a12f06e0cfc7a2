-- What stands of all tokens, and that each event keeps it: each that was told, each by which a
-- router seeks a decision, and each request to recover that was sent names the boot in which its
-- transaction runs.
use Rattle.std.proofs.Common.{◌≡◌, ◌⊎◌, inl, inr, ◌∙◌, ◌++◌, ◌<◌, ℕ, ℤ, false, All, List}
use Rattle.std.proofs.Common.{[], map, max, Option, Some, None, Ok, refl, sym, ap}
use Rattle.std.proofs.Common.{subst, arith, option_map, find, slice_get, slice_set}
use Rattle.std.specs.Prelude.{Contains}
use Rattle.std.proofs.lemmas.List.Elements.{All-nil, All-append, All-weaker, All-contains, All-map}
use Rattle.std.proofs.lemmas.List.Elements.{Contains-append_left, Contains-append_right}
use Rattle.txn_types.specs.Letters.{given_out}
use Rattle.txn_types.specs.declared.decision.Token.TheVariants as token
use Rattle.txn_types.specs.declared.event.Happening.{Happening}
use Rattle.txn_types.specs.declared.event.Happening.TheVariants as what
use Rattle.txn_types.specs.declared.event.NodeAnswer.{NodeAnswer}
use Rattle.txn_types.specs.declared.event.NodeEvent.{NodeEvent}
use Rattle.txn_types.specs.declared.message.Envelope.{Envelope}
use Rattle.txn_types.specs.declared.message.Msg.{Msg}
use Rattle.txn_types.specs.declared.message.Msg.TheVariants as msg
use Rattle.txn_types.specs.declared.message.Statement.{Statement}
use Rattle.txn_types.specs.declared.names.Tag.{Tag}
use Rattle.txn_types.specs.declared.node.Lsid.{Lsid}
use Rattle.txn_types.specs.declared.node.NodeId.{NodeId}
use Rattle.txn_types.specs.declared.node.NodeId.TheVariants.{Shard, Router}
use Rattle.txn_semantics.specs.declared.commits.Answered.{Answered}
use Rattle.client_cmd.specs.declared.request.Request.{Request}
use Rattle.client_reply.specs.Replies.{token_in}
use Rattle.chunk_map.specs.Map.{Map, IsMap}
use Rattle.router_state.specs.declared.deed.Sent.{Sent}
use Rattle.router_state.specs.declared.state.Doing.{Doing}
use Rattle.router_state.specs.declared.state.Doing.TheVariants.{Begun, Sought}
use Rattle.router_state.specs.declared.state.Seeking.{Seeking}
use Rattle.router_state.specs.declared.state.Session.{Session}
use Rattle.router_state.specs.State.{RouterState, session_of, is_waiting, token_of}
use Rattle.router_rules.specs.Times.{walled}
use Rattle.router_core.specs.Step as sp
use Rattle.cluster_core.specs.Answering.{Unanswered, statement_in, statements_in}
use Rattle.cluster_core.specs.Deciding.{IsGiven, held_at}
use Rattle.cluster_core.specs.Ledger.{Ledger, Entered, entered_at}
use Rattle.cluster_core.specs.Nodes.{Nodes}
use Rattle.cluster_core.specs.Replying.{Hand, Replied, held_in, is_of, replied_in, replied_by}
use Rattle.cluster_core.specs.Trace.{MayCome}
use Rattle.router_plan.specs.Messages.{asked_in}
use Rattle.txn_model.specs.declared.ran.Ran.TheVariants.{Step}
use Rattle.world_laws.specs.Begins.{BegunOnce}
use Rattle.world_laws.specs.Joint.{Stands}
use Rattle.answer_laws.specs.Parts.{SentFit, IsPart}
use Rattle.one_shard_laws.specs.Concluding.{ServedRight}
use Rattle.told_laws.proofs.Lists.{contained, set_cases}
use Rattle.told_laws.proofs.Running.{Booked}
use Rattle.told_laws.proofs.Standing.{RouterStands}
use Rattle.commit_laws.proofs.Follows.{IsNoAsk}
use Rattle.commit_laws.proofs.Once.{stands_here}
use Rattle.commit_laws.proofs.Standing.{Stand}
use Rattle.commit_laws.proofs.Stepping.{move_of, did}
use Rattle.making_laws.proofs.Hearing.{mapped_in, no_some, some_is}
use Rattle.making_laws.proofs.Running.{IsNamed, names_in}
use Rattle.world_laws.proofs.Lists.{set_there}
use Rattle.decision_laws.proofs.Boots.{AreOfBoots}
use Rattle.known_laws.specs.Known.{KnownStands}
use Rattle.commit_laws.proofs.Moves.{RouterFollows}
use Rattle.right_laws.specs.Said.{Heard, Served}
use Rattle.right_laws.proofs.Tokens.Boots.{IsKnown, quiet_known, did_known, token_known}
use Rattle.right_laws.proofs.Tokens.Boots.{none_follow}
use Rattle.right_laws.proofs.Tokens.Named.{Known, Back, known_on, hears_on, hears_move}
use Rattle.right_laws.proofs.Tokens.Named.{token_named, token_back}
use Rattle.right_laws.proofs.Tokens.Replies.{TokenFrom, AreOwn, replied_known}
use Rattle.right_laws.proofs.Tokens.Deeds.{SeekOk, AskOk, PostOk, DoingOk}
use Rattle.right_laws.proofs.Tokens.Given.{was_given}
use Rattle.right_laws.proofs.Tokens.Requests.{EntryOk}
use Rattle.right_laws.proofs.Tokens.Routers.{AskedGiven, EventGiven, Goes, happened_ok, out_ok}

pub record TokensStand (nodes : Nodes) (told : List Answered) (replied : List Replied)
    (begun : List Statement) : Type 0 where
  pub replies : (r : Replied) → Contains replied r → TokenFrom (Known nodes told) r
  pub sessions : (n : ℕ) (r : RouterState) → slice_get nodes.routers n ≡ Some r
      → All (EntryOk (Known nodes told)) r.sessions
  pub sent : All (λ (e : Envelope). AskOk (Known nodes told) e.msg) nodes.sent
  pub named : All (IsNamed nodes.sent) begun
  pub hears : (n : ℕ) (r : RouterState) → slice_get nodes.routers n ≡ Some r
      → RouterFollows (Back nodes.sent) r

-- what an event leaves of it
pub record Steps (x : Entered) (old new : Nodes) (told told' : List Answered) : Type 0 where
  pub known : (lsid : Lsid) (number : ℤ) (tag : Tag) (boot : ℕ)
      → Known old told lsid number tag boot → Known new told' lsid number tag boot
  pub replies : (r : Replied) → Contains x.replied r → TokenFrom (Known new told') r
  pub sessions : (n : ℕ) (r : RouterState) → slice_get new.routers n ≡ Some r
      → All (EntryOk (Known new told')) r.sessions
  pub sent : All (λ (e : Envelope). AskOk (Known new told') e.msg) new.sent
  pub named : All (IsNamed new.sent) x.ledger.begun
  pub hears : (n : ℕ) (r : RouterState) → slice_get new.routers n ≡ Some r
      → RouterFollows (Back new.sent) r

-- Where more is known.

module _ (R S : Lsid → ℤ → Tag → ℕ → Type 0)
    (f : (lsid : Lsid) (number : ℤ) (tag : Tag) (boot : ℕ) → R lsid number tag boot
    → S lsid number tag boot) where
  pub ask_on : (m : Msg) → AskOk R m → AskOk S m
  ask_on (msg.Recover x) h = f x.lsid x.number x.tag x.boot h
  ask_on other h = tt

  pub asks_on : (sent : List Envelope) → All (λ (e : Envelope). AskOk R e.msg) sent
      → All (λ (e : Envelope). AskOk S e.msg) sent
  asks_on sent h = All-weaker (λ (e : Envelope). AskOk R e.msg) (λ (e : Envelope). AskOk S e.msg)
      (λ e k. ask_on e.msg k) sent h

  seek_on : (lsid : Lsid) (number : ℤ) (seeking : Option Seeking)
      → SeekOk (R lsid number) seeking → SeekOk (S lsid number) seeking
  seek_on lsid number None h = tt
  seek_on lsid number (Some k) h = f lsid number k.tag k.boot h

  doing_on : (lsid : Lsid) (number : ℤ) (doing : Doing) → DoingOk R lsid number doing
      → DoingOk S lsid number doing
  doing_on lsid number (Begun t) h = record {
    waiting = All-weaker (PostOk R) (PostOk S) (λ post k. ask_on post.1 k) t.waiting h.waiting;
    kept = h.kept;
  }
  doing_on lsid number (Sought seeking known) h = seek_on lsid number seeking h

  pub entries_on : (r : RouterState) → All (EntryOk R) r.sessions → All (EntryOk S) r.sessions
  entries_on r h = All-weaker (EntryOk R) (EntryOk S)
      (λ entry k. doing_on entry.0 entry.1.number entry.1.doing k) r.sessions h

-- Where no request to recover goes out, and no session changes.

abbrev pub NoRecover : Msg → Type 0
NoRecover (msg.Recover x) = ⊥
NoRecover other = Unit {0}

pub plain_ask : (R : Lsid → ℤ → Tag → ℕ → Type 0) (m : Msg) → NoRecover m → AskOk R m
plain_ask R (msg.Recover x) h = absurd h
plain_ask R other h = tt

named_on : (sent out : List Envelope) (begun : List Statement) → All (IsNamed sent) begun
    → All (IsNamed (sent ++ out)) begun
named_on sent out begun h =
    All-weaker (IsNamed sent) (IsNamed (sent ++ out))
    (λ m x. (x.0, Contains-append_left sent out x.0 x.1, x.2)) begun h

pub quiet_steps : (x : Entered) (old new : Nodes) (out : List Envelope)
    (told now told' : List Answered) (replied : List Replied) (begun : List Statement)
    → x.replied ≡ [] → x.ledger.begun ≡ begun → told' ≡ told ++ now
    → new.sent ≡ old.sent ++ out → ((y : Envelope) → Contains out y → IsNoAsk y.msg)
    → ((y : Envelope) → Contains out y → NoRecover y.msg)
    → ((n : ℕ) (r : RouterState) → slice_get new.routers n ≡ Some r
    → (slice_get old.routers n ≡ Some r) ⊎ (r.sessions ≡ []))
    → TokensStand old told replied begun → Steps x old new told told'
quiet_steps x old new out told now told' replied begun silent same more sent none plain routers k =
    record {
      known = known;
      replies = λ r c. absurd (nothing r (subst (λ (rs : List Replied). Contains rs r) silent c));
      sessions = λ n r at. elim (routers n r at) [
        | inl there ↦ entries_on (Known old told) (Known new told')
            known r (k.sessions n r there)
        | inr fresh ↦ subst (All (EntryOk (Known new told'))) (sym fresh)
            (All-nil (EntryOk (Known new told')))
      ];
      sent = subst (All (λ (e : Envelope). AskOk (Known new told') e.msg)) (sym sent)
          (All-append (λ (e : Envelope). AskOk (Known new told') e.msg) old.sent out
          (asks_on (Known old told) (Known new told') known old.sent k.sent)
          (contained (λ (e : Envelope). AskOk (Known new told') e.msg) out
          (λ e c. plain_ask (Known new told') e.msg (plain e c))));
      named = subst (All (IsNamed new.sent)) (sym same)
          (subst (λ (s : List Envelope). All (IsNamed s) begun) (sym sent)
          (named_on old.sent out begun k.named));
      hears = λ n r at. subst (λ (s : List Envelope). RouterFollows (Back s) r) (sym sent)
          (hears_on old.sent out r (elim (routers n r at) [
            | inl there ↦ k.hears n r there
            | inr fresh ↦ none_follow (Back old.sent) r fresh
          ]));
    }
  where
    nothing : (r : Replied) → Contains [] r → ⊥
    nothing r c = absurd (omega (arith, c.1))

    boots : (tag : Tag) (boot : ℕ) → IsKnown old told tag boot → IsKnown new told' tag boot
    boots tag boot h =
        subst (λ (a : List Answered). IsKnown new a tag boot) (sym more)
        (quiet_known old new out told now sent none routers tag boot h)

    known : (lsid : Lsid) (number : ℤ) (tag : Tag) (boot : ℕ)
        → Known old told lsid number tag boot → Known new told' lsid number tag boot
    known = known_on old new out told told' sent boots

-- A router's step.

statement_is : (e : Envelope) (m : Msg) (to : NodeId) (part : ℕ × Statement) → e.msg ≡ m
    → e.to ≡ to → statement_in e ≡ Some part → e.msg ≡ msg.Statement part.1
statement_is e (msg.Statement m) (Shard n) part is to h =
    let here : statement_in e ≡ Some (n, m) = rw (is, to) refl in
    is ∙ ap (λ (p : ℕ × Statement). msg.Statement p.1) (some_is (n, m) part (sym here ∙ h))
statement_is e (msg.Statement m) (Router n) part is to h =
    let here : statement_in e ≡ None = rw (is, to) refl in no_some part (sym here ∙ h)
statement_is e other to part is at h =
    let here : statement_in e ≡ None = rw is refl in no_some part (sym here ∙ h)

new_named : (sent : List Envelope) (a : NodeAnswer)
    → All (IsNamed (sent ++ given_out a)) (map (λ (part : ℕ × Statement). part.1) (statements_in a))
new_named sent a =
    All-map (IsNamed (sent ++ given_out a)) (λ (part : ℕ × Statement). part.1) (statements_in a)
    (contained (λ (part : ℕ × Statement). IsNamed (sent ++ given_out a) part.1) (statements_in a)
    (λ part c.
    let from = mapped_in statement_in (given_out a) part c in (
      from.x,
      Contains-append_right sent (given_out a) from.x from.among,
      statement_is from.x from.x.msg from.x.to part refl refl from.is,
    )))

module _ (chunks : Map) (is : IsMap chunks) (one : chunks.shards ≡ 1) (old new : Nodes)
    (l : Ledger) (opened opened' us' : List Unanswered) (told now told' : List Answered)
    (booked : Booked l opened told old) (stand : Stand chunks old opened told)
    (world : Stands old) (served : ServedRight old) (after : Stand chunks new opened' told')
    (books : (m : ℕ) (x : RouterState) → slice_get new.routers m ≡ Some x
    → RouterStands m opened' us' told' x) (fit : SentFit (IsPart chunks opened') new.sent)
    (boots : (m : ℕ) (x : RouterState) → slice_get new.routers m ≡ Some x
    → AreOfBoots new.sent x) (more : told' ≡ told ++ now) (all replied : List Replied)
    (place : ℕ) (earlier : (r : Replied) → Contains all r → r.place < place → Contains replied r)
    (k : TokensStand old told replied l.begun) (n : ℕ) (r : RouterState) (e : NodeEvent)
    (faults : ℕ) (there : slice_get old.routers n ≡ Some r)
    (comes : MayCome old.sent (Router n) e.what)
    (routers : new.routers ≡ slice_set old.routers n (move_of r e).state)
    (sent : new.sent ≡ old.sent ++ given_out (did r e))
    (given : All (IsGiven all place) (held_at l (Step (Router n) e (did r e) faults)))
    (ways : (x : Replied) → Contains (entered_at l n r e (did r e)).replied x
    → Heard r e x ⊎ Served r e x) (knows : KnownStands new) (serves : ServedRight new) where
  abbrev R : Lsid → ℤ → Tag → ℕ → Type 0
  R = Known new told'

  abbrev behind : RouterState
  behind = (move_of r e).state

  ledger_there : slice_get l.routers n ≡ Some r
  ledger_there = ap (λ (rs : List RouterState). slice_get rs n) booked.same ∙ there

  stands : RouterStands n opened l.unanswered told r
  stands = booked.book.routers_stand n r ledger_there

  boot_known : (tag : Tag) (boot : ℕ) → IsKnown old told tag boot → IsKnown new told' tag boot
  boot_known tag boot h =
      subst (λ (a : List Answered). IsKnown new a tag boot) (sym more)
      (did_known chunks is one old new n r e opened l.unanswered told now there comes routers sent
      (stand.routers n r there) stands booked.book.lists stand.places served tag boot h)

  known : (lsid : Lsid) (number : ℤ) (tag : Tag) (boot : ℕ)
      → Known old told lsid number tag boot → R lsid number tag boot
  known = known_on old new (given_out (did r e)) told told' sent boot_known

  begun_once : BegunOnce (names_in old.sent) n r
  begun_once = world.begun n r there

  -- a token by which it seeks was told
  seeks_given : (conn : ℕ) (bytes : List ℕ) → e.what ≡ what.Client conn bytes
      → is_waiting r conn ≡ false
      → AskedGiven R (walled r e.wall) (asked_in (max r.wall e.wall) bytes)
  seeks_given conn bytes is_client free q asks tag boot h =
      let w = was_given l old.sent n r e ledger_there begun_once k.named conn bytes is_client free
      h.txn (Some (token.Placed tag h.shard boot)) h.more h.time
      (asks ∙ ap (λ (y : Request). Ok y) h.is) h.none h.older faults place all
      (token.Placed tag h.shard boot) given refl in
      subst (λ (lsid : Lsid). R lsid h.txn.number tag boot) w.lsid
      (subst (λ (number : ℤ). R w.other.lsid number tag boot) w.number
      (known w.other.lsid w.other.number tag boot
      (k.replies w.earlier (earlier w.earlier w.stood w.before) w.other w.names tag h.shard boot
      w.token)))

  event_given : (w : Happening) → e.what ≡ w → EventGiven R (walled r e.wall) w
  event_given (what.Client conn bytes) is_w = λ free. seeks_given conn bytes is_w free
  event_given other is_w = tt

  before_ok : All (EntryOk R) r.sessions
  before_ok = entries_on (Known old told) R known r (k.sessions n r there)

  move_ok : Goes R (move_of r e)
  move_ok = happened_ok R (walled r e.wall) e.what (event_given e.what refl) before_ok

  new_there : slice_get new.routers n ≡ Some behind
  new_there = ap (λ (rs : List RouterState). slice_get rs n) routers
      ∙ set_there old.routers n behind r there

  hears_behind : RouterFollows (Back new.sent) behind
  hears_behind =
      let s = stand.routers n r there in
      subst (λ (xs : List Envelope). RouterFollows (Back xs) behind) (sym sent)
      (hears_on old.sent (given_out (did r e)) behind
      (hears_move old.sent n r e comes (k.hears n r there) s.once
      (subst IsMap (sym s.chunks_are) is, ap (λ (m : Map). m.shards) s.chunks_are ∙ one)))

  -- the token of a session's transaction
  own_known : AreOwn R behind
  own_known entry c t doing so tag shard boot token_is =
      let at : session_of behind entry.0 ≡ Some entry.1 =
      stands_here behind.sessions entry (after.routers n behind new_there).once c in
      record {
        boots = token_known chunks new opened' us' told' after books fit boots n behind new_there
            entry.0 entry.1 t at doing so tag shard boot token_is;
        named = token_named new knows serves n behind new_there hears_behind entry c at t doing so
            tag shard boot token_is;
        back = token_back new knows serves n behind new_there hears_behind entry c at t doing so
            tag shard boot token_is;
      }

  pub did_steps : Steps (entered_at l n r e (did r e)) old new told told'
  did_steps = record {
    known = known;
    replies = λ x c. replied_known R r e x (ways x c) (event_given e.what refl) before_ok own_known;
    sessions = λ m x at. elim (set_cases old.routers n m behind x
        (ap (λ (rs : List RouterState). slice_get rs m) (sym routers) ∙ at)) [
          | inl w ↦
              subst (λ (y : RouterState). All (EntryOk R) y.sessions) (sym w.1) move_ok.sessions
          | inr w ↦ entries_on (Known old told) R known x (k.sessions m x w.1)
        ];
    sent = subst (All (λ (y : Envelope). AskOk R y.msg)) (sym sent)
        (All-append (λ (y : Envelope). AskOk R y.msg) old.sent (given_out (did r e))
        (asks_on (Known old told) R known old.sent k.sent) (out_ok R r e move_ok));
    named = subst (λ (s : List Envelope). All (IsNamed s)
        (l.begun ++ map (λ (part : ℕ × Statement). part.1) (statements_in (did r e)))) (sym sent)
        (All-append (IsNamed (old.sent ++ given_out (did r e))) l.begun
        (map (λ (part : ℕ × Statement). part.1) (statements_in (did r e)))
        (named_on old.sent (given_out (did r e)) l.begun k.named)
        (new_named old.sent (did r e)));
    hears = λ m x at. elim (set_cases old.routers n m behind x
        (ap (λ (rs : List RouterState). slice_get rs m) (sym routers) ∙ at)) [
          | inl w ↦ subst (RouterFollows (Back new.sent)) (sym w.1) hears_behind
          | inr w ↦ subst (λ (s : List Envelope). RouterFollows (Back s) x) (sym sent)
              (hears_on old.sent (given_out (did r e)) x (k.hears m x w.1))
        ];
  }
