-- What a router's step leaves of the requests that connections have in hand, and how each of its
-- replies came to be given.
use Rattle.std.proofs.Common.{◌≡◌, ◌⊎◌, inl, inr, ◌∙◌, ◌++◌, ℕ, Bool, true, false, not}
use Rattle.std.proofs.Common.{All, Contains, List, [], ◌∷◌, find, nat_eq, Option, Some, None}
use Rattle.std.proofs.Common.{option_map, Result, Ok, Err, refl, sym, ap, subst}
use Rattle.std.proofs.Common.{if◌then◌else◌}
use Rattle.std.proofs.lemmas.List.Elements.{All-nil, All-cons, All-head, All-tail, All-append}
use Rattle.std.proofs.lemmas.List.Elements.{All-weaker, All-contains, All-filter}
use Rattle.std.proofs.lemmas.List.Elements.{Contains-append_cases}
use Rattle.std.specs.List.{list_any}
use Rattle.txn_types.specs.BySession.{BySession}
use Rattle.txn_types.specs.declared.event.Happening.{Happening}
use Rattle.txn_types.specs.declared.event.Happening.TheVariants as what
use Rattle.txn_types.specs.declared.event.NodeAnswer.{NodeAnswer}
use Rattle.txn_types.specs.declared.event.NodeEvent.{NodeEvent}
use Rattle.txn_types.specs.declared.message.Envelope.{Envelope}
use Rattle.txn_types.specs.declared.message.Msg.{Msg}
use Rattle.txn_types.specs.declared.message.Msg.TheVariants as msg
use Rattle.txn_types.specs.declared.message.Statement.{Statement}
use Rattle.txn_types.specs.declared.node.Lsid.{Lsid}
use Rattle.op_msg.specs.Asking.{is_legacy, wants_reply}
use Rattle.client_cmd.specs.declared.request.Request.{Request}
use Rattle.client_cmd.specs.declared.request.Request.TheVariants as request
use Rattle.client_cmd.specs.declared.request.Txn.{Txn}
use Rattle.client_reply.specs.declared.reply.Reply.{Reply}
use Rattle.router_state.specs.Deeds.{Move, still, told, told_if, each_session, in_each_session}
use Rattle.router_state.specs.State.{RouterState, session_of, asker_of, is_from, is_waiting}
use Rattle.router_state.specs.declared.deed.Deed.{Deed}
use Rattle.router_state.specs.declared.deed.Sent.{Sent}
use Rattle.router_state.specs.declared.state.Asker.{Asker}
use Rattle.router_state.specs.declared.state.Doing.{Doing}
use Rattle.router_state.specs.declared.state.Doing.TheVariants.{Begun, Sought}
use Rattle.router_state.specs.declared.state.Phase.{Phase}
use Rattle.router_state.specs.declared.state.Phase.TheVariants.{Idle, Asking, Checking, Deciding}
use Rattle.router_state.specs.declared.state.Phase.TheVariants.{Committed, Released, Aborted}
use Rattle.router_state.specs.declared.state.Session.{Session}
use Rattle.router_state.specs.declared.state.Transaction.{Transaction}
use Rattle.router_rules.specs.Ends.{gone_from}
use Rattle.router_rules.specs.Serving.{answered_in, ended_in}
use Rattle.router_rules.specs.Times.{walled, timed, met}
use Rattle.router_plan.specs.Messages.{asked_in}
use Rattle.router_plan.specs.Refusals as rf
use Rattle.router_plan.specs.declared.message.Unserved.{Unserved}
use Rattle.router_plan.specs.declared.message.Unserved.TheVariants as un
use Rattle.router_core.specs.News.{acts, tells}
use Rattle.router_core.specs.Requests as rq
use Rattle.router_core.specs.Step as sp
use Rattle.cluster_core.specs.Replying.{Hand, Replied, hand_by, hands_of, held_in, is_of}
use Rattle.cluster_core.specs.Replying.{replied_in, replied_by, without_conn}
use Rattle.cluster_core.specs.Routers.{asked_by}
use Rattle.world_laws.proofs.Naming.{one}
use Rattle.answer_laws.proofs.Lists.{has_first, has_more, both_true, nat_is}
use Rattle.answer_laws.proofs.Sending.{told_by}
use Rattle.told_laws.proofs.Lists.{contained, none_there, only_one, same_nat}
use Rattle.reply_laws.proofs.Asking.{EntryOf, ToIt, Spares, not_others, others_spare, spares_told}
use Rattle.reply_laws.proofs.Asking.{spares_now, statement_now}
use Rattle.reply_laws.proofs.Lists.{Once, visible, once_each, waits_in, none_waits, not_both}
use Rattle.reply_laws.proofs.Lists.{found_passes, or_only}
use Rattle.reply_laws.proofs.Reading.{NamesIn, asked_wants, asked_names}
use Rattle.making_laws.proofs.Hearing.{EntryHas, DoingHas, TxnHas, IsBare, Stated, TagFits}
use Rattle.making_laws.proofs.Hearing.{AsksNone, IsAsking, Hears, Ends, answer_heard}
use Rattle.making_laws.proofs.Hearing.{outcome_heard, gone_heard, mapped_in, some_is, no_some}
use Rattle.making_laws.proofs.Hearing as hearing
use Rattle.making_laws.proofs.Holding.{IsHeld, Holds, IfHere, Fits, Known, parts_of}
use Rattle.making_laws.proofs.Parsing.{NamesTxn, asked_txn}
use Rattle.world_laws.proofs.Beginning.{is_begun}
use Rattle.known_laws.proofs.Sessions.{entry_named}
use Rattle.abort_laws.proofs.Stated.{parts_asked}
use Rattle.right_laws.specs.Said.{Suits, NamesIt, Heard, Served, Waits, tag_of}
use Rattle.right_laws.proofs.Hands.Asking.{OldOrNew, Leaves, LivesIn, new_lives, serves_leave}
use Rattle.right_laws.proofs.Hands.Asking.{session_lives}
use Rattle.right_laws.proofs.Hands.Living.{Lives, TxnLives, WaitsIn, Follows, answer_follows}
use Rattle.right_laws.proofs.Hands.Living.{outcome_follows, gone_follows}
use Rattle.right_laws.proofs.Hands.Tags.{own_is, other_is, none_is, answered_quiet}

-- Where a request in hand waits, it suits the session.

pub record SuitsIt (q : Request) (entry : Lsid × Session) : Type 0 where
  pub suits : Suits q entry.0 entry.1.doing
  pub names : NamesIt q entry.0 entry.1.number

abbrev pub SuitsIn : Hand → Lsid × Session → Type 0
SuitsIn h entry = is_from h.conn (asker_of entry.1.doing) ≡ true → SuitsIt h.request entry

abbrev pub SuitsHere : ℕ → BySession Session → Hand → Type 0
SuitsHere n sessions h = h.router ≡ n → All (SuitsIn h) sessions

pub record Lively (n : ℕ) (hands : List Hand) (sessions : BySession Session) : Type 0 where
  pub once : Once sessions
  pub lives : All LivesIn sessions
  pub suits : All (SuitsHere n sessions) hands

same_lively : (n : ℕ) (hands : List Hand) (old new : BySession Session) → new ≡ old
    → Lively n hands old → Lively n (hands ++ []) new
same_lively n hands old new e l = record {
  once = subst Once (sym e) l.once;
  lives = subst (All LivesIn) (sym e) l.lives;
  suits = subst (λ (xs : BySession Session). All (SuitsHere n xs) (hands ++ [])) (sym e)
      (All-append (SuitsHere n old) hands [] l.suits (All-nil (SuitsHere n old)));
}

-- In each session.

-- whoever waits there waited there
abbrev StaysFrom : Doing → Doing → Type 0
StaysFrom old new = (asker_of new ≡ asker_of old) ⊎ (asker_of new ≡ None)

record ActsOn (lsid : Lsid) (old : Session) (d : Deed) : Type 0 where
  follows : Follows lsid old.number old.doing d.session
  asker : StaysFrom old.doing d.session.doing

acts_suits : (h : Hand) (lsid : Lsid) (old : Session) (d : Deed) → ActsOn lsid old d
    → SuitsIn h (lsid, old) → SuitsIn h (lsid, d.session)
acts_suits h lsid old d a suits from =
    elim a.asker [
      | inl same ↦ (let was = suits (ap (is_from h.conn) (sym same) ∙ from) in
          elim (a.follows.suits h.request was.suits) [
            | inl none ↦ not_both (is_from h.conn (asker_of d.session.doing)) from
                (ap (is_from h.conn) none)
            | inr k ↦ record {
              suits = k;
              names = subst (NamesIt h.request lsid) (sym a.follows.number_is) was.names;
            }
          ])
      | inr none ↦ not_both (is_from h.conn (asker_of d.session.doing)) from
          (ap (is_from h.conn) none)
    ]

module _ (act : Lsid → Session → Deed) where
  abbrev ActsIn : Lsid × Session → Type 0
  ActsIn entry = ActsOn entry.0 entry.1 (act entry.0 entry.1)

  each_lives : (xs : BySession Session) → All ActsIn xs → All LivesIn (each_session act xs).0
  each_lives [] f = All-nil LivesIn
  each_lives (entry ∷ xs) f =
      All-cons LivesIn (entry.0, (act entry.0 entry.1).session) (each_session act xs).0
      (All-head ActsIn entry xs f).follows.lives
      (each_lives xs (All-tail ActsIn entry xs f))

  each_suits : (h : Hand) (xs : BySession Session) → All ActsIn xs → All (SuitsIn h) xs
      → All (SuitsIn h) (each_session act xs).0
  each_suits h [] f k = All-nil (SuitsIn h)
  each_suits h (entry ∷ xs) f k =
      All-cons (SuitsIn h) (entry.0, (act entry.0 entry.1).session) (each_session act xs).0
      (acts_suits h entry.0 entry.1 (act entry.0 entry.1) (All-head ActsIn entry xs f)
      (All-head (SuitsIn h) entry xs k))
      (each_suits h xs (All-tail ActsIn entry xs f) (All-tail (SuitsIn h) entry xs k))

  each_lively : (n : ℕ) (hands : List Hand) (xs : BySession Session) → All ActsIn xs
      → Lively n hands xs → Lively n (hands ++ []) (each_session act xs).0
  each_lively n hands xs f l =
      let ys = (each_session act xs).0 in
      record {
        once = once_each act xs l.once;
        lives = each_lives xs f;
        suits = All-append (SuitsHere n ys) hands []
            (All-weaker (SuitsHere n xs) (SuitsHere n ys)
            (λ h k router. each_suits h xs f (k router)) hands l.suits)
            (All-nil (SuitsHere n ys));
      }

  -- a reply came of one of them
  record FromEntry (xs : BySession Session) (s : Sent) : Type 0 where
    entry : Lsid × Session
    among : Contains xs entry
    gives : Contains (act entry.0 entry.1).given.replies s

  from_entry : (xs : BySession Session) (s : Sent)
      → Contains (each_session act xs).1.replies s → FromEntry xs s
  from_entry [] s c = none_there s c
  from_entry (entry ∷ xs) s c =
      elim (Contains-append_cases (act entry.0 entry.1).given.replies
      (each_session act xs).1.replies s c) [
        | inl here ↦ record { entry = entry; among = has_first entry xs; gives = here }
        | inr there ↦ (let more = from_entry xs s there in
            record {
              entry = more.entry;
              among = has_more entry xs more.entry more.among;
              gives = more.gives;
            })
      ]

-- A reply, and the request in hand that it answers.

option_is : {A B : Type 0} (f : A → B) (o : Option A) (y : B) → option_map f o ≡ Some y
    → (x : A) × (o ≡ Some x) × (y ≡ f x)
option_is f None y e = no_some y e
option_is f (Some x) y e = (x, refl, sym (some_is (f x) y e))

abbrev replied_as : ℕ → Hand → Sent → Replied
replied_as place h s = record { place = place; hand = h; reply = s.reply }

record Picked (n place : ℕ) (held : List Hand) (replies : List Sent) (y : Replied) : Type 0 where
  sent : Sent
  among : Contains replies sent
  hand : Hand
  held_there : Contains held hand
  of : is_of n sent.conn hand ≡ true
  is : y ≡ replied_as place hand sent

picked : (n place : ℕ) (held : List Hand) (replies : List Sent) (y : Replied)
    → Contains (replied_in place n held replies) y → Picked n place held replies y
picked n place held replies y c =
    let from = mapped_in (replied_by place n held) replies y c in
    let s = from.x in
    let x = option_is (λ (h : Hand). replied_as place h s) (find (is_of n s.conn) held) y from.is in
    let found = found_passes (is_of n s.conn) held x.0 x.1 in
    record {
      sent = s;
      among = from.among;
      hand = x.0;
      held_there = found.0;
      of = found.1;
      is = x.2;
    }

-- how a reply of a router's step came to be given
pub record IsWay (n place : ℕ) (r : RouterState) (e : NodeEvent) (y : Replied) : Type 0 where
  pub place_is : y.place ≡ place
  pub router : y.hand.router ≡ n
  pub way : Heard r e y ⊎ Served r e y

same_tags : (doing : Doing) → hearing.tag_of doing ≡ tag_of doing
same_tags (Begun t) = refl
same_tags (Sought seeking known) = refl

-- a session that lives asks some shard
asks_some : {X : Type 0} (doing : Doing) → Lives doing → AsksNone doing → X
asks_some (Sought seeking known) h none = absurd none
asks_some (Begun t) h none = absurd (by t.phase h.waits none.1)
  where
    by : (p : Phase) → WaitsIn t.waiting p → IsAsking p → ⊥
    by (Asking asker op answers) waits asking = waits none.0
    by Idle waits asking = asking
    by (Checking asker) waits asking = asking
    by (Deciding asker) waits asking = asking
    by Committed waits asking = asking
    by Released waits asking = asking
    by (Aborted so) waits asking = asking

told_conn : (o : Option Asker) (why : Reply) (s : Sent) → Contains (told_if o why) s
    → is_from s.conn o ≡ true
told_conn None why s c = none_there s c
told_conn (Some asker) why s c =
    let is = only_one (told asker why) s c in
    ap (λ (x : Sent). nat_eq asker.conn x.conn) is ∙ same_nat asker.conn

-- A request leaves the sessions of other connections.

request_spares : (r : RouterState) (asker : Asker) (legacy : Bool) (q : Request) → NamesIn q
    → Spares asker.conn r.sessions (rq.serves r asker legacy q)
unfolding rq.serves
request_spares r asker legacy (request.Statement op txn at later more time) names =
    spares_now asker r.sessions r.chunks op txn
    (rq.statement (met r time later) asker txn op at)
    (statement_now (met r time later) asker txn op at names)
request_spares r asker legacy (request.Ping more time) names =
    others_spare r asker legacy (request.Ping more time) tt
request_spares r asker legacy (request.Hello old_name more time) names =
    others_spare r asker legacy (request.Hello old_name more time) tt
request_spares r asker legacy (request.Commit txn t more time) names =
    others_spare r asker legacy (request.Commit txn t more time) tt
request_spares r asker legacy (request.Abort txn more time) names =
    others_spare r asker legacy (request.Abort txn more time) tt
request_spares r asker legacy (request.EndSessions ids more time) names =
    others_spare r asker legacy (request.EndSessions ids more time) tt

-- The session in which a request in hand waits.

record HasPassed {A : Type 0} (p : A → Bool) (xs : List A) : Type 0 where
  x : A
  among : Contains xs x
  passes : p x ≡ true

one_passes : {A : Type 0} (p : A → Bool) (xs : List A) → list_any p xs ≡ true → HasPassed p xs
one_passes p [] e = absurd cc
one_passes p (x ∷ xs) e = by (p x) refl (λ later. one_passes p xs later)
  where
    by : (test : Bool) → p x ≡ test → (list_any p xs ≡ true → HasPassed p xs)
        → HasPassed p (x ∷ xs)
    by true is more = record { x = x; among = has_first x xs; passes = is }
    by false is more =
        let k = more (or_only (p x) (list_any p xs) is e) in
        record { x = k.x; among = has_more x xs k.x k.among; passes = k.passes }

pub hand_waits : (r : RouterState) (h : Hand) → Once r.sessions → All LivesIn r.sessions
    → IsHeld h r.sessions → All (SuitsIn h) r.sessions → Waits r h
hand_waits r h once lives held suits =
    let k = one_passes (λ (entry : Lsid × Session). is_from h.conn (asker_of entry.1.doing))
    r.sessions held.waits in
    let entry = k.x in
    let it = All-contains (SuitsIn h) r.sessions entry suits k.among k.passes in
    record {
      lsid = entry.0;
      session = entry.1;
      in_it = visible r.sessions entry once k.among;
      waits = k.passes;
      tag = elim (All-contains (Fits h) r.sessions entry held.fits k.among k.passes) [
        | inl same ↦ same ∙ same_tags entry.1.doing
        | inr none ↦ asks_some entry.1.doing
            (All-contains LivesIn r.sessions entry lives k.among) none
      ];
      suits = it.suits;
      names = it.names;
    }

module _ (n : ℕ) (begun : List Statement) (sent : List Envelope) (r : RouterState) (place : ℕ)
    (hands : List Hand) (k : Holds n begun sent hands r.sessions)
    (l : Lively n hands r.sessions) where
  -- it came of what a session heard
  heard_way : (e : NodeEvent) (h : Hand) (s : Sent) (lsid : Lsid) (v : Session) (d : Deed)
      → acts e.what lsid v ≡ d → Contains r.sessions (lsid, v) → Contains d.given.replies s
      → Hears begun sent lsid v.doing d → Contains hands h → is_of n s.conn h ≡ true
      → IsWay n place r e (replied_as place h s)
  heard_way e h s lsid v d is there c goes held of =
      let both = both_true (nat_eq h.router n) (nat_eq h.conn s.conn) of in
      let router = nat_is h.router n both.0 in
      let conn = nat_is h.conn s.conn both.1 in
      let mine = All-contains (IfHere n r.sessions) hands h k.hold held router in
      let suits = All-contains (SuitsIn h) r.sessions (lsid, v)
      (All-contains (SuitsHere n r.sessions) hands h l.suits held router) there in
      let from : is_from h.conn (asker_of v.doing) ≡ true =
      ap (λ (c : ℕ). is_from c (asker_of v.doing)) conn
      ∙ elim goes.goes [
        | inl w ↦ none_there s (subst (λ (xs : List Sent). Contains xs s) w.replies c)
        | inr t ↦ told_conn (asker_of v.doing) t.reply s
            (subst (λ (xs : List Sent). Contains xs s) t.replies c)
      ] in
      let fits = All-contains (Fits h) r.sessions (lsid, v) mine.fits there from in
      let lives = All-contains LivesIn r.sessions (lsid, v) l.lives there in
      record {
        place_is = refl;
        router = router;
        way = inl (record {
          lsid = lsid;
          session = v;
          in_it = visible r.sessions (lsid, v) l.once there;
          waits = from;
          sent = s;
          among = subst (λ (x : Deed). Contains x.given.replies s) (sym is) c;
          reply = refl;
          tag = elim fits [
            | inl same ↦ same ∙ same_tags v.doing
            | inr none ↦ asks_some v.doing lives none
          ];
          suits = (suits from).suits;
          names = (suits from).names;
        });
      }

  each_way : (e : NodeEvent) (act : Lsid → Session → Deed)
      → ((lsid : Lsid) (v : Session) → acts e.what lsid v ≡ act lsid v)
      → ((lsid : Lsid) (v : Session) → EntryHas begun sent (lsid, v)
      → Hears begun sent lsid v.doing (act lsid v))
      → (y : Replied)
      → Contains (replied_in place n (hands ++ []) (each_session act r.sessions).1.replies) y
      → IsWay n place r e y
  each_way e act is f y c =
      let p = picked n place (hands ++ []) (each_session act r.sessions).1.replies y c in
      let from = from_entry act r.sessions p.sent p.among in
      let entry = from.entry in
      let held : Contains hands p.hand =
      elim (Contains-append_cases hands [] p.hand p.held_there) [
        | inl here ↦ here
        | inr there ↦ none_there p.hand there
      ] in
      subst (IsWay n place r e) (sym p.is)
      (heard_way e p.hand p.sent entry.0 entry.1 (act entry.0 entry.1) (is entry.0 entry.1)
      from.among from.gives
      (f entry.0 entry.1 (All-contains (EntryHas begun sent) r.sessions entry k.has from.among))
      held p.of)

  hears_stays : (lsid : Lsid) (old : Doing) (d : Deed) → Hears begun sent lsid old d
      → StaysFrom old d.session.doing
  hears_stays lsid old d h = elim h.goes [ inl w ↦ inl w.asker | inr t ↦ inr t.nobody ]

  ends_stays : (conn : ℕ) (lsid : Lsid) (old : Doing) (d : Deed) → Ends begun sent lsid conn old d
      → StaysFrom old d.session.doing
  ends_stays conn lsid old d h = elim h.goes [ inl w ↦ inl w.asker | inr t ↦ inr t.nobody ]

  -- what a step leaves, and its replies
  pub record Does (e : NodeEvent) (held : List Hand) (m : Move) : Type 0 where
    pub lively : Lively n held m.state.sessions
    pub ways : (y : Replied) → Contains (replied_in place n held m.given.replies) y
        → IsWay n place r e y

  still_does : (e : NodeEvent) (m : Move) → m.state.sessions ≡ r.sessions → m.given.replies ≡ []
      → Does e (hands ++ []) m
  still_does e m same none = record {
    lively = same_lively n hands r.sessions m.state.sessions same l;
    ways = λ y c. none_there y (subst (λ (xs : List Sent).
        Contains (replied_in place n (hands ++ []) xs) y) none c);
  }

  -- A message of a shard.

  delivered_does : (wall : ℕ) (env : Envelope) → Contains sent env → (q : RouterState)
      → q.sessions ≡ r.sessions → (x : Msg) → env.msg ≡ x
      → Does (record { wall = wall; what = what.Deliver env }) (hands ++ []) (sp.delivered q x)
  delivered_does wall env among q same (msg.Answer a) is =
      subst (λ (xs : BySession Session). Does (record { wall = wall; what = what.Deliver env })
      (hands ++ []) (in_each_session (answered_in a) (record q { sessions = xs }))) (sym same)
      (record {
        lively = each_lively (answered_in a) n hands r.sessions
            (contained (ActsIn (answered_in a)) r.sessions (λ entry c. record {
              follows = answer_follows entry.0 entry.1.number a entry.1.doing
                  (All-contains LivesIn r.sessions entry l.lives c);
              asker = hears_stays entry.0 entry.1.doing (answered_in a entry.0 entry.1)
                  (answer_heard begun sent entry.0 entry.1.number a env among is entry.1.doing
                  (All-contains (EntryHas begun sent) r.sessions entry k.has c));
            })) l;
        ways = each_way (record { wall = wall; what = what.Deliver env }) (answered_in a)
            (λ lsid v. ap (λ (m : Msg). tells m lsid v) is)
            (λ lsid v has. answer_heard begun sent lsid v.number a env among is v.doing has);
      })
  delivered_does wall env among q same (msg.Outcome o) is =
      subst (λ (xs : BySession Session). Does (record { wall = wall; what = what.Deliver env })
      (hands ++ []) (in_each_session (ended_in o) (record q { sessions = xs }))) (sym same)
      (record {
        lively = each_lively (ended_in o) n hands r.sessions
            (contained (ActsIn (ended_in o)) r.sessions (λ entry c. record {
              follows = outcome_follows entry.0 entry.1.number o entry.1.doing
                  (All-contains LivesIn r.sessions entry l.lives c);
              asker = hears_stays entry.0 entry.1.doing (ended_in o entry.0 entry.1)
                  (outcome_heard begun sent entry.0 entry.1.number o env among is entry.1.doing
                  (All-contains (EntryHas begun sent) r.sessions entry k.has c));
            })) l;
        ways = each_way (record { wall = wall; what = what.Deliver env }) (ended_in o)
            (λ lsid v. ap (λ (m : Msg). tells m lsid v) is)
            (λ lsid v has. outcome_heard begun sent lsid v.number o env among is v.doing has);
      })
  delivered_does wall env among q same other is =
      still_does (record { wall = wall; what = what.Deliver env }) (still q) same refl

  -- The end of a connection.

  gone_replies : (conn : ℕ) (s : Sent)
      → Contains (each_session (gone_from conn) r.sessions).1.replies s → ⊥
  gone_replies conn s c =
      let from = from_entry (gone_from conn) r.sessions s c in
      let entry = from.entry in
      let ends = gone_heard begun sent entry.0 entry.1.number conn entry.1.doing
      (All-contains (EntryHas begun sent) r.sessions entry k.has from.among) in
      elim ends.goes [
        | inl w ↦ none_there s (subst (λ (xs : List Sent). Contains xs s) w.replies from.gives)
        | inr w ↦ none_there s (subst (λ (xs : List Sent). Contains xs s) w.replies from.gives)
      ]

  gone_does : (wall conn : ℕ) → Does (record { wall = wall; what = what.Gone conn })
      (without_conn n conn hands ++ []) (in_each_session (gone_from conn) (walled r wall))
  gone_does wall conn =
      let act = gone_from conn in
      let few = without_conn n conn hands in
      let e : NodeEvent = record { wall = wall; what = what.Gone conn } in
      let replies = (each_session act r.sessions).1.replies in
      record {
        lively = each_lively act n few r.sessions
            (contained (ActsIn act) r.sessions (λ entry c. record {
              follows = gone_follows entry.0 entry.1.number conn entry.1.doing
                  (All-contains LivesIn r.sessions entry l.lives c);
              asker = ends_stays conn entry.0 entry.1.doing (act entry.0 entry.1)
                  (gone_heard begun sent entry.0 entry.1.number conn entry.1.doing
                  (All-contains (EntryHas begun sent) r.sessions entry k.has c));
            })) (record {
              once = l.once;
              lives = l.lives;
              suits = All-filter (λ (h : Hand). not (is_of n conn h)) (SuitsHere n r.sessions) hands
                  l.suits;
            });
        ways = λ y c.
            let p = picked n place (few ++ []) replies y c in
            absurd (gone_replies conn p.sent p.among);
      }

  -- A message of a client.

  apart_here : (conn : ℕ) → waits_in conn r.sessions ≡ false → (h : Hand) → Contains hands h
      → h.router ≡ n → h.conn ≡ conn → ⊥
  apart_here conn free h held router same =
      not_both (waits_in conn r.sessions)
      (ap (λ (c : ℕ). waits_in c r.sessions) (sym same)
      ∙ (All-contains (IfHere n r.sessions) hands h k.hold held router).waits) free

  spared_suits : (conn : ℕ) (m : Move) → waits_in conn r.sessions ≡ false
      → Spares conn r.sessions m → All (SuitsHere n m.state.sessions) hands
  spared_suits conn m free s =
      contained (SuitsHere n m.state.sessions) hands (λ h held router.
      let old = All-contains (SuitsHere n r.sessions) hands h l.suits held router in
      All-weaker (EntryOf conn r.sessions) (SuitsIn h) (λ entry x. elim x [
        | inl there ↦ All-contains (SuitsIn h) r.sessions entry old there
        | inr fits ↦ λ from. not_both (is_from h.conn (asker_of entry.1.doing)) from
            (not_others h.conn conn (asker_of entry.1.doing)
            (apart_here conn free h held router) fits)
      ]) m.state.sessions s.entries)

  -- nobody on its connection has a request in hand
  none_answered : (conn : ℕ) → waits_in conn r.sessions ≡ false → (h : Hand) → Contains hands h
      → (s : Sent) → s.conn ≡ conn → is_of n s.conn h ≡ true → ⊥
  none_answered conn free h held s same of =
      let both = both_true (nat_eq h.router n) (nat_eq h.conn s.conn) of in
      apart_here conn free h held (nat_is h.router n both.0) (nat_is h.conn s.conn both.1 ∙ same)

  -- what isn't read as a request
  unread_does : (e : NodeEvent) (conn : ℕ) (m : Move) → waits_in conn r.sessions ≡ false
      → m.state.sessions ≡ r.sessions → All (ToIt conn) m.given.replies
      → Does e (hands ++ []) m
  unread_does e conn m free same to = record {
    lively = same_lively n hands r.sessions m.state.sessions same l;
    ways = λ y c.
        let p = picked n place (hands ++ []) m.given.replies y c in
        elim (Contains-append_cases hands [] p.hand p.held_there) [
          | inl held ↦ absurd (none_answered conn free p.hand held p.sent
              (All-contains (ToIt conn) m.given.replies p.sent to p.among) p.of)
          | inr there ↦ none_there p.hand there
        ];
  }

  module _ (known : Known begun r) (wall conn : ℕ) (bytes : List ℕ) (q : Request)
      (free : waits_in conn r.sessions ≡ false)
      (asked : asked_in (walled r wall).wall bytes ≡ Ok q) where
    abbrev event : NodeEvent
    event = record { wall = wall; what = what.Client conn bytes }

    abbrev move : Move
    move = rq.serves (walled r wall) (sp.asker_by conn bytes) (is_legacy bytes) q

    names : NamesIn q
    names = asked_names (walled r wall).wall bytes q asked

    txns : NamesTxn q
    txns = asked_txn (walled r wall).wall bytes q asked

    spares : Spares conn r.sessions move
    spares = request_spares (walled r wall) (sp.asker_by conn bytes) (is_legacy bytes) q names

    leaves : Leaves conn q r.sessions move
    leaves = serves_leave (walled r wall) (sp.asker_by conn bytes) (is_legacy bytes) q l.lives free
        (λ op is. parts_asked r.chunks (walled r wall).wall bytes q op asked is) names

    own_suits : (h : Hand) → h.conn ≡ conn → h.request ≡ q → All (SuitsIn h) move.state.sessions
    own_suits h same is =
        All-weaker (OldOrNew conn q r.sessions) (SuitsIn h) (λ entry x from.
        let here : is_from conn (asker_of entry.1.doing) ≡ true =
        ap (λ (c : ℕ). is_from c (asker_of entry.1.doing)) (sym same) ∙ from in
        elim x [
          | inl there ↦ not_both (is_from conn (asker_of entry.1.doing)) here
              (All-contains (λ (entry : Lsid × Session).
              is_from conn (asker_of entry.1.doing) ≡ false) r.sessions entry
              (none_waits conn r.sessions free) there)
          | inr new ↦ subst (λ (x : Request). SuitsIt x entry) (sym is)
              (record { suits = new.suits here; names = new.names here })
        ]) move.state.sessions leaves

    -- a transaction that was begun was stated
    was_stated : (txn : Txn) (t : Transaction)
        → rf.begun_in (session_of r txn.lsid) txn.number ≡ Some t
        → Stated begun t.tag txn.lsid txn.number
    was_stated txn t e =
        let b = is_begun (session_of r txn.lsid) txn.number t e in
        let has : TxnHas begun sent txn.lsid b.there.number t =
        subst (DoingHas begun sent txn.lsid b.there.number) b.doing
        (entry_named (EntryHas begun sent) txn.lsid r.sessions k.has b.there b.is) in
        let lives : TxnLives t =
        subst Lives b.doing (session_lives r txn.lsid b.there l.lives b.is) in
        subst (Stated begun t.tag txn.lsid) b.number_is
        (elim has.stated [
          | inl bare ↦ absurd (lives.parts bare.parts)
          | inr stated ↦ stated
        ])

    -- it was answered at once
    served_way : (s : Sent) → Contains move.given.replies s
        → IsWay n place r event (replied_as place (hand_by n begun r (conn, q) []) s)
    served_way s there = record {
      place_is = refl;
      router = refl;
      way = inr (record {
        bytes = bytes;
        what_is = refl;
        free = free;
        asked = asked;
        sent = s;
        among = there;
        reply = refl;
        none = none_is n begun r conn q txns;
        own = λ txn t is e. own_is n begun r conn q known txn t is e (was_stated txn t e);
        other = λ txn is none low. other_is n begun r conn q known txn is none low;
      });
    }

    request_does : (c : Option ℕ) (replies : List (ℕ × List ℕ)) (closed : Option ℕ)
        → Does event (hands ++ hands_of n begun r (Some (conn, q)) (told_by c move replies closed))
        move
    request_does c replies closed =
        let h = hand_by n begun r (conn, q) (parts_of (told_by c move replies closed)) in
        record {
          lively = record {
            once = spares.once l.once;
            lives = new_lives conn q r.sessions move.state.sessions l.lives leaves;
            suits = All-append (SuitsHere n move.state.sessions) hands (h ∷ [])
                (spared_suits conn move free spares)
                (one (SuitsHere n move.state.sessions) h (λ router. own_suits h
                (hand_conn (parts_of (told_by c move replies closed)))
                (hand_request (parts_of (told_by c move replies closed)))));
          };
          ways = λ y there.
              let p = picked n place (hands ++ h ∷ []) move.given.replies y there in
              let none = answered_quiet (walled r wall) (sp.asker_by conn bytes) (is_legacy bytes) q
              c replies closed p.sent names txns p.among in
              elim (Contains-append_cases hands (h ∷ []) p.hand p.held_there) [
                | inl held ↦ absurd (none_answered conn free p.hand held p.sent
                    (All-contains (ToIt conn) move.given.replies p.sent spares.replies p.among)
                    p.of)
                | inr here ↦
                    subst (IsWay n place r event)
                    (sym (p.is ∙ ap (λ (x : Hand). replied_as place x p.sent)
                    (only_one h p.hand here
                    ∙ ap (λ (ms : List Statement). hand_by n begun r (conn, q) ms) none)))
                    (served_way p.sent p.among)
              ];
        }
      where
        hand_conn : (ms : List Statement) → (hand_by n begun r (conn, q) ms).conn ≡ conn
        hand_conn [] = refl
        hand_conn (m ∷ ms) = refl

        hand_request : (ms : List Statement) → (hand_by n begun r (conn, q) ms).request ≡ q
        hand_request [] = refl
        hand_request (m ∷ ms) = refl

  module _ (known : Known begun r) (wall : ℕ) (c : Option ℕ) (replies : List (ℕ × List ℕ))
      (closed : Option ℕ) where
    abbrev after : Move → NodeAnswer
    after m = told_by c m replies closed

    free_does : (conn : ℕ) (bytes : List ℕ) (wants : Bool) (x : Result Request Unserved)
        → waits_in conn r.sessions ≡ false → asked_in (walled r wall).wall bytes ≡ x
        → ((q : Request) → x ≡ Ok q → wants ≡ true)
        → Does (record { wall = wall; what = what.Client conn bytes })
        (hands ++ hands_of n begun r (asked_by conn x)
        (after (sp.unless_silent wants (sp.served (walled r wall) conn bytes x))))
        (sp.unless_silent wants (sp.served (walled r wall) conn bytes x))
    free_does conn bytes true (Ok q) free asked wanted =
        request_does known wall conn bytes q free asked c replies closed
    free_does conn bytes false (Ok q) free asked wanted = not_both false (wanted q refl) refl
    free_does conn bytes true (Err (un.Told why)) free asked wanted =
        unread_does (record { wall = wall; what = what.Client conn bytes }) conn
        (sp.served (walled r wall) conn bytes (Err (un.Told why))) free refl
        (spares_told (walled r wall) (sp.asker_by conn bytes) (is_legacy bytes) _).replies
    free_does conn bytes false (Err (un.Told why)) free asked wanted =
        still_does (record { wall = wall; what = what.Client conn bytes })
        (sp.unless_silent false (sp.served (walled r wall) conn bytes (Err (un.Told why)))) refl
        refl
    free_does conn bytes true (Err (un.Closed code)) free asked wanted =
        still_does (record { wall = wall; what = what.Client conn bytes }) (still (walled r wall))
        refl refl
    free_does conn bytes false (Err (un.Closed code)) free asked wanted =
        still_does (record { wall = wall; what = what.Client conn bytes })
        (sp.unless_silent false (still (walled r wall))) refl refl
    free_does conn bytes true (Err un.Memory) free asked wanted =
        still_does (record { wall = wall; what = what.Client conn bytes }) (still (walled r wall))
        refl refl
    free_does conn bytes false (Err un.Memory) free asked wanted =
        still_does (record { wall = wall; what = what.Client conn bytes })
        (sp.unless_silent false (still (walled r wall))) refl refl

    client_does : (conn : ℕ) (bytes : List ℕ) (wants test : Bool) (x : Result Request Unserved)
        → is_waiting r conn ≡ test → asked_in (walled r wall).wall bytes ≡ x
        → ((q : Request) → x ≡ Ok q → wants ≡ true)
        → Does (record { wall = wall; what = what.Client conn bytes })
        (hands ++ hands_of n begun r (if test then None else asked_by conn x)
        (after (if test then still (walled r wall)
        else sp.unless_silent wants (sp.served (walled r wall) conn bytes x))))
        (if test then still (walled r wall)
        else sp.unless_silent wants (sp.served (walled r wall) conn bytes x))
    client_does conn bytes wants true x waits asked wanted =
        still_does (record { wall = wall; what = what.Client conn bytes }) (still (walled r wall))
        refl refl
    client_does conn bytes wants false x waits asked wanted =
        free_does conn bytes wants x waits asked wanted

    pub happened_does : (w : Happening)
        → ((env : Envelope) → w ≡ what.Deliver env → Contains sent env)
        → Does (record { wall = wall; what = w })
        (held_in n begun r (record { wall = wall; what = w })
        (after (sp.happened (walled r wall) w)) hands) (sp.happened (walled r wall) w)
    happened_does (what.Client conn bytes) comes =
        client_does conn bytes (wants_reply bytes) (is_waiting r conn)
        (asked_in (walled r wall).wall bytes) refl refl
        (λ q asks. asked_wants (walled r wall).wall bytes q asks)
    happened_does (what.Gone conn) comes = gone_does wall conn
    happened_does (what.Deliver env) comes =
        delivered_does wall env (comes env refl) (timed (walled r wall) env.time) refl env.msg refl
    happened_does what.Resend comes =
        still_does (record { wall = wall; what = what.Resend })
        (sp.happened (walled r wall) what.Resend) refl refl
    happened_does what.Moment comes =
        still_does (record { wall = wall; what = what.Moment }) (still (walled r wall)) refl refl
