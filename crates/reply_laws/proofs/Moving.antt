-- What an event does at a router for the requests in hand.
use Rattle.std.proofs.Common.{◌≡◌, inl, inr, ◌++◌, ◌||◌, ◌+◌, ℕ, ℤ, Bool, true, false, All, List}
use Rattle.std.proofs.Common.{[], ◌∷◌, map, nat_eq, Option, Some, None, Result, Ok, Err, refl, sym}
use Rattle.std.proofs.Common.{ap, subst, ◌∙◌, arith, if◌then◌else◌, not, ◌&&◌}
use Rattle.std.specs.Prelude.{fold}
use Rattle.std.proofs.lemmas.List.{append-nil}
use Rattle.std.proofs.lemmas.List.Elements.{All-nil, All-cons, All-append, All-head, All-tail}
use Rattle.std.proofs.lemmas.List.Elements.{All-weaker, All-contains}
use Rattle.std.proofs.lemmas.List.Folds.{list_any-append}
use Rattle.txn_types.specs.BySession.{BySession}
use Rattle.txn_types.specs.declared.event.Happening.{Happening}
use Rattle.txn_types.specs.declared.event.Happening.TheVariants as what
use Rattle.txn_types.specs.declared.event.NodeAnswer.{NodeAnswer}
use Rattle.txn_types.specs.declared.event.NodeEvent.{NodeEvent}
use Rattle.txn_types.specs.declared.message.Answer.{Answer}
use Rattle.txn_types.specs.declared.message.Msg.{Msg}
use Rattle.txn_types.specs.declared.message.Msg.TheVariants as msg
use Rattle.txn_types.specs.declared.message.Statement.{Statement}
use Rattle.txn_types.specs.declared.names.Tag.{Tag}
use Rattle.txn_types.specs.declared.node.Lsid.{Lsid}
use Rattle.txn_types.specs.declared.operation.Op.{Op}
use Rattle.txn_semantics.specs.declared.commits.Answered.{Answered}
use Rattle.client_cmd.specs.declared.request.Request.{Request}
use Rattle.client_cmd.specs.declared.request.Request.TheVariants as request
use Rattle.client_cmd.specs.declared.request.Txn.{Txn}
use Rattle.op_msg.specs.Asking.{is_legacy, wants_reply}
use Rattle.chunk_map.specs.Map.{Map}
use Rattle.chunk_map.specs.Parts.{shards_of}
use Rattle.router_state.specs.declared.deed.Deed.{Deed}
use Rattle.router_state.specs.declared.deed.Sent.{Sent}
use Rattle.router_state.specs.declared.state.Asker.{Asker}
use Rattle.router_state.specs.declared.state.Phase.TheVariants.{Asking}
use Rattle.router_state.specs.declared.state.Session.{Session}
use Rattle.router_state.specs.declared.state.Transaction.{Transaction}
use Rattle.router_state.specs.Deeds.{Move, still, told, each_session, in_each_session}
use Rattle.router_state.specs.State.{RouterState, asker_of, is_from, is_waiting}
use Rattle.router_state.specs.Shards.{with_shard}
use Rattle.router_rules.specs.Ends.{gone_from}
use Rattle.router_rules.specs.Serving.{answered_in as takes_answer, ended_in}
use Rattle.router_rules.specs.Statements as st
use Rattle.router_rules.specs.Times.{walled, timed, met}
use Rattle.router_plan.specs.declared.message.Unserved.{Unserved}
use Rattle.router_plan.specs.declared.message.Unserved.TheVariants as un
use Rattle.router_plan.specs.Messages.{asked_in}
use Rattle.router_core.specs.Requests as rq
use Rattle.router_core.specs.Step as sp
use Rattle.cluster_core.specs.Answering.{Unanswered, with_answer, answered_among, statements_in}
use Rattle.cluster_core.specs.Answering.{taken_msg, unanswered_behind}
use Rattle.cluster_core.specs.Replying.{Hand, hand_by, hands_of, held_in, is_of, without_conn}
use Rattle.cluster_core.specs.Routers.{Asked, asked_by}
use Rattle.answer_laws.proofs.Lists.{both_true, nat_is}
use Rattle.world_laws.proofs.Naming.{one}
use Rattle.world_laws.proofs.PartTimes.{entries_put}
use Rattle.answer_laws.proofs.Sending.{parts_from, part_for, parts_are, skipped, told_by}
use Rattle.told_laws.proofs.Lists.{contained, filter_has, same_nat}
use Rattle.told_laws.proofs.Standing.{RouterStands, ListsStand}
use Rattle.reply_laws.proofs.Asking.{EntryOf, ToIt, Spares, AsksNow, RefusesNow, AsksOrRefuses}
use Rattle.reply_laws.proofs.Asking.{not_others, spares_still, spares_told, spares_now}
use Rattle.reply_laws.proofs.Asking.{statement_now, others_spare}
use Rattle.reply_laws.proofs.Ending.{ended_goes, gone_goes}
use Rattle.reply_laws.proofs.Hands.{IsStatement, KeepsTo, IsPlaced, EntryStands, HandStands}
use Rattle.reply_laws.proofs.Hands.{IfStatement, RouterHands, ReplyRight, replied_to, Goes, Moves}
use Rattle.reply_laws.proofs.Hands.{HandMoves, entry_on, entries_on, told_plain}
use Rattle.reply_laws.proofs.Lists.{Once, visible, once_each, waits_in, put_waits_here, none_waits}
use Rattle.reply_laws.proofs.Lists.{or_left, or_right, four_or, and_both, not_both}
use Rattle.reply_laws.proofs.Reading.{NamesIn, asked_wants, asked_names}
use Rattle.reply_laws.proofs.Taking.{answer_goes}

pub here_is : (n : ℕ) (h : Hand) → h.router ≡ n → nat_eq h.router n ≡ true
here_is n h e = ap (λ (m : ℕ). nat_eq m n) e ∙ same_nat n

-- What is done in each session.

module _ (n : ℕ) (answered : List Answered) (h : Hand) (act : Lsid → Session → Deed) where
  abbrev GoesIn : Lsid × Session → Type 0
  GoesIn entry = Goes n answered h entry.0 (asker_of entry.1.doing) (act entry.0 entry.1)

  record EachMoves (entries : BySession Session) : Type 0 where
    stands : All (EntryStands answered h) (each_session act entries).0
    rights : All (ReplyRight n answered h) (each_session act entries).1.replies
    waits : waits_in h.conn entries ≡ true
        → (waits_in h.conn (each_session act entries).0
        || replied_to n h (each_session act entries).1.replies) ≡ true

  each_moves : (entries : BySession Session) → All GoesIn entries → EachMoves entries
  each_moves [] f = record {
    stands = All-nil (EntryStands answered h);
    rights = All-nil (ReplyRight n answered h);
    waits = λ e. let no : false ≡ true = e in absurd (grind (arith, no));
  }
  each_moves (entry ∷ entries) f =
      let first = All-head GoesIn entry entries f in
      let more = each_moves entries (All-tail GoesIn entry entries f) in
      let d = act entry.0 entry.1 in
      let rest = each_session act entries in
      record {
        stands = All-cons (EntryStands answered h) (entry.0, d.session) rest.0 first.after
            more.stands;
        rights = All-append (ReplyRight n answered h) d.given.replies rest.1.replies first.rights
            more.rights;
        waits = λ e.
            ap (λ (b : Bool). (is_from h.conn (asker_of d.session.doing) || waits_in h.conn rest.0)
            || b) (list_any-append (λ (sent : Sent). is_of n sent.conn h) d.given.replies
            rest.1.replies)
            ∙ four_or (is_from h.conn (asker_of entry.1.doing)) (waits_in h.conn entries)
            (is_from h.conn (asker_of d.session.doing)) (waits_in h.conn rest.0)
            (replied_to n h d.given.replies) (replied_to n h rest.1.replies) first.waits more.waits
            e;
      }

  each_moved : (entries : BySession Session) → waits_in h.conn entries ≡ true
      → All GoesIn entries
      → Moves n answered h (each_session act entries).0 (each_session act entries).1.replies
  each_moved entries waits f = let m = each_moves entries f in
      record { entries = m.stands; rights = m.rights; waits = m.waits waits }

-- Where nothing is done.
still_moves : (n : ℕ) (answered more : List Answered) (h : Hand) (sessions : BySession Session)
    → HandStands answered h sessions → Moves n (answered ++ more) h sessions []
still_moves n answered more h sessions f = record {
  entries = entries_on answered more h sessions f.entries;
  rights = All-nil (ReplyRight n (answered ++ more) h);
  waits = or_left (waits_in h.conn sessions) false f.waits;
}

-- Messages of shards.

outcome_moves : (n : ℕ) (answered more : List Answered) (h : Hand) (sessions : BySession Session)
    (act : Lsid → Session → Deed)
    → ((lsid : Lsid) (s : Session) → EntryStands (answered ++ more) h (lsid, s)
    → Goes n (answered ++ more) h lsid (asker_of s.doing) (act lsid s))
    → HandStands answered h sessions
    → Moves n (answered ++ more) h (each_session act sessions).0
    (each_session act sessions).1.replies
outcome_moves n answered more h sessions act f stands =
    let all = answered ++ more in
    each_moved n all h act sessions stands.waits
    (All-weaker (EntryStands all h) (GoesIn n all h act) (λ entry k. f entry.0 entry.1 k) sessions
    (entries_on answered more h sessions stands.entries))

answer_moves : (n : ℕ) (a : Answer) (begun us : List Unanswered) (answered : List Answered)
    (h : Hand) (r : RouterState) → ListsStand begun us answered → RouterStands n begun us answered r
    → Once r.sessions → h.router ≡ n → IsStatement h.request → HandStands answered h r.sessions
    → Moves n (answered ++ answered_among (map (with_answer n a) us)) h
    (each_session (takes_answer a) r.sessions).0
    (each_session (takes_answer a) r.sessions).1.replies
answer_moves n a begun us answered h r lists stands once router statement f =
    let all = answered ++ answered_among (map (with_answer n a) us) in
    each_moved n all h (takes_answer a) r.sessions f.waits
    (contained (GoesIn n all h (takes_answer a)) r.sessions (λ entry there.
    answer_goes n a begun us answered h lists (here_is n h router) statement r entry.0 entry.1.number
    entry.1.doing (stands.sessions entry.0 entry.1 (visible r.sessions entry once there))
    (All-contains (EntryStands answered h) r.sessions entry f.entries there)))

-- Requests of other connections.

apart_if : (h : Hand) (conn : ℕ) (old : BySession Session) → waits_in h.conn old ≡ true
    → waits_in conn old ≡ false → h.conn ≡ conn → ⊥
apart_if h conn old waits none same =
    not_both (waits_in conn old) (ap (λ (c : ℕ). waits_in c old) (sym same) ∙ waits) none

spared_moves : (n : ℕ) (answered more : List Answered) (h : Hand) (conn : ℕ)
    (old : BySession Session) (m : Move) → waits_in conn old ≡ false → Spares conn old m
    → HandStands answered h old → Moves n (answered ++ more) h m.state.sessions m.given.replies
spared_moves n answered more h conn old m none s f =
    let all = answered ++ more in
    let apart = apart_if h conn old f.waits none in
    record {
      entries = All-weaker (EntryOf conn old) (EntryStands all h) (λ entry k. elim k [
        | inl there ↦ entry_on answered more h entry
            (All-contains (EntryStands answered h) old entry f.entries there)
        | inr fits ↦ λ from. not_both (is_from h.conn (asker_of entry.1.doing)) from
            (not_others h.conn conn (asker_of entry.1.doing) apart fits)
      ]) m.state.sessions s.entries;
      rights = All-weaker (ToIt conn) (ReplyRight n all h) (λ sent to e. absurd (apart
          (same_conn sent.conn e ∙ to))) m.given.replies s.replies;
      waits = or_left (waits_in h.conn m.state.sessions) (replied_to n h m.given.replies)
          (s.waits h.conn apart f.waits);
    }
  where
    same_conn : (c : ℕ) → is_of n c h ≡ true → h.conn ≡ c
    same_conn c e = nat_is h.conn c (both_true (nat_eq h.router n) (nat_eq h.conn c) e).1

spared_silent : (conn : ℕ) (old : BySession Session) (test : Bool) (m : Move) → Spares conn old m
    → Spares conn old (sp.unless_silent test m)
spared_silent conn old true m s = s
spared_silent conn old false m s = record {
  once = s.once;
  entries = s.entries;
  replies = All-nil (ToIt conn);
  waits = s.waits;
}

-- The request of a statement.

none_stands : (answered : List Answered) (h : Hand) (conn : ℕ) (old : BySession Session)
    → h.conn ≡ conn → waits_in conn old ≡ false → All (EntryStands answered h) old
none_stands answered h conn old same none =
    All-weaker (λ (entry : Lsid × Session). is_from conn (asker_of entry.1.doing) ≡ false)
    (EntryStands answered h) (λ entry k from. not_both (is_from h.conn (asker_of entry.1.doing))
    from (ap (λ (c : ℕ). is_from c (asker_of entry.1.doing)) same ∙ k)) old
    (none_waits conn old none)

refused_moves : (n : ℕ) (answered : List Answered) (h : Hand) (asker : Asker)
    (old : BySession Session) (m : Move) → h.router ≡ n → h.conn ≡ asker.conn
    → waits_in asker.conn old ≡ false → RefusesNow asker old m
    → Moves n answered h m.state.sessions m.given.replies
refused_moves n answered h asker old m router same none w =
    let to : is_of n asker.conn h ≡ true = and_both (nat_eq h.router n) (nat_eq h.conn asker.conn)
    (here_is n h router) (ap (λ (c : ℕ). nat_eq c asker.conn) same ∙ same_nat asker.conn) in
    record {
      entries = subst (All (EntryStands answered h)) (sym w.sessions)
          (none_stands answered h asker.conn old same none);
      rights = subst (All (ReplyRight n answered h)) (sym w.replies)
          (one (ReplyRight n answered h) (told asker w.why) (λ e. told_plain answered h w.why
          w.plain));
      waits = or_right (waits_in h.conn m.state.sessions) (replied_to n h m.given.replies)
          (ap (λ (l : List Sent). replied_to n h l) w.replies
          ∙ or_left (is_of n asker.conn h) false to);
    }

-- the transaction that asks
abbrev asking : Map → Lsid → ℤ → Asker → Op → Transaction → Transaction
asking chunks lsid number asker op t = record t {
  k = t.k + 1;
  parts = fold with_shard t.parts (shards_of chunks op);
  phase = Asking asker op [];
  waiting = st.statements_to chunks lsid number t op;
}

asked_moves : (n : ℕ) (answered : List Answered) (h : Hand) (asker : Asker)
    (old : BySession Session) (chunks : Map) (op : Op) (txn : Option Txn)
    (at after time : Option ℕ) (more : Bool) (m : Move)
    → h.conn ≡ asker.conn → h.request ≡ request.Statement op txn at after more time
    → waits_in asker.conn old ≡ false → (w : AsksNow asker old chunks op txn m)
    → ((v : Transaction) → v.waiting ≡ st.statements_to chunks w.lsid w.number w.t op
    → v.tag ≡ w.t.tag → v.k ≡ w.t.k + 1 → IsPlaced h v)
    → Moves n answered h m.state.sessions m.given.replies
asked_moves n answered h asker old chunks op txn at after time more m same asks none w placed =
    let v = (st.asks chunks w.lsid w.number asker op w.t).session in
    record {
      entries = subst (All (EntryStands answered h)) (sym w.sessions)
          (entries_put (EntryStands answered h) w.lsid v old
          (λ from. (
            subst (λ (q : Request). KeepsTo q w.lsid) (sym asks) (w.keeps at after time more),
            placed (asking chunks w.lsid w.number asker op w.t) refl refl refl,
          ))
          (none_stands answered h asker.conn old same none));
      rights = subst (All (ReplyRight n answered h)) (sym w.replies)
          (All-nil (ReplyRight n answered h));
      waits = or_left (waits_in h.conn m.state.sessions) (replied_to n h m.given.replies)
          (ap (waits_in h.conn) w.sessions
          ∙ put_waits_here h.conn w.lsid v old
          (ap (nat_eq asker.conn) same ∙ same_nat asker.conn));
    }

-- A hand of a request.

pub hand_router : (n : ℕ) (begun : List Statement) (r : RouterState) (asked : Asked)
    (ms : List Statement) → (hand_by n begun r asked ms).router ≡ n
hand_router n begun r asked [] = refl
hand_router n begun r asked (m ∷ ms) = refl

hand_conn : (n : ℕ) (begun : List Statement) (r : RouterState) (asked : Asked)
    (ms : List Statement) → (hand_by n begun r asked ms).conn ≡ asked.0
hand_conn n begun r asked [] = refl
hand_conn n begun r asked (m ∷ ms) = refl

hand_request : (n : ℕ) (begun : List Statement) (r : RouterState) (asked : Asked)
    (ms : List Statement) → (hand_by n begun r asked ms).request ≡ asked.1
hand_request n begun r asked [] = refl
hand_request n begun r asked (m ∷ ms) = refl

hand_placed : (n : ℕ) (begun : List Statement) (r : RouterState) (asked : Asked) (chunks : Map)
    (lsid : Lsid) (number : ℤ) (t v : Transaction) (op : Op) (shards : List ℕ)
    (parts : List (ℕ × Statement))
    → parts ≡ map (part_for chunks lsid number t op) shards
    → v.waiting ≡ map (st.statement_to chunks lsid number t op) shards → v.tag ≡ t.tag
    → v.k ≡ t.k + 1
    → IsPlaced (hand_by n begun r asked (map (λ (part : ℕ × Statement). part.1) parts)) v
hand_placed n begun r asked chunks lsid number t v op [] parts is waiting tag k = inl waiting
hand_placed n begun r asked chunks lsid number t v op (shard ∷ shards) parts is waiting tag k =
    subst (λ (ps : List (ℕ × Statement)). IsPlaced (hand_by n begun r asked
    (map (λ (part : ℕ × Statement). part.1) ps)) v) (sym is)
    (inr (ap (λ (x : Tag). Some x) (sym tag), sym k))

parts_of : (asker : Asker) (old : BySession Session) (chunks : Map) (op : Op) (txn : Option Txn)
    (m : Move) (c : Option ℕ) (replies : List (ℕ × List ℕ)) (closed : Option ℕ)
    (w : AsksNow asker old chunks op txn m)
    → statements_in (told_by c m replies closed)
    ≡ map (part_for chunks w.lsid w.number w.t op) (shards_of chunks op)
parts_of asker old chunks op txn m c replies closed w =
    skipped _ m.state.time m.given.aborts m.given.sends w.aborts
    ∙ ap (parts_from _ m.state.time) w.sends
    ∙ parts_are _ m.state.time chunks w.lsid w.number w.t op (shards_of chunks op)

-- what a step leaves of requests in hand
pub record HeldMoves (n : ℕ) (answered : List Answered) (held : List Hand) (m : Move) : Type 0 where
  pub once : Once m.state.sessions
  pub all : All (HandMoves n answered m.state.sessions m.given.replies) held

no_new : (n : ℕ) (answered : List Answered) (hands : List Hand) (m : Move)
    → Once m.state.sessions → All (HandMoves n answered m.state.sessions m.given.replies) hands
    → HeldMoves n answered (hands ++ []) m
no_new n answered hands m once f = record {
  once = once;
  all = All-append (HandMoves n answered m.state.sessions m.given.replies) hands [] f
      (All-nil (HandMoves n answered m.state.sessions m.given.replies));
}

still_held : (n : ℕ) (answered more : List Answered) (hands : List Hand) (m : Move)
    (old : BySession Session) → m.state.sessions ≡ old → m.given.replies ≡ []
    → RouterHands n answered hands old → HeldMoves n (answered ++ more) (hands ++ []) m
still_held n answered more hands m old e none k =
    no_new n (answered ++ more) hands m (subst Once (sym e) k.once)
    (subst (λ (xs : BySession Session). All (HandMoves n (answered ++ more) xs m.given.replies)
    hands) (sym e)
    (subst (λ (l : List Sent). All (HandMoves n (answered ++ more) old l) hands) (sym none)
    (All-weaker (IfStatement n answered old) (HandMoves n (answered ++ more) old [])
    (λ h f router statement. still_moves n answered more h old (f router statement)) hands
    k.stand)))

spared_all : (n : ℕ) (answered more : List Answered) (hands : List Hand) (conn : ℕ)
    (old : BySession Session) (m : Move) → waits_in conn old ≡ false → Spares conn old m
    → RouterHands n answered hands old
    → All (HandMoves n (answered ++ more) m.state.sessions m.given.replies) hands
spared_all n answered more hands conn old m none s k =
    All-weaker (IfStatement n answered old)
    (HandMoves n (answered ++ more) m.state.sessions m.given.replies)
    (λ h f router statement. spared_moves n answered more h conn old m none s
    (f router statement)) hands k.stand

spared_held : (n : ℕ) (answered more : List Answered) (hands : List Hand) (conn : ℕ)
    (old : BySession Session) (m : Move) → waits_in conn old ≡ false → Spares conn old m
    → RouterHands n answered hands old → HeldMoves n (answered ++ more) (hands ++ []) m
spared_held n answered more hands conn old m none s k =
    no_new n (answered ++ more) hands m (s.once k.once)
    (spared_all n answered more hands conn old m none s k)

one_more : (n : ℕ) (answered more : List Answered) (hands : List Hand) (conn : ℕ)
    (old : BySession Session) (m : Move) (h : Hand) → waits_in conn old ≡ false
    → Spares conn old m → RouterHands n answered hands old
    → HandMoves n (answered ++ more) m.state.sessions m.given.replies h
    → HeldMoves n (answered ++ more) (hands ++ h ∷ []) m
one_more n answered more hands conn old m h none s k f = record {
  once = s.once k.once;
  all = All-append (HandMoves n (answered ++ more) m.state.sessions m.given.replies) hands (h ∷ [])
      (spared_all n answered more hands conn old m none s k)
      (one (HandMoves n (answered ++ more) m.state.sessions m.given.replies) h f);
}

-- a request that is no statement
other_held : (n : ℕ) (begun : List Statement) (r : RouterState) (answered more : List Answered)
    (hands : List Hand) (conn : ℕ) (old : BySession Session) (m : Move) (q : Request)
    (a : NodeAnswer) → (IsStatement q → ⊥) → waits_in conn old ≡ false → Spares conn old m
    → RouterHands n answered hands old
    → HeldMoves n (answered ++ more) (hands ++ hands_of n begun r (Some (conn, q)) a) m
other_held n begun r answered more hands conn old m q a other none s k =
    let ms = map (λ (part : ℕ × Statement). part.1) (statements_in a) in
    one_more n answered more hands conn old m (hand_by n begun r (conn, q) ms) none s k
    (λ router statement. absurd (other (subst IsStatement (hand_request n begun r (conn, q) ms)
    statement)))

statement_held : (n : ℕ) (begun : List Statement) (r s : RouterState)
    (answered more : List Answered) (hands : List Hand) (asker : Asker) (op : Op)
    (txn : Option Txn) (at after time : Option ℕ) (flag : Bool) (m : Move) (c : Option ℕ)
    (replies : List (ℕ × List ℕ)) (closed : Option ℕ)
    → AsksOrRefuses asker s.sessions s.chunks op txn m → is_waiting s asker.conn ≡ false
    → RouterHands n answered hands s.sessions
    → HeldMoves n (answered ++ more) (hands ++ hands_of n begun r
    (Some (asker.conn, request.Statement op txn at after flag time))
    (told_by c m replies closed)) m
statement_held n begun r s answered more hands asker op txn at after time flag m c replies closed d
    none k =
    let q = request.Statement op txn at after flag time in
    let parts = statements_in (told_by c m replies closed) in
    let ms = map (λ (part : ℕ × Statement). part.1) parts in
    let h = hand_by n begun r (asker.conn, q) ms in
    let all = answered ++ more in
    one_more n answered more hands asker.conn s.sessions m h none
    (spares_now asker s.sessions s.chunks op txn m d) k
    (λ router statement.
    elim d [
      | inl w ↦ refused_moves n all h asker s.sessions m router
          (hand_conn n begun r (asker.conn, q) ms) none w
      | inr w ↦ asked_moves n all h asker s.sessions s.chunks op txn at after time flag m
          (hand_conn n begun r (asker.conn, q) ms) (hand_request n begun r (asker.conn, q) ms) none
          w (λ v waiting tag place. hand_placed n begun r (asker.conn, q) s.chunks w.lsid w.number
          w.t v op (shards_of s.chunks op) parts
          (parts_of asker s.sessions s.chunks op txn m c replies closed w) waiting tag place)
    ])

-- A message of a client.

abbrev Asks : Bool → Result Request Unserved → Type 0
Asks wants x = (q : Request) → x ≡ Ok q → (wants ≡ true) × NamesIn q

client_held : (n : ℕ) (begun : List Statement) (r s : RouterState) (conn : ℕ) (bytes : List ℕ)
    (test wants : Bool) (x : Result Request Unserved) (answered more : List Answered)
    (hands : List Hand) (c : Option ℕ) (replies : List (ℕ × List ℕ)) (closed : Option ℕ)
    → is_waiting s conn ≡ test → Asks wants x → RouterHands n answered hands s.sessions
    → HeldMoves n (answered ++ more) (hands ++ hands_of n begun r
    (if test then None else asked_by conn x)
    (told_by c (if test then still s else sp.unless_silent wants (sp.served s conn bytes x)) replies
    closed)) (if test then still s else sp.unless_silent wants (sp.served s conn bytes x))
unfolding rq.serves
client_held n begun r s conn bytes true wants x answered more hands c replies closed waits asks k =
    still_held n answered more hands (still s) s.sessions refl refl k
client_held n begun r s conn bytes false wants (Err (un.Told why)) answered more hands c replies
    closed waits asks k =
    spared_held n answered more hands conn s.sessions
    (sp.unless_silent wants (sp.served s conn bytes (Err (un.Told why)))) waits
    (spared_silent conn s.sessions wants (sp.served s conn bytes (Err (un.Told why)))
    (spares_told s (sp.asker_by conn bytes) (is_legacy bytes) _)) k
client_held n begun r s conn bytes false wants (Err (un.Closed code)) answered more hands c replies
    closed waits asks k =
    spared_held n answered more hands conn s.sessions
    (sp.unless_silent wants (sp.served s conn bytes (Err (un.Closed code)))) waits
    (spared_silent conn s.sessions wants (still s)
    (spares_still conn s.sessions (still s) refl (All-nil (ToIt conn)))) k
client_held n begun r s conn bytes false wants (Err un.Memory) answered more hands c replies closed
    waits asks k =
    spared_held n answered more hands conn s.sessions
    (sp.unless_silent wants (sp.served s conn bytes (Err un.Memory))) waits
    (spared_silent conn s.sessions wants (still s)
    (spares_still conn s.sessions (still s) refl (All-nil (ToIt conn)))) k
client_held n begun r s conn bytes false false (Ok q) answered more hands c replies closed waits
    asks k = not_both false (asks q refl).0 refl
client_held n begun r s conn bytes false true (Ok (request.Statement op txn at after flag time))
    answered more hands c replies closed waits asks k =
    let asker = sp.asker_by conn bytes in
    statement_held n begun r (met s time after) answered more hands asker op txn at after time flag
    (rq.statement (met s time after) asker txn op at) c replies closed
    (statement_now (met s time after) asker txn op at
    (asks (request.Statement op txn at after flag time) refl).1) waits k
client_held n begun r s conn bytes false true (Ok (request.Ping flag time))
    answered more hands c replies closed waits asks k =
    let m = sp.served s conn bytes (Ok (request.Ping flag time)) in
    other_held n begun r answered more hands conn s.sessions m (request.Ping flag time)
    (told_by c m replies closed) (λ w. w) waits
    (others_spare s (sp.asker_by conn bytes) (is_legacy bytes) (request.Ping flag time) tt) k
client_held n begun r s conn bytes false true (Ok (request.Hello old_name flag time))
    answered more hands c replies closed waits asks k =
    let m = sp.served s conn bytes (Ok (request.Hello old_name flag time)) in
    other_held n begun r answered more hands conn s.sessions m (request.Hello old_name flag time)
    (told_by c m replies closed) (λ w. w) waits
    (others_spare s (sp.asker_by conn bytes) (is_legacy bytes) (request.Hello old_name flag time) tt) k
client_held n begun r s conn bytes false true (Ok (request.Commit txn t flag time))
    answered more hands c replies closed waits asks k =
    let m = sp.served s conn bytes (Ok (request.Commit txn t flag time)) in
    other_held n begun r answered more hands conn s.sessions m (request.Commit txn t flag time)
    (told_by c m replies closed) (λ w. w) waits
    (others_spare s (sp.asker_by conn bytes) (is_legacy bytes) (request.Commit txn t flag time) tt) k
client_held n begun r s conn bytes false true (Ok (request.Abort txn flag time))
    answered more hands c replies closed waits asks k =
    let m = sp.served s conn bytes (Ok (request.Abort txn flag time)) in
    other_held n begun r answered more hands conn s.sessions m (request.Abort txn flag time)
    (told_by c m replies closed) (λ w. w) waits
    (others_spare s (sp.asker_by conn bytes) (is_legacy bytes) (request.Abort txn flag time) tt) k
client_held n begun r s conn bytes false true (Ok (request.EndSessions ids flag time))
    answered more hands c replies closed waits asks k =
    let m = sp.served s conn bytes (Ok (request.EndSessions ids flag time)) in
    other_held n begun r answered more hands conn s.sessions m (request.EndSessions ids flag time)
    (told_by c m replies closed) (λ w. w) waits
    (others_spare s (sp.asker_by conn bytes) (is_legacy bytes) (request.EndSessions ids flag time) tt) k

-- A message of a shard.

outcome_held : (n : ℕ) (answered more : List Answered) (hands : List Hand) (q : RouterState)
    (act : Lsid → Session → Deed)
    → ((h : Hand) → nat_eq h.router n ≡ true → (lsid : Lsid) (s : Session)
    → EntryStands (answered ++ more) h (lsid, s)
    → Goes n (answered ++ more) h lsid (asker_of s.doing) (act lsid s))
    → RouterHands n answered hands q.sessions
    → HeldMoves n (answered ++ more) (hands ++ []) (in_each_session act q)
outcome_held n answered more hands q act f k =
    no_new n (answered ++ more) hands (in_each_session act q) (once_each act q.sessions k.once)
    (All-weaker (IfStatement n answered q.sessions) (HandMoves n (answered ++ more)
    (each_session act q.sessions).0 (each_session act q.sessions).1.replies)
    (λ h g router statement. outcome_moves n answered more h q.sessions act
    (f h (here_is n h router)) (g router statement)) hands k.stand)

answer_held : (n : ℕ) (a : Answer) (begun us : List Unanswered) (answered : List Answered)
    (hands : List Hand) (r : RouterState) → ListsStand begun us answered
    → RouterStands n begun us answered r → RouterHands n answered hands r.sessions
    → All (HandMoves n (answered ++ answered_among (map (with_answer n a) us))
    (each_session (takes_answer a) r.sessions).0
    (each_session (takes_answer a) r.sessions).1.replies) hands
answer_held n a begun us answered hands r lists stands k =
    All-weaker (IfStatement n answered r.sessions)
    (HandMoves n (answered ++ answered_among (map (with_answer n a) us))
    (each_session (takes_answer a) r.sessions).0
    (each_session (takes_answer a) r.sessions).1.replies)
    (λ h g router statement. answer_moves n a begun us answered h r lists stands k.once router
    statement (g router statement)) hands k.stand

-- the lists that an Answer leaves, as the ledger has them
answer_all : (n : ℕ) (a : Answer) (begun us : List Unanswered) (answered : List Answered)
    (hands : List Hand) (r q : RouterState) → ListsStand begun us answered
    → RouterStands n begun us answered r → RouterHands n answered hands r.sessions
    → q.sessions ≡ r.sessions
    → HeldMoves n (answered ++ answered_among (map (with_answer n a) us ++ [])) (hands ++ [])
    (in_each_session (takes_answer a) q)
answer_all n a begun us answered hands r q lists stands k same =
    let us1 = map (with_answer n a) us in
    let m = in_each_session (takes_answer a) q in
    let held : All (HandMoves n (answered ++ answered_among us1) m.state.sessions m.given.replies)
    hands =
    subst (λ (xs : BySession Session). All (HandMoves n (answered ++ answered_among us1)
    (each_session (takes_answer a) xs).0 (each_session (takes_answer a) xs).1.replies) hands)
    (sym same) (answer_held n a begun us answered hands r lists stands k) in
    no_new n (answered ++ answered_among (us1 ++ [])) hands m
    (once_each (takes_answer a) q.sessions (subst Once (sym same) k.once))
    (subst (λ (l : List Unanswered). All (HandMoves n (answered ++ answered_among l)
    m.state.sessions m.given.replies) hands) (sym (append-nil us1)) held)

-- The end of a connection.

gone_held : (n conn : ℕ) (answered more : List Answered) (hands : List Hand) (q : RouterState)
    → RouterHands n answered hands q.sessions
    → HeldMoves n (answered ++ more) (without_conn n conn hands ++ [])
    (in_each_session (gone_from conn) q)
gone_held n conn answered more hands q k =
    let all = answered ++ more in
    no_new n all (without_conn n conn hands) (in_each_session (gone_from conn) q)
    (once_each (gone_from conn) q.sessions k.once)
    (contained (HandMoves n all (each_session (gone_from conn) q.sessions).0
    (each_session (gone_from conn) q.sessions).1.replies) (without_conn n conn hands)
    (λ h there router statement.
    let f = filter_has (λ (x : Hand). not (is_of n conn x)) hands h there in
    let here = here_is n h router in
    outcome_moves n answered more h q.sessions (gone_from conn)
    (λ lsid s stands. gone_goes n all h here conn lsid s (other_conn h here f.1) stands)
    (All-contains (IfStatement n answered q.sessions) hands h k.stand f.0 router statement)))
  where
    not_first : (a b : Bool) → a ≡ true → not (a && b) ≡ true → b ≡ false
    not_first true true e f = grind (arith, f)
    not_first true false e f = refl
    not_first false b e f = grind (arith, e)

    other_conn : (h : Hand) → nat_eq h.router n ≡ true → not (is_of n conn h) ≡ true
        → nat_eq h.conn conn ≡ false
    other_conn h here e = not_first (nat_eq h.router n) (nat_eq h.conn conn) here e

-- An event.

pub happened_held : (n : ℕ) (sent : List Statement) (r : RouterState) (wall : ℕ) (w : Happening)
    (e : NodeEvent) (c : Option ℕ) (replies : List (ℕ × List ℕ)) (closed : Option ℕ)
    (begun us : List Unanswered) (answered : List Answered) (hands : List Hand)
    → e ≡ record { wall = wall; what = w } → ListsStand begun us answered
    → RouterStands n begun us answered r → RouterHands n answered hands r.sessions
    → HeldMoves n (answered ++ answered_among (unanswered_behind n r e
    (told_by c (sp.happened (walled r wall) w) replies closed) us))
    (held_in n sent r e (told_by c (sp.happened (walled r wall) w) replies closed) hands)
    (sp.happened (walled r wall) w)
happened_held n sent r wall (what.Client conn bytes) e c replies closed begun us answered hands is
    lists stands k =
    rw is (client_held n sent r (walled r wall) conn bytes (is_waiting r conn) (wants_reply bytes)
    (asked_in (walled r wall).wall bytes) answered _ hands c replies closed refl
    (λ q asks. (
      asked_wants (walled r wall).wall bytes q asks,
      asked_names (walled r wall).wall bytes q asks,
    )) k)
happened_held n sent r wall (what.Gone conn) e c replies closed begun us answered hands is lists
    stands k = rw is (gone_held n conn answered _ hands (walled r wall) k)
happened_held n sent r wall (what.Deliver m) e c replies closed begun us answered hands is lists
    stands k = rw is (delivered_held m.msg)
  where
    delivered_held : (x : Msg) → HeldMoves n
        (answered ++ answered_among (taken_msg n x us ++ [])) (hands ++ [])
        (sp.delivered (timed (walled r wall) m.time) x)
    delivered_held (msg.Answer a) = answer_all n a begun us answered hands r
        (timed (walled r wall) m.time) lists stands k refl
    delivered_held (msg.Outcome o) = outcome_held n answered (answered_among (us ++ [])) hands
        (timed (walled r wall) m.time) (ended_in o)
        (λ h here lsid s f. ended_goes n (answered ++ answered_among (us ++ [])) h here o lsid
        s.number s.doing f) k
    delivered_held other = still_held n answered (answered_among (us ++ [])) hands
        (still (timed (walled r wall) m.time)) r.sessions refl refl k
happened_held n sent r wall what.Resend e c replies closed begun us answered hands is lists stands
    k = rw is (still_held n answered _ hands (sp.happened (walled r wall) what.Resend) r.sessions
    refl refl k)
happened_held n sent r wall what.Moment e c replies closed begun us answered hands is lists stands
    k = rw is (still_held n answered _ hands (still (walled r wall)) r.sessions refl refl k)
