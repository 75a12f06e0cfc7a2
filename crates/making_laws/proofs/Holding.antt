-- The requests that connections have in hand: each is waited for, in sessions whose transaction it
-- is of; and where a cause is told, a message of that transaction told it.
use Rattle.std.proofs.Common.{◌≡◌, ◌⊎◌, inl, inr, ◌∙◌, ◌&&◌, ◌||◌, ◌++◌, ℕ, ℤ, Bool, true, false}
use Rattle.std.proofs.Common.{not, All, Contains, List, [], ◌∷◌, map, find, nat_eq}
use Rattle.std.proofs.Common.{Option, Some, None, option_map, Result, Ok, Err, refl, sym, ap, subst}
use Rattle.std.proofs.Common.{if◌then◌else◌, cond, ◌<ℤ◌, ℤ, int_lt, fold, option_and_then, arith}
use Rattle.std.proofs.lemmas.Int.{ints}
use Rattle.std.specs.Option.{option_or}
use Rattle.std.specs.Ordering.{int_eq}
use Rattle.std.proofs.lemmas.Bool.Decides.{Decides-int_eq}
use Rattle.std.proofs.lemmas.List.{append-nil}
use Rattle.std.proofs.lemmas.List.Elements.{All-nil, All-cons, All-head, All-tail, All-append}
use Rattle.std.proofs.lemmas.List.Elements.{All-weaker, All-contains}
use Rattle.std.proofs.lemmas.List.Elements.{Contains-append_left, Contains-append_right}
use Rattle.std.proofs.lemmas.List.Folds.{list_any-append}
use Rattle.txn_types.specs.BySession.{BySession}
use Rattle.txn_types.specs.Order.{same_lsid}
use Rattle.txn_types.specs.declared.decision.Token.{Token}
use Rattle.txn_types.specs.declared.event.Happening.{Happening}
use Rattle.txn_types.specs.declared.event.Happening.TheVariants as what
use Rattle.txn_types.specs.declared.event.NodeAnswer.{NodeAnswer}
use Rattle.txn_types.specs.declared.event.NodeEvent.{NodeEvent}
use Rattle.txn_types.specs.declared.message.Envelope.{Envelope}
use Rattle.txn_types.specs.declared.message.Msg.{Msg}
use Rattle.txn_types.specs.declared.message.Msg.TheVariants as msg
use Rattle.txn_types.specs.declared.message.Statement.{Statement}
use Rattle.txn_types.specs.declared.names.Tag.{Tag}
use Rattle.txn_types.specs.declared.node.Lsid.{Lsid}
use Rattle.txn_types.specs.declared.operation.Op.{Op}
use Rattle.op_msg.specs.Asking.{is_legacy, wants_reply}
use Rattle.client_cmd.specs.declared.request.Request.{Request}
use Rattle.client_cmd.specs.declared.request.Request.TheVariants as request
use Rattle.client_cmd.specs.declared.request.Txn.{Txn}
use Rattle.client_reply.specs.declared.reply.Reply.{Reply}
use Rattle.client_reply.specs.declared.reply.Reply.TheVariants as reply
use Rattle.chunk_map.specs.Map.{Map}
use Rattle.chunk_map.specs.Parts.{shards_of}
use Rattle.router_state.specs.Deeds.{Move, still, told, told_if, each_session, in_each_session}
use Rattle.router_state.specs.Shards.{with_shard}
use Rattle.router_state.specs.State.{RouterState, session_of, asker_of, is_from, is_waiting}
use Rattle.router_state.specs.declared.deed.Deed.{Deed}
use Rattle.router_state.specs.declared.deed.Sent.{Sent}
use Rattle.router_state.specs.declared.state.Asker.{Asker}
use Rattle.router_state.specs.declared.state.Doing.{Doing}
use Rattle.router_state.specs.declared.state.Doing.TheVariants.{Begun, Sought}
use Rattle.router_state.specs.declared.state.Session.{Session}
use Rattle.router_state.specs.declared.state.Transaction.{Transaction}
use Rattle.router_rules.specs.Ends.{gone_from}
use Rattle.router_rules.specs.Ends as en
use Rattle.router_plan.specs.Plans.{told_also}
use Rattle.router_rules.specs.Serving.{answered_in, ended_in}
use Rattle.router_rules.specs.Statements as st
use Rattle.router_rules.specs.Times.{walled, timed, met}
use Rattle.router_plan.specs.declared.message.Unserved.{Unserved}
use Rattle.router_plan.specs.declared.message.Unserved.TheVariants as un
use Rattle.router_plan.specs.Messages.{asked_in}
use Rattle.router_plan.specs.Refusals as rf
use Rattle.router_core.specs.Requests as rq
use Rattle.router_core.specs.Step as sp
use Rattle.cluster_core.specs.Answering.{statements_in}
use Rattle.cluster_core.specs.Replying.{Hand, hand_by, hands_of, held_in, is_of, without_conn}
use Rattle.cluster_core.specs.Replying.{is_begun, tag_in}
use Rattle.cluster_core.specs.Routers.{Asked, asked_by}
use Rattle.world_laws.specs.Begins.{HasCome, IsIn}
use Rattle.world_laws.proofs.Beginning as begins
use Rattle.world_laws.proofs.Naming.{one}
use Rattle.answer_laws.proofs.Lists.{has_first, both_true, nat_is}
use Rattle.answer_laws.proofs.Sending.{parts_from, part_for, parts_are, skipped, told_by}
use Rattle.told_laws.proofs.Lists.{contained, filter_has, same_nat, has_cases, none_there}
use Rattle.told_laws.proofs.Opening.{nat_sym}
use Rattle.reply_laws.proofs.Asking.{EntryOf, ToIt, Spares, not_others, others_spare, spares_told}
use Rattle.reply_laws.proofs.Asking.{spares_still, spares_now, statement_now, NamesClient}
use Rattle.reply_laws.proofs.Reading.{NamesIn, asked_wants, asked_names}
use Rattle.reply_laws.proofs.Hands.{replied_to}
use Rattle.reply_laws.proofs.Lists.{waits_in, none_waits, or_left, or_right, and_both}
use Rattle.reply_laws.proofs.Lists.{four_or, not_both, found_passes}
use Rattle.reply_laws.proofs.Moving.{here_is}
use Rattle.participant.proofs.Tags.{lsid_same, lsid_self}
use Rattle.making_laws.proofs.Parsing.{NamesTxn, asked_txn}
use Rattle.making_laws.proofs.Hearing.{Stated, EntryHas, DoingHas, TagFits, CausedBy, Hears, Ends}
use Rattle.making_laws.proofs.Hearing.{IsGiven, TxnHas, answer_heard, outcome_heard}
use Rattle.making_laws.proofs.Hearing.{gone_heard, plain_caused, some_is, no_some}
use Rattle.making_laws.proofs.Asking.{Serves, OldOrNew, PlainSent, Told, new_has, put_serves}
use Rattle.making_laws.proofs.Asking.{same_serves, StatesSo, AsksSo, statement_so, TagIs}
use Rattle.making_laws.proofs.Asking.{commit_serves, abort_serves, still_serves, ends_serves}
use Rattle.making_laws.proofs.Asking.{commit_quiet, Quiet, begun_found}

-- A request in hand.

abbrev pub Fits : Hand → Lsid × Session → Type 0
Fits h entry = is_from h.conn (asker_of entry.1.doing) ≡ true → TagFits h.tag entry.1.doing

pub record IsHeld (h : Hand) (sessions : BySession Session) : Type 0 where
  pub fits : All (Fits h) sessions
  pub waits : waits_in h.conn sessions ≡ true

abbrev pub IfHere : ℕ → BySession Session → Hand → Type 0
IfHere n sessions h = h.router ≡ n → IsHeld h sessions

pub record Holds (n : ℕ) (begun : List Statement) (sent : List Envelope) (hands : List Hand)
    (sessions : BySession Session) : Type 0 where
  pub has : All (EntryHas begun sent) sessions
  pub hold : All (IfHere n sessions) hands

abbrev pub Caused : ℕ → List Envelope → Hand → Sent → Type 0
Caused n sent h s = is_of n s.conn h ≡ true → CausedBy sent h.tag s.reply

-- what is done for it in a session in which this one waited
pub record Goes (n : ℕ) (sent : List Envelope) (h : Hand) (lsid : Lsid) (old : Doing)
    (d : Deed) : Type 0 where
  pub fits : Fits h (lsid, d.session)
  pub rights : All (Caused n sent h) d.given.replies
  pub waits : is_from h.conn (asker_of old) ≡ true
      → (is_from h.conn (asker_of d.session.doing) || replied_to n h d.given.replies) ≡ true

pub record Moves (n : ℕ) (sent : List Envelope) (h : Hand) (sessions : BySession Session)
    (replies : List Sent) : Type 0 where
  pub fits : All (Fits h) sessions
  pub rights : All (Caused n sent h) replies
  pub waits : (waits_in h.conn sessions || replied_to n h replies) ≡ true

abbrev pub HandMoves : ℕ → List Envelope → BySession Session → List Sent → Hand → Type 0
HandMoves n sent sessions replies h = h.router ≡ n → Moves n sent h sessions replies

pub record HeldMoves (n : ℕ) (begun : List Statement) (sent : List Envelope) (held : List Hand)
    (m : Move) : Type 0 where
  pub has : All (EntryHas begun sent) m.state.sessions
  pub all : All (HandMoves n sent m.state.sessions m.given.replies) held

-- Where more was sent.

stated_on : (begun more : List Statement) (tag : Tag) (lsid : Lsid) (number : ℤ)
    → Stated begun tag lsid number → Stated (begun ++ more) tag lsid number
stated_on begun more tag lsid number h = record {
  statement = h.statement;
  among = Contains-append_left begun more h.statement h.among;
  tag_is = h.tag_is;
  lsid_is = h.lsid_is;
  number_is = h.number_is;
}

txn_on : (begun more : List Statement) (sent : List Envelope) (lsid : Lsid) (number : ℤ)
    (t : Transaction) → TxnHas begun sent lsid number t
    → TxnHas (begun ++ more) sent lsid number t
txn_on begun more sent lsid number t h = record {
  stated = elim h.stated [
    | inl bare ↦ inl bare
    | inr stated ↦ inr (stated_on begun more t.tag lsid number stated)
  ];
  kept = h.kept;
  given = h.given;
}

doing_on : (begun more : List Statement) (sent : List Envelope) (lsid : Lsid) (number : ℤ)
    (doing : Doing) → DoingHas begun sent lsid number doing
    → DoingHas (begun ++ more) sent lsid number doing
doing_on begun more sent lsid number (Begun t) h = txn_on begun more sent lsid number t h
doing_on begun more sent lsid number (Sought seeking known) h = tt

pub has_on : (begun more : List Statement) (sent : List Envelope) (entries : BySession Session)
    → All (EntryHas begun sent) entries → All (EntryHas (begun ++ more) sent) entries
has_on begun more sent entries h =
    All-weaker (EntryHas begun sent) (EntryHas (begun ++ more) sent)
    (λ entry k. doing_on begun more sent entry.0 entry.1.number entry.1.doing k) entries h

-- Messages.

of_from : (n : ℕ) (h : Hand) (asker : Asker) → is_of n asker.conn h ≡ true
    → is_from h.conn (Some asker) ≡ true
of_from n h asker e = nat_sym asker.conn h.conn
    ∙ (both_true (nat_eq h.router n) (nat_eq h.conn asker.conn) e).1

from_of : (n : ℕ) (h : Hand) (asker : Asker) → nat_eq h.router n ≡ true
    → is_from h.conn (Some asker) ≡ true → is_of n asker.conn h ≡ true
from_of n h asker here e = and_both (nat_eq h.router n) (nat_eq h.conn asker.conn) here
    (nat_sym h.conn asker.conn ∙ e)

nobody : {X : Type 0} (conn : ℕ) (o : Option Asker) → o ≡ None → is_from conn o ≡ true → X
nobody conn o e from = not_both (is_from conn o) from (ap (is_from conn) e)

module _ (n : ℕ) (sent : List Envelope) (h : Hand) (here : nat_eq h.router n ≡ true) where
  if_rights : (asker : Option Asker) (r : Reply)
      → (is_from h.conn asker ≡ true → CausedBy sent h.tag r)
      → All (Caused n sent h) (told_if asker r)
  if_rights None r f = All-nil (Caused n sent h)
  if_rights (Some asker) r f =
      one (Caused n sent h) (told asker r) (λ e. f (of_from n h asker e))

  if_waits : (asker : Option Asker) (r : Reply) → is_from h.conn asker ≡ true
      → replied_to n h (told_if asker r) ≡ true
  if_waits None r e = nobody h.conn None refl e
  if_waits (Some asker) r e =
      or_left (is_of n asker.conn h) false (from_of n h asker here e)

  heard_goes : (begun : List Statement) (lsid : Lsid) (old : Doing) (d : Deed)
      → (is_from h.conn (asker_of old) ≡ true → TagFits h.tag old)
      → Hears begun sent lsid old d → Goes n sent h lsid old d
  heard_goes begun lsid old d fits e =
      elim e.goes [
        | inl w ↦ record {
          fits = λ from. w.tag h.tag (fits (ap (is_from h.conn) (sym w.asker) ∙ from));
          rights = subst (All (Caused n sent h)) (sym w.replies) (All-nil (Caused n sent h));
          waits = λ from. or_left (is_from h.conn (asker_of d.session.doing))
              (replied_to n h d.given.replies) (ap (is_from h.conn) w.asker ∙ from);
        }
        | inr t ↦ record {
          fits = λ from. nobody h.conn (asker_of d.session.doing) t.nobody from;
          rights = subst (All (Caused n sent h)) (sym t.replies)
              (if_rights (asker_of old) t.reply (λ from. elim (fits from) [
                | inl is ↦ subst (λ (x : Option Tag). CausedBy sent x t.reply) (sym is) t.caused
                | inr none ↦ absurd (t.asks none)
              ]));
          waits = λ from. or_right (is_from h.conn (asker_of d.session.doing))
              (replied_to n h d.given.replies)
              (ap (λ (l : List Sent). replied_to n h l) t.replies
              ∙ if_waits (asker_of old) t.reply from);
        }
      ]

  gone_goes : (begun : List Statement) (lsid : Lsid) (conn : ℕ) (old : Doing) (d : Deed)
      → nat_eq h.conn conn ≡ false
      → (is_from h.conn (asker_of old) ≡ true → TagFits h.tag old)
      → Ends begun sent lsid conn old d → Goes n sent h lsid old d
  gone_goes begun lsid conn old d apart fits e =
      elim e.goes [
        | inl w ↦ record {
          fits = λ from. w.tag h.tag (fits (ap (is_from h.conn) (sym w.asker) ∙ from));
          rights = subst (All (Caused n sent h)) (sym w.replies) (All-nil (Caused n sent h));
          waits = λ from. or_left (is_from h.conn (asker_of d.session.doing))
              (replied_to n h d.given.replies) (ap (is_from h.conn) w.asker ∙ from);
        }
        | inr t ↦ record {
          fits = λ from. nobody h.conn (asker_of d.session.doing) t.nobody from;
          rights = subst (All (Caused n sent h)) (sym t.replies) (All-nil (Caused n sent h));
          waits = λ from. not_both (is_from h.conn (asker_of old)) from
              (other_from (asker_of old) t.from);
        }
      ]
    where
      other_from : (o : Option Asker) → is_from conn o ≡ true → is_from h.conn o ≡ false
      other_from None e = refl
      other_from (Some asker) e =
          ap (λ (c : ℕ). nat_eq c h.conn) (nat_is asker.conn conn e) ∙ nat_sym conn h.conn ∙ apart

  -- in each session
  module _ (act : Lsid → Session → Deed) where
    abbrev GoesIn : Lsid × Session → Type 0
    GoesIn entry = Goes n sent h entry.0 entry.1.doing (act entry.0 entry.1)

    record EachMoves (entries : BySession Session) : Type 0 where
      fits : All (Fits h) (each_session act entries).0
      rights : All (Caused n sent h) (each_session act entries).1.replies
      waits : waits_in h.conn entries ≡ true
          → (waits_in h.conn (each_session act entries).0
          || replied_to n h (each_session act entries).1.replies) ≡ true

    each_moves : (entries : BySession Session) → All GoesIn entries → EachMoves entries
    each_moves [] f = record {
      fits = All-nil (Fits h);
      rights = All-nil (Caused n sent h);
      waits = λ e. let no : false ≡ true = e in cc;
    }
    each_moves (entry ∷ entries) f =
        let first = All-head GoesIn entry entries f in
        let more = each_moves entries (All-tail GoesIn entry entries f) in
        let d = act entry.0 entry.1 in
        let rest = each_session act entries in
        record {
          fits = All-cons (Fits h) (entry.0, d.session) rest.0 first.fits more.fits;
          rights = All-append (Caused n sent h) d.given.replies rest.1.replies first.rights
              more.rights;
          waits = λ e.
              ap (λ (b : Bool).
              (is_from h.conn (asker_of d.session.doing) || waits_in h.conn rest.0)
              || b) (list_any-append (λ (s : Sent). is_of n s.conn h) d.given.replies
              rest.1.replies)
              ∙ four_or (is_from h.conn (asker_of entry.1.doing)) (waits_in h.conn entries)
              (is_from h.conn (asker_of d.session.doing)) (waits_in h.conn rest.0)
              (replied_to n h d.given.replies) (replied_to n h rest.1.replies)
              first.waits more.waits
              e;
        }

    each_moved : (entries : BySession Session) → waits_in h.conn entries ≡ true
        → All GoesIn entries
        → Moves n sent h (each_session act entries).0 (each_session act entries).1.replies
    each_moved entries waits f =
        let m = each_moves entries f in
        record { fits = m.fits; rights = m.rights; waits = m.waits waits }

  still_moves : (sessions : BySession Session) → IsHeld h sessions → Moves n sent h sessions []
  still_moves sessions k = record {
    fits = k.fits;
    rights = All-nil (Caused n sent h);
    waits = or_left (waits_in h.conn sessions) false k.waits;
  }

  -- Requests of other connections.

  spared_moves : (conn : ℕ) (old : BySession Session) (m : Move) → (h.conn ≡ conn → ⊥)
      → Spares conn old m → IsHeld h old → Moves n sent h m.state.sessions m.given.replies
  spared_moves conn old m apart s k = record {
    fits = All-weaker (EntryOf conn old) (Fits h) (λ entry x. elim x [
      | inl there ↦ All-contains (Fits h) old entry k.fits there
      | inr fits ↦ λ from. not_both (is_from h.conn (asker_of entry.1.doing)) from
          (not_others h.conn conn (asker_of entry.1.doing) apart fits)
    ]) m.state.sessions s.entries;
    rights = All-weaker (ToIt conn) (Caused n sent h) (λ x to e. absurd (apart
        (nat_is h.conn x.conn (both_true (nat_eq h.router n) (nat_eq h.conn x.conn) e).1 ∙ to)))
        m.given.replies s.replies;
    waits = or_left (waits_in h.conn m.state.sessions) (replied_to n h m.given.replies)
        (s.waits h.conn apart k.waits);
  }

  -- The request itself.

  any_told : (replies : List Sent) (s : Sent) → Contains replies s → is_of n s.conn h ≡ true
      → replied_to n h replies ≡ true
  any_told [] s c e = none_there s c
  any_told (x ∷ replies) s c e =
      elim (has_cases x replies s c) [
        | inl same ↦ or_left (is_of n x.conn h) (replied_to n h replies)
            (ap (λ (y : Sent). is_of n y.conn h) (sym same) ∙ e)
        | inr there ↦ or_right (is_of n x.conn h) (replied_to n h replies)
            (any_told replies s there e)
      ]

  own_moves : (begun : List Statement) (conn : ℕ) (old : BySession Session) (m : Move)
      → h.conn ≡ conn → waits_in conn old ≡ false → Serves begun sent conn h.tag old m
      → Moves n sent h m.state.sessions m.given.replies
  own_moves begun conn old m same none s = record {
    fits = All-weaker (OldOrNew begun sent conn h.tag old) (Fits h) (λ entry x. elim x [
      | inl there ↦ λ from. not_both (is_from h.conn (asker_of entry.1.doing)) from
          (ap (λ (c : ℕ). is_from c (asker_of entry.1.doing)) same
          ∙ All-contains (λ (entry : Lsid × Session). is_from conn (asker_of entry.1.doing) ≡ false)
          old entry (none_waits conn old none) there)
      | inr new ↦ λ from. new.fits (ap (λ (c : ℕ). is_from c (asker_of entry.1.doing)) (sym same)
          ∙ from)
    ]) m.state.sessions s.entries;
    rights = All-weaker PlainSent (Caused n sent h) (λ x plain e.
        plain_caused sent h.tag x.reply plain) m.given.replies s.plain;
    waits = elim s.own [
      | inl w ↦ or_left (waits_in h.conn m.state.sessions) (replied_to n h m.given.replies)
          (ap (λ (c : ℕ). waits_in c m.state.sessions) same ∙ w)
      | inr t ↦ or_right (waits_in h.conn m.state.sessions) (replied_to n h m.given.replies)
          (any_told m.given.replies t.0 t.1
          (and_both (nat_eq h.router n) (nat_eq h.conn t.0.conn) here
          (ap (λ (c : ℕ). nat_eq c t.0.conn) (same ∙ sym t.2) ∙ same_nat t.0.conn)))
    ];
  }

both_all : {A : Type 0} (P Q R : A → Type 0) → ((x : A) → P x → Q x → R x) → (xs : List A)
    → All P xs → All Q xs → All R xs
both_all P Q R f xs p q =
    contained R xs (λ x c. f x (All-contains P xs x p c) (All-contains Q xs x q c))

-- What a step leaves of requests in hand.

-- the statements that a step sends
abbrev pub parts_of : NodeAnswer → List Statement
parts_of a = map (λ (part : ℕ × Statement). part.1) (statements_in a)

no_new : (n : ℕ) (begun : List Statement) (sent : List Envelope) (hands : List Hand) (m : Move)
    → All (EntryHas begun sent) m.state.sessions
    → All (HandMoves n sent m.state.sessions m.given.replies) hands
    → HeldMoves n begun sent (hands ++ []) m
no_new n begun sent hands m has f = record {
  has = has;
  all = All-append (HandMoves n sent m.state.sessions m.given.replies) hands [] f
      (All-nil (HandMoves n sent m.state.sessions m.given.replies));
}

still_held : (n : ℕ) (begun more : List Statement) (sent : List Envelope) (hands : List Hand)
    (m : Move) (old : BySession Session) → m.state.sessions ≡ old → m.given.replies ≡ []
    → Holds n begun sent hands old → HeldMoves n (begun ++ more) sent (hands ++ []) m
still_held n begun more sent hands m old e none k =
    no_new n (begun ++ more) sent hands m
    (subst (All (EntryHas (begun ++ more) sent)) (sym e) (has_on begun more sent old k.has))
    (subst (λ (xs : BySession Session). All (HandMoves n sent xs m.given.replies) hands) (sym e)
    (subst (λ (l : List Sent). All (HandMoves n sent old l) hands) (sym none)
    (All-weaker (IfHere n old) (HandMoves n sent old [])
    (λ h f router. still_moves n sent h (here_is n h router) old (f router)) hands k.hold)))

apart_if : (h : Hand) (conn : ℕ) (old : BySession Session) → waits_in h.conn old ≡ true
    → waits_in conn old ≡ false → h.conn ≡ conn → ⊥
apart_if h conn old waits none same =
    not_both (waits_in conn old) (ap (λ (c : ℕ). waits_in c old) (sym same) ∙ waits) none

spared_all : (n : ℕ) (begun : List Statement) (sent : List Envelope) (hands : List Hand) (conn : ℕ)
    (old : BySession Session) (m : Move) → waits_in conn old ≡ false → Spares conn old m
    → Holds n begun sent hands old
    → All (HandMoves n sent m.state.sessions m.given.replies) hands
spared_all n begun sent hands conn old m none s k =
    All-weaker (IfHere n old) (HandMoves n sent m.state.sessions m.given.replies)
    (λ h f router. spared_moves n sent h (here_is n h router) conn old m
    (apart_if h conn old (f router).waits none) s (f router)) hands k.hold

spared_held : (n : ℕ) (begun more : List Statement) (sent : List Envelope) (hands : List Hand)
    (conn : ℕ) (old : BySession Session) (m : Move) → waits_in conn old ≡ false
    → m.state.sessions ≡ old → Spares conn old m → Holds n begun sent hands old
    → HeldMoves n (begun ++ more) sent (hands ++ []) m
spared_held n begun more sent hands conn old m none same s k =
    no_new n (begun ++ more) sent hands m
    (subst (All (EntryHas (begun ++ more) sent)) (sym same) (has_on begun more sent old k.has))
    (spared_all n begun sent hands conn old m none s k)

hand_conn : (n : ℕ) (begun : List Statement) (r : RouterState) (asked : Asked)
    (ms : List Statement) → (hand_by n begun r asked ms).conn ≡ asked.0
hand_conn n begun r asked [] = refl
hand_conn n begun r asked (m ∷ ms) = refl

request_held : (n : ℕ) (begun more : List Statement) (sent : List Envelope) (r : RouterState)
    (hands : List Hand) (conn : ℕ) (q : Request) (a : NodeAnswer) (old : BySession Session)
    (m : Move) → waits_in conn old ≡ false → Spares conn old m
    → Serves (begun ++ more) sent conn (hand_by n begun r (conn, q) (parts_of a)).tag old m
    → Holds n begun sent hands old
    → HeldMoves n (begun ++ more) sent (hands ++ hands_of n begun r (Some (conn, q)) a) m
request_held n begun more sent r hands conn q a old m none spares s k =
    let h = hand_by n begun r (conn, q) (parts_of a) in
    record {
      has = new_has (begun ++ more) sent conn h.tag old m.state.sessions
          (has_on begun more sent old k.has) s.entries;
      all = All-append (HandMoves n sent m.state.sessions m.given.replies) hands (h ∷ [])
          (spared_all n begun sent hands conn old m none spares k)
          (one (HandMoves n sent m.state.sessions m.given.replies) h (λ router.
          own_moves n sent h (here_is n h router) (begun ++ more) conn old m
          (hand_conn n begun r (conn, q) (parts_of a)) none s));
    }

serves_on : (begun more : List Statement) (sent : List Envelope) (conn : ℕ) (tag : Option Tag)
    (old : BySession Session) (m : Move) → Serves begun sent conn tag old m
    → Serves (begun ++ more) sent conn tag old m
serves_on begun more sent conn tag old m s = record {
  entries = All-weaker (OldOrNew begun sent conn tag old) (OldOrNew (begun ++ more) sent conn tag
      old) (λ entry x. elim x [
        | inl there ↦ inl there
        | inr new ↦ inr (record {
          has = doing_on begun more sent entry.0 entry.1.number entry.1.doing new.has;
          fits = new.fits;
        })
      ]) m.state.sessions s.entries;
  plain = s.plain;
  own = s.own;
}

-- A statement.

asked_case : (begun : List Statement) (sent : List Envelope) (asker : Asker)
    (old : BySession Session) (chunks : Map) (op : Op) (m : Move) (more : List Statement)
    (tag : Option Tag) (w : AsksSo begun sent asker old chunks op m) (shards : List ℕ)
    → shards_of chunks op ≡ shards
    → more ≡ map (λ (part : ℕ × Statement). part.1)
    (map (part_for chunks w.lsid w.number w.t op) shards)
    → ((first : Statement) (others : List Statement) → more ≡ first ∷ others
    → tag ≡ Some first.tag)
    → Serves (begun ++ more) sent asker.conn tag old m
asked_case begun sent asker old chunks op m more tag w [] none parts first =
    let v = st.asks chunks w.lsid w.number asker op w.t in
    put_serves (begun ++ more) sent asker.conn tag old m w.lsid v.session w.sessions
    (record {
      stated = elim w.has.stated [
        | inl bare ↦ inl (record {
          parts = ap (λ (s : List ℕ). fold with_shard w.t.parts s) none ∙ bare.parts;
          wrote = bare.wrote;
          waiting = ap (map (st.statement_to chunks w.lsid w.number w.t op)) none;
          phase = tt;
        })
        | inr stated ↦ inr (stated_on begun more w.t.tag w.lsid w.number stated)
      ];
      kept = w.has.kept;
      given = All-nil (IsGiven sent w.t.tag);
    })
    (λ from. inr (ap (map (st.statement_to chunks w.lsid w.number w.t op)) none, tt))
    (subst (All PlainSent) (sym w.replies) (All-nil PlainSent))
    (inl (same_nat asker.conn))
asked_case begun sent asker old chunks op m more tag w (shard ∷ shards) is parts first =
    let v = st.asks chunks w.lsid w.number asker op w.t in
    let part = (part_for chunks w.lsid w.number w.t op shard).1 in
    let others = map (λ (part : ℕ × Statement). part.1)
    (map (part_for chunks w.lsid w.number w.t op) shards) in
    put_serves (begun ++ more) sent asker.conn tag old m w.lsid v.session w.sessions
    (record {
      stated = inr (record {
        statement = part;
        among = Contains-append_right begun more part
            (subst (λ (l : List Statement). Contains l part) (sym parts) (has_first part others));
        tag_is = refl;
        lsid_is = refl;
        number_is = refl;
      });
      kept = w.has.kept;
      given = All-nil (IsGiven sent w.t.tag);
    })
    (λ from. inl (first part others parts))
    (subst (All PlainSent) (sym w.replies) (All-nil PlainSent))
    (inl (same_nat asker.conn))

first_tag : (n : ℕ) (begun : List Statement) (r : RouterState) (asked : Asked)
    (ms : List Statement) (first : Statement) (others : List Statement) → ms ≡ first ∷ others
    → (hand_by n begun r asked ms).tag ≡ Some first.tag
first_tag n begun r asked ms first others e =
    ap (λ (l : List Statement). (hand_by n begun r asked l).tag) e

parts_are_so : (begun : List Statement) (sent : List Envelope) (asker : Asker)
    (old : BySession Session) (chunks : Map) (op : Op) (m : Move) (c : Option ℕ)
    (replies : List (ℕ × List ℕ)) (closed : Option ℕ) (w : AsksSo begun sent asker old chunks op m)
    → parts_of (told_by c m replies closed) ≡ map (λ (part : ℕ × Statement). part.1)
    (map (part_for chunks w.lsid w.number w.t op) (shards_of chunks op))
parts_are_so begun sent asker old chunks op m c replies closed w =
    ap (map (λ (part : ℕ × Statement). part.1))
    (skipped _ m.state.time m.given.aborts m.given.sends w.aborts
    ∙ ap (parts_from _ m.state.time) w.sends
    ∙ parts_are _ m.state.time chunks w.lsid w.number w.t op (shards_of chunks op))

statement_serves : (n : ℕ) (begun : List Statement) (sent : List Envelope) (r s : RouterState)
    (asker : Asker) (op : Op) (q : Request) (m : Move) (c : Option ℕ)
    (replies : List (ℕ × List ℕ)) (closed : Option ℕ)
    → StatesSo begun sent asker s.sessions s.chunks op m
    → Serves (begun ++ parts_of (told_by c m replies closed)) sent asker.conn
    (hand_by n begun r (asker.conn, q) (parts_of (told_by c m replies closed))).tag s.sessions m
statement_serves n begun sent r s asker op q m c replies closed (inl w) =
    same_serves (begun ++ parts_of (told_by c m replies closed)) sent asker.conn _ s.sessions m
    w.sessions (subst (All PlainSent) (sym w.replies) (one PlainSent (told asker w.why) w.plain))
    (subst (Told asker.conn) (sym w.replies)
    (told asker w.why, has_first (told asker w.why) [], refl))
statement_serves n begun sent r s asker op q m c replies closed (inr w) =
    let more = parts_of (told_by c m replies closed) in
    asked_case begun sent asker s.sessions s.chunks op m more _ w (shards_of s.chunks op) refl
    (parts_are_so begun sent asker s.sessions s.chunks op m c replies closed w)
    (first_tag n begun r (asker.conn, q) more)

-- The transaction of a request to commit.

find_some : {A : Type 0} (p : A → Bool) (xs : List A) (x : A) → Contains xs x → p x ≡ true
    → (y : A) × (find p xs ≡ Some y)
find_some p [] x c e = none_there x c
find_some p (z ∷ xs) x c e = by (p z) refl (has_cases z xs x c) (λ d. find_some p xs x d e)
  where
    by : (test : Bool) → p z ≡ test → (x ≡ z) ⊎ Contains xs x
        → (Contains xs x → (y : _) × (find p xs ≡ Some y))
        → (y : _) × (find p (z ∷ xs) ≡ Some y)
    by true is c more = (z, ap (λ (b : Bool). cond b (Some z) (find p xs)) is)
    by false is (inl same) more = not_both (p z) (ap p (sym same) ∙ e) is
    by false is (inr d) more =
        let k = more d in (k.0, ap (λ (b : Bool). cond b (Some z) (find p xs)) is ∙ k.1)

-- what is known of the statements that were sent, at the router
pub record Known (begun : List Statement) (r : RouterState) : Type 0 where
  pub come : (m : Statement) → Contains begun m → m.tag.router ≡ r.number → m.tag.boot ≡ r.boot
      → HasCome r (record { tag = m.tag; lsid = m.lsid; number = m.number })
  pub own : (lsid : Lsid) (v : Session) (t : Transaction) → session_of r lsid ≡ Some v
      → v.doing ≡ Begun t → (t.tag.router ≡ r.number) × (t.tag.boot ≡ r.boot)

record Tested (r : RouterState) (txn : Txn) (m : Statement) : Type 0 where
  router : m.tag.router ≡ r.number
  boot : m.tag.boot ≡ r.boot
  lsid : m.lsid ≡ txn.lsid
  number : m.number ≡ txn.number

tested : (r : RouterState) (txn : Txn) (m : Statement) → is_begun r.number r.boot txn m ≡ true
    → Tested r txn m
tested r txn m e =
    let a = both_true (nat_eq m.tag.router r.number && nat_eq m.tag.boot r.boot
    && same_lsid m.lsid txn.lsid) (int_eq m.number txn.number) e in
    let b = both_true (nat_eq m.tag.router r.number && nat_eq m.tag.boot r.boot)
    (same_lsid m.lsid txn.lsid) a.0 in
    let c = both_true (nat_eq m.tag.router r.number) (nat_eq m.tag.boot r.boot) b.0 in
    record {
      router = nat_is m.tag.router r.number c.0;
      boot = nat_is m.tag.boot r.boot c.1;
      lsid = lsid_same m.lsid txn.lsid b.1;
      number = (Decides-int_eq m.number txn.number).0 a.1;
    }

tests : (r : RouterState) (txn : Txn) (m : Statement) → Tested r txn m
    → is_begun r.number r.boot txn m ≡ true
tests r txn m t =
    and_both _ _ (and_both _ _ (and_both _ _
    (ap (λ (n : ℕ). nat_eq n r.number) t.router ∙ same_nat r.number)
    (ap (λ (n : ℕ). nat_eq n r.boot) t.boot ∙ same_nat r.boot))
    (ap (λ (l : Lsid). same_lsid l txn.lsid) t.lsid ∙ lsid_self txn.lsid))
    ((Decides-int_eq m.number txn.number).1 t.number)

not_below : (a : ℤ) → a <ℤ a → ⊥
not_below a h = omega (arith, ints, h)

not_old : (s : Session) (number : ℤ) → rf.too_old (Some s) number ≡ None → number <ℤ s.number → ⊥
not_old s number e h = by (int_lt number s.number) refl e
  where
    by : (b : Bool) → int_lt number s.number ≡ b
        → (if b then Some (reply.TooOld number s.number) else None) ≡ None → ⊥
    by true f g = no_some (reply.TooOld number s.number) (sym g)
    by false f g = omega (arith, ints, f, h)

module _ (begun : List Statement) (r : RouterState) (k : Known begun r) (txn : Txn) where
  abbrev found : Option Statement
  found = find (is_begun r.number r.boot txn) begun

  record HasSession (m : Statement) : Type 0 where
    session : Session
    there : session_of r txn.lsid ≡ Some session
    comes : (txn.number <ℤ session.number)
        ⊎ ((session.number ≡ txn.number) × IsIn m.tag session.doing)

  has_session : (m : Statement) → found ≡ Some m → HasSession m
  has_session m e =
      let f = found_passes (is_begun r.number r.boot txn) begun m e in
      let t = tested r txn m f.1 in
      let h = k.come m f.0 t.router t.boot in
      record {
        session = h.0;
        there = ap (session_of r) (sym t.lsid) ∙ h.1;
        comes = elim h.2 [
          | inl less ↦ inl (subst (λ (n : ℤ). n <ℤ h.0.number) t.number less)
          | inr same ↦ inr (same.0 ∙ t.number, same.1)
        ];
      }

  own_tag : (x : Transaction) → rf.begun_in (session_of r txn.lsid) txn.number ≡ Some x
      → Stated begun x.tag txn.lsid txn.number → (m : Statement) × ((found ≡ Some m)
      × (m.tag ≡ x.tag))
  own_tag x e stated =
      let b = begins.is_begun (session_of r txn.lsid) txn.number x e in
      let own = k.own txn.lsid b.there x b.is b.doing in
      let m0 = stated.statement in
      let some = find_some (is_begun r.number r.boot txn) begun m0 stated.among
      (tests r txn m0 (record {
        router = ap (λ (t : Tag). t.router) stated.tag_is ∙ own.0;
        boot = ap (λ (t : Tag). t.boot) stated.tag_is ∙ own.1;
        lsid = stated.lsid_is;
        number = stated.number_is;
      })) in
      let h = has_session some.0 some.1 in
      let one : h.session ≡ b.there = some_is h.session b.there (sym h.there ∙ b.is) in (
        some.0,
        (
          some.1,
          elim h.comes [
            | inl less ↦ absurd (not_below txn.number (subst (λ (n : ℤ). txn.number <ℤ n)
                (ap (λ (s : Session). s.number) one ∙ b.number_is) less))
            | inr same ↦ sym (subst (IsIn some.0.tag)
                (ap (λ (s : Session). s.doing) one ∙ b.doing) same.1)
          ],
        ),
      )

  none_found : rf.begun_in (session_of r txn.lsid) txn.number ≡ None
      → rf.too_old (session_of r txn.lsid) txn.number ≡ None → found ≡ None
  none_found none low = by found refl
    where
      in_case : (m : Statement) (s : Session) (doing : Doing) → s.doing ≡ doing
          → session_of r txn.lsid ≡ Some s → s.number ≡ txn.number → IsIn m.tag doing
          → found ≡ None
      in_case m s (Begun t) is there same h =
          let so : rf.begun_in (session_of r txn.lsid) txn.number ≡ Some t =
          ap (λ (o : Option Session). rf.begun_in o txn.number) there
          ∙ begun_found s txn.number t is ((Decides-int_eq s.number txn.number).1 same) in
          no_some t (sym none ∙ so)
      in_case m s (Sought seeking known) is there same h = absurd h

      by : (o : Option Statement) → found ≡ o → found ≡ None
      by None e = e
      by (Some m) e =
          let h = has_session m e in
          elim h.comes [
            | inl less ↦ absurd (not_old h.session txn.number
                (ap (λ (o : Option Session). rf.too_old o txn.number) (sym h.there) ∙ low) less)
            | inr same ↦ in_case m h.session h.session.doing refl h.there same.0 same.1
          ]

  tag_is : (time : Option ℕ) (wall : ℕ) (n conn : ℕ) (t : Option Token) (flag : Bool)
      (other : Option ℕ) (sent : List Envelope) (asker : Asker)
      (h : All (EntryHas begun sent) r.sessions) (free : is_waiting r asker.conn ≡ false)
      → TagIs begun sent (hand_by n begun r (conn, request.Commit (Some txn) t flag other) []).tag
      (met (walled r wall) time None) asker h free txn t
  tag_is time wall n conn t flag other sent asker h free = record {
    own = λ x e stated.
        let f = own_tag x e stated in
        ap (λ (o : Option Statement). option_or (option_map (λ (m : Statement). m.tag) o)
        (option_and_then tag_in t)) f.1.0 ∙ ap (λ (y : Tag). Some y) f.1.1;
    other = λ none low y shard boot e.
        ap (λ (o : Option Statement). option_or (option_map (λ (m : Statement). m.tag) o)
        (option_and_then tag_in t)) (none_found none low) ∙ ap (option_and_then tag_in) e;
  }

-- A message of a client.

no_parts : (c : Option ℕ) (m : Move) (replies : List (ℕ × List ℕ)) (closed : Option ℕ)
    → Quiet m.given → parts_of (told_by c m replies closed) ≡ []
no_parts c m replies closed q =
    ap (map (λ (part : ℕ × Statement). part.1))
    (skipped _ m.state.time m.given.aborts m.given.sends q.aborts
    ∙ ap (parts_from _ m.state.time) (sym (append-nil m.given.sends))
    ∙ skipped _ m.state.time m.given.sends [] q.sends)

-- what is known of what a message asks
pub record Asks (wants : Bool) (x : Result Request Unserved) : Type 0 where
  pub wanted : (q : Request) → x ≡ Ok q → wants ≡ true
  pub names : (q : Request) → x ≡ Ok q → NamesIn q
  pub txn : (q : Request) → x ≡ Ok q → NamesTxn q

module _ (n : ℕ) (begun : List Statement) (sent : List Envelope) (r : RouterState) (wall : ℕ)
    (conn : ℕ) (bytes : List ℕ) (hands : List Hand) (c : Option ℕ)
    (replies : List (ℕ × List ℕ)) (closed : Option ℕ) (known : Known begun r)
    (k : Holds n begun sent hands r.sessions) (free : is_waiting r conn ≡ false) where
  abbrev s : RouterState
  s = walled r wall

  abbrev asker : Asker
  asker = sp.asker_by conn bytes

  abbrev after : Move → NodeAnswer
  after m = told_by c m replies closed

  abbrev Held : Request → Move → Type 0
  Held q m = HeldMoves n (begun ++ parts_of (after m)) sent
      (hands ++ hands_of n begun r (Some (conn, q)) (after m)) m

  plain_held : (q : Request) (m : Move) → Spares conn r.sessions m
      → Serves begun sent conn (hand_by n begun r (conn, q) (parts_of (after m))).tag r.sessions m
      → Held q m
  plain_held q m spares serves =
      request_held n begun (parts_of (after m)) sent r hands conn q (after m) r.sessions
      m free spares
      (serves_on begun (parts_of (after m)) sent conn _ r.sessions m serves) k

  statement_held : (op : Op) (txn : Option Txn) (at later time : Option ℕ) (flag : Bool)
      → NamesClient txn
      → Held (request.Statement op txn at later flag time)
      (rq.statement (met s time later) asker txn op at)
  statement_held op txn at later time flag names =
      let R = met s time later in
      let m = rq.statement R asker txn op at in
      let q = request.Statement op txn at later flag time in
      request_held n begun (parts_of (after m)) sent r hands conn q (after m) r.sessions m free
      (spares_now asker R.sessions R.chunks op txn m (statement_now R asker txn op at names))
      (statement_serves n begun sent r R asker op q m c replies closed
      (statement_so begun sent R asker txn op at k.has)) k

  commit_held : (txn : Txn) (t : Option Token) (flag : Bool) (time : Option ℕ)
      → Held (request.Commit (Some txn) t flag time)
      (rq.commit (met s time None) asker (Some txn) t)
  unfolding rq.serves
  commit_held txn t flag time =
      let R = met s time None in
      let m = rq.commit R asker (Some txn) t in
      let q = request.Commit (Some txn) t flag time in
      let none = no_parts c m replies closed (commit_quiet R asker txn t) in
      let tag = (hand_by n begun r (conn, q) []).tag in
      let serves : Serves begun sent conn tag r.sessions m =
      commit_serves begun sent tag R asker k.has free txn t
      (tag_is begun r known txn time wall n conn t flag time sent asker k.has free) in
      plain_held q m (others_spare s asker (is_legacy bytes) q tt)
      (subst (λ (l : List Statement). Serves begun sent conn (hand_by n begun r (conn, q) l).tag
      r.sessions m) (sym none) serves)

  abort_held : (txn : Txn) (flag : Bool) (time : Option ℕ)
      → Held (request.Abort (Some txn) flag time) (rq.abort (met s time None) asker (Some txn))
  unfolding rq.serves
  abort_held txn flag time =
      let R = met s time None in
      let m = rq.abort R asker (Some txn) in
      let q = request.Abort (Some txn) flag time in
      plain_held q m (others_spare s asker (is_legacy bytes) q tt)
      (abort_serves begun sent _ R asker k.has free txn)

  served_held : (q : Request) → NamesIn q → NamesTxn q
      → Held q (rq.serves s asker (is_legacy bytes) q)
  unfolding rq.serves
  served_held (request.Statement op txn at later flag time) names txns =
      statement_held op txn at later time flag names
  served_held (request.Commit txn t flag time) names txns =
      subst (λ (x : Option Txn). Held (request.Commit x t flag time)
      (rq.commit (met s time None) asker x t)) (sym txns.1) (commit_held txns.0 t flag time)
  served_held (request.Abort txn flag time) names txns =
      subst (λ (x : Option Txn). Held (request.Abort x flag time)
      (rq.abort (met s time None) asker x)) (sym txns.1) (abort_held txns.0 flag time)
  served_held (request.Ping flag time) names txns =
      plain_held (request.Ping flag time) (told_also (still (met s time None)) asker
      (is_legacy bytes) reply.Ping)
      (others_spare s asker (is_legacy bytes) (request.Ping flag time) tt)
      (still_serves begun sent conn _ (met s time None) asker (is_legacy bytes) reply.Ping refl tt)
  served_held (request.Hello old_name flag time) names txns =
      plain_held (request.Hello old_name flag time) (told_also (still (met s time None)) asker
      (is_legacy bytes) (reply.Hello old_name s.wall asker.conn))
      (others_spare s asker (is_legacy bytes) (request.Hello old_name flag time) tt)
      (still_serves begun sent conn _ (met s time None) asker (is_legacy bytes)
      (reply.Hello old_name s.wall asker.conn) refl tt)
  served_held (request.EndSessions ids flag time) names txns =
      plain_held (request.EndSessions ids flag time) (told_also (en.end_sessions
      (met s time None) ids) asker (is_legacy bytes) (reply.Ended None))
      (others_spare s asker (is_legacy bytes) (request.EndSessions ids flag time) tt)
      (ends_serves begun sent conn _ (met s time None) ids asker (is_legacy bytes) refl k.has)

  err_held : (why : Unserved) (m : Move) → m.state.sessions ≡ r.sessions
      → Spares conn r.sessions m
      → HeldMoves n (begun ++ parts_of (after m)) sent (hands ++ []) m
  err_held why m same spares =
      spared_held n begun (parts_of (after m)) sent hands conn r.sessions m free same spares k

  free_held : (wants : Bool) (x : Result Request Unserved) → Asks wants x
      → HeldMoves n
      (begun ++ parts_of (after (sp.unless_silent wants (sp.served s conn bytes x)))) sent
      (hands ++ hands_of n begun r (asked_by conn x)
      (after (sp.unless_silent wants (sp.served s conn bytes x))))
      (sp.unless_silent wants (sp.served s conn bytes x))
  free_held true (Ok q) asks = served_held q (asks.names q refl) (asks.txn q refl)
  free_held false (Ok q) asks = not_both false (asks.wanted q refl) refl
  free_held true (Err (un.Told why)) asks =
      err_held (un.Told why) (sp.served s conn bytes (Err (un.Told why))) refl
      (spares_told s asker (is_legacy bytes) _)
  free_held false (Err (un.Told why)) asks =
      err_held (un.Told why) (sp.unless_silent false (sp.served s conn bytes (Err (un.Told why))))
      refl (spares_still conn r.sessions
      (sp.unless_silent false (sp.served s conn bytes (Err (un.Told why)))) refl
      (All-nil (ToIt conn)))
  free_held true (Err (un.Closed code)) asks =
      err_held (un.Closed code) (still s) refl
      (spares_still conn r.sessions (still s) refl (All-nil (ToIt conn)))
  free_held false (Err (un.Closed code)) asks =
      err_held (un.Closed code) (sp.unless_silent false (still s)) refl
      (spares_still conn r.sessions (sp.unless_silent false (still s)) refl (All-nil (ToIt conn)))
  free_held true (Err un.Memory) asks =
      err_held un.Memory (still s) refl
      (spares_still conn r.sessions (still s) refl (All-nil (ToIt conn)))
  free_held false (Err un.Memory) asks =
      err_held un.Memory (sp.unless_silent false (still s)) refl
      (spares_still conn r.sessions (sp.unless_silent false (still s)) refl (All-nil (ToIt conn)))

-- An event.

module _ (n : ℕ) (begun : List Statement) (sent : List Envelope) (r : RouterState) (wall : ℕ)
    (hands : List Hand) (c : Option ℕ) (replies : List (ℕ × List ℕ)) (closed : Option ℕ)
    (known : Known begun r) (k : Holds n begun sent hands r.sessions) where
  client_held : (conn : ℕ) (bytes : List ℕ) (wants test : Bool) (x : Result Request Unserved)
      → is_waiting r conn ≡ test → Asks wants x
      → HeldMoves n (begun ++ parts_of (told_by c (if test then still (walled r wall)
      else sp.unless_silent wants (sp.served (walled r wall) conn bytes x)) replies closed)) sent
      (hands ++ hands_of n begun r (if test then None else asked_by conn x)
      (told_by c (if test then still (walled r wall)
      else sp.unless_silent wants (sp.served (walled r wall) conn bytes x)) replies closed))
      (if test then still (walled r wall)
      else sp.unless_silent wants (sp.served (walled r wall) conn bytes x))
  client_held conn bytes wants true x waits asks =
      still_held n begun _ sent hands (still (walled r wall)) r.sessions refl refl k
  client_held conn bytes wants false x waits asks =
      free_held n begun sent r wall conn bytes hands c replies closed known k waits wants x asks

  -- in each session
  act_held : (more : List Statement) (q : RouterState) (act : Lsid → Session → Deed)
      → q.sessions ≡ r.sessions
      → ((lsid : Lsid) (v : Session) → EntryHas begun sent (lsid, v)
      → Hears begun sent lsid v.doing (act lsid v))
      → HeldMoves n (begun ++ more) sent (hands ++ []) (in_each_session act q)
  act_held more q act same f =
      let m = in_each_session act q in
      let has = subst (All (EntryHas begun sent)) (sym same) k.has in
      let held = subst (λ (ys : BySession Session). All (IfHere n ys) hands) (sym same) k.hold in
      no_new n (begun ++ more) sent hands m
      (has_on begun more sent (each_session act q.sessions).0 (each_has q.sessions has))
      (All-weaker (IfHere n q.sessions) (HandMoves n sent (each_session act q.sessions).0
      (each_session act q.sessions).1.replies) (λ h g router.
      let mine = g router in
      each_moved n sent h (here_is n h router) act q.sessions mine.waits
      (both_all (EntryHas begun sent) (Fits h) (GoesIn n sent h (here_is n h router) act)
      (λ entry e fits. heard_goes n sent h (here_is n h router) begun entry.0 entry.1.doing
      (act entry.0 entry.1) fits (f entry.0 entry.1 e)) q.sessions has mine.fits))
      hands held)
    where
      each_has : (xs : BySession Session) → All (EntryHas begun sent) xs
          → All (EntryHas begun sent) (each_session act xs).0
      each_has [] h = All-nil (EntryHas begun sent)
      each_has (entry ∷ xs) h =
          All-cons (EntryHas begun sent) (entry.0, (act entry.0 entry.1).session)
          (each_session act xs).0
          (f entry.0 entry.1 (All-head (EntryHas begun sent) entry xs h)).has
          (each_has xs (All-tail (EntryHas begun sent) entry xs h))

  gone_held : (more : List Statement) (conn : ℕ) (q : RouterState) → q.sessions ≡ r.sessions
      → HeldMoves n (begun ++ more) sent (without_conn n conn hands ++ [])
      (in_each_session (gone_from conn) q)
  gone_held more conn q same =
      let act = gone_from conn in
      let has = subst (All (EntryHas begun sent)) (sym same) k.has in
      let held = subst (λ (ys : BySession Session). All (IfHere n ys) hands) (sym same) k.hold in
      no_new n (begun ++ more) sent (without_conn n conn hands) (in_each_session act q)
      (has_on begun more sent (each_session act q.sessions).0 (each_has q.sessions has))
      (contained (HandMoves n sent (each_session act q.sessions).0
      (each_session act q.sessions).1.replies) (without_conn n conn hands) (λ h there router.
      let f = filter_has (λ (x : Hand). not (is_of n conn x)) hands h there in
      let here = here_is n h router in
      let g = All-contains (IfHere n q.sessions) hands h held f.0 router in
      each_moved n sent h here act q.sessions g.waits
      (both_all (EntryHas begun sent) (Fits h) (GoesIn n sent h here act)
      (λ entry e fits. gone_goes n sent h here begun entry.0 conn entry.1.doing
      (act entry.0 entry.1) (other_conn h here f.1) fits
      (gone_heard begun sent entry.0 entry.1.number conn entry.1.doing e)) q.sessions has g.fits)))
    where
      each_has : (xs : BySession Session) → All (EntryHas begun sent) xs
          → All (EntryHas begun sent) (each_session (gone_from conn) xs).0
      each_has [] h = All-nil (EntryHas begun sent)
      each_has (entry ∷ xs) h =
          All-cons (EntryHas begun sent) (entry.0, (gone_from conn entry.0 entry.1).session)
          (each_session (gone_from conn) xs).0
          (gone_heard begun sent entry.0 entry.1.number conn entry.1.doing
          (All-head (EntryHas begun sent) entry xs h)).has
          (each_has xs (All-tail (EntryHas begun sent) entry xs h))

      not_first : (a b : Bool) → a ≡ true → not (a && b) ≡ true → b ≡ false
      not_first true true e f = cc
      not_first true false e f = refl
      not_first false b e f = cc

      other_conn : (h : Hand) → nat_eq h.router n ≡ true → not (is_of n conn h) ≡ true
          → nat_eq h.conn conn ≡ false
      other_conn h here e = not_first (nat_eq h.router n) (nat_eq h.conn conn) here e

  delivered_held : (more : List Statement) (e : Envelope) → Contains sent e
      → (q : RouterState) → q.sessions ≡ r.sessions → (x : Msg) → e.msg ≡ x
      → HeldMoves n (begun ++ more) sent (hands ++ []) (sp.delivered q x)
  delivered_held more e among q same (msg.Answer a) is =
      act_held more q (answered_in a) same (λ lsid v has.
      answer_heard begun sent lsid v.number a e among is v.doing has)
  delivered_held more e among q same (msg.Outcome o) is =
      act_held more q (ended_in o) same (λ lsid v has.
      outcome_heard begun sent lsid v.number o e among is v.doing has)
  delivered_held more e among q same other is =
      still_held n begun more sent hands (still q) r.sessions same refl k

  pub happened_held : (w : Happening) (e : NodeEvent) → e ≡ record { wall = wall; what = w }
      → ((env : Envelope) → w ≡ what.Deliver env → Contains sent env)
      → HeldMoves n
      (begun ++ parts_of (told_by c (sp.happened (walled r wall) w) replies closed)) sent
      (held_in n begun r e (told_by c (sp.happened (walled r wall) w) replies closed) hands)
      (sp.happened (walled r wall) w)
  happened_held (what.Client conn bytes) e is comes =
      rw is (client_held conn bytes (wants_reply bytes) (is_waiting r conn)
      (asked_in (walled r wall).wall bytes) refl
      (record {
        wanted = λ q asks. asked_wants (walled r wall).wall bytes q asks;
        names = λ q asks. asked_names (walled r wall).wall bytes q asks;
        txn = λ q asks. asked_txn (walled r wall).wall bytes q asks;
      }))
  happened_held (what.Gone conn) e is comes = rw is (gone_held _ conn (walled r wall) refl)
  happened_held (what.Deliver env) e is comes =
      rw is
      (delivered_held _ env (comes env refl) (timed (walled r wall) env.time) refl env.msg refl)
  happened_held what.Resend e is comes =
      rw is
      (still_held n begun _ sent hands (sp.happened (walled r wall) what.Resend) r.sessions refl
      refl k)
  happened_held what.Moment e is comes =
      rw is (still_held n begun _ sent hands (still (walled r wall)) r.sessions refl refl k)
