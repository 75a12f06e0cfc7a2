-- A token by which a router seeks a decision was told in an earlier reply of the run: the request
-- in hand is of a transaction that the router hasn't begun.
use Rattle.std.proofs.Common.{◌≡◌, inl, inr, ◌∙◌, ◌&&◌, ◌++◌, ◌+◌, ◌<◌, ◌≤◌, ℕ, ℤ}
use Rattle.std.proofs.Common.{Bool, true, false, All, Contains, List, [], ◌∷◌, map, find, length}
use Rattle.std.proofs.Common.{nat_eq, max, Option, Some, None, option_map, Ok}
use Rattle.std.proofs.Common.{refl, sym, ap, subst, if◌then◌else◌, ◌<ℤ◌, int_lt, arith, is_some}
use Rattle.std.proofs.Common.{slice_get}
use Rattle.std.proofs.lemmas.Int.{ints}
use Rattle.std.proofs.lemmas.Bool.Decides.{Decides-int_eq}
use Rattle.std.proofs.lemmas.List.{append-nil, append_assoc}
use Rattle.std.proofs.lemmas.List.Elements.{All-nil, All-append, All-weaker, All-contains}
use Rattle.std.proofs.lemmas.List.Elements.{Contains-append_cases, Contains-append_right}
use Rattle.std.specs.List.{cons_option}
use Rattle.std.specs.Ordering.{int_eq}
use Rattle.txn_types.specs.Letters.{Named, named_in}
use Rattle.txn_types.specs.Order.{same_lsid}
use Rattle.txn_types.specs.declared.decision.Token.{Token}
use Rattle.txn_types.specs.declared.event.Happening.TheVariants as what
use Rattle.txn_types.specs.declared.event.NodeAnswer.{NodeAnswer}
use Rattle.txn_types.specs.declared.event.NodeEvent.{NodeEvent}
use Rattle.txn_types.specs.declared.message.Envelope.{Envelope}
use Rattle.txn_types.specs.declared.message.Statement.{Statement}
use Rattle.txn_types.specs.declared.names.Tag.{Tag}
use Rattle.txn_types.specs.declared.node.NodeId.TheVariants.{Shard, Router}
use Rattle.op_msg.specs.Asking.{is_legacy, wants_reply}
use Rattle.client_cmd.specs.declared.request.Request.TheVariants as request
use Rattle.client_cmd.specs.declared.request.Txn.{Txn}
use Rattle.client_reply.specs.declared.reply.Reply.TheVariants as reply
use Rattle.router_state.specs.declared.deed.Sent.{Sent}
use Rattle.router_state.specs.declared.state.Doing.{Doing}
use Rattle.router_state.specs.declared.state.Doing.TheVariants.{Begun, Sought}
use Rattle.router_state.specs.declared.state.Session.{Session}
use Rattle.router_state.specs.Deeds.{Move}
use Rattle.router_state.specs.State.{RouterState, session_of, is_waiting}
use Rattle.router_rules.specs.Times.{walled, met}
use Rattle.router_plan.specs.Messages.{asked_in}
use Rattle.router_plan.specs.Refusals as rf
use Rattle.router_core.specs.Requests as rq
use Rattle.router_core.specs.Step as sp
use Rattle.txn_model.specs.declared.ran.Ran.{Ran}
use Rattle.txn_model.specs.declared.ran.Ran.TheVariants.{Step, Swapped}
use Rattle.cluster_core.specs.Answering.{statements_in}
use Rattle.cluster_core.specs.Deciding.{IsGiven, WasGiven, held_at, held_by}
use Rattle.cluster_core.specs.Ledger.{Ledger, Entered, fresh_ledger, ledger_behind, entered}
use Rattle.cluster_core.specs.Ledger.{entered_at, entered_by, swapped, passed, replied_from}
use Rattle.cluster_core.specs.Ledger.{all_replied}
use Rattle.cluster_core.specs.Replying.{Hand, Replied, hand_by, hands_of, held_in, hands_at}
use Rattle.cluster_core.specs.Replying.{is_begun, replied_in, replied_by}
use Rattle.cluster_core.specs.Routers.{Asked, request_at, is_memory, turn_of}
use Rattle.world_laws.specs.Begins.{BegunOnce, HasCome, IsIn}
use Rattle.participant.proofs.Cases.{either}
use Rattle.answer_laws.proofs.Lists.{both_true, has_first, has_more, nat_is}
use Rattle.answer_laws.proofs.Sending.{told_by, parts_from, skipped}
use Rattle.told_laws.proofs.Lists.{contained, has_cases, none_there}
use Rattle.participant.proofs.Tags.{lsid_same}
use Rattle.reply_laws.proofs.Lists.{found_passes}
use Rattle.commit_laws.proofs.Stepping.{move_of, did}
use Rattle.making_laws.proofs.Asking.{Quiet, commit_quiet, begun_found}
use Rattle.making_laws.proofs.Hearing.{mapped_in, no_some, some_is}
use Rattle.making_laws.proofs.Running.{IsNamed, names_in}

-- What is told up to a place of a run is told by its steps up to there.

place_on : (l : Ledger) (ran : Ran) → (entered_by l ran).ledger.place ≡ l.place + 1
unfolding entered_by
place_on l (Step (Router n) e a faults) = by (slice_get l.routers n)
  where
    by : (o : Option RouterState) → (entered l n o e a).ledger.place ≡ l.place + 1
    by None = refl
    by (Some r) =
        either (is_memory a) (λ (x : Entered). x.ledger.place ≡ l.place + 1) (passed l)
        (entered_at l n r e a) refl refl
place_on l (Step (Shard n) e a faults) = refl
place_on l (Swapped (Router n)) = by (slice_get l.routers n)
  where
    by : (o : Option RouterState) → (swapped l n o).place ≡ l.place + 1
    by None = refl
    by (Some r) = refl
place_on l (Swapped (Shard n)) = refl

pub places : (l : Ledger) (run : List Ran) → (ledger_behind l run).place ≡ l.place + length run
places l [] = omega arith
places l (ran ∷ run) =
    places (entered_by l ran).ledger run ∙ ap (λ (i : ℕ). i + length run) (place_on l ran)
    ∙ omega arith

abbrev pub IsAt : ℕ → Replied → Type 0
IsAt place r = r.place ≡ place

abbrev IsFrom : ℕ → Replied → Type 0
IsFrom place r = place ≤ r.place

none_from : (place : ℕ) → All (IsFrom place) []
none_from place = All-nil (IsFrom place)

none_at : (place : ℕ) → All (IsAt place) []
none_at place = All-nil (IsAt place)

replied_at : (place n : ℕ) (held : List Hand) (replies : List Sent)
    → All (IsAt place) (replied_in place n held replies)
replied_at place n held replies =
    contained (IsAt place) (replied_in place n held replies) (λ y c.
    let from = mapped_in (replied_by place n held) replies y c in
    by (find (λ (h : Hand). _) held) y from.x from.is)
  where
    by : (o : Option Hand) (y : Replied) (sent : Sent) → option_map (λ (h : Hand).
        record { place = place; hand = h; reply = sent.reply }) o ≡ Some y → IsAt place y
    by None y sent e = no_some y e
    by (Some h) y sent e =
        subst (IsAt place) (some_is (record { place = place; hand = h; reply = sent.reply }) y e)
        refl

-- what a step replies is of its place
pub entered_at_place : (l : Ledger) (ran : Ran) → All (IsAt l.place) (entered_by l ran).replied
unfolding entered_by
entered_at_place l (Step (Router n) e a faults) = by (slice_get l.routers n)
  where
    by : (o : Option RouterState) → All (IsAt l.place) (entered l n o e a).replied
    by None = none_at l.place
    by (Some r) =
        either (is_memory a) (λ (x : Entered). All (IsAt l.place) x.replied) (passed l)
        (entered_at l n r e a) (none_at l.place)
        (replied_at l.place n (held_in n l.begun r e a l.hands) (turn_of r e a).replies)
entered_at_place l (Step (Shard n) e a faults) = none_at l.place
entered_at_place l (Swapped (Router n)) = none_at l.place
entered_at_place l (Swapped (Shard n)) = none_at l.place

entered_from : (l : Ledger) (ran : Ran) → All (IsFrom l.place) (entered_by l ran).replied
entered_from l ran =
    All-weaker (IsAt l.place) (IsFrom l.place)
    (λ r at. let here : r.place ≡ l.place = at in omega (arith, here)) (entered_by l ran).replied
    (entered_at_place l ran)

all_from : (l : Ledger) (run : List Ran) → All (IsFrom l.place) (replied_from l run)
all_from l [] = none_from l.place
all_from l (ran ∷ run) =
    let next = (entered_by l ran).ledger in
    All-append (IsFrom l.place) (entered_by l ran).replied (replied_from next run)
    (entered_from l ran)
    (All-weaker (IsFrom next.place) (IsFrom l.place)
    (λ r from.
    let step : next.place ≡ l.place + 1 = place_on l ran in
    let after : next.place ≤ r.place = from in
    omega (arith, step, after)) (replied_from next run) (all_from next run))

pub ledger_split : (l : Ledger) (run more : List Ran)
    → ledger_behind l (run ++ more) ≡ ledger_behind (ledger_behind l run) more
ledger_split l [] more = refl
ledger_split l (ran ∷ run) more = ledger_split (entered_by l ran).ledger run more

pub replied_split : (l : Ledger) (run more : List Ran)
    → replied_from l (run ++ more) ≡ replied_from l run ++ replied_from (ledger_behind l run) more
replied_split l [] more = refl
replied_split l (ran ∷ run) more =
    ap (λ (rs : List Replied). (entered_by l ran).replied ++ rs)
    (replied_split (entered_by l ran).ledger run more)
    ∙ sym (append_assoc (entered_by l ran).replied (replied_from (entered_by l ran).ledger run)
    (replied_from (ledger_behind (entered_by l ran).ledger run) more))

pub told_before : (routers : List RouterState) (run more : List Ran) (r : Replied)
    → Contains (all_replied routers (run ++ more)) r → r.place < length run
    → Contains (all_replied routers run) r
told_before routers run more r c before =
    let l = ledger_behind (fresh_ledger routers) run in
    elim (Contains-append_cases (all_replied routers run) (replied_from l more) r
    (subst (λ (rs : List Replied). Contains rs r)
    (replied_split (fresh_ledger routers) run more) c)) [
      | inl w ↦ w
      | inr w ↦
          let from : l.place ≤ r.place = All-contains (IsFrom l.place) (replied_from l more) r
          (all_from l more) w in
          let at : l.place ≡ 0 + length run = places (fresh_ledger routers) run in
          absurd (omega (arith, from, at, before))
    ]

-- The router hasn't begun the transaction.

name_there : (sent : List Envelope) (e : Envelope) (x : Named) → Contains sent e
    → named_in e.msg ≡ Some x → Contains (names_in sent) x
name_there [] e x c is = none_there e c
name_there (y ∷ sent) e x c is =
    elim (has_cases y sent e c) [
      | inl same ↦ first (named_in y.msg) (ap (λ (z : Envelope). named_in z.msg) (sym same) ∙ is)
      | inr k ↦ more (named_in y.msg) (name_there sent e x k is)
    ]
  where
    first : (o : Option Named) → o ≡ Some x → Contains (cons_option o (names_in sent)) x
    first o e = subst (λ (z : Option Named). Contains (cons_option z (names_in sent)) x) (sym e)
        (has_first x (names_in sent))

    more : (o : Option Named) → Contains (names_in sent) x
        → Contains (cons_option o (names_in sent)) x
    more None h = h
    more (Some z) h = has_more z (names_in sent) x h

record IsIts (r : RouterState) (txn : Txn) (m : Statement) : Type 0 where
  router : m.tag.router ≡ r.number
  boot : m.tag.boot ≡ r.boot
  lsid : m.lsid ≡ txn.lsid
  number : m.number ≡ txn.number

its : (r : RouterState) (txn : Txn) (m : Statement) → is_begun r.number r.boot txn m ≡ true
    → IsIts r txn m
its r txn m e =
    let a = both_true (nat_eq m.tag.router r.number && nat_eq m.tag.boot r.boot
    && same_lsid m.lsid txn.lsid) (int_eq m.number txn.number) e in
    let b = both_true (nat_eq m.tag.router r.number && nat_eq m.tag.boot r.boot)
    (same_lsid m.lsid txn.lsid) a.0 in
    let c = both_true (nat_eq m.tag.router r.number) (nat_eq m.tag.boot r.boot) b.0 in
    record {
      router = nat_is m.tag.router r.number c.0;
      boot = nat_is m.tag.boot r.boot c.1;
      lsid = lsid_same m.lsid txn.lsid b.1;
      number = (Decides-int_eq m.number txn.number).0 a.1;
    }

not_old : (s : Session) (number : ℤ) → rf.too_old (Some s) number ≡ None → number <ℤ s.number → ⊥
not_old s number e h = by (int_lt number s.number) refl e
  where
    by : (b : Bool) → int_lt number s.number ≡ b
        → (if b then Some (reply.TooOld number s.number) else None) ≡ None → ⊥
    by true f g = no_some (reply.TooOld number s.number) (sym g)
    by false f g = omega (arith, ints, f, h)

module _ (begun : List Statement) (sent : List Envelope) (n : ℕ) (r : RouterState)
    (known : BegunOnce (names_in sent) n r) (named : All (IsNamed sent) begun) (txn : Txn)
    (none : rf.begun_in (session_of r txn.lsid) txn.number ≡ None)
    (older : rf.too_old (session_of r txn.lsid) txn.number ≡ None) where
  comes : (m : Statement) → Contains begun m → IsIts r txn m
      → HasCome r (record { tag = m.tag; lsid = m.lsid; number = m.number })
  comes m c t =
      let name : Named = record { tag = m.tag; lsid = m.lsid; number = m.number } in
      let x = All-contains (IsNamed sent) begun m named c in
      let there : Contains (names_in sent) name = name_there sent x.0 name x.1 (ap named_in x.2) in
      known.come name (known.named name there (t.router ∙ known.own) t.boot)

  not_begun : (s : Session) (tag : Tag) (doing : Doing) → s.doing ≡ doing
      → session_of r txn.lsid ≡ Some s → s.number ≡ txn.number → IsIn tag doing → ⊥
  not_begun s tag (Begun t) is there same h =
      let so : rf.begun_in (session_of r txn.lsid) txn.number ≡ Some t =
      ap (λ (o : Option Session). rf.begun_in o txn.number) there
      ∙ begun_found s txn.number t is ((Decides-int_eq s.number txn.number).1 same) in
      no_some t (sym none ∙ so)
  not_begun s tag (Sought seeking known) is there same h = absurd h

  not_its : (m : Statement) → Contains begun m → IsIts r txn m → ⊥
  not_its m c t =
      let h = comes m c t in
      let there : session_of r txn.lsid ≡ Some h.0 = ap (session_of r) (sym t.lsid) ∙ h.1 in
      elim h.2 [
        | inl less ↦ not_old h.0 txn.number
            (ap (λ (o : Option Session). rf.too_old o txn.number) (sym there) ∙ older)
            (subst (λ (i : ℤ). i <ℤ h.0.number) t.number less)
        | inr same ↦ not_begun h.0 m.tag h.0.doing refl there (same.0 ∙ t.number) same.1
      ]

  none_begun : find (is_begun r.number r.boot txn) begun ≡ None
  none_begun = by (find (is_begun r.number r.boot txn) begun) refl
    where
      by : (o : Option Statement) → find (is_begun r.number r.boot txn) begun ≡ o
          → find (is_begun r.number r.boot txn) begun ≡ None
      by None e = e
      by (Some m) e =
          let f = found_passes (is_begun r.number r.boot txn) begun m e in
          absurd (not_its m f.0 (its r txn m f.1))

  -- so the request isn't of one that it began
  pub not_here : (conn : ℕ) (t : Option Token) (more : Bool) (time : Option ℕ)
      → (hand_by n begun r (conn, request.Commit (Some txn) t more time) []).here ≡ false
  not_here conn t more time =
      ap (λ (o : Option Statement). is_some (option_map (λ (m : Statement). m.tag) o)) none_begun

-- A request to commit asks no statement.

silent_quiet : (test : Bool) (m : Move) → Quiet m.given → Quiet (sp.unless_silent test m).given
silent_quiet true m h = h
silent_quiet false m h = record { aborts = h.aborts; sends = h.sends }

commit_asks : (s : RouterState) (conn : ℕ) (bytes : List ℕ) (txn : Txn) (t : Option Token)
    (more : Bool) (time : Option ℕ)
    → Quiet (rq.serves s (sp.asker_by conn bytes) (is_legacy bytes)
    (request.Commit (Some txn) t more time)).given
unfolding rq.serves
commit_asks s conn bytes txn t more time =
    commit_quiet (met s time None) (sp.asker_by conn bytes) txn t

client_asks : (s : RouterState) (conn : ℕ) (bytes : List ℕ) (txn : Txn) (t : Option Token)
    (more : Bool) (time : Option ℕ) → is_waiting s conn ≡ false
    → asked_in s.wall bytes ≡ Ok (request.Commit (Some txn) t more time)
    → Quiet (sp.happened s (what.Client conn bytes)).given
client_asks s conn bytes txn t more time free is =
    rw free (rw is (silent_quiet (wants_reply bytes) _
    (commit_asks s conn bytes txn t more time)))

no_statements : (c : Option ℕ) (m : Move) (replies : List (ℕ × List ℕ)) (closed : Option ℕ)
    → Quiet m.given → statements_in (told_by c m replies closed) ≡ []
no_statements c m replies closed q =
    skipped (Router m.state.number) m.state.time m.given.aborts m.given.sends q.aborts
    ∙ ap (parts_from (Router m.state.number) m.state.time) (sym (append-nil m.given.sends))
    ∙ skipped (Router m.state.number) m.state.time m.given.sends [] q.sends

did_none : (r : RouterState) (e : NodeEvent) → Quiet (move_of r e).given
    → statements_in (did r e) ≡ []
unfolding sp.router_step
did_none r e q = no_statements None (move_of r e) [] None q

-- The request in hand.

module _ (l : Ledger) (sent : List Envelope) (n : ℕ) (r : RouterState) (e : NodeEvent)
    (there : slice_get l.routers n ≡ Some r) (known : BegunOnce (names_in sent) n r)
    (named : All (IsNamed sent) l.begun) (conn : ℕ) (bytes : List ℕ)
    (is_client : e.what ≡ what.Client conn bytes) (free : is_waiting r conn ≡ false)
    (txn : Txn) (t : Option Token) (more : Bool) (time : Option ℕ)
    (asks : asked_in (max r.wall e.wall) bytes ≡ Ok (request.Commit (Some txn) t more time))
    (none : rf.begun_in (session_of r txn.lsid) txn.number ≡ None)
    (older : rf.too_old (session_of r txn.lsid) txn.number ≡ None) where
  abbrev asked : Asked
  asked = (conn, request.Commit (Some txn) t more time)

  abbrev hand : Hand
  hand = hand_by n l.begun r asked []

  at_client : (a : NodeAnswer) → is_memory a ≡ false → request_at r e a ≡ Some asked
  at_client a ample = rw ample (rw is_client (rw free (rw asks refl)))

  quiet : Quiet (move_of r e).given
  quiet = rw is_client (client_asks (walled r e.wall) conn bytes txn t more time free asks)

  in_hand : (a : NodeAnswer) → is_memory a ≡ false → statements_in a ≡ []
      → Contains (held_in n l.begun r e a l.hands) hand
  in_hand a ample silent =
      Contains-append_right (hands_at n e.what l.hands) (hands_of n l.begun r (request_at r e a) a)
      hand
      (subst (λ (o : Option Asked). Contains (hands_of n l.begun r o a) hand)
      (sym (at_client a ample))
      (subst (λ (ps : List (ℕ × Statement)). Contains
      (hand_by n l.begun r asked (map (λ (part : ℕ × Statement). part.1) ps) ∷ []) hand)
      (sym silent) (has_first hand [])))

  pub held_there : (faults : ℕ) → Contains (held_at l (Step (Router n) e (did r e) faults)) hand
  held_there faults =
      subst (λ (o : Option RouterState). Contains (held_by l n e (did r e) o) hand) (sym there)
      (in_hand (did r e) refl (did_none r e quiet))

  -- its token was told earlier
  pub was_given : (faults place : ℕ) (replied : List Replied) (some : Token)
      → All (IsGiven replied place) (held_at l (Step (Router n) e (did r e) faults))
      → t ≡ Some some → WasGiven replied place txn some
  was_given faults place replied some given is =
      All-contains (IsGiven replied place) (held_at l (Step (Router n) e (did r e) faults)) hand
      given (held_there faults) txn some more time
      (ap (λ (x : Option Token). request.Commit (Some txn) x more time) is)
      (not_here l.begun sent n r known named txn none older conn t more time)
