-- Which transaction a request is of that is answered at once; no statement is sent for it.
use Rattle.std.proofs.Common.{◌≡◌, ◌⊎◌, inl, inr, ◌∙◌, ◌&&◌, ℕ, ℤ, Bool, true, false, not}
use Rattle.std.proofs.Common.{Contains, List, [], ◌∷◌, map, find, nat_eq, is_none, int_lt, ◌<ℤ◌}
use Rattle.std.proofs.Common.{Option, Some, None, option_map, option_and_then, refl, sym, ap, subst}
use Rattle.std.proofs.Common.{if◌then◌else◌, cond, arith}
use Rattle.std.proofs.lemmas.Bool.Decides.{Decides-int_eq}
use Rattle.std.proofs.lemmas.Int.{ints}
use Rattle.std.proofs.lemmas.List.{append-nil}
use Rattle.std.proofs.lemmas.List.Elements.{All-nil, All-append}
use Rattle.std.specs.Option.{option_or}
use Rattle.std.specs.Ordering.{int_eq}
use Rattle.txn_types.specs.Order.{same_lsid}
use Rattle.txn_types.specs.declared.message.Statement.{Statement}
use Rattle.txn_types.specs.declared.names.Tag.{Tag}
use Rattle.txn_types.specs.declared.node.Lsid.{Lsid}
use Rattle.client_cmd.specs.declared.request.Request.{Request}
use Rattle.client_cmd.specs.declared.request.Request.TheVariants as request
use Rattle.client_cmd.specs.declared.request.Txn.{Txn}
use Rattle.client_reply.specs.declared.reply.Reply.{Reply}
use Rattle.client_reply.specs.declared.reply.Reply.TheVariants as reply
use Rattle.router_state.specs.Deeds.{Move}
use Rattle.router_state.specs.State.{RouterState, session_of, asker_of, commit_sent}
use Rattle.router_state.specs.declared.deed.Sent.{Sent}
use Rattle.router_state.specs.declared.state.Asker.{Asker}
use Rattle.router_state.specs.declared.state.Doing.{Doing}
use Rattle.router_state.specs.declared.state.Doing.TheVariants.{Begun, Sought}
use Rattle.router_state.specs.declared.state.Phase.{Phase}
use Rattle.router_state.specs.declared.state.Phase.TheVariants.{Idle, Asking, Checking, Deciding}
use Rattle.router_state.specs.declared.state.Phase.TheVariants.{Committed, Released, Aborted}
use Rattle.router_state.specs.declared.state.Session.{Session}
use Rattle.router_state.specs.declared.state.Transaction.{Transaction}
use Rattle.router_rules.specs.Ends as en
use Rattle.router_rules.specs.Times.{met}
use Rattle.router_plan.specs.Refusals as rf
use Rattle.router_core.specs.Requests as rq
use Rattle.cluster_core.specs.Replying.{hand_by, txn_of, token_of, begun_tag, is_begun, tag_in}
use Rattle.participant.proofs.Cases.{either}
use Rattle.participant.proofs.Tags.{lsid_same, lsid_self}
use Rattle.world_laws.specs.Begins.{IsIn}
use Rattle.world_laws.proofs.Beginning as begins
use Rattle.world_laws.proofs.Naming.{each}
use Rattle.answer_laws.proofs.Fits.{PostFits, AllFit, NoStatement}
use Rattle.answer_laws.proofs.Lists.{both_true, nat_is}
use Rattle.answer_laws.proofs.Sending.{parts_from, skipped, told_by}
use Rattle.told_laws.proofs.Lists.{none_there, has_cases, same_nat}
use Rattle.told_laws.proofs.Moves.{IsOther}
use Rattle.reply_laws.proofs.Asking.{statement_now}
use Rattle.reply_laws.proofs.Lists.{and_both, not_both, found_passes}
use Rattle.reply_laws.proofs.Reading.{NamesIn}
use Rattle.making_laws.proofs.Asking.{Quiet, commit_quiet, begun_found}
use Rattle.making_laws.proofs.Hearing.{Stated, some_is, no_some}
use Rattle.making_laws.proofs.Holding.{Known, parts_of}
use Rattle.making_laws.proofs.Parsing.{NamesTxn}

-- The transaction that a router began, by the statements that it sent.

find_some : {A : Type 0} (p : A → Bool) (xs : List A) (x : A) → Contains xs x → p x ≡ true
    → (y : A) × (find p xs ≡ Some y)
find_some p [] x c e = none_there x c
find_some p (z ∷ xs) x c e = by (p z) refl (has_cases z xs x c) (λ d. find_some p xs x d e)
  where
    by : (test : Bool) → p z ≡ test → (x ≡ z) ⊎ Contains xs x
        → (Contains xs x → (y : _) × (find p xs ≡ Some y))
        → (y : _) × (find p (z ∷ xs) ≡ Some y)
    by true is c more = (z, ap (λ (b : Bool). cond b (Some z) (find p xs)) is)
    by false is (inl same) more = not_both (p z) (ap p (sym same) ∙ e) is
    by false is (inr d) more =
        let k = more d in (k.0, ap (λ (b : Bool). cond b (Some z) (find p xs)) is ∙ k.1)

record Tested (r : RouterState) (txn : Txn) (m : Statement) : Type 0 where
  router : m.tag.router ≡ r.number
  boot : m.tag.boot ≡ r.boot
  lsid : m.lsid ≡ txn.lsid
  number : m.number ≡ txn.number

tested : (r : RouterState) (txn : Txn) (m : Statement) → is_begun r.number r.boot txn m ≡ true
    → Tested r txn m
tested r txn m e =
    let a = both_true (nat_eq m.tag.router r.number && nat_eq m.tag.boot r.boot
    && same_lsid m.lsid txn.lsid) (int_eq m.number txn.number) e in
    let b = both_true (nat_eq m.tag.router r.number && nat_eq m.tag.boot r.boot)
    (same_lsid m.lsid txn.lsid) a.0 in
    let c = both_true (nat_eq m.tag.router r.number) (nat_eq m.tag.boot r.boot) b.0 in
    record {
      router = nat_is m.tag.router r.number c.0;
      boot = nat_is m.tag.boot r.boot c.1;
      lsid = lsid_same m.lsid txn.lsid b.1;
      number = (Decides-int_eq m.number txn.number).0 a.1;
    }

tests : (r : RouterState) (txn : Txn) (m : Statement) → Tested r txn m
    → is_begun r.number r.boot txn m ≡ true
tests r txn m t =
    and_both _ _ (and_both _ _ (and_both _ _
    (ap (λ (n : ℕ). nat_eq n r.number) t.router ∙ same_nat r.number)
    (ap (λ (n : ℕ). nat_eq n r.boot) t.boot ∙ same_nat r.boot))
    (ap (λ (l : Lsid). same_lsid l txn.lsid) t.lsid ∙ lsid_self txn.lsid))
    ((Decides-int_eq m.number txn.number).1 t.number)

not_below : (a : ℤ) → a <ℤ a → ⊥
not_below a h = omega (arith, ints, h)

not_old : (s : Session) (number : ℤ) → rf.too_old (Some s) number ≡ None → number <ℤ s.number → ⊥
not_old s number e h = by (int_lt number s.number) refl e
  where
    by : (b : Bool) → int_lt number s.number ≡ b
        → (if b then Some (reply.TooOld number s.number) else None) ≡ None → ⊥
    by true f g = no_some (reply.TooOld number s.number) (sym g)
    by false f g = omega (arith, ints, f, h)

module _ (begun : List Statement) (r : RouterState) (k : Known begun r) (txn : Txn) where
  abbrev found : Option Statement
  found = find (is_begun r.number r.boot txn) begun

  record HasSession (m : Statement) : Type 0 where
    session : Session
    there : session_of r txn.lsid ≡ Some session
    comes : (txn.number <ℤ session.number)
        ⊎ ((session.number ≡ txn.number) × IsIn m.tag session.doing)

  has_session : (m : Statement) → found ≡ Some m → HasSession m
  has_session m e =
      let f = found_passes (is_begun r.number r.boot txn) begun m e in
      let t = tested r txn m f.1 in
      let h = k.come m f.0 t.router t.boot in
      record {
        session = h.0;
        there = ap (session_of r) (sym t.lsid) ∙ h.1;
        comes = elim h.2 [
          | inl less ↦ inl (subst (λ (n : ℤ). n <ℤ h.0.number) t.number less)
          | inr same ↦ inr (same.0 ∙ t.number, same.1)
        ];
      }

  own_tag : (x : Transaction) → rf.begun_in (session_of r txn.lsid) txn.number ≡ Some x
      → Stated begun x.tag txn.lsid txn.number → begun_tag begun r txn ≡ Some x.tag
  own_tag x e stated =
      let b = begins.is_begun (session_of r txn.lsid) txn.number x e in
      let own = k.own txn.lsid b.there x b.is b.doing in
      let m0 = stated.statement in
      let some = find_some (is_begun r.number r.boot txn) begun m0 stated.among
      (tests r txn m0 (record {
        router = ap (λ (t : Tag). t.router) stated.tag_is ∙ own.0;
        boot = ap (λ (t : Tag). t.boot) stated.tag_is ∙ own.1;
        lsid = stated.lsid_is;
        number = stated.number_is;
      })) in
      let h = has_session some.0 some.1 in
      let one : h.session ≡ b.there = some_is h.session b.there (sym h.there ∙ b.is) in
      let same : some.0.tag ≡ x.tag = elim h.comes [
        | inl less ↦ absurd (not_below txn.number (subst (λ (n : ℤ). txn.number <ℤ n)
            (ap (λ (s : Session). s.number) one ∙ b.number_is) less))
        | inr same ↦ sym (subst (IsIn some.0.tag)
            (ap (λ (s : Session). s.doing) one ∙ b.doing) same.1)
      ] in
      ap (λ (o : Option Statement). option_map (λ (m : Statement). m.tag) o) some.1
      ∙ ap (λ (t : Tag). Some t) same

  none_found : rf.begun_in (session_of r txn.lsid) txn.number ≡ None
      → rf.too_old (session_of r txn.lsid) txn.number ≡ None → begun_tag begun r txn ≡ None
  none_found none low = ap (λ (o : Option Statement). option_map (λ (m : Statement). m.tag) o)
      (by found refl)
    where
      in_case : (m : Statement) (s : Session) (doing : Doing) → s.doing ≡ doing
          → session_of r txn.lsid ≡ Some s → s.number ≡ txn.number → IsIn m.tag doing
          → found ≡ None
      in_case m s (Begun t) is there same h =
          let so : rf.begun_in (session_of r txn.lsid) txn.number ≡ Some t =
          ap (λ (o : Option Session). rf.begun_in o txn.number) there
          ∙ begun_found s txn.number t is ((Decides-int_eq s.number txn.number).1 same) in
          no_some t (sym none ∙ so)
      in_case m s (Sought seeking known) is there same h = absurd h

      by : (o : Option Statement) → found ≡ o → found ≡ None
      by None e = e
      by (Some m) e =
          let h = has_session m e in
          elim h.comes [
            | inl less ↦ absurd (not_old h.session txn.number
                (ap (λ (o : Option Session). rf.too_old o txn.number) (sym h.there) ∙ low) less)
            | inr same ↦ in_case m h.session h.session.doing refl h.there same.0 same.1
          ]

-- The tag of a request in hand for which no statement is sent.

module _ (n : ℕ) (begun : List Statement) (r : RouterState) (conn : ℕ) (q : Request) where
  abbrev tag : Option Tag
  tag = (hand_by n begun r (conn, q) []).tag

  abbrev token_tag : Option Tag
  token_tag = option_and_then tag_in (token_of q)

  pub own_is : (k : Known begun r) (txn : Txn) (x : Transaction) → txn_of q ≡ Some txn
      → rf.begun_in (session_of r txn.lsid) txn.number ≡ Some x
      → Stated begun x.tag txn.lsid txn.number → tag ≡ Some x.tag
  own_is k txn x names e stated =
      ap (λ (o : Option Txn). option_or (option_and_then (begun_tag begun r) o) token_tag) names
      ∙ ap (λ (o : Option Tag). option_or o token_tag) (own_tag begun r k txn x e stated)

  pub other_is : (k : Known begun r) (txn : Txn) → txn_of q ≡ Some txn
      → rf.begun_in (session_of r txn.lsid) txn.number ≡ None
      → rf.too_old (session_of r txn.lsid) txn.number ≡ None → tag ≡ token_tag
  other_is k txn names none low =
      ap (λ (o : Option Txn). option_or (option_and_then (begun_tag begun r) o) token_tag) names
      ∙ ap (λ (o : Option Tag). option_or o token_tag) (none_found begun r k txn none low)

pub none_is : (n : ℕ) (begun : List Statement) (r : RouterState) (conn : ℕ) (q : Request)
    → NamesTxn q → txn_of q ≡ None → (hand_by n begun r (conn, q) []).tag ≡ None
none_is n begun r conn (request.Statement op None at later more time) names none = refl
none_is n begun r conn (request.Statement op (Some txn) at later more time) names none =
    no_some txn (sym none)
none_is n begun r conn (request.Commit txn t more time) names none =
    no_some names.0 (sym none ∙ names.1)
none_is n begun r conn (request.Abort txn more time) names none =
    no_some names.0 (sym none ∙ names.1)
none_is n begun r conn (request.Ping more time) names none = refl
none_is n begun r conn (request.Hello old_name more time) names none = refl
none_is n begun r conn (request.EndSessions ids more time) names none = refl

-- No statement is sent.

quiet_none : AllFit NoStatement []
quiet_none = All-nil (PostFits NoStatement)

quiet_aborts : (lsid : Lsid) (number : ℤ) (why : ℕ) (t : Transaction)
    → AllFit NoStatement (en.aborts lsid number why t)
quiet_aborts lsid number why t =
    each (PostFits NoStatement) (en.abort_to lsid number why t.tag) t.parts (λ part. tt)

client_quiet : (lsid : Lsid) (number : ℤ) (asker : Asker) (t : Transaction) (p : Phase)
    → Quiet (en.client_aborts lsid number asker (record t { phase = p })).given
client_quiet lsid number asker t (Aborted so) = record { aborts = quiet_none; sends = quiet_none }
client_quiet lsid number asker t Idle = record {
  aborts = All-append (PostFits NoStatement) (en.aborts lsid number 1 t) []
      (quiet_aborts lsid number 1 t) quiet_none;
  sends = quiet_none;
}
client_quiet lsid number asker t (Asking other op given) = record {
  aborts = All-append (PostFits NoStatement) (en.aborts lsid number 1 t) []
      (quiet_aborts lsid number 1 t) quiet_none;
  sends = quiet_none;
}
client_quiet lsid number asker t (Checking other) = record {
  aborts = All-append (PostFits NoStatement) (en.aborts lsid number 1 t) []
      (quiet_aborts lsid number 1 t) quiet_none;
  sends = quiet_none;
}
client_quiet lsid number asker t (Deciding other) = record {
  aborts = All-append (PostFits NoStatement) (en.aborts lsid number 1 t) []
      (quiet_aborts lsid number 1 t) quiet_none;
  sends = quiet_none;
}
client_quiet lsid number asker t Committed = record {
  aborts = All-append (PostFits NoStatement) (en.aborts lsid number 1 t) []
      (quiet_aborts lsid number 1 t) quiet_none;
  sends = quiet_none;
}
client_quiet lsid number asker t Released = record {
  aborts = All-append (PostFits NoStatement) (en.aborts lsid number 1 t) []
      (quiet_aborts lsid number 1 t) quiet_none;
  sends = quiet_none;
}

abort_by_quiet : (r : RouterState) (asker : Asker) (txn : Txn) (refused : Option Reply)
    (own : Option Transaction)
    → Quiet (rq.unless_refused r asker refused (rq.abort_by r asker txn own)).given
abort_by_quiet r asker txn (Some why) own = record { aborts = quiet_none; sends = quiet_none }
abort_by_quiet r asker txn None None = record { aborts = quiet_none; sends = quiet_none }
abort_by_quiet r asker txn None (Some own) = client_quiet txn.lsid txn.number asker own own.phase

end_quiet : (r : RouterState) (lsid : Lsid) (number : ℤ) (doing : Doing)
    → Quiet (en.end_session r lsid (Some (record { number = number; doing = doing }))).given
end_quiet r lsid number (Begun t) =
    either (is_none (asker_of (Begun t)) && not (commit_sent t.phase))
    (λ (d : _). Quiet d.given) (en.ends lsid number 2 t) _
    (record { aborts = quiet_aborts lsid number 2 t; sends = quiet_none })
    (record { aborts = quiet_none; sends = quiet_none })
end_quiet r lsid number (Sought seeking known) =
    record { aborts = quiet_none; sends = quiet_none }

end_one : (r : RouterState) (lsid : Lsid) (o : Option Session)
    → Quiet (en.end_session r lsid o).given
end_one r lsid None = record { aborts = quiet_none; sends = quiet_none }
end_one r lsid (Some s) = end_quiet r lsid s.number s.doing

ends_quiet : (r : RouterState) (lsids : List Lsid) → Quiet (en.end_sessions r lsids).given
ends_quiet r [] = record { aborts = quiet_none; sends = quiet_none }
ends_quiet r (lsid ∷ lsids) =
    let first = en.end_session r lsid (session_of r lsid) in
    let more = en.end_sessions first.state lsids in
    let a = end_one r lsid (session_of r lsid) in
    let b = ends_quiet first.state lsids in
    record {
      aborts = All-append (PostFits NoStatement) first.given.aborts more.given.aborts a.aborts
          b.aborts;
      sends = All-append (PostFits NoStatement) first.given.sends more.given.sends a.sends b.sends;
    }

others_quiet : (r : RouterState) (asker : Asker) (legacy : Bool) (q : Request) → IsOther q
    → NamesTxn q → Quiet (rq.serves r asker legacy q).given
unfolding rq.serves
others_quiet r asker legacy (request.Statement op txn at later more time) h names = absurd h
others_quiet r asker legacy (request.Ping more time) h names =
    record { aborts = quiet_none; sends = quiet_none }
others_quiet r asker legacy (request.Hello old_name more time) h names =
    record { aborts = quiet_none; sends = quiet_none }
others_quiet r asker legacy (request.Commit txn t more time) h names =
    subst (λ (x : Option Txn). Quiet (rq.commit (met r time None) asker x t).given) (sym names.1)
    (commit_quiet (met r time None) asker names.0 t)
others_quiet r asker legacy (request.Abort txn more time) h names =
    subst (λ (x : Option Txn). Quiet (rq.abort (met r time None) asker x).given) (sym names.1)
    (abort_by_quiet (met r time None) asker names.0
    (rf.abort_refusal (met r time None) asker.conn
    (session_of (met r time None) names.0.lsid) names.0)
    (rf.begun_in (session_of (met r time None) names.0.lsid) names.0.number))
others_quiet r asker legacy (request.EndSessions ids more time) h names =
    let m = en.end_sessions (met r time None) ids in
    let k = ends_quiet (met r time None) ids in
    record {
      aborts = All-append (PostFits NoStatement) m.given.aborts [] k.aborts quiet_none;
      sends = All-append (PostFits NoStatement) m.given.sends [] k.sends quiet_none;
    }

no_parts : (c : Option ℕ) (m : Move) (replies : List (ℕ × List ℕ)) (closed : Option ℕ)
    → Quiet m.given → parts_of (told_by c m replies closed) ≡ []
no_parts c m replies closed q =
    ap (map (λ (part : ℕ × Statement). part.1))
    (skipped _ m.state.time m.given.aborts m.given.sends q.aborts
    ∙ ap (parts_from _ m.state.time) (sym (append-nil m.given.sends))
    ∙ skipped _ m.state.time m.given.sends [] q.sends)

-- a request that is answered at once sends no statement
pub answered_quiet : (r : RouterState) (asker : Asker) (legacy : Bool) (q : Request)
    (c : Option ℕ) (replies : List (ℕ × List ℕ)) (closed : Option ℕ) (s : Sent)
    → NamesIn q → NamesTxn q → Contains (rq.serves r asker legacy q).given.replies s
    → parts_of (told_by c (rq.serves r asker legacy q) replies closed) ≡ []
unfolding rq.serves
answered_quiet r asker legacy (request.Statement op txn at later more time) c replies closed s names
    txns there =
    let m = rq.statement (met r time later) asker txn op at in
    elim (statement_now (met r time later) asker txn op at names) [
      | inl w ↦ no_parts c m replies closed (record {
        aborts = subst (AllFit NoStatement) (sym w.aborts) quiet_none;
        sends = subst (AllFit NoStatement) (sym w.sends) quiet_none;
      })
      | inr w ↦ none_there s (subst (λ (l : List Sent). Contains l s) w.replies there)
    ]
answered_quiet r asker legacy (request.Ping more time) c replies closed s names txns there =
    no_parts c (rq.serves r asker legacy (request.Ping more time)) replies closed
    (others_quiet r asker legacy (request.Ping more time) tt txns)
answered_quiet r asker legacy (request.Hello old_name more time) c replies closed s names txns there
    = no_parts c (rq.serves r asker legacy (request.Hello old_name more time)) replies closed
    (others_quiet r asker legacy (request.Hello old_name more time) tt txns)
answered_quiet r asker legacy (request.Commit txn t more time) c replies closed s names txns there =
    no_parts c (rq.serves r asker legacy (request.Commit txn t more time)) replies closed
    (others_quiet r asker legacy (request.Commit txn t more time) tt txns)
answered_quiet r asker legacy (request.Abort txn more time) c replies closed s names txns there =
    no_parts c (rq.serves r asker legacy (request.Abort txn more time)) replies closed
    (others_quiet r asker legacy (request.Abort txn more time) tt txns)
answered_quiet r asker legacy (request.EndSessions ids more time) c replies closed s names txns
    there =
    no_parts c (rq.serves r asker legacy (request.EndSessions ids more time)) replies closed
    (others_quiet r asker legacy (request.EndSessions ids more time) tt txns)
