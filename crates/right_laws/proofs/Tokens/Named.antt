-- What a token names beside a boot: its transaction was named so by messages, and an Answer of that
-- boot came to a router.
use Rattle.std.proofs.Common.{◌≡◌, ◌⊎◌, inl, inr, ◌++◌, ◌<◌, ℕ, ℤ, Bool, true, false, All, List}
use Rattle.std.proofs.Common.{[], ◌∷◌, Option, Some, None, Ok, refl, sym, ap, subst, ◌∙◌, arith}
use Rattle.std.proofs.Common.{nat_eq, ◌&&◌}
use Rattle.std.specs.Prelude.{Contains, slice_get}
use Rattle.std.specs.List.{cons_option}
use Rattle.std.proofs.lemmas.List.Elements.{All-head, All-contains, Contains-append_left}
use Rattle.txn_types.specs.Letters.{Named, named_in}
use Rattle.txn_types.specs.Order.{same_tag}
use Rattle.txn_types.specs.declared.decision.Token.TheVariants as token
use Rattle.txn_types.specs.declared.event.Happening.{Happening}
use Rattle.txn_types.specs.declared.event.Happening.TheVariants as what
use Rattle.txn_types.specs.declared.event.NodeEvent.{NodeEvent}
use Rattle.txn_types.specs.declared.message.Answer.{Answer}
use Rattle.txn_types.specs.declared.message.Envelope.{Envelope}
use Rattle.txn_types.specs.declared.message.Msg.{Msg}
use Rattle.txn_types.specs.declared.message.Msg.TheVariants as msg
use Rattle.txn_types.specs.declared.names.Tag.{Tag}
use Rattle.txn_types.specs.declared.node.Lsid.{Lsid}
use Rattle.txn_types.specs.declared.node.NodeId.TheVariants.{Router}
use Rattle.txn_types.specs.declared.operation.OpReply.{OpReply}
use Rattle.txn_semantics.specs.declared.commits.Answered.{Answered}
use Rattle.part_laws.specs.Sound.{Served}
use Rattle.router_state.specs.declared.state.Doing.{Doing}
use Rattle.router_state.specs.declared.state.Doing.TheVariants.{Begun, Sought}
use Rattle.router_state.specs.declared.state.Phase.{Phase}
use Rattle.router_state.specs.declared.state.Phase.TheVariants.{Idle, Asking, Checking, Deciding}
use Rattle.router_state.specs.declared.state.Phase.TheVariants.{Committed, Released, Aborted}
use Rattle.router_state.specs.declared.state.Session.{Session}
use Rattle.router_state.specs.declared.state.Transaction.{Transaction}
use Rattle.router_state.specs.State.{Post, RouterState, session_of, is_waited, token_of}
use Rattle.router_rules.specs.Times.{walled}
use Rattle.cluster_core.specs.Nodes.{Nodes}
use Rattle.cluster_core.specs.Trace.{MayCome}
use Rattle.world_laws.proofs.Naming.{tag_is}
use Rattle.answer_laws.proofs.Lists.{both_true, has_first, has_more}
use Rattle.told_laws.proofs.Lists.{has_cases, none_there}
use Rattle.known_laws.specs.Known.{KnownStands, DoingKnown, TransactionKnown, PhaseKnown}
use Rattle.known_laws.specs.Known.{PartsKnown}
use Rattle.known_laws.specs.Known as kn
use Rattle.one_shard_laws.specs.Concluding.{ServedRight}
use Rattle.commit_laws.proofs.Follows.{Heard, Follows, DoingFollows, doing_on}
use Rattle.commit_laws.proofs.Moves.{RouterFollows, SessionFrom, MoveFrom}
use Rattle.commit_laws.proofs.Once.{OnceUnder}
use Rattle.commit_laws.proofs.Requests.{HasOne, MsgGiven, WhatGiven, happened_from}
use Rattle.commit_laws.proofs.Stepping.{move_of}
use Rattle.making_laws.proofs.Running.{names_in}
use Rattle.right_laws.proofs.Tokens.Boots.{IsKnown, each_among, reply_served, told_heard}
use Rattle.right_laws.proofs.Tokens.Boots.{token_names}
use Rattle.right_laws.proofs.Tokens.Deeds.{IsTold}

-- Names, where more is sent.

pub names_on : (sent out : List Envelope) (x : Named) → Contains (names_in sent) x
    → Contains (names_in (sent ++ out)) x
names_on [] out x c = none_there x c
names_on (e ∷ sent) out x c = by (named_in e.msg) c (names_on sent out x)
  where
    by : (o : Option Named) → Contains (cons_option o (names_in sent)) x
        → (Contains (names_in sent) x → Contains (names_in (sent ++ out)) x)
        → Contains (cons_option o (names_in (sent ++ out))) x
    by None k more = more k
    by (Some y) k more =
        elim (has_cases y (names_in sent) x k) [
          | inl same ↦ subst (λ (z : Named). Contains (y ∷ names_in (sent ++ out)) z) (sym same)
              (has_first y (names_in (sent ++ out)))
          | inr there ↦ has_more y (names_in (sent ++ out)) x (more there)
        ]

-- a reply of the transaction, of this boot, was sent to a router
pub record CameBack (sent : List Envelope) (tag : Tag) (boot : ℕ) : Type 0 where
  pub envelope : Envelope
  pub there : Contains sent envelope
  pub router : ℕ
  pub to : envelope.to ≡ Router router
  pub answer : Answer
  pub is : envelope.msg ≡ msg.Answer answer
  pub done : OpReply × Bool
  pub ok : answer.outcome ≡ Ok done
  pub tag_is : answer.tag ≡ tag
  pub boot_is : answer.boot ≡ boot

abbrev pub Back : List Envelope → Tag → ℕ → ℕ → Type 0
Back sent tag k boot = CameBack sent tag boot

pub back_on : (sent out : List Envelope) (tag : Tag) (boot : ℕ) → CameBack sent tag boot
    → CameBack (sent ++ out) tag boot
back_on sent out tag boot h = record {
  envelope = h.envelope;
  there = Contains-append_left sent out h.envelope h.there;
  router = h.router;
  to = h.to;
  answer = h.answer;
  is = h.is;
  done = h.done;
  ok = h.ok;
  tag_is = h.tag_is;
  boot_is = h.boot_is;
}

pub hears_on : (sent out : List Envelope) (r : RouterState) → RouterFollows (Back sent) r
    → RouterFollows (Back (sent ++ out)) r
hears_on sent out r h lsid s at =
    doing_on (Back sent) (Back (sent ++ out)) (λ tag k boot. back_on sent out tag boot) s.doing
    (h lsid s at)

-- what a router has of the shard's boot came to it so
module _ (sent : List Envelope) (n : ℕ) (r : RouterState) (e : NodeEvent)
    (comes : MayCome sent (Router n) e.what) (follows : RouterFollows (Back sent) r)
    (once : OnceUnder r.sessions) (one : HasOne r) where
  msg_given : (x : Envelope) → Contains sent x → x.to ≡ Router n → (m : Msg) → x.msg ≡ m
      → MsgGiven (Back sent) (walled r e.wall) m
  msg_given x was to (msg.Answer a) is = λ lsid s t at doing asker op asking so done ok.
      let own = both_true (same_tag t.tag a.tag) (nat_eq a.k t.k)
      (both_true (same_tag t.tag a.tag && nat_eq a.k t.k) (is_waited a.shard t.waiting) so).0 in
      record {
        envelope = x;
        there = was;
        router = n;
        to = to;
        answer = a;
        is = is;
        done = done;
        ok = ok;
        tag_is = sym (tag_is t.tag a.tag own.0);
        boot_is = refl;
      }
  msg_given x was to other is = tt

  what_given : (w : Happening) → MayCome sent (Router n) w
      → WhatGiven (Back sent) (walled r e.wall) w
  what_given (what.Deliver x) c = msg_given x c.0 c.1 x.msg refl
  what_given other c = tt

  moved : MoveFrom (Back sent) (walled r e.wall) (move_of r e)
  moved = happened_from (Back sent) (walled r e.wall) e.what (follows, (once, one))
      (what_given e.what comes)

  pub hears_move : RouterFollows (Back sent) (move_of r e).state
  hears_move lsid s at = by s.doing refl
    where
      by : (doing : Doing) → s.doing ≡ doing → DoingFollows (Back sent) doing
      by (Begun t) doing =
          (subst (SessionFrom (Back sent) (walled r e.wall) lsid) doing
          (moved.sessions lsid s at)).0
      by (Sought seeking known) doing = tt

-- What is known of a token that was told in a session under a number: the boot that it names, and
-- how its transaction was named.
pub record Known (nodes : Nodes) (told : List Answered) (lsid : Lsid) (number : ℤ) (tag : Tag)
    (boot : ℕ) : Type 0 where
  pub boots : IsKnown nodes told tag boot
  pub named : Contains (names_in nodes.sent) (record { tag = tag; lsid = lsid; number = number })
  pub back : CameBack nodes.sent tag boot

pub known_on : (old new : Nodes) (out : List Envelope) (told more : List Answered)
    → new.sent ≡ old.sent ++ out
    → ((tag : Tag) (boot : ℕ) → IsKnown old told tag boot → IsKnown new more tag boot)
    → (lsid : Lsid) (number : ℤ) (tag : Tag) (boot : ℕ) → Known old told lsid number tag boot
    → Known new more lsid number tag boot
known_on old new out told more sent f lsid number tag boot k =
    let name : Named = record { tag = tag; lsid = lsid; number = number } in
    record {
      boots = f tag boot k.boots;
      named = subst (λ (xs : List Envelope). Contains (names_in xs) name) (sym sent)
          (names_on old.sent out name k.named);
      back = subst (λ (xs : List Envelope). CameBack xs tag boot) (sym sent)
          (back_on old.sent out tag boot k.back);
    }

-- The token of a session's transaction.

parts_known : (B : ℕ → ℕ → Named → Type 0) (x : Named) (parts : List (ℕ × ℕ))
    (waiting : List Post) (p : Phase) → IsTold p → PhaseKnown B x parts waiting p
    → PartsKnown B x parts
parts_known B x parts waiting Idle so h = h
parts_known B x parts waiting Committed so h = h
parts_known B x parts waiting Released so h = h
parts_known B x parts waiting (Asking asker op answers) so h = absurd so
parts_known B x parts waiting (Checking asker) so h = absurd so
parts_known B x parts waiting (Deciding asker) so h = absurd so
parts_known B x parts waiting (Aborted sent) so h = absurd so

module _ (nodes : Nodes) (known : KnownStands nodes) (served : ServedRight nodes) (n : ℕ)
    (r : RouterState) (there : slice_get nodes.routers n ≡ Some r)
    (hears : RouterFollows (Back nodes.sent) r) (entry : Lsid × Session)
    (among : Contains r.sessions entry) (at : session_of r entry.0 ≡ Some entry.1)
    (t : Transaction) (doing : entry.1.doing ≡ Begun t) (so : IsTold t.phase) (tag : Tag)
    (shard boot : ℕ) (is : token_of t ≡ token.Placed tag shard boot) where
  follows : Follows (Back nodes.sent) t t.phase
  follows = subst (DoingFollows (Back nodes.sent)) doing (hears entry.0 entry.1 at)

  heard : Heard (Back nodes.sent) t.tag t.k t.parts t.wrote
  heard = told_heard (Back nodes.sent) t t.phase so follows

  names : (t.tag ≡ tag) × (heard.boot ≡ boot)
  names = token_names (Back nodes.sent) t heard tag shard boot is

  pub token_back : CameBack nodes.sent tag boot
  token_back = subst (λ (x : Tag). CameBack nodes.sent x boot) names.0
      (subst (CameBack nodes.sent t.tag) names.1 heard.gave)

  some_boot : 0 < heard.boot
  some_boot =
      let b : CameBack nodes.sent t.tag heard.boot = heard.gave in
      let w = reply_served nodes.sent served.served served.told b.envelope b.answer b.there b.is
      b.done b.ok in
      subst (λ (i : ℕ). 0 < i) (w.life ∙ b.boot_is)
      (each_among (λ (x : Served). 0 < x.life) served.served w.x served.lives w.among)

  abbrev own_name : Named
  own_name = record { tag = t.tag; lsid = entry.0; number = entry.1.number }

  knows : TransactionKnown (kn.Known nodes) own_name t
  knows = subst (DoingKnown (kn.Known nodes) entry.0 entry.1.number) doing
      (All-contains (λ (x : Lsid × Session).
      DoingKnown (kn.Known nodes) x.0 x.1.number x.1.doing) r.sessions entry
      (known.routers n r there) among)

  part : kn.Known nodes 0 heard.boot own_name
  part = All-head (λ (p : ℕ × ℕ). kn.Known nodes p.0 p.1 own_name) (0, heard.boot) []
      (subst (PartsKnown (kn.Known nodes) own_name) heard.parts_are
      (parts_known (kn.Known nodes) own_name t.parts t.waiting t.phase so knows.parts))

  own_named : Contains (names_in nodes.sent) own_name
  own_named = by part
    where
      by : kn.Known nodes 0 heard.boot own_name → Contains (names_in nodes.sent) own_name
      by (inl none) =
          let some = some_boot in
          let zero : heard.boot ≡ 0 = none in
          absurd (omega (arith, some, zero))
      by (inr k) = k.0

  pub token_named : Contains (names_in nodes.sent)
      (record { tag = tag; lsid = entry.0; number = entry.1.number })
  token_named =
      subst (λ (x : Tag). Contains (names_in nodes.sent)
      (record { tag = x; lsid = entry.0; number = entry.1.number })) names.0 own_named
