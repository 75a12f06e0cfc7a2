-- What a step of a shard that commits alone tells of ends, what it records, and what it leaves of
-- sessions.
use Rattle.std.proofs.Common.{◌≡◌, max, ℕ, ℤ, Bool, true, false, List, [], ◌∷◌, All, Option, Some}
use Rattle.std.proofs.Common.{None, IfSome, option_map, option_and_then, unwrap_or, is_some}
use Rattle.std.proofs.Common.{refl, sym, ap, subst, ◌∙◌, inl, inr, not, if◌then◌else◌, arith}
use Rattle.std.specs.Prelude.{IsSomeAnd, Ok, Err}
use Rattle.std.proofs.lemmas.List.Elements.{All-map, All-weaker}
use Rattle.txn_types.specs.Letters.{Letter, Named, sent_by, given_out}
use Rattle.txn_types.specs.declared.cause.Cause.TheVariants as cause
use Rattle.txn_types.specs.declared.decision.Told.{Told}
use Rattle.txn_types.specs.declared.decision.Told.TheVariants as told
use Rattle.txn_types.specs.declared.event.Happening.{Happening}
use Rattle.txn_types.specs.declared.event.Happening.TheVariants as what
use Rattle.txn_types.specs.declared.event.NodeAnswer.{NodeAnswer}
use Rattle.txn_types.specs.declared.event.NodeAnswer.TheVariants as answer
use Rattle.txn_types.specs.declared.event.NodeEvent.{NodeEvent}
use Rattle.txn_types.specs.declared.message.Answer.{Answer}
use Rattle.txn_types.specs.declared.message.Commit.{Commit}
use Rattle.txn_types.specs.declared.message.Envelope.{Envelope}
use Rattle.txn_types.specs.declared.message.Msg.{Msg}
use Rattle.txn_types.specs.declared.message.Msg.TheVariants as msg
use Rattle.txn_types.specs.declared.message.Outcome.{Outcome}
use Rattle.txn_types.specs.declared.message.Recover.{Recover}
use Rattle.txn_types.specs.declared.message.Statement.{Statement}
use Rattle.txn_types.specs.declared.node.Lsid.{Lsid}
use Rattle.txn_types.specs.declared.node.NodeId.{NodeId}
use Rattle.txn_types.specs.declared.node.NodeId.TheVariants.{Shard}
use Rattle.txn_types.specs.declared.operation.OpReply.{OpReply}
use Rattle.txn_types.specs.Order.{lsid_cmp}
use Rattle.txn_semantics.specs.Keyed.{Rises}
use Rattle.version_store.specs.declared.version.Held.{Held}
use Rattle.journal_rec.specs.declared.record.Rec.{Rec}
use Rattle.session_table.specs.declared.session.Session.{Session}
use Rattle.session_table.specs.declared.session.SessionState.TheVariants as state
use Rattle.coordinator.specs.TwoPhase.{Coordinated, Coordinations, coordinated_of, resends}
use Rattle.participant.specs.declared.said.Open.{Open}
use Rattle.participant.specs.declared.said.Said.{Said}
use Rattle.participant.specs.declared.said.Said.TheVariants.{Did, Blocked, Refused, Late}
use Rattle.participant.specs.Abort.{abort}
use Rattle.participant.specs.Commit.{commit}
use Rattle.participant.specs.Memory.{may_tell_memory}
use Rattle.participant.specs.Part.{Part, session, open_of, elsewhere}
use Rattle.participant.specs.Recover.{recover}
use Rattle.participant.specs.Sound.{IsPart, IsLive}
use Rattle.participant.specs.Statement.{statement}
use Rattle.participant.proofs.Cases.{either}
use Rattle.participant.proofs.Moving.{one_session}
use Rattle.part_laws.specs.Turned.{NoneBegins}
use Rattle.shard_core.specs.State.{ShardState, with_part, met, ceiling_of}
use Rattle.shard_core.specs.Ruled.{Ruled, quiet, outcome, coordinates}
use Rattle.shard_core.specs.Coordinating.{on_resend, on_recover, unless_coordinated, unless_older}
use Rattle.shard_core.specs.Coordinating.{larger_number, recovers}
use Rattle.shard_core.specs.Participating.{answer as answer_to, answers, outcome_if}
use Rattle.shard_core.specs.Rules.{ruled, router_of, from_router}
use Rattle.shard_core.specs.Wanting.{wanting, Wanting, told_if, told_memory, may_be_told}
use Rattle.shard_core.specs.Core.{Room, Ample, Scarce, Short, CoreStep, core_step, step_if, stepped}
use Rattle.shard_core.specs.Core.{stays as core_stays, entered, happened, scarce, running_step}
use Rattle.shard_core.specs.Core.{stopped_step, answer_stopped, says_stopped, answer_of}
use Rattle.serving_laws.specs.Left.{Enters}
use Rattle.serving_laws.proofs.Ending.{expire_none, memory_none, none_same}
use Rattle.one_shard_laws.specs.Alone.{IsAlone, EventAlone}
use Rattle.world_laws.proofs.Naming.{nothing, one}
use Rattle.answer_laws.proofs.Lists.{both_true}
use Rattle.known_laws.specs.Known.{PartNamed}
use Rattle.known_laws.proofs.Sessions.{entry_named, expire_moves}
use Rattle.making_laws.proofs.Expiring.{Expires, expire_left}
use Rattle.making_laws.proofs.Leaving.{LivesStand}
use Rattle.decision_laws.proofs.Ageing.{Ages, NoneFreed, Changes, Older, still, memory_ages}
use Rattle.decision_laws.proofs.Ageing.{abort_ages, statement_ages}
use Rattle.decision_laws.proofs.Doing.{Has, HadWritten, TurnHas, had_same, statement_has}
use Rattle.decision_laws.proofs.Replies.{ok_is}
use Rattle.decision_laws.proofs.Saying.{SaysOf, RecoverSays, Records, TellsAborted}
use Rattle.decision_laws.proofs.Saying.{Frees, commit_does, recover_does, memory_tells}

-- what is told of an end answers what was asked, by the shard's part before and after
abbrev pub AskedAs : Part → Part → Msg → Outcome → Type 0
AskedAs p q (msg.Commit m) x = (x.tag ≡ m.tag) × SaysOf p q m x.told
AskedAs p q (msg.Recover m) x = (x.tag ≡ m.tag) × RecoverSays p q m x.told
AskedAs p q other x = ⊥

-- a reply tells what the statement's transaction, which is live, has then of it
pub record Replies (q : Part) (m : Statement) (a : Answer) (done : OpReply × Bool) : Type 0 where
  pub boot : a.boot ≡ q.boot
  pub tag : a.tag ≡ m.tag
  pub k : a.k ≡ m.k
  pub has : Has q m.lsid m.tag m.k done.0 done.1

abbrev pub AnswersAs : Part → Msg → Answer → Type 0
AnswersAs q (msg.Statement m) a =
    (done : OpReply × Bool) → a.outcome ≡ Ok done → Replies q m a done
AnswersAs q other a = (done : OpReply × Bool) → a.outcome ≡ Ok done → ⊥

abbrev pub OutTo : Part → Part → Msg → Msg → Type 0
OutTo p q m (msg.Outcome x) = AskedAs p q m x
OutTo p q m (msg.Answer a) = AnswersAs q m a
OutTo p q m other = Unit {0}

-- what a live transaction has written it had before, or its newest statement wrote
abbrev pub HadBy : Part → Part → Msg → Type 0
HadBy p q (msg.Statement m) = HadWritten p q m.lsid
HadBy p q other = Unit {0}

had_none : (p q : Part) (m : Msg) → NoneBegins p q → HadBy p q m
had_none p q (msg.Statement m) h = had_same p q h m.lsid
had_none p q other h = tt

had_still : (p : Part) (m : Msg) → HadBy p p m
had_still p m = had_none p p m (none_same p)

-- what is recorded is the commit that was asked for
abbrev pub RecTo : Part → Part → Msg → Rec → Type 0
RecTo p q (msg.Commit m) r = Records p q m r
RecTo p q other r = ⊥

-- what is released then was so before, or what was asked releases it
abbrev pub FreesBy : Part → Part → Msg → Type 0
FreesBy p q (msg.Commit m) = Frees p q m
FreesBy p q other = NoneFreed p q

none_frees_by : (p q : Part) (m : Msg) → NoneFreed p q → FreesBy p q m
none_frees_by p q (msg.Commit m) h = λ lsid t there free. inl (h lsid t there free)
none_frees_by p q other h = h

pub record RuleSays (p : Part) (m : Msg) (r : Ruled) : Type 0 where
  pub ages : Ages p r.core.part
  pub frees : FreesBy p r.core.part m
  pub had : HadBy p r.core.part m
  pub out : All (λ (l : Letter). OutTo p r.core.part m l.1) r.out
  pub rec : IfSome r.rec (RecTo p r.core.part m)

-- Nothing is said, or one letter, and nothing is recorded.

abbrev LetterTo : Part → Part → Msg → Letter → Type 0
LetterTo p q m l = OutTo p q m l.1

quiet_says : (s : ShardState) (m : Msg) (q : Part) → Changes s.part q → HadBy s.part q m
    → RuleSays s.part m (quiet (with_part s q))
quiet_says s m q ages had = record {
  ages = ages.0;
  frees = none_frees_by s.part q m ages.1;
  had = had;
  out = nothing (LetterTo s.part q m);
  rec = tt;
}

one_says : (s : ShardState) (m : Msg) (q : Part) (l : Letter) → Changes s.part q
    → HadBy s.part q m → OutTo s.part q m l.1
    → RuleSays s.part m (record { core = with_part s q; rec = None; out = l ∷ []; held = None })
one_says s m q l ages had says = record {
  ages = ages.0;
  frees = none_frees_by s.part q m ages.1;
  had = had;
  out = one (LetterTo s.part q m) l says;
  rec = tt;
}

-- Statements, and commits.

said_says : (s : ShardState) (to : NodeId) (m : Statement) (q : Part) (said : Said)
    → Changes s.part q → TurnHas s.part m (said, q)
    → RuleSays s.part (msg.Statement m) (answers (with_part s q) to m said)
said_says s to m q (Did at reply wrote) ages has =
    one_says s (msg.Statement m) q (answer_to (with_part s q) to m at (Ok (reply, wrote))) ages
    has.had (λ done e. record {
      boot = refl;
      tag = refl;
      k = refl;
      has = subst (λ (d : OpReply × Bool). Has q m.lsid m.tag m.k d.0 d.1)
          (ok_is (reply, wrote) done e) has.says;
    })
said_says s to m q (Blocked held) ages has = record {
  ages = ages.0;
  frees = ages.1;
  had = has.had;
  out = nothing (LetterTo s.part q (msg.Statement m));
  rec = tt;
}
said_says s to m q (Refused why at) ages has =
    one_says s (msg.Statement m) q (answer_to (with_part s q) to m at (Err why)) ages has.had
    (λ done e. cc)
said_says s to m q Late ages has = quiet_says s (msg.Statement m) q ages has.had

outcome_says : (s : ShardState) (p q : Part) (m : Commit) (to : NodeId) (t : Option Told)
    → IfSome t (SaysOf p q m)
    → All (LetterTo p q (msg.Commit m)) (outcome_if s m.tag to t)
outcome_says s p q m to None h = nothing (LetterTo p q (msg.Commit m))
outcome_says s p q m to (Some t) h =
    one (LetterTo p q (msg.Commit m)) (outcome s m.tag t to) (refl, h)

-- A recovery.

module _ (s : ShardState) (none : s.coord ≡ []) (m : Recover) where
  abbrev R : Ruled → Type 0
  R r = RuleSays s.part (msg.Recover m) r

  none_here : coordinated_of s.coord m.tag ≡ None
  none_here = ap (λ (c : Coordinations). coordinated_of c m.tag) none

  coordinated_case : (router : ℕ) (c : Option Coordinated) (other : Ruled)
      → coordinated_of s.coord m.tag ≡ c → R other → R (unless_coordinated s router m.tag c other)
  coordinated_case router None other is h = h
  coordinated_case router (Some c) other is h =
      let wrong : None ≡ Some c = sym none_here ∙ is in cc

  older_case : (router : ℕ) (have : Option ℤ) (other : Ruled) → R other
      → R (unless_older s router m.tag have other)
  older_case router None other h = h
  older_case router (Some have) other h =
      one_says s (msg.Recover m) s.part (outcome s m.tag (told.TooOld have) _) (still s.part) tt
      (refl, tt)

  recover_says : (router : Option ℕ) → R (from_router s (λ n. on_recover s n m) router)
  recover_says None = quiet_says s (msg.Recover m) s.part (still s.part) tt
  recover_says (Some n) =
      let d = recover_does s.part m in
      older_case n (larger_number (session s.part m.lsid) m.number)
      (unless_coordinated s n m.tag (coordinated_of s.coord m.tag) (recovers s n m))
      (coordinated_case n (coordinated_of s.coord m.tag) (recovers s n m) refl
      (one_says s (msg.Recover m) (recover s.part m).1 _ d.ages tt (refl, d.told)))

resends_none : (Q : Letter → Type 0) (own : ℕ) (coords : Coordinations) → coords ≡ []
    → All Q (resends own coords)
resends_none Q own coords none =
    subst (λ (c : Coordinations). All Q (resends own c)) (sym none) (nothing Q)

resend_says : (s : ShardState) (m : Msg) → s.coord ≡ [] → RuleSays s.part m (on_resend s)
resend_says s m none = record {
  ages = (still s.part).0;
  frees = none_frees_by s.part s.part m (still s.part).1;
  had = had_still s.part m;
  out = resends_none (LetterTo s.part s.part m) s.part.shard s.coord none;
  rec = tt;
}

-- the session of what is live has its tag
abbrev TagsStand : Part → Type 0
TagsStand p = (lsid : Lsid) (o : Open) (x : Session) → open_of p lsid ≡ Some o
    → session p lsid ≡ Some x → x.tag ≡ o.tag

ruled_says : (s : ShardState) → s.coord ≡ [] → Rises lsid_cmp s.part.live → TagsStand s.part
    → (from : NodeId) (m : Msg) → IsAlone m → RuleSays s.part m (ruled s from m)
ruled_says s none rises tags from (msg.Statement m) alone =
    let turn = statement s.part s.clock.last s.wall m in
    either (elsewhere s.part m.lsid m.tag) (RuleSays s.part (msg.Statement m)) _ _
    (quiet_says s (msg.Statement m) s.part (still s.part) (had_still s.part (msg.Statement m)))
    (said_says s from m turn.1 turn.0 (statement_ages s.part s.clock.last s.wall m)
    (statement_has s.part rises m (tags m.lsid) s.clock.last s.wall))
ruled_says s none rises tags from (msg.Answer m) alone = quiet_says s (msg.Answer m) s.part (still s.part) tt
ruled_says s none rises tags from (msg.Commit m) alone =
    let c = commit s.part s.clock.last s.wall m in
    let d = commit_does s.part s.clock.last s.wall m in
    record {
      ages = d.ages;
      frees = d.frees;
      had = tt;
      out = outcome_says s s.part c.part m from c.told d.told;
      rec = d.rec;
    }
ruled_says s none rises tags from (msg.Outcome m) alone = quiet_says s (msg.Outcome m) s.part (still s.part) tt
ruled_says s none rises tags from (msg.Abort m) alone =
    either (coordinates s m.tag) (RuleSays s.part (msg.Abort m)) _ _
    (quiet_says s (msg.Abort m) s.part (still s.part) tt)
    (quiet_says s (msg.Abort m) (abort s.part m) (abort_ages s.part m) tt)
ruled_says s none rises tags from (msg.CommitTwo m) alone = absurd alone
ruled_says s none rises tags from (msg.Prepare m) alone = absurd alone
ruled_says s none rises tags from (msg.Vote m) alone = absurd alone
ruled_says s none rises tags from (msg.Decide m) alone = absurd alone
ruled_says s none rises tags from (msg.Acked m) alone = absurd alone
ruled_says s none rises tags from (msg.Recover m) alone = recover_says s none m (router_of from)
ruled_says s none rises tags from msg.Nudge alone = resend_says s msg.Nudge none

-- What expires was live.

some_and : (P : Session → Type 0) (x : Option Session) → IsSomeAnd x P
    → (s : Session) × (x ≡ Some s) × P s
some_and P None h = absurd h
some_and P (Some s) h = (s, refl, h)

pub lives_stand : (p : Part) → IsPart p → LivesStand p
lives_stand p h = record {
  rises = h.rises;
  live = λ lsid o is.
      let k = entry_named (λ (entry : Lsid × Open). IsLive p entry.0 entry.1) lsid p.live h.live
      o is in
      let own = some_and (λ s. (s.tag ≡ o.tag) × (s.state ≡ state.Live)) (session p lsid)
      k.session in
      record { own = own.0; there = own.1; live = own.2.1 };
}

tags_stand : (p : Part) → IsPart p → TagsStand p
tags_stand p h lsid o x is there =
    let k = entry_named (λ (entry : Lsid × Open). IsLive p entry.0 entry.1) lsid p.live h.live o
    is in
    let own = some_and (λ s. (s.tag ≡ o.tag) × (s.state ≡ state.Live)) (session p lsid)
    k.session in
    let same : own.0 ≡ x = one_session p lsid own.0 x own.1 there in
    ap (λ (y : Session). y.tag) (sym same) ∙ own.2.0

expired_tags : (p q : Part) → Expires p q → NoneBegins p q → TagsStand p → TagsStand q
expired_tags p q e none h lsid o x is there =
    elim (e lsid) [
      | inl same ↦ h lsid o x (none lsid o is) (sym same ∙ there)
      | inr gone ↦
          let new : Session = record {
            number = gone.old.number;
            tag = gone.old.tag;
            state = state.Aborted (cause.Expired gone.begun gone.wall) 0;
          } in
          let same : new ≡ x = one_session q lsid new x gone.now there in
          ap (λ (y : Session). y.tag) (sym same) ∙ h lsid o gone.old (none lsid o is) gone.there
    ]

expired_frees : (p q : Part) → Expires p q → NoneFreed p q
expired_frees p q e lsid t there free =
    elim (e lsid) [
      | inl same ↦ sym same ∙ there
      | inr x ↦
          let new : Session = record {
            number = x.old.number;
            tag = x.old.tag;
            state = state.Aborted (cause.Expired x.begun x.wall) 0;
          } in
          let is : Some new ≡ Some t = sym x.now ∙ there in
          let one : new ≡ t = grind (arith, is) in
          let wrong : state.Aborted (cause.Expired x.begun x.wall) 0 ≡ state.Released =
          ap (λ (y : Session). y.state) one ∙ free in
          cc
    ]

expired_ages : (p q : Part) → Expires p q → Ages p q
expired_ages p q e lsid s there =
    elim (e lsid) [
      | inl same ↦ (s, same ∙ there, inl refl)
      | inr x ↦
          let is : Some x.old ≡ Some s = sym x.there ∙ there in
          let own : x.old ≡ s = grind (arith, is) in
          let new : Session = record {
            number = x.old.number;
            tag = x.old.tag;
            state = state.Aborted (cause.Expired x.begun x.wall) 0;
          } in
          (new, x.now, subst (λ (y : Session). Older y new) own (inr (inr (x.live, refl, refl))))
    ]

-- A step.

-- what was asked; what else happens asks for the end of no transaction
abbrev pub asked_by : Happening → Msg
asked_by (what.Deliver e) = e.msg
asked_by other = msg.Nudge

-- `P` says of a name that it stands
pub record StepSays (P : Named → Type 0) (s : ShardState) (w : Happening)
    (o : CoreStep) : Type 0 where
  pub p : Part
  pub entered : Enters s.part p
  pub enters : Ages s.part p
  pub none_freed : NoneFreed s.part p
  pub boot : p.boot ≡ s.part.boot
  pub named : PartNamed P s.part → PartNamed P p
  pub ages : Ages p o.core.part
  pub frees : FreesBy p o.core.part (asked_by w)
  pub had : HadBy p o.core.part (asked_by w)
  pub out : All (λ (e : Envelope). OutTo p o.core.part (asked_by w) e.msg) (given_out o.answer)
  pub rec : IfSome o.rec (RecTo p o.core.part (asked_by w))

-- what is said of each letter is said of what is given out
given : (Q : Msg → Type 0) (s : ShardState) (out : List Letter) (held : Option Held)
    → All (λ (l : Letter). Q l.1) out
    → All (λ (e : Envelope). Q e.msg) (given_out (answer_of s out held))
given Q s out None h =
    All-map (λ (e : Envelope). Q e.msg) (sent_by (Shard s.part.shard) s.clock.last) out
    (All-weaker (λ (l : Letter). Q l.1)
    (λ (l : Letter). Q (sent_by (Shard s.part.shard) s.clock.last l).msg) (λ l k. k) out h)
given Q s out (Some held) h = nothing (λ (e : Envelope). Q e.msg)

abbrev IfStep : (CoreStep → Type 0) → Option CoreStep → Type 0
IfStep Q None = Unit {0}
IfStep Q (Some o) = Q o

-- out of memory is told where it may be
abbrev WantSays : Part → Msg → Option Wanting → Type 0
WantSays p m None = Unit {0}
WantSays p m (Some w) = (q : Part)
    → (may_tell_memory p w.lsid w.number w.tag ≡ true → TellsAborted p q w.lsid w.number w.tag)
    → may_tell_memory p w.lsid w.number w.tag ≡ true → OutTo p q m w.letter.1

want_says : (s : ShardState) (from : NodeId) (m : Msg) → IsAlone m
    → WantSays s.part m (wanting s from m)
want_says s from (msg.Statement m) alone = either (elsewhere s.part m.lsid m.tag)
    (WantSays s.part (msg.Statement m)) _ _ tt (λ q h may done e. cc)
want_says s from (msg.Answer m) alone = tt
want_says s from (msg.Commit m) alone = λ q h may. (refl, h may)
want_says s from (msg.Outcome m) alone = tt
want_says s from (msg.Abort m) alone = tt
want_says s from (msg.CommitTwo m) alone = absurd alone
want_says s from (msg.Prepare m) alone = absurd alone
want_says s from (msg.Vote m) alone = absurd alone
want_says s from (msg.Decide m) alone = absurd alone
want_says s from (msg.Acked m) alone = absurd alone
want_says s from (msg.Recover m) alone =
    either (is_some (router_of from)) (WantSays s.part (msg.Recover m)) _ _
    (λ q h may. (refl, h may)) tt
want_says s from msg.Nudge alone = tt

module _ (P : Named → Type 0) (s : ShardState) (none : s.coord ≡ []) (sound : IsPart s.part)
    (wall : ℕ) where
  abbrev t : ShardState
  t = entered s (record { wall = wall; what = what.Moment })

  expires : Expires s.part t.part
  expires = (expire_left s.part (max s.wall wall) (lives_stand s.part sound)).0

  rises : Rises lsid_cmp t.part.live
  rises = (expire_left s.part (max s.wall wall) (lives_stand s.part sound)).1.rises

  tags : TagsStand t.part
  tags = expired_tags s.part t.part expires
      (expire_none s.part (max s.wall wall) sound.rises) (tags_stand s.part sound)

  entered_so : Enters s.part t.part
  entered_so = inr (max s.wall wall, refl)

  boot : t.part.boot ≡ s.part.boot
  boot = (expire_moves (λ x. Unit {0}) s.part (max s.wall wall)).boot

  named : PartNamed P s.part → PartNamed P t.part
  named k = (expire_moves P s.part (max s.wall wall)).named k

  from : (w : Happening) (u : ShardState) (ceiling : Option ℕ) (r : Ruled) → u.part ≡ t.part
      → RuleSays u.part (asked_by w) r → StepSays P s w (stepped ceiling r)
  from w u ceiling r same h = record {
    p = u.part;
    entered = subst (Enters s.part) (sym same) entered_so;
    enters = subst (Ages s.part) (sym same) (expired_ages s.part t.part expires);
    none_freed = subst (NoneFreed s.part) (sym same) (expired_frees s.part t.part expires);
    boot = ap (λ (x : Part). x.boot) same ∙ boot;
    named = λ k. subst (PartNamed P) (sym same) (named k);
    ages = h.ages;
    frees = h.frees;
    had = h.had;
    out = given (OutTo u.part r.core.part (asked_by w)) r.core r.out r.held h.out;
    rec = h.rec;
  }

  happens : (w : Happening) → EventAlone w → StepSays P s w (happened t w)
  happens (what.Deliver e) alone =
      from (what.Deliver e) (met t e) (ceiling_of t e) (ruled (met t e) e.from e.msg) refl
      (ruled_says (met t e) none rises tags e.from e.msg alone)
  happens (what.Client conn frame) alone = from (what.Client conn frame) t None (quiet t) refl
      (quiet_says t msg.Nudge t.part (still t.part) tt)
  happens (what.Gone conn) alone = from (what.Gone conn) t None (quiet t) refl
      (quiet_says t msg.Nudge t.part (still t.part) tt)
  happens what.Resend alone =
      from what.Resend t None (on_resend t) refl (resend_says t msg.Nudge none)
  happens what.Moment alone = from what.Moment t None (quiet t) refl
      (quiet_says t msg.Nudge t.part (still t.part) tt)

  told_step : (e : Envelope) (w : Option Wanting) → WantSays t.part e.msg w
      → IfStep (StepSays P s (what.Deliver e)) (option_map (stepped (ceiling_of t e))
      (option_and_then (told_if (met t e)) w))
  told_step e None h = tt
  told_step e (Some w) h = by (may_be_told (met t e) w) refl
    where
      by : (test : Bool) → may_be_told (met t e) w ≡ test
          → IfStep (StepSays P s (what.Deliver e)) (option_map (stepped (ceiling_of t e))
          (if test then Some (told_memory (met t e) w) else None))
      by true may =
          let can = (both_true (may_tell_memory t.part w.lsid w.number w.tag)
          (not (coordinates (met t e) w.tag)) may).0 in
          let q = (told_memory (met t e) w).core.part in
          from (what.Deliver e) (met t e) (ceiling_of t e) (told_memory (met t e) w) refl
          (one_says (met t e) e.msg q w.letter (memory_ages t.part w.lsid w.tag)
          (had_none t.part q e.msg (memory_none t.part rises w.lsid w.tag))
          (h q (λ k. memory_tells t.part w.lsid w.number w.tag k) can))
      by false may = tt

  scarce_step : (w : Happening) → EventAlone w → IfStep (StepSays P s w) (scarce t w)
  scarce_step (what.Client conn frame) alone = tt
  scarce_step (what.Gone conn) alone = tt
  scarce_step (what.Deliver e) alone = told_step e (wanting (met t e) e.from e.msg)
      (want_says (met t e) e.from e.msg alone)
  scarce_step what.Resend alone = tt
  scarce_step what.Moment alone = tt

module _ (P : Named → Type 0) (s : ShardState) where
  rests : (w : Happening) (a : NodeAnswer)
      → All (λ (e : Envelope). OutTo s.part s.part (asked_by w) e.msg) (given_out a)
      → StepSays P s w (core_stays s a)
  rests w a out = record {
    p = s.part;
    entered = inl refl;
    enters = (still s.part).0;
    none_freed = (still s.part).1;
    boot = refl;
    named = λ k. k;
    ages = (still s.part).0;
    frees = none_frees_by s.part s.part (asked_by w) (still s.part).1;
    had = had_still s.part (asked_by w);
    out = out;
    rec = tt;
  }

  silent : (w : Happening) (a : NodeAnswer) → given_out a ≡ [] → StepSays P s w (core_stays s a)
  silent w a is = rests w a
      (subst (All (λ (e : Envelope). OutTo s.part s.part (asked_by w) e.msg)) (sym is)
      (nothing (λ (e : Envelope). OutTo s.part s.part (asked_by w) e.msg)))

  or_memory : (w : Happening) (o : Option CoreStep) → IfStep (StepSays P s w) o
      → StepSays P s w (unwrap_or o (core_stays s answer.Memory))
  or_memory w None h = silent w answer.Memory refl
  or_memory w (Some o) h = h

  running : s.coord ≡ [] → IsPart s.part → (room : Room) (e : NodeEvent) → EventAlone e.what
      → StepSays P s e.what (running_step room s e)
  running none sound Ample e alone = happens P s none sound e.wall e.what alone
  running none sound Scarce e alone = or_memory e.what (scarce (entered s e) e.what)
      (scarce_step P s none sound e.wall e.what alone)
  running none sound Short e alone = silent e.what answer.Memory refl

pub step_says : (P : Named → Type 0) (room : Room) (s : ShardState) (e : NodeEvent) → s.stopped ≡ None → s.coord ≡ []
    → IsPart s.part → EventAlone e.what → StepSays P s e.what (core_step room s e)
unfolding core_step
step_says P room s e run none sound alone =
    subst (λ (x : Option ℕ). StepSays P s e.what (step_if room s e x)) (sym run)
    (running P s none sound room e alone)

-- A stopped shard tells of no end, and replies to no statement.

abbrev pub IsNoEnd : Msg → Type 0
IsNoEnd (msg.Outcome x) = ⊥
IsNoEnd (msg.Answer a) = (done : OpReply × Bool) → a.outcome ≡ Ok done → ⊥
IsNoEnd other = Unit {0}

abbrev pub NoneEnds : NodeAnswer → Type 0
NoneEnds a = All (λ (e : Envelope). IsNoEnd e.msg) (given_out a)

none_ends : (a : NodeAnswer) → given_out a ≡ [] → NoneEnds a
none_ends a is = subst (All (λ (e : Envelope). IsNoEnd e.msg)) (sym is)
    (nothing (λ (e : Envelope). IsNoEnd e.msg))

stopped_case : (s : ShardState) (faults : ℕ) (from : NodeId) (m : Msg)
    → NoneEnds (says_stopped s faults from m)
stopped_case s faults to (msg.Statement m) =
    one (λ (x : Envelope). IsNoEnd x.msg) _ (λ done e. cc)
stopped_case s faults to other = none_ends answer.Stopped refl

stopped_ends : (s : ShardState) (faults : ℕ) (w : Happening)
    → NoneEnds (answer_stopped s faults w)
stopped_ends s faults (what.Deliver e) = stopped_case s faults e.from e.msg
stopped_ends s faults other = none_ends answer.Stopped refl

by_room : (room : Room) (s : ShardState) (faults : ℕ) (e : NodeEvent)
    → NoneEnds (stopped_step room s faults e).answer
by_room Ample s faults e = stopped_ends s faults e.what
by_room Scarce s faults e = none_ends answer.Memory refl
by_room Short s faults e = none_ends answer.Memory refl

pub stopped_tells_none : (room : Room) (s : ShardState) (e : NodeEvent) (faults : ℕ)
    → s.stopped ≡ Some faults → NoneEnds (core_step room s e).answer
unfolding core_step
stopped_tells_none room s e faults is =
    subst (λ (x : Option ℕ). NoneEnds (step_if room s e x).answer) (sym is)
    (by_room room s faults e)
