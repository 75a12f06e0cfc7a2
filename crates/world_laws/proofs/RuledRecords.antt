-- What a shard holds and tells of prepared and committed transactions has its record, after the
-- rule of each message.
use Rattle.std.proofs.Common.{◌≡◌, sym, subst, Bool, true, false, if◌then◌else◌, ℕ, ℤ, List, []}
use Rattle.std.proofs.Common.{◌∷◌, All, Option, Some, None, IfSome, Result, refl, nat_eq}
use Rattle.std.proofs.lemmas.List.Elements.{All-nil, All-head, All-tail, All-append}
use Rattle.txn_types.specs.Letters.{Letter}
use Rattle.txn_types.specs.Order.{same_tag, tag_cmp}
use Rattle.txn_types.specs.declared.cause.Cause.{Cause}
use Rattle.txn_types.specs.declared.decision.Decision.{Decision}
use Rattle.txn_types.specs.declared.decision.Told.{Told}
use Rattle.txn_types.specs.declared.message.Statement.{Statement}
use Rattle.txn_types.specs.declared.message.CommitTwo.{CommitTwo}
use Rattle.txn_types.specs.declared.message.Prepare.{Prepare}
use Rattle.txn_types.specs.declared.message.Vote.{Vote}
use Rattle.txn_types.specs.declared.message.Acked.{Acked}
use Rattle.txn_types.specs.declared.message.Msg.{Msg}
use Rattle.txn_types.specs.declared.message.Msg.TheVariants as msg
use Rattle.txn_types.specs.declared.names.Tag.{Tag}
use Rattle.txn_types.specs.declared.node.NodeId.{NodeId}
use Rattle.session_table.specs.declared.session.Session.{Session}
use Rattle.session_table.specs.declared.session.SessionState.{SessionState}
use Rattle.session_table.specs.declared.session.SessionState.TheVariants as state
use Rattle.journal_rec.specs.declared.record.Decided.{Decided}
use Rattle.journal_rec.specs.declared.record.Rec.{Rec}
use Rattle.journal_rec.specs.declared.record.Rec.TheVariants as rec
use Rattle.coordinator.specs.TwoPhase.{Coordinated, Coordinations, coordinated_of, decided_by}
use Rattle.coordinator.specs.TwoPhase.{with_asker, undecided, counts, voted, behind_vote, acked}
use Rattle.coordinator.specs.TwoPhase.{ack_counts, all_acked, with_ack, prepare_to, decide_to}
use Rattle.coordinator.specs.TwoPhase.{resends, resends_by}
use Rattle.participant.specs.declared.said.Said.{Said}
use Rattle.participant.specs.declared.said.Said.TheVariants.{Did, Blocked, Refused, Late}
use Rattle.participant.specs.Part.{Part, session, elsewhere, aborted}
use Rattle.participant.specs.Statement.{statement}
use Rattle.participant.specs.Commit.{commit}
use Rattle.participant.specs.Prepare.{prepare}
use Rattle.participant.specs.Decide.{decide}
use Rattle.participant.specs.Abort.{abort}
use Rattle.participant.specs.Recover.{recover}
use Rattle.participant.proofs.Cases.{either}
use Rattle.shard_core.specs.State.{ShardState, with_part}
use Rattle.shard_core.specs.Ruled.{Ruled, quiet, coordinates, outcome}
use Rattle.shard_core.specs.Participating.{answers, outcome_if, vote_if, decided_record}
use Rattle.shard_core.specs.Coordinating.{asks, tells, starts, plan_of, told_of, unless_coordinated}
use Rattle.shard_core.specs.Coordinating.{unless_older, unless_known, larger_number, starts_own}
use Rattle.shard_core.specs.Coordinating.{starts_new, votes_on, votes_if, acks_if, on_commit_two}
use Rattle.shard_core.specs.Coordinating.{on_recover, recovers}
use Rattle.txn_types.specs.declared.decision.Decision.TheVariants as decision
use Rattle.shard_core.specs.Rules.{ruled, from_router, router_of}
use Rattle.world_laws.proofs.Naming.{nothing, one, each, put_all, taken_all, found, tag_is}
use Rattle.txn_types.specs.declared.decision.Decision.TheVariants as decision
use Rattle.txn_semantics.specs.Keyed.{put}
use Rattle.world_laws.specs.Recorded.{StateRecorded, PartRecorded, CommitRecorded, CoordRecorded}
use Rattle.world_laws.specs.Recorded.{CoreRecorded, ToldRecorded, VoteHere, LetterRecorded}
use Rattle.world_laws.specs.Recorded.{ComesRecorded, Makes, RestsOn, RuledRecorded}
use Rattle.world_laws.proofs.Numbers.{commit_as, prepare_as, CommitsAt, PreparesAt}
use Rattle.world_laws.proofs.PartRecords.{either_if, aborted_keeps, session_recorded}
use Rattle.world_laws.proofs.PartRecords.{statement_keeps, abort_keeps, recover_keeps, decide_keeps}
use Rattle.world_laws.proofs.PartRecords.{commit_keeps, prepare_keeps}

module _ (V C : Tag → ℕ → Type 0) where
  abbrev Out : ℕ → List Letter → Type 0
  Out shard out = All (λ l. LetterRecorded V C shard l.1) out

  abbrev pub InOut : ℕ → Letter → Type 0
  InOut shard l = LetterRecorded V C shard l.1

  abbrev InCoord : Tag × Coordinated → Type 0
  InCoord c = IfSome c.1.decision (CommitRecorded C c.0)

  -- where the record that a rule makes stands
  abbrev Q : Ruled → Type 0
  Q r = IfSome r.rec (Makes V C) → RuledRecorded V C r

  -- what is coordinated

  vote_case : (tag : Tag) (shard : ℕ) (vote : Result ℕ Cause)
      (c : Coordinated) (coords : Coordinations) (test : Bool)
      → IfSome (if test then (behind_vote shard vote c).decision else None) (CommitRecorded C tag)
      → CoordRecorded C coords
      → CoordRecorded C (if test then put tag_cmp tag (behind_vote shard vote c) coords else coords)
  vote_case tag shard vote c coords true k h =
      put_all tag_cmp InCoord tag (behind_vote shard vote c) coords k h
  vote_case tag shard vote c coords false k h = h

  voted_keeps : (tag : Tag) (shard : ℕ) (vote : Result ℕ Cause) (c : Coordinated)
      (coords : Coordinations) → IfSome (decided_by shard vote c) (CommitRecorded C tag)
      → CoordRecorded C coords → CoordRecorded C (voted tag shard vote c coords)
  voted_keeps tag shard vote c coords k h = vote_case tag shard vote c coords (counts shard c) k h

  acked_keeps : (tag : Tag) (shard : ℕ) (c : Coordinated) (coords : Coordinations)
      → IfSome c.decision (CommitRecorded C tag) → CoordRecorded C coords
      → CoordRecorded C (acked tag shard c coords)
  acked_keeps tag shard c coords k h =
      either (ack_counts shard c) (CoordRecorded C) _ _
      (either (all_acked (with_ack shard c)) (CoordRecorded C) _ _ (taken_all tag_cmp InCoord tag
      coords h) (put_all tag_cmp InCoord tag (with_ack shard c) coords k h)) h

  resends_by_keeps : (shard own : ℕ) (tag : Tag) (c : Coordinated) (d : Option Decision)
      → IfSome d (CommitRecorded C tag) → Out shard (resends_by own tag c d)
  resends_by_keeps shard own tag c None h =
      each (InOut shard) (prepare_to own tag c.plan) _ (λ x. tt)
  resends_by_keeps shard own tag c (Some d) h =
      each (InOut shard) (decide_to tag c.plan d) _ (λ x. h)

  pub resends_keeps : (shard own : ℕ) (coords : Coordinations) → CoordRecorded C coords
      → Out shard (resends own coords)
  resends_keeps shard own [] h = All-nil (InOut shard)
  resends_keeps shard own (entry ∷ coords) h =
      All-append (InOut shard) (resends_by own entry.0 entry.1 entry.1.decision)
      (resends own coords)
      (resends_by_keeps shard own entry.0 entry.1 entry.1.decision (All-head InCoord entry coords
      h)) (resends_keeps shard own coords (All-tail InCoord entry coords h))

  keeps : (s : ShardState) (p : Part) → CoreRecorded V C s → PartRecorded V C p
      → CoreRecorded V C (with_part s p)
  keeps s p h k = record { part = k; coord = h.coord }

  quiet_keeps : (s : ShardState) → CoreRecorded V C s → Q (quiet s)
  quiet_keeps s h = λ r. record { core = h; rec = tt; out = nothing (InOut s.part.shard) }

  answers_keep : (s : ShardState) (p : Part) (to : NodeId) (m : Statement) (said : Said)
      → PartRecorded V C p → CoreRecorded V C s → Q (answers (with_part s p) to m said)
  answers_keep s p to m (Did read_at reply wrote) g h =
      λ r. record { core = keeps s p h g; rec = tt; out = one (InOut p.shard) _ tt }
  answers_keep s p to m (Blocked held) g h =
      λ r. record { core = keeps s p h g; rec = tt; out = nothing (InOut p.shard) }
  answers_keep s p to m (Refused why read_at) g h =
      λ r. record { core = keeps s p h g; rec = tt; out = one (InOut p.shard) _ tt }
  answers_keep s p to m Late g h =
      λ r. record { core = keeps s p h g; rec = tt; out = nothing (InOut p.shard) }

  outcome_out : (shard : ℕ) (s : ShardState) (tag : Tag) (to : NodeId) (t : Option Told)
      → IfSome t (ToldRecorded C tag) → Out shard (outcome_if s tag to t)
  outcome_out shard s tag to None h = nothing (InOut shard)
  outcome_out shard s tag to (Some t) h = one (InOut shard) (outcome s tag t to) h

  vote_out : (shard : ℕ) (s : ShardState) (m : Prepare) (v : Option (Result ℕ Cause))
      → s.part.shard ≡ shard → IfSome v (VoteHere V m.tag) → Out shard (vote_if s m v)
  vote_out shard s m None e h = nothing (InOut shard)
  vote_out shard s m (Some vote) e h = one (InOut shard) _ (h, e)

  commit_rests : (r : Option Rec) → (last : ℕ) → IfSome r (CommitsAt last) → IfSome r (RestsOn C)
  commit_rests None last h = tt
  commit_rests (Some (rec.Commit tag lsid number read_at at writes)) last h = tt
  commit_rests (Some (rec.Boot boot)) last h = tt
  commit_rests (Some (rec.Ceiling bound)) last h = tt
  commit_rests (Some (rec.Prepared tag lsid number boot read_at at coordinator writes)) last h = tt
  commit_rests (Some (rec.Decided d)) last h = absurd h
  commit_rests (Some (rec.CoordStart tag lsid number parts)) last h = tt
  commit_rests (Some (rec.CoordDecision tag d)) last h = tt
  commit_rests (Some (rec.CoordEnd tag)) last h = tt
  commit_rests (Some (rec.Floor floor)) last h = tt

  prepare_rests : (r : Option Rec) → (last : ℕ) → IfSome r (PreparesAt last) → IfSome r (RestsOn C)
  prepare_rests None last h = tt
  prepare_rests (Some (rec.Commit tag lsid number read_at at writes)) last h = tt
  prepare_rests (Some (rec.Boot boot)) last h = tt
  prepare_rests (Some (rec.Ceiling bound)) last h = tt
  prepare_rests (Some (rec.Prepared tag lsid number boot read_at at coordinator writes)) last h = tt
  prepare_rests (Some (rec.Decided d)) last h = absurd h
  prepare_rests (Some (rec.CoordStart tag lsid number parts)) last h = tt
  prepare_rests (Some (rec.CoordDecision tag d)) last h = tt
  prepare_rests (Some (rec.CoordEnd tag)) last h = tt
  prepare_rests (Some (rec.Floor floor)) last h = tt

  decided_rests : (d : Option Decided) → IfSome d (λ r. CommitRecorded C r.tag r.decision)
      → IfSome (decided_record d) (RestsOn C)
  decided_rests None h = tt
  decided_rests (Some d) h = h

  -- The coordinator.

  told_decision : (tag : Tag) (d : Decision) → CommitRecorded C tag d
      → ToldRecorded C tag (told_of d)
  told_decision tag (decision.Commit at) h = h
  told_decision tag (decision.Abort shard code) h = tt

  tells_keep : (s : ShardState) (router : ℕ) (tag : Tag) (t : Told) (p : Part)
      → ToldRecorded C tag t → CoreRecorded V C s → PartRecorded V C p
      → Q (tells (with_part s p) router tag t)
  tells_keep s router tag t p g h k =
      λ r. record { core = keeps s p h k; rec = tt; out = one (InOut p.shard) _ g }

  asks_keep : (s : ShardState) (router : ℕ) (tag : Tag) (c : Coordinated) (d : Option Decision)
      → coordinated_of s.coord tag ≡ Some c → c.decision ≡ d → CoreRecorded V C s
      → Q (asks s router tag c d)
  asks_keep s router tag c None e is h = λ r.
      record {
        core = record {
          part = h.part;
          coord = put_all tag_cmp InCoord tag (with_asker router c) s.coord (found InCoord tag
              s.coord h.coord c e) h.coord;
        };
        rec = tt;
        out = nothing (InOut s.part.shard);
      }
  asks_keep s router tag c (Some d) e is h =
      tells_keep s router tag (told_of d) s.part
      (told_decision tag d (subst (λ (o : Option Decision). IfSome o (CommitRecorded C tag)) is
      (found InCoord tag s.coord h.coord c e))) h h.part

  coordinated_keeps : (s : ShardState) (router : ℕ) (tag : Tag) (c : Option Coordinated)
      (other : Ruled) → coordinated_of s.coord tag ≡ c → CoreRecorded V C s → Q other
      → Q (unless_coordinated s router tag c other)
  coordinated_keeps s router tag None other e h k = k
  coordinated_keeps s router tag (Some c) other e h k = asks_keep s router tag c c.decision e refl h

  older_keeps : (s : ShardState) (router : ℕ) (tag : Tag) (have : Option ℤ) (other : Ruled)
      → CoreRecorded V C s → Q other → Q (unless_older s router tag have other)
  older_keeps s router tag None other h k = k
  older_keeps s router tag (Some have) other h k = tells_keep s router tag _ s.part tt h h.part

  known_keeps : (s : ShardState) (router : ℕ) (tag : Tag) (own : Option Session)
      (number : ℤ) (other : Ruled) → CoreRecorded V C s → Q other
      → Q (unless_known s router tag own number other)
  known_keeps s router tag own number other h k =
      older_keeps s router tag (larger_number own number)
      (unless_coordinated s router tag (coordinated_of s.coord tag) other) h
      (coordinated_keeps s router tag (coordinated_of s.coord tag) other refl h k)

  starts_keep : (s : ShardState) (router : ℕ) (m : CommitTwo) → CoreRecorded V C s
      → Q (starts s router m)
  starts_keep s router m h = λ r.
      record {
        core = record {
          part = h.part;
          coord = put_all tag_cmp InCoord m.tag (with_asker router (undecided (plan_of m)))
              s.coord tt h.coord;
        };
        rec = tt;
        out =
            each (InOut s.part.shard) (prepare_to s.part.shard m.tag (plan_of m)) m.parts (λ x. tt);
      }

  starts_own_keeps : (s : ShardState) (router : ℕ) (m : CommitTwo) (own : Session)
      (st : SessionState) → own.tag ≡ m.tag → StateRecorded V C own.tag st → CoreRecorded V C s
      → Q (starts_own s router m own st)
  starts_own_keeps s router m own state.Live e k h =
      either (nat_eq m.boot s.part.boot) Q _ _ (starts_keep s router m h) (tells_keep s router m.tag
      _ (aborted s.part m.lsid own _) tt h (aborted_keeps V C s.part m.lsid own _ h.part))
  starts_own_keeps s router m own (state.Prepared at coordinator) e k h = quiet_keeps s h
  starts_own_keeps s router m own (state.Committed at) e k h =
      tells_keep s router m.tag _ s.part (subst (λ (t : Tag). C t at) e k) h h.part
  starts_own_keeps s router m own state.Released e k h = quiet_keeps s h
  starts_own_keeps s router m own (state.Aborted why read_at) e k h =
      tells_keep s router m.tag _ s.part tt h h.part

  starts_new_keeps : (s : ShardState) (router : ℕ) (m : CommitTwo) (own : Option Session)
      → IfSome own (λ (x : Session). StateRecorded V C x.tag x.state) → CoreRecorded V C s
      → Q (starts_new s router m own)
  starts_new_keeps s router m None k h = tells_keep s router m.tag _ s.part tt h h.part
  starts_new_keeps s router m (Some own) k h =
      either_if (same_tag own.tag m.tag) Q _ _ (λ is. starts_own_keeps s router m own own.state
      (tag_is own.tag m.tag is) k h) (λ is. tells_keep s router m.tag _ s.part tt h h.part)

  votes_on_keep : (s : ShardState) (m : Vote) (c : Coordinated) (d : Option Decision)
      → coordinated_of s.coord m.tag ≡ Some c → decided_by m.shard m.vote c ≡ d → CoreRecorded V C s
      → Q (votes_on s m c d)
  votes_on_keep s m c None e is h = λ r.
      record {
        core = record {
          part = h.part;
          coord = voted_keeps m.tag m.shard m.vote c s.coord (subst
              (λ (o : Option Decision). IfSome o (CommitRecorded C m.tag)) (sym is) tt) h.coord;
        };
        rec = tt;
        out = nothing (InOut s.part.shard);
      }
  votes_on_keep s m c (Some d) e is h = λ r.
      record {
        core = record {
          part = h.part;
          coord = voted_keeps m.tag m.shard m.vote c s.coord (subst
              (λ (o : Option Decision). IfSome o (CommitRecorded C m.tag)) (sym is) r) h.coord;
        };
        rec = tt;
        out = All-append (InOut s.part.shard) _ _ (each (InOut s.part.shard) _ c.askers
            (λ x. told_decision m.tag d r)) (each (InOut s.part.shard) (decide_to m.tag c.plan d)
            c.plan.parts (λ x. r));
      }

  votes_keep : (s : ShardState) (m : Vote) (c : Option Coordinated)
      → coordinated_of s.coord m.tag ≡ c → CoreRecorded V C s → Q (votes_if s m c)
  votes_keep s m None e h = quiet_keeps s h
  votes_keep s m (Some c) e h = votes_on_keep s m c (decided_by m.shard m.vote c) e refl h

  acks_keep : (s : ShardState) (m : Acked) (c : Option Coordinated)
      → coordinated_of s.coord m.tag ≡ c → CoreRecorded V C s → Q (acks_if s m c)
  acks_keep s m None e h = quiet_keeps s h
  acks_keep s m (Some c) e h = λ r.
      record {
        core = record {
          part = h.part;
          coord =
              acked_keeps m.tag m.shard c s.coord (found InCoord m.tag s.coord h.coord c e) h.coord;
        };
        rec = either _ (λ (r : Option Rec). IfSome r (RestsOn C))
            (Some (rec.CoordEnd m.tag)) None tt tt;
        out = nothing (InOut s.part.shard);
      }

  router_keeps : (s : ShardState) (rule : ℕ → Ruled) (router : Option ℕ) → CoreRecorded V C s
      → ((n : ℕ) → Q (rule n)) → Q (from_router s rule router)
  router_keeps s rule None h k = quiet_keeps s h
  router_keeps s rule (Some router) h k = k router

  -- each message

  pub ruled_keeps : (s : ShardState) (from : NodeId) (m : Msg) → CoreRecorded V C s
      → ComesRecorded C m → Q (ruled s from m)
  ruled_keeps s from (msg.Statement m) h k =
      let turn = statement s.part s.clock.last s.wall m in
      either (elsewhere s.part m.lsid m.tag) Q _ _ (quiet_keeps s h) (answers_keep s turn.1 from m
      turn.0 (statement_keeps V C s.clock.last s.part s.wall m h.part) h)
  ruled_keeps s from (msg.Answer m) h k = quiet_keeps s h
  ruled_keeps s from (msg.Commit m) h k = λ r.
      let c = commit s.part s.clock.last s.wall m in
      let b = commit_keeps V C s.clock.last s.wall s.part m h.part r in
      record {
        core = record { part = b.0; coord = h.coord };
        rec = commit_rests c.rec c.last (commit_as s.part s.clock.last s.wall m).1;
        out = outcome_out c.part.shard s m.tag from c.told b.1;
      }
  ruled_keeps s from (msg.Outcome m) h k = quiet_keeps s h
  ruled_keeps s from (msg.Abort m) h k =
      either (coordinates s m.tag) Q _ _ (quiet_keeps s h) (λ r. record {
        core = keeps s (abort s.part m) h (abort_keeps V C s.part m h.part);
        rec = tt;
        out = nothing (InOut (abort s.part m).shard);
      })
  ruled_keeps s from (msg.CommitTwo m) h k =
      router_keeps s (λ router. on_commit_two s router m) (router_of from) h
      (λ router. known_keeps s router m.tag (session s.part m.lsid) m.number _ h (starts_new_keeps s
      router m (session s.part m.lsid) (session_recorded V C s.part m.lsid h.part) h))
  ruled_keeps s from (msg.Prepare m) h k = λ r.
      let c = prepare s.part s.clock.last s.wall m in
      let b = prepare_keeps V C s.clock.last s.wall s.part m h.part r in
      record {
        core = record { part = b.0; coord = h.coord };
        rec = prepare_rests c.rec c.last (prepare_as s.part s.clock.last s.wall m).1;
        out = vote_out c.part.shard s m c.told
            (sym (prepare_as s.part s.clock.last s.wall m).0.shard) b.1;
      }
  ruled_keeps s from (msg.Vote m) h k = votes_keep s m (coordinated_of s.coord m.tag) refl h
  ruled_keeps s from (msg.Decide m) h k = λ r.
      let b = decide_keeps V C s.part m k h.part in
      record {
        core = keeps s (decide s.part m).1 h b.0;
        rec = decided_rests (decide s.part m).0 b.1;
        out = one (InOut (decide s.part m).1.shard) _ tt;
      }
  ruled_keeps s from (msg.Acked m) h k = acks_keep s m (coordinated_of s.coord m.tag) refl h
  ruled_keeps s from (msg.Recover m) h k =
      let b = recover_keeps V C s.part m h.part in
      router_keeps s (λ router. on_recover s router m) (router_of from) h
      (λ router. known_keeps s router m.tag (session s.part m.lsid) m.number (recovers s router m) h
      (tells_keep s router m.tag (recover s.part m).0 (recover s.part m).1 b.1 h b.0))
  ruled_keeps s from msg.Nudge h k = λ r.
      record { core = h; rec = tt; out = resends_keeps s.part.shard s.part.shard s.coord h.coord }
