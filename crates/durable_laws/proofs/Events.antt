-- A part after each event but a statement.
use Rattle.std.proofs.Common.{◌≡◌, ◌<◌, ◌-◌, ℕ, Bool, true, false, List, [], ◌∷◌, Option, Some}
use Rattle.std.proofs.Common.{None, refl, ap, subst, ◌∙◌, sym, arith, nat_eq, nat_le, nat_lt}
use Rattle.std.proofs.Common.{int_lt, if◌then◌else◌}
use Rattle.txn_types.specs.Clock.{next_time, ticked, last_time}
use Rattle.txn_types.specs.Order.{same_tag, same_lsid, lsid_cmp}
use Rattle.txn_types.specs.declared.cause.Cause.{Cause}
use Rattle.txn_types.specs.declared.cause.Cause.TheVariants as cause
use Rattle.txn_types.specs.declared.decision.Decision.{Decision}
use Rattle.txn_types.specs.declared.decision.Decision.TheVariants as decision
use Rattle.txn_types.specs.declared.message.Abort.{Abort}
use Rattle.txn_types.specs.declared.message.Commit.{Commit}
use Rattle.txn_types.specs.declared.message.Decide.{Decide}
use Rattle.txn_types.specs.declared.message.Prepare.{Prepare}
use Rattle.txn_types.specs.declared.message.Recover.{Recover}
use Rattle.txn_types.specs.declared.names.Tag.{Tag}
use Rattle.txn_types.specs.declared.node.Lsid.{Lsid}
use Rattle.txn_types.specs.declared.write.Write.{Write}
use Rattle.txn_semantics.specs.Keyed.{AllAbove, Rises}
use Rattle.session_table.specs.declared.session.Session.{Session}
use Rattle.session_table.specs.declared.session.SessionState.{SessionState}
use Rattle.session_table.specs.declared.session.SessionState.TheVariants as state
use Rattle.participant.specs.declared.said.Open.{Open}
use Rattle.participant.specs.Part.{Part, session, open_of, ends_live, end_live, is_replaced}
use Rattle.participant.specs.Commit.{Committing, commits_by, commits_writes, commits_open}
use Rattle.participant.specs.Commit.{commits_own, commits_session, commit}
use Rattle.participant.specs.Prepare.{Voting, prepares_by, prepares_open, prepares_own}
use Rattle.participant.specs.Prepare.{prepares_session, prepare}
use Rattle.participant.specs.Decide.{Deciding, decides_prepared, decides_live, decides_own}
use Rattle.participant.specs.Decide.{decides_session, decide}
use Rattle.participant.specs.Abort.{aborts_own, aborts_session, abort}
use Rattle.participant.specs.Recover.{Telling, recovers_own, recovers_none, recovers_session}
use Rattle.participant.specs.Recover.{recover}
use Rattle.participant.specs.Expiry.{lifetime, expire_all, expire}
use Rattle.participant.specs.Memory.{ends_own, ends_session, ended_for_memory}
use Rattle.participant.proofs.Cases.{either}
use Rattle.participant.proofs.Following.{either_is}
use Rattle.participant.proofs.Statements.{has_live}
use Rattle.part_laws.specs.Each.{Each}
use Rattle.part_laws.specs.Looked.{looked}
use Rattle.part_laws.proofs.Chains.{each_weaker, each_both}
use Rattle.part_laws.proofs.Looking.{looked_is_found}
use Rattle.shard_image.specs.Image.{Image}
use Rattle.shard_core.specs.Participating.{decided_record}
use Rattle.durable_laws.proofs.Whole.{IsWhole}
use Rattle.durable_laws.proofs.Holding.{HoldsPart, Left}
use Rattle.durable_laws.proofs.Ends.{abort_left, release_left, commit_left, IsFrom, decide_left}
use Rattle.durable_laws.proofs.Preparing.{prepare_left}
use Rattle.part_laws.proofs.Elapsed.{other_live, above_apart, all_looked}

tick_case : (test : Bool) (n at last : ℕ) (start : Option ℕ) → start ≡ None
    → (if test then start else Some n) ≡ Some at → last < n → last < at
tick_case true n at last start is h above = let wrong : None ≡ Some at = sym is ∙ h in cc
tick_case false n at last start is h above = let same : n ≡ at = cc in
    subst (λ k. last < k) same above

tick_above : (last wall at : ℕ) → ticked last wall ≡ Some at → last < at
tick_above last wall at h =
    tick_case (nat_eq last last_time) (next_time last wall) at last None refl h (grind arith)

module _ (i : Image) (p : Part) (last : ℕ) (whole : IsWhole p last) (holds : HoldsPart i p) where
  abbrev LeftPart : Part → Type 0
  LeftPart q = Left i q last None

  same : Left i p last None
  same = record { whole = whole; holds = holds; ceiling = refl; coord = refl; written = tt }

  -- Aborts.

  abort_own : (m : Abort) (s : Session) (st : SessionState) → s.state ≡ st
      → session p m.lsid ≡ Some s → Left i (aborts_own p m s st) last None
  abort_own m s state.Live is there =
      abort_left i p last m.lsid s whole holds there is (cause.ClientAbort m.why)
  abort_own m s (state.Prepared at coordinator) is there = same
  abort_own m s (state.Committed at) is there = same
  abort_own m s state.Released is there = same
  abort_own m s (state.Aborted why read_at) is there = same

  abort_session : (m : Abort) (x : Option Session) → session p m.lsid ≡ x
      → Left i (aborts_session p m x) last None
  abort_session m None is = same
  abort_session m (Some s) is =
      either (same_tag s.tag m.tag) LeftPart _ _ (abort_own m s s.state refl is) same

  pub abort_kept : (m : Abort) → Left i (abort p m) last None
  unfolding abort
  abort_kept m = abort_session m (session p m.lsid) refl

  -- Recoveries.

  abbrev LeftTelling : Telling → Type 0
  LeftTelling t = Left i t.1 last None

  recover_none : (m : Recover) → Left i (recovers_none p m).1 last None
  recover_none m = either (nat_eq m.boot p.boot) LeftTelling _ _ same same

  recover_own : (m : Recover) (s : Session) (st : SessionState) → s.state ≡ st
      → session p m.lsid ≡ Some s → Left i (recovers_own p m s st).1 last None
  recover_own m s state.Live is there =
      abort_left i p last m.lsid s whole holds there is (cause.ClientAbort 3)
  recover_own m s (state.Prepared at coordinator) is there = same
  recover_own m s (state.Committed at) is there = same
  recover_own m s state.Released is there = same
  recover_own m s (state.Aborted why read_at) is there = same

  recover_session : (m : Recover) (x : Option Session) → session p m.lsid ≡ x
      → Left i (recovers_session p m x).1 last None
  recover_session m None is = recover_none m
  recover_session m (Some s) is = either (int_lt m.number s.number) LeftTelling _ _ same (either
      (same_tag s.tag m.tag) LeftTelling _ _ (recover_own m s s.state refl is) (recover_none m))

  pub recover_kept : (m : Recover) → Left i (recover p m).1 last None
  unfolding recover
  recover_kept m = recover_session m (session p m.lsid) refl

  -- Want of memory.

  memory_own : (lsid : Lsid) (s : Session) (st : SessionState) → s.state ≡ st
      → session p lsid ≡ Some s → Left i (ends_own p lsid s st) last None
  memory_own lsid s state.Live is there =
      abort_left i p last lsid s whole holds there is cause.Memory
  memory_own lsid s (state.Prepared at coordinator) is there = same
  memory_own lsid s (state.Committed at) is there = same
  memory_own lsid s state.Released is there = same
  memory_own lsid s (state.Aborted why read_at) is there = same

  memory_session : (lsid : Lsid) (tag : Tag) (x : Option Session) → session p lsid ≡ x
      → Left i (ends_session p lsid tag x) last None
  memory_session lsid tag None is = same
  memory_session lsid tag (Some s) is =
      either (same_tag s.tag tag) LeftPart _ _ (memory_own lsid s s.state refl is) same

  pub memory_kept : (lsid : Lsid) (tag : Tag) → Left i (ended_for_memory p lsid tag) last None
  memory_kept lsid tag = memory_session lsid tag (session p lsid) refl

  -- Decisions.

  abbrev LeftDeciding : Deciding → Type 0
  LeftDeciding d = Left i d.1 last (decided_record d.0)

  decide_prepared : (m : Decide) (s : Session) (at coordinator : ℕ) (d : Decision)
      → m.decision ≡ d → s.state ≡ state.Prepared at coordinator → session p m.lsid ≡ Some s
      → LeftDeciding (decides_prepared p m s at d)
  decide_prepared m s at coordinator (decision.Commit time) d is there =
      either_is (nat_le at time) LeftDeciding _ _ (λ from. decide_left i p last m s at coordinator
      whole holds there is (subst (IsFrom at) (sym d) (grind (arith, from)))) (λ below. same)
  decide_prepared m s at coordinator (decision.Abort shard code) d is there =
      decide_left i p last m s at coordinator whole holds there is (subst (IsFrom at) (sym d) tt)

  decide_live : (m : Decide) (s : Session) (d : Decision) → s.state ≡ state.Live
      → session p m.lsid ≡ Some s → LeftDeciding (decides_live p m s d)
  decide_live m s (decision.Commit time) is there = same
  decide_live m s (decision.Abort shard code) is there =
      abort_left i p last m.lsid s whole holds there is (cause.Voted shard code)

  decide_own : (m : Decide) (s : Session) (st : SessionState) → s.state ≡ st
      → session p m.lsid ≡ Some s → LeftDeciding (decides_own p m s st)
  decide_own m s state.Live is there = decide_live m s m.decision is there
  decide_own m s (state.Prepared at coordinator) is there =
      decide_prepared m s at coordinator m.decision refl is there
  decide_own m s (state.Committed at) is there = same
  decide_own m s state.Released is there = same
  decide_own m s (state.Aborted why read_at) is there = same

  decide_session : (m : Decide) (x : Option Session) → session p m.lsid ≡ x
      → LeftDeciding (decides_session p m x)
  decide_session m None is = same
  decide_session m (Some s) is =
      either (same_tag s.tag m.tag) LeftDeciding _ _ (decide_own m s s.state refl is) same

  pub decide_kept : (m : Decide) → Left i (decide p m).1 last (decided_record (decide p m).0)
  unfolding decide
  decide_kept m = decide_session m (session p m.lsid) refl

  -- Commits.

  abbrev LeftCommitting : Committing → Type 0
  LeftCommitting c = Left i c.part c.last c.rec

  commit_by : (m : Commit) (s : Session) (o : Open) (wall : ℕ) (at : Option ℕ)
      → ticked last wall ≡ at → open_of p m.lsid ≡ Some o → s.state ≡ state.Live
      → session p m.lsid ≡ Some s → LeftCommitting (commits_by p last m s o at)
  commit_by m s o wall None tick mine is there =
      abort_left i p last m.lsid s whole holds there is (cause.ClockEnd last)
  commit_by m s o wall (Some at) tick mine is there =
      commit_left i p last m.lsid s whole holds there is o at mine (tick_above last wall at tick)

  none_written : (p : Part) (lsid : Lsid) (o : Open) → open_of p lsid ≡ Some o → o.writes ≡ []
      → (a : Open) → open_of p lsid ≡ Some a → a.writes ≡ []
  none_written p lsid o mine none a there = let both : Some o ≡ Some a = sym mine ∙ there in
      let one : o ≡ a = cc in ap (λ (z : Open). z.writes) (sym one) ∙ none

  commit_writes : (m : Commit) (s : Session) (o : Open) (wall : ℕ) (writes : List Write)
      → o.writes ≡ writes → open_of p m.lsid ≡ Some o → s.state ≡ state.Live
      → session p m.lsid ≡ Some s → LeftCommitting (commits_writes p last wall m s o writes)
  commit_writes m s o wall [] none mine is there =
      release_left i p last m.lsid s whole holds there is (none_written p m.lsid o mine none)
  commit_writes m s o wall (write ∷ writes) some mine is there =
      commit_by m s o wall (ticked last wall) refl mine is there

  commit_open : (m : Commit) (s : Session) (wall : ℕ) (o : Option Open)
      → open_of p m.lsid ≡ o → s.state ≡ state.Live → session p m.lsid ≡ Some s
      → LeftCommitting (commits_open p last wall m s o)
  commit_open m s wall None none is there = release_left i p last m.lsid s whole holds there is (λ a
      has. let wrong : None ≡ Some a = sym none ∙ has in cc)
  commit_open m s wall (Some o) mine is there = commit_writes m s o wall o.writes refl mine is there

  commit_own : (m : Commit) (s : Session) (wall : ℕ) (st : SessionState) → s.state ≡ st
      → session p m.lsid ≡ Some s → LeftCommitting (commits_own p last wall m s st)
  commit_own m s wall state.Live is there =
      either (nat_eq m.boot p.boot) LeftCommitting _ _
      (commit_open m s wall (open_of p m.lsid) refl is there)
      (abort_left i p last m.lsid s whole holds there is (cause.Unavailable m.boot p.boot))
  commit_own m s wall (state.Prepared at coordinator) is there = same
  commit_own m s wall (state.Committed at) is there = same
  commit_own m s wall state.Released is there = same
  commit_own m s wall (state.Aborted why read_at) is there = same

  commit_session : (m : Commit) (wall : ℕ) (x : Option Session) → session p m.lsid ≡ x
      → LeftCommitting (commits_session p last wall m x)
  commit_session m wall None is = same
  commit_session m wall (Some s) is = either (int_lt m.number s.number) LeftCommitting _ _ same
      (either (same_tag s.tag m.tag) LeftCommitting _ _ (commit_own m s wall s.state refl is) same)

  pub commit_kept : (wall : ℕ) (m : Commit)
      → Left i (commit p last wall m).part (commit p last wall m).last (commit p last wall m).rec
  unfolding commit
  commit_kept wall m = commit_session m wall (session p m.lsid) refl

  -- Preparations.

  abbrev LeftVoting : Voting → Type 0
  LeftVoting c = Left i c.part c.last c.rec

  vote_by : (m : Prepare) (s : Session) (o : Open) (wall : ℕ) (at : Option ℕ)
      → ticked last wall ≡ at → open_of p m.lsid ≡ Some o → s.state ≡ state.Live
      → session p m.lsid ≡ Some s → LeftVoting (prepares_by p last m s o at)
  vote_by m s o wall None tick mine is there =
      abort_left i p last m.lsid s whole holds there is (cause.ClockEnd last)
  vote_by m s o wall (Some at) tick mine is there = prepare_left i p last m.lsid s o at
      m.coordinator whole holds there is mine (tick_above last wall at tick)

  vote_open : (m : Prepare) (s : Session) (wall : ℕ) (o : Option Open)
      → open_of p m.lsid ≡ o → s.state ≡ state.Live → session p m.lsid ≡ Some s
      → LeftVoting (prepares_open p last wall m s o)
  vote_open m s wall None none is there = same
  vote_open m s wall (Some o) mine is there =
      vote_by m s o wall (ticked last wall) refl mine is there

  vote_own : (m : Prepare) (s : Session) (wall : ℕ) (st : SessionState) → s.state ≡ st
      → session p m.lsid ≡ Some s → LeftVoting (prepares_own p last wall m s st)
  vote_own m s wall state.Live is there =
      either (nat_eq m.boot p.boot) LeftVoting _ _
      (vote_open m s wall (open_of p m.lsid) refl is there)
      (abort_left i p last m.lsid s whole holds there is (cause.Unavailable m.boot p.boot))
  vote_own m s wall (state.Prepared at coordinator) is there = same
  vote_own m s wall (state.Committed at) is there = same
  vote_own m s wall state.Released is there = same
  vote_own m s wall (state.Aborted why read_at) is there = same

  vote_session : (m : Prepare) (wall : ℕ) (x : Option Session) → session p m.lsid ≡ x
      → LeftVoting (prepares_session p last wall m x)
  vote_session m wall None is = same
  vote_session m wall (Some s) is = either (is_replaced s m.number m.tag) LeftVoting _ _ same
      (either (same_tag s.tag m.tag) LeftVoting _ _ (vote_own m s wall s.state refl is) same)

  pub prepare_kept : (wall : ℕ) (m : Prepare)
      → Left i (prepare p last wall m).part (prepare p last wall m).last (prepare p last wall m).rec
  unfolding prepare
  prepare_kept wall m = vote_session m wall (session p m.lsid) refl

-- Expiries.

end_case : (i : Image) (p : Part) (last : ℕ) (lsid : Lsid) (why : Cause) (s : Session)
    (x : Option Session) → IsWhole p last → HoldsPart i p → session p lsid ≡ x
    → session p lsid ≡ Some s → s.state ≡ state.Live → Left i (ends_live p lsid why x) last None
end_case i p last lsid why s None whole holds is there live = let wrong : None ≡ Some s = sym is
    ∙ there in cc
end_case i p last lsid why s (Some t) whole holds is there live =
    let both : Some s ≡ Some t = sym there ∙ is in
    let one : s ≡ t = cc in
    abort_left i p last lsid t whole holds is (ap (λ (z : Session). z.state) (sym one) ∙ live) why

end_one : (i : Image) (p : Part) (last : ℕ) (lsid : Lsid) (why : Cause) (o : Open) → IsWhole p last
    → HoldsPart i p → open_of p lsid ≡ Some o → Left i (end_live p lsid why) last None
end_one i p last lsid why o whole holds mine =
    let has = has_live p lsid o whole.stands mine in
    end_case i p last lsid why has.s (session p lsid) whole holds refl has.there has.live

abbrev AreLive : Part → List (Lsid × Open) → Type 0
AreLive p rest = Each (λ (entry : Lsid × Open). open_of p entry.0 ≡ Some entry.1) rest

expire_case : (i : Image) (wall : ℕ) (entry : Lsid
    × Open) (rest : List (Lsid × Open)) (p : Part) (last : ℕ) (b : Bool) → IsWhole p last
    → HoldsPart i p → AllAbove lsid_cmp entry.0 rest → AreLive p (entry ∷ rest)
    → ((q : Part) → IsWhole q last → HoldsPart i q → AreLive q rest
    → Left i (expire_all wall rest q) last None)
    → Left i (expire_all wall rest
    (if b then end_live p entry.0 (cause.Expired entry.1.begun wall) else p)) last None
expire_case i wall entry rest p last true whole holds above live more =
    let why = cause.Expired entry.1.begun wall in
    let q = end_live p entry.0 why in
    let left : Left i q last None = end_one i p last entry.0 why entry.1 whole holds live.0 in
    more q left.whole left.holds
    (each_both (λ (other : Lsid × Open). same_lsid other.0 entry.0 ≡ false)
    (λ (other : Lsid × Open). open_of p other.0 ≡ Some other.1)
    (λ (other : Lsid × Open). open_of q other.0 ≡ Some other.1)
    (λ other apart there. other_live p entry.0 other.0 why (session p entry.0) apart ∙ there) rest
    (above_apart entry.0 rest above) live.1)
expire_case i wall entry rest p last false whole holds above live more = more p whole holds live.1

expire_rest : (i : Image) (wall : ℕ) (rest : List (Lsid × Open)) (p : Part) (last : ℕ)
    → IsWhole p last → HoldsPart i p → Rises lsid_cmp rest → AreLive p rest
    → Left i (expire_all wall rest p) last None
expire_rest i wall [] p last whole holds rises live =
    record { whole = whole; holds = holds; ceiling = refl; coord = refl; written = tt }
expire_rest i wall (entry ∷ rest) p last whole holds rises live =
    expire_case i wall entry rest p last (nat_lt lifetime (wall - entry.1.begun)) whole holds
    rises.0 live (λ q w h l. expire_rest i wall rest q last w h rises.1 l)

pub all_live : (p : Part) → Rises lsid_cmp p.live → AreLive p p.live
all_live p rises =
    each_weaker (λ (entry : Lsid × Open). looked lsid_cmp entry.0 p.live ≡ Some entry.1)
    (λ (entry : Lsid × Open). open_of p entry.0 ≡ Some entry.1) (λ entry there.
    looked_is_found lsid_cmp entry.0 p.live ∙ there) p.live (all_looked p.live rises)

pub expire_kept : (i : Image) (p : Part) (last wall : ℕ) → IsWhole p last → HoldsPart i p
    → Left i (expire p wall) last None
unfolding expire
expire_kept i p last wall whole holds =
    expire_rest i wall p.live p last whole holds whole.lives (all_live p whole.lives)
