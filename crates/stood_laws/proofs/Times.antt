-- A write conflict with a time: a commit at that time wrote the document, above what the statement
-- reads at.
use Rattle.std.proofs.Common.{◌≡◌, ◌⊎◌, inl, inr, ◌<◌, ◌||◌, ◌++◌, ℕ, Bool, true, false, List, []}
use Rattle.std.proofs.Common.{◌∷◌, map, Contains, Option, Some, None, option_map, option_and_then}
use Rattle.std.proofs.Common.{refl, ap, subst, ◌∙◌, sym, arith, filter_map, unwrap_or, nat_lt}
use Rattle.std.proofs.Common.{nat_eq}
use Rattle.std.proofs.Common.{slice_get, if◌then◌else◌}
use Rattle.std.proofs.lemmas.List.Elements.{Contains-append_left, Contains-append_right}
use Rattle.std.specs.Option.{option_or}
use Rattle.std.specs.Ordering.{is_lt}
use Rattle.txn_types.proofs.Orders.{id_total, id_exact}
use Rattle.txn_types.specs.Order.{same_id, id_cmp}
use Rattle.txn_types.specs.declared.cause.By.{By}
use Rattle.txn_types.specs.declared.cause.By.TheVariants as by
use Rattle.txn_types.specs.declared.cause.Cause.TheVariants as cause
use Rattle.txn_types.specs.declared.event.Happening.TheVariants as what
use Rattle.txn_types.specs.declared.id.Id.{Id}
use Rattle.txn_types.specs.declared.message.Envelope.{Envelope}
use Rattle.txn_types.specs.declared.message.Msg.TheVariants as msg
use Rattle.txn_types.specs.declared.message.Statement.{Statement}
use Rattle.txn_types.specs.declared.names.Tag.{Tag}
use Rattle.txn_types.specs.declared.write.Write.{Write}
use Rattle.txn_semantics.specs.Writes.{Place, place_of}
use Rattle.txn_semantics.specs.declared.commits.Entry.{Entry}
use Rattle.version_store.specs.Versions.{first, versions_of, newest_of}
use Rattle.version_store.specs.Versions.{commit_above, other_writer_of}
use Rattle.version_store.specs.declared.version.Stamp.{Stamp}
use Rattle.version_store.specs.declared.version.Stamp.TheVariants.{Unfinished, Prepared, At}
use Rattle.version_store.specs.declared.version.Version.{Version}
use Rattle.journal_rec.specs.declared.record.Rec.{Rec}
use Rattle.journal_rec.specs.declared.record.Rec.TheVariants as rec
use Rattle.participant.specs.declared.said.Open.{Open}
use Rattle.participant.specs.Part.{open_of}
use Rattle.participant.specs.Stands.{mine, mine_of}
use Rattle.part_laws.specs.Each.{Each, Among}
use Rattle.part_laws.proofs.Looking.{eq_self}
use Rattle.shard_core.specs.Core.{entered}
use Rattle.shard_core.specs.NodeStep.{NodeState}
use Rattle.shard_core.specs.State.{ShardState, met}
use Rattle.txn_model.specs.Commits.{Journals, commits, entry_of, entries_behind, put_entry}
use Rattle.txn_model.specs.Commits.{in_order}
use Rattle.txn_model.specs.Commits.{entry_cmp}
use Rattle.txn_model.specs.declared.ran.Ran.{Ran}
use Rattle.cluster_core.specs.Causes.{Past, Making, Stood, met_at, core_at, live_at, if_of}
use Rattle.cluster_core.specs.Causes.{read_time, IsDelivered, writes_id}
use Rattle.cluster_core.specs.Nodes.{Nodes, commits_of}
use Rattle.cluster_core.specs.Trace.{IsTrace}
use Rattle.world_laws.specs.Joint.{Stands}
use Rattle.world_laws.proofs.Above.{grows_step}
use Rattle.world_laws.proofs.Joint.{stands_step}
use Rattle.answer_laws.proofs.Lists.{has_first, has_more}
use Rattle.told_laws.proofs.Lists.{has_cases, none_there}
use Rattle.one_shard_laws.specs.Lasting.{OneShard}
use Rattle.one_shard_laws.proofs.Joint.{one_shard_step}
use Rattle.stood_laws.specs.Because.{Because, moment_of}
use Rattle.stood_laws.proofs.Conflicts.{meets, none_some, one_some}
use Rattle.stood_laws.proofs.Stamps.{Commits, HasCommitAt, IsCommitOf, versions_there}

-- What stands against the write.

abbrev by_tag : Option Tag → Option By
by_tag o = option_map (λ writer. by.Tag writer) o

above_case : (at commit time : ℕ) (b : Bool) → nat_lt at commit ≡ b
    → (if b then Some (by.At commit) else None) ≡ Some (by.At time) → (commit ≡ time) × (at < time)
above_case at commit time true is h =
    let same : commit ≡ time = time_is h in
    (same, let low : at < commit = grind (arith, is) in omega (arith, low, same))
  where
    time_is : Some (by.At commit) ≡ Some (by.At time) → commit ≡ time
    time_is h = cc
above_case at commit time false is h = absurd (none_some (by.At time) h)

against_time : (at : ℕ) (o : Option Tag) (n : Option ℕ) (time : ℕ)
    → option_or (by_tag o) (option_and_then (commit_above at) n) ≡ Some (by.At time)
    → (n ≡ Some time) × (at < time)
against_time at None None time h = absurd (none_some (by.At time) h)
against_time at None (Some commit) time h =
    let k = above_case at commit time (nat_lt at commit) refl h in (ap Some k.0, k.1)
against_time at (Some writer) n time h = absurd (not_tag h)
  where
    not_tag : Some (by.Tag writer) ≡ Some (by.At time) → ⊥
    not_tag h = cc

-- the newest commit among versions
newest_has : (recs : List Rec) (place : Place) (vs : List Version) (time : ℕ)
    → Each (IsCommitOf recs place) vs → newest_of vs ≡ Some time → HasCommitAt recs place time
newest_has recs place [] time each h = absurd (none_some time h)
newest_has recs place (v ∷ vs) time each h =
    by_stamp v.stamp refl (newest_has recs place vs time each.1) h
  where
    by_stamp : (stamp : Stamp) → v.stamp ≡ stamp
        → (newest_of vs ≡ Some time → HasCommitAt recs place time)
        → newest_of (v ∷ vs) ≡ Some time → HasCommitAt recs place time
    by_stamp (At commit) is more h =
        let found : Some commit ≡ Some time =
        sym (newest_at v vs commit is) ∙ h in
        subst (HasCommitAt recs place) (one_some commit time found) (each.0 commit is)
      where
        newest_at : (v : Version) (vs : List Version) (commit : ℕ) → v.stamp ≡ At commit
            → newest_of (v ∷ vs) ≡ Some commit
        newest_at v vs commit is = rw is refl
    by_stamp (Unfinished tag) is more h = more (sym (newest_past v vs tag is) ∙ h)
      where
        newest_past : (v : Version) (vs : List Version) (tag : Tag) → v.stamp ≡ Unfinished tag
            → newest_of (v ∷ vs) ≡ newest_of vs
        newest_past v vs tag is = rw is refl
    by_stamp (Prepared tag since) is more h = more (sym (newest_past v vs tag since is) ∙ h)
      where
        newest_past : (v : Version) (vs : List Version) (tag : Tag) (since : ℕ)
            → v.stamp ≡ Prepared tag since → newest_of (v ∷ vs) ≡ newest_of vs
        newest_past v vs tag since is = rw is refl

-- A commit's record has its entry in the list of commits.

put_has_one : (e : Entry) (fs : List Entry) → Contains (put_entry e fs) e
put_has_one e [] = has_first e []
put_has_one e (f ∷ fs) = by_order (is_lt (entry_cmp e f)) (put_has_one e fs)
  where
    by_order : (b : Bool) → Contains (put_entry e fs) e
        → Contains (if b then e ∷ f ∷ fs else f ∷ put_entry e fs) e
    by_order true more = has_first e (f ∷ fs)
    by_order false more = has_more f (put_entry e fs) e more

put_has : (e : Entry) (fs : List Entry) (x : Entry) → Contains fs x → Contains (put_entry e fs) x
put_has e [] x h = none_there x h
put_has e (f ∷ fs) x h =
    by_order (is_lt (entry_cmp e f)) (λ k. put_has e fs x k) (has_cases f fs x h)
  where
    by_order : (b : Bool) → (Contains fs x → Contains (put_entry e fs) x)
        → (x ≡ f) ⊎ Contains fs x
        → Contains (if b then e ∷ f ∷ fs else f ∷ put_entry e fs) x
    by_order true put c = has_more e (f ∷ fs) x h
    by_order false put (inl is) =
        subst (Contains (f ∷ put_entry e fs)) (sym is) (has_first f (put_entry e fs))
    by_order false put (inr more) = has_more f (put_entry e fs) x (put more)

order_has : (es sorted : List Entry) (x : Entry) → Contains es x ⊎ Contains sorted x
    → Contains (in_order sorted es) x
order_has [] sorted x (inl h) = none_there x h
order_has [] sorted x (inr h) = h
order_has (e ∷ es) sorted x (inr h) =
    order_has es (put_entry e sorted) x (inr (put_has e sorted x h))
order_has (e ∷ es) sorted x (inl h) =
    by_case (λ k. order_has es (put_entry e sorted) x k) (has_cases e es x h)
  where
    by_case : ((Contains es x ⊎ Contains (put_entry e sorted) x)
        → Contains (in_order (put_entry e sorted) es) x) → (x ≡ e) ⊎ Contains es x
        → Contains (in_order (put_entry e sorted) es) x
    by_case order (inl is) =
        order (inr (subst (Contains (put_entry e sorted)) (sym is) (put_has_one e sorted)))
    by_case order (inr more) = order (inl more)

behind_has : (journals : Journals) (before recs : List Rec) (r : Rec) (e : Entry)
    → Contains recs r → ((front : List Rec) → Contains (entry_of journals front r) e)
    → Contains (entries_behind journals before recs) e
behind_has journals before [] r e there made = none_there r there
behind_has journals before (x ∷ recs) r e there made =
    by_case (λ k. behind_has journals (before ++ x ∷ []) recs r e k made)
    (has_cases x recs r there)
  where
    by_case : (Contains recs r → Contains (entries_behind journals (before ++ x ∷ []) recs) e)
        → (r ≡ x) ⊎ Contains recs r
        → Contains (entry_of journals before x ++ entries_behind journals (before ++ x ∷ []) recs) e
    by_case later (inl is) =
        Contains-append_left (entry_of journals before x)
        (entries_behind journals (before ++ x ∷ []) recs) e
        (subst (λ (y : Rec). Contains (entry_of journals before y) e) is (made before))
    by_case later (inr more) =
        Contains-append_right (entry_of journals before x)
        (entries_behind journals (before ++ x ∷ []) recs) e (later more)

one_journal_has : (recs : List Rec) (r : Rec) (e : Entry) → Contains recs r
    → ((front : List Rec) → Contains (entry_of (recs ∷ []) front r) e)
    → Contains (commits (recs ∷ [])) e
unfolding commits
one_journal_has recs r e there made =
    order_has (entries_behind (recs ∷ []) [] recs ++ []) [] e
    (inl (Contains-append_left (entries_behind (recs ∷ []) [] recs) [] e
    (behind_has (recs ∷ []) [] recs r e there made)))

-- the journal goes on
abbrev pub GoesOn : List Rec → Nodes → Type 0
GoesOn recs nodes = (node : NodeState) × (nodes.shards ≡ node ∷ [])
    × ((r : Rec) → Contains recs r → Contains node.records r)

pub recs_go : (recs : List Rec) (old : Nodes) (run : List Ran) (trace : List Nodes) (new : Nodes)
    → IsTrace old run trace new → Stands old → OneShard old → GoesOn recs old → GoesOn recs new
recs_go recs old [] [] new h s o g = subst (GoesOn recs) (sym h) g
recs_go recs old [] (nodes ∷ trace) new h s o g = absurd h
recs_go recs old (ran ∷ run) [] new h s o g = absurd h
recs_go recs old (ran ∷ run) (nodes ∷ trace) new h s o g =
    let mid : Nodes = h.1.0 in
    let next = one_shard_step old s o ran mid h.1.1 in
    let grown = grows_step old ran mid h.1.1 s.clocks s.resolved 0 g.0 next.node
    (ap (λ (xs : List NodeState). slice_get xs 0) g.1)
    (ap (λ (xs : List NodeState). slice_get xs 0) next.shards) in
    recs_go recs mid run trace new h.1.2 (stands_step old ran mid h.1.1 s) next (
      next.node,
      next.shards,
      λ r there. subst (λ (rs : List Rec). Contains rs r) (sym grown.records)
          (Contains-append_left g.0.records grown.more r (g.2 r there)),
    )

-- of a commit that wrote at the place
any_case : (id : Id) (place : Place) (writes : List Write) → place.1 ≡ id
    → Among place (map place_of writes) → writes_id id writes ≡ true
any_case id place [] is a = absurd a
any_case id place (w ∷ writes) is (inl at) =
    let same : (place_of w).1 ≡ id = ap (λ (p : Place). p.1) (sym at) ∙ is in
    let yes : same_id (place_of w).1 id ≡ true =
    subst (λ (i : Id). same_id i id ≡ true) (sym same) (eq_self id_cmp id_total id_exact id) in
    ap (λ b. b || writes_id id writes) yes
any_case id place (w ∷ writes) is (inr more) =
    or_right (same_id (place_of w).1 id) (writes_id id writes) (any_case id place writes is more)
  where
    or_right : (a b : Bool) → b ≡ true → (a || b) ≡ true
    or_right true b h = refl
    or_right false b h = h

module _ (recs : List Rec) (place : Place) (time : ℕ) (id : Id) (id_is : place.1 ≡ id) where
  abbrev IsIt : List Entry → Entry → Type 0
  IsIt entries e = Contains entries e × (e.at ≡ time) × (writes_id id e.writes ≡ true)

  entry_case : (r : Rec) → Contains recs r → Commits place time r
      → (e : Entry) × IsIt (commits (recs ∷ [])) e
  entry_case (rec.Commit tag lsid number read_at at writes) there h =
      let e : Entry = record { tag = tag; read_at = read_at; at = at; writes = writes } in (
        e,
        (
          one_journal_has recs (rec.Commit tag lsid number read_at at writes) e there
              (λ front. has_first e []),
          h.0,
          any_case id place writes id_is h.1,
        ),
      )
  entry_case other there h = absurd h

-- What the statement reads at.

same_own : (tag : Tag) (o : Option Open) → if_of tag o ≡ mine_of tag o
same_own tag None = refl
same_own tag (Some o) = refl

module _ (m : Making) (d : Envelope) (is : m.event.what ≡ what.Deliver d) (x : Statement)
    (at : d.msg ≡ msg.Statement x) (tag : x.tag ≡ m.tag) (lsid : x.lsid ≡ m.lsid) where
  abbrev s : ShardState
  s = met (entered m.before.core m.event) d

  pub core_is : core_at m ≡ s
  core_is = ap (met_at (entered m.before.core m.event)) is

  delivered_one : (e : Envelope) → m.event.what ≡ what.Deliver e → e ≡ d
  delivered_one e there = one_event (sym there ∙ is)
    where
      one_event : what.Deliver e ≡ what.Deliver d → e ≡ d
      one_event h = cc

  pub delivered_is : (y : Statement) → IsDelivered m y → y ≡ x
  delivered_is y h =
      one_message (sym h.2 ∙ ap (λ (e : Envelope). e.msg) (delivered_one h.0 h.1) ∙ at)
    where
      one_message : msg.Statement y ≡ msg.Statement x → y ≡ x
      one_message h = cc

  pub live_is : live_at m ≡ mine s.part x
  live_is =
      ap (λ (c : ShardState). if_of m.tag (open_of c.part m.lsid)) core_is
      ∙ same_own m.tag (open_of s.part m.lsid)
      ∙ ap (λ (t : Tag). mine_of t (open_of s.part m.lsid)) (sym tag)
      ∙ ap (λ l. mine_of x.tag (open_of s.part l)) (sym lsid)

  pub time_is : read_time m x ≡ moment_of s.clock.last x (mine s.part x)
  time_is =
      ap (λ (o : Option Open). unwrap_or (option_map (λ (o : Open). o.read_at) o)
      (if nat_eq x.read_at 0 then (core_at m).clock.last else x.read_at)) live_is
      ∙ ap (λ (c : ShardState). unwrap_or (option_map (λ (o : Open). o.read_at) (mine s.part x))
      (if nat_eq x.read_at 0 then c.clock.last else x.read_at)) core_is

  -- a conflict with a commit's time
  pub time_stood : (past : Past) (now : List Rec) (id : Id) (time : ℕ)
      → Each (λ (key : Place × List Version). Each (IsCommitOf m.before.records key.0) key.1)
      s.part.store → ((r : Rec) → Contains m.before.records r → Contains now r)
      → ((e : Entry) → Contains (commits (now ∷ [])) e → Contains (commits_of past.now) e)
      → Because s.part s.clock.last x (cause.WriteConflict id (by.At time))
      → Stood past m (cause.WriteConflict id (by.At time))
  time_stood past now id time each later all h =
      let moment : ℕ = moment_of s.clock.last x (mine s.part x) in
      let k = meets s.part.store moment x.tag h.1 id (by.At time) h.3 in
      let place : Place = place_of k.write in
      let vs : List Version = versions_of s.part.store place in
      let a = against_time moment (first (filter_map (other_writer_of x.tag) vs)) (newest_of vs)
      time k.meets in
      let c = newest_has m.before.records place vs time
      (versions_there (IsCommitOf m.before.records) place s.part.store each) a.0 in
      let e = entry_case now place time id k.id_is c.0 (later c.0 c.1) c.2 in (
        e.0,
        all e.0 e.1.0,
        e.1.1,
        e.1.2,
        λ y delivered.
            let same : y ≡ x = delivered_is y delivered in
            subst (λ (z : Statement). read_time m z < time) (sym same)
            (subst (λ (n : ℕ). n < time) (sym time_is) a.1),
      )
