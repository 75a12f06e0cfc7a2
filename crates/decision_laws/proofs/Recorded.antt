-- What a shard tells as committed is in the list of commits.
use Rattle.std.proofs.Common.{◌≡◌, inl, inr, ◌++◌, ◌||◌, ℕ, Bool, true, false, All, List, []}
use Rattle.std.proofs.Common.{◌∷◌, map, flat_map, Some, None, zero, suc, slice_get, refl, sym, ap}
use Rattle.std.proofs.Common.{subst, ◌∙◌, arith}
use Rattle.std.specs.Prelude.{Contains}
use Rattle.std.specs.List.{list_any}
use Rattle.std.proofs.lemmas.List.{append-nil}
use Rattle.std.proofs.lemmas.List.Elements.{All-contains, All-weaker}
use Rattle.std.proofs.lemmas.List.Folds.{list_any-append}
use Rattle.txn_types.specs.Order.{same_tag}
use Rattle.txn_types.specs.declared.decision.Told.{Told}
use Rattle.txn_types.specs.declared.decision.Told.TheVariants as told_as
use Rattle.txn_types.specs.declared.message.Envelope.{Envelope}
use Rattle.txn_types.specs.declared.message.Msg.{Msg}
use Rattle.txn_types.specs.declared.message.Msg.TheVariants as msg
use Rattle.txn_types.specs.declared.message.Outcome.{Outcome}
use Rattle.txn_types.specs.declared.names.Tag.{Tag}
use Rattle.txn_semantics.specs.declared.commits.Entry.{Entry}
use Rattle.participant.proofs.Tags.{tag_self}
use Rattle.chunk_map.specs.Map.{Map}
use Rattle.journal_rec.specs.declared.record.Rec.{Rec}
use Rattle.journal_rec.specs.declared.record.Rec.TheVariants as rec
use Rattle.shard_core.specs.NodeStep.{NodeState}
use Rattle.txn_types.specs.Letters.{Named}
use Rattle.txn_model.specs.Commits.{Journals, entries_behind, entry_of, commits, has_entry}
use Rattle.txn_model.specs.declared.ran.Ran.{Ran}
use Rattle.txn_model.proofs.Ordered.{any_in_order}
use Rattle.cluster_core.specs.Nodes.{Nodes, commits_of, journals_of}
use Rattle.cluster_core.specs.Parts.{HasCommit, IsCommitAs, IsRecorded}
use Rattle.cluster_core.specs.Trace.{IsTrace}
use Rattle.world_laws.specs.Joint.{Stands, DiskStands}
use Rattle.world_laws.proofs.Joint.{stands_run, stands_fresh, new_disk}
use Rattle.told_laws.proofs.Lists.{none_there, only_one, has_cases}
use Rattle.one_shard_laws.specs.Alone.{RecAlone}
use Rattle.one_shard_laws.specs.Concluding.{StartsAlone}
use Rattle.one_shard_laws.specs.Lasting.{OneShard, WasNamed}
use Rattle.one_shard_laws.proofs.Joint.{runs_alone}
use Rattle.decision_laws.specs.Ends.{IsThere, TellsRight}

-- the record commits the transaction
abbrev pub Commits : Tag → Rec → Type 0
Commits tag (rec.Commit there lsid number read_at at writes) = there ≡ tag
Commits tag other = ⊥

commits_as : (P : Named → Type 0) (tag : Tag) (at : ℕ) (r : Rec) → RecAlone P r
    → IsCommitAs tag at r → Commits tag r
commits_as P tag at (rec.Commit there lsid number read_at time writes) h k = k.0
commits_as P tag at (rec.CoordDecision there d) h k = absurd h
commits_as P tag at (rec.Boot boot) h k = absurd k
commits_as P tag at (rec.Ceiling bound) h k = absurd k
commits_as P tag at (rec.Floor bound) h k = absurd k
commits_as P tag at (rec.Prepared there lsid number boot read_at time coordinator writes) h k =
    absurd k
commits_as P tag at (rec.Decided d) h k = absurd k
commits_as P tag at (rec.CoordStart there lsid number parts) h k = absurd k
commits_as P tag at (rec.CoordEnd there) h k = absurd k

abbrev pub is_its : Tag → Entry → Bool
is_its tag e = same_tag e.tag tag

or_first : (a b : Bool) → a ≡ true → (a || b) ≡ true
or_first true b e = refl
or_first false b e = grind (arith, e)

or_second : (a b : Bool) → b ≡ true → (a || b) ≡ true
or_second true b e = refl
or_second false b e = e

entry_there : (journals : Journals) (before : List Rec) (tag : Tag) (r : Rec) → Commits tag r
    → list_any (is_its tag) (entry_of journals before r) ≡ true
entry_there journals before tag (rec.Commit there lsid number read_at at writes) h =
    or_first (same_tag there tag) false (ap (λ (x : Tag). same_tag x tag) h ∙ tag_self tag)
entry_there journals before tag (rec.CoordDecision there d) h = absurd h
entry_there journals before tag (rec.Boot boot) h = absurd h
entry_there journals before tag (rec.Ceiling bound) h = absurd h
entry_there journals before tag (rec.Floor bound) h = absurd h
entry_there journals before tag (rec.Prepared there lsid number boot read_at time coordinator
    writes) h = absurd h
entry_there journals before tag (rec.Decided d) h = absurd h
entry_there journals before tag (rec.CoordStart there lsid number parts) h = absurd h
entry_there journals before tag (rec.CoordEnd there) h = absurd h

entries_have : (journals : Journals) (before recs : List Rec) (tag : Tag) (r : Rec)
    → Contains recs r → Commits tag r
    → list_any (is_its tag) (entries_behind journals before recs) ≡ true
entries_have journals before [] tag r c h = none_there r c
entries_have journals before (x ∷ recs) tag r c h =
    let rest = entries_behind journals (before ++ x ∷ []) recs in
    list_any-append (is_its tag) (entry_of journals before x) rest
    ∙ elim (has_cases x recs r c) [
      | inl e ↦ or_first (list_any (is_its tag) (entry_of journals before x))
          (list_any (is_its tag) rest)
          (entry_there journals before tag x (subst (Commits tag) e h))
      | inr d ↦ or_second (list_any (is_its tag) (entry_of journals before x))
          (list_any (is_its tag) rest)
          (entries_have journals (before ++ x ∷ []) recs tag r d h)
    ]

list_has : (recs : List Rec) (tag : Tag) (r : Rec) → Contains recs r → Commits tag r
    → has_entry (commits (recs ∷ [])) tag ≡ true
unfolding commits
list_has recs tag r c h = by (has_entry (commits (recs ∷ [])) tag) refl
  where
    made : list_any (is_its tag) (flat_map (λ recs. entries_behind (recs ∷ []) [] recs)
        (recs ∷ [])) ≡ true
    made = ap (list_any (is_its tag)) (append-nil (entries_behind (recs ∷ []) [] recs))
        ∙ entries_have (recs ∷ []) [] recs tag r c h

    by : (test : Bool) → has_entry (commits (recs ∷ [])) tag ≡ test → test ≡ true
    by true is = refl
    by false is =
        let none = any_in_order (is_its tag) [] (entries_behind (recs ∷ []) [] recs ++ []) is in
        let no : false ≡ true = sym none.1 ∙ ap (list_any (is_its tag))
        (append-nil (entries_behind (recs ∷ []) [] recs))
        ∙ entries_have (recs ∷ []) [] recs tag r c h in
        absurd (grind (arith, no))

module _ (nodes : Nodes) (h : OneShard nodes) where
  journals_are : journals_of nodes ≡ h.node.records ∷ []
  journals_are =
      ap (λ (shards : List NodeState). map (λ (n : NodeState). n.records) shards) h.shards

  commit_there : (tag : Tag) (at : ℕ) → HasCommit nodes tag at
      → has_entry (commits_of nodes) tag ≡ true
  commit_there tag at k =
      let recs : k.0 ≡ h.node.records = only_one h.node.records k.0
      (subst (λ (j : Journals). Contains j k.0) journals_are k.2) in
      let there : Contains h.node.records k.1 =
      subst (λ (l : List Rec). Contains l k.1) recs k.3 in
      let alone = All-contains (RecAlone (WasNamed nodes.sent)) h.node.records k.1
      h.right.kept.2.alone.records there in
      ap (λ (j : Journals). has_entry (commits j) tag) journals_are
      ∙ list_has h.node.records tag k.1 there
      (commits_as (WasNamed nodes.sent) tag at k.1 alone k.4)

  told_there : (o : Outcome) (x : Told) → IsRecorded nodes (msg.Outcome (record o { told = x }))
      → IsThere (commits_of nodes) o.tag x
  told_there o (told_as.Committed at) k = commit_there o.tag at k
  told_there o told_as.Released k = tt
  told_there o (told_as.Aborted why) k = tt
  told_there o (told_as.TooOld have) k = tt
  told_there o told_as.NoTrace k = tt

  tells_right : (m : Msg) → IsRecorded nodes m → TellsRight (commits_of nodes) m
  tells_right (msg.Outcome o) k = told_there o o.told k
  tells_right other k = tt

pub only : {A : Type 0} (x y : A) (n : ℕ) → slice_get (x ∷ []) n ≡ Some y → (n ≡ 0) × (y ≡ x)
only x y zero is = let one : y ≡ x = grind (arith, is) in (refl, one)
only x y (suc n) is = let wrong : None ≡ Some y = is in cc

pub stands_start : (chunks : Map) (start : Nodes) → StartsAlone chunks start → Stands start
stands_start chunks start h =
    stands_fresh chunks start h.fresh
    (λ number n is.
    let one = only h.node n number
    (subst (λ (shards : List NodeState). slice_get shards number ≡ Some n) h.shards is) in
    subst (λ (x : NodeState). DiskStands start x.records) (sym one.1)
    (new_disk start 0 h.faults h.node h.starts))

pub commits_told : (chunks : Map) (start : Nodes) (run : List Ran) (trace : List Nodes)
    (now : Nodes) → StartsAlone chunks start → IsTrace start run trace now
    → All (λ (e : Envelope). TellsRight (commits_of now) e.msg) now.sent
commits_told chunks start run trace now h k =
    let stands = stands_run start run trace now k (stands_start chunks start h) in
    All-weaker (λ (e : Envelope). IsRecorded now e.msg)
    (λ (e : Envelope). TellsRight (commits_of now) e.msg)
    (λ e x. tells_right now (runs_alone chunks start run trace now h k) e.msg x) now.sent
    stands.recorded.sent
