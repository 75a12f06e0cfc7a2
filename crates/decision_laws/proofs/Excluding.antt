-- What a shard told as aborted is never committed.
use Rattle.std.proofs.Common.{◌≡◌, ◌++◌, Bool, true, false, All, List, [], ◌∷◌}
use Rattle.std.proofs.Common.{Some, IfSome, map, slice_get, refl, sym}
use Rattle.std.proofs.Common.{ap, subst, ◌∙◌}
use Rattle.std.specs.Prelude.{Contains}
use Rattle.std.proofs.lemmas.List.{append-nil}
use Rattle.std.proofs.lemmas.List.Elements.{All-weaker}
use Rattle.txn_types.specs.Letters.{Named, named_in}
use Rattle.txn_types.specs.Order.{same_tag}
use Rattle.txn_types.specs.declared.cause.Cause.{Cause}
use Rattle.txn_types.specs.declared.decision.Told.{Told}
use Rattle.txn_types.specs.declared.decision.Told.TheVariants as told
use Rattle.txn_types.specs.declared.message.Commit.{Commit}
use Rattle.txn_types.specs.declared.message.Envelope.{Envelope}
use Rattle.txn_types.specs.declared.message.Msg.{Msg}
use Rattle.txn_types.specs.declared.message.Msg.TheVariants as msg
use Rattle.txn_types.specs.declared.message.Outcome.{Outcome}
use Rattle.txn_types.specs.declared.names.Tag.{Tag}
use Rattle.participant.proofs.Tags.{tag_same}
use Rattle.chunk_map.specs.Map.{Map, IsMap}
use Rattle.journal_rec.specs.declared.record.Rec.{Rec}
use Rattle.journal_rec.specs.declared.record.Rec.TheVariants as rec
use Rattle.shard_image.specs.Image.{image_of}
use Rattle.shard_core.specs.NodeStep.{NodeState, boot_behind}
use Rattle.txn_model.specs.Commits.{commits, has_entry}
use Rattle.txn_model.specs.declared.ran.Ran.{Ran}
use Rattle.cluster_core.specs.Nodes.{Nodes, commits_of}
use Rattle.cluster_core.specs.Trace.{IsTrace}
use Rattle.world_laws.specs.Joint.{Stands, DisksStand, DiskStands, NoName}
use Rattle.world_laws.proofs.Clocks.{started_is}
use Rattle.world_laws.proofs.Joint.{stands_run, new_disk}
use Rattle.world_laws.proofs.Naming.{one}
use Rattle.told_laws.proofs.Lists.{none_there, only_one, contained}
use Rattle.known_laws.specs.Known.{KnownStands, NamesNone, RecNamed}
use Rattle.known_laws.proofs.Standing.{known_fresh}
use Rattle.one_shard_laws.specs.Alone.{RecAlone}
use Rattle.one_shard_laws.specs.Concluding.{StartsAlone}
use Rattle.one_shard_laws.specs.Lasting.{OneShard, WasNamed, WasCommitted}
use Rattle.one_shard_laws.proofs.Behind.{sent_named}
use Rattle.one_shard_laws.proofs.Concluding.{served_right}
use Rattle.one_shard_laws.proofs.Joint.{runs_alone, one_shard_first}
use Rattle.decision_laws.specs.Ends.{WasSent, IsNever, TellsNever}
use Rattle.decision_laws.specs.Recovering.{RecoversAgree, RecoversCome}
use Rattle.decision_laws.proofs.Keeping.{Its, NoRec, HasRec, Stood}
use Rattle.decision_laws.proofs.Listed.{RecNo, none_listed}
use Rattle.decision_laws.proofs.Lost.{no_entry}
use Rattle.decision_laws.proofs.OneBoot.{one_boot}
use Rattle.decision_laws.proofs.Recorded.{Commits, is_its, only, stands_start}
use Rattle.decision_laws.proofs.Standing.{run_has}

-- No entry comes of records that don't commit it.

not_it : (tag there : Tag) → (there ≡ tag → ⊥) → same_tag there tag ≡ false
not_it tag there isnt = by (same_tag there tag) refl
  where
    by : (test : Bool) → same_tag there tag ≡ test → test ≡ false
    by true is = absurd (isnt (tag_same there tag is))
    by false is = refl

pub no_rec : (tag : Tag) (r : Rec) → (Commits tag r → ⊥) → RecNo (is_its tag) r
no_rec tag (rec.Commit there lsid number read_at at writes) h = not_it tag there h
no_rec tag other h = tt

-- The start.

module _ (chunks : Map) (start : Nodes) (h : StartsAlone chunks start) where
  new_names : NamesNone start
  new_names number n is =
      let first = (only h.node n number
      (subst (λ (shards : List NodeState). slice_get shards number ≡ Some n) h.shards is)).1 in
      subst (λ (x : NodeState). All (RecNamed NoName) x.records) (sym first)
      (subst (λ (x : NodeState). All (RecNamed NoName) x.records)
      (sym (started_is 0 [] h.faults h.node h.starts)) (one (RecNamed NoName) _ tt))

  new_disks : DisksStand start
  new_disks number n is =
      let first = (only h.node n number
      (subst (λ (shards : List NodeState). slice_get shards number ≡ Some n) h.shards is)).1 in
      subst (λ (x : NodeState). DiskStands start x.records) (sym first)
      (new_disk start 0 h.faults h.node h.starts)

  pub known_start : KnownStands start
  known_start = known_fresh chunks start h.fresh new_disks new_names

  module _ (last : List Envelope) (c : Commit)
      (its : (x : Named) → WasNamed last x → Its c.tag c.lsid c.number x) where
    none_first : HasRec c.tag c.lsid c.number h.node.records → ⊥
    none_first has =
        let records = ap (λ (x : NodeState). x.records)
        (started_is 0 [] h.faults h.node h.starts) in
        let there = subst (λ (x : List Rec). Contains x has.0) records has.1 in
        subst (Commits c.tag) (only_one (boot_behind (image_of [])) has.0 there) has.2

    first_stood : Stood c.tag c.lsid c.number c.boot start.sent h.node
    first_stood =
        let hand : h.node.hand ≡ [] = ap (λ (x : NodeState). x.hand)
        (started_is 0 [] h.faults h.node h.starts) in
        let all : h.node.records ++ h.node.hand ≡ h.node.records =
        ap (λ (x : List Rec). h.node.records ++ x) hand ∙ append-nil h.node.records in
        record {
          kept = λ has. absurd (none_first has);
          with_hand = λ has. absurd (none_first
              (subst (HasRec c.tag c.lsid c.number) all has));
          runs = λ run has. absurd (none_first has);
          gone = λ t. none_there t.0
              (subst (λ (x : List Envelope). Contains x t.0) h.fresh.sent t.3);
        }

-- The law.

module _ (chunks : Map) (start : Nodes) (run : List Ran) (trace : List Nodes) (now : Nodes)
    (is : IsMap chunks) (h : StartsAlone chunks start) (k : IsTrace start run trace now)
    (agree : RecoversAgree now.sent)
    (come : (nodes : Nodes) → Contains (trace ++ now ∷ []) nodes → RecoversCome nodes) where
  stands : Stands now
  stands = stands_run start run trace now k (stands_start chunks start h)

  now_alone : OneShard now
  now_alone = runs_alone chunks start run trace now h k

  asked_never : (c : Commit) → WasSent now.sent c → (e : Envelope) (o : Outcome) (why : Cause)
      → Contains now.sent e → e.msg ≡ msg.Outcome o → o.told ≡ told.Aborted why → o.tag ≡ c.tag
      → has_entry (commits_of now) c.tag ≡ false
  asked_never c was e o why there is_o told_so own =
      let named : WasNamed now.sent (record { tag = c.tag; lsid = c.lsid; number = c.number }) =
      subst (λ (m : Msg). IfSome (named_in m) (WasNamed now.sent)) was.2
      (sent_named now.sent was.0 was.1) in
      let its : (x : Named) → WasNamed now.sent x → Its c.tag c.lsid c.number x =
      λ x there_x same. stands.tags.one_begin x
      (record { tag = c.tag; lsid = c.lsid; number = c.number }) there_x named same in
      let has = run_has now.sent c its
      (λ m sent_m same. one_boot chunks start run trace now is h k m c sent_m was same)
      (λ x sought same. agree x c sought was same)
      run trace start now k refl come (stands_start chunks start h)
      (one_shard_first chunks start h.faults h.node h.fresh h.shards h.starts)
      (known_start chunks start h)
      (h.node, h.shards, first_stood chunks start h now.sent c its) in
      let gone = has.2.gone (e, o, why, there, is_o, own, told_so) in
      let same : has.0 ≡ now_alone.node = (only now_alone.node has.0 0
      (subst (λ (xs : List NodeState). slice_get xs 0 ≡ Some has.0)
      (sym has.1 ∙ now_alone.shards) refl)).1 in
      let alone : All (RecAlone (WasNamed now.sent)) has.0.records =
      subst (λ (n : NodeState). All (RecAlone (WasNamed now.sent)) n.records) (sym same)
      now_alone.right.kept.2.alone.records in
      ap (λ (shards : List NodeState). has_entry (commits (map (λ (n : NodeState). n.records)
      shards)) c.tag) has.1
      ∙ none_listed (WasNamed now.sent) (is_its c.tag) has.0.records alone
      (All-weaker (NoRec c.tag c.lsid c.number) (RecNo (is_its c.tag)) (no_rec c.tag) has.0.records
      gone.records)

  pub aborted_excludes : (e : Envelope) (o : Outcome) (why : Cause) → Contains now.sent e
      → e.msg ≡ msg.Outcome o → o.told ≡ told.Aborted why
      → has_entry (commits_of now) o.tag ≡ false
  aborted_excludes e o why there is_o told_so = by (has_entry (commits_of now) o.tag) refl
    where
      by : (test : Bool) → has_entry (commits_of now) o.tag ≡ test → test ≡ false
      by false none = refl
      by true some =
          let r = served_right now now_alone in
          let wrong : true ≡ false = sym some
          ∙ no_entry (WasCommitted now.sent r.served) (commits_of now) o.tag r.whole
          (λ x w same.
          let own : o.tag ≡ w.1.tag = sym (w.4 ∙ same) in
          let never = asked_never w.1 (w.0, w.2, w.3) e o why there is_o told_so own in
          let wrong : true ≡ false = sym some
          ∙ ap (λ (t : Tag). has_entry (commits_of now) t) own ∙ never in
          cc) in
          cc

  told_never : (e : Envelope) (o : Outcome) → Contains now.sent e → e.msg ≡ msg.Outcome o
      → (x : Told) → o.told ≡ x → IsNever (commits_of now) o.tag x
  told_never e o there is_o (told.Aborted why) told_so = aborted_excludes e o why there is_o told_so
  told_never e o there is_o other told_so = tt

  tells_never : (e : Envelope) → Contains now.sent e → (m : Msg) → e.msg ≡ m
      → TellsNever (commits_of now) m
  tells_never e there (msg.Outcome o) is_o = told_never e o there is_o o.told refl
  tells_never e there other is_o = tt

  pub aborts_told : All (λ (e : Envelope). TellsNever (commits_of now) e.msg) now.sent
  aborts_told = contained (λ (e : Envelope). TellsNever (commits_of now) e.msg) now.sent
      (λ e there. tells_never e there e.msg refl)
