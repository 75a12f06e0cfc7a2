-- What holds of a cluster of one shard is right.
use Rattle.std.proofs.Common.{◌≡◌, ◌≤◌, ◌<◌, ◌++◌, arith, ℕ, Bool, true, false, List, [], ◌∷◌, All}
use Rattle.std.proofs.Common.{AllPairs, map, ap, subst, sym}
use Rattle.std.specs.Bool.{IsTrue}
use Rattle.std.proofs.lemmas.List.Elements.{All-head, All-tail, All-weaker}
use Rattle.std.proofs.lemmas.List.Kept.{AllPairs-cons}
use Rattle.txn_types.specs.Order.{same_tag}
use Rattle.txn_semantics.specs.declared.commits.Entry.{Entry}
use Rattle.txn_semantics.specs.Answers.{FirstCommitter, began}
use Rattle.journal_rec.specs.declared.record.Rec.{Rec}
use Rattle.journal_rec.specs.declared.record.Rec.TheVariants as rec
use Rattle.part_laws.specs.Each.{Each}
use Rattle.part_laws.specs.Now.{AreRight}
use Rattle.part_laws.specs.Sound.{Served, EntryRight, AreApart, AllApart}
use Rattle.part_laws.proofs.Judged.{served_are_right, first_commits}
use Rattle.shard_core.specs.NodeStep.{NodeState}
use Rattle.txn_model.specs.Commits.{Journals, commits}
use Rattle.txn_model.specs.Decisions.{AllGreatest, DecisionsGreatest, AbortsNone, NowhereAborted}
use Rattle.txn_types.specs.Letters.{Named}
use Rattle.cluster_core.specs.Nodes.{Nodes, journals_of, commits_of}
use Rattle.one_shard_laws.specs.Alone.{RecAlone}
use Rattle.one_shard_laws.specs.Lasting.{WasNamed, WasCommitted, commits_by, Lasts, OneShard}
use Rattle.one_shard_laws.specs.Concluding.{ServedRight}
use Rattle.one_shard_laws.proofs.Listing.{each_more, each_all}
use Rattle.world_laws.proofs.Naming.{one}

-- No record decides for several shards.

greatest : (P : Named → Type 0) (journals : Journals) (before recs : List Rec)
    → All (RecAlone P) recs → AllGreatest journals before recs
greatest P journals before [] h = tt
greatest P journals before (rec.CoordDecision tag d ∷ recs) h =
    absurd (All-head (RecAlone P) (rec.CoordDecision tag d) recs h)
greatest P journals before (rec.Boot boot ∷ recs) h = greatest P journals (before ++ rec.Boot boot
    ∷ []) recs (All-tail (RecAlone P) (rec.Boot boot) recs h)
greatest P journals before (rec.Ceiling bound ∷ recs) h = greatest P journals (before
    ++ rec.Ceiling bound ∷ []) recs (All-tail (RecAlone P) (rec.Ceiling bound) recs h)
greatest P journals before (rec.Commit tag lsid number read_at at writes ∷ recs) h =
    greatest P journals (before ++ rec.Commit tag lsid number read_at at writes ∷ []) recs
    (All-tail (RecAlone P) (rec.Commit tag lsid number read_at at writes) recs h)
greatest P journals before (rec.Prepared tag lsid number boot read_at at coordinator writes
    ∷ recs) h = absurd (All-head (RecAlone P)
    (rec.Prepared tag lsid number boot read_at at coordinator writes) recs h)
greatest P journals before (rec.Decided d ∷ recs) h =
    absurd (All-head (RecAlone P) (rec.Decided d) recs h)
greatest P journals before (rec.CoordStart tag lsid number parts ∷ recs) h =
    absurd (All-head (RecAlone P) (rec.CoordStart tag lsid number parts) recs h)
greatest P journals before (rec.CoordEnd tag ∷ recs) h =
    absurd (All-head (RecAlone P) (rec.CoordEnd tag) recs h)
greatest P journals before (rec.Floor floor ∷ recs) h =
    absurd (All-head (RecAlone P) (rec.Floor floor) recs h)

aborts_none : (P : Named → Type 0) (entries : List Entry) (r : Rec) → RecAlone P r
    → AbortsNone entries r
aborts_none P entries (rec.Decided d) h = absurd h
aborts_none P entries (rec.CoordDecision tag d) h = absurd h
aborts_none P entries other h = tt

-- Each transaction commits once.

once_each : (boots : List ℕ) (e : Entry) (es : List Entry) → Each (AreApart e) es
    → All (λ (f : Entry). IsTrue (same_tag e.tag f.tag) → IsTrue (began boots e.tag) → ⊥) es
once_each boots e es h = All-weaker (AreApart e) (λ (f : Entry). IsTrue (same_tag e.tag f.tag)
    → IsTrue (began boots e.tag) → ⊥) (λ f k same any. differs (same_tag e.tag f.tag) k.tags same)
    es (each_all (AreApart e) es h)
  where
    differs : (b : Bool) → b ≡ false → IsTrue b → ⊥
    differs true h k = cc
    differs false h k = cc

once_all : (boots : List ℕ) (entries : List Entry) → AllApart entries → AllPairs (λ (a b : Entry).
    IsTrue (same_tag a.tag b.tag) → IsTrue (began boots a.tag) → ⊥) entries
once_all boots [] h = λ i j d less within. absurd (omega arith)
once_all boots (e ∷ entries) h =
    AllPairs-cons (λ (a b : Entry). IsTrue (same_tag a.tag b.tag) → IsTrue (began boots a.tag)
    → ⊥) e entries (once_each boots e entries h.0) (once_all boots entries h.1)

-- The nodes.

module _ (nodes : Nodes) (h : OneShard nodes) where
  abbrev recs : List Rec
  recs = h.node.records

  last : Lasts nodes.sent recs h.right.kept.0 h.right.kept.1
  last = h.right.kept.2

  journals_are : journals_of nodes ≡ recs ∷ []
  journals_are =
      ap (λ (shards : List NodeState). map (λ (n : NodeState). n.records) shards) h.shards

  commits_are : commits_of nodes ≡ commits_by recs
  commits_are = ap (λ (j : Journals). commits j) journals_are

  pub first_right : (boots : List ℕ) → FirstCommitter boots (commits_of nodes)
  first_right boots =
      subst (FirstCommitter boots) (sym commits_are)
      (first_commits h.right.kept.0.part.store last.opens h.right.kept.0.clock.last
      (commits_by recs) h.right.kept.1 last.holds.sound boots)

  pub once_right : (boots : List ℕ) → AllPairs (λ (a b : Entry). IsTrue (same_tag a.tag b.tag)
      → IsTrue (began boots a.tag) → ⊥) (commits_of nodes)
  once_right boots =
      subst (AllPairs (λ (a b : Entry). IsTrue (same_tag a.tag b.tag) → IsTrue (began boots a.tag)
      → ⊥)) (sym commits_are) (once_all boots (commits_by recs) last.holds.sound.apart)

  pub greatest_right : DecisionsGreatest (journals_of nodes)
  greatest_right =
      subst DecisionsGreatest (sym journals_are)
      (one (λ (r : List Rec). AllGreatest (recs ∷ []) [] r) recs
      (greatest (WasNamed nodes.sent) (recs ∷ []) [] recs last.alone.records))

  pub nowhere_right : NowhereAborted (journals_of nodes) (commits_of nodes)
  nowhere_right =
      subst (λ (j : Journals). NowhereAborted j (commits_of nodes)) (sym journals_are)
      (one (λ (r : List Rec). All (AbortsNone (commits_of nodes)) r) recs
      (All-weaker (RecAlone (WasNamed nodes.sent)) (AbortsNone (commits_of nodes))
      (aborts_none (WasNamed nodes.sent) (commits_of nodes)) recs last.alone.records))

  pub served_right : ServedRight nodes
  served_right =
      let served : List Served = h.right.kept.1 in
      record {
        served = served;
        lives = each_more (λ (x : Served). (0 < x.life) × (x.life ≤ h.right.kept.0.part.boot))
            (λ (x : Served). 0 < x.life) (λ x k. k.0) served last.lives;
        asked = last.asked;
        rises = last.rises;
        reads = subst (λ (es : List Entry). AreRight es served) (sym commits_are)
            (served_are_right h.right.kept.0.part.store last.opens h.right.kept.0.clock.last
            (commits_by recs) served last.holds.sound);
        known = subst (Each EntryRight) (sym commits_are) last.holds.sound.known;
        whole = subst (Each (WasCommitted nodes.sent served)) (sym commits_are) last.whole;
        told = last.told;
      }
