-- What is told of transactions agrees with the list of commits, where these stand: what the shard
-- told as aborted is never committed, what it released wrote nothing, and what its router knows of
-- no write of, as it has it as aborted, is never committed.
use Rattle.std.proofs.Common.{◌≡◌, inl, inr, ◌∙◌, ◌+◌, ◌++◌, ℕ, true, false}
use Rattle.std.proofs.Common.{Contains, List, [], ◌∷◌, take, IsTrue}
use Rattle.std.proofs.Common.{sym, subst}
use Rattle.std.proofs.lemmas.List.Elements.{All-contains}
use Rattle.txn_types.specs.declared.decision.Told.TheVariants as told_as
use Rattle.txn_types.specs.declared.message.Envelope.{Envelope}
use Rattle.txn_types.specs.declared.message.Msg.TheVariants as msg
use Rattle.txn_types.specs.declared.message.Outcome.{Outcome}
use Rattle.txn_types.specs.declared.names.Tag.{Tag}
use Rattle.txn_semantics.specs.Answers.{began}
use Rattle.chunk_map.specs.Map.{Map, IsMap}
use Rattle.txn_model.specs.Commits.{has_entry}
use Rattle.txn_model.specs.declared.ran.Ran.{Ran}
use Rattle.cluster_core.specs.Deciding.{Agrees, OneDecision, WasReleased, has_written}
use Rattle.cluster_core.specs.Ledger.{answered_in}
use Rattle.cluster_core.specs.Nodes.{Nodes, commits_of}
use Rattle.cluster_core.specs.Right.{boots_of}
use Rattle.cluster_core.specs.Telling.{Telling, Meant, Done, Undone, Caused, told_in}
use Rattle.cluster_core.specs.Trace.{IsTrace}
use Rattle.told_laws.proofs.Lists.{contained}
use Rattle.one_shard_laws.specs.Concluding.{StartsAlone}
use Rattle.right_laws.specs.Grounds.{WasToldAborted, IsWriteless, GroundOf}
use Rattle.right_laws.proofs.Hands.Running.{all_came}
use Rattle.right_laws.proofs.Tellings.Whole.{all_told, first_disks, took_sent}
use Rattle.right_laws.proofs.Tellings.Writing.{committed_wrote}

no_true : {X : Type 0} → true ≡ false → X
no_true e = cc

module _ (chunks : Map) (is : IsMap chunks) (start : Nodes) (h : StartsAlone chunks start)
    (run : List Ran) (trace : List Nodes) (now : Nodes) (k : IsTrace start run trace now)
    (aborted : (tag : Tag) → WasToldAborted now.sent tag → has_entry (commits_of now) tag ≡ false)
    (released : (e : Envelope) (o : Outcome) → Contains now.sent e → e.msg ≡ msg.Outcome o
    → o.told ≡ told_as.Released
    → has_written (commits_of now) (answered_in start.routers run) o.tag ≡ false)
    (writeless : (tag : Tag) → IsWriteless (trace ++ now ∷ []) tag
    → has_entry (commits_of now) tag ≡ false) where
  abbrev Says : ℕ → Tag → Meant → Type 0
  Says place tag meant =
      Agrees run (commits_of now) (answered_in start.routers run) place tag meant

  wrote_none : (n : ℕ) (tag : Tag) → WasReleased (take n run) tag 0
      → has_written (commits_of now) (answered_in start.routers run) tag ≡ false
  wrote_none n tag w =
      subst (λ (x : Tag). has_written (commits_of now) (answered_in start.routers run) x ≡ false)
      w.of
      (released w.envelope w.outcome (took_sent chunks is start h run trace now k
      (all_came chunks start run trace now h.fresh (first_disks chunks start h) k) n tag w) w.msg
      w.told)

  agrees : (place : ℕ) (tag : Tag) (meant : Meant)
      → GroundOf run (trace ++ now ∷ []) now place tag meant
      → IsTrue (began (boots_of start.routers) tag) → Says place tag meant
  agrees place tag Done (inl there) b = (
    λ wrote. there,
    λ none. no_true (sym (committed_wrote chunks start run trace now is h k tag b there) ∙ none),
  )
  agrees place tag Done (inr r) b = (
    λ wrote. no_true (sym wrote ∙ wrote_none (place + 1) tag r.0),
    λ none. r.1,
  )
  agrees place tag Undone (inl never) b = never
  agrees place tag Undone (inr (inl told)) b = aborted tag told
  agrees place tag Undone (inr (inr none)) b = writeless tag none
  agrees place tag (Caused shard cause) (inl never) b = never
  agrees place tag (Caused shard cause) (inr told) b = aborted tag told

  pub one_decision : OneDecision (began (boots_of start.routers)) run (commits_of now)
      (answered_in start.routers run) (told_in start.routers run)
  one_decision =
      contained (λ (t : Telling). IsTrue (began (boots_of start.routers) t.tag)
      → Says t.place t.tag t.meant) (told_in start.routers run)
      (λ t c b.
      agrees t.place t.tag t.meant
      (All-contains (λ (x : Telling).
      GroundOf run (trace ++ now ∷ []) now x.place x.tag x.meant) (told_in start.routers run) t
      (all_told chunks start run trace now is h k) c) b)
