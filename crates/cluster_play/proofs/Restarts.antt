-- A shard that starts again: what its disk has is what a crash may leave.
use Rattle.std.proofs.Common.{◌≡◌, ◌≤◌, ◌⊎◌, inl, inr, ℕ, List, ◌++◌, Option, Some, None, sym, ap}
use Rattle.std.proofs.Common.{subst, ◌∙◌}
use Rattle.journal_core.specs.Left.{Leaves}
use Rattle.journal_rec.specs.declared.record.Rec.{Rec}
use Rattle.record_store.specs.Found.{FoundIn}
use Rattle.record_store.specs.Logged.{AreOf, LeftOf, listed, payload_in}
use Rattle.log_laws.specs.Fitting.{AllFit, HandFits}
use Rattle.shard_core.specs.NodeStep.{NodeState}
use Rattle.node_store.specs.Starts.{StartsFrom}
use Rattle.cluster_core.specs.Trace.{MayRemain}
use Rattle.cluster_play.specs.Plays.{StartsAgain}

-- log_laws' law
abbrev pub IsFound : Type 0
IsFound = (payloads : List (List ℕ)) (recs found : List Rec) (hand : Option Rec) (file : List ℕ)
    → AreOf payloads recs → Leaves payloads (payload_in hand) file → AllFit recs → HandFits hand
    → FoundIn (Unit {0}) file found → (found ≡ recs) ⊎ (found ≡ recs ++ listed hand)

hand_fits : (hand : Option Rec) → AllFit (listed hand) → HandFits hand
hand_fits None fit = tt
hand_fits (Some r) fit = fit.0

remains : (n : NodeState) (recs : List Rec) (hand : Option Rec) → n.hand ≡ listed hand
    → (recs ≡ n.records) ⊎ (recs ≡ n.records ++ listed hand) → MayRemain n recs
remains n recs hand is (inl all) = inl all
remains n recs hand is (inr more) = inr (more ∙ ap (λ (h : List Rec). n.records ++ h) (sym is))

pub starts_again : (law : IsFound) (told tells : Type 0) (n : ℕ) (before after : NodeState)
    (hand : Option Rec) (may_leave : List ℕ → Type 0) (file : List ℕ)
    → (told → tells) → (tells → LeftOf may_leave before.records hand) → (tells → may_leave file)
    → before.hand ≡ listed hand → before.faults ≤ after.faults → StartsFrom n tells file after
    → StartsAgain told n before after
starts_again law told tells n before after hand may_leave file tell left shown in_hand later s =
    let remain : told → AllFit before.records → AllFit before.hand
    → MayRemain before s.recs = λ t fit fits.
    let l = left (tell t) in
    let found : FoundIn (Unit {0}) file s.recs = record {
      payloads = s.found.payloads;
      file_has = λ _. s.found.file_has (tell t);
      are = s.found.are;
    } in
    remains before s.recs hand in_hand (law l.payloads before.records s.recs hand file l.are
    (l.left file (shown (tell t))) fit (hand_fits hand (subst AllFit in_hand fits)) found) in
    record {
      recs = s.recs;
      faults = after.faults;
      remain = remain;
      later = later;
      starts = s.starts;
    }
