-- The list of commits after a shard's step.
use Rattle.std.proofs.Common.{◌≡◌, inl, inr, ◌≤◌, ◌<◌, ◌++◌, ℕ, get_or, ◌+◌, List, [], Option, Some}
use Rattle.std.proofs.Common.{unwrap_or, map, ap, sym, subst, ◌∙◌, arith, length, take, slice_get}
use Rattle.std.proofs.Common.{slice_set}
use Rattle.std.proofs.Math.Seq.{take-append_seam}
use Rattle.std.proofs.lemmas.List.{length-append}
use Rattle.std.proofs.lemmas.Option.{slice_get-get_or}
use Rattle.txn_types.specs.declared.event.NodeAnswer.{NodeAnswer}
use Rattle.txn_types.specs.declared.event.NodeEvent.{NodeEvent}
use Rattle.journal_rec.specs.declared.record.Rec.{Rec}
use Rattle.shard_core.specs.Core.{core_step}
use Rattle.shard_core.specs.NodeStep.{NodeState, ShardTakes, joined, appends_of}
use Rattle.txn_model.specs.Commits.{Journals}
use Rattle.cluster_world.specs.World.{records_in, cut_in}
use Rattle.cluster_world.proofs.Set.{set_there, set_back, get_within, map_set, map_get}

-- a step adds records after those that stood there
pub record AddsTo (old new : List Rec) : Type 0 where
  pub more : List Rec
  pub is : new ≡ old ++ more

pub takes_more : (old : NodeState) (e : NodeEvent) (a : NodeAnswer) (new : NodeState)
    → ShardTakes old e a new → AddsTo old.records new.records
takes_more old e a new (room, inl appended) =
    record { more = joined (appends_of (core_step room old.core e)); is = appended.records }
takes_more old e a new (room, inr failed) =
    record { more = joined failed.kept; is = failed.records }

-- what stood before a step is what is left without its records
pub cut_before : (journals : Journals) (n : ℕ) (old new : List Rec)
    → slice_get journals n ≡ Some old → AddsTo old new
    → slice_set (slice_set journals n new) n (take (length old)
    (unwrap_or (slice_get (slice_set journals n new) n) [])) ≡ journals
cut_before journals n old new is adds =
    let there : slice_get (slice_set journals n new) n ≡ Some new =
    set_there journals n new (get_within journals n old is) in
    let cut : take (length old) (unwrap_or (slice_get (slice_set journals n new) n) []) ≡ old =
    ap (λ (o : Option (List Rec)). take (length old) (unwrap_or o [])) there
    ∙ ap (take (length old)) adds.is ∙ take-append_seam old adds.more in
    ap (slice_set (slice_set journals n new) n) cut ∙ set_back journals n old new is

pub cut_within : (journals : Journals) (n : ℕ) (old new : List Rec)
    → slice_get journals n ≡ Some old → AddsTo old new
    → length old ≤ length (unwrap_or (slice_get (slice_set journals n new) n) [])
cut_within journals n old new is adds =
    let there : slice_get (slice_set journals n new) n ≡ Some new =
    set_there journals n new (get_within journals n old is) in
    let longer : length (unwrap_or (slice_get (slice_set journals n new) n) []) ≡ length old
    + length adds.more = ap (λ (o : Option (List Rec)). length (unwrap_or o [])) there
    ∙ ap length adds.is ∙ length-append old adds.more in
    omega (arith, longer)

pub records_set : {S : Type 0} (state : S → NodeState) (items : List S) (n : ℕ) (after : S)
    → records_in state (slice_set items n after)
    ≡ slice_set (records_in state items) n (state after).records
records_set state items n after = ap (map (λ (s : NodeState). s.records)) (map_set state items n
    after) ∙ map_set (λ (s : NodeState). s.records) (map state items) n (state after)

pub records_got : {S : Type 0} (state : S → NodeState) (items : List S) (n : ℕ) (before : S)
    → slice_get items n ≡ Some before
    → slice_get (records_in state items) n ≡ Some (state before).records
records_got state items n before got = map_get (λ (s : NodeState).
    s.records) (map state items) n (state before) (map_get state items n before got)

-- the records of the shard at a place, as its call told them
pub records_at : {S : Type 0} (state : S
    → NodeState) (items : List S) (i n : ℕ) (there : S) (recs : List Rec) → i ≡ n → n < length items
    → there ≡ get_or items i there → recs ≡ (state there).records
    → slice_get (records_in state items) n ≡ Some recs
records_at state items i n there recs place within is told =
    let here : there ≡ get_or items n there = is ∙ ap (λ (k : ℕ). get_or items k there) place in
    let got : slice_get items n ≡ Some there = slice_get-get_or items n there within
    ∙ ap (λ x. Some x) (sym here) in
    records_got state items n there got ∙ ap (λ x. Some x) (sym told)

-- a shard's step, seen of the journals: what stood before it is what is left without its records
pub record StepCuts {S : Type 0} (state : S → NodeState) (items now : List S)
    (n count : ℕ) : Type 0 where
  pub within : count ≤ length (unwrap_or (slice_get (records_in state now) n) [])
  pub cut : cut_in state now n count ≡ records_in state items

pub step_cuts : {S : Type 0} (state : S → NodeState) (items now : List S) (i n count : ℕ)
    (before after : S) (e : NodeEvent) (a : NodeAnswer) → i ≡ n → slice_get items i ≡ Some before
    → now ≡ slice_set items i after
    → ShardTakes (state before) e a (state after) → count ≡ length (state before).records
    → StepCuts state items now n count
step_cuts state items now i n count before after e a place got is takes counted =
    let here : slice_get items n ≡ Some before =
    subst (λ (k : ℕ). slice_get items k ≡ Some before) place got in
    let journals : records_in state now
    ≡ slice_set (records_in state items) n (state after).records =
    ap (records_in state) (is ∙ ap (λ (k : ℕ). slice_set items k after) place)
    ∙ records_set state items n after in
    let adds : AddsTo (state before).records (state after).records =
    takes_more (state before) e a (state after) takes in
    let there : slice_get (records_in state items) n ≡ Some (state before).records =
    records_got state items n before here in
    record {
      within =
          subst (λ (js : Journals). count ≤ length (unwrap_or (slice_get js n) [])) (sym journals)
          (subst (λ (k : ℕ). k ≤ length (unwrap_or (slice_get
          (slice_set (records_in state items) n (state after).records) n) [])) (sym counted)
          (cut_within (records_in state items) n (state before).records (state after).records
          there adds));
      cut = ap (λ (js : Journals). slice_set js n
          (take count (unwrap_or (slice_get js n) []))) journals
          ∙ ap (λ (k : ℕ). slice_set (slice_set (records_in state items) n (state after).records)
          n (take k (unwrap_or (slice_get
          (slice_set (records_in state items) n (state after).records) n) []))) counted
          ∙ cut_before (records_in state items) n (state before).records
          (state after).records there adds;
    }
