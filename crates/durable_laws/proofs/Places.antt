-- The versions of a place after each change: newest first, and those that outlive a stop.
use Rattle.std.proofs.Common.{◌≡◌, ◌≤◌, ◌<◌, ℕ, Bool, true, false, cond, not, List, [], ◌∷◌, Option}
use Rattle.std.proofs.Common.{Some, None, IsSomeAnd, filter, find, map, option_map, unwrap_or, refl}
use Rattle.std.proofs.Common.{ap, subst, ◌∙◌, sym, arith, if◌then◌else◌}
use Rattle.std.specs.List.{filter_map, cons_option}
use Rattle.bson_core.specs.Fields.{Document}
use Rattle.txn_types.specs.declared.names.Tag.{Tag}
use Rattle.txn_semantics.proofs.Steps.{filters}
use Rattle.version_store.specs.declared.version.Stamp.{Stamp}
use Rattle.version_store.specs.declared.version.Stamp.TheVariants.{Unfinished, Prepared, At}
use Rattle.version_store.specs.declared.version.Version.{Version}
use Rattle.version_store.specs.Versions.{first, is_of, writer_of, commit_of, without, restamped}
use Rattle.version_store.specs.Versions.{outlives, FallBelow, Fall, StandsBefore}
use Rattle.version_store.proofs.Chained.{same_version}
use Rattle.participant.proofs.Tags.{tag_self}
use Rattle.part_laws.specs.Each.{Each}
use Rattle.part_laws.specs.Chain.{own_at, IsCommitted, IsChain}
use Rattle.part_laws.proofs.Chains.{each_filter, none_found}
use Rattle.part_laws.proofs.Owners.{committed_none, topped}
use Rattle.part_laws.proofs.Stores.{topped_by}
use Rattle.durable_laws.proofs.Whole.{AreNewestFirst, newest_commit, HasStamp}

-- Commits, newest first.

some_and : (P : ℕ → Type 0) (o : Option ℕ) → IsSomeAnd o P → (n : ℕ) × (o ≡ Some n) × P n
some_and P None h = absurd h
some_and P (Some n) h = (n, refl, h)

commit_is : (stamp : Stamp) (n : ℕ) → commit_of stamp ≡ Some n → stamp ≡ At n
commit_is (Unfinished tag) n h = cc
commit_is (Prepared tag at) n h = cc
commit_is (At at) n h = cc

pub below_committed : (at : ℕ) (V : List Version) → FallBelow at V → Each IsCommitted V
below_committed at [] h = tt
below_committed at (v ∷ V) h =
    let is = some_and (λ commit. (commit < at) × FallBelow commit V) (commit_of v.stamp) h in
    (ap writer_of (commit_is v.stamp is.0 is.1), below_committed is.0 V is.2.1)

pub fall_committed : (V : List Version) → Fall V → Each IsCommitted V
fall_committed [] h = tt
fall_committed (v ∷ V) h =
    let is = some_and (λ commit. FallBelow commit V) (commit_of v.stamp) h in
    (ap writer_of (commit_is v.stamp is.0 is.1), below_committed is.0 V is.2)

pub below_fall : (at : ℕ) (V : List Version) → FallBelow at V → Fall V
below_fall at [] h = tt
below_fall at (v ∷ V) h =
    let is = some_and (λ commit. (commit < at) × FallBelow commit V) (commit_of v.stamp) h in
    subst (λ o. IsSomeAnd o (λ commit. FallBelow commit V)) (sym is.1) is.2.1

pub below_more : (at later : ℕ) (V : List Version) → at ≤ later → FallBelow at V → FallBelow later V
below_more at later [] more h = tt
below_more at later (v ∷ V) more h =
    let is = some_and (λ commit. (commit < at) × FallBelow commit V) (commit_of v.stamp) h in
    let under : is.0 < at = is.2.0 in
    subst (λ o. IsSomeAnd o (λ commit. (commit < later) × FallBelow commit V)) (sym is.1)
    (grind arith, is.2.1)

-- above its newest commit
pub fall_below : (at : ℕ) (V : List Version) → Fall V → newest_commit V < at → FallBelow at V
fall_below at [] h above = tt
fall_below at (v ∷ V) h above =
    let is = some_and (λ commit. FallBelow commit V) (commit_of v.stamp) h in
    let newest : newest_commit (v ∷ V) ≡ is.0 = ap (λ o. unwrap_or
    (first (cons_option o (filter_map (λ (v : Version). commit_of v.stamp) V))) 0) is.1 in
    let under : is.0 < at = subst (λ n. n < at) newest above in
    subst (λ o. IsSomeAnd o (λ commit. (commit < at) × FallBelow commit V)) (sym is.1) (under, is.2)

before_fall : (V : List Version) (stamp : Stamp) → StandsBefore V stamp → Fall V
before_fall V (Unfinished tag) h = h
before_fall V (Prepared tag at) h = below_fall at V h
before_fall V (At at) h = below_fall at V h

pub behind_fall : (v : Version) (V : List Version) → AreNewestFirst (v ∷ V) → Fall V
behind_fall v V h = before_fall V v.stamp h

pub newest_chain : (V : List Version) → AreNewestFirst V → IsChain V
newest_chain [] h = tt
newest_chain (v ∷ V) h = fall_committed V (behind_fall v V h)

pub fall_newest : (V : List Version) → Fall V → AreNewestFirst V
fall_newest [] h = tt
fall_newest (v ∷ V) h =
    let is = some_and (λ commit. FallBelow commit V) (commit_of v.stamp) h in
    subst (StandsBefore V) (sym (commit_is v.stamp is.0 is.1)) is.2

-- Each change by whose the first version is.

none_without : (tag : Tag) (V : List Version) → Each (λ v. is_of tag v ≡ false) V
    → without tag V ≡ V
none_without tag [] h = refl
none_without tag (v ∷ V) h = ap (λ b. cond (not b) (v ∷ without tag V) (without tag V)) h.0
    ∙ ap (λ xs. v ∷ xs) (none_without tag V h.1)

pub none_restamped : (tag : Tag) (stamp : Stamp) (V : List Version)
    → Each (λ v. is_of tag v ≡ false) V → map (restamped tag stamp) V ≡ V
none_restamped tag stamp [] h = refl
none_restamped tag stamp (v ∷ V) h = ap (λ x. x ∷ map (restamped tag stamp) V) (same_version tag
    stamp v h.0) ∙ ap (λ xs. v ∷ xs) (none_restamped tag stamp V h.1)

pub without_rest : (tag : Tag) (V : List Version) → Each IsCommitted V → without tag V ≡ V
without_rest tag V h = none_without tag V (committed_none tag V h)

pub restamped_rest : (tag : Tag) (stamp : Stamp) (V : List Version) → Each IsCommitted V
    → map (restamped tag stamp) V ≡ V
restamped_rest tag stamp V h = none_restamped tag stamp V (committed_none tag V h)

dropped_case : (tag : Tag) (v : Version) (V : List Version) (b : Bool) → AreNewestFirst (v ∷ V)
    → AreNewestFirst (cond (not b) (v ∷ V) V)
dropped_case tag v V true h = fall_newest V (behind_fall v V h)
dropped_case tag v V false h = h

pub newest_dropped : (tag : Tag) (V : List Version) → AreNewestFirst V
    → AreNewestFirst (without tag V)
newest_dropped tag [] h = tt
newest_dropped tag (v ∷ V) h =
    subst (λ W. AreNewestFirst (cond (not (is_of tag v)) (v ∷ W) W)) (sym (without_rest tag V
    (fall_committed V (behind_fall v V h)))) (dropped_case tag v V (is_of tag v) h)

stamped_case : (tag : Tag) (stamp : Stamp) (v : Version) (V : List Version) (b : Bool)
    → is_of tag v ≡ b → AreNewestFirst (v ∷ V) → (is_of tag v ≡ true → StandsBefore V stamp)
    → AreNewestFirst ((if b then record { stamp = stamp; doc = v.doc } else v) ∷ V)
stamped_case tag stamp v V true is h over = over is
stamped_case tag stamp v V false is h over = h

-- what is stamped anew, where its stamp stands before the rest
abbrev pub MayStamp : Tag → Stamp → List Version → Type 0
MayStamp tag stamp [] = Unit {0}
MayStamp tag stamp (v ∷ V) = is_of tag v ≡ true → StandsBefore V stamp

pub newest_stamped : (tag : Tag) (stamp : Stamp) (V : List Version) → AreNewestFirst V
    → MayStamp tag stamp V → AreNewestFirst (map (restamped tag stamp) V)
newest_stamped tag stamp [] h over = tt
newest_stamped tag stamp (v ∷ V) h over =
    subst (λ W. AreNewestFirst (restamped tag stamp v ∷ W))
    (sym (restamped_rest tag stamp V (fall_committed V (behind_fall v V h))))
    (stamped_case tag stamp v V (is_of tag v) refl h over)

-- a write of the transaction in front, where none of another transaction is there
committed_fall : (tag : Tag) (V : List Version) → AreNewestFirst V
    → Each IsCommitted (without tag V) → Fall (without tag V)
committed_fall tag [] h c = tt
committed_fall tag (v ∷ V) h c = committed_case tag v V (is_of tag v) refl h c
  where
    head_fall : (v : Version) (V : List Version) → writer_of v.stamp ≡ None → (stamp : Stamp)
        → v.stamp ≡ stamp → StandsBefore V stamp → Fall (v ∷ V)
    head_fall v V none (Unfinished tag) is h = let wrong : Some tag ≡ None = sym (ap writer_of is)
        ∙ none in cc
    head_fall v V none (Prepared tag at) is h = let wrong : Some tag ≡ None = sym (ap writer_of is)
        ∙ none in cc
    head_fall v V none (At at) is h =
        subst (λ o. IsSomeAnd o (λ commit. FallBelow commit V)) (sym (ap commit_of is)) h

    committed_case : (tag : Tag) (v : Version) (V : List Version) (b : Bool)
        → is_of tag v ≡ b → AreNewestFirst (v ∷ V) → Each IsCommitted (without tag (v ∷ V))
        → Fall (without tag (v ∷ V))
    committed_case tag v V true is h c =
        let gone : without tag (v ∷ V) ≡ V = ap (λ b. cond (not b) (v ∷ without tag V)
        (without tag V)) is ∙ without_rest tag V (fall_committed V (behind_fall v V h)) in
        subst Fall (sym gone) (behind_fall v V h)
    committed_case tag v V false is h c =
        let stays : without tag (v ∷ V) ≡ v ∷ V =
        ap (λ b. cond (not b) (v ∷ without tag V) (without tag V)) is
        ∙ ap (λ W. v ∷ W) (without_rest tag V (fall_committed V (behind_fall v V h))) in
        let all : Each IsCommitted (v ∷ V) = subst (Each IsCommitted) stays c in
        subst Fall (sym stays) (head_fall v V all.0 v.stamp refl h)

pub newest_topped : (tag : Tag) (doc : Option Document) (V : List Version) → AreNewestFirst V
    → Each IsCommitted (without tag V) → AreNewestFirst (topped tag doc V)
newest_topped tag doc V h c = committed_fall tag V h c

-- The versions that outlive a stop.

abbrev pub lasting : List Version → List Version
lasting V = filter (λ v. outlives v.stamp) V

committed_lasts : (stamp : Stamp) → writer_of stamp ≡ None → outlives stamp ≡ true
committed_lasts (Unfinished tag) h = cc
committed_lasts (Prepared tag at) h = cc
committed_lasts (At at) h = refl

pub lasting_rest : (V : List Version) → Each IsCommitted V → lasting V ≡ V
lasting_rest [] h = refl
lasting_rest (v ∷ V) h = ap (λ b. cond b (v ∷ lasting V) (lasting V)) (committed_lasts v.stamp h.0)
    ∙ ap (λ W. v ∷ W) (lasting_rest V h.1)

lost_case : (tag : Tag) (v : Version) (V : List Version) (b : Bool) → is_of tag v ≡ b
    → HasStamp tag (Unfinished tag) v → lasting (without tag V) ≡ lasting V → lasting (cond (not b)
    (v ∷ without tag V) (without tag V)) ≡ cond (outlives v.stamp) (v ∷ lasting V) (lasting V)
lost_case tag v V true is h more = more
    ∙ ap (λ b. cond b (v ∷ lasting V) (lasting V)) (sym (ap outlives (h is)))
lost_case tag v V false is h more = ap (λ W. cond (outlives v.stamp) (v ∷ W) W) more

-- those of a live transaction don't
pub lasting_without : (tag : Tag) (V : List Version) → Each (HasStamp tag (Unfinished tag)) V
    → lasting (without tag V) ≡ lasting V
lasting_without tag [] h = refl
lasting_without tag (v ∷ V) h = lost_case tag v V (is_of tag v) refl h.0 (lasting_without tag V h.1)

pub lasting_topped : (tag : Tag) (c : Option (Option Document)) (V : List Version)
    → Each (HasStamp tag (Unfinished tag)) V → lasting (topped_by tag c V) ≡ lasting V
lasting_topped tag None V h = refl
lasting_topped tag (Some doc) V h = lasting_without tag V h

pub lasting_drop : (tag : Tag) (V : List Version)
    → lasting (without tag V) ≡ without tag (lasting V)
lasting_drop tag V = filters (λ v. outlives v.stamp) (λ v. not (is_of tag v)) V

decided_case : (tag : Tag) (old new : Stamp) (v : Version) (V : List Version) (b : Bool)
    → is_of tag v ≡ b → outlives old ≡ true → outlives new ≡ true → HasStamp tag old v
    → lasting (map (restamped tag new) V) ≡ map (restamped tag new) (lasting V)
    → (let w : Version = if b then record { stamp = new; doc = v.doc } else v in cond (outlives
    w.stamp) (w ∷ lasting (map (restamped tag new) V)) (lasting (map (restamped tag new) V))
    ≡ map (restamped tag new) (cond (outlives v.stamp) (v ∷ lasting V) (lasting V)))
decided_case tag old new v V true is lo ln h more =
    ap (λ b. cond b (record { stamp = new; doc = v.doc } ∷ lasting (map (restamped tag new) V))
    (lasting (map (restamped tag new) V))) ln
    ∙ ap (λ W. record { stamp = new; doc = v.doc } ∷ W) more
    ∙ ap (λ b. (if b then record { stamp = new; doc = v.doc } else v)
    ∷ map (restamped tag new) (lasting V)) (sym is)
    ∙ ap (λ b. map (restamped tag new) (cond b (v ∷ lasting V) (lasting V)))
    (sym (ap outlives (h is) ∙ lo))
decided_case tag old new v V false is lo ln h more = kept (outlives v.stamp)
  where
    kept : (b : Bool) → cond b (v ∷ lasting (map (restamped tag new) V)) (lasting
        (map (restamped tag new) V)) ≡ map (restamped tag new) (cond b (v ∷ lasting V) (lasting V))
    kept true = ap (λ W. v ∷ W) more
        ∙ ap (λ x. x ∷ map (restamped tag new) (lasting V)) (sym (same_version tag new v is))
    kept false = more

-- those of a prepared transaction do, with another stamp too
pub lasting_stamped : (tag : Tag) (old new : Stamp) (V : List Version)
    → outlives old ≡ true → outlives new ≡ true → Each (HasStamp tag old) V
    → lasting (map (restamped tag new) V) ≡ map (restamped tag new) (lasting V)
lasting_stamped tag old new [] lo ln h = refl
lasting_stamped tag old new (v ∷ V) lo ln h = decided_case tag old new v V (is_of tag v) refl lo ln
    h.0 (lasting_stamped tag old new V lo ln h.1)

not_owned : (tag : Tag) (V : List Version) → Each IsCommitted V → own_at tag V ≡ None
not_owned tag V h =
    ap (option_map (λ (v : Version). v.doc)) (none_found (is_of tag) V (committed_none tag V h))

own_case : (tag : Tag) (new : Stamp) (v : Version) (V : List Version) (b : Bool) → is_of tag v ≡ b
    → outlives new ≡ true → HasStamp tag (Unfinished tag) v → Each IsCommitted V
    → map (restamped tag new) (topped_by tag (option_map (λ (v : Version). v.doc) (cond b (Some v)
    (find (is_of tag) V))) (cond (outlives v.stamp) (v ∷ lasting V) (lasting V)))
    ≡ cond (outlives (if b then new else v.stamp)) ((if b then record { stamp = new; doc = v.doc }
    else v) ∷ lasting (map (restamped tag new) V)) (lasting (map (restamped tag new) V))
own_case tag new v V true is ln h c =
    let rest : map (restamped tag new) V ≡ V = restamped_rest tag new V c in
    let gone : without tag V ≡ V = without_rest tag V c in
    let stays : lasting V ≡ V = lasting_rest V c in
    let top : Version = record { stamp = new; doc = v.doc } in
    let mine : Version = record { stamp = Unfinished tag; doc = v.doc } in
    ap (λ b. map (restamped tag new) (mine ∷ without tag (cond b (v ∷ lasting V) (lasting V))))
    (ap outlives (h is))
    ∙ ap (λ W. map (restamped tag new) (mine ∷ without tag W)) stays
    ∙ ap (λ W. map (restamped tag new) (mine ∷ W)) gone
    ∙ ap (λ b. (if b then top else mine) ∷ map (restamped tag new) V) (tag_self tag)
    ∙ ap (λ W. top ∷ W) (rest ∙ sym stays ∙ ap lasting (sym rest))
    ∙ ap (λ b. cond b (top ∷ lasting (map (restamped tag new) V))
    (lasting (map (restamped tag new) V))) (sym ln)
own_case tag new v V false is ln h c =
    let rest : map (restamped tag new) V ≡ V = restamped_rest tag new V c in
    let none : own_at tag V ≡ None = not_owned tag V c in
    ap (λ o. map (restamped tag new)
    (topped_by tag o (cond (outlives v.stamp) (v ∷ lasting V) (lasting V)))) none
    ∙ none_restamped tag new (lasting (v ∷ V)) (each_filter (λ v. is_of tag v ≡ false)
    (λ v. outlives v.stamp) (v ∷ V) (is, committed_none tag V c))
    ∙ ap (λ W. cond (outlives v.stamp) (v ∷ lasting W) (lasting W)) (sym rest)

-- a live transaction's versions with a stamp that outlives a stop are its writes, laid over what
-- outlives it and stamped so
pub lasting_own : (tag : Tag) (new : Stamp) (V : List Version) → outlives new ≡ true
    → Each (HasStamp tag (Unfinished tag)) V → IsChain V
    → map (restamped tag new) (topped_by tag (own_at tag V) (lasting V))
    ≡ lasting (map (restamped tag new) V)
lasting_own tag new [] ln h c = refl
lasting_own tag new (v ∷ V) ln h c = own_where tag v new V ln h.0 c (is_of tag v) refl
  where
    own_where : (tag : Tag) (v : Version) (new : Stamp) (V : List Version) → outlives new ≡ true
        → HasStamp tag (Unfinished tag) v → Each IsCommitted V → (b : Bool) → is_of tag v ≡ b
        → map (restamped tag new) (topped_by tag (own_at tag (v ∷ V)) (lasting (v ∷ V)))
        ≡ lasting (map (restamped tag new) (v ∷ V))
    own_where tag v new V ln h c true is =
        ap (λ b. map (restamped tag new) (topped_by tag (option_map (λ (v : Version). v.doc)
        (cond b (Some v) (find (is_of tag) V))) (lasting (v ∷ V)))) is
        ∙ own_case tag new v V true is ln h c
        ∙ ap (λ b. lasting ((if b then record { stamp = new; doc = v.doc } else v)
        ∷ map (restamped tag new) V)) (sym is)
    own_where tag v new V ln h c false is =
        ap (λ b. map (restamped tag new) (topped_by tag (option_map (λ (v : Version). v.doc)
        (cond b (Some v) (find (is_of tag) V))) (lasting (v ∷ V)))) is
        ∙ own_case tag new v V false is ln h c
        ∙ ap (λ b. lasting ((if b then record { stamp = new; doc = v.doc } else v)
        ∷ map (restamped tag new) V)) (sym is)
