-- The prepared transactions of a tag, and without them.
use Rattle.std.proofs.Common.{◌≡◌, ◌<◌, ℕ, zero, suc, Bool, true, false, cond, not, List, [], ◌∷◌}
use Rattle.std.proofs.Common.{◌++◌, Some, None, find, filter, take, drop, remove, slice_get, length}
use Rattle.std.proofs.Common.{option_map, refl, ap, subst, ◌∙◌, sym, arith}
use Rattle.std.specs.declared.cmp.Ordering.{Ordering}
use Rattle.std.specs.declared.cmp.Ordering.TheVariants.{Less, Equal, Greater}
use Rattle.txn_types.specs.BySession.{BySession, entry_of}
use Rattle.txn_types.specs.Order.{same_tag, same_lsid, lsid_cmp}
use Rattle.txn_types.specs.declared.names.Tag.{Tag}
use Rattle.txn_types.specs.declared.node.Lsid.{Lsid}
use Rattle.txn_semantics.specs.Keyed.{taken_out}
use Rattle.txn_semantics.specs.Writes.{Place}
use Rattle.version_store.specs.declared.version.Pending.{Pending}
use Rattle.participant.specs.Stands.{newest_keys}
use Rattle.participant.proofs.Tags.{tag_same, tag_flip}

-- One more.

pub keys_more : (tag : Tag) (keys : List Place) (pending : List Pending) (q : Pending) → newest_keys
    tag keys (pending ++ q ∷ []) ≡ cond (same_tag q.tag tag) q.keys (newest_keys tag keys pending)
keys_more tag keys [] q = refl
keys_more tag keys (other ∷ pending) q =
    keys_more tag (cond (same_tag other.tag tag) other.keys keys) pending q

-- of this tag
pub keys_pushed : (tag : Tag) (pending : List Pending) (q : Pending) → same_tag q.tag tag ≡ true
    → newest_keys tag [] (pending ++ q ∷ []) ≡ q.keys
keys_pushed tag pending q is = keys_more tag [] pending q
    ∙ ap (λ b. cond b q.keys (newest_keys tag [] pending)) is

-- of another tag
pub keys_beside : (tag : Tag) (pending : List Pending) (q : Pending) → same_tag q.tag tag ≡ false
    → newest_keys tag [] (pending ++ q ∷ []) ≡ newest_keys tag [] pending
keys_beside tag pending q is = keys_more tag [] pending q
    ∙ ap (λ b. cond b q.keys (newest_keys tag [] pending)) is

-- Without those of another tag.

apart_tag : (a tag other : Tag) → same_tag a other ≡ true → same_tag tag other ≡ false
    → same_tag a tag ≡ false
apart_tag a tag other is apart =
    subst (λ t. same_tag t tag ≡ false) (sym (tag_same a other is)) (tag_flip other tag ∙ apart)

left_case : (tag other : Tag) (keys : List Place) (q : Pending) (pending : List Pending) (b : Bool)
    → same_tag q.tag other ≡ b → same_tag tag other ≡ false
    → ((keys : List Place) → newest_keys tag keys (filter (λ q. not (same_tag q.tag other)) pending)
    ≡ newest_keys tag keys pending)
    → newest_keys tag keys (cond (not b) (q ∷ filter (λ q. not (same_tag q.tag other)) pending)
    (filter (λ q. not (same_tag q.tag other)) pending)) ≡ newest_keys tag keys (q ∷ pending)
left_case tag other keys q pending true is apart more = more keys ∙ ap (λ b.
    newest_keys tag (cond b q.keys keys) pending) (sym (apart_tag q.tag tag other is apart))
left_case tag other keys q pending false is apart more =
    more (cond (same_tag q.tag tag) q.keys keys)

pub keys_left : (tag other : Tag) (keys : List Place) (pending : List Pending)
    → same_tag tag other ≡ false → newest_keys tag keys (filter (λ q. not (same_tag q.tag other))
    pending) ≡ newest_keys tag keys pending
keys_left tag other keys [] apart = refl
keys_left tag other keys (q ∷ pending) apart = left_case tag other keys q pending (same_tag q.tag
    other) refl apart (λ keys. keys_left tag other keys pending apart)

-- A session that has nothing live.

nothing_case : {A : Type 0} (lsid : Lsid) (entry : Lsid × A) (entries : BySession A) (o : Ordering)
    → lsid_cmp lsid entry.0 ≡ o
    → entry_of lsid (entry ∷ entries) ≡ None
    → (entry_of lsid entries ≡ None → taken_out lsid_cmp lsid entries ≡ entries)
    → elim o [
      | Less ↦ entry ∷ entries
      | Equal ↦ entries
      | Greater ↦ entry ∷ taken_out lsid_cmp lsid entries
    ] ≡ entry ∷ entries
nothing_case lsid entry entries Less is none more = refl
nothing_case {A} lsid entry entries Equal is none more =
    let same : same_lsid lsid entry.0 ≡ true = rw is refl in
    let there : entry_of lsid (entry ∷ entries) ≡ Some entry.1 =
    ap (λ b. option_map (λ (entry : Lsid × A). entry.1)
    (cond b (Some entry) (find (λ (entry : Lsid × A). same_lsid lsid entry.0) entries))) same in
    let wrong : None ≡ Some entry.1 = sym none ∙ there in
    cc
nothing_case {A} lsid entry entries Greater is none more =
    let other : same_lsid lsid entry.0 ≡ false = rw is refl in
    let past : entry_of lsid (entry ∷ entries) ≡ entry_of lsid entries =
    ap (λ b. option_map (λ (entry : Lsid × A). entry.1) (cond b (Some entry)
    (find (λ (entry : Lsid × A). same_lsid lsid entry.0) entries))) other in
    ap (λ (rest : BySession A). entry ∷ rest) (more (sym past ∙ none))

pub nothing_taken : {A : Type 0} (lsid : Lsid) (entries : BySession A)
    → entry_of lsid entries ≡ None → taken_out lsid_cmp lsid entries ≡ entries
nothing_taken lsid [] none = refl
nothing_taken lsid (entry ∷ entries) none =
    nothing_case lsid entry entries (lsid_cmp lsid entry.0) refl none (nothing_taken lsid entries)
