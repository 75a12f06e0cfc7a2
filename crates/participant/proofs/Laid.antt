-- What is put for a statement, and taken back where there is no memory.
use Rattle.std.proofs.Common.{◌≡◌, Bool, true, false, cond, List, [], ◌∷◌, ◌++◌, Option, Some, None}
use Rattle.std.proofs.Common.{find, option_map, refl, ap, ◌∙◌}
use Rattle.txn_types.specs.BySession.{BySession, entry_of, with_entry}
use Rattle.txn_types.specs.Order.{same_tag, same_lsid, lsid_cmp}
use Rattle.txn_types.specs.declared.names.Tag.{Tag}
use Rattle.txn_types.specs.declared.node.Lsid.{Lsid}
use Rattle.txn_types.specs.declared.write.Write.{Write}
use Rattle.txn_types.proofs.Orders.{lsid_total, lsid_exact}
use Rattle.txn_semantics.specs.Keyed.{put, taken_out, Rises}
use Rattle.txn_semantics.specs.Writes.{place_cmp}
use Rattle.session_table.specs.Sessions.{Table, session_of, with_session}
use Rattle.session_table.specs.declared.session.Session.{Session}
use Rattle.version_store.specs.Versions.{Versions, with_writes, dropped}
use Rattle.version_store.proofs.Keyed.{found}
use Rattle.participant.specs.declared.said.Open.{Open}
use Rattle.participant.specs.Stands.{without_older}
use Rattle.participant.proofs.Inserted.{taken_put}
use Rattle.participant.proofs.Tags.{tag_flip}
use Rattle.participant.proofs.Written.{dropped_with}

-- what is new comes last
append_case : {A : Type 0} (lsid : Lsid) (a : A) (entry : Lsid
    × A) (entries : BySession A) (b : Bool) → option_map (λ (entry : Lsid × A). entry.1) (cond b
    (Some entry) (find (λ (entry : Lsid × A). same_lsid lsid entry.0) entries)) ≡ None
    → (entry_of lsid entries ≡ None → with_entry lsid a entries ≡ entries ++ (lsid, a) ∷ [])
    → cond b ((lsid, a) ∷ entries) (entry ∷ with_entry lsid a entries)
    ≡ entry ∷ (entries ++ (lsid, a) ∷ [])
append_case lsid a entry entries true none more = cc
append_case {A} lsid a entry entries false none more =
    ap (λ (xs : BySession A). entry ∷ xs) (more none)

appended : {A : Type 0} (lsid : Lsid) (a : A) (entries : BySession A) → entry_of lsid entries ≡ None
    → with_entry lsid a entries ≡ entries ++ (lsid, a) ∷ []
appended lsid a [] none = refl
appended lsid a (entry ∷ entries) none =
    append_case lsid a entry entries (same_lsid lsid entry.0) none (appended lsid a entries)

same_table : (a b : Table) → a.limit ≡ b.limit → a.entries ≡ b.entries → a ≡ b
same_table a b limit entries =
    ap (λ n. let t : Table = record { limit = n; entries = a.entries } in t) limit
    ∙ ap (λ (xs : BySession Session). let t : Table =
    record { limit = b.limit; entries = xs } in t) entries

-- and is taken back
pub taken_back : (old set new : Table) (lsid : Lsid) (s : Session) → session_of old lsid ≡ None
    → set ≡ with_session old lsid s → new.limit ≡ set.limit
    → ((entries : List (Lsid × Session)) (last : Lsid × Session)
    → set.entries ≡ entries ++ last ∷ [] → new.entries ≡ entries) → new ≡ old
taken_back old set new lsid s none is limit entries =
    same_table new old (limit ∙ ap (λ (t : Table). t.limit) is) (entries old.entries (lsid, s)
    (ap (λ (t : Table). t.entries) is ∙ appended lsid s old.entries none))

-- what a new live transaction had
pub undone : (lsid : Lsid) (o : Open) (live : List (Lsid × Open)) → entry_of lsid live ≡ None
    → taken_out lsid_cmp lsid (put lsid_cmp lsid o live) ≡ live
undone lsid o live none =
    taken_put lsid_cmp lsid_total lsid_exact lsid o live (found lsid_cmp lsid live ∙ none)

-- an older transaction goes after the writes, as if it had gone before them
older_case : (tag : Tag) (o : Open) (store : Versions) (writes : List Write) (b : Bool)
    → same_tag o.tag tag ≡ b → Rises place_cmp store
    → cond b (with_writes tag store writes) (dropped o.tag (with_writes tag store writes))
    ≡ with_writes tag (cond b store (dropped o.tag store)) writes
older_case tag o store writes true is r = refl
older_case tag o store writes false is r =
    dropped_with tag o.tag store writes r (tag_flip tag o.tag ∙ is)

pub older_with : (tag : Tag) (o : Option Open) (store : Versions) (writes : List Write)
    → Rises place_cmp store → without_older tag o (with_writes tag store writes)
    ≡ with_writes tag (without_older tag o store) writes
older_with tag None store writes r = refl
older_with tag (Some o) store writes r = older_case tag o store writes (same_tag o.tag tag) refl r
