-- What the tests of a record find, and what a record that can follow may rely on.
use Rattle.std.proofs.Common.{◌≡◌, ◌≤◌, ◌<◌, ◌&&◌, ℕ, ℤ, Bool, true, false, not, cond, List, []}
use Rattle.std.proofs.Common.{◌∷◌, map, filter, find, length, nat_eq, nat_lt, nat_le, int_lt}
use Rattle.std.proofs.Common.{Option, Some, None, is_some, is_none, option_map, Result, Ok, Err}
use Rattle.std.proofs.Common.{MatchOption, IsSome, IsSomeAnd, if◌then◌else◌, refl, ap, sym, subst}
use Rattle.std.proofs.Common.{◌∙◌, arith}
use Rattle.std.specs.List.{list_any, list_all, AllByRecursion}
use Rattle.txn_types.specs.BySession.{BySession, entry_of}
use Rattle.txn_types.specs.Order.{same_tag, same_lsid}
use Rattle.txn_types.specs.declared.decision.Decision.{Decision}
use Rattle.txn_types.specs.declared.names.Tag.{Tag}
use Rattle.txn_types.specs.declared.node.Lsid.{Lsid}
use Rattle.txn_types.specs.declared.write.Write.{Write}
use Rattle.txn_semantics.specs.Keyed.{Rises}
use Rattle.txn_semantics.specs.Writes.{place_of, place_cmp, placed}
use Rattle.session_table.specs.Sessions.{session_of, is_full}
use Rattle.session_table.specs.declared.session.Session.{Session}
use Rattle.version_store.specs.Versions.{Versions, against, versions_of, with_writes, dropped}
use Rattle.version_store.specs.Versions.{keys_of}
use Rattle.version_store.specs.TakenBack.{AreFree}
use Rattle.version_store.specs.declared.version.Pending.{Pending}
use Rattle.version_store.proofs.TakenBack.{free_without_conflict}
use Rattle.journal_rec.specs.Follows as journal
use Rattle.journal_rec.specs.Follows.{Ledger, Standing, can_follow, can_follow_boot, can_go_on}
use Rattle.journal_rec.specs.Follows.{can_begin, most_sessions, standing_of, coordination_of}
use Rattle.journal_rec.specs.declared.record.Decided.{Decided}
use Rattle.journal_rec.specs.declared.record.Rec.{Rec}
use Rattle.journal_rec.specs.declared.record.Rec.TheVariants as rec
use Rattle.coordinator.specs.TwoPhase.{Coordinated, coordinated_of}
use Rattle.coordinator.specs.declared.plan.CoordErr.{CoordErr}
use Rattle.coordinator.specs.declared.plan.CoordErr.TheVariants.{Unknown}
use Rattle.shard_image.specs.Image.{Image, ledger_of, standing_by}
use Rattle.shard_image.specs.Sound.{pending_of, IsImage}
use Rattle.shard_image.proofs.Found.{both_true, find_mapped, any_mapped}
use Rattle.shard_image.proofs.Stores.{own_keys, nothing_own}
use Rattle.shard_image.proofs.Freed.{can_writes, length_mapped}
use Rattle.shard_image.proofs.Lookups.{free_is, no_conflict, taken_back}
use Rattle.shard_image.proofs.Decisions.{can_decide, coordination_is, entry_valued}

-- The session's number.

below_case : {A : Type 0} (lsid : Lsid) (entry : Lsid × A) (entries : BySession A) (b : Bool)
    → is_some (option_map (λ (entry : Lsid × A). entry.1)
    (cond b (Some entry) (find (λ entry. same_lsid lsid entry.0) entries))) ≡ true
    → (is_some (entry_of lsid entries) ≡ true
    → length (filter (λ entry. not (same_lsid lsid entry.0)) entries) < length entries)
    → length (filter (λ entry. not (same_lsid lsid entry.0)) entries) ≤ length entries
    → length (cond (not b) (entry ∷ filter (λ entry. not (same_lsid lsid entry.0)) entries)
    (filter (λ entry. not (same_lsid lsid entry.0)) entries)) < length (entry ∷ entries)
below_case lsid entry entries true h more le = omega arith
below_case lsid entry entries false h more le = let lt = more h in omega arith

filter_case : {A : Type 0} (p : A → Bool) (x : A) (xs : List A) (b : Bool) → length (filter p xs)
    ≤ length xs → length (cond b (x ∷ filter p xs) (filter p xs)) ≤ length (x ∷ xs)
filter_case p x xs true h = omega arith
filter_case p x xs false h = omega arith

filter_shorter : {A : Type 0} (p : A → Bool) (xs : List A) → length (filter p xs) ≤ length xs
filter_shorter p [] = omega arith
filter_shorter p (x ∷ xs) = filter_case p x xs (p x) (filter_shorter p xs)

-- the others are fewer where the session is there, and all where it isn't
others_below : {A : Type 0} (lsid : Lsid) (entries : BySession A) → is_some (entry_of lsid entries)
    ≡ true → length (filter (λ entry. not (same_lsid lsid entry.0)) entries) < length entries
others_below lsid [] h = cc
others_below lsid (entry ∷ entries) h = below_case lsid entry entries (same_lsid lsid entry.0) h
    (others_below lsid entries) (filter_shorter _ entries)

all_case : {A : Type 0} (lsid : Lsid) (entry : Lsid × A) (entries : BySession A) (b : Bool)
    → option_map (λ (entry : Lsid × A). entry.1) (cond b (Some entry)
    (find (λ entry. same_lsid lsid entry.0) entries)) ≡ None
    → (entry_of lsid entries ≡ None
    → length (filter (λ entry. not (same_lsid lsid entry.0)) entries) ≡ length entries)
    → length (cond (not b) (entry ∷ filter (λ entry. not (same_lsid lsid entry.0)) entries)
    (filter (λ entry. not (same_lsid lsid entry.0)) entries)) ≡ length (entry ∷ entries)
all_case lsid entry entries true h more = cc
all_case lsid entry entries false h more = let e = more h in omega (arith, e)

all_others : {A : Type 0} (lsid : Lsid) (entries : BySession A) → entry_of lsid entries ≡ None
    → length (filter (λ entry. not (same_lsid lsid entry.0)) entries) ≡ length entries
all_others lsid [] h = refl
all_others lsid (entry ∷ entries) h =
    all_case lsid entry entries (same_lsid lsid entry.0) h (all_others lsid entries)

below_is : (a b : ℕ) → a < b → nat_lt a b ≡ true
below_is a b h = grind arith

not_most : (limit n : ℕ) → nat_lt n limit ≡ not (nat_le limit n)
not_most limit n = grind arith

and_true : (b c : Bool) → c ≡ true → (b && c) ≡ b
and_true true c h = h
and_true false c h = refl

pub number_there : (i : Image) (h : IsImage i) (lsid : Lsid) (number : ℤ) (s : Session)
    → session_of i.sessions lsid ≡ Some s
    → journal.is_next_number (ledger_of i) lsid number ≡ int_lt s.number number
number_there i h lsid number s is =
    let others = others_below lsid i.sessions.entries (ap is_some is) in
    let fewer : nat_lt (length (filter (λ entry. not (same_lsid lsid entry.0))
    (ledger_of i).numbers)) most_sessions ≡ true =
    ap (λ (n : ℕ). nat_lt n most_sessions) (length_mapped (λ (entry : Lsid × ℤ).
    not (same_lsid lsid entry.0)) (λ entry. (entry.0, entry.1.number)) i.sessions.entries)
    ∙ below_is _ most_sessions (omega (arith, others, h.most)) in
    let found : entry_of lsid (ledger_of i).numbers ≡ Some s.number = entry_valued (λ (s : Session).
    s.number) lsid i.sessions.entries ∙ ap (option_map (λ (s : Session). s.number)) is in
    ap (λ (o : Option ℤ). journal.rises number o && nat_lt (length
    (filter (λ entry. not (same_lsid lsid entry.0)) (ledger_of i).numbers)) most_sessions) found
    ∙ and_true (int_lt s.number number) _ fewer

pub number_new : (i : Image) (h : IsImage i) (lsid : Lsid) (number : ℤ) → session_of i.sessions lsid
    ≡ None → journal.is_next_number (ledger_of i) lsid number ≡ not (is_full i.sessions)
number_new i h lsid number is =
    let found : entry_of lsid (ledger_of i).numbers ≡ None = entry_valued (λ (s : Session).
    s.number) lsid i.sessions.entries ∙ ap (option_map (λ (s : Session). s.number)) is in
    ap (λ (o : Option ℤ). journal.rises number o && nat_lt (length
    (filter (λ entry. not (same_lsid lsid entry.0)) (ledger_of i).numbers)) most_sessions) found
    ∙ ap (λ (n : ℕ). nat_lt n most_sessions)
    (length_mapped (λ (entry : Lsid × ℤ). not (same_lsid lsid entry.0)) (λ entry.
    (entry.0, entry.1.number)) i.sessions.entries ∙ all_others lsid i.sessions.entries is)
    ∙ not_most most_sessions (length i.sessions.entries)
    ∙ ap (λ (limit : ℕ). not (nat_le limit (length i.sessions.entries))) (sym h.limit)

-- What is coordinated.

pub found_decided : (i : Image) (tag : Tag) (o : Option Coordinated) (d : Option Decision)
    → coordinated_of i.coord tag ≡ o
    → MatchOption o (◌≡◌ {A = Result (Option Decision) CoordErr} (Ok d) (Err Unknown)) (λ c.
    ◌≡◌ {A = Result (Option Decision) CoordErr} (Ok d) (Ok c.decision))
    → coordination_of (ledger_of i) tag ≡ Some d
found_decided i tag None d is h = cc
found_decided i tag (Some c) d is h = let e : d ≡ c.decision = cc in
    coordination_is i tag ∙ ap (option_map (λ (c : Coordinated). c.decision)) is
    ∙ ap (λ (d : Option Decision). Some d) (sym e)

pub found_nothing : (i : Image) (tag : Tag) (o : Option Coordinated) (e : CoordErr)
    → coordinated_of i.coord tag ≡ o
    → MatchOption o (◌≡◌ {A = Result (Option Decision) CoordErr} (Err e) (Err Unknown)) (λ c.
    ◌≡◌ {A = Result (Option Decision) CoordErr} (Err e) (Ok c.decision))
    → coordination_of (ledger_of i) tag ≡ None
found_nothing i tag None e is h = coordination_is i tag
    ∙ ap (option_map (λ (c : Coordinated). c.decision)) is
found_nothing i tag (Some c) e is h = cc

-- A transaction that may write.

none_mapped : {A B : Type 0} (f : A → B) (o : Option A) → is_none (option_map f o) ≡ is_none o
none_mapped f None = refl
none_mapped f (Some a) = refl

pub undisturbed_is : (i : Image) (lsid : Lsid) (tag : Tag) → journal.is_undisturbed (ledger_of i)
    lsid tag ≡ (not (list_any (λ (q : Pending). same_lsid q.lsid lsid) i.pending)
    && is_none (pending_of i.pending tag))
undisturbed_is i lsid tag =
    ap (λ (b : Bool). not b && is_none (standing_of (ledger_of i) tag))
    (any_mapped (λ (s : Standing). same_lsid s.lsid lsid) (standing_by i.sessions) i.pending)
    ∙ ap (λ (b : Bool). not (list_any (λ (q : Pending). same_lsid q.lsid lsid) i.pending) && b)
    (ap is_none (find_mapped (λ (s : Standing). same_tag s.tag tag) (standing_by i.sessions)
    i.pending) ∙ none_mapped (standing_by i.sessions) (pending_of i.pending tag))

all_same : {A : Type 0} (p q : A → Bool) → ((x : A) → p x ≡ q x) → (xs : List A)
    → list_all p xs ≡ list_all q xs
all_same p q same [] = refl
all_same p q same (x ∷ xs) = rw (same x) (ap (λ (b : Bool). q x && b) (all_same p q same xs))

none_of_none : {A : Type 0} (o : Option A) → is_none o ≡ true → o ≡ None
none_of_none None h = refl
none_of_none (Some a) h = cc

and_when : (b c d : Bool) → (b ≡ true → c ≡ d) → (b && c) ≡ (b && d)
and_when true c d h = h refl
and_when false c d h = refl

pub can_write_is : (i : Image) (h : IsImage i) (tag : Tag) (lsid : Lsid) (number : ℤ)
    (read_at at : ℕ) (writes : List Write)
    → journal.can_write (ledger_of i) tag lsid number read_at at writes
    ≡ (journal.is_next_time (ledger_of i) read_at at && journal.is_next_number (ledger_of i)
    lsid number && journal.is_undisturbed (ledger_of i) lsid tag && list_all
    (λ write. is_none (against read_at tag (versions_of i.store (place_of write)))) writes)
can_write_is i h tag lsid number read_at at writes =
    and_when (journal.is_next_time (ledger_of i) read_at at && journal.is_next_number (ledger_of i)
    lsid number && journal.is_undisturbed (ledger_of i) lsid tag) _ _
    (λ is.
    let undisturbed =
    both_true (journal.is_next_time (ledger_of i) read_at at && journal.is_next_number
    (ledger_of i) lsid number) (journal.is_undisturbed (ledger_of i) lsid tag) is in
    let none = both_true _ _ (sym (undisturbed_is i lsid tag) ∙ undisturbed.1) in
    all_same (λ write. journal.is_free (ledger_of i) read_at (place_of write))
    (λ write. is_none (against read_at tag (versions_of i.store (place_of write))))
    (λ write. free_is i h tag read_at (place_of write)
    (none_of_none (pending_of i.pending tag) none.1)) writes)

-- the prepared transaction of a tag, as it is counted
pub standing_is : (i : Image) (tag : Tag)
    → standing_of (ledger_of i) tag ≡ option_map (standing_by i.sessions) (pending_of i.pending tag)
standing_is i tag =
    find_mapped (λ (s : Standing). same_tag s.tag tag) (standing_by i.sessions) i.pending

-- A record that is no boot's follows others.

begun_case : (i : Image) (r : Rec) (b : Bool) → can_follow_boot (ledger_of i) (if b then None
    else Some i.boot) r ≡ true → can_begin r ≡ false → can_go_on (ledger_of i) i.boot r ≡ true
begun_case i r true can first = cc
begun_case i r false can first = can

pub begun : (i : Image) (r : Rec) → can_follow (ledger_of i) r ≡ true → can_begin r ≡ false
    → can_go_on (ledger_of i) i.boot r ≡ true
begun i r can first = begun_case i r (nat_eq i.count 0) can first

-- its writes can be laid, and taken back
pub record Lays (store : Versions) (tag : Tag) (writes : List Write) : Type 0 where
  pub free : AreFree tag store writes
  pub keys : keys_of tag (with_writes tag store writes) ≡ map place_of writes
  pub back : dropped tag (with_writes tag store writes) ≡ store

each_free : (i : Image) (h : IsImage i) (tag : Tag) (read_at : ℕ) (writes : List Write)
    → pending_of i.pending tag ≡ None
    → AllByRecursion (λ write. journal.is_free (ledger_of i) read_at (place_of write) ≡ true) writes
    → AllByRecursion (λ write. is_none (against read_at tag (versions_of i.store (place_of write)))
    ≡ true) writes
each_free i h tag read_at [] new all = tt
each_free i h tag read_at (write ∷ writes) new all = (
  sym (free_is i h tag read_at (place_of write) new) ∙ all.0,
  each_free i h tag read_at writes new all.1,
)

pub lays : (i : Image) (h : IsImage i) (tag : Tag) (lsid : Lsid) (number : ℤ)
    (read_at at : ℕ) (writes : List Write) → Rises place_cmp (map placed writes)
    → journal.can_write (ledger_of i) tag lsid number read_at at writes ≡ true
    → Lays i.store tag writes
lays i h tag lsid number read_at at writes rising can =
    let w = can_writes i tag lsid number read_at at writes can in
    record {
      free = free_without_conflict tag read_at i.store writes (no_conflict i.store read_at tag
          writes (each_free i h tag read_at writes w.new w.free));
      keys = own_keys tag writes i.store h.rises rising (nothing_own tag i.pending i.sessions
          i.store w.new h.keys);
      back = taken_back tag i.pending i.sessions writes i.store h.rises w.new h.keys;
    }

-- a decision finds its transaction and its session
pub record Finds (i : Image) (d : Decided) : Type 0 where
  pub pending : IsSomeAnd (pending_of i.pending d.tag) (λ q. q.keys ≡ keys_of d.tag i.store)
  pub session : IsSome (session_of i.sessions d.lsid)

pub finds : (i : Image) (h : IsImage i) (d : Decided)
    → can_follow (ledger_of i) (rec.Decided d) ≡ true → Finds i d
finds i h d can =
    let e = can_decide i h d (begun i (rec.Decided d) can refl) in
    let keys : e.q.keys ≡ keys_of d.tag i.store =
    sym (subst (λ (t : Tag). keys_of t i.store ≡ e.q.keys) e.tag e.pends.keys) in
    let session : session_of i.sessions d.lsid ≡ Some e.s = ap (session_of i.sessions) (sym e.lsid)
    ∙ e.pends.session in
    record { pending = rw e.is keys; session = rw session refl }

new_case : (o : Option Coordinated)
    → is_none (option_map (λ (c : Coordinated). c.decision) o) ≡ true → o ≡ None
new_case None h = refl
new_case (Some c) h = cc

pub new_coordination : (i : Image) (tag : Tag) (lsid : Lsid) (number : ℤ) (parts : List (ℕ × ℕ))
    → can_follow (ledger_of i) (rec.CoordStart tag lsid number parts) ≡ true
    → coordinated_of i.coord tag ≡ None
new_coordination i tag lsid number parts can =
    new_case (coordinated_of i.coord tag) (ap is_none (sym (coordination_is i tag))
    ∙ begun i (rec.CoordStart tag lsid number parts) can refl)

undecided_case : (o : Option Coordinated)
    → journal.is_undecided (option_map (λ (c : Coordinated). c.decision) o) ≡ true
    → IsSomeAnd o (λ c. c.decision ≡ None)
undecided_case None h = cc
undecided_case (Some c) h = none_of_none c.decision h

pub undecided_there : (i : Image) (tag : Tag) (d : Decision)
    → can_follow (ledger_of i) (rec.CoordDecision tag d) ≡ true
    → IsSomeAnd (coordinated_of i.coord tag) (λ c. c.decision ≡ None)
undecided_there i tag d can =
    let e = both_true (journal.is_below_ceiling (ledger_of i) d) _ (begun i
    (rec.CoordDecision tag d) can refl) in
    undecided_case (coordinated_of i.coord tag)
    (ap journal.is_undecided (sym (coordination_is i tag)) ∙ e.1)
