-- What holds of each state of records, and a shard's state that its records hold, both ways.
use Rattle.std.proofs.Common.{◌≡◌, ◌++◌, Bool, true, false, cond, List, [], ◌∷◌, find, filter}
use Rattle.std.proofs.Common.{Option, Some, None, All, option_map, option_and_then, refl, ap, subst}
use Rattle.std.proofs.Common.{◌∙◌, sym, if◌then◌else◌}
use Rattle.std.proofs.lemmas.List.Elements.{All-nil, All-cons, All-head, All-tail}
use Rattle.txn_types.specs.BySession.{BySession, entry_of}
use Rattle.txn_types.specs.Order.{same_lsid, tag_cmp}
use Rattle.txn_types.specs.declared.decision.Decision.{Decision}
use Rattle.txn_types.specs.declared.names.Tag.{Tag}
use Rattle.txn_types.specs.declared.node.Lsid.{Lsid}
use Rattle.txn_semantics.specs.Keyed.{Rises}
use Rattle.session_table.specs.Sessions.{Table, session_of, with_session, state_behind}
use Rattle.session_table.specs.declared.session.Session.{Session}
use Rattle.session_table.specs.declared.session.SessionState.TheVariants as state
use Rattle.journal_rec.specs.declared.record.Rec.{Rec}
use Rattle.journal_rec.specs.declared.record.Rec.TheVariants as rec
use Rattle.coordinator.specs.TwoPhase.{Coordinations, Coordinated, coordinated_of, undecided}
use Rattle.coordinator.specs.TwoPhase.{with_decision}
use Rattle.participant.proofs.Ends.{entry_elsewhere}
use Rattle.participant.proofs.Moving.{entry_here}
use Rattle.participant.proofs.Tags.{lsid_self, lsid_same}
use Rattle.part_laws.specs.Each.{Each}
use Rattle.part_laws.proofs.Chains.{each_weaker}
use Rattle.shard_image.specs.Image.{Image, empty_image, with_record, with_records, image_of}
use Rattle.shard_image.specs.Image.{decided_if}
use Rattle.durable_laws.specs.Backed.{AreApart}
use Rattle.durable_laws.proofs.Closing.{apart_with}
use Rattle.durable_laws.proofs.Coordinated.{rises_with, rises_out}
use Rattle.durable_laws.proofs.Ends.{behind_never}

-- no session stands twice, none is live, and what is coordinated stands by tag
pub record IsFine (i : Image) : Type 0 where
  pub apart : AreApart i.sessions.entries
  pub never : (lsid : Lsid) (recorded : Session) → session_of i.sessions lsid ≡ Some recorded
      → recorded.state ≡ state.Live → ⊥
  pub rises : Rises tag_cmp i.coord

abbrev NoneLive : Table → Type 0
NoneLive table = (lsid : Lsid) (recorded : Session) → session_of table lsid ≡ Some recorded
    → recorded.state ≡ state.Live → ⊥

never_case : (table : Table) (lsid : Lsid) (new : Session) (x : Lsid) (recorded : Session)
    (b : Bool) → same_lsid x lsid ≡ b → NoneLive table → (new.state ≡ state.Live → ⊥)
    → session_of (with_session table lsid new) x ≡ Some recorded → recorded.state ≡ state.Live → ⊥
never_case table lsid new x recorded true is never not_it has live =
    let both : Some new ≡ Some recorded = sym (entry_here lsid new table.entries)
    ∙ ap (session_of (with_session table lsid new)) (sym (lsid_same x lsid is)) ∙ has in
    let one : new ≡ recorded = cc in
    not_it (ap (λ (z : Session). z.state) one ∙ live)
never_case table lsid new x recorded false is never not_it has live =
    never x recorded (sym (entry_elsewhere x lsid is new table.entries) ∙ has) live

never_with : (table : Table) (lsid : Lsid) (new : Session) → NoneLive table
    → (new.state ≡ state.Live → ⊥) → NoneLive (with_session table lsid new)
never_with table lsid new never not_it x recorded has live =
    never_case table lsid new x recorded (same_lsid x lsid) refl never not_it has live

rises_decided : (tag : Tag) (d : Decision) (coords : Coordinations) (o : Option Coordinated)
    → Rises tag_cmp coords → Rises tag_cmp (decided_if coords tag d o)
rises_decided tag d coords None r = r
rises_decided tag d coords (Some c) r = rises_with tag (with_decision (Some d) c) coords r

pub fine_record : (i : Image) (r : Rec) → IsFine i → IsFine (with_record i r)
fine_record i (rec.Boot boot) f = record { apart = f.apart; never = f.never; rises = f.rises }
fine_record i (rec.Ceiling bound) f = record { apart = f.apart; never = f.never; rises = f.rises }
fine_record i (rec.Commit tag lsid number read_at at writes) f =
    let new : Session = record { number = number; tag = tag; state = state.Committed at } in
    record {
      apart = apart_with lsid new i.sessions.entries f.apart;
      never = never_with i.sessions lsid new f.never (λ h. cc);
      rises = f.rises;
    }
fine_record i (rec.Prepared tag lsid number boot read_at at coordinator writes) f =
    let new : Session =
    record { number = number; tag = tag; state = state.Prepared at coordinator } in
    record {
      apart = apart_with lsid new i.sessions.entries f.apart;
      never = never_with i.sessions lsid new f.never (λ h. cc);
      rises = f.rises;
    }
fine_record i (rec.Decided d) f =
    let new : Session =
    record { number = d.number; tag = d.tag; state = state_behind d.decision } in
    record {
      apart = apart_with d.lsid new i.sessions.entries f.apart;
      never = never_with i.sessions d.lsid new f.never (behind_never d.decision);
      rises = f.rises;
    }
fine_record i (rec.CoordStart tag lsid number parts) f =
    record {
      apart = f.apart;
      never = f.never;
      rises = rises_with tag (undecided (record { lsid = lsid; number = number; parts = parts }))
          i.coord f.rises;
    }
fine_record i (rec.CoordDecision tag d) f = record {
  apart = f.apart;
  never = f.never;
  rises = rises_decided tag d i.coord (coordinated_of i.coord tag) f.rises;
}
fine_record i (rec.CoordEnd tag) f =
    record { apart = f.apart; never = f.never; rises = rises_out tag i.coord f.rises }
fine_record i (rec.Floor floor) f = record { apart = f.apart; never = f.never; rises = f.rises }

fine_records : (i : Image) (recs : List Rec) → IsFine i → IsFine (with_records i recs)
fine_records i [] f = f
fine_records i (r ∷ recs) f = fine_records (with_record i r) recs (fine_record i r f)

pub image_fine : (recs : List Rec) → IsFine (image_of recs)
unfolding image_of
image_fine recs = fine_records empty_image recs
    (record { apart = tt; never = λ lsid recorded has. cc; rises = tt })

records_append : (i : Image) (xs ys : List Rec)
    → with_records i (xs ++ ys) ≡ with_records (with_records i xs) ys
records_append i [] ys = refl
records_append i (r ∷ xs) ys = records_append (with_record i r) xs ys

pub image_append : (xs ys : List Rec) → image_of (xs ++ ys) ≡ with_records (image_of xs) ys
unfolding image_of
image_append xs ys = records_append empty_image xs ys

-- Sessions of a table, by list and one by one.

entry_none : (lsid : Lsid) (entries : BySession Session)
    → Each (λ other. same_lsid lsid other.0 ≡ false) entries → entry_of lsid entries ≡ None
entry_none lsid [] h = refl
entry_none lsid (entry ∷ entries) h = ap (λ b. option_map (λ (e : Lsid × Session). e.1)
    (cond b (Some entry) (find (λ (e : Lsid × Session). same_lsid lsid e.0) entries))) h.0
    ∙ entry_none lsid entries h.1

tail_case : (x : Lsid) (entry : Lsid × Session) (entries : BySession Session) (s : Session)
    (b : Bool) → same_lsid x entry.0 ≡ b → AreApart (entry ∷ entries) → entry_of x entries ≡ Some s
    → option_map (λ (e : Lsid × Session). e.1) (cond b (Some entry)
    (find (λ (e : Lsid × Session). same_lsid x e.0) entries)) ≡ Some s
tail_case x entry entries s true is apart has =
    let none : entry_of x entries ≡ None = ap (λ l. entry_of l entries) (lsid_same x entry.0 is)
    ∙ entry_none entry.0 entries apart.0 in
    let wrong : None ≡ Some s = sym none ∙ has in cc
tail_case x entry entries s false is apart has = has

pub each_session : (P : Lsid → Session → Type 0) (entries : BySession Session) → AreApart entries
    → ((lsid : Lsid) (s : Session) → entry_of lsid entries ≡ Some s → P lsid s)
    → All (λ (entry : Lsid × Session). P entry.0 entry.1) entries
each_session P [] apart h = All-nil (λ (entry : Lsid × Session). P entry.0 entry.1)
each_session P (entry ∷ entries) apart h =
    All-cons (λ (entry : Lsid × Session). P entry.0 entry.1) entry entries
    (h entry.0 entry.1 (ap (λ b. option_map (λ (e : Lsid × Session). e.1) (cond b (Some entry)
    (find (λ (e : Lsid × Session). same_lsid entry.0 e.0) entries))) (lsid_self entry.0)))
    (each_session P entries apart.1 (λ lsid s has.
    h lsid s (tail_case lsid entry entries s (same_lsid lsid entry.0) refl apart has)))

-- each is found
pub each_found : (entries : BySession Session) → AreApart entries
    → Each (λ (entry : Lsid × Session). entry_of entry.0 entries ≡ Some entry.1) entries
each_found [] apart = tt
each_found (entry ∷ entries) apart = (
  ap (λ b. option_map (λ (e : Lsid × Session). e.1) (cond b (Some entry)
      (find (λ (e : Lsid × Session). same_lsid entry.0 e.0) entries))) (lsid_self entry.0),
  each_weaker (λ (other : Lsid × Session). entry_of other.0 entries ≡ Some other.1)
      (λ (other : Lsid × Session). entry_of other.0 (entry ∷ entries) ≡ Some other.1)
      (λ other has. tail_case other.0 entry entries other.1 (same_lsid other.0 entry.0) refl apart
      has) entries (each_found entries apart.1),
)

found_case : {A : Type 0} (P : Lsid → A → Type 0) (lsid : Lsid) (s : A) (entry : Lsid
    × A) (entries : BySession A) (b : Bool) → same_lsid lsid entry.0 ≡ b → P entry.0 entry.1
    → (entry_of lsid entries ≡ Some s → P lsid s)
    → option_map (λ (e : Lsid × A). e.1) (cond b (Some entry)
    (find (λ (e : Lsid × A). same_lsid lsid e.0) entries)) ≡ Some s → P lsid s
found_case P lsid s entry entries true is here more has =
    let one : entry.1 ≡ s = cc in
    subst (λ l. P l s) (sym (lsid_same lsid entry.0 is)) (subst (P entry.0) one here)
found_case P lsid s entry entries false is here more has = more has

pub one_of_each : {A : Type 0} (P : Lsid → A → Type 0) (entries : BySession A)
    → All (λ (entry : Lsid × A). P entry.0 entry.1) entries → (lsid : Lsid) (s : A)
    → entry_of lsid entries ≡ Some s → P lsid s
one_of_each P [] all lsid s has = cc
one_of_each {A} P (entry ∷ entries) all lsid s has =
    found_case P lsid s entry entries (same_lsid lsid entry.0) refl
    (All-head (λ (entry : Lsid × A). P entry.0 entry.1) entry entries all)
    (one_of_each P entries
    (All-tail (λ (entry : Lsid × A). P entry.0 entry.1) entry entries all) lsid s) has

-- The entries that pass a test.

abbrev pub passed : (Session → Bool) → Option Session → Option Session
passed test o = option_and_then (λ s. if test s then Some s else None) o

left_case : (test : Session → Bool) (lsid : Lsid) (entry : Lsid
    × Session) (entries : BySession Session) (b c : Bool) → same_lsid lsid entry.0 ≡ b
    → test entry.1 ≡ c → AreApart (entry ∷ entries)
    → entry_of lsid (filter (λ (e : Lsid × Session). test e.1) entries)
    ≡ passed test (entry_of lsid entries)
    → entry_of lsid (cond c (entry ∷ filter (λ (e : Lsid × Session). test e.1) entries)
    (filter (λ (e : Lsid × Session). test e.1) entries))
    ≡ passed test (option_map (λ (e : Lsid × Session). e.1)
    (cond b (Some entry) (find (λ (e : Lsid × Session). same_lsid lsid e.0) entries)))
left_case test lsid entry entries true true is it apart more =
    ap (λ b. option_map (λ (e : Lsid × Session). e.1) (cond b (Some entry) (find (λ (e : Lsid
    × Session). same_lsid lsid e.0) (filter (λ (e : Lsid × Session). test e.1) entries)))) is
    ∙ ap (λ b. if b then Some entry.1 else None) (sym it)
left_case test lsid entry entries false true is it apart more =
    ap (λ b. option_map (λ (e : Lsid × Session). e.1)
    (cond b (Some entry) (find (λ (e : Lsid × Session). same_lsid lsid e.0)
    (filter (λ (e : Lsid × Session). test e.1) entries)))) is ∙ more
left_case test lsid entry entries true false is it apart more =
    let none : entry_of lsid entries ≡ None = ap (λ l. entry_of l entries) (lsid_same lsid entry.0
    is) ∙ entry_none entry.0 entries apart.0 in
    more ∙ ap (passed test) none ∙ ap (λ b. if b then Some entry.1 else None) (sym it)
left_case test lsid entry entries false false is it apart more = more

pub entry_left : (test : Session → Bool) (lsid : Lsid) (entries : BySession Session)
    → AreApart entries → entry_of lsid (filter (λ (e : Lsid × Session). test e.1) entries)
    ≡ passed test (entry_of lsid entries)
entry_left test lsid [] apart = refl
entry_left test lsid (entry ∷ entries) apart = left_case test lsid entry entries (same_lsid lsid
    entry.0) (test entry.1) refl refl apart (entry_left test lsid entries apart.1)

some_case : (test : Session → Bool) (s t : Session) (b : Bool) → test s ≡ b
    → ◌≡◌ {A = Option Session} (if b then Some s else None) (Some t) → (s ≡ t) × (test t ≡ true)
some_case test s t true it h = let one : s ≡ t = cc in (one, ap test (sym one) ∙ it)
some_case test s t false it h = cc

pub some_passed : (test : Session → Bool) (o : Option Session) (t : Session)
    → passed test o ≡ Some t → (o ≡ Some t) × (test t ≡ true)
some_passed test None t h = cc
some_passed test (Some s) t h = let both = some_case test s t (test s) refl h in
    (ap Some both.0, both.1)
