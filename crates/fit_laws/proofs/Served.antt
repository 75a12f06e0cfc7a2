-- What a shard serves fits, and so do its commits, where the statements that were sent fit and what
-- its records hold.
use Rattle.std.proofs.Common.{◌≡◌, ◌++◌, ℕ, All, List, [], ◌∷◌, sym, subst}
use Rattle.std.proofs.Common.{if◌then◌else◌}
use Rattle.std.specs.Prelude.{Contains, nat_le}
use Rattle.std.specs.Ordering.{is_lt}
use Rattle.std.proofs.lemmas.List.{append-nil}
use Rattle.std.proofs.lemmas.List.Elements.{All-nil, All-append, All-head, All-tail}
use Rattle.txn_types.specs.declared.message.Envelope.{Envelope}
use Rattle.txn_types.specs.declared.message.Msg.TheVariants as msg
use Rattle.txn_types.specs.declared.message.Statement.{Statement}
use Rattle.txn_types.specs.declared.names.Tag.{Tag}
use Rattle.txn_types.specs.Letters.{Named}
use Rattle.txn_semantics.specs.declared.commits.Entry.{Entry}
use Rattle.txn_semantics.specs.Meaning.{Meaning, ns_of, writes_of}
use Rattle.txn_semantics.specs.Rows.{Row, under}
use Rattle.txn_semantics.specs.View.{view, view_from}
use Rattle.journal_rec.specs.declared.record.Rec.{Rec}
use Rattle.journal_rec.specs.declared.record.Rec.TheVariants as rec
use Rattle.participant.proofs.Cases.{either}
use Rattle.part_laws.specs.Each.{Each}
use Rattle.part_laws.specs.Sound.{Served, ServedRight, OwnsRight, written, is_of_life}
use Rattle.request_laws.specs.Fitting.{OpFits, RowFits, WriteFits}
use Rattle.request_laws.proofs.Meanings.{eval_fits, under_fits}
use Rattle.txn_model.specs.Commits.{Journals, commits, entries_behind, entry_cmp, in_order, put_entry}
use Rattle.one_shard_laws.specs.Alone.{RecAlone}
use Rattle.one_shard_laws.specs.Lasting.{AllAsked, WasAsked, commits_by}
use Rattle.fit_laws.proofs.Writes.{set_all}

-- each statement that was sent
abbrev pub StatementsFit : List Envelope → Type 0
StatementsFit sent = (e : Envelope) (m : Statement) → Contains sent e → e.msg ≡ msg.Statement m
    → OpFits m.op

-- what a commit wrote, in the list of commits and in its record
abbrev pub EntryFits : Entry → Type 0
EntryFits e = All WriteFits e.writes

abbrev pub WrittenFits : Rec → Type 0
WrittenFits (rec.Commit tag lsid number read_at at writes) = All WriteFits writes
WrittenFits other = Unit {0}

-- what a statement that was served wrote
abbrev pub MeaningFits : Served → Type 0
MeaningFits x = All WriteFits (writes_of x.meaning)

-- What is served.

view_fits : (rows : List Row) (entries : List Entry) (at : ℕ) (ns : List ℕ) → All RowFits rows
    → Each EntryFits entries → All RowFits (view_from rows entries at ns)
view_fits rows [] at ns h k = h
view_fits rows (e ∷ entries) at ns h k =
    view_fits (if nat_le e.at at then under ns rows e.writes else rows) entries at ns
    (either (nat_le e.at at) (All RowFits) (under ns rows e.writes) rows
    (under_fits ns rows e.writes h k.0) h) k.1

pub written_fits : (tag : Tag) (life : ℕ) (served : List Served) → Each MeaningFits served
    → All WriteFits (written tag life served)
written_fits tag life [] h = All-nil WriteFits
written_fits tag life (x ∷ served) h =
    All-append WriteFits (written tag life served) _ (written_fits tag life served h.1)
    (either (is_of_life tag life x) (All WriteFits) (writes_of x.meaning) [] h.0
    (All-nil WriteFits))

meaning_fits : (sent : List Envelope) (entries : List Entry) (last : ℕ) (x : Served)
    (served : List Served) → StatementsFit sent → Each EntryFits entries
    → ServedRight entries last x → All WriteFits x.own → WasAsked sent served x → MeaningFits x
meaning_fits sent entries last x served all fit right own asked =
    let op : OpFits x.op =
    subst OpFits (sym asked.4.2) (all asked.0 asked.1 asked.2 asked.3) in
    let ns = ns_of x.op in
    subst (λ (m : Meaning). All WriteFits (writes_of m)) (sym right.told)
    (eval_fits x.op (under ns (view entries x.read_at ns) x.own) op
    (under_fits ns (view entries x.read_at ns) x.own
    (view_fits [] entries x.read_at ns (All-nil RowFits) fit) own))

pub served_fits : (sent : List Envelope) (entries : List Entry) (last : ℕ) (served : List Served)
    → StatementsFit sent → Each EntryFits entries → Each (ServedRight entries last) served
    → OwnsRight served → AllAsked sent served → Each MeaningFits served
served_fits sent entries last [] all fit right own asked = tt
served_fits sent entries last (x ∷ served) all fit right own asked =
    let more = served_fits sent entries last served all fit right.1 own.1 asked.1 in
    let mine : All WriteFits x.own =
    subst (All WriteFits) (sym own.0) (set_all WriteFits (written x.tag x.life served)
    (written_fits x.tag x.life served more)) in
    (meaning_fits sent entries last x served all fit right.0 mine asked.0, more)

-- Commits.

put_fits : (e : Entry) (es : List Entry) → EntryFits e → Each EntryFits es
    → Each EntryFits (put_entry e es)
put_fits e [] h k = (h, tt)
put_fits e (f ∷ fs) h k = either (is_lt (entry_cmp e f)) (Each EntryFits) (e ∷ f ∷ fs)
    (f ∷ put_entry e fs) (h, k) (k.0, put_fits e fs h k.1)

order_fits : (sorted es : List Entry) → Each EntryFits sorted → Each EntryFits es
    → Each EntryFits (in_order sorted es)
order_fits sorted [] h k = h
order_fits sorted (e ∷ es) h k =
    order_fits (put_entry e sorted) es (put_fits e sorted k.0 h) k.1

record_case : (P : Named → Type 0) (journals : Journals) (before : List Rec) (r : Rec)
    (recs : List Rec) → RecAlone P r → WrittenFits r
    → Each EntryFits (entries_behind journals (before ++ r ∷ []) recs)
    → Each EntryFits (entries_behind journals before (r ∷ recs))
record_case P journals before (rec.Commit tag lsid number read_at at writes) recs h k more =
    (k, more)
record_case P journals before (rec.Boot boot) recs h k more = more
record_case P journals before (rec.Ceiling bound) recs h k more = more
record_case P journals before (rec.Prepared tag lsid number boot read_at at coordinator writes) recs
    h k more = absurd h
record_case P journals before (rec.Decided d) recs h k more = absurd h
record_case P journals before (rec.CoordStart tag lsid number parts) recs h k more = absurd h
record_case P journals before (rec.CoordDecision tag d) recs h k more = absurd h
record_case P journals before (rec.CoordEnd tag) recs h k more = absurd h
record_case P journals before (rec.Floor floor) recs h k more = absurd h

behind_fits : (P : Named → Type 0) (journals : Journals) (before recs : List Rec)
    → All (RecAlone P) recs → All WrittenFits recs
    → Each EntryFits (entries_behind journals before recs)
behind_fits P journals before [] h k = tt
behind_fits P journals before (r ∷ recs) h k =
    record_case P journals before r recs (All-head (RecAlone P) r recs h)
    (All-head WrittenFits r recs k)
    (behind_fits P journals (before ++ r ∷ []) recs (All-tail (RecAlone P) r recs h)
    (All-tail WrittenFits r recs k))

pub commits_fit : (P : Named → Type 0) (recs : List Rec) → All (RecAlone P) recs
    → All WrittenFits recs → Each EntryFits (commits_by recs)
unfolding commits
commits_fit P recs h k =
    order_fits [] (entries_behind (recs ∷ []) [] recs ++ []) tt
    (subst (Each EntryFits) (sym (append-nil (entries_behind (recs ∷ []) [] recs)))
    (behind_fits P (recs ∷ []) [] recs h k))
