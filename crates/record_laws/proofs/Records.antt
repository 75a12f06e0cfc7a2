-- What is written of a record is read as itself.
use Rattle.std.proofs.Common.{◌≡◌, ℕ, ℤ, ◌^◌, ◌<◌, List, [], ◌∷◌, ◌++◌, length, Some, Result, Ok}
use Rattle.std.proofs.Common.{refl, sym, ap, ◌∙◌, append_assoc}
use Rattle.std.specs.Prelude.{FitsSigned}
use Rattle.std.specs.Int.{Width, w16, w32, w64, to_le_bytes}
use Rattle.std.specs.List.{All}
use Rattle.std.proofs.lemmas.List.{append-nil}
use Rattle.outcomes.proofs.Binding.{ok_is}
use Rattle.bson_core.specs.Reading.{number_at}
use Rattle.txn_types.specs.declared.decision.Decision.{Decision}
use Rattle.txn_types.specs.declared.names.Tag.{Tag}
use Rattle.txn_types.specs.declared.node.Lsid.{Lsid}
use Rattle.txn_types.specs.declared.write.Write.{Write}
use Rattle.journal_rec.specs.declared.error.RecErr.{RecErr}
use Rattle.journal_rec.specs.declared.record.Decided.{Decided}
use Rattle.journal_rec.specs.declared.record.Rec.{Rec}
use Rattle.journal_rec.specs.declared.record.Rec.TheVariants as rec
use Rattle.journal_rec.specs.Reading.{Found, writes_at, preparing_at, committed_at, prepared_at}
use Rattle.journal_rec.specs.Reading.{boot_at, ceiling_at, decided_at, coord_start_at}
use Rattle.journal_rec.specs.Reading.{coord_decision_at, coord_end_at, floor_at, fields_at}
use Rattle.journal_rec.specs.Reading.{record_of, named_at, decision_at, zeros_at, parts_at}
use Rattle.journal_rec.specs.Spelling.{preparing_bytes, tag_bytes, named_bytes, decision_bytes}
use Rattle.journal_rec.specs.Spelling.{each_part_bytes, twelve_zeros, time_bytes, record_bytes}
use Rattle.journal_rec.specs.Volume.{writes_bytes}
use Rattle.record_laws.specs.Fits.{TagFits, LsidFits, DecisionFits, PartFits, WritesFit, RecordFits}
use Rattle.record_laws.proofs.Fields.{IsNumber, IsReadAs, number16_again, wide32, wide64}
use Rattle.record_laws.proofs.Fields.{zeros_again, tag_again, named_again, decision_again}
use Rattle.record_laws.proofs.Fields.{parts_again}
use Rattle.record_laws.proofs.Writes.{writes_again}

-- with nothing after it
pub alone : {A : Type 0} (read : List ℕ → Found A) (bytes : List ℕ) (x : A) → IsReadAs read bytes x
    → read bytes ≡ Ok (x, [])
alone read bytes x h = ap read (sym (append-nil bytes)) ∙ h []

number_alone : (w : Width) (bytes : List ℕ) (n : ℕ) → IsNumber w bytes n
    → number_at w bytes ≡ Some (n, [])
number_alone w bytes n h = ap (number_at w) (sym (append-nil bytes)) ∙ h []

-- a record is read, where its fields are
pub whole_again : (kind : ℕ) (bytes : List ℕ) (r : Rec)
    → ((end : ℕ) → fields_at kind end bytes ≡ Ok (r, [])) → record_of (kind ∷ bytes) ≡ Ok r
unfolding record_of
whole_again kind bytes r h = rw (h (length (kind ∷ bytes))) refl

boot_fields : (end : ℕ) (a : List ℕ) (boot : ℕ) → IsNumber w32 a boot
    → fields_at 1 end a ≡ Ok (rec.Boot boot, [])
unfolding fields_at boot_at
boot_fields end a boot h = rw (number_alone w32 a boot h) refl

pub boot_again : (boot : ℕ) → boot < 2 ^ 32
    → record_of (record_bytes (rec.Boot boot)) ≡ Ok (rec.Boot boot)
boot_again boot lt = whole_again 1 (to_le_bytes w32 boot) (rec.Boot boot) (λ end.
    boot_fields end (to_le_bytes w32 boot) boot (wide32 boot lt))

time_again : (at : ℕ) → at < 2 ^ 64 → IsNumber w64 (time_bytes at) at
unfolding time_bytes
time_again at lt = wide64 at lt

ceiling_fields : (end : ℕ) (a : List ℕ) (bound : ℕ) → IsNumber w64 a bound
    → fields_at 2 end a ≡ Ok (rec.Ceiling bound, [])
unfolding fields_at ceiling_at
ceiling_fields end a bound h = rw (number_alone w64 a bound h) refl

pub ceiling_again : (bound : ℕ) → bound < 2 ^ 64
    → record_of (record_bytes (rec.Ceiling bound)) ≡ Ok (rec.Ceiling bound)
ceiling_again bound lt = whole_again 2 (time_bytes bound) (rec.Ceiling bound) (λ end.
    ceiling_fields end (time_bytes bound) bound (time_again bound lt))

floor_fields : (end : ℕ) (a : List ℕ) (floor : ℕ) → IsNumber w64 a floor
    → fields_at 9 end a ≡ Ok (rec.Floor floor, [])
unfolding fields_at floor_at
floor_fields end a floor h = rw (number_alone w64 a floor h) refl

pub floor_again : (floor : ℕ) → floor < 2 ^ 64
    → record_of (record_bytes (rec.Floor floor)) ≡ Ok (rec.Floor floor)
floor_again floor lt = whole_again 9 (time_bytes floor) (rec.Floor floor) (λ end.
    floor_fields end (time_bytes floor) floor (time_again floor lt))

coord_end_fields : (end : ℕ) (tag : Tag) → TagFits tag
    → fields_at 8 end (tag_bytes tag) ≡ Ok (rec.CoordEnd tag, [])
unfolding fields_at coord_end_at
coord_end_fields end tag h = rw (sym (append-nil (tag_bytes tag)), tag_again tag h []) refl

pub coord_end_again : (tag : Tag) → TagFits tag
    → record_of (record_bytes (rec.CoordEnd tag)) ≡ Ok (rec.CoordEnd tag)
coord_end_again tag h =
    whole_again 8 (tag_bytes tag) (rec.CoordEnd tag) (λ end. coord_end_fields end tag h)

coord_decision_fields : (end : ℕ) (tag : Tag) (decision : Decision) → TagFits tag
    → DecisionFits decision → fields_at 7 end (tag_bytes tag ++ decision_bytes decision)
    ≡ Ok (rec.CoordDecision tag decision, [])
unfolding fields_at coord_decision_at
coord_decision_fields end tag decision h k =
    rw (
      tag_again tag h (decision_bytes decision),
      alone (decision_at end) (decision_bytes decision) decision (decision_again end decision k),
    ) refl

pub coord_decision_again : (tag : Tag) (decision : Decision) → TagFits tag
    → DecisionFits decision → record_of (record_bytes (rec.CoordDecision tag decision))
    ≡ Ok (rec.CoordDecision tag decision)
coord_decision_again tag decision h k = whole_again 7 (tag_bytes tag ++ decision_bytes decision)
    (rec.CoordDecision tag decision) (λ end. coord_decision_fields end tag decision h k)

decided_fields : (end : ℕ) (d : Decided) (named decision zeros : List ℕ)
    → IsReadAs (named_at end) named (d.tag, d.lsid, d.number)
    → IsReadAs (decision_at end) decision d.decision → zeros_at end 12 zeros ≡ Ok []
    → fields_at 5 end (named ++ decision ++ zeros) ≡ Ok (rec.Decided d, [])
unfolding fields_at decided_at
decided_fields end d named decision zeros h k z =
    rw (append_assoc named decision zeros, h (decision ++ zeros), k zeros, z) refl

pub decided_again : (d : Decided) → TagFits d.tag → LsidFits d.lsid → FitsSigned w64 d.number
    → DecisionFits d.decision → record_of (record_bytes (rec.Decided d)) ≡ Ok (rec.Decided d)
decided_again d h k l m =
    whole_again 5 (named_bytes d.tag d.lsid d.number ++ decision_bytes d.decision ++ twelve_zeros)
    (rec.Decided d)
    (λ end. decided_fields end d (named_bytes d.tag d.lsid d.number) (decision_bytes d.decision)
    twelve_zeros (named_again end d.tag d.lsid d.number h k l) (decision_again end d.decision m)
    (zeros_again end 12 twelve_zeros [] refl refl))

coord_start_fields : (end : ℕ) (tag : Tag) (lsid : Lsid) (number : ℤ) (parts : List (ℕ × ℕ))
    (named count each : List ℕ) → IsReadAs (named_at end) named (tag, lsid, number)
    → IsNumber w16 count (length parts)
    → parts_at (length parts) [] each ≡ Ok (parts, [])
    → fields_at 6 end (named ++ (count ++ each)) ≡ Ok (rec.CoordStart tag lsid number parts, [])
unfolding fields_at coord_start_at
coord_start_fields end tag lsid number parts named count each h k p =
    rw (h (count ++ each), k each, p) refl

pub coord_start_again : (tag : Tag) (lsid : Lsid) (number : ℤ) (parts : List (ℕ × ℕ)) → TagFits tag
    → LsidFits lsid → FitsSigned w64 number → length parts < 2 ^ 16 → All PartFits parts
    → record_of (record_bytes (rec.CoordStart tag lsid number parts))
    ≡ Ok (rec.CoordStart tag lsid number parts)
coord_start_again tag lsid number parts h k l few fit =
    whole_again 6 (named_bytes tag lsid number ++ (to_le_bytes w16 (length parts)
    ++ each_part_bytes parts)) (rec.CoordStart tag lsid number parts)
    (λ end. coord_start_fields end tag lsid number parts (named_bytes tag lsid number)
    (to_le_bytes w16 (length parts)) (each_part_bytes parts)
    (named_again end tag lsid number h k l) (number16_again (length parts) few)
    (ap (parts_at (length parts) []) (sym (append-nil (each_part_bytes parts)))
    ∙ parts_again parts [] [] fit))

committed_fields : (end : ℕ) (tag : Tag) (lsid : Lsid) (number : ℤ)
    (read_at at : ℕ) (writes : List Write) (named a b each : List ℕ)
    → IsReadAs (named_at end) named (tag, lsid, number) → IsNumber w64 a read_at → IsNumber w64 b at
    → IsReadAs (writes_at end) each writes → fields_at 3 end (named ++ (a ++ b) ++ each)
    ≡ Ok (rec.Commit tag lsid number read_at at writes, [])
unfolding fields_at committed_at
committed_fields end tag lsid number read_at at writes named a b each h k l w =
    rw (
      append_assoc named (a ++ b) each,
      append_assoc a b each,
      h (a ++ (b ++ each)),
      k (b ++ each),
      l each,
      alone (writes_at end) each writes w,
    ) refl

pub commit_again : (tag : Tag) (lsid : Lsid) (number : ℤ) (read_at at : ℕ) (writes : List Write)
    → TagFits tag → LsidFits lsid → FitsSigned w64 number → read_at < 2 ^ 64 → at < 2 ^ 64
    → WritesFit writes
    → record_of (record_bytes (rec.Commit tag lsid number read_at at writes))
    ≡ Ok (rec.Commit tag lsid number read_at at writes)
commit_again tag lsid number read_at at writes h k l m n w =
    whole_again 3 (named_bytes tag lsid number ++ (time_bytes read_at ++ time_bytes at)
    ++ writes_bytes writes) (rec.Commit tag lsid number read_at at writes)
    (λ end. committed_fields end tag lsid number read_at at writes (named_bytes tag lsid number)
    (time_bytes read_at) (time_bytes at) (writes_bytes writes) (named_again end tag lsid number
    h k l) (time_again read_at m) (time_again at n) (writes_again end writes w))

preparing_pieces : (boot read_at at coordinator : ℕ) (a b d e : List ℕ) → IsNumber w32 a boot
    → IsNumber w64 b read_at → IsNumber w64 d at → IsNumber w16 e coordinator
    → IsReadAs preparing_at (a ++ b ++ d ++ e) (boot, read_at, at, coordinator)
unfolding preparing_at
preparing_pieces boot read_at at coordinator a b d e h k l m rest =
    rw (
      append_assoc (a ++ b ++ d) e rest,
      append_assoc (a ++ b) d (e ++ rest),
      append_assoc a b (d ++ (e ++ rest)),
      h (b ++ (d ++ (e ++ rest))),
      k (d ++ (e ++ rest)),
      l (e ++ rest),
      m rest,
    ) refl

prepared_fields : (end : ℕ) (tag : Tag) (lsid : Lsid) (number : ℤ) (boot read_at
    at coordinator : ℕ) (writes : List Write) (named preparing each : List ℕ)
    → IsReadAs (named_at end) named (tag, lsid, number)
    → IsReadAs preparing_at preparing (boot, read_at, at, coordinator)
    → IsReadAs (writes_at end) each writes → fields_at 4 end (named ++ preparing ++ each)
    ≡ Ok (rec.Prepared tag lsid number boot read_at at coordinator writes, [])
unfolding fields_at prepared_at
prepared_fields end tag lsid number boot read_at at coordinator writes named preparing each h p w =
    rw (
      append_assoc named preparing each,
      h (preparing ++ each),
      p each,
      alone (writes_at end) each writes w,
    ) refl

pub prepared_again : (tag : Tag) (lsid : Lsid) (number : ℤ) (boot read_at at coordinator : ℕ)
    (writes : List Write) → TagFits tag → LsidFits lsid → FitsSigned w64 number → boot < 2 ^ 32
    → read_at < 2 ^ 64 → at < 2 ^ 64 → coordinator < 2 ^ 16 → WritesFit writes
    → record_of (record_bytes (rec.Prepared tag lsid number boot read_at at coordinator writes))
    ≡ Ok (rec.Prepared tag lsid number boot read_at at coordinator writes)
prepared_again tag lsid number boot read_at at coordinator writes h k l m n o p w =
    whole_again 4 (named_bytes tag lsid number ++ preparing_bytes boot read_at at coordinator
    ++ writes_bytes writes) (rec.Prepared tag lsid number boot read_at at coordinator writes)
    (λ end. prepared_fields end tag lsid number boot read_at at coordinator writes
    (named_bytes tag lsid number) (preparing_bytes boot read_at at coordinator)
    (writes_bytes writes) (named_again end tag lsid number h k l)
    (preparing_pieces boot read_at at coordinator (to_le_bytes w32 boot) (time_bytes read_at)
    (time_bytes at) (to_le_bytes w16 coordinator) (wide32 boot m) (time_again read_at n)
    (time_again at o) (number16_again coordinator p)) (writes_again end writes w))

pub record_again : (r : Rec) → RecordFits r → record_of (record_bytes r) ≡ Ok r
record_again (rec.Boot boot) h = boot_again boot h
record_again (rec.Ceiling bound) h = ceiling_again bound h
record_again (rec.Commit tag lsid number read_at at writes) h =
    commit_again tag lsid number read_at at writes h.0 h.1 h.2 h.3 h.4 h.5
record_again (rec.Prepared tag lsid number boot read_at at coordinator writes) h = prepared_again
    tag lsid number boot read_at at coordinator writes h.0 h.1 h.2 h.3 h.4 h.5 h.6 h.7
record_again (rec.Decided d) h = decided_again d h.0 h.1 h.2 h.3
record_again (rec.CoordStart tag lsid number parts) h =
    coord_start_again tag lsid number parts h.0 h.1 h.2 h.3 h.4
record_again (rec.CoordDecision tag decision) h = coord_decision_again tag decision h.0 h.1
record_again (rec.CoordEnd tag) h = coord_end_again tag h
record_again (rec.Floor floor) h = floor_again floor h

pub told_apart : (a b : Rec) → RecordFits a → RecordFits b → record_bytes a ≡ record_bytes b → a ≡ b
told_apart a b h k e = ok_is a b (sym (record_again a h) ∙ ap record_of e ∙ record_again b k)
