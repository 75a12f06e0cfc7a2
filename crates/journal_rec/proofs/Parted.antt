-- A record's bytes are those in front and those after it.
use Rattle.std.proofs.Common.{◌≡◌, ◌++◌, refl, sym, append-nil}
use Rattle.journal_rec.specs.Spelling.{record_bytes, front_bytes, body_bytes}
use Rattle.journal_rec.specs.declared.record.Rec.{Rec}
use Rattle.journal_rec.specs.declared.record.Rec.TheVariants as rec

pub parted : (r : Rec) → record_bytes r ≡ front_bytes r ++ body_bytes r
parted (rec.Boot boot) = sym (append-nil (front_bytes (rec.Boot boot)))
parted (rec.Ceiling bound) = sym (append-nil (front_bytes (rec.Ceiling bound)))
parted (rec.Commit tag lsid number read_at at writes) = refl
parted (rec.Prepared tag lsid number boot read_at at coordinator writes) = refl
parted (rec.Decided d) = sym (append-nil (front_bytes (rec.Decided d)))
parted (rec.CoordStart tag lsid number parts) = refl
parted (rec.CoordDecision tag decision) =
    sym (append-nil (front_bytes (rec.CoordDecision tag decision)))
parted (rec.CoordEnd tag) = sym (append-nil (front_bytes (rec.CoordEnd tag)))
parted (rec.Floor floor) = sym (append-nil (front_bytes (rec.Floor floor)))
