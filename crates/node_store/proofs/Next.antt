-- The state of one record more.
use Rattle.std.proofs.Common.{◌≡◌, ◌+◌, List, [], ◌∷◌, ◌++◌, length, refl, ◌∙◌, arith}
use Rattle.journal_rec.specs.declared.record.Rec.{Rec}
use Rattle.shard_image.specs.Image.{Image, empty_image, with_record, with_records, image_of}

push : (i : Image) (recs : List Rec) (r : Rec)
    → with_records i (recs ++ r ∷ []) ≡ with_record (with_records i recs) r
push i [] r = refl
push i (q ∷ recs) r = push (with_record i q) recs r

-- the state of one record more
pub image_behind : (recs : List Rec) (r : Rec)
    → image_of (recs ++ r ∷ []) ≡ with_record (image_of recs) r
unfolding image_of
image_behind recs r = push empty_image recs r

counts : (i : Image) (recs : List Rec) → (with_records i recs).count ≡ i.count + length recs
counts i [] = omega arith
counts i (r ∷ recs) = counts (with_record i r) recs
    ∙ (let e : i.count + 1 + length recs ≡ i.count + length (r ∷ recs) = omega arith in e)

pub count_is : (recs : List Rec) → (image_of recs).count ≡ length recs
unfolding image_of
count_is recs = counts empty_image recs ∙ (let e : 0 + length recs ≡ length recs = omega arith in e)
