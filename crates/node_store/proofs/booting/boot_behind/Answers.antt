use Rattle.std.proofs.Common.{◌≡◌, ◌+◌, ◌++◌, [], ◌∷◌, ℕ, List, arith, sym, ap, ◌∙◌, length}
use Rattle.journal_rec.specs.declared.record.Rec.{Rec}
use Rattle.journal_rec.specs.declared.record.Rec.TheVariants as rec
use Rattle.shard_image.specs.Image.{Image, image_of, with_record}
use Rattle.shard_core.specs.NodeStep.{boot_behind}
use Rattle.node_store.proofs.Next.{image_behind, count_is}
use Rattle.node_store.proofs.booting.boot_behind.Goals as goal

pub with_boot-requires-clause-room : goal.with_boot-requires-clause-room
with_boot-requires-clause-room g c =
    let recs = g.L.RecordLog.kept c.args.log.now in
    let count : c.args.image.count ≡ length recs = ap (λ (i : Image). i.count) c.requires.image
    ∙ count_is recs in
    let same : length c.records.result.now ≡ length recs =
    ap (λ (l : List Rec). length l) c.records.ensures in
    omega (arith, count, same)

pub returns-clause-boots : goal.returns-clause-boots
returns-clause-boots g c =
    let old = g.L.RecordLog.kept c.args.log.now in
    let new = g.L.RecordLog.kept c.append_boot.new.log in
    let image_is = c.requires.image in
    let boot_is : c.args.image.boot ≡ (image_of old).boot = ap (λ (i : Image). i.boot) image_is in
    let view : c.image.inside.boot ≡ c.args.image.boot =
    ap (λ (i : Image). i.boot) c.image.view_is in
    let records : new ≡ old ++ boot_behind (image_of old) ∷ [] =
    c.in_ok-append_boot.ensures.ok.0
    ∙ ap (λ (b : ℕ). old ++ rec.Boot (b + 1) ∷ []) (view ∙ boot_is) in
    record {
      follow = c.requires.follow;
      left = omega (arith, boot_is, view, c.if-image-ge-LAST_BOOT.false);
      records = records;
      image_is =
          c.in_ok-image.ensures.ok
          ∙ ap (λ (i : Image). with_record i (boot_behind i)) image_is
          ∙ sym (image_behind old (boot_behind (image_of old)))
          ∙ ap image_of (sym records);
    }
