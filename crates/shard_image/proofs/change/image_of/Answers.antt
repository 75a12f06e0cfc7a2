use Rattle.std.proofs.Common.{◌≡◌, ◌<◌, ◌+◌, ◌∷◌, ℕ, List, length, drop, drop-cons, suc, sym, ap}
use Rattle.std.proofs.Common.{subst, ◌∙◌, arith}
use Rattle.journal_rec.specs.Follows.{first_refused, first_refused_from}
use Rattle.journal_rec.specs.declared.record.Rec.{Rec}
use Rattle.shard_image.specs.Image.{Image, with_records, ledger_of, image_of, empty_image}
use Rattle.shard_image.specs.Sound.{IsImage}
use Rattle.shard_image.proofs.Behind.{Comes, goes_on}
use Rattle.shard_image.proofs.Decisions.{empty_is_image}
use Rattle.shard_image.proofs.change.image_of.Goals as goal

pub loop-rec-init : goal.loop-rec-init
unfolding image_of
loop-rec-init c = record {
  sound = subst (λ (i : Image). IsImage i) (sym c.empty-image.ensures) empty_is_image;
  written = c.requires;
  image = ap (λ (i : Image). with_records i c.args.recs.now) c.empty-image.ensures;
  count = ap (λ (i : Image). i.count) c.empty-image.ensures;
  first =
      ap (λ (i : Image). first_refused_from 0 (ledger_of i) c.args.recs.now) c.empty-image.ensures;
}

pub loop-rec-preserved : goal.loop-rec-preserved
loop-rec-preserved c =
    let recs : List Rec = c.args.recs.now in
    let index : ℕ = c.loop-rec.rec-index in
    let r : Rec = c.rec-item.result in
    let inside : index < length recs = omega arith in
    let next : suc index ≡ index + 1 = omega arith in
    let left : drop index recs ≡ r ∷ drop (index + 1) recs =
    drop-cons recs index r inside ∙ ap (λ (x : Rec). x ∷ drop (suc index) recs) (sym c.rec-item.is)
    ∙ ap (λ (n : ℕ). r ∷ drop n recs) next in
    goes_on c.loop-rec.image c.apply.new.image index r (drop (index + 1) recs) (image_of recs)
    (first_refused recs)
    (subst (λ (rest : List Rec). Comes c.loop-rec.image index rest (image_of recs) (first_refused
    recs)) left c.loop-rec.invariant) c.in_ok-apply.ensures.follows c.in_ok-apply.ensures.ok
