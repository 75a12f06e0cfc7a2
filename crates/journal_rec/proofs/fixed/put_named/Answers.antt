use Rattle.std.proofs.Common.{take, refl, ap, ◌∙◌, w64}
use Rattle.std.proofs.lemmas.Int.{to_z-of_z}
use Rattle.journal_rec.specs.Spelling.{tag_bytes, lsid_bytes, number_bytes}
use Rattle.journal_rec.proofs.Fronts.{three_put}
use Rattle.journal_rec.proofs.fixed.put_named.Goals as goal

pub returns-clause-front : goal.returns-clause-front
unfolding number_bytes
returns-clause-front c =
    let tag = tag_bytes c.args.tag in
    let lsid = lsid_bytes c.args.lsid.now in
    three_put (take c.args.at c.args.out.now) _ _ _ tag lsid c.to_le_bytes.result tag lsid
    (number_bytes c.args.number)
    c.put_tag-session.ensures.front c.put_lsid-digits.ensures.front c.put.ensures.front refl refl
    (c.to_le_bytes.ensures ∙ ap number_bytes (to_z-of_z w64 c.args.number c.ranges.number))
