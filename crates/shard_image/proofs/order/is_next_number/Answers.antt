use Rattle.std.proofs.Common.{◌≡◌, not, sym, subst, ap, ◌∙◌}
use Rattle.std.specs.Option.{option_copied}
use Rattle.session_table.specs.Sessions.{Table, session_of, is_full}
use Rattle.shard_image.specs.Image.{Image}
use Rattle.shard_image.specs.Sound.{IsImage}
use Rattle.shard_image.proofs.Asked.{number_there, number_new}
use Rattle.shard_image.proofs.order.is_next_number.Goals as goal

pub returns-in-Some : goal.returns-in-Some
returns-in-Some c =
    let sound : IsImage c.args.image.now =
    subst (λ (i : Image). IsImage i) c.image.view_is c.image.invariant in
    let sessions : c.image.inside.sessions ≡ c.args.image.now.sessions =
    ap (λ (i : Image). i.sessions) c.image.view_is in
    c.is_newer.ensures
    ∙ sym (number_there c.args.image.now sound c.args.lsid.now c.args.number.now
    c.in-Some.session.now
    (ap (λ (t : Table). session_of t c.args.lsid.now) (sym sessions) ∙ sym c.find.ensures
    ∙ ap option_copied c.in-Some.is))

pub returns-in-None : goal.returns-in-None
returns-in-None c =
    let sound : IsImage c.args.image.now =
    subst (λ (i : Image). IsImage i) c.image.view_is c.image.invariant in
    let sessions : c.image.inside.sessions ≡ c.args.image.now.sessions =
    ap (λ (i : Image). i.sessions) c.image.view_is in
    ap not (c.is_full.ensures ∙ ap is_full sessions)
    ∙ sym (number_new c.args.image.now sound c.args.lsid.now c.args.number.now
    (ap (λ (t : Table). session_of t c.args.lsid.now) (sym sessions) ∙ sym c.find.ensures
    ∙ ap option_copied c.in-None.is))
