-- Tags and sessions that are the same, or aren't.
use Rattle.std.proofs.Common.{◌≡◌, true}
use Rattle.std.proofs.lemmas.Cmp.{eq_by_cmp_equiv}
use Rattle.std.proofs.lemmas.Map.Views.{tells_apart}
use Rattle.txn_types.specs.Order.{same_tag, same_lsid}
use Rattle.txn_types.specs.declared.names.Tag.{Tag}
use Rattle.txn_types.specs.declared.node.Lsid.{Lsid}
use Rattle.txn_types.proofs.Orders.{tag_total, tag_exact, lsid_total, lsid_exact}

pub tag_self : (tag : Tag) → same_tag tag tag ≡ true
tag_self = (eq_by_cmp_equiv tag_total).refl

pub tag_same : (a b : Tag) → same_tag a b ≡ true → a ≡ b
tag_same = tells_apart tag_exact

pub lsid_self : (lsid : Lsid) → same_lsid lsid lsid ≡ true
lsid_self = (eq_by_cmp_equiv lsid_total).refl

pub lsid_same : (a b : Lsid) → same_lsid a b ≡ true → a ≡ b
lsid_same = tells_apart lsid_exact

-- the other way round
pub tag_flip : (a b : Tag) → same_tag a b ≡ same_tag b a
tag_flip = (eq_by_cmp_equiv tag_total).symm

pub lsid_flip : (a b : Lsid) → same_lsid a b ≡ same_lsid b a
lsid_flip = (eq_by_cmp_equiv lsid_total).symm
