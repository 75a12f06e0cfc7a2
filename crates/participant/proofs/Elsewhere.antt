-- No other session has a tag, live or prepared.
use Rattle.std.proofs.Common.{◌≡◌, ◌&&◌, ◌||◌, Bool, true, false, cond, not, [], ◌∷◌, Option, Some}
use Rattle.std.proofs.Common.{find, option_map, refl, ap, ◌∙◌, sym}
use Rattle.std.specs.List.{list_any}
use Rattle.txn_types.specs.BySession.{BySession, entry_of}
use Rattle.txn_types.specs.Order.{same_tag, same_lsid}
use Rattle.txn_types.specs.declared.names.Tag.{Tag}
use Rattle.txn_types.specs.declared.node.Lsid.{Lsid}
use Rattle.session_table.specs.declared.session.Session.{Session}
use Rattle.participant.specs.Part.{Part, session, elsewhere, is_open}
use Rattle.participant.proofs.Tags.{lsid_same}

or_none : (a b : Bool) → (a || b) ≡ false → (a ≡ false) × (b ≡ false)
or_none true b h = cc
or_none false b h = (refl, h)

three : (a b c : Bool) → a ≡ false → c ≡ true → (not a && b && c) ≡ false → b ≡ false
three true b c ha hc h = cc
three false b false ha hc h = cc
three false true true ha hc h = cc
three false false true ha hc h = refl

abbrev is_there : Lsid → Tag → Lsid × Session → Bool
is_there lsid tag entry =
    not (same_lsid entry.0 lsid) && same_tag entry.1.tag tag && is_open entry.1.state

one : (lsid : Lsid) (tag : Tag) (entry : Lsid × Session) (t : Session)
    → is_there lsid tag entry ≡ false → same_lsid entry.0 lsid ≡ false → entry.1 ≡ t
    → is_open t.state ≡ true → same_tag t.tag tag ≡ false
one lsid tag entry t none apart is still =
    ap (λ (x : Session). same_tag x.tag tag) (sym is)
    ∙ three (same_lsid entry.0 lsid) (same_tag entry.1.tag tag) (is_open entry.1.state) apart
    (ap (λ (x : Session). is_open x.state) is ∙ still) none

entry_case : (lsid : Lsid) (tag : Tag) (other : Lsid) (t : Session) (entry : Lsid
    × Session) (found : Option (Lsid × Session)) (b : Bool) → same_lsid other entry.0 ≡ b
    → same_lsid other lsid ≡ false → is_open t.state ≡ true
    → is_there lsid tag entry ≡ false
    → (option_map (λ (e : Lsid × Session). e.1) found ≡ Some t → same_tag t.tag tag ≡ false)
    → option_map (λ (e : Lsid × Session). e.1) (cond b (Some entry) found) ≡ Some t
    → same_tag t.tag tag ≡ false
entry_case lsid tag other t entry found true is apart still none more there =
    one lsid tag entry t none (ap (λ l. same_lsid l lsid) (sym (lsid_same other entry.0 is))
    ∙ apart) (let same : entry.1 ≡ t = cc in same) still
entry_case lsid tag other t entry found false is apart still none more there = more there

all : (lsid : Lsid) (tag : Tag) (entries : BySession Session)
    → list_any (is_there lsid tag) entries ≡ false
    → (other : Lsid) (t : Session) → same_lsid other lsid ≡ false → entry_of other entries ≡ Some t
    → is_open t.state ≡ true → same_tag t.tag tag ≡ false
all lsid tag [] none other t apart there still = cc
all lsid tag (entry ∷ entries) none other t apart there still =
    let both = or_none (is_there lsid tag entry) (list_any (is_there lsid tag) entries) none in
    entry_case lsid tag other t entry (find (λ (e : Lsid × Session). same_lsid other e.0) entries)
    (same_lsid other entry.0) refl apart still both.0
    (λ more. all lsid tag entries both.1 other t apart more still) there

pub nowhere_else : (p : Part) (lsid : Lsid) (tag : Tag) → elsewhere p lsid tag ≡ false
    → (other : Lsid) (t : Session) → same_lsid other lsid ≡ false → session p other ≡ Some t
    → is_open t.state ≡ true → same_tag t.tag tag ≡ false
nowhere_else p lsid tag none = all lsid tag p.sessions.entries none
