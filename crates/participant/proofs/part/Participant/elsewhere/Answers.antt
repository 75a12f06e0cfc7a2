use Rattle.std.proofs.Common.{◌≡◌, ◌<◌, ◌+◌, ◌∙◌, ◌&&◌, ◌||◌, ℕ, suc, Bool, not, List, length, drop}
use Rattle.std.proofs.Common.{ap, sym, arith}
use Rattle.std.specs.List.{list_any}
use Rattle.txn_types.specs.Order.{same_tag, same_lsid}
use Rattle.txn_types.specs.declared.node.Lsid.{Lsid}
use Rattle.session_table.specs.declared.session.Session.{Session}
use Rattle.participant.specs.Part.{Part, is_open}
use Rattle.participant.proofs.Places.{any_at}
use Rattle.participant.proofs.part.Participant.elsewhere.Goals as goal

pub returns-then-is_elsewhere : goal.returns-then-is_elsewhere
returns-then-is_elsewhere c =
    let test : Lsid × Session → Bool = λ entry. not (same_lsid entry.0 c.args.lsid.now)
    && same_tag entry.1.tag c.args.tag && is_open entry.1.state in
    let xs : List (Lsid × Session) = c.args.self.now.sessions.entries in
    let count : length c.self.inside.sessions.entries ≡ length xs =
    ap (λ (q : Part). length q.sessions.entries) c.self.view_is in
    let below : c.loop-place.place < length xs =
    omega (arith, count, c.len-place-end.ensures, c.loop-place-test.true) in
    let at = any_at test xs c.loop-place.place below in
    sym (sym c.loop-place.invariant ∙ at.2
    ∙ ap (λ (b : Bool). b || list_any test (drop (suc c.loop-place.place) xs))
    (sym (c.is_elsewhere.ensures at.0 at.1) ∙ c.if-is_elsewhere.true))

pub loop-place-preserved : goal.loop-place-preserved
loop-place-preserved c =
    let test : Lsid × Session → Bool = λ entry. not (same_lsid entry.0 c.args.lsid.now)
    && same_tag entry.1.tag c.args.tag && is_open entry.1.state in
    let xs : List (Lsid × Session) = c.args.self.now.sessions.entries in
    let count : length c.self.inside.sessions.entries ≡ length xs =
    ap (λ (q : Part). length q.sessions.entries) c.self.view_is in
    let below : c.loop-place.place < length xs =
    omega (arith, count, c.len-place-end.ensures, c.loop-place-test.true) in
    let at = any_at test xs c.loop-place.place below in
    let next : c.loop-place.place + 1 ≡ suc c.loop-place.place = omega arith in
    ap (λ (n : ℕ). list_any test (drop n xs)) next
    ∙ sym (at.2 ∙ ap (λ (b : Bool). b || list_any test (drop (suc c.loop-place.place) xs))
    (sym (c.is_elsewhere.ensures at.0 at.1) ∙ c.if-is_elsewhere.false))
    ∙ c.loop-place.invariant
