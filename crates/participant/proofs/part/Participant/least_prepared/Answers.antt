use Rattle.std.proofs.Common.{◌≡◌, ◌<◌, ◌≤◌, ◌+◌, ◌∙◌, ℕ, suc, List, Option, length, drop, ap, sym}
use Rattle.std.proofs.Common.{arith}
use Rattle.std.specs.List.{filter_map}
use Rattle.txn_types.specs.declared.node.Lsid.{Lsid}
use Rattle.session_table.specs.Sessions.{prepared_at}
use Rattle.session_table.specs.declared.session.Session.{Session}
use Rattle.participant.specs.Part.{Part}
use Rattle.participant.specs.Stands.{lesser}
use Rattle.participant.proofs.Places.{kept_at, nothing_past, least_from, one_more, no_more}
use Rattle.participant.proofs.part.Participant.least_prepared.Goals as goal

pub loop-place-preserved : goal.loop-place-preserved
loop-place-preserved c =
    let xs : List (Lsid × Session) = c.args.self.now.sessions.entries in
    let f : Lsid × Session → Option ℕ = λ entry. prepared_at entry.1.state in
    let count : length c.self.inside.sessions.entries ≡ length xs =
    ap (λ (q : Part). length q.sessions.entries) c.self.view_is in
    let below : c.loop-place.place < length xs =
    omega (arith, count, c.len-place-end.ensures, c.loop-place-test.true) in
    let at = kept_at f xs c.loop-place.place below in
    let next : c.loop-place.place + 1 ≡ suc c.loop-place.place = omega arith in
    ap (λ (n : ℕ). least_from c.lesser-least.result (filter_map f (drop n xs))) next
    ∙ ap (λ (o : Option ℕ). least_from o (filter_map f (drop (suc c.loop-place.place) xs)))
    (c.lesser-least.ensures ∙ ap (lesser c.loop-place.least) (c.prepared_at.ensures at.0 at.1))
    ∙ one_more c.loop-place.least (f at.0) (filter_map f (drop (suc c.loop-place.place) xs))
    ∙ ap (least_from c.loop-place.least) (sym at.2)
    ∙ c.loop-place.invariant

pub returns : goal.returns
returns c =
    let xs : List (Lsid × Session) = c.args.self.now.sessions.entries in
    let f : Lsid × Session → Option ℕ = λ entry. prepared_at entry.1.state in
    let count : length c.self.inside.sessions.entries ≡ length xs =
    ap (λ (q : Part). length q.sessions.entries) c.self.view_is in
    let past : length xs ≤ c.loop-place.place =
    omega (arith, count, c.len-place-end.ensures, c.loop-place-test.false) in
    sym (no_more c.loop-place.least) ∙ ap (least_from c.loop-place.least)
    (sym (nothing_past f xs c.loop-place.place past)) ∙ c.loop-place.invariant
