-- A session that stays as it is, put back.
use Rattle.std.proofs.Common.{◌≡◌, ℕ, ◌+◌, ◌<◌, drop, length, get_or, add-one, Bool, true, false}
use Rattle.std.proofs.Common.{List, [], ◌∷◌, Some, refl, ap, sym, ◌∙◌, if◌then◌else◌}
use Rattle.std.specs.Prelude.{option_map}
use Rattle.std.specs.List.{find}
use Rattle.std.specs.Cmp.{Equal-is}
use Rattle.txn_types.proofs.Orders.{lsid_exact}
use Rattle.txn_types.specs.BySession.{BySession, entry_of, with_entry}
use Rattle.txn_types.specs.Order.{lsid_cmp, same_lsid}
use Rattle.txn_types.specs.declared.node.Lsid.{Lsid}
use Rattle.router_state.specs.declared.deed.Given.{Given}
use Rattle.router_state.specs.declared.state.Session.{Session}
use Rattle.router_state.specs.Deeds.{both, Move}
use Rattle.router_state.specs.State.{RouterState, session_of}
use Rattle.router_rules.specs.Ends.{end_session, end_sessions}
use Rattle.router_core.proofs.Both.{both_assoc}
use Rattle.std.proofs.Math.Seq.{drop-cons}

some_same : (a b : Session) → Some a ≡ Some b → a ≡ b
some_same a b h = cc

same_case : (lsid : Lsid) (session : Session) (entry : Lsid
    × Session) (sessions : BySession Session) (same : Bool) → same_lsid lsid entry.0 ≡ same
    → (option_map (λ (e : Lsid × Session). e.1) (find (λ (e : Lsid × Session). same_lsid lsid e.0)
    sessions) ≡ Some session → with_entry lsid session sessions ≡ sessions)
    → option_map (λ (e : Lsid × Session). e.1) (if same then Some entry
    else find (λ (e : Lsid × Session). same_lsid lsid e.0) sessions) ≡ Some session
    → ◌≡◌ {A = BySession Session} (if same then (lsid, session) ∷ sessions
    else entry ∷ with_entry lsid session sessions) (entry ∷ sessions)
same_case lsid session entry sessions true is more h =
    let name : lsid ≡ entry.0 = lsid_exact lsid entry.0 ((Equal-is (lsid_cmp lsid entry.0)).0 is) in
    let value : entry.1 ≡ session = some_same entry.1 session h in
    rw (name, sym value) refl
same_case lsid session entry sessions false is more h =
    ap (λ (xs : BySession Session). entry ∷ xs) (more h)

pub with_same : (lsid : Lsid) (session : Session) (sessions : BySession Session)
    → entry_of lsid sessions ≡ Some session → with_entry lsid session sessions ≡ sessions
with_same lsid session [] h = cc
with_same lsid session (entry ∷ sessions) h = same_case lsid session entry sessions (same_lsid lsid
    entry.0) refl (with_same lsid session sessions) h

-- one end after the others
ends_state : (s : RouterState) (m : Move) (lsid : Lsid) (rest : List Lsid)
    → m ≡ end_session s lsid (session_of s lsid)
    → (end_sessions m.state rest).state ≡ (end_sessions s (lsid ∷ rest)).state
ends_state s m lsid rest h = ap (λ (x : Move). (end_sessions x.state rest).state) h

ends_given : (s : RouterState) (m : Move) (lsid : Lsid) (rest : List Lsid)
    → m ≡ end_session s lsid (session_of s lsid)
    → both m.given (end_sessions m.state rest).given ≡ (end_sessions s (lsid ∷ rest)).given
ends_given s m lsid rest h = ap (λ (x : Move). both x.given (end_sessions x.state rest).given) h

dropped : (k : ℕ) (lsids : List Lsid) (default : Lsid) → k < length lsids
    → drop k lsids ≡ get_or lsids k default ∷ drop (k + 1) lsids
dropped k lsids default h = drop-cons lsids k default h
    ∙ ap (λ i. get_or lsids k default ∷ drop i lsids) (sym (add-one k))

pub next_state : (s : RouterState) (m : Move) (k : ℕ) (lsids : List Lsid) (default : Lsid)
    → k < length lsids
    → m ≡ end_session s (get_or lsids k default) (session_of s (get_or lsids k default))
    → (end_sessions m.state (drop (k + 1) lsids)).state ≡ (end_sessions s (drop k lsids)).state
next_state s m k lsids default within h =
    ends_state s m (get_or lsids k default) (drop (k + 1) lsids) h
    ∙ ap (λ (xs : List Lsid). (end_sessions s xs).state) (sym (dropped k lsids default within))

pub next_given : (s : RouterState) (m : Move) (given next : Given)
    (k : ℕ) (lsids : List Lsid) (default : Lsid) → k < length lsids
    → m ≡ end_session s (get_or lsids k default) (session_of s (get_or lsids k default))
    → next ≡ both given m.given
    → both next (end_sessions m.state (drop (k + 1) lsids)).given
    ≡ both given (end_sessions s (drop k lsids)).given
next_given s m given next k lsids default within h put =
    ap (λ (g : Given). both g (end_sessions m.state (drop (k + 1) lsids)).given) put
    ∙ both_assoc given m.given (end_sessions m.state (drop (k + 1) lsids)).given
    ∙ ap (λ (g : Given). both given g)
    (ends_given s m (get_or lsids k default) (drop (k + 1) lsids) h)
    ∙ ap (λ (xs : List Lsid). both given (end_sessions s xs).given)
    (sym (dropped k lsids default within))
