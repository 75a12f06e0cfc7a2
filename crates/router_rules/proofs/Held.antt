-- A router's state stays safe after each event, and its replies can be spelled.
use Rattle.std.proofs.Common.{◌≡◌, ℕ, pos, ◌≤◌, ◌≤ℤ◌, Bool, true, false, List, [], ◌∷◌, ◌++◌}
use Rattle.std.proofs.Common.{Option, Some, refl, sym, subst, arith, if◌then◌else◌}
use Rattle.std.specs.Prelude.{option_map}
use Rattle.std.specs.List.{find}
use Rattle.std.proofs.lemmas.Int.{ints}
use Rattle.std.specs.Cmp.{Equal-is}
use Rattle.txn_types.proofs.Orders.{lsid_exact}
use Rattle.txn_types.specs.BySession.{BySession, entry_of, with_entry}
use Rattle.txn_types.specs.Order.{lsid_cmp, same_lsid}
use Rattle.txn_types.specs.declared.node.Lsid.{Lsid}
use Rattle.router_state.specs.declared.deed.Deed.{Deed}
use Rattle.router_state.specs.declared.deed.Sent.{Sent}
use Rattle.router_state.specs.declared.state.Session.{Session}
use Rattle.router_state.specs.Deeds.{each_session}
use Rattle.router_rules.specs.Safe.{IsSafeIn, AreSafe, AllFit, IsGood}

-- Replies.

pub both_fit : (a b : List Sent) → AllFit a → AllFit b → AllFit (a ++ b)
both_fit [] b fit more = more
both_fit (sent ∷ a) b fit more = (fit.0, both_fit a b fit.1 more)

-- Sessions.

raised_in : (low high : ℕ) (lsid : Lsid) (session : Session) → low ≤ high
    → IsSafeIn low lsid session → IsSafeIn high lsid session
raised_in low high lsid session h safe = record {
  own = λ is. let below : session.number ≤ℤ pos low = safe.own is in omega (arith, ints);
  doing = safe.doing;
}

pub raised : (low high : ℕ) (sessions : BySession Session) → low ≤ high → AreSafe low sessions
    → AreSafe high sessions
raised low high [] h safe = tt
raised low high (entry ∷ sessions) h safe =
    (raised_in low high entry.0 entry.1 h safe.0, raised low high sessions h safe.1)

put_case : (serial : ℕ) (lsid : Lsid) (session : Session) (entry : Lsid
    × Session) (sessions : BySession Session) (same : Bool) → IsSafeIn serial lsid session
    → AreSafe serial (entry ∷ sessions) → AreSafe serial (with_entry lsid session sessions)
    → AreSafe serial
    (if same then (lsid, session) ∷ sessions else entry ∷ with_entry lsid session sessions)
put_case serial lsid session entry sessions true safe all more = (safe, all.1)
put_case serial lsid session entry sessions false safe all more = (all.0, more)

pub put_safe : (serial : ℕ) (lsid : Lsid) (session : Session) (sessions : BySession Session)
    → IsSafeIn serial lsid session → AreSafe serial sessions
    → AreSafe serial (with_entry lsid session sessions)
put_safe serial lsid session [] safe all = (safe, tt)
put_safe serial lsid session (entry ∷ sessions) safe all = put_case serial lsid session entry
    sessions (same_lsid lsid entry.0) safe all (put_safe serial lsid session sessions safe all.1)

same_name : (a b : Lsid) → same_lsid a b ≡ true → a ≡ b
same_name a b h = lsid_exact a b ((Equal-is (lsid_cmp a b)).0 h)

some_same : (a b : Session) → Some a ≡ Some b → a ≡ b
some_same a b h = cc

found_case : (serial : ℕ) (lsid : Lsid) (entry : Lsid
    × Session) (rest : Option (Lsid × Session)) (same : Bool) (session : Session)
    → same_lsid lsid entry.0 ≡ same → IsSafeIn serial entry.0 entry.1
    → (option_map (λ (e : Lsid × Session). e.1) rest ≡ Some session → IsSafeIn serial lsid session)
    → option_map (λ (e : Lsid × Session). e.1) (if same then Some entry else rest) ≡ Some session
    → IsSafeIn serial lsid session
found_case serial lsid entry rest true session is safe more h =
    let name : entry.0 ≡ lsid = sym (same_name lsid entry.0 is) in
    let own : IsSafeIn serial lsid entry.1 =
    subst (λ (l : Lsid). IsSafeIn serial l entry.1) name safe in
    subst (λ (s : Session). IsSafeIn serial lsid s) (some_same entry.1 session h) own
found_case serial lsid entry rest false session is safe more h = more h

pub found_safe : (serial : ℕ) (lsid : Lsid) (sessions : BySession Session) (session : Session)
    → AreSafe serial sessions → entry_of lsid sessions ≡ Some session → IsSafeIn serial lsid session
found_safe serial lsid [] session all h = cc
found_safe serial lsid (entry ∷ sessions) session all h =
    found_case serial lsid entry (find (λ (e : Lsid × Session). same_lsid lsid e.0) sessions)
    (same_lsid lsid entry.0) session refl all.0
    (found_safe serial lsid sessions session all.1) h

-- Each session in turn.

pub each_safe : (serial : ℕ) (act : Lsid → Session → Deed) (sessions : BySession Session)
    → ((lsid : Lsid) (session : Session) → IsSafeIn serial lsid session
    → IsGood serial lsid (act lsid session)) → AreSafe serial sessions
    → AreSafe serial (each_session act sessions).0
each_safe serial act [] good all = tt
each_safe serial act (entry ∷ sessions) good all =
    ((good entry.0 entry.1 all.0).session, each_safe serial act sessions good all.1)

pub each_fits : (serial : ℕ) (act : Lsid → Session → Deed) (sessions : BySession Session)
    → ((lsid : Lsid) (session : Session) → IsSafeIn serial lsid session
    → IsGood serial lsid (act lsid session)) → AreSafe serial sessions
    → AllFit (each_session act sessions).1.replies
each_fits serial act [] good all = tt
each_fits serial act (entry ∷ sessions) good all =
    both_fit (act entry.0 entry.1).given.replies (each_session act sessions).1.replies (good entry.0
    entry.1 all.0).replies (each_fits serial act sessions good all.1)
