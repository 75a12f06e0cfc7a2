-- The first statement of a transaction, step by step.
use Rattle.std.proofs.Common.{◌≡◌, ℕ, ℤ, Option, ap, ◌∙◌}
use Rattle.txn_types.specs.declared.node.Lsid.{Lsid}
use Rattle.txn_types.specs.declared.operation.Op.{Op}
use Rattle.router_state.specs.declared.deed.Deed.{Deed}
use Rattle.router_state.specs.declared.state.Asker.{Asker}
use Rattle.router_state.specs.declared.state.Session.{Session}
use Rattle.router_state.specs.declared.state.Transaction.{Transaction}
use Rattle.router_state.specs.Deeds.{Move, done_in}
use Rattle.router_state.specs.State.{RouterState}
use Rattle.router_rules.specs.Statements.{asks}
use Rattle.router_core.specs.Requests.{begun_at, drawn, behind_left, begins_at}

pub begun_so : (s behind : RouterState) (lsid : Lsid) (session : Option Session) (number : ℤ)
    (asker : Asker) (op : Op) (read_at : ℕ) (t : Transaction) (asked deed : Deed) (move : Move)
    → t ≡ begun_at s read_at → asked ≡ asks s.chunks lsid number asker op t
    → deed ≡ behind_left lsid session asked → behind ≡ drawn s read_at
    → move ≡ done_in behind lsid deed
    → move ≡ begins_at s lsid session number asker op read_at
begun_so s behind lsid session number asker op read_at t asked deed move begun asking
    left later is =
    is
    ∙ ap (λ (r : RouterState). done_in r lsid deed) later
    ∙ ap (λ (d : Deed). done_in (drawn s read_at) lsid d) (left ∙ ap (λ (d : Deed). behind_left lsid
    session d) (asking ∙ ap (λ (u : Transaction). asks s.chunks lsid number asker op u) begun))
