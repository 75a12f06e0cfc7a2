-- What a router does at an event, in one of its sessions and in all.
use Rattle.std.specs.Prelude.{ℤ, false, List, [], ◌∷◌, ◌++◌, Option, Some, None}
use Rattle.txn_types.specs.BySession.{BySession, with_entry}
use Rattle.txn_types.specs.declared.node.Lsid.{Lsid}
use Rattle.client_reply.specs.declared.reply.Reply.{Reply}
use Rattle.router_state.specs.declared.deed.Sent.{Sent}
use Rattle.router_state.specs.declared.deed.Given.{Given}
use Rattle.router_state.specs.declared.deed.Deed.{Deed}
use Rattle.router_state.specs.declared.state.Asker.{Asker}
use Rattle.router_state.specs.declared.state.Transaction.{Transaction}
use Rattle.router_state.specs.declared.state.Session.{Session}
use Rattle.router_state.specs.State.{RouterState}
use Rattle.router_state.specs.declared.state.Doing.TheVariants.{Begun}
use Rattle.router_state.specs.State.{Post}

abbrev pub nothing : Given
nothing = record { aborts = []; sends = []; replies = [] }

abbrev pub both : Given → Given → Given
both a b = record {
  aborts = a.aborts ++ b.aborts;
  sends = a.sends ++ b.sends;
  replies = a.replies ++ b.replies;
}

abbrev pub aborting : List Post → Given
aborting posts = record { aborts = posts; sends = []; replies = [] }

abbrev pub sending : List Post → Given
sending posts = record { aborts = []; sends = posts; replies = [] }

abbrev pub telling : List Sent → Given
telling replies = record { aborts = []; sends = []; replies = replies }

-- told to whoever waits
abbrev pub told : Asker → Reply → Sent
told asker reply =
    record { conn = asker.conn; request = asker.request; legacy = false; reply = reply }

abbrev pub told_if : Option Asker → Reply → List Sent
told_if None reply = []
told_if (Some asker) reply = told asker reply ∷ []

abbrev pub stays : Session → Deed
stays session = record { session = session; given = nothing }

-- the session's transaction is this
abbrev pub in_session : ℤ → Transaction → Given → Deed
in_session number t given =
    record { session = record { number = number; doing = Begun t }; given = given }

-- the router after an event, and what is given out
pub record Move : Type 0 where
  pub state : RouterState
  pub given : Given

abbrev pub still : RouterState → Move
still s = record { state = s; given = nothing }

abbrev pub answers : RouterState → Asker → Reply → Move
answers s asker reply = record { state = s; given = telling (told asker reply ∷ []) }

abbrev pub with_session : RouterState → Lsid → Session → RouterState
with_session s lsid session = record s { sessions = with_entry lsid session s.sessions }

-- what is done in a session is done at the router
abbrev pub done_in : RouterState → Lsid → Deed → Move
done_in s lsid deed = record { state = with_session s lsid deed.session; given = deed.given }

-- what an event does in each session, one after the other
abbrev pub each_session : (Lsid → Session → Deed) → BySession Session → BySession Session × Given
each_session act [] = ([], nothing)
each_session act (entry ∷ entries) = (
  (entry.0, (act entry.0 entry.1).session) ∷ (each_session act entries).0,
  both (act entry.0 entry.1).given (each_session act entries).1,
)

abbrev pub in_each_session : (Lsid → Session → Deed) → RouterState → Move
in_each_session act s = record {
  state = record s { sessions = (each_session act s.sessions).0 };
  given = (each_session act s.sessions).1;
}
