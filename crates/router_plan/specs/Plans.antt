-- A router's state by its parts: its numbers, its map and its sessions; and what a step changes of
-- them.
use Rattle.std.specs.Prelude.{ℕ, ◌<◌, Bool, List, [], ◌∷◌, slice_set}
use Rattle.txn_types.specs.BySession.{BySession, with_entry}
use Rattle.txn_types.specs.declared.node.Lsid.{Lsid}
use Rattle.chunk_map.specs.Map.{Map}
use Rattle.client_reply.specs.declared.reply.Reply.{Reply}
use Rattle.router_state.specs.declared.state.Asker.{Asker}
use Rattle.router_state.specs.declared.state.Session.{Session}
use Rattle.router_state.specs.State.{RouterState}
use Rattle.router_state.specs.Deeds.{Move, both, telling}
use Rattle.router_plan.specs.declared.plan.Base.{Base}
use Rattle.router_plan.specs.declared.change.Change.{Change}
use Rattle.router_plan.specs.declared.change.Change.TheVariants.{Nothing, One, Places, All}
use Rattle.router_plan.specs.declared.plan.Plan.{Plan}

abbrev pub state_of : Base → Map → BySession Session → RouterState
state_of base chunks sessions =
    record {
      number = base.number;
      boot = base.boot;
      chunks = chunks;
      wall = base.wall;
      time = base.time;
      serial = base.serial;
      sessions = sessions;
    }

-- with these in place of what stands at those places
abbrev pub replaced : List (ℕ × (Lsid × Session)) → BySession Session → BySession Session
replaced [] sessions = sessions
replaced (entry ∷ entries) sessions = slice_set (replaced entries sessions) entry.0 entry.1

-- the places are there
abbrev pub FitIn : ℕ → List (ℕ × (Lsid × Session)) → Type 0
FitIn n [] = Unit {0}
FitIn n (entry ∷ entries) = (entry.0 < n) × FitIn n entries

abbrev pub FitsIn : ℕ → Change → Type 0
FitsIn n (Places entries) = FitIn n entries.items
FitsIn n other = Unit {0}

abbrev pub changed : Change → BySession Session → BySession Session
changed Nothing sessions = sessions
changed (One lsid session) sessions = with_entry lsid session sessions
changed (Places entries) sessions = replaced entries.items sessions
changed (All all) sessions = all

abbrev pub move_of : Plan → Map → BySession Session → Move
move_of plan chunks sessions =
    record { state = state_of plan.base chunks (changed plan.change sessions); given = plan.given }

-- the request is answered besides, in the older form of messages or not
abbrev pub told_also : Move → Asker → Bool → Reply → Move
told_also move asker legacy r =
    record {
      state = move.state;
      given = both move.given (telling
          (record { conn = asker.conn; request = asker.request; legacy = legacy; reply = r } ∷ []));
    }
