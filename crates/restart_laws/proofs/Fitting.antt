-- Over one shard each record fits its bytes whenever the shard is started again.
use Rattle.std.proofs.Common.{◌≡◌, ◌≤◌, ◌<◌, ◌^◌, inl, inr, ℕ, zero, suc, All, List, [], ◌∷◌, ◌++◌}
use Rattle.std.proofs.Common.{Option, Some, None, Ok, refl, sym, ap, subst, arith}
use Rattle.std.specs.Prelude.{slice_index}
use Rattle.std.proofs.lemmas.List.Elements.{All-nil, All-cons, All-append, All-head, All-tail}
use Rattle.std.proofs.lemmas.List.Elements.{All-weaker}
use Rattle.txn_types.specs.declared.event.Happening.{Happening}
use Rattle.txn_types.specs.declared.event.Happening.TheVariants as what
use Rattle.txn_types.specs.declared.node.NodeId.TheVariants.{Shard, Router}
use Rattle.chunk_map.specs.Map.{Map}
use Rattle.cluster_conf.specs.Conf.{Settings}
use Rattle.router_state.specs.State.{RouterState}
use Rattle.txn_model.specs.declared.ran.Ran.{Ran}
use Rattle.txn_model.specs.declared.ran.Ran.TheVariants.{Step, Swapped}
use Rattle.cluster_core.specs.Nodes.{Nodes}
use Rattle.cluster_core.specs.Trace.{Happens, IsTrace}
use Rattle.world_laws.proofs.Lists.{all_places}
use Rattle.one_shard_laws.specs.Concluding.{StartsAlone}
use Rattle.fit_laws.specs.Bytes.{AreOfBytes, AreOnConnections, BringsBytes, ComesOn, IsOfBytes}
use Rattle.fit_laws.specs.Bytes.{IsOnConnection, RoutersFit}
use Rattle.fit_laws.proofs.Recorded.{records_fit}
use Rattle.play_steps.specs.Player.{Player}
use Rattle.cluster_play.specs.Ended.{AreStarted, IsTurnText}
use Rattle.cluster_play.specs.Plays.{PlaysTo}
use Rattle.cluster_play.specs.Schedule.{Schedule, player_of, schedule_of}
use Rattle.restart_laws.specs.Restarts.{FitsAt, NextFits, RestartsFit}
use Rattle.restart_laws.proofs.Alone.{starts_alone}
use Rattle.restart_laws.proofs.Chunks.{HaveMap, fresh_map, map_kept}
use Rattle.restart_laws.proofs.Confs.{schedule_read}
use Rattle.restart_laws.proofs.Hearing.{EventFits, Hears}
use Rattle.restart_laws.proofs.Lines.{AreBytes}
use Rattle.restart_laws.proofs.Playing.{RanFits, first_hears, turn_fits}
use Rattle.restart_laws.proofs.Runs.{happens, trace_more}

-- What is brought, by bytes and by connections.

bytes_at : (bytes : List ℕ) → AreBytes bytes → (place : ℕ) → slice_index bytes place < 2 ^ 8
bytes_at [] all place = omega arith
bytes_at (b ∷ bytes) all zero = All-head (λ (x : ℕ). x < 2 ^ 8) b bytes all
bytes_at (b ∷ bytes) all (suc place) =
    bytes_at bytes (All-tail (λ (x : ℕ). x < 2 ^ 8) b bytes all) place

event_bytes : (w : Happening) → EventFits w → BringsBytes w
event_bytes (what.Client conn bytes) h = bytes_at bytes h.1
event_bytes (what.Gone conn) h = tt
event_bytes (what.Deliver e) h = tt
event_bytes what.Resend h = tt
event_bytes what.Moment h = tt

event_on : (w : Happening) → EventFits w → ComesOn w
event_on (what.Client conn bytes) h = h.0
event_on (what.Gone conn) h = tt
event_on (what.Deliver e) h = tt
event_on what.Resend h = tt
event_on what.Moment h = tt

ran_bytes : (ran : Ran) → RanFits ran → IsOfBytes ran
ran_bytes (Step node e a faults) h = event_bytes e.what h
ran_bytes (Swapped node) h = tt

ran_on : (ran : Ran) → RanFits ran → IsOnConnection ran
ran_on (Step node e a faults) h = event_on e.what h
ran_on (Swapped node) h = tt

pub are_of_bytes : (run : List Ran) → All RanFits run → AreOfBytes run
are_of_bytes run all = All-weaker RanFits IsOfBytes ran_bytes run all

pub are_on_connections : (run : List Ran) → All RanFits run → AreOnConnections run
are_on_connections run all = All-weaker RanFits IsOnConnection ran_on run all

-- Routers start in their first boot.
routers_fit : (told : Type 0) (conf : Settings) (start : Nodes) → told → conf.routers ≤ 8
    → AreStarted told conf start → RoutersFit start
routers_fit told conf start t few h =
    record {
      count = omega (arith, few, h.routers);
      boots = all_places (λ (r : RouterState). r.boot < 2 ^ 32) start.routers (λ n r at.
          let one : r.boot ≡ 1 = ap (λ (x : RouterState). x.boot) (h.booted t n r at) in
          omega (arith, one));
    }

-- Along what is played.

-- what was played so far is a run, which brings bytes
pub record Along (start nodes : Nodes) : Type 0 where
  pub run : List Ran
  pub trace : List Nodes
  pub is : IsTrace start run trace nodes
  pub brings : All RanFits run

one_more : (start nodes : Nodes) (ran : Ran) (behind : Nodes) → Along start nodes
    → Happens nodes ran behind → RanFits ran → Along start behind
one_more start nodes ran behind a h fits =
    record {
      run = a.run ++ ran ∷ [];
      trace = a.trace ++ nodes ∷ [];
      is = trace_more start a.run a.trace nodes ran behind a.is h;
      brings = All-append RanFits a.run (ran ∷ []) a.brings
          (All-cons RanFits ran [] fits (All-nil RanFits));
    }

fits_at : (chunks : Map) (start : Nodes) → StartsAlone chunks start → RoutersFit start
    → (nodes : Nodes) (item : Option Ran) → Along start nodes → FitsAt nodes item
fits_at chunks start alone few nodes None a = tt
fits_at chunks start alone few nodes (Some (Step node e answer faults)) a = tt
fits_at chunks start alone few nodes (Some (Swapped (Router n))) a = tt
fits_at chunks start alone few nodes (Some (Swapped (Shard n))) a =
    λ s there. records_fit chunks start a.run a.trace nodes alone a.is
    (are_of_bytes a.run a.brings) (are_on_connections a.run a.brings) few n s there

-- the restarts of what is played from here on, and the run behind it
pub record Restarted (told : Type 0) (chunks : Map) (start : Nodes) (p : Player) (nodes : Nodes)
    (items : List (Option Ran)) (text : List ℕ) (q : Player) (behind : Nodes)
    (h : PlaysTo told chunks p nodes items text q behind) : Type 0 where
  pub fit : RestartsFit told chunks p nodes items text q behind h
  pub along : Along start behind
  pub hears : Hears q

restarted : (told : Type 0) (chunks : Map) (start : Nodes) → told → StartsAlone chunks start
    → RoutersFit start → (p : Player) (nodes : Nodes) (items : List (Option Ran)) (text : List ℕ)
    (q : Player) (behind : Nodes) → Along start nodes → HaveMap chunks nodes.routers → Hears p
    → (h : PlaysTo told chunks p nodes items text q behind)
    → Restarted told chunks start p nodes items text q behind h
restarted told chunks start t alone few p nodes [] text q behind a have on h =
    record {
      fit = tt;
      along = subst (Along start) (sym h.2) a;
      hears = subst Hears (sym h.1) on;
    }
restarted told chunks start t alone few p nodes (None ∷ items) text q behind a have on h =
    let same : nodes ≡ h.3 = sym h.4.2.3 in
    let next = turn_fits told chunks p nodes None h.0 h.2 h.3 on h.4 in
    let rest = restarted told chunks start t alone few h.2 h.3 items h.1 q behind
    (subst (Along start) same a) (subst (λ (x : Nodes). HaveMap chunks x.routers) same have) next.1
    h.6 in
    record { fit = (tt, rest.fit); along = rest.along; hears = rest.hears }
restarted told chunks start t alone few p nodes (Some ran ∷ items) text q behind a have on h =
    let fit : FitsAt nodes (Some ran) = fits_at chunks start alone few nodes (Some ran) a in
    let one : Happens nodes ran h.3 = happens told chunks nodes ran h.3 t have fit h.4.2.1 in
    let next = turn_fits told chunks p nodes (Some ran) h.0 h.2 h.3 on h.4 in
    let rest = restarted told chunks start t alone few h.2 h.3 items h.1 q behind
    (one_more start nodes ran h.3 a one next.0) (map_kept chunks nodes ran h.3 one have) next.1
    h.6 in
    record { fit = (fit, rest.fit); along = rest.along; hears = rest.hears }

-- Of a schedule.

from_start : (told : Type 0) (schedule : Schedule) (start : Nodes) (items : List (Option Ran))
    (text : List ℕ) (q : Player) (behind : Nodes) → told → schedule.conf.shards ≡ 1
    → schedule.conf.routers ≤ 8 → AreStarted told schedule.conf start
    → (h : PlaysTo told schedule.conf.map (player_of schedule) start items text q behind)
    → Restarted told schedule.conf.map start (player_of schedule) start items text q behind h
from_start told schedule start items text q behind t one few started h =
    restarted told schedule.conf.map start t
    (starts_alone told schedule.conf start t one started)
    (routers_fit told schedule.conf start t few started) (player_of schedule) start items text q
    behind (record { run = []; trace = []; is = refl; brings = All-nil RanFits })
    (fresh_map schedule.conf.map start started.fresh) (first_hears schedule) h

pub restarts_fit : (told : Type 0) (lines : List (List ℕ)) (schedule : Schedule) (start : Nodes)
    (items : List (Option Ran)) (text : List ℕ) (q : Player) (behind : Nodes) → told
    → schedule_of lines ≡ Ok schedule → schedule.conf.shards ≡ 1
    → AreStarted told schedule.conf start
    → (h : PlaysTo told schedule.conf.map (player_of schedule) start items text q behind)
    → RestartsFit told schedule.conf.map (player_of schedule) start items text q behind h
restarts_fit told lines schedule start items text q behind t reads one started h =
    (from_start told schedule start items text q behind t one
    (schedule_read lines schedule reads).routers started h).fit

pub next_fits : (told : Type 0) (lines : List (List ℕ)) (schedule : Schedule) (start : Nodes)
    (items : List (Option Ran)) (text : List ℕ) (q : Player) (behind : Nodes) (next : List ℕ)
    → told → schedule_of lines ≡ Ok schedule → schedule.conf.shards ≡ 1
    → AreStarted told schedule.conf start
    → PlaysTo told schedule.conf.map (player_of schedule) start items text q behind
    → (is_text : IsTurnText told schedule.conf.map q behind next)
    → NextFits told schedule.conf.map q behind next is_text
next_fits told lines schedule start items text q behind next t reads one started h (inl none) = tt
next_fits told lines schedule start items text q behind next t reads one started h (inr turn) =
    fits_at schedule.conf.map start (starts_alone told schedule.conf start t one started)
    (routers_fit told schedule.conf start t (schedule_read lines schedule reads).routers started)
    behind turn.0 (from_start told schedule start items text q behind t one
    (schedule_read lines schedule reads).routers started h).along
