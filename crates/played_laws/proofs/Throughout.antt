-- What was played of a schedule is right after every event.
use Rattle.std.proofs.Common.{◌≡◌, inl, inr, ℕ, List, Option, Ok}
use Rattle.chunk_map.specs.Map.{IsMap}
use Rattle.cluster_conf.specs.Conf.{Settings}
use Rattle.txn_model.specs.declared.ran.Ran.{Ran}
use Rattle.cluster_core.specs.Nodes.{Nodes}
use Rattle.play_steps.specs.declared.want.Want.{Want}
use Rattle.play_steps.specs.declared.want.Want.TheVariants as want
use Rattle.play_steps.specs.Player.{Player}
use Rattle.cluster_play.specs.declared.status.Status.{Status}
use Rattle.cluster_play.specs.declared.status.Status.TheVariants as status
use Rattle.cluster_play.specs.Ended.{AreStarted, Ended, IsTurnText, Played, PlayedInPart}
use Rattle.cluster_play.specs.Plays.{PlaysTo}
use Rattle.cluster_play.specs.Schedule.{Schedule, player_of, schedule_of}
use Rattle.restart_laws.specs.Restarts.{NextFits, RestartsFit}
use Rattle.restart_laws.proofs.Confs.{schedule_read}
use Rattle.played_laws.specs.Throughout.{AndNext, IsRight, IsRightInPart, IsSaid, MayRestart}
use Rattle.played_laws.specs.Throughout.{RightBehind, RightBy, SoundBehind}
use Rattle.played_laws.specs.Throughout.{Throughout}
use Rattle.played_laws.proofs.Holding.{Follows, holds_next, holds_throughout, played_fits}
use Rattle.played_laws.proofs.Holding.{right_follows, sound_follows, then_fits}

-- what is said of what was played up to some turn
played_said : (told : Type 0) (lines : List (List ℕ)) (schedule : Schedule) (start : Nodes)
    (items : List (Option Ran)) (text : List ℕ) (q : Player) (behind : Nodes)
    → schedule_of lines ≡ Ok schedule → AreStarted told schedule.conf start
    → (h : PlaysTo told schedule.conf.map (player_of schedule) start items text q behind)
    → IsSaid told schedule start
    (RestartsFit told schedule.conf.map (player_of schedule) start items text q behind h)
    (λ P. Throughout told schedule.conf.map P (player_of schedule) start items text q behind)
played_said told lines schedule start items text q behind reads started h t =
    let conf : Settings = schedule.conf in
    let map : IsMap conf.map = (schedule_read lines schedule reads).map in
    let Fit : Type 0 =
    RestartsFit told conf.map (player_of schedule) start items text q behind h in
    let fits : MayRestart schedule Fit → Fit =
    played_fits told lines schedule start items text q behind t reads started h Fit (λ fit. fit) in (
      λ may. holds_throughout told conf (SoundBehind conf.map start) (player_of schedule) start items
          text q behind t started (sound_follows told conf start t map started) h (fits may),
      λ one. holds_throughout told conf (RightBehind conf.map start) (player_of schedule) start items
          text q behind t started (right_follows told conf start t map started one) h
          (fits (inl one)),
    )

pub played_right : (told : Type 0) (lines : List (List ℕ)) (last : Want)
    (held held' : Option (List ℕ)) (w : Played told lines last held held')
    → IsRight told lines last held held' w
played_right told lines last held held' w =
    played_said told lines w.schedule w.start w.played.items w.played.plays.front
    w.played.plays.player w.played.behind w.reads w.started w.played.plays.turns

-- what holds behind each run holds of what was played in part
part_holds : (told : Type 0) (lines : List (List ℕ)) (schedule : Schedule) (start : Nodes)
    (items : List (Option Ran)) (text : List ℕ) (q : Player) (behind : Nodes) (next : List ℕ)
    (P : List (Option Ran) → Nodes → Type 0) → told → schedule_of lines ≡ Ok schedule
    → AreStarted told schedule.conf start → Follows start P
    → (h : PlaysTo told schedule.conf.map (player_of schedule) start items text q behind)
    → (is_text : IsTurnText told schedule.conf.map q behind next)
    → MayRestart schedule
    (RestartsFit told schedule.conf.map (player_of schedule) start items text q behind h
    × NextFits told schedule.conf.map q behind next is_text)
    → Throughout told schedule.conf.map P (player_of schedule) start items text q behind
    × AndNext told schedule.conf.map P items q behind next is_text
part_holds told lines schedule start items text q behind next P t reads started follows h is_text
    may =
    let conf : Settings = schedule.conf in
    let Fits : Type 0 =
    RestartsFit told conf.map (player_of schedule) start items text q behind h in
    let Then : Type 0 = NextFits told conf.map q behind next is_text in
    let fits : Fits = played_fits told lines schedule start items text q behind t reads started h
    (Fits × Then) (λ fit. fit.0) may in
    let after : Then = then_fits told lines schedule start items text q behind next t reads started h
    is_text (Fits × Then) (λ fit. fit.1) may in (
      holds_throughout told conf P (player_of schedule) start items text q behind t started follows h
          fits,
      holds_next told conf P (player_of schedule) start items text q behind next t started follows h
          is_text fits after,
    )

part_said : (told : Type 0) (lines : List (List ℕ)) (schedule : Schedule) (start : Nodes)
    (items : List (Option Ran)) (text : List ℕ) (q : Player) (behind : Nodes) (next : List ℕ)
    → schedule_of lines ≡ Ok schedule → AreStarted told schedule.conf start
    → (h : PlaysTo told schedule.conf.map (player_of schedule) start items text q behind)
    → (is_text : IsTurnText told schedule.conf.map q behind next)
    → IsSaid told schedule start
    (RestartsFit told schedule.conf.map (player_of schedule) start items text q behind h
    × NextFits told schedule.conf.map q behind next is_text)
    (λ P. Throughout told schedule.conf.map P (player_of schedule) start items text q behind
    × AndNext told schedule.conf.map P items q behind next is_text)
part_said told lines schedule start items text q behind next reads started h is_text t =
    let conf : Settings = schedule.conf in
    let map : IsMap conf.map = (schedule_read lines schedule reads).map in (
      λ may. part_holds told lines schedule start items text q behind next
          (SoundBehind conf.map start) t reads started (sound_follows told conf start t map started) h
          is_text may,
      λ one. part_holds told lines schedule start items text q behind next
          (RightBehind conf.map start) t reads started
          (right_follows told conf start t map started one) h is_text (inl one),
    )

pub played_in_part_right : (told : Type 0) (lines : List (List ℕ)) (held held' : Option (List ℕ))
    (w : PlayedInPart told lines held held') → IsRightInPart told lines held held' w
played_in_part_right told lines held held' w =
    part_said told lines w.schedule w.start w.played.items w.played.text w.played.player
    w.played.nodes w.played.next w.reads w.started w.played.turns w.played.is_text

pub right_by : (told : Type 0) (lines : List (List ℕ)) (held held' : Option (List ℕ))
    (ending : Status) (w : Ended told lines held held' ending)
    → RightBy told lines held held' ending w
right_by told lines held held' status.Ok w = played_right told lines want.End held held' w
right_by told lines held held' (status.BadLine n) (inl r) = tt
right_by told lines held held' (status.BadLine n) (inr w) =
    played_right told lines (want.Bad n) held held' w
right_by told lines held held' status.Budget w = played_right told lines want.Spent held held' w
right_by told lines held held' status.BadConf w = tt
right_by told lines held held' (status.DiskFault d) (inl u) = tt
right_by told lines held held' (status.DiskFault d) (inr w) =
    played_right told lines (want.Renew w.0) held held' w.2
right_by told lines held held' (status.BadJournal d i) (inl u) = tt
right_by told lines held held' (status.BadJournal d i) (inr w) =
    played_right told lines (want.Renew w.0) held held' w.2
right_by told lines held held' status.WriteFault w = played_in_part_right told lines held held' w
right_by told lines held held' status.Memory (inl none) = tt
right_by told lines held held' status.Memory (inr w) =
    played_in_part_right told lines held held' w
right_by told lines held held' status.ReadFault w = tt
