-- A schedule has one status where nothing outside fails, and the one that was found is it.
use Rattle.std.proofs.Common.{◌≡◌, inl, inr, ℕ, List, [], ◌∷◌, Option, Some, None, Result, Ok, Err}
use Rattle.std.proofs.Common.{refl, sym, ap, subst, ◌∙◌}
use Rattle.chunk_map.specs.Map.{Map}
use Rattle.txn_types.specs.declared.node.NodeId.TheVariants.{Shard, Router}
use Rattle.txn_model.specs.declared.ran.Ran.{Ran}
use Rattle.txn_model.specs.declared.ran.Ran.TheVariants.{Step, Swapped}
use Rattle.cluster_core.specs.Nodes.{Nodes}
use Rattle.play_steps.specs.declared.want.Want.{Want}
use Rattle.play_steps.specs.declared.want.Want.TheVariants as want
use Rattle.play_steps.specs.Player.{Player}
use Rattle.cluster_conf.specs.Conf.{Settings}
use Rattle.cluster_play.specs.declared.status.Status.{Status}
use Rattle.cluster_play.specs.declared.status.Status.TheVariants as status
use Rattle.cluster_play.specs.Schedule.{Schedule, schedule_of, player_of}
use Rattle.cluster_play.specs.Plays.{Plays, PlaysTo}
use Rattle.cluster_play.specs.Steps.{status_at}
use Rattle.cluster_play.specs.Ended.{AreStarted, Played, Ended}
use Rattle.restart_laws.specs.Restarts.{FitsAt, RestartsFit}
use Rattle.restart_laws.proofs.Fitting.{restarts_fit}
use Rattle.course_laws.specs.Course.{AreRestored, AreSame, BringsBack, HaveNothingInHand}
use Rattle.course_laws.specs.Course.{RestartsBringBack}
use Rattle.course_laws.specs.Ends.{ComesTo, Ends, IsRestored, IsOnly, IsFound, MayRestart}
use Rattle.course_laws.specs.Ends.{IsFoundAnywhere, FoundBy}
use Rattle.course_laws.proofs.Taking.{starts_empty}
use Rattle.course_laws.proofs.Courses.{going_first, plays_once}
use Rattle.course_laws.proofs.Lines.{ok_same}
use Rattle.course_laws.proofs.Starting.{starts_same}

-- what lines are is one thing

err_same : (s t : Status) → ◌≡◌ {A = Result Schedule Status} (Err s) (Err t) → s ≡ t
err_same s t is = cc

pub not_both_ways : (e : Status) (s : Schedule)
    → ◌≡◌ {A = Result Schedule Status} (Err e) (Ok s) → ⊥
not_both_ways e s is = cc

status_same : (s t : Status) → ◌≡◌ {A = Option Status} (Some s) (Some t) → s ≡ t
status_same s t is = cc

comes_once : (told : Type 0) (lines : List (List ℕ)) (start start' : Nodes) (text text' : List ℕ)
    (s s' : Status) → AreSame start start' → HaveNothingInHand start
    → (h : ComesTo told lines start text s) → IsRestored told lines start text s (inr h)
    → ComesTo told lines start' text' s'
    → (s ≡ s') × (text ≡ text')
comes_once told lines start start' text text' s s' same none h restored h' =
    let one : h'.schedule ≡ h.schedule =
    ok_same h'.schedule h.schedule (sym h'.reads ∙ h.reads) in
    let plays : Plays told h.schedule.conf.map h'.last (player_of h.schedule) start' h'.items text'
    h'.behind = subst (λ (x : Schedule).
    Plays told x.conf.map h'.last (player_of x) start' h'.items text' h'.behind) one h'.plays in
    let once = plays_once told h.schedule.conf.map (player_of h.schedule) start start' h.last
    h'.last s s' h.items h'.items text text' h.behind h'.behind
    (going_first (player_of h.schedule) start refl none) same h.plays restored h.undisturbed h.ends
    plays h'.undisturbed h'.ends in
    (status_same s s' (sym h.ends ∙ ap status_at once.same ∙ h'.ends), once.written)

pub ends_once : (told : Type 0) (lines : List (List ℕ)) (start start' : Nodes)
    (text text' : List ℕ) (s s' : Status) → AreSame start start' → HaveNothingInHand start
    → (e : Ends told lines start text s) → IsRestored told lines start text s e
    → Ends told lines start' text' s'
    → (s ≡ s') × (text ≡ text')
ends_once told lines start start' text text' s s' same none (inl h) restored (inl h') =
    (err_same s s' (sym h.0 ∙ h'.0), h.1 ∙ sym h'.1)
ends_once told lines start start' text text' s s' same none (inl h) restored (inr h') =
    absurd (not_both_ways s h'.schedule (sym h.0 ∙ h'.reads))
ends_once told lines start start' text text' s s' same none (inr h) restored (inl h') =
    absurd (not_both_ways s' h.schedule (sym h'.0 ∙ h.reads))
ends_once told lines start start' text text' s s' same none (inr h) restored (inr h') =
    comes_once told lines start start' text text' s s' same none h restored h'

-- What was found.

pub started_empty : (told : Type 0) (conf : Settings) (start : Nodes)
    → AreStarted told conf start → HaveNothingInHand start
started_empty told conf start h n s there =
    let one = h.fresh.shards n s there in starts_empty n one.0 one.1 s one.2

item_back : (told : Type 0) (nodes : Nodes) (item : Option Ran) → told → FitsAt nodes item
    → BringsBack told nodes item
item_back told nodes None t fit = tt
item_back told nodes (Some (Step node e a faults)) t fit = tt
item_back told nodes (Some (Swapped (Shard n))) t fit = (t, λ s there. (fit s there).0)
item_back told nodes (Some (Swapped (Router n))) t fit = t

brings_back : (told : Type 0) (chunks : Map) (p : Player) (start : Nodes)
    (items : List (Option Ran)) (text : List ℕ) (q : Player) (behind : Nodes) → told
    → (h : PlaysTo told chunks p start items text q behind)
    → RestartsFit told chunks p start items text q behind h
    → RestartsBringBack told chunks p start items text q behind h
brings_back told chunks p start [] text q behind t h fits = tt
brings_back told chunks p start (item ∷ items) text q behind t h fits = (
  item_back told start item t fits.0,
  brings_back told chunks h.2 h.3 items h.1 q behind t h.6 fits.1,
)

restored_by : (told : Type 0) (lines : List (List ℕ)) (last : Want) (held held' : Option (List ℕ))
    (w : Played told lines last held held') → MayRestart told lines last held held' w
    → AreRestored told w.schedule.conf.map (player_of w.schedule) w.start w.played.items
    w.played.plays.front w.played.plays.player w.played.behind w.played.plays.turns
restored_by told lines last held held' w (inl one) =
    inr (brings_back told w.schedule.conf.map (player_of w.schedule) w.start w.played.items
    w.played.plays.front w.played.plays.player w.played.behind one.0 w.played.plays.turns
    (restarts_fit told lines w.schedule w.start w.played.items w.played.plays.front
    w.played.plays.player w.played.behind one.0 w.reads one.1 w.started w.played.plays.turns))
restored_by told lines last held held' w (inr restored) = restored

is_found : (told : Type 0) (lines : List (List ℕ)) (last : Want) (held held' : Option (List ℕ))
    (w : Played told lines last held held') (s : Status) → status_at last ≡ Some s
    → IsFound told lines last held held' w s
is_found told lines last held held' w s ends well may =
    let comes : ComesTo told lines w.start w.played.text s = record {
      schedule = w.schedule;
      reads = w.reads;
      last = last;
      items = w.played.items;
      behind = w.played.behind;
      plays = w.played.plays;
      undisturbed = well;
      ends = ends;
    } in
    let restored = restored_by told lines last held held' w may in
    let only : (others : Nodes) → AreSame w.start others
    → IsOnly told lines others w.played.text s = λ others same other status e.
    let once = ends_once told lines w.start others w.played.text other s status same
    (started_empty told w.schedule.conf w.start w.started) (inr comes) restored e in
    (sym once.0, sym once.1) in (
      inr comes,
      only w.start refl,
      λ t others started. only others
          (starts_same told w.schedule.conf w.start others t w.started started),
    )

anywhere : (told : Type 0) (lines : List (List ℕ)) (s : Status) → schedule_of lines ≡ Err s
    → IsFoundAnywhere told lines s
anywhere told lines s refused start =
    let only : IsOnly told lines start [] s = λ other status e. elim e [
      | inl h ↦ (err_same status s (sym h.0 ∙ refused), h.1)
      | inr h ↦ absurd (not_both_ways s h.schedule (sym refused ∙ h.reads))
    ] in
    (inl (refused, refl), only)

pub found_by : (told : Type 0) (lines : List (List ℕ)) (held held' : Option (List ℕ))
    (s : Status) (w : Ended told lines held held' s) → FoundBy told lines held held' s w
found_by told lines held held' status.Ok w =
    is_found told lines want.End held held' w status.Ok refl
found_by told lines held held' (status.BadLine line) (inl refused) =
    anywhere told lines (status.BadLine line) refused.0
found_by told lines held held' (status.BadLine line) (inr w) =
    is_found told lines (want.Bad line) held held' w (status.BadLine line) refl
found_by told lines held held' status.Budget w =
    is_found told lines want.Spent held held' w status.Budget refl
found_by told lines held held' status.BadConf w = anywhere told lines status.BadConf w.0
found_by told lines held held' (status.DiskFault disk) w = tt
found_by told lines held held' (status.BadJournal disk index) w = tt
found_by told lines held held' status.WriteFault w = tt
found_by told lines held held' status.Memory w = tt
found_by told lines held held' status.ReadFault w = tt
