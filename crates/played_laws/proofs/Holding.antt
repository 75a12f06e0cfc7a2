-- What holds behind each run from a start holds behind each front of what was played from it.
use Rattle.std.proofs.Common.{◌≡◌, inl, inr, ℕ, List, [], ◌∷◌, ◌++◌, Option, Ok, sym, subst}
use Rattle.chunk_map.specs.Map.{IsMap}
use Rattle.cluster_conf.specs.Conf.{Settings}
use Rattle.txn_model.specs.declared.ran.Ran.{Ran}
use Rattle.cluster_core.specs.Nodes.{Nodes}
use Rattle.play_steps.specs.Player.{Player}
use Rattle.cluster_play.specs.Ended.{AreStarted, IsTurnText}
use Rattle.cluster_play.specs.Plays.{IsRun, PlaysTo, ran_of}
use Rattle.cluster_play.specs.Schedule.{Schedule, player_of, schedule_of}
use Rattle.right_laws.proofs.Whole.{right_of}
use Rattle.restart_laws.specs.Restarts.{NextFits, RestartsFit}
use Rattle.restart_laws.proofs.Alone.{starts_alone}
use Rattle.restart_laws.proofs.Chunks.{fresh_map}
use Rattle.restart_laws.proofs.Fitting.{next_fits, restarts_fit}
use Rattle.played_laws.specs.Throughout.{AndNext, MayRestart}
use Rattle.played_laws.specs.Throughout.{PlaysBetween, RightBehind, SoundBehind}
use Rattle.played_laws.specs.Throughout.{Throughout}
use Rattle.played_laws.proofs.Calm.{calm_fits, calm_on, turn_fits}
use Rattle.played_laws.proofs.Parts.{plays_between, plays_one_more}
use Rattle.played_laws.proofs.Runs.{front_fits, one_more_fits, plays_run}
use Rattle.played_laws.proofs.Sound.{sound_behind}

-- Of runs: what holds behind each run from this start holds behind each front of what was played.

abbrev pub Follows : Nodes → (List (Option Ran) → Nodes → Type 0) → Type 0
Follows start P = (items : List (Option Ran)) (behind : Nodes) → IsRun start items behind
    → P items behind

pub sound_follows : (told : Type 0) (conf : Settings) (start : Nodes) → told → IsMap conf.map
    → AreStarted told conf start → Follows start (SoundBehind conf.map start)
sound_follows told conf start t map started items behind run =
    sound_behind told conf start items behind t map started run

pub right_follows : (told : Type 0) (conf : Settings) (start : Nodes) → told → IsMap conf.map
    → AreStarted told conf start → conf.shards ≡ 1 → Follows start (RightBehind conf.map start)
right_follows told conf start t map started one items behind run =
    record {
      run = run;
      right = right_of conf.map start (ran_of items) run.0 behind map
          (starts_alone told conf start t one started) run.1;
    }

holds_behind : (told : Type 0) (conf : Settings) (P : List (Option Ran) → Nodes → Type 0)
    (p : Player) (start : Nodes) (items : List (Option Ran)) (text : List ℕ) (q : Player)
    (behind : Nodes) → told → AreStarted told conf start → Follows start P
    → (h : PlaysTo told conf.map p start items text q behind)
    → RestartsFit told conf.map p start items text q behind h → P items behind
holds_behind told conf P p start items text q behind t started follows h fits =
    follows items behind (plays_run told conf.map p start items text q behind t
    (fresh_map conf.map start started.fresh) h fits)

pub holds_throughout : (told : Type 0) (conf : Settings) (P : List (Option Ran) → Nodes → Type 0)
    (p : Player) (start : Nodes) (items : List (Option Ran)) (text : List ℕ) (q : Player)
    (behind : Nodes) → told → AreStarted told conf start → Follows start P
    → (h : PlaysTo told conf.map p start items text q behind)
    → RestartsFit told conf.map p start items text q behind h
    → Throughout told conf.map P p start items text q behind
holds_throughout told conf P p start items text q behind t started follows h fits first rest parted =
    subst (λ (xs : List (Option Ran)). (g : PlaysTo told conf.map p start xs text q behind)
    → RestartsFit told conf.map p start xs text q behind g
    → (b : PlaysBetween told conf.map p start first rest text q behind) × P first b.nodes)
    (sym parted) (λ g fit.
    let b = plays_between told conf.map p start first rest text q behind g in (
      b,
      holds_behind told conf P p start first b.front b.player b.nodes t started follows b.before
          (front_fits told conf.map p start first rest text q behind g fit),
    )) h fits

pub holds_next : (told : Type 0) (conf : Settings) (P : List (Option Ran) → Nodes → Type 0)
    (p : Player) (start : Nodes) (items : List (Option Ran)) (text : List ℕ) (q : Player)
    (behind : Nodes) (next : List ℕ) → told → AreStarted told conf start → Follows start P
    → (h : PlaysTo told conf.map p start items text q behind)
    → (is_text : IsTurnText told conf.map q behind next)
    → RestartsFit told conf.map p start items text q behind h
    → NextFits told conf.map q behind next is_text
    → AndNext told conf.map P items q behind next is_text
holds_next told conf P p start items text q behind next t started follows h (inl none) fits fit = tt
holds_next told conf P p start items text q behind next t started follows h (inr one) fits fit =
    holds_behind told conf P p start (items ++ one.0 ∷ []) (text ++ next) one.1 one.2 t started
    follows (plays_one_more told conf.map p start items text q behind one.0 next one.1 one.2 h
    one.3) (one_more_fits told conf.map p start items text q behind one.0 next one.1 one.2 h one.3
    fits fit)

-- The restarts of what was played, by each way.

pub played_fits : (told : Type 0) (lines : List (List ℕ)) (schedule : Schedule) (start : Nodes)
    (items : List (Option Ran)) (text : List ℕ) (q : Player) (behind : Nodes) → told
    → schedule_of lines ≡ Ok schedule → AreStarted told schedule.conf start
    → (h : PlaysTo told schedule.conf.map (player_of schedule) start items text q behind)
    → (Fit : Type 0) → (Fit → RestartsFit told schedule.conf.map (player_of schedule) start items
    text q behind h) → MayRestart schedule Fit
    → RestartsFit told schedule.conf.map (player_of schedule) start items text q behind h
played_fits told lines schedule start items text q behind t reads started h Fit f (inl one) =
    restarts_fit told lines schedule start items text q behind t reads one started h
played_fits told lines schedule start items text q behind t reads started h Fit f (inr (inl calm)) =
    calm_fits told schedule.conf.map (player_of schedule) start items text q behind (calm, tt) h
played_fits told lines schedule start items text q behind t reads started h Fit f (inr (inr fit)) =
    f fit

pub then_fits : (told : Type 0) (lines : List (List ℕ)) (schedule : Schedule) (start : Nodes)
    (items : List (Option Ran)) (text : List ℕ) (q : Player) (behind : Nodes) (next : List ℕ)
    → told → schedule_of lines ≡ Ok schedule → AreStarted told schedule.conf start
    → (h : PlaysTo told schedule.conf.map (player_of schedule) start items text q behind)
    → (is_text : IsTurnText told schedule.conf.map q behind next)
    → (Fit : Type 0) → (Fit → NextFits told schedule.conf.map q behind next is_text)
    → MayRestart schedule Fit → NextFits told schedule.conf.map q behind next is_text
then_fits told lines schedule start items text q behind next t reads started h is_text Fit f
    (inl one) = next_fits told lines schedule start items text q behind next t reads one started h
    is_text
then_fits told lines schedule start items text q behind next t reads started h (inl none) Fit f
    (inr (inl calm)) = tt
then_fits told lines schedule start items text q behind next t reads started h (inr one) Fit f
    (inr (inl calm)) = turn_fits told schedule.conf.map q behind one.0 next one.1 one.2
    (calm_on told schedule.conf.map (player_of schedule) start items text q behind (calm, tt) h)
    one.3
then_fits told lines schedule start items text q behind next t reads started h is_text Fit f
    (inr (inr fit)) = f fit
