-- What was played is a run, with its restarts: of a router always, and of a shard whose records fit.
use Rattle.std.proofs.Common.{◌≡◌, ℕ, List, [], ◌∷◌, ◌++◌, Option, Some, None, refl, sym, subst}
use Rattle.chunk_map.specs.Map.{Map}
use Rattle.txn_model.specs.declared.ran.Ran.{Ran}
use Rattle.cluster_core.specs.Nodes.{Nodes}
use Rattle.cluster_core.specs.Trace.{Happens}
use Rattle.play_steps.specs.Player.{Player}
use Rattle.cluster_play.specs.Plays.{next_at, IsRun, PlaysTo, Turn}
use Rattle.restart_laws.specs.Restarts.{FitsAt, RestartsFit}
use Rattle.restart_laws.proofs.Chunks.{HaveMap, map_kept}
use Rattle.restart_laws.proofs.Runs.{happens}
use Rattle.played_laws.proofs.Parts.{plays_between, plays_one_more}

pub plays_run : (told : Type 0) (chunks : Map) (p : Player) (nodes : Nodes)
    (items : List (Option Ran)) (text : List ℕ) (q : Player) (behind : Nodes) → told
    → HaveMap chunks nodes.routers → (h : PlaysTo told chunks p nodes items text q behind)
    → RestartsFit told chunks p nodes items text q behind h → IsRun nodes items behind
plays_run told chunks p nodes [] text q behind t have h fits = ([], h.2)
plays_run told chunks p nodes (None ∷ items) text q behind t have h fits =
    let same : h.3 ≡ nodes = h.4.2.3 in
    subst (λ (x : Nodes). IsRun x items behind) same
    (plays_run told chunks h.2 h.3 items h.1 q behind t
    (subst (λ (x : Nodes). HaveMap chunks x.routers) (sym same) have) h.6 fits.1)
plays_run told chunks p nodes (Some ran ∷ items) text q behind t have h fits =
    let one : Happens nodes ran h.3 = happens told chunks nodes ran h.3 t have fits.0 h.4.2.1 in
    let more = plays_run told chunks h.2 h.3 items h.1 q behind t
    (map_kept chunks nodes ran h.3 one have) h.6 fits.1 in
    (nodes ∷ more.0, (refl, (h.3, one, more.1)))

-- Fronts, and one item more.

pub front_fits : (told : Type 0) (chunks : Map) (p : Player) (start : Nodes)
    (first rest : List (Option Ran)) (text : List ℕ) (q : Player) (behind : Nodes)
    (h : PlaysTo told chunks p start (first ++ rest) text q behind)
    → RestartsFit told chunks p start (first ++ rest) text q behind h
    → let b = plays_between told chunks p start first rest text q behind h in
    RestartsFit told chunks p start first b.front b.player b.nodes b.before
unfolding plays_between
front_fits told chunks p start [] rest text q behind h fits = tt
front_fits told chunks p start (item ∷ first) rest text q behind h fits =
    (fits.0, front_fits told chunks h.2 h.3 first rest h.1 q behind h.6 fits.1)

pub one_more_fits : (told : Type 0) (chunks : Map) (p : Player) (start : Nodes)
    (items : List (Option Ran)) (text : List ℕ) (q : Player) (mid : Nodes) (item : Option Ran)
    (more : List ℕ) (r : Player) (behind : Nodes)
    (h : PlaysTo told chunks p start items text q mid)
    (t : Turn told chunks (next_at chunks mid q) mid item more r behind)
    → RestartsFit told chunks p start items text q mid h → FitsAt mid item
    → RestartsFit told chunks p start (items ++ item ∷ []) (text ++ more) r behind
    (plays_one_more told chunks p start items text q mid item more r behind h t)
unfolding plays_one_more
one_more_fits told chunks p start [] text q mid item more r behind h t fits next =
    (subst (λ (n : Nodes). FitsAt n item) h.2 next, tt)
one_more_fits told chunks p start (one ∷ items) text q mid item more r behind h t fits next =
    (fits.0, one_more_fits told chunks h.2 h.3 items h.1 q mid item more r behind h.6 t fits.1 next)
