-- Turns one after the other.
use Rattle.std.proofs.Common.{◌≡◌, ◌<◌, ℕ, List, [], ◌∷◌, ◌++◌, Option, Some, None, inl, refl, sym}
use Rattle.std.proofs.Common.{ap, subst, ◌∙◌, append_assoc}
use Rattle.std.proofs.lemmas.List.{append-nil}
use Rattle.outside_core.specs.Bytes.{Went, WentInPart}
use Rattle.outside_core.proofs.Steps.{went_more, went_none}
use Rattle.chunk_map.specs.Map.{Map}
use Rattle.txn_model.specs.declared.ran.Ran.{Ran}
use Rattle.txn_types.specs.declared.node.NodeId.TheVariants.{Shard, Router}
use Rattle.cluster_core.specs.Nodes.{Nodes}
use Rattle.cluster_world.specs.World.{AsMany}
use Rattle.play_steps.specs.declared.want.Want.{Want}
use Rattle.play_steps.specs.declared.want.Want.TheVariants.{Renew}
use Rattle.play_steps.specs.Player.{Player}
use Rattle.cluster_play.specs.declared.status.Status.{Status}
use Rattle.cluster_play.specs.declared.stop.Stop.{Stop}
use Rattle.cluster_play.specs.declared.stop.Stop.TheVariants as stop
use Rattle.cluster_play.specs.Plays.{next_at, Turn, PlaysTo}
use Rattle.cluster_play.specs.Ended.{Written, IsTurnText, CutShort}
use Rattle.cluster_play.specs.Steps.{StopLeaves, TurnedTo, TurnStops, PlaysUpTo, PlayStops}
use Rattle.cluster_play.proofs.Texts.{went_parts, part_all, part_none}
use Rattle.cluster_play.proofs.Running.{calm_run}

pub played_none : (told : Type 0) (chunks : Map) (p : Player) (nodes : Nodes)
    → PlaysTo told chunks p nodes [] [] p nodes
played_none told chunks p nodes = (refl, refl, refl)

-- one more turn
pub played_more : (told : Type 0) (chunks : Map) (p q r : Player) (nodes mid behind : Nodes)
    (items : List (Option Ran)) (item : Option Ran) (text more : List ℕ)
    → PlaysTo told chunks p nodes items text q mid
    → Turn told chunks (next_at chunks mid q) mid item more r behind
    → PlaysTo told chunks p nodes (items ++ item ∷ []) (text ++ more) r behind
played_more told chunks p q r nodes mid behind [] item text more h t =
    let at_player : Turn told chunks (next_at chunks mid p) mid item more r behind = subst
    (λ (x : Player). Turn told chunks (next_at chunks mid x) mid item more r behind) h.1 t in
    let at_nodes : Turn told chunks (next_at chunks nodes p) nodes item more r behind = subst
    (λ (x : Nodes). Turn told chunks (next_at chunks x p) x item more r behind) h.2 at_player in
    let is : text ++ more ≡ more ++ [] = ap (λ (l : List ℕ). l ++ more) h.0
    ∙ sym (append-nil more) in
    (more, [], r, behind, at_nodes, is, (refl, refl, refl))
played_more told chunks p q r nodes mid behind (first ∷ items) item text more h t =
    let is : text ++ more ≡ h.0 ++ (h.1 ++ more) = ap (λ (l : List ℕ). l ++ more) h.5
    ∙ append_assoc h.0 h.1 more in (
      h.0,
      h.1 ++ more,
      h.2,
      h.3,
      h.4,
      is,
      played_more told chunks h.2 q r h.3 mid behind items item h.1 more h.6 t,
    )

-- A playing so far: its turns, and their text, which was written.
pub record Progress (told : Type 0) (chunks : Map) (p : Player) (nodes : Nodes)
    (held : Option (List ℕ)) (q : Player) (mid : Nodes) (held' : Option (List ℕ)) : Type 0 where
  pub items : List (Option Ran)
  pub text : List ℕ
  pub turns : PlaysTo told chunks p nodes items text q mid
  pub went : Went held held' text

pub progress_none : (told : Type 0) (chunks : Map) (p : Player) (nodes : Nodes)
    (held : Option (List ℕ)) → Progress told chunks p nodes held p nodes held
progress_none told chunks p nodes held =
    record { items = []; text = []; turns = played_none told chunks p nodes; went = went_none held }

pub progress_more : (told : Type 0) (chunks : Map) (p q r : Player) (nodes mid behind : Nodes)
    (held held1 held2 : Option (List ℕ))
    → Progress told chunks p nodes held q mid held1
    → TurnedTo told chunks q mid held1 held2 r behind None
    → Progress told chunks p nodes held r behind held2
progress_more told chunks p q r nodes mid behind held held1 held2 h t = record {
  items = h.items ++ t.0 ∷ [];
  text = h.text ++ t.1;
  turns = played_more told chunks p q r nodes mid behind h.items t.0 h.text t.1 h.turns t.2;
  went = went_more held held1 held2 h.text t.1 h.went t.3;
}

-- what comes next isn't played: its text is the last
pub progress_last : (told : Type 0) (chunks : Map) (p q : Player) (nodes mid : Nodes)
    (held held1 held2 : Option (List ℕ)) (last : Want)
    → Progress told chunks p nodes held q mid held1 → (next_at chunks mid q).1 ≡ last
    → Went held1 held2 (next_at chunks mid q).0 → Written told chunks last p nodes held held2
progress_last told chunks p q nodes mid held held1 held2 last h comes went = record {
  items = h.items;
  text = h.text ++ (next_at chunks mid q).0;
  behind = mid;
  plays = record { front = h.text; player = q; turns = h.turns; comes = comes; is = refl };
  run = λ calm. calm_run told chunks p nodes h.items h.text q mid calm h.turns;
  went = went_more held held1 held2 h.text (next_at chunks mid q).0 h.went went;
}

pub progress_ends : (told : Type 0) (chunks : Map) (p q r : Player) (nodes mid behind : Nodes)
    (held held1 held2 : Option (List ℕ)) (status : Status)
    → Progress told chunks p nodes held q mid held1
    → TurnedTo told chunks q mid held1 held2 r behind (Some status)
    → PlaysUpTo told chunks p nodes held held2 status
progress_ends told chunks p q r nodes mid behind held held1 held2 status h t =
    record {
      last = (next_at chunks mid q).1;
      ends = t.0;
      written = progress_last told chunks p q nodes mid held held1 held2 (next_at chunks mid
          q).1 h refl t.1;
    }

pub progress_cut : (told : Type 0) (chunks : Map) (p q : Player) (nodes mid : Nodes)
    (held held1 held2 : Option (List ℕ)) (text : List ℕ)
    → Progress told chunks p nodes held q mid held1 → IsTurnText told chunks q mid text
    → WentInPart held1 held2 text → CutShort told chunks p nodes held held2
progress_cut told chunks p q nodes mid held held1 held2 text h is part =
    record {
      items = h.items;
      text = h.text;
      player = q;
      nodes = mid;
      turns = h.turns;
      run = λ calm. calm_run told chunks p nodes h.items h.text q mid calm h.turns;
      between = held1;
      went = h.went;
      next = text;
      is_text = is;
      part = part;
    }

pub progress_stops : {D : Type 0} (told : Type 0) (chunks : Map) (p q : Player) (nodes mid : Nodes)
    (held held1 held2 : Option (List ℕ)) (s : Stop D)
    → Progress told chunks p nodes held q mid held1 → TurnStops told chunks q mid held1 held2 s
    → PlayStops told chunks p nodes held held2 s
progress_stops told chunks p q nodes mid held held1 held2 (stop.Cut cut) h t =
    progress_cut told chunks p q nodes mid held held1 held2 t.0 h t.1 t.2
progress_stops told chunks p q nodes mid held held1 held2 (stop.Lone node error disk) h t =
    progress_last told chunks p q nodes mid held held1 held2 (Renew node) h t.0 t.1

-- the nodes after a stop
pub stops_later : {D : Type 0} (old mid new : Nodes) (s : Stop D) → AsMany old mid
    → StopLeaves s mid new → StopLeaves s old new
stops_later old mid new (stop.Cut cut) a b =
    record { shards = b.shards ∙ a.shards; routers = b.routers ∙ a.routers }
stops_later old mid new (stop.Lone (Shard n) error disk) a b =
    (subst (λ (k : ℕ). n < k) a.shards b.0, (b.1.0 ∙ a.shards, b.1.1 ∙ a.routers))
stops_later old mid new (stop.Lone (Router n) error disk) a b =
    (subst (λ (k : ℕ). n < k) a.routers b.0, (b.1.0 ∙ a.shards, b.1.1 ∙ a.routers))

-- where nothing is written any more, the whole text was
pub written_cut : (told : Type 0) (chunks : Map) (last : Want) (p : Player) (nodes : Nodes)
    (held held' : Option (List ℕ)) → Written told chunks last p nodes held held'
    → CutShort told chunks p nodes held held'
written_cut told chunks last p nodes held held' w =
    let n = (next_at chunks w.behind w.plays.player).0 in
    let parts = went_parts held held' w.plays.front n (subst (λ (l : List ℕ). Went held held' l)
    w.plays.is w.went) in
    record {
      items = w.items;
      text = w.plays.front;
      player = w.plays.player;
      nodes = w.behind;
      turns = w.plays.turns;
      run = w.run;
      between = parts.0;
      went = parts.1;
      next = n;
      is_text = inl refl;
      part = part_all parts.0 held' n parts.2;
    }

-- nothing was played yet
pub never_begun : (told : Type 0) (chunks : Map) (p : Player) (nodes : Nodes)
    (held : Option (List ℕ)) → CutShort told chunks p nodes held held
never_begun told chunks p nodes held =
    progress_cut told chunks p p nodes nodes held held held (next_at chunks nodes p).0
    (progress_none told chunks p nodes held) (inl refl)
    (part_none held (next_at chunks nodes p).0)
