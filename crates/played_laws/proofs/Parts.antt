-- What was played, in two parts; and with one item more.
use Rattle.std.proofs.Common.{ℕ, List, [], ◌∷◌, ◌++◌, Option, refl, sym, ap, subst, ◌∙◌}
use Rattle.std.proofs.lemmas.List.{append-nil, append_assoc}
use Rattle.chunk_map.specs.Map.{Map}
use Rattle.txn_model.specs.declared.ran.Ran.{Ran}
use Rattle.cluster_core.specs.Nodes.{Nodes}
use Rattle.play_steps.specs.Player.{Player}
use Rattle.cluster_play.specs.Plays.{next_at, PlaysTo, Turn}
use Rattle.played_laws.specs.Throughout.{PlaysBetween}

unfoldable pub plays_between : (told : Type 0) (chunks : Map) (p : Player) (start : Nodes)
    (first rest : List (Option Ran)) (text : List ℕ) (q : Player) (behind : Nodes)
    → PlaysTo told chunks p start (first ++ rest) text q behind
    → PlaysBetween told chunks p start first rest text q behind
plays_between told chunks p start [] rest text q behind h =
    record {
      front = [];
      more = text;
      player = p;
      nodes = start;
      before = (refl, refl, refl);
      after = h;
      is = refl;
    }
plays_between told chunks p start (item ∷ first) rest text q behind h =
    let b = plays_between told chunks h.2 h.3 first rest h.1 q behind h.6 in
    record {
      front = h.0 ++ b.front;
      more = b.more;
      player = b.player;
      nodes = b.nodes;
      before = (h.0, b.front, h.2, h.3, h.4, refl, b.before);
      after = b.after;
      is = h.5 ∙ ap (λ (l : List ℕ). h.0 ++ l) b.is ∙ sym (append_assoc h.0 b.front b.more);
    }

unfoldable pub plays_one_more : (told : Type 0) (chunks : Map) (p : Player) (start : Nodes)
    (items : List (Option Ran)) (text : List ℕ) (q : Player) (mid : Nodes) (item : Option Ran)
    (more : List ℕ) (r : Player) (behind : Nodes)
    → PlaysTo told chunks p start items text q mid
    → Turn told chunks (next_at chunks mid q) mid item more r behind
    → PlaysTo told chunks p start (items ++ item ∷ []) (text ++ more) r behind
plays_one_more told chunks p start [] text q mid item more r behind h t =
    let at_nodes : Turn told chunks (next_at chunks start q) start item more r behind =
    subst (λ (n : Nodes). Turn told chunks (next_at chunks n q) n item more r behind) h.2 t in
    let at_player : Turn told chunks (next_at chunks start p) start item more r behind =
    subst (λ (x : Player). Turn told chunks (next_at chunks start x) start item more r behind)
    h.1 at_nodes in (
      more,
      [],
      r,
      behind,
      at_player,
      ap (λ (l : List ℕ). l ++ more) h.0 ∙ sym (append-nil more),
      (refl, refl, refl),
    )
plays_one_more told chunks p start (one ∷ items) text q mid item more r behind h t = (
  h.0,
  h.1 ++ more,
  h.2,
  h.3,
  h.4,
  ap (λ (l : List ℕ). l ++ more) h.5 ∙ append_assoc h.0 h.1 more,
  plays_one_more told chunks h.2 h.3 items h.1 q mid item more r behind h.6 t,
)
