-- Two playings from the same nodes, where nothing outside fails, are one course.
use Rattle.std.proofs.Common.{◌≡◌, ◌≤◌, inl, inr, ℕ, List, [], ◌∷◌, ◌++◌, length, Option, Some}
use Rattle.std.proofs.Common.{None}
use Rattle.std.proofs.Common.{option_map, refl, sym, ap, subst, ◌∙◌, append_assoc, arith}
use Rattle.chunk_map.specs.Map.{Map}
use Rattle.txn_model.specs.declared.ran.Ran.{Ran}
use Rattle.txn_model.specs.declared.ran.Ran.TheVariants.{Step, Swapped}
use Rattle.txn_semantics.specs.declared.commits.Entry.{Entry}
use Rattle.cluster_core.specs.Nodes.{Nodes}
use Rattle.play_text.specs.Dump.{kept_by}
use Rattle.play_text.specs.Text.{dump_text}
use Rattle.play_steps.specs.declared.want.Want.{Want}
use Rattle.play_steps.specs.declared.want.Want.TheVariants as want
use Rattle.play_steps.specs.Player.{Player}
use Rattle.play_steps.specs.Lines.{Next, HaveNoRestart, next}
use Rattle.play_steps.specs.Steps.{given_of}
use Rattle.play_steps.proofs.Keeping.{AllAre, IsKept, Goes, answer_on}
use Rattle.play_steps.proofs.Calm.{IsNoRenew, stays_calm}
use Rattle.cluster_play.specs.declared.status.Status.{Status}
use Rattle.cluster_play.specs.declared.status.Status.TheVariants as status
use Rattle.cluster_play.specs.Steps.{status_at}
use Rattle.cluster_play.specs.Plays.{dump_at, next_at, Turn, PlaysTo, Plays}
use Rattle.course_laws.specs.Course.{AreUndisturbed, ran_uncounted, items_uncounted, AreSame}
use Rattle.course_laws.specs.Course.{HaveNothingInHand, BringsBack, RestartsBringBack}
use Rattle.course_laws.specs.Course.{AreRestored, GoesOn}
use Rattle.course_laws.proofs.Nodes.{same_commits}
use Rattle.course_laws.proofs.Alone.{AsksAlone, next_alone, answer_alone}
use Rattle.course_laws.proofs.Doing.{IsUnharmedItem, SameDone, does_once, ends_undone}
use Rattle.course_laws.proofs.Doing.{does_empty, does_keeps}

-- What holds of a player and of nodes all along.

abbrev Calm : Player → Type 0
Calm p = IsKept HaveNoRestart IsNoRenew p

pub record Going (p : Player) (nodes : Nodes) : Type 0 where
  pub alone : AsksAlone p
  pub none : HaveNothingInHand nodes

-- it is so before the first line
pub going_first : (p : Player) (nodes : Nodes) → p.queue ≡ [] → HaveNothingInHand nodes
    → Going p nodes
going_first p nodes empty none = record { alone = subst (AllAre _) (sym empty) tt; none = none }

goes_calm : (w : Want) (p : Player) → Goes HaveNoRestart IsNoRenew w p
    → ((s : Status) → status_at w ≡ Some s → ⊥) → Calm p
goes_calm (want.Event node happening) p on goes = on
goes_calm (want.Deliver number) p on goes = on
goes_calm (want.Renew node) p on goes = on.1
goes_calm want.End p on goes = absurd (goes status.Ok refl)
goes_calm (want.Bad line) p on goes = absurd (goes (status.BadLine line) refl)
goes_calm want.Spent p on goes = absurd (goes status.Budget refl)

module _ (told : Type 0) (chunks : Map) (p : Player) (nodes : Nodes) (item : Option Ran)
    (text : List ℕ) (q : Player) (behind : Nodes)
    (t : Turn told chunks (next_at chunks nodes p) nodes item text q behind) where
  calm_on : Calm p → Calm q
  calm_on calm =
      let n : Next = next_at chunks nodes p in
      let before : Calm n.2 = goes_calm n.1 n.2 (stays_calm (dump_at chunks nodes) p calm)
      (λ s is. ends_undone told chunks n.2 n.1 nodes item t.0 q behind s is t.2) in
      does_keeps Calm (λ x w a on. answer_on HaveNoRestart IsNoRenew x (given_of w) a on) told
      chunks n.2 n.1 nodes item t.0 q behind before t.2

  going_on : Going p nodes → IsUnharmedItem item → Going q behind
  going_on g well =
      let n : Next = next_at chunks nodes p in record {
        alone = does_keeps AsksAlone (λ x w a on. answer_alone x (given_of w) a on) told chunks n.2
            n.1 nodes item t.0 q behind (next_alone (dump_at chunks nodes) p g.alone).1 t.2;
        none = does_empty told chunks n.2 n.1 nodes item t.0 q behind g.none t.2 well;
      }

-- Restarts. Without one there is nothing to bring back.

calm_back : (told : Type 0) (chunks : Map) (p : Player) (nodes : Nodes) (item : Option Ran)
    (text : List ℕ) (q : Player) (behind : Nodes) → Calm p
    → Turn told chunks (next_at chunks nodes p) nodes item text q behind
    → BringsBack told nodes item
calm_back told chunks p nodes None text q behind calm t = tt
calm_back told chunks p nodes (Some (Step node e a faults)) text q behind calm t = tt
calm_back told chunks p nodes (Some (Swapped node)) text q behind calm t =
    let n : Next = next_at chunks nodes p in
    let goes : Goes HaveNoRestart IsNoRenew (want.Renew node) n.2 = subst (λ (w : Want).
    Goes HaveNoRestart IsNoRenew w n.2) t.2.0 (stays_calm (dump_at chunks nodes) p calm) in
    absurd goes.0

calm_brings : (told : Type 0) (chunks : Map) (p : Player) (start : Nodes)
    (items : List (Option Ran)) (text : List ℕ) (q : Player) (behind : Nodes)
    (h : PlaysTo told chunks p start items text q behind) → Calm p
    → RestartsBringBack told chunks p start items text q behind h
calm_brings told chunks p start [] text q behind h calm = tt
calm_brings told chunks p start (item ∷ items) text q behind h calm = (
  calm_back told chunks p start item h.0 h.2 h.3 calm h.4,
  calm_brings told chunks h.2 h.3 items h.1 q behind h.6
      (calm_on told chunks p start item h.0 h.2 h.3 h.4 calm),
)

pub bring_back : (told : Type 0) (chunks : Map) (p : Player) (start : Nodes)
    (items : List (Option Ran)) (text : List ℕ) (q : Player) (behind : Nodes)
    (h : PlaysTo told chunks p start items text q behind)
    → AreRestored told chunks p start items text q behind h
    → RestartsBringBack told chunks p start items text q behind h
bring_back told chunks p start items text q behind h (inl calm) =
    calm_brings told chunks p start items text q behind h
    (calm.0, subst (AllAre IsNoRenew) (sym calm.1) tt)
bring_back told chunks p start items text q behind h (inr back) = back

-- Turns.

pub next_same : (chunks : Map) (p : Player) (nodes others : Nodes) → AreSame nodes others
    → next_at chunks nodes p ≡ next_at chunks others p
next_same chunks p nodes others same = ap (λ (entries : List Entry).
    next (dump_text (kept_by chunks) entries) p) (same_commits nodes others same)

turn_once : (told : Type 0) (chunks : Map) (p : Player) (nodes others : Nodes)
    (item item' : Option Ran) (text text' : List ℕ) (q q' : Player) (behind behind' : Nodes)
    → Going p nodes → AreSame nodes others → BringsBack told nodes item
    → Turn told chunks (next_at chunks nodes p) nodes item text q behind → IsUnharmedItem item
    → Turn told chunks (next_at chunks others p) others item' text' q' behind'
    → IsUnharmedItem item' → SameDone item item' text text' q q' behind behind'
turn_once told chunks p nodes others item item' text text' q q' behind behind' g same back t well
    other well' =
    let n : Next = next_at chunks nodes p in
    let t' : Turn told chunks n others item' text' q' behind' =
    subst (λ (m : Next). Turn told chunks m others item' text' q' behind')
    (sym (next_same chunks p nodes others same)) other in
    let once = does_once told chunks n.2 n.1 nodes others item item' t.0 t'.0 q q' behind behind'
    (next_alone (dump_at chunks nodes) p g.alone).0 same g.none back t.2 well t'.2 well' in
    record {
      is = once.is;
      written = t.1 ∙ ap (λ (more : List ℕ). n.0 ++ more) once.written ∙ sym t'.1;
      player = once.player;
      nodes = once.nodes;
    }

parted : (item : Option Ran) (items : List (Option Ran)) → AreUndisturbed (item ∷ items)
    → IsUnharmedItem item × AreUndisturbed items
parted None items h = (tt, h)
parted (Some (Step node e a f)) items h = h
parted (Some (Swapped node)) items h = (tt, h)

-- The longer one goes on from the shorter one.

too_long : (item : Option Ran) (items : List (Option Ran)) → length (item ∷ items) ≤ 0 → ⊥
too_long item items few = omega (arith, few)

fewer : (item item' : Option Ran) (items items' : List (Option Ran))
    → length (item ∷ items) ≤ length (item' ∷ items') → length items ≤ length items'
fewer item item' items items' few = omega (arith, few)

pub course_goes_on : (told : Type 0) (chunks : Map) (p q q' : Player) (nodes others : Nodes)
    (items items' : List (Option Ran)) (text text' : List ℕ) (behind behind' : Nodes)
    → Going p nodes → AreSame nodes others
    → (h : PlaysTo told chunks p nodes items text q behind)
    → RestartsBringBack told chunks p nodes items text q behind h → AreUndisturbed items
    → PlaysTo told chunks p others items' text' q' behind' → AreUndisturbed items'
    → length items ≤ length items'
    → GoesOn told chunks items items' text text' q q' behind behind'
course_goes_on told chunks p q q' nodes others [] items' text text' behind behind' g same h back
    well h' well' few =
    record {
      more = items';
      rest = text';
      are = refl;
      written = sym (ap (λ (t : List ℕ). t ++ text') h.0);
      nodes = others;
      same = subst (λ (x : Nodes). AreSame others x) (sym h.2) (sym same);
      plays = subst (λ (x : Player). PlaysTo told chunks x others items' text' q' behind')
          (sym h.1) h';
    }
course_goes_on told chunks p q q' nodes others (item ∷ items) [] text text' behind behind' g same
    h back well h' well' few = absurd (too_long item items few)
course_goes_on told chunks p q q' nodes others (item ∷ items) (item' ∷ items') text text' behind
    behind' g same h back well h' well' few =
    let parts = parted item items well in
    let parts' = parted item' items' well' in
    let once = turn_once told chunks p nodes others item item' h.0 h'.0 h.2 h'.2 h.3 h'.3 g same
    back.0 h.4 parts.0 h'.4 parts'.0 in
    let later : PlaysTo told chunks h.2 h'.3 items' h'.1 q' behind' = subst (λ (x : Player).
    PlaysTo told chunks x h'.3 items' h'.1 q' behind') (sym once.player) h'.6 in
    let rest = course_goes_on told chunks h.2 q q' h.3 h'.3 items items' h.1 h'.1 behind behind'
    (going_on told chunks p nodes item h.0 h.2 h.3 h.4 g parts.0) once.nodes h.6 back.1 parts.1
    later parts'.1 (fewer item item' items items' few) in
    record {
      more = rest.more;
      rest = rest.rest;
      are = ap (λ (x : Option Ran). x ∷ items_uncounted items') (sym once.is)
          ∙ ap (λ (xs : List (Option Ran)). option_map ran_uncounted item ∷ xs) rest.are;
      written = h'.5 ∙ ap (λ (t : List ℕ). t ++ h'.1) (sym once.written)
          ∙ ap (λ (t : List ℕ). h.0 ++ t) rest.written
          ∙ sym (append_assoc h.0 h.1 rest.rest)
          ∙ ap (λ (t : List ℕ). t ++ rest.rest) (sym h.5);
      nodes = rest.nodes;
      same = rest.same;
      plays = rest.plays;
    }

-- Two that come to an end are the same.

abbrev pub AtEnd : Map → Player → Nodes → Status → Type 0
AtEnd chunks q behind s = status_at (next_at chunks behind q).1 ≡ Some s

pub record OneCourse (items items' : List (Option Ran)) (text text' : List ℕ) (q q' : Player)
    (behind behind' : Nodes) : Type 0 where
  pub are : items_uncounted items ≡ items_uncounted items'
  pub written : text ≡ text'
  pub player : q ≡ q'
  pub nodes : AreSame behind behind'

-- where one is at its end, the other goes no further
over : (told : Type 0) (chunks : Map) (p q q' : Player) (nodes others behind behind' : Nodes)
    (item : Option Ran) (items : List (Option Ran)) (text text' : List ℕ) (s : Status)
    → AreSame nodes others → PlaysTo told chunks p nodes [] text q behind
    → AtEnd chunks q behind s → PlaysTo told chunks p others (item ∷ items) text' q' behind' → ⊥
over told chunks p q q' nodes others behind behind' item items text text' s same h end h' =
    let at : AtEnd chunks p nodes s = subst (λ (x : Player). AtEnd chunks x nodes s) h.1
    (subst (λ (x : Nodes). AtEnd chunks q x s) h.2 end) in
    let other : AtEnd chunks p others s = subst (λ (n : Next). status_at n.1 ≡ Some s)
    (next_same chunks p nodes others same) at in
    let n : Next = next_at chunks others p in
    ends_undone told chunks n.2 n.1 others item h'.4.0 h'.2 h'.3 s other h'.4.2

pub course_once : (told : Type 0) (chunks : Map) (p q q' : Player) (nodes others : Nodes)
    (items items' : List (Option Ran)) (text text' : List ℕ) (behind behind' : Nodes)
    (s s' : Status) → Going p nodes → AreSame nodes others
    → (h : PlaysTo told chunks p nodes items text q behind)
    → RestartsBringBack told chunks p nodes items text q behind h → AreUndisturbed items
    → AtEnd chunks q behind s
    → PlaysTo told chunks p others items' text' q' behind' → AreUndisturbed items'
    → AtEnd chunks q' behind' s' → OneCourse items items' text text' q q' behind behind'
course_once told chunks p q q' nodes others [] [] text text' behind behind' s s' g same h back well
    end h' well' end' = record {
      are = refl;
      written = h.0 ∙ sym h'.0;
      player = h.1 ∙ sym h'.1;
      nodes = subst (λ (x : Nodes). AreSame x behind') (sym h.2)
          (subst (λ (x : Nodes). AreSame nodes x) (sym h'.2) same);
    }
course_once told chunks p q q' nodes others [] (item ∷ items) text text' behind behind' s s' g
    same h back well end h' well' end' = absurd (over told chunks p q q' nodes others behind
    behind' item items text text' s same h end h')
course_once told chunks p q q' nodes others (item ∷ items) [] text text' behind behind' s s' g
    same h back well end h' well' end' = absurd (over told chunks p q' q others nodes behind'
    behind item items text' text s' (sym same) h' end' h)
course_once told chunks p q q' nodes others (item ∷ items) (item' ∷ items') text text' behind
    behind' s s' g same h back well end h' well' end' =
    let parts = parted item items well in
    let parts' = parted item' items' well' in
    let once = turn_once told chunks p nodes others item item' h.0 h'.0 h.2 h'.2 h.3 h'.3 g same
    back.0 h.4 parts.0 h'.4 parts'.0 in
    let later : PlaysTo told chunks h.2 h'.3 items' h'.1 q' behind' = subst (λ (x : Player).
    PlaysTo told chunks x h'.3 items' h'.1 q' behind') (sym once.player) h'.6 in
    let rest = course_once told chunks h.2 q q' h.3 h'.3 items items' h.1 h'.1 behind behind' s s'
    (going_on told chunks p nodes item h.0 h.2 h.3 h.4 g parts.0) once.nodes h.6 back.1 parts.1 end
    later parts'.1 end' in
    record {
      are = ap (λ (x : Option Ran). x ∷ items_uncounted items) once.is
          ∙ ap (λ (xs : List (Option Ran)). option_map ran_uncounted item' ∷ xs) rest.are;
      written = h.5 ∙ ap (λ (t : List ℕ). t ++ h.1) once.written
          ∙ ap (λ (t : List ℕ). h'.0 ++ t) rest.written ∙ sym h'.5;
      player = rest.player;
      nodes = rest.nodes;
    }

-- So are their texts and what comes last.

pub record OnePlaying (items items' : List (Option Ran)) (text text' : List ℕ)
    (last last' : Want) (behind behind' : Nodes) : Type 0 where
  pub are : items_uncounted items ≡ items_uncounted items'
  pub written : text ≡ text'
  pub nodes : AreSame behind behind'
  pub same : last ≡ last'

pub plays_once : (told : Type 0) (chunks : Map) (p : Player) (nodes others : Nodes)
    (last last' : Want) (s s' : Status) (items items' : List (Option Ran)) (text text' : List ℕ)
    (behind behind' : Nodes) → Going p nodes → AreSame nodes others
    → (h : Plays told chunks last p nodes items text behind)
    → AreRestored told chunks p nodes items h.front h.player behind h.turns → AreUndisturbed items
    → status_at last ≡ Some s
    → Plays told chunks last' p others items' text' behind' → AreUndisturbed items'
    → status_at last' ≡ Some s'
    → OnePlaying items items' text text' last last' behind behind'
plays_once told chunks p nodes others last last' s s' items items' text text' behind behind' g same
    h restored well ends h' well' ends' =
    let end : AtEnd chunks h.player behind s = ap status_at h.comes ∙ ends in
    let end' : AtEnd chunks h'.player behind' s' = ap status_at h'.comes ∙ ends' in
    let back = bring_back told chunks p nodes items h.front h.player behind h.turns restored in
    let once = course_once told chunks p h.player h'.player nodes others items items' h.front
    h'.front behind behind' s s' g same h.turns back well end h'.turns well' end' in
    let comes : next_at chunks behind h.player ≡ next_at chunks behind' h'.player =
    next_same chunks h.player behind behind' once.nodes
    ∙ ap (next_at chunks behind') once.player in
    record {
      are = once.are;
      written = h.is ∙ ap (λ (t : List ℕ). t ++ (next_at chunks behind h.player).0) once.written
          ∙ ap (λ (n : Next). h'.front ++ n.0) comes ∙ sym h'.is;
      nodes = once.nodes;
      same = sym h.comes ∙ ap (λ (n : Next). n.1) comes ∙ h'.comes;
    }
