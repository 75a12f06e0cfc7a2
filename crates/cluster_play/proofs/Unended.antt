-- What was read in part doesn't end well: behind it stands an empty line, which asks nothing.
use Rattle.std.proofs.Common.{◌≡◌, ℕ, Bool, true, false, cond, List, [], ◌∷◌, ◌++◌, Option}
use Rattle.std.proofs.Common.{Some, None, option_map, Result, Ok, Err, refl, sym, ap, subst, ◌∙◌}
use Rattle.std.specs.Str.{bytes_eq}
use Rattle.chunk_map.specs.Map.{Map}
use Rattle.cluster_conf.specs.Conf.{Settings}
use Rattle.txn_model.specs.declared.ran.Ran.{Ran}
use Rattle.cluster_core.specs.Nodes.{Nodes}
use Rattle.play_script.specs.Input.{AreWhole}
use Rattle.play_script.specs.Lines.{lines_of}
use Rattle.play_script.specs.declared.input.End.{End}
use Rattle.play_script.specs.declared.input.End.TheVariants.{Whole, LongLine, ManyLines}
use Rattle.play_script.proofs.LineParts.{lines_of-nil, lines_of-ended, lines_of-append}
use Rattle.play_steps.specs.declared.want.Want.{Want}
use Rattle.play_steps.specs.declared.want.Want.TheVariants as want
use Rattle.play_steps.specs.Player.{Player}
use Rattle.play_steps.proofs.Keeping.{IsKept, Goes}
use Rattle.play_steps.proofs.Unended.{EndEmpty, IsNoEnd, never_ends}
use Rattle.cluster_play.specs.declared.status.Status.{Status}
use Rattle.cluster_play.specs.declared.status.Status.TheVariants as status
use Rattle.cluster_play.specs.Schedule.{Schedule, bytes_played, marker, up_to_marker}
use Rattle.cluster_play.specs.Schedule.{marked_by, settings_in, behind_conf, enclosed, unmarked}
use Rattle.cluster_play.specs.Schedule.{schedule_of, player_of}
use Rattle.cluster_play.specs.Plays.{dump_at, next_at, Plays}
use Rattle.cluster_play.specs.Ended.{Ended}
use Rattle.cluster_play.proofs.Running.{plays_on}

-- The lines of a schedule.

ends_behind : (lines : List (List ℕ)) → EndEmpty (lines ++ [] ∷ [])
ends_behind [] = refl
ends_behind (l ∷ []) = refl
ends_behind (l ∷ m ∷ lines) = ends_behind (m ∷ lines)

-- the parts in front of a marker and behind it
abbrev Parts : Type 0
Parts = List (List ℕ) × List (List ℕ)

not_some : (parts : Parts) → ◌≡◌ {A = Option Parts} None (Some parts) → ⊥
not_some parts is = cc

behind_parts : (parts : Parts) (o : Option Parts) (l : List ℕ)
    → option_map (λ (x : Parts). (l ∷ x.0, x.1)) o ≡ Some parts
    → (before : Parts) × (o ≡ Some before) × (before.1 ≡ parts.1)
behind_parts parts None l is = absurd (not_some parts is)
behind_parts parts (Some x) l is =
    (x, refl, ap (λ (o : Option Parts). elim o [ Some y ↦ y.1 | None ↦ parts.1 ]) is)

marked_at : (b : Bool) (l : List ℕ) (lines : List (List ℕ)) (o : Option Parts) (parts : Parts)
    → EndEmpty lines → ((x : Parts) → o ≡ Some x → EndEmpty x.1)
    → cond b (Some ([], lines)) (option_map (λ (x : Parts). (l ∷ x.0, x.1)) o) ≡ Some parts
    → EndEmpty parts.1
marked_at true l lines o parts ends more is =
    subst EndEmpty (ap (λ (x : Option Parts). elim x [ Some y ↦ y.1 | None ↦ lines ]) is) ends
marked_at false l lines o parts ends more is =
    let found = behind_parts parts o l is in subst EndEmpty found.2 (more found.0 found.1)

-- a last line that is empty is no marker
last_parts : (l : List ℕ) (parts : Parts) → l ≡ [] → up_to_marker (l ∷ []) ≡ Some parts → ⊥
last_parts l parts empty is = not_some parts (sym (ap (λ (x : List ℕ). up_to_marker (x ∷ []))
    empty) ∙ is)

behind_marker : (lines : List (List ℕ)) (parts : Parts) → EndEmpty lines
    → up_to_marker lines ≡ Some parts → EndEmpty parts.1
behind_marker [] parts ends is = absurd ends
behind_marker (l ∷ []) parts ends is = absurd (last_parts l parts ends is)
behind_marker (l ∷ m ∷ lines) parts ends is =
    marked_at (bytes_eq l marker) l (m ∷ lines) (up_to_marker (m ∷ lines)) parts ends
    (λ x found. behind_marker (m ∷ lines) x ends found) is

not_ok : (e : Status) (s : Schedule) → ◌≡◌ {A = Result Schedule Status} (Err e) (Ok s) → ⊥
not_ok e s is = cc

conf_lines : (taken : ℕ) (lines : List (List ℕ)) (r : Result Settings Status) (s : Schedule)
    → behind_conf taken lines r ≡ Ok s → s.lines ≡ lines
conf_lines taken lines (Ok conf) s is =
    ap (λ (x : Result Schedule Status). elim x [ Ok y ↦ y.lines | Err e ↦ lines ]) (sym is)
conf_lines taken lines (Err e) s is = absurd (not_ok e s is)

enclosed_on : (o : Option Parts) (s : Schedule) → ((x : Parts) → o ≡ Some x → EndEmpty x.1)
    → enclosed (option_map marked_by o) ≡ Ok s → EndEmpty s.lines
enclosed_on None s more is = absurd (not_ok (status.BadLine 1) s is)
enclosed_on (Some x) s more is = subst EndEmpty (sym (conf_lines (marked_by x).taken x.1
    (settings_in (marked_by x).text) s is)) (more x refl)

unmarked_on : (lines : List (List ℕ)) (s : Schedule) → EndEmpty lines
    → ◌≡◌ {A = Result Schedule Status} (Ok (unmarked lines)) (Ok s) → EndEmpty s.lines
unmarked_on lines s ends is = subst EndEmpty
    (ap (λ (x : Result Schedule Status). elim x [ Ok y ↦ y.lines | Err e ↦ lines ]) is) ends

schedule_by : (b : Bool) (lines rest : List (List ℕ)) (s : Schedule) → EndEmpty lines
    → ((x : Parts) → up_to_marker rest ≡ Some x → EndEmpty x.1)
    → cond b (enclosed (option_map marked_by (up_to_marker rest))) (Ok (unmarked lines)) ≡ Ok s
    → EndEmpty s.lines
schedule_by true lines rest s ends more is = enclosed_on (up_to_marker rest) s more is
schedule_by false lines rest s ends more is = unmarked_on lines s ends is

schedule_on : (lines : List (List ℕ)) (s : Schedule) → EndEmpty lines → schedule_of lines ≡ Ok s
    → EndEmpty s.lines
schedule_on [] s ends is = absurd ends
schedule_on (l ∷ []) s ends is =
    schedule_by (bytes_eq l marker) (l ∷ []) [] s ends (λ x found. absurd (not_some x found)) is
schedule_on (l ∷ m ∷ lines) s ends is =
    schedule_by (bytes_eq l marker) (l ∷ m ∷ lines) (m ∷ lines) s ends
    (λ x found. behind_marker (m ∷ lines) x ends found) is

-- Turns.

plays_not : (told : Type 0) (chunks : Map) (p : Player) (nodes : Nodes) (items : List (Option Ran))
    (text : List ℕ) (behind : Nodes) → IsKept EndEmpty IsNoEnd p
    → Plays told chunks want.End p nodes items text behind → ⊥
plays_not told chunks p nodes items text behind on pl =
    subst (λ (w : Want). Goes EndEmpty IsNoEnd w (next_at chunks behind pl.player).2) pl.comes
    (never_ends (dump_at chunks behind) pl.player (plays_on EndEmpty IsNoEnd never_ends told chunks
    p nodes items pl.front pl.player behind on pl.turns))

-- The whole.

ends_not : (told : Type 0) (lines : List (List ℕ)) (held held' : Option (List ℕ)) → EndEmpty lines
    → Ended told lines held held' status.Ok → ⊥
ends_not told lines held held' ends e =
    plays_not told e.schedule.conf.map (player_of e.schedule) e.start e.played.items e.played.text
    e.played.behind (schedule_on lines e.schedule ends e.reads, tt) e.played.plays

-- the line in place of what wasn't read
line_behind : (bytes : List ℕ) → AreWhole bytes → EndEmpty (lines_of (bytes ++ 10 ∷ []))
line_behind bytes whole =
    let empty : lines_of (10 ∷ []) ≡ [] ∷ [] =
    lines_of-ended [] [] refl ∙ ap (λ (l : List (List ℕ)). [] ∷ l) lines_of-nil in
    subst EndEmpty (sym (lines_of-append bytes (10 ∷ []) whole
    ∙ ap (λ (l : List (List ℕ)). lines_of bytes ++ l) empty)) (ends_behind (lines_of bytes))

pub whole_alone : (told : Type 0) (bytes : List ℕ) (end : End) (held held' : Option (List ℕ))
    (s : Status) → AreWhole bytes → Ended told (lines_of (bytes_played bytes end)) held held' s
    → s ≡ status.Ok → end ≡ Whole
whole_alone told bytes Whole held held' s whole e is = refl
whole_alone told bytes LongLine held held' s whole e is =
    let lines = lines_of (bytes_played bytes LongLine) in
    absurd (ends_not told lines held held' (line_behind bytes whole)
    (subst (Ended told lines held held') is e))
whole_alone told bytes ManyLines held held' s whole e is =
    let lines = lines_of (bytes_played bytes ManyLines) in
    absurd (ends_not told lines held held' (line_behind bytes whole)
    (subst (Ended told lines held held') is e))
