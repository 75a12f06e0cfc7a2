-- A schedule as it is read: the configuration in front of it, and the lines after that.
use Rattle.std.specs.Prelude.{ℕ, ◌+◌, Bool, true, false, List, [], ◌∷◌, ◌++◌, codes, flat_map}
use Rattle.std.specs.Prelude.{length, Option, Some, None, option_map, Result, Ok, Err}
use Rattle.std.specs.Prelude.{if◌then◌else◌}
use Rattle.std.specs.Str.{bytes_eq, is_utf8}
use Rattle.outcomes.specs.Outcome as outcome
use Rattle.cluster_conf.specs.Conf.{Settings, conf_of, plain}
use Rattle.cluster_conf.specs.declared.conf.ConfErr.{ConfErr}
use Rattle.play_script.specs.declared.input.End.{End}
use Rattle.play_script.specs.declared.input.End.TheVariants.{Whole, LongLine, ManyLines}
use Rattle.play_steps.specs.Player.{Player, first_player}
use Rattle.cluster_play.specs.declared.status.Status.{Status}
use Rattle.cluster_play.specs.declared.status.Status.TheVariants as status

-- The bytes whose lines are played: all of the input; or the lines in front of one that is too long
-- to be a line, or the first 10,000,000 of more, and an empty line in place of the rest.
abbrev pub bytes_played : List ℕ → End → List ℕ
bytes_played bytes Whole = bytes
bytes_played bytes LongLine = bytes ++ 10 ∷ []
bytes_played bytes ManyLines = bytes ++ 10 ∷ []

-- results of reading a configuration, up to out of memory

abbrev pub is_memory : Status → Bool
is_memory status.Memory = true
is_memory other = false

abbrev pub Gives : {X Y : Type 0} → (X → Y) → Result X Status → Result Y Status → Type 0
Gives view result defined = outcome.Gives is_memory view result defined

-- a configuration, how many lines it takes, and the lines after it
pub record Schedule : Type 0 where
  pub conf : Settings
  pub taken : ℕ
  pub lines : List (List ℕ)

-- the line in front of a configuration, and after it
abbrev pub marker : List ℕ
marker = codes "+++"

-- the lines in front of the next marker, and those after it
abbrev pub up_to_marker : List (List ℕ) → Option (List (List ℕ) × List (List ℕ))
up_to_marker [] = None
up_to_marker (l ∷ lines) = if bytes_eq l marker then Some ([], lines)
    else option_map (λ parts. (l ∷ parts.0, parts.1)) (up_to_marker lines)

-- the text between two markers, how many lines it has with both, and the lines after that
pub record MarkedLines : Type 0 where
  pub text : List ℕ
  pub taken : ℕ
  pub lines : List (List ℕ)

-- lines as a text
abbrev pub text_of : List (List ℕ) → List ℕ
text_of lines = flat_map (λ l. l ++ 10 ∷ []) lines

abbrev pub marked_by : List (List ℕ) × List (List ℕ) → MarkedLines
marked_by parts = record { text = text_of parts.0; taken = length parts.0 + 2; lines = parts.1 }

abbrev pub settings_by : Result Settings ConfErr → Result Settings Status
settings_by (Ok conf) = Ok conf
settings_by (Err e) = Err status.BadConf

-- the configuration that a text is
abbrev pub settings_in : List ℕ → Result Settings Status
settings_in text = if is_utf8 text then settings_by (conf_of text) else Err status.BadConf

abbrev pub behind_conf : ℕ → List (List ℕ) → Result Settings Status → Result Schedule Status
behind_conf taken lines (Ok conf) = Ok (record { conf = conf; taken = taken; lines = lines })
behind_conf taken lines (Err why) = Err why

-- a configuration has an end; without it the first line is at fault
abbrev pub enclosed : Option MarkedLines → Result Schedule Status
enclosed None = Err (status.BadLine 1)
enclosed (Some m) = behind_conf m.taken m.lines (settings_in m.text)

abbrev pub unmarked : List (List ℕ) → Schedule
unmarked lines = record { conf = plain; taken = 0; lines = lines }

-- The schedule that lines are, or why they are none: where the first is a marker, those up to the
-- next one are the configuration, in TOML 1.0.
abbrev pub schedule_of : List (List ℕ) → Result Schedule Status
schedule_of [] = Ok (unmarked [])
schedule_of (l ∷ lines) = if bytes_eq l marker
    then enclosed (option_map marked_by (up_to_marker lines)) else Ok (unmarked (l ∷ lines))

-- the player before the first line after the configuration
abbrev pub player_of : Schedule → Player
player_of s = first_player s.conf.shards s.conf.routers s.taken s.lines
