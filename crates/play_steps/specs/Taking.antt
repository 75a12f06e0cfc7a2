-- What is written of a step and what follows from it, part by part.
use Rattle.std.specs.Prelude.{ℕ, ◌+◌, Bool, true, false, List, [], ◌∷◌, ◌++◌, map, length, Option}
use Rattle.std.specs.Prelude.{Some, None, if◌then◌else◌}
use Rattle.std.specs.List.{range_with_len}
use Rattle.txn_types.specs.declared.message.Envelope.{Envelope}
use Rattle.play_text.specs.Text.{sent_line}
use Rattle.play_steps.specs.Player.{Round, Player, connection, with_conn}
use Rattle.play_steps.specs.Lines.{lost}

-- the lines of messages, numbered as they were sent
abbrev pub sent_lines : ℕ → List Envelope → List ℕ
sent_lines number [] = []
sent_lines number (e ∷ es) = sent_line number e ++ sent_lines (number + 1) es

abbrev pub where_logs : Bool → List ℕ → List ℕ
where_logs logs text = if logs then text else []

-- The player after it.

-- a connection that was replied to isn't waited for
abbrev pub answered : Player → ℕ → Player
answered p conn = with_conn p (record (connection p conn) { busy = false })

abbrev pub all_answered : Player → List (ℕ × List ℕ) → Player
all_answered p [] = p
all_answered p (r ∷ rs) = all_answered (answered p r.0) rs

-- a message whose sender wants no reply isn't waited for either; one that closes drops what its
-- connection holds
abbrev pub unless_wanted : Player → ℕ → Bool → Player
unless_wanted p conn true = p
unless_wanted p conn false = answered p conn

abbrev pub with_sent : Player → List Envelope → Player
with_sent p out = record p
    { sent = p.sent + length out; pending = p.pending ++ range_with_len p.sent (length out) }

-- what waits on the connections that were replied to comes next
abbrev pub serving_behind : Player → List (ℕ × List ℕ) → Player
serving_behind p replies = record p { serving = map (λ r. r.0) replies ++ p.serving }

-- a message that was delivered counts as done, and a round in which one was goes on
abbrev pub progressed : Option Round → Option Round
progressed None = None
progressed (Some r) = Some (record r { progress = true })

abbrev pub done_message : Player → ℕ → Player
done_message p number = record (lost p number) { round = progressed p.round }
