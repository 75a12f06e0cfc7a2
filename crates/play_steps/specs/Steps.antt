-- What parts of the player do, beside what comes next.
use Rattle.std.specs.Prelude.{ℕ, Bool, true, false, List, [], ◌++◌, flat_map, Option, Some, None}
use Rattle.txn_types.specs.declared.event.NodeAnswer.{NodeAnswer}
use Rattle.txn_types.specs.declared.event.NodeAnswer.TheVariants as answer
use Rattle.txn_types.specs.declared.message.Envelope.{Envelope}
use Rattle.play_text.specs.Text.{reply_line, closed_line, held_line}
use Rattle.play_steps.specs.declared.want.Want.{Want}
use Rattle.play_steps.specs.declared.want.Want.TheVariants as want
use Rattle.txn_types.specs.declared.event.Happening.{Happening}
use Rattle.txn_types.specs.declared.event.Happening.TheVariants as what
use Rattle.play_steps.specs.declared.want.Given.{Given}
use Rattle.play_steps.specs.declared.want.Given.TheVariants.{Client, Message, Other}
use Rattle.op_msg.specs.Asking.{wants_reply}
use Rattle.play_steps.specs.Player.{Player, shut}
use Rattle.play_script.specs.declared.line.Line.{Line}
use Rattle.play_script.specs.declared.line.Line.TheVariants as line
use Rattle.play_steps.specs.Lines.{Did, was_sent, is_there}
use Rattle.play_steps.specs.Taking.{sent_lines, where_logs, all_answered, unless_wanted, with_sent}
use Rattle.play_steps.specs.Taking.{serving_behind, done_message}

-- a line was done or named what isn't there; what is written by then, and the player
abbrev pub behind_line : List ℕ → Player → Did → Bool × List ℕ × Player
behind_line text p None = (false, text, p)
behind_line text p (Some did) = (true, text ++ did.0, did.1)

-- what the line names is there
abbrev pub names_there : Player → Line → Bool
names_there p (line.Deliver number) = was_sent p number
names_there p (line.Lose number) = was_sent p number
names_there p (line.Restart node) = is_there p node
names_there p (line.Resend node) = is_there p node
names_there p other = true

-- What was given to a node, as far as it matters after the step.

abbrev pub given_by : Happening → Given
given_by (what.Client conn bytes) = Client conn (wants_reply bytes)
given_by other = Other

abbrev pub given_of : Want → Given
given_of (want.Event node happening) = given_by happening
given_of (want.Deliver number) = Message number
given_of other = Other

abbrev pub closing_text : Given → Option ℕ → List ℕ
closing_text (Client conn wanted) (Some number) = closed_line conn number
closing_text given closed = []

abbrev pub holding_text : Bool → Given → NodeAnswer → List ℕ
holding_text logs (Message number) (answer.Blocked id tag ts) =
    where_logs logs (held_line number tag ts)
holding_text logs given a = []

-- what is written of the answer
abbrev pub answer_text : Player → Given → NodeAnswer → List ℕ
answer_text p given (answer.Did out replies closed) =
    where_logs p.logs (sent_lines p.sent out) ++ flat_map (λ r. reply_line r.0 r.1) replies
    ++ closing_text given closed
answer_text p given other = holding_text p.logs given other

abbrev pub heard_of : Player → Given → Option ℕ → Player
heard_of p (Client conn wanted) None = unless_wanted p conn wanted
heard_of p (Client conn wanted) (Some number) = shut p conn
heard_of p given closed = p

abbrev pub behind_did : Player → Given → List Envelope → List (ℕ × List ℕ) → Option ℕ → Player
behind_did p given out replies closed =
    serving_behind (heard_of (all_answered (with_sent p out) replies) given closed) replies

abbrev pub message_done : Player → Given → Player
message_done p (Message number) = done_message p number
message_done p given = p

-- the player after the answer
abbrev pub behind_answer : Player → Given → NodeAnswer → Player
behind_answer p given (answer.Did out replies closed) =
    message_done (behind_did p given out replies closed) given
behind_answer p given (answer.Blocked id tag ts) = p
behind_answer p given other = message_done p given
