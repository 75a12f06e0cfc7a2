-- How a connection ends, and why.
use Rattle.std.specs.Prelude.{◌≡◌, ◌≢◌, ◌⊎◌, ℕ, ◌≤◌, List, [], ◌++◌, Option, None, IfSome, Result}
use Rattle.std.specs.Prelude.{Ok, Err, IsOk}
use Rattle.outcomes.specs.Causes.{Rose}
use Rattle.outside_core.specs.Bytes.{Came, Went, WentInPart}
use Rattle.op_msg.specs.Reading.{frame_of}
use Rattle.op_msg.specs.Stream.{next_of}
use Rattle.node_lock.specs.declared.law.View.{View}
use Rattle.node_server.specs.declared.calling.Turn.{Turn}
use Rattle.node_server.specs.declared.calling.Turn.TheVariants as turn
use Rattle.node_server.specs.declared.calling.Reply.{Reply}
use Rattle.node_server.specs.declared.calling.Reply.TheVariants as reply
use Rattle.node_server.specs.declared.ended.Ended.{Ended}
use Rattle.node_server.specs.declared.ended.Ended.TheVariants.{Done, LinkFault, BadFrame, Cut}
use Rattle.node_server.specs.declared.ended.Ended.TheVariants.{TalkFault, Memory, Closed}
use Rattle.node_server.specs.declared.talk.NextOf.{NextOf}
use Rattle.node_server.specs.declared.talk.NextOf.TheVariants.{Call, Hold, Write, Close}
use Rattle.node_server.specs.declared.talk.TalkErr.{TalkErr}
use Rattle.node_server.specs.declared.talk.TalkErr.TheVariants as talk
use Rattle.node_server.specs.Acts.{Act, Due, message, calling, closing, failing, frames, written}
use Rattle.node_server.specs.Acts.{Did}
use Rattle.node_server.specs.Reads.{Cuts}

-- how often the link failed and met its end, and how often the Talk failed
pub record Tally : Type 0 where
  pub faults : ℕ
  pub ends : ℕ
  pub talk : ℕ

abbrev pub tally : ℕ → ℕ → ℕ → Tally
tally faults ends talk = record { faults = faults; ends = ends; talk = talk }

pub record Later (before now : Tally) : Type 0 where
  pub faults : before.faults ≤ now.faults
  pub ends : before.ends ≤ now.ends
  pub talk : before.talk ≤ now.talk

-- how a connection ends that its Talk closes on this message
abbrev pub Judges : List ℕ → Ended → Type 0
Judges frame (BadFrame err) = frame_of frame ≡ Err err
Judges frame Closed = IsOk (frame_of frame)
Judges frame Memory = Unit {0}
Judges frame e = ⊥

-- the end of a Talk's error
abbrev pub ended_of : TalkErr → Ended
ended_of talk.Failed = TalkFault
ended_of talk.Memory = Memory

-- what the connection turns to after a call, where `again` is the event once more
abbrev pub heeded : {E : Type 0} → E → Result (NextOf E) TalkErr → Result (Turn E) Ended
heeded again (Ok (Call event)) = Ok (turn.Call event)
heeded again (Ok Hold) = Ok (turn.Call again)
heeded again (Ok (Write bytes)) = Ok (turn.Write bytes)
heeded again (Ok (Close bytes)) = Ok (turn.Close bytes)
heeded again (Err e) = Err (ended_of e)

-- What is due where it turns to this, and the bytes that the Talk gave
abbrev pub Turns : {E : Type 0} → List ℕ → ℕ → ℕ → Result (Turn E) Ended → Due E → List ℕ → Type 0
Turns frame faults faults' (Ok (turn.Call event)) due bytes = (due ≡ calling frame event)
    × (bytes ≡ [])
Turns frame faults faults' (Ok (turn.Write b)) due bytes = (due ≡ message) × (bytes ≡ b)
Turns frame faults faults' (Ok (turn.Close b)) due bytes = (due ≡ closing frame) × (bytes ≡ b)
Turns frame faults faults' (Err TalkFault) due bytes = (bytes ≡ []) × (due ≡ failing talk.Failed)
    × Rose faults faults'
Turns frame faults faults' (Err Memory) due bytes = bytes ≡ []
Turns frame faults faults' (Err e) due bytes = ⊥

abbrev pub replied : {E : Type 0} → Result Reply Ended → Result (Turn E) Ended
replied (Ok (reply.Write bytes)) = Ok (turn.Write bytes)
replied (Ok (reply.Close bytes)) = Ok (turn.Close bytes)
replied (Err e) = Err e

-- the bytes were sent, all of them unless the link failed or memory ran out
abbrev pub Sends : Option (List ℕ) → Option (List ℕ) → List ℕ → Ended → Type 0
Sends held held' bytes LinkFault = WentInPart held held' bytes
Sends held held' bytes Memory = WentInPart held held' bytes
Sends held held' bytes e = Went held held' bytes

-- Why it ended: what was due, and which bytes were held still
abbrev pub Ends : {E : Type 0} → ℕ → List ℕ → Option (List ℕ) → Due E → Tally → Tally
    → Ended → Type 0
Ends limit rest left due before now Done = (due ≡ message) × (rest ≡ [])
    × IfSome left (λ bytes. bytes ≡ []) × Rose before.ends now.ends
Ends limit rest left due before now Cut = (due ≡ message) × (rest ≢ [])
    × (next_of limit rest ≡ Ok None) × IfSome left (λ bytes. bytes ≡ []) × Rose before.ends now.ends
Ends limit rest left due before now LinkFault = Rose before.faults now.faults
Ends limit rest left due before now TalkFault = (due ≡ failing talk.Failed)
    × Rose before.talk now.talk
Ends limit rest left due before now (BadFrame err) =
    ((due ≡ message) × (next_of limit rest ≡ Err err))
    ⊎ ((frame : List ℕ) × (due ≡ closing frame) × (frame_of frame ≡ Err err))
Ends limit rest left due before now Closed = (frame : List ℕ) × (due ≡ closing frame)
    × IsOk (frame_of frame)
Ends limit rest left due before now Memory = Unit {0}

-- why it ended, and what was sent
abbrev pub EndsSo : {E : Type 0} → ℕ → Option (List ℕ) → Option (List ℕ) → Option (List ℕ) → Tally
    → Tally → Ended → Due E → List ℕ → List ℕ → Type 0
EndsSo limit left out out' before now e due rest bytes = Ends limit rest left due before now e
    × Sends out out' bytes e

-- one message was answered, or the connection ends
abbrev pub Serves : {E X : Type 0} → ℕ → List ℕ → Option (List ℕ) → Option (List ℕ)
    → Option (List ℕ) → Tally → Tally → Result X Ended → Due E → List ℕ → List ℕ → Type 0
Serves limit held left out out' before now (Ok x) due rest bytes = (due ≡ message) × (rest ≡ held)
    × Went out out' bytes
Serves limit held left out out' before now (Err e) due rest bytes =
    EndsSo limit left out out' before now e due rest bytes

-- the calls for one message
pub record Answered {T M E A : Type 0} (makes : T → List ℕ → Result E TalkErr → T → Type 0)
    (carries : T → A → Result (NextOf E) TalkErr → T → Type 0) (takes : M → E → A → M → Type 0)
    (talk talk' : T) (pass pass' : View M E A) (log log' : List (ℕ × E × A)) (from : Due E)
    (given : List (List ℕ)) (end : Due E → List ℕ → Type 0) : Type 0 where
  pub acts : List (Act E A)
  pub due : Due E
  pub did : Did makes carries takes acts talk talk' pass pass' log log' from due
  pub frames_are : frames acts ≡ given
  pub is : end due (written acts)

-- Messages came off the link after the bytes that were held, and each was answered
pub record Served {T M E A : Type 0} (makes : T → List ℕ → Result E TalkErr → T → Type 0)
    (carries : T → A → Result (NextOf E) TalkErr → T → Type 0) (takes : M → E → A → M → Type 0)
    (talk talk' : T) (pass pass' : View M E A) (log log' : List (ℕ × E × A))
    (limit : ℕ) (held : List ℕ) (left left' : Option (List ℕ))
    (end : Due E → List ℕ → List ℕ → Type 0) : Type 0 where
  pub acts : List (Act E A)
  pub due : Due E
  pub did : Did makes carries takes acts talk talk' pass pass' log log' message due
  pub bytes : List ℕ
  pub rest : List ℕ
  pub came : Came left left' bytes
  pub cut : Cuts limit (held ++ bytes) (frames acts) rest
  pub is : end due rest (written acts)

-- why bytes were not all sent
abbrev pub SendFails : ℕ → ℕ → Ended → Type 0
SendFails faults faults' LinkFault = Rose faults faults'
SendFails faults faults' Memory = Unit {0}
SendFails faults faults' e = ⊥

abbrev pub bytes_in : Reply → List ℕ
bytes_in (reply.Write bytes) = bytes
bytes_in (reply.Close bytes) = bytes

-- a reply was written, and the connection goes on; or it was written and closes the connection on
-- this message
abbrev pub Closes : List ℕ → Option (List ℕ) → Option (List ℕ) → ℕ → ℕ → Reply → Ended → Type 0
Closes frame out out' faults faults' r LinkFault = WentInPart out out' (bytes_in r)
    × Rose faults faults'
Closes frame out out' faults faults' r Memory = WentInPart out out' (bytes_in r)
Closes frame out out' faults faults' (reply.Close bytes) e = Went out out' bytes × Judges frame e
Closes frame out out' faults faults' r e = ⊥

abbrev pub Replies : {X : Type 0} → List ℕ → Option (List ℕ) → Option (List ℕ) → ℕ → ℕ → Reply
    → Result X Ended → Type 0
Replies frame out out' faults faults' (reply.Write bytes) (Ok x) = Went out out' bytes
Replies frame out out' faults faults' (reply.Close bytes) (Ok x) = ⊥
Replies frame out out' faults faults' r (Err e) = Closes frame out out' faults faults' r e

-- why a connection ends on a message
abbrev pub FrameEnds : {E : Type 0} → Due E → ℕ → ℕ → ℕ → ℕ → Ended → Type 0
FrameEnds due faults faults' begun now LinkFault = Rose faults faults'
FrameEnds due faults faults' begun now TalkFault = (due ≡ failing talk.Failed) × Rose begun now
FrameEnds due faults faults' begun now (BadFrame err) = (frame : List ℕ) × (due ≡ closing frame)
    × (frame_of frame ≡ Err err)
FrameEnds due faults faults' begun now Closed = (frame : List ℕ) × (due ≡ closing frame)
    × IsOk (frame_of frame)
FrameEnds due faults faults' begun now Memory = Unit {0}
FrameEnds due faults faults' begun now Done = ⊥
FrameEnds due faults faults' begun now Cut = ⊥

-- a message was answered, or the connection ends on it
abbrev pub Frames : {E X : Type 0} → Option (List ℕ) → Option (List ℕ) → ℕ → ℕ → ℕ → ℕ
    → Result X Ended → Due E → List ℕ → Type 0
Frames out out' faults faults' begun now (Ok x) due bytes = (due ≡ message) × Went out out' bytes
Frames out out' faults faults' begun now (Err e) due bytes =
    FrameEnds due faults faults' begun now e × Sends out out' bytes e
