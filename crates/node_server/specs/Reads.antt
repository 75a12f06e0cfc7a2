-- The messages that a connection's bytes begin with, and how a peer's bytes end.
use Rattle.std.specs.Prelude.{◌≡◌, ◌≢◌, ℕ, List, [], ◌∷◌, ◌++◌, Option, Some, None, IfSome, Result}
use Rattle.std.specs.Prelude.{Ok, Err}
use Rattle.outcomes.specs.Causes.{Rose}
use Rattle.outside_core.specs.Bytes.{Came}
use Rattle.op_msg.specs.Stream.{next_of}
use Rattle.node_server.specs.declared.ended.Ended.{Ended}
use Rattle.node_server.specs.declared.ended.Ended.TheVariants.{Done, LinkFault, BadFrame, Cut}
use Rattle.node_server.specs.declared.ended.Ended.TheVariants.{TalkFault, Memory, Closed}

-- the bytes are these messages, one after the other, and what is after them
abbrev pub Cuts : ℕ → List ℕ → List (List ℕ) → List ℕ → Type 0
Cuts limit bytes [] rest = bytes ≡ rest
Cuts limit bytes (frame ∷ frames) rest = (more : List ℕ)
    × (next_of limit bytes ≡ Ok (Some (frame, more))) × Cuts limit more frames rest

-- what is taken of the bytes that are held: the message in front, none yet, or a length that is
-- refused
abbrev pub Takes : ℕ → List ℕ → List ℕ → Result (Option (List ℕ)) Ended → Type 0
Takes limit held held' (Ok (Some frame)) = next_of limit held ≡ Ok (Some (frame, held'))
Takes limit held held' (Ok None) = (next_of limit held ≡ Ok None) × (held' ≡ held)
Takes limit held held' (Err (BadFrame err)) = next_of limit held ≡ Err err
Takes limit held held' (Err Memory) = Unit {0}
Takes limit held held' (Err e) = ⊥

-- between two messages, or inside of one
abbrev pub EndsAt : List ℕ → Ended → Type 0
EndsAt held Done = held ≡ []
EndsAt held Cut = held ≢ []
EndsAt held e = ⊥

-- no message comes: these bytes are held still, and are those after the last message
abbrev pub Stops : ℕ → List ℕ → Option (List ℕ) → ℕ → ℕ → ℕ → ℕ → Ended → Type 0
Stops limit rest left faults faults' ends ends' Done = (rest ≡ [])
    × IfSome left (λ bytes. bytes ≡ []) × Rose ends ends'
Stops limit rest left faults faults' ends ends' Cut = (rest ≢ []) × (next_of limit rest ≡ Ok None)
    × IfSome left (λ bytes. bytes ≡ []) × Rose ends ends'
Stops limit rest left faults faults' ends ends' LinkFault = Rose faults faults'
Stops limit rest left faults faults' ends ends' (BadFrame err) = next_of limit rest ≡ Err err
Stops limit rest left faults faults' ends ends' Memory = Unit {0}
Stops limit rest left faults faults' ends ends' TalkFault = ⊥
Stops limit rest left faults faults' ends ends' Closed = ⊥

abbrev pub Found : {X : Type 0} → (X → List ℕ → Type 0) → ℕ → List ℕ → Option (List ℕ) → ℕ → ℕ → ℕ
    → ℕ → Result X Ended → Type 0
Found found limit rest left faults faults' ends ends' (Ok x) = found x rest
Found found limit rest left faults faults' ends ends' (Err e) =
    Stops limit rest left faults faults' ends ends' e

-- bytes came off the link, and with those that were held there is what was looked for, or the end
pub record Fetches {X : Type 0} (limit : ℕ) (held : List ℕ) (found : X → List ℕ → Type 0)
    (left left' : Option (List ℕ)) (faults faults' ends ends' : ℕ)
    (result : Result X Ended) : Type 0 where
  pub bytes : List ℕ
  pub came : Came left left' bytes
  pub is : Found found limit (held ++ bytes) left' faults faults' ends ends' result
