-- What a connection does: it asks its Talk what event a message is, and tells it what the machine
-- answered.
use Rattle.std.specs.Prelude.{◌≡◌, ℕ, List, [], ◌∷◌, ◌++◌, Result, Ok, Err}
use Rattle.std.specs.List.{flat_map}
use Rattle.node_lock.specs.declared.law.View.{View}
use Rattle.node_lock.specs.Known.{Called}
use Rattle.node_server.specs.declared.talk.NextOf.{NextOf}
use Rattle.node_server.specs.declared.talk.NextOf.TheVariants.{Call, Hold, Write, Close}
use Rattle.node_server.specs.declared.talk.TalkErr.{TalkErr}

-- a message was given to the Talk; or a call was made, at this place of the history, and the Talk
-- was told of it
pub data Act (E A : Type 0) : Type 0 where
  asked : List ℕ → Result E TalkErr → Act E A
  told : ℕ → E → A → Result (NextOf E) TalkErr → Act E A

-- what is due next: a message; a call of this event, for this message; the end, on this message; or
-- the end, for this cause
pub data Due (E : Type 0) : Type 0 where
  message : Due E
  calling : List ℕ → E → Due E
  closing : List ℕ → Due E
  failing : TalkErr → Due E

-- steps lead from one state to another, one after the other
abbrev pub Through : {S X : Type 0} → (S → X → S → Type 0) → S → List X → S → Type 0
Through steps old [] new = new ≡ old
Through {S} steps old (x ∷ xs) new = (mid : S) × steps old x mid × Through steps mid xs new

module _ {E : Type 0} where
  abbrev pub due_asked : List ℕ → Result E TalkErr → Due E
  due_asked frame (Ok event) = calling frame event
  due_asked frame (Err e) = failing e

  abbrev pub due_told : List ℕ → E → Result (NextOf E) TalkErr → Due E
  due_told frame event (Ok (Call next)) = calling frame next
  due_told frame event (Ok Hold) = calling frame event
  due_told frame event (Ok (Write bytes)) = message
  due_told frame event (Ok (Close bytes)) = closing frame
  due_told frame event (Err e) = failing e

  -- the bytes that it gave to write
  abbrev pub bytes_next : Result (NextOf E) TalkErr → List ℕ
  bytes_next (Ok (Call next)) = []
  bytes_next (Ok Hold) = []
  bytes_next (Ok (Write bytes)) = bytes
  bytes_next (Ok (Close bytes)) = bytes
  bytes_next (Err e) = []

module _ {E A : Type 0} where
  -- each thing as it was due: a message once, and then the calls of its event, of the same again
  -- after Hold, and of those that Call names
  abbrev pub InTurn : Due E → Act E A → Due E → Type 0
  InTurn message (asked frame made) end = end ≡ due_asked frame made
  InTurn (calling frame event) (told place e answer next) end = (e ≡ event)
      × (end ≡ due_told frame event next)
  InTurn due act end = ⊥

  -- the messages that the Talk was given
  abbrev pub frame_in : Act E A → List (List ℕ)
  frame_in (asked frame made) = frame ∷ []
  frame_in (told place event answer next) = []

  abbrev pub frames : List (Act E A) → List (List ℕ)
  frames acts = flat_map frame_in acts

  -- the calls, each with its place
  abbrev pub call_of : Act E A → List (ℕ × E × A)
  call_of (asked frame made) = []
  call_of (told place event answer next) = (place, event, answer) ∷ []

  abbrev pub calls : List (Act E A) → List (ℕ × E × A)
  calls acts = flat_map call_of acts

  -- the bytes that the Talk gave to write
  abbrev pub bytes_of : Act E A → List ℕ
  bytes_of (asked frame made) = []
  bytes_of (told place event answer next) = bytes_next next

  abbrev pub written : List (Act E A) → List ℕ
  written acts = flat_map bytes_of acts

-- the Talk's part in it
abbrev pub Moves : {T E A : Type 0} → (T → List ℕ → Result E TalkErr → T → Type 0)
    → (T → A → Result (NextOf E) TalkErr → T → Type 0) → T → Act E A → T → Type 0
Moves makes carries old (asked frame made) new = makes old frame made new
Moves makes carries old (told place event answer next) new = carries old answer next new

-- the pass's part in it: each call is one more of the calls made with it
abbrev pub Counts : {M E A : Type 0} → (M → E → A → M → Type 0) → View M E A → Act E A
    → View M E A → Type 0
Counts takes old (asked frame made) new = new ≡ old
Counts takes old (told place event answer next) new = Called takes event place answer old new

-- What a connection did, as its Talk, its pass and its log have it
pub record Did {T M E A : Type 0} (makes : T → List ℕ → Result E TalkErr → T → Type 0)
    (carries : T → A → Result (NextOf E) TalkErr → T → Type 0) (takes : M → E → A → M → Type 0)
    (acts : List (Act E A)) (talk talk' : T) (pass pass' : View M E A) (log log' : List (ℕ × E × A))
    (due due' : Due E) : Type 0 where
  pub moved : Through (Moves makes carries) talk acts talk'
  pub counted : Through (Counts takes) pass acts pass'
  pub logged : log' ≡ log ++ calls acts
  pub turn : Through InTurn due acts due'
