-- A stream that is cut into messages: what stands next stays the same when more bytes come, so what
-- is given doesn't depend on how they came.
use Rattle.std.proofs.Common.{◌≡◌, ℕ, suc, ◌^◌, ◌<◌, ◌≤◌, Bool, true, false, cond, ltb, leb, List}
use Rattle.std.proofs.Common.{[], ◌∷◌, ◌++◌, length, take, drop, Option, Some, None, Result, Ok}
use Rattle.std.proofs.Common.{Err, refl, sym, ap, subst, ◌∙◌, append_assoc, length-append, inl, inr}
use Rattle.std.proofs.Common.{arith}
use Rattle.std.specs.Prelude.{◌||◌}
use Rattle.std.specs.Int.{w32, from_le_bytes}
use Rattle.std.specs.List.{All, concat}
use Rattle.std.proofs.lemmas.Bool.{cases_lt, ltb-false, le-ltb, lt-ltb, lt-leb}
use Rattle.std.proofs.lemmas.List.{append-nil, take-append-drop, take-append-le, drop-append-le}
use Rattle.std.proofs.Math.Seq.{take-append_seam, drop-append_seam}
use Rattle.bson_core.specs.Reading.{number_at}
use Rattle.bson_core.proofs.Again.{number32_again}
use Rattle.op_msg.specs.declared.frame.Frame.{Frame}
use Rattle.op_msg.specs.declared.frame.FrameErr.{FrameErr}
use Rattle.op_msg.specs.declared.frame.FrameErr.TheVariants.{Length, TooLarge}
use Rattle.op_msg.specs.Words.{word}
use Rattle.op_msg.specs.Message.{IsMessage}
use Rattle.op_msg.proofs.Fronts.{begins_with_length}
use Rattle.op_msg.specs.Stream.{length_by, length_of, Next, next_by, next_of, GivesMessage, Step}
use Rattle.op_msg.specs.Stream.{Feed, Take, Cut, taken_by, behind, run, fed, IsMessageWithin}

-- The length in front.

there_is : (b : Bool) (x y : ℕ × List ℕ) → cond b None (Some x) ≡ Some y → (b ≡ false) × (x ≡ y)
there_is true x y e = absurd cc
there_is false x y e = (refl, cc)

number-append : (held more : List ℕ) (x : ℕ × List ℕ) → number_at w32 held ≡ Some x
    → number_at w32 (held ++ more) ≡ Some (x.0, x.1 ++ more)
unfolding number_at
number-append held more x e =
    let h = there_is (ltb (length held) 4) (from_le_bytes w32 (take 4 held), drop 4 held) x e in
    let enough : 4 ≤ length held = ltb-false _ _ h.0 in
    let long : ltb (length (held ++ more)) 4 ≡ false =
    le-ltb _ _ (omega (arith, length-append held more)) in
    rw (long, take-append-le 4 held more enough, drop-append-le 4 held more enough)
    (ap (λ (y : ℕ × List ℕ). Some (y.0, y.1 ++ more)) h.1)

-- the tests of a length, in their order
abbrev tested : Bool → Bool → Bool → ℕ → Result (Option ℕ) FrameErr
tested below above short len =
    cond below (Err Length) (cond above (Err TooLarge) (cond short (Ok None) (Ok (Some len))))

passes : (below above short : Bool) (len n : ℕ) → tested below above short len ≡ Ok (Some n)
    → (below ≡ false) × (above ≡ false) × (short ≡ false) × (len ≡ n)
passes true above short len n e = absurd cc
passes false true short len n e = absurd cc
passes false false true len n e = absurd cc
passes false false false len n e = (refl, refl, refl, cc)

refuses : (below above short later : Bool) (len : ℕ) (error : FrameErr)
    → tested below above short len ≡ Err error → tested below above later len ≡ Err error
refuses true above short later len error e = e
refuses false true short later len error e = e
refuses false false true later len error e = absurd cc
refuses false false false later len error e = absurd cc

length-whole_by : (limit n : ℕ) (held more : List ℕ) (o : Option (ℕ × List ℕ))
    → number_at w32 held ≡ o → length_by limit held o ≡ Ok (Some n)
    → (n ≤ length held) × (length_of limit (held ++ more) ≡ Ok (Some n))
unfolding length_of
length-whole_by limit n held more None number e = absurd cc
length-whole_by limit n held more (Some x) number e =
    let h =
    passes (ltb x.0 16 || leb (2 ^ 31) x.0) (ltb limit x.0) (ltb (length held) x.0) x.0 n e in
    let enough : x.0 ≤ length held = ltb-false _ _ h.2 in
    let long : ltb (length (held ++ more)) x.0 ≡ false =
    le-ltb _ _ (omega (arith, length-append held more)) in (
      omega (arith, h.3),
      rw (number-append held more x number, h.0, h.1, long) (ap (λ (m : ℕ). Ok (Some m)) h.3),
    )

length-whole : (limit n : ℕ) (held more : List ℕ) → length_of limit held ≡ Ok (Some n)
    → (n ≤ length held) × (length_of limit (held ++ more) ≡ Ok (Some n))
unfolding length_of
length-whole limit n held more e = length-whole_by limit n held more (number_at w32 held) refl e

length-refused_by : (limit : ℕ) (held more : List ℕ) (o : Option (ℕ × List ℕ)) (error : FrameErr)
    → number_at w32 held ≡ o → length_by limit held o ≡ Err error
    → length_of limit (held ++ more) ≡ Err error
unfolding length_of
length-refused_by limit held more None error number e = absurd cc
length-refused_by limit held more (Some x) error number e =
    rw (number-append held more x number) (refuses (ltb x.0 16 || leb (2 ^ 31) x.0) (ltb limit x.0)
    (ltb (length held) x.0) (ltb (length (held ++ more)) x.0) x.0 error e)

length-refused : (limit : ℕ) (held more : List ℕ) (error : FrameErr)
    → length_of limit held ≡ Err error → length_of limit (held ++ more) ≡ Err error
unfolding length_of
length-refused limit held more error e =
    length-refused_by limit held more (number_at w32 held) error refl e

-- What comes next.

-- a message is the front of the bytes, of that length
pub record IsFront (limit : ℕ) (held bytes rest : List ℕ) : Type 0 where
  pub len : ℕ
  pub found : length_of limit held ≡ Ok (Some len)
  pub within : len ≤ length held
  pub front : take len held ≡ bytes
  pub back : drop len held ≡ rest

is_front_by : (limit : ℕ) (held bytes rest : List ℕ) (r : Result (Option ℕ) FrameErr)
    → length_of limit held ≡ r → next_by held r ≡ Ok (Some (bytes, rest))
    → IsFront limit held bytes rest
is_front_by limit held bytes rest (Ok (Some n)) found e =
    let pairs : ◌≡◌ {A = List ℕ × List ℕ} (take n held, drop n held) (bytes, rest) = cc in
    record {
      len = n;
      found = found;
      within = (length-whole limit n held [] found).0;
      front = ap (λ (x : List ℕ × List ℕ). x.0) pairs;
      back = ap (λ (x : List ℕ × List ℕ). x.1) pairs;
    }
is_front_by limit held bytes rest (Ok None) found e = absurd cc
is_front_by limit held bytes rest (Err error) found e = absurd cc

pub is_front : (limit : ℕ) (held bytes rest : List ℕ) → next_of limit held ≡ Ok (Some (bytes, rest))
    → IsFront limit held bytes rest
is_front limit held bytes rest e = is_front_by limit held bytes rest (length_of limit held) refl e

-- it stays the next one
pub next-append : (limit : ℕ) (held bytes rest more : List ℕ) → next_of limit held
    ≡ Ok (Some (bytes, rest)) → next_of limit (held ++ more) ≡ Ok (Some (bytes, rest ++ more))
next-append limit held bytes rest more e =
    let h = is_front limit held bytes rest e in
    let found : length_of limit (held ++ more) ≡ Ok (Some h.len) =
    (length-whole limit h.len held more h.found).1 in
    rw (
      found,
      take-append-le h.len held more h.within,
      drop-append-le h.len held more h.within,
      h.front,
      h.back,
    ) refl

refused_by : (limit : ℕ) (held more : List ℕ) (r : Result (Option ℕ) FrameErr) (error : FrameErr)
    → length_of limit held ≡ r → next_by held r ≡ Err error
    → next_of limit (held ++ more) ≡ Err error
refused_by limit held more (Ok (Some n)) error found e = absurd cc
refused_by limit held more (Ok None) error found e = absurd cc
refused_by limit held more (Err d) error found e = rw (length-refused limit held more d found) cc

pub refused-append : (limit : ℕ) (held more : List ℕ) (error : FrameErr)
    → next_of limit held ≡ Err error → next_of limit (held ++ more) ≡ Err error
refused-append limit held more error e =
    refused_by limit held more (length_of limit held) error refl e

-- Messages one after another, and what is held after them.

abbrev pub Cuts : ℕ → List ℕ → List (List ℕ) → List ℕ → Type 0
Cuts limit stream [] held = stream ≡ held
Cuts limit stream (bytes ∷ messages) held = (rest : List ℕ)
    × (next_of limit stream ≡ Ok (Some (bytes, rest))) × Cuts limit rest messages held

pub joined : (limit : ℕ) (stream : List ℕ) (messages : List (List ℕ)) (held : List ℕ)
    → Cuts limit stream messages held → concat messages ++ held ≡ stream
joined limit stream [] held h = sym h
joined limit stream (bytes ∷ messages) held h =
    let f = is_front limit stream bytes h.0 h.1 in
    let behind-is : concat messages ++ held ≡ drop f.len stream = joined limit h.0 messages held h.2
    ∙ sym f.back in
    append_assoc bytes (concat messages) held ∙ ap (λ (l : List ℕ). bytes ++ l) behind-is
    ∙ ap (λ (l : List ℕ). l ++ drop f.len stream) (sym f.front) ∙ take-append-drop f.len stream

taken_cuts : (limit : ℕ) (held : List ℕ) (steps : List Step) (next : Next)
    → next_of limit held ≡ next
    → ((h : List ℕ) → Cuts limit (h ++ fed steps) (run limit h steps).0 (run limit h steps).1)
    → let taken = taken_by held next in let cut = behind taken.0 (run limit taken.1 steps) in
    Cuts limit (held ++ fed steps) cut.0 cut.1
taken_cuts limit held steps (Ok (Some x)) is later =
    (x.1 ++ fed steps, next-append limit held x.0 x.1 (fed steps) is, later x.1)
taken_cuts limit held steps (Ok None) is later = later held
taken_cuts limit held steps (Err e) is later = later held

pub run_cuts : (limit : ℕ) (held : List ℕ) (steps : List Step)
    → Cuts limit (held ++ fed steps) (run limit held steps).0 (run limit held steps).1
run_cuts limit held [] = append-nil held
run_cuts limit held (Feed piece ∷ steps) =
    subst (λ (stream : List ℕ). Cuts limit stream (run limit (held ++ piece) steps).0
    (run limit (held ++ piece) steps).1) (append_assoc held piece (fed steps))
    (run_cuts limit (held ++ piece) steps)
run_cuts limit held (Take ∷ steps) =
    taken_cuts limit held steps (next_of limit held) refl (λ h. run_cuts limit h steps)

-- a stream is cut in one way, to where no message comes
one_more : (limit : ℕ) (stream held bytes rest : List ℕ) → stream ≡ held
    → next_of limit stream ≡ Ok (Some (bytes, rest)) → ¬ GivesMessage (next_of limit held) → ⊥
one_more limit stream held bytes rest same is last =
    last (subst GivesMessage (sym is ∙ ap (next_of limit) same) refl)

pub one_way : (limit : ℕ) (stream : List ℕ) (a : List (List ℕ)) (h : List ℕ) (b : List (List ℕ))
    (k : List ℕ) → Cuts limit stream a h → Cuts limit stream b k
    → ¬ GivesMessage (next_of limit h) → ¬ GivesMessage (next_of limit k)
    → ◌≡◌ {A = Cut} (a, h) (b, k)
one_way limit stream [] h [] k p q m n = ap (λ (l : List ℕ). ([], l)) (sym p ∙ q)
one_way limit stream [] h (y ∷ b) k p q m n = absurd (one_more limit stream h y q.0 p q.1 m)
one_way limit stream (x ∷ a) h [] k p q m n = absurd (one_more limit stream k x p.0 q p.1 n)
one_way limit stream (x ∷ a) h (y ∷ b) k p q m n =
    let read : ◌≡◌ {A = Next} (Ok (Some (x, p.0))) (Ok (Some (y, q.0))) = sym p.1 ∙ q.1 in
    let pairs : ◌≡◌ {A = List ℕ × List ℕ} (x, p.0) (y, q.0) = cc in
    let first : x ≡ y = ap (λ (z : List ℕ × List ℕ). z.0) pairs in
    let rest : p.0 ≡ q.0 = ap (λ (z : List ℕ × List ℕ). z.1) pairs in
    let later : ◌≡◌ {A = Cut} (a, h) (b, k) =
    one_way limit q.0 a h b k (subst (λ (s : List ℕ). Cuts limit s a h) rest p.2) q.2 m n in
    λ i. (first i ∷ (later i).0, (later i).1)

-- Messages of the protocol.

number_of_word : (n : ℕ) (rest : List ℕ) → n < 2 ^ 32
    → number_at w32 (word n ++ rest) ≡ Some (n, rest)
unfolding word
number_of_word n rest fits = number32_again n rest fits

-- the tests of a message's length
pub message_length : (limit : ℕ) (bytes more : List ℕ) (f : Frame) (short : Bool)
    → IsMessage bytes f → ltb limit (length bytes) ≡ short
    → length_of limit (bytes ++ more) ≡ cond short (Err TooLarge) (Ok (Some (length bytes)))
unfolding length_of
message_length limit bytes more f short m test =
    let len = length bytes in
    let begins = begins_with_length f bytes m in
    let first : number_at w32 bytes ≡ Some (len, begins.behind) = ap (number_at w32) begins.is
    ∙ number_of_word len begins.behind (omega (arith, begins.most)) in
    let number : number_at w32 (bytes ++ more) ≡ Some (len, begins.behind ++ more) =
    number-append bytes more (len, begins.behind) first in
    let low : ltb len 16 ≡ false = le-ltb _ _ begins.header in
    let high : leb (2 ^ 31) len ≡ false = lt-leb _ _ (omega (arith, begins.most)) in
    let held : ltb (length (bytes ++ more)) len ≡ false =
    le-ltb _ _ (omega (arith, length-append bytes more)) in
    rw (number, low, high, test, held) refl

pub message_next : (limit : ℕ) (bytes more : List ℕ) (f : Frame) → IsMessage bytes f
    → length bytes ≤ limit → next_of limit (bytes ++ more) ≡ Ok (Some (bytes, more))
message_next limit bytes more f m within = rw (
  message_length limit bytes more f false m (le-ltb _ _ within),
  take-append_seam bytes more,
  drop-append_seam bytes more,
) refl

pub message_longer : (limit : ℕ) (bytes more : List ℕ) (f : Frame) → IsMessage bytes f
    → limit < length bytes → next_of limit (bytes ++ more) ≡ Err TooLarge
message_longer limit bytes more f m above =
    rw (message_length limit bytes more f true m (lt-ltb _ _ above)) refl

pub message_not_none : (limit : ℕ) (bytes more : List ℕ) (f : Frame) → IsMessage bytes f
    → next_of limit (bytes ++ more) ≡ Ok None → ⊥
message_not_none limit bytes more f m e = elim (cases_lt limit (length bytes)) [
  | inl above ↦ let other = message_longer limit bytes more f m above in cc
  | inr within ↦ let other = message_next limit bytes more f m within in cc
]

messages_cut : (limit : ℕ) (messages : List (List ℕ)) → All (IsMessageWithin limit) messages
    → Cuts limit (concat messages) messages []
messages_cut limit [] h = refl
messages_cut limit (bytes ∷ messages) h =
    let first : IsMessageWithin limit bytes = h 0 bytes (omega arith) in (
      concat messages,
      message_next limit bytes (concat messages) first.frame first.is first.within,
      messages_cut limit messages (λ k d below. h (suc k) d (omega arith)),
    )

nothing_comes : (limit : ℕ) → ¬ GivesMessage (next_of limit [])
unfolding length_of number_at
nothing_comes limit = λ given. cc

pub messages_given : (limit : ℕ) (messages : List (List ℕ)) (steps : List Step)
    → All (IsMessageWithin limit) messages → fed steps ≡ concat messages
    → ¬ GivesMessage (next_of limit (run limit [] steps).1) → run limit [] steps ≡ (messages, [])
messages_given limit messages steps h same last =
    one_way limit (concat messages) (run limit [] steps).0 (run limit [] steps).1 messages []
    (subst (λ (stream : List ℕ). Cuts limit stream (run limit [] steps).0 (run limit [] steps).1)
    same (run_cuts limit [] steps)) (messages_cut limit messages h) last (nothing_comes limit)
