-- What a connection did, one thing after another.
use Rattle.std.proofs.Common.{◌≡◌, ℕ, ◌≤◌, List, [], ◌∷◌, ◌++◌, Result, Ok, Err, refl, sym, ap}
use Rattle.std.proofs.Common.{subst, ◌∙◌, append_assoc}
use Rattle.std.proofs.lemmas.List.{append-nil}
use Rattle.std.proofs.lemmas.Grind.{flat_map-append}
use Rattle.outcomes.specs.Causes.{FailsOnly}
use Rattle.node_lock.specs.declared.law.View.{View}
use Rattle.node_lock.specs.Known.{Called}
use Rattle.node_server.specs.declared.calling.Turn.{Turn}
use Rattle.node_server.specs.declared.calling.Turn.TheVariants as turn
use Rattle.node_server.specs.declared.ended.Ended.{Ended}
use Rattle.node_server.specs.declared.ended.Ended.TheVariants.{Done, LinkFault, BadFrame, Cut}
use Rattle.node_server.specs.declared.ended.Ended.TheVariants.{TalkFault, Memory, Closed}
use Rattle.node_server.specs.declared.talk.NextOf.{NextOf}
use Rattle.node_server.specs.declared.talk.NextOf.TheVariants.{Call, Hold, Write, Close}
use Rattle.node_server.specs.declared.talk.TalkErr.{TalkErr}
use Rattle.node_server.specs.declared.talk.TalkErr.TheVariants as talk
use Rattle.node_server.specs.Acts.{Act, told, Due, calling, Through, due_told, bytes_next, frame_in}
use Rattle.node_server.specs.Acts.{frames, call_of, calls, bytes_of, written, Did}
use Rattle.node_server.specs.Ends.{heeded, Turns, Answered}
use Rattle.node_server.proofs.Fetching.{rose_later}

pub through_more : {S X : Type 0} (steps : S → X → S → Type 0) (a b c : S) (xs ys : List X)
    → Through steps a xs b → Through steps b ys c → Through steps a (xs ++ ys) c
through_more steps a b c [] ys p q = subst (λ s. Through steps s ys c) p q
through_more steps a b c (x ∷ xs) ys p q = (p.0, p.1, through_more steps p.0 b c xs ys p.2 q)

-- an error keeps its cause where the count is taken from earlier on
pub turns_later : {E : Type 0} (frame : List ℕ) (f0 f1 f2 : ℕ) → f0 ≤ f1
    → (r : Result (Turn E) Ended) (due : Due E) (bytes : List ℕ) → Turns frame f1 f2 r due bytes
    → Turns frame f0 f2 r due bytes
turns_later frame f0 f1 f2 le (Ok (turn.Call event)) due bytes t = t
turns_later frame f0 f1 f2 le (Ok (turn.Write b)) due bytes t = t
turns_later frame f0 f1 f2 le (Ok (turn.Close b)) due bytes t = t
turns_later frame f0 f1 f2 le (Err TalkFault) due bytes t = (t.0, t.1, rose_later f0 f1 f2 le t.2)
turns_later frame f0 f1 f2 le (Err Memory) due bytes t = t
turns_later frame f0 f1 f2 le (Err Done) due bytes t = absurd t
turns_later frame f0 f1 f2 le (Err Cut) due bytes t = absurd t
turns_later frame f0 f1 f2 le (Err LinkFault) due bytes t = absurd t
turns_later frame f0 f1 f2 le (Err (BadFrame err)) due bytes t = absurd t
turns_later frame f0 f1 f2 le (Err Closed) due bytes t = absurd t

pub turns_call : {E : Type 0} (frame : List ℕ) (f f' : ℕ) (r : Result (Turn E) Ended) (event : E)
    → r ≡ Ok (turn.Call event) → (due : Due E) (bytes : List ℕ) → Turns frame f f' r due bytes
    → (due ≡ calling frame event) × (bytes ≡ [])
turns_call frame f f' r event is due bytes t = subst (λ x. Turns frame f f' x due bytes) is t

pub turns_as : {E : Type 0} (frame : List ℕ) (f0 f1 f2 : ℕ) (r r' : Result (Turn E) Ended)
    → f0 ≤ f1 → r ≡ r' → (due : Due E) (bytes : List ℕ) → Turns frame f1 f2 r due bytes
    → Turns frame f0 f2 r' due bytes
turns_as frame f0 f1 f2 r r' le is due bytes t =
    turns_later frame f0 f1 f2 le r' due bytes (subst (λ x. Turns frame f1 f2 x due bytes) is t)

module _ {T M E A : Type 0} (makes : T → List ℕ → Result E TalkErr → T → Type 0) (carries : T → A
    → Result (NextOf E) TalkErr → T → Type 0) (takes : M → E → A → M → Type 0) where
  abbrev L : Type 0
  L = List (ℕ × E × A)

  pub did_none : (t t' : T) (v v' : View M E A) (l l' : L) (due : Due E) → t' ≡ t → v' ≡ v → l' ≡ l
      → Did makes carries takes [] t t' v v' l l' due due
  did_none t t' v v' l l' due et ev el =
      record { moved = et; counted = ev; logged = el ∙ sym (append-nil l); turn = refl }

  pub did_more : (acts more : List (Act E A)) (t0 t1 t2 : T) (v0 v1 v2 : View M E A) (l0 l1 l2 : L)
      (d0 d1 d2 : Due E)
      → Did makes carries takes acts t0 t1 v0 v1 l0 l1 d0 d1
      → Did makes carries takes more t1 t2 v1 v2 l1 l2 d1 d2
      → Did makes carries takes (acts ++ more) t0 t2 v0 v2 l0 l2 d0 d2
  did_more acts more t0 t1 t2 v0 v1 v2 l0 l1 l2 d0 d1 d2 p q = record {
    moved = through_more _ t0 t1 t2 acts more p.moved q.moved;
    counted = through_more _ v0 v1 v2 acts more p.counted q.counted;
    logged = q.logged ∙ (ap (λ l. l ++ calls more) p.logged ∙ (append_assoc l0 (calls acts)
        (calls more) ∙ ap (λ l. l0 ++ l) (sym (flat_map-append call_of acts more))));
    turn = through_more _ d0 d1 d2 acts more p.turn q.turn;
  }

  -- no call was made: there was no memory for it
  pub answered_none : (frame : List ℕ) (event : E) (t t' : T) (v v' : View M E A) (l l' : L)
      (f f' : ℕ) → t' ≡ t → v' ≡ v → l' ≡ l
      → Answered makes carries takes t t' v v' l l' (calling frame event) []
      (Turns {E = E} frame f f' (Err Memory))
  answered_none frame event t t' v v' l l' f f' et ev el = record {
    acts = [];
    due = calling frame event;
    did = did_none t t' v v' l l' (calling frame event) et ev el;
    frames_are = refl;
    is = refl;
  }

  turned : (frame : List ℕ) (event : E) (f f' : ℕ) (next : Result (NextOf E) TalkErr)
      → FailsOnly talk.Failed f f' next
      → Turns frame f f' (heeded event next) (due_told frame event next) (bytes_next next ++ [])
  turned frame event f f' (Ok (Call e)) fails = (refl, refl)
  turned frame event f f' (Ok Hold) fails = (refl, refl)
  turned frame event f f' (Ok (Write b)) fails = (refl, append-nil b)
  turned frame event f f' (Ok (Close b)) fails = (refl, append-nil b)
  turned frame event f f' (Err talk.Failed) fails = (refl, refl, fails.cause refl)
  turned frame event f f' (Err talk.Memory) fails = refl

  -- one call
  pub answered_one : (frame : List ℕ) (event : E) (t t' : T) (v v' : View M E A) (l l' : L)
      (f f' place : ℕ) (answer : A) (next : Result (NextOf E) TalkErr)
      → Called takes event place answer v v' → carries t answer next t'
      → l' ≡ l ++ (place, event, answer) ∷ [] → FailsOnly talk.Failed f f' next
      → Answered makes carries takes t t' v v' l l' (calling frame event) []
      (Turns frame f f' (heeded event next))
  answered_one frame event t t' v v' l l' f f' place answer next called carried logged fails =
      record {
        acts = told place event answer next ∷ [];
        due = due_told frame event next;
        did = record {
          moved = (t', carried, refl);
          counted = (v', called, refl);
          logged = logged;
          turn = (due_told frame event next, (refl, refl), refl);
        };
        frames_are = refl;
        is = turned frame event f f' next fails;
      }

  pub answering_none : (frame : List ℕ) (event : E) (t : T) (v : View M E A) (l : L)
      → Answered makes carries takes t t v v l l (calling frame event) [] (λ due bytes.
      (due ≡ calling frame event) × (bytes ≡ []))
  answering_none frame event t v l = record {
    acts = [];
    due = calling frame event;
    did = did_none t t v v l l (calling frame event) refl refl refl;
    frames_are = refl;
    is = (refl, refl);
  }

  -- further calls, after calls that gave nothing to write
  pub answering_more : (frame : List ℕ) (event : E) (from : Due E) (t0 t1 t2 : T)
      (v0 v1 v2 : View M E A) (l0 l1 l2 : L) (end end' : Due E → List ℕ → Type 0)
      → Answered makes carries takes t0 t1 v0 v1 l0 l1 from []
      (λ due bytes. (due ≡ calling frame event) × (bytes ≡ []))
      → Answered makes carries takes t1 t2 v1 v2 l1 l2 (calling frame event) [] end
      → ((due : Due E) (bytes : List ℕ) → end due bytes → end' due bytes)
      → Answered makes carries takes t0 t2 v0 v2 l0 l2 from [] end'
  answering_more frame event from t0 t1 t2 v0 v1 v2 l0 l1 l2 end end' p q also = record {
    acts = p.acts ++ q.acts;
    due = q.due;
    did = did_more p.acts q.acts t0 t1 t2 v0 v1 v2 l0 l1 l2 from (calling frame event) q.due
        (subst (λ d. Did makes carries takes p.acts t0 t1 v0 v1 l0 l1 from d) p.is.0 p.did) q.did;
    frames_are = flat_map-append frame_in p.acts q.acts ∙ ap (λ l. l ++ frames q.acts) p.frames_are
        ∙ q.frames_are;
    is = subst (λ bytes. end' q.due bytes) (sym (flat_map-append bytes_of p.acts q.acts
        ∙ ap (λ l. l ++ written q.acts) p.is.1)) (also q.due (written q.acts) q.is);
  }
