-- One message of a connection, and one message after another.
use Rattle.std.proofs.Common.{◌≡◌, ◌≢◌, ℕ, ◌≤◌, List, [], ◌∷◌, ◌++◌, length, take, Option, Some}
use Rattle.std.proofs.Common.{None, Result, Ok, Err, IfSome, refl, sym, ap, subst, ◌∙◌}
use Rattle.std.proofs.Common.{append_assoc, inl, inr, ⊎_elim, length-append, arith}
use Rattle.std.proofs.lemmas.List.{append-nil, take-append-drop}
use Rattle.std.proofs.lemmas.Grind.{flat_map-append}
use Rattle.outside_core.specs.Bytes.{Came, Went, WentInPart}
use Rattle.outside_core.proofs.Steps.{came_more, came_none, went_more, went_none, writing_part}
use Rattle.op_msg.specs.Stream.{next_of}
use Rattle.op_msg.proofs.Cuts.{next-append}
use Rattle.node_lock.specs.declared.law.View.{View}
use Rattle.node_server.specs.declared.calling.Reply.{Reply}
use Rattle.node_server.specs.declared.calling.Reply.TheVariants as reply
use Rattle.node_server.specs.declared.ended.Ended.{Ended}
use Rattle.node_server.specs.declared.ended.Ended.TheVariants.{Done, LinkFault, BadFrame, Cut}
use Rattle.node_server.specs.declared.ended.Ended.TheVariants.{TalkFault, Memory, Closed}
use Rattle.node_server.specs.declared.talk.NextOf.{NextOf}
use Rattle.node_server.specs.declared.talk.TalkErr.{TalkErr}
use Rattle.node_server.specs.Acts.{asked, Due, message, calling, closing, failing, frame_in, frames}
use Rattle.node_server.specs.Acts.{bytes_of, written, Did}
use Rattle.node_server.specs.Ends.{Tally, tally, Later, Ends, Sends, EndsSo, Turns, replied, Closes}
use Rattle.node_server.specs.Ends.{Replies, FrameEnds, Frames, Serves, Answered, Served}
use Rattle.node_server.specs.Reads.{Cuts, Stops, Fetches}
use Rattle.node_server.proofs.Fetching.{rose_later}
use Rattle.node_server.proofs.Steps.{did_none, did_more}

-- ---- what was sent
pub part_none : (out : Option (List ℕ)) → WentInPart out out []
part_none out = (0, omega arith, went_none out)

pub part_all : (out out' : Option (List ℕ)) (bytes : List ℕ) → Went out out' bytes
    → WentInPart out out' bytes
part_all out out' bytes w =
    writing_part record { front = bytes; split = sym (append-nil bytes); went = w }

part_more : (a b c : Option (List ℕ)) (xs ys : List ℕ) → Went a b xs → WentInPart b c ys
    → WentInPart a c (xs ++ ys)
part_more a b c xs ys p q = writing_part record {
  front = xs ++ take q.0 ys;
  split = ap (λ l. xs ++ l) (sym (take-append-drop q.0 ys))
      ∙ sym (append_assoc xs (take q.0 ys) (Rattle.std.proofs.Common.drop q.0 ys));
  went = went_more a b c xs (take q.0 ys) p q.2;
}

sends_more : (a b c : Option (List ℕ)) (xs ys : List ℕ) (e : Ended) → Went a b xs → Sends b c ys e
    → Sends a c (xs ++ ys) e
sends_more a b c xs ys LinkFault p q = part_more a b c xs ys p q
sends_more a b c xs ys Memory p q = part_more a b c xs ys p q
sends_more a b c xs ys Done p q = went_more a b c xs ys p q
sends_more a b c xs ys Cut p q = went_more a b c xs ys p q
sends_more a b c xs ys TalkFault p q = went_more a b c xs ys p q
sends_more a b c xs ys (BadFrame err) p q = went_more a b c xs ys p q
sends_more a b c xs ys Closed p q = went_more a b c xs ys p q

-- nothing was to be sent
sends_none : (out out' : Option (List ℕ)) (e : Ended) → out' ≡ out → Sends out out' [] e
sends_none out out' LinkFault same = subst (λ o. WentInPart out o []) (sym same) (part_none out)
sends_none out out' Memory same = subst (λ o. WentInPart out o []) (sym same) (part_none out)
sends_none out out' Done same = subst (λ o. Went out o []) (sym same) (went_none out)
sends_none out out' Cut same = subst (λ o. Went out o []) (sym same) (went_none out)
sends_none out out' TalkFault same = subst (λ o. Went out o []) (sym same) (went_none out)
sends_none out out' (BadFrame err) same = subst (λ o. Went out o []) (sym same) (went_none out)
sends_none out out' Closed same = subst (λ o. Went out o []) (sym same) (went_none out)

-- ---- one message
-- the Talk gave nothing to write
pub frames_refused : {E : Type 0} (X : Type 0) (frame : List ℕ) (out : Option (List ℕ))
    (f t0 t1 t2 : ℕ) (e : Ended) → t0 ≤ t1 → (r : Result Reply Ended) → r ≡ Err e
    → (due : Due E) (bytes : List ℕ) → Turns frame t1 t2 (replied {E = E} r) due bytes
    → Frames {E = E} {X = X} out out f f t0 t2 (Err e) due bytes
frames_refused {E} X frame out f t0 t1 t2 e le r is due bytes t =
    by_end e (subst (λ x. Turns frame t1 t2 (replied {E = E} x) due bytes) is t)
  where
    by_end : (e : Ended) → Turns {E = E} frame t1 t2 (Err e) due bytes
        → Frames {E = E} {X = X} out out f f t0 t2 (Err e) due bytes
    by_end TalkFault h =
        ((h.1, rose_later t0 t1 t2 le h.2), subst (Went out out) (sym h.0) (went_none out))
    by_end Memory h = (tt, subst (WentInPart out out) (sym h) (part_none out))
    by_end Done h = absurd h
    by_end Cut h = absurd h
    by_end LinkFault h = absurd h
    by_end (BadFrame err) h = absurd h
    by_end Closed h = absurd h

closes_frame : {E : Type 0} (frame : List ℕ) (out out' : Option (List ℕ)) (f f' t0
    t2 : ℕ) (b : List ℕ) (e : Ended) → Closes frame out out' f f' (reply.Close b) e
    → (due : Due E) (bytes : List ℕ) → due ≡ closing frame → bytes ≡ b
    → FrameEnds due f f' t0 t2 e × Sends out out' bytes e
closes_frame frame out out' f f' t0 t2 b LinkFault c due bytes d w =
    (c.1, subst (WentInPart out out') (sym w) c.0)
closes_frame frame out out' f f' t0 t2 b Memory c due bytes d w =
    (tt, subst (WentInPart out out') (sym w) c)
closes_frame frame out out' f f' t0 t2 b (BadFrame err) c due bytes d w =
    ((frame, d, c.1), subst (Went out out') (sym w) c.0)
closes_frame frame out out' f f' t0 t2 b Closed c due bytes d w =
    ((frame, d, c.1), subst (Went out out') (sym w) c.0)
closes_frame frame out out' f f' t0 t2 b Done c due bytes d w = absurd c.1
closes_frame frame out out' f f' t0 t2 b Cut c due bytes d w = absurd c.1
closes_frame frame out out' f f' t0 t2 b TalkFault c due bytes d w = absurd c.1

writes_frame : {E : Type 0} (frame : List ℕ) (out out' : Option (List ℕ)) (f f' t0
    t2 : ℕ) (b : List ℕ) (e : Ended) → Closes frame out out' f f' (reply.Write b) e
    → (due : Due E) (bytes : List ℕ) → bytes ≡ b
    → FrameEnds due f f' t0 t2 e × Sends out out' bytes e
writes_frame frame out out' f f' t0 t2 b LinkFault c due bytes w =
    (c.1, subst (WentInPart out out') (sym w) c.0)
writes_frame frame out out' f f' t0 t2 b Memory c due bytes w =
    (tt, subst (WentInPart out out') (sym w) c)
writes_frame frame out out' f f' t0 t2 b (BadFrame err) c due bytes w = absurd c
writes_frame frame out out' f f' t0 t2 b Closed c due bytes w = absurd c
writes_frame frame out out' f f' t0 t2 b Done c due bytes w = absurd c
writes_frame frame out out' f f' t0 t2 b Cut c due bytes w = absurd c
writes_frame frame out out' f f' t0 t2 b TalkFault c due bytes w = absurd c

-- what the Talk gave was written, or not
pub frames_replied : {E X : Type 0} (frame : List ℕ) (out out' : Option (List ℕ)) (f f' t0
    t1 t2 : ℕ) (rep : Reply) (r : Result Reply Ended) (result : Result X Ended) → r ≡ Ok rep
    → Replies frame out out' f f' rep result
    → (due : Due E) (bytes : List ℕ) → Turns frame t1 t2 (replied {E = E} r) due bytes
    → Frames {E = E} {X = X} out out' f f' t0 t2 result due bytes
frames_replied {E} {X} frame out out' f f' t0 t1 t2 rep r result is given due bytes t =
    by_reply rep result given (subst (λ x. Turns frame t1 t2 (replied {E = E} x) due bytes) is t)
  where
    by_reply : (rep : Reply) (result : Result X Ended) → Replies frame out out' f f' rep result
        → Turns {E = E} frame t1 t2 (replied {E = E} (Ok rep)) due bytes
        → Frames {E = E} {X = X} out out' f f' t0 t2 result due bytes
    by_reply (reply.Write b) (Ok x) g h = (h.0, subst (Went out out') (sym h.1) g)
    by_reply (reply.Write b) (Err e) g h =
        writes_frame frame out out' f f' t0 t2 b e g due bytes h.1
    by_reply (reply.Close b) (Ok x) g h = absurd g
    by_reply (reply.Close b) (Err e) g h =
        closes_frame frame out out' f f' t0 t2 b e g due bytes h.0 h.1

module _ {T M E A : Type 0} (makes : T → List ℕ → Result E TalkErr → T → Type 0) (carries : T → A
    → Result (NextOf E) TalkErr → T → Type 0) (takes : M → E → A → M → Type 0) where
  abbrev L : Type 0
  L = List (ℕ × E × A)

  -- the Talk made no event of the message
  pub asked_failed : (frame : List ℕ) (t t' : T) (v : View M E A) (l : L) (te : TalkErr)
      (r : Result E TalkErr) (end : Due E → List ℕ → Type 0) → r ≡ Err te → makes t frame r t'
      → end (failing te) []
      → Answered makes carries takes t t' v v l l message (frame ∷ []) end
  asked_failed frame t t' v l te r end is made ends = record {
    acts = asked frame (Err te) ∷ [];
    due = failing te;
    did = record {
      moved = (t', subst (λ x. makes t frame x t') is made, refl);
      counted = (v, refl, refl);
      logged = sym (append-nil l);
      turn = (failing te, refl, refl);
    };
    frames_are = refl;
    is = ends;
  }

  -- the Talk made an event of the message, and calls were made
  pub asked_then : (frame : List ℕ) (event : E) (t0 t1 t2 : T) (v v' : View M E A) (l l' : L) (r :
      Result E TalkErr) (end end' : Due E → List ℕ → Type 0) → r ≡ Ok event → makes t0 frame r t1
      → Answered makes carries takes t1 t2 v v' l l' (calling frame event) [] end
      → ((due : Due E) (bytes : List ℕ) → end due bytes → end' due bytes)
      → Answered makes carries takes t0 t2 v v' l l' message (frame ∷ []) end'
  asked_then frame event t0 t1 t2 v v' l l' r end end' is made q also = record {
    acts = asked frame (Ok event) ∷ q.acts;
    due = q.due;
    did = record {
      moved = (t1, subst (λ x. makes t0 frame x t1) is made, q.did.moved);
      counted = (v, refl, q.did.counted);
      logged = q.did.logged;
      turn = (calling frame event, refl, q.did.turn);
    };
    frames_are = ap (λ l. frame ∷ l) q.frames_are;
    is = also q.due (written q.acts) q.is;
  }

  -- ---- the next message
  ends_of_stops : (limit : ℕ) (rest : List ℕ) (left : Option (List ℕ)) (b n : Tally) (e : Ended)
      → Stops limit rest left b.faults n.faults b.ends n.ends e
      → Ends {E = E} limit rest left message b n e
  ends_of_stops limit rest left b n Done s = (refl, s.0, s.1, s.2)
  ends_of_stops limit rest left b n Cut s = (refl, s.0, s.1, s.2, s.3)
  ends_of_stops limit rest left b n LinkFault s = s
  ends_of_stops limit rest left b n (BadFrame err) s = inl (refl, s)
  ends_of_stops limit rest left b n Memory s = tt
  ends_of_stops limit rest left b n TalkFault s = absurd s
  ends_of_stops limit rest left b n Closed s = absurd s

  -- no message came
  pub served_stopped : {Y : Type 0} (t : T) (v : View M E A) (l : L) (limit : ℕ) (held : List ℕ)
      (found : Y → List ℕ → Type 0) (left left' out out' : Option (List ℕ)) (b n : Tally)
      (e : Ended) (r : Result Y Ended) → r ≡ Err e → out' ≡ out
      → Fetches limit held found left left' b.faults n.faults b.ends n.ends r → Served makes carries
      takes t t v v l l limit held left left' (EndsSo limit left' out out' b n e)
  served_stopped t v l limit held found left left' out out' b n e r is same q = let q' = subst (λ x.
      Fetches limit held found left left' b.faults n.faults b.ends n.ends x) is q in record {
        acts = [];
        due = message;
        did = did_none makes carries takes t t v v l l message refl refl refl;
        bytes = q'.bytes;
        rest = held ++ q'.bytes;
        came = q'.came;
        cut = refl;
        is = (ends_of_stops limit (held ++ q'.bytes) left' b n e q'.is, sends_none out out' e same);
      }

  -- there was no memory to keep the message
  pub served_dropped : {Y : Type 0} (t : T) (v : View M E A) (l : L) (limit : ℕ) (held : List ℕ)
      (found : Y → List ℕ → Type 0) (left left' out out' : Option (List ℕ)) (b n : Tally) (f f' e
      e' : ℕ) (r : Result Y Ended) → out' ≡ out
      → Fetches limit held found left left' f f' e e' r → Served makes carries takes t t v v l l
      limit held left left' (EndsSo limit left' out out' b n Memory)
  served_dropped t v l limit held found left left' out out' b n f f' e e' r same q = record {
    acts = [];
    due = message;
    did = did_none makes carries takes t t v v l l message refl refl refl;
    bytes = q.bytes;
    rest = held ++ q.bytes;
    came = q.came;
    cut = refl;
    is = (tt, sends_none out out' Memory same);
  }

  ends_of_frame : (limit : ℕ) (rest : List ℕ) (left : Option (List ℕ)) (due : Due E)
      (f0 f1 f2 e0 e2 t0 t2 : ℕ) (e : Ended) → f0 ≤ f1 → FrameEnds due f1 f2 t0 t2 e
      → Ends {E = E} limit rest left due (tally f0 e0 t0) (tally f2 e2 t2) e
  ends_of_frame limit rest left due f0 f1 f2 e0 e2 t0 t2 LinkFault le h = rose_later f0 f1 f2 le h
  ends_of_frame limit rest left due f0 f1 f2 e0 e2 t0 t2 TalkFault le h = h
  ends_of_frame limit rest left due f0 f1 f2 e0 e2 t0 t2 (BadFrame err) le h = inr h
  ends_of_frame limit rest left due f0 f1 f2 e0 e2 t0 t2 Closed le h = h
  ends_of_frame limit rest left due f0 f1 f2 e0 e2 t0 t2 Memory le h = tt
  ends_of_frame limit rest left due f0 f1 f2 e0 e2 t0 t2 Done le h = absurd h
  ends_of_frame limit rest left due f0 f1 f2 e0 e2 t0 t2 Cut le h = absurd h

  serves_frame : {X : Type 0} (limit : ℕ) (held : List ℕ) (left out out' : Option (List ℕ)) (f0 f1
      f2 e0 e2 t0 t2 : ℕ) → f0 ≤ f1 → (result : Result X Ended) (due : Due E) (bytes : List ℕ)
      → Frames {E = E} out out' f1 f2 t0 t2 result due bytes
      → Serves limit held left out out' (tally f0 e0 t0) (tally f2 e2 t2) result due held bytes
  serves_frame limit held left out out' f0 f1 f2 e0 e2 t0 t2 le (Ok x) due bytes h =
      (h.0, refl, h.1)
  serves_frame limit held left out out' f0 f1 f2 e0 e2 t0 t2 le (Err e) due bytes h =
      (ends_of_frame limit held left due f0 f1 f2 e0 e2 t0 t2 e le h.0, h.1)

  -- a message came, and was answered or ends the connection
  pub served_frame : {X : Type 0} (t t' : T) (v v' : View M E A) (l l' : L) (limit : ℕ)
      (held held' : List ℕ) (left mid left' out middle out' : Option (List ℕ)) (f0 f1 f2 e0 e1 e2 t0
      t2 : ℕ) (frame : List ℕ) (r : Result (List ℕ) Ended) (result : Result X Ended)
      → f0 ≤ f1 → r ≡ Ok frame → left' ≡ mid → middle ≡ out
      → Fetches limit held (λ frame rest. next_of limit rest ≡ Ok (Some (frame, held'))) left mid
      f0 f1 e0 e1 r
      → Answered makes carries takes t t' v v' l l' message (frame ∷ [])
      (Frames middle out' f1 f2 t0 t2 result)
      → Served makes carries takes t t' v v' l l' limit held left left'
      (Serves limit held' left' out out' (tally f0 e0 t0) (tally f2 e2 t2) result)
  served_frame {X} t t' v v' l l' limit held held' left mid left' out middle out' f0 f1 f2 e0 e1 e2
      t0 t2 frame r result le is same kept q p =
      let q' = subst (λ x. Fetches limit held (λ frame rest. next_of limit rest
      ≡ Ok (Some (frame, held'))) left mid f0 f1 e0 e1 x) is q in
      let cut : Cuts limit (held ++ q'.bytes) (frame ∷ []) held' = (held', q'.is, refl) in record {
        acts = p.acts;
        due = p.due;
        did = p.did;
        bytes = q'.bytes;
        rest = held';
        came = subst (λ x. Came left x q'.bytes) (sym same) q'.came;
        cut = subst (λ fs. Cuts limit (held ++ q'.bytes) fs held') (sym p.frames_are) cut;
        is = serves_frame limit held' left' out out' f0 f1 f2 e0 e2 t0 t2 le result p.due
            (written p.acts) (subst (λ o. Frames {E = E} {X = X} o out' f1 f2 t0 t2 result p.due
            (written p.acts)) kept p.is);
      }

  -- ---- one message after another
  cuts_more : (limit : ℕ) (bytes : List ℕ) (fs : List (List ℕ)) (rest more : List ℕ)
      → Cuts limit bytes fs rest → Cuts limit (bytes ++ more) fs (rest ++ more)
  cuts_more limit bytes [] rest more h = ap (λ l. l ++ more) h
  cuts_more limit bytes (f ∷ fs) rest more h =
      (h.0 ++ more, next-append limit bytes f h.0 more h.1, cuts_more limit h.0 fs rest more h.2)

  cuts_append : (limit : ℕ) (bytes : List ℕ) (fs : List (List ℕ)) (mid : List ℕ)
      (gs : List (List ℕ)) (rest : List ℕ) → Cuts limit bytes fs mid → Cuts limit mid gs rest
      → Cuts limit bytes (fs ++ gs) rest
  cuts_append limit bytes [] mid gs rest h q = subst (λ b. Cuts limit b gs rest) (sym h) q
  cuts_append limit bytes (f ∷ fs) mid gs rest h q =
      (h.0, h.1, cuts_append limit h.0 fs mid gs rest h.2 q)

  -- nothing was done yet
  pub served_none : (t : T) (v : View M E A) (l : L) (limit : ℕ) (held : List ℕ)
      (left out : Option (List ℕ)) → held ≡ []
      → Served makes carries takes t t v v l l limit [] left left
      (λ due rest bytes. (due ≡ message) × (rest ≡ held) × Went out out bytes)
  served_none t v l limit held left out none = record {
    acts = [];
    due = message;
    did = did_none makes carries takes t t v v l l message refl refl refl;
    bytes = [];
    rest = [];
    came = came_none left;
    cut = refl;
    is = (refl, sym none, went_none out);
  }

  pub served_more : (t0 t1 t2 : T) (v0 v1 v2 : View M E A) (l0 l1 l2 : L) (limit : ℕ)
      (held0 held1 : List ℕ) (left0 left1 left2 out0 out1 : Option (List ℕ))
      (end end' : Due E → List ℕ → List ℕ → Type 0)
      → Served makes carries takes t0 t1 v0 v1 l0 l1 limit held0 left0 left1
      (λ due rest bytes. (due ≡ message) × (rest ≡ held1) × Went out0 out1 bytes)
      → Served makes carries takes t1 t2 v1 v2 l1 l2 limit held1 left1 left2 end
      → ((due : Due E) (rest xs ys : List ℕ) → Went out0 out1 xs → end due rest ys
      → end' due rest (xs ++ ys))
      → Served makes carries takes t0 t2 v0 v2 l0 l2 limit held0 left0 left2 end'
  served_more t0 t1 t2 v0 v1 v2 l0 l1 l2 limit held0 held1 left0 left1 left2 out0 out1 end
      end' p q also =
      let longer : Cuts limit ((held0 ++ p.bytes) ++ q.bytes) (frames p.acts) (p.rest ++ q.bytes) =
      cuts_more limit (held0 ++ p.bytes) (frames p.acts) p.rest q.bytes p.cut in
      let here : Cuts limit (p.rest ++ q.bytes) (frames q.acts) q.rest =
      subst (λ h. Cuts limit (h ++ q.bytes) (frames q.acts) q.rest) (sym p.is.1) q.cut in
      let both : Cuts limit ((held0 ++ p.bytes) ++ q.bytes) (frames p.acts ++ frames q.acts)
      q.rest = cuts_append limit ((held0 ++ p.bytes) ++ q.bytes) (frames p.acts) (p.rest
      ++ q.bytes) (frames q.acts) q.rest longer here in record {
        acts = p.acts ++ q.acts;
        due = q.due;
        did = did_more makes carries takes p.acts q.acts t0 t1 t2 v0 v1 v2 l0 l1 l2 message message
            q.due (subst (λ d. Did makes carries takes p.acts t0 t1 v0 v1 l0 l1 message d) p.is.0
            p.did) q.did;
        bytes = p.bytes ++ q.bytes;
        rest = q.rest;
        came = came_more left0 left1 left2 p.bytes q.bytes p.came q.came;
        cut = subst (λ (x : List ℕ × List (List ℕ)). Cuts limit x.0 x.1 q.rest) (λ i.
            (append_assoc held0 p.bytes q.bytes i, sym (flat_map-append frame_in p.acts q.acts) i))
            both;
        is = subst (λ bytes. end' q.due q.rest bytes) (sym (flat_map-append bytes_of p.acts q.acts))
            (also q.due q.rest (written p.acts) (written q.acts) p.is.2 q.is);
      }

  -- the connection goes on
  pub goes_on : {X : Type 0} (limit : ℕ) (held : List ℕ) (left out0 out1 out2 : Option (List ℕ))
      (b n : Tally) (r : Result X Ended) → ((e : Ended) → r ≡ Err e → ⊥)
      → (due : Due E) (rest xs ys : List ℕ) → Went out0 out1 xs
      → Serves {E = E} limit held left out1 out2 b n r due rest ys
      → (due ≡ message) × (rest ≡ held) × Went out0 out2 (xs ++ ys)
  goes_on limit held left out0 out1 out2 b n (Ok x) not due rest xs ys p q =
      (q.0, q.1, went_more out0 out1 out2 xs ys p q.2)
  goes_on limit held left out0 out1 out2 b n (Err e) not due rest xs ys p q = absurd (not e refl)

  ends_later : (limit : ℕ) (rest : List ℕ) (left : Option (List ℕ)) (due : Due E) (a b
      n : Tally) (e : Ended) → Later a b → Ends {E = E} limit rest left due b n e
      → Ends {E = E} limit rest left due a n e
  ends_later limit rest left due a b n Done le h =
      (h.0, h.1, h.2, rose_later a.ends b.ends n.ends le.ends h.3)
  ends_later limit rest left due a b n Cut le h =
      (h.0, h.1, h.2, h.3, rose_later a.ends b.ends n.ends le.ends h.4)
  ends_later limit rest left due a b n LinkFault le h =
      rose_later a.faults b.faults n.faults le.faults h
  ends_later limit rest left due a b n TalkFault le h =
      (h.0, rose_later a.talk b.talk n.talk le.talk h.1)
  ends_later limit rest left due a b n (BadFrame err) le h = h
  ends_later limit rest left due a b n Closed le h = h
  ends_later limit rest left due a b n Memory le h = tt

  -- the connection ends
  pub ends_so : {X : Type 0} (limit : ℕ) (held : List ℕ) (left out0 out1 out2 : Option (List ℕ))
      (a b n : Tally) (r : Result X Ended) (e : Ended) → r ≡ Err e → Later a b
      → (due : Due E) (rest xs ys : List ℕ) → Went out0 out1 xs
      → Serves {E = E} limit held left out1 out2 b n r due rest ys
      → EndsSo {E = E} limit left out0 out2 a n e due rest (xs ++ ys)
  ends_so limit held left out0 out1 out2 a b n r e is le due rest xs ys p q =
      let q' = subst (λ x. Serves {E = E} limit held left out1 out2 b n x due rest ys) is q in
      (ends_later limit rest left due a b n e le q'.0, sends_more out0 out1 out2 xs ys e p q'.1)
