-- Each cause that a run's replies tell was told by a message of its transaction, which was sent
-- before the reply; so it has its making.
use Rattle.std.proofs.Common.{◌≡◌, inl, inr, ◌∙◌, ◌+◌, ◌++◌, ℕ, zero, suc, ℤ}
use Rattle.std.proofs.Common.{Bool, true, false, not, All, Contains, List, [], ◌∷◌, filter}
use Rattle.std.proofs.Common.{filter_map, find, nat_eq, Option, Some, None, option_map, slice_get}
use Rattle.std.proofs.Common.{slice_set, Result, Err, refl, sym, ap, subst, arith}
use Rattle.std.proofs.lemmas.List.Elements.{All-nil, All-append, All-weaker, All-contains}
use Rattle.std.proofs.lemmas.List.Elements.{All-filter}
use Rattle.std.proofs.lemmas.List.Elements.{Contains-append_left, Contains-append_right}
use Rattle.std.proofs.lemmas.List.Elements.{All-map}
use Rattle.txn_types.specs.BySession.{BySession}
use Rattle.txn_types.specs.Letters.{Named, given_out, named_in}
use Rattle.txn_types.specs.declared.cause.Cause.{Cause}
use Rattle.txn_types.specs.declared.decision.Told.{Told}
use Rattle.txn_types.specs.declared.decision.Told.TheVariants as told_as
use Rattle.txn_types.specs.declared.event.Happening.{Happening}
use Rattle.txn_types.specs.declared.event.Happening.TheVariants as what
use Rattle.txn_types.specs.declared.event.NodeAnswer.{NodeAnswer}
use Rattle.txn_types.specs.declared.event.NodeEvent.{NodeEvent}
use Rattle.txn_types.specs.declared.message.Envelope.{Envelope}
use Rattle.txn_types.specs.declared.message.Msg.{Msg}
use Rattle.txn_types.specs.declared.message.Msg.TheVariants as msg
use Rattle.txn_types.specs.declared.message.Statement.{Statement}
use Rattle.txn_types.specs.declared.names.Tag.{Tag}
use Rattle.txn_types.specs.declared.node.Lsid.{Lsid}
use Rattle.txn_types.specs.declared.node.NodeId.{NodeId}
use Rattle.txn_types.specs.declared.node.NodeId.TheVariants.{Shard, Router}
use Rattle.client_cmd.specs.declared.request.Request.{Request}
use Rattle.client_cmd.specs.declared.request.Request.TheVariants as request
use Rattle.client_reply.specs.declared.reply.Refusal.TheVariants as refusal
use Rattle.client_reply.specs.declared.reply.Reply.{Reply}
use Rattle.client_reply.specs.declared.reply.Reply.TheVariants as reply
use Rattle.chunk_map.specs.Map.{Map}
use Rattle.router_state.specs.Deeds.{Move}
use Rattle.router_state.specs.State.{RouterState}
use Rattle.router_state.specs.declared.deed.Sent.{Sent}
use Rattle.router_state.specs.declared.state.Doing.{Doing}
use Rattle.router_state.specs.declared.state.Doing.TheVariants.{Begun, Sought}
use Rattle.router_state.specs.declared.state.Phase.{Phase}
use Rattle.router_state.specs.declared.state.Phase.TheVariants.{Idle, Asking, Checking, Deciding}
use Rattle.router_state.specs.declared.state.Phase.TheVariants.{Committed, Released, Aborted}
use Rattle.router_state.specs.declared.state.Session.{Session}
use Rattle.router_state.specs.declared.state.Transaction.{Transaction}
use Rattle.router_rules.specs.Times.{walled}
use Rattle.router_core.specs.Step as sp
use Rattle.txn_model.specs.declared.ran.Ran.{Ran}
use Rattle.txn_model.specs.declared.ran.Ran.TheVariants.{Step, Swapped}
use Rattle.cluster_core.specs.Answering.{statements_in, statement_in}
use Rattle.cluster_core.specs.Causes.{Past}
use Rattle.cluster_core.specs.Ledger.{Ledger, Entered, fresh_ledger, entered, entered_by, passed}
use Rattle.cluster_core.specs.Ledger.{swapped, replied_from, all_replied}
use Rattle.cluster_core.specs.Nodes.{Nodes}
use Rattle.cluster_core.specs.Replying.{Hand, Replied, hand_by, hands_of, held_in, hands_at, is_of}
use Rattle.cluster_core.specs.Replying.{left_in_hand, replied_in, replied_by}
use Rattle.cluster_core.specs.Routers.{Asked, request_at, is_memory}
use Rattle.cluster_core.specs.Telling.{Telling, Meant, Done, Undone, Caused, meant_by, done_where}
use Rattle.cluster_core.specs.Telling.{ended_as, is_attempt, telling_of, telling_by, told_in}
use Rattle.cluster_core.specs.Trace.{Happens, IsTrace, IsFresh, RouterSteps, MayCome, again}
use Rattle.world_laws.specs.Begins.{BegunOnce, EntryNames, DoingNames}
use Rattle.world_laws.specs.Joint.{Stands, DisksStand}
use Rattle.world_laws.proofs.Joint.{stands_step, stands_fresh}
use Rattle.known_laws.proofs.Sessions.{entry_named}
use Rattle.answer_laws.proofs.Lists.{has_first, has_more, both_true, nat_is, set_same}
use Rattle.participant.proofs.Cases.{either}
use Rattle.world_laws.proofs.Naming.{one}
use Rattle.std.proofs.lemmas.List.{append-nil}
use Rattle.told_laws.proofs.Lists.{contained, filter_has, has_cases, none_there, set_cases}
use Rattle.reply_laws.proofs.Hands.{replied_to}
use Rattle.reply_laws.proofs.Lists.{or_first, found_passes}
use Rattle.reply_laws.proofs.Moving.{here_is, hand_router}
use Rattle.cluster_core.specs.Right.{past_of}
use Rattle.making_laws.specs.Made.{HasMaking, MakingOf, AllMade}
use Rattle.making_laws.proofs.Hearing.{EntryHas, DoingHas, AreGiven, IsGiven, CausedBy}
use Rattle.making_laws.proofs.Hearing.{Causes, mapped_in, some_is, no_some}
use Rattle.making_laws.proofs.Holding.{Holds, IfHere, IsHeld, HeldMoves, HandMoves, Moves, Known}
use Rattle.making_laws.proofs.Holding.{has_on, parts_of, happened_held}
use Rattle.making_laws.proofs.Holding as Holding
use Rattle.making_laws.proofs.Standing.{Made, MsgMade, EnvMade, MadeStands, made_at}
use Rattle.making_laws.proofs.Steps.{IfRefused, IfAborted}

-- Where more was sent.

given_on : (sent out : List Envelope) (tag : Tag) (p : Phase) → AreGiven sent tag p
    → AreGiven (sent ++ out) tag p
given_on sent out tag (Asking asker op answers) h =
    All-weaker (IsGiven sent tag) (IsGiven (sent ++ out) tag) (λ row g. record {
      envelope = g.envelope;
      among = Contains-append_left sent out g.envelope g.among;
      is = g.is;
      tag_is = g.tag_is;
      shard_is = g.shard_is;
    }) answers h
given_on sent out tag Idle h = tt
given_on sent out tag (Checking asker) h = tt
given_on sent out tag (Deciding asker) h = tt
given_on sent out tag Committed h = tt
given_on sent out tag Released h = tt
given_on sent out tag (Aborted so) h = tt

doing_sent : (begun : List Statement) (sent out : List Envelope) (lsid : Lsid) (number : ℤ)
    (doing : Doing) → DoingHas begun sent lsid number doing
    → DoingHas begun (sent ++ out) lsid number doing
doing_sent begun sent out lsid number (Begun t) h = record {
  stated = h.stated;
  kept = h.kept;
  given = given_on sent out t.tag t.phase h.given;
}
doing_sent begun sent out lsid number (Sought seeking known) h = tt

has_sent : (begun : List Statement) (sent out : List Envelope) (entries : BySession Session)
    → All (EntryHas begun sent) entries → All (EntryHas begun (sent ++ out)) entries
has_sent begun sent out entries h =
    All-weaker (EntryHas begun sent) (EntryHas begun (sent ++ out))
    (λ entry k. doing_sent begun sent out entry.0 entry.1.number entry.1.doing k) entries h

-- What is in a list that was picked from another.

mapped_has : {A B : Type 0} (f : A → Option B) (xs : List A) (x : A) (y : B) → Contains xs x
    → f x ≡ Some y → Contains (filter_map f xs) y
mapped_has f [] x y c e = none_there x c
mapped_has f (z ∷ xs) x y c e =
    elim (has_cases z xs x c) [
      | inl same ↦ subst (λ (l : List _). Contains l y) (sym (keeps (ap f (sym same) ∙ e)))
          (has_first y (filter_map f xs))
      | inr there ↦ more (f z) refl (mapped_has f xs x y there e)
    ]
  where
    keeps : f z ≡ Some y → filter_map f (z ∷ xs) ≡ y ∷ filter_map f xs
    keeps is = rw is refl

    more : (o : Option _) → f z ≡ o → Contains (filter_map f xs) y
        → Contains (filter_map f (z ∷ xs)) y
    more None is h = rw is h
    more (Some w) is h = rw is (has_more w (filter_map f xs) y h)

-- The names of statements that were sent.

abbrev named_of : Statement → Named
named_of m = record { tag = m.tag; lsid = m.lsid; number = m.number }

abbrev pub names_in : List Envelope → List Named
names_in sent = filter_map (λ e. named_in e.msg) sent

abbrev pub IsNamed : List Envelope → Statement → Type 0
IsNamed sent m = (e : Envelope) × Contains sent e × (e.msg ≡ msg.Statement m)

named_on : (sent out : List Envelope) (begun : List Statement) → All (IsNamed sent) begun
    → All (IsNamed (sent ++ out)) begun
named_on sent out begun h =
    All-weaker (IsNamed sent) (IsNamed (sent ++ out))
    (λ m x. (x.0, Contains-append_left sent out x.0 x.1, x.2)) begun h

statement_is : (e : Envelope) (m : Msg) (to : NodeId) (part : ℕ × Statement) → e.msg ≡ m
    → e.to ≡ to → statement_in e ≡ Some part → e.msg ≡ msg.Statement part.1
statement_is e (msg.Statement m) (Shard n) part is to h =
    let here : statement_in e ≡ Some (n, m) = rw (is, to) refl in
    is ∙ ap (λ (p : ℕ × Statement). msg.Statement p.1) (some_is (n, m) part (sym here ∙ h))
statement_is e (msg.Statement m) (Router n) part is to h =
    let here : statement_in e ≡ None = rw (is, to) refl in no_some part (sym here ∙ h)
statement_is e other to part is at h =
    let here : statement_in e ≡ None = rw is refl in no_some part (sym here ∙ h)

new_named : (sent : List Envelope) (a : NodeAnswer)
    → All (IsNamed (sent ++ given_out a)) (parts_of a)
new_named sent a =
    All-map (IsNamed (sent ++ given_out a)) (λ (part : ℕ × Statement). part.1) (statements_in a)
    (contained (λ (part : ℕ × Statement). IsNamed (sent ++ given_out a) part.1) (statements_in a)
    (λ part c.
    let from = mapped_in statement_in (given_out a) part c in (
      from.x,
      Contains-append_right sent (given_out a) from.x from.among,
      statement_is from.x from.x.msg from.x.to part refl refl from.is,
    )))

-- What stands before a step.

pub record Stood (l : Ledger) (nodes : Nodes) : Type 0 where
  pub same : l.routers ≡ nodes.routers
  pub named : All (IsNamed nodes.sent) l.begun
  pub each : (n : ℕ) (r : RouterState) → slice_get l.routers n ≡ Some r
      → Holds n l.begun nodes.sent l.hands r.sessions

known_of : (l : Ledger) (nodes : Nodes) (n : ℕ) (r : RouterState) → Stood l nodes
    → BegunOnce (names_in nodes.sent) n r → Known l.begun r
known_of l nodes n r h b = record {
  come = λ m c router boot.
      let x = All-contains (IsNamed nodes.sent) l.begun m h.named c in
      let there : Contains (names_in nodes.sent) (named_of m) =
      mapped_has (λ (e : Envelope). named_in e.msg) nodes.sent x.0 (named_of m) x.1
      (ap named_in x.2) in
      b.come (named_of m) (b.named (named_of m) there (router ∙ b.own) boot);
  own = λ lsid v t there doing.
      let entry = entry_named (EntryNames (Contains b.begun)) lsid r.sessions b.sessions v there in
      let own : Contains b.begun (record { tag = t.tag; lsid = lsid; number = v.number }) =
      names_begun v.number v.doing t doing entry in
      let d = b.drawn (record { tag = t.tag; lsid = lsid; number = v.number }) own in
      (d.router, d.boot);
}
  where
    names_begun : {lsid : Lsid} (number : ℤ) (doing : Doing) (t : Transaction) → doing ≡ Begun t
        → DoingNames (Contains b.begun) lsid number doing
        → Contains b.begun (record { tag = t.tag; lsid = lsid; number = number })
    names_begun {lsid = lsid} number doing t is h =
        (subst (DoingNames (Contains b.begun) lsid number) is h).0

-- The router that takes an event.

module _ (n : ℕ) (begun : List Statement) (sent : List Envelope) (held : List Hand)
    (m : Move) (k : HeldMoves n begun sent held m) where
  left_holds : Holds n begun sent (left_in_hand n m.given.replies held) m.state.sessions
  left_holds = record {
    has = k.has;
    hold = contained (IfHere n m.state.sessions) (left_in_hand n m.given.replies held)
        (λ h there router.
        let f = filter_has (λ (x : Hand). not (replied_to n x m.given.replies)) held h there in
        let moves = All-contains (HandMoves n sent m.state.sessions m.given.replies) held h k.all
        f.0 router in
        record {
          fits = moves.fits;
          waits = or_first _ (replied_to n h m.given.replies)
              (not_true (replied_to n h m.given.replies) f.1) moves.waits;
        });
  }
    where
      not_true : (b : Bool) → not b ≡ true → b ≡ false
      not_true true e = cc
      not_true false e = refl

-- a reply, at this place
abbrev pub IsRight : ℕ → List Envelope → Replied → Type 0
IsRight place sent r = (r.place ≡ place) × CausedBy sent r.hand.tag r.reply

option_is : {A B : Type 0} (f : A → B) (o : Option A) (y : B) → option_map f o ≡ Some y
    → (x : A) × (o ≡ Some x) × (y ≡ f x)
option_is f None y e = no_some y e
option_is f (Some x) y e = (x, refl, sym (some_is (f x) y e))

replies_right : (n place : ℕ) (begun : List Statement) (sent : List Envelope) (held : List Hand)
    (m : Move) → HeldMoves n begun sent held m
    → All (IsRight place sent) (replied_in place n held m.given.replies)
replies_right n place begun sent held m k =
    contained (IsRight place sent) (replied_in place n held m.given.replies) (λ y c.
    let from = mapped_in (replied_by place n held) m.given.replies y c in
    let s = from.x in
    let x = option_is (λ (h : Hand). replied_as place s h) (find (is_of n s.conn) held) y from.is in
    let found = found_passes (is_of n s.conn) held x.0 x.1 in
    let router = nat_is x.0.router n
    (both_true (nat_eq x.0.router n) (nat_eq x.0.conn s.conn) found.1).0 in
    let moves = All-contains (HandMoves n sent m.state.sessions m.given.replies) held x.0 k.all
    found.0 router in
    let right = All-contains (Holding.Caused n sent x.0) m.given.replies s moves.rights
    from.among found.1 in
    subst (IsRight place sent) (sym x.2) (refl, right))
  where
    replied_as : ℕ → Sent → Hand → Replied
    replied_as = λ place s h. record { place = place; hand = h; reply = s.reply }

-- Other routers.

at_filter : (P : Hand → Type 0) (n : ℕ) (w : Happening) (hands : List Hand) → All P hands
    → All P (hands_at n w hands)
at_filter P n (what.Gone conn) hands h = All-filter (λ (x : Hand). not (is_of n conn x)) P hands h
at_filter P n (what.Client conn bytes) hands h = h
at_filter P n (what.Deliver e) hands h = h
at_filter P n what.Resend hands h = h
at_filter P n what.Moment hands h = h

others_new : (n m : ℕ) (begun : List Statement) (r : RouterState) (asked : Option Asked)
    (a : NodeAnswer) (sessions : BySession Session) → (m ≡ n → ⊥)
    → All (IfHere m sessions) (hands_of n begun r asked a)
others_new n m begun r None a sessions apart = All-nil (IfHere m sessions)
others_new n m begun r (Some asked) a sessions apart =
    one (IfHere m sessions) (hand_by n begun r asked _)
    (λ router. absurd (apart (sym router ∙ hand_router n begun r asked _)))

others_hold : (n m : ℕ) (begun more : List Statement) (sent out : List Envelope)
    (r x : RouterState) (e : NodeEvent) (a : NodeAnswer) (replies : List Sent) (hands : List Hand)
    → (m ≡ n → ⊥) → Holds m begun sent hands x.sessions
    → Holds m (begun ++ more) (sent ++ out) (left_in_hand n replies (held_in n begun r e a hands))
    x.sessions
others_hold n m begun more sent out r x e a replies hands apart k =
    let P = IfHere m x.sessions in
    record {
      has = has_on begun more (sent ++ out) x.sessions (has_sent begun sent out x.sessions k.has);
      hold = All-filter (λ (h : Hand). not (replied_to n h replies)) P (held_in n begun r e a hands)
          (All-append P (hands_at n e.what hands) (hands_of n begun r (request_at r e a) a)
          (at_filter P n e.what hands k.hold)
          (others_new n m begun r (request_at r e a) a x.sessions apart));
    }

-- Each step.

pub record Steps (x : Entered) (place : ℕ) (old new : Nodes) : Type 0 where
  pub stood : Stood x.ledger new
  pub right : All (IsRight place old.sent) x.replied

passes : (l : Ledger) (old new : Nodes) (out : List Envelope) → new.routers ≡ old.routers
    → new.sent ≡ old.sent ++ out → Stood l old → Steps (passed l) l.place old new
passes l old new out routers sent h = record {
  stood = record {
    same = h.same ∙ sym routers;
    named = subst (λ (s : List Envelope). All (IsNamed s) l.begun) (sym sent)
        (named_on old.sent out l.begun h.named);
    each = λ n r at.
        let k = h.each n r at in
        record {
          has = subst (λ (s : List Envelope). All (EntryHas l.begun s) r.sessions) (sym sent)
              (has_sent l.begun old.sent out r.sessions k.has);
          hold = k.hold;
        };
  };
  right = All-nil (IsRight l.place old.sent);
}

no_more : (xs : List Envelope) → xs ≡ xs ++ []
no_more xs = sym (append-nil xs)

step_state : (r : RouterState) (e : NodeEvent)
    → (sp.router_step false r e).state ≡ (sp.happened (walled r e.wall) e.what).state
unfolding sp.router_step
step_state r e = refl

step_replies : (r : RouterState) (e : NodeEvent)
    → (sp.router_step false r e).replies ≡ (sp.happened (walled r e.wall) e.what).given.replies
unfolding sp.router_step
step_replies r e = refl

did_held : (n : ℕ) (begun : List Statement) (sent : List Envelope) (r : RouterState)
    (e : NodeEvent) (hands : List Hand) → Known begun r → Holds n begun sent hands r.sessions
    → ((env : Envelope) → e.what ≡ what.Deliver env → Contains sent env)
    → HeldMoves n (begun ++ parts_of (sp.answer_of false (sp.router_step false r e))) sent
    (held_in n begun r e (sp.answer_of false (sp.router_step false r e)) hands)
    (sp.happened (walled r e.wall) e.what)
unfolding sp.router_step
did_held n begun sent r e hands known k comes =
    happened_held n begun sent r e.wall hands (sp.closed_at (walled r e.wall) e.what) _ _ known k
    e.what e refl comes

did_steps : (l : Ledger) (n : ℕ) (r : RouterState) (e : NodeEvent) (old new : Nodes)
    → slice_get l.routers n ≡ Some r → Stood l old → Known l.begun r
    → ((env : Envelope) → e.what ≡ what.Deliver env → Contains old.sent env)
    → new.routers ≡ slice_set old.routers n (sp.router_step false r e).state
    → new.sent ≡ old.sent ++ given_out (sp.answer_of false (sp.router_step false r e))
    → Steps (entered l n (Some r) e (sp.answer_of false (sp.router_step false r e))) l.place old new
did_steps l n r e old new there h known comes routers sent =
    let a = sp.answer_of false (sp.router_step false r e) in
    let m = sp.happened (walled r e.wall) e.what in
    let out = given_out a in
    let begun = l.begun ++ parts_of a in
    let held = held_in n l.begun r e a l.hands in
    let moves = did_held n l.begun old.sent r e l.hands known (h.each n r there) comes in
    let left = left_holds n begun old.sent held m moves in
    record {
      stood = record {
        same =
            ap (λ (xs : List RouterState). slice_set xs n (sp.router_step false r e).state) h.same
            ∙ sym routers;
        named = subst (λ (s : List Envelope). All (IsNamed s) begun) (sym sent)
            (All-append (IsNamed (old.sent ++ out)) l.begun (parts_of a)
            (named_on old.sent out l.begun h.named) (new_named old.sent a));
        each = λ j x at.
            subst (λ (s : List Envelope). Holds j begun s (left_in_hand n
            (sp.router_step false r e).replies held) x.sessions) (sym sent)
            (elim (set_cases l.routers n j (sp.router_step false r e).state x at) [
              | inl w ↦
                  subst (λ (i : ℕ). Holds i begun (old.sent ++ out)
                  (left_in_hand n (sp.router_step false r e).replies held) x.sessions) (sym w.0)
                  (subst (λ (y : RouterState). Holds n begun (old.sent ++ out)
                  (left_in_hand n (sp.router_step false r e).replies held) y.sessions)
                  (sym (w.1 ∙ step_state r e))
                  (subst (λ (sents : List Sent). Holds n begun (old.sent ++ out)
                  (left_in_hand n sents held) m.state.sessions) (sym (step_replies r e))
                  (record {
                    has = has_sent begun old.sent out m.state.sessions left.has;
                    hold = left.hold;
                  })))
              | inr w ↦ others_hold n j l.begun (parts_of a) old.sent out r x e a
                  (sp.router_step false r e).replies l.hands w.0 (h.each j x w.1)
            ]);
      };
      right = subst (λ (sents : List Sent). All (IsRight l.place old.sent)
          (replied_in l.place n held sents)) (sym (step_replies r e))
          (replies_right n l.place begun old.sent held m moves);
    }

want_steps : (want : Bool) (l : Ledger) (n : ℕ) (r : RouterState) (e : NodeEvent)
    (old new : Nodes) → slice_get l.routers n ≡ Some r → Stood l old → Known l.begun r
    → ((env : Envelope) → e.what ≡ what.Deliver env → Contains old.sent env)
    → new.routers ≡ slice_set old.routers n (sp.router_step want r e).state
    → new.sent ≡ old.sent ++ given_out (sp.answer_of want (sp.router_step want r e))
    → Steps (entered l n (Some r) e (sp.answer_of want (sp.router_step want r e))) l.place old new
unfolding sp.router_step
want_steps true l n r e old new there h known comes routers sent =
    passes l old new []
    (routers ∙ ap (λ (xs : List RouterState). slice_set xs n r) (sym h.same)
    ∙ set_same l.routers n r there ∙ h.same) sent h
want_steps false l n r e old new there h known comes routers sent =
    did_steps l n r e old new there h known comes routers sent

comes_of : (sent : List Envelope) (node : NodeId) (w : Happening) → MayCome sent node w
    → (env : Envelope) → w ≡ what.Deliver env → Contains sent env
comes_of sent node w h env is = (subst (MayCome sent node) is h).0

router_steps : (l : Ledger) (old : Nodes) (n : ℕ) (e : NodeEvent) (a : NodeAnswer) (faults : ℕ)
    (new : Nodes) → RouterSteps old n e a faults new → Stands old → Stood l old
    → Steps (entered l n (slice_get l.routers n) e a) l.place old new
router_steps l old n e a faults new h s k =
    let there : slice_get l.routers n ≡ Some h.before =
    ap (λ (xs : List RouterState). slice_get xs n) k.same ∙ h.there in
    rw there (subst (λ (x : NodeAnswer). Steps (entered l n (Some h.before) e x) l.place old new)
    (sym h.takes.1)
    (want_steps h.takes.0 l n h.before e old new there k
    (known_of l old n h.before k (s.begun n h.before h.there))
    (comes_of old.sent (Router n) e.what h.comes)
    (ap (λ (w : Nodes). w.routers) h.nodes
    ∙ ap (λ (x : RouterState). slice_set old.routers n x) h.takes.2)
    (ap (λ (w : Nodes). w.sent) h.nodes
    ∙ ap (λ (x : NodeAnswer). old.sent ++ given_out x) h.takes.1)))

elsewhere_only : (n : ℕ) (hands : List Hand)
    → All (IfHere n []) (filter (λ (h : Hand). not (nat_eq h.router n)) hands)
elsewhere_only n hands =
    contained (IfHere n []) (filter (λ (h : Hand). not (nat_eq h.router n)) hands)
    (λ h there router.
    let f = filter_has (λ (x : Hand). not (nat_eq x.router n)) hands h there in
    let no : not true ≡ true = ap not (sym (here_is n h router)) ∙ f.1 in
    cc)

again_stood : (l : Ledger) (old new : Nodes) (n : ℕ) (r : RouterState)
    → new.routers ≡ slice_set old.routers n (again n r) → new.sent ≡ old.sent → Stood l old
    → Stood (swapped l n (Some r)) new
again_stood l old new n r routers sent h = record {
  same = ap (λ (xs : List RouterState). slice_set xs n (again n r)) h.same ∙ sym routers;
  named = subst (λ (s : List Envelope). All (IsNamed s) l.begun) (sym sent) h.named;
  each = λ j x at.
      subst (λ (s : List Envelope). Holds j l.begun s (swapped l n (Some r)).hands x.sessions)
      (sym sent)
      (elim (set_cases l.routers n j (again n r) x at) [
        | inl w ↦
            subst (λ (i : ℕ). Holds i l.begun old.sent (swapped l n (Some r)).hands x.sessions)
            (sym w.0)
            (subst (λ (y : RouterState). Holds n l.begun old.sent (swapped l n (Some r)).hands
            y.sessions) (sym w.1)
            (record {
              has = All-nil (EntryHas l.begun old.sent);
              hold = elsewhere_only n l.hands;
            }))
        | inr w ↦
            let y = h.each j x w.1 in
            record {
              has = y.has;
              hold = All-filter (λ (h : Hand). not (nat_eq h.router n)) (IfHere j x.sessions)
                  l.hands y.hold;
            }
      ]);
}

step_steps : (l : Ledger) (old : Nodes) (ran : Ran) (new : Nodes) → Happens old ran new
    → Stands old → Stood l old → Steps (entered_by l ran) l.place old new
unfolding entered_by
step_steps l old (Step (Router n) e a faults) new h s k = router_steps l old n e a faults new h s k
step_steps l old (Step (Shard n) e a faults) new h s k =
    passes l old new (given_out a) (ap (λ (w : Nodes). w.routers) h.nodes)
    (ap (λ (w : Nodes). w.sent) h.nodes) k
step_steps l old (Swapped (Shard n)) new h s k =
    passes l old new [] (ap (λ (w : Nodes). w.routers) h.nodes)
    (ap (λ (w : Nodes). w.sent) h.nodes ∙ no_more old.sent) k
step_steps l old (Swapped (Router n)) new h s k =
    let there : slice_get l.routers n ≡ Some h.before =
    ap (λ (xs : List RouterState). slice_get xs n) k.same ∙ h.there in
    record {
      stood = rw there (again_stood l old new n h.before (ap (λ (w : Nodes). w.routers) h.nodes)
          (ap (λ (w : Nodes). w.sent) h.nodes) k);
      right = All-nil (IsRight l.place old.sent);
    }

-- The run.

pub record ToldAt (states : List Nodes) (base : ℕ) (r : Replied) : Type 0 where
  pub index : ℕ
  pub nodes : Nodes
  pub there : slice_get states index ≡ Some nodes
  pub place : r.place ≡ base + index
  pub caused : CausedBy nodes.sent r.hand.tag r.reply

place_on : (l : Ledger) (ran : Ran) → (entered_by l ran).ledger.place ≡ l.place + 1
unfolding entered_by
place_on l (Step (Router n) e a faults) = entered_place (slice_get l.routers n)
  where
    entered_place : (o : Option RouterState) → (entered l n o e a).ledger.place ≡ l.place + 1
    entered_place None = refl
    entered_place (Some r) =
        either (is_memory a) (λ (x : Entered). x.ledger.place ≡ l.place + 1) _ _
        refl refl
place_on l (Step (Shard n) e a faults) = refl
place_on l (Swapped (Router n)) = swapped_place (slice_get l.routers n)
  where
    swapped_place : (o : Option RouterState) → (swapped l n o).place ≡ l.place + 1
    swapped_place None = refl
    swapped_place (Some r) = refl
place_on l (Swapped (Shard n)) = refl

later : (nodes : Nodes) (states : List Nodes) (base next : ℕ) (r : Replied) → next ≡ base + 1
    → ToldAt states next r → ToldAt (nodes ∷ states) base r
later nodes states base next r is t = record {
  index = suc t.index;
  nodes = t.nodes;
  there = t.there;
  place = t.place ∙ omega (arith, is);
  caused = t.caused;
}

now_told : (nodes old : Nodes) (states : List Nodes) (base : ℕ) (r : Replied) → nodes ≡ old
    → IsRight base old.sent r → ToldAt (nodes ∷ states) base r
now_told nodes old states base r is h = record {
  index = 0;
  nodes = nodes;
  there = refl;
  place = h.0 ∙ omega arith;
  caused = subst (λ (x : Nodes). CausedBy x.sent r.hand.tag r.reply) (sym is) h.1;
}

run_told : (l : Ledger) (old : Nodes) (run : List Ran) (trace : List Nodes) (new : Nodes)
    → IsTrace old run trace new → Stands old → Stood l old
    → All (ToldAt trace l.place) (replied_from l run)
run_told l old [] [] new h s k = All-nil (ToldAt [] l.place)
run_told l old [] (nodes ∷ trace) new h s k = absurd h
run_told l old (ran ∷ run) [] new h s k = absurd h
run_told l old (ran ∷ run) (nodes ∷ trace) new h s k =
    let x = entered_by l ran in
    let step = step_steps l old ran h.1.0 h.1.1 s k in
    let more = run_told x.ledger h.1.0 run trace new h.1.2 (stands_step old ran h.1.0 h.1.1 s)
    step.stood in
    All-append (ToldAt (nodes ∷ trace) l.place) x.replied (replied_from x.ledger run)
    (All-weaker (IsRight l.place old.sent) (ToldAt (nodes ∷ trace) l.place)
    (λ r right. now_told nodes old trace l.place r h.0 right) x.replied step.right)
    (All-weaker (ToldAt trace x.ledger.place) (ToldAt (nodes ∷ trace) l.place)
    (λ r told. later nodes trace l.place x.ledger.place r (place_on l ran) told)
    (replied_from x.ledger run) more)

fresh_stood : (chunks : Map) (nodes : Nodes) → IsFresh chunks nodes
    → Stood (fresh_ledger nodes.routers) nodes
fresh_stood chunks nodes f = record {
  same = refl;
  named = All-nil (IsNamed nodes.sent);
  each = λ n r at.
      let b = f.routers n r at in
      subst (λ (x : RouterState). Holds n [] nodes.sent [] x.sessions) (sym b.1)
      (record { has = All-nil (EntryHas [] nodes.sent); hold = All-nil (IfHere n []) });
}

-- What is told.

in_front : (trace : List Nodes) (now : Nodes) (i : ℕ) (nodes : Nodes)
    → slice_get trace i ≡ Some nodes → slice_get (trace ++ now ∷ []) i ≡ Some nodes
in_front [] now i nodes e = no_some nodes e
in_front (x ∷ trace) now zero nodes e = e
in_front (x ∷ trace) now (suc i) nodes e = in_front trace now i nodes e

refused_made : {A : Type 0} (past : Past) (place shard : ℕ) (tag : Tag) (why : Cause)
    (r : Result A Cause) → r ≡ Err why → IfRefused r (Made past place shard tag)
    → Made past place shard tag why
refused_made past place shard tag why r is h =
    subst (λ (x : Result _ Cause). IfRefused x (Made past place shard tag)) is h

outcome_made : (past : Past) (place shard : ℕ) (tag : Tag) (why : Cause) (t : Told)
    → t ≡ told_as.Aborted why → IfAborted t (Made past place shard tag)
    → Made past place shard tag why
outcome_made past place shard tag why t is h =
    subst (λ (x : Told). IfAborted x (Made past place shard tag)) is h

msg_made : (past : Past) (place shard : ℕ) (tag : Tag) (why : Cause) (m : Msg)
    → Causes tag shard why m → MsgMade past place m → Made past place shard tag why
msg_made past place shard tag why (msg.Answer a) c h =
    subst (λ (t : Tag). Made past place shard t why) c.0
    (subst (λ (i : ℕ). Made past place i a.tag why) c.1
    (refused_made past place a.shard a.tag why a.outcome c.2 h))
msg_made past place shard tag why (msg.Outcome o) c h =
    subst (λ (t : Tag). Made past place shard t why) c.0
    (subst (λ (i : ℕ). Made past place i o.tag why) c.1
    (outcome_made past place o.shard o.tag why o.told c.2 h))
msg_made past place shard tag why (msg.Statement m) c h = absurd c
msg_made past place shard tag why (msg.Commit m) c h = absurd c
msg_made past place shard tag why (msg.Abort m) c h = absurd c
msg_made past place shard tag why (msg.CommitTwo m) c h = absurd c
msg_made past place shard tag why (msg.Prepare m) c h = absurd c
msg_made past place shard tag why (msg.Vote m) c h = absurd c
msg_made past place shard tag why (msg.Decide m) c h = absurd c
msg_made past place shard tag why (msg.Acked m) c h = absurd c
msg_made past place shard tag why (msg.Recover m) c h = absurd c
msg_made past place shard tag why msg.Nudge c h = absurd c

has_making : (past : Past) (place : ℕ) (tag : Tag) (shard : ℕ) (why : Cause)
    → Made past place shard tag why → HasMaking past place tag shard why
has_making past place tag shard why h =
    let m = h.made in
    record {
      making = h.making;
      made = record {
        faults = m.faults;
        nodes = m.nodes;
        next = m.next;
        at = m.at;
        behind = m.behind;
        before = m.before;
        after = m.after;
        there = m.there;
        of = m.of;
        earlier = omega (arith, h.before);
        session = m.session;
        makes = m.makes;
      };
      new = h.new;
    }

-- by what a reply means
done_quiet : (past : Past) (place : ℕ) (tag : Tag) (b : Bool) (meant : Meant)
    → done_where b ≡ Some meant → MakingOf past place tag meant
done_quiet past place tag true meant e = subst (MakingOf past place tag) (some_is Done meant e) tt
done_quiet past place tag false meant e = no_some meant e

ended_quiet : (past : Past) (place : ℕ) (tag : Tag) (q : Request) (meant : Meant)
    → ended_as q ≡ Some meant → MakingOf past place tag meant
ended_quiet past place tag (request.Commit txn t more time) meant e =
    subst (MakingOf past place tag) (some_is Done meant e) tt
ended_quiet past place tag (request.Abort txn more time) meant e =
    subst (MakingOf past place tag) (some_is Undone meant e) tt
ended_quiet past place tag (request.Ping more time) meant e = no_some meant e
ended_quiet past place tag (request.Hello old_name more time) meant e = no_some meant e
ended_quiet past place tag (request.Statement op txn at after more time) meant e = no_some meant e
ended_quiet past place tag (request.EndSessions ids more time) meant e = no_some meant e

reply_making : (past : Past) (place : ℕ) (tag : Tag) (sent : List Envelope) (q : Request)
    (r : Reply) (meant : Meant) → All (EnvMade past place) sent → CausedBy sent (Some tag) r
    → meant_by q r ≡ Some meant → MakingOf past place tag meant
reply_making past place tag sent q (reply.Wrote n modified t) meant made caused e =
    done_quiet past place tag (is_attempt q) meant e
reply_making past place tag sent q (reply.Found ns docs t) meant made caused e =
    done_quiet past place tag (is_attempt q) meant e
reply_making past place tag sent q (reply.Ended t) meant made caused e =
    ended_quiet past place tag q meant e
reply_making past place tag sent q (reply.Caused shard number why) meant made caused e =
    let same : tag ≡ caused.0 = some_is tag caused.0 caused.1 in
    let c = caused.2 in
    subst (MakingOf past place tag) (some_is (Caused shard why) meant e)
    (has_making past place tag shard why
    (subst (λ (t : Tag). Made past place shard t why) (sym same)
    (msg_made past place shard caused.0 why c.envelope.msg c.causes
    (All-contains (EnvMade past place) sent c.envelope made c.among))))
reply_making past place tag sent q (reply.Refused refusal.Aborted) meant made caused e =
    subst (MakingOf past place tag) (some_is Undone meant e) tt
reply_making past place tag sent q other meant made caused e = no_some meant e

telling_making : (past : Past) (place : ℕ) (sent : List Envelope) (q : Request) (r : Reply)
    (tag : Option Tag) (meant : Option Meant) (t : Telling) → All (EnvMade past place) sent
    → CausedBy sent tag r → meant_by q r ≡ meant → telling_by place tag meant ≡ Some t
    → MakingOf past t.place t.tag t.meant
telling_making past place sent q r None meant t made caused is e = no_some t e
telling_making past place sent q r (Some tag) None t made caused is e = no_some t e
telling_making past place sent q r (Some tag) (Some meant) t made caused is e =
    let here : Telling = record { place = place; tag = tag; meant = meant } in
    subst (λ (x : Telling). MakingOf past x.place x.tag x.meant) (some_is here t e)
    (reply_making past place tag sent q r meant made caused is)

pub all_made : (chunks : Map) (start : Nodes) (run : List Ran) (trace : List Nodes) (now : Nodes)
    → IsFresh chunks start → DisksStand start → IsTrace start run trace now
    → AllMade (past_of chunks start run trace now) (told_in start.routers run)
all_made chunks start run trace now fresh disks is =
    let past = past_of chunks start run trace now in
    let told = run_told (fresh_ledger start.routers) start run trace now is
    (stands_fresh chunks start fresh disks) (fresh_stood chunks start fresh) in
    contained (λ (t : Telling). MakingOf past t.place t.tag t.meant) (told_in start.routers run)
    (λ t c.
    let from = mapped_in telling_of (all_replied start.routers run) t c in
    let r = from.x in
    let at = All-contains (ToldAt trace 0) (all_replied start.routers run) r told from.among in
    let made : MadeStands past at.index at.nodes =
    made_at past start fresh disks is at.index at.nodes
    (in_front trace now at.index at.nodes at.there) in
    let index : at.index ≡ r.place = omega (arith, at.place) in
    telling_making past r.place at.nodes.sent r.hand.request r.reply r.hand.tag
    (meant_by r.hand.request r.reply) t
    (subst (λ (i : ℕ). All (EnvMade past i) at.nodes.sent) index made.sent) at.caused refl from.is)
