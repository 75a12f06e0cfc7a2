-- Each reply of a run was given by a step of its router, in one of these ways.
use Rattle.std.proofs.Common.{◌≡◌, ◌⊎◌, inl, inr, ◌∙◌, ◌+◌, ◌++◌, ℕ, suc, ℤ}
use Rattle.std.proofs.Common.{Bool, true, false, not, All, Contains, List, [], ◌∷◌, filter}
use Rattle.std.proofs.Common.{filter_map, nat_eq, Option, Some, None, slice_get}
use Rattle.std.proofs.Common.{slice_set, refl, sym, ap, subst, arith}
use Rattle.std.proofs.lemmas.List.Elements.{All-nil, All-append, All-weaker, All-contains}
use Rattle.std.proofs.lemmas.List.Elements.{All-filter}
use Rattle.std.proofs.lemmas.List.Elements.{Contains-append_left, Contains-append_right}
use Rattle.std.proofs.lemmas.List.Elements.{All-map}
use Rattle.txn_types.specs.BySession.{BySession}
use Rattle.txn_types.specs.Letters.{Named, given_out, named_in}
use Rattle.txn_types.specs.declared.event.Happening.{Happening}
use Rattle.txn_types.specs.declared.event.Happening.TheVariants as what
use Rattle.txn_types.specs.declared.event.NodeAnswer.{NodeAnswer}
use Rattle.txn_types.specs.declared.event.NodeEvent.{NodeEvent}
use Rattle.txn_types.specs.declared.message.Envelope.{Envelope}
use Rattle.txn_types.specs.declared.message.Msg.{Msg}
use Rattle.txn_types.specs.declared.message.Msg.TheVariants as msg
use Rattle.txn_types.specs.declared.message.Statement.{Statement}
use Rattle.txn_types.specs.declared.names.Tag.{Tag}
use Rattle.txn_types.specs.declared.node.Lsid.{Lsid}
use Rattle.txn_types.specs.declared.node.NodeId.{NodeId}
use Rattle.txn_types.specs.declared.node.NodeId.TheVariants.{Shard, Router}
use Rattle.chunk_map.specs.Map.{Map}
use Rattle.router_state.specs.Deeds.{Move}
use Rattle.router_state.specs.State.{RouterState}
use Rattle.router_state.specs.declared.deed.Sent.{Sent}
use Rattle.router_state.specs.declared.state.Doing.{Doing}
use Rattle.router_state.specs.declared.state.Doing.TheVariants.{Begun, Sought}
use Rattle.router_state.specs.declared.state.Phase.{Phase}
use Rattle.router_state.specs.declared.state.Phase.TheVariants.{Idle, Asking, Checking, Deciding}
use Rattle.router_state.specs.declared.state.Phase.TheVariants.{Committed, Released, Aborted}
use Rattle.router_state.specs.declared.state.Session.{Session}
use Rattle.router_state.specs.declared.state.Transaction.{Transaction}
use Rattle.router_rules.specs.Times.{walled}
use Rattle.router_core.specs.Step as sp
use Rattle.txn_model.specs.declared.ran.Ran.{Ran}
use Rattle.txn_model.specs.declared.ran.Ran.TheVariants.{Step, Swapped}
use Rattle.cluster_core.specs.Answering.{statements_in, statement_in}
use Rattle.cluster_core.specs.Ledger.{ledger_behind, Ledger, Entered, fresh_ledger, entered}
use Rattle.cluster_core.specs.Ledger.{entered_by, passed}
use Rattle.cluster_core.specs.Ledger.{swapped, replied_from, all_replied}
use Rattle.cluster_core.specs.Nodes.{Nodes}
use Rattle.cluster_core.specs.Replying.{Hand, Replied, hand_by, hands_of, held_in, hands_at, is_of}
use Rattle.cluster_core.specs.Replying.{left_in_hand, replied_in}
use Rattle.cluster_core.specs.Routers.{Asked, request_at, is_memory}
use Rattle.cluster_core.specs.Trace.{Happens, IsTrace, IsFresh, RouterSteps, MayCome, again}
use Rattle.world_laws.specs.Begins.{BegunOnce, EntryNames, DoingNames}
use Rattle.world_laws.specs.Joint.{Stands, DisksStand}
use Rattle.world_laws.proofs.Joint.{stands_step, stands_fresh}
use Rattle.known_laws.proofs.Sessions.{entry_named}
use Rattle.answer_laws.proofs.Lists.{has_first, has_more, set_same}
use Rattle.participant.proofs.Cases.{either}
use Rattle.world_laws.proofs.Naming.{one}
use Rattle.std.proofs.lemmas.List.{append-nil}
use Rattle.told_laws.proofs.Lists.{contained, filter_has, has_cases, none_there, set_cases}
use Rattle.reply_laws.proofs.Hands.{replied_to}
use Rattle.reply_laws.proofs.Lists.{or_first}
use Rattle.reply_laws.proofs.Moving.{here_is, hand_router}
use Rattle.making_laws.proofs.Hearing.{EntryHas, DoingHas, AreGiven, IsGiven}
use Rattle.making_laws.proofs.Hearing.{mapped_in, some_is, no_some}
use Rattle.making_laws.proofs.Holding.{Holds, IfHere, HeldMoves, HandMoves, Known}
use Rattle.making_laws.proofs.Holding.{has_on, parts_of, happened_held}
use Rattle.making_laws.proofs.Running.{IsNamed, names_in}
use Rattle.right_laws.specs.Said.{Came, Heard, Served, IsWaiting}
use Rattle.right_laws.proofs.Hands.Holding.{hand_waits, Lively, SuitsHere, Does, happened_does}
use Rattle.right_laws.proofs.Hands.Asking.{LivesIn}

-- Where more was sent.

given_on : (sent out : List Envelope) (tag : Tag) (p : Phase) → AreGiven sent tag p
    → AreGiven (sent ++ out) tag p
given_on sent out tag (Asking asker op answers) h =
    All-weaker (IsGiven sent tag) (IsGiven (sent ++ out) tag) (λ row g. record {
      envelope = g.envelope;
      among = Contains-append_left sent out g.envelope g.among;
      is = g.is;
      tag_is = g.tag_is;
      shard_is = g.shard_is;
    }) answers h
given_on sent out tag Idle h = tt
given_on sent out tag (Checking asker) h = tt
given_on sent out tag (Deciding asker) h = tt
given_on sent out tag Committed h = tt
given_on sent out tag Released h = tt
given_on sent out tag (Aborted so) h = tt

doing_sent : (begun : List Statement) (sent out : List Envelope) (lsid : Lsid) (number : ℤ)
    (doing : Doing) → DoingHas begun sent lsid number doing
    → DoingHas begun (sent ++ out) lsid number doing
doing_sent begun sent out lsid number (Begun t) h = record {
  stated = h.stated;
  kept = h.kept;
  given = given_on sent out t.tag t.phase h.given;
}
doing_sent begun sent out lsid number (Sought seeking known) h = tt

has_sent : (begun : List Statement) (sent out : List Envelope) (entries : BySession Session)
    → All (EntryHas begun sent) entries → All (EntryHas begun (sent ++ out)) entries
has_sent begun sent out entries h =
    All-weaker (EntryHas begun sent) (EntryHas begun (sent ++ out))
    (λ entry k. doing_sent begun sent out entry.0 entry.1.number entry.1.doing k) entries h

-- The names of statements that were sent.

mapped_has : {A B : Type 0} (f : A → Option B) (xs : List A) (x : A) (y : B) → Contains xs x
    → f x ≡ Some y → Contains (filter_map f xs) y
mapped_has f [] x y c e = none_there x c
mapped_has f (z ∷ xs) x y c e =
    elim (has_cases z xs x c) [
      | inl same ↦ subst (λ (l : List _). Contains l y) (sym (keeps (ap f (sym same) ∙ e)))
          (has_first y (filter_map f xs))
      | inr there ↦ more (f z) refl (mapped_has f xs x y there e)
    ]
  where
    keeps : f z ≡ Some y → filter_map f (z ∷ xs) ≡ y ∷ filter_map f xs
    keeps is = rw is refl

    more : (o : Option _) → f z ≡ o → Contains (filter_map f xs) y
        → Contains (filter_map f (z ∷ xs)) y
    more None is h = rw is h
    more (Some w) is h = rw is (has_more w (filter_map f xs) y h)

abbrev named_of : Statement → Named
named_of m = record { tag = m.tag; lsid = m.lsid; number = m.number }

named_on : (sent out : List Envelope) (begun : List Statement) → All (IsNamed sent) begun
    → All (IsNamed (sent ++ out)) begun
named_on sent out begun h =
    All-weaker (IsNamed sent) (IsNamed (sent ++ out))
    (λ m x. (x.0, Contains-append_left sent out x.0 x.1, x.2)) begun h

statement_is : (e : Envelope) (m : Msg) (to : NodeId) (part : ℕ × Statement) → e.msg ≡ m
    → e.to ≡ to → statement_in e ≡ Some part → e.msg ≡ msg.Statement part.1
statement_is e (msg.Statement m) (Shard n) part is to h =
    let here : statement_in e ≡ Some (n, m) = rw (is, to) refl in
    is ∙ ap (λ (p : ℕ × Statement). msg.Statement p.1) (some_is (n, m) part (sym here ∙ h))
statement_is e (msg.Statement m) (Router n) part is to h =
    let here : statement_in e ≡ None = rw (is, to) refl in no_some part (sym here ∙ h)
statement_is e other to part is at h =
    let here : statement_in e ≡ None = rw is refl in no_some part (sym here ∙ h)

new_named : (sent : List Envelope) (a : NodeAnswer)
    → All (IsNamed (sent ++ given_out a)) (parts_of a)
new_named sent a =
    All-map (IsNamed (sent ++ given_out a)) (λ (part : ℕ × Statement). part.1) (statements_in a)
    (contained (λ (part : ℕ × Statement). IsNamed (sent ++ given_out a) part.1) (statements_in a)
    (λ part c.
    let from = mapped_in statement_in (given_out a) part c in (
      from.x,
      Contains-append_right sent (given_out a) from.x from.among,
      statement_is from.x from.x.msg from.x.to part refl refl from.is,
    )))

-- What stands before a step.

pub record Stood (l : Ledger) (nodes : Nodes) : Type 0 where
  pub same : l.routers ≡ nodes.routers
  pub named : All (IsNamed nodes.sent) l.begun
  pub each : (n : ℕ) (r : RouterState) → slice_get l.routers n ≡ Some r
      → Holds n l.begun nodes.sent l.hands r.sessions
  pub lively : (n : ℕ) (r : RouterState) → slice_get l.routers n ≡ Some r
      → Lively n l.hands r.sessions

known_of : (l : Ledger) (nodes : Nodes) (n : ℕ) (r : RouterState) → Stood l nodes
    → BegunOnce (names_in nodes.sent) n r → Known l.begun r
known_of l nodes n r h b = record {
  come = λ m c router boot.
      let x = All-contains (IsNamed nodes.sent) l.begun m h.named c in
      let there : Contains (names_in nodes.sent) (named_of m) =
      mapped_has (λ (e : Envelope). named_in e.msg) nodes.sent x.0 (named_of m) x.1
      (ap named_in x.2) in
      b.come (named_of m) (b.named (named_of m) there (router ∙ b.own) boot);
  own = λ lsid v t there doing.
      let entry = entry_named (EntryNames (Contains b.begun)) lsid r.sessions b.sessions v there in
      let own : Contains b.begun (record { tag = t.tag; lsid = lsid; number = v.number }) =
      names_begun v.number v.doing t doing entry in
      let d = b.drawn (record { tag = t.tag; lsid = lsid; number = v.number }) own in
      (d.router, d.boot);
}
  where
    names_begun : {lsid : Lsid} (number : ℤ) (doing : Doing) (t : Transaction) → doing ≡ Begun t
        → DoingNames (Contains b.begun) lsid number doing
        → Contains b.begun (record { tag = t.tag; lsid = lsid; number = number })
    names_begun {lsid = lsid} number doing t is h =
        (subst (DoingNames (Contains b.begun) lsid number) is h).0

-- The router that takes an event.

module _ (n : ℕ) (begun : List Statement) (sent : List Envelope) (held : List Hand)
    (m : Move) (k : HeldMoves n begun sent held m) where
  left_holds : Holds n begun sent (left_in_hand n m.given.replies held) m.state.sessions
  left_holds = record {
    has = k.has;
    hold = contained (IfHere n m.state.sessions) (left_in_hand n m.given.replies held)
        (λ h there router.
        let f = filter_has (λ (x : Hand). not (replied_to n x m.given.replies)) held h there in
        let moves = All-contains (HandMoves n sent m.state.sessions m.given.replies) held h k.all
        f.0 router in
        record {
          fits = moves.fits;
          waits = or_first _ (replied_to n h m.given.replies)
              (not_true (replied_to n h m.given.replies) f.1) moves.waits;
        });
  }
    where
      not_true : (b : Bool) → not b ≡ true → b ≡ false
      not_true true e = cc
      not_true false e = refl

left_lively : (n m : ℕ) (replies : List Sent) (held : List Hand) (sessions : BySession Session)
    → Lively m held sessions → Lively m (left_in_hand n replies held) sessions
left_lively n m replies held sessions l = record {
  once = l.once;
  lives = l.lives;
  suits = All-filter (λ (h : Hand). not (replied_to n h replies)) (SuitsHere m sessions) held
      l.suits;
}

-- Other routers.

at_filter : (P : Hand → Type 0) (n : ℕ) (w : Happening) (hands : List Hand) → All P hands
    → All P (hands_at n w hands)
at_filter P n (what.Gone conn) hands h = All-filter (λ (x : Hand). not (is_of n conn x)) P hands h
at_filter P n (what.Client conn bytes) hands h = h
at_filter P n (what.Deliver e) hands h = h
at_filter P n what.Resend hands h = h
at_filter P n what.Moment hands h = h

others_new : (P : Hand → Type 0) (n : ℕ) (begun : List Statement) (r : RouterState)
    (asked : Option Asked) (a : NodeAnswer) → ((h : Hand) → h.router ≡ n → P h)
    → All P (hands_of n begun r asked a)
others_new P n begun r None a f = All-nil P
others_new P n begun r (Some asked) a f =
    one P (hand_by n begun r asked _)
    (f (hand_by n begun r asked _) (hand_router n begun r asked _))

-- what holds of the hands of no other router
others_all : (P : Hand → Type 0) (n : ℕ) (begun : List Statement) (r : RouterState)
    (e : NodeEvent) (a : NodeAnswer) (replies : List Sent) (hands : List Hand)
    → ((h : Hand) → h.router ≡ n → P h) → All P hands
    → All P (left_in_hand n replies (held_in n begun r e a hands))
others_all P n begun r e a replies hands f k =
    All-filter (λ (h : Hand). not (replied_to n h replies)) P (held_in n begun r e a hands)
    (All-append P (hands_at n e.what hands) (hands_of n begun r (request_at r e a) a)
    (at_filter P n e.what hands k) (others_new P n begun r (request_at r e a) a f))

others_hold : (n m : ℕ) (begun more : List Statement) (sent out : List Envelope)
    (r x : RouterState) (e : NodeEvent) (a : NodeAnswer) (replies : List Sent) (hands : List Hand)
    → (m ≡ n → ⊥) → Holds m begun sent hands x.sessions
    → Holds m (begun ++ more) (sent ++ out) (left_in_hand n replies (held_in n begun r e a hands))
    x.sessions
others_hold n m begun more sent out r x e a replies hands apart k = record {
  has = has_on begun more (sent ++ out) x.sessions (has_sent begun sent out x.sessions k.has);
  hold = others_all (IfHere m x.sessions) n begun r e a replies hands
      (λ h router own. absurd (apart (sym own ∙ router))) k.hold;
}

others_lively : (n m : ℕ) (begun : List Statement) (r x : RouterState) (e : NodeEvent)
    (a : NodeAnswer) (replies : List Sent) (hands : List Hand) → (m ≡ n → ⊥)
    → Lively m hands x.sessions
    → Lively m (left_in_hand n replies (held_in n begun r e a hands)) x.sessions
others_lively n m begun r x e a replies hands apart l = record {
  once = l.once;
  lives = l.lives;
  suits = others_all (SuitsHere m x.sessions) n begun r e a replies hands
      (λ h router own. absurd (apart (sym own ∙ router))) l.suits;
}

-- Each step.

-- a reply was given at this step
pub record Gives (nodes : Nodes) (ran : Ran) (y : Replied) : Type 0 where
  pub event : NodeEvent
  pub faults : ℕ
  pub r : RouterState
  pub there : slice_get nodes.routers y.hand.router ≡ Some r
  pub step : ran ≡ Step (Router y.hand.router) event
      (sp.answer_of false (sp.router_step false r event)) faults
  pub way : Heard r event y ⊎ Served r event y

abbrev pub IsGivenAt : ℕ → Nodes → Ran → Replied → Type 0
IsGivenAt place nodes ran y = (y.place ≡ place) × Gives nodes ran y

pub record Steps (x : Entered) (place : ℕ) (old : Nodes) (ran : Ran) (new : Nodes) : Type 0 where
  pub stood : Stood x.ledger new
  pub given : All (IsGivenAt place old ran) x.replied

passes : (l : Ledger) (old new : Nodes) (ran : Ran) (out : List Envelope)
    → new.routers ≡ old.routers → new.sent ≡ old.sent ++ out → Stood l old
    → Steps (passed l) l.place old ran new
passes l old new ran out routers sent h = record {
  stood = record {
    same = h.same ∙ sym routers;
    named = subst (λ (s : List Envelope). All (IsNamed s) l.begun) (sym sent)
        (named_on old.sent out l.begun h.named);
    each = λ n r at.
        let k = h.each n r at in
        record {
          has = subst (λ (s : List Envelope). All (EntryHas l.begun s) r.sessions) (sym sent)
              (has_sent l.begun old.sent out r.sessions k.has);
          hold = k.hold;
        };
    lively = h.lively;
  };
  given = All-nil (IsGivenAt l.place old ran);
}

no_more : (xs : List Envelope) → xs ≡ xs ++ []
no_more xs = sym (append-nil xs)

step_state : (r : RouterState) (e : NodeEvent)
    → (sp.router_step false r e).state ≡ (sp.happened (walled r e.wall) e.what).state
unfolding sp.router_step
step_state r e = refl

step_replies : (r : RouterState) (e : NodeEvent)
    → (sp.router_step false r e).replies ≡ (sp.happened (walled r e.wall) e.what).given.replies
unfolding sp.router_step
step_replies r e = refl

did_held : (n : ℕ) (begun : List Statement) (sent : List Envelope) (r : RouterState)
    (e : NodeEvent) (hands : List Hand) → Known begun r → Holds n begun sent hands r.sessions
    → ((env : Envelope) → e.what ≡ what.Deliver env → Contains sent env)
    → HeldMoves n (begun ++ parts_of (sp.answer_of false (sp.router_step false r e))) sent
    (held_in n begun r e (sp.answer_of false (sp.router_step false r e)) hands)
    (sp.happened (walled r e.wall) e.what)
unfolding sp.router_step
did_held n begun sent r e hands known k comes =
    happened_held n begun sent r e.wall hands (sp.closed_at (walled r e.wall) e.what) _ _ known k
    e.what e refl comes

did_does : (n : ℕ) (begun : List Statement) (sent : List Envelope) (r : RouterState) (place : ℕ)
    (e : NodeEvent) (hands : List Hand) → Known begun r
    → (k : Holds n begun sent hands r.sessions) (l : Lively n hands r.sessions)
    → ((env : Envelope) → e.what ≡ what.Deliver env → Contains sent env)
    → Does n begun sent r place hands k l e
    (held_in n begun r e (sp.answer_of false (sp.router_step false r e)) hands)
    (sp.happened (walled r e.wall) e.what)
unfolding sp.router_step
did_does n begun sent r place e hands known k l comes =
    happened_does n begun sent r place hands k l known e.wall
    (sp.closed_at (walled r e.wall) e.what) _ _ e.what comes

did_steps : (l : Ledger) (n : ℕ) (r : RouterState) (e : NodeEvent) (faults : ℕ) (old new : Nodes)
    → slice_get l.routers n ≡ Some r → Stood l old → Known l.begun r
    → ((env : Envelope) → e.what ≡ what.Deliver env → Contains old.sent env)
    → new.routers ≡ slice_set old.routers n (sp.router_step false r e).state
    → new.sent ≡ old.sent ++ given_out (sp.answer_of false (sp.router_step false r e))
    → Steps (entered l n (Some r) e (sp.answer_of false (sp.router_step false r e))) l.place old
    (Step (Router n) e (sp.answer_of false (sp.router_step false r e)) faults) new
did_steps l n r e faults old new there h known comes routers sent =
    let a = sp.answer_of false (sp.router_step false r e) in
    let m = sp.happened (walled r e.wall) e.what in
    let out = given_out a in
    let begun = l.begun ++ parts_of a in
    let held = held_in n l.begun r e a l.hands in
    let moves = did_held n l.begun old.sent r e l.hands known (h.each n r there) comes in
    let does = did_does n l.begun old.sent r l.place e l.hands known (h.each n r there)
    (h.lively n r there) comes in
    let left = left_holds n begun old.sent held m moves in
    record {
      stood = record {
        same =
            ap (λ (xs : List RouterState). slice_set xs n (sp.router_step false r e).state) h.same
            ∙ sym routers;
        named = subst (λ (s : List Envelope). All (IsNamed s) begun) (sym sent)
            (All-append (IsNamed (old.sent ++ out)) l.begun (parts_of a)
            (named_on old.sent out l.begun h.named) (new_named old.sent a));
        each = λ j x at.
            subst (λ (s : List Envelope). Holds j begun s (left_in_hand n
            (sp.router_step false r e).replies held) x.sessions) (sym sent)
            (elim (set_cases l.routers n j (sp.router_step false r e).state x at) [
              | inl w ↦
                  subst (λ (i : ℕ). Holds i begun (old.sent ++ out)
                  (left_in_hand n (sp.router_step false r e).replies held) x.sessions) (sym w.0)
                  (subst (λ (y : RouterState). Holds n begun (old.sent ++ out)
                  (left_in_hand n (sp.router_step false r e).replies held) y.sessions)
                  (sym (w.1 ∙ step_state r e))
                  (subst (λ (sents : List Sent). Holds n begun (old.sent ++ out)
                  (left_in_hand n sents held) m.state.sessions) (sym (step_replies r e))
                  (record {
                    has = has_sent begun old.sent out m.state.sessions left.has;
                    hold = left.hold;
                  })))
              | inr w ↦ others_hold n j l.begun (parts_of a) old.sent out r x e a
                  (sp.router_step false r e).replies l.hands w.0 (h.each j x w.1)
            ]);
        lively = λ j x at.
            elim (set_cases l.routers n j (sp.router_step false r e).state x at) [
              | inl w ↦
                  subst (λ (i : ℕ). Lively i
                  (left_in_hand n (sp.router_step false r e).replies held) x.sessions) (sym w.0)
                  (subst (λ (y : RouterState). Lively n
                  (left_in_hand n (sp.router_step false r e).replies held) y.sessions)
                  (sym (w.1 ∙ step_state r e))
                  (left_lively n n (sp.router_step false r e).replies held m.state.sessions
                  does.lively))
              | inr w ↦ others_lively n j l.begun r x e a (sp.router_step false r e).replies
                  l.hands w.0 (h.lively j x w.1)
            ];
      };
      given = subst (λ (sents : List Sent). All (IsGivenAt l.place old
          (Step (Router n) e a faults)) (replied_in l.place n held sents))
          (sym (step_replies r e))
          (contained (IsGivenAt l.place old (Step (Router n) e a faults))
          (replied_in l.place n held m.given.replies) (λ y c.
          let way = does.ways y c in (
            way.place_is,
            record {
              event = e;
              faults = faults;
              r = r;
              there = ap (λ (i : ℕ). slice_get old.routers i) way.router
                  ∙ ap (λ (xs : List RouterState). slice_get xs n) (sym h.same) ∙ there;
              step = ap (λ (i : ℕ). Step (Router i) e a faults) (sym way.router);
              way = way.way;
            },
          )));
    }

want_steps : (want : Bool) (l : Ledger) (n : ℕ) (r : RouterState) (e : NodeEvent) (faults : ℕ)
    (old new : Nodes) → slice_get l.routers n ≡ Some r → Stood l old → Known l.begun r
    → ((env : Envelope) → e.what ≡ what.Deliver env → Contains old.sent env)
    → new.routers ≡ slice_set old.routers n (sp.router_step want r e).state
    → new.sent ≡ old.sent ++ given_out (sp.answer_of want (sp.router_step want r e))
    → Steps (entered l n (Some r) e (sp.answer_of want (sp.router_step want r e))) l.place old
    (Step (Router n) e (sp.answer_of want (sp.router_step want r e)) faults) new
unfolding sp.router_step
want_steps true l n r e faults old new there h known comes routers sent =
    passes l old new (Step (Router n) e (sp.answer_of true (sp.router_step true r e)) faults) []
    (routers ∙ ap (λ (xs : List RouterState). slice_set xs n r) (sym h.same)
    ∙ set_same l.routers n r there ∙ h.same) sent h
want_steps false l n r e faults old new there h known comes routers sent =
    did_steps l n r e faults old new there h known comes routers sent

comes_of : (sent : List Envelope) (node : NodeId) (w : Happening) → MayCome sent node w
    → (env : Envelope) → w ≡ what.Deliver env → Contains sent env
comes_of sent node w h env is = (subst (MayCome sent node) is h).0

router_steps : (l : Ledger) (old : Nodes) (n : ℕ) (e : NodeEvent) (a : NodeAnswer) (faults : ℕ)
    (new : Nodes) → RouterSteps old n e a faults new → Stands old → Stood l old
    → Steps (entered l n (slice_get l.routers n) e a) l.place old (Step (Router n) e a faults) new
router_steps l old n e a faults new h s k =
    let there : slice_get l.routers n ≡ Some h.before =
    ap (λ (xs : List RouterState). slice_get xs n) k.same ∙ h.there in
    rw there (subst (λ (x : NodeAnswer). Steps (entered l n (Some h.before) e x) l.place old
    (Step (Router n) e x faults) new)
    (sym h.takes.1)
    (want_steps h.takes.0 l n h.before e faults old new there k
    (known_of l old n h.before k (s.begun n h.before h.there))
    (comes_of old.sent (Router n) e.what h.comes)
    (ap (λ (w : Nodes). w.routers) h.nodes
    ∙ ap (λ (x : RouterState). slice_set old.routers n x) h.takes.2)
    (ap (λ (w : Nodes). w.sent) h.nodes
    ∙ ap (λ (x : NodeAnswer). old.sent ++ given_out x) h.takes.1)))

-- what holds of no hand of this router is left
elsewhere_all : (P : Hand → Type 0) (n : ℕ) (hands : List Hand)
    → ((h : Hand) → (h.router ≡ n → ⊥) → P h)
    → All P (filter (λ (h : Hand). not (nat_eq h.router n)) hands)
elsewhere_all P n hands f =
    contained P (filter (λ (h : Hand). not (nat_eq h.router n)) hands)
    (λ h there. f h (λ router.
    let k = filter_has (λ (x : Hand). not (nat_eq x.router n)) hands h there in
    let no : not true ≡ true = ap not (sym (here_is n h router)) ∙ k.1 in
    cc))

again_stood : (l : Ledger) (old new : Nodes) (n : ℕ) (r : RouterState)
    → new.routers ≡ slice_set old.routers n (again n r) → new.sent ≡ old.sent → Stood l old
    → Stood (swapped l n (Some r)) new
again_stood l old new n r routers sent h = record {
  same = ap (λ (xs : List RouterState). slice_set xs n (again n r)) h.same ∙ sym routers;
  named = subst (λ (s : List Envelope). All (IsNamed s) l.begun) (sym sent) h.named;
  each = λ j x at.
      subst (λ (s : List Envelope). Holds j l.begun s (swapped l n (Some r)).hands x.sessions)
      (sym sent)
      (elim (set_cases l.routers n j (again n r) x at) [
        | inl w ↦
            subst (λ (i : ℕ). Holds i l.begun old.sent (swapped l n (Some r)).hands x.sessions)
            (sym w.0)
            (subst (λ (y : RouterState). Holds n l.begun old.sent (swapped l n (Some r)).hands
            y.sessions) (sym w.1)
            (record {
              has = All-nil (EntryHas l.begun old.sent);
              hold = elsewhere_all (IfHere n []) n l.hands
                  (λ h apart router. absurd (apart router));
            }))
        | inr w ↦
            let y = h.each j x w.1 in
            record {
              has = y.has;
              hold = All-filter (λ (h : Hand). not (nat_eq h.router n)) (IfHere j x.sessions)
                  l.hands y.hold;
            }
      ]);
  lively = λ j x at.
      elim (set_cases l.routers n j (again n r) x at) [
        | inl w ↦
            subst (λ (i : ℕ). Lively i (swapped l n (Some r)).hands x.sessions) (sym w.0)
            (subst (λ (y : RouterState). Lively n (swapped l n (Some r)).hands y.sessions)
            (sym w.1)
            (record {
              once = tt;
              lives = All-nil LivesIn;
              suits = elsewhere_all (SuitsHere n []) n l.hands
                  (λ h apart router. absurd (apart router));
            }))
        | inr w ↦
            let y = h.lively j x w.1 in
            record {
              once = y.once;
              lives = y.lives;
              suits = All-filter (λ (h : Hand). not (nat_eq h.router n)) (SuitsHere j x.sessions)
                  l.hands y.suits;
            }
      ];
}

step_steps : (l : Ledger) (old : Nodes) (ran : Ran) (new : Nodes) → Happens old ran new
    → Stands old → Stood l old → Steps (entered_by l ran) l.place old ran new
unfolding entered_by
step_steps l old (Step (Router n) e a faults) new h s k = router_steps l old n e a faults new h s k
step_steps l old (Step (Shard n) e a faults) new h s k =
    passes l old new (Step (Shard n) e a faults) (given_out a)
    (ap (λ (w : Nodes). w.routers) h.nodes) (ap (λ (w : Nodes). w.sent) h.nodes) k
step_steps l old (Swapped (Shard n)) new h s k =
    passes l old new (Swapped (Shard n)) [] (ap (λ (w : Nodes). w.routers) h.nodes)
    (ap (λ (w : Nodes). w.sent) h.nodes ∙ no_more old.sent) k
step_steps l old (Swapped (Router n)) new h s k =
    let there : slice_get l.routers n ≡ Some h.before =
    ap (λ (xs : List RouterState). slice_get xs n) k.same ∙ h.there in
    record {
      stood = rw there (again_stood l old new n h.before (ap (λ (w : Nodes). w.routers) h.nodes)
          (ap (λ (w : Nodes). w.sent) h.nodes) k);
      given = All-nil (IsGivenAt l.place old (Swapped (Router n)));
    }

-- The run.

pub record GivenIn (states : List Nodes) (run : List Ran) (base : ℕ) (y : Replied) : Type 0 where
  pub index : ℕ
  pub nodes : Nodes
  pub ran : Ran
  pub there : slice_get states index ≡ Some nodes
  pub step : slice_get run index ≡ Some ran
  pub place : y.place ≡ base + index
  pub gives : Gives nodes ran y

place_on : (l : Ledger) (ran : Ran) → (entered_by l ran).ledger.place ≡ l.place + 1
unfolding entered_by
place_on l (Step (Router n) e a faults) = entered_place (slice_get l.routers n)
  where
    entered_place : (o : Option RouterState) → (entered l n o e a).ledger.place ≡ l.place + 1
    entered_place None = refl
    entered_place (Some r) =
        either (is_memory a) (λ (x : Entered). x.ledger.place ≡ l.place + 1) _ _
        refl refl
place_on l (Step (Shard n) e a faults) = refl
place_on l (Swapped (Router n)) = swapped_place (slice_get l.routers n)
  where
    swapped_place : (o : Option RouterState) → (swapped l n o).place ≡ l.place + 1
    swapped_place None = refl
    swapped_place (Some r) = refl
place_on l (Swapped (Shard n)) = refl

later : (nodes : Nodes) (states : List Nodes) (ran : Ran) (run : List Ran) (base next : ℕ)
    (y : Replied) → next ≡ base + 1 → GivenIn states run next y
    → GivenIn (nodes ∷ states) (ran ∷ run) base y
later nodes states ran run base next y is t = record {
  index = suc t.index;
  nodes = t.nodes;
  ran = t.ran;
  there = t.there;
  step = t.step;
  place = t.place ∙ omega (arith, is);
  gives = t.gives;
}

now_given : (nodes old : Nodes) (states : List Nodes) (ran : Ran) (run : List Ran) (base : ℕ)
    (y : Replied) → nodes ≡ old → IsGivenAt base old ran y
    → GivenIn (nodes ∷ states) (ran ∷ run) base y
now_given nodes old states ran run base y is h = record {
  index = 0;
  nodes = nodes;
  ran = ran;
  there = refl;
  step = refl;
  place = h.0 ∙ omega arith;
  gives = subst (λ (x : Nodes). Gives x ran y) (sym is) h.1;
}

run_given : (l : Ledger) (old : Nodes) (run : List Ran) (trace : List Nodes) (new : Nodes)
    → IsTrace old run trace new → Stands old → Stood l old
    → All (GivenIn trace run l.place) (replied_from l run)
run_given l old [] [] new h s k = All-nil (GivenIn [] [] l.place)
run_given l old [] (nodes ∷ trace) new h s k = absurd h
run_given l old (ran ∷ run) [] new h s k = absurd h
run_given l old (ran ∷ run) (nodes ∷ trace) new h s k =
    let x = entered_by l ran in
    let step = step_steps l old ran h.1.0 h.1.1 s k in
    let more = run_given x.ledger h.1.0 run trace new h.1.2 (stands_step old ran h.1.0 h.1.1 s)
    step.stood in
    All-append (GivenIn (nodes ∷ trace) (ran ∷ run) l.place) x.replied (replied_from x.ledger run)
    (All-weaker (IsGivenAt l.place old ran) (GivenIn (nodes ∷ trace) (ran ∷ run) l.place)
    (λ y given. now_given nodes old trace ran run l.place y h.0 given) x.replied step.given)
    (All-weaker (GivenIn trace run x.ledger.place) (GivenIn (nodes ∷ trace) (ran ∷ run) l.place)
    (λ y given. later nodes trace ran run l.place x.ledger.place y (place_on l ran) given)
    (replied_from x.ledger run) more)

fresh_stood : (chunks : Map) (nodes : Nodes) → IsFresh chunks nodes
    → Stood (fresh_ledger nodes.routers) nodes
fresh_stood chunks nodes f = record {
  same = refl;
  named = All-nil (IsNamed nodes.sent);
  each = λ n r at.
      let b = f.routers n r at in
      subst (λ (x : RouterState). Holds n [] nodes.sent [] x.sessions) (sym b.1)
      (record { has = All-nil (EntryHas [] nodes.sent); hold = All-nil (IfHere n []) });
  lively = λ n r at.
      let b = f.routers n r at in
      subst (λ (x : RouterState). Lively n [] x.sessions) (sym b.1)
      (record { once = tt; lives = All-nil LivesIn; suits = All-nil (SuitsHere n []) });
}

came : (trace : List Nodes) (run : List Ran) (y : Replied) → GivenIn trace run 0 y
    → Came trace run y
came trace run y g =
    let index : g.index ≡ y.place = omega (arith, g.place) in
    let k = g.gives in
    record {
      nodes = g.nodes;
      event = k.event;
      faults = k.faults;
      r = k.r;
      there = k.there;
      at = record {
        before = ap (slice_get trace) (sym index) ∙ g.there;
        step = ap (slice_get run) (sym index) ∙ g.step ∙ ap (λ (x : Ran). Some x) k.step;
      };
      way = k.way;
    }

pub all_came : (chunks : Map) (start : Nodes) (run : List Ran) (trace : List Nodes) (now : Nodes)
    → IsFresh chunks start → DisksStand start → IsTrace start run trace now
    → All (Came trace run) (all_replied start.routers run)
all_came chunks start run trace now fresh disks is =
    All-weaker (GivenIn trace run 0) (Came trace run) (came trace run)
    (all_replied start.routers run)
    (run_given (fresh_ledger start.routers) start run trace now is
    (stands_fresh chunks start fresh disks) (fresh_stood chunks start fresh))

-- What is left in hand.

run_stood : (l : Ledger) (old : Nodes) (run : List Ran) (trace : List Nodes) (new : Nodes)
    → IsTrace old run trace new → Stands old → Stood l old → Stood (ledger_behind l run) new
run_stood l old [] [] new h s k = subst (Stood l) (sym h) k
run_stood l old [] (nodes ∷ trace) new h s k = absurd h
run_stood l old (ran ∷ run) [] new h s k = absurd h
run_stood l old (ran ∷ run) (nodes ∷ trace) new h s k =
    run_stood (entered_by l ran).ledger h.1.0 run trace new h.1.2
    (stands_step old ran h.1.0 h.1.1 s) (step_steps l old ran h.1.0 h.1.1 s k).stood

pub all_waiting : (chunks : Map) (start : Nodes) (run : List Ran) (trace : List Nodes)
    (now : Nodes) → IsFresh chunks start → DisksStand start → IsTrace start run trace now
    → All (IsWaiting now) (ledger_behind (fresh_ledger start.routers) run).hands
all_waiting chunks start run trace now fresh disks is =
    let l = ledger_behind (fresh_ledger start.routers) run in
    let stood = run_stood (fresh_ledger start.routers) start run trace now is
    (stands_fresh chunks start fresh disks) (fresh_stood chunks start fresh) in
    contained (IsWaiting now) l.hands (λ h there r at.
    let here = ap (λ (xs : List RouterState). slice_get xs h.router) stood.same ∙ at in
    let k = stood.each h.router r here in
    hand_waits r h (stood.lively h.router r here).once
    (stood.lively h.router r here).lives
    (All-contains (IfHere h.router r.sessions) l.hands h k.hold there refl)
    (All-contains (SuitsHere h.router r.sessions) l.hands h (stood.lively h.router r here).suits
    there refl))
