-- What stands of the requests in hand is kept by each event, and each reply is told right.
use Rattle.std.proofs.Common.{◌≡◌, inl, inr, ◌++◌, ℕ, Bool, true, false, not, All, List, [], ◌∷◌}
use Rattle.std.proofs.Common.{filter, filter_map, find, nat_eq, Option, Some, None, option_map}
use Rattle.std.proofs.Common.{refl, sym, ap, subst, ◌∙◌, arith}
use Rattle.std.specs.Prelude.{Contains, slice_get}
use Rattle.std.proofs.lemmas.List.{append_assoc}
use Rattle.std.proofs.lemmas.List.Elements.{All-nil, All-cons, All-append, All-weaker, All-filter}
use Rattle.std.proofs.lemmas.List.Elements.{All-contains, All-head, All-tail}
use Rattle.txn_types.specs.BySession.{BySession}
use Rattle.txn_types.specs.declared.event.Happening.{Happening}
use Rattle.txn_types.specs.declared.event.Happening.TheVariants as what
use Rattle.txn_types.specs.declared.event.NodeAnswer.{NodeAnswer}
use Rattle.txn_types.specs.declared.event.NodeEvent.{NodeEvent}
use Rattle.txn_types.specs.declared.message.Statement.{Statement}
use Rattle.txn_types.specs.declared.node.NodeId.TheVariants.{Shard, Router}
use Rattle.txn_semantics.specs.declared.commits.Answered.{Answered}
use Rattle.client_cmd.specs.declared.request.Request.{Request}
use Rattle.client_cmd.specs.declared.request.Request.TheVariants as request
use Rattle.client_reply.specs.declared.reply.Reply.{Reply}
use Rattle.chunk_map.specs.Map.{Map}
use Rattle.router_state.specs.declared.deed.Sent.{Sent}
use Rattle.router_state.specs.declared.state.Session.{Session}
use Rattle.router_state.specs.Deeds.{Move}
use Rattle.router_state.specs.State.{RouterState, fresh_router}
use Rattle.router_rules.specs.Times.{walled}
use Rattle.router_core.specs.Step as sp
use Rattle.txn_model.specs.declared.ran.Ran.{Ran}
use Rattle.txn_model.specs.declared.ran.Ran.TheVariants.{Step, Swapped}
use Rattle.cluster_core.specs.Answering.{Unanswered, answered_among, unanswered_behind}
use Rattle.cluster_core.specs.Ledger.{Ledger, Entered, fresh_ledger, answered_from, answered_in}
use Rattle.cluster_core.specs.Ledger.{replied_from, all_replied, entered, entered_by, passed}
use Rattle.cluster_core.specs.Ledger.{swapped}
use Rattle.cluster_core.specs.Nodes.{Nodes}
use Rattle.cluster_core.specs.Replying.{Hand, Replied, held_in, hands_at, hands_of, hand_by, is_of}
use Rattle.cluster_core.specs.Replying.{left_in_hand, replied_by, replied_in}
use Rattle.cluster_core.specs.Routers.{Asked, request_at}
use Rattle.cluster_core.specs.Telling.{IsToldTo, ToldRight}
use Rattle.cluster_core.specs.Trace.{Happens, IsTrace, IsFresh, RouterSteps, again}
use Rattle.answer_laws.specs.Opened.{opened_by}
use Rattle.world_laws.proofs.Going.{some_same}
use Rattle.answer_laws.proofs.Lists.{both_true, nat_is}
use Rattle.world_laws.proofs.Naming.{one}
use Rattle.told_laws.proofs.Lists.{contained, filter_has, set_cases}
use Rattle.told_laws.proofs.Running.{Booked, step_booked, fresh_booked}
use Rattle.told_laws.proofs.Standing.{BookStands, ListsStand, RouterStands}
use Rattle.reply_laws.proofs.Hands.{IsStatement, IfStatement, RouterHands, HandMoves, ReplyRight}
use Rattle.reply_laws.proofs.Hands.{replied_to, hand_on, right_on}
use Rattle.reply_laws.proofs.Lists.{found_passes, or_first}
use Rattle.reply_laws.proofs.Moving.{HeldMoves, happened_held, here_is, hand_router}

-- What is left in hand, and what was replied.

module _ (n : ℕ) (answered : List Answered) (held : List Hand) (m : Move)
    (k : HeldMoves n answered held m) where
  left_stands : RouterHands n answered (left_in_hand n m.given.replies held) m.state.sessions
  left_stands = record {
    once = k.once;
    stand = contained (IfStatement n answered m.state.sessions)
        (left_in_hand n m.given.replies held) (λ h there router statement.
        let f = filter_has (λ (x : Hand). not (replied_to n x m.given.replies)) held h there in
        let moves = All-contains (HandMoves n answered m.state.sessions m.given.replies) held h
        k.all f.0 router statement in
        record {
          entries = moves.entries;
          waits = or_first _ (replied_to n h m.given.replies)
              (not_true (replied_to n h m.given.replies) f.1) moves.waits;
        });
  }
    where
      not_true : (b : Bool) → not b ≡ true → b ≡ false
      not_true true e = grind arith
      not_true false e = refl

abbrev pub RightIn : List Answered → Replied → Type 0
RightIn answered r = IsToldTo answered r.hand r.hand.request r.reply

-- only a statement's reply tells of one
if_statement : (answered : List Answered) (h : Hand) (q : Request) (r : Reply)
    → (IsStatement q → IsToldTo answered h q r) → IsToldTo answered h q r
if_statement answered h (request.Statement op txn at after more time) r f = f tt
if_statement answered h (request.Ping more time) r f = tt
if_statement answered h (request.Hello old_name more time) r f = tt
if_statement answered h (request.Commit txn t more time) r f = tt
if_statement answered h (request.Abort txn more time) r f = tt
if_statement answered h (request.EndSessions ids more time) r f = tt

mapped : {A B : Type 0} (f : A → Option B) (P : B → Type 0) (xs : List A)
    → All (λ x. (y : B) → f x ≡ Some y → P y) xs → All P (filter_map f xs)
mapped f P [] h = All-nil P
mapped f P (x ∷ xs) h = by (f x) refl
    (mapped f P xs (All-tail (λ z. (y : _) → f z ≡ Some y → P y) x xs h))
  where
    by : (o : Option _) → f x ≡ o → All P (filter_map f xs) → All P (filter_map f (x ∷ xs))
    by None is more = rw is more
    by (Some y) is more = rw is (All-cons P y (filter_map f xs)
        (All-head (λ z. (y : _) → f z ≡ Some y → P y) x xs h y is) more)

option_is : {A B : Type 0} (f : A → B) (o : Option A) (y : B) → option_map f o ≡ Some y
    → (x : A) × (o ≡ Some x) × (y ≡ f x)
option_is f None y e = let no : None ≡ Some y = e in absurd (grind (arith, no))
option_is f (Some x) y e = (x, refl, sym (some_same (f x) y e))

abbrev replied_as : ℕ → Sent → Hand → Replied
replied_as place sent h = record { place = place; hand = h; reply = sent.reply }

module _ (n place : ℕ) (answered : List Answered) (held : List Hand) (m : Move)
    (k : HeldMoves n answered held m) where
  sent_right : (sent : Sent) → Contains m.given.replies sent → (h : Hand) → Contains held h
      → is_of n sent.conn h ≡ true → IsToldTo answered h h.request sent.reply
  sent_right sent there h here of =
      if_statement answered h h.request sent.reply (λ statement.
      let router = nat_is h.router n (both_true (nat_eq h.router n) (nat_eq h.conn sent.conn) of).0
      in
      let moves = All-contains (HandMoves n answered m.state.sessions m.given.replies) held h k.all
      here router statement in
      All-contains (ReplyRight n answered h) m.given.replies sent moves.rights there of)

  replies_right : All (RightIn answered) (replied_in place n held m.given.replies)
  replies_right = mapped (replied_by place n held) (RightIn answered) m.given.replies
      (contained (λ (sent : Sent). (y : Replied) → replied_by place n held sent ≡ Some y
      → RightIn answered y) m.given.replies (λ sent there y e.
      let x = option_is (replied_as place sent) (find (is_of n sent.conn) held) y e in
      let found = found_passes (is_of n sent.conn) held x.0 x.1 in
      subst (RightIn answered) (sym x.2) (sent_right sent there x.0 found.0 found.1)))

-- Other routers.

at_filter : (P : Hand → Type 0) (n : ℕ) (w : Happening) (hands : List Hand) → All P hands
    → All P (hands_at n w hands)
at_filter P n (what.Gone conn) hands h = All-filter (λ (x : Hand). not (is_of n conn x)) P hands h
at_filter P n other hands h = h

others_new : (n m : ℕ) (answered : List Answered) (sent : List Statement) (r : RouterState)
    (asked : Option Asked) (a : NodeAnswer) (sessions : BySession Session) → (m ≡ n → ⊥)
    → All (IfStatement m answered sessions) (hands_of n sent r asked a)
others_new n m answered sent r None a sessions apart = All-nil (IfStatement m answered sessions)
others_new n m answered sent r (Some asked) a sessions apart =
    one (IfStatement m answered sessions) (hand_by n sent r asked _)
    (λ router. absurd (apart (sym router ∙ hand_router n sent r asked _)))

router_on : (n : ℕ) (answered more : List Answered) (hands : List Hand)
    (sessions : BySession Session)
    → All (IfStatement n answered sessions) hands
    → All (IfStatement n (answered ++ more) sessions) hands
router_on n answered more hands sessions f = All-weaker (IfStatement n answered sessions)
    (IfStatement n (answered ++ more) sessions)
    (λ h g router statement. hand_on answered more h sessions (g router statement)) hands f

others_stand : (n m : ℕ) (answered more : List Answered) (sent : List Statement)
    (r x : RouterState) (e : NodeEvent) (a : NodeAnswer) (replies : List Sent) (hands : List Hand)
    → (m ≡ n → ⊥) → RouterHands m answered hands x.sessions
    → RouterHands m (answered ++ more) (left_in_hand n replies (held_in n sent r e a hands))
    x.sessions
others_stand n m answered more sent r x e a replies hands apart k =
    let P = IfStatement m (answered ++ more) x.sessions in
    record {
      once = k.once;
      stand = All-filter (λ (h : Hand). not (replied_to n h replies)) P (held_in n sent r e a hands)
          (All-append P (hands_at n e.what hands) (hands_of n sent r (request_at r e a) a)
          (at_filter P n e.what hands (router_on m answered more hands x.sessions k.stand))
          (others_new n m (answered ++ more) sent r (request_at r e a) a x.sessions apart));
    }

-- What stands behind events.

pub record HandsStand (l : Ledger) (answered : List Answered) : Type 0 where
  pub each : (n : ℕ) (r : RouterState) → slice_get l.routers n ≡ Some r
      → RouterHands n answered l.hands r.sessions

record IsTold (x : Entered) (answered : List Answered) : Type 0 where
  stand : HandsStand x.ledger (answered ++ x.answered)
  right : All (RightIn (answered ++ x.answered)) x.replied

passes_told : (l : Ledger) (answered : List Answered) → HandsStand l answered
    → IsTold (passed l) answered
passes_told l answered k = record {
  stand = record {
    each = λ n r at.
        let x = k.each n r at in
        record { once = x.once; stand = router_on n answered [] l.hands r.sessions x.stand };
  };
  right = All-nil (RightIn (answered ++ []));
}

did_held : (n : ℕ) (sent : List Statement) (r : RouterState) (e : NodeEvent)
    (begun us : List Unanswered) (answered : List Answered) (hands : List Hand)
    → ListsStand begun us answered → RouterStands n begun us answered r
    → RouterHands n answered hands r.sessions
    → HeldMoves n (answered ++ answered_among (unanswered_behind n r e
    (sp.answer_of false (sp.router_step false r e)) us))
    (held_in n sent r e (sp.answer_of false (sp.router_step false r e)) hands)
    (sp.happened (walled r e.wall) e.what)
unfolding sp.router_step
did_held n sent r e begun us answered hands lists stands k =
    happened_held n sent r e.wall e.what e (sp.closed_at (walled r e.wall) e.what) _ _ begun us
    answered hands refl lists stands k

step_state : (r : RouterState) (e : NodeEvent)
    → (sp.router_step false r e).state ≡ (sp.happened (walled r e.wall) e.what).state
unfolding sp.router_step
step_state r e = refl

step_replies : (r : RouterState) (e : NodeEvent)
    → (sp.router_step false r e).replies ≡ (sp.happened (walled r e.wall) e.what).given.replies
unfolding sp.router_step
step_replies r e = refl

did_told : (l : Ledger) (n : ℕ) (r : RouterState) (e : NodeEvent) (begun : List Unanswered)
    (answered : List Answered) → slice_get l.routers n ≡ Some r
    → BookStands l.routers begun l.unanswered answered → HandsStand l answered
    → IsTold (entered l n (Some r) e (sp.answer_of false (sp.router_step false r e))) answered
did_told l n r e begun answered there book k =
    let a = sp.answer_of false (sp.router_step false r e) in
    let m = sp.happened (walled r e.wall) e.what in
    let now = answered_among (unanswered_behind n r e a l.unanswered) in
    let held = held_in n l.begun r e a l.hands in
    let moves = did_held n l.begun r e begun l.unanswered answered l.hands book.lists
    (book.routers_stand n r there) (k.each n r there) in
    record {
      stand = record {
        each = λ j x at.
            elim (set_cases l.routers n j (sp.router_step false r e).state x at) [
              | inl w ↦
                  subst (λ (i : ℕ). RouterHands i (answered ++ now)
                  (left_in_hand n (sp.router_step false r e).replies held) x.sessions) (sym w.0)
                  (subst (λ (y : RouterState). RouterHands n (answered ++ now)
                  (left_in_hand n (sp.router_step false r e).replies held) y.sessions)
                  (sym (w.1 ∙ step_state r e))
                  (subst (λ (sents : List Sent). RouterHands n (answered ++ now)
                  (left_in_hand n sents held) m.state.sessions) (sym (step_replies r e))
                  (left_stands n (answered ++ now) held m moves)))
              | inr w ↦ others_stand n j answered now l.begun r x e a
                  (sp.router_step false r e).replies l.hands w.0 (k.each j x w.1)
            ];
      };
      right = subst (λ (sents : List Sent). All (RightIn (answered ++ now))
          (replied_in l.place n held sents)) (sym (step_replies r e))
          (replies_right n l.place (answered ++ now) held m moves);
    }

want_told : (want : Bool) (l : Ledger) (n : ℕ) (r : RouterState) (e : NodeEvent)
    (begun : List Unanswered) (answered : List Answered) → slice_get l.routers n ≡ Some r
    → BookStands l.routers begun l.unanswered answered → HandsStand l answered
    → IsTold (entered l n (Some r) e (sp.answer_of want (sp.router_step want r e))) answered
want_told true l n r e begun answered there book k = passes_told l answered k
want_told false l n r e begun answered there book k = did_told l n r e begun answered there book k

router_told : (l : Ledger) (begun : List Unanswered) (answered : List Answered) (old : Nodes)
    (n : ℕ) (e : NodeEvent) (a : NodeAnswer) (faults : ℕ) (new : Nodes)
    → RouterSteps old n e a faults new → Booked l begun answered old → HandsStand l answered
    → IsTold (entered l n (slice_get l.routers n) e a) answered
router_told l begun answered old n e a faults new h b k =
    let there : slice_get l.routers n ≡ Some h.before = ap
    (λ (xs : List RouterState). slice_get xs n) b.same ∙ h.there in
    rw there (rw h.takes.1 (want_told h.takes.0 l n h.before e begun answered there b.book k))

elsewhere_only : (n : ℕ) (answered : List Answered) (hands : List Hand)
    → All (IfStatement n answered []) (filter (λ (h : Hand). not (nat_eq h.router n)) hands)
elsewhere_only n answered hands =
    contained (IfStatement n answered []) (filter (λ (h : Hand). not (nat_eq h.router n)) hands)
    (λ h there router.
    let f = filter_has (λ (x : Hand). not (nat_eq x.router n)) hands h there in
    let no : not true ≡ true = ap not (sym (here_is n h router)) ∙ f.1 in
    absurd (grind (arith, no)))

again_told : (l : Ledger) (answered : List Answered) (n : ℕ) (r : RouterState)
    → HandsStand l answered → HandsStand (swapped l n (Some r)) (answered ++ [])
again_told l answered n r k = record {
  each = λ j x at.
      elim (set_cases l.routers n j (again n r) x at) [
        | inl w ↦
            subst (λ (i : ℕ). RouterHands i (answered ++ []) (swapped l n (Some r)).hands
            x.sessions) (sym w.0)
            (subst (λ (y : RouterState). RouterHands n (answered ++ []) (swapped l n (Some r)).hands
            y.sessions) (sym w.1)
            (record { once = tt; stand = elsewhere_only n (answered ++ []) l.hands }))
        | inr w ↦
            let y = k.each j x w.1 in
            record {
              once = y.once;
              stand = All-filter (λ (h : Hand). not (nat_eq h.router n))
                  (IfStatement j (answered ++ []) x.sessions) l.hands
                  (router_on j answered [] l.hands x.sessions y.stand);
            }
      ];
}

step_told : (l : Ledger) (begun : List Unanswered) (answered : List Answered) (old : Nodes)
    (ran : Ran) (new : Nodes) → Happens old ran new → Booked l begun answered old
    → HandsStand l answered → IsTold (entered_by l ran) answered
unfolding entered_by
step_told l begun answered old (Step (Router n) e a faults) new h b k = router_told l begun answered
    old n e a faults new h b k
step_told l begun answered old (Step (Shard n) e a faults) new h b k = passes_told l answered k
step_told l begun answered old (Swapped (Shard n)) new h b k = passes_told l answered k
step_told l begun answered old (Swapped (Router n)) new h b k =
    let there : slice_get l.routers n ≡ Some h.before = ap
    (λ (xs : List RouterState). slice_get xs n) b.same ∙ h.there in
    record {
      stand = rw there (again_told l answered n h.before k);
      right = All-nil (RightIn (answered ++ []));
    }

run_told : (l : Ledger) (begun : List Unanswered) (answered : List Answered) (old : Nodes)
    (run : List Ran) (trace : List Nodes) (new : Nodes) → IsTrace old run trace new
    → Booked l begun answered old → HandsStand l answered
    → All (RightIn (answered ++ answered_from l run)) (replied_from l run)
run_told l begun answered old [] [] new h b k = All-nil (RightIn (answered ++ []))
run_told l begun answered old [] (nodes ∷ trace) new h b k = absurd h
run_told l begun answered old (ran ∷ run) [] new h b k = absurd h
run_told l begun answered old (ran ∷ run) (nodes ∷ trace) new h b k =
    let x = entered_by l ran in
    let now = step_told l begun answered old ran h.1.0 h.1.1 b k in
    let rest = answered_from x.ledger run in
    let more = run_told x.ledger (begun ++ opened_by l ran) (answered ++ x.answered) h.1.0 run trace
    new h.1.2 (step_booked l begun answered old ran h.1.0 h.1.1 b) now.stand in
    subst (λ (all : List Answered). All (RightIn all) (x.replied ++ replied_from x.ledger run))
    (append_assoc answered x.answered rest)
    (All-append (RightIn ((answered ++ x.answered) ++ rest)) x.replied (replied_from x.ledger run)
    (All-weaker (RightIn (answered ++ x.answered)) (RightIn ((answered ++ x.answered) ++ rest))
    (λ r right. right_on (answered ++ x.answered) rest r.hand r.reply right) x.replied now.right)
    more)

fresh_hands : (n boot : ℕ) (chunks : Map) → RouterHands n [] [] (fresh_router n boot chunks).sessions
fresh_hands n boot chunks = record { once = tt; stand = All-nil (IfStatement n [] []) }

fresh_told : (chunks : Map) (nodes : Nodes) → IsFresh chunks nodes
    → HandsStand (fresh_ledger nodes.routers) []
fresh_told chunks nodes f = record {
  each = λ n r at. let b = f.routers n r at in
      subst (λ (x : RouterState). RouterHands n [] [] x.sessions) (sym b.1)
      (fresh_hands n b.0 chunks);
}

pub all_told : (chunks : Map) (start : Nodes) (run : List Ran) (trace : List Nodes) (now : Nodes)
    → IsFresh chunks start → IsTrace start run trace now
    → ToldRight (answered_in start.routers run) (all_replied start.routers run)
all_told chunks start run trace now f h = run_told (fresh_ledger start.routers) [] [] start run trace
    now h (fresh_booked chunks start f) (fresh_told chunks start f)
