-- Answered statements come of Answers that were sent, by the run's steps one after the other.
use Rattle.std.proofs.Common.{◌≡◌, ℕ, Bool, true, false, not, ◌&&◌, All, List, [], ◌∷◌, ◌++◌}
use Rattle.std.proofs.Common.{length, nat_eq, Option, Some, None, refl, sym, ap, subst, ◌∙◌, arith}
use Rattle.std.specs.Prelude.{Contains, slice_get, is_some}
use Rattle.std.specs.List.{list_any}
use Rattle.std.specs.Ordering.{nat_cmp}
use Rattle.std.proofs.lemmas.List.{append-nil, append_assoc}
use Rattle.std.proofs.lemmas.List.Elements.{All-nil, All-cons, All-head, All-tail, All-append}
use Rattle.std.proofs.lemmas.List.Elements.{All-weaker, All-map, All-filter, Contains-append_left}
use Rattle.std.proofs.lemmas.List.Elements.{Contains-append_right, All-contains_itself}
use Rattle.txn_types.specs.Order.{same_tag}
use Rattle.txn_types.specs.declared.event.Happening.{Happening}
use Rattle.txn_types.specs.declared.event.Happening.TheVariants as what
use Rattle.txn_types.specs.declared.event.NodeAnswer.{NodeAnswer}
use Rattle.txn_types.specs.declared.event.NodeEvent.{NodeEvent}
use Rattle.txn_types.specs.declared.message.Answer.{Answer}
use Rattle.txn_types.specs.declared.message.Envelope.{Envelope}
use Rattle.txn_types.specs.declared.message.Msg.{Msg}
use Rattle.txn_types.specs.declared.message.Msg.TheVariants as msg
use Rattle.txn_types.specs.declared.message.Statement.{Statement}
use Rattle.txn_types.specs.declared.node.NodeId.TheVariants.{Shard, Router}
use Rattle.txn_types.specs.declared.operation.Op.{Op}
use Rattle.txn_semantics.specs.Keyed.{put}
use Rattle.txn_semantics.specs.declared.commits.Answered.{Answered}
use Rattle.client_cmd.specs.declared.request.Request.TheVariants as request
use Rattle.router_state.specs.State.{RouterState}
use Rattle.txn_model.specs.declared.ran.Ran.{Ran}
use Rattle.txn_model.specs.declared.ran.Ran.TheVariants.{Step, Swapped}
use Rattle.participant.proofs.Cases.{either}
use Rattle.cluster_core.specs.Answering.{Unanswered, answered_of, answered_among, meaning_in}
use Rattle.cluster_core.specs.Answering.{is_for, with_answer, is_complete, all_say, taken_msg}
use Rattle.cluster_core.specs.Answering.{taken_what, opened, opened_by as opened_parts}
use Rattle.cluster_core.specs.Answering.{statements_in, unanswered_behind}
use Rattle.cluster_core.specs.Ledger.{Ledger, Entered, fresh_ledger, entered, entered_at}
use Rattle.cluster_core.specs.Ledger.{entered_by, passed, swapped, answered_from}
use Rattle.cluster_core.specs.Nodes.{Nodes}
use Rattle.cluster_core.specs.Routers.{Asked, is_memory, request_at}
use Rattle.cluster_core.specs.Trace.{Happens, IsTrace, MayCome}
use Rattle.answer_laws.specs.Opened.{opened_at, opened_by, opened_from}
use Rattle.answer_laws.specs.Comes.{IsGiven, as_opened, Comes, IsAnswered}
use Rattle.answer_laws.proofs.Lists.{all_put, both_true, any_nat, nat_is, all_true}
use Rattle.world_laws.proofs.Naming.{tag_is}

-- More was sent, and more was opened.

pub given_later : (sent more : List Envelope) (u : Unanswered) (x : ℕ × Answer) → IsGiven sent u x
    → IsGiven (sent ++ more) u x
given_later sent more u x g = record {
  envelope = g.envelope;
  sent = Contains-append_left sent more g.envelope g.sent;
  to = g.to;
  msg = g.msg;
  shard = g.shard;
  asked = g.asked;
  tag = g.tag;
  k = g.k;
}

pub comes_later : (sent more : List Envelope) (begun after : List Unanswered) (u : Unanswered)
    → Comes sent begun u → Comes (sent ++ more) (begun ++ after) u
comes_later sent more begun after u c = record {
  opened = Contains-append_left begun after (as_opened u) c.opened;
  answers = All-weaker (IsGiven sent u) (IsGiven (sent ++ more) u) (given_later sent more u)
      u.answers c.answers;
}

pub all_later : (sent more : List Envelope) (begun after us : List Unanswered)
    → All (Comes sent begun) us → All (Comes (sent ++ more) (begun ++ after)) us
all_later sent more begun after us h = All-weaker (Comes sent begun) (Comes (sent ++ more)
    (begun ++ after)) (comes_later sent more begun after) us h

-- An Answer that is taken.

pub with_given : (sent : List Envelope) (begun : List Unanswered) (n : ℕ) (e : Envelope) (a : Answer)
    (u : Unanswered) (test : Bool) → Contains sent e → e.to ≡ Router n → e.msg ≡ msg.Answer a
    → is_for n a u ≡ test
    → Comes sent begun u → Comes sent begun (with_answer n a u)
with_given sent begun n e a u false there to is for c = rw for c
with_given sent begun n e a u true there to is for c =
    let all = both_true (nat_eq u.router n && same_tag u.tag a.tag && nat_eq u.k a.k
    && list_any (nat_eq a.shard) u.shards) _ for in
    let four = both_true (nat_eq u.router n && same_tag u.tag a.tag && nat_eq u.k a.k) _ all.0 in
    let three = both_true (nat_eq u.router n && same_tag u.tag a.tag) _ four.0 in
    let two = both_true (nat_eq u.router n) _ three.0 in
    let g : IsGiven sent u (a.shard, a) =
    record {
      envelope = e;
      sent = there;
      to = to ∙ ap Router (sym (nat_is u.router n two.0));
      msg = is;
      shard = refl;
      asked = any_nat a.shard u.shards four.1;
      tag = sym (tag_is u.tag a.tag two.1);
      k = sym (nat_is u.k a.k three.1);
    } in
    rw for (moved sent begun u a g c)
  where
    moved : (sent : List Envelope) (begun : List Unanswered) (u : Unanswered) (a : Answer)
        → IsGiven sent u (a.shard, a) → Comes sent begun u
        → Comes sent begun (record u { answers = put nat_cmp a.shard a u.answers })
    moved sent begun u a g c =
        let all = all_put nat_cmp (IsGiven sent u) a.shard a u.answers g c.answers in
        record {
          opened = c.opened;
          answers = All-weaker (IsGiven sent u) (IsGiven sent
              (record u { answers = put nat_cmp a.shard a u.answers })) (λ x g. record {
                envelope = g.envelope;
                sent = g.sent;
                to = g.to;
                msg = g.msg;
                shard = g.shard;
                asked = g.asked;
                tag = g.tag;
                k = g.k;
              }) _ all;
        }

pub msg_taken : (sent : List Envelope) (begun : List Unanswered) (n : ℕ) (e : Envelope)
    (m : Msg) (us : List Unanswered) → Contains sent e → e.to ≡ Router n → e.msg ≡ m
    → All (Comes sent begun) us → All (Comes sent begun) (taken_msg n m us)
msg_taken sent begun n e (msg.Answer a) us there to is h =
    All-map (Comes sent begun) (with_answer n a) us
    (All-weaker (Comes sent begun) (λ u. Comes sent begun (with_answer n a u))
    (λ u c. with_given sent begun n e a u (is_for n a u) there to is refl c) us h)
msg_taken sent begun n e other us there to is h = h

pub taken : (sent : List Envelope) (begun : List Unanswered) (n : ℕ) (w : Happening)
    (us : List Unanswered) → MayCome sent (Router n) w → All (Comes sent begun) us
    → All (Comes sent begun) (taken_what n w us)
taken sent begun n (what.Deliver e) us may h = msg_taken sent begun n e e.msg us may.0 may.1 refl h
taken sent begun n (what.Gone conn) us may h = All-filter (λ (u : Unanswered).
    not (nat_eq u.router n && nat_eq u.conn conn)) (Comes sent begun) us h
taken sent begun n other us may h = h

-- What is opened.

abbrev pub IsNew : Unanswered → Type 0
IsNew u = u.answers ≡ []

pub new_parts : (n conn : ℕ) (op : Op) (parts : List (ℕ × Statement))
    → All IsNew (opened_parts n conn op parts)
new_parts n conn op [] = All-nil IsNew
new_parts n conn op (part ∷ parts) = All-cons IsNew _ [] refl (All-nil IsNew)

pub all_new : (n : ℕ) (asked : Option Asked) (a : NodeAnswer) → All IsNew (opened n asked a)
all_new n None a = All-nil IsNew
all_new n (Some (conn, request.Ping more time)) a = All-nil IsNew
all_new n (Some (conn, request.Hello old_name more time)) a = All-nil IsNew
all_new n (Some (conn, request.Statement op txn at after more time)) a =
    new_parts n conn op (statements_in a)
all_new n (Some (conn, request.Commit txn t more time)) a = All-nil IsNew
all_new n (Some (conn, request.Abort txn more time)) a = All-nil IsNew
all_new n (Some (conn, request.EndSessions ids more time)) a = All-nil IsNew

pub new_comes : (sent : List Envelope) (begun new : List Unanswered) (u : Unanswered) → IsNew u
    → Contains new u → Comes sent (begun ++ new) u
new_comes sent begun new u is there =
    let same : u ≡ as_opened u =
    ap (λ (answers : List (ℕ × Answer)). record u { answers = answers }) is in
    record {
      opened = subst (Contains (begun ++ new)) same (Contains-append_right begun new u there);
      answers = subst (All (IsGiven sent u)) (sym is) (All-nil (IsGiven sent u));
    }

both_of : {A : Type 0} (P Q R : A → Type 0) → ((x : A) → P x → Q x → R x) → (xs : List A) → All P xs
    → All Q xs → All R xs
both_of P Q R f [] h k = All-nil R
both_of P Q R f (x ∷ xs) h k = All-cons R x xs (f x (All-head P x xs h) (All-head Q x xs k))
    (both_of P Q R f xs (All-tail P x xs h) (All-tail Q x xs k))

opened_come : (sent : List Envelope) (begun new : List Unanswered) → All IsNew new
    → All (Comes sent (begun ++ new)) new
opened_come sent begun new h = both_of IsNew (Contains new) (Comes sent (begun ++ new))
    (new_comes sent begun new) new h (All-contains_itself new)

-- What is answered.

answered_one : (sent : List Envelope) (begun : List Unanswered) (u : Unanswered) (test : Bool)
    → (is_complete u && all_say u) ≡ test → Comes sent begun u
    → (test ≡ true → IsAnswered sent begun (answered_of u))
answered_one sent begun u true is c so =
    let b = both_true (is_complete u) (all_say u) is in
    record {
      statement = u;
      is = refl;
      comes = c;
      complete = nat_is (length u.answers) (length u.shards) b.0;
      says = all_true (λ (answer : ℕ × Answer). is_some (meaning_in answer)) u.answers b.1;
    }
answered_one sent begun u false is c so = grind arith

answered_all : (sent : List Envelope) (begun us : List Unanswered) → All (Comes sent begun) us
    → All (IsAnswered sent begun) (answered_among us)
answered_all sent begun [] h = All-nil (IsAnswered sent begun)
answered_all sent begun (u ∷ us) h =
    step (is_complete u && all_say u) refl (answered_one sent begun u
    (is_complete u && all_say u) refl (All-head (Comes sent begun) u us h))
    (answered_all sent begun us (All-tail (Comes sent begun) u us h))
  where
    step : (test : Bool) → (is_complete u && all_say u) ≡ test → (test ≡ true
        → IsAnswered sent begun (answered_of u)) → All (IsAnswered sent begun) (answered_among us)
        → All (IsAnswered sent begun) (answered_among (u ∷ us))
    step true is this more = rw is (All-cons (IsAnswered sent begun) (answered_of u)
        (answered_among us) (this refl) more)
    step false is this more = rw is more

-- A step.

record Went (sent : List Envelope) (begun : List Unanswered) (x : Entered) : Type 0 where
  left : All (Comes sent begun) x.ledger.unanswered
  answered : All (IsAnswered sent begun) x.answered

went : (sent more : List Envelope) (begun : List Unanswered) (l : Ledger) (n : ℕ)
    (r : RouterState) (e : NodeEvent) (a : NodeAnswer) → MayCome sent (Router n) e.what
    → All (Comes sent begun) l.unanswered
    → Went (sent ++ more) (begun ++ opened n (request_at r e a) a) (entered_at l n r e a)
went sent more begun l n r e a may h =
    let new = opened n (request_at r e a) a in
    let now = sent ++ more in
    let old = all_later sent more begun new (taken_what n e.what l.unanswered) (taken sent begun n
    e.what l.unanswered may h) in
    let all = All-append (Comes now (begun ++ new)) (taken_what n e.what l.unanswered) new old
    (opened_come now begun new (all_new n (request_at r e a) a)) in
    record {
      left = All-filter (λ (u : Unanswered). not (is_complete u)) (Comes now (begun ++ new))
          (unanswered_behind n r e a l.unanswered) all;
      answered = answered_all now (begun ++ new) (unanswered_behind n r e a l.unanswered) all;
    }

passed_on : (sent more : List Envelope) (begun after : List Unanswered) (l : Ledger)
    → All (Comes sent begun) l.unanswered → Went (sent ++ more) (begun ++ after) (passed l)
passed_on sent more begun after l h = record {
  left = all_later sent more begun after l.unanswered h;
  answered = All-nil (IsAnswered (sent ++ more) (begun ++ after));
}

entered_if : (sent more : List Envelope) (begun : List Unanswered) (l : Ledger) (n : ℕ)
    (r : Option RouterState) (e : NodeEvent) (a : NodeAnswer) → MayCome sent (Router n) e.what
    → All (Comes sent begun) l.unanswered
    → Went (sent ++ more) (begun ++ opened_at n r e a) (entered l n r e a)
entered_if sent more begun l n None e a may h = passed_on sent more begun [] l h
entered_if sent more begun l n (Some r) e a may h =
    either (is_memory a) (Went (sent ++ more) (begun ++ opened n (request_at r e a) a)) (passed l)
    (entered_at l n r e a) (passed_on sent more begun (opened n (request_at r e a) a) l h)
    (went sent more begun l n r e a may h)

pub swapped_on : (sent : List Envelope) (begun : List Unanswered) (l : Ledger)
    (n : ℕ) (r : Option RouterState) → All (Comes sent begun) l.unanswered
    → All (Comes sent begun) (swapped l n r).unanswered
swapped_on sent begun l n None h = h
swapped_on sent begun l n (Some r) h =
    All-filter (λ (u : Unanswered). not (nat_eq u.router n)) (Comes sent begun) l.unanswered h

went_none : (sent more : List Envelope) (begun : List Unanswered) (l : Ledger)
    → All (Comes sent begun) l.unanswered → Went (sent ++ more) (begun ++ []) (passed l)
went_none sent more begun l h = passed_on sent more begun [] l h

ran_went : (old : Nodes) (ran : Ran) (new : Nodes) (begun : List Unanswered) (l : Ledger)
    → Happens old ran new → All (Comes old.sent begun) l.unanswered
    → Went new.sent (begun ++ opened_by l ran) (entered_by l ran)
unfolding entered_by
ran_went old (Step (Router n) e a faults) new begun l h k = subst (λ (w : Nodes). Went w.sent
    (begun ++ opened_at n (slice_get l.routers n) e a) (entered l n (slice_get l.routers n) e a))
    (sym h.nodes) (entered_if old.sent _ begun l n (slice_get l.routers n) e a h.comes k)
ran_went old (Step (Shard n) e a faults) new begun l h k = subst (λ (w : Nodes).
    Went w.sent (begun ++ []) (passed l)) (sym h.nodes) (went_none old.sent _ begun l k)
ran_went old (Swapped (Router n)) new begun l h k =
    let g = all_later old.sent [] begun [] _ (swapped_on old.sent begun l n
    (slice_get l.routers n) k) in
    let same : new.sent ≡ old.sent ++ [] = ap (λ (w : Nodes). w.sent) h.nodes
    ∙ sym (append-nil old.sent) in
    record {
      left = subst (λ (s : List Envelope). All (Comes s (begun ++ []))
          (swapped l n (slice_get l.routers n)).unanswered) (sym same) g;
      answered = All-nil (IsAnswered new.sent (begun ++ []));
    }
ran_went old (Swapped (Shard n)) new begun l h k =
    let g = went_none old.sent [] begun l k in
    let same : new.sent ≡ old.sent ++ [] = ap (λ (w : Nodes). w.sent) h.nodes
    ∙ sym (append-nil old.sent) in
    subst (λ (s : List Envelope). Went s (begun ++ []) (passed l)) (sym same) g

-- A run.

pub sent_more : (old : Nodes) (ran : Ran) (new : Nodes) → Happens old ran new
    → (out : List Envelope) × (new.sent ≡ old.sent ++ out)
sent_more old (Step (Router n) e a faults) new h = (_, ap (λ (w : Nodes). w.sent) h.nodes)
sent_more old (Step (Shard n) e a faults) new h = (_, ap (λ (w : Nodes). w.sent) h.nodes)
sent_more old (Swapped (Router n)) new h =
    ([], ap (λ (w : Nodes). w.sent) h.nodes ∙ sym (append-nil old.sent))
sent_more old (Swapped (Shard n)) new h =
    ([], ap (λ (w : Nodes). w.sent) h.nodes ∙ sym (append-nil old.sent))

pub run_sent : (old : Nodes) (run : List Ran) (trace : List Nodes) (new : Nodes)
    → IsTrace old run trace new → (out : List Envelope) × (new.sent ≡ old.sent ++ out)
run_sent old [] [] new h = ([], ap (λ (w : Nodes). w.sent) h ∙ sym (append-nil old.sent))
run_sent old [] (nodes ∷ trace) new h = absurd h
run_sent old (ran ∷ run) [] new h = absurd h
run_sent old (ran ∷ run) (nodes ∷ trace) new h =
    let a = sent_more old ran h.1.0 h.1.1 in
    let b = run_sent h.1.0 run trace new h.1.2 in
    (a.0 ++ b.0, b.1 ∙ ap (λ (s : List Envelope). s ++ b.0) a.1 ∙ append_assoc old.sent a.0 b.0)

is_later : (sent more : List Envelope) (begun after : List Unanswered) (a : Answered)
    → IsAnswered sent begun a → IsAnswered (sent ++ more) (begun ++ after) a
is_later sent more begun after a h = record {
  statement = h.statement;
  is = h.is;
  comes = comes_later sent more begun after h.statement h.comes;
  complete = h.complete;
  says = h.says;
}

pub answered_run : (old : Nodes) (run : List Ran) (trace : List Nodes) (new : Nodes) (begun : List
    Unanswered) (l : Ledger) → IsTrace old run trace new → All (Comes old.sent begun) l.unanswered
    → All (IsAnswered new.sent (begun ++ opened_from l run)) (answered_from l run)
answered_run old [] [] new begun l h k = All-nil (IsAnswered new.sent (begun ++ []))
answered_run old [] (nodes ∷ trace) new begun l h k = absurd h
answered_run old (ran ∷ run) [] new begun l h k = absurd h
answered_run old (ran ∷ run) (nodes ∷ trace) new begun l h k =
    let mid = h.1.0 in
    let w = ran_went old ran mid begun l h.1.1 k in
    let out = run_sent mid run trace new h.1.2 in
    let after = opened_from (entered_by l ran).ledger run in
    let first = All-weaker (IsAnswered mid.sent (begun ++ opened_by l ran))
    (IsAnswered (mid.sent ++ out.0) ((begun ++ opened_by l ran) ++ after)) (is_later mid.sent
    out.0 (begun ++ opened_by l ran) after) (entered_by l ran).answered w.answered in
    let more = answered_run mid run trace new (begun
    ++ opened_by l ran) (entered_by l ran).ledger h.1.2 w.left in
    let both : (begun ++ opened_by l ran) ++ after ≡ begun ++ (opened_by l ran ++ after) =
    append_assoc begun (opened_by l ran) after in
    let all = All-append (IsAnswered new.sent ((begun ++ opened_by l ran) ++ after)) (entered_by l
    ran).answered (answered_from (entered_by l ran).ledger run) (subst (λ (s : List Envelope).
    All (IsAnswered s ((begun ++ opened_by l ran) ++ after)) (entered_by l ran).answered)
    (sym out.1) first) more in
    subst (λ (b : List Unanswered). All (IsAnswered new.sent b) (answered_from l (ran ∷ run))) both
    all

pub all_answered : (start : Nodes) (run : List Ran) (trace : List Nodes) (now : Nodes)
    → IsTrace start run trace now → All (IsAnswered now.sent
    (opened_from (fresh_ledger start.routers) run)) (answered_from (fresh_ledger start.routers) run)
all_answered start run trace now h = answered_run start run trace now []
    (fresh_ledger start.routers) h (All-nil (Comes start.sent []))
