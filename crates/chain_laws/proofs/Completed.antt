-- What a run answers is answered of the statements that it completes, and these come of Answers that
-- were sent; each statement that was opened was sent.
use Rattle.std.proofs.Common.{◌≡◌, inl, inr, ℕ, Bool, true, false, not, ◌&&◌, All, List, [], ◌∷◌}
use Rattle.std.proofs.Common.{◌++◌, map, filter_map, length, Option, Some, None, refl, sym, ap, ap₂}
use Rattle.std.proofs.Common.{subst, ◌∙◌, arith, if◌then◌else◌}
use Rattle.std.specs.Prelude.{Contains, slice_get, is_some}
use Rattle.std.proofs.lemmas.List.{append-nil, append_assoc, map-append}
use Rattle.std.proofs.lemmas.List.Elements.{All-nil, All-cons, All-append, All-weaker, All-filter}
use Rattle.std.proofs.lemmas.List.Elements.{Contains-append_left, Contains-append_right}
use Rattle.std.proofs.lemmas.List.Elements.{All-contains}
use Rattle.txn_types.specs.Letters.{given_out}
use Rattle.txn_types.specs.declared.event.NodeAnswer.{NodeAnswer}
use Rattle.txn_types.specs.declared.event.NodeEvent.{NodeEvent}
use Rattle.txn_types.specs.declared.message.Answer.{Answer}
use Rattle.txn_types.specs.declared.message.Envelope.{Envelope}
use Rattle.txn_types.specs.declared.message.Msg.{Msg}
use Rattle.txn_types.specs.declared.message.Msg.TheVariants as msg
use Rattle.txn_types.specs.declared.message.Statement.{Statement}
use Rattle.txn_types.specs.declared.node.NodeId.{NodeId}
use Rattle.txn_types.specs.declared.node.NodeId.TheVariants.{Shard, Router}
use Rattle.txn_types.specs.declared.operation.Op.{Op}
use Rattle.txn_semantics.specs.declared.commits.Answered.{Answered}
use Rattle.client_cmd.specs.declared.request.Request.TheVariants as request
use Rattle.router_state.specs.State.{RouterState}
use Rattle.txn_model.specs.declared.ran.Ran.{Ran}
use Rattle.txn_model.specs.declared.ran.Ran.TheVariants.{Step, Swapped}
use Rattle.cluster_core.specs.Answering.{Unanswered, answered_of, meaning_in, statement_in}
use Rattle.cluster_core.specs.Answering.{is_complete, all_say, taken_what, opened}
use Rattle.cluster_core.specs.Answering.{opened_by as opened_parts, statements_in}
use Rattle.cluster_core.specs.Answering.{unanswered_behind}
use Rattle.cluster_core.specs.Ledger.{Ledger, fresh_ledger, entered, entered_at, entered_by, passed}
use Rattle.cluster_core.specs.Ledger.{swapped, answered_from}
use Rattle.cluster_core.specs.Nodes.{Nodes}
use Rattle.cluster_core.specs.Routers.{Asked, is_memory, request_at}
use Rattle.cluster_core.specs.Trace.{Happens, IsTrace, MayCome}
use Rattle.answer_laws.specs.Opened.{opened_at, opened_by, opened_from}
use Rattle.answer_laws.specs.Comes.{Comes}
use Rattle.answer_laws.proofs.Lists.{both_true, nat_is, all_true, has_first, has_more}
use Rattle.told_laws.proofs.Lists.{has_cases, contained, filter_has}
use Rattle.chain_laws.specs.Completing.{completed_among, completed_at, completed_by, completed_from}
use Rattle.chain_laws.specs.Completing.{IsCompleted}
use Rattle.chain_laws.specs.Chained.{WasSent}
use Rattle.answer_laws.proofs.Answered.{comes_later, all_later, taken, IsNew, all_new, new_comes}
use Rattle.answer_laws.proofs.Answered.{swapped_on, run_sent}

-- What is answered.

entered_of : (l : Ledger) (n : ℕ) (o : Option RouterState) (e : NodeEvent) (a : NodeAnswer)
    → (entered l n o e a).answered ≡ map answered_of (completed_at l n o e a)
entered_of l n None e a = refl
entered_of l n (Some r) e a = by (is_memory a)
  where
    by : (test : Bool) → (if test then passed l else entered_at l n r e a).answered
        ≡ map answered_of (if test then []
        else completed_among (unanswered_behind n r e a l.unanswered))
    by true = refl
    by false = refl

step_of : (l : Ledger) (ran : Ran)
    → (entered_by l ran).answered ≡ map answered_of (completed_by l ran)
unfolding entered_by
step_of l (Step (Router n) e a faults) = entered_of l n (slice_get l.routers n) e a
step_of l (Step (Shard n) e a faults) = refl
step_of l (Swapped (Router n)) = refl
step_of l (Swapped (Shard n)) = refl

pub run_of : (l : Ledger) (run : List Ran)
    → answered_from l run ≡ map answered_of (completed_from l run)
run_of l [] = refl
run_of l (ran ∷ run) =
    ap₂ (λ (now more : List Answered). now ++ more) (step_of l ran)
    (run_of (entered_by l ran).ledger run)
    ∙ sym (map-append answered_of (completed_by l ran)
    (completed_from (entered_by l ran).ledger run))

-- More was sent, and more was opened.

-- An Answer that is taken.

-- What is opened.

opened_come : (sent : List Envelope) (begun new : List Unanswered) → All IsNew new
    → All (Comes sent (begun ++ new)) new
opened_come sent begun new h = contained (Comes sent (begun ++ new)) new
    (λ u c. new_comes sent begun new u (All-contains IsNew new u h c) c)

-- What is completed.

completed_one : (sent : List Envelope) (begun : List Unanswered) (u : Unanswered)
    → (is_complete u && all_say u) ≡ true → Comes sent begun u → IsCompleted sent begun u
completed_one sent begun u is c =
    let b = both_true (is_complete u) (all_say u) is in
    record {
      comes = c;
      complete = nat_is (length u.answers) (length u.shards) b.0;
      says = all_true (λ (answer : ℕ × Answer). is_some (meaning_in answer)) u.answers b.1;
    }

completed_all : (sent : List Envelope) (begun us : List Unanswered) → All (Comes sent begun) us
    → All (IsCompleted sent begun) (completed_among us)
completed_all sent begun us h = contained (IsCompleted sent begun) (completed_among us) (λ u c.
    let f = filter_has (λ (u : Unanswered). is_complete u && all_say u) us u c in
    completed_one sent begun u f.1 (All-contains (Comes sent begun) us u h f.0))

-- A step.

record Went (sent : List Envelope) (begun : List Unanswered) (l : Ledger)
    (now : List Unanswered) : Type 0 where
  left : All (Comes sent begun) l.unanswered
  completed : All (IsCompleted sent begun) now

went : (sent more : List Envelope) (begun : List Unanswered) (l : Ledger) (n : ℕ)
    (r : RouterState) (e : NodeEvent) (a : NodeAnswer) → MayCome sent (Router n) e.what
    → All (Comes sent begun) l.unanswered
    → Went (sent ++ more) (begun ++ opened n (request_at r e a) a) (entered_at l n r e a).ledger
    (completed_among (unanswered_behind n r e a l.unanswered))
went sent more begun l n r e a may h =
    let new = opened n (request_at r e a) a in
    let now = sent ++ more in
    let old = all_later sent more begun new (taken_what n e.what l.unanswered) (taken sent begun n
    e.what l.unanswered may h) in
    let all = All-append (Comes now (begun ++ new)) (taken_what n e.what l.unanswered) new old
    (opened_come now begun new (all_new n (request_at r e a) a)) in
    record {
      left = All-filter (λ (u : Unanswered). not (is_complete u)) (Comes now (begun ++ new))
          (unanswered_behind n r e a l.unanswered) all;
      completed = completed_all now (begun ++ new) (unanswered_behind n r e a l.unanswered) all;
    }

passed_on : (sent more : List Envelope) (begun after : List Unanswered) (l : Ledger)
    → All (Comes sent begun) l.unanswered
    → Went (sent ++ more) (begun ++ after) (passed l).ledger []
passed_on sent more begun after l h = record {
  left = all_later sent more begun after l.unanswered h;
  completed = All-nil (IsCompleted (sent ++ more) (begun ++ after));
}

entered_if : (sent more : List Envelope) (begun : List Unanswered) (l : Ledger) (n : ℕ)
    (r : Option RouterState) (e : NodeEvent) (a : NodeAnswer) → MayCome sent (Router n) e.what
    → All (Comes sent begun) l.unanswered
    → Went (sent ++ more) (begun ++ opened_at n r e a) (entered l n r e a).ledger
    (completed_at l n r e a)
entered_if sent more begun l n None e a may h = passed_on sent more begun [] l h
entered_if sent more begun l n (Some r) e a may h = by (is_memory a)
  where
    by : (test : Bool) → Went (sent ++ more) (begun ++ opened n (request_at r e a) a)
        (if test then passed l else entered_at l n r e a).ledger
        (if test then [] else completed_among (unanswered_behind n r e a l.unanswered))
    by true = passed_on sent more begun (opened n (request_at r e a) a) l h
    by false = went sent more begun l n r e a may h

ran_went : (old : Nodes) (ran : Ran) (new : Nodes) (begun : List Unanswered) (l : Ledger)
    → Happens old ran new → All (Comes old.sent begun) l.unanswered
    → Went new.sent (begun ++ opened_by l ran) (entered_by l ran).ledger (completed_by l ran)
unfolding entered_by
ran_went old (Step (Router n) e a faults) new begun l h k = subst (λ (w : Nodes). Went w.sent
    (begun ++ opened_at n (slice_get l.routers n) e a) (entered l n (slice_get l.routers n) e
    a).ledger (completed_at l n (slice_get l.routers n) e a))
    (sym h.nodes) (entered_if old.sent _ begun l n (slice_get l.routers n) e a h.comes k)
ran_went old (Step (Shard n) e a faults) new begun l h k = subst (λ (w : Nodes).
    Went w.sent (begun ++ []) (passed l).ledger []) (sym h.nodes)
    (passed_on old.sent _ begun [] l k)
ran_went old (Swapped (Router n)) new begun l h k =
    let g = all_later old.sent [] begun [] _ (swapped_on old.sent begun l n
    (slice_get l.routers n) k) in
    let same : new.sent ≡ old.sent ++ [] = ap (λ (w : Nodes). w.sent) h.nodes
    ∙ sym (append-nil old.sent) in
    record {
      left = subst (λ (s : List Envelope). All (Comes s (begun ++ []))
          (swapped l n (slice_get l.routers n)).unanswered) (sym same) g;
      completed = All-nil (IsCompleted new.sent (begun ++ []));
    }
ran_went old (Swapped (Shard n)) new begun l h k =
    let g = passed_on old.sent [] begun [] l k in
    let same : new.sent ≡ old.sent ++ [] = ap (λ (w : Nodes). w.sent) h.nodes
    ∙ sym (append-nil old.sent) in
    subst (λ (s : List Envelope). Went s (begun ++ []) (passed l).ledger []) (sym same) g

-- A run.

is_later : (sent more : List Envelope) (begun after : List Unanswered) (u : Unanswered)
    → IsCompleted sent begun u → IsCompleted (sent ++ more) (begun ++ after) u
is_later sent more begun after u h = record {
  comes = comes_later sent more begun after u h.comes;
  complete = h.complete;
  says = h.says;
}

completed_run : (old : Nodes) (run : List Ran) (trace : List Nodes) (new : Nodes)
    (begun : List Unanswered) (l : Ledger) → IsTrace old run trace new
    → All (Comes old.sent begun) l.unanswered
    → All (IsCompleted new.sent (begun ++ opened_from l run)) (completed_from l run)
completed_run old [] [] new begun l h k = All-nil (IsCompleted new.sent (begun ++ []))
completed_run old [] (nodes ∷ trace) new begun l h k = absurd h
completed_run old (ran ∷ run) [] new begun l h k = absurd h
completed_run old (ran ∷ run) (nodes ∷ trace) new begun l h k =
    let mid = h.1.0 in
    let w = ran_went old ran mid begun l h.1.1 k in
    let out = run_sent mid run trace new h.1.2 in
    let after = opened_from (entered_by l ran).ledger run in
    let first = All-weaker (IsCompleted mid.sent (begun ++ opened_by l ran))
    (IsCompleted (mid.sent ++ out.0) ((begun ++ opened_by l ran) ++ after)) (is_later mid.sent
    out.0 (begun ++ opened_by l ran) after) (completed_by l ran) w.completed in
    let more = completed_run mid run trace new (begun
    ++ opened_by l ran) (entered_by l ran).ledger h.1.2 w.left in
    let both : (begun ++ opened_by l ran) ++ after ≡ begun ++ (opened_by l ran ++ after) =
    append_assoc begun (opened_by l ran) after in
    let all = All-append (IsCompleted new.sent ((begun ++ opened_by l ran) ++ after))
    (completed_by l ran) (completed_from (entered_by l ran).ledger run)
    (subst (λ (s : List Envelope). All (IsCompleted s ((begun ++ opened_by l ran) ++ after))
    (completed_by l ran)) (sym out.1) first) more in
    subst (λ (b : List Unanswered). All (IsCompleted new.sent b) (completed_from l (ran ∷ run)))
    both all

pub all_completed : (start : Nodes) (run : List Ran) (trace : List Nodes) (now : Nodes)
    → IsTrace start run trace now → All (IsCompleted now.sent
    (opened_from (fresh_ledger start.routers) run))
    (completed_from (fresh_ledger start.routers) run)
all_completed start run trace now h = completed_run start run trace now []
    (fresh_ledger start.routers) h (All-nil (Comes start.sent []))

-- What is opened is sent.

-- one of its parts was sent
abbrev pub HasPart : List Envelope → Unanswered → Type 0
HasPart sent u = (m : Statement) × WasSent sent m × (m.tag ≡ u.tag) × (m.k ≡ u.k)

part_msg : (e : Envelope) (to : NodeId) (m : Msg) (part : ℕ × Statement)
    → statement_in (record e { to = to; msg = m }) ≡ Some part → m ≡ msg.Statement part.1
part_msg e (Shard n) (msg.Statement s) part h =
    ap (λ (p : ℕ × Statement). msg.Statement p.1) (some_is (n, s) part h)
  where
    some_is : (a b : ℕ × Statement) → Some a ≡ Some b → a ≡ b
    some_is a b e = grind (arith, e)
part_msg e (Router n) (msg.Statement s) part h = absurd (none part h)
  where
    none : (p : ℕ × Statement) → None ≡ Some p → ⊥
    none p e = grind (arith, e)
part_msg e to other part h = absurd (none part h)
  where
    none : (p : ℕ × Statement) → None ≡ Some p → ⊥
    none p e = grind (arith, e)

part_sent : (out : List Envelope) (part : ℕ × Statement)
    → Contains (filter_map statement_in out) part → WasSent out part.1
part_sent [] part h = absurd (omega (arith, h.1))
part_sent (e ∷ out) part h =
    by (λ k. let w = part_sent out part k in (w.0, has_more e out w.0 w.1, w.2))
    (statement_in e) refl h
  where
    by : (Contains (filter_map statement_in out) part → WasSent (e ∷ out) part.1) → (o : Option (ℕ × Statement)) → statement_in e ≡ o
        → Contains (filter_map statement_in (e ∷ out)) part → WasSent (e ∷ out) part.1
    by more None is k = more (subst (λ (l : List (ℕ × Statement)). Contains l part) (skip is) k)
      where
        skip : statement_in e ≡ None
            → filter_map statement_in (e ∷ out) ≡ filter_map statement_in out
        skip is = rw is refl
    by more (Some p) is k =
        elim (has_cases p (filter_map statement_in out) part
        (subst (λ (l : List (ℕ × Statement)). Contains l part) (first is) k)) [
          | inl same ↦ (
            e,
            has_first e out,
            part_msg e e.to e.msg part
                (is ∙ ap (λ (q : ℕ × Statement). Some q) (sym same)),
          )
          | inr c ↦ more c
        ]
      where
        first : statement_in e ≡ Some p
            → filter_map statement_in (e ∷ out) ≡ p ∷ filter_map statement_in out
        first is = rw is refl

new_has : (n conn : ℕ) (op : Op) (out : List Envelope) (parts : List (ℕ × Statement))
    → ((part : ℕ × Statement) → Contains parts part → WasSent out part.1)
    → All (HasPart out) (opened_parts n conn op parts)
new_has n conn op out [] h = All-nil (HasPart out)
new_has n conn op out (part ∷ parts) h =
    All-cons (HasPart out) _ [] (part.1, h part (has_first part parts), refl, refl)
    (All-nil (HasPart out))

opened_have : (n : ℕ) (asked : Option Asked) (a : NodeAnswer)
    → All (HasPart (given_out a)) (opened n asked a)
opened_have n None a = All-nil (HasPart (given_out a))
opened_have n (Some (conn, request.Ping more time)) a = All-nil (HasPart (given_out a))
opened_have n (Some (conn, request.Hello old_name more time)) a = All-nil (HasPart (given_out a))
opened_have n (Some (conn, request.Statement op txn at after more time)) a =
    new_has n conn op (given_out a) (statements_in a) (λ part c. part_sent (given_out a) part c)
opened_have n (Some (conn, request.Commit txn t more time)) a = All-nil (HasPart (given_out a))
opened_have n (Some (conn, request.Abort txn more time)) a = All-nil (HasPart (given_out a))
opened_have n (Some (conn, request.EndSessions ids more time)) a = All-nil (HasPart (given_out a))

at_have : (n : ℕ) (o : Option RouterState) (e : NodeEvent) (a : NodeAnswer)
    → All (HasPart (given_out a)) (opened_at n o e a)
at_have n None e a = All-nil (HasPart (given_out a))
at_have n (Some r) e a = opened_have n (request_at r e a) a

sent_left : (sent more : List Envelope) (u : Unanswered) → HasPart sent u
    → HasPart (sent ++ more) u
sent_left sent more u h =
    (h.0, (h.1.0, Contains-append_left sent more h.1.0 h.1.1, h.1.2), h.2, h.3)

sent_right : (sent more : List Envelope) (u : Unanswered) → HasPart more u
    → HasPart (sent ++ more) u
sent_right sent more u h =
    (h.0, (h.1.0, Contains-append_right sent more h.1.0 h.1.1, h.1.2), h.2, h.3)

step_has : (old : Nodes) (ran : Ran) (new : Nodes) (l : Ledger) → Happens old ran new
    → All (HasPart new.sent) (opened_by l ran)
step_has old (Step (Router n) e a faults) new l h =
    subst (λ (s : List Envelope). All (HasPart s) (opened_at n (slice_get l.routers n) e a))
    (sym (ap (λ (w : Nodes). w.sent) h.nodes))
    (All-weaker (HasPart (given_out a)) (HasPart (old.sent ++ given_out a))
    (sent_right old.sent (given_out a)) (opened_at n (slice_get l.routers n) e a)
    (at_have n (slice_get l.routers n) e a))
step_has old (Step (Shard n) e a faults) new l h = All-nil (HasPart new.sent)
step_has old (Swapped (Router n)) new l h = All-nil (HasPart new.sent)
step_has old (Swapped (Shard n)) new l h = All-nil (HasPart new.sent)

pub run_has : (old : Nodes) (run : List Ran) (trace : List Nodes) (new : Nodes) (l : Ledger)
    → IsTrace old run trace new → All (HasPart new.sent) (opened_from l run)
run_has old [] [] new l h = All-nil (HasPart new.sent)
run_has old [] (nodes ∷ trace) new l h = absurd h
run_has old (ran ∷ run) [] new l h = absurd h
run_has old (ran ∷ run) (nodes ∷ trace) new l h =
    let mid = h.1.0 in
    let out = run_sent mid run trace new h.1.2 in
    All-append (HasPart new.sent) (opened_by l ran) (opened_from (entered_by l ran).ledger run)
    (subst (λ (s : List Envelope). All (HasPart s) (opened_by l ran)) (sym out.1)
    (All-weaker (HasPart mid.sent) (HasPart (mid.sent ++ out.0)) (sent_left mid.sent out.0)
    (opened_by l ran) (step_has old ran mid l h.1.1)))
    (run_has mid run trace new (entered_by l ran).ledger h.1.2)
