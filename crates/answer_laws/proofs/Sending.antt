-- What a router's step sends anew is of the statement that it opens.
use Rattle.std.proofs.Common.{◌≡◌, inl, inr, ◌+◌, ℕ, ℤ, Bool, true, false, List, [], ◌∷◌, ◌++◌, map}
use Rattle.std.proofs.Common.{Option, None, Result, Ok, Err, refl, sym, ap, subst, ◌∙◌}
use Rattle.std.proofs.Common.{if◌then◌else◌}
use Rattle.std.specs.Prelude.{Contains, filter_map}
use Rattle.std.proofs.lemmas.List.Elements.{All-nil, All-head, All-tail, All-weaker, All-map}
use Rattle.std.proofs.lemmas.List.Elements.{Contains-append_right, All-contains_itself}
use Rattle.txn_types.specs.Letters.{sent_by}
use Rattle.txn_types.specs.declared.event.Happening.{Happening}
use Rattle.txn_types.specs.declared.event.Happening.TheVariants as what
use Rattle.txn_types.specs.declared.event.NodeAnswer.{NodeAnswer}
use Rattle.txn_types.specs.declared.event.NodeAnswer.TheVariants as answer
use Rattle.txn_types.specs.declared.event.NodeEvent.{NodeEvent}
use Rattle.txn_types.specs.declared.message.Msg.{Msg}
use Rattle.txn_types.specs.declared.message.Msg.TheVariants as msg
use Rattle.txn_types.specs.declared.message.Statement.{Statement}
use Rattle.txn_types.specs.declared.node.Lsid.{Lsid}
use Rattle.txn_types.specs.declared.node.NodeId.{NodeId}
use Rattle.txn_types.specs.declared.operation.Op.{Op}
use Rattle.client_cmd.specs.declared.request.Request.{Request}
use Rattle.client_cmd.specs.declared.request.Request.TheVariants as request
use Rattle.chunk_map.specs.Map.{Map}
use Rattle.chunk_map.specs.Parts.{shards_of, part_at}
use Rattle.router_state.specs.declared.state.Transaction.{Transaction}
use Rattle.router_state.specs.Deeds.{Move, still}
use Rattle.router_state.specs.State.{Post, RouterState, boot_of, is_waiting}
use Rattle.router_rules.specs.Statements.{statement_to}
use Rattle.router_rules.specs.Times.{walled, met}
use Rattle.router_plan.specs.declared.message.Unserved.{Unserved}
use Rattle.router_plan.specs.Messages.{asked_in}
use Rattle.router_plan.specs.Spelling.{letter_of}
use Rattle.router_core.specs.Requests as rq
use Rattle.router_core.specs.Step as sp
use Rattle.op_msg.specs.Asking.{wants_reply}
use Rattle.cluster_core.specs.Answering.{Unanswered, statement_in, statements_in, opened, opened_by}
use Rattle.cluster_core.specs.Routers.{asked_by, request_at}
use Rattle.answer_laws.specs.Parts.{MsgFits, IsPart}
use Rattle.answer_laws.proofs.Fits.{PostFits, AllFit, NoStatement, AskedFits, Unless, HappenedFits}
use Rattle.answer_laws.proofs.Fits.{EventFits}
use Rattle.answer_laws.proofs.Beginning.{MayAsk, statement_asks}

-- The statements among what goes out.

abbrev pub parts_from : NodeId → ℕ → List Post → List (ℕ × Statement)
parts_from from time posts = filter_map statement_in (map (sent_by from time) (map letter_of posts))

none_in : (from : NodeId) (time shard : ℕ) (m : Msg) → MsgFits NoStatement shard m
    → statement_in (sent_by from time (letter_of (shard, m))) ≡ None
none_in from time shard (msg.Statement m) h = absurd h
none_in from time shard other h = refl

pub skipped : (from : NodeId) (time : ℕ) (others posts : List Post) → AllFit NoStatement others
    → parts_from from time (others ++ posts) ≡ parts_from from time posts
skipped from time [] posts h = refl
skipped from time (post ∷ others) posts h =
    rw (none_in from time post.0 post.1 (All-head (PostFits NoStatement) post others h))
    (skipped from time others posts (All-tail (PostFits NoStatement) post others h))

abbrev pub part_for : Map → Lsid → ℤ → Transaction → Op → ℕ → ℕ × Statement
part_for chunks lsid number t op shard = (
  shard,
  record {
    tag = t.tag;
    lsid = lsid;
    number = number;
    k = t.k + 1;
    read_at = t.read_at;
    boot = boot_of t.parts shard;
    op = part_at chunks op shard;
  },
)

pub parts_are : (from : NodeId) (time : ℕ) (chunks : Map) (lsid : Lsid) (number : ℤ)
    (t : Transaction) (op : Op) (shards : List ℕ)
    → parts_from from time (map (statement_to chunks lsid number t op) shards)
    ≡ map (part_for chunks lsid number t op) shards
parts_are from time chunks lsid number t op [] = refl
parts_are from time chunks lsid number t op (shard ∷ shards) =
    ap (λ (parts : List (ℕ × Statement)). part_for chunks lsid number t op shard
    ∷ parts) (parts_are from time chunks lsid number t op shards)

pub firsts : (chunks : Map) (lsid : Lsid) (number : ℤ) (t : Transaction) (op : Op) (shards : List ℕ)
    → map (λ (part : ℕ × Statement). part.0) (map (part_for chunks lsid number t op)
    shards) ≡ shards
firsts chunks lsid number t op [] = refl
firsts chunks lsid number t op (shard ∷ shards) =
    ap (λ (more : List ℕ). shard ∷ more) (firsts chunks lsid number t op shards)

new_fit : (chunks : Map) (begun : List Unanswered) (n conn : ℕ) (lsid : Lsid) (number : ℤ)
    (t : Transaction) (op : Op) (shards : List ℕ)
    → AllFit (IsPart chunks (begun ++ opened_by n conn op (map (part_for chunks lsid number t op)
    shards))) (map (statement_to chunks lsid number t op) shards)
new_fit chunks begun n conn lsid number t op [] = All-nil (PostFits (IsPart chunks (begun ++ [])))
new_fit chunks begun n conn lsid number t op (shard ∷ shards) =
    let all = shard ∷ shards in
    let new = opened_by n conn op (map (part_for chunks lsid number t op) all) in
    let u : Unanswered = record {
      router = n;
      conn = conn;
      tag = t.tag;
      k = t.k + 1;
      op = op;
      shards = map (λ (part : ℕ × Statement). part.0) (map (part_for chunks lsid number t op) all);
      answers = [];
    } in
    let there : Contains (begun ++ new) u = Contains-append_right begun new u
    (All-head (Contains new) u [] (All-contains_itself new)) in
    All-map (PostFits (IsPart chunks (begun ++ new))) (statement_to chunks lsid number t op) all
    (All-weaker (Contains all) (λ (s : ℕ). PostFits (IsPart chunks (begun ++ new))
    (statement_to chunks lsid number t op s))
    (λ s h. record {
      statement = u;
      opened = there;
      asked = subst (λ (l : List ℕ). Contains l s) (sym (firsts chunks lsid number t op all)) h;
      tag = refl;
      k = refl;
      op = refl;
    })
    all (All-contains_itself all))

-- A move that asks so.

move_fits : (chunks : Map) (begun : List Unanswered) (n conn : ℕ) (r : RouterState) (op : Op)
    (m : Move) (from : NodeId) (time : ℕ) → r.chunks ≡ chunks → MayAsk r op m
    → AllFit (IsPart chunks (begun ++ opened_by n conn op
    (parts_from from time (m.given.aborts ++ m.given.sends)))) m.given.sends
move_fits chunks begun n conn r op m from time same (inl none) =
    subst (λ (posts : List Post). AllFit (IsPart chunks (begun ++ opened_by n conn op
    (parts_from from time (m.given.aborts ++ m.given.sends)))) posts) (sym none.0)
    (All-nil (PostFits (IsPart chunks
    (begun ++ opened_by n conn op (parts_from from time (m.given.aborts ++ m.given.sends))))))
move_fits chunks begun n conn r op m from time same (inr a) =
    let shards = shards_of r.chunks op in
    let parts : parts_from from time (m.given.aborts ++ m.given.sends)
    ≡ map (part_for r.chunks a.lsid a.number a.t op) shards =
    skipped from time m.given.aborts m.given.sends a.aborts ∙ ap (parts_from from time) a.sends
    ∙ parts_are from time r.chunks a.lsid a.number a.t op shards in
    let fit = new_fit r.chunks begun n conn a.lsid a.number a.t op shards in
    subst (λ (c : Map). AllFit (IsPart c (begun ++ opened_by n conn op
    (parts_from from time (m.given.aborts ++ m.given.sends)))) m.given.sends) same
    (subst (λ (p : List (ℕ × Statement)). AllFit (IsPart r.chunks (begun ++ opened_by n conn op p))
    m.given.sends) (sym parts)
    (subst (λ (posts : List Post). AllFit (IsPart r.chunks (begun ++ opened_by n conn op
    (map (part_for r.chunks a.lsid a.number a.t op) shards))) posts) (sym a.sends) fit))

-- The step.

abbrev pub told_by : Option ℕ → Move → List (ℕ × List ℕ) → Option ℕ → NodeAnswer
told_by c m replies closed = answer.Did (sp.given_out c m).out replies closed

silent_fits : (chunks : Map) (begun : List Unanswered) (n conn : ℕ) (r : RouterState) (op : Op)
    (test : Bool) (m : Move) (c : Option ℕ) (replies : List (ℕ × List ℕ)) (closed : Option ℕ)
    → r.chunks ≡ chunks → MayAsk r op m
    → AllFit (IsPart chunks (begun ++ opened_by n conn op
    (statements_in (told_by c (sp.unless_silent test m) replies closed)))) m.given.sends
silent_fits chunks begun n conn r op true m c replies closed same may =
    move_fits chunks begun n conn r op m _ m.state.time same may
silent_fits chunks begun n conn r op false m c replies closed same may =
    move_fits chunks begun n conn r op m _ m.state.time same may

client_fits : (chunks : Map) (begun : List Unanswered) (n : ℕ) (s : RouterState)
    (conn : ℕ) (bytes : List ℕ) (test : Bool) (x : Result Request Unserved) (c : Option ℕ)
    (replies : List (ℕ × List ℕ)) (closed : Option ℕ) → s.chunks ≡ chunks
    → Unless test (AskedFits (IsPart chunks (begun ++ opened n (if test then None else asked_by conn
    x) (told_by c (if test then still s else sp.unless_silent (wants_reply bytes)
    (sp.served s conn bytes x)) replies closed))) s conn bytes x)
unfolding rq.serves
client_fits chunks begun n s conn bytes true x c replies closed same = tt
client_fits chunks begun n s conn bytes false (Ok (request.Statement op txn at after more time)) c
    replies closed same =
    let r = met s time after in
    silent_fits chunks begun n conn r op (wants_reply bytes)
    (rq.statement r (sp.asker_by conn bytes) txn op at) c replies closed same
    (statement_asks r (sp.asker_by conn bytes) txn op at)
client_fits chunks begun n s conn bytes false (Ok (request.Ping more time)) c replies closed same =
    tt
client_fits chunks begun n s conn bytes false (Ok (request.Hello old_name more time)) c replies
    closed same = tt
client_fits chunks begun n s conn bytes false (Ok (request.Commit txn t more time)) c replies
    closed same = tt
client_fits chunks begun n s conn bytes false (Ok (request.Abort txn more time)) c replies
    closed same = tt
client_fits chunks begun n s conn bytes false (Ok (request.EndSessions ids more time)) c replies
    closed same = tt
client_fits chunks begun n s conn bytes false (Err why) c replies closed same = tt

happened_fits : (chunks : Map) (begun : List Unanswered) (n : ℕ) (r : RouterState) (wall : ℕ)
    (w : Happening) (e : NodeEvent) (c : Option ℕ) (replies : List (ℕ × List ℕ)) (closed : Option ℕ)
    → e ≡ record { wall = wall; what = w } → r.chunks ≡ chunks
    → HappenedFits (IsPart chunks (begun
    ++ opened n (request_at r e (told_by c (sp.happened (walled r wall) w) replies closed))
    (told_by c (sp.happened (walled r wall) w) replies closed))) (walled r wall) w
happened_fits chunks begun n r wall (what.Client conn bytes) e c replies closed is same =
    rw is (client_fits chunks begun n (walled r wall) conn bytes (is_waiting r conn)
    (asked_in (walled r wall).wall bytes) c replies closed same)
happened_fits chunks begun n r wall (what.Gone conn) e c replies closed is same = tt
happened_fits chunks begun n r wall (what.Deliver m) e c replies closed is same = tt
happened_fits chunks begun n r wall what.Resend e c replies closed is same = tt
happened_fits chunks begun n r wall what.Moment e c replies closed is same = tt

pub event_fits : (chunks : Map) (begun : List Unanswered) (n : ℕ) (want : Bool) (r : RouterState)
    (e : NodeEvent) → r.chunks ≡ chunks
    → EventFits (IsPart chunks (begun ++ opened n (request_at r e (sp.answer_of want
    (sp.router_step want r e))) (sp.answer_of want (sp.router_step want r e)))) want r e
unfolding sp.router_step
event_fits chunks begun n true r e same = tt
event_fits chunks begun n false r e same = happened_fits chunks begun n r e.wall e.what e
    (sp.closed_at (walled r e.wall) e.what) _ _ refl same
