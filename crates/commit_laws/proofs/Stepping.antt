-- A router's step keeps what stands: what goes out a session waits for, and so it tells of what was
-- answered; and no statement is opened after a commit.
use Rattle.std.proofs.Common.{◌≡◌, inl, inr, ◌++◌, ◌&&◌, ℕ, Bool, true, false, List, [], ◌∷◌, map}
use Rattle.std.proofs.Common.{filter, filter_map, length, nat_eq, is_some, Option, Some, None, Ok}
use Rattle.std.proofs.Common.{refl, sym, ap, ap₂, subst, ◌∙◌, arith}
use Rattle.std.specs.Prelude.{Contains, IsOk}
use Rattle.std.specs.List.{list_all}
use Rattle.std.specs.Ordering.{nat_cmp}
use Rattle.std.proofs.lemmas.List.Elements.{All-contains, Contains-append_left}
use Rattle.std.proofs.lemmas.List.Elements.{Contains-append_right}
use Rattle.txn_types.specs.Letters.{Letter, sent_by, given_out}
use Rattle.txn_types.specs.Order.{same_tag}
use Rattle.txn_types.specs.declared.event.NodeAnswer.{NodeAnswer}
use Rattle.txn_types.specs.declared.event.NodeEvent.{NodeEvent}
use Rattle.txn_types.specs.declared.message.Answer.{Answer}
use Rattle.txn_types.specs.declared.message.Commit.{Commit}
use Rattle.txn_types.specs.declared.message.Envelope.{Envelope}
use Rattle.txn_types.specs.declared.message.Msg.{Msg}
use Rattle.txn_types.specs.declared.message.Msg.TheVariants as msg
use Rattle.txn_types.specs.declared.message.Statement.{Statement}
use Rattle.txn_types.specs.declared.names.Tag.{Tag}
use Rattle.txn_types.specs.declared.node.NodeId.{NodeId}
use Rattle.txn_types.specs.declared.node.NodeId.TheVariants.{Shard, Router}
use Rattle.txn_types.specs.declared.operation.Op.{Op}
use Rattle.txn_types.specs.declared.operation.OpReply.{OpReply}
use Rattle.txn_semantics.specs.Keyed.{put}
use Rattle.txn_semantics.specs.Meaning.{document_rules}
use Rattle.txn_semantics.specs.Splits.{outcome}
use Rattle.txn_semantics.specs.declared.commits.Answered.{Answered}
use Rattle.client_cmd.specs.declared.request.Request.{Request}
use Rattle.client_cmd.specs.declared.request.Request.TheVariants as request
use Rattle.router_state.specs.declared.state.Asker.{Asker}
use Rattle.router_state.specs.declared.state.Phase.{Phase}
use Rattle.router_state.specs.declared.state.Phase.TheVariants.{Idle, Asking, Checking, Deciding}
use Rattle.router_state.specs.declared.state.Phase.TheVariants.{Committed, Released, Aborted}
use Rattle.router_state.specs.declared.state.Transaction.{Transaction}
use Rattle.router_state.specs.Deeds.{Move}
use Rattle.router_state.specs.State.{Post, RouterState, is_waited}
use Rattle.router_rules.specs.Times.{walled}
use Rattle.router_plan.specs.Spelling.{letter_of}
use Rattle.router_core.specs.Step as sp
use Rattle.cluster_core.specs.Answering.{Unanswered, with_answer, is_complete, all_say, meaning_in}
use Rattle.cluster_core.specs.Answering.{read_at_of, answered_of, answered_among, opened, opened_by}
use Rattle.cluster_core.specs.Answering.{statement_in, statements_in}
use Rattle.cluster_core.specs.Routers.{Asked as Request_}
use Rattle.answer_laws.specs.Comes.{IsOfOne}
use Rattle.answer_laws.proofs.Lists.{both_true, nat_is, has_first, has_more}
use Rattle.world_laws.proofs.Naming.{tag_is}
use Rattle.told_laws.proofs.Lists.{has_map, map_has, has_filter, only_one, has_cases}
use Rattle.told_laws.proofs.Quiet.{IsSettled}
use Rattle.told_laws.proofs.Standing as sn
use Rattle.commit_laws.specs.Speaking.{Gave, StatementFollows}
use Rattle.commit_laws.proofs.Follows.{Heard, Next, Commits, MsgCommits, Follows, IsPast}
use Rattle.told_laws.proofs.Answering.{takes, for_asked, with_yes}

-- What goes out.

-- the move that a step is
abbrev pub move_of : RouterState → NodeEvent → Move
move_of r e = sp.happened (walled r e.wall) e.what

abbrev pub did : RouterState → NodeEvent → NodeAnswer
did r e = sp.answer_of false (sp.router_step false r e)

pub post_of : (r : RouterState) (e : NodeEvent) (x : Envelope) → Contains (given_out (did r e)) x
    → (post : Post) × Contains ((move_of r e).given.aborts ++ (move_of r e).given.sends) post
    × ((x.msg ≡ post.1) × (x.to ≡ Shard post.0))
unfolding sp.router_step
post_of r e x c =
    let m = move_of r e in
    let posts = m.given.aborts ++ m.given.sends in
    let a = map_has (sent_by (Router m.state.number) m.state.time) (map letter_of posts) x c in
    let b = map_has letter_of posts a.0 a.1 in (
      b.0,
      b.1,
      (
        ap (λ (y : Envelope). y.msg) a.2 ∙ ap (λ (l : Letter). l.1) b.2,
        ap (λ (y : Envelope). y.to) a.2 ∙ ap (λ (l : Letter). l.0) b.2,
      ),
    )

pub state_of : (r : RouterState) (e : NodeEvent)
    → (sp.router_step false r e).state ≡ (move_of r e).state
unfolding sp.router_step
state_of r e = refl

-- The statement that a step opens was sent.

maps_case : {A B : Type 0} (f : A → Option B) (x : A) (xs : List A) (y : B) (o : Option B)
    → f x ≡ o → Contains (filter_map f (x ∷ xs)) y
    → (Contains (filter_map f xs) y → (z : A) × Contains xs z × (f z ≡ Some y))
    → (z : A) × Contains (x ∷ xs) z × (f z ≡ Some y)
maps_case f x xs y None is c more =
    let rest : filter_map f (x ∷ xs) ≡ filter_map f xs = rw is refl in
    let k = more (subst (λ (l : List _). Contains l y) rest c) in
    (k.0, has_more x xs k.0 k.1, k.2)
maps_case f x xs y (Some z) is c more =
    let first : filter_map f (x ∷ xs) ≡ z ∷ filter_map f xs = rw is refl in
    elim (has_cases z (filter_map f xs) y (subst (λ (l : List _). Contains l y) first c)) [
      | inl e ↦ (x, has_first x xs, is ∙ ap Some (sym e))
      | inr d ↦ let k = more d in (k.0, has_more x xs k.0 k.1, k.2)
    ]

maps_has : {A B : Type 0} (f : A → Option B) (xs : List A) (y : B) → Contains (filter_map f xs) y
    → (x : A) × Contains xs x × (f x ≡ Some y)
maps_has f [] y c = absurd (omega (arith, c.1))
maps_has f (x ∷ xs) y c = maps_case f x xs y (f x) refl c (maps_has f xs y)

to_case : (m : Statement) (to : NodeId) (part : ℕ × Statement)
    → (elim to [ Shard n ↦ Some (n, m) | Router n ↦ None ]) ≡ Some part → m ≡ part.1
to_case m (Shard n) part e = grind (arith, e)
to_case m (Router n) part e = grind (arith, e)

part_msg : (x : Envelope) (m : Msg) (part : ℕ × Statement) → x.msg ≡ m
    → statement_in (record x { msg = m }) ≡ Some part → m ≡ msg.Statement part.1
part_msg x (msg.Statement m) part is e = ap (λ (y : Statement). msg.Statement y)
    (to_case m x.to part e)
part_msg x (msg.Answer a) part is e = grind (arith, e)
part_msg x (msg.Commit m) part is e = grind (arith, e)
part_msg x (msg.Outcome m) part is e = grind (arith, e)
part_msg x (msg.Abort m) part is e = grind (arith, e)
part_msg x (msg.CommitTwo m) part is e = grind (arith, e)
part_msg x (msg.Prepare m) part is e = grind (arith, e)
part_msg x (msg.Vote m) part is e = grind (arith, e)
part_msg x (msg.Decide m) part is e = grind (arith, e)
part_msg x (msg.Acked m) part is e = grind (arith, e)
part_msg x (msg.Recover m) part is e = grind (arith, e)
part_msg x msg.Nudge part is e = grind (arith, e)

-- the message of an opened statement's first part
pub record IsOpenedBy (out : List Envelope) (w : Unanswered) : Type 0 where
  pub envelope : Envelope
  pub sent : Contains out envelope
  pub m : Statement
  pub is : envelope.msg ≡ msg.Statement m
  pub tag : w.tag ≡ m.tag
  pub k : w.k ≡ m.k

opened_parts : (n conn : ℕ) (op : Op) (out : List Envelope) (parts : List (ℕ × Statement))
    (w : Unanswered) → parts ≡ filter_map statement_in out
    → Contains (opened_by n conn op parts) w → IsOpenedBy out w
opened_parts n conn op out [] w is c = absurd (omega (arith, c.1))
opened_parts n conn op out (part ∷ parts) w is c =
    let there = maps_has statement_in out part
    (subst (λ (l : List (ℕ × Statement)). Contains l part) is (has_first part parts)) in
    record {
      envelope = there.0;
      sent = there.1;
      m = part.1;
      is = part_msg there.0 there.0.msg part refl there.2;
      tag = ap (λ (u : Unanswered). u.tag) (only_one _ w c);
      k = ap (λ (u : Unanswered). u.k) (only_one _ w c);
    }

opened_case : (n : ℕ) (conn : ℕ) (x : Request) (a : NodeAnswer) (w : Unanswered)
    → Contains (opened n (Some (conn, x)) a) w → IsOpenedBy (given_out a) w
opened_case n conn (request.Statement op txn at after more time) a w c =
    opened_parts n conn op (given_out a) (statements_in a) w refl c
opened_case n conn (request.Ping more time) a w c = absurd (omega (arith, c.1))
opened_case n conn (request.Hello old_name more time) a w c = absurd (omega (arith, c.1))
opened_case n conn (request.Commit txn t more time) a w c = absurd (omega (arith, c.1))
opened_case n conn (request.Abort txn more time) a w c = absurd (omega (arith, c.1))
opened_case n conn (request.EndSessions ids more time) a w c = absurd (omega (arith, c.1))

pub was_opened : (n : ℕ) (o : Option Request_) (a : NodeAnswer) (w : Unanswered)
    → Contains (opened n o a) w → IsOpenedBy (given_out a) w
was_opened n None a w c = absurd (omega (arith, c.1))
was_opened n (Some asked) a w c = opened_case n asked.0 asked.1 a w c

-- What a session waits for.

abbrev pub IsCommitting : (Tag → ℕ → ℕ → Type 0) → Transaction → Commit → Type 0
IsCommitting G t m = (h : Heard G t.tag t.k t.parts t.wrote)
    × ((m.tag ≡ t.tag) × ((m.boot ≡ h.boot) × (IsPast t.phase × IsSettled t.phase)))

abbrev pub IsAskingFor : (Tag → ℕ → ℕ → Type 0) → Transaction → ℕ → Statement → Type 0
IsAskingFor G t shard m =
    StatementFollows G m × ((m.tag ≡ t.tag) × ((IsPast t.phase → ⊥) × (shard ≡ 0)))

module _ (G : Tag → ℕ → ℕ → Type 0) where
  one_waits : (t : Transaction) (x : Next G t.tag t.k t.parts t.wrote t.waiting) (shard : ℕ)
      (m : Msg) → Contains t.waiting (shard, m) → (m ≡ msg.Statement x.m) × (shard ≡ 0)
  one_waits t x shard m c =
      let e = only_one (0, msg.Statement x.m) (shard, m)
      (subst (λ (l : List Post). Contains l (shard, m)) x.waits c) in
      (ap (λ (post : Post). post.1) e, ap (λ (post : Post). post.0) e)

  none_waits : {X : Type 0} (t : Transaction) (post : Post) → t.waiting ≡ []
      → Contains t.waiting post → X
  none_waits t post e c =
      let no = subst (λ (l : List Post). Contains l post) e c in absurd (omega (arith, no.1))

  all_commit : (t : Transaction) (h : Commits G t) (shard : ℕ) (m : Msg)
      → Contains t.waiting (shard, m) → MsgCommits t.tag h.0.boot m
  all_commit t h shard m c =
      All-contains (λ (post : Post). MsgCommits t.tag h.0.boot post.1) t.waiting (shard, m) h.1 c

  pub commit_case : (t : Transaction) (p : Phase) → t.phase ≡ p → Follows G t p → (shard : ℕ)
      (m : Commit) → Contains t.waiting (shard, msg.Commit m) → IsCommitting G t m
  commit_case t Idle is h shard m c = none_waits t (shard, msg.Commit m) h.1 c
  commit_case t (Asking asker op answers) is (inl none) shard m c =
      none_waits t (shard, msg.Commit m) none c
  commit_case t (Asking asker op answers) is (inr h) shard m c =
      let no : msg.Commit m ≡ msg.Statement h.1.m =
      (one_waits t h.1 shard (msg.Commit m) c).0 in
      absurd (grind (arith, no))
  commit_case t (Checking asker) is h shard m c =
      let k = all_commit t h shard (msg.Commit m) c in
      (h.0, (k.0, (k.1, (subst IsPast (sym is) tt, subst IsSettled (sym is) tt))))
  commit_case t (Deciding asker) is h shard m c =
      let k = all_commit t h shard (msg.Commit m) c in
      (h.0, (k.0, (k.1, (subst IsPast (sym is) tt, subst IsSettled (sym is) tt))))
  commit_case t Committed is h shard m c =
      let k = all_commit t h shard (msg.Commit m) c in
      (h.0, (k.0, (k.1, (subst IsPast (sym is) tt, subst IsSettled (sym is) tt))))
  commit_case t Released is h shard m c =
      let k = all_commit t h shard (msg.Commit m) c in
      (h.0, (k.0, (k.1, (subst IsPast (sym is) tt, subst IsSettled (sym is) tt))))
  commit_case t (Aborted sent) is h shard m c = none_waits t (shard, msg.Commit m) h c

  pub statement_case : (t : Transaction) (p : Phase) → t.phase ≡ p → Follows G t p → (shard : ℕ)
      (m : Statement) → Contains t.waiting (shard, msg.Statement m) → IsAskingFor G t shard m
  statement_case t Idle is h shard m c = none_waits t (shard, msg.Statement m) h.1 c
  statement_case t (Asking asker op answers) is (inl none) shard m c =
      none_waits t (shard, msg.Statement m) none c
  statement_case t (Asking asker op answers) is (inr h) shard m c =
      let w = one_waits t h.1 shard (msg.Statement m) c in
      let e : msg.Statement m ≡ msg.Statement h.1.m = w.0 in
      let same : m ≡ h.1.m = grind (arith, e) in (
        subst (StatementFollows G) (sym same) h.1.follows,
        (ap (λ (x : Statement). x.tag) same ∙ h.1.tag_is, (λ p. subst IsPast is p, w.1)),
      )
  statement_case t (Checking asker) is h shard m c =
      absurd (all_commit t h shard (msg.Statement m) c)
  statement_case t (Deciding asker) is h shard m c =
      absurd (all_commit t h shard (msg.Statement m) c)
  statement_case t Committed is h shard m c = absurd (all_commit t h shard (msg.Statement m) c)
  statement_case t Released is h shard m c = absurd (all_commit t h shard (msg.Statement m) c)
  statement_case t (Aborted sent) is h shard m c = none_waits t (shard, msg.Statement m) h c

-- The Answer that comes was given for the statement that is asked.

module _ (sent more : List Envelope) (begun us : List Unanswered) (told : List Answered) (n : ℕ)
    (x : Envelope) (a : Answer) (t : Transaction) (asker : Asker) (op : Op)
    (k : sn.Asked n begun us told t asker op []) (so : takes a t ≡ true)
    (here : Contains sent x) (is : x.msg ≡ msg.Answer a) (done : OpReply × Bool)
    (ok : a.outcome ≡ Ok done) (long : length t.waiting ≡ 1) where
  abbrev behind : Unanswered
  behind = with_answer n a k.statement

  is_behind : behind ≡ record k.statement { answers = put nat_cmp a.shard a k.statement.answers }
  is_behind = with_yes n a k.statement (for_asked n a begun us told t asker op [] k ∙ so)

  answers_are : behind.answers ≡ (a.shard, a) ∷ []
  answers_are = ap (λ (u : Unanswered). u.answers) is_behind
      ∙ ap (put nat_cmp a.shard a) k.answers_are

  says : meaning_in (a.shard, a) ≡ Some (Ok (done.0, []))
  says = rw ok refl

  completes : is_complete behind ≡ true
  completes =
      let shards : behind.shards ≡ k.statement.shards = ap (λ (u : Unanswered). u.shards)
      is_behind in
      let count : length k.statement.shards ≡ 1 = omega (arith, k.count, long) in
      ap₂ (λ (rows : List (ℕ × Answer)) (ns : List ℕ). nat_eq (length rows) (length ns))
      answers_are shards ∙ ap (λ (m : ℕ). nat_eq 1 m) count

  say : all_say behind ≡ true
  say =
      let one : list_all (λ (answer : ℕ × Answer). is_some (meaning_in answer))
      ((a.shard, a) ∷ []) ≡ true = rw says refl in
      ap (λ (rows : List (ℕ × Answer)).
      list_all (λ (answer : ℕ × Answer). is_some (meaning_in answer)) rows) answers_are ∙ one

  meanings : filter_map meaning_in behind.answers ≡ Ok (done.0, []) ∷ []
  meanings =
      let one : filter_map meaning_in ((a.shard, a) ∷ []) ≡ Ok (done.0, []) ∷ [] = rw says refl in
      ap (filter_map meaning_in) answers_are ∙ one

  tag_and_k : (t.tag ≡ a.tag) × (a.k ≡ t.k)
  tag_and_k =
      let b = both_true (same_tag t.tag a.tag && nat_eq a.k t.k) (is_waited a.shard t.waiting) so in
      let c = both_true (same_tag t.tag a.tag) (nat_eq a.k t.k) b.0 in
      (tag_is t.tag a.tag c.0, nat_is a.k t.k c.1)

  tag_behind : (answered_of behind).tag ≡ t.tag
  tag_behind = ap (λ (u : Unanswered). u.tag) is_behind ∙ k.tag

  k_behind : (answered_of behind).k ≡ t.k
  k_behind = ap (λ (u : Unanswered). u.k) is_behind ∙ k.k

  given_one : IsOfOne (sent ++ more) (answered_of behind)
  given_one = record {
    envelope = x;
    answer = a;
    meaning = Ok (done.0, []);
    was_sent = Contains-append_left sent more x here;
    msg = is;
    tag = sym tag_and_k.0 ∙ sym tag_behind;
    k = tag_and_k.1 ∙ sym k_behind;
    read_at = sym (ap read_at_of answers_are);
    says = says;
    outcome = ap (outcome document_rules behind.op) meanings;
  }

  pub gives : (others : List Unanswered)
      → Gave (sent ++ more) (told ++ answered_among (map (with_answer n a) us ++ others)) t.tag t.k
      a.boot
  unfolding given_one
  gives others =
      let taken = map (with_answer n a) us ++ others in
      let both : (is_complete behind && all_say behind) ≡ true =
      ap₂ (λ (p q : Bool). p && q) completes say in
      let among : Contains (answered_among taken) (answered_of behind) =
      has_map answered_of (filter (λ (u : Unanswered). is_complete u && all_say u) taken) behind
      (has_filter (λ (u : Unanswered). is_complete u && all_say u) taken behind both
      (Contains-append_left (map (with_answer n a) us) others behind
      (has_map (with_answer n a) us k.statement k.there))) in
      record {
        answer = answered_of behind;
        among = Contains-append_right told (answered_among taken) (answered_of behind) among;
        tag_is = tag_behind;
        k_is = k_behind;
        one = given_one;
        replied = subst IsOk (sym ok) refl;
        boot_is = refl;
      }
