-- An Answer that a router takes: the statement that is asked takes it too; and where it was the
-- last, the statement is answered.
use Rattle.std.proofs.Common.{◌≡◌, ◌+◌, ◌&&◌, ◌||◌, ℕ, Bool, true, false, not, List, [], ◌∷◌}
use Rattle.std.proofs.Common.{filter_map, find, length, nat_eq, is_some, Option, Some, None}
use Rattle.std.proofs.Common.{option_map, Ok, Err, Result, refl, sym, ap, ap₂, ◌∙◌, arith}
use Rattle.std.specs.List.{list_any, list_all}
use Rattle.std.specs.Option.{option_or}
use Rattle.std.specs.Ordering.{nat_cmp}
use Rattle.std.specs.declared.cmp.Ordering.{Ordering}
use Rattle.std.specs.declared.cmp.Ordering.TheVariants.{Less, Equal, Greater}
use Rattle.txn_types.specs.declared.cause.Cause.{Cause}
use Rattle.txn_types.specs.declared.cause.Cause.TheVariants as cause
use Rattle.txn_types.specs.declared.message.Answer.{Answer}
use Rattle.txn_types.specs.declared.operation.Op.{Op}
use Rattle.txn_types.specs.declared.operation.OpErr.{OpErr}
use Rattle.txn_types.specs.declared.operation.OpReply.{OpReply}
use Rattle.txn_semantics.specs.Keyed.{put}
use Rattle.txn_semantics.specs.Meaning.{document_rules}
use Rattle.txn_semantics.specs.Merge.{merge}
use Rattle.txn_semantics.specs.Splits as sp
use Rattle.router_state.specs.State.{Post, is_waited, without}
use Rattle.router_rules.specs.Statements as st
use Rattle.router_rules.proofs.Writing.{exact}
use Rattle.cluster_core.specs.Answering.{meaning_in}
use Rattle.answer_laws.proofs.Lists.{nat_is}
use Rattle.told_laws.proofs.Lists.{same_nat}
use Rattle.told_laws.proofs.Standing.{OnceIn, has_answer}

-- What is waited for, after an answer.

and_false : (b : Bool) → (b && false) ≡ false
and_false true = refl
and_false false = refl

neither : (a b : Bool) → (a || b) ≡ false → (a ≡ false) × (b ≡ false)
neither true b e = grind arith
neither false b e = (refl, e)

drop_same : (b w : Bool) → (not b && w) ≡ (not b && (b || w))
drop_same true w = refl
drop_same false w = refl

keep_other : (b p r w : Bool) → (b ≡ true → p ≡ false) → r ≡ (not b && w)
    → (p || r) ≡ (not b && (p || w))
keep_other true p r w h e = ap₂ (λ (x y : Bool). x || y) (h refl) e
keep_other false p r w h e = ap (λ (y : Bool). p || y) e

waited_by : (x shard : ℕ) (post : Post) (posts : List Post) (test : Bool) → nat_eq post.0 x ≡ test
    → is_waited shard (without x posts) ≡ (not (nat_eq x shard) && is_waited shard posts)
    → is_waited shard (without x (post ∷ posts)) ≡
    (not (nat_eq x shard) && is_waited shard (post ∷ posts))
waited_by x shard post posts true is more =
    let same : nat_eq post.0 shard ≡ nat_eq x shard = ap (λ (k : ℕ). nat_eq k shard)
    (nat_is post.0 x is) in
    rw is (more ∙ drop_same (nat_eq x shard) (is_waited shard posts) ∙ ap
    (λ (c : Bool). not (nat_eq x shard) && (c || is_waited shard posts)) (sym same))
waited_by x shard post posts false is more =
    rw is (keep_other (nat_eq x shard) (nat_eq post.0 shard) (is_waited shard (without x posts))
    (is_waited shard posts)
    (λ e. ap (nat_eq post.0) (sym (nat_is x shard e)) ∙ is) more)

waited_without : (x shard : ℕ) (posts : List Post)
    → is_waited shard (without x posts) ≡ (not (nat_eq x shard) && is_waited shard posts)
waited_without x shard [] = sym (and_false (not (nat_eq x shard)))
waited_without x shard (post ∷ posts) = waited_by x shard post posts (nat_eq post.0 x) refl
    (waited_without x shard posts)

none_without : (x : ℕ) (posts : List Post) → is_waited x posts ≡ false → without x posts ≡ posts
none_without x [] e = refl
none_without x (post ∷ posts) e =
    let b = neither (nat_eq post.0 x) (is_waited x posts) e in
    rw (b.0) (ap (λ (more : List Post). post ∷ more) (none_without x posts b.1))

length_by : (x : ℕ) (post : Post) (posts : List Post) (test : Bool) → nat_eq post.0 x ≡ test
    → OnceIn (post ∷ posts) → is_waited x (post ∷ posts) ≡ true
    → (is_waited x posts ≡ true → length (without x posts) + 1 ≡ length posts)
    → length (without x (post ∷ posts)) + 1 ≡ length (post ∷ posts)
length_by x post posts true is once waited more =
    let none : is_waited x posts ≡ false = ap (λ (k : ℕ). is_waited k posts)
    (sym (nat_is post.0 x is)) ∙ once.0 in
    let same : length (without x posts) ≡ length posts = ap (λ (l : List Post). length l)
    (none_without x posts none) in
    rw is (omega (arith, same))
length_by x post posts false is once waited more =
    let here : is_waited x posts ≡ true = ap (λ (b : Bool). b || is_waited x posts) (sym is) ∙
    waited in
    let e = more here in
    rw is (omega (arith, e))

length_without : (x : ℕ) (posts : List Post) → OnceIn posts → is_waited x posts ≡ true
    → length (without x posts) + 1 ≡ length posts
length_without x [] once waited = grind arith
length_without x (post ∷ posts) once waited = length_by x post posts (nat_eq post.0 x) refl once
    waited (length_without x posts once.1)

once_by : (x : ℕ) (post : Post) (posts : List Post) (test : Bool) → nat_eq post.0 x ≡ test
    → is_waited post.0 posts ≡ false → OnceIn (without x posts) → OnceIn (without x (post ∷ posts))
once_by x post posts true is none more = rw is more
once_by x post posts false is none more =
    rw is (
      waited_without x post.0 posts ∙ ap (λ (b : Bool). not (nat_eq x post.0) && b) none ∙
          and_false (not (nat_eq x post.0)),
      more,
    )

once_without : (x : ℕ) (posts : List Post) → OnceIn posts → OnceIn (without x posts)
once_without x [] once = tt
once_without x (post ∷ posts) once = once_by x post posts (nat_eq post.0 x) refl once.0
    (once_without x posts once.1)

-- The answers, with one put in.

or_twice : (b h : Bool) → (b || h) ≡ (b || (b || h))
or_twice true h = refl
or_twice false h = refl

or_swap : (a b h : Bool) → (a || (b || h)) ≡ (b || (a || h))
or_swap true true h = refl
or_swap true false h = refl
or_swap false b h = refl

put_by : (x shard : ℕ) (a : Answer) (row : ℕ × Answer) (rows : List (ℕ × Answer)) (o : Ordering)
    → nat_cmp x row.0 ≡ o
    → has_answer shard (put nat_cmp x a rows) ≡ (nat_eq x shard || has_answer shard rows)
    → has_answer shard (put nat_cmp x a (row ∷ rows)) ≡
    (nat_eq x shard || has_answer shard (row ∷ rows))
put_by x shard a row rows Less is more = rw (is, put) refl
put_by x shard a row rows Equal is more =
    let same : nat_eq row.0 shard ≡ nat_eq x shard = ap (λ (k : ℕ). nat_eq k shard)
    (sym (exact x row.0 is)) in
    rw (is, put) (or_twice (nat_eq x shard) (has_answer shard rows) ∙ ap
    (λ (b : Bool). nat_eq x shard || (b || has_answer shard rows)) (sym same))
put_by x shard a row rows Greater is more =
    rw (is, put) (ap (λ (b : Bool). nat_eq row.0 shard || b) more ∙ or_swap (nat_eq row.0 shard)
    (nat_eq x shard) (has_answer shard rows))

has_put : (x shard : ℕ) (a : Answer) (rows : List (ℕ × Answer))
    → has_answer shard (put nat_cmp x a rows) ≡ (nat_eq x shard || has_answer shard rows)
has_put x shard a [] = refl
has_put x shard a (row ∷ rows) = put_by x shard a row rows (nat_cmp x row.0) refl
    (has_put x shard a rows)

long_by : (x : ℕ) (a : Answer) (row : ℕ × Answer) (rows : List (ℕ × Answer)) (o : Ordering)
    → nat_cmp x row.0 ≡ o → nat_eq row.0 x ≡ false
    → length (put nat_cmp x a rows) ≡ length rows + 1
    → length (put nat_cmp x a (row ∷ rows)) ≡ length (row ∷ rows) + 1
long_by x a row rows Less is apart more = rw (is, put) (omega arith)
long_by x a row rows Equal is apart more =
    let yes : nat_eq row.0 x ≡ true = ap (nat_eq row.0) (exact x row.0 is) ∙ same_nat row.0 in
    let no : true ≡ false = sym yes ∙ apart in
    absurd (grind (arith, no))
long_by x a row rows Greater is apart more = rw (is, put) (omega (arith, more))

length_put : (x : ℕ) (a : Answer) (rows : List (ℕ × Answer)) → has_answer x rows ≡ false
    → length (put nat_cmp x a rows) ≡ length rows + 1
length_put x a [] none = refl
length_put x a (row ∷ rows) none =
    let b = neither (nat_eq row.0 x) (has_answer x rows) none in
    long_by x a row rows (nat_cmp x row.0) refl b.0 (length_put x a rows b.1)

behind_case : (b l h : Bool) → (not b && (l && not h)) ≡ (l && not (b || h))
behind_case true l h = sym (and_false l)
behind_case false l h = refl

-- the shards that are waited for, after an answer of one of them
pub waited_behind : (x : ℕ) (a : Answer) (posts : List Post) (shards : List ℕ)
    (answers : List (ℕ × Answer))
    → ((shard : ℕ) → is_waited shard posts ≡ (list_any (nat_eq shard) shards && not
    (has_answer shard answers)))
    → (shard : ℕ) → is_waited shard (without x posts) ≡ (list_any (nat_eq shard) shards && not
    (has_answer shard (put nat_cmp x a answers)))
waited_behind x a posts shards answers h shard =
    waited_without x shard posts ∙ ap (λ (b : Bool). not (nat_eq x shard) && b) (h shard)
    ∙ behind_case (nat_eq x shard) (list_any (nat_eq shard) shards) (has_answer shard answers)
    ∙ ap (λ (b : Bool). list_any (nat_eq shard) shards && not b) (sym (has_put x shard a answers))

not_there : (l h : Bool) → (l && not h) ≡ true → h ≡ false
not_there true true e = grind arith
not_there true false e = refl
not_there false h e = grind arith

pub count_behind : (x : ℕ) (a : Answer) (posts : List Post) (shards : List ℕ)
    (answers : List (ℕ × Answer)) → OnceIn posts → is_waited x posts ≡ true
    → is_waited x posts ≡ (list_any (nat_eq x) shards && not (has_answer x answers))
    → length answers + length posts ≡ length shards
    → length (put nat_cmp x a answers) + length (without x posts) ≡ length shards
count_behind x a posts shards answers once waited is count =
    let none = not_there (list_any (nat_eq x) shards) (has_answer x answers) (sym is ∙ waited) in
    let p = length_put x a answers none in
    let w = length_without x posts once waited in
    omega (arith, p, w, count)

pub once_behind : (x : ℕ) (posts : List Post) → OnceIn posts → OnceIn (without x posts)
once_behind x posts once = once_without x posts once

-- Where no refusal is told, each shard has replied, and what is told is their merged reply.

none_found : (refusals : List (ℕ × Cause)) → option_or (find (λ (r : ℕ × Cause). not (st.is_err r))
    refusals) (option_map (λ (e : ℕ × OpErr). (e.0, cause.Statement e.1))
    (st.least_err (filter_map st.err_in refusals))) ≡ None → refusals ≡ []
none_found [] e = refl
none_found (r ∷ refusals) e = absurd (by (st.err_in r) refl)
  where
    by : (o : Option (ℕ × OpErr)) → st.err_in r ≡ o → ⊥
    by None is =
        let test : not (st.is_err r) ≡ true = ap (λ (x : Option (ℕ × OpErr)). not (is_some x)) is in
        let first : find (λ (r : ℕ × Cause). not (st.is_err r)) (r ∷ refusals) ≡ Some r = rw test
        refl in
        let no : Some r ≡ None = sym (ap (λ (x : Option (ℕ × Cause)). option_or x
        (option_map (λ (e : ℕ × OpErr). (e.0, cause.Statement e.1))
        (st.least_err (filter_map st.err_in (r ∷ refusals))))) first) ∙ e in
        grind (arith, no)
    by (Some f) is =
        let errs : filter_map st.err_in (r ∷ refusals) ≡ f ∷ filter_map st.err_in refusals = rw is
        refl in
        or_some (find (λ (r : ℕ × Cause). not (st.is_err r)) (r ∷ refusals))
        (st.lesser_err f (st.least_err (filter_map st.err_in refusals)))
        (sym (ap (λ (l : List (ℕ × OpErr)). option_or
        (find (λ (r : ℕ × Cause). not (st.is_err r)) (r ∷ refusals))
        (option_map (λ (e : ℕ × OpErr). (e.0, cause.Statement e.1)) (st.least_err l))) errs) ∙
        e)
      where
        or_some : (o : Option (ℕ × Cause)) (e : ℕ × OpErr)
            → option_or o (Some (e.0, cause.Statement e.1)) ≡ None → ⊥
        or_some None e h = grind (arith, h)
        or_some (Some x) e h = grind (arith, h)

pub none_wins : (refusals : List (ℕ × Cause)) → st.winning refusals ≡ None → refusals ≡ []
none_wins refusals e = none_found refusals e

-- what is told of answers that are all replies
pub record AreReplies (op : Op) (answers : List (ℕ × Answer)) : Type 0 where
  pub say : list_all (λ (answer : ℕ × Answer). is_some (meaning_in answer)) answers ≡ true
  pub none : sp.least_err (filter_map meaning_in answers) ≡ None
  pub replies : sp.replies (filter_map meaning_in answers) ≡ filter_map st.reply_in answers

module _ (op : Op) where
  reply_case : (row : ℕ × Answer) (answers : List (ℕ × Answer)) (o : Result (OpReply × Bool) Cause)
      → row.1.outcome ≡ o → filter_map st.cause_in (row ∷ answers) ≡ []
      → (filter_map st.cause_in answers ≡ [] → AreReplies op answers)
      → AreReplies op (row ∷ answers)
  reply_case row answers (Err why) is e more =
      let here : st.cause_in row ≡ Some (row.0, why) = rw is refl in
      let no : (row.0, why) ∷ filter_map st.cause_in answers ≡ [] = sym
      (cause_first row answers why here) ∙ e in
      absurd (grind (arith, no))
    where
      cause_first : (row : ℕ × Answer) (answers : List (ℕ × Answer)) (why : Cause)
          → st.cause_in row ≡ Some (row.0, why)
          → filter_map st.cause_in (row ∷ answers) ≡ (row.0, why) ∷ filter_map st.cause_in answers
      cause_first row answers why h = rw h refl
  reply_case row answers (Ok done) is e more =
      let none : st.cause_in row ≡ None = rw is refl in
      let reply : st.reply_in row ≡ Some done.0 = rw is refl in
      let meaning : meaning_in row ≡ Some (Ok (done.0, [])) = rw is refl in
      let rest = more (sym (cause_rest row answers none) ∙ e) in
      record {
        say = rw meaning rest.say;
        none = rw meaning rest.none;
        replies = rw (meaning, reply) (ap (λ (l : List OpReply). done.0 ∷ l) rest.replies);
      }
    where
      cause_rest : (row : ℕ × Answer) (answers : List (ℕ × Answer)) → st.cause_in row ≡ None
          → filter_map st.cause_in (row ∷ answers) ≡ filter_map st.cause_in answers
      cause_rest row answers h = rw h refl

  pub all_replies : (answers : List (ℕ × Answer)) → filter_map st.cause_in answers ≡ []
      → AreReplies op answers
  all_replies [] e = record { say = refl; none = refl; replies = refl }
  all_replies (row ∷ answers) e = reply_case row answers row.1.outcome refl e (all_replies answers)

pub told_merged : (op : Op) (answers : List (ℕ × Answer)) → AreReplies op answers
    → sp.outcome document_rules op (filter_map meaning_in answers) ≡ Ok
    (merge op (filter_map st.reply_in answers))
told_merged op answers h = rw (h.none, sp.outcome)
    (ap (λ (l : List OpReply). Ok (merge op l)) h.replies)
