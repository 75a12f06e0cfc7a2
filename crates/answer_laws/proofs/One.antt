-- A statement that was sent to one shard is what one Answer says.
use Rattle.std.proofs.Common.{◌≡◌, ℕ, true, All, List, [], ◌∷◌, length, Option, Some, None, refl}
use Rattle.std.proofs.Common.{sym, ap, subst, ◌∙◌, arith}
use Rattle.std.specs.Prelude.{filter_map, is_some}
use Rattle.std.proofs.lemmas.List.Elements.{All-head}
use Rattle.txn_types.specs.declared.message.Answer.{Answer}
use Rattle.txn_types.specs.declared.message.Envelope.{Envelope}
use Rattle.txn_semantics.specs.Meaning.{Meaning, document_rules}
use Rattle.txn_semantics.specs.Splits.{outcome}
use Rattle.txn_semantics.specs.declared.commits.Answered.{Answered}
use Rattle.cluster_core.specs.Answering.{Unanswered, answered_of, meaning_in, read_at_of}
use Rattle.answer_laws.specs.Comes.{IsGiven, IsAnswered, IsOfOne}

there_is : {A : Type 0} (o : Option A) → is_some o ≡ true → (x : A) × (o ≡ Some x)
there_is None e = grind arith
there_is (Some x) e = (x, refl)

one_told : (x : ℕ × Answer) (m : Meaning) → meaning_in x ≡ Some m
    → filter_map meaning_in (x ∷ []) ≡ m ∷ []
one_told x m e = rw e refl

of_answers : (sent : List Envelope) (u : Unanswered) (answers : List (ℕ × Answer))
    → u.answers ≡ answers → length answers ≡ 1 → All (IsGiven sent u) answers
    → All (λ answer. is_some (meaning_in answer) ≡ true) answers → IsOfOne sent (answered_of u)
of_answers sent u [] is long given says = grind arith
of_answers sent u (x ∷ y ∷ more) is long given says = grind arith
of_answers sent u ((n, x) ∷ []) is long given says =
    let g = All-head (IsGiven sent u) (n, x) [] given in
    let m = there_is (meaning_in (n, x))
    (All-head (λ (answer : ℕ × Answer). is_some (meaning_in answer) ≡ true) (n, x) [] says) in
    let told : filter_map meaning_in ((n, x) ∷ []) ≡ m.0 ∷ [] = one_told (n, x) m.0 m.1 in
    record {
      envelope = g.envelope;
      answer = x;
      meaning = m.0;
      was_sent = g.sent;
      msg = g.msg;
      tag = g.tag;
      k = g.k;
      read_at = sym (ap read_at_of is);
      says = m.1;
      outcome = ap (λ (answers : List (ℕ × Answer)). outcome document_rules u.op
          (filter_map meaning_in answers)) is ∙ ap (outcome document_rules u.op) told;
    }

pub of_one : (sent : List Envelope) (begun : List Unanswered) (a : Answered) (h : IsAnswered sent
    begun a) → length h.statement.shards ≡ 1 → IsOfOne sent a
of_one sent begun a h one = subst (IsOfOne sent) (sym h.is) (of_answers sent h.statement
    h.statement.answers refl (h.complete ∙ one) h.comes.answers h.says)
