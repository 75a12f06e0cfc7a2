-- Bytes are those of one document at most, at any depth, and no document's are a proper front of
-- another's.
use Rattle.std.proofs.Common.{◌≡◌, ℕ, ◌≤◌, max, List, [], ◌++◌, Result, Ok, sym, ap, ◌∙◌, arith}
use Rattle.std.proofs.lemmas.List.{append-nil}
use Rattle.outcomes.proofs.Binding.{ok_is}
use Rattle.bson_core.specs.declared.error.BsonErr.{BsonErr}
use Rattle.bson_core.specs.Fields.{Document}
use Rattle.bson_core.specs.Spelling.{framed}
use Rattle.bson_core.specs.Grammar.{ReadsAt, ReadsElements}
use Rattle.bson_core.specs.Nesting.{nesting}
use Rattle.bson_core.specs.Reading.{value_by, nested_at, document_at}
use Rattle.bson_core.proofs.Again.{document_again, value_again}
use Rattle.bson_core.proofs.Apart.{no_front}
use Rattle.codec_laws.specs.Spells.{Spells, IsRead}
use Rattle.codec_laws.proofs.Levels.{elements_deeper, elements_within, deeper, within, reads_within}
use Rattle.codec_laws.proofs.Spelt.{spelt_read}

-- what a reader with enough levels gives
given : (n : ℕ) (d : Document) (bytes : List ℕ) (h : IsRead d bytes) → h.0 ≤ n
    → document_at (value_by (nested_at n)) 0 bytes ≡ Ok (d, [])
given n d bytes h le =
    let deep = elements_within h.0 (within h.0) d h.1.0 h.1.1 in
    let reads : ReadsElements (ReadsAt n) d h.1.0 =
    elements_deeper h.0 n (deeper h.0 n) d h.1.0 (omega (arith, le, deep)) h.1.1 in
    ap (document_at (value_by (nested_at n)) 0) (h.1.2 ∙ sym (append-nil (framed h.1.0)))
    ∙ document_again n (value_by (nested_at n)) (value_again n) 0 d h.1.0 [] reads h.1.3

pub one_document : (a b : Document) (bytes : List ℕ) → IsRead a bytes → IsRead b bytes → a ≡ b
one_document a b bytes first second =
    let n = max first.0 second.0 in
    let both : ◌≡◌ {A = Result (Document × List ℕ) BsonErr} (Ok (a, [])) (Ok (b, [])) =
    sym (given n a bytes first (omega arith)) ∙ given n b bytes second (omega arith) in
    ap (λ (x : Document × List ℕ). x.0) (ok_is (a, []) (b, []) both)

pub no_spelt_front : (a b : Document) (bytes rest : List ℕ) → Spells a bytes
    → Spells b (bytes ++ rest) → rest ≡ []
no_spelt_front a b bytes rest first second =
    no_front (nesting a) (nesting b) a b bytes rest
    (reads_within (nesting a) a bytes (spelt_read a bytes first) (omega arith)) (reads_within
    (nesting b) b (bytes ++ rest) (spelt_read b (bytes ++ rest) second) (omega arith))
