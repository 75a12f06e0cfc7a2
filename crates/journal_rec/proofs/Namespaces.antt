-- Bytes that are a namespace.
use Rattle.std.proofs.Common.{◌≡◌, ℕ, ◌<◌, ◌&&◌, Bool, true, List, ap, sym, ◌∙◌, eqb, ltb, length}
use Rattle.std.specs.List.{position_or_len, before_first, after_first}
use Rattle.std.specs.Str.{is_utf8}
use Rattle.std.proofs.lemmas.Bool.{lt-ltb}
use Rattle.txn_types.specs.Names.{is_database, is_collection}
use Rattle.journal_rec.specs.Reading.{is_namespace}

-- a text is one where the parts around its first full stop are names
pub named : (text bytes database collection : List ℕ) → text ≡ bytes → is_utf8 bytes ≡ true
    → position_or_len (λ b. eqb b 46) text < length text
    → database ≡ before_first (λ b. eqb b 46) text → collection ≡ after_first (λ b. eqb b 46) text
    → is_namespace bytes ≡ (is_database database && is_collection collection)
named text bytes database collection same utf8 lt d c =
    let at = position_or_len (λ b. eqb b 46) text in
    let first = before_first (λ b. eqb b 46) text in
    let rest = after_first (λ b. eqb b 46) text in
    sym (ap is_namespace same)
    ∙ ap (λ (u : Bool). u && ltb at (length text) && is_database first && is_collection rest)
    (ap is_utf8 same ∙ utf8)
    ∙ ap (λ (l : Bool). l && is_database first && is_collection rest) (lt-ltb at (length text) lt)
    ∙ ap (λ (n : List ℕ). is_database n && is_collection rest) (sym d)
    ∙ ap (λ (n : List ℕ). is_database database && is_collection n) (sym c)
