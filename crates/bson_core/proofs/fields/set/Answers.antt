use Rattle.std.proofs.Common.{◌≡◌, ℕ, zero, suc, ◌-◌, ◌<◌, ◌≤◌, Bool, true, false, List, [], ◌∷◌}
use Rattle.std.proofs.Common.{◌++◌, None, length, get_or, slice_set, position, refl, ap, sym, ◌∙◌}
use Rattle.std.proofs.Common.{arith, length-append}
use Rattle.std.specs.Str.{bytes_eq}
use Rattle.std.specs.List.{position_or_len}
use Rattle.std.proofs.Math.Nat.{add-sub_cancel}
use Rattle.std.proofs.Math.Seq.{set-append_seam}
use Rattle.std.proofs.lemmas.Bool.Decides.{nat_tests}
use Rattle.std.proofs.lemmas.List.Sums.{fails_before_first}
use Rattle.std.proofs.lemmas.List.Quantifiers.{position-Some}
use Rattle.bson_core.specs.declared.value.Value.{Value}
use Rattle.bson_core.specs.declared.value.Value.TheVariants.{Null}
use Rattle.bson_core.specs.Fields.{Document, with_value}
use Rattle.bson_core.proofs.fields.set.Goals as goal

-- whether a field has that name
abbrev has_name : List ℕ → List ℕ × Value → Bool
has_name name field = bytes_eq field.0 name

-- The first field of the name takes the value.
value_at_first : (name : List ℕ) (value : Value) (doc : Document) (at : ℕ) (default : List ℕ
    × Value) → at < length doc → has_name name (get_or doc at default) ≡ true
    → ((k : ℕ) → k < at → has_name name (get_or doc k default) ≡ false)
    → slice_set doc at (name, value) ≡ with_value name value doc
value_at_first name value [] at default within named before = absurd (omega arith)
value_at_first name value (field ∷ fields) zero default within named before = rw named refl
value_at_first name value (field ∷ fields) (suc at) default within named before =
    let other : has_name name field ≡ false = before 0 (omega arith) in
    rw other (ap (λ (rest : Document). field ∷ rest) (value_at_first name value fields at default
    (omega arith) named (λ k below. before (suc k) (omega arith))))

-- Where no field has the name, a field goes after them all.
value_behind : (name : List ℕ) (value : Value) (doc : Document) (default : List ℕ × Value)
    → ((k : ℕ) → k < length doc → has_name name (get_or doc k default) ≡ false)
    → doc ++ (name, value) ∷ [] ≡ with_value name value doc
value_behind name value [] default absent = refl
value_behind name value (field ∷ fields) default absent =
    let other : has_name name field ≡ false = absent 0 (omega arith) in
    rw other (ap (λ (rest : Document). field ∷ rest)
    (value_behind name value fields default (λ k below. absent (suc k) (omega arith))))

nowhere : (p : List ℕ × Value → Bool) (doc : Document) → position p doc ≡ None
    → length doc ≤ position_or_len p doc
nowhere p doc none = grind (arith, nat_tests)

set_last : (doc : Document) (old new : List ℕ × Value)
    → slice_set (doc ++ old ∷ []) (length (doc ++ old ∷ []) - 1) new ≡ doc ++ new ∷ []
set_last doc old new = rw (length-append, add-sub_cancel) (set-append_seam doc old [] new)

pub returns-in-Some-clause-ok : goal.returns-in-Some-clause-ok
returns-in-Some-clause-ok c =
    let name : List ℕ = c.args.name.now in
    let doc : Document = c.args.doc.now in
    let first = position-Some (has_name name) doc c.in-Some.at (name, c.args.value)
    (sym c.place_of.ensures.place ∙ c.in-Some.is) in
    rw (c.set.ensures, c.in-Ok.ensures) (value_at_first name c.args.value doc c.in-Some.at
    (name, c.args.value) first.0 first.1 first.2)

pub returns-clause-ok : goal.returns-clause-ok
returns-clause-ok c =
    let name : List ℕ = c.args.name.now in
    let doc : Document = c.args.doc.now in
    let set : c.set-2.new.self ≡ slice_set c.push.new.self (c.len.result - 1)
    (c.in-Ok.field, c.args.value) = c.set-2.ensures in
    let len : c.len.result ≡ length c.push.new.self = c.len.ensures in
    let pushed : c.push.new.self ≡ doc ++ (c.in-Ok-from_str.empty, Null) ∷ [] =
    c.in-Ok-push.ensures.ok in
    let absent : length doc ≤ position_or_len (has_name name) doc =
    nowhere (has_name name) doc (sym c.place_of.ensures.place ∙ c.in_default-place_of.is) in
    rw (set, len, pushed, c.in-Ok.ensures, set_last)
    (value_behind name c.args.value doc (name, c.args.value)
    (λ k below. fails_before_first (has_name name) doc k (name, c.args.value) (omega arith)))
