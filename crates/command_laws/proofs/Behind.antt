-- A field or a section after another of its name changes nothing.
use Rattle.std.proofs.Common.{◌≡◌, ◌⊎◌, inl, inr, ℕ, Bool, true, false, cond, List, [], ◌∷◌, ◌++◌}
use Rattle.std.proofs.Common.{map, Option, Some, None, is_some, refl, sym, ap, subst, ◌∙◌}
use Rattle.std.proofs.Common.{append_assoc}
use Rattle.std.specs.Prelude.{◌||◌}
use Rattle.std.specs.Str.{bytes_eq}
use Rattle.outcomes.specs.Bind.{◌>>=◌}
use Rattle.bson_core.specs.declared.value.Value.{Value}
use Rattle.bson_core.specs.Fields.{Document, value_of}
use Rattle.op_msg.specs.Message.{Sequence}
use Rattle.op_msg.specs.declared.frame.Frame.{Frame}
use Rattle.crud_parse.specs.Results as parsing
use Rattle.crud_parse.specs.Operators.{beside}
use Rattle.command_parse.specs.declared.command.Command.{Command}
use Rattle.command_parse.specs.Commands.{list_name}
use Rattle.command_parse.specs.Checks.{check_each, or_missing, is_among, firsts}
use Rattle.command_parse.specs.Items.{Given, batch_in}
use Rattle.command_parse.specs.Operations.{Field, in_body, in_section, fields_of, field_check}
use Rattle.command_parse.specs.Operations.{given_by, given_in}
use Rattle.client_cmd.specs.Commands.{first_name, request_of}
use Rattle.command_laws.specs.Fields.{names_of, with_body, with_sections}
use Rattle.command_laws.proofs.Firsts.{named, among_either, passed_over}
use Rattle.command_laws.proofs.Alike.{Alike, request_alike}

-- a value under another name doesn't count
pub other_value : (name : List ℕ) (field : List ℕ × Value) (back front : Document)
    → bytes_eq field.0 name ≡ false
    → value_of name (front ++ field ∷ back) ≡ value_of name (front ++ back)
other_value name field back [] other = rw other refl
other_value name field back (x ∷ front) other = ap (λ (o : Option Value).
    cond (bytes_eq x.0 name) (Some x.1) o) (other_value name field back front other)

later_case : (b c : Bool) (name : List ℕ) (x field : List ℕ
    × Value) (v w : Option Value) (names : List (List ℕ)) → bytes_eq x.0 name ≡ b
    → bytes_eq x.0 field.0 ≡ c → (c || is_among field.0 names) ≡ true
    → (bytes_eq field.0 name ≡ false → v ≡ w) → (is_among field.0 names ≡ true → v ≡ w)
    → cond b (Some x.1) v ≡ cond b (Some x.1) w
later_case true c name x field v w names p q h other later = refl
later_case false true name x field v w names p q h other later =
    other (ap (λ (n : List ℕ). bytes_eq n name) (sym (named x.0 field.0 q)) ∙ p)
later_case false false name x field v w names p q h other later = later h

-- a value after another of its name doesn't count
later_value : (name : List ℕ) (field : List ℕ × Value) (back front : Document)
    → is_among field.0 (names_of front) ≡ true
    → value_of name (front ++ field ∷ back) ≡ value_of name (front ++ back)
later_value name field back [] is = absurd cc
later_value name field back (x ∷ front) is =
    later_case (bytes_eq x.0 name) (bytes_eq x.0 field.0) name x field _ _
    (names_of front) refl refl is (λ other. other_value name field back front other)
    (λ later. later_value name field back front later)

-- Messages.

pub names-map : (body : Document) → names_of (map in_body body) ≡ names_of body
names-map [] = refl
names-map (field ∷ body) = ap (λ (l : List (List ℕ)). field.0 ∷ l) (names-map body)

pub names-map_sections : (seqs : List Sequence) → names_of (map in_section seqs) ≡ names_of seqs
names-map_sections [] = refl
names-map_sections (section ∷ seqs) =
    ap (λ (l : List (List ℕ)). section.0 ∷ l) (names-map_sections seqs)

names-append : (front back : List Field)
    → names_of (front ++ back) ≡ names_of front ++ names_of back
names-append [] back = refl
names-append (field ∷ front) back =
    ap (λ (l : List (List ℕ)). field.0 ∷ l) (names-append front back)

mapped : (front back : Document)
    → map in_body (front ++ back) ≡ map in_body front ++ map in_body back
mapped [] back = refl
mapped (field ∷ front) back = ap (λ (l : List Field). in_body field ∷ l) (mapped front back)

mapped_sections : (front back : List Sequence)
    → map in_section (front ++ back) ≡ map in_section front ++ map in_section back
mapped_sections [] back = refl
mapped_sections (section ∷ front) back =
    ap (λ (l : List Field). in_section section ∷ l) (mapped_sections front back)

-- the fields with one in the midst of the body
pub in_midst : (front back : Document) (field : List ℕ × Value) (sections : List Field)
    → map in_body (front ++ field ∷ back) ++ sections
    ≡ map in_body front ++ (in_body field ∷ (map in_body back ++ sections))
in_midst front back field sections = ap (λ (l : List Field). l ++ sections) (mapped front
    (field ∷ back)) ∙ append_assoc (map in_body front) (in_body field ∷ map in_body back) sections

pub without_it : (front back : Document) (sections : List Field)
    → map in_body (front ++ back) ++ sections ≡ map in_body front ++ (map in_body back ++ sections)
without_it front back sections = ap (λ (l : List Field). l ++ sections) (mapped front back)
    ∙ append_assoc (map in_body front) (map in_body back) sections

-- of each name the two have the same, and of the same fields the first
same_alike : (c : Command) (f g : Frame) → f.legacy ≡ g.legacy → f.more ≡ g.more
    → ((name : List ℕ) → value_of name f.body ≡ value_of name g.body) → ((name : List ℕ)
    → given_in name f ≡ given_in name g) → firsts (fields_of f) ≡ firsts (fields_of g) → Alike c f g
same_alike c f g legacy more values given fields = record {
  legacy = legacy;
  more = more;
  values = λ name looked unlisted. values name;
  there = λ name looked. ap (λ (o : Option Given). is_some o) (given name);
  lists = λ b looked. ap (λ (o : Option Given). ◌>>=◌ (or_missing (list_name b) o) (batch_in b))
      (given (list_name b));
  fields = ap (check_each (field_check c)) fields;
}

later_alike : (c : Command) (frame : Frame) (front back : Document) (field : List ℕ × Value)
    → is_among field.0 (names_of front) ≡ true
    → Alike c (with_body frame (front ++ field ∷ back)) (with_body frame (front ++ back))
later_alike c frame front back field is =
    let values : (name : List ℕ) → value_of name (front ++ field ∷ back)
    ≡ value_of name (front ++ back) = λ name. later_value name field back front is in
    let sections = map in_section frame.seqs in
    let known : is_among field.0 (names_of (map in_body front)) ≡ true =
    subst (λ (l : List (List ℕ)). is_among field.0 l ≡ true) (sym (names-map front)) is in
    let fields = ap firsts (in_midst front back field sections)
    ∙ passed_over (in_body field) (map in_body back ++ sections) (map in_body front) [] known
    ∙ sym (ap firsts (without_it front back sections)) in
    same_alike c (with_body frame (front ++ field ∷ back)) (with_body frame (front ++ back))
    refl refl values (λ name. ap (λ (o : Option Value). given_by o (beside name frame.seqs))
    (values name)) fields

same_first : (front back : Document) (field : List ℕ × Value) → is_among field.0 (names_of front)
    ≡ true → first_name (front ++ field ∷ back) ≡ first_name (front ++ back)
same_first [] back field is = absurd cc
same_first (x ∷ front) back field is = refl

pub later_field : (wall : ℕ) (frame : Frame) (front back : Document) (field : List ℕ × Value)
    → is_among field.0 (names_of front) ≡ true → request_of wall (with_body frame
    (front ++ field ∷ back)) ≡ request_of wall (with_body frame (front ++ back))
later_field wall frame front back field is =
    request_alike wall (with_body frame (front ++ field ∷ back)) (with_body frame (front ++ back))
    (same_first front back field is) refl (λ c named. later_alike c frame front back field is)

-- Sections.

-- a name that stands in the body has a value there
has_value : (name : List ℕ) (body : Document) → is_among name (names_of body) ≡ true
    → (v : Value) × (value_of name body ≡ Some v)
has_value name [] is = absurd cc
has_value name (field ∷ body) is =
    by (bytes_eq field.0 name) (value_of name body) is (λ later. has_value name body later)
  where
    by : (b : Bool) (o : Option Value) → (b || is_among name (names_of body)) ≡ true
        → (is_among name (names_of body) ≡ true → (v : Value) × (o ≡ Some v))
        → (v : Value) × (cond b (Some field.1) o ≡ Some v)
    by true o h later = (field.1, refl)
    by false o h later = later h

other_section : (name : List ℕ) (section : Sequence) (back front : List Sequence)
    → bytes_eq name section.0 ≡ false
    → beside name (front ++ section ∷ back) ≡ beside name (front ++ back)
other_section name section back [] other = rw other refl
other_section name section back (x ∷ front) other = ap (λ (o : Option (List Document)).
    cond (bytes_eq name x.0) (Some x.1) o) (other_section name section back front other)

section_case : (b c : Bool) (name : List ℕ) (x section : Sequence) (v w : Option (List Document))
    (names : List (List ℕ)) → bytes_eq name x.0 ≡ b → bytes_eq x.0 section.0 ≡ c
    → (c || is_among section.0 names) ≡ true
    → (bytes_eq name section.0 ≡ false → v ≡ w) → (is_among section.0 names ≡ true → v ≡ w)
    → cond b (Some x.1) v ≡ cond b (Some x.1) w
section_case true c name x section v w names p q h other later = refl
section_case false true name x section v w names p q h other later =
    other (ap (bytes_eq name) (sym (named x.0 section.0 q)) ∙ p)
section_case false false name x section v w names p q h other later = later h

later_beside : (name : List ℕ) (section : Sequence) (back front : List Sequence)
    → is_among section.0 (names_of front) ≡ true
    → beside name (front ++ section ∷ back) ≡ beside name (front ++ back)
later_beside name section back [] is = absurd cc
later_beside name section back (x ∷ front) is =
    section_case (bytes_eq name x.0) (bytes_eq x.0 section.0) name x section _ _
    (names_of front) refl refl is (λ other. other_section name section back front other)
    (λ later. later_beside name section back front later)

given_case : (name : List ℕ) (section : Sequence) (front back : List Sequence) (o : Option Value)
    → (bytes_eq name section.0 ≡ true
    → ((v : Value) × (o ≡ Some v)) ⊎ (is_among section.0 (names_of front) ≡ true))
    → given_by o (beside name (front ++ section ∷ back)) ≡ given_by o (beside name (front ++ back))
given_case name section front back (Some v) h = refl
given_case name section front back None h = by (bytes_eq name section.0) refl
  where
    by : (b : Bool) → bytes_eq name section.0 ≡ b → given_by None (beside name
        (front ++ section ∷ back)) ≡ given_by None (beside name (front ++ back))
    by true is = elim (h is) [
      | inl there ↦ absurd (let bad = there.1 in cc)
      | inr behind ↦ ap (given_by None) (later_beside name section back front behind)
    ]
    by false is = ap (given_by None) (other_section name section back front is)

given_alike : (name : List ℕ) (body : Document) (front back : List Sequence) (section : Sequence)
    → is_among section.0 (names_of body ++ names_of front) ≡ true
    → given_by (value_of name body) (beside name (front ++ section ∷ back))
    ≡ given_by (value_of name body) (beside name (front ++ back))
given_alike name body front back section is =
    given_case name section front back (value_of name body) (λ same.
    elim (among_either section.0 (names_of body) (names_of front) is) [
      | inl there ↦ inl (has_value name body (subst (λ (n : List ℕ). is_among n (names_of body)
          ≡ true) (sym (named name section.0 same)) there))
      | inr behind ↦ inr behind
    ])

section_alike : (c : Command) (frame : Frame) (front back : List Sequence) (section : Sequence)
    → is_among section.0 (names_of frame.body ++ names_of front) ≡ true
    → Alike c (with_sections frame (front ++ section ∷ back)) (with_sections frame (front ++ back))
section_alike c frame front back section is =
    let body = map in_body frame.body in
    let before = body ++ map in_section front in
    let long : body ++ map in_section (front ++ section ∷ back)
    ≡ before ++ in_section section ∷ map in_section back =
    ap (λ (l : List Field). body ++ l) (mapped_sections front (section ∷ back)) ∙ sym
    (append_assoc body (map in_section front) (in_section section ∷ map in_section back)) in
    let short : body ++ map in_section (front ++ back) ≡ before ++ map in_section back =
    ap (λ (l : List Field). body ++ l) (mapped_sections front back)
    ∙ sym (append_assoc body (map in_section front) (map in_section back)) in
    let names : names_of before ≡ names_of frame.body ++ names_of front = names-append body
    (map in_section front) ∙ (λ i. names-map frame.body i ++ names-map_sections front i) in
    let known : is_among section.0 (names_of before) ≡ true =
    subst (λ (l : List (List ℕ)). is_among section.0 l ≡ true) (sym names) is in
    let fields = ap firsts long ∙ passed_over (in_section section) (map in_section back) before []
    known ∙ sym (ap firsts short) in
    same_alike c (with_sections frame (front ++ section ∷ back))
    (with_sections frame (front ++ back)) refl refl (λ name. refl)
    (λ name. given_alike name frame.body front back section is) fields

pub later_section : (wall : ℕ) (frame : Frame) (front back : List Sequence) (section : Sequence)
    → is_among section.0 (names_of frame.body ++ names_of front) ≡ true
    → request_of wall (with_sections frame (front ++ section ∷ back))
    ≡ request_of wall (with_sections frame (front ++ back))
later_section wall frame front back section is =
    request_alike wall (with_sections frame (front ++ section ∷ back)) (with_sections frame
    (front ++ back)) refl refl (λ c named. section_alike c frame front back section is)
