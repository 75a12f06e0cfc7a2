-- A list of documents as a section is read as the list at the end of the body.
use Rattle.std.proofs.Common.{◌≡◌, ℕ, Bool, true, false, cond, List, [], ◌∷◌, ◌++◌, map, Option}
use Rattle.std.proofs.Common.{Some, None, is_some, Result, Ok, refl, sym, ap, subst, ◌∙◌}
use Rattle.std.specs.Str.{bytes_eq}
use Rattle.std.proofs.lemmas.List.{append-nil}
use Rattle.std.proofs.lemmas.Slice.Eq.{bytes_eq-Decides}
use Rattle.outcomes.specs.Bind.{◌>>=◌}
use Rattle.bson_core.specs.declared.value.Value.{Value}
use Rattle.bson_core.specs.declared.value.Value.TheOpen as of
use Rattle.bson_core.specs.declared.value.Value.TheOpen.{Value-F}
use Rattle.bson_core.specs.declared.value.Value.TheViews as values
use Rattle.bson_core.specs.declared.value.Value.TheViews.{out-Value, roll-Value, out-roll-Value}
use Rattle.bson_core.specs.Fields.{Document, value_of}
use Rattle.op_msg.specs.declared.frame.Frame.{Frame}
use Rattle.crud_parse.specs.declared.error.CrudErr.{CrudErr}
use Rattle.crud_parse.specs.Results.{each, with_front}
use Rattle.crud_parse.specs.Operators.{beside}
use Rattle.command_parse.specs.declared.command.Command.{Command}
use Rattle.command_parse.specs.declared.command.Command.TheVariants as command
use Rattle.command_parse.specs.declared.command.Statement.TheVariants as statement
use Rattle.command_parse.specs.declared.rules.Batch.{Batch}
use Rattle.command_parse.specs.declared.rules.Batch.TheVariants.{Documents, Changes}
use Rattle.command_parse.specs.declared.rules.Change.TheVariants.{Update, Delete}
use Rattle.command_parse.specs.Commands.{list_name}
use Rattle.command_parse.specs.Values.{document_in}
use Rattle.command_parse.specs.Checks.{check_each, or_wrong, or_missing, firsts}
use Rattle.command_parse.specs.Items.{Given, InBody, InSection, documents_in, of_batch_size}
use Rattle.command_parse.specs.Items.{batch_in, item_check}
use Rattle.command_parse.specs.Operations.{Field, in_body, in_section, field_check, given_by}
use Rattle.client_cmd.specs.Commands.{request_of}
use Rattle.command_laws.specs.Fields.{with_body, with_sections, list_of}
use Rattle.command_laws.proofs.Firsts.{named, exchanged}
use Rattle.command_laws.proofs.Alike.{is_list, Alike, request_alike}
use Rattle.command_laws.proofs.Behind.{other_value}

-- The documents of a value.

a_list : (xs : List Value) → out-Value (values.List xs) ≡ of.List xs
unfolding values.roll-Value denote.Hole.Carrier.roll
a_list xs = out-roll-Value (of.List xs)

a_document : (doc : Document) → out-Value (values.Doc doc) ≡ of.Doc doc
unfolding values.roll-Value denote.Hole.Carrier.roll
a_document doc = out-roll-Value (of.Doc doc)

each_document : (name : List ℕ) (docs : List Document) → each (λ value.
    or_wrong name (document_in (out-Value value))) (map (λ doc. values.Doc doc) docs) ≡ Ok docs
each_document name [] = refl
each_document name (doc ∷ docs) =
    ap (λ (x : Value-F Value). or_wrong name (document_in x)
    >>= λ y. with_front (y ∷ []) (each (λ value. or_wrong name (document_in (out-Value value)))
    (map (λ doc. values.Doc doc) docs))) (a_document doc)
    ∙ ap (with_front (doc ∷ [])) (each_document name docs)

all_documents : (name : List ℕ) (docs : List Document)
    → documents_in name (out-Value (list_of docs)) ≡ Ok docs
all_documents name docs = ap (documents_in name) (a_list (map (λ doc. values.Doc doc) docs))
    ∙ each_document name docs

batch_same : (b : Batch) (docs : List Document)
    → batch_in b (InBody (list_of docs)) ≡ batch_in b (InSection docs)
batch_same b docs = ap (λ (r : Result (List Document) CrudErr). r
    >>= of_batch_size (list_name b)) (all_documents (list_name b) docs)

-- How each command looks at a list.

items_same : (b : Batch) (docs : List Document) → (batch_in b (InBody (list_of docs))
    >>= check_each (item_check b)) ≡ (batch_in b (InSection docs) >>= check_each (item_check b))
items_same b docs =
    ap (λ (r : Result (List Document) CrudErr). r >>= check_each (item_check b)) (batch_same b docs)

field_same : (c : Command) (b : Batch) (docs : List Document) → field_check c
    (list_name b, InBody (list_of docs)) ≡ field_check c (list_name b, InSection docs)
field_same (command.Statement statement.Insert) Documents docs = items_same Documents docs
field_same (command.Statement statement.Update) (Changes Update) docs =
    items_same (Changes Update) docs
field_same (command.Statement statement.Delete) (Changes Delete) docs =
    items_same (Changes Delete) docs
field_same (command.Statement statement.Insert) (Changes Update) docs = refl
field_same (command.Statement statement.Insert) (Changes Delete) docs = refl
field_same (command.Statement statement.Update) Documents docs = refl
field_same (command.Statement statement.Update) (Changes Delete) docs = refl
field_same (command.Statement statement.Delete) Documents docs = refl
field_same (command.Statement statement.Delete) (Changes Update) docs = refl
field_same (command.Statement statement.Find) Documents docs = refl
field_same (command.Statement statement.Find) (Changes Update) docs = refl
field_same (command.Statement statement.Find) (Changes Delete) docs = refl
field_same command.Ping Documents docs = refl
field_same command.Ping (Changes Update) docs = refl
field_same command.Ping (Changes Delete) docs = refl
field_same (command.Hello old_name) Documents docs = refl
field_same (command.Hello old_name) (Changes Update) docs = refl
field_same (command.Hello old_name) (Changes Delete) docs = refl
field_same command.Commit Documents docs = refl
field_same command.Commit (Changes Update) docs = refl
field_same command.Commit (Changes Delete) docs = refl
field_same command.Abort Documents docs = refl
field_same command.Abort (Changes Update) docs = refl
field_same command.Abort (Changes Delete) docs = refl
field_same command.EndSessions Documents docs = refl
field_same command.EndSessions (Changes Update) docs = refl
field_same command.EndSessions (Changes Delete) docs = refl

-- The two messages.

list_is_listed : (b : Batch) → is_list (list_name b) ≡ true
list_is_listed Documents = refl
list_is_listed (Changes Update) = refl
list_is_listed (Changes Delete) = refl

not_the_list : (b : Batch) (name : List ℕ) (same : Bool) → bytes_eq (list_name b) name ≡ same
    → is_list name ≡ false → same ≡ false
not_the_list b name true is unlisted = let listed : is_list name ≡ true = subst (λ (n : List ℕ).
    is_list n ≡ true) (named (list_name b) name is) (list_is_listed b) in absurd cc
not_the_list b name false is unlisted = refl

-- after the body
last_value : (name : List ℕ) (field : List ℕ × Value) (body : Document)
    → bytes_eq field.0 name ≡ false → value_of name (body ++ field ∷ []) ≡ value_of name body
last_value name field body other = other_value name field [] body other
    ∙ ap (value_of name) (append-nil body)

found_last : (name : List ℕ) (field : List ℕ × Value) (body : Document) (o : Option Value)
    → bytes_eq field.0 name ≡ true → value_of name body ≡ o
    → value_of name (body ++ field ∷ []) ≡ cond (is_some o) o (Some field.1)
found_last name field [] None same is = rw same refl
found_last name field [] (Some v) same is = absurd cc
found_last name field (x ∷ body) o same is =
    by (bytes_eq x.0 name) o is (found_last name field body)
  where
    by : (b : Bool) (p : Option Value) → cond b (Some x.1) (value_of name body) ≡ p
        → ((q : Option Value) → bytes_eq field.0 name ≡ true → value_of name body ≡ q
        → value_of name (body ++ field ∷ []) ≡ cond (is_some q) q (Some field.1))
        → cond b (Some x.1) (value_of name (body ++ field ∷ [])) ≡ cond (is_some p) p (Some field.1)
    by true None h later = absurd cc
    by true (Some v) h later = h
    by false p h later = later p same h

flipped : (a b : List ℕ) → bytes_eq a b ≡ true → bytes_eq b a ≡ true
flipped a b is = (bytes_eq-Decides b a).1 (sym (named a b is))

not_flipped : (a b : List ℕ) (c : Bool) → bytes_eq b a ≡ c → bytes_eq a b ≡ false → c ≡ false
not_flipped a b true is differs = let bad = flipped b a is in absurd cc
not_flipped a b false is differs = refl

module _ (frame : Frame) (body : Document) (b : Batch) (docs : List Document) where
  abbrev in_the_body : Frame
  in_the_body = with_body frame (body ++ (list_name b, list_of docs) ∷ [])

  abbrev as_section : Frame
  as_section = with_sections (with_body frame body) ((list_name b, docs) ∷ frame.seqs)

  abbrev given_body : List ℕ → Option Given
  given_body name =
      given_by (value_of name (body ++ (list_name b, list_of docs) ∷ [])) (beside name frame.seqs)

  abbrev given_section : List ℕ → Option Given
  given_section name =
      given_by (value_of name body) (beside name ((list_name b, docs) ∷ frame.seqs))

  -- under another name the two have the same
  given_other : (name : List ℕ) → bytes_eq (list_name b) name ≡ false
      → given_body name ≡ given_section name
  given_other name other =
      let back : bytes_eq name (list_name b) ≡ false =
      not_flipped (list_name b) name (bytes_eq name (list_name b)) refl other in
      ap (λ (o : Option Value). given_by o (beside name frame.seqs))
      (last_value name (list_name b, list_of docs) body other)
      ∙ sym (ap (λ (c : Bool). given_by (value_of name body)
      (cond c (Some docs) (beside name frame.seqs))) back)

  -- under its name what the body had before, or else the list
  abbrev listed : Option Value → Option Given → Option Given → Type 0
  listed (Some v) x y = (x ≡ Some (InBody v)) × (y ≡ Some (InBody v))
  listed None x y = (x ≡ Some (InBody (list_of docs))) × (y ≡ Some (InSection docs))

  given_case : (name : List ℕ) (o : Option Value) → bytes_eq (list_name b) name ≡ true
      → value_of name body ≡ o → listed o (given_body name) (given_section name)
  given_case name (Some v) same is = (
    ap (λ (p : Option Value). given_by p (beside name frame.seqs))
        (found_last name (list_name b, list_of docs) body (Some v) same is),
    ap (λ (p : Option Value). given_by p (beside name ((list_name b, docs) ∷ frame.seqs))) is,
  )
  given_case name None same is = (
    ap (λ (p : Option Value). given_by p (beside name frame.seqs))
        (found_last name (list_name b, list_of docs) body None same is),
    ap (λ (p : Option Value). given_by p (beside name ((list_name b, docs) ∷ frame.seqs))) is
        ∙ ap (λ (c : Bool). given_by None (cond c (Some docs) (beside name frame.seqs)))
        (flipped (list_name b) name same),
  )

  there_listed : (o : Option Value) (x y : Option Given) → listed o x y → is_some x ≡ is_some y
  there_listed (Some v) x y h = ap (λ (g : Option Given). is_some g) h.0
      ∙ sym (ap (λ (g : Option Given). is_some g) h.1)
  there_listed None x y h = ap (λ (g : Option Given). is_some g) h.0
      ∙ sym (ap (λ (g : Option Given). is_some g) h.1)

  there_case : (name : List ℕ) (same : Bool) → bytes_eq (list_name b) name ≡ same
      → is_some (given_body name) ≡ is_some (given_section name)
  there_case name true is = there_listed (value_of name body) (given_body name) (given_section name)
      (given_case name (value_of name body) is refl)
  there_case name false is = ap (λ (g : Option Given). is_some g) (given_other name is)

  abbrev read_as : Batch → Option Given → Result (List Document) CrudErr
  read_as other g = or_missing (list_name other) g >>= batch_in other

  read_listed : (other : Batch) (o : Option Value) (x y : Option Given) → listed o x y
      → read_as other x ≡ read_as other y
  read_listed other (Some v) x y h = ap (read_as other) h.0 ∙ sym (ap (read_as other) h.1)
  read_listed other None x y h = ap (read_as other) h.0 ∙ batch_same other docs
      ∙ sym (ap (read_as other) h.1)

  read_case : (other : Batch) (same : Bool) → bytes_eq (list_name b) (list_name other) ≡ same
      → read_as other (given_body (list_name other))
      ≡ read_as other (given_section (list_name other))
  read_case other true is = read_listed other (value_of (list_name other) body)
      (given_body (list_name other)) (given_section (list_name other)) (given_case (list_name other)
      (value_of (list_name other) body) is refl)
  read_case other false is = ap (read_as other) (given_other (list_name other) is)

  last_field : (front : Document)
      → map in_body (front ++ (list_name b, list_of docs) ∷ []) ++ map in_section frame.seqs
      ≡ map in_body front ++ (list_name b, InBody (list_of docs)) ∷ map in_section frame.seqs
  last_field [] = refl
  last_field (x ∷ front) = ap (λ (l : List Field). in_body x ∷ l) (last_field front)

  section_alike : (c : Command) → Alike c in_the_body as_section
  section_alike c = record {
    legacy = refl;
    more = refl;
    values = λ name looked unlisted. last_value name (list_name b, list_of docs) body
        (not_the_list b name (bytes_eq (list_name b) name) refl unlisted);
    there = λ name looked. there_case name (bytes_eq (list_name b) name) refl;
    lists = λ other looked. read_case other (bytes_eq (list_name b) (list_name other)) refl;
    fields = ap (λ (l : List Field). check_each (field_check c) (firsts l)) (last_field body)
        ∙ exchanged (field_check c) (list_name b) (InBody (list_of docs)) (InSection docs)
        (map in_section frame.seqs) (map in_body body) [] (field_same c b docs);
  }

pub section_as_list : (wall : ℕ) (frame : Frame) (first : List ℕ × Value) (more : Document)
    (b : Batch) (docs : List Document)
    → request_of wall (with_body frame ((first ∷ more) ++ (list_name b, list_of docs) ∷ []))
    ≡ request_of wall (with_sections (with_body frame (first ∷ more))
    ((list_name b, docs) ∷ frame.seqs))
section_as_list wall frame first more b docs =
    request_alike wall (in_the_body frame (first ∷ more) b docs) (as_section frame (first ∷ more) b
    docs) refl refl (λ c named. section_alike frame (first ∷ more) b docs c)
