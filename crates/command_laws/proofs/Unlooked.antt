-- A field that a command takes no notice of changes nothing, wherever it stands.
use Rattle.std.proofs.Common.{◌≡◌, ℕ, Bool, true, false, List, [], ◌∷◌, ◌++◌, map, Option, Some}
use Rattle.std.proofs.Common.{None, is_some, Result, Ok, Err, refl, sym, ap, subst, ◌∙◌}
use Rattle.std.proofs.Common.{if◌then◌else◌}
use Rattle.std.specs.Prelude.{◌&&◌, ◌||◌, not}
use Rattle.std.specs.Option.{option_or}
use Rattle.std.specs.Str.{bytes_eq}
use Rattle.std.proofs.lemmas.Slice.Eq.{bytes_eq-Decides}
use Rattle.outcomes.specs.Bind.{◌>>=◌}
use Rattle.bson_core.specs.declared.value.Value.{Value}
use Rattle.bson_core.specs.Fields.{Document, value_of}
use Rattle.op_msg.specs.Message.{Sequence}
use Rattle.op_msg.specs.declared.frame.Frame.{Frame}
use Rattle.crud_parse.specs.Results as parsing
use Rattle.crud_parse.specs.Operators.{beside}
use Rattle.command_parse.specs.declared.command.Command.{Command}
use Rattle.command_parse.specs.declared.rules.Rule.{Rule}
use Rattle.command_parse.specs.declared.rules.Rule.TheVariants as rule
use Rattle.command_parse.specs.declared.command.Command.TheVariants as command
use Rattle.command_parse.specs.declared.command.Statement.TheVariants as statement
use Rattle.command_parse.specs.Commands.{list_name, common_rule, rule_of, command_named}
use Rattle.command_parse.specs.Checks.{check_each, or_missing, is_among, firsts}
use Rattle.command_parse.specs.Items.{Given, InBody, batch_in}
use Rattle.command_parse.specs.Operations.{Field, in_body, in_section, field_by, field_check}
use Rattle.command_parse.specs.Operations.{given_by}
use Rattle.command_parse.proofs.Lacking.{body_field}
use Rattle.client_cmd.specs.declared.error.CmdErr.{CmdErr}
use Rattle.client_cmd.specs.declared.error.CmdErr.TheVariants.{Unknown}
use Rattle.client_cmd.specs.Commands.{is_served, served, request_of}
use Rattle.command_laws.specs.Fields.{names_of, with_body, is_free, is_token, is_ignored}
use Rattle.command_laws.specs.Fields.{free_names, own_free_names}
use Rattle.command_laws.proofs.Firsts.{named, Passes, ignored}
use Rattle.command_laws.proofs.Alike.{Alike, request_alike}
use Rattle.command_laws.proofs.Behind.{other_value, in_midst, without_it}

-- any value passes there
free_passes : (name : List ℕ) (value : Value) (o : Option Rule) → is_free o ≡ true
    → field_by name (InBody value) o ≡ Ok None
free_passes name value (Some rule.Ignored) h = refl
free_passes name value other h = absurd cc

both_true : (a b : Bool) → (a && b) ≡ true → a ≡ true
both_true true b h = refl
both_true false b h = absurd cc

ignored_passes : (c : Command) (name : List ℕ) (value : Value) → is_ignored c name ≡ true
    → field_check c (name, InBody value) ≡ Ok None
ignored_passes c name value h = body_field c name value ∙ free_passes name value (rule_of c name)
    (both_true (is_free (rule_of c name)) (not (is_token c name)) h)

-- so do the other fields of its name
body_passes : (c : Command) (name : List ℕ) (body : Document) → is_ignored c name ≡ true
    → Passes (field_check c) name (map in_body body)
body_passes c name [] h = tt
body_passes c name (field ∷ body) h = (
  λ is. ignored_passes c field.0 field.1
      (subst (λ (n : List ℕ). is_ignored c n ≡ true) (named name field.0 is) h),
  body_passes c name body h,
)

-- and no section has it
first_false : (a b : Bool) → (a || b) ≡ false → a ≡ false
first_false true b h = absurd cc
first_false false b h = refl

second_false : (a b : Bool) → (a || b) ≡ false → b ≡ false
second_false true b h = absurd cc
second_false false b h = h

no_section : (name other : List ℕ) → bytes_eq other name ≡ false → bytes_eq name other ≡ true → ⊥
no_section name other differs is =
    let same : bytes_eq other name ≡ true =
    (bytes_eq-Decides other name).1 (sym (named name other is)) in
    cc

sections_pass : (c : Command) (name : List ℕ) (seqs : List Sequence)
    → is_among name (names_of seqs) ≡ false → Passes (field_check c) name (map in_section seqs)
sections_pass c name [] none = tt
sections_pass c name (section ∷ seqs) none = (
  λ is. absurd (no_section name section.0
      (first_false (bytes_eq section.0 name) (is_among name (names_of seqs)) none) is),
  sections_pass c name seqs
      (second_false (bytes_eq section.0 name) (is_among name (names_of seqs)) none),
)

passes-append : (c : Command) (name : List ℕ) (xs ys : List Field) → Passes (field_check c) name xs
    → Passes (field_check c) name ys → Passes (field_check c) name (xs ++ ys)
passes-append c name [] ys h k = k
passes-append c name (x ∷ xs) ys h k = (h.0, passes-append c name xs ys h.1 k)

other_name : (c : Command) (name looked : List ℕ) (b : Bool) → bytes_eq name looked ≡ b
    → is_ignored c name ≡ true → is_ignored c looked ≡ false → b ≡ false
other_name c name looked true is free not_free = let same : is_ignored c looked ≡ true =
    subst (λ (n : List ℕ). is_ignored c n ≡ true) (named name looked is) free in absurd cc
other_name c name looked false is free not_free = refl

ignored_alike : (c : Command) (frame : Frame) (front back : Document) (field : List ℕ × Value)
    → is_ignored c field.0 ≡ true → is_among field.0 (names_of frame.seqs) ≡ false
    → Alike c (with_body frame (front ++ field ∷ back)) (with_body frame (front ++ back))
ignored_alike c frame front back field free none =
    let sections = map in_section frame.seqs in
    let values : (name : List ℕ) → is_ignored c name ≡ false
    → value_of name (front ++ field ∷ back) ≡ value_of name (front ++ back) =
    λ name looked. other_value name field back front (other_name c field.0 name
    (bytes_eq field.0 name) refl free looked) in
    let given : (name : List ℕ) → is_ignored c name ≡ false
    → given_by (value_of name (front ++ field ∷ back)) (beside name frame.seqs)
    ≡ given_by (value_of name (front ++ back)) (beside name frame.seqs) =
    λ name looked. ap (λ (o : Option Value). given_by o (beside name frame.seqs))
    (values name looked) in
    let pass = passes-append c field.0 (map in_body back) sections (body_passes c field.0 back free)
    (sections_pass c field.0 frame.seqs none) in
    record {
      legacy = refl;
      more = refl;
      values = λ name looked unlisted. values name looked;
      there = λ name looked. ap (λ (o : Option Given). is_some o) (given name looked);
      lists = λ b looked. ap (λ (o : Option Given). ◌>>=◌ (or_missing (list_name b) o) (batch_in b))
          (given (list_name b) looked);
      fields = ap (λ (l : List Field). check_each (field_check c) (firsts l)) (in_midst front back
          field sections)
          ∙ ignored (field_check c) (in_body field) (map in_body back ++ sections)
          (map in_body front) [] (ignored_passes c field.0 field.1 free) pass
          ∙ sym (ap (λ (l : List Field). check_each (field_check c) (firsts l))
          (without_it front back sections));
    }

-- the command of that name is the one that is asked
served_case : (name : List ℕ) (c asked : Command) (b : Bool) → ◌≡◌ {A = Result Command CmdErr} (if b
    then Ok c else Err (Unknown name)) (Ok asked) → c ≡ asked
served_case name c asked true h = cc
served_case name c asked false h = absurd cc

asked_is : (name : List ℕ) (legacy : Bool) (c asked : Command) (o : Option Command) → o ≡ Some c
    → served name legacy o ≡ Ok asked → c ≡ asked
asked_is name legacy c asked None is h = absurd cc
asked_is name legacy c asked (Some other) is h = let same : other ≡ c = cc in
    sym same ∙ served_case name other asked (is_served legacy other) h

pub ignored_field : (wall : ℕ) (frame : Frame) (c : Command) (first : List ℕ
    × Value) (front back : Document) (field : List ℕ × Value) → command_named first.0 ≡ Some c
    → is_ignored c field.0 ≡ true → is_among field.0 (names_of frame.seqs) ≡ false
    → request_of wall (with_body frame (first ∷ front ++ field ∷ back))
    ≡ request_of wall (with_body frame (first ∷ front ++ back))
ignored_field wall frame c first front back field is free none =
    request_alike wall (with_body frame (first ∷ front ++ field ∷ back))
    (with_body frame (first ∷ front ++ back)) refl refl (λ asked h.
    subst (λ (d : Command). Alike d (with_body frame (first ∷ front ++ field ∷ back))
    (with_body frame (first ∷ front ++ back)))
    (asked_is first.0 frame.legacy c asked (command_named first.0) is h)
    (ignored_alike c frame (first ∷ front) back field free none))

-- The names that are passed over.

abbrev AllIgnored : Command → List (List ℕ) → Type 0
AllIgnored c [] = Unit {0}
AllIgnored c (name ∷ names) = (is_ignored c name ≡ true) × AllIgnored c names

name_case : (c : Command) (name other : List ℕ) (others : List (List ℕ)) (b : Bool)
    → bytes_eq other name ≡ b → is_ignored c other ≡ true → (b || is_among name others) ≡ true
    → (is_among name others ≡ true → is_ignored c name ≡ true) → is_ignored c name ≡ true
name_case c name other others true is free h more =
    subst (λ (n : List ℕ). is_ignored c n ≡ true) (named other name is) free
name_case c name other others false is free h more = more h

names_ignored : (c : Command) (name : List ℕ) (names : List (List ℕ)) → AllIgnored c names
    → is_among name names ≡ true → is_ignored c name ≡ true
names_ignored c name [] all there = absurd cc
names_ignored c name (other ∷ others) all there = name_case c name other others (bytes_eq other
    name) refl all.0 there (names_ignored c name others all.1)

all_free : (c : Command) → AllIgnored c (free_names ++ own_free_names c)
all_free command.Ping = (refl, (refl, (refl, (refl, (refl, (refl, (refl, tt)))))))
all_free (command.Hello old_name) = (refl, (refl, (refl, (refl, (refl, (refl, (refl, tt)))))))
all_free (command.Statement statement.Insert) =
    (refl, (refl, (refl, (refl, (refl, (refl, (refl, (refl, tt))))))))
all_free (command.Statement statement.Find) =
    (refl, (refl, (refl, (refl, (refl, (refl, (refl, (refl, (refl, tt)))))))))
all_free (command.Statement statement.Update) =
    (refl, (refl, (refl, (refl, (refl, (refl, (refl, (refl, tt))))))))
all_free (command.Statement statement.Delete) =
    (refl, (refl, (refl, (refl, (refl, (refl, (refl, (refl, tt))))))))
all_free command.Commit = (refl, (refl, (refl, (refl, (refl, (refl, (refl, tt)))))))
all_free command.Abort = (refl, (refl, (refl, (refl, (refl, (refl, (refl, tt)))))))
all_free command.EndSessions = (refl, (refl, (refl, (refl, (refl, (refl, (refl, tt)))))))

pub free_is_ignored : (c : Command) (name : List ℕ)
    → is_among name (free_names ++ own_free_names c) ≡ true → is_ignored c name ≡ true
free_is_ignored c name there =
    names_ignored c name (free_names ++ own_free_names c) (all_free c) there

pub hello_ignores : (old_name : Bool) (name : List ℕ) → common_rule name ≡ None
    → is_ignored (command.Hello old_name) name ≡ true
hello_ignores old_name name none =
    ap (λ (o : Option Rule). is_free (option_or o (Some rule.Ignored)) && true) none
