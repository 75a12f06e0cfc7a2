-- What is written of causes, answers, votes and ends is read again, whatever stands after it.
use Rattle.std.proofs.Common.{◌≡◌, ℕ, ℤ, ◌^◌, ◌<◌, ◌≤◌, Bool, true, false, List, [], ◌∷◌, ◌++◌}
use Rattle.std.proofs.Common.{length, Option, Some, None, Result, Ok, Err, refl, ap, ◌∙◌}
use Rattle.std.proofs.Common.{append_assoc, arith, FitsSigned}
use Rattle.std.specs.Int.{Width, w16, w32, w64}
use Rattle.bson_core.specs.Fields.{Document}
use Rattle.bson_core.specs.Spelling.{bit, spelling}
use Rattle.txn_types.specs.Causes.{cause_number}
use Rattle.txn_types.specs.declared.cause.By.{By}
use Rattle.txn_types.specs.declared.cause.By.TheVariants as by
use Rattle.txn_types.specs.declared.cause.Cause.{Cause}
use Rattle.txn_types.specs.declared.cause.Cause.TheVariants as cause
use Rattle.txn_types.specs.declared.decision.Told.{Told}
use Rattle.txn_types.specs.declared.decision.Told.TheVariants as told
use Rattle.txn_types.specs.declared.id.Id.{Id}
use Rattle.txn_types.specs.declared.operation.OpErr.{OpErr}
use Rattle.txn_types.specs.declared.operation.OpReply.{OpReply}
use Rattle.txn_types.specs.declared.operation.OpReply.TheVariants as reply
use Rattle.txn_types.specs.declared.operation.What.{What}
use Rattle.txn_types.specs.declared.operation.What.TheVariants as what
use Rattle.node_wire.specs.Reading.{number_of, code_at, one_to, flag_of, document_at, counted_at}
use Rattle.node_wire.specs.Reading.{cut_at, number_reply_at, rows_at, reply_at, what_of, op_err_at}
use Rattle.node_wire.specs.Reading.{by_at, conflict_at, pair_at, replaced_at, voted_at, cause_by}
use Rattle.node_wire.specs.Reading.{cause_at, answered_at, outcome_at, vote_at, told_at}
use Rattle.node_wire.specs.Spelling.{half, word, long, signed, tag_bytes, id_bytes, counted}
use Rattle.node_wire.specs.Spelling.{cut_bytes, reply_bytes, what_code, op_err_bytes, by_bytes}
use Rattle.node_wire.specs.Spelling.{cause_fields, cause_bytes, outcome_bytes, vote_bytes}
use Rattle.node_wire.specs.Spelling.{told_bytes}
use Rattle.txn_types.specs.declared.names.Tag.{Tag}
use Rattle.node_laws.specs.Fits.{TagFits, ListFits, DocumentFits, IdFits, CutFits, ReplyFits}
use Rattle.node_laws.specs.Fits.{OpErrFits, ByFits, CauseFits, OutcomeFits, VoteFits, ToldFits}
use Rattle.node_laws.proofs.Parts.{IsReadAs, half_again, word_again, long_again, signed_again}
use Rattle.node_laws.proofs.Parts.{flag_again, code_again, counted_again, document_again}
use Rattle.node_laws.proofs.Parts.{document_long}
use Rattle.node_laws.proofs.Ids.{id_again}
use Rattle.node_laws.proofs.Transactions.{tag_again}

-- Replies.

cut_again : (end : ℕ) (cut : Option Id) → CutFits cut → IsReadAs (cut_at end) (cut_bytes cut) cut
unfolding cut_at
cut_again end None h rest = rw (flag_again end false rest) refl
cut_again end (Some id) h rest =
    rw (flag_again end true (id_bytes id ++ rest), id_again end id h rest) refl

docs_again : (end : ℕ) (docs : List Document) → ListFits DocumentFits docs
    → IsReadAs (counted_at (document_at end) end) (counted spelling docs) docs
docs_again end docs h = counted_again (document_at end) spelling DocumentFits (document_again end)
    document_long end docs h

number_reply_again : (end n modified : ℕ) → n < 2 ^ 64 → modified < 2 ^ 64
    → IsReadAs (number_reply_at end) (long n ++ long modified) (reply.Count n modified)
unfolding number_reply_at
number_reply_again end n modified h k rest = rw (
  append_assoc (long n) (long modified) rest,
  long_again end n h (long modified ++ rest),
  long_again end modified k rest,
) refl

rows_again : (end : ℕ) (docs : List Document) (cut : Option Id)
    → ListFits DocumentFits docs → CutFits cut
    → IsReadAs (rows_at end) (counted spelling docs ++ cut_bytes cut) (reply.Rows docs cut)
unfolding rows_at
rows_again end docs cut h k rest = rw (
  append_assoc (counted spelling docs) (cut_bytes cut) rest,
  docs_again end docs h (cut_bytes cut ++ rest),
  cut_again end cut k rest,
) refl

pub reply_again : (end : ℕ) (r : OpReply) → ReplyFits r → IsReadAs (reply_at end) (reply_bytes r) r
unfolding reply_at
reply_again end (reply.Count n modified) h rest =
    rw (
      code_again (one_to 2) end 1 1 refl ((long n ++ long modified) ++ rest),
      number_reply_again end n modified h.0 h.1 rest,
    ) refl
reply_again end (reply.Rows docs cut) h rest =
    rw (
      code_again (one_to 2) end 2 2 refl ((counted spelling docs ++ cut_bytes cut) ++ rest),
      rows_again end docs cut h.0 h.1 rest,
    ) refl

-- Causes.

what_again : (end : ℕ) (w : What) → IsReadAs (code_at what_of end) (what_code w ∷ []) w
what_again end what.Duplicate = code_again what_of end 1 what.Duplicate refl
what_again end what.NotNumber = code_again what_of end 2 what.NotNumber refl
what_again end what.Overflow = code_again what_of end 3 what.Overflow refl
what_again end what.Immutable = code_again what_of end 4 what.Immutable refl
what_again end what.TooLarge = code_again what_of end 5 what.TooLarge refl

op_err_again : (end : ℕ) (e : OpErr) → OpErrFits e → IsReadAs (op_err_at end) (op_err_bytes e) e
unfolding op_err_at
op_err_again end e h rest =
    let a = word e.index in
    let b = id_bytes e.id in
    let d = what_code e.what ∷ [] in
    rw (
      append_assoc (a ++ b) d rest,
      append_assoc a b (d ++ rest),
      word_again end e.index h.0 (b ++ (d ++ rest)),
      id_again end e.id h.1 (d ++ rest),
      what_again end e.what rest,
    ) refl

by_again : (end : ℕ) (b : By) → ByFits b → IsReadAs (by_at end) (by_bytes b) b
unfolding by_at
by_again end (by.Tag tag) h rest =
    rw (code_again (one_to 2) end 1 1 refl (tag_bytes tag ++ rest), tag_again end tag h rest) refl
by_again end (by.At at) h rest =
    rw (code_again (one_to 2) end 2 2 refl (long at ++ rest), long_again end at h rest) refl

conflict_again : (end : ℕ) (id : Id) (b : By) → IdFits id → ByFits b
    → IsReadAs (conflict_at end) (id_bytes id ++ by_bytes b) (cause.WriteConflict id b)
unfolding conflict_at
conflict_again end id b h k rest = rw (
  append_assoc (id_bytes id) (by_bytes b) rest,
  id_again end id h (by_bytes b ++ rest),
  by_again end b k rest,
) refl

words_again : (make : ℕ → ℕ → Cause) (end first second : ℕ) → first < 2 ^ 32 → second < 2 ^ 32
    → IsReadAs (pair_at w32 make end) (word first ++ word second) (make first second)
unfolding pair_at
words_again make end first second h k rest = rw (
  append_assoc (word first) (word second) rest,
  word_again end first h (word second ++ rest),
  word_again end second k rest,
) refl

longs_again : (make : ℕ → ℕ → Cause) (end first second : ℕ) → first < 2 ^ 64 → second < 2 ^ 64
    → IsReadAs (pair_at w64 make end) (long first ++ long second) (make first second)
unfolding pair_at
longs_again make end first second h k rest = rw (
  append_assoc (long first) (long second) rest,
  long_again end first h (long second ++ rest),
  long_again end second k rest,
) refl

replaced_again : (end : ℕ) (number : ℤ) (tag : Tag) → FitsSigned w64 number → TagFits tag
    → IsReadAs (replaced_at end) (signed number ++ tag_bytes tag) (cause.Replaced number tag)
unfolding replaced_at
replaced_again end number tag h k rest = rw (
  append_assoc (signed number) (tag_bytes tag) rest,
  signed_again end number h (tag_bytes tag ++ rest),
  tag_again end tag k rest,
) refl

voted_again : (end shard code : ℕ) → shard < 2 ^ 16
    → IsReadAs (voted_at end) (half shard ++ code ∷ []) (cause.Voted shard code)
unfolding voted_at
voted_again end shard code h rest =
    rw (append_assoc (half shard) (code ∷ []) rest, half_again end shard h (code ∷ rest)) refl

fields_again : (end : ℕ) (c : Cause) → CauseFits c
    → IsReadAs (cause_by (cause_number c) end) (cause_fields c) c
unfolding cause_by
fields_again end (cause.WriteConflict id with) h rest = conflict_again end id with h.0 h.1 rest
fields_again end (cause.Expired begun now) h rest =
    words_again cause.Expired end begun now h.0 h.1 rest
fields_again end (cause.ClientAbort why) h rest = refl
fields_again end (cause.Unavailable carried have) h rest =
    words_again cause.Unavailable end carried have h.0 h.1 rest
fields_again end (cause.Faulted faults) h rest = rw (long_again end faults h rest) refl
fields_again end (cause.Statement err) h rest = rw (op_err_again end err h rest) refl
fields_again end (cause.Replaced number tag) h rest = replaced_again end number tag h.0 h.1 rest
fields_again end (cause.Volume bytes) h rest = rw (long_again end bytes h rest) refl
fields_again end (cause.ClockEnd last) h rest = rw (long_again end last h rest) refl
fields_again end (cause.PreparedStands tag) h rest = rw (tag_again end tag h rest) refl
fields_again end cause.TooManySessions h rest = refl
fields_again end (cause.Voted shard code) h rest = voted_again end shard code h rest
fields_again end cause.Memory h rest = refl
fields_again end (cause.SnapshotTooOld at floor) h rest =
    longs_again cause.SnapshotTooOld end at floor h.0 h.1 rest

is_number : (c : Cause) → one_to 14 (cause_number c) ≡ Some (cause_number c)
is_number (cause.WriteConflict id with) = refl
is_number (cause.Expired begun now) = refl
is_number (cause.ClientAbort why) = refl
is_number (cause.Unavailable carried have) = refl
is_number (cause.Faulted faults) = refl
is_number (cause.Statement err) = refl
is_number (cause.Replaced number tag) = refl
is_number (cause.Volume bytes) = refl
is_number (cause.ClockEnd last) = refl
is_number (cause.PreparedStands tag) = refl
is_number cause.TooManySessions = refl
is_number (cause.Voted shard code) = refl
is_number cause.Memory = refl
is_number (cause.SnapshotTooOld at floor) = refl

pub cause_again : (end : ℕ) (c : Cause) → CauseFits c → IsReadAs (cause_at end) (cause_bytes c) c
unfolding cause_at
cause_again end c h rest = rw (
  code_again (one_to 14) end (cause_number c) (cause_number c) (is_number c)
      (cause_fields c ++ rest),
  fields_again end c h rest,
) refl

-- Answers, votes and ends.

answered_again : (end : ℕ) (r : OpReply) (wrote : Bool) → ReplyFits r
    → IsReadAs (answered_at end) (reply_bytes r ++ bit wrote ∷ []) (Ok (r, wrote))
unfolding answered_at
answered_again end r wrote h rest = rw (
  append_assoc (reply_bytes r) (bit wrote ∷ []) rest,
  reply_again end r h (bit wrote ∷ rest),
  flag_again end wrote rest,
) refl

pub outcome_again : (end : ℕ) (r : Result (OpReply × Bool) Cause) → OutcomeFits r
    → IsReadAs (outcome_at end) (outcome_bytes r) r
unfolding outcome_at
outcome_again end (Ok answer) h rest = rw (
  flag_again end true ((reply_bytes answer.0 ++ bit answer.1 ∷ []) ++ rest),
  answered_again end answer.0 answer.1 h rest,
) refl
outcome_again end (Err c) h rest =
    rw (flag_again end false (cause_bytes c ++ rest), cause_again end c h rest) refl

pub vote_again : (end : ℕ) (v : Result ℕ Cause) → VoteFits v
    → IsReadAs (vote_at end) (vote_bytes v) v
unfolding vote_at
vote_again end (Ok at) h rest =
    rw (flag_again end true (long at ++ rest), long_again end at h rest) refl
vote_again end (Err c) h rest =
    rw (flag_again end false (cause_bytes c ++ rest), cause_again end c h rest) refl

pub told_again : (end : ℕ) (t : Told) → ToldFits t → IsReadAs (told_at end) (told_bytes t) t
unfolding told_at
told_again end (told.Committed at) h rest =
    rw (code_again (one_to 5) end 1 1 refl (long at ++ rest), long_again end at h rest) refl
told_again end told.Released h rest = rw (code_again (one_to 5) end 2 2 refl rest) refl
told_again end (told.Aborted c) h rest =
    rw (code_again (one_to 5) end 3 3 refl (cause_bytes c ++ rest), cause_again end c h rest) refl
told_again end (told.TooOld have) h rest =
    rw (code_again (one_to 5) end 4 4 refl (signed have ++ rest), signed_again end have h rest) refl
told_again end told.NoTrace h rest = rw (code_again (one_to 5) end 5 5 refl rest) refl
