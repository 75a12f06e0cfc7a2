-- What is written of messages is read as itself, whatever stands after it.
use Rattle.std.proofs.Common.{◌≡◌, ℕ, ℤ, pos, ◌^◌, ◌<◌, ◌≤◌, ◌+◌, Bool, true, false, List, [], ◌∷◌}
use Rattle.std.proofs.Common.{◌++◌, length, take, drop, codes, Option, Some, None, Result, Ok, Err}
use Rattle.std.proofs.Common.{refl, sym, ap, ◌∙◌, append_assoc, append-nil, length-append, arith}
use Rattle.std.proofs.Common.{FitsSigned}
use Rattle.std.specs.Int.{w16, w32, w64}
use Rattle.std.specs.List.{All, flat_map}
use Rattle.std.proofs.lemmas.Bool.{lt-ltb}
use Rattle.std.proofs.lemmas.List.{take_at, drop_at}
use Rattle.outcomes.proofs.Binding.{ok_is}
use Rattle.bson_core.specs.declared.value.Value.TheViews as views
use Rattle.txn_types.specs.declared.decision.Decision.{Decision}
use Rattle.txn_types.specs.declared.cause.Cause.{Cause}
use Rattle.txn_types.specs.declared.decision.Told.{Told}
use Rattle.txn_types.specs.declared.message.Envelope.{Envelope}
use Rattle.txn_types.specs.declared.message.Msg.{Msg}
use Rattle.txn_types.specs.declared.message.Msg.TheVariants as msg
use Rattle.txn_types.specs.declared.message.Statement.{Statement}
use Rattle.txn_types.specs.declared.message.Answer.{Answer}
use Rattle.txn_types.specs.declared.message.Outcome.{Outcome}
use Rattle.txn_types.specs.declared.message.CommitTwo.{CommitTwo}
use Rattle.txn_types.specs.declared.message.Prepare.{Prepare}
use Rattle.txn_types.specs.declared.message.Vote.{Vote}
use Rattle.txn_types.specs.declared.message.Decide.{Decide}
use Rattle.txn_types.specs.declared.message.Abort.{Abort}
use Rattle.txn_types.specs.declared.message.Acked.{Acked}
use Rattle.txn_types.specs.declared.names.Tag.{Tag}
use Rattle.txn_types.specs.declared.node.Lsid.{Lsid}
use Rattle.txn_types.specs.declared.node.NodeId.{NodeId}
use Rattle.txn_types.specs.declared.operation.Op.{Op}
use Rattle.txn_types.specs.declared.operation.OpReply.{OpReply}
use Rattle.node_wire.specs.declared.error.WireErr.{WireErr}
use Rattle.node_wire.specs.Reading.{Found, Named, place, number_of, code_at, one_to, tag_at}
use Rattle.node_wire.specs.Reading.{named_at, node_at, decision_at, parts_at, op_at, outcome_at}
use Rattle.node_wire.specs.Reading.{vote_at, told_at, statement_at, answer_at, named_boot_at}
use Rattle.node_wire.specs.Reading.{commit_at, told_msg_at, abort_at, commit_two_at, prepare_at}
use Rattle.node_wire.specs.Reading.{vote_msg_at, decide_at, acked_at, recover_at, msg_by}
use Rattle.node_wire.specs.Reading.{envelope_of, length_at, batched_at, counted_at, batch_of}
use Rattle.node_wire.specs.Reading.{envelope_in, batch_in, content_of}
use Rattle.node_wire.specs.Spelling.{half, word, long, tag_bytes, named_bytes, node_bytes}
use Rattle.node_wire.specs.Spelling.{decision_bytes, parts_bytes, op_bytes, outcome_bytes}
use Rattle.node_wire.specs.Spelling.{vote_bytes, told_bytes, msg_kind, msg_bytes, envelope_bytes}
use Rattle.node_wire.specs.Spelling.{batched_bytes, batch_bytes, counted, body_of, envelope_frame}
use Rattle.node_wire.specs.Spelling.{batch_frame}
use Rattle.node_laws.specs.Fits.{NodeFits, MsgFits, EnvelopeFits, BatchedFits, ListFits}
use Rattle.node_laws.proofs.Parts.{IsReadAs, half_again, word_again, long_again, code_again}
use Rattle.node_laws.proofs.Parts.{counted_again}
use Rattle.node_laws.proofs.Transactions.{tag_again, named_again, node_again, decision_again}
use Rattle.node_laws.proofs.Transactions.{parts_again}
use Rattle.node_laws.proofs.Operations.{op_again}
use Rattle.node_laws.proofs.Told.{outcome_again, vote_again, told_again}

statement_parts : (end : ℕ) (n k r b o : List ℕ) (m : Statement)
    → IsReadAs (named_at end) n (m.tag, m.lsid, m.number) → IsReadAs (number_of w32 end) k m.k
    → IsReadAs (number_of w64 end) r m.read_at → IsReadAs (number_of w32 end) b m.boot
    → IsReadAs (op_at end) o m.op
    → IsReadAs (statement_at end) (n ++ k ++ r ++ b ++ o) (msg.Statement m)
unfolding statement_at
statement_parts end n k r b o m hn hk hr hb ho rest =
    rw (
      append_assoc (n ++ k ++ r ++ b) o rest,
      append_assoc (n ++ k ++ r) b (o ++ rest),
      append_assoc (n ++ k) r (b ++ (o ++ rest)),
      append_assoc n k (r ++ (b ++ (o ++ rest))),
      hn (k ++ (r ++ (b ++ (o ++ rest)))),
      hk (r ++ (b ++ (o ++ rest))),
      hr (b ++ (o ++ rest)),
      hb (o ++ rest),
      ho rest,
    ) refl

answer_parts : (end : ℕ) (t k s b r o : List ℕ) (m : Answer) → IsReadAs (tag_at end) t m.tag
    → IsReadAs (number_of w32 end) k m.k → IsReadAs (number_of w16 end) s m.shard
    → IsReadAs (number_of w32 end) b m.boot → IsReadAs (number_of w64 end) r m.read_at
    → IsReadAs (outcome_at end) o m.outcome
    → IsReadAs (answer_at end) (t ++ k ++ s ++ b ++ r ++ o) (msg.Answer m)
unfolding answer_at
answer_parts end t k s b r o m ht hk hs hb hr ho rest =
    rw (
      append_assoc (t ++ k ++ s ++ b ++ r) o rest,
      append_assoc (t ++ k ++ s ++ b) r (o ++ rest),
      append_assoc (t ++ k ++ s) b (r ++ (o ++ rest)),
      append_assoc (t ++ k) s (b ++ (r ++ (o ++ rest))),
      append_assoc t k (s ++ (b ++ (r ++ (o ++ rest)))),
      ht (k ++ (s ++ (b ++ (r ++ (o ++ rest))))),
      hk (s ++ (b ++ (r ++ (o ++ rest)))),
      hs (b ++ (r ++ (o ++ rest))),
      hb (r ++ (o ++ rest)),
      hr (o ++ rest),
      ho rest,
    ) refl

named_boot_parts : (end : ℕ) (n b : List ℕ) (named : Named) (boot : ℕ)
    → IsReadAs (named_at end) n named → IsReadAs (number_of w32 end) b boot
    → IsReadAs (named_boot_at end) (n ++ b) (named, boot)
unfolding named_boot_at
named_boot_parts end n b named boot hn hb rest =
    rw (append_assoc n b rest, hn (b ++ rest), hb rest) refl

told_parts : (end : ℕ) (t s b o : List ℕ) (m : Outcome)
    → IsReadAs (tag_at end) t m.tag → IsReadAs (number_of w16 end) s m.shard
    → IsReadAs (number_of w32 end) b m.boot → IsReadAs (told_at end) o m.told
    → IsReadAs (told_msg_at end) (t ++ s ++ b ++ o) (msg.Outcome m)
unfolding told_msg_at
told_parts end t s b o m ht hs hb ho rest =
    rw (
      append_assoc (t ++ s ++ b) o rest,
      append_assoc (t ++ s) b (o ++ rest),
      append_assoc t s (b ++ (o ++ rest)),
      ht (s ++ (b ++ (o ++ rest))),
      hs (b ++ (o ++ rest)),
      hb (o ++ rest),
      ho rest,
    ) refl

abort_parts : (end : ℕ) (n : List ℕ) (m : Abort)
    → IsReadAs (named_at end) n (m.tag, m.lsid, m.number)
    → IsReadAs (abort_at end) (n ++ m.why ∷ []) (msg.Abort m)
unfolding abort_at
abort_parts end n m hn rest = rw (append_assoc n (m.why ∷ []) rest, hn (m.why ∷ rest)) refl

commit_two_parts : (end : ℕ) (x p : List ℕ) (m : CommitTwo)
    → IsReadAs (named_boot_at end) x ((m.tag, m.lsid, m.number), m.boot)
    → IsReadAs (parts_at end) p m.parts → IsReadAs (commit_two_at end) (x ++ p) (msg.CommitTwo m)
unfolding commit_two_at
commit_two_parts end x p m hx hp rest = rw (append_assoc x p rest, hx (p ++ rest), hp rest) refl

prepare_parts : (end : ℕ) (x p : List ℕ) (m : Prepare)
    → IsReadAs (named_boot_at end) x ((m.tag, m.lsid, m.number), m.boot)
    → IsReadAs (number_of w16 end) p m.coordinator
    → IsReadAs (prepare_at end) (x ++ p) (msg.Prepare m)
unfolding prepare_at
prepare_parts end x p m hx hp rest = rw (append_assoc x p rest, hx (p ++ rest), hp rest) refl

vote_parts : (end : ℕ) (t s v : List ℕ) (m : Vote) → IsReadAs (tag_at end) t m.tag
    → IsReadAs (number_of w16 end) s m.shard → IsReadAs (vote_at end) v m.vote
    → IsReadAs (vote_msg_at end) (t ++ s ++ v) (msg.Vote m)
unfolding vote_msg_at
vote_parts end t s v m ht hs hv rest = rw (
  append_assoc (t ++ s) v rest,
  append_assoc t s (v ++ rest),
  ht (s ++ (v ++ rest)),
  hs (v ++ rest),
  hv rest,
) refl

decide_parts : (end : ℕ) (n d : List ℕ) (m : Decide)
    → IsReadAs (named_at end) n (m.tag, m.lsid, m.number) → IsReadAs (decision_at end) d m.decision
    → IsReadAs (decide_at end) (n ++ d) (msg.Decide m)
unfolding decide_at
decide_parts end n d m hn hd rest = rw (append_assoc n d rest, hn (d ++ rest), hd rest) refl

acked_parts : (end : ℕ) (t s : List ℕ) (m : Acked) → IsReadAs (tag_at end) t m.tag
    → IsReadAs (number_of w16 end) s m.shard → IsReadAs (acked_at end) (t ++ s) (msg.Acked m)
unfolding acked_at
acked_parts end t s m ht hs rest = rw (append_assoc t s rest, ht (s ++ rest), hs rest) refl

boot_again : (end : ℕ) (tag : Tag) (lsid : Lsid) (number : ℤ) (boot : ℕ)
    → IsReadAs (named_at end) (named_bytes tag lsid number) (tag, lsid, number)
    → boot < 2 ^ 32 → IsReadAs (named_boot_at end) (named_bytes tag lsid number
    ++ word boot) ((tag, lsid, number), boot)
boot_again end tag lsid number boot h lt = named_boot_parts end (named_bytes tag lsid number)
    (word boot) (tag, lsid, number) boot h (word_again end boot lt)

pub msg_again : (end : ℕ) (m : Msg) → MsgFits m → IsReadAs (msg_by (msg_kind m) end) (msg_bytes m) m
unfolding msg_by commit_at recover_at
msg_again end (msg.Statement m) h rest =
    statement_parts end (named_bytes m.tag m.lsid m.number) (word m.k) (long m.read_at)
    (word m.boot) (op_bytes m.op) m (named_again end m.tag m.lsid m.number h.0 h.1 h.2)
    (word_again end m.k h.3) (long_again end m.read_at h.4) (word_again end m.boot h.5)
    (op_again end m.op h.6) rest
msg_again end (msg.Answer m) h rest =
    answer_parts end (tag_bytes m.tag) (word m.k) (half m.shard) (word m.boot) (long m.read_at)
    (outcome_bytes m.outcome) m (tag_again end m.tag h.0) (word_again end m.k h.1)
    (half_again end m.shard h.2) (word_again end m.boot h.3) (long_again end m.read_at h.4)
    (outcome_again end m.outcome h.5) rest
msg_again end (msg.Commit m) h rest = rw (boot_again end m.tag m.lsid m.number m.boot
    (named_again end m.tag m.lsid m.number h.0 h.1 h.2) h.3 rest) refl
msg_again end (msg.Outcome m) h rest = told_parts end (tag_bytes m.tag) (half m.shard) (word m.boot)
    (told_bytes m.told) m (tag_again end m.tag h.0) (half_again end m.shard h.1) (word_again end
    m.boot h.2) (told_again end m.told h.3) rest
msg_again end (msg.Abort m) h rest = abort_parts end (named_bytes m.tag m.lsid m.number) m
    (named_again end m.tag m.lsid m.number h.0 h.1 h.2) rest
msg_again end (msg.CommitTwo m) h rest =
    commit_two_parts end (named_bytes m.tag m.lsid m.number ++ word m.boot) (parts_bytes m.parts) m
    (boot_again end m.tag m.lsid m.number m.boot (named_again end m.tag m.lsid m.number h.0 h.1
    h.2) h.3) (parts_again end m.parts h.4 h.5) rest
msg_again end (msg.Prepare m) h rest =
    prepare_parts end (named_bytes m.tag m.lsid m.number ++ word m.boot) (half m.coordinator) m
    (boot_again end m.tag m.lsid m.number m.boot (named_again end m.tag m.lsid m.number h.0 h.1
    h.2) h.3) (half_again end m.coordinator h.4) rest
msg_again end (msg.Vote m) h rest =
    vote_parts end (tag_bytes m.tag) (half m.shard) (vote_bytes m.vote) m (tag_again end m.tag h.0)
    (half_again end m.shard h.1) (vote_again end m.vote h.2) rest
msg_again end (msg.Decide m) h rest =
    decide_parts end (named_bytes m.tag m.lsid m.number) (decision_bytes m.decision) m
    (named_again end m.tag m.lsid m.number h.0 h.1 h.2) (decision_again end m.decision h.3) rest
msg_again end (msg.Acked m) h rest = acked_parts end (tag_bytes m.tag) (half m.shard) m
    (tag_again end m.tag h.0) (half_again end m.shard h.1) rest
msg_again end (msg.Recover m) h rest = rw (boot_again end m.tag m.lsid m.number m.boot
    (named_again end m.tag m.lsid m.number h.0 h.1 h.2) h.3 rest) refl
msg_again end msg.Nudge h rest = refl

-- Envelopes.

envelope_parts : (kind end : ℕ) (f t s b : List ℕ) (e : Envelope) → IsReadAs (node_at end) f e.from
    → IsReadAs (node_at end) t e.to → IsReadAs (number_of w64 end) s e.time
    → msg_by kind end b ≡ Ok (e.msg, []) → envelope_of kind end (f ++ t ++ s ++ b) ≡ Ok e
unfolding envelope_of
envelope_parts kind end f t s b e hf ht hs hb =
    rw (
      append_assoc (f ++ t) s b,
      append_assoc f t (s ++ b),
      hf (t ++ (s ++ b)),
      ht (s ++ b),
      hs b,
      hb,
    ) refl

pub envelope_again : (end : ℕ) (e : Envelope) → EnvelopeFits e
    → envelope_of (msg_kind e.msg) end (envelope_bytes e) ≡ Ok e
envelope_again end e h =
    let last : msg_by (msg_kind e.msg) end (msg_bytes e.msg) ≡ Ok (e.msg, []) =
    ap (msg_by (msg_kind e.msg) end) (sym (append-nil (msg_bytes e.msg)))
    ∙ msg_again end e.msg h.3 [] in
    envelope_parts (msg_kind e.msg) end (node_bytes e.from) (node_bytes e.to) (long e.time)
    (msg_bytes e.msg) e (node_again end e.from h.0) (node_again end e.to h.1)
    (long_again end e.time h.2) last

is_kind : (m : Msg) → one_to 12 (msg_kind m) ≡ Some (msg_kind m)
is_kind (msg.Statement m) = refl
is_kind (msg.Answer m) = refl
is_kind (msg.Commit m) = refl
is_kind (msg.Outcome m) = refl
is_kind (msg.Abort m) = refl
is_kind (msg.CommitTwo m) = refl
is_kind (msg.Prepare m) = refl
is_kind (msg.Vote m) = refl
is_kind (msg.Decide m) = refl
is_kind (msg.Acked m) = refl
is_kind (msg.Recover m) = refl
is_kind msg.Nudge = refl

-- Batches.

length_again : (end n : ℕ) (tail : List ℕ) → n < 2 ^ 32 → n < length tail
    → length_at end (word n ++ tail) ≡ Ok (n, tail)
unfolding length_at
length_again end n tail small lt = rw (word_again end n small tail, lt-ltb n (length tail) lt) refl

batched_parts : (end kind : ℕ) (b rest : List ℕ) (e : Envelope) → length b < 2 ^ 32
    → one_to 12 kind ≡ Some kind → ((at : ℕ) → envelope_of kind at b ≡ Ok e)
    → batched_at end (word (length b) ++ kind ∷ (b ++ rest)) ≡ Ok (e, rest)
unfolding batched_at
batched_parts end kind b rest e small is h =
    let room : length b < length (kind ∷ (b ++ rest)) = omega (arith, length-append b rest) in
    rw (
      length_again end (length b) (kind ∷ (b ++ rest)) small room,
      code_again (one_to 12) end kind kind is (b ++ rest),
      take_at b rest (length b) refl,
      drop_at b rest (length b) refl,
      h (place end rest),
    ) refl

batched_again : (end : ℕ) (e : Envelope) → BatchedFits e
    → IsReadAs (batched_at end) (batched_bytes e) e
batched_again end e h rest =
    let b = envelope_bytes e in
    ap (batched_at end) (append_assoc (word (length b)) (msg_kind e.msg ∷ b) rest) ∙ batched_parts
    end (msg_kind e.msg) b rest e h.1 (is_kind e.msg) (λ at. envelope_again at e h.0)

batched_long : (e : Envelope) → 1 ≤ length (batched_bytes e)
batched_long e = omega
    (arith, length-append (word (length (envelope_bytes e))) (msg_kind e.msg ∷ envelope_bytes e))

batch_again : (es : List Envelope) → ListFits BatchedFits es → batch_of (batch_bytes es) ≡ Ok es
unfolding batch_of
batch_again es h =
    let bytes = batch_bytes es in
    let read : counted_at (batched_at (length bytes)) (length bytes) bytes ≡ Ok (es, []) =
    ap (counted_at (batched_at (length bytes)) (length bytes)) (sym (append-nil bytes))
    ∙ counted_again (batched_at (length bytes)) batched_bytes BatchedFits
    (batched_again (length bytes)) batched_long (length bytes) es h [] in
    rw read refl

-- Frames.

content_again : (kind : ℕ) (bytes : List ℕ) → content_of (body_of kind bytes) ≡ Some (kind, bytes)
unfolding views.out-Value denote.Hole.Carrier.out views.roll-Value denote.Hole.Carrier.roll
content_again kind bytes = refl

pub envelope_frame_again : (e : Envelope) → EnvelopeFits e → envelope_in (envelope_frame e) ≡ Ok e
unfolding envelope_in
envelope_frame_again e h =
    rw (
      content_again (msg_kind e.msg) (envelope_bytes e),
      is_kind e.msg,
      envelope_again (length (envelope_bytes e)) e h,
    ) refl

pub batch_frame_again : (es : List Envelope) → ListFits BatchedFits es
    → batch_in (batch_frame es) ≡ Ok es
unfolding batch_in
batch_frame_again es h = rw (content_again 0 (batch_bytes es), batch_again es h) refl

pub envelopes_apart : (a b : Envelope) → EnvelopeFits a → EnvelopeFits b
    → envelope_frame a ≡ envelope_frame b → a ≡ b
envelopes_apart a b h k e =
    ok_is a b (sym (envelope_frame_again a h) ∙ ap envelope_in e ∙ envelope_frame_again b k)

pub batches_apart : (a b : List Envelope) → ListFits BatchedFits a → ListFits BatchedFits b
    → batch_frame a ≡ batch_frame b → a ≡ b
batches_apart a b h k e =
    ok_is a b (sym (batch_frame_again a h) ∙ ap batch_in e ∙ batch_frame_again b k)
