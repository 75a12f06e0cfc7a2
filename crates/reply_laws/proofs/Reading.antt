-- What is read of a message that asks something: its sender wants a reply; and a transaction that a
-- statement names is of a client's session.
use Rattle.std.proofs.Common.{◌≡◌, ◌+◌, ◌==◌, ◌||◌, ℕ, Bool, true, false, not, List, [], drop, take}
use Rattle.std.proofs.Common.{length, nat_lt, Option, Some, None, option_map, Result, Ok, Err, refl}
use Rattle.std.proofs.Common.{sym, ap, subst, ◌∙◌, arith, if◌then◌else◌}
use Rattle.std.specs.Int.{w32, from_le_bytes}
use Rattle.std.proofs.lemmas.List.{drop-drop}
use Rattle.outcomes.specs.Bind.{◌>>=◌}
use Rattle.outcomes.proofs.Binding.{bind_ok, passed, ok_is}
use Rattle.bson_core.specs.declared.value.Value.{Value}
use Rattle.bson_core.specs.declared.value.Value.TheOpen as of
use Rattle.bson_core.specs.declared.value.Value.TheOpen.{Value-F}
use Rattle.bson_core.specs.declared.value.Value.TheViews.{out-Value}
use Rattle.bson_core.specs.Fields.{Document}
use Rattle.bson_core.specs.Reading.{number_at}
use Rattle.op_msg.specs.Asking.{is_legacy, is_query, more_is_clear, wants_reply}
use Rattle.op_msg.specs.Limits.{most_internal}
use Rattle.op_msg.specs.Message.{Sequence, has_flag}
use Rattle.op_msg.specs.Reading as rd
use Rattle.op_msg.specs.declared.frame.Frame.{Frame}
use Rattle.op_msg.specs.declared.frame.FrameErr.{FrameErr}
use Rattle.op_msg.specs.declared.frame.FrameErr.TheVariants.{Length, OpCode, Section, TooLarge}
use Rattle.op_msg.specs.declared.header.Header.{Header}
use Rattle.command_parse.specs.Operations.{op_of, checked, is_in_transaction}
use Rattle.command_parse.specs.Values.{number_in}
use Rattle.command_parse.specs.declared.command.Command.{Command}
use Rattle.command_parse.specs.declared.command.Command.TheVariants as command
use Rattle.client_cmd.specs.Commands as cmd
use Rattle.client_cmd.specs.declared.error.CmdErr.{CmdErr}
use Rattle.client_cmd.specs.declared.error.CmdErr.TheVariants.{Unacknowledged}
use Rattle.client_cmd.specs.declared.request.Request.{Request}
use Rattle.client_cmd.specs.declared.request.Request.TheVariants as request
use Rattle.participant.proofs.Cases.{either}
use Rattle.router_plan.specs.Messages as messages
use Rattle.router_state.specs.State.{is_own}
use Rattle.world_laws.proofs.Going.{some_same}
use Rattle.told_laws.proofs.Requests.{cmd_bind, cmd_is, asked_case}
use Rattle.reply_laws.proofs.Asking.{NamesClient}
use Rattle.reply_laws.proofs.Lists.{or_left, or_right}

abbrev Contents : Type 0
Contents = Bool × Document × List Sequence

-- Numbers of a message.

rest_of : (bytes : List ℕ) (y : ℕ × List ℕ) → number_at w32 bytes ≡ Some y → y.1 ≡ drop 4 bytes
unfolding number_at
rest_of bytes y e = by (nat_lt (length bytes) 4) e
  where
    by : (test : Bool) → (if test then None else Some (
      from_le_bytes w32 (take 4 bytes),
      drop 4
          bytes,
    )) ≡ Some y → y.1 ≡ drop 4 bytes
    by true f = let no : None ≡ Some y = f in absurd (grind (arith, no))
    by false f = ap (λ (p : ℕ × List ℕ). p.1)
        (sym (some_same (from_le_bytes w32 (take 4 bytes), drop 4 bytes) y f))

abbrev Reads : List ℕ → ℕ × List ℕ → Type 0
Reads bytes x = (number_at w32 bytes ≡ Some x) × (x.1 ≡ drop 4 bytes)

number_is : (fault : FrameErr) (bytes : List ℕ) (x : ℕ × List ℕ)
    → rd.or_fault fault (number_at w32 bytes) ≡ Ok x → Reads bytes x
number_is fault bytes x e = by (number_at w32 bytes) refl e
  where
    by : (o : Option (ℕ × List ℕ)) → number_at w32 bytes ≡ o → rd.or_fault fault o ≡ Ok x
        → Reads bytes x
    by None is f = absurd cc
    by (Some y) is f =
        let here : number_at w32 bytes ≡ Some x = is ∙ ap (λ (z : ℕ × List ℕ). Some z)
        (ok_is y x f) in
        (here, rest_of bytes x here)

record Headed (bytes : List ℕ) (h : Header × List ℕ) : Type 0 where
  code : number_at w32 (drop 12 bytes) ≡ Some (h.0.op_code, h.1)
  rest : h.1 ≡ drop 16 bytes

more_dropped : (n m : ℕ) (bytes xs ys : List ℕ) → xs ≡ drop n bytes → ys ≡ drop m xs
    → ys ≡ drop (n + m) bytes
more_dropped n m bytes xs ys e f = f ∙ ap (drop m) e ∙ drop-drop m n bytes

headed : (bytes : List ℕ) (h : Header × List ℕ) → rd.header_at bytes ≡ Ok h → Headed bytes h
unfolding rd.header_at
headed bytes h e =
    let a = bind_ok (rd.header_number bytes) _ h e in
    let b = bind_ok (rd.header_number a.0.1) _ h a.2 in
    let c = bind_ok (rd.header_number b.0.1) _ h b.2 in
    let d = bind_ok (rd.header_number c.0.1) _ h c.2 in
    let four = (number_is Length bytes a.0 a.1).1 in
    let eight = more_dropped 4 4 bytes a.0.1 b.0.1 four (number_is Length a.0.1 b.0 b.1).1 in
    let twelve = more_dropped 8 4 bytes b.0.1 c.0.1 eight (number_is Length b.0.1 c.0 c.1).1 in
    let last = number_is Length c.0.1 d.0 d.1 in
    let sixteen = more_dropped 12 4 bytes c.0.1 d.0.1 twelve last.1 in
    let same = ok_is _ h d.2 in
    record {
      code = ap (number_at w32) (sym twelve) ∙ last.0
          ∙ ap (λ (x : Header × List ℕ). Some (x.0.op_code, x.1)) same;
      rest = ap (λ (x : Header × List ℕ). x.1) (sym same) ∙ sixteen;
    }

-- The flag.

known_is : (o : Option ℕ) (flags known : ℕ) → rd.known_by o (Ok flags) ≡ Ok known → known ≡ flags
known_is None flags known e = sym (ok_is flags known e)
known_is (Some bit) flags known e = absurd cc

contents_clear : (bytes : List ℕ) (x : Contents) → rd.contents_at bytes ≡ Ok x → x.0 ≡ false
    → more_is_clear (number_at w32 bytes) ≡ true
unfolding rd.contents_at
contents_clear bytes x e clear =
    let a = bind_ok (rd.number bytes) _ x e in
    let b = bind_ok (rd.known_by (rd.least_flag 14 2 a.0.0) (Ok a.0.0)) _ x a.2 in
    let c = bind_ok (rd.without_sum (has_flag 0 b.0) a.0.1) _ x b.2 in
    let d = bind_ok (rd.sections_at (length c.0 + 1) (None, []) c.0) _ x c.2 in
    let flag : has_flag 1 b.0 ≡ x.0 = ap (λ (y : _). y.0) (ok_is _ x d.2) in
    let known = known_is (rd.least_flag 14 2 a.0.0) a.0.0 b.0 b.1 in
    let none : has_flag 1 a.0.0 ≡ false = ap (has_flag 1) (sym known) ∙ flag ∙ clear in
    ap more_is_clear (number_is Section bytes a.0 a.1).0 ∙ ap not none

older_is : (code : ℕ) → rd.is_older code ≡ Ok true → (code == 2004) ≡ true
older_is code e = by (code == 2013) (code == 2004) refl e
  where
    by : (new old : Bool) → (code == 2004) ≡ old
        → (if new then Ok false else (if old then Ok true else Err OpCode)) ≡ Ok true
        → (code == 2004) ≡ true
    by true old is f = let no : false ≡ true = ok_is false true f in absurd (grind (arith, no))
    by false true is f = is
    by false false is f = absurd cc

within : (legacy : Bool) (len : ℕ) (bytes : List ℕ) (x : Contents)
    → rd.contents_within legacy len bytes ≡ Ok x → rd.contents_in legacy bytes ≡ Ok x
within legacy len bytes x e =
    let a = bind_ok (rd.contents_in legacy bytes) _ x e in
    let p = passed _ _ (Ok a.0) x a.2 in
    a.1 ∙ p.1

abbrev Wants : List ℕ → Type 0
Wants bytes = (is_query (number_at w32 (drop 12 bytes)) || more_is_clear
    (number_at w32 (drop 16 bytes))) ≡ true

contents_wants : (bytes : List ℕ) (h : Header × List ℕ) (legacy : Bool) (x : Contents)
    → Headed bytes h → rd.is_older h.0.op_code ≡ Ok legacy
    → rd.contents_in legacy h.1 ≡ Ok x → x.0 ≡ false → Wants bytes
contents_wants bytes h true x read old inside more =
    or_left (is_query (number_at w32 (drop 12 bytes)))
    (more_is_clear (number_at w32 (drop 16 bytes)))
    (ap is_query read.code ∙ older_is h.0.op_code old)
contents_wants bytes h false x read old inside more =
    or_right (is_query (number_at w32 (drop 12 bytes)))
    (more_is_clear (number_at w32 (drop 16 bytes)))
    (ap (λ (l : List ℕ). more_is_clear (number_at w32 l)) (sym read.rest)
    ∙ contents_clear h.1 x inside more)

no_err : {A : Type 0} (b : Bool) (d : FrameErr) (r : Result A FrameErr) (y : A)
    → (if b then Err d else r) ≡ Ok y → r ≡ Ok y
no_err true d r y e = absurd cc
no_err false d r y e = e

body_wants : (bytes : List ℕ) (h : Header × List ℕ) (frame : Frame) → Headed bytes h
    → (rd.is_older h.0.op_code >>= λ legacy. rd.contents_within legacy (length bytes) h.1
    >>= λ contents. Ok (rd.frame_by h.0 legacy contents)) ≡ Ok frame
    → frame.more ≡ false → Wants bytes
body_wants bytes h frame read e clear =
    let older = bind_ok (rd.is_older h.0.op_code) (λ (legacy : Bool).
    rd.contents_within legacy (length bytes) h.1 >>= λ contents.
    Ok (rd.frame_by h.0 legacy contents)) frame e in
    let inside = bind_ok (rd.contents_within older.0 (length bytes) h.1) (λ (contents : Contents).
    Ok (rd.frame_by h.0 older.0 contents)) frame older.2 in
    let same : rd.frame_by h.0 older.0 inside.0 ≡ frame = ok_is (rd.frame_by h.0 older.0 inside.0)
    frame inside.2 in
    contents_wants bytes h older.0 inside.0 read older.1
    (within older.0 (length bytes) h.1 inside.0 inside.1)
    (ap (λ (f : Frame). f.more) same ∙ clear)

frame_wants : (bytes : List ℕ) (frame : Frame) → rd.frame_of bytes ≡ Ok frame
    → frame.more ≡ false → wants_reply bytes ≡ true
unfolding rd.frame_of wants_reply is_legacy
frame_wants bytes frame e clear =
    let h = bind_ok (rd.header_at bytes) _ frame e in
    body_wants bytes h.0 frame (headed bytes h.0 h.1)
    (no_err (nat_lt most_internal (length bytes)) TooLarge _ frame
    (no_err (not (rd.is_length h.0.0.len (length bytes))) Length _ frame h.2)) clear

-- The request.

kept_out : (b : Bool) (why : CmdErr) (u : _) → cmd.refused_where b why ≡ Ok u → b ≡ false
kept_out true why u e = absurd cc
kept_out false why u e = refl

first_not : (a b : Bool) → (a || b) ≡ false → a ≡ false
first_not true b e = grind arith
first_not false b e = refl

request_wants : (wall : ℕ) (bytes : List ℕ) (frame : Frame) (r : Request)
    → rd.frame_of bytes ≡ Ok frame → cmd.request_of wall frame ≡ Ok r → wants_reply bytes ≡ true
unfolding cmd.request_of
request_wants wall bytes frame r read e =
    let a = cmd_bind (cmd.command_in frame) _ r e in
    let b = cmd_bind (cmd.refused_where (cmd.is_unacknowledged frame) Unacknowledged) _ r a.2 in
    frame_wants bytes frame read (first_not frame.more _
    (kept_out (cmd.is_unacknowledged frame) Unacknowledged b.0 b.1))

read_wants : (wall : ℕ) (bytes : List ℕ) (x : Result Frame FrameErr) (r : Request)
    → rd.frame_of bytes ≡ x → messages.read_by wall x ≡ Ok r → wants_reply bytes ≡ true
read_wants wall bytes (Ok frame) r is e = request_wants wall bytes frame r is
    (asked_case (cmd.request_of wall frame) r e)
read_wants wall bytes (Err d) r is e = absurd cc

-- who asks something wants a reply
pub asked_wants : (wall : ℕ) (bytes : List ℕ) (r : Request) → messages.asked_in wall bytes ≡ Ok r
    → wants_reply bytes ≡ true
unfolding messages.asked_in
asked_wants wall bytes r e = read_wants wall bytes (rd.frame_of bytes) r refl e

-- The session.

abbrev pub NamesIn : Request → Type 0
NamesIn (request.Statement op txn at after more time) = NamesClient txn
NamesIn other = Unit {0}

client_is : (v : Value-F Value) → is_own (cmd.session_by v) ≡ false
client_is (of.Doc fields) = refl
client_is other = refl

number_names : (lsid : Value) (start : Bool) (o : Option _) → NamesClient
    (option_map (λ n. record {
      lsid = cmd.session_by (out-Value lsid);
      number = n;
      start = start;
    }) o)
number_names lsid start None = tt
number_names lsid start (Some n) = client_is (out-Value lsid)

txn_names : (lsid number : Option Value) (start : Bool) → NamesClient (cmd.txn_by lsid number start)
txn_names (Some lsid) (Some number) start = number_names lsid start (number_in (out-Value number))
txn_names (Some lsid) None start = tt
txn_names None number start = tt

statement_names : (frame : Frame) → NamesClient (cmd.statement_txn frame)
statement_names frame = either (is_in_transaction frame) NamesClient (cmd.txn_in frame.body) None
    (txn_names _ _ _) tt

by_names : (c : Command) (frame : Frame) (r : Request) → cmd.request_by c frame ≡ Ok r → NamesIn r
by_names command.Ping frame r e = let x = cmd_bind (cmd.as_command (checked command.Ping frame)) _ r
    e in subst NamesIn (cmd_is _ r x.2) tt
by_names (command.Hello old_name) frame r e = let x = cmd_bind
    (cmd.as_command (checked (command.Hello old_name) frame)) _ r e in subst NamesIn
    (cmd_is _ r x.2) tt
by_names (command.Statement s) frame r e =
    let x = cmd_bind (cmd.as_command (op_of s frame)) _ r e in
    subst NamesIn (cmd_is _ r x.2) (statement_names frame)
by_names command.Commit frame r e = let x = cmd_bind
    (cmd.as_command (checked command.Commit frame)) _ r e in subst NamesIn (cmd_is _ r x.2) tt
by_names command.Abort frame r e = let x = cmd_bind (cmd.as_command (checked command.Abort frame)) _
    r e in subst NamesIn (cmd_is _ r x.2) tt
by_names command.EndSessions frame r e = let x = cmd_bind
    (cmd.as_command (checked command.EndSessions frame)) _ r e in subst NamesIn (cmd_is _ r x.2) tt

request_names : (wall : ℕ) (frame : Frame) (r : Request) → cmd.request_of wall frame ≡ Ok r
    → NamesIn r
unfolding cmd.request_of
request_names wall frame r e =
    let a = cmd_bind (cmd.command_in frame) _ r e in
    let b = cmd_bind (cmd.refused_where (cmd.is_unacknowledged frame) _) _ r a.2 in
    let c = cmd_bind (cmd.refused_where (cmd.is_retried a.0 frame) _) _ r b.2 in
    let d = cmd_bind (cmd.not_ahead wall (cmd.time_ahead wall frame.body)) _ r c.2 in
    by_names a.0 frame r d.2

read_names : (wall : ℕ) (x : Result Frame FrameErr) (r : Request) → messages.read_by wall x ≡ Ok r
    → NamesIn r
read_names wall (Ok frame) r e = request_names wall frame r
    (asked_case (cmd.request_of wall frame) r e)
read_names wall (Err d) r e = absurd cc

-- a statement of a transaction names a client's session
pub asked_names : (wall : ℕ) (bytes : List ℕ) (r : Request) → messages.asked_in wall bytes ≡ Ok r
    → NamesIn r
unfolding messages.asked_in
asked_names wall bytes r e = read_names wall (rd.frame_of bytes) r e
