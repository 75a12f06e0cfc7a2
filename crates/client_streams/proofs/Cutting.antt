-- Cutting whole messages off a connection's bytes, one after the other.
use Rattle.std.proofs.Common.{◌≡◌, ℕ, zero, suc, ◌<◌, ◌≤◌, ◌^◌, Bool, true, false, cond, ◌||◌}
use Rattle.std.proofs.Common.{nat_lt, nat_le, List, [], ◌∷◌, ◌++◌, length, Option, Some, None}
use Rattle.std.proofs.Common.{Result, Ok, Err, refl, sym, ap, ◌∙◌, arith}
use Rattle.std.specs.Int.{w32}
use Rattle.std.proofs.lemmas.Bool.{ltb-false}
use Rattle.std.proofs.lemmas.List.{length-drop}
use Rattle.bson_core.specs.Reading.{number_at}
use Rattle.op_msg.specs.Stream.{Next, length_by, length_of, next_of}
use Rattle.op_msg.specs.declared.frame.FrameErr.{FrameErr}
use Rattle.op_msg.specs.declared.frame.FrameErr.TheVariants.{Length, TooLarge}
use Rattle.op_msg.proofs.Cuts.{IsFront, is_front}
use Rattle.client_streams.specs.Streams.{Connection, cut_by, cut_times}

-- a message has 16 bytes at least
by_tests : (low high long short : Bool) (n len : ℕ) → nat_lt n 16 ≡ low
    → ◌≡◌ {A = Result (Option ℕ) FrameErr} (cond (low || high) (Err Length)
    (cond long (Err TooLarge) (cond short (Ok None) (Ok (Some n))))) (Ok (Some len)) → 16 ≤ len
by_tests true high long short n len is found = cc
by_tests false true long short n len is found = cc
by_tests false false true short n len is found = cc
by_tests false false false true n len is found = cc
by_tests false false false false n len is found =
    let same : n ≡ len = cc in
    omega (arith, same, ltb-false n 16 is)

by_number : (limit : ℕ) (held : List ℕ) (o : Option (ℕ × List ℕ)) (len : ℕ)
    → length_by limit held o ≡ Ok (Some len) → 16 ≤ len
by_number limit held None len found = cc
by_number limit held (Some n) len found = by_tests (nat_lt n.0 16) (nat_le (2 ^ 31) n.0)
    (nat_lt limit n.0) (nat_lt (length held) n.0) n.0 len refl found

long_enough : (limit : ℕ) (held : List ℕ) (len : ℕ)
    → length_of limit held ≡ Ok (Some len) → 16 ≤ len
unfolding length_of
long_enough limit held len found = by_number limit held (number_at w32 held) len found

-- so what is held after one is shorter
pub rest_shrinks : (limit : ℕ) (held : List ℕ) (m : List ℕ × List ℕ)
    → next_of limit held ≡ Ok (Some m) → length m.1 < length held
rest_shrinks limit held m is =
    let f : IsFront limit held m.0 m.1 = is_front limit held m.0 m.1 is in
    omega (
      arith,
      long_enough limit held f.len f.found,
      f.within,
      sym (ap length f.back),
      length-drop f.len held,
    )

-- no bytes have no message, and no fault
nothing_comes : (limit : ℕ) → next_of limit [] ≡ Ok None
unfolding length_of number_at
nothing_comes limit = refl

-- the connection with its next message cut off
abbrev pub cut_off : Connection → List ℕ × List ℕ → Connection
cut_off c m = record c { bytes = m.1; waiting = c.waiting ++ m.0 ∷ [] }

by_next : (f g : Connection → Connection) (c : Connection) (next : Next) → ((m : List ℕ × List ℕ)
    → next ≡ Ok (Some m) → f (cut_off c m) ≡ g (cut_off c m)) → cut_by f c next ≡ cut_by g c next
by_next f g c (Ok (Some m)) same = same m refl
by_next f g c (Ok None) same = refl
by_next f g c (Err e) same = refl

-- as many cuts as there are bytes are enough
none_left : (n : ℕ) (c : Connection) (bytes : List ℕ) → c.bytes ≡ bytes → length bytes ≤ 0
    → cut_times n c ≡ c
none_left zero c bytes is none = refl
none_left (suc n) c [] is none = ap (λ (b : List ℕ). cut_by (cut_times n) c (next_of 48000000 b)) is
    ∙ ap (cut_by (cut_times n) c) (nothing_comes 48000000)
none_left (suc n) c (b ∷ bytes) is none = absurd (omega (arith, none))

enough : (n m : ℕ) (c : Connection) → length c.bytes ≤ n → length c.bytes ≤ m
    → cut_times n c ≡ cut_times m c
enough zero m c less also = sym (none_left m c c.bytes refl less)
enough (suc n) zero c less also = none_left (suc n) c c.bytes refl also
enough (suc n) (suc m) c less also =
    by_next (cut_times n) (cut_times m) c (next_of 48000000 c.bytes)
    (λ x is. enough n m (cut_off c x) (omega (arith, less, rest_shrinks 48000000 c.bytes x is))
    (omega (arith, also, rest_shrinks 48000000 c.bytes x is)))

by_length : (n : ℕ) (c : Connection) (m : List ℕ × List ℕ) → length c.bytes ≡ n
    → next_of 48000000 c.bytes ≡ Ok (Some m) → cut_times (length m.1) (cut_off c m) ≡ cut_times n c
by_length zero c m is next = absurd (omega (arith, is, rest_shrinks 48000000 c.bytes m next))
by_length (suc n) c m is next =
    enough (length m.1) n (cut_off c m) (omega arith)
    (omega (arith, is, rest_shrinks 48000000 c.bytes m next))
    ∙ ap (cut_by (cut_times n) c) (sym next)

-- a message is cut off, and the rest is to be cut as before
pub goes_on : (c d : Connection) (m : List ℕ × List ℕ) → next_of 48000000 c.bytes ≡ Ok (Some m)
    → d ≡ cut_off c m → cut_times (length d.bytes) d ≡ cut_times (length c.bytes) c
goes_on c d m next is = ap (λ (e : Connection). cut_times (length e.bytes) e) is
    ∙ by_length (length c.bytes) c m refl next

pub goes_smaller : (c d : Connection) (m : List ℕ × List ℕ) → next_of 48000000 c.bytes ≡ Ok (Some m)
    → d ≡ cut_off c m → length d.bytes < length c.bytes
goes_smaller c d m next is =
    omega (arith, ap (λ (e : Connection). length e.bytes) is, rest_shrinks 48000000 c.bytes m next)

last_at : (n : ℕ) (c d : Connection) → length c.bytes ≡ n → ((again : Connection → Connection)
    → d ≡ cut_by again c (next_of 48000000 c.bytes)) → d ≡ cut_times n c
last_at zero c d is last = last (λ e. e) ∙ none_left 1 c c.bytes refl (omega (arith, is))
last_at (suc n) c d is last = last (cut_times n)

-- nothing more is cut off
pub stops : (c d : Connection) → ((again : Connection → Connection)
    → d ≡ cut_by again c (next_of 48000000 c.bytes)) → d ≡ cut_times (length c.bytes) c
stops c d last = last_at (length c.bytes) c d refl last
