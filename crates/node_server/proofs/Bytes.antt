-- What is held of a peer's bytes, and what comes of it.
use Rattle.std.proofs.Common.{◌≡◌, ℕ, ◌^◌, ◌<◌, ◌≤◌, Bool, true, false, cond, ltb, leb, List}
use Rattle.std.proofs.Common.{length, Option, Some, None, Result, Ok, Err, refl, arith}
use Rattle.std.specs.Prelude.{◌||◌}
use Rattle.std.specs.Int.{w32}
use Rattle.std.proofs.lemmas.Bool.{ltb-false, ltb-true}
use Rattle.bson_core.specs.Reading.{number_at}
use Rattle.op_msg.specs.declared.frame.FrameErr.{FrameErr}
use Rattle.op_msg.specs.declared.frame.FrameErr.TheVariants.{Length, TooLarge}
use Rattle.op_msg.specs.Stream.{length_by, length_of, next_by, next_of}

none_is : (b : Bool) (x : ℕ × List ℕ) → cond b None (Some x) ≡ None → b ≡ true
none_is true x e = refl
none_is false x e = absurd cc

tested : Bool → Bool → Bool → ℕ → Result (Option ℕ) FrameErr
tested below above short len =
    cond below (Err Length) (cond above (Err TooLarge) (cond short (Ok None) (Ok (Some len))))

waits : (below above short : Bool) (len : ℕ) → cond below (Err Length) (cond above (Err TooLarge)
    (cond short (Ok None) (Ok (Some len)))) ≡ Ok None → (above ≡ false) × (short ≡ true)
waits true above short len e = absurd cc
waits false true short len e = absurd cc
waits false false true len e = (refl, refl)
waits false false false len e = absurd cc

short_by : (limit : ℕ) (held : List ℕ) (o : Option (ℕ × List ℕ)) → number_at w32 held ≡ o
    → limit < 2 ^ 32 → length_by limit held o ≡ Ok None → length held < 2 ^ 32
unfolding number_at
short_by limit held None number low e =
    let few : length held < 4 = ltb-true _ _ (none_is (ltb (length held) 4) _ number) in
    omega (arith, few)
short_by limit held (Some x) number low e =
    let h = waits (ltb x.0 16 || leb (2 ^ 31) x.0) (ltb limit x.0) (ltb (length held) x.0) x.0 e in
    let within : x.0 ≤ limit = ltb-false _ _ h.0 in
    let fewer : length held < x.0 = ltb-true _ _ h.1 in omega (arith, within, fewer, low)

length_none : (limit : ℕ) (held : List ℕ) (r : Result (Option ℕ) FrameErr)
    → next_by held r ≡ Ok None → r ≡ Ok None
length_none limit held (Ok None) e = refl
length_none limit held (Ok (Some n)) e = absurd cc
length_none limit held (Err error) e = absurd cc

-- where no message is held, few bytes are
pub short : (limit : ℕ) (held : List ℕ) → limit < 2 ^ 32 → next_of limit held ≡ Ok None
    → length held < 2 ^ 32
unfolding length_of
short limit held low e = short_by limit held (number_at w32 held) refl low (length_none limit held
    (length_of limit held) e)
