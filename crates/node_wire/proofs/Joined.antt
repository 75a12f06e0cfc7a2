-- Bytes that are written one after the other.
use Rattle.std.proofs.Common.{◌≡◌, ℕ, ◌+◌, ◌≤◌, ◌<◌, Bool, true, false, ltb, List, [], ◌∷◌, ◌++◌}
use Rattle.std.proofs.Common.{length, drop, get_or, Option, Some, None, Result, Ok, Err, refl, sym}
use Rattle.std.proofs.Common.{ap, ◌∙◌, append_assoc, append-nil, length-append, arith}
use Rattle.std.proofs.lemmas.Bool.{lt-ltb, ltb-true, ltb-false}
use Rattle.std.specs.List.{flat_map}
use Rattle.std.proofs.lemmas.List.{drop_more}
use Rattle.std.proofs.Math.ListN.{drop_of_length-le}
use Rattle.std.proofs.lemmas.Option.{none-some}
use Rattle.op_msg.specs.declared.frame.Frame.{Frame}
use Rattle.node_wire.specs.declared.error.WireErr.TheVariants.{TooLarge}
use Rattle.node_wire.specs.Errors.{Makes}
use Rattle.node_wire.specs.Output.{most_content, within, joined}
use Rattle.node_wire.specs.Spelling.{frame_of}
use Rattle.node_wire.proofs.Lengths.{length_frame}

within_by : (bytes : List ℕ) (byte : ℕ) (more : List ℕ) (b : Bool) → ltb most_content (length bytes)
    ≡ b → joined (within bytes) (byte ∷ more) ≡ within (bytes ++ byte ∷ more)
unfolding joined within
within_by bytes byte more true is =
    let large : ltb most_content (length (bytes ++ byte ∷ more)) ≡ true =
    lt-ltb most_content (length (bytes ++ byte ∷ more)) (omega
    (arith, length-append bytes (byte ∷ more), ltb-true most_content (length bytes) is)) in
    rw (is, large) refl
within_by bytes byte more false is = rw is refl

-- two pieces are one
pub joined_twice : (written : Option (List ℕ)) (a b : List ℕ)
    → joined (joined written a) b ≡ joined written (a ++ b)
unfolding joined
joined_twice written [] b = refl
joined_twice written (x ∷ a) [] = ap (joined written) (sym (append-nil (x ∷ a)))
joined_twice None (x ∷ a) (y ∷ b) = refl
joined_twice (Some bytes) (x ∷ a) (y ∷ b) = within_by (bytes ++ x ∷ a) y b (ltb most_content
    (length (bytes ++ x ∷ a))) refl ∙ ap within (append_assoc bytes (x ∷ a) (y ∷ b))

-- What is too much by itself is too much after others.

too_much : (bytes : List ℕ) (b : Bool) → ltb most_content (length bytes) ≡ b → within bytes ≡ None
    → most_content < length bytes
unfolding within
too_much bytes true is h = ltb-true most_content (length bytes) is
too_much bytes false is h = absurd (none-some bytes (sym h ∙ rw is refl))

none_behind : (written : Option (List ℕ)) (a b : List ℕ) → most_content < length b
    → joined written (a ++ b) ≡ None
unfolding joined within
none_behind None [] [] many = refl
none_behind (Some bytes) [] [] many = absurd (omega (arith, many))
none_behind None [] (y ∷ b) many = refl
none_behind (Some bytes) [] (y ∷ b) many = rw (lt-ltb most_content (length (bytes ++ y ∷ b))
    (omega (arith, length-append bytes (y ∷ b), many))) refl
none_behind None (x ∷ a) b many = refl
none_behind (Some bytes) (x ∷ a) b many = rw (lt-ltb most_content (length (bytes ++ x ∷ (a ++ b)))
    (omega (arith, length-append bytes (x ∷ (a ++ b)), length-append a b, many))) refl

alone_too_much : (b : List ℕ) → None ≡ joined (Some []) b → most_content < length b
unfolding joined
alone_too_much [] h = absurd (none-some [] h)
alone_too_much (y ∷ b) h = too_much (y ∷ b) (ltb most_content (length (y ∷ b))) refl (sym h)

-- a document of more bytes than its count can say
pub long_document : (written : Option (List ℕ)) (b : List ℕ) → 2147483647 < length b
    → joined written b ≡ None
long_document written b many = none_behind written [] b (omega (arith, many))

-- an envelope in a batch
pub batched_none : (written : Option (List ℕ)) (len : List ℕ) (kind : ℕ) (b : List ℕ)
    → None ≡ joined (Some []) b → joined written (len ++ kind ∷ b) ≡ None
batched_none written len kind b h =
    none_behind written len (kind ∷ b) (omega (arith, alone_too_much b h))

-- What is written into an output that was empty.

some_is : (a b : List ℕ) → ◌≡◌ {A = Option (List ℕ)} (Some a) (Some b) → a ≡ b
some_is a b e = cc

kept_by : (v bytes : List ℕ) (b : Bool) → ltb most_content (length bytes) ≡ b
    → Some v ≡ within bytes → (v ≡ bytes) × (length bytes ≤ most_content)
unfolding within
kept_by v bytes true is h = absurd (none-some v (sym (h ∙ rw is refl)))
kept_by v bytes false is h =
    (some_is v bytes (h ∙ rw is refl), ltb-false most_content (length bytes) is)

pub kept : (v bytes : List ℕ) → Some v ≡ joined (Some []) bytes
    → (v ≡ bytes) × (length bytes ≤ most_content)
unfolding joined
kept v [] h = (some_is v [] h, omega arith)
kept v (y ∷ bytes) h = kept_by v (y ∷ bytes) (ltb most_content (length (y ∷ bytes))) refl h

pub joined_nothing : (written : Option (List ℕ)) → joined written [] ≡ written
unfolding joined
joined_nothing written = refl

-- Things that are written one after the other, as a loop does.

pub each_goes_on : {A : Type 0} (f : A
    → List ℕ) (xs : List A) (i : ℕ) (d : A) (out next initial : Option (List ℕ))
    → i < length xs → joined out (flat_map f (drop i xs)) ≡ joined initial (flat_map f xs)
    → next ≡ joined out (f (get_or xs i d))
    → joined next (flat_map f (drop (i + 1) xs)) ≡ joined initial (flat_map f xs)
each_goes_on {A} f xs i d out next initial lt so_far is =
    let rest = flat_map f (drop (i + 1) xs) in
    ap (λ (w : Option (List ℕ)). joined w rest) is ∙ joined_twice out (f (get_or xs i d)) rest
    ∙ ap (λ (ys : List A). joined out (flat_map f ys)) (sym (drop_more xs i d lt)) ∙ so_far

pub each_ends : {A : Type 0} (f : A → List ℕ) (xs : List A) (i : ℕ) (out initial : Option (List ℕ))
    → length xs ≤ i → joined out (flat_map f (drop i xs)) ≡ joined initial (flat_map f xs)
    → out ≡ joined initial (flat_map f xs)
each_ends {A} f xs i out initial le so_far =
    sym (joined_nothing out)
    ∙ ap (λ (ys : List A). joined out (flat_map f ys)) (sym (drop_of_length-le xs le)) ∙ so_far

-- The frame of it.

pub makes_frame : (kind : ℕ) (v bytes : List ℕ) (f : Frame) → Some v ≡ joined (Some []) bytes
    → f ≡ frame_of kind v → Makes (frame_of kind bytes) (Ok f)
makes_frame kind v bytes f h is =
    let k = kept v bytes h in
    (is ∙ ap (frame_of kind) k.0, omega (arith, length_frame kind bytes, k.1))

pub makes_none : (kind : ℕ) (bytes : List ℕ) → None ≡ joined (Some []) bytes
    → Makes (frame_of kind bytes) (Err TooLarge)
makes_none kind bytes h = omega (arith, length_frame kind bytes, alone_too_much bytes h)
