-- A count of lines, byte by byte, and what was read of a schedule where it stops.
use Rattle.std.proofs.Common.{◌≡◌, ◌≢◌, ℕ, ◌+◌, ◌≤◌, ◌<◌, ◌==◌, not, List, [], ◌∷◌, ◌++◌, All}
use Rattle.std.proofs.Common.{length, take, drop, get_or, Option, Some, None, Ok, IfSome, refl, sym}
use Rattle.std.proofs.Common.{ap, subst, ◌∙◌, inl, inr, append_assoc, arith, add-one, length-append}
use Rattle.std.proofs.Common.{drop-cons}
use Rattle.std.proofs.Math.Seq.{take-append_seam}
use Rattle.std.proofs.lemmas.List.{append-nil, take-append-drop, take_more, length-take-le}
use Rattle.std.proofs.lemmas.Bool.{ne_eqb}
use Rattle.std.proofs.lemmas.List.Folds.{list_all-append}
use Rattle.std.proofs.lemmas.List.Elements.{All-nil, All-push}
use Rattle.outcomes.specs.Told.{WhereKnown}
use Rattle.outside_core.specs.declared.source.SourceErr.{SourceErr}
use Rattle.outside_core.specs.Bytes.{Came, ReadsBytes}
use Rattle.outside_core.proofs.Steps.{Reading, came_all, reading_end, reading_fresh, reading_more}
use Rattle.play_script.specs.declared.input.End.{End}
use Rattle.play_script.specs.declared.input.End.TheVariants.{Whole, LongLine, ManyLines}
use Rattle.play_script.specs.declared.input.LineCount.{LineCount}
use Rattle.play_script.specs.Lines.{Lacks, lines_of}
use Rattle.play_script.specs.Input.{AreWhole, BeginsLong, IsInput}
use Rattle.play_script.specs.Counting.{AreShort, Counted}
use Rattle.play_script.proofs.LineParts.{lines_of-nil, lines_of-ended, lines_of-last}
use Rattle.play_script.proofs.LineParts.{lines_of-append}

abbrev short : List ℕ → Type 0
short line = length line ≤ 100000000

-- one more byte that isn't the one
lacks_more : (byte : ℕ) (line : List ℕ) (x : ℕ) → Lacks byte line → x ≢ byte
    → Lacks byte (line ++ x ∷ [])
lacks_more byte line x lacks other = list_all-append (λ b. not (b == byte)) line (x ∷ [])
    ∙ rw (lacks, ne_eqb x byte other)

-- the whole lines are a front of all that is after them too
front_is : (bytes rest : List ℕ) (count : LineCount) (c : Counted bytes count)
    → take count.whole (bytes ++ rest) ≡ c.front
front_is bytes rest count c = ap (λ n. take n (bytes ++ rest)) (sym c.place)
    ∙ ap (λ b. take (length c.front) b) (ap (λ b. b ++ rest) c.parts
    ∙ append_assoc c.front c.last rest) ∙ take-append_seam c.front (c.last ++ rest)

-- nothing is counted yet
pub none_counted : Counted [] (record { ended = 0; whole = 0; tail = 0 })
none_counted = record {
  front = [];
  last = [];
  parts = refl;
  place = refl;
  whole = inl refl;
  ended = ap (λ (l : List (List ℕ)). length l) lines_of-nil;
  shorts = subst (All short) (sym lines_of-nil) (All-nil short);
  unended = refl;
  tail = refl;
  few = omega arith;
  short = omega arith;
  full = λ _. refl;
}

-- a line feed ends the line
line_ends : (bytes : List ℕ) (count : LineCount) → Counted bytes count
    → count.ended < 10000000 → Counted (bytes ++ 10
    ∷ []) (record { ended = count.ended + 1; whole = length bytes + 1; tail = 0 })
line_ends bytes count c fewer =
    let lines : lines_of (bytes ++ 10 ∷ []) ≡ lines_of c.front ++ c.last ∷ [] =
    ap (λ b. lines_of (b ++ 10 ∷ [])) c.parts ∙ ap lines_of (append_assoc c.front c.last (10 ∷ []))
    ∙ lines_of-append c.front (c.last ++ 10 ∷ []) c.whole
    ∙ ap (λ l. lines_of c.front ++ l) (lines_of-ended c.last [] c.unended
    ∙ ap (λ l. c.last ∷ l) lines_of-nil) in
    record {
      front = bytes ++ 10 ∷ [];
      last = [];
      parts = sym (append-nil (bytes ++ 10 ∷ []));
      place = omega (arith, length-append bytes (10 ∷ []));
      whole = inr (bytes, refl);
      ended = omega (
        arith,
        c.ended,
        ap (λ (l : List (List ℕ)). length l) lines,
        length-append (lines_of c.front) (c.last ∷ []),
      );
      shorts = subst (All short) (sym lines) (All-push short (lines_of c.front) c.last c.shorts
          (omega (arith, c.tail)));
      unended = refl;
      tail = refl;
      few = omega arith;
      short = omega arith;
      full = λ _. refl;
    }

-- another byte belongs to the line
line_goes_on : (bytes : List ℕ) (byte : ℕ) (count : LineCount) → Counted bytes count
    → count.ended < 10000000 → byte ≢ 10 → count.tail < 100000000 → Counted (bytes ++ byte
    ∷ []) (record { ended = count.ended; whole = count.whole; tail = count.tail + 1 })
line_goes_on bytes byte count c fewer other shorter = record {
  front = c.front;
  last = c.last ++ byte ∷ [];
  parts = ap (λ b. b ++ byte ∷ []) c.parts ∙ append_assoc c.front c.last (byte ∷ []);
  place = c.place;
  whole = c.whole;
  ended = c.ended;
  shorts = c.shorts;
  unended = lacks_more 10 c.last byte c.unended other;
  tail = omega (arith, c.tail, length-append c.last (byte ∷ []));
  few = c.few;
  short = omega arith;
  full = λ all. absurd (omega arith);
}

-- another byte of a line that is full: the line is too long
line_is_long : (bytes rest : List ℕ) (byte : ℕ) (count : LineCount)
    → Counted bytes count → count.ended < 10000000 → byte ≢ 10 → 100000000 ≤ count.tail
    → IsInput (bytes ++ byte ∷ rest) (take count.whole (bytes ++ byte ∷ rest)) LongLine
line_is_long bytes rest byte count c fewer other longer =
    let parts : bytes ++ byte ∷ rest ≡ c.front ++ (c.last ++ byte ∷ rest) =
    ap (λ b. b ++ byte ∷ rest) c.parts ∙ append_assoc c.front c.last (byte ∷ rest) in
    let front : take count.whole (bytes ++ byte ∷ rest) ≡ c.front =
    front_is bytes (byte ∷ rest) count c in
    let long : BeginsLong (c.last ++ byte ∷ rest) = record {
      long = c.last ++ byte ∷ [];
      behind = rest;
      parts = sym (append_assoc c.last (byte ∷ []) rest);
      unended = lacks_more 10 c.last byte c.unended other;
      many = omega (arith, c.tail, length-append c.last (byte ∷ []));
    } in
    subst (λ f. IsInput (bytes ++ byte ∷ rest) f LongLine) (sym front)
    (c.last ++ byte ∷ rest, parts, c.whole, omega (arith, c.ended), long)

-- a byte after the most lines
lines_are_many : (bytes rest : List ℕ) (byte : ℕ) (count : LineCount)
    → Counted bytes count → 10000000 ≤ count.ended
    → IsInput (bytes ++ byte ∷ rest) (take count.whole (bytes ++ byte ∷ rest)) ManyLines
lines_are_many bytes rest byte count c all =
    let full : count.ended ≡ 10000000 = omega (arith, c.few) in
    let none : c.last ≡ [] = c.full full in
    let parts : bytes ++ byte ∷ rest ≡ c.front ++ byte ∷ rest =
    ap (λ b. b ++ byte ∷ rest) (c.parts ∙ ap (λ l. c.front ++ l) none ∙ append-nil c.front) in
    let front : take count.whole (bytes ++ byte ∷ rest) ≡ c.front =
    front_is bytes (byte ∷ rest) count c in
    subst (λ f. IsInput (bytes ++ byte ∷ rest) f ManyLines) (sym front)
    (byte ∷ rest, parts, c.whole, c.ended ∙ full, omega arith)

-- the same of the byte at a place
byte_at : (bytes : List ℕ) (place : ℕ) → place < length bytes
    → bytes ≡ take place bytes ++ get_or bytes place 0 ∷ drop (place + 1) bytes
byte_at bytes place within = sym (take-append-drop place bytes)
    ∙ ap (λ l. take place bytes ++ l) (rw add-one (drop-cons bytes place 0 within))

pub front_short_at : (bytes : List ℕ) (place : ℕ) (count : LineCount)
    → Counted (take place bytes) count → AreShort (take count.whole bytes)
front_short_at bytes place count c =
    subst (λ b. AreShort (take count.whole b)) (take-append-drop place bytes)
    (subst AreShort (sym (front_is (take place bytes) (drop place bytes) count c)) c.shorts)

pub line_ends_at : (bytes : List ℕ) (place : ℕ) (count : LineCount)
    → place < length bytes → Counted (take place bytes) count → count.ended < 10000000
    → get_or bytes place 0 ≡ 10 → Counted (take (place + 1) bytes)
    (record { ended = count.ended + 1; whole = place + 1; tail = 0 })
line_ends_at bytes place count within c fewer feed =
    let long : length (take place bytes) ≡ place = length-take-le place bytes (omega arith) in
    let more : take place bytes ++ 10 ∷ [] ≡ take (place + 1) bytes =
    ap (λ b. take place bytes ++ b ∷ []) (sym feed) ∙ sym (take_more bytes place 0 within) in
    subst (λ n. Counted (take (place + 1) bytes)
    (record { ended = count.ended + 1; whole = n + 1; tail = 0 })) long
    (subst (λ b. Counted b
    (record { ended = count.ended + 1; whole = length (take place bytes) + 1; tail = 0 })) more
    (line_ends (take place bytes) count c fewer))

pub line_goes_on_at : (bytes : List ℕ) (place : ℕ) (count : LineCount)
    → place < length bytes → Counted (take place bytes) count → count.ended < 10000000
    → get_or bytes place 0 ≢ 10 → count.tail < 100000000 → Counted (take (place + 1) bytes)
    (record { ended = count.ended; whole = count.whole; tail = count.tail + 1 })
line_goes_on_at bytes place count within c fewer other shorter =
    subst (λ b.
    Counted b (record { ended = count.ended; whole = count.whole; tail = count.tail + 1 }))
    (sym (take_more bytes place 0 within))
    (line_goes_on (take place bytes) (get_or bytes place 0) count c fewer other shorter)

pub line_is_long_at : (bytes : List ℕ) (place : ℕ) (count : LineCount) → place < length bytes
    → Counted (take place bytes) count → count.ended < 10000000 → get_or bytes place 0 ≢ 10
    → 100000000 ≤ count.tail → IsInput bytes (take count.whole bytes) LongLine
line_is_long_at bytes place count within c fewer other longer =
    subst (λ b. IsInput b (take count.whole b) LongLine) (sym (byte_at bytes place within))
    (line_is_long (take place bytes) (drop (place + 1) bytes) (get_or bytes place 0) count c fewer
    other longer)

pub lines_are_many_at : (bytes : List ℕ) (place : ℕ) (count : LineCount)
    → place < length bytes → Counted (take place bytes) count → 10000000 ≤ count.ended
    → IsInput bytes (take count.whole bytes) ManyLines
lines_are_many_at bytes place count within c all =
    subst (λ b. IsInput b (take count.whole b) ManyLines) (sym (byte_at bytes place within))
    (lines_are_many (take place bytes) (drop (place + 1) bytes) (get_or bytes place 0) count c all)

-- what a source has left after the bytes leaves standing why the reading stopped
stopped_more : (bytes more front : List ℕ) (end : End) → IsInput bytes front end → end ≢ Whole
    → IsInput (bytes ++ more) front end
stopped_more bytes more front Whole stopped stops = absurd (stops refl)
stopped_more bytes more front LongLine stopped stops =
    let long = stopped.4 in (
      stopped.0 ++ more,
      ap (λ b. b ++ more) stopped.1 ∙ append_assoc front stopped.0 more,
      stopped.2,
      stopped.3,
      record {
        long = long.long;
        behind = long.behind ++ more;
        parts = ap (λ b. b ++ more) long.parts ∙ append_assoc long.long long.behind more;
        unended = long.unended;
        many = long.many;
      },
    )
stopped_more bytes more front ManyLines stopped stops = (
  stopped.0 ++ more,
  ap (λ b. b ++ more) stopped.1 ∙ append_assoc front stopped.0 more,
  stopped.2,
  stopped.3,
  omega (arith, stopped.4, length-append stopped.0 more),
)

-- where the reading stopped, there are no more whole lines than are played
pub few_stopped : (bytes front : List ℕ) (end : End) → IsInput bytes front end → end ≢ Whole
    → length (lines_of front) ≤ 10000000
few_stopped bytes front Whole stopped stops = absurd (stops refl)
few_stopped bytes front LongLine stopped stops = omega (arith, stopped.3)
few_stopped bytes front ManyLines stopped stops = omega (arith, stopped.3)

stopped_told : (left left' : Option (List ℕ)) (bytes front : List ℕ) (end : End)
    → Came left left' bytes → IsInput bytes front end → end ≢ Whole
    → WhereKnown left (λ input. IsInput input front end)
stopped_told None left' bytes front end came stopped stops = tt
stopped_told (Some left) left' bytes front end came stopped stops = subst (λ input.
    IsInput input front end) (sym came.2) (stopped_more bytes came.0 front end stopped stops)

pub told_stop : {a b : Option (List ℕ)} {mid : List ℕ} (c : Option (List ℕ))
    (bytes : List ℕ) (n : ℕ) (front kept : List ℕ) (end : End) → Reading a b [] mid
    → ReadsBytes {E = SourceErr} 65536 b c mid bytes (Ok n) → IsInput bytes front end → end ≢ Whole
    → kept ≡ front → WhereKnown a (λ input. IsInput input kept end)
told_stop {a} {b} {mid} c bytes n front kept end reading reads stopped stops same =
    subst (λ k. WhereKnown a (λ input. IsInput input k end)) (sym same) (stopped_told a c bytes
    front end (reading_fresh (reading_more 65536 n reading reads)) stopped stops)

-- a line that has not ended is one more
one_more : (front last : List ℕ) → AreWhole front → Lacks 10 last → 0 < length last
    → lines_of (front ++ last) ≡ lines_of front ++ last ∷ []
one_more front last whole unended some = lines_of-append front last whole
    ∙ ap (λ l. lines_of front ++ l) (lines_of-last last unended some)

-- after the most lines no line begins
few_lines_in : (front last : List ℕ) → AreWhole front → Lacks 10 last
    → length (lines_of front) ≤ 10000000 → (length (lines_of front) ≡ 10000000 → last ≡ [])
    → length (lines_of (front ++ last)) ≤ 10000000
few_lines_in front [] whole unended few full =
    subst (λ b. length (lines_of b) ≤ 10000000) (sym (append-nil front)) few
few_lines_in front (x ∷ xs) whole unended few full =
    let not_full : length (lines_of front) ≢ 10000000 = λ all. cc (full all) in
    omega (
      arith,
      not_full,
      ap (λ (l : List (List ℕ)). length l) (one_more front (x ∷ xs) whole unended (omega arith)),
      length-append (lines_of front) ((x ∷ xs) ∷ []),
    )

few_lines : (bytes : List ℕ) (count : LineCount) → Counted bytes count
    → length (lines_of bytes) ≤ 10000000
few_lines bytes count c =
    subst (λ b. length (lines_of b) ≤ 10000000) (sym c.parts) (few_lines_in c.front c.last c.whole
    c.unended (omega (arith, c.ended)) (λ all. c.full (sym c.ended ∙ all)))

short_lines_in : (front last : List ℕ) → AreWhole front → Lacks 10 last → AreShort front
    → length last ≤ 100000000 → AreShort (front ++ last)
short_lines_in front [] whole unended shorts within = subst AreShort (sym (append-nil front)) shorts
short_lines_in front (x ∷ xs) whole unended shorts within = subst (All short) (sym (one_more front
    (x ∷ xs) whole unended (omega arith))) (All-push short (lines_of front) (x ∷ xs) shorts within)

pub short_lines : (bytes : List ℕ) (count : LineCount) → Counted bytes count → AreShort bytes
short_lines bytes count c = subst AreShort (sym c.parts) (short_lines_in c.front c.last c.whole
    c.unended c.shorts (omega (arith, c.tail)))

-- all that came by the source's end is the input
whole_told : (left left' : Option (List ℕ)) (bytes : List ℕ) → Came left left' bytes
    → IfSome left' (λ l. l ≡ []) → length (lines_of bytes) ≤ 10000000
    → WhereKnown left (λ input. IsInput input bytes Whole)
whole_told None left' bytes came ends few = tt
whole_told (Some left) left' bytes came ends few =
    (sym (came_all (Some left) left' bytes came ends), few)

pub told_whole : {a b : Option (List ℕ)} {mid : List ℕ} (c : Option (List ℕ))
    (bytes : List ℕ) (n : ℕ) (count : LineCount) → Reading a b [] mid
    → ReadsBytes {E = SourceErr} 65536 b c mid bytes (Ok n) → n ≡ 0 → Counted mid count
    → WhereKnown a (λ input. IsInput input bytes Whole)
told_whole {a} {b} {mid} c bytes n count reading reads zero counted =
    let ends = reading_end b c mid bytes 65536 n reads zero (omega arith) in
    whole_told a c bytes (reading_fresh (reading_more 65536 n reading reads)) ends.2
    (subst (λ l. length (lines_of l) ≤ 10000000) (sym ends.0) (few_lines mid count counted))

pub few_whole : {mid : List ℕ} (b c : Option (List ℕ)) (bytes : List ℕ) (n : ℕ) (count : LineCount)
    → ReadsBytes {E = SourceErr} 65536 b c mid bytes (Ok n) → n ≡ 0 → Counted mid count
    → length (lines_of bytes) ≤ 10000000
few_whole {mid} b c bytes n count reads zero counted =
    subst (λ l. length (lines_of l) ≤ 10000000) (sym
    (reading_end b c mid bytes 65536 n reads zero (omega arith)).0) (few_lines mid count counted)

pub short_whole : {mid : List ℕ} (b c : Option (List ℕ)) (bytes : List ℕ) (n : ℕ)
    (count : LineCount) → ReadsBytes {E = SourceErr} 65536 b c mid bytes (Ok n) → n ≡ 0
    → Counted mid count → AreShort bytes
short_whole {mid} b c bytes n count reads zero counted = subst AreShort (sym
    (reading_end b c mid bytes 65536 n reads zero (omega arith)).0) (short_lines mid count counted)
