-- The writes of a record that was read rise, since its bytes have them so.
use Rattle.std.proofs.Common.{◌≡◌, ℕ, zero, suc, ◌+◌, ◌-◌, Bool, true, false, if◌then◌else◌, List}
use Rattle.std.proofs.Common.{[], ◌∷◌, ◌++◌, map, length, Option, Result, Ok, Err, refl, sym, ap}
use Rattle.std.proofs.Common.{subst, ◌∙◌, arith}
use Rattle.std.specs.Prelude.{slice_get}
use Rattle.std.specs.Bool.{◌==◌}
use Rattle.std.specs.Int.{w16, w32, w64}
use Rattle.std.specs.Ordering.{is_lt}
use Rattle.std.specs.declared.cmp.Ordering.{Ordering}
use Rattle.std.specs.declared.cmp.Ordering.TheVariants.{Less, Equal, Greater}
use Rattle.outcomes.specs.Bind.{◌>>=◌}
use Rattle.txn_types.specs.declared.write.Write.{Write}
use Rattle.txn_semantics.specs.Keyed.{Rises}
use Rattle.txn_semantics.specs.Writes.{place_of, place_cmp, placed}
use Rattle.txn_semantics.proofs.Laying.{above_trans}
use Rattle.txn_semantics.proofs.Places.{place_total, place_exact}
use Rattle.journal_rec.specs.Reading.{Found, number_of, tag_at, named_at, decision_at, parts_at}
use Rattle.journal_rec.specs.Reading.{zeros_at, byte_at, is_above, last_of, write_at, next_write_at}
use Rattle.journal_rec.specs.Reading.{each_write_at, writes_at, boot_at, ceiling_at, committed_at}
use Rattle.journal_rec.specs.Reading.{preparing_at, prepared_at, decided_at, coord_start_at}
use Rattle.journal_rec.specs.Reading.{coord_decision_at, coord_end_at, floor_at, fields_at}
use Rattle.journal_rec.specs.Reading.{if_whole, record_of}
use Rattle.journal_rec.specs.declared.error.RecErr.{RecErr}
use Rattle.journal_rec.specs.declared.error.RecErr.TheVariants.{Kind}
use Rattle.journal_rec.specs.declared.record.Rec.{Rec}
use Rattle.record_store.specs.Found.{read_then, records_from}
use Rattle.shard_image.specs.Sound.{IsWritten, AreWritten}

-- this holds of what was read, where something was
abbrev On : {A : Type 0} → (A → Type 0) → Result A RecErr → Type 0
On P (Ok a) = P a
On P (Err e) = Unit {0}

bind : {A B : Type 0} (P : A → Type 0) (Q : B → Type 0) (x : Result A RecErr) (f : A
    → Result B RecErr) → On P x → ((a : A) → P a → On Q (f a)) → On Q (x >>= f)
bind P Q (Ok a) f h next = next a h
bind P Q (Err e) f h next = tt

bind_any : {A B : Type 0} (Q : B → Type 0) (x : Result A RecErr) (f : A → Result B RecErr)
    → ((a : A) → On Q (f a)) → On Q (x >>= f)
bind_any Q (Ok a) f next = next a
bind_any Q (Err e) f next = tt

either_way : {B : Type 0} (Q : B → Type 0) (b : Bool) (x y : Result B RecErr) → On Q x → On Q y
    → On Q (if b then x else y)
either_way Q true x y h k = h
either_way Q false x y h k = k

-- Writes.

abbrev RiseBy : List Write → Type 0
RiseBy writes = Rises place_cmp (map placed writes)

less_of : (o : Ordering) → is_lt o ≡ true → o ≡ Less
less_of Less h = refl
less_of Equal h = absurd cc
less_of Greater h = absurd cc

last_again : (x y : Write) (front : List Write) → last_of (x ∷ y ∷ front) ≡ last_of (y ∷ front)
last_again x y front =
    let n : suc (suc (length front)) - 1 ≡ suc (length front) = omega arith in
    let m : suc (length front) - 1 ≡ length front = omega arith in
    ap (λ (k : ℕ). slice_get (x ∷ y ∷ front) k) n ∙ sym (ap (λ (k : ℕ). slice_get (y ∷ front) k) m)

push_rises : (front : List Write) (write : Write) → RiseBy front
    → is_above (last_of front) write ≡ true → RiseBy (front ++ write ∷ [])
push_rises [] write rises above = (tt, tt)
push_rises (x ∷ []) write rises above =
    ((less_of (place_cmp (place_of x) (place_of write)) above, tt), (tt, tt))
push_rises (x ∷ y ∷ front) write rises above =
    let more : RiseBy ((y ∷ front) ++ write ∷ []) = push_rises (y ∷ front) write rises.1
    (ap (λ (o : Option Write). is_above o write) (sym (last_again x y front)) ∙ above) in (
      (
        rises.0.0,
        above_trans place_cmp place_total place_exact (place_of x) (place_of y)
            (map placed (front ++ write ∷ [])) rises.0.0 more.0,
      ),
      more,
    )

above_case : (front : List Write) (write : Write) (rest : List ℕ) (e : RecErr) (b : Bool)
    → is_above (last_of front) write ≡ b → RiseBy front
    → On (λ (x : List Write × List ℕ). RiseBy x.0)
    (if b then Ok (front ++ write ∷ [], rest) else Err e)
above_case front write rest e true is rises = push_rises front write rises is
above_case front write rest e false is rises = tt

next_rises : (end : ℕ) (front : List Write) (bytes : List ℕ) → RiseBy front
    → On (λ (x : List Write × List ℕ). RiseBy x.0) (next_write_at end front bytes)
unfolding next_write_at
next_rises end front bytes rises =
    bind_any (λ (x : List Write × List ℕ). RiseBy x.0) (write_at end bytes) _ (λ write.
    above_case front write.0 write.1 _ (is_above (last_of front) write.0) refl rises)

each_rises : (n end : ℕ) (front : List Write) (bytes : List ℕ) → RiseBy front
    → On (λ (x : List Write × List ℕ). RiseBy x.0) (each_write_at n end front bytes)
unfolding each_write_at
each_rises zero end front bytes rises = rises
each_rises (suc n) end front bytes rises =
    bind (λ (x : List Write × List ℕ). RiseBy x.0) (λ (x : List Write × List ℕ). RiseBy x.0)
    (next_write_at end front bytes) _ (next_rises end front bytes rises)
    (λ x h. each_rises n end x.0 x.1 h)

writes_rise : (end : ℕ) (bytes : List ℕ)
    → On (λ (x : List Write × List ℕ). RiseBy x.0) (writes_at end bytes)
unfolding writes_at
writes_rise end bytes = bind_any (λ (x : List Write × List ℕ).
    RiseBy x.0) (number_of w32 bytes) _ (λ count. each_rises count.0 end [] count.1 tt)

-- Records.

abbrev IsRead : Rec × List ℕ → Type 0
IsRead x = IsWritten x.0

boot_is : (bytes : List ℕ) → On IsRead (boot_at bytes)
unfolding boot_at
boot_is bytes = bind_any IsRead (number_of w32 bytes) _ (λ boot. tt)

ceiling_is : (bytes : List ℕ) → On IsRead (ceiling_at bytes)
unfolding ceiling_at
ceiling_is bytes = bind_any IsRead (number_of w64 bytes) _ (λ bound. tt)

committed_is : (end : ℕ) (bytes : List ℕ) → On IsRead (committed_at end bytes)
unfolding committed_at
committed_is end bytes =
    bind_any IsRead (named_at end bytes) _ (λ named. bind_any IsRead (number_of w64 named.1) _
    (λ read_at. bind_any IsRead (number_of w64 read_at.1) _ (λ at.
    bind (λ (x : List Write × List ℕ). RiseBy x.0) IsRead (writes_at end at.1) _
    (writes_rise end at.1) (λ writes h. h))))

prepared_is : (end : ℕ) (bytes : List ℕ) → On IsRead (prepared_at end bytes)
unfolding prepared_at
prepared_is end bytes =
    bind_any IsRead (named_at end bytes) _ (λ named. bind_any IsRead (preparing_at named.1) _ (λ p.
    bind (λ (x : List Write × List ℕ). RiseBy x.0) IsRead (writes_at end p.1) _
    (writes_rise end p.1) (λ writes h. h)))

decided_is : (end : ℕ) (bytes : List ℕ) → On IsRead (decided_at end bytes)
unfolding decided_at
decided_is end bytes =
    bind_any IsRead (named_at end bytes) _ (λ named. bind_any IsRead (decision_at end named.1) _
    (λ decision. bind_any IsRead (zeros_at end 12 decision.1) _ (λ rest. tt)))

coord_start_is : (end : ℕ) (bytes : List ℕ) → On IsRead (coord_start_at end bytes)
unfolding coord_start_at
coord_start_is end bytes =
    bind_any IsRead (named_at end bytes) _ (λ named. bind_any IsRead (number_of w16 named.1) _
    (λ count. bind_any IsRead (parts_at count.0 [] count.1) _ (λ parts. tt)))

coord_decision_is : (end : ℕ) (bytes : List ℕ) → On IsRead (coord_decision_at end bytes)
unfolding coord_decision_at
coord_decision_is end bytes = bind_any IsRead (tag_at bytes) _ (λ tag.
    bind_any IsRead (decision_at end tag.1) _ (λ decision. tt))

coord_end_is : (bytes : List ℕ) → On IsRead (coord_end_at bytes)
unfolding coord_end_at
coord_end_is bytes = bind_any IsRead (tag_at bytes) _ (λ tag. tt)

floor_is : (bytes : List ℕ) → On IsRead (floor_at bytes)
unfolding floor_at
floor_is bytes = bind_any IsRead (number_of w64 bytes) _ (λ floor. tt)

fields_are : (kind end : ℕ) (bytes : List ℕ) → On IsRead (fields_at kind end bytes)
unfolding fields_at
fields_are kind end bytes =
    let nine : Found Rec = if kind == 9 then floor_at bytes else Err (Kind kind) in
    let nine_is : On IsRead nine =
    either_way IsRead (kind == 9) (floor_at bytes) (Err (Kind kind)) (floor_is bytes) tt in
    let eight : Found Rec = if kind == 8 then coord_end_at bytes else nine in
    let eight_is : On IsRead eight =
    either_way IsRead (kind == 8) (coord_end_at bytes) nine (coord_end_is bytes) nine_is in
    let seven : Found Rec = if kind == 7 then coord_decision_at end bytes else eight in
    let seven_is : On IsRead seven = either_way IsRead (kind
    == 7) (coord_decision_at end bytes) eight (coord_decision_is end bytes) eight_is in
    let six : Found Rec = if kind == 6 then coord_start_at end bytes else seven in
    let six_is : On IsRead six = either_way IsRead (kind
    == 6) (coord_start_at end bytes) seven (coord_start_is end bytes) seven_is in
    let five : Found Rec = if kind == 5 then decided_at end bytes else six in
    let five_is : On IsRead five =
    either_way IsRead (kind == 5) (decided_at end bytes) six (decided_is end bytes) six_is in
    let four : Found Rec = if kind == 4 then prepared_at end bytes else five in
    let four_is : On IsRead four = either_way IsRead (kind
    == 4) (prepared_at end bytes) five (prepared_is end bytes) five_is in
    let three : Found Rec = if kind == 3 then committed_at end bytes else four in
    let three_is : On IsRead three = either_way IsRead (kind
    == 3) (committed_at end bytes) four (committed_is end bytes) four_is in
    let two : Found Rec = if kind == 2 then ceiling_at bytes else three in
    let two_is : On IsRead two =
    either_way IsRead (kind == 2) (ceiling_at bytes) three (ceiling_is bytes) three_is in
    let one : Found Rec = if kind == 1 then boot_at bytes else two in
    let one_is : On IsRead one =
    either_way IsRead (kind == 1) (boot_at bytes) two (boot_is bytes) two_is in
    one_is

whole_is : (end : ℕ) (r : Rec) (rest : List ℕ) → IsWritten r → On IsWritten (if_whole end r rest)
whole_is end r [] h = h
whole_is end r (byte ∷ rest) h = tt

record_is : (bytes : List ℕ) → On IsWritten (record_of bytes)
unfolding record_of
record_is bytes =
    bind_any IsWritten (byte_at bytes) _ (λ kind.
    bind IsRead IsWritten (fields_at kind.0 (length bytes) kind.1) _
    (fields_are kind.0 (length bytes) kind.1) (λ r h. whole_is (length bytes) r.0 r.1 h))

pub record_written : (bytes : List ℕ) (r : Rec) → record_of bytes ≡ Ok r → IsWritten r
record_written bytes r is = subst (λ (x : Result Rec RecErr). On IsWritten x) is (record_is bytes)

all_case : (number : ℕ) (payload : List ℕ) (recs : List Rec) (x : Result Rec RecErr)
    (y : Result (List Rec) ℕ) → record_of payload ≡ x
    → ((rest : List Rec) → y ≡ Ok rest → AreWritten rest) → read_then number x y ≡ Ok recs
    → AreWritten recs
all_case number payload recs (Err e) y is more h = absurd cc
all_case number payload recs (Ok r) (Err index) is more h = absurd cc
all_case number payload [] (Ok r) (Ok rest) is more h = tt
all_case number payload (q ∷ recs) (Ok r) (Ok rest) is more h =
    let same : r ≡ q = cc in
    let left : rest ≡ recs = cc in (
      record_written payload q (is ∙ ap (λ (s : Rec). Ok s) same),
      more recs (ap (λ (l : List Rec). Ok l) left),
    )

pub all_written : (number : ℕ) (payloads : List (List ℕ)) (recs : List Rec)
    → records_from number payloads ≡ Ok recs → AreWritten recs
all_written number [] [] h = tt
all_written number [] (r ∷ recs) h = absurd cc
all_written number (payload ∷ payloads) recs h =
    all_case number payload recs (record_of payload) (records_from (number + 1) payloads) refl
    (λ rest is. all_written (number + 1) payloads rest is) h
