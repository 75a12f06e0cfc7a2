-- Lines of clients: each asks something or nothing, and the schedule that they are has no
-- configuration.
use Rattle.std.proofs.Common.{◌≡◌, ◌≤◌, ◌⊎◌, inl, inr, ℕ, Bool, true, false, cond, List, [], ◌∷◌}
use Rattle.std.proofs.Common.{◌++◌}
use Rattle.std.proofs.Common.{length, drop, take, nat_le, Option, Some, None, Result, Ok, Err, refl}
use Rattle.std.proofs.Common.{sym, ap, subst, ◌∙◌, arith}
use Rattle.std.specs.Prelude.{nat_eq, codes, ◌&&◌, ◌||◌, option_map, slice_get}
use Rattle.std.specs.Str.{bytes_eq}
use Rattle.std.specs.List.{list_all, starts_with}
use Rattle.std.proofs.lemmas.Bool.Decides.{Decides-eqb}
use Rattle.std.proofs.Math.Seq.{take-append_seam}
use Rattle.std.proofs.lemmas.Slice.Eq.{starts_is}
use Rattle.play_script.specs.Limits.{most_line}
use Rattle.play_script.specs.Lines.{asked_by, asked_in, mapped, read_of, line_of, words_ask, Asked}
use Rattle.play_script.specs.Lines.{Asks, IsBad}
use Rattle.play_script.specs.declared.line.Line.{Line}
use Rattle.play_script.specs.declared.line.Line.TheVariants as line
use Rattle.play_script.specs.declared.line.LineErr.{LineErr}
use Rattle.play_script.specs.declared.line.LineErr.TheVariants.{Form}
use Rattle.play_script.proofs.Cuts.{pieces_at, first_piece}
use Rattle.play_steps.specs.Lines.{AsksNoRestart, HaveNoRestart}
use Rattle.cluster_play.specs.declared.status.Status.{Status}
use Rattle.cluster_play.specs.Schedule.{Schedule, marker, up_to_marker, marked_by, enclosed}
use Rattle.cluster_play.specs.Schedule.{unmarked}
use Rattle.cluster_play.specs.Schedule.{schedule_of, player_of}
use Rattle.cluster_play.specs.Plays.{IsCalm}
use Rattle.course_laws.specs.Clients.{is_empty, is_of_client, AreOfClients, AllAsk}

-- What a client's line asks.

abbrev IsClients : Option Line → Type 0
IsClients None = Unit {0}
IsClients (Some (line.Client conn bytes)) = Unit {0}
IsClients (Some other) = ⊥

client_bytes : (r : Result (ℕ × List ℕ) LineErr)
    → IsClients (asked_by (mapped (λ (a : ℕ × List ℕ). line.Client a.0 a.1) r))
client_bytes (Ok a) = tt
client_bytes (Err why) = tt

-- the first word says it
client_words : (words : List (List ℕ)) → IsClients (asked_by (words_ask (codes "client" ∷ words)))
client_words [] = tt
client_words (first ∷ []) = tt
client_words (first ∷ second ∷ []) = client_bytes (asked_in first second)
client_words (first ∷ second ∷ third ∷ words) = tt

begins_as : (l : List ℕ) → starts_with nat_eq l (codes "client ") ≡ true
    → l ≡ codes "client " ++ drop 7 l
begins_as l begins =
    (starts_is Decides-eqb l (codes "client ") (starts_with nat_eq l (codes "client ")) refl).0
    begins

words_of : (l : List ℕ) → starts_with nat_eq l (codes "client ") ≡ true
    → IsClients (asked_by (words_ask (pieces_at 32 l)))
words_of l begins =
    let rest = drop 7 l in
    let words : pieces_at 32 l ≡ codes "client" ∷ pieces_at 32 rest =
    ap (pieces_at 32) (begins_as l begins) ∙ first_piece 32 (codes "client") rest refl in
    subst (λ (w : List (List ℕ)). IsClients (asked_by (words_ask w))) (sym words)
    (client_words (pieces_at 32 rest))

-- it asks something of a client, or nothing
abbrev pub AsksOrNot : List ℕ → Type 0
AsksOrNot l = ((a : Asked) × Asks l a) ⊎ (line_of l ≡ None)

by_option : (l : List ℕ) (o : Option Line) → line_of l ≡ o → IsClients o
    → length l ≤ most_line → AsksOrNot l
by_option l None is of short = inr is
by_option l (Some (line.Client conn bytes)) is of short =
    inl (record { connection = conn; bytes = bytes }, record { form = is; short = short })
by_option l (Some (line.Ask conn bytes)) is of short = absurd of
by_option l (Some (line.Gone conn)) is of short = absurd of
by_option l (Some (line.Deliver number)) is of short = absurd of
by_option l (Some (line.Lose number)) is of short = absurd of
by_option l (Some line.Settle) is of short = absurd of
by_option l (Some (line.Restart node)) is of short = absurd of
by_option l (Some (line.Resend node)) is of short = absurd of
by_option l (Some (line.Wall secs)) is of short = absurd of
by_option l (Some line.Dump) is of short = absurd of
by_option l (Some line.Log) is of short = absurd of

is_short : (n : ℕ) → nat_le n 100000000 ≡ true → n ≤ 100000000
is_short n is = grind arith

by_length : (l : List ℕ) (b : Bool) → nat_le (length l) 100000000 ≡ b
    → line_of l ≡ asked_by (cond b (words_ask (pieces_at 32 l)) (Err Form))
    → starts_with nat_eq l (codes "client ") ≡ true → AsksOrNot l
by_length l true few is begins =
    by_option l (asked_by (words_ask (pieces_at 32 l))) is (words_of l begins)
    (is_short (length l) few)
by_length l false few is begins = inr is

line_is : (l : List ℕ) → line_of l
    ≡ asked_by (cond (nat_le (length l) 100000000) (words_ask (pieces_at 32 l)) (Err Form))
unfolding read_of
line_is l = refl

either_true : (a b : Bool) → (a || b) ≡ true → (a ≡ true) ⊎ (b ≡ true)
either_true true b is = inl refl
either_true false b is = inr is

empty_is : (l : List ℕ) → is_empty l ≡ true → l ≡ []
empty_is [] is = refl
empty_is (b ∷ l) is = cc

empty_asks : line_of [] ≡ None
unfolding read_of
empty_asks = refl

pub asks_or_not : (l : List ℕ) → is_of_client l ≡ true → AsksOrNot l
asks_or_not l is = elim (either_true (starts_with nat_eq l (codes "client ")) (is_empty l) is) [
  | inl begins ↦ by_length l (nat_le (length l) 100000000) refl (line_is l) begins
  | inr empty ↦ inr (ap line_of (empty_is l empty) ∙ empty_asks)
]

not_some : (l : Line) → ◌≡◌ {A = Option Line} None (Some l) → ⊥
not_some l is = cc

pub none_bad : (l : List ℕ) → line_of l ≡ None → IsBad l
none_bad l none a asks = not_some (line.Client a.connection a.bytes) (sym none ∙ asks.form)

-- Lines.

both_true : (a b : Bool) → (a && b) ≡ true → (a ≡ true) × (b ≡ true)
both_true true b is = (refl, is)
both_true false b is = absurd (cc)

pub first_client : (l : List ℕ) (lines : List (List ℕ)) → AreOfClients (l ∷ lines)
    → (is_of_client l ≡ true) × AreOfClients lines
first_client l lines is = both_true (is_of_client l) (list_all is_of_client lines) is

no_marker : (l : List ℕ) → is_of_client l ≡ true → bytes_eq l marker ≡ false
no_marker l is = elim (either_true (starts_with nat_eq l (codes "client ")) (is_empty l) is) [
  | inl begins ↦ ap (λ (x : List ℕ). bytes_eq x marker) (begins_as l begins)
  | inr empty ↦ ap (λ (x : List ℕ). bytes_eq x marker) (empty_is l empty)
]

by_marker : (b : Bool) (one other : Result Schedule Status) → b ≡ false → cond b one other ≡ other
by_marker true one other is = cc
by_marker false one other is = refl

pub no_configuration : (lines : List (List ℕ)) → AreOfClients lines
    → schedule_of lines ≡ Ok (unmarked lines)
no_configuration [] is = refl
no_configuration (l ∷ lines) is = by_marker (bytes_eq l marker)
    (enclosed (option_map marked_by (up_to_marker lines))) (Ok (unmarked (l ∷ lines)))
    (no_marker l (first_client l lines is).0)

-- none of them asks for a restart

calm_line : (l : List ℕ) → AsksOrNot l → AsksNoRestart (line_of l)
calm_line l (inl one) = subst AsksNoRestart (sym one.1.form) tt
calm_line l (inr none) = subst AsksNoRestart (sym none) tt

clients_calm : (lines : List (List ℕ)) → AreOfClients lines → HaveNoRestart lines
clients_calm [] is = tt
clients_calm (l ∷ lines) is =
    let parts = first_client l lines is in
    (calm_line l (asks_or_not l parts.0), clients_calm lines parts.1)

pub ok_same : (s t : Schedule) → ◌≡◌ {A = Result Schedule Status} (Ok s) (Ok t) → s ≡ t
ok_same s t is = cc

pub unmarked_alone : (lines : List (List ℕ)) (s : Schedule) → AreOfClients lines
    → schedule_of lines ≡ Ok s → unmarked lines ≡ s
unmarked_alone lines s clients reads =
    ok_same (unmarked lines) s (sym (no_configuration lines clients) ∙ reads)

pub calm_of_clients : (lines : List (List ℕ)) (s : Schedule) → AreOfClients lines
    → schedule_of lines ≡ Ok s → IsCalm (player_of s)
calm_of_clients lines s clients reads = subst (λ (x : Schedule). IsCalm (player_of x))
    (unmarked_alone lines s clients reads) (clients_calm lines clients, refl)

pub ask_both : (xs ys : List (List ℕ)) → AllAsk xs → AllAsk ys → AllAsk (xs ++ ys)
ask_both [] ys all more = more
ask_both (x ∷ xs) ys all more = (all.0, ask_both xs ys all.1 more)

-- the front of lines, and the one after it

after_whole : (xs ys : List (List ℕ)) (y : List ℕ) → slice_get (xs ++ y ∷ ys) (length xs) ≡ Some y
after_whole [] ys y = refl
after_whole (x ∷ xs) ys y = after_whole xs ys y

pub front_of : (xs ys : List (List ℕ)) (n : ℕ) → n ≡ length xs → take n (xs ++ ys) ≡ xs
front_of xs ys n is = ap (λ (k : ℕ). take k (xs ++ ys)) is ∙ take-append_seam xs ys

pub after_front : (xs ys : List (List ℕ)) (y : List ℕ) (n : ℕ) → n ≡ length xs
    → slice_get (xs ++ y ∷ ys) n ≡ Some y
after_front xs ys y n is = ap (λ (k : ℕ). slice_get (xs ++ y ∷ ys) k) is ∙ after_whole xs ys y
