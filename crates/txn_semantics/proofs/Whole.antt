-- The meaning over all rows from the meanings over the parts.
use Rattle.std.proofs.Common.{◌≡◌, ◌<◌, ◌≤◌, ◌⊎◌, ℕ, List, [], ◌∷◌, ◌+◌, Bool, true, false, cond}
use Rattle.std.proofs.Common.{not, refl, ap, ap₂, subst, ◌∙◌, sym, filter, map, Ok, Err, Option}
use Rattle.std.proofs.Common.{Some, None, if◌then◌else◌, inl, inr, arith, nat_eq}
use Rattle.std.specs.declared.cmp.Ordering.TheVariants.{Less, Equal, Greater}
use Rattle.std.specs.Cmp.{IsTotalOrder, nat_cmp_is}
use Rattle.std.specs.Ordering.{ordering_reverse, ordering_then, nat_cmp, is_lt}
use Rattle.std.proofs.lemmas.Cmp.{then_total, on_total, nat_cmp_total}
use Rattle.outcomes.proofs.Binding.{ok_is}
use Rattle.txn_types.specs.declared.id.Id.{Id}
use Rattle.txn_types.specs.declared.operation.Op.{Op}
use Rattle.txn_types.specs.declared.operation.Op.TheVariants.{Insert, Find, Update, Delete}
use Rattle.txn_types.specs.declared.operation.OpReply.{OpReply}
use Rattle.txn_types.specs.declared.operation.OpReply.TheVariants.{Count}
use Rattle.txn_types.specs.declared.operation.OpErr.{OpErr}
use Rattle.txn_types.specs.declared.write.Write.{Write}
use Rattle.txn_types.specs.declared.operation.InsertItem.{InsertItem}
use Rattle.txn_types.specs.declared.operation.UpdateItem.{UpdateItem}
use Rattle.txn_types.specs.declared.operation.DeleteItem.{DeleteItem}
use Rattle.txn_semantics.specs.Effect.{DocumentRules, Done, Doing, through, insert_step}
use Rattle.txn_semantics.specs.Effect.{update_step, delete_step, without, matching}
use Rattle.txn_semantics.specs.Found.{joined, merged}
use Rattle.txn_semantics.specs.Meaning.{capped, eval_by, Meaning, meaning_of, put_of, removed_of}
use Rattle.txn_semantics.specs.Meaning.{count_met, count_both, rows_of, reply_of, writes_of}
use Rattle.txn_semantics.specs.Merge.{capped_sum, n_of, modified_of, found_of, merge_counts}
use Rattle.txn_semantics.specs.Merge.{merge_by}
use Rattle.txn_semantics.specs.Rows.{Row, at, laid_over, IsRising, holds_id}
use Rattle.txn_semantics.specs.Splits.{here, OnDone, Along, OneMeetsOne, times, AreOnce, err_cmp}
use Rattle.txn_semantics.specs.Splits.{lesser, least_err, replies, outcome, goes, written_id}
use Rattle.txn_semantics.specs.Splits.{GoOnce, Meets, IsSplit, parts_of, AreWrites, WritesSplit}
use Rattle.txn_semantics.specs.Splits.{RepliesMerge, keyed, WritesJoin}
use Rattle.txn_semantics.proofs.Good.{IsGood, through_good, along_good, AllItems, update_good}
use Rattle.txn_semantics.proofs.Good.{delete_good, insert_good, all_laid, all_filter, at_own}
use Rattle.txn_semantics.proofs.Halves.{part, NotBefore, SplitsTo}
use Rattle.txn_semantics.proofs.Joins.{writes_join, rising_keyed}
use Rattle.txn_semantics.proofs.Merged.{AllIds, finds_merge, found_by}
use Rattle.txn_semantics.proofs.Parts.{at-laid, rising_laid}
use Rattle.txn_semantics.proofs.Steps.{updates_split, deletes_split, inserts_split}
use Rattle.txn_semantics.proofs.Totals.{counts_merge, AreNamed}
use Rattle.txn_types.specs.Order.{id_cmp}
use Rattle.txn_types.proofs.Orders.{id_total}

-- lists
map_same : {X Y : Type 0} (f g : X → Y) → ((x : X) → f x ≡ g x) → (xs : List X)
    → map f xs ≡ map g xs
map_same f g h [] = refl
map_same f g h (x ∷ xs) = ap₂ (λ (y : _) ys. y ∷ ys) (h x) (map_same f g h xs)

map_twice : {X Y Z : Type 0} (f : Y → Z) (g : X → Y) (xs : List X)
    → map f (map g xs) ≡ map (λ x. f (g x)) xs
map_twice f g [] = refl
map_twice f g (x ∷ xs) = ap (λ ys. f (g x) ∷ ys) (map_twice f g xs)

none_least : (k : ℕ → OpReply × List Write) (shards : List ℕ)
    → least_err (map (λ s. Ok (k s)) shards) ≡ None
none_least k [] = refl
none_least k (s ∷ shards) = none_least k shards

all_replies : (k : ℕ → OpReply × List Write) (shards : List ℕ)
    → replies (map (λ s. Ok (k s)) shards) ≡ map (λ s. (k s).0) shards
all_replies k [] = refl
all_replies k (s ∷ shards) = ap (λ rs. (k s).0 ∷ rs) (all_replies k shards)

told_ok : (w : DocumentRules) (op : Op) (k : ℕ → OpReply × List Write) (shards : List ℕ)
    → outcome w op (map (λ s. Ok (k s)) shards) ≡ Ok (merge_by w op (map (λ s. (k s).0) shards))
told_ok w op k shards =
    ap (λ o. elim o
    [ None ↦ Ok (merge_by w op (replies (map (λ s. Ok (k s)) shards))) | Some e ↦ Err e ])
    (none_least k shards)
    ∙ ap (λ rs. Ok (merge_by w op rs)) (all_replies k shards)

-- the least error
err_total : IsTotalOrder err_cmp
err_total = then_total (on_total (λ (e : OpErr). e.index) nat_cmp_total)
    (on_total (λ (e : OpErr). e.id) id_total)

abbrev IsFine : OpErr → Meaning → Type 0
IsFine e (Ok m) = Unit {0}
IsFine e (Err f) = (f ≡ e) ⊎ (err_cmp e f ≡ Less)

abbrev IsFineLeast : OpErr → Option OpErr → Type 0
IsFineLeast e None = Unit {0}
IsFineLeast e (Some f) = (f ≡ e) ⊎ (err_cmp e f ≡ Less)

either_way : (b : Bool) (e f : OpErr) → f ≡ e → (if b then f else e) ≡ e
either_way true e f h = h
either_way false e f h = refl

either_way' : (b : Bool) (e f : OpErr) → f ≡ e → (if b then e else f) ≡ e
either_way' true e f h = refl
either_way' false e f h = h

lesser_than : (e : OpErr) (o : Option OpErr) → IsFineLeast e o → lesser e o ≡ e
lesser_than e None h = refl
lesser_than e (Some f) (inl h) = either_way (is_lt (err_cmp f e)) e f h
lesser_than e (Some f) (inr h) = let greater : err_cmp f e ≡ Greater = err_total.antisymm f e
    ∙ ap ordering_reverse h in ap (λ o. if is_lt o then f else e) greater

lesser_of : (e f : OpErr) → (f ≡ e) ⊎ (err_cmp e f ≡ Less) → lesser f (Some e) ≡ e
lesser_of e f (inl h) = either_way' (is_lt (err_cmp e f)) e f h
lesser_of e f (inr h) = ap (λ o. if is_lt o then e else f) h

fine_if : (e f x : OpErr) (b : Bool) → (f ≡ e) ⊎ (err_cmp e f ≡ Less)
    → (x ≡ e) ⊎ (err_cmp e x ≡ Less) → IsFineLeast e (Some (if b then x else f))
fine_if e f x true h g = g
fine_if e f x false h g = h

fine_lesser : (e f : OpErr) (o : Option OpErr) (b : Bool) → (f ≡ e) ⊎ (err_cmp e f ≡ Less)
    → IsFineLeast e o → IsFineLeast e (Some (lesser f o))
fine_lesser e f None b h g = h
fine_lesser e f (Some x) b h g = fine_if e f x (is_lt (err_cmp x f)) h g

fine_cons : (e : OpErr) (m : Meaning) (rest : List Meaning) → IsFine e m
    → IsFineLeast e (least_err rest) → IsFineLeast e (least_err (m ∷ rest))
fine_cons e (Ok k) rest h g = g
fine_cons e (Err f) rest h g = fine_lesser e f (least_err rest) true h g

fine_least : (e : OpErr) (m : ℕ → Meaning) → ((s : ℕ) → IsFine e (m s)) → (shards : List ℕ)
    → IsFineLeast e (least_err (map m shards))
fine_least e m fine [] = tt
fine_least e m fine (s ∷ shards) =
    fine_cons e (m s) (map m shards) (fine s) (fine_least e m fine shards)

least_here : (e : OpErr) (m : Meaning) (rest : List Meaning) → m ≡ Err e
    → IsFineLeast e (least_err rest) → least_err (m ∷ rest) ≡ Some e
least_here e m rest is fine = ap (λ k. least_err (k ∷ rest)) is
    ∙ ap Some (lesser_than e (least_err rest) fine)

least_later : (e : OpErr) (m : Meaning) (rest : List Meaning) → IsFine e m → least_err rest ≡ Some e
    → least_err (m ∷ rest) ≡ Some e
least_later e (Ok k) rest fine h = h
least_later e (Err f) rest fine h = ap (λ o. Some (lesser f o)) h ∙ ap Some (lesser_of e f fine)

least_case : (e : OpErr) (k : ℕ) (m : ℕ → Meaning) (s : ℕ) (shards : List ℕ) (b : Bool)
    → nat_eq k s ≡ b → ((s : ℕ) → IsFine e (m s)) → ((s : ℕ) → nat_eq k s ≡ true → m s ≡ Err e)
    → 1 ≤ (if b then 1 else 0) + times k shards → (1 ≤ times k shards
    → least_err (map m shards) ≡ Some e) → least_err (m s ∷ map m shards) ≡ Some e
least_case e k m s shards true is fine there h more =
    least_here e (m s) (map m shards) (there s is) (fine_least e m fine shards)
least_case e k m s shards false is fine there h more =
    least_later e (m s) (map m shards) (fine s) (more (omega (arith, h)))

least_is : (e : OpErr) (k : ℕ) (m : ℕ → Meaning) → ((s : ℕ) → IsFine e (m s))
    → ((s : ℕ) → nat_eq k s ≡ true → m s ≡ Err e) → (shards : List ℕ) → 1 ≤ times k shards
    → least_err (map m shards) ≡ Some e
least_is e k m fine there [] h = absurd (omega (arith, h))
least_is e k m fine there (s ∷ shards) h =
    least_case e k m s shards (nat_eq k s) refl fine there h (least_is e k m fine there shards)

told_err : (w : DocumentRules) (op : Op) (e : OpErr) (parts : List Meaning)
    → least_err parts ≡ Some e → outcome w op parts ≡ Err e
told_err w op e parts h =
    ap (λ o. elim o [ None ↦ Ok (merge_by w op (replies parts)) | Some e ↦ Err e ]) h

-- what is known of a whole and its parts
record Cores (place : Id → ℕ) (shards : List ℕ) (whole : Doing) (parts : ℕ → Doing) : Type 0 where
  splits : (s : ℕ) → SplitsTo (here place s) whole (parts s)
  good : IsGood (λ id. times (place id) shards ≡ 1) whole
  home : (s : ℕ) → IsGood (λ id. here place s id ≡ true) (parts s)

less_of : (a b : ℕ) → a < b → nat_cmp a b ≡ Less
less_of a b h = sym (nat_cmp_is a b Less h)

same_of : (a b : ℕ) → a ≡ b → nat_cmp a b ≡ Equal
same_of a b h = sym (nat_cmp_is a b Equal h)

abbrev err_or : OpErr → Doing → OpErr
err_or e (Ok d) = e
err_or e (Err f) = f

err_is : (f e : OpErr) → ◌≡◌ {A = Doing} (Err f) (Err e) → f ≡ e
err_is f e h = ap (err_or e) h

fine_of : (place : Id → ℕ) (s : ℕ) (e : OpErr) (reply : Done → OpReply) (write : Row
    → Write) (r : Doing) → (here place s e.id ≡ true → r ≡ Err e) → NotBefore e r
    → IsGood (λ id. here place s id ≡ true) r → IsFine e (meaning_of reply write r)
fine_of place s e reply write (Ok d) there before home = tt
fine_of place s e reply write (Err f) there (inl h) home =
    inr (ap (λ o. ordering_then o (id_cmp e.id f.id)) (less_of e.index f.index h))
fine_of place s e reply write (Err f) there (inr (i, inl h)) home =
    inr (ap (λ o. ordering_then o (id_cmp e.id f.id)) (same_of e.index f.index i) ∙ h)
fine_of place s e reply write (Err f) there (inr (i, inr h)) home =
    let same : ◌≡◌ {A = Doing} (Err f) (Err e) = there (ap (here place s) h ∙ home) in
    inl (err_is f e same)

once_of_all : (place : Id → ℕ) (shards : List ℕ) (rows : List Row)
    → AllIds (λ id. times (place id) shards ≡ 1) rows → AreOnce place shards rows
once_of_all place shards [] h = tt
once_of_all place shards (row ∷ rows) h = (h.0, once_of_all place shards rows h.1)

all_of_once : (place : Id → ℕ) (shards : List ℕ) (rows : List Row) → AreOnce place shards rows
    → AllIds (λ id. times (place id) shards ≡ 1) rows
all_of_once place shards [] h = tt
all_of_once place shards (row ∷ rows) h = (h.0, all_of_once place shards rows h.1)

named_of_once : (place : Id → ℕ) (shards : List ℕ) (rows : List Row) → AreOnce place shards rows
    → AreNamed place shards rows
named_of_once place shards [] h = tt
named_of_once place shards (row ∷ rows) h =
    (omega (arith, h.0), named_of_once place shards rows h.1)

zeros : (shards : List ℕ) → capped_sum (map (λ _. 0) shards) ≡ 0
zeros [] = refl
zeros (s ∷ shards) = ap (λ n. capped (0 + n)) (zeros shards) ∙ omega arith

abbrev CountsMerge : (Done → OpReply) → Type 0
CountsMerge reply = (place : Id → ℕ) (shards : List ℕ) (d : Done)
    → AllIds (λ id. times (place id) shards ≡ 1) d.met
    → AllIds (λ id. times (place id) shards ≡ 1) d.changed
    → merge_counts (map (λ s. reply (part (here place s) d)) shards) ≡ reply d

merge_met : CountsMerge count_met
merge_met place shards d hm hc =
    ap₂ (λ (n : ℕ) m. Count n m)
    (ap capped_sum (map_twice n_of (λ s. count_met (part (here place s) d)) shards)
    ∙ counts_merge place shards d.met (once_of_all place shards d.met hm))
    (ap capped_sum (map_twice modified_of (λ s. count_met (part (here place s) d)) shards)
    ∙ zeros shards)

merge_both : CountsMerge count_both
merge_both place shards d hm hc =
    ap₂ (λ (n : ℕ) m. Count n m)
    (ap capped_sum (map_twice n_of (λ s. count_both (part (here place s) d)) shards)
    ∙ counts_merge place shards d.met (once_of_all place shards d.met hm))
    (ap capped_sum (map_twice modified_of (λ s. count_both (part (here place s) d)) shards)
    ∙ counts_merge place shards d.changed (once_of_all place shards d.changed hc))

-- replies and errors
counts_told : (w : DocumentRules) (op : Op) (place : Id → ℕ) (shards : List ℕ)
    (reply : Done → OpReply) (write : Row → Write) (whole : Doing) (parts : ℕ → Doing)
    → ((rs : List OpReply) → merge_by w op rs ≡ merge_counts rs) → CountsMerge reply
    → Cores place shards whole parts
    → reply_of (meaning_of reply write whole)
    ≡ outcome w op (map (λ s. meaning_of reply write (parts s)) shards)
counts_told w op place shards reply write (Ok d) parts merges counts cores =
    sym (ap (outcome w op) (map_same (λ s. meaning_of reply write (parts s)) (λ s.
    Ok (reply (part (here place s) d), map write (laid_over [] (at (here place s) d.changed))))
    (λ s. ap (meaning_of reply write) (cores.splits s)) shards)
    ∙ told_ok w op (λ s.
    (reply (part (here place s) d), map write (laid_over [] (at (here place s) d.changed))))
    shards
    ∙ ap Ok (merges (map (λ s. reply (part (here place s) d)) shards)
    ∙ counts place shards d (cores.good).0 (cores.good).1))
counts_told w op place shards reply write (Err e) parts merges counts cores =
    sym (told_err w op e (map (λ s. meaning_of reply write (parts s)) shards)
    (least_is e (place e.id) (λ s. meaning_of reply write (parts s))
    (λ s. fine_of place s e reply write (parts s) (cores.splits s).0 (cores.splits s).1
    (cores.home s))
    (λ s is. ap (meaning_of reply write) ((cores.splits s).0 is)) shards
    (omega (arith, cores.good))))

-- writes
fmw_case : (p : Id → Bool) (write : Row → Write) (row : Row) (rows : List Row) (b : Bool)
    → map write (cond b (row ∷ at p rows) (at p rows))
    ≡ cond b (write row ∷ map write (at p rows)) (map write (at p rows))
fmw_case p write row rows true = refl
fmw_case p write row rows false = refl

filter_map_write : (p : Id → Bool) (write : Row → Write)
    → ((row : Row) → written_id (write row) ≡ row.0) → (rows : List Row)
    → map write (at p rows) ≡ filter (λ wr. p (written_id wr)) (map write rows)
filter_map_write p write h [] = refl
filter_map_write p write h (row ∷ rows) = fmw_case p write row rows (p row.0) ∙ ap₂ (λ b ws.
    cond b (write row ∷ ws) ws) (ap p (sym (h row))) (filter_map_write p write h rows)

abbrev ok_or : OpReply × List Write → Meaning → OpReply × List Write
ok_or x (Ok y) = y
ok_or x (Err e) = x

writes_told : (place : Id → ℕ) (reply : Done → OpReply) (write : Row
    → Write) (whole : Doing) (parts : ℕ → Doing) → ((row : Row) → written_id (write row) ≡ row.0)
    → ((s : ℕ) → SplitsTo (here place s) whole (parts s))
    → (m : OpReply × List Write) → meaning_of reply write whole ≡ Ok m → (s : ℕ)
    → AreWrites (here place s) m.1 (meaning_of reply write (parts s))
writes_told place reply write (Ok d) parts ids splits m is s =
    let one : (reply d, map write (laid_over [] d.changed)) ≡ m =
    ok_is (reply d, map write (laid_over [] d.changed)) m is in
    subst (λ k. AreWrites (here place s) k.1 (meaning_of reply write (parts s))) one
    (subst (λ r. AreWrites (here place s) (map write (laid_over [] d.changed))
    (meaning_of reply write r)) (sym (splits s))
    (ap (map write) (sym (at-laid (here place s) [] d.changed tt))
    ∙ filter_map_write (here place s) write ids (laid_over [] d.changed)))
writes_told place reply write (Err e) parts ids splits m is s = cc

-- the kinds of operations
weaker_done : (r : Doing) (P Q : Done → Type 0) → ((d : Done) → P d → Q d) → OnDone r P → OnDone r Q
weaker_done (Ok d) P Q f h = f d h
weaker_done (Err e) P Q f h = tt

along_weaker : {I : Type 0} (P Q : I → List Row → Type 0) (step : I
    → List Row → Doing) (left : List Row → List Row → List Row)
    → ((item : I) (rows : List Row) → P item rows → Q item rows)
    → (items : List I) (rows : List Row) → Along P step left items rows
    → Along Q step left items rows
along_weaker P Q step left f [] rows h = tt
along_weaker P Q step left f (item ∷ items) rows h = (
  f item rows h.0,
  weaker_done (step item rows) (λ d. Along P step left items (left rows d.changed))
      (λ d. Along Q step left items (left rows d.changed))
      (λ d. along_weaker P Q step left f items (left rows d.changed)) h.1,
)

all_items : {I : Type 0} (Q : I → Type 0) → ((item : I) → Q item) → (items : List I)
    → AllItems Q items
all_items Q f [] = tt
all_items Q f (item ∷ items) = (f item, all_items Q f items)

update_cores : (w : DocumentRules) (place : Id
    → ℕ) (shards : List ℕ) (ns : List ℕ) (items : List UpdateItem) (rows : List Row) → IsRising rows
    → IsSplit w place shards (Update ns items) rows
    → Cores place shards (through (update_step w) laid_over items rows)
    (λ s. through (update_step w) laid_over items (at (here place s) rows))
update_cores w place shards ns items rows rising split = record {
  splits = λ s. updates_split w place s items rows rising split.0
      (along_weaker (λ item rows. Meets w place shards item.many (matching w item.filter rows))
      (λ item rows. OneMeetsOne place item.many (matching w item.filter rows)) (update_step w)
      laid_over (λ item rows h. h.0) items rows split.1);
  good = through_good (λ id. times (place id) shards ≡ 1) (λ item rows.
      Meets w place shards item.many (matching w item.filter rows)) (update_step w) laid_over
      (λ item rows h. update_good (λ id. times (place id) shards ≡ 1) w item rows
      (all_of_once place shards (matching w item.filter rows) h.1)) items rows split.1;
  home = λ s. through_good (λ id. here place s id ≡ true) (λ item rows. Unit {0}
      × AllIds (λ id. here place s id ≡ true) rows) (update_step w) laid_over
      (λ item rows h. update_good (λ id. here place s id ≡ true) w item rows
      (all_filter (λ id. here place s id ≡ true) (λ row. w.matches item.filter row.1) rows h.1))
      items (at (here place s) rows)
      (along_good (λ id. here place s id ≡ true) (λ _. Unit {0}) (update_step w) laid_over
      (all_laid (λ id. here place s id ≡ true))
      (λ item rows h. update_good (λ id. here place s id ≡ true) w item rows
      (all_filter (λ id. here place s id ≡ true) (λ row. w.matches item.filter row.1) rows h.1))
      items (at (here place s) rows) (all_items (λ _. Unit {0}) (λ _. tt) items)
      (at_own (here place s) rows));
}

delete_cores : (w : DocumentRules) (place : Id
    → ℕ) (shards : List ℕ) (ns : List ℕ) (items : List DeleteItem) (rows : List Row) → IsRising rows
    → IsSplit w place shards (Delete ns items) rows
    → Cores place shards (through (delete_step w) without items rows)
    (λ s. through (delete_step w) without items (at (here place s) rows))
delete_cores w place shards ns items rows rising split = record {
  splits = λ s. deletes_split w place s items rows rising split.0
      (along_weaker (λ item rows. Meets w place shards item.many (matching w item.filter rows))
      (λ item rows. OneMeetsOne place item.many (matching w item.filter rows)) (delete_step w)
      without (λ item rows h. h.0) items rows split.1);
  good = through_good (λ id. times (place id) shards ≡ 1) (λ item rows.
      Meets w place shards item.many (matching w item.filter rows)) (delete_step w) without
      (λ item rows h. delete_good (λ id. times (place id) shards ≡ 1) w item rows
      (all_of_once place shards (matching w item.filter rows) h.1)) items rows split.1;
  home = λ s. through_good (λ id. here place s id ≡ true) (λ item rows. Unit {0}
      × AllIds (λ id. here place s id ≡ true) rows) (delete_step w) without
      (λ item rows h. delete_good (λ id. here place s id ≡ true) w item rows
      (all_filter (λ id. here place s id ≡ true) (λ row. w.matches item.filter row.1) rows h.1))
      items (at (here place s) rows)
      (along_good (λ id. here place s id ≡ true) (λ _. Unit {0}) (delete_step w)
      without (λ rows changed h g. all_filter (λ id. here place s id ≡ true)
      (λ row. not (holds_id row.0 changed)) rows h)
      (λ item rows h. delete_good (λ id. here place s id ≡ true) w item rows
      (all_filter (λ id. here place s id ≡ true) (λ row. w.matches item.filter row.1) rows h.1))
      items (at (here place s) rows) (all_items (λ _. Unit {0}) (λ _. tt) items)
      (at_own (here place s) rows));
}

anyway : (r : Doing) (P : Done → Type 0) → ((d : Done) → P d) → OnDone r P
anyway (Ok d) P f = f d
anyway (Err e) P f = tt

along_items : {I : Type 0} (Q : I → Type 0) (step : I → List Row → Doing) (left : List Row
    → List Row → List Row) (items : List I) (rows : List Row) → AllItems Q items
    → Along (λ item rows. Q item) step left items rows
along_items Q step left [] rows h = tt
along_items Q step left (item ∷ items) rows h = (
  h.0,
  anyway (step item rows) (λ d. Along (λ item rows. Q item) step left items (left rows d.changed))
      (λ d. along_items Q step left items (left rows d.changed) h.1),
)

abbrev HasId : DocumentRules → (Id → Type 0) → InsertItem → Type 0
HasId w G item = (id : Id) → w.id_in item.doc ≡ Some id → G id

items_of : (w : DocumentRules) (place : Id → ℕ) (shards : List ℕ) (items : List InsertItem)
    → GoOnce w place shards items → AllItems (HasId w (λ id. times (place id) shards ≡ 1)) items
items_of w place shards [] h = tt
items_of w place shards (item ∷ items) h = (h.0, items_of w place shards items h.1)

going_case : (w : DocumentRules) (p : Id → Bool) (item : InsertItem) (items : List InsertItem)
    (b : Bool) → goes w p item ≡ b → AllItems (HasId w (λ id. p id ≡ true)) items
    → AllItems (HasId w (λ id. p id ≡ true)) (cond b (item ∷ items) items)
going_case w p item items true is more =
    ((λ id h. ap (λ o. elim o [ None ↦ false | Some id ↦ p id ]) (sym h) ∙ is), more)
going_case w p item items false is more = more

going : (w : DocumentRules) (p : Id → Bool) (items : List InsertItem)
    → AllItems (HasId w (λ id. p id ≡ true)) (filter (goes w p) items)
going w p [] = tt
going w p (item ∷ items) =
    going_case w p item (filter (goes w p) items) (goes w p item) refl (going w p items)

insert_cores : (w : DocumentRules) (place : Id
    → ℕ) (shards : List ℕ) (ns : List ℕ) (items : List InsertItem) (rows : List Row) → IsRising rows
    → IsSplit w place shards (Insert ns items) rows
    → Cores place shards (through (insert_step w) laid_over items rows) (λ s. through
    (insert_step w) laid_over (filter (goes w (here place s)) items) (at (here place s) rows))
insert_cores w place shards ns items rows rising split = record {
  splits = λ s. inserts_split w place s items rows rising split.0;
  good = through_good (λ id. times (place id) shards
      ≡ 1) (λ item rows. HasId w (λ id. times (place id) shards ≡ 1) item) (insert_step w) laid_over
      (λ item rows h. insert_good (λ id. times (place id) shards ≡ 1) w item rows h) items rows
      (along_items (HasId w (λ id. times (place id) shards ≡ 1)) (insert_step w) laid_over items
      rows (items_of w place shards items split.1));
  home = λ s. through_good (λ id. here place s id
      ≡ true) (λ item rows. HasId w (λ id. here place s id ≡ true) item) (insert_step w) laid_over
      (λ item rows h. insert_good (λ id. here place s id ≡ true) w item rows h)
      (filter (goes w (here place s)) items) (at (here place s) rows)
      (along_items (HasId w (λ id. here place s id ≡ true)) (insert_step w) laid_over (filter
      (goes w (here place s)) items) (at (here place s) rows) (going w (here place s) items));
}

-- the laws
pub replies_merge : (w : DocumentRules) (place : Id → ℕ) (shards : List ℕ) (op : Op) (rows :
    List Row) → IsRising rows → IsSplit w place shards op rows → RepliesMerge w place shards op rows
replies_merge w place shards (Insert ns docs) rows rising split =
    counts_told w (Insert ns docs) place shards count_met (put_of ns)
    (through (insert_step w) laid_over docs rows) (λ s. through (insert_step w) laid_over
    (filter (goes w (here place s)) docs) (at (here place s) rows)) (λ rs. refl) merge_met
    (insert_cores w place shards ns docs rows rising split)
replies_merge w place shards (Find ns wanted down limit) rows rising split =
    sym (told_ok w (Find ns wanted down limit) (λ s. (
      rows_of (found_by w 16000000 (at (here place s) rows) down limit
          (λ row. w.matches wanted row.1)),
      [],
    )) shards
    ∙ ap (λ fs. Ok (rows_of (merged w 16000000 down limit fs)))
    (map_twice found_of (λ s. rows_of (found_by w 16000000 (at (here place s) rows) down limit
    (λ row. w.matches wanted row.1))) shards)
    ∙ ap (λ f. Ok (rows_of f))
    (finds_merge w 16000000 place shards down limit (λ row. w.matches wanted row.1) rows rising
    split.0 (named_of_once place shards (matching w wanted rows) split.1)))
replies_merge w place shards (Update ns items) rows rising split =
    counts_told w (Update ns items) place shards count_both
    (put_of ns) (through (update_step w) laid_over items rows)
    (λ s. through (update_step w) laid_over items (at (here place s) rows)) (λ rs. refl)
    merge_both (update_cores w place shards ns items rows rising split)
replies_merge w place shards (Delete ns items) rows rising split =
    counts_told w (Delete ns items) place shards count_met (removed_of ns) (through (delete_step w)
    without items rows) (λ s. through (delete_step w) without items (at (here place s) rows))
    (λ rs. refl) merge_met (delete_cores w place shards ns items rows rising split)

pub writes_split : (w : DocumentRules) (place : Id → ℕ) (shards : List ℕ) (op : Op)
    (rows : List Row) → IsRising rows → IsSplit w place shards op rows → WritesSplit w place op rows
writes_split w place shards (Insert ns docs) rows rising split =
    writes_told place count_met (put_of ns) (through (insert_step w) laid_over docs rows) (λ s.
    through (insert_step w) laid_over (filter (goes w (here place s)) docs) (at (here place s)
    rows)) (λ row. refl) (insert_cores w place shards ns docs rows rising split).splits
writes_split w place shards (Find ns wanted down limit) rows rising split = λ m is s.
    let one : (rows_of (found_by w 16000000 rows down limit (λ row. w.matches wanted row.1)), [])
    ≡ m = ok_is
    (rows_of (found_by w 16000000 rows down limit (λ row. w.matches wanted row.1)), []) m is in
    subst (λ k. AreWrites (here place s) k.1 (parts_of w place (Find ns wanted down limit) rows s))
    one refl
writes_split w place shards (Update ns items) rows rising split =
    writes_told place count_both (put_of ns) (through (update_step w) laid_over items rows)
    (λ s. through (update_step w) laid_over items (at (here place s) rows)) (λ row. refl)
    (update_cores w place shards ns items rows rising split).splits
writes_split w place shards (Delete ns items) rows rising split =
    writes_told place count_met (removed_of ns) (through (delete_step w) without items rows)
    (λ s. through (delete_step w) without items (at (here place s) rows)) (λ row. refl)
    (delete_cores w place shards ns items rows rising split).splits

-- the join of the shards' writes
named_writes : (place : Id → ℕ) (shards : List ℕ) (write : Row → Write)
    → ((row : Row) → written_id (write row) ≡ row.0) → (rows : List Row)
    → AllIds (λ id. times (place id) shards ≡ 1) rows
    → AreNamed place shards (keyed (map write rows))
named_writes place shards write ids [] h = tt
named_writes place shards write ids (row ∷ rows) h = (
  subst (λ i. 1 ≤ times (place i) shards) (sym (ids row)) (omega (arith, h.0)),
  named_writes place shards write ids rows h.1,
)

abbrev AreSound : (Id → ℕ) → List ℕ → List Write → Type 0
AreSound place shards writes = IsRising (keyed writes) × AreNamed place shards (keyed writes)

sound_writes : (place : Id → ℕ) (shards : List ℕ) (reply : Done → OpReply) (write : Row
    → Write) (whole : Doing) → ((row : Row) → written_id (write row) ≡ row.0)
    → IsGood (λ id. times (place id) shards ≡ 1) whole
    → (m : OpReply × List Write) → meaning_of reply write whole ≡ Ok m → AreSound place shards m.1
sound_writes place shards reply write (Ok d) ids good m is =
    subst (λ k. AreSound place shards k.1)
    (ok_is (reply d, map write (laid_over [] d.changed)) m is) (
      rising_keyed write ids (laid_over [] d.changed) (rising_laid [] d.changed tt),
      named_writes place shards write ids (laid_over [] d.changed)
          (all_laid (λ id. times (place id) shards ≡ 1) [] d.changed tt good.1),
    )
sound_writes place shards reply write (Err e) ids good m is = cc

sound_op : (w : DocumentRules) (place : Id → ℕ) (shards : List ℕ) (op : Op) (rows : List Row)
    → IsRising rows → IsSplit w place shards op rows → (m : OpReply × List Write)
    → eval_by w op rows ≡ Ok m → AreSound place shards m.1
sound_op w place shards (Insert ns docs) rows rising split =
    sound_writes place shards count_met (put_of ns) (through (insert_step w) laid_over docs rows)
    (λ row. refl) (insert_cores w place shards ns docs rows rising split).good
sound_op w place shards (Find ns wanted down limit) rows rising split = λ m is.
    let one : (rows_of (found_by w 16000000 rows down limit (λ row. w.matches wanted row.1)), [])
    ≡ m = ok_is
    (rows_of (found_by w 16000000 rows down limit (λ row. w.matches wanted row.1)), []) m is in
    subst (λ k. AreSound place shards k.1) one (tt, tt)
sound_op w place shards (Update ns items) rows rising split =
    sound_writes place shards count_both (put_of ns) (through (update_step w) laid_over items rows)
    (λ row. refl) (update_cores w place shards ns items rows rising split).good
sound_op w place shards (Delete ns items) rows rising split =
    sound_writes place shards count_met (removed_of ns) (through (delete_step w) without items rows)
    (λ row. refl) (delete_cores w place shards ns items rows rising split).good

part_writes : (p : Id → Bool) (writes : List Write) (part : Meaning) → AreWrites p writes part
    → writes_of part ≡ filter (λ wr. p (written_id wr)) writes
part_writes p writes (Ok m) h = h
part_writes p writes (Err e) h = absurd h

pub writes_joined : (w : DocumentRules) (place : Id → ℕ) (shards : List ℕ) (op : Op) (rows :
    List Row) → IsRising rows → IsSplit w place shards op rows → WritesJoin w place shards op rows
writes_joined w place shards op rows rising split = λ m is.
    ap (joined []) (map_same (λ s. keyed (writes_of (parts_of w place op rows s)))
    (λ s. keyed (filter (λ wr. here place s (written_id wr)) m.1))
    (λ s. ap keyed (part_writes (here place s) m.1 (parts_of w place op rows s)
    (writes_split w place shards op rows rising split m is s))) shards)
    ∙ writes_join place shards m.1 (sound_op w place shards op rows rising split m is).0
    (sound_op w place shards op rows rising split m is).1
