-- Disks that nodes start from at first, and those that they don't start from.
use Rattle.std.proofs.Common.{◌≡◌, ◌<◌, ◌≤◌, inl, inr, ℕ, zero, suc, ◌+◌, ◌-◌, List, [], ◌∷◌, ◌++◌}
use Rattle.std.proofs.Common.{length, take, drop, remove, insert, Some, slice_get, slice_set}
use Rattle.std.proofs.Common.{Result, Ok, Err, IfErr, get_or, refl, sym, ap, subst, ◌∙◌, arith}
use Rattle.std.proofs.lemmas.List.{drop-drop, length-map, length-append, length-drop, length-take}
use Rattle.std.proofs.lemmas.List.{append-nil, take-append-drop}
use Rattle.std.proofs.lemmas.Option.{slice_get-get_or}
use Rattle.std.proofs.Math.Nat.{eq-or-lt_of_le}
use Rattle.std.proofs.lemmas.List.Edits.{remove-append_right}
use Rattle.outcomes.specs.Causes.{Rose}
use Rattle.journal_core.proofs.Spelling.{young_reads}
use Rattle.journal_rec.specs.declared.record.Rec.{Rec}
use Rattle.shard_image.specs.Image.{image_of}
use Rattle.record_store.specs.Found.{HasBadBytes, HasBadRecord, records_of}
use Rattle.record_store.specs.declared.error.NodeErr.{NodeErr}
use Rattle.record_store.specs.declared.error.NodeErr.TheVariants as error
use Rattle.node_store.specs.Starts.{HasBadOrder, HasBadRecords, RefusesStart}
use Rattle.router_store.specs.Boots.{HasBadBoots, HasOtherRecords, RefusesRouter}
use Rattle.cluster_conf.specs.Conf.{Settings}
use Rattle.node_store.specs.Nodes.{ShardOn}
use Rattle.router_store.specs.Routers.{RouterOn}
use Rattle.record_store.specs.Logged.{DiskRecords}
use Rattle.cluster_play.specs.declared.status.Status.{Status}
use Rattle.cluster_play.specs.Ended.{HasPlace}
use Rattle.cluster_play.specs.Starting.{shard_disks, router_disks, behind_shards}
use Rattle.cluster_play.specs.Steps.{status_of}
use Rattle.cluster_play.specs.Refusing.{AllYoung, AreYoung, IsYoung, RefusedAt, RefusesFirst}
use Rattle.cluster_play.specs.Refusing.{RefusesStarts, Replaced, RouterRefused, ShardRefused}
use Rattle.cluster_play.specs.Refusing.{StopsAt, TakenOut, YoungAt, after_routers, after_shards}
use Rattle.cluster_play.proofs.Starts.{none_found}

ok_err : {A B : Type 0} {x : A} {e : B} {P : Type 0} → ◌≡◌ {A = Result A B} (Ok x) (Err e) → P
ok_err is = cc

some_same : {A : Type 0} {x y : A} → Some x ≡ Some y → x ≡ y
some_same is = cc

ok_same : {A B : Type 0} {x y : A} → ◌≡◌ {A = Result A B} (Ok x) (Ok y) → x ≡ y
ok_same is = cc

-- What a disk of 17 bytes at most holds isn't refused.

no_bad_bytes : {P : Type 0} (file : List ℕ) (index : ℕ) → length file ≤ 17
    → HasBadBytes file index → P
no_bad_bytes file index short bad = ok_err (sym (young_reads file short) ∙ bad.1)

no_bad_record : {P : Type 0} (file : List ℕ) (index : ℕ) → length file ≤ 17
    → HasBadRecord file index → P
no_bad_record file index short bad =
    let none : bad.0 ≡ [] = ok_same (sym bad.1 ∙ young_reads file short) in
    ok_err (sym (ap records_of none) ∙ bad.2)

no_boot : (image_of []).boot ≡ 0
unfolding image_of
no_boot = refl

no_bad_order : {P : Type 0} (index : ℕ) → HasBadOrder [] index → P
no_bad_order index (inl first) = cc
no_bad_order index (inr none) = absurd (omega (arith, none.1, no_boot))

no_bad_records : {P : Type 0} (file : List ℕ) (index : ℕ) → length file ≤ 17
    → HasBadRecords file index → P
no_bad_records file index short bad =
    let none : bad.recs ≡ [] =
    none_found (Unit {0}) (Unit {0}) file bad.recs (λ t. t) (λ t. short) bad.found tt in
    no_bad_order index (subst (λ (r : List Rec). HasBadOrder r index) none bad.order)

no_bad_boots : {P : Type 0} (index : ℕ) → HasBadBoots [] index → P
no_bad_boots index (inl first) = cc
no_bad_boots index (inr none) = absurd (omega (arith, none.1))

no_other_records : {P : Type 0} (file : List ℕ) (index : ℕ) → length file ≤ 17
    → HasOtherRecords file index → P
no_other_records file index short bad =
    let none : bad.recs ≡ [] =
    none_found (Unit {0}) (Unit {0}) file bad.recs (λ t. t) (λ t. short) bad.found tt in
    no_bad_boots index (subst (λ (r : List Rec). HasBadBoots r index) none bad.boots)

rose_from : (before between after : ℕ) → before ≤ between → Rose between after → Rose before after
rose_from before between after later rose = omega (arith, later, rose)

-- So a start from a disk that is young is refused for want of memory, or where the disk failed.

pub shard_refused : {D : Type 0} (told tells : Type 0) (seen : D → List ℕ) (count : D → ℕ)
    (before between after : D) (e : NodeErr) → (told → tells)
    → (tells → length (seen between) ≤ 17) → count before ≤ count between
    → RefusesStart tells (seen between) e
    → (e ≡ error.DiskFault → Rose (count between) (count after))
    → RefusesFirst told seen count e before after
shard_refused told tells seen count before between after error.DiskFault tell short later why rose =
    rose_from (count before) (count between) (count after) later (rose refl)
shard_refused told tells seen count before between after (error.BadJournal index) tell short later
    why rose = λ t. elim (why (tell t)) [
      | inl bad ↦ no_bad_bytes (seen between) index (short (tell t)) bad
      | inr (inl bad) ↦ no_bad_record (seen between) index (short (tell t)) bad
      | inr (inr bad) ↦ no_bad_records (seen between) index (short (tell t)) bad
    ]
shard_refused told tells seen count before between after error.Memory tell short later why rose = tt

pub router_refused : {D : Type 0} (told tells : Type 0) (seen : D → List ℕ) (count : D → ℕ)
    (before between after : D) (e : NodeErr) → (told → tells)
    → (tells → length (seen between) ≤ 17) → count before ≤ count between
    → RefusesRouter tells (seen between) e
    → (e ≡ error.DiskFault → Rose (count between) (count after))
    → RefusesFirst told seen count e before after
router_refused told tells seen count before between after error.DiskFault tell short later why
    rose = rose_from (count before) (count between) (count after) later (rose refl)
router_refused told tells seen count before between after (error.BadJournal index) tell short later
    why rose = λ t. elim (why (tell t)) [
      | inl bad ↦ no_bad_bytes (seen between) index (short (tell t)) bad
      | inr (inl bad) ↦ no_bad_record (seen between) index (short (tell t)) bad
      | inr (inr bad) ↦ no_other_records (seen between) index (short (tell t)) bad
    ]
router_refused told tells seen count before between after error.Memory tell short later why rose =
    tt

-- a disk that is told of is one of which all disks tell
pub refused_tells : {D : Type 0} (told tells : Type 0) (seen : D → List ℕ) (count : D → ℕ)
    (e : NodeErr) (before after : D) → (told → tells)
    → RefusesFirst tells seen count e before after → RefusesFirst told seen count e before after
refused_tells told tells seen count error.DiskFault before after tell why = why
refused_tells told tells seen count (error.BadJournal index) before after tell why = λ t. why (tell t)
refused_tells told tells seen count error.Memory before after tell why = tt

-- Places of lists.

no_disks : {D : Type 0} (routers : List (RouterOn (DiskRecords D))) → length routers ≡ 0
    → router_disks routers ≡ []
no_disks [] none = refl
no_disks (r ∷ routers) none = absurd (omega (arith, none))

at_same : {A : Type 0} (xs : List A) (n k : ℕ) → n ≡ k → slice_get xs n ≡ slice_get xs k
at_same xs n k same = ap (λ (m : ℕ). slice_get xs m) same

get_drop : {A : Type 0} (n k : ℕ) (xs : List A) → slice_get (drop n xs) k ≡ slice_get xs (n + k)
get_drop zero k xs = at_same xs k (0 + k) (omega arith)
get_drop (suc n) k [] = sym (at_same [] (suc n + k) (suc (n + k)) (omega arith))
get_drop (suc n) k (x ∷ xs) =
    get_drop n k xs ∙ at_same (x ∷ xs) (suc (n + k)) (suc n + k) (omega arith)

get_after : {A : Type 0} (xs ys : List A) (k : ℕ)
    → slice_get (xs ++ ys) (length xs + k) ≡ slice_get ys k
get_after [] ys k = at_same ys (0 + k) k (omega arith)
get_after (x ∷ xs) ys k = at_same (x ∷ (xs ++ ys)) (suc (length xs) + k) (suc (length xs + k))
    (omega arith) ∙ get_after xs ys k

get_set : {A : Type 0} (xs : List A) (n : ℕ) (x y : A) → slice_get xs n ≡ Some x
    → slice_get (slice_set xs n y) n ≡ Some y
get_set [] n x y is = cc
get_set (z ∷ zs) zero x y is = refl
get_set (z ∷ zs) (suc n) x y is = get_set zs n x y is

-- the disks that are left, one after the other
pub shards_one_more : {D : Type 0} (P : D → Type 0) (old disks more : List D) (n : ℕ)
    → disks ≡ after_shards old n → TakenOut P disks more 0 → more ≡ after_shards old (n + 1)
shards_one_more P old disks more n left one =
    one.left ∙ ap (λ l. drop 1 l) left ∙ drop-drop 1 n old

pub routers_first : {D : Type 0} (old : List D) (place : ℕ) → old ≡ after_routers old place 0
routers_first {D} old place = sym (take-append-drop place old)
    ∙ ap (λ (k : ℕ). take place old ++ drop k old) (let same : place ≡ place + 0 = omega arith in
    same)

pub routers_one_more : {D : Type 0} (P : D → Type 0) (old disks more : List D) (place n : ℕ)
    → place ≤ length old → disks ≡ after_routers old place n → TakenOut P disks more place
    → more ≡ after_routers old place (n + 1)
routers_one_more {D} P old disks more place n within left one =
    let long : length (take place old) ≡ place =
    length-take place old ∙ omega (arith, within) in
    one.left ∙ ap (λ (l : List D). remove l place) left
    ∙ remove-append_right (take place old) (drop (place + n) old) place place long (omega arith)
    ∙ ap (λ (k : ℕ). take place old ++ remove (drop (place + n) old) k)
    (let none : place - place ≡ 0 = omega arith in none)
    ∙ ap (λ (l : List D). take place old ++ l) (drop-drop 1 (place + n) old)
    ∙ ap (λ (k : ℕ). take place old ++ drop k old)
    (let same : place + n + 1 ≡ place + (n + 1) = omega arith in same)

-- and that they were young
pub no_young : {D : Type 0} (told : Type 0) (seen : D → List ℕ) (old : List D) (from : ℕ)
    → AreYoung told seen old from 0
no_young told seen old from k d within got = absurd (omega (arith, within))

next_young : {D : Type 0} (told : Type 0) (seen : D → List ℕ) (old : List D) (from n : ℕ) (x : D)
    → AreYoung told seen old from n → slice_get old (from + n) ≡ Some x → IsYoung told (seen x)
    → AreYoung told seen old from (n + 1)
next_young {D} told seen old from n x all is young k d within got =
    let le : k ≤ n = omega (arith, within) in
    elim (eq-or-lt_of_le le) [
      | inr below ↦ all k d below got
      | inl last ↦ let same : x ≡ d = some_same (sym is
          ∙ ap (λ (m : ℕ). slice_get old (from + m)) (sym last) ∙ got) in
          subst (λ (y : D). IsYoung told (seen y)) same young
    ]

pub shards_young : {D : Type 0} (told : Type 0) (seen : D → List ℕ) (old disks more : List D)
    (n : ℕ) → AreYoung told seen old 0 n → disks ≡ after_shards old n
    → TakenOut (λ d. IsYoung told (seen d)) disks more 0 → AreYoung told seen old 0 (n + 1)
shards_young {D} told seen old disks more n all left one =
    let got : slice_get old (0 + n) ≡ Some one.disk = at_same old (0 + n) (n + 0) (omega arith)
    ∙ sym (get_drop n 0 old) ∙ ap (λ (l : List D). slice_get l 0) (sym left) ∙ one.was in
    next_young told seen old 0 n one.disk all got one.holds

-- the disk that a router starts from
routers_at : {D : Type 0} (old : List D) (place n : ℕ) → place ≤ length old
    → slice_get (after_routers old place n) place ≡ slice_get old (place + n)
routers_at {D} old place n within =
    let long : length (take place old) ≡ place =
    length-take place old ∙ omega (arith, within) in
    at_same (after_routers old place n) place (length (take place old) + 0) (omega (arith, long))
    ∙ get_after (take place old) (drop (place + n) old) 0 ∙ get_drop (place + n) 0 old
    ∙ at_same old (place + n + 0) (place + n) (omega arith)

pub routers_young : {D : Type 0} (told : Type 0) (seen : D → List ℕ) (old disks more : List D)
    (place n : ℕ) → place ≤ length old → AreYoung told seen old place n
    → disks ≡ after_routers old place n
    → TakenOut (λ d. IsYoung told (seen d)) disks more place
    → AreYoung told seen old place (n + 1)
routers_young {D} told seen old disks more place n within all left one =
    let got : slice_get old (place + n) ≡ Some one.disk = sym (routers_at old place n within)
    ∙ ap (λ (l : List D). slice_get l place) (sym left) ∙ one.was in
    next_young told seen old place n one.disk all got one.holds

-- those of all shards, and of the routers before one, are those before its place
young_before : {D : Type 0} (told : Type 0) (seen : D → List ℕ) (conf : Settings) (old : List D)
    (n : ℕ) → conf.shards ≤ 16 → AreYoung told seen old 0 conf.shards
    → AreYoung told seen (after_shards old conf.shards) (16 - conf.shards) n
    → YoungAt told seen (λ k. HasPlace conf k × (k < 16 + n)) old
young_before told seen conf old n few shards routers k d (inl shard, below) got =
    shards k d shard (at_same old (0 + k) k (omega arith) ∙ got)
young_before {D} told seen conf old n few shards routers k d (inr router, below) got =
    let there : slice_get (after_shards old conf.shards) (16 - conf.shards + (k - 16)) ≡ Some d =
    get_drop conf.shards (16 - conf.shards + (k - 16)) old
    ∙ at_same old (conf.shards + (16 - conf.shards + (k - 16))) k (omega (arith, few, router.0))
    ∙ got in
    routers (k - 16) d (omega (arith, router.0, below)) there

place_below : (conf : Settings) (k : ℕ) → conf.shards ≤ 16 → HasPlace conf k
    → k < 16 + conf.routers
place_below conf k few (inl shard) = omega (arith, few, shard)
place_below conf k few (inr router) = router.1

pub all_young : {D : Type 0} (told : Type 0) (seen : D → List ℕ) (conf : Settings) (old : List D)
    → conf.shards ≤ 16 → AreYoung told seen old 0 conf.shards
    → AreYoung told seen (after_shards old conf.shards) (16 - conf.shards) conf.routers
    → AllYoung told seen conf old
all_young told seen conf old few shards routers k d there got =
    young_before told seen conf old conf.routers few shards routers k d
    (there, place_below conf k few there) got

-- A disk that is taken out, or that doesn't serve and is put back.

pub taken_out : {D : Type 0} (P : D → Type 0) (old new : List D) (place : ℕ) (disk : D)
    → place < length old → disk ≡ get_or old place disk → new ≡ remove old place → P disk
    → TakenOut P old new place
taken_out P old new place disk within is left holds = record {
  disk = disk;
  was = slice_get-get_or old place disk within ∙ ap (λ d. Some d) (sym is);
  left = left;
  holds = holds;
}

insert_removed : {A : Type 0} (xs : List A) (n : ℕ) (y : A) → n < length xs
    → insert (remove xs n) n y ≡ slice_set xs n y
insert_removed [] n y h = absurd (omega (arith, h))
insert_removed (z ∷ zs) zero y h = refl
insert_removed (z ∷ zs) (suc n) y h = ap (λ ys. z ∷ ys) (insert_removed zs n y (omega (arith, h)))

pub replaced : {D : Type 0} (P : D → D → Type 0) (old left new : List D) (place : ℕ)
    (before after : D) → place < length old → before ≡ get_or old place before
    → left ≡ remove old place → new ≡ insert left place after → P before after
    → Replaced P old new place
replaced {D} P old left new place before after within is out put holds = record {
  before = before;
  after = after;
  was = slice_get-get_or old place before within ∙ ap (λ d. Some d) (sym is);
  is = put ∙ ap (λ (l : List D). insert l place after) out
      ∙ insert_removed old place after within;
  holds = holds;
}

-- none was taken out
pub untouched : {D : Type 0} (P : D → D → Type 0) (old : List D) (place : ℕ)
    → ((d : D) → P d d) → place < length old → Replaced P old old place
untouched P [] place all within = absurd (omega (arith, within))
untouched P (d ∷ ds) zero all within =
    record { before = d; after = d; was = refl; is = refl; holds = all d }
untouched P (d ∷ ds) (suc n) all within = let r = untouched P ds n all (omega (arith, within)) in
    record {
      before = r.before;
      after = r.after;
      was = r.was;
      is = ap (λ l. d ∷ l) r.is;
      holds = r.holds;
    }

-- The next shard, or the next router, wasn't started.

pub no_shard : {D : Type 0} (told : Type 0) (seen : D → List ℕ) (count : D → ℕ) (conf : Settings)
    (started n : ℕ) (old disks new : List D) (e : NodeErr) (s : Status) → started ≡ n
    → n < conf.shards → AreYoung told seen old 0 n → disks ≡ after_shards old n
    → Replaced (RefusesFirst told seen count e) disks new 0 → s ≡ status_of e n
    → ShardRefused told seen count conf started old new s
no_shard {D} told seen count conf started n old disks new e s same one young left put is = record {
  error = e;
  one = omega (arith, same, one);
  earlier = subst (λ (k : ℕ). AreYoung told seen old 0 k) (sym same) young;
  status = is ∙ ap (λ (k : ℕ). status_of e k) (sym same);
  put_back = subst (λ (l : List D). Replaced (RefusesFirst told seen count e) l new 0)
      (left ∙ ap (λ (k : ℕ). after_shards old k) (sym same)) put;
}

pub no_router : {D : Type 0} (told : Type 0) (seen : D → List ℕ) (count : D → ℕ) (conf : Settings)
    (place from started n : ℕ) (old disks new : List D) (e : NodeErr) (s : Status) → from ≡ place
    → started ≡ n → n < conf.routers → AreYoung told seen old place n
    → disks ≡ after_routers old place n → Replaced (RefusesFirst told seen count e) disks new from
    → s ≡ status_of e (16 + n) → RouterRefused told seen count conf place started old new s
no_router {D} told seen count conf place from started n old disks new e s here same one young left
    put is = record {
      error = e;
      one = omega (arith, same, one);
      earlier = subst (λ (k : ℕ). AreYoung told seen old place k) (sym same) young;
      status = is ∙ ap (λ (k : ℕ). status_of e (16 + k)) (sym same);
      put_back = subst (λ (l : List D). Replaced (RefusesFirst told seen count e) l new place)
          (left ∙ ap (λ (k : ℕ). after_routers old place k) (sym same))
          (subst (λ (k : ℕ). Replaced (RefusesFirst told seen count e) disks new k) here put);
    }

-- A disk that was put back stands at its place when all are handed back.

shard_back : {D : Type 0} (told : Type 0) (seen : D → List ℕ) (count : D → ℕ) (conf : Settings)
    (old disks back front : List D) (n : ℕ) (e : NodeErr) → n < conf.shards
    → AreYoung told seen old 0 n → length front ≡ n
    → Replaced (RefusesFirst told seen count e) (after_shards old n) disks 0
    → back ≡ behind_shards (front ++ disks) [] → RefusedAt told seen count conf old back n e
shard_back {D} told seen count conf old disks back front n e one young long put is =
    let whole : back ≡ front ++ disks = is ∙ ap (λ (l : List D). l ++ drop 16 (front ++ disks))
    (append-nil (take 16 (front ++ disks))) ∙ take-append-drop 16 (front ++ disks) in
    let at : slice_get (front ++ disks) n ≡ Some put.after =
    at_same (front ++ disks) n (length front + 0) (omega (arith, long))
    ∙ get_after front disks 0 ∙ ap (λ (l : List D). slice_get l 0) put.is
    ∙ get_set (after_shards old n) 0 put.before put.after put.was in
    record {
      there = inl one;
      earlier = λ k d there got. young k d there.1 (at_same old (0 + k) k (omega arith) ∙ got);
      before = put.before;
      after = put.after;
      was = at_same old n (n + 0) (omega arith) ∙ sym (get_drop n 0 old) ∙ put.was;
      is = ap (λ (l : List D). slice_get l n) whole ∙ at;
      refuses = put.holds;
    }

router_back : {D : Type 0} (told : Type 0) (seen : D → List ℕ) (count : D → ℕ) (conf : Settings)
    (old disks back front routers : List D) (n : ℕ) (e : NodeErr) → conf.shards ≤ 16
    → n < conf.routers → AreYoung told seen old 0 conf.shards
    → AreYoung told seen (after_shards old conf.shards) (16 - conf.shards) n
    → length front ≡ conf.shards → length routers ≡ n → 16 ≤ length old
    → 16 ≤ length (front ++ disks)
    → Replaced (RefusesFirst told seen count e)
    (after_routers (after_shards old conf.shards) (16 - conf.shards) n) disks (16 - conf.shards)
    → back ≡ behind_shards (front ++ disks) routers
    → RefusedAt told seen count conf old back (16 + n) e
router_back {D} told seen count conf old disks back front routers n e few one shards young long
    many enough room put is =
    let place : ℕ = 16 - conf.shards in
    let rest : List D = after_shards old conf.shards in
    let left : length rest ≡ length old - conf.shards = length-drop conf.shards old in
    let within : place ≤ length rest = omega (arith, left, few, enough) in
    let all : List D = front ++ disks in
    let sixteen : length (take 16 all) ≡ 16 = length-take 16 all ∙ omega (arith, room) in
    let ahead : length (take 16 all ++ routers) ≡ 16 + n =
    length-append (take 16 all) routers ∙ omega (arith, sixteen, many) in
    let at : slice_get (behind_shards all routers) (16 + n) ≡ Some put.after =
    at_same (behind_shards all routers) (16 + n) (length (take 16 all ++ routers) + 0)
    (omega (arith, ahead)) ∙ get_after (take 16 all ++ routers) (drop 16 all) 0 ∙ get_drop 16 0 all
    ∙ at_same all (16 + 0) (length front + place) (omega (arith, long, few))
    ∙ get_after front disks place ∙ ap (λ (l : List D). slice_get l place) put.is
    ∙ get_set (after_routers rest place n) place put.before put.after put.was in
    record {
      there = inr ((omega arith), (omega (arith, one)));
      earlier = young_before told seen conf old n few shards young;
      before = put.before;
      after = put.after;
      was = at_same old (16 + n) (conf.shards + (place + n)) (omega (arith, few))
          ∙ sym (get_drop conf.shards (place + n) old) ∙ sym (routers_at rest place n within)
          ∙ put.was;
      is = ap (λ (l : List D). slice_get l (16 + n)) is ∙ at;
      refuses = put.holds;
    }

by_error : {D : Type 0} (told : Type 0) (seen : D → List ℕ) (count : D → ℕ) (conf : Settings)
    (old back : List D) (e : NodeErr) (place : ℕ) → RefusedAt told seen count conf old back place e
    → RefusesStarts told seen count conf old back (status_of e place)
by_error told seen count conf old back error.DiskFault place h = h
by_error told seen count conf old back (error.BadJournal index) place h = h
by_error told seen count conf old back error.Memory place h = tt

starts_refused : {D : Type 0} (told : Type 0) (seen : D → List ℕ) (count : D → ℕ)
    (conf : Settings) (old disks back : List D) (shards : List (ShardOn (DiskRecords D)))
    (routers : List (RouterOn (DiskRecords D))) (s : Status) → 16 ≤ length old
    → length disks + length shards + length routers ≡ 24 → length routers ≤ 8
    → StopsAt told seen count conf (length shards) (length routers) old disks s
    → back ≡ behind_shards (shard_disks shards ++ disks) (router_disks routers)
    → RefusesStarts told seen count conf old back s
starts_refused told seen count conf old disks back shards routers s many all eight (inl is) whole =
    subst (RefusesStarts told seen count conf old back) (sym is) tt
starts_refused {D} told seen count conf old disks back shards routers s many all eight
    (inr (inl h)) whole =
    let f : ShardOn (DiskRecords D) → D = λ (n : ShardOn (DiskRecords D)). n.log.journal.disk in
    let r = h.1 in
    subst (RefusesStarts told seen count conf old back) (sym r.status)
    (by_error told seen count conf old back r.error (length shards)
    (shard_back told seen count conf old disks back (shard_disks shards) (length shards) r.error
    r.one r.earlier (length-map shards f) r.put_back (whole
    ∙ ap (λ (l : List D). behind_shards (shard_disks shards ++ disks) l) (no_disks routers h.0))))
starts_refused {D} told seen count conf old disks back shards routers s many all eight
    (inr (inr h)) whole =
    let f : ShardOn (DiskRecords D) → D = λ (n : ShardOn (DiskRecords D)). n.log.journal.disk in
    let g : RouterOn (DiskRecords D) → D = λ (n : RouterOn (DiskRecords D)). n.log.journal.disk in
    let few : conf.shards ≤ 16 = omega (arith, h.0, h.1) in
    let young : AreYoung told seen old 0 conf.shards =
    subst (λ (k : ℕ). AreYoung told seen old 0 k) h.0 h.2 in
    let r : RouterRefused told seen count conf (16 - conf.shards) (length routers)
    (after_shards old conf.shards) disks s = subst (λ (k : ℕ). RouterRefused told seen count conf
    (16 - k) (length routers) (after_shards old k) disks s) h.0 h.3 in
    let front : length (shard_disks shards) ≡ conf.shards = length-map shards f ∙ h.0 in
    let room : 16 ≤ length (shard_disks shards ++ disks) = omega (
      arith,
      length-append (shard_disks shards) disks,
      length-map shards f,
      all,
      eight,
    ) in
    subst (RefusesStarts told seen count conf old back) (sym r.status)
    (by_error told seen count conf old back r.error (16 + length routers)
    (router_back told seen count conf old disks back (shard_disks shards) (router_disks routers)
    (length routers) r.error few r.one young r.earlier front (length-map routers g) many room
    r.put_back whole))

-- where so many shards and routers have started
pub refuses_starts : {D : Type 0} (told : Type 0) (seen : D → List ℕ) (count : D → ℕ)
    (conf : Settings) (old disks back : List D) (shards : List (ShardOn (DiskRecords D)))
    (routers : List (RouterOn (DiskRecords D))) (n m : ℕ) (s : Status) → n ≡ length shards
    → m ≡ length routers → 16 ≤ length old → length disks + n + m ≡ 24 → m ≤ 8
    → StopsAt told seen count conf n m old disks s
    → back ≡ behind_shards (shard_disks shards ++ disks) (router_disks routers)
    → RefusesStarts told seen count conf old back s
refuses_starts told seen count conf old disks back shards routers n m s some others many all eight
    h whole = starts_refused told seen count conf old disks back shards routers s many
    (omega (arith, some, others, all)) (omega (arith, others, eight))
    (subst (λ (k : ℕ). StopsAt told seen count conf (length shards) k old disks s) others
    (subst (λ (k : ℕ). StopsAt told seen count conf k m old disks s) some h)) whole

-- why no router starts, after all shards have, from what they left
pub err_more : {T E : Type 0} (r : Result T E) (P Q : E → Type 0) → ((e : E) → P e → Q e)
    → IfErr r P → IfErr r Q
err_more (Ok x) P Q f p = p
err_more (Err e) P Q f p = f e p

pub router_stops : {D : Type 0} (told : Type 0) (seen : D → List ℕ) (count : D → ℕ)
    (conf : Settings) (shards routers : ℕ) (old disks new : List D) (s : Status)
    → shards ≡ conf.shards → conf.shards ≤ 16 → AreYoung told seen old 0 conf.shards
    → disks ≡ after_shards old conf.shards
    → RouterRefused told seen count conf (16 - conf.shards) routers disks new s
    → StopsAt told seen count conf shards routers old new s
router_stops {D} told seen count conf shards routers old disks new s same few young left h =
    let at : RouterRefused told seen count conf (16 - conf.shards) routers
    (after_shards old conf.shards) new s = subst (λ (l : List D). RouterRefused told seen count conf
    (16 - conf.shards) routers l new s) left h in
    inr (inr (
      same,
      (omega (arith, same, few)),
      subst (λ (k : ℕ). AreYoung told seen old 0 k) (sym same) young,
      subst (λ (k : ℕ). RouterRefused told seen count conf (16 - k) routers (after_shards old k) new
          s) (sym same) at,
    ))
