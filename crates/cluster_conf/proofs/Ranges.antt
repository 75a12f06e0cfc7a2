-- What a configuration says is within its limits.
use Rattle.std.proofs.Common.{◌≡◌, ◌&&◌, ℕ, suc, ◌≤◌, ℤ, pos, negsuc, Bool, true, false, List, []}
use Rattle.std.proofs.Common.{◌∷◌, length, Option, Some, None, Result, Ok, refl, ap, subst, arith}
use Rattle.std.proofs.Common.{nat_le, if◌then◌else◌}
use Rattle.std.specs.Prelude.{int_le, unsigned_abs}
use Rattle.std.proofs.lemmas.Grind.{common_steps}
use Rattle.toml.specs.Data.{Data, string, integer, float, boolean, datetime, array, table}
use Rattle.toml.specs.View.{items_view}
use Rattle.toml.specs.declared.value.Value.{Value}
use Rattle.chunk_map.specs.declared.map.ChunkRow.{ChunkRow}
use Rattle.chunk_map.specs.declared.map.MapErr.{MapErr}
use Rattle.chunk_map.specs.Map.{Map, map_by, map_of, first_fault}
use Rattle.cluster_conf.specs.declared.conf.ConfErr.{ConfErr}
use Rattle.cluster_conf.specs.Conf.{IsFor, or_key, number_within, count_in, texts_of, of_length}
use Rattle.cluster_conf.specs.Conf.{addresses_by, addresses_in, items_length, as_map}

pub items_long : (vs : List Value) → items_length (items_view vs) ≡ length vs
items_long [] = refl
items_long (v ∷ vs) = ap suc (items_long vs)

pub key_is : {A : Type 0} (name : List ℕ) (o : Option A) (a : A)
    → ◌≡◌ {A = Result A ConfErr} (or_key name o) (Ok a) → o ≡ Some a
key_is name (Some b) a h = cc
key_is name None a h = cc

number_in : (z : ℤ) (most n : ℕ) → (if int_le (pos 1) z && int_le z (pos most)
    then Some (unsigned_abs z) else None) ≡ Some n → (1 ≤ n) × (n ≤ most)
number_in (pos k) most n h = grind (arith, common_steps, h)
number_in (negsuc k) most n h = cc

count_by : (most : ℕ) (d : Data) (n : ℕ) → number_within (pos 1) (pos most) d ≡ Some n
    → (1 ≤ n) × (n ≤ most)
count_by most (string s) n h = cc
count_by most (integer z) n h = number_in z most n h
count_by most (float x) n h = cc
count_by most (boolean b) n h = cc
count_by most (datetime dt) n h = cc
count_by most (array ds) n h = cc
count_by most (table ms) n h = cc

pub count_within : (most : ℕ) (o : Option Data) (n : ℕ) → 1 ≤ most → count_in most o ≡ Some n
    → (1 ≤ n) × (n ≤ most)
count_within most None n some h = let same : 1 ≡ n = cc in
    (omega (arith, same), omega (arith, same, some))
count_within most (Some d) n some h = count_by most d n h

one_each : (count : ℕ) (texts : List (List ℕ)) → length texts ≡ count → IsFor count texts
one_each count [] h = tt
one_each count (text ∷ texts) h = h

both_le : (a b : ℕ) → (nat_le a b && nat_le b a) ≡ true → b ≡ a
both_le a b h = grind (arith, h)

length_case : (count : ℕ) (all texts : List (List ℕ)) (b : Bool)
    → (nat_le count (length all) && nat_le (length all) count) ≡ b
    → (if b then Some all else None) ≡ Some texts → IsFor count texts
length_case count all texts true is h = let same : all ≡ texts = cc in
    subst (IsFor count) same (one_each count all (both_le count (length all) is))
length_case count all texts false is h = cc

of_case : (count : ℕ) (o : Option (List (List ℕ))) (texts : List (List ℕ))
    → of_length count o ≡ Some texts → IsFor count texts
of_case count None texts h = cc
of_case count (Some all) texts h =
    length_case count all texts (nat_le count (length all) && nat_le (length all) count) refl h

for_by : (count : ℕ) (d : Data) (texts : List (List ℕ)) → addresses_by count d ≡ Some texts
    → IsFor count texts
for_by count (string s) texts h = cc
for_by count (integer z) texts h = cc
for_by count (float x) texts h = cc
for_by count (boolean b) texts h = cc
for_by count (datetime dt) texts h = cc
for_by count (array items) texts h = of_case count (texts_of items) texts h
for_by count (table ms) texts h = cc

pub addresses_for : (count : ℕ) (o : Option Data) (texts : List (List ℕ))
    → addresses_in count o ≡ Some texts → IsFor count texts
addresses_for count None texts h = let same : [] ≡ texts = cc in subst (IsFor count) same tt
addresses_for count (Some d) texts h = for_by count d texts h

map_case : (shards : ℕ) (rows : List ChunkRow) (o : Option MapErr) (m : Map)
    → as_map (map_by shards rows o) ≡ Ok m → m.shards ≡ shards
map_case shards rows None m h = let same : m ≡ record { shards = shards; rows = rows } = cc in
    ap (λ (n : Map). n.shards) same
map_case shards rows (Some fault) m h = cc

pub map_over : (shards : ℕ) (rows : List ChunkRow) (m : Map) → as_map (map_of shards rows) ≡ Ok m
    → m.shards ≡ shards
map_over shards rows m h = map_case shards rows (first_fault shards rows) m h
