-- What a configuration says, as TOML 1.0 has its tables and values (toml.io). Which keys there are
-- is this project's choice.
use Rattle.std.specs.Prelude.{◌≡◌, ℕ, suc, ◌≤◌, ◌&&◌, ◌==◌, ℤ, pos, unsigned_abs, int_le, nat_le}
use Rattle.std.specs.Prelude.{nat_lt, Bool, true, false, List, [], ◌∷◌, codes, length, Option, Some}
use Rattle.std.specs.Prelude.{None, option_and_then, Result, Ok, Err, if◌then◌else◌}
use Rattle.std.specs.List.{list_any, position_or_len, before_first, after_first}
use Rattle.std.specs.Str.{bytes_eq}
use Rattle.outcomes.specs.Bind.{◌>>=◌}
use Rattle.outcomes.specs.Outcome as outcome
use Rattle.toml.specs.Parse.{parse_document}
use Rattle.toml.specs.Data.{Data, string, integer, array, table, Items, no_items, item, Members}
use Rattle.toml.specs.Data.{no_members, member, get_member}
use Rattle.txn_types.specs.Names.{is_database, is_collection, namespace_of}
use Rattle.txn_types.specs.declared.id.Id.{Id}
use Rattle.txn_types.specs.declared.id.Id.TheVariants.{Num, Text}
use Rattle.chunk_map.specs.declared.map.ChunkRow.{ChunkRow}
use Rattle.chunk_map.specs.declared.map.MapErr.{MapErr}
use Rattle.chunk_map.specs.Map.{Map, map_of}
use Rattle.cluster_conf.specs.declared.conf.ConfErr.{ConfErr}
use Rattle.cluster_conf.specs.declared.conf.ConfErr.TheVariants.{NotToml, Key, Map as BadMap}
use Rattle.cluster_conf.specs.declared.conf.ConfErr.TheVariants.{Memory}

-- the limits, and where a router listens that doesn't say it
abbrev pub most_shards : ℕ
most_shards = 16

abbrev pub most_routers : ℕ
most_routers = 8

abbrev pub most_chunks : ℕ
most_chunks = 1000

abbrev pub default_listen : List ℕ
default_listen = codes "127.0.0.1:27017"

-- a configuration
pub record Settings : Type 0 where
  pub shards : ℕ
  pub routers : ℕ
  pub map : Map
  pub listen : List ℕ
  pub shard_at : List (List ℕ)
  pub router_at : List (List ℕ)

-- none are given, or one for each
abbrev pub IsFor : ℕ → List (List ℕ) → Type 0
IsFor count [] = Unit {0}
IsFor count (address ∷ addresses) = length (address ∷ addresses) ≡ count

pub record IsSettings (conf : Settings) : Type 0 where
  pub some_shards : 1 ≤ conf.shards
  pub shards : conf.shards ≤ most_shards
  pub some_routers : 1 ≤ conf.routers
  pub routers : conf.routers ≤ most_routers
  pub map : conf.map.shards ≡ conf.shards
  pub shard_at : IsFor conf.shards conf.shard_at
  pub router_at : IsFor conf.routers conf.router_at

abbrev pub is_memory : ConfErr → Bool
is_memory Memory = true
is_memory other = false

-- the result is what is defined, or there was no memory
abbrev pub Gives : {X Y : Type 0} → (X → Y) → Result X ConfErr → Result Y ConfErr → Type 0
Gives view result defined = outcome.Gives is_memory view result defined

-- what is told of a field that isn't as it has to be
abbrev pub or_key : {A : Type 0} → List ℕ → Option A → Result A ConfErr
or_key name (Some a) = Ok a
or_key name None = Err (Key name)

-- Numbers: a count from 1 on, which is 1 where it isn't given.

abbrev pub number_within : ℤ → ℤ → Data → Option ℕ
number_within least most (integer z) = if int_le least z && int_le z most
    then Some (unsigned_abs z) else None
number_within least most other = None

abbrev pub count_in : ℕ → Option Data → Option ℕ
count_in most None = Some 1
count_in most (Some value) = number_within (pos 1) (pos most) value

-- Addresses: texts.

abbrev pub text_in : Data → Option (List ℕ)
text_in (string text) = Some text
text_in other = None

abbrev pub listen_in : Option Data → Option (List ℕ)
listen_in None = Some default_listen
listen_in (Some value) = text_in value

abbrev pub with_text : Option (List ℕ) → Option (List (List ℕ)) → Option (List (List ℕ))
with_text (Some text) (Some texts) = Some (text ∷ texts)
with_text text texts = None

-- all are texts
abbrev pub texts_of : Items → Option (List (List ℕ))
texts_of no_items = Some []
texts_of (item value rest) = with_text (text_in value) (texts_of rest)

abbrev pub of_length : ℕ → Option (List (List ℕ)) → Option (List (List ℕ))
of_length count None = None
of_length count (Some texts) = if nat_le count (length texts) && nat_le (length texts) count
    then Some texts else None

abbrev pub addresses_by : ℕ → Data → Option (List (List ℕ))
addresses_by count (array items) = of_length count (texts_of items)
addresses_by count other = None

abbrev pub addresses_in : ℕ → Option Data → Option (List (List ℕ))
addresses_in count None = Some []
addresses_in count (Some value) = addresses_by count value

-- Chunks: rows of a namespace, a shard, and where the row's ids begin.

abbrev pub is_dot : ℕ → Bool
is_dot b = b == 46

-- a namespace is parted at its first full stop
abbrev pub ns_by : List ℕ → List ℕ → Option (List ℕ)
ns_by database collection = if is_database database && is_collection collection
    then Some (namespace_of database collection) else None

abbrev pub ns_of_text : List ℕ → Option (List ℕ)
ns_of_text text = if nat_lt (position_or_len is_dot text) (length text)
    then ns_by (before_first is_dot text) (after_first is_dot text) else None

abbrev pub ns_in : Option Data → Option (List ℕ)
ns_in None = None
ns_in (Some value) = option_and_then ns_of_text (text_in value)

abbrev pub shard_in : Option Data → Option ℕ
shard_in None = None
shard_in (Some value) = number_within (pos 0) (pos 65535) value

-- an integer or a text; the first row of a namespace has none
abbrev pub id_by : Data → Option (Option Id)
id_by (integer z) = Some (Some (Num z))
id_by (string text) = Some (Some (Text text))
id_by other = None

abbrev pub from_in : Option Data → Option (Option Id)
from_in None = Some None
from_in (Some value) = id_by value

-- the first key that isn't among these
abbrev pub unknown_in : List (List ℕ) → Members → Option (List ℕ)
unknown_in known no_members = None
unknown_in known (member key value rest) = if list_any (bytes_eq key) known
    then unknown_in known rest else Some key

abbrev pub only : Option (List ℕ) → Result (Unit {0}) ConfErr
only None = Ok tt
only (Some key) = Err (Key key)

abbrev pub row_keys : List (List ℕ)
row_keys = codes "ns" ∷ codes "shard" ∷ codes "from" ∷ []

abbrev pub row_in : Members → Result ChunkRow ConfErr
row_in ms = do
  ns ← or_key (codes "ns") (ns_in (get_member (codes "ns") ms))
  shard ← or_key (codes "shard") (shard_in (get_member (codes "shard") ms))
  from ← or_key (codes "from") (from_in (get_member (codes "from") ms))
  _ ← only (unknown_in row_keys ms)
  Ok (record { ns = ns; from = from; shard = shard })

abbrev pub row_of : Data → Result ChunkRow ConfErr
row_of (table ms) = row_in ms
row_of other = Err (Key (codes "chunk"))

-- the first fault of a row decides
abbrev pub rows_of : Items → Result (List ChunkRow) ConfErr
rows_of no_items = Ok []
rows_of (item value rest) = row_of value >>= λ row. rows_of rest >>= λ rows. Ok (row ∷ rows)

abbrev pub items_length : Items → ℕ
items_length no_items = 0
items_length (item value rest) = suc (items_length rest)

abbrev pub chunks_by : Data → Result (List ChunkRow) ConfErr
chunks_by (array items) = if nat_le (items_length items) most_chunks then rows_of items
    else Err (Key (codes "chunk"))
chunks_by other = Err (Key (codes "chunk"))

abbrev pub chunks_in : Option Data → Result (List ChunkRow) ConfErr
chunks_in None = Ok []
chunks_in (Some value) = chunks_by value

-- The whole.

abbrev pub known_keys : List (List ℕ)
known_keys = codes "shards" ∷ codes "routers" ∷ codes "listen" ∷ codes "shard_at"
    ∷ codes "router_at" ∷ codes "chunk" ∷ []

abbrev pub as_map : Result Map MapErr → Result Map ConfErr
as_map (Ok map) = Ok map
as_map (Err fault) = Err (BadMap fault)

-- the first field at fault, in this order, then the first unknown key, then what is wrong with the
-- rows
abbrev pub settings_of : Members → Result Settings ConfErr
settings_of ms = do
  shards ← or_key (codes "shards") (count_in most_shards (get_member (codes "shards") ms))
  routers ← or_key (codes "routers") (count_in most_routers (get_member (codes "routers") ms))
  listen ← or_key (codes "listen") (listen_in (get_member (codes "listen") ms))
  shard_at ← or_key (codes "shard_at") (addresses_in shards (get_member (codes "shard_at") ms))
  router_at ← or_key (codes "router_at") (addresses_in routers (get_member (codes "router_at") ms))
  rows ← chunks_in (get_member (codes "chunk") ms)
  _ ← only (unknown_in known_keys ms)
  map ← as_map (map_of shards rows)
  Ok (record {
    shards = shards;
    routers = routers;
    map = map;
    listen = listen;
    shard_at = shard_at;
    router_at = router_at;
  })

abbrev pub conf_by : Option Members → Result Settings ConfErr
conf_by None = Err NotToml
conf_by (Some ms) = settings_of ms

-- the configuration of a text
abbrev pub conf_of : List ℕ → Result Settings ConfErr
conf_of text = conf_by (parse_document text)

-- one shard, one router and no rows
abbrev pub plain : Settings
plain = record {
  shards = 1;
  routers = 1;
  map = record { shards = 1; rows = [] };
  listen = default_listen;
  shard_at = [];
  router_at = [];
}
