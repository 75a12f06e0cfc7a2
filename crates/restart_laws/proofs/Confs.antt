-- The map of a configuration is one, and it has at most 8 routers: so a schedule's.
use Rattle.std.proofs.Common.{◌≡◌, ◌≤◌, ℕ, Bool, true, false, cond, List, [], ◌∷◌, Option, Some}
use Rattle.std.proofs.Common.{None, Result, Ok, Err, refl, subst, arith}
use Rattle.std.specs.Prelude.{codes, option_map}
use Rattle.std.specs.Str.{bytes_eq, is_utf8}
use Rattle.outcomes.proofs.Binding.{bind_ok, held, ok_is}
use Rattle.toml.specs.Data.{Members, get_member}
use Rattle.toml.specs.Parse.{parse_document}
use Rattle.chunk_map.specs.Map.{Map, IsMap, first_fault, map_by, map_of}
use Rattle.chunk_map.specs.declared.map.ChunkRow.{ChunkRow}
use Rattle.chunk_map.specs.declared.map.MapErr.{MapErr}
use Rattle.cluster_conf.specs.Conf.{Settings, addresses_in, as_map, chunks_in, conf_by, conf_of}
use Rattle.cluster_conf.specs.Conf.{count_in, known_keys, listen_in, most_routers, most_shards, only}
use Rattle.cluster_conf.specs.Conf.{or_key, plain, settings_of, unknown_in}
use Rattle.cluster_conf.specs.declared.conf.ConfErr.{ConfErr}
use Rattle.cluster_conf.proofs.Ranges.{count_within, key_is}
use Rattle.cluster_play.specs.Schedule.{MarkedLines, Schedule, behind_conf, enclosed, marked_by}
use Rattle.cluster_play.specs.Schedule.{marker, schedule_of, settings_by, settings_in, unmarked}
use Rattle.cluster_play.specs.Schedule.{up_to_marker}
use Rattle.cluster_play.specs.declared.status.Status.{Status}

pub record IsRead (conf : Settings) : Type 0 where
  pub map : IsMap conf.map
  pub routers : conf.routers ≤ 8

plain_read : IsRead plain
plain_read = record { map = refl; routers = omega arith }

rows_are_map : (shards : ℕ) (rows : List ChunkRow) (fault : Option MapErr) (m : Map)
    → first_fault shards rows ≡ fault → as_map (map_by shards rows fault) ≡ Ok m → IsMap m
rows_are_map shards rows None m is e =
    subst IsMap (ok_is (record { shards = shards; rows = rows }) m e) is
rows_are_map shards rows (Some fault) m is e = absurd cc

settings_read : (ms : Members) (conf : Settings) → settings_of ms ≡ Ok conf → IsRead conf
settings_read ms conf e =
    let shards = bind_ok (or_key (codes "shards") (count_in most_shards
    (get_member (codes "shards") ms))) _ conf e in
    let routers = bind_ok (or_key (codes "routers") (count_in most_routers
    (get_member (codes "routers") ms))) _ conf shards.2 in
    let listen = bind_ok (or_key (codes "listen") (listen_in (get_member (codes "listen") ms))) _
    conf routers.2 in
    let shard_at = bind_ok (or_key (codes "shard_at") (addresses_in shards.0
    (get_member (codes "shard_at") ms))) _ conf listen.2 in
    let router_at = bind_ok (or_key (codes "router_at") (addresses_in routers.0
    (get_member (codes "router_at") ms))) _ conf shard_at.2 in
    let rows = bind_ok (chunks_in (get_member (codes "chunk") ms)) _ conf router_at.2 in
    let known = bind_ok (only (unknown_in known_keys ms)) _ conf rows.2 in
    let map = bind_ok (as_map (map_of shards.0 rows.0)) _ conf known.2 in
    subst IsRead (ok_is _ conf map.2) (record {
      map = rows_are_map shards.0 rows.0 (first_fault shards.0 rows.0) map.0 refl map.1;
      routers = (count_within most_routers (get_member (codes "routers") ms) routers.0 (omega arith)
          (key_is (codes "routers") (count_in most_routers (get_member (codes "routers") ms))
          routers.0 routers.1)).1;
    })

conf_read : (o : Option Members) (conf : Settings) → conf_by o ≡ Ok conf → IsRead conf
conf_read None conf e = absurd cc
conf_read (Some ms) conf e = settings_read ms conf e

result_read : (r : Result Settings ConfErr) (conf : Settings)
    → ((c : Settings) → r ≡ Ok c → IsRead c) → settings_by r ≡ Ok conf → IsRead conf
result_read (Ok c) conf h e = subst IsRead (ok_is c conf e) (h c refl)
result_read (Err why) conf h e = absurd cc

text_read : (text : List ℕ) (conf : Settings) → settings_in text ≡ Ok conf → IsRead conf
text_read text conf e =
    let utf8 = held (is_utf8 text) _ (settings_by (conf_of text)) conf e in
    result_read (conf_of text) conf (λ c is. conf_read (parse_document text) c is) utf8.1

behind_read : (taken : ℕ) (lines : List (List ℕ)) (r : Result Settings Status) (s : Schedule)
    → ((c : Settings) → r ≡ Ok c → IsRead c) → behind_conf taken lines r ≡ Ok s
    → IsRead s.conf
behind_read taken lines (Ok conf) s h e = subst (λ (x : Schedule). IsRead x.conf)
    (ok_is (record { conf = conf; taken = taken; lines = lines }) s e) (h conf refl)
behind_read taken lines (Err why) s h e = absurd cc

enclosed_read : (o : Option MarkedLines) (s : Schedule) → enclosed o ≡ Ok s → IsRead s.conf
enclosed_read None s e = absurd cc
enclosed_read (Some m) s e = behind_read m.taken m.lines (settings_in m.text) s (text_read m.text) e

unmarked_read : (lines : List (List ℕ)) (s : Schedule)
    → ◌≡◌ {A = Result Schedule Status} (Ok (unmarked lines)) (Ok s) → IsRead s.conf
unmarked_read lines s e =
    subst (λ (x : Schedule). IsRead x.conf) (ok_is (unmarked lines) s e) plain_read

marked_read : (b : Bool) (l : List ℕ) (lines : List (List ℕ)) (s : Schedule)
    → cond b (enclosed (option_map marked_by (up_to_marker lines))) (Ok (unmarked (l ∷ lines)))
    ≡ Ok s → IsRead s.conf
marked_read true l lines s e = enclosed_read (option_map marked_by (up_to_marker lines)) s e
marked_read false l lines s e = unmarked_read (l ∷ lines) s e

pub schedule_read : (lines : List (List ℕ)) (s : Schedule) → schedule_of lines ≡ Ok s
    → IsRead s.conf
schedule_read [] s e = unmarked_read [] s e
schedule_read (l ∷ lines) s e = marked_read (bytes_eq l marker) l lines s e
