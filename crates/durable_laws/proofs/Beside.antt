-- What a change of one transaction's versions leaves of the others.
use Rattle.std.proofs.Common.{◌≡◌, ◌≤◌, ℕ, Bool, true, false, not, List, Option, Some, None, map}
use Rattle.std.proofs.Common.{unwrap_or, refl, ap, subst, ◌∙◌, sym}
use Rattle.std.specs.Option.{is_some}
use Rattle.bson_core.specs.Fields.{Document}
use Rattle.txn_types.specs.Order.{same_tag}
use Rattle.txn_types.specs.declared.names.Tag.{Tag}
use Rattle.txn_types.specs.declared.write.Write.{Write}
use Rattle.txn_semantics.specs.Keyed.{Rises}
use Rattle.txn_semantics.specs.Writes.{Place, place_cmp}
use Rattle.version_store.specs.declared.version.Stamp.{Stamp}
use Rattle.version_store.specs.declared.version.Stamp.TheVariants.{Unfinished, Prepared, At}
use Rattle.version_store.specs.declared.version.Version.{Version}
use Rattle.version_store.specs.Versions.{Versions, versions_of, is_some_and, is_of, writer_of}
use Rattle.version_store.specs.Versions.{commit_of, dropped, stamped, without, restamped}
use Rattle.version_store.specs.Versions.{with_writes, keys_of}
use Rattle.participant.proofs.Keys.{of_writer, keys_dropped, keys_stamped}
use Rattle.participant.proofs.Tags.{tag_flip}
use Rattle.participant.proofs.Written.{rises_dropped, keys_with_others}
use Rattle.part_laws.specs.Each.{Each}
use Rattle.part_laws.specs.Seen.{wrote_at}
use Rattle.part_laws.specs.Chain.{own_at, IsCommitted}
use Rattle.part_laws.proofs.Chains.{every, each_filter, times_kept, own-dropped_other, own-prepared}
use Rattle.part_laws.proofs.Chains.{own-decided_other}
use Rattle.part_laws.proofs.Opening.{stamps-restamped, some_of}
use Rattle.part_laws.proofs.Owners.{one_owner, not_own, own-topped_other}
use Rattle.part_laws.proofs.Stores.{versions-dropped, versions-stamped, versions-with_writes}
use Rattle.part_laws.proofs.Stores.{rises-stamped, rises-with_writes, topped_by}
use Rattle.durable_laws.proofs.Whole.{AreFilled, AreNewestFirst, newest_commit, HasStamp, IsOver}
use Rattle.durable_laws.proofs.Places.{newest_chain, newest_dropped, newest_stamped, newest_topped}
use Rattle.durable_laws.proofs.Places.{MayStamp, none_restamped}
use Rattle.durable_laws.proofs.Lasting.{filled_dropped, filled_stamped, filled_writes}

-- of a place: what another transaction has there stays, and where it has something, so do the
-- commits
pub record StaysAt (tag : Tag) (V W : List Version) : Type 0 where
  pub own : (other : Tag) → same_tag other tag ≡ false → own_at other W ≡ own_at other V
  pub stamps : (other : Tag) (stamp : Stamp) → same_tag other tag ≡ false
      → Each (HasStamp other stamp) V → Each (HasStamp other stamp) W
  pub commits : (other : Tag) → same_tag other tag ≡ false → is_some (own_at other V) ≡ true
      → newest_commit W ≡ newest_commit V

-- of a store
pub record Beside (tag : Tag) (old new : Versions) : Type 0 where
  pub rises : Rises place_cmp new
  pub filled : AreFilled new
  pub newest : (place : Place) → AreNewestFirst (versions_of new place)
  pub stays : (place : Place) → StaysAt tag (versions_of old place) (versions_of new place)
  pub keys : (other : Tag) → same_tag other tag ≡ false → keys_of other new ≡ keys_of other old

-- what another transaction has stands as it stood
pub over_kept : (tag other : Tag) (old new : Versions) (stamp : Stamp) (moment : ℕ)
    → Beside tag old new → same_tag other tag ≡ false → IsOver old other stamp moment
    → IsOver new other stamp moment
over_kept tag other old new stamp moment beside apart over =
    record {
      stamps = λ place. (beside.stays place).stamps other stamp apart (over.stamps place);
      behind = λ place has.
          let there : is_some (own_at other (versions_of old place)) ≡ true =
          ap is_some (sym ((beside.stays place).own other apart)) ∙ has in
          subst (λ n. n ≤ moment) (sym ((beside.stays place).commits other apart there))
          (over.behind place there);
    }

-- Nothing changes.

pub beside_same : (tag : Tag) (store : Versions) → Rises place_cmp store → AreFilled store
    → ((place : Place) → AreNewestFirst (versions_of store place)) → Beside tag store store
beside_same tag store rises filled newest =
    record {
      rises = rises;
      filled = filled;
      newest = newest;
      stays = λ place. record {
        own = λ other apart. refl;
        stamps = λ other stamp apart h. h;
        commits = λ other apart h. refl;
      };
      keys = λ other apart. refl;
    }

-- They are dropped.

no_commit : (stamp : Stamp) (tag : Tag) → writer_of stamp ≡ Some tag → commit_of stamp ≡ None
no_commit (Unfinished w) tag h = refl
no_commit (Prepared w at) tag h = refl
no_commit (At at) tag h = cc

no_commit_of : (tag : Tag) (v : Version) → not (is_of tag v) ≡ false → commit_of v.stamp ≡ None
no_commit_of tag v h = no_commit v.stamp tag (of_writer tag v (from_not (is_of tag v) h))
  where
    from_not : (b : Bool) → not b ≡ false → b ≡ true
    from_not true h = refl
    from_not false h = cc

pub commits_dropped : (tag : Tag) (V : List Version)
    → newest_commit (without tag V) ≡ newest_commit V
commits_dropped tag V =
    ap (λ o. unwrap_or o 0) (times_kept (λ v. not (is_of tag v)) (λ v. commit_of v.stamp)
    V (every (λ (v : Version). not (is_of tag v) ≡ false → commit_of v.stamp ≡ None)
    (no_commit_of tag) V))

drop_stays : (tag : Tag) (V : List Version) → StaysAt tag V (without tag V)
drop_stays tag V =
    record {
      own = λ other apart. own-dropped_other tag other V apart;
      stamps =
          λ other stamp apart h. each_filter (HasStamp other stamp) (λ v. not (is_of tag v)) V h;
      commits = λ other apart h. commits_dropped tag V;
    }

pub beside_drop : (tag : Tag) (store : Versions) → Rises place_cmp store → ((place : Place)
    → AreNewestFirst (versions_of store place)) → Beside tag store (dropped tag store)
beside_drop tag store rises newest =
    record {
      rises = rises_dropped tag store rises;
      filled = filled_dropped tag store;
      newest = λ place. subst AreNewestFirst (sym (versions-dropped tag store place rises))
          (newest_dropped tag (versions_of store place) (newest place));
      stays = λ place. subst (StaysAt tag (versions_of store place))
          (sym (versions-dropped tag store place rises)) (drop_stays tag (versions_of store place));
      keys = λ other apart. keys_dropped tag other store apart;
    }

-- They are stamped.

alone_there : (tag other : Tag) (stamp : Stamp) (V : List Version) → AreNewestFirst V
    → same_tag other tag ≡ false → is_some (own_at other V) ≡ true → map (restamped tag stamp) V ≡ V
alone_there tag other stamp V newest apart has =
    let there = some_of (own_at other V) has in
    none_restamped tag stamp V (not_own tag V (one_owner other tag V there.0 (newest_chain V newest)
    there.1 (tag_flip tag other ∙ apart)))

abbrev NotOf : Tag → Stamp → Type 0
NotOf other stamp = is_some_and (λ writer. same_tag writer other) (writer_of stamp) ≡ false

stamp_stays : (tag : Tag) (stamp : Stamp) (V : List Version) → AreNewestFirst V
    → ((other : Tag) → same_tag other tag ≡ false → NotOf other stamp)
    → ((other : Tag) → same_tag other tag ≡ false → own_at other (map (restamped tag stamp) V)
    ≡ own_at other V) → StaysAt tag V (map (restamped tag stamp) V)
stamp_stays tag stamp V newest not_it own =
    record {
      own = own;
      stamps = λ other has apart h. stamps-restamped tag other stamp has V (not_it other apart) h;
      commits = λ other apart h. ap newest_commit (alone_there tag other stamp V newest apart h);
    }

beside_stamp : (tag : Tag) (stamp : Stamp) (store : Versions) → Rises place_cmp store
    → AreFilled store → ((place : Place) → AreNewestFirst (versions_of store place))
    → ((place : Place) → MayStamp tag stamp (versions_of store place))
    → ((other : Tag) → same_tag other tag ≡ false → NotOf other stamp)
    → ((place : Place) (other : Tag) → same_tag other tag ≡ false → own_at other (map
    (restamped tag stamp) (versions_of store place)) ≡ own_at other (versions_of store place))
    → Beside tag store (stamped tag stamp store)
beside_stamp tag stamp store rises filled newest may not_it own =
    record {
      rises = rises-stamped tag stamp store rises;
      filled = filled_stamped tag stamp store filled;
      newest = λ place. subst AreNewestFirst (sym (versions-stamped tag stamp store place))
          (newest_stamped tag stamp (versions_of store place) (newest place) (may place));
      stays = λ place. subst (StaysAt tag (versions_of store place))
          (sym (versions-stamped tag stamp store place)) (stamp_stays tag stamp
          (versions_of store place) (newest place) not_it (own place));
      keys = λ other apart. keys_stamped tag other stamp store apart (not_it other apart);
    }

pub beside_commit : (tag : Tag) (at : ℕ) (store : Versions) → Rises place_cmp store
    → AreFilled store → ((place : Place) → AreNewestFirst (versions_of store place))
    → ((place : Place) → MayStamp tag (At at) (versions_of store place))
    → Beside tag store (stamped tag (At at) store)
beside_commit tag at store rises filled newest may =
    beside_stamp tag (At at) store rises filled newest may (λ other apart. refl)
    (λ place other apart. own-decided_other tag other at (versions_of store place) apart)

pub beside_prepare : (tag : Tag) (at : ℕ) (store : Versions) → Rises place_cmp store
    → AreFilled store → ((place : Place) → AreNewestFirst (versions_of store place))
    → ((place : Place) → MayStamp tag (Prepared tag at) (versions_of store place))
    → Beside tag store (stamped tag (Prepared tag at) store)
beside_prepare tag at store rises filled newest may =
    beside_stamp tag (Prepared tag at) store rises filled newest may (λ other apart. tag_flip tag
    other ∙ apart) (λ place other apart. own-prepared tag other at (versions_of store place))

-- More are written.

-- no other transaction has a version where it writes
abbrev pub IsFree : Tag → Versions → List Write → Type 0
IsFree tag store writes = (place : Place) (doc : Option Document) → wrote_at place writes ≡ Some doc
    → Each IsCommitted (without tag (versions_of store place))

pub commits_topped : (tag : Tag) (c : Option (Option Document)) (V : List Version)
    → newest_commit (topped_by tag c V) ≡ newest_commit V
commits_topped tag None V = refl
commits_topped tag (Some doc) V = commits_dropped tag V

new_stamp : (tag other : Tag) (stamp : Stamp) (doc : Option Document) → same_tag other tag ≡ false
    → (let v : Version = record { stamp = Unfinished tag; doc = doc } in HasStamp other stamp v)
new_stamp tag other stamp doc apart mine = let wrong : true ≡ false = sym mine ∙ tag_flip tag other
    ∙ apart in cc

write_stays : (tag : Tag) (c : Option (Option Document)) (V : List Version)
    → StaysAt tag V (topped_by tag c V)
write_stays tag None V = record {
  own = λ other apart. refl;
  stamps = λ other stamp apart h. h;
  commits = λ other apart h. refl;
}
write_stays tag (Some doc) V =
    record {
      own = λ other apart. own-topped_other tag other doc V apart;
      stamps = λ other stamp apart h. (
        new_stamp tag other stamp doc apart,
        each_filter (HasStamp other stamp) (λ v. not (is_of tag v)) V h,
      );
      commits = λ other apart h. commits_topped tag (Some doc) V;
    }

write_newest : (tag : Tag) (c : Option (Option Document)) (V : List Version) → AreNewestFirst V
    → ((doc : Option Document) → c ≡ Some doc → Each IsCommitted (without tag V))
    → AreNewestFirst (topped_by tag c V)
write_newest tag None V newest free = newest
write_newest tag (Some doc) V newest free = newest_topped tag doc V newest (free doc refl)

pub beside_write : (tag : Tag) (store : Versions) (writes : List Write) → Rises place_cmp store
    → AreFilled store → ((place : Place) → AreNewestFirst (versions_of store place))
    → IsFree tag store writes → Beside tag store (with_writes tag store writes)
beside_write tag store writes rises filled newest free =
    record {
      rises = rises-with_writes tag store writes rises;
      filled = filled_writes tag store writes filled;
      newest = λ place. subst AreNewestFirst (sym (versions-with_writes tag store place writes))
          (write_newest tag (wrote_at place writes) (versions_of store place) (newest place)
          (free place));
      stays = λ place. subst (StaysAt tag (versions_of store place)) (sym (versions-with_writes tag
          store place writes)) (write_stays tag (wrote_at place writes) (versions_of store place));
      keys = λ other apart. keys_with_others tag other store writes rises apart;
    }
