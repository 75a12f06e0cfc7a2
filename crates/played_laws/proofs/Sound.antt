-- What holds behind a run on any number of shards that begins on new disks.
use Rattle.std.proofs.Common.{All, List, [], Option, sym, subst}
use Rattle.chunk_map.specs.Map.{IsMap}
use Rattle.cluster_conf.specs.Conf.{Settings}
use Rattle.shard_core.specs.NodeStep.{NodeState}
use Rattle.txn_model.specs.declared.ran.Ran.{Ran}
use Rattle.cluster_core.specs.Nodes.{Nodes}
use Rattle.world_laws.specs.Joint.{DisksStand, NoName, Stands}
use Rattle.world_laws.proofs.Clocks.{started_is}
use Rattle.world_laws.proofs.Joint.{new_disk, stands_fresh, stands_run}
use Rattle.world_laws.proofs.Naming.{one as one_all}
use Rattle.address_laws.proofs.Standing.{addresses_fresh, addresses_run, all_go}
use Rattle.live_laws.proofs.Standing.{live_fresh, live_run}
use Rattle.known_laws.specs.Known.{NamesNone, RecNamed}
use Rattle.known_laws.proofs.Standing.{known_fresh, known_run, known_whole}
use Rattle.lost_laws.proofs.Standing.{lost_fresh, lost_run}
use Rattle.answer_laws.proofs.Answered.{all_answered}
use Rattle.reply_laws.proofs.Running.{all_told}
use Rattle.making_laws.proofs.Running.{all_made}
use Rattle.cluster_play.specs.Ended.{AreStarted}
use Rattle.cluster_play.specs.Plays.{IsRun, ran_of}
use Rattle.played_laws.specs.Throughout.{SoundBehind}

disks_new : (told : Type 0) (conf : Settings) (start : Nodes) → told → AreStarted told conf start
    → DisksStand start
disks_new told conf start t h n s there =
    let starts = h.new t n s there in new_disk start n starts.0 s starts.1

names_none : (told : Type 0) (conf : Settings) (start : Nodes) → told → AreStarted told conf start
    → NamesNone start
names_none told conf start t h n s there =
    let starts = h.new t n s there in
    subst (λ (x : NodeState). All (RecNamed NoName) x.records)
    (sym (started_is n [] starts.0 s starts.1)) (one_all (RecNamed NoName) _ tt)

pub sound_behind : (told : Type 0) (conf : Settings) (start : Nodes) (items : List (Option Ran))
    (behind : Nodes) → told → IsMap conf.map → AreStarted told conf start → IsRun start items behind
    → SoundBehind conf.map start items behind
sound_behind told conf start items behind t map started is =
    let disks : DisksStand start = disks_new told conf start t started in
    let first : Stands start = stands_fresh conf.map start started.fresh disks in
    let run : List Ran = ran_of items in
    let now : Stands behind = stands_run start run is.0 behind is.1 first in
    let named = known_fresh conf.map start started.fresh disks
    (names_none told conf start t started) in
    let known = known_run start run is.0 behind is.1 first named in
    let live = live_run start run is.0 behind is.1 (live_fresh conf.map start started.fresh) in
    record {
      run = is;
      stands = now;
      boots = known_whole behind now known live;
      lost = lost_run start run is.0 behind is.1 first named
          (lost_fresh conf.map start started.fresh);
      there = all_go behind (addresses_run start run is.0 behind is.1 first
          (addresses_fresh conf.map start started.fresh map disks));
      answered = all_answered start run is.0 behind is.1;
      told = all_told conf.map start run is.0 behind started.fresh is.1;
      made = all_made conf.map start run is.0 behind started.fresh disks is.1;
    }
