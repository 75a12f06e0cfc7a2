use Rattle.cluster_play.specs.Plays.{ran_of}
use Rattle.cluster_play.specs.Schedule.{player_of}
use Rattle.restart_laws.proofs.Fitting.{are_of_bytes, are_on_connections}
use Rattle.restart_laws.proofs.Playing.{first_hears, plays_fit}
use Rattle.restart_laws.proofs.laws.what_is_played_brings_bytes.Goals as goal

pub returns : goal.returns
returns g c schedule start items text q behind h =
    let all = plays_fit _ schedule.conf.map (player_of schedule) start items text q behind
    (first_hears schedule) h in
    (are_of_bytes (ran_of items) all, are_on_connections (ran_of items) all)
