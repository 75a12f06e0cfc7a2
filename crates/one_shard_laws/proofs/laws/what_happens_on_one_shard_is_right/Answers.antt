use Rattle.cluster_core.specs.Right.{boots_of}
use Rattle.one_shard_laws.proofs.Joint.{runs_alone}
use Rattle.one_shard_laws.proofs.Concluding.{first_right, once_right, greatest_right, nowhere_right}
use Rattle.one_shard_laws.proofs.Concluding.{served_right}
use Rattle.one_shard_laws.proofs.laws.what_happens_on_one_shard_is_right.Goals as goal

pub returns-clause-first_committer : goal.returns-clause-first_committer
returns-clause-first_committer c = λ chunks start run trace now h is.
    first_right now (runs_alone chunks start run trace now h is) (boots_of start.routers)

pub returns-clause-once : goal.returns-clause-once
returns-clause-once c = λ chunks start run trace now h is. once_right now (runs_alone chunks start
    run trace now h is) (boots_of start.routers)

pub returns-clause-greatest : goal.returns-clause-greatest
returns-clause-greatest c = λ chunks start run trace now h is.
    greatest_right now (runs_alone chunks start run trace now h is)

pub returns-clause-nowhere_aborted : goal.returns-clause-nowhere_aborted
returns-clause-nowhere_aborted c = λ chunks start run trace now h is.
    nowhere_right now (runs_alone chunks start run trace now h is)

pub returns-clause-served : goal.returns-clause-served
returns-clause-served c =
    λ chunks start run trace now h is. served_right now (runs_alone chunks start run trace now h is)
