-- What the laws of one shard's runs say, put together.
use Rattle.std.proofs.Common.{List}
use Rattle.chunk_map.specs.Map.{Map, IsMap}
use Rattle.txn_model.specs.declared.ran.Ran.{Ran}
use Rattle.cluster_core.specs.Nodes.{Nodes}
use Rattle.cluster_core.specs.Right.{Right, boots_of}
use Rattle.cluster_core.specs.Trace.{IsTrace}
use Rattle.one_shard_laws.specs.Concluding.{StartsAlone}
use Rattle.one_shard_laws.proofs.Joint.{runs_alone}
use Rattle.one_shard_laws.proofs.Concluding.{first_right, greatest_right, nowhere_right}
use Rattle.chain_laws.proofs.Concluding.{reads_right, refused_right}
use Rattle.commit_laws.proofs.Whole.{all_whole}
use Rattle.reply_laws.proofs.Running.{all_told}
use Rattle.right_laws.proofs.Writes.Deciding.{one_decided}
use Rattle.right_laws.proofs.Causes.All.{all_caused}

pub right_of : (chunks : Map) (start : Nodes) (run : List Ran) (trace : List Nodes) (now : Nodes)
    → IsMap chunks → StartsAlone chunks start → IsTrace start run trace now
    → Right chunks start run now
right_of chunks start run trace now map alone is =
    let stands = runs_alone chunks start run trace now alone is in
    record {
      trace = trace;
      is_trace = is;
      reads = reads_right chunks start run trace now alone map is;
      refusals = refused_right chunks start run trace now alone map is;
      first_committer = first_right now stands (boots_of start.routers);
      whole = all_whole chunks start run trace now map alone is;
      greatest = greatest_right now stands;
      nowhere_aborted = nowhere_right now stands;
      told = all_told chunks start run trace now alone.fresh is;
      one_decision = λ given. one_decided chunks start run trace now map alone is given;
      causes = λ given. all_caused chunks start run trace now map alone is given;
    }
