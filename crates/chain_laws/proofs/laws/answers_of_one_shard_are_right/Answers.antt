use Rattle.chain_laws.proofs.Concluding.{reads_right, refused_right}
use Rattle.chain_laws.proofs.laws.answers_of_one_shard_are_right.Goals as goal

pub returns-clause-reads : goal.returns-clause-reads
returns-clause-reads c chunks start run trace now alone is h =
    reads_right chunks start run trace now alone is h

pub returns-clause-refusals : goal.returns-clause-refusals
returns-clause-refusals c chunks start run trace now alone is h =
    refused_right chunks start run trace now alone is h
