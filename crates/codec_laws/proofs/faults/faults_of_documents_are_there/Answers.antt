use Rattle.codec_laws.proofs.Outer.{fault_is_there}
use Rattle.codec_laws.proofs.faults.faults_of_documents_are_there.Goals as goal

pub returns : goal.returns
returns c = fault_is_there
