use Rattle.codec_laws.proofs.Headers.{fault_is_said, length_fault, large_fault, code_fault}
use Rattle.codec_laws.proofs.Headers.{flags_fault}
use Rattle.codec_laws.proofs.faults.faults_of_messages_are_said.Goals as goal

pub returns-clause-said : goal.returns-clause-said
returns-clause-said c = fault_is_said

pub returns-clause-length : goal.returns-clause-length
returns-clause-length c = length_fault

pub returns-clause-too_large : goal.returns-clause-too_large
returns-clause-too_large c = large_fault

pub returns-clause-op_code : goal.returns-clause-op_code
returns-clause-op_code c = code_fault

pub returns-clause-flags : goal.returns-clause-flags
returns-clause-flags c = flags_fault
