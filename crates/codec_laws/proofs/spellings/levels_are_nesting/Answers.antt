use Rattle.codec_laws.proofs.Levels.{reads_within, nesting_within}
use Rattle.codec_laws.proofs.Apart.{one_document}
use Rattle.codec_laws.proofs.spellings.levels_are_nesting.Goals as goal

pub returns-clause-within : goal.returns-clause-within
returns-clause-within c = reads_within

pub returns-clause-bound : goal.returns-clause-bound
returns-clause-bound c = nesting_within

pub returns-clause-one : goal.returns-clause-one
returns-clause-one c = one_document
