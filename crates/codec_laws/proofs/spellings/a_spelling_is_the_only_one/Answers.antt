use Rattle.codec_laws.proofs.Spelt.{document_spelt, spelt_short, spelt_read}
use Rattle.codec_laws.proofs.Apart.{no_spelt_front}
use Rattle.codec_laws.proofs.spellings.a_spelling_is_the_only_one.Goals as goal

pub returns-clause-is : goal.returns-clause-is
returns-clause-is c = document_spelt

pub returns-clause-short : goal.returns-clause-short
returns-clause-short c = spelt_short

pub returns-clause-read : goal.returns-clause-read
returns-clause-read c = spelt_read

pub returns-clause-no_front : goal.returns-clause-no_front
returns-clause-no_front c = no_spelt_front
