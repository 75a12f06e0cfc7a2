use Rattle.std.proofs.Common.{subst}
use Rattle.std.specs.List.{All}
use Rattle.codec_laws.specs.Spells.{IsFieldSpelt}
use Rattle.codec_laws.proofs.Written.{spells_where_short}
use Rattle.codec_laws.proofs.spellings.a_document_has_its_spelling.Goals as goal

pub returns : goal.returns
returns c = spells_where_short c.args.doc.now (subst (All IsFieldSpelt) c.as_slice.ensures
    c.fields_are_spelt.ensures)
