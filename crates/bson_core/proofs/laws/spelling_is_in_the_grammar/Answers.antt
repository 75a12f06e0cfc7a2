use Rattle.std.proofs.Common.{subst}
use Rattle.std.specs.List.{All}
use Rattle.bson_core.specs.Written.{IsFieldWritten}
use Rattle.bson_core.proofs.InGrammar.{spelling_reads}
use Rattle.bson_core.proofs.laws.spelling_is_in_the_grammar.Goals as goal

pub returns : goal.returns
returns c = spelling_reads c.args.doc.now (subst (All IsFieldWritten) c.as_slice.ensures
    c.fields_are_written.ensures)
