use Rattle.bson_core.specs.Spelling.{spelling}
use Rattle.bson_core.proofs.Whole.{whole_again}
use Rattle.bson_core.proofs.laws.reading_undoes_writing.Goals as goal

pub returns : goal.returns
returns c = λ limit deep small within. whole_again limit (spelling c.args.doc.now) c.args.doc.now
    (c.spelling_is_in_the_grammar.ensures deep small) within
