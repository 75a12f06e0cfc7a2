use Rattle.play_script.proofs.Cuts.{many_pieces, three_pieces}
use Rattle.play_script.proofs.line.words_from.Goals as goal

pub returns-in-Some : goal.returns-in-Some
returns-in-Some c = many_pieces 32 c.args.first.now c.args.second.now c.args.rest.now _ _
    c.requires.first c.requires.second c.in-Some.ensures.1 c.in-Some.ensures.0

pub returns-in-None : goal.returns-in-None
returns-in-None c = three_pieces 32 c.args.first.now c.args.second.now c.args.rest.now
    c.requires.first c.requires.second c.in-None.ensures
