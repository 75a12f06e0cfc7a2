use Rattle.std.proofs.Common.{arith, ◌∷◌, []}
use Rattle.play_script.specs.Lines.{one_word, two_words}
use Rattle.play_script.proofs.Asked.{read_short, read_long, read_many, gives_same}
use Rattle.play_script.proofs.line.read_line.Goals as goal

pub returns-then-line-gt-MOST_LINE : goal.returns-then-line-gt-MOST_LINE
returns-then-line-gt-MOST_LINE c =
    read_long c.args.line.now (omega (arith, c.if-line-gt-MOST_LINE.true))

pub returns-in-One : goal.returns-in-One
returns-in-One c =
    rw (read_short c.args.line.now (c.in-One.word.now ∷ [])
    (omega (arith, c.if-line-gt-MOST_LINE.false)) c.in-One.ensures)
    (gives_same c.one_word.result (one_word c.in-One.word.now) c.one_word.ensures)

pub returns-in-Two : goal.returns-in-Two
returns-in-Two c =
    rw (read_short c.args.line.now (c.in-Two.word.now ∷ c.in-Two.digits.now ∷ [])
    (omega (arith, c.if-line-gt-MOST_LINE.false)) c.in-Two.ensures)
    (gives_same c.two_words.result (two_words c.in-Two.word.now c.in-Two.digits.now)
    c.two_words.ensures)

pub returns-in-Three : goal.returns-in-Three
returns-in-Three c =
    rw (read_short c.args.line.now
    (c.in-Three.word.now ∷ c.in-Three.first.now ∷ c.in-Three.second.now ∷ [])
    (omega (arith, c.if-line-gt-MOST_LINE.false)) c.in-Three.ensures) c.three_words.ensures

pub returns-in-Many : goal.returns-in-Many
returns-in-Many c =
    read_many c.args.line.now (omega (arith, c.if-line-gt-MOST_LINE.false)) c.in-Many.ensures
