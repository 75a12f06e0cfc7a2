use Rattle.std.proofs.Common.{◌≡◌, ◌+◌, ℕ, List, length, arith, refl, append_assoc}
use Rattle.bson_core.specs.Spelling.{spelling}
use Rattle.op_msg.proofs.Fronts.{length_reply}
use Rattle.op_msg.proofs.writing.put_older.Goals as goal

pub returns-clause-ok : goal.returns-clause-ok
returns-clause-ok c =
    let whole = length_reply c.args.frame.now in
    let len : c.args.len ≡ 36 + length (spelling c.args.frame.now.body) =
    omega (arith, c.requires.sized) in
    rw (c.in_ok-put_document.ensures.ok, c.in_ok-put_reply_front.ensures.ok, len, append_assoc)
    (refl {A = List ℕ})
