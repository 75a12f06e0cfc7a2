use Rattle.std.proofs.Common.{Bool, cond, List, ℕ, Some, None, ap, sym, ◌∙◌, lit<}
use Rattle.std.proofs.lemmas.Bool.{and_from}
use Rattle.std.proofs.lemmas.Str.Pattern.{split_once_first, split_parts}
use Rattle.txn_types.specs.Names.{is_database, is_collection}
use Rattle.journal_rec.proofs.Namespaces.{named}
use Rattle.journal_rec.proofs.contents.namespace_in.Goals as goal

pub returns-in-Ok : goal.returns-in-Ok
returns-in-Ok c =
    let d = c.in-Some-split_once.database in
    let k = c.in-Some-split_once.collection in
    let text = c.in-Some.text.now in
    let first =
    split_once_first 46 text (Some (d, k)) c.in-Some-split_once.ensures.cases (lit< tt) in
    let parts = split_parts 46 text (Some (d, k)) c.in-Some-split_once.ensures.cases (lit< tt) in
    let is = named text c.args.bytes.now d.now k.now c.in-Some.ensures.1 c.in-Some.ensures.0 first.0
    first.1 first.2 ∙ and_from (is_database d.now) (is_collection k.now) c.in-Ok.ensures.ok.1
    c.in-Ok.ensures.ok.2 in
    ap (λ (n : List ℕ). Some n) (c.in-Ok.ensures.ok.0 ∙ sym parts.0 ∙ c.in-Some.ensures.1)
    ∙ sym (ap (λ (b : Bool). cond b (Some c.args.bytes.now) None) is)
