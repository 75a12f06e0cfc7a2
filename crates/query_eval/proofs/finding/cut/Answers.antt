use Rattle.std.proofs.Common.{◌≡◌, ◌+◌, drop, length, sym, ◌∙◌, arith}
use Rattle.bson_core.specs.Spelling.{spelling}
use Rattle.query_eval.proofs.Telling.{cut_turn, place_is}
use Rattle.query_eval.proofs.finding.cut.Goals as goal

pub loop-id-preserved : goal.loop-id-preserved
loop-id-preserved c =
    let used : c.size.result ≡ length (spelling c.in-Some.doc.now) =
    omega (arith, c.size.ensures, c.in-Some.ensures.fits, c.loop-id.invariant.small) in
    record {
      told = cut_turn c.loop-id.docs.items c.push.new.self.items c.loop-id.room c.size.result
          c.loop-id-item.result (drop c.loop-id.id-index c.args.marks.now) (drop
          (c.loop-id.id-index + 1) c.args.marks.now) c.in-Some.doc.now c.in_ok-copy_doc.field-0
          (place_is c.args.marks.now c.loop-id.id-index c.loop-id-item.result c.loop-id-item.is
          c.loop-id-test.true) (sym c.in-Some.ensures.doc) c.in_ok-push.ensures.items
          c.in_ok-copy_doc.ensures used
          ∙ c.loop-id.invariant.told;
      small = omega arith;
    }
