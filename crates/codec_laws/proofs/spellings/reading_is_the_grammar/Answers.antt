use Rattle.std.proofs.Common.{arith}
use Rattle.codec_laws.proofs.Levels.{reads_within, nesting_within, is_read}
use Rattle.codec_laws.proofs.spellings.reading_is_the_grammar.Goals as goal

pub returns : goal.returns
returns c = λ d. (
  λ h. (
    is_read 100 d c.args.bytes.now (c.grammar_has_no_fault.ensures.found d h),
    nesting_within 100 d c.args.bytes.now (omega arith) (c.grammar_has_no_fault.ensures.found d h),
    c.grammar_has_no_fault.ensures.within d h,
  ),
  λ h. c.grammar_has_no_fault.ensures.read d (reads_within 100 d c.args.bytes.now h.0 h.1) h.2,
)
