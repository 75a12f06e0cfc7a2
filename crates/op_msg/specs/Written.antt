-- What is written of a message is that message, where its documents have at most 100 levels.
-- MongoDB's page of limits has this number for the nesting of a document, and a reader takes no
-- more.
use Rattle.std.specs.Prelude.{◌≤◌, length}
use Rattle.std.specs.List.{All}
use Rattle.bson_core.specs.Names.{IsName}
use Rattle.bson_core.specs.Fields.{Document}
use Rattle.bson_core.specs.Spelling.{spelling}
use Rattle.bson_core.specs.Grammar.{Reads}
use Rattle.bson_core.specs.Nesting.{nesting}
use Rattle.bson_core.specs.Written.{most}
use Rattle.op_msg.specs.Message.{Sequence}
use Rattle.op_msg.specs.declared.frame.Frame.{Frame}

-- a document of at most 100 levels, itself included
abbrev pub IsShallow : Document → Type 0
IsShallow doc = nesting doc ≤ 100

-- each document of a message, in its body and in its sequences, has at most 100 levels
pub record HasShallowDocuments (f : Frame) : Type 0 where
  pub body : IsShallow f.body
  pub seqs : All (λ seq. All IsShallow seq.1) f.seqs

-- what is written of a document is that document, where its levels and its length allow it
abbrev pub IsWritten : Document → Type 0
IsWritten doc = IsShallow doc → length (spelling doc) ≤ most → Reads 100 doc (spelling doc)

-- a name, and documents that are written so
abbrev pub IsSequenceWritten : Sequence → Type 0
IsSequenceWritten seq = IsName seq.0 × All IsWritten seq.1
