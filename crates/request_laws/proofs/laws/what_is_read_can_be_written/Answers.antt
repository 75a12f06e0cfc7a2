use Rattle.request_laws.proofs.Docs.{doc_fits, document_read}
use Rattle.request_laws.proofs.laws.what_is_read_can_be_written.Goals as goal

pub returns : goal.returns
returns c doc bytes h = doc_fits doc (document_read doc bytes h)
