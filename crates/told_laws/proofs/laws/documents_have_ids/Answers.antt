use Rattle.cluster_core.specs.Ledger.{fresh_ledger}
use Rattle.told_laws.proofs.Requests.{all_have_ids}
use Rattle.told_laws.proofs.laws.documents_have_ids.Goals as goal

pub returns : goal.returns
returns c routers run = all_have_ids (fresh_ledger routers) run
