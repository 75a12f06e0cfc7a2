use Rattle.std.proofs.Common.{subst}
use Rattle.version_store.specs.Chains.{IsKept}
use Rattle.version_store.proofs.Groups.{kept_flattened}
use Rattle.version_store.proofs.store.Store.collections.Goals as goal

pub returns : goal.returns
returns c =
    subst IsKept c.self.view_is (kept_flattened c.self.inside.collections.entries c.self.invariant)
