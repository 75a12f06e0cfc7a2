-- A session's state by what it shows.
use Rattle.std.proofs.Common.{◌≡◌, ℕ, Some, ap}
use Rattle.session_table.specs.Sessions.{prepared_at}
use Rattle.session_table.specs.declared.session.SessionState.{SessionState}
use Rattle.session_table.specs.declared.session.SessionState.TheVariants as state

pub prepared_is : (st : SessionState) (at : ℕ) → prepared_at st ≡ Some at
    → (coordinator : ℕ) × (st ≡ state.Prepared at coordinator)
prepared_is state.Live at h = cc
prepared_is (state.Prepared since coordinator) at h = let same : since ≡ at = cc in
    (coordinator, ap (λ n. state.Prepared n coordinator) same)
prepared_is (state.Committed since) at h = cc
prepared_is state.Released at h = cc
prepared_is (state.Aborted why read_at) at h = cc
