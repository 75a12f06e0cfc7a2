use Rattle.std.proofs.Common.{◌≡◌, length}
use Rattle.client_streams.specs.Streams.{cut_times}
use Rattle.client_streams.proofs.connection.Connection.cut.Given as goal

abbrev pub invariant-loop : goal.invariant-loop
invariant-loop l =
    cut_times (length l.self.bytes) l.self ≡ cut_times (length l.initial.self.bytes) l.initial.self

abbrev pub decreases-loop : goal.decreases-loop
decreases-loop l = length l.self.bytes
