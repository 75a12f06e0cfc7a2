use Rattle.std.proofs.Common.{◌≡◌, ◌%◌, ◌^◌, ◌<◌, length, sym, ◌∙◌, arith}
use Rattle.std.proofs.lemmas.List.{nil_from_length}
use Rattle.std.proofs.Math.Nat.{mod-eq_of_lt}
use Rattle.node_server.proofs.Bytes.{short}
use Rattle.node_server.proofs.incoming.Incoming.end.Goals as goal

pub returns-then-self-eq0 : goal.returns-then-self-eq0
returns-then-self-eq0 c =
    let held = c.args.self.now.feeder.held in
    let few : length held < 2 ^ 32 = short _ held c.requires.limit c.requires.none in
    let small : length held % 2 ^ 64 ≡ length held = mod-eq_of_lt (omega (arith, few)) in
    nil_from_length held (sym small ∙ (sym c.args.self.now.counted ∙ c.if-self-eq0.true))
