use Rattle.router_rules.proofs.Writing.{taken_room}
use Rattle.router_rules.proofs.laws.few_shards_write_behind_an_answer.Goals as goal

pub returns : goal.returns
returns c = taken_room
