-- What is ready and what comes next, put together of their parts.
use Rattle.std.proofs.Common.{ℕ, List, Option}
use Rattle.play_steps.specs.declared.want.Want.{Want}
use Rattle.play_steps.specs.Player.{Player, Ready}
use Rattle.play_steps.specs.Lines.{Next}

abbrev pub as_ready : List ℕ → Option Want → Player → Ready
as_ready text w p = (text, w, p)

abbrev pub as_next : List ℕ → Want → Player → Next
as_next text w p = (text, w, p)
