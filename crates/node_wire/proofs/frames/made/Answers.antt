use Rattle.std.proofs.Common.{sym, ◌∙◌}
use Rattle.node_wire.proofs.Joined.{makes_frame, makes_none}
use Rattle.node_wire.proofs.frames.made.Goals as goal

pub returns-in_ok-frame_of-in-Some : goal.returns-in_ok-frame_of-in-Some
returns-in_ok-frame_of-in-Some c =
    λ bytes h. makes_frame _ _ bytes _ (sym c.in-Some.ensures ∙ h) c.in_ok-frame_of-in-Some.ensures

pub returns-in-None : goal.returns-in-None
returns-in-None c = λ bytes h. makes_none _ bytes (sym c.in-None.ensures ∙ h)
