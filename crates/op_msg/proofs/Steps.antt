-- The steps of a reader that gave something.
use Rattle.std.proofs.Common.{◌≡◌, Bool, true, false, cond, Option, Some, None, Result, Ok, Err}
use Rattle.std.proofs.Common.{refl, ap}
use Rattle.outcomes.specs.Bind.{◌>>=◌}
use Rattle.outcomes.proofs.Binding.{bind_ok, passed, ok_is, bound}
use Rattle.bson_core.specs.declared.error.BsonErr.{BsonErr}
use Rattle.op_msg.specs.declared.frame.FrameErr.{FrameErr}
use Rattle.op_msg.specs.Reading.{or_fault, as_message, as_section}

pub no_fault : {A : Type 0} (d : FrameErr) (o : Option A) (x : A) → or_fault d o ≡ Ok x → o ≡ Some x
no_fault d None x e = absurd cc
no_fault d (Some y) x e = ap (λ z. Some z) (ok_is y x e)

pub was_read : {A : Type 0} (r : Result A BsonErr) (x : A) → as_message r ≡ Ok x → r ≡ Ok x
was_read (Ok y) x e = ap (λ z. Ok z) (ok_is y x e)
was_read (Err d) x e = absurd cc

pub was_name : {A : Type 0} (r : Result A BsonErr) (x : A) → as_section r ≡ Ok x → r ≡ Ok x
was_name (Ok y) x e = ap (λ z. Ok z) (ok_is y x e)
was_name (Err d) x e = absurd cc
