-- What is given out, one after the other.
use Rattle.std.proofs.Common.{◌≡◌, List, refl, append_assoc, append-nil}
use Rattle.router_state.specs.declared.deed.Given.{Given}
use Rattle.router_state.specs.Deeds.{nothing, both}

given_of : (a a2 : List _) (s s2 : List _) (r r2 : List _) → a ≡ a2 → s ≡ s2
    → r ≡ r2 → ◌≡◌ {A = Given} (record { aborts = a; sends = s; replies = r })
    (record { aborts = a2; sends = s2; replies = r2 })
given_of a a2 s s2 r r2 ea es er = rw (ea, es, er) refl

pub both_assoc : (a b c : Given) → both (both a b) c ≡ both a (both b c)
both_assoc a b c = given_of _ _ _ _ _ _ (append_assoc a.aborts b.aborts c.aborts)
    (append_assoc a.sends b.sends c.sends) (append_assoc a.replies b.replies c.replies)

pub both_nothing : (a : Given) → both a nothing ≡ a
both_nothing a =
    given_of _ _ _ _ _ _ (append-nil a.aborts) (append-nil a.sends) (append-nil a.replies)
