-- Room for the votes and acknowledgements that may still come: one of each participant.
use Rattle.std.specs.Prelude.{ℕ, ◌+◌, ◌≤◌, not, List, filter, length, nat_eq}
use Rattle.std.specs.List.{list_any}

-- the participants that haven't voted
abbrev pub unheard : List (ℕ × ℕ) → List (ℕ × ℕ) → List (ℕ × ℕ)
unheard parts votes = filter (λ part. not (list_any (λ vote. nat_eq vote.0 part.0) votes)) parts

-- the participants that haven't acknowledged
abbrev pub unacked : List (ℕ × ℕ) → List ℕ → List (ℕ × ℕ)
unacked parts acks = filter (λ part. not (list_any (nat_eq part.0) acks)) parts

pub record HasRoom (parts votes : List (ℕ × ℕ)) (vote_room : ℕ) (acks : List ℕ)
    (ack_room : ℕ) : Type 0 where
  pub for_votes : length votes + length (unheard parts votes) ≤ vote_room
  pub for_acks : length acks + length (unacked parts acks) ≤ ack_room
