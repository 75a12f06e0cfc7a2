-- A journal's file: 16 bytes of header, then frames, then an end gate. A frame is a gate byte A5,
-- which is 165, the length of its payload in four bytes, low first, and the payload. Any other gate
-- byte is the end.
use Rattle.std.specs.Prelude.{ℕ, zero, suc, ◌+◌, ◌<◌, ◌^◌, ◌==◌, List, [], ◌∷◌, ◌++◌, length, take}
use Rattle.std.specs.Prelude.{drop, Result, Ok, Err, codes, if◌then◌else◌, nat_lt}
use Rattle.std.specs.Int.{w32, to_le_bytes, from_le_bytes}

abbrev pub header : List ℕ
header = codes "MTX JOURNAL 0001"

-- what stands after a frame's gate
abbrev pub body : List ℕ → List ℕ
body payload = to_le_bytes w32 (length payload) ++ payload

-- frames of these payloads, one after the other
abbrev pub spell : List (List ℕ) → List ℕ
spell [] = []
spell (payload ∷ payloads) = 165 ∷ body payload ++ spell payloads

-- each length fits its four bytes
abbrev pub AreShort : List (List ℕ) → Type 0
AreShort [] = Unit {0}
AreShort (payload ∷ payloads) = (length payload < 2 ^ 32) × AreShort payloads

-- the file of these payloads with nothing after its end gate 00
abbrev pub at_rest : List (List ℕ) → List ℕ
at_rest payloads = header ++ spell payloads ++ 0 ∷ []

-- the place of the gate after these payloads' frames
abbrev pub end_of : List (List ℕ) → ℕ
end_of payloads = 16 + length (spell payloads)

-- the length that stands in front
abbrev pub told_length : List ℕ → ℕ
told_length bytes = from_le_bytes w32 (take 4 bytes)

-- a payload in front of those that follow
abbrev pub joined : List ℕ → Result (List (List ℕ)) ℕ → Result (List (List ℕ)) ℕ
joined payload (Ok payloads) = Ok (payload ∷ payloads)
joined payload (Err place) = Err place

-- the payload of the frame at a place, with these bytes after its gate, in front of those that
-- follow; or the place, where the frame and a next gate don't fit
abbrev pub framed : ℕ → List ℕ → Result (List (List ℕ)) ℕ → Result (List (List ℕ)) ℕ
framed place bytes following =
    if nat_lt (4 + told_length bytes) (length bytes) then
    joined (take (told_length bytes) (drop 4 bytes)) following else Err place

-- The payloads from a place on, or the place of the first gate A5 whose frame and next gate don't
-- fit. The first bytes, as many as skip says, belong to the frame before.
abbrev pub payloads_from : ℕ → ℕ → List ℕ → Result (List (List ℕ)) ℕ
payloads_from place skip [] = Ok []
payloads_from place (suc skip) (byte ∷ rest) = payloads_from (place + 1) skip rest
payloads_from place zero (gate ∷ rest) =
    if gate == 165 then framed place rest (payloads_from (place + 1) (4 + told_length rest) rest)
    else Ok []

-- the first place from this one on where the file doesn't begin as this says
abbrev pub read_behind : ℕ → List ℕ → List ℕ → Result (List (List ℕ)) ℕ
read_behind place [] file = payloads_from place 0 file
read_behind place (byte ∷ front) [] = Err place
read_behind place (byte ∷ front) (first ∷ file) =
    if first == byte then read_behind (place + 1) front file else Err place

-- The payloads of a file, or the place of its first byte at fault. A file of at most 17 bytes is
-- new, whatever it holds, and has none.
abbrev pub payloads_of : List ℕ → Result (List (List ℕ)) ℕ
payloads_of file = if nat_lt 17 (length file) then read_behind 0 header file else Ok []

-- those of a file without a fault
abbrev pub frames_on : List ℕ → List (List ℕ)
frames_on file = elim (payloads_of file) [ Ok payloads ↦ payloads | Err place ↦ [] ]
