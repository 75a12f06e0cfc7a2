-- How long the messages of nodes are.
use Rattle.std.proofs.Common.{◌≡◌, ℕ, ◌+◌, pos, false, List, [], ◌∷◌, ◌++◌, length, codes, ap, ◌∙◌}
use Rattle.std.proofs.Common.{arith, append-nil, length-append}
use Rattle.std.proofs.lemmas.Grind.{common_steps}
use Rattle.bson_core.specs.declared.value.Value.TheOpen as of
use Rattle.bson_core.specs.declared.value.Value.TheViews as views
use Rattle.bson_core.specs.declared.value.Value.TheVariants as value
use Rattle.bson_core.specs.declared.value.Value.TheFolds.{fold-roll-Value}
use Rattle.bson_core.specs.Spelling.{Coded, coded_step, coded, elements, spelling}
use Rattle.bson_core.proofs.Spelled.{coded_text, coded_bin}
use Rattle.bson_core.proofs.Lengths.{length_text, length_binary, length_framed}
use Rattle.op_msg.specs.Message.{message, sections}
use Rattle.op_msg.proofs.Fronts.{length_message}
use Rattle.node_wire.specs.Spelling.{body_of, frame_of}

coded_int : (n : ℕ) → length (coded (value.Int (pos n))).1 ≡ 4
unfolding views.roll-Value denote.Hole.Carrier.roll
coded_int n = ap (λ (c : Coded). length c.1) (fold-roll-Value Coded coded_step (of.Int (pos n)))

coded_name : length (coded (value.Text (codes "mtx"))).1 ≡ 8
coded_name = ap (λ (c : Coded). length c.1) (coded_text (codes "mtx")) ∙ length_text (codes "mtx")

coded_content : (bytes : List ℕ)
    → length (coded (value.Bin (record { subtype = 0; bytes = bytes }))).1 ≡ length bytes + 5
coded_content bytes =
    ap (λ (c : Coded). length c.1) (coded_bin (record { subtype = 0; bytes = bytes }))
    ∙ length_binary (record { subtype = 0; bytes = bytes })

pub length_body : (kind : ℕ) (bytes : List ℕ)
    → length (spelling (body_of kind bytes)) ≡ length bytes + 35
length_body kind bytes = length_framed (elements (body_of kind bytes))
    ∙ grind (arith, common_steps, coded_int kind, coded_name, coded_content bytes)

-- 16 bytes of the header, 4 of flags, 1 of the section's kind, and the body
pub length_frame : (kind : ℕ) (bytes : List ℕ)
    → length (message (frame_of kind bytes)) ≡ length bytes + 56
length_frame kind bytes = length_message (frame_of kind bytes)
    ∙ grind (arith, common_steps, length_body kind bytes)
