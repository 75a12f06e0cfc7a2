-- The map of a coordinator as its definition has it.
use Rattle.std.proofs.Common.{◌≡◌, ℕ, ◌&&◌, Bool, true, false, cond, Option, Some, None, option_map}
use Rattle.std.proofs.Common.{IsSomeAnd, refl, ap, sym, subst, ◌∙◌}
use Rattle.std.specs.Map.{lookup, set_value, remove_entry, keys_of}
use Rattle.std.specs.BTreeMap.{is_at, insert_entry}
use Rattle.std.specs.List.Sorted.{IsStrictlySortedBy}
use Rattle.std.proofs.lemmas.Map.Steps.{set_value_same}
use Rattle.txn_types.specs.Order.{tag_cmp, same_tag}
use Rattle.txn_types.specs.declared.decision.Decision.{Decision}
use Rattle.txn_types.specs.declared.names.Tag.{Tag}
use Rattle.txn_types.proofs.Orders.{tag_total, tag_exact}
use Rattle.txn_semantics.specs.Keyed.{taken_out}
use Rattle.coordinator.specs.TwoPhase.{Coordinated, Coordinations, coordinated_of, with_coordinated}
use Rattle.coordinator.specs.TwoPhase.{ack_counts, all_acked, with_ack, is_last_ack, acked}
use Rattle.coordinator.proofs.Trees as trees

-- the coordination of a tag
pub held : (key tag : Tag) (entries coords : Coordinations) → key ≡ tag → entries ≡ coords
    → lookup (is_at (tag_cmp key)) entries ≡ coordinated_of coords tag
held key tag entries coords k e =
    trees.found tag_cmp tag_total tag_exact key entries
    ∙ ap (λ (s : Coordinations). coordinated_of s key) e
    ∙ ap (coordinated_of coords) k

pub held_there : (key tag : Tag) (w : Coordinated) (entries coords : Coordinations)
    → key ≡ tag → entries ≡ coords → Some w ≡ lookup (is_at (tag_cmp key)) entries
    → coordinated_of coords tag ≡ Some w
held_there key tag w entries coords k e there = sym (there ∙ held key tag entries coords k e)

pub held_nowhere : (key tag : Tag) (entries coords : Coordinations) → key ≡ tag → entries ≡ coords
    → None ≡ lookup (is_at (tag_cmp key)) entries → coordinated_of coords tag ≡ None
held_nowhere key tag entries coords k e there = sym (there ∙ held key tag entries coords k e)

-- a coordination that is put or stays, by a test
changed_here : (b : Bool) (tag : Tag) (w new other : Coordinated) (entries coords : Coordinations)
    → entries ≡ coords → IsStrictlySortedBy tag_cmp (keys_of entries)
    → lookup (is_at (tag_cmp tag)) entries ≡ Some w → new ≡ cond b other w → set_value (is_at
    (tag_cmp tag)) entries new ≡ cond b (with_coordinated tag other coords) coords
changed_here true tag w new other entries coords e ordered there is =
    trees.written tag_cmp tag_total tag_exact tag new w entries
    (trees.rises_of tag_cmp tag_total tag_exact entries ordered) there
    ∙ ap (λ (c : Coordinated). with_coordinated tag c entries) is
    ∙ ap (λ (s : Coordinations). with_coordinated tag other s) e
changed_here false tag w new other entries coords e ordered there is =
    ap (set_value (is_at (tag_cmp tag)) entries) is
    ∙ set_value_same (is_at (tag_cmp tag)) entries w there ∙ e

pub changed : (b : Bool) (key tag : Tag) (w new other : Coordinated) (entries coords :
    Coordinations) → key ≡ tag → entries ≡ coords → IsStrictlySortedBy tag_cmp (keys_of entries)
    → Some w ≡ lookup (is_at (tag_cmp key)) entries → new ≡ cond b other w → set_value (is_at
    (tag_cmp key)) entries new ≡ cond b (with_coordinated tag other coords) coords
changed b key tag w new other entries coords k e ordered there is =
    changed_here b key w new other entries coords e ordered (sym there) is
    ∙ ap (λ (t : Tag). cond b (with_coordinated t other coords) coords) k

pub began : (key tag : Tag) (new other : Coordinated) (entries coords : Coordinations)
    → key ≡ tag → entries ≡ coords → new ≡ other
    → insert_entry tag_cmp entries key new ≡ with_coordinated tag other coords
began key tag new other entries coords k e is =
    trees.inserted tag_cmp tag_total tag_exact key new entries
    ∙ ap (λ (c : Coordinated). with_coordinated key c entries) is
    ∙ ap (λ (s : Coordinations). with_coordinated key other s) e
    ∙ ap (λ (t : Tag). with_coordinated t other coords) k

pub forgotten : (key tag : Tag) (entries coords : Coordinations) → key ≡ tag
    → entries ≡ coords → IsStrictlySortedBy tag_cmp (keys_of entries)
    → remove_entry (is_at (tag_cmp key)) entries ≡ taken_out tag_cmp tag coords
forgotten key tag entries coords k e ordered =
    trees.removed tag_cmp tag_total tag_exact key entries
    (trees.rises_of tag_cmp tag_total tag_exact entries ordered)
    ∙ ap (λ (s : Coordinations). taken_out tag_cmp key s) e
    ∙ ap (λ (t : Tag). taken_out tag_cmp t coords) k

-- after an acknowledgement that is the last, and after another one
last_case : (b a : Bool) (gone kept coords : Coordinations) → (b && a) ≡ true
    → cond b (cond a gone kept) coords ≡ gone
last_case true true gone kept coords h = refl
last_case true false gone kept coords h = cc
last_case false a gone kept coords h = cc

pub last_forgets : (tag : Tag) (shard : ℕ) (c : Coordinated) (coords : Coordinations)
    → is_last_ack shard c ≡ true → acked tag shard c coords ≡ taken_out tag_cmp tag coords
last_forgets tag shard c coords h = last_case (ack_counts shard c) (all_acked (with_ack shard c))
    (taken_out tag_cmp tag coords) (with_coordinated tag (with_ack shard c) coords) coords h

other_case : (b a : Bool) (gone kept coords : Coordinations) → (b && a) ≡ false
    → cond b (cond a gone kept) coords ≡ cond b kept coords
other_case true true gone kept coords h = cc
other_case true false gone kept coords h = refl
other_case false a gone kept coords h = refl

pub others_keep : (tag : Tag) (shard : ℕ) (c : Coordinated) (coords : Coordinations)
    → is_last_ack shard c ≡ false → acked tag shard c coords
    ≡ cond (ack_counts shard c) (with_coordinated tag (with_ack shard c) coords) coords
others_keep tag shard c coords h = other_case (ack_counts shard c) (all_acked (with_ack shard c))
    (taken_out tag_cmp tag coords) (with_coordinated tag (with_ack shard c) coords) coords h

-- what is coordinated under a tag and under others, after a change
pub at_the_tag : (tag : Tag) (c : Coordinated) (coords : Coordinations)
    → coordinated_of (with_coordinated tag c coords) tag ≡ Some c
at_the_tag tag c coords = ap (λ (o : Option (Tag × Coordinated)).
    option_map (λ entry. entry.1) o) (trees.put_found tag_cmp tag_total tag_exact tag c coords)

pub at_another : (tag other : Tag) (c : Coordinated) (coords : Coordinations) → same_tag tag other
    ≡ false → coordinated_of (with_coordinated tag c coords) other ≡ coordinated_of coords other
at_another tag other c coords apart = ap (λ (o : Option (Tag × Coordinated)). option_map
    (λ entry. entry.1) o) (trees.put_other tag_cmp tag_total tag_exact tag other c coords apart)

pub at_another_left : (tag other : Tag) (coords : Coordinations) → same_tag tag other ≡ false
    → coordinated_of (taken_out tag_cmp tag coords) other ≡ coordinated_of coords other
at_another_left tag other coords apart = ap (λ (o : Option (Tag × Coordinated)). option_map
    (λ entry. entry.1) o) (trees.taken_other tag_cmp tag_total tag_exact tag other coords apart)

-- one of two lists
pub either : (P : Coordinations → Type 0) (b : Bool) (xs ys : Coordinations) → P xs → P ys
    → P (cond b xs ys)
either P true xs ys p q = p
either P false xs ys p q = q

-- what stands after an acknowledgement that isn't the last
pub decision_left : (b : Bool) (tag : Tag) (shard : ℕ) (c : Coordinated) (coords : Coordinations)
    (d : Decision) → c.decision ≡ Some d → coordinated_of coords tag ≡ Some c
    → IsSomeAnd (coordinated_of (cond b (with_coordinated tag (with_ack shard c) coords) coords)
    tag) (λ after. after.decision ≡ Some d)
decision_left true tag shard c coords d decided there = subst (λ (o : Option Coordinated). IsSomeAnd
    o (λ after. after.decision ≡ Some d)) (sym (at_the_tag tag (with_ack shard c) coords)) decided
decision_left false tag shard c coords d decided there = subst (λ (o : Option Coordinated).
    IsSomeAnd o (λ after. after.decision ≡ Some d)) (sym there) decided
