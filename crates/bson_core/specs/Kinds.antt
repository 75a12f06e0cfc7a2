-- The kinds of values that a document holds, by the type bytes of BSON 1.1 (bsonspec.org). Any
-- other type byte, such as 01 for a double, is the type of no value here.
use Rattle.std.specs.Prelude.{ℕ, Option, Some, None, ◌==◌, if◌then◌else◌}
use Rattle.bson_core.specs.declared.kind.Leaf.{Leaf}
use Rattle.bson_core.specs.declared.kind.Leaf.TheVariants as leaf
use Rattle.bson_core.specs.declared.kind.Kind.{Kind}
use Rattle.bson_core.specs.declared.kind.Kind.TheVariants as kind

-- the type byte of a kind
abbrev pub leaf_byte : Leaf → ℕ
leaf_byte leaf.Text = 2
leaf_byte leaf.Bin = 5
leaf_byte leaf.Oid = 7
leaf_byte leaf.Bool = 8
leaf_byte leaf.Date = 9
leaf_byte leaf.Null = 10
leaf_byte leaf.Int = 16
leaf_byte leaf.Stamp = 17
leaf_byte leaf.Long = 18

abbrev pub kind_byte : Kind → ℕ
kind_byte kind.Doc = 3
kind_byte kind.List = 4
kind_byte (kind.Leaf l) = leaf_byte l

-- the kind with that type byte
abbrev pub kind_of : ℕ → Option Kind
kind_of byte =
    if byte == 2 then Some (kind.Leaf leaf.Text) else
    (if byte == 3 then Some kind.Doc else
    (if byte == 4 then Some kind.List else
    (if byte == 5 then Some (kind.Leaf leaf.Bin) else
    (if byte == 7 then Some (kind.Leaf leaf.Oid) else
    (if byte == 8 then Some (kind.Leaf leaf.Bool) else
    (if byte == 9 then Some (kind.Leaf leaf.Date) else
    (if byte == 10 then Some (kind.Leaf leaf.Null) else
    (if byte == 16 then Some (kind.Leaf leaf.Int) else
    (if byte == 17 then Some (kind.Leaf leaf.Stamp) else
    (if byte == 18 then Some (kind.Leaf leaf.Long) else None))))))))))
