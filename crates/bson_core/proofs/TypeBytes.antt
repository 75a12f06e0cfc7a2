-- A kind has one type byte, and no two kinds have the same.
use Rattle.std.proofs.Common.{◌≡◌, ℕ, Bool, true, false, cond, eqb, Option, Some, refl, sym, ap}
use Rattle.std.proofs.Common.{◌∙◌}
use Rattle.std.proofs.lemmas.Bool.{eqb-true, ne_eqb}
use Rattle.bson_core.specs.declared.kind.Leaf.TheVariants as leaf
use Rattle.bson_core.specs.declared.kind.Kind.{Kind}
use Rattle.bson_core.specs.declared.kind.Kind.TheVariants as kind
use Rattle.bson_core.specs.Kinds.{kind_byte, kind_of}

-- one test of the byte, and what the others find
here_or_behind : (b : Bool) (byte n : ℕ) (first found : Kind) (others : Option Kind)
    → eqb byte n ≡ b → kind_byte first ≡ n → (others ≡ Some found → kind_byte found ≡ byte)
    → cond b (Some first) others ≡ Some found → kind_byte found ≡ byte
here_or_behind true byte n first found others test is behind e =
    let same : first ≡ found = cc in
    ap kind_byte (sym same) ∙ is ∙ sym (eqb-true byte n test)
here_or_behind false byte n first found others test is behind e = behind e

pub kind_found : (byte : ℕ) (found : Kind) → kind_of byte ≡ Some found → kind_byte found ≡ byte
kind_found byte found =
    here_or_behind (eqb byte 2) byte 2 (kind.Leaf leaf.Text) found _ refl refl
    (here_or_behind (eqb byte 3) byte 3 kind.Doc found _ refl refl
    (here_or_behind (eqb byte 4) byte 4 kind.List found _ refl refl
    (here_or_behind (eqb byte 5) byte 5 (kind.Leaf leaf.Bin) found _ refl refl
    (here_or_behind (eqb byte 7) byte 7 (kind.Leaf leaf.Oid) found _ refl refl
    (here_or_behind (eqb byte 8) byte 8 (kind.Leaf leaf.Bool) found _ refl refl
    (here_or_behind (eqb byte 9) byte 9 (kind.Leaf leaf.Date) found _ refl refl
    (here_or_behind (eqb byte 10) byte 10 (kind.Leaf leaf.Null) found _ refl refl
    (here_or_behind (eqb byte 16) byte 16 (kind.Leaf leaf.Int) found _ refl refl
    (here_or_behind (eqb byte 17) byte 17 (kind.Leaf leaf.Stamp) found _ refl refl
    (here_or_behind (eqb byte 18) byte 18 (kind.Leaf leaf.Long) found _ refl refl
    (λ e. absurd cc)))))))))))

-- no kind has the byte that ends a document
pub not_the_end : (byte : ℕ) (found : Kind) → kind_of byte ≡ Some found → eqb byte 0 ≡ false
not_the_end byte found e =
    ne_eqb _ _ (λ is. let none : kind_of 0 ≡ Some found = sym (ap kind_of is) ∙ e in absurd cc)
