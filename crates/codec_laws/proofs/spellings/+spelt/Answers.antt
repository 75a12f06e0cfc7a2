use Rattle.std.proofs.Common.{subst, sym}
use Rattle.std.specs.List.{All}
use Rattle.std.proofs.lemmas.List.{take_all}
use Rattle.std.proofs.lemmas.List.Elements.{All-more}
use Rattle.codec_laws.specs.Spells.{IsSpelt, IsFieldSpelt}
use Rattle.codec_laws.proofs.Written.{text_spelt, bin_spelt, oid_spelt, bool_spelt, date_spelt}
use Rattle.codec_laws.proofs.Written.{null_spelt, int_spelt, stamp_spelt, long_spelt, doc_spelt}
use Rattle.codec_laws.proofs.Written.{list_spelt}
use Rattle.codec_laws.proofs.spellings.+spelt.Goals as goal

pub value_is_spelt-returns-in-Text : goal.value_is_spelt-returns-in-Text
value_is_spelt-returns-in-Text t c =
    subst IsSpelt (sym c.in-Text.is) (text_spelt c.in-Text.text c.as_str-text.ensures.utf8)

pub value_is_spelt-returns-in-Doc : goal.value_is_spelt-returns-in-Doc
value_is_spelt-returns-in-Doc t c = subst IsSpelt (sym c.in-Doc.is) (doc_spelt c.in-Doc.doc
    (subst (All IsFieldSpelt) c.as_slice.ensures c.fields_are_spelt.ensures))

pub value_is_spelt-returns-in-List : goal.value_is_spelt-returns-in-List
value_is_spelt-returns-in-List t c = subst IsSpelt (sym c.in-List.is) (list_spelt c.in-List.list
    (subst (All IsSpelt) c.as_slice-in-List.ensures c.values_are_spelt.ensures))

pub value_is_spelt-returns-in-Bin : goal.value_is_spelt-returns-in-Bin
value_is_spelt-returns-in-Bin t c = subst IsSpelt (sym c.in-Bin.is) (bin_spelt c.in-Bin.field-0)

pub value_is_spelt-returns-in-Oid : goal.value_is_spelt-returns-in-Oid
value_is_spelt-returns-in-Oid t c =
    subst IsSpelt (sym c.in-Oid.is) (oid_spelt c.in-Oid.bytes c.has_twelve_bytes.ensures)

pub value_is_spelt-returns-in-Bool : goal.value_is_spelt-returns-in-Bool
value_is_spelt-returns-in-Bool t c = subst IsSpelt (sym c.in-Bool.is) (bool_spelt c.in-Bool.field-0)

pub value_is_spelt-returns-in-Date : goal.value_is_spelt-returns-in-Date
value_is_spelt-returns-in-Date t c =
    subst IsSpelt (sym c.in-Date.is) (date_spelt c.in-Date.moment c.i64_fits.ensures)

pub value_is_spelt-returns-in-Null : goal.value_is_spelt-returns-in-Null
value_is_spelt-returns-in-Null t c = subst IsSpelt (sym c.in-Null.is) null_spelt

pub value_is_spelt-returns-in-Int : goal.value_is_spelt-returns-in-Int
value_is_spelt-returns-in-Int t c =
    subst IsSpelt (sym c.in-Int.is) (int_spelt c.in-Int.number c.i32_fits.ensures)

pub value_is_spelt-returns-in-Stamp : goal.value_is_spelt-returns-in-Stamp
value_is_spelt-returns-in-Stamp t c =
    subst IsSpelt (sym c.in-Stamp.is) (stamp_spelt c.in-Stamp.number c.u64_fits.ensures)

pub value_is_spelt-returns-in-Long : goal.value_is_spelt-returns-in-Long
value_is_spelt-returns-in-Long t c =
    subst IsSpelt (sym c.in-Long.is) (long_spelt c.in-Long.number c.i64_fits-in-Long.ensures)

pub fields_are_spelt-loop-name-preserved : goal.fields_are_spelt-loop-name-preserved
fields_are_spelt-loop-name-preserved t c =
    All-more IsFieldSpelt c.args.fields.now c.loop-name.name-index c.loop-name-item.result
    c.loop-name-test.true c.loop-name.invariant (subst IsFieldSpelt c.loop-name-item.is
    (c.as_str-name.ensures.name, c.value_is_spelt.ensures))

pub fields_are_spelt-returns : goal.fields_are_spelt-returns
fields_are_spelt-returns t c = subst (All IsFieldSpelt) (take_all c.loop-name.name-index
    c.args.fields.now c.loop-name-test.false) c.loop-name.invariant

pub values_are_spelt-loop-value-preserved : goal.values_are_spelt-loop-value-preserved
values_are_spelt-loop-value-preserved t c =
    All-more IsSpelt c.args.values.now c.loop-value.value-index
    c.value-item.result c.loop-value-test.true c.loop-value.invariant
    (subst IsSpelt c.value-item.is c.value_is_spelt.ensures)

pub values_are_spelt-returns : goal.values_are_spelt-returns
values_are_spelt-returns t c = subst (All IsSpelt) (take_all c.loop-value.value-index
    c.args.values.now c.loop-value-test.false) c.loop-value.invariant
