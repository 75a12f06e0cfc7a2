use Rattle.std.proofs.Common.{subst, sym, ◌∙◌}
use Rattle.std.specs.List.{All}
use Rattle.std.proofs.lemmas.List.{take_all}
use Rattle.std.proofs.lemmas.List.Elements.{All-more}
use Rattle.bson_core.specs.Written.{IsWritten, IsFieldWritten}
use Rattle.bson_core.proofs.InGrammar.{text_written, bin_written, oid_written, bool_written}
use Rattle.bson_core.proofs.InGrammar.{date_written, null_written, int_written, stamp_written}
use Rattle.bson_core.proofs.InGrammar.{long_written, doc_written, list_written}
use Rattle.bson_core.proofs.laws.+written.Goals as goal

pub value_is_written-returns-in-Text : goal.value_is_written-returns-in-Text
value_is_written-returns-in-Text t c =
    subst IsWritten (sym c.in-Text.is) (text_written c.in-Text.text c.as_str-text.ensures.utf8)

pub value_is_written-returns-in-Doc : goal.value_is_written-returns-in-Doc
value_is_written-returns-in-Doc t c = subst IsWritten (sym c.in-Doc.is) (doc_written c.in-Doc.doc
    (subst (All IsFieldWritten) c.as_slice.ensures c.fields_are_written.ensures))

pub value_is_written-returns-in-List : goal.value_is_written-returns-in-List
value_is_written-returns-in-List t c = subst IsWritten (sym c.in-List.is) (list_written
    c.in-List.list (subst (All IsWritten) c.as_slice-in-List.ensures c.values_are_written.ensures))

pub value_is_written-returns-in-Bin : goal.value_is_written-returns-in-Bin
value_is_written-returns-in-Bin t c =
    subst IsWritten (sym c.in-Bin.is) (bin_written c.in-Bin.field-0)

pub value_is_written-returns-in-Oid : goal.value_is_written-returns-in-Oid
value_is_written-returns-in-Oid t c = subst IsWritten (sym c.in-Oid.is) (oid_written c.in-Oid.bytes
    (sym c.id_size-twelve.ensures.bytes ∙ c.id_size-twelve.ensures.twelve))

pub value_is_written-returns-in-Bool : goal.value_is_written-returns-in-Bool
value_is_written-returns-in-Bool t c =
    subst IsWritten (sym c.in-Bool.is) (bool_written c.in-Bool.field-0)

pub value_is_written-returns-in-Date : goal.value_is_written-returns-in-Date
value_is_written-returns-in-Date t c =
    subst IsWritten (sym c.in-Date.is) (date_written c.in-Date.moment c.i64_fits.ensures)

pub value_is_written-returns-in-Null : goal.value_is_written-returns-in-Null
value_is_written-returns-in-Null t c = subst IsWritten (sym c.in-Null.is) null_written

pub value_is_written-returns-in-Int : goal.value_is_written-returns-in-Int
value_is_written-returns-in-Int t c =
    subst IsWritten (sym c.in-Int.is) (int_written c.in-Int.number c.i32_fits.ensures)

pub value_is_written-returns-in-Stamp : goal.value_is_written-returns-in-Stamp
value_is_written-returns-in-Stamp t c =
    subst IsWritten (sym c.in-Stamp.is) (stamp_written c.in-Stamp.number c.u64_fits.ensures)

pub value_is_written-returns-in-Long : goal.value_is_written-returns-in-Long
value_is_written-returns-in-Long t c =
    subst IsWritten (sym c.in-Long.is) (long_written c.in-Long.number c.i64_fits-in-Long.ensures)

pub fields_are_written-loop-name-preserved : goal.fields_are_written-loop-name-preserved
fields_are_written-loop-name-preserved t c =
    All-more IsFieldWritten c.args.fields.now c.loop-name.name-index c.loop-name-item.result
    c.loop-name-test.true c.loop-name.invariant (subst IsFieldWritten c.loop-name-item.is
    (c.as_str-name.ensures.name, c.value_is_written.ensures))

pub fields_are_written-returns : goal.fields_are_written-returns
fields_are_written-returns t c = subst (All IsFieldWritten) (take_all c.loop-name.name-index
    c.args.fields.now c.loop-name-test.false) c.loop-name.invariant

pub values_are_written-loop-value-preserved : goal.values_are_written-loop-value-preserved
values_are_written-loop-value-preserved t c =
    All-more IsWritten c.args.values.now c.loop-value.value-index
    c.value-item.result c.loop-value-test.true c.loop-value.invariant
    (subst IsWritten c.value-item.is c.value_is_written.ensures)

pub values_are_written-returns : goal.values_are_written-returns
values_are_written-returns t c = subst (All IsWritten) (take_all c.loop-value.value-index
    c.args.values.now c.loop-value-test.false) c.loop-value.invariant
