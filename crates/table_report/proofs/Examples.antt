-- What is wrong with some rows, computed: each reason once, and the order of reasons. Assumes nothing.
use mathlib.Core.Path.{◌≡◌, refl}
use mathlib.Core.List.{List, [], ◌∷◌}
use Prim.Native.String.{String}
use Rattle.standard.specs.Tag.{text, order, same, onto, present}
use Rattle.standard.specs.Grammar.{small, capital, digit, lower_byte, upper_byte, every, title, upper, size_of, starts_with_digit, language_size, is_language, kind, kind_of, variant_kind}
use Rattle.standard.specs.Identifier.{without, without_unknown, complete, same_three}
use Rattle.standard.specs.Reading.{optional, rest, joined, of_kind}
use Rattle.standard.specs.Table.{pieces, rows, rows_fault, row_key, above, shape_of, is_none, alias_shape, likely_shape, lower, in_canonical_case, find_in_case, three_of, parse, print_three, is_three, is_word, language_is_und, is_variant_tag}
use Rattle.byte_string.specs.Strings.{end_of}
use Rattle.subtag.specs.Bytes.{cased_byte}
use Rattle.row_shapes.specs.declared.Table.{Table}
use Rattle.row_shapes.specs.declared.Table.TheVariants.{Aliases, Likely}
use Rattle.row_shapes.specs.Rows.{kind_named, kind_is, second_tab, key_end}
use Rattle.tsv.specs.Fields.{digits_onto, decimal, field}
use Rattle.tsv.specs.Shown.{plain, hex, safe_byte, safe, dots, shown}
use Rattle.meaning.specs.Meaning.{meaning_of}
use Rattle.table_report.specs.declared.Wrong.{Wrong}
use Rattle.table_report.specs.declared.Wrong.TheVariants.{NoEnd, Empty, Return, NoTab, FewTabs, ManyTabs, Byte, Kind, Case, Field, SameKey, Order}
use Rattle.table_report.specs.Cases.{first_of, by_length, capitals, next_count, recased, passes, wrong_case}
use Rattle.table_report.specs.Faults.{row_in, hit_of, count_of, fits, unknown_kind, field_fault, row_fault, shape_fault, line_start, row_before, key_of, order_fault}
use Rattle.table_report.specs.Words.{wrong_words, told_text}
use Rattle.table_report.specs.Line.{names_row, line_of, row_for, meant_text, verdict_text, rest_text, spot, line_text, report_text}

-- the reasons of the rows at the front of some texts
abbrev faults : Table → List String → List Wrong
faults t [] = []
faults t (s ∷ ss) = shape_fault t (text s) ∷ faults t ss

pub likely-rows :
    faults Likely ("en\ten-Latn-US" ∷ "\nen\ten-Latn-US\n" ∷ "en\r\n" ∷ "en en-Latn-US\n" ∷ "en\ten-Latn-US\t\n" ∷ "en_US\ten-Latn-US\n" ∷ "EN\ten-latn-us\n" ∷ "en\ten-Latn\n" ∷ [])
    ≡ NoEnd ∷ Empty ∷ Return ∷ NoTab ∷ ManyTabs ∷ Byte ∷ Case ∷ Field ∷ []
unfolding shape_fault row_fault field_fault row_in end_of count_of hit_of fits every small capital digit unknown_kind kind_named wrong_case passes first_of recased next_count capitals by_length cased_byte field is_none rows_fault rows row_key above pieces onto kind_is shape_of alias_shape likely_shape lower lower_byte upper_byte title upper in_canonical_case find_in_case three_of parse print_three is_three is_word language_is_und is_variant_tag is_language language_size size_of starts_with_digit kind kind_of variant_kind of_kind optional rest joined without without_unknown complete present same_three same order
likely-rows = refl

pub alias-rows :
    faults Aliases ("language\tiw\n" ∷ "Language\tiw\the\n" ∷ "language\tIW\tHE\n" ∷ "script\tqaai\tZINH\n" ∷ "region\tuk\tgb\n" ∷ "variant\tHEPLOC\talalc97\n" ∷ "language\tund\the\n" ∷ [])
    ≡ FewTabs ∷ Kind ∷ Case ∷ Case ∷ Case ∷ Case ∷ Field ∷ []
unfolding shape_fault row_fault field_fault row_in end_of count_of hit_of fits every small capital digit unknown_kind kind_named wrong_case passes first_of recased next_count capitals by_length cased_byte field is_none rows_fault rows row_key above pieces onto kind_is shape_of alias_shape likely_shape lower lower_byte upper_byte title upper in_canonical_case find_in_case three_of parse print_three is_three is_word language_is_und is_variant_tag is_language language_size size_of starts_with_digit kind kind_of variant_kind of_kind optional rest joined without without_unknown complete present same_three same order
alias-rows = refl

-- the second row of two: the key of the first again, and one below it
pub orders :
    order_fault Likely (text "en\ten-Latn-US\nen\ten-Latn-GB\n") 14 ∷ order_fault Likely (text "en\ten-Latn-US\nde\tde-Latn-DE\n") 14
    ∷ order_fault Aliases (text "language\tiw\the\nlanguage\tiw\tyi\n") 15 ∷ order_fault Aliases (text "region\tBU\tMM\nlanguage\tiw\tyi\n") 13 ∷ []
    ≡ SameKey ∷ Order ∷ SameKey ∷ Order ∷ []
unfolding order_fault same order key_of key_end end_of second_tab row_before line_start row_in
orders = refl

-- whole lines: tables that pass, a table that is too big, a row in the third line without its 0A, and a key twice
pub report-lines :
    report_text 0 0 0 [] [] [] ∷ report_text 11 0 3 [] [] [] ∷ report_text 12 28 2 [] (text "de\tde-Latn-DE\nen\ten-Latn-US\nhe") []
    ∷ report_text 13 15 1 (text "language\tiw\the\nlanguage\tiw\tyi\n") [] [] ∷ []
    ≡ text "table\t0\t0\t0\t0\t-\tdone\n" ∷ text "table\t11\t3\t0\t0\t-\ta table over 32,768 bytes\n"
    ∷ text "table\t12\t2\t28\t3\the\ta row of wrong shape: no line end\n"
    ∷ text "table\t13\t1\t15\t2\tlanguage\\x09iw\\x09yi\ta row not above the one before: the same key again\n" ∷ []
unfolding report_text line_text verdict_text rest_text spot line_of names_row row_for meant_text told_text wrong_words meaning_of decimal digits_onto shown safe safe_byte plain hex dots field shape_fault count_of hit_of order_fault same order key_of key_end end_of second_tab row_before line_start row_in
report-lines = refl
