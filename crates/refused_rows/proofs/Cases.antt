-- Worked examples of rows, computed, over any tables: of each fault of a member, of refusals of reading, and of bytes that
-- are no text. Assumes nothing.
use Rattle.std.proofs.Common.{◌≡◌, ℕ, List, [], ◌∷◌, map, refl}
use Prim.Native.String.{String}
use Rattle.standard.specs.Tag.{text, order, same, head_tag, onto}
use Rattle.standard.specs.Grammar.{small, capital, digit, separator, lower_byte, every, size_of, starts_with_digit, one_size, two_size, wrong_length, language_size, is_language, kind, kind_of, variant_kind, is_variant, is_singleton, is_two, is_keyword_key, is_field_key, with_tag, grouped}
use Rattle.standard.specs.Identifier.{part, parts}
use Rattle.standard.specs.Reading.{split, first_of, no_bytes, too_long, clean, unclean, bad_tag, wrong_size, member, accept, rest_fault, start, language_only, part_fault, alone, groups_fault, wrong_keyword, wrong_value, field_fault, fields_fault, extension_fault, private_fault, is_x, up_to, from, no_language, grammar_fault, fault_by, fault_of, read_as, read}
use Rattle.standard.specs.Delivery.{Bytes}
use Rattle.standard.specs.Make.{make_of, make}
use Rattle.tsv.specs.Fields.{digits_onto, decimal, field}
use Rattle.tsv.specs.Shown.{plain, hex, safe_byte, safe, dots, shown}
use Rattle.meaning.specs.Meaning.{refusal_of, meaning_of}
use Rattle.bill_rules.specs.Bill.{leading, member_of, before_tab, after_tab}
use Rattle.bill_rules.specs.Refusals.{digits, leading_zero, range_fault, member_fault, made_fault, member_first, fault_at, line_fault}
use Rattle.refused_rows.specs.Rows.{member_words, number_text, place_of, words_of, identifier_bytes, fault_text, head_text, fault_row, row_if, kept_row, line_row}

-- a line's number, the line, and its row
pub record Case : Type 0 where
  pub number : ℕ
  pub line : String
  pub row : String

-- one case
unfoldable pub case : ℕ → String → String → Case
case n l r = record { number = n; line = l; row = r }

-- all cases
unfoldable pub cases : List Case
cases =
    case 1 "en" "1\ten\t-\t0\t-\tno tab between member and identifier\n"
    ∷ case 2 "" "2\t-\t-\t0\t-\tno tab between member and identifier\n"
    ∷ case 3 "\ten" "3\t-\t-\t0\ten\tno member number\n"
    ∷ case 4 "+1\ten" "4\t+1\t-\t0\ten\tthe member is no number\n"
    ∷ case 5 "01\ten" "5\t01\t-\t0\ten\tthe member begins with 0\n"
    ∷ case 6 "0\ten" "6\t0\t-\t0\ten\tthe member is not 1 to 64\n"
    ∷ case 7 "65\ten" "7\t65\t-\t0\ten\tthe member is not 1 to 64\n"
    ∷ case 8 "100\ten" "8\t100\t-\t0\ten\tthe member is not 1 to 64\n"
    ∷ case 9 "5\t" "9\t5\t1\t2\t-\tno bytes\n"
    ∷ case 10 "64\ten\tUS" "10\t64\t3\t5\ten\\x09US\ta byte that is no letter, digit, - or _\n"
    ∷ case 123 "2\ten--US" "123\t2\t4\t5\ten--US\ta subtag of 0 or over 8 bytes\n"
    ∷ case 124 "3\tx-abc" "124\t3\t5\t2\tx-abc\ta first subtag that is no language, script or root\n"
    ∷ case 125 "3\ten-t-k0-ab" "125\t3\t16\t10\ten-t-k0-ab\ta subtag that can't stand there, in an extension\n"
    ∷ case 1000000 "12\ten-US-Latn" "1000000\t12\t15\t9\ten-US-Latn\ta subtag that can't stand there, before any extension\n"
    ∷ []

-- the rows as the definitions have them
unfoldable pub got : Bytes → Bytes → List Case → List Bytes
got A L cs = map (λ (c : Case). line_row A L c.number (text c.line)) cs

-- the expected ones
unfoldable pub want : List Case → List Bytes
want cs = map (λ (c : Case). text c.row) cs

pub cases-hold : (A L : Bytes) → got A L cases ≡ want cases
unfolding case cases got want line_row kept_row row_if fault_row head_text fault_text identifier_bytes words_of place_of number_text member_words digits leading_zero range_fault member_fault made_fault member_first fault_at line_fault leading member_of before_tab after_tab refusal_of meaning_of plain hex safe_byte safe dots shown digits_onto decimal field make_of make split first_of no_bytes too_long clean unclean bad_tag wrong_size member accept rest_fault start language_only part_fault alone groups_fault wrong_keyword wrong_value field_fault fields_fault extension_fault private_fault is_x up_to from no_language grammar_fault fault_by fault_of read_as read part parts small capital digit separator lower_byte every size_of starts_with_digit one_size two_size wrong_length language_size is_language kind kind_of variant_kind is_variant is_singleton is_two is_keyword_key is_field_key with_tag grouped order same head_tag onto
cases-hold A L = refl
