-- The worked examples of document 01 that are marked P, and some more that tell wrong definitions apart: one table, one
-- theorem, computed. The tables are document 01's set of examples, and demand 3 is drawn for them too.
-- Assumes nothing.
use mathlib.Core.Path.{◌≡◌, refl}
use mathlib.Core.Bool.{Bool, true, false}
use mathlib.Core.List.{List, [], ◌∷◌, ◌++◌, map}
use mathlib.Core.Option.{Option, none}
use Prim.Native.Nat.{ℕ, zero, suc}
use Prim.Native.String.{String}
use lib.ListN.{length, drop}
use Rattle.standard.specs.Tag.{text, order, same, insert_by, sort_by, head_tag, pick, present, replace, onto}
use Rattle.standard.specs.Grammar.{small, capital, digit, separator, lower_byte, upper_byte, every, title, upper, size_of, starts_with_digit, one_size, two_size, wrong_length, language_size, is_language, kind, kind_of, variant_kind, is_variant, is_singleton, is_two, is_keyword_key, is_field_key, with_tag, grouped, flat, only, others, drop_true, arrange_keywords, arrange_part, arrange_fields, arrange_one, arrange}
use Rattle.standard.specs.Identifier.{language_alias, aliased, canonical_variants, canonical_form, without, without_unknown, complete, or_else, unless_missing, likely_row, over, over_row, maximal_three, trial, same_three, has_three, minimal_three, part, parts, printed_length, bounded, with_three, filled, then, canonical, maximised, minimised}
use Rattle.standard.specs.Reading.{optional, rest, tags, joined, print, split, first_of, no_bytes, too_long, clean, unclean, bad_tag, wrong_size, member, accept, rest_fault, start, language_only, part_fault, alone, groups_fault, wrong_keyword, wrong_value, field_fault, fields_fault, extension_fault, private_fault, is_x, up_to, from, no_language, grammar_fault, fault_by, fault_of, of_kind, find, core_of, after_first, identifier_of, read_as, read}
use Rattle.standard.specs.Report.{Report, private_count, report_of, report}
use Rattle.standard.specs.Delivery.{Bytes, Given, given}
use Rattle.standard.specs.Chain.{all_but_last, shorter, parent_of, parent, is_und_alone, chain, reaches}
use Rattle.standard.specs.Table.{TableFault, Found, pieces, after, lookup, rows, listing, located_from, located, lower, in_canonical_case, find_in_case, three_of, parse, print_three, is_three, parsed, tables_of, is_word, language_is_und, is_variant_tag, alias_shape, likely_shape, parent_shape, is_none, unaliased, alias_free, likely_free, parent_free, row_key, above, rows_fault, clash_fault, too_big, in_table, first_table, table_number, shape_of, free_of, in_use, each, tested, size_fault, shape_fault, free_fault, check, to_check}
use Rattle.standard.specs.Make.{operate, made, make_of, make, identifier, print_line, chain_of, listed, chain_made, chain_from, after_check, canonicalise_made, maximise_made, minimise_made, list_made, check_made}

-- a table of these rows
unfoldable pub table : List String → Bytes
table ls = listing (map text ls)

-- as many bytes again, so often
unfoldable pub twice : ℕ → Bytes → Bytes
twice zero x = x
twice (suc n) x = twice n (x ++ x)

-- 01, A set of examples.
unfoldable pub aliases : Bytes
aliases = table ("language\tiw\the" ∷ "language\tsh\tsr-Latn" ∷ "region\tBU\tMM" ∷ "variant\theploc\talalc97" ∷ [])

unfoldable pub likely : Bytes
likely =
    table
    ("de\tde-Latn-DE" ∷ "en\ten-Latn-US" ∷ "he\the-Hebr-IL" ∷ "sr\tsr-Cyrl-RS" ∷ "sr-ME\tsr-Latn-ME" ∷ "und\ten-Latn-US"
    ∷ "und-Hant\tzh-Hant-TW" ∷ "und-US\ten-Latn-US" ∷ "zh\tzh-Hans-CN" ∷ "zh-Hant\tzh-Hant-TW" ∷ "zh-TW\tzh-Hant-TW" ∷ [])

unfoldable pub parents : Bytes
parents = table ("en-AU\ten-001" ∷ "zh-Hant\tund" ∷ [])

-- The whole answer of an operation, reading's report, or where a lookup's value stands.
pub data Outcome : Type 0 where
  answers : Given → Outcome
  reports : Report → Outcome
  finds : Found → Outcome

-- the output that every case lends, but for one that says how much
unfoldable pub lent : Bytes
lent = text "................................................................"

unfoldable pub refuses : ℕ → ℕ → ℕ → Bytes → Outcome
refuses n t p out = answers (record { number = n; place = p; table = t; len = 0; steps = 0; output = out })

-- What is expected: a form; a refusal's number and place; a refusal's number, table and place; a good check.
pub data Expected : Type 0 where
  is : String → Expected
  refused-at : ℕ → ℕ → Expected
  table-refused : ℕ → ℕ → ℕ → Expected
  passes : Expected

unfoldable pub written : Bytes → ℕ → Outcome
written r steps = answers (record { number = 0; place = 0; table = 0; len = length r; steps = steps; output = r ++ drop (length r) lent })

unfoldable pub expected : Expected → Outcome
expected (is r) = written (text r) 0
expected (refused-at n p) = refuses n 0 p lent
expected (table-refused n t p) = refuses n t p lent
expected passes = written [] 0

-- A case: what is asked, over the tables above or over others, and what is expected.
pub data Case : Type 0 where
  canonicalised maximal minimal : String → Expected → Case
  -- the lines, and the steps
  chained : String → List String → ℕ → Case
  -- aliases, likely, parents
  tables : List String → List String → List String → Expected → Case
  -- aliases, with likely rows of 32,769 bytes
  too_long_lem : List String → Expected → Case
  -- lent before, and the same afterwards
  kept-short : String → String → Case
  -- language, script, region, variants, extensions
  reads_as : String → String → String → String → ℕ → ℕ → Case
  -- a table, a key; a yes or a no, place and length
  looked-up : String → String → Bool → ℕ → ℕ → Case

unfoldable pub want : Case → Outcome
want (canonicalised x e) = expected e
want (maximal x e) = expected e
want (minimal x e) = expected e
want (chained x ls n) = written (table ls) n
want (tables a l p e) = expected e
want (too_long_lem a e) = expected e
want (kept-short x out) = refuses 10 0 0 (text out)
want (reads_as x l s r v e) =
    reports (record { number = 0; place = 0; language = text l; script = text s; region = text r; variants = v; extensions = e })
want (looked-up t k f at n) = finds (record { found = f; start = at; len = n })

unfoldable pub got : Case → Outcome
got (canonicalised x e) = answers (given (canonicalise_made aliases (text x)) lent)
got (maximal x e) = answers (given (maximise_made aliases likely (text x)) lent)
got (minimal x e) = answers (given (minimise_made aliases likely (text x)) lent)
got (chained x ls n) = answers (given (list_made aliases parents (text x)) lent)
got (tables a l p e) = answers (given (check_made (table a) (table l) (table p)) lent)
got (too_long_lem a e) = answers (given (check_made (table a) (10 ∷ twice 15 (10 ∷ [])) []) lent)
got (kept-short x out) = answers (given (canonicalise_made aliases (text x)) (text out))
got (reads_as x l s r v e) = reports (report (text x))
got (looked-up t k f at n) = finds (located (text t) (text k))

unfoldable pub cases : List Case
cases =
    -- marked P in document 01
    canonicalised "IW_il" (is "he-IL") ∷
    canonicalised "sh-Arab-AQ" (is "sr-Arab-AQ") ∷
    canonicalised "sh" (is "sr-Latn") ∷
    canonicalised "en-US-u-KN-true-ca-gregory" (is "en-US-u-ca-gregory-kn") ∷
    canonicalised "ja-Latn-heploc-alalc97" (is "ja-Latn-alalc97") ∷
    canonicalised "en-US-Latn" (refused-at 15 6) ∷
    canonicalised "en-1994-1994" (refused-at 6 8) ∷
    canonicalised "en-u" (refused-at 7 3) ∷
    maximal "zh-TW" (is "zh-Hant-TW") ∷
    maximal "und-Hant-US" (is "zh-Hant-US") ∷
    minimal "zh-Hant-TW" (is "zh-TW") ∷
    minimal "sr-Latn-ME" (is "sr-ME") ∷
    chained "en-AU-u-ca-gregory" ("en-AU" ∷ "en-001" ∷ "en" ∷ "und" ∷ []) 3 ∷
    chained "zh-Hant-TW" ("zh-Hant-TW" ∷ "zh-Hant" ∷ "und" ∷ []) 2 ∷
    -- the other short examples of document 01
    canonicalised "latn_us" (is "und-Latn-US") ∷
    canonicalised "root" (is "und") ∷
    canonicalised "root-US" (refused-at 15 5) ∷
    maximal "en-Zzzz-GB" (is "en-Latn-GB") ∷
    maximal "fr" (refused-at 8 0) ∷
    maximal "fr-Latn-FR" (is "fr-Latn-FR") ∷
    minimal "und" (is "en") ∷
    -- each tells a wrong definition from the right one
    canonicalised "en-u-ca-a12-ca-b12" (is "en-u-ca-a12") ∷
    canonicalised "en-u-foo-bar-foo-ca-ca-gregory" (is "en-u-bar-foo-ca") ∷
    canonicalised "en-heploc-baku1926" (is "en-alalc97-baku1926") ∷
    canonicalised "en-t-fr-latn-fonipa-1994-m0-true-k0-dvorak-a-foo-x-a-B" (is "en-a-foo-t-fr-latn-1994-fonipa-k0-dvorak-m0-true-x-a-b") ∷
    canonicalised "en-t-m0-m1-abc" (refused-at 7 5) ∷
    canonicalised "en-t-m0-abc-m0" (refused-at 6 12) ∷
    canonicalised "en-t-k0-ab" (refused-at 16 8) ∷
    canonicalised "en-a-bb-a" (refused-at 6 8) ∷
    canonicalised "en-t-m0" (refused-at 7 5) ∷
    canonicalised "en-u-u" (refused-at 7 3) ∷
    canonicalised "en-u-x-a" (refused-at 7 3) ∷
    canonicalised "en-t-m0-u-ca" (refused-at 7 5) ∷
    canonicalised "en-x" (refused-at 7 3) ∷
    canonicalised "en-x-x" (is "en-x-x") ∷
    canonicalised "x-foo" (refused-at 5 0) ∷
    canonicalised "en-" (refused-at 4 3) ∷
    canonicalised "en-@" (refused-at 3 3) ∷
    canonicalised "" (refused-at 1 0) ∷
    canonicalised "en-u-foo-a1" (refused-at 16 9) ∷
    canonicalised "en-u-1a" (is "en-u-1a") ∷
    canonicalised "en-t-11-abc" (refused-at 16 5) ∷
    canonicalised "abcde" (is "abcde") ∷
    canonicalised "en-ab1c" (refused-at 15 3) ∷
    -- 02, T-03: 5 for the first subtag, 15 for a later one before any singleton, 16 for one after a singleton
    canonicalised "1994" (refused-at 5 0) ∷
    canonicalised "a" (refused-at 5 0) ∷
    canonicalised "u-ca-abc" (refused-at 5 0) ∷
    canonicalised "en-abc" (refused-at 15 3) ∷
    canonicalised "latn-latn" (refused-at 15 5) ∷
    canonicalised "root-US-u" (refused-at 15 5) ∷
    canonicalised "en-t-root" (refused-at 16 5) ∷
    canonicalised "en-t-en-us-latn" (refused-at 16 11) ∷
    canonicalised "en-u-ca-12" (refused-at 16 8) ∷
    canonicalised "en-a-bcd-u-a1-a-bcd" (refused-at 16 11) ∷
    minimal "en-Latn-US-x-true" (is "en-x-true") ∷
    tables [] [] [] passes ∷
    tables ("language\tiw\the" ∷ "language\tund\ten" ∷ []) [] [] (table-refused 12 1 15) ∷
    tables [] ("en\ten-Latn-US" ∷ "de\tde-Latn-DE" ∷ []) [] (table-refused 13 2 14) ∷
    tables [] ("en\ten-Latn-US" ∷ "en\ten-Latn-US" ∷ []) [] (table-refused 13 2 14) ∷
    tables [] ("en\ten-Latn-ZZ" ∷ []) [] (table-refused 12 2 0) ∷
    tables ("script\tAaaa\tBbbb" ∷ "script\tBbbb\tCccc" ∷ []) [] [] (table-refused 14 1 0) ∷
    tables ("language\tiw\the" ∷ []) ("he\tiw-Hebr-IL" ∷ []) [] (table-refused 14 2 0) ∷
    tables [] [] ("en\tfr" ∷ "fr\ten" ∷ []) (table-refused 14 3 0) ∷
    -- from ab `und` is 8 steps away, from aa 9
    tables [] [] ("ab\tac" ∷ "ac\tad" ∷ "ad\tae" ∷ "ae\taf" ∷ "af\tag" ∷ "ag\tah" ∷ "ah\tai" ∷ []) passes ∷
    tables [] [] ("aa\tab" ∷ "ab\tac" ∷ "ac\tad" ∷ "ad\tae" ∷ "ae\taf" ∷ "af\tag" ∷ "ag\tah" ∷ "ah\tai" ∷ []) (table-refused 14 3 0) ∷
    -- 12 of any table before 14, and 11 before 12
    tables ("script\tAaaa\tBbbb" ∷ "script\tBbbb\tCccc" ∷ []) [] ("en" ∷ []) (table-refused 12 3 0) ∷
    too_long_lem ("en" ∷ []) (table-refused 11 2 0) ∷
    -- a refusal writes nothing
    kept-short "IW_il" "...." ∷
    reads_as "root-u-ca-x-a" "und" "" "" 0 2 ∷
    reads_as "latn_us-1994-t-fr-fonipa" "und" "Latn" "US" 1 1 ∷
    looked-up "en\tfr\nzh-TW\tzh\tx" "zh-TW" true 12 4 ∷
    looked-up "en\tfr\n" "e" false 0 0 ∷
    []

pub cases-hold : map got cases ≡ map want cases
unfolding table twice aliases likely parents lent refuses written expected want got cases given private_count report_of report located_from located order same insert_by sort_by head_tag pick present replace onto small capital digit separator lower_byte upper_byte every title upper size_of starts_with_digit one_size two_size wrong_length language_size is_language kind kind_of variant_kind is_variant is_singleton is_two is_keyword_key is_field_key with_tag grouped flat only others drop_true arrange_keywords arrange_part arrange_fields arrange_one arrange language_alias aliased canonical_variants canonical_form without without_unknown complete or_else unless_missing likely_row over over_row maximal_three trial same_three has_three minimal_three part parts printed_length bounded with_three filled then canonical maximised minimised optional rest tags joined print split first_of no_bytes too_long clean unclean bad_tag wrong_size member accept rest_fault start language_only part_fault alone groups_fault wrong_keyword wrong_value field_fault fields_fault extension_fault private_fault is_x up_to from no_language grammar_fault fault_by fault_of of_kind find core_of after_first identifier_of read_as read all_but_last shorter parent_of parent is_und_alone chain reaches pieces after lookup rows lower in_canonical_case find_in_case three_of parse print_three is_three parsed tables_of is_word language_is_und is_variant_tag alias_shape likely_shape parent_shape is_none unaliased alias_free likely_free parent_free row_key above rows_fault clash_fault too_big in_table first_table table_number shape_of free_of in_use each tested size_fault shape_fault free_fault check operate made make_of make identifier print_line listing chain_of listed chain_made chain_from after_check canonicalise_made maximise_made minimise_made list_made check_made
cases-hold = refl

-- document 01's tables pass, so that demand 3 holds of something
pub tables-pass : Path (Option TableFault) (check to_check aliases likely parents) none
unfolding table aliases likely parents order same insert_by sort_by head_tag pick present replace onto small capital digit separator lower_byte upper_byte every title upper size_of starts_with_digit one_size two_size wrong_length language_size is_language kind kind_of variant_kind is_variant is_singleton is_two is_keyword_key is_field_key with_tag grouped flat only others drop_true arrange_keywords arrange_part arrange_fields arrange_one arrange language_alias aliased canonical_variants canonical_form without without_unknown complete or_else unless_missing likely_row over over_row maximal_three trial same_three has_three minimal_three part parts printed_length bounded with_three filled then canonical maximised minimised optional rest tags joined print split first_of no_bytes too_long clean unclean bad_tag wrong_size member accept rest_fault start language_only part_fault alone groups_fault wrong_keyword wrong_value field_fault fields_fault extension_fault private_fault is_x up_to from no_language grammar_fault fault_by fault_of of_kind find core_of after_first identifier_of read_as read all_but_last shorter parent_of parent is_und_alone chain reaches pieces after lookup rows lower in_canonical_case find_in_case three_of parse print_three is_three parsed tables_of is_word language_is_und is_variant_tag alias_shape likely_shape parent_shape is_none unaliased alias_free likely_free parent_free row_key above rows_fault clash_fault too_big in_table first_table table_number shape_of free_of in_use each tested size_fault shape_fault free_fault check operate made make_of make identifier print_line listing chain_of listed chain_made chain_from after_check canonicalise_made maximise_made minimise_made list_made check_made
tables-pass = refl
