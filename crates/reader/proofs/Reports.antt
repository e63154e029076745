-- The report of an accepted identifier, by what its first subtag is; and of a refusal. Assumes nothing.
use mathlib.Core.Path.{◌≡◌, refl, sym, ap, ◌∙◌}
use mathlib.Core.Bool.{Bool, true, false}
use mathlib.Core.List.{List, [], ◌∷◌}
use mathlib.Core.Option.{Option, none, some}
use Prim.Native.Nat.{ℕ, ◌+◌, ◌-◌, ◌≤◌, ◌<◌}
use native.Mathlib.Omega.{arith}
use lib.ListN.{length, take, drop, length-drop}
use lib.Seq.{take_all}
use borrow.Author.Tests.{lt-ltb, le-ltb}
use Rattle.standard.specs.Tag.{Tag, same, head_tag}
use Rattle.standard.specs.Grammar.{a_script, a_region, is_language, title, upper}
use Rattle.standard.specs.Identifier.{three, und}
use Rattle.standard.specs.Reading.{Fault, split, root, find, core_of, identifier_of, fault_of, good, bad, read_as, read}
use Rattle.standard.specs.Report.{report_of, report}
use Rattle.standard.proofs.General.{bool_cases}
use Rattle.reader.specs.declared.Start.TheVariants.{Language, Script, Root}
use Rattle.reader.specs.declared.Parts.{Parts}
use Rattle.reader.specs.Parts.{parts, refused, start_of, parts_of, outcome_as, outcome}
use Rattle.subtag.specs.Bytes.{cased}
use Rattle.subtag.proofs.Cased.{cased-title, cased-upper}
use Rattle.reader.specs.Words.{later_word, refused_report, parts_report}
use Rattle.reader.proofs.Words.{cased-none}
use Rattle.reader.proofs.Accepted.{Named, named}

-- What the first subtag is.
starts : (t : Tag) (b c : Bool) → is_language t ≡ b → same t root ≡ c → start_of t ≡ elim b [ true ↦ Language | false ↦ elim c [ true ↦ Root | false ↦ Script ] ]
unfolding start_of
starts t true c e f = rw (e, start_of)
starts t false true e f = rw (e, f, start_of)
starts t false false e f = rw (e, f, start_of)

start-language : (t : Tag) → start_of t ≡ Language → is_language t ≡ true
start-language t e =
    bool_cases (is_language t) (λ f. f)
    (λ f. bool_cases (same t root) (λ g. cc (starts t false true f g)) (λ g. cc (starts t false false f g)))

start-root : (t : Tag) → start_of t ≡ Root → (is_language t ≡ false) × (same t root ≡ true)
start-root t e =
    bool_cases (is_language t) (λ f. (cc (starts t true (same t root) f refl), cc (starts t true (same t root) f refl)))
    (λ f. bool_cases (same t root) (λ g. (f, g)) (λ g. (f, cc (starts t false false f g))))

start-script : (t : Tag) → start_of t ≡ Script → (is_language t ≡ false) × (same t root ≡ false)
start-script t e =
    bool_cases (is_language t) (λ f. (cc (starts t true (same t root) f refl), cc (starts t true (same t root) f refl)))
    (λ f. bool_cases (same t root) (λ g. (f, cc (starts t false true f g))) (λ g. (f, g)))

-- the three, by it
core-language : (t : Tag) (ts : List Tag) → is_language t ≡ true → core_of (t ∷ ts) ≡ three t (title (find a_script ts)) (upper (find a_region ts))
unfolding core_of
core-language t ts e = rw (e, core_of)

core-root : (t : Tag) (ts : List Tag) → is_language t ≡ false → same t root ≡ true → core_of (t ∷ ts) ≡ three und [] []
unfolding core_of
core-root t ts e f = rw (e, f, core_of)

core-script : (t : Tag) (ts : List Tag) → is_language t ≡ false → same t root ≡ false → core_of (t ∷ ts) ≡ three und (title t) (upper (find a_region ts))
unfolding core_of
core-script t ts e f = rw (e, f, core_of)

-- Words behind a separator.
module _ (x : List ℕ) (from to n : ℕ) (w : Tag) where
  -- what the code lends
  lent : (at : ℕ) → head_tag (split (take (length x - at) (drop at x))) ≡ head_tag (split (drop at x))
  lent at = ap (λ (y : List ℕ). head_tag (split y)) (take_all (length x - at) (drop at x) (simp length-drop (omega arith)))

  pub later-there : from < to → w ≡ cased n (head_tag (split (take (length x - (from + 1)) (drop (from + 1) x)))) → w ≡ later_word n from to x
  unfolding later_word
  later-there h e = rw (lt-ltb from to h, later_word) (e ∙ ap (cased n) (lent (from + 1)))

  pub later-not : to ≤ from → w ≡ [] → w ≡ later_word n from to x
  unfolding later_word
  later-not h e = rw (le-ltb from to h, later_word) e

-- Accepted.
module _ (x : List ℕ) (p : Parts) (e : fault_of x ≡ none) (q : p ≡ parts_of (split x)) where
  pub name : Named x p
  name = named x p e q

  filled : (l s r : Tag) → three l s r ≡ (identifier_of (split x)).core → parts_report p l s r ≡ report_of (good (identifier_of (split x)))
  unfolding parts_report report_of parts_of
  filled l s r f = rw q (λ n. record { number = 0; place = 0; language = (f n).language; script = (f n).script; region = (f n).region; variants = (parts_of (split x)).variant_count; extensions = (parts_of (split x)).extension_count })

  pub from-language : p.start ≡ Language → is_language name.first ≡ true
  from-language f = start-language name.first (sym name.start ∙ f)

  pub report-language : p.start ≡ Language → (l s r : Tag) → l ≡ cased 0 (head_tag (split x)) → s ≡ later_word 1 p.language p.script x → r ≡ later_word 8 p.script p.region x
      → parts_report p l s r ≡ report_of (good (identifier_of (split x)))
  report-language f l s r a b c =
      let g = from-language f in
      let i : l ≡ name.first = a ∙ cased-none _ ∙ name.front in
      let j : s ≡ title (find a_script name.others) = b ∙ (name.script g).word 1 ∙ cased-title _ in
      let k : r ≡ upper (find a_region name.others) = c ∙ name.region.word 8 ∙ cased-upper 8 _ name.region.short in
      filled l s r (rw (i, j, k) (sym (name.three ∙ core-language name.first name.others g)))

  pub report-script : p.start ≡ Script → (l s r : Tag) → l ≡ und → s ≡ cased 1 (head_tag (split x)) → r ≡ later_word 8 p.script p.region x
      → parts_report p l s r ≡ report_of (good (identifier_of (split x)))
  report-script f l s r a b c =
      let g = start-script name.first (sym name.start ∙ f) in
      let j : s ≡ title name.first = b ∙ cased-title _ ∙ ap title name.front in
      let k : r ≡ upper (find a_region name.others) = c ∙ name.region.word 8 ∙ cased-upper 8 _ name.region.short in
      filled l s r (rw (a, j, k) (sym (name.three ∙ core-script name.first name.others g.0 g.1)))

  pub report-root : p.start ≡ Root → (l s r : Tag) → l ≡ und → s ≡ [] → r ≡ [] → parts_report p l s r ≡ report_of (good (identifier_of (split x)))
  report-root f l s r a b c =
      let g = start-root name.first (sym name.start ∙ f) in
      filled l s r (rw (a, b, c) (sym (name.three ∙ core-root name.first name.others g.0 g.1)))

-- The whole, by the outcome of reading.
pub accepted-outcome : (x : List ℕ) (p : Parts) → parts p ≡ outcome x → (fault_of x ≡ none) × (p ≡ parts_of (split x))
unfolding outcome outcome_as
accepted-outcome x p e = go (fault_of x) refl
  where
    go : (o : Option Fault) → fault_of x ≡ o → (fault_of x ≡ none) × (p ≡ parts_of (split x))
    go none f = (f, cc (rw (f, outcome_as) at e))
    go (some g) f = let z : ◌≡◌ {A = ℕ} 0 1 = cc (rw (f, outcome_as) at e) in absurd (omega arith)

pub report-good : (x : List ℕ) (p : Parts) → parts p ≡ outcome x → report_of (good (identifier_of (split x))) ≡ report x
unfolding report read read_as
report-good x p e = rw (accepted-outcome x p e).0

pub report-bad : (x : List ℕ) (n at : ℕ) → refused n at ≡ outcome x → refused_report n at ≡ report x
unfolding report read read_as outcome outcome_as refused_report
report-bad x n at e = go (fault_of x) refl
  where
    go : (o : Option Fault) → fault_of x ≡ o → report_of (bad n at) ≡ report_of (read_as (fault_of x) (identifier_of (split x)))
    go none f = cc (rw (f, outcome_as) at e)
    go (some g) f =
        let h : refused n at ≡ refused g.number g.place = rw (f, outcome_as) at e in
        let a : n ≡ g.number = cc in
        let b : at ≡ g.place = cc in
        rw (f, a, b)
