-- The three of the canonical form, from the input's bytes and the language's alias. Assumes nothing.
use mathlib.Core.Path.{◌≡◌, refl, sym, ap, ap₂, ◌∙◌}
use mathlib.Core.List.{List, [], ◌∷◌, ◌++◌}
use mathlib.Core.Logic.{⊎_elim}
use mathlib.Core.Option.{Option, none, some}
use Prim.Native.Nat.{ℕ, ◌+◌, ◌-◌, ◌≤◌}
use native.Mathlib.Omega.{arith}
use lib.ListN.{length, take, drop, length-append}
use lib.Seq.{sets}
use Rattle.reader.specs.declared.Parts.{Parts as ReaderParts}
use Rattle.standard.specs.Tag.{Tag, pick, replace}
use Rattle.standard.specs.Identifier.{Identifier, Three, three, Tables, language_alias, aliased, canonical_form, part}
use Rattle.standard.specs.Reading.{optional, split, identifier_of, fault_of}
use Rattle.standard.specs.Table.{lookup, rows, print_three, language_key, script_key, region_key, tables_of, check, to_canonicalise}
use Rattle.standard.proofs.Round.{Shaped}
use Rattle.standard.proofs.Closed.{canon-printable}
use Rattle.standard.proofs.Table.{shaped-tables}
use Rattle.reader.specs.Parts.{parts_of}
use Rattle.byte_string.specs.Strings.{end_of}
use Rattle.canonical.specs.declared.lsr.Ends.{Ends}
use Rattle.subtag.specs.Sections.{led}
use Rattle.aliases.specs.Replaced.{replaced_by, aliased_part}
use Rattle.row_shapes.specs.Shapes.{script_end}
use Rattle.canonical.specs.Three.{ends_of, after_separator, script_start, part_bytes, language_lookup, language_word, canonical_three}
use Rattle.canonical.proofs.Cuts.{part-led}
use Rattle.aliases.proofs.Keyed.{front-in}
use Rattle.canonical.proofs.Ready.{raw}
use Rattle.canonical.proofs.Front.{Given, front}
use Rattle.canonical.proofs.Words.{aliases-passed, three-led, Word, word, Ended, ended, script-size, region-size, led-five, led-four, language-size}

-- an absent or present subtag, through the aliases of its kind
pub aliased-part : (A name : List ℕ) (t : Tag) → aliased_part A name t ≡ led (optional (replace (λ (k : Tag). lookup (rows A) (name ++ k)) t))
unfolding aliased_part replace replaced_by led optional
aliased-part A name [] = refl
aliased-part A name (b ∷ bs) = go (lookup (rows A) (name ++ (b ∷ bs))) refl
  where
    go : (o : Option (List ℕ)) → lookup (rows A) (name ++ (b ∷ bs)) ≡ o
        → led (optional (replaced_by o (b ∷ bs))) ≡ led (optional (replace (λ (k : Tag). lookup (rows A) (name ++ k)) (b ∷ bs)))
    go none e = rw (e, replace)
    go (some v) e = rw (e, replace)

-- What the writer of the three meets.
pub record Written (A x w : List ℕ) (q : ReaderParts) (e s script-at region-at : ℕ) : Type 0 where
  pub rises : q.language ≤ q.script
  pub script-fits : q.script ≤ length x
  pub script-small : q.script - script-at ≤ 8
  pub climbs : q.script ≤ q.region
  pub region-fits : q.region ≤ length x
  pub region-small : q.region - region-at ≤ 8
  pub text : print_three (canonical_three A x) ≡ take e w ++ (part_bytes A script_key 1 x script-at q.script w e s ++ part_bytes A region_key 8 x region-at q.region w s (length w))
  pub ends : (a b c : ℕ) → a ≡ 0 + length (take e w) → b ≡ a + length (part_bytes A script_key 1 x script-at q.script w e s)
      → c ≡ b + length (part_bytes A region_key 8 x region-at q.region w s (length w)) → ◌≡◌ {A = Ends} (record { language = a; script = b; region = c }) (ends_of (canonical_three A x))
  pub word-rises : e ≤ s
  pub word_fits : s ≤ length w
  pub word-script : s - after_separator e s ≤ 8
  pub word-region : length w - after_separator s (length w) ≤ 8
  pub room : length (take e w) + (length (part_bytes A script_key 1 x script-at q.script w e s) + length (part_bytes A region_key 8 x region-at q.region w s (length w))) ≤ 17

module _ (A x : List ℕ) (t : check to_canonicalise A [] [] ≡ none) (f : fault_of x ≡ none) where
  abbrev i : Identifier
  i = identifier_of (split x)

  abbrev T : Tables
  T = tables_of A [] []

  pub word-is : Word A i.core.language (language_word A x)
  unfolding language_word language_lookup
  word-is = word A i.core.language t (raw x f).core.language

  pub canonical-shaped : Shaped (canonical_three A x)
  unfolding canonical_form canonical_three
  canonical-shaped = (canon-printable T (shaped-tables A [] [] (aliases-passed A t)) i (raw x f)).core

  three-is : (v : Three) → language_alias (T.languages i.core.language) i.core ≡ v → canonical_three A x ≡ three v.language (replace T.scripts v.script) (replace T.regions v.region)
  unfolding canonical_three aliased
  three-is v e = ap (λ (u : Three). three u.language (replace T.scripts u.script) (replace T.regions u.region)) e

  part-script : (s : Tag) → aliased_part A script_key s ≡ led (optional (replace T.scripts s))
  unfolding tables_of
  part-script s = aliased-part A script_key s

  part-region : (r : Tag) → aliased_part A region_key r ≡ led (optional (replace T.regions r))
  unfolding tables_of
  part-region r = aliased-part A region_key r

  module _ (w : List ℕ) (q : ReaderParts) (p : q ≡ parts_of (split x)) (k : w ≡ language_word A x) (e s : ℕ) (h : e ≡ end_of 45 w 0) (g : s ≡ script_end e (length w)) where
    pub W : Word A i.core.language w
    W = rw k word-is

    pub ends-are : Ended w W.value e s
    ends-are = ended w W.value e s W.printed W.shaped h g

    abbrev S : Tag
    S = pick i.core.script W.value.script

    abbrev R : Tag
    R = pick i.core.region W.value.region

    G : Given x q.language q.script q.region i.core
    G = front x f q p

    canonical-is : canonical_three A x ≡ three W.value.language (replace T.scripts S) (replace T.regions R)
    canonical-is = three-is _ (W.alias i.core refl)

    sizes : length W.value.language + (length (led (optional (replace T.scripts S))) + length (led (optional (replace T.regions R)))) ≤ 17
    sizes =
        let z = rw canonical-is at canonical-shaped in
        let a = language-size W.value.language z.language in
        let b = led-five (replace T.scripts S) (script-size (replace T.scripts S) z.script) in
        let d = led-four (replace T.regions R) (region-size (replace T.regions R) z.region) in
        ⊎_elim (λ n. omega arith) (λ n. omega arith) b

    module _ (script-at region-at : ℕ) (u : script-at ≡ script_start q.language q.script) (v : region-at ≡ after_separator q.script q.region) where
      script-text : part_bytes A script_key 1 x script-at q.script w e s ≡ led (optional (replace T.scripts S))
      unfolding part_bytes
      script-text = rw u (ap₂ (λ (a b : Tag). aliased_part A script_key (pick a b)) G.script-is ends-are.script ∙ part-script S)

      region-text : part_bytes A region_key 8 x region-at q.region w s (length w) ≡ led (optional (replace T.regions R))
      unfolding part_bytes
      region-text = rw v (ap₂ (λ (a b : Tag). aliased_part A region_key (pick a b)) G.region-is ends-are.region ∙ part-region R)

      pub written : Written A x w q e s script-at region-at
      unfolding ends_of
      written = record {
        rises = G.rises;
        script-fits = G.script-fits;
        script-small = rw u G.script-small;
        climbs = G.climbs;
        region-fits = G.region-fits;
        region-small = rw v G.region-small;
        text = ap print_three canonical-is ∙ three-led _ ∙ ap₂ (λ (a b : List ℕ). a ++ b) (sym ends-are.language) (ap₂ (λ (a b : List ℕ). a ++ b) (sym script-text) (sym region-text));
        ends = λ a b c u v z.
            let l : a ≡ length W.value.language = omega (arith, ap length ends-are.language) in
            let m : b ≡ length W.value.language + part (replace T.scripts S) = omega (arith, ap length script-text, part-led (replace T.scripts S)) in
            let n : c ≡ length W.value.language + part (replace T.scripts S) + part (replace T.regions R) = omega (arith, ap length region-text, part-led (replace T.regions R)) in
            (λ j. record { language = l j; script = m j; region = n j }) ∙ ap ends_of (sym canonical-is);
        word-rises = ends-are.rises;
        word_fits = ends-are.fits;
        word-script = ends-are.script-small;
        word-region = ends-are.region-small;
        room = let z = sizes in omega (arith, ap length ends-are.language, ap length script-text, ap length region-text);
      }

  pub word_small : length (language_word A x) ≤ 17
  word_small =
      let v = word-is.value in
      let z = word-is.shaped in
      let n = ap length (word-is.printed ∙ three-led v) ∙ length-append v.language (led (optional v.script) ++ led (optional v.region))
      ∙ ap (◌+◌ (length v.language)) (length-append (led (optional v.script)) (led (optional v.region))) in
      let a = language-size v.language z.language in
      let d = led-four v.region (region-size v.region z.region) in
      ⊎_elim (λ m. omega arith) (λ m. omega arith) (led-five v.script (script-size v.script z.script))

  -- the key of the language's lookup
  module _ (z k : List ℕ) (n : ℕ) (a : n ≡ length (language_lookup x)) (b : k ≡ sets z 0 (language_lookup x)) (c : n ≤ length k) where
    key-is : take n k ≡ language_lookup x
    key-is = front-in z k (language_lookup x) n a b c

    pub key-size : n ≡ length (take n k)
    key-size = a ∙ sym (ap length key-is)

    pub key-skips : 9 ≤ length (take n k)
    unfolding language_lookup
    key-skips = omega (arith, ap length key-is, length-append language_key i.core.language)

    pub key-word : replaced_by (lookup (rows A) (take n k)) (drop 9 (take n k)) ≡ language_word A x
    unfolding language_word language_lookup
    key-word = ap (λ (y : List ℕ). replaced_by (lookup (rows A) y) (drop 9 y)) key-is
