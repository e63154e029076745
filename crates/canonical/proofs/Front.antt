-- The language, script and region of an accepted identifier, in its bytes. Assumes nothing.
use mathlib.Core.Path.{◌≡◌, refl, sym, ap, ap₂, ◌∙◌}
use mathlib.Core.Bool.{true, false}
use mathlib.Core.List.{List, [], ◌∷◌, ◌++◌, map}
use mathlib.Core.Logic.{⊎_elim}
use mathlib.Core.Option.{none}
use Prim.Native.Nat.{ℕ, ◌+◌, ◌-◌, ◌≤◌, ◌<◌}
use native.Mathlib.Omega.{arith}
use lib.ListN.{length, take, length-map, length-append}
use lib.Seq.{length-take-le, sets}
use Rattle.reader.specs.declared.Parts.{Parts as ReaderParts}
use Rattle.standard.specs.Tag.{Tag, same, head_tag}
use Rattle.standard.specs.Grammar.{title, upper, a_script, a_region, is_language, language_size, size_of}
use Rattle.standard.specs.Identifier.{Identifier, Three, three, und, part}
use Rattle.standard.specs.Reading.{optional, split, root, find, core_of, identifier_of, fault_of}
use Rattle.standard.specs.Table.{language_key}
use Rattle.standard.proofs.Tags.{same-eq}
use Rattle.standard.proofs.General.{clash, le-or-lt}
use Rattle.subtag.specs.Bytes.{normal_byte, cased}
use Rattle.subtag.specs.Subtags.{PlainTag}
use Rattle.reader.specs.declared.Start.{Start}
use Rattle.reader.specs.declared.Start.TheVariants.{Language, Script, Root}
use Rattle.reader.specs.Cuts.{Cuts, language_cut, cuts_after, cuts_of}
use Rattle.reader.specs.Parts.{start_of, parts_of}
use Rattle.reader.proofs.Accepted.{Core, of-language, of-root, of-script}
use Rattle.subtag.specs.Sections.{led, Plain}
use Rattle.canonical.specs.Three.{between, after_separator, script_start, language_lookup}
use Rattle.subtag.proofs.Cased.{cased-title, cased-upper}
use Rattle.canonical.proofs.Places.{behind, at_once, start_first, start-later}
use Rattle.canonical.proofs.Cuts.{Cut, cut-one, Accepted, accepted, first_tag, other_tags, Parts, parts_at, first-is, before-is}

-- a section of one subtag, or of none
led-short : (t : Tag) → length (led (optional t)) ≡ 0 → t ≡ []
unfolding led optional
led-short [] h = refl
led-short (b ∷ t) h = absurd (omega arith)

plain-small : (t : Tag) → Plain (optional t) → length t ≤ 8
unfolding Plain optional PlainTag
plain-small [] h = omega arith
plain-small (b ∷ t) h = h.0.1

no_bytes_lem : (x : List ℕ) (at to : ℕ) → to ≤ at → map normal_byte (between x (after_separator at to) to) ≡ []
no_bytes_lem x at to h = let z : to - to ≡ 0 = omega arith in rw (at_once at to h, z)

pub cut-optional : (x : List ℕ) (at to : ℕ) (t : Tag) (v : List Tag) → Cut x at to (optional t) v → map normal_byte (between x (after_separator at to) to) ≡ t
cut-optional x at to t v c = ⊎_elim absent present (le-or-lt to at)
  where
    absent : to ≤ at → map normal_byte (between x (after_separator at to) to) ≡ t
    absent h = let z : length (led (optional t)) ≡ 0 = omega (arith, c.size) in no_bytes_lem x at to h ∙ sym (led-short t z)

    present : at < to → map normal_byte (between x (after_separator at to) to) ≡ t
    present h = rw (behind at to h) (cut-one x at to t v c h)

led-small : (t : Tag) → Plain (optional t) → length (led (optional t)) ≤ 9
unfolding led optional Plain PlainTag
led-small [] h = omega arith
led-small (b ∷ t) h = omega (arith, h.0.1, length-append t [])

pub cut_small : (x : List ℕ) (at to : ℕ) (t : Tag) (v : List Tag) → Cut x at to (optional t) v → to - after_separator at to ≤ 8
cut_small x at to t v c =
    ⊎_elim (λ h. rw (at_once at to h) (omega arith)) (λ h. rw (behind at to h) (omega (arith, c.size, led-small t c.plain))) (le-or-lt to at)

-- The three, by the first subtag.
module _ (t : Tag) (ts : List Tag) where
  core-language : is_language t ≡ true → core_of (t ∷ ts) ≡ three t (title (find a_script ts)) (upper (find a_region ts))
  unfolding core_of
  core-language f = rw (f, core_of)

  core-root : is_language t ≡ false → same t root ≡ true → core_of (t ∷ ts) ≡ three und [] []
  unfolding core_of
  core-root f g = rw (f, g, core_of)

  core-script : is_language t ≡ false → same t root ≡ false → core_of (t ∷ ts) ≡ three und (title t) (upper (find a_region ts))
  unfolding core_of
  core-script f g = rw (f, g, core_of)

  cut-language : is_language t ≡ true → language_cut t ≡ length t
  unfolding language_cut
  cut-language f = rw (f, language_cut)

  cut-root : is_language t ≡ false → same t root ≡ true → language_cut t ≡ length t
  unfolding language_cut
  cut-root f g = rw (f, g, language_cut)

  cut-script : is_language t ≡ false → same t root ≡ false → language_cut t ≡ 0
  unfolding language_cut
  cut-script f g = rw (f, g, language_cut)

-- What the code lends of the three: from where to where, and what it is in canonical case.
pub record Given (x : List ℕ) (language script region : ℕ) (t : Three) : Type 0 where
  pub rises : language ≤ script
  pub script-fits : script ≤ length x
  pub script-small : script - script_start language script ≤ 8
  pub script-is : cased 1 (map normal_byte (between x (script_start language script) script)) ≡ t.script
  pub climbs : script ≤ region
  pub region-fits : region ≤ length x
  pub region-small : region - after_separator script region ≤ 8
  pub region-is : cased 8 (map normal_byte (between x (after_separator script region) region)) ≡ t.region

-- the start's answer
pub record Begins (x : List ℕ) (c : Cuts) (t : Three) (s : Start) : Type 0 where
  pub language : s ≡ Language → t.language ≡ map normal_byte (take c.language x)
  pub fits : s ≡ Language → c.language ≤ length x
  pub small : s ≡ Language → c.language ≤ 8
  pub script : s ≡ Script → t.language ≡ und
  pub root : s ≡ Root → t.language ≡ und

language-filled : (t : Tag) → is_language t ≡ true → length t ≡ 0 → ⊥
unfolding is_language language_size size_of
language-filled [] e h = clash {b = true} refl (sym e)
language-filled (b ∷ t) e h = omega arith

root-filled : (t : Tag) → same t root ≡ true → length t ≡ 0 → ⊥
root-filled t e h = omega (arith, ap length (same-eq t root e))

label_small : (ts : List Tag) → Plain ts → length (head_tag ts) ≤ 8
unfolding Plain PlainTag head_tag
label_small [] h = omega arith
label_small (t ∷ ts) h = h.0.1

no_part : (t : Tag) → t ≡ [] → part t ≡ 0
unfolding part
no_part t e = ap part e

-- one start is not another
not-script : {P : Type 0} → ◌≡◌ {A = Start} Language Script → P
not-script e = absurd (let z : ◌≡◌ {A = ℕ} 0 1 = cc in omega arith)

not_root : {P : Type 0} → ◌≡◌ {A = Start} Language Root → P
not_root e = absurd (let z : ◌≡◌ {A = ℕ} 0 1 = cc in omega arith)

module _ (x : List ℕ) (a : Accepted x) where
  abbrev c : Cuts
  c = cuts_of (split x)

  abbrev i : Identifier
  i = identifier_of (split x)

  p : Parts x c i
  p = parts_at x a

  core_is : i.core ≡ core_of (first_tag x ∷ other_tags x)
  unfolding identifier_of
  core_is = ap core_of (before-is x a)

  cut-is : c.language ≡ language_cut (first_tag x)
  unfolding cuts_of cuts_after
  cut-is = refl

  script-cut : c.script ≡ length (first_tag x) + part (find a_script (other_tags x))
  unfolding cuts_of cuts_after
  script-cut = refl

  region-text : map normal_byte (between x (after_separator c.script c.region) c.region) ≡ find a_region (other_tags x)
  region-text = cut-optional x c.script c.region (find a_region (other_tags x)) _ p.region

  region-upper : cased 8 (map normal_byte (between x (after_separator c.script c.region) c.region)) ≡ upper (find a_region (other_tags x))
  region-upper = ap (cased 8) region-text ∙ cased-upper 8 (find a_region (other_tags x)) (plain-small (find a_region (other_tags x)) p.region.plain)

  first_small : length (first_tag x) ≤ 8
  first_small = rw (first-is x a) at (label_small (split x) a.plain)

  -- where a language or root comes first
  record Later : Type 0 where
    rises : c.language ≤ c.script
    small : c.script - script_start c.language c.script ≤ 8
    text : cased 1 (map normal_byte (between x (script_start c.language c.script) c.script)) ≡ title (find a_script (other_tags x))

  later : language_cut (first_tag x) ≡ length (first_tag x) → (length (first_tag x) ≡ 0 → ⊥) → Later
  later e n =
      let l : c.language ≡ length (first_tag x) = cut-is ∙ e in
      let s : script_start c.language c.script ≡ after_separator (length (first_tag x)) c.script =
      start-later c.language c.script (λ z. n (sym l ∙ z)) ∙ ap (λ (k : ℕ). after_separator k c.script) l in
      record {
        rises = omega (arith, p.script.within);
        small = rw s (cut_small x (length (first_tag x)) c.script (find a_script (other_tags x)) _ p.script);
        text = rw s (ap (cased 1) (cut-optional x (length (first_tag x)) c.script (find a_script (other_tags x)) _ p.script) ∙ cased-title (find a_script (other_tags x)));
      }

  -- of the three as they were read
  give : (t : Three) → c.language ≤ c.script → c.script - script_start c.language c.script ≤ 8
      → cased 1 (map normal_byte (between x (script_start c.language c.script) c.script)) ≡ t.script → upper (find a_region (other_tags x)) ≡ t.region → Given x c.language c.script c.region t
  give t h k e f = record {
    rises = h;
    script-fits = p.script.fits;
    script-small = k;
    script-is = e;
    climbs = p.region.within;
    region-fits = p.region.fits;
    region-small = cut_small x c.script c.region (find a_region (other_tags x)) _ p.region;
    region-is = region-upper ∙ f;
  }

  given-core : Core (first_tag x) (other_tags x) → Given x c.language c.script c.region (core_of (first_tag x ∷ other_tags x))
  unfolding find title upper
  given-core (of-language f o) =
      let w = later (cut-language (first_tag x) (other_tags x) f) (language-filled (first_tag x) f) in
      rw (core-language (first_tag x) (other_tags x) f) (give _ w.rises w.small w.text refl)
  given-core (of-root f g o) =
      let w = later (cut-root (first_tag x) (other_tags x) f g) (root-filled (first_tag x) g) in
      rw (core-root (first_tag x) (other_tags x) f g) (give _ w.rises w.small (w.text ∙ ap (λ (ts : List Tag). title (find a_script ts)) o) (ap (λ (ts : List Tag). upper (find a_region ts)) o))
  given-core (of-script f g r) =
      let l : c.language ≡ 0 = cut-is ∙ cut-script (first_tag x) (other_tags x) f g in
      let s : script_start c.language c.script ≡ 0 = start_first c.language c.script l in
      let z : c.script - 0 ≡ length (first_tag x) = omega (arith, script-cut, no_part (find a_script (other_tags x)) r.script) in
      rw (core-script (first_tag x) (other_tags x) f g)
      (give _ (omega arith) (rw (s, z) first_small) (rw (s, z) (ap (cased 1) p.first-bytes ∙ cased-title (first_tag x))) refl)

  pub given : (l s r : ℕ) → l ≡ c.language → s ≡ c.script → r ≡ c.region → Given x l s r i.core
  given l s r u v w = rw (u, v, w, core_is) (given-core p.core)

  -- the language
  begin-core : Core (first_tag x) (other_tags x) → (s : Start) → s ≡ start_of (first_tag x) → Begins x c (core_of (first_tag x ∷ other_tags x)) s
  unfolding start_of
  begin-core (of-language f o) s e =
      let l : c.language ≡ length (first_tag x) = cut-is ∙ cut-language (first_tag x) (other_tags x) f in
      let q : s ≡ Language = e ∙ rw (f, start_of) in
      rw (core-language (first_tag x) (other_tags x) f) (record {
        language = λ _. rw l (sym p.first-bytes);
        fits = λ _. omega (arith, p.first_fits);
        small = λ _. omega (arith, first_small);
        script = λ z. not-script (sym q ∙ z);
        root = λ z. not_root (sym q ∙ z);
      })
  begin-core (of-root f g o) s e =
      let q : s ≡ Root = e ∙ rw (f, g, start_of) in
      rw (core-root (first_tag x) (other_tags x) f g) (record { language = λ z. not_root (sym z ∙ q); fits = λ z. not_root (sym z ∙ q); small = λ z. not_root (sym z ∙ q); script = λ _. refl; root = λ _. refl })
  begin-core (of-script f g r) s e =
      let q : s ≡ Script = e ∙ rw (f, g, start_of) in
      rw (core-script (first_tag x) (other_tags x) f g) (record { language = λ z. not-script (sym z ∙ q); fits = λ z. not-script (sym z ∙ q); small = λ z. not-script (sym z ∙ q); script = λ _. refl; root = λ _. refl })

  pub begins : (s : Start) → s ≡ start_of (head_tag (split x)) → Begins x c i.core s
  begins s e = rw core_is (begin-core p.core s (e ∙ ap start_of (first-is x a)))

-- what the reader's answer says
pub record Reads (x : List ℕ) (q : ReaderParts) : Type 0 where
  pub start : q.start ≡ start_of (head_tag (split x))
  pub language : q.language ≡ (cuts_of (split x)).language
  pub script : q.script ≡ (cuts_of (split x)).script
  pub region : q.region ≡ (cuts_of (split x)).region
  pub variants : q.variants ≡ (cuts_of (split x)).variants
  pub extensions : q.extensions ≡ (cuts_of (split x)).extensions

pub reads : (x : List ℕ) (q : ReaderParts) → q ≡ parts_of (split x) → Reads x q
unfolding parts_of
reads x q e = record {
  start = ap (λ (r : ReaderParts). r.start) e;
  language = ap (λ (r : ReaderParts). r.language) e;
  script = ap (λ (r : ReaderParts). r.script) e;
  region = ap (λ (r : ReaderParts). r.region) e;
  variants = ap (λ (r : ReaderParts). r.variants) e;
  extensions = ap (λ (r : ReaderParts). r.extensions) e;
}

-- The key of the language's lookup.
key-length : (l : Tag) → length (language_key ++ l) ≡ 9 + length l
key-length l = omega (arith, length-append language_key l)

pub wrote-key : (x o o₁ o₂ : List ℕ) (n r : ℕ) (m : Tag) → n ≡ 0 + 9 → o₁ ≡ sets o 0 language_key → r ≡ n + length m → o₂ ≡ sets o₁ n m → (identifier_of (split x)).core.language ≡ m
    → length m ≤ 8 → (r ≡ length (language_lookup x)) × (r ≤ 17) × (o₂ ≡ sets o 0 (language_lookup x))
unfolding language_lookup
wrote-key x o o₁ o₂ n r m a b c d e h =
    let k : n ≡ 9 = omega arith in (
      omega (arith, key-length (identifier_of (split x)).core.language, ap length e),
      omega arith,
      d ∙ ap₂ (λ (y : List ℕ) (i : ℕ). sets y i m) b k ∙ ap (λ (t : Tag). sets o 0 (language_key ++ t)) (sym e),
    )

module _ (x : List ℕ) (f : fault_of x ≡ none) (q : ReaderParts) (e : q ≡ parts_of (split x)) where
  pub front : Given x q.language q.script q.region (identifier_of (split x)).core
  front = let r = reads x q e in given x (accepted x f) q.language q.script q.region r.language r.script r.region

  -- the language, by the start
  pub as-language : q.start ≡ Language
      → ((identifier_of (split x)).core.language ≡ map normal_byte (take q.language x)) × (q.language ≤ length x) × (length (map normal_byte (take q.language x)) ≤ 8)
      × (length (map normal_byte (take q.language x)) ≡ q.language)
  as-language s =
      let r = reads x q e in
      let b = begins x (accepted x f) q.start r.start in
      let k : q.language ≤ length x = omega (arith, r.language, b.fits s) in
      let n : length (map normal_byte (take q.language x)) ≡ q.language = length-map (take q.language x) normal_byte ∙ length-take-le q.language x k in
      (b.language s ∙ ap (λ (m : ℕ). map normal_byte (take m x)) (sym r.language), k, omega (arith, r.language, b.small s), n)

  pub as-script : q.start ≡ Script → (identifier_of (split x)).core.language ≡ und
  as-script s = (begins x (accepted x f) q.start (reads x q e).start).script s

  pub as-root : q.start ≡ Root → (identifier_of (split x)).core.language ≡ und
  as-root s = (begins x (accepted x f) q.start (reads x q e).start).root s
