-- The canonical form, written part by part, is the printed one. Assumes nothing.
use mathlib.Core.Path.{◌≡◌, sym, ap, ap₂, ◌∙◌}
use mathlib.Core.List.{List, [], ◌∷◌, ◌++◌, map, append_assoc}
use mathlib.Core.Logic.{⊎_elim}
use mathlib.Core.Option.{none}
use Prim.Native.Nat.{ℕ, ◌+◌, ◌-◌, ◌≤◌}
use native.Mathlib.Omega.{arith}
use lib.ListN.{length, take, drop, length-append, length-drop, length-map}
use lib.Seq.{sets, sets-eq, take_at, drop_at}
use Rattle.reader.specs.declared.Parts.{Parts as ReaderParts}
use Rattle.standard.specs.Tag.{Tag, All}
use Rattle.standard.specs.Grammar.{is_singleton, grouped, flat, arrange}
use Rattle.standard.specs.Identifier.{Identifier, Tables, canonical_variants, canonical_form, part, parts, printed_length}
use Rattle.standard.specs.Reading.{optional, split, identifier_of, fault_of, print, of_kind}
use Rattle.standard.specs.Table.{print_three, is_word, is_variant_tag, tables_of, check, to_canonicalise}
use Rattle.standard.proofs.Bytes.{word}
use Rattle.standard.proofs.Shapes.{Word}
use Rattle.standard.proofs.Faults.{Variants}
use Rattle.standard.proofs.Closed.{canon-printable}
use Rattle.standard.proofs.Table.{shaped-tables}
use Rattle.subtag.specs.Bytes.{normal_byte}
use Rattle.byte_string.proofs.Stores.{wrote-two, mapped, all_from}
use Rattle.reader.specs.Cuts.{cuts_of}
use Rattle.reader.specs.Parts.{parts_of}
use Rattle.canonical.specs.declared.lsr.Ends.{Ends}
use Rattle.canonical.specs.declared.form.Form.{Form}
use Rattle.subtag.specs.Sections.{tags_of, led, Led, Plain}
use Rattle.canonical_order.specs.Section.{Each, Arrangeable, is_head, arranged_tags}
use Rattle.canonical.specs.Three.{ends_of, canonical_three}
use Rattle.canonical.specs.Variants.{EachVariant}
use Rattle.canonical.specs.Form.{form_of, hyphens, accepted}
use Rattle.canonical_order.proofs.Walk.{section-bytes}
use Rattle.canonical.proofs.Print.{print-led, arranged}
use Rattle.canonical.proofs.Again.{AllLow}
use Rattle.canonical.proofs.Cuts.{parts-led, part-led, cut-size, parts_at, accepted as accepted-read}
use Rattle.canonical.proofs.Ready.{raw, Ready, ready}
use Rattle.canonical.proofs.Front.{reads}
use Rattle.canonical.proofs.Words.{aliases-passed, three-led, language-size, script-size, region-size, led-five, led-four}
use Rattle.canonical.proofs.Cores.{canonical-shaped}
use Rattle.canonical.proofs.Merged.{canonical-fits, low_word}
use Rattle.canonical.proofs.Counts.{hyphens-led}

-- variants as they were read
each_read : (vs : List Tag) → Variants vs → All Word vs → EachVariant vs
unfolding Variants All EachVariant is_variant_tag is_word word of_kind
each_read [] h k = tt
each_read (v ∷ vs) h k = (rw (h.0, k.0), each_read vs h.1 k.1)

-- The sections of an accepted identifier, as the code lends them.
pub record Lent (x : List ℕ) (i : Identifier) (region variants extensions : ℕ) : Type 0 where
  pub low : region ≤ variants
  pub middle : variants ≤ extensions
  pub high : extensions ≤ length x
  pub short : length x ≤ 255
  pub variants-size : length (take (variants - region) (drop region x)) ≡ variants - region
  pub variants-begin : Led (take (variants - region) (drop region x))
  pub variants-are : tags_of (take (variants - region) (drop region x)) ≡ i.variants
  pub variants-plain : Plain i.variants
  pub each : EachVariant i.variants
  pub extensions-size : length (take (extensions - variants) (drop variants x)) ≡ extensions - variants
  pub extensions-begin : Led (take (extensions - variants) (drop variants x))
  pub extensions-are : tags_of (take (extensions - variants) (drop variants x)) ≡ flat i.extensions
  pub extensions-plain : Plain (flat i.extensions)
  pub ready : Ready i
  pub private-is : map normal_byte (take (length x - extensions) (drop extensions x)) ≡ led i.private

lent_at : (x : List ℕ) → fault_of x ≡ none → (region variants extensions : ℕ) → region ≡ (cuts_of (split x)).region → variants ≡ (cuts_of (split x)).variants → extensions ≡ (cuts_of (split x)).extensions
    → Lent x (identifier_of (split x)) region variants extensions
lent_at x f region variants extensions a b c =
    let k = accepted-read x f in
    let p = parts_at x k in
    let r = raw x f in
    rw (a, b, c) (record {
      low = p.variants.within;
      middle = p.extensions.within;
      high = p.extensions.fits;
      short = k.short;
      variants-size = cut-size p.variants;
      variants-begin = p.variants.begins;
      variants-are = p.variants.tags;
      variants-plain = p.variants.plain;
      each = each_read (identifier_of (split x)).variants r.variants r.variant-words;
      extensions-size = cut-size p.extensions;
      extensions-begin = p.extensions.begins;
      extensions-are = p.extensions.tags;
      extensions-plain = p.extensions.plain;
      ready = ready (identifier_of (split x)) r p.extensions.plain;
      private-is = ap (map normal_byte) (all_from (cuts_of (split x)).extensions x) ∙ section-bytes (drop (cuts_of (split x)).extensions x) p.extensions.rest-begins ∙ ap led p.extensions.rest-tags;
    })

pub lent : (x : List ℕ) → fault_of x ≡ none → (q : ReaderParts) → q ≡ parts_of (split x) → Lent x (identifier_of (split x)) q.region q.variants q.extensions
lent x f q e = let r = reads x q e in lent_at x f q.region q.variants q.extensions r.region r.variants r.extensions

low-words : (ts : List Tag) → All Word ts → AllLow ts
unfolding All AllLow
low-words [] h = tt
low-words (t ∷ ts) h = (low_word t h.0, low-words ts h.1)

-- a part of what was written at the front of a buffer
part_of : (z o a b c : List ℕ) (m n : ℕ) → o ≡ sets z 0 (a ++ (b ++ c)) → length (a ++ (b ++ c)) ≤ length z → m ≡ length a → n ≡ m + length b → take (n - m) (drop m o) ≡ b
part_of z o a b c m n e h f g =
    let k : n - m ≡ length b = omega arith in
    let w : o ≡ a ++ (b ++ (c ++ drop (0 + length (a ++ (b ++ c))) z)) = e ∙ sets-eq (a ++ (b ++ c)) z 0 (omega arith) ∙ append_assoc a (b ++ c) (drop (0 + length (a ++ (b ++ c))) z)
    ∙ ap (◌++◌ a) (append_assoc b c (drop (0 + length (a ++ (b ++ c))) z)) in
    ap (λ (y : List ℕ). take (n - m) (drop m y)) w ∙ ap (take (n - m)) (drop_at a (b ++ (c ++ drop (0 + length (a ++ (b ++ c))) z)) m (sym f)) ∙ take_at b (c ++ drop (0 + length (a ++ (b ++ c))) z) (n - m) (sym k)

module _ (A x : List ℕ) (t : check to_canonicalise A [] [] ≡ none) (f : fault_of x ≡ none) where
  abbrev i : Identifier
  i = identifier_of (split x)

  abbrev T : Tables
  T = tables_of A [] []

  abbrev three' : List ℕ
  three' = print_three (canonical_three A x)

  abbrev variants' : List ℕ
  variants' = led (canonical_variants T i.variants)

  abbrev extensions' : List ℕ
  extensions' = led (flat (arrange i.extensions))

  text : print (accepted A x) ≡ three' ++ (variants' ++ (extensions' ++ led i.private))
  unfolding accepted canonical_form canonical_three
  text =
      let c = canonical_form T i in
      print-led c ∙ sym (ap (λ (y : List ℕ). y ++ (variants' ++ (extensions' ++ led i.private))) (three-led c.core)
      ∙ append_assoc c.core.language (led (optional c.core.script) ++ led (optional c.core.region)) (variants' ++ (extensions' ++ led i.private))
      ∙ ap (◌++◌ c.core.language) (append_assoc (led (optional c.core.script)) (led (optional c.core.region)) (variants' ++ (extensions' ++ led i.private))))

  -- the ends of the three
  three-length : length three' ≡ (ends_of (canonical_three A x)).region
  unfolding ends_of
  three-length =
      let v = canonical_three A x in
      ap length (three-led v) ∙ length-append v.language (led (optional v.script) ++ led (optional v.region))
      ∙ omega (arith, length-append (led (optional v.script)) (led (optional v.region)), part-led v.script, part-led v.region)

  pub three-small : (e : Ends) → e ≡ ends_of (canonical_three A x) → e.region ≤ 17
  three-small e k =
      let v = canonical_three A x in
      let s = canonical-shaped A x t f in
      let n = ap length (three-led v) ∙ length-append v.language (led (optional v.script) ++ led (optional v.region)) in
      let a = language-size v.language s.language in
      let d = led-four v.region (region-size v.region s.region) in
      let r : e.region ≡ length three' = ap (λ (z : Ends). z.region) k ∙ sym three-length in
      ⊎_elim (λ m. omega (arith, length-append (led (optional v.script)) (led (optional v.region)))) (λ m. omega (arith, length-append (led (optional v.script)) (led (optional v.region))))
      (led-five v.script (script-size v.script s.script))

  low-variants : AllLow (canonical_variants T i.variants)
  unfolding canonical_form
  low-variants = low-words _ (canon-printable T (shaped-tables A [] [] (aliases-passed A t)) i (raw x f)).variant-words

  module _ (q : ReaderParts) (p : q ≡ parts_of (split x)) (e : Ends) (k : e ≡ ends_of (canonical_three A x)) where
    abbrev pub v_bytes : List ℕ
    v_bytes = take (q.variants - q.region) (drop q.region x)

    abbrev pub e_bytes : List ℕ
    e_bytes = take (q.extensions - q.variants) (drop q.variants x)

    abbrev pub p_bytes : List ℕ
    p_bytes = take (length x - q.extensions) (drop q.extensions x)

    L : Lent x i q.region q.variants q.extensions
    L = lent x f q p

    variants-text : led (canonical_variants T (tags_of v_bytes)) ≡ variants'
    variants-text = ap (λ (ts : List Tag). led (canonical_variants T ts)) L.variants-are

    extensions-text : led (arranged_tags e_bytes) ≡ extensions'
    extensions-text =
        ap led (arranged e_bytes (rw L.extensions-are L.extensions-plain)
        ∙ ap (λ (ts : List Tag). flat (arrange (grouped is_singleton ts).groups)) L.extensions-are ∙ ap (λ (gs : List (List Tag)). flat (arrange gs)) L.ready.groups)

    pub variants-ready : Led v_bytes × Plain (tags_of v_bytes) × EachVariant (tags_of v_bytes) × (length v_bytes ≤ 255) × (e.region + 459 ≤ 512)
    variants-ready = (L.variants-begin, rw L.variants-are L.variants-plain, rw L.variants-are L.each, omega (arith, L.variants-size, L.low, L.middle, L.high, L.short), omega (arith, three-small e k))

    -- the sizes add up
    pub sizes : (n : ℕ) → n ≡ e.region + length (led (canonical_variants T (tags_of v_bytes))) → n + length e_bytes + length p_bytes ≤ 476
    sizes n h =
        let v = canonical-fits A t v_bytes L.variants-begin variants-ready.2 variants-ready.3 in
        omega (arith, three-small e k, L.variants-size, L.extensions-size, L.low, L.middle, L.high, L.short, ap length (all_from q.extensions x), length-drop q.extensions x)

    pub extensions-ready : Led e_bytes × Plain (tags_of e_bytes) × Each Arrangeable (grouped (is_head 1) (tags_of e_bytes)).groups
    extensions-ready = (L.extensions-begin, rw L.extensions-are L.extensions-plain, rw L.extensions-are L.ready.each)

    -- what was written, part by part
    module _ (z o₁ o₂ o₃ o₄ : List ℕ) (n₁ n₂ n₃ : ℕ) (big : length z ≡ 512)
        (w₁ : o₁ ≡ sets z 0 three')
        (h₂ : n₁ ≡ e.region + length (led (canonical_variants T (tags_of v_bytes)))) (w₂ : o₂ ≡ sets o₁ e.region (led (canonical_variants T (tags_of v_bytes))))
        (h₃ : n₂ ≡ n₁ + length (led (arranged_tags e_bytes))) (fits : n₂ ≤ n₁ + length e_bytes) (w₃ : o₃ ≡ sets o₂ n₁ (led (arranged_tags e_bytes)))
        (h₄ : n₃ ≡ n₂ + length p_bytes) (w₄ : o₄ ≡ sets o₃ n₂ (map normal_byte p_bytes)) where
      r₁ : e.region ≡ 0 + length three'
      r₁ = omega (arith, ap (λ (y : Ends). y.region) k, three-length)

      private-text : map normal_byte p_bytes ≡ led i.private
      private-text = L.private-is

      pub all-written : (n₃ ≡ 0 + length (print (accepted A x))) × (o₄ ≡ sets z 0 (print (accepted A x)))
      all-written =
          let m = mapped normal_byte n₂ p_bytes in
          let a = wrote-two o₂ o₃ o₄ n₁ n₂ n₃ (led (arranged_tags e_bytes)) (map normal_byte p_bytes) (extensions' ++ led i.private) (ap₂ (λ (y u : List ℕ). y ++ u) (sym extensions-text) (sym private-text)) h₃ w₃ (h₄ ∙ m) w₄ in
          let b = wrote-two o₁ o₂ o₄ e.region n₁ n₃ (led (canonical_variants T (tags_of v_bytes))) (extensions' ++ led i.private) (variants' ++ (extensions' ++ led i.private))
          (ap (λ (y : List ℕ). y ++ (extensions' ++ led i.private)) (sym variants-text)) h₂ w₂ a.0 a.1 in
          wrote-two z o₁ o₄ 0 e.region n₃ three' (variants' ++ (extensions' ++ led i.private)) (print (accepted A x)) text r₁ w₁ b.0 b.1

      pub small : n₃ ≤ 476
      small = omega (arith, sizes n₁ h₂)

      count-is : (n : ℕ) → n ≡ hyphens (take (n₁ - e.region) (drop e.region o₄)) → n ≡ length (canonical_variants T i.variants)
      count-is n h =
          let s = ap length (sym text) in
          let u = part_of z o₄ three' variants' (extensions' ++ led i.private) e.region n₁ (all-written.1 ∙ ap (sets z 0) text) (omega (arith, all-written.0, sizes n₁ h₂, small)) (omega (arith, r₁)) (h₂ ∙ ap (λ (y : List ℕ). e.region + length y) variants-text) in
          h ∙ ap hyphens u ∙ hyphens-led (canonical_variants T i.variants) low-variants

      pub form-is : (n : ℕ) → n ≡ hyphens (take (n₁ - e.region) (drop e.region o₄))
          → ◌≡◌ {A = Form} (record { language = e.language; script = e.script; region = e.region; variants = n₁; extensions = n₂; len = n₃; count = n }) (form_of (accepted A x))
      unfolding form_of accepted canonical_form ends_of printed_length canonical_three
      form-is n h =
          let c = canonical_form T i in
          let l : e.language ≡ length c.core.language = ap (λ (y : Ends). y.language) k in
          let s : e.script ≡ length c.core.language + part c.core.script = ap (λ (y : Ends). y.script) k in
          let r : e.region ≡ length c.core.language + part c.core.script + part c.core.region = ap (λ (y : Ends). y.region) k in
          let a : n₁ ≡ length c.core.language + part c.core.script + part c.core.region + parts c.variants = omega (arith, parts-led c.variants, ap length variants-text) in
          let b : n₂ ≡ length c.core.language + part c.core.script + part c.core.region + parts c.variants + parts (flat c.extensions) =
          omega (arith, parts-led (flat c.extensions), ap length extensions-text) in
          let d : n₃ ≡ length c.core.language + (part c.core.script + (part c.core.region + (parts c.variants + (parts (flat c.extensions) + parts c.private)))) =
          omega (arith, parts-led c.private, ap length private-text, length-map p_bytes normal_byte) in
          let g = count-is n h in
          λ j. record { language = l j; script = s j; region = r j; variants = a j; extensions = b j; len = d j; count = g j }
