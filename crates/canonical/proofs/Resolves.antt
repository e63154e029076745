-- One turn of the loop that replaces the variants. Assumes nothing.
use mathlib.Core.Path.{◌≡◌, refl, sym, ap, ap₂, ◌∙◌, subst}
use mathlib.Core.List.{List, ◌++◌, map}
use Prim.Native.Nat.{ℕ, ◌+◌, ◌-◌, ◌≤◌, ◌<◌}
use native.Mathlib.Omega.{arith}
use lib.ListN.{length, take, drop, length-append}
use lib.Seq.{sets, length-sets, take_at}
use Rattle.standard.specs.Tag.{Tag, head_tag, pick}
use Rattle.standard.specs.Reading.{split, after_first}
use Rattle.standard.specs.Table.{variant_key}
use Rattle.subtag.specs.declared.Subtag.{Subtag}
use Rattle.subtag.specs.Bytes.{normal_byte, cased}
use Rattle.subtag.specs.Subtags.{subtag_of, PlainTag}
use Rattle.byte_string.proofs.Stores.{sets-append}
use Rattle.subtag.specs.Sections.{tags_of, led, Led, Plain}
use Rattle.aliases.specs.Replaced.{aliased_part}
use Rattle.canonical.specs.Variants.{resolved}
use Rattle.canonical_order.proofs.Walk.{tidied, tags-end}
use Rattle.canonical_order.proofs.Picks.{Stepped, stepped}
use Rattle.canonical_order.proofs.Pending.{map-take}
use Rattle.standard.proofs.General.{pick-nil as pick-none}

-- the bytes of the subtag at the front
pub front-normalise : (y : List ℕ) (n : ℕ) → n ≡ length (head_tag (split y)) → map normal_byte (take n y) ≡ head_tag (split y)
front-normalise y n e = map-take normal_byte n y ∙ ap (take n) (tidied y) ∙ take_at (head_tag (split y)) (led (after_first (split y))) n (sym e)

-- How far the replacing is: what is left goes to the place end.
pub record Resolving (A s out₀ : List ℕ) (at : ℕ) (out : List ℕ) (end : ℕ) : Type 0 where
  pub within : at ≤ length s
  pub begins : Led (drop at s)
  pub plain : Plain (tags_of (drop at s))
  pub same_size : length out ≡ length out₀
  pub ends : end + length (resolved A (tags_of (drop at s))) ≡ length (resolved A (tags_of s))
  pub holds : sets out end (resolved A (tags_of (drop at s))) ≡ sets out₀ 0 (resolved A (tags_of s))

pub resolving-start : (A s out₀ : List ℕ) → Led s → Plain (tags_of s) → Resolving A s out₀ 0 out₀ 0
resolving-start A s out₀ l p = record { within = omega arith; begins = l; plain = p; same_size = refl; ends = omega arith; holds = refl }

pub resolving-done : (A s out₀ : List ℕ) (at : ℕ) (out : List ℕ) (end : ℕ) → Resolving A s out₀ at out end → length s ≤ at
    → (end ≡ length (resolved A (tags_of s))) × (out ≡ sets out₀ 0 (resolved A (tags_of s)))
unfolding resolved
resolving-done A s out₀ at out end w h =
    let e = ap (resolved A) (tags-end s at h) in
    (omega (arith, w.ends, ap length e), ap (sets out end) (sym e) ∙ w.holds)

module _ (A s out₀ : List ℕ) (at : ℕ) (out : List ℕ) (end : ℕ) (w : Resolving A s out₀ at out end) (h : at < length s)
    (r : Subtag) (e : r ≡ subtag_of (head_tag (split (take (length s - (at + 1)) (drop (at + 1) s))))) where
  abbrev t : Tag
  t = head_tag (split (drop (at + 1) s))

  st : Stepped s at r
  st = stepped s at r h w.begins e

  tag_is : (stop : ℕ) → stop ≡ at + 1 + r.len → pick (cased 0 (map normal_byte (take (stop - (at + 1)) (drop (at + 1) s)))) (take 0 s) ≡ t
  unfolding cased
  tag_is stop z =
      let n : stop - (at + 1) ≡ length t = omega (arith, st.size) in
      pick-none _ ∙ front-normalise (drop (at + 1) s) (stop - (at + 1)) n

  pub tag_small : r.len ≤ 8
  unfolding Plain PlainTag
  tag_small = let p = subst (λ (ts : List Tag). Plain ts) st.on.tags w.plain in omega (arith, st.size, p.0.1)

  pub stop-fits : at + 1 + r.len ≤ length s
  stop-fits = st.on.fits

  module _ (stop : ℕ) (z : stop ≡ at + 1 + r.len) where
    abbrev given : Tag
    given = pick (cased 0 (map normal_byte (take (stop - (at + 1)) (drop (at + 1) s)))) (take 0 s)

    part-is : resolved A (tags_of (drop at s)) ≡ aliased_part A variant_key given ++ resolved A (tags_of (drop stop s))
    unfolding resolved
    part-is = ap (resolved A) st.on.tags ∙ ap₂ (λ (u : Tag) (k : ℕ). aliased_part A variant_key u ++ resolved A (tags_of (drop k s))) (sym (tag_is stop z)) (sym z)

    part-size : length (resolved A (tags_of (drop at s))) ≡ length (aliased_part A variant_key given) + length (resolved A (tags_of (drop stop s)))
    part-size = ap length part-is ∙ length-append (aliased_part A variant_key given) (resolved A (tags_of (drop stop s)))

    pub part_room : length (resolved A (tags_of s)) ≤ length out₀ → end + length (aliased_part A variant_key given) ≤ length out
    part_room k = omega (arith, part-size, w.ends, w.same_size)

    pub resolving-next : (out' : List ℕ) (end' : ℕ) → end' ≡ end + length (aliased_part A variant_key given) → out' ≡ sets out end (aliased_part A variant_key given) → Resolving A s out₀ stop out' end'
    unfolding Plain
    resolving-next out' end' a b = record {
      within = omega (arith, stop-fits);
      begins = rw z st.on.begins;
      plain = rw z (subst (λ (ts : List Tag). Plain ts) st.on.tags w.plain).1;
      same_size = ap length b ∙ length-sets out end (aliased_part A variant_key given) ∙ w.same_size;
      ends = omega (arith, part-size, w.ends);
      holds = ap₂ (λ (o : List ℕ) (k : ℕ). sets o k (resolved A (tags_of (drop stop s)))) b a ∙ sym (sets-append out end (aliased_part A variant_key given) (resolved A (tags_of (drop stop s))))
          ∙ ap (sets out end) (sym part-is) ∙ w.holds;
    }
