-- The printed identifier is its language and its sections; what parts the sections of an input. Assumes nothing.
use mathlib.Core.Path.{◌≡◌, refl, sym, ap, ap₂, ◌∙◌}
use mathlib.Core.Bool.{Bool, false}
use mathlib.Core.List.{List, [], ◌∷◌, ◌++◌, append-nil, append_assoc}
use Prim.Native.Nat.{ℕ}
use native.Mathlib.Omega.{arith}
use lib.ListN.{length}
use borrow.Author.Tests.{lt-leb}
use Rattle.standard.specs.Tag.{Tag}
use Rattle.standard.specs.Grammar.{one_size, size_of, is_singleton, Groups, with_tag, grouped, flat, arrange}
use Rattle.standard.specs.Identifier.{Identifier}
use Rattle.standard.specs.Reading.{optional, rest, tags, joined, print}
use Rattle.subtag.specs.Subtags.{PlainTag}
use Rattle.subtag.specs.Sections.{tags_of, led, Plain}
use Rattle.canonical_order.specs.Section.{is_head, arranged_tags}
use Rattle.canonical_order.proofs.Pending.{led-append}

pub joined-led : (t : Tag) (ts : List Tag) → joined (t ∷ ts) ≡ t ++ led ts
unfolding joined led
joined-led t [] = sym (append-nil t)
joined-led t (u ∷ ts) = ap (λ (x : List ℕ). t ++ (45 ∷ x)) (joined-led u ts)

-- the language, then script, region, variants, extensions and private use, each a section
pub print-led : (i : Identifier)
    → print i ≡ i.core.language ++ (led (optional i.core.script) ++ (led (optional i.core.region) ++ (led i.variants ++ (led (flat i.extensions) ++ led i.private))))
unfolding print tags rest
print-led i = joined-led i.core.language _ ∙ ap (◌++◌ i.core.language) (simp (led-append, append_assoc))

pub singleton-head : (t : Tag) → PlainTag t → is_singleton t ≡ is_head 1 t
unfolding is_singleton one_size size_of is_head PlainTag
singleton-head [] h = absurd (omega (arith, h.0))
singleton-head (a ∷ []) h = refl
singleton-head (a ∷ b ∷ t) h = long t ∙ sym (lt-leb (length (a ∷ b ∷ t)) 1 (omega arith))
  where
    long : (r : Tag) → one_size (size_of (a ∷ b ∷ r)) ≡ false
    long [] = refl
    long (c ∷ []) = refl
    long (c ∷ d ∷ []) = refl
    long (c ∷ d ∷ e ∷ []) = refl
    long (c ∷ d ∷ e ∷ f ∷ []) = refl
    long (c ∷ d ∷ e ∷ f ∷ g ∷ []) = refl
    long (c ∷ d ∷ e ∷ f ∷ g ∷ i ∷ []) = refl
    long (c ∷ d ∷ e ∷ f ∷ g ∷ i ∷ j ∷ r) = refl

pub grouped-singleton : (ts : List Tag) → Plain ts → grouped is_singleton ts ≡ grouped (is_head 1) ts
unfolding grouped Plain
grouped-singleton [] h = refl
grouped-singleton (t ∷ ts) h = ap₂ (λ (b : Bool) (g : Groups). with_tag b t g) (singleton-head t h.0) (grouped-singleton ts h.1)

-- what `write_extensions` writes, in the definition's terms
pub arranged : (s : List ℕ) → Plain (tags_of s) → arranged_tags s ≡ flat (arrange (grouped is_singleton (tags_of s)).groups)
unfolding arranged_tags
arranged s h = ap (λ (g : Groups). flat (arrange g.groups)) (sym (grouped-singleton (tags_of s) h))
