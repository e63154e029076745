-- The first subtag of a kind parts a section. Assumes nothing.
use mathlib.Core.Path.{◌≡◌, refl, sym, ap, ◌∙◌}
use mathlib.Core.Bool.{Bool, true, false, cond}
use mathlib.Core.List.{List, [], ◌∷◌}
use Prim.Native.Nat.{ℕ, ◌+◌, ◌≤◌}
use native.Mathlib.Omega.{arith}
use lib.ListN.{length, drop, length-append}
use lib.Dec.{leb}
use Rattle.standard.specs.Tag.{Tag}
use Rattle.standard.specs.Grammar.{variant_kind, is_variant, is_field_key, with_tag, grouped, flat}
use Rattle.subtag.specs.Kinds.{field_from}
use Rattle.subtag.specs.declared.Subtag.{Subtag}
use Rattle.subtag.specs.Subtags.{subtag_of}
use Rattle.subtag.specs.Sections.{tags_of, led, Led, Plain}
use Rattle.canonical_order.specs.Section.{is_head, end_from, place_of, of_variant}
use Rattle.subtag.proofs.Shapes.{field-from, kind-from}
use Rattle.canonical_order.proofs.Picks.{Stepped}
use Rattle.canonical_order.proofs.Walk.{tags-end}
use Rattle.canonical_order.proofs.Pending.{grouped-all}
use Rattle.canonical_order.proofs.Boundary.{Parted, parted}

-- a test of a subtag, by what the code keeps of it, and the test of its bytes that it stands for
abbrev pub Tells : (Subtag → Bool) → (Tag → Bool) → Type 0
Tells p q = (t : Tag) → p (subtag_of t) ≡ q t

pub tells-field : Tells field_from is_field_key
tells-field t = field-from t

pub tells-variant : Tells of_variant is_variant
unfolding is_variant of_variant
tells-variant t = ap variant_kind (kind-from t)

-- One step of the search.
module _ (s : List ℕ) (at : ℕ) (r : Subtag) (w : Stepped s at r) where
  pub place_here : (p : Subtag → Bool) → p r ≡ true → place_of p at (tags_of (drop at s)) ≡ at
  unfolding place_of
  place_here p h = ap (place_of p at) w.on.tags ∙ simp (ap p (sym w.is) ∙ h)

  pub place-next : (p : Subtag → Bool) → p r ≡ false → place_of p at (tags_of (drop at s)) ≡ place_of p (at + 1 + r.len) (tags_of (drop (at + 1 + r.len) s))
  unfolding place_of
  place-next p h =
      ap (place_of p at) w.on.tags ∙ simp (ap p (sym w.is) ∙ h)
      (ap (λ (k : ℕ). place_of p (at + 1 + k) (tags_of (drop (at + 1 + r.len) s))) (sym w.size))

pub place-done : (s : List ℕ) (p : Subtag → Bool) (at : ℕ) → length s ≤ at → place_of p at (tags_of (drop at s)) ≡ at
unfolding place_of
place-done s p at h = ap (place_of p at) (tags-end s at h)

-- the end of a group is the place of the next head
pub place-end : (width at : ℕ) (ts : List Tag) → place_of (λ t. leb t.len width) at ts ≡ end_from width at ts
unfolding place_of end_from is_head subtag_of
place-end width at [] = refl
place-end width at (t ∷ ts) = ap (cond (leb (length t) width) at) (place-end width (at + 1 + length t) ts)

pub place-before : (p : Subtag → Bool) (q : Tag → Bool) → Tells p q → (at : ℕ) (ts : List Tag) → Plain ts → place_of p at ts ≡ at + length (led (grouped q ts).before)
unfolding place_of grouped with_tag led Plain
place-before p q e at [] h = omega arith
place-before p q e at (t ∷ ts) h = rw (e t) (go (q t) (place-before p q e (at + 1 + length t) ts h.1))
  where
    go : (b : Bool) → place_of p (at + 1 + length t) ts ≡ at + 1 + length t + length (led (grouped q ts).before)
        → cond b at (place_of p (at + 1 + length t) ts) ≡ at + length (led (with_tag b t (grouped q ts)).before)
    go true i = omega arith
    go false i = let e = length-append t (led (grouped q ts).before) in omega arith

-- the section is parted at the first such subtag
pub parted-at : (p : Subtag → Bool) (q : Tag → Bool) → Tells p q → (s : List ℕ) (k : ℕ) → Led s → Plain (tags_of s) → k ≡ place_of p 0 (tags_of s)
    → Parted s k (grouped q (tags_of s)).before (flat (grouped q (tags_of s)).groups)
parted-at p q t s k l h e =
    let n = place-before p q t 0 (tags_of s) h in
    parted _ _ s k l (grouped-all q (tags_of s)) (omega arith)
