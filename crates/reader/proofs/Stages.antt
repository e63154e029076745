-- What follows the first subtag of an accepted language part: perhaps a script, perhaps a region, then variants.
-- Assumes nothing.
use mathlib.Core.Path.{◌≡◌, refl, sym, ap, ap₂, ◌∙◌}
use mathlib.Core.Bool.{true, false}
use mathlib.Core.List.{List, [], ◌∷◌, ◌++◌}
use mathlib.Core.Option.{Option, none, some}
use Prim.Native.Nat.{ℕ}
use Rattle.standard.specs.Tag.{Tag}
use Rattle.standard.specs.Grammar.{Kind, a_script, a_region, a_variant, a_none, kind_of, kind, variant_kind, size_of, is_variant, only}
use Rattle.standard.specs.Reading.{optional, Stage, after_language, after_script, after_region, accept, rest_fault, of_kind, find}
use Rattle.standard.proofs.General.{clash}
use Rattle.standard.proofs.Faults.{kind-variant, Back, back, nothing}
use Rattle.standard.proofs.Shapes.{known}

-- the stage that follows
on : {w : ℕ} {m st : Stage} {t : Tag} {ts : List Tag} (b : Back w st t ts) → ◌≡◌ {A = Option Stage} (some m) (some b.next) → rest_fault w m b.seen b.at ts ≡ none
on {w} {m} b e = let q : m ≡ b.next = cc in rw q b.after

-- what the searches make of one subtag more
find-other : (k : Kind) (t : Tag) (ts : List Tag) → of_kind k (kind_of t) ≡ false → find k (t ∷ ts) ≡ find k ts
unfolding find
find-other k t ts e = rw (e, find)

find-this : (k : Kind) (t : Tag) (ts : List Tag) → of_kind k (kind_of t) ≡ true → find k (t ∷ ts) ≡ t
unfolding find
find-this k t ts e = rw (e, find)

only-other : (t : Tag) (ts : List Tag) → is_variant t ≡ false → only is_variant (t ∷ ts) ≡ only is_variant ts
unfolding only
only-other t ts e = rw (e, only)

only-this : (t : Tag) (ts : List Tag) → is_variant t ≡ true → only is_variant (t ∷ ts) ≡ t ∷ only is_variant ts
unfolding only
only-this t ts e = rw (e, only)

pub optional-one : (t : Tag) (k : Kind) → kind_of t ≡ k → known k ≡ true → optional t ≡ t ∷ []
unfolding optional kind_of kind size_of known
optional-one [] k e f = clash {b = true} refl (sym (rw (← e) at f))
optional-one (b ∷ bs) k e f = refl

-- the subtags from the variants on
record Variants (ts : List Tag) : Type 0 where
  script : find a_script ts ≡ []
  region : find a_region ts ≡ []
  variants : ts ≡ only is_variant ts

none_left : Variants []
unfolding find only
none_left = record { script = refl; region = refl; variants = refl }

variant-first : (t : Tag) (ts : List Tag) → kind_of t ≡ a_variant → Variants ts → Variants (t ∷ ts)
unfolding of_kind variant_kind
variant-first t ts f r = record {
  script = find-other a_script t ts (rw f) ∙ r.script;
  region = find-other a_region t ts (rw f) ∙ r.region;
  variants = ap (◌∷◌ t) r.variants ∙ sym (only-this t ts (kind-variant t a_variant f));
}

only-variants : (w : ℕ) (seen : List Tag) (at : ℕ) (ts : List Tag) → rest_fault w after_region seen at ts ≡ none → Variants ts
unfolding accept of_kind
only-variants w seen at [] e = none_left
only-variants w seen at (t ∷ ts) e =
    let b = back w after_region seen at t ts e in
    go (kind_of t) refl b b.accepted (λ s n. only-variants w s n ts)
  where
    go : (k : Kind) → kind_of t ≡ k → (b : Back w after_region t ts) → accept after_region (kind_of t) ≡ some b.next
        → ((s : List Tag) (n : ℕ) → rest_fault w after_region s n ts ≡ none → Variants ts) → Variants (t ∷ ts)
    go a_variant f b a more = variant-first t ts f (more b.seen b.at (on b (rw f at a)))
    go a_script f b a more = nothing (rw f at a)
    go a_region f b a more = nothing (rw f at a)
    go a_none f b a more = nothing (rw f at a)

-- from the region on
pub record Region (ts : List Tag) : Type 0 where
  pub script : find a_script ts ≡ []
  pub are : ts ≡ optional (find a_region ts) ++ only is_variant ts

variants-left : (ts : List Tag) → Variants ts → Region ts
unfolding optional
variants-left ts v = record { script = v.script; are = v.variants ∙ ap (λ (r : Tag). optional r ++ only is_variant ts) (sym v.region) }

region-first : (t : Tag) (ts : List Tag) → kind_of t ≡ a_region → Variants ts → Region (t ∷ ts)
unfolding of_kind variant_kind known
region-first t ts f r = record {
  script = find-other a_script t ts (rw f) ∙ r.script;
  are = ap (◌∷◌ t) r.variants
      ∙ sym (ap₂ (λ (x : Tag) (y : List Tag). optional x ++ y) (find-this a_region t ts (rw f)) (only-other t ts (kind-variant t a_region f))
      ∙ ap (λ (x : List Tag). x ++ only is_variant ts) (optional-one t a_region f refl));
}

pub after-script : (w : ℕ) (seen : List Tag) (at : ℕ) (ts : List Tag) → rest_fault w after_script seen at ts ≡ none → Region ts
unfolding accept of_kind known
after-script w seen at [] e = variants-left [] none_left
after-script w seen at (t ∷ ts) e = let b = back w after_script seen at t ts e in go (kind_of t) refl b b.accepted
  where
    go : (k : Kind) → kind_of t ≡ k → (b : Back w after_script t ts) → accept after_script (kind_of t) ≡ some b.next → Region (t ∷ ts)
    go a_variant f b a = variants-left (t ∷ ts) (variant-first t ts f (only-variants w b.seen b.at ts (on b (rw f at a))))
    go a_region f b a = region-first t ts f (only-variants w b.seen b.at ts (on b (rw f at a)))
    go a_script f b a = nothing (rw f at a)
    go a_none f b a = nothing (rw f at a)

-- from the script on
abbrev pub Others : List Tag → Type 0
Others ts = ts ≡ optional (find a_script ts) ++ (optional (find a_region ts) ++ only is_variant ts)

pub region-left : (ts : List Tag) → Region ts → Others ts
unfolding optional
region-left ts r = r.are ∙ ap (λ (s : Tag). optional s ++ (optional (find a_region ts) ++ only is_variant ts)) (sym r.script)

pub after-language : (w : ℕ) (seen : List Tag) (at : ℕ) (ts : List Tag) → rest_fault w after_language seen at ts ≡ none → Others ts
unfolding accept of_kind known variant_kind
after-language w seen at [] e = region-left [] (variants-left [] none_left)
after-language w seen at (t ∷ ts) e = let b = back w after_language seen at t ts e in go (kind_of t) refl b b.accepted
  where
    go : (k : Kind) → kind_of t ≡ k → (b : Back w after_language t ts) → accept after_language (kind_of t) ≡ some b.next → Others (t ∷ ts)
    go a_variant f b a = region-left (t ∷ ts) (variants-left (t ∷ ts) (variant-first t ts f (only-variants w b.seen b.at ts (on b (rw f at a)))))
    go a_region f b a = region-left (t ∷ ts) (region-first t ts f (only-variants w b.seen b.at ts (on b (rw f at a))))
    go a_script f b a =
        let r = after-script w b.seen b.at ts (on b (rw f at a)) in
        ap (◌∷◌ t) r.are
        ∙ sym (ap₂ (λ (x y : Tag). optional x ++ (optional y ++ only is_variant (t ∷ ts))) (find-this a_script t ts (rw f)) (find-other a_region t ts (rw f))
        ∙ ap₂ (λ (x y : List Tag). x ++ (optional (find a_region ts) ++ y)) (optional-one t a_script f refl) (only-other t ts (kind-variant t a_script f)))
    go a_none f b a = nothing (rw f at a)
