-- The extensions of an accepted identifier are such that they can be written. Assumes nothing.
use mathlib.Core.Path.{◌≡◌, refl, sym, ap, ◌∙◌, subst}
use mathlib.Core.Bool.{Bool, true, false, not, ◌&&◌, ◌||◌}
use mathlib.Core.List.{List, [], ◌∷◌, ◌++◌, append_assoc}
use mathlib.Core.Option.{none}
use Prim.Native.Nat.{ℕ, ◌<◌}
use native.Mathlib.Omega.{arith}
use lib.ListN.{length}
use Rattle.standard.specs.Tag.{Tag, same, order, All}
use Rattle.standard.specs.Grammar.{one_size, wrong_length, size_of, a_script, a_region, a_variant, kind_of, variant_kind, is_variant, is_singleton, is_two, is_field_key, u_tag, t_tag, Groups, grouped, flat}
use Rattle.standard.specs.Identifier.{Identifier}
use Rattle.standard.specs.Reading.{split, optional, after_first, wrong_size, wrong_value, alone, fault_of, identifier_of, read_as, read}
use Rattle.standard.proofs.Tags.{same-eq}
use Rattle.standard.proofs.Groups.{Lacks, Has, Headed, grouped-before, regroup, all_append}
use Rattle.standard.proofs.General.{clash}
use Rattle.standard.proofs.Faults.{Rest, Variants, kind-variant}
use Rattle.standard.proofs.Round.{Extension, all-impl, all-flat, lacks-variant}
use Rattle.standard.proofs.Arranged.{Part, Fields, Checked}
use Rattle.standard.proofs.Sound.{Raw, read-raw}
use Rattle.subtag.specs.Sections.{Plain}
use Rattle.canonical_order.specs.Section.{Longer, Each, Arrangeable, PartOk, FieldsOk, is_head, key_or_value, every_tag}
use Rattle.canonical_order.proofs.Pending.{grouped-all}
use Rattle.canonical_order.proofs.Boundary.{two_size_lem}
use Rattle.canonical.proofs.Print.{grouped-singleton}
use Rattle.reader.proofs.Bodies.{single-length as single}

longer-one : (t : Tag) → is_singleton t ≡ false → wrong_size t ≡ false → 1 < length t
unfolding is_singleton one_size size_of wrong_size wrong_length
longer-one [] e f = clash {b = true} refl f
longer-one (a ∷ []) e f = clash {b = true} refl e
longer-one (a ∷ b ∷ t) e f = omega arith

longer : (ts : List Tag) → Lacks is_singleton ts → Lacks wrong_size ts → Longer ts
unfolding All Longer
longer [] h k = tt
longer (t ∷ ts) h k = (longer-one t h.0 k.0, longer ts h.1 k.1)

-- tests of all
every_append : (p : Tag → Bool) (xs ys : List Tag) → every_tag p (xs ++ ys) ≡ true → every_tag p ys ≡ true
unfolding every_tag
every_append p [] ys e = e
every_append p (x ∷ xs) ys e = go (p x) (every_tag p (xs ++ ys)) e (every_append p xs ys)
  where
    go : (a b : Bool) → (a && b) ≡ true → (b ≡ true → every_tag p ys ≡ true) → every_tag p ys ≡ true
    go true b f i = i f
    go false b f i = clash {b = true} refl (sym f)

has-every : (p : Tag → Bool) (ts : List Tag) → Has p ts → every_tag p ts ≡ true
unfolding every_tag All
has-every p [] h = refl
has-every p (t ∷ ts) h = rw h.0 (has-every p ts h.1)

-- after subtags that lack it, only such
last-every : (p : Tag → Bool) (xs ys : List Tag) → Lacks p xs → Has p ys → every_tag p (flat (grouped p (xs ++ ys)).groups) ≡ true
last-every p xs ys h k =
    let e : (grouped p (xs ++ ys)).groups ≡ (grouped p ys).groups = ap (λ (g : Groups). g.groups) (grouped-before p xs ys h) in
    rw e (every_append p (grouped p ys).before (flat (grouped p ys).groups) (rw (← grouped-all p ys) (has-every p ys k)))

part-ok : (ts : List Tag) → Part ts → PartOk ts
unfolding Part PartOk after_first All variant_kind Variants
part-ok [] h = last-every is_variant [] [] tt tt
part-ok (l ∷ ts) h = go h.1
  where
    go : Rest ts → every_tag is_variant (flat (grouped is_variant ts).groups) ≡ true
    go r =
        let first = optional r.script ++ optional r.region in
        let e : ts ≡ first ++ r.variants = r.same ∙ sym (append_assoc (optional r.script) (optional r.region) r.variants) in
        rw e
        (last-every is_variant first r.variants
        (all_append (λ (t : Tag). is_variant t ≡ false) (optional r.script) (optional r.region) (lacks-variant a_script refl r.script r.a-script) (lacks-variant a_region refl r.region r.a-region))
        (all-impl (λ (v : Tag). kind_of v ≡ a_variant) (λ (v : Tag). is_variant v ≡ true) (λ v k. kind-variant v a_variant k) r.variants r.some-variants))

-- a field's key, or a subtag of its value
value-ok : (t : Tag) → 1 < length t → wrong_value t ≡ false → key_or_value t ≡ true
unfolding wrong_value key_or_value
value-ok t h e = rw (← two_size_lem t h) (go (is_two t) (is_field_key t) e)
  where
    go : (a b : Bool) → (a && not b) ≡ false → (not a || b) ≡ true
    go true true f = refl
    go true false f = clash {b = true} refl f
    go false b f = refl

values-ok : (ts : List Tag) → Longer ts → Lacks wrong_value ts → every_tag key_or_value ts ≡ true
unfolding Longer All every_tag
values-ok [] h k = refl
values-ok (t ∷ ts) h k = rw (value-ok t h.0 k.0) (values-ok ts h.1 k.1)

longer-parts : (xs ys : List Tag) → Longer (xs ++ ys) → Longer ys
unfolding Longer
longer-parts [] ys h = h
longer-parts (x ∷ xs) ys h = longer-parts xs ys h.1

fields-ok : (ts : List Tag) → Longer ts → Fields ts → FieldsOk ts
unfolding FieldsOk
fields-ok ts h f =
    let g = grouped is_field_key ts in
    let k = longer-parts g.before (flat g.groups) (subst (λ (x : List Tag). Longer x) (grouped-all is_field_key ts) h) in
    let v = all-flat (λ (t : Tag). wrong_value t ≡ false) g.groups (all-impl (λ (x : List Tag). (alone x ≡ false) × Lacks wrong_value x) (Lacks wrong_value) (λ x p. p.1) g.groups f.fields) in
    (part-ok g.before f.part, values-ok (flat g.groups) k v)

t-not-u : (h : Tag) → same h t_tag ≡ true → same h u_tag ≡ false
unfolding same order
t-not-u h e = ap (λ (x : Tag). same x u_tag) (same-eq h t_tag e)

headed-parts : (h : Tag) (ts : List Tag) → Headed is_singleton (h ∷ ts) → (is_singleton h ≡ true) × Lacks is_singleton ts
unfolding Headed
headed-parts h ts e = e

no-head : Headed is_singleton [] → ⊥
unfolding Headed
no-head e = e

tail-sizes : (h : Tag) (ts : List Tag) → Lacks wrong_size (h ∷ ts) → Lacks wrong_size ts
unfolding All
tail-sizes h ts e = e.1

regrouped-all : (gs : List (List Tag)) → All (Headed is_singleton) gs → grouped is_singleton (flat gs) ≡ record { before = []; groups = gs }
unfolding All
regrouped-all gs h = regroup is_singleton [] gs tt h

arrangeable : (g : List Tag) → Extension g → Checked g → Arrangeable g
unfolding Arrangeable Checked
arrangeable [] e c = no-head e.headed
arrangeable (h ∷ ts) e c = let k = headed-parts h ts e.headed in let l = longer ts k.1 (tail-sizes h ts e.sizes) in (single h k.0, l, λ t. fields-ok ts l (c.1 (t-not-u h t) t))

each : (gs : List (List Tag)) → All (λ (g : List Tag). Extension g × Checked g) gs → Each Arrangeable gs
unfolding All Each
each [] h = tt
each (g ∷ gs) h = (arrangeable g h.0.0 h.0.1, each gs h.1)

-- What was read, of an identifier without a fault.
pub raw : (x : List ℕ) → fault_of x ≡ none → Raw (identifier_of (split x))
unfolding read read_as
raw x e = read-raw x (identifier_of (split x)) (rw (e, read))

-- the extensions' groups, by heads of one byte
pub record Ready (i : Identifier) : Type 0 where
  pub groups : (grouped is_singleton (flat i.extensions)).groups ≡ i.extensions
  pub each : Each Arrangeable (grouped (is_head 1) (flat i.extensions)).groups

pub ready : (i : Identifier) → Raw i → Plain (flat i.extensions) → Ready i
ready i r p =
    let g : grouped is_singleton (flat i.extensions) ≡ record { before = []; groups = i.extensions } = regrouped-all i.extensions (all-impl (λ (x : List Tag). Extension x × Checked x) (Headed is_singleton) (λ x e. e.0.headed) i.extensions r.extensions) in
    let q : (grouped (is_head 1) (flat i.extensions)).groups ≡ i.extensions = ap (λ (x : Groups). x.groups) (sym (grouped-singleton (flat i.extensions) p) ∙ g) in
    record { groups = ap (λ (x : Groups). x.groups) g; each = rw q (each i.extensions r.extensions) }
