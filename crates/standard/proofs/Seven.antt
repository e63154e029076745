-- 01, Numbers, 7: the three ways, of the subtags that follow a singleton or a `t` key.
-- Assumes nothing.
use mathlib.Core.Path.{◌≡◌, refl, sym, ◌∙◌}
use mathlib.Core.Bool.{Bool, true, false, ◌||◌}
use mathlib.Core.List.{List, [], ◌∷◌}
use mathlib.Core.Option.{none}
use Prim.Native.Nat.{ℕ}
use Rattle.standard.specs.Tag.{Tag}
use Rattle.standard.specs.Grammar.{size_of, one_size, is_singleton, is_field_key, x_tag, with_tag, grouped}
use Rattle.standard.specs.Reading.{fault, alone, private_fault, is_x, up_to}
use Rattle.standard.proofs.General.{bool_cases}
use Rattle.standard.proofs.Tags.{same-eq}

-- followed by the end, or by a subtag that passes the test
unfoldable pub end_or : (Tag → Bool) → List Tag → Bool
end_or p [] = true
end_or p (t ∷ ts) = p t

-- a head is alone in its group where the end or a head follows it
pub alone-head : (p : Tag → Bool) (h : Tag) (ts : List Tag) → alone (h ∷ (grouped p ts).before) ≡ end_or p ts
unfolding alone end_or grouped with_tag
alone-head p h [] = refl
alone-head p h (t ∷ ts) = go (p t) refl
  where
    go : (b : Bool) → p t ≡ b → alone (h ∷ (with_tag (p t) t (grouped p ts)).before) ≡ p t
    go true e = rw e
    go false e = rw e

x-single : (t : Tag) → is_x t ≡ true → is_singleton t ≡ true
unfolding is_x is_singleton one_size size_of
x-single t e = rw (same-eq t x_tag e)

-- what the subtags before `x` say of the next one
next-before : (p : Tag → Bool) (ts : List Tag) → ((t : Tag) → is_x t ≡ true → p t ≡ true) → end_or p (up_to is_x ts) ≡ end_or p ts
unfolding end_or up_to
next-before p [] h = refl
next-before p (t ∷ ts) h = bool_cases (is_x t) (λ e. rw (e, up_to) (sym (h t e))) (λ e. rw (e, up_to))

-- what those before the next singleton say of it
next-inside : (p q : Tag → Bool) (ts : List Tag) → end_or p (grouped q ts).before ≡ end_or (λ (t : Tag). q t || p t) ts
unfolding end_or grouped with_tag
next-inside p q [] = refl
next-inside p q (t ∷ ts) = go (q t) refl
  where
    go : (b : Bool) → q t ≡ b → end_or p (with_tag (q t) t (grouped q ts)).before ≡ (q t || p t)
    go true e = rw e
    go false e = rw e

-- a singleton: the end or a one-byte subtag follows
pub singleton-alone : (s : Tag) (ts : List Tag) → alone (s ∷ (grouped is_singleton (up_to is_x ts)).before) ≡ end_or is_singleton ts
singleton-alone s ts = alone-head is_singleton s (up_to is_x ts) ∙ next-before is_singleton ts x-single

-- a `t` key: the end, a one-byte subtag or a `t` key follows
pub field-alone : (k : Tag) (ts : List Tag)
    → alone (k ∷ (grouped is_field_key (grouped is_singleton (up_to is_x ts)).before).before) ≡ end_or (λ (t : Tag). is_singleton t || is_field_key t) ts
field-alone k ts =
    alone-head is_field_key k (grouped is_singleton (up_to is_x ts)).before
    ∙ (next-inside is_field_key is_singleton (up_to is_x ts) ∙ next-before (λ (t : Tag). is_singleton t || is_field_key t) ts (λ t e. rw (x-single t e)))

-- `x`: the end follows, and nothing else is 7
pub private-alone : (at : ℕ) (x : Tag) (ts : List Tag) → private_fault at (x ∷ ts) ≡ elim ts [ [] ↦ fault 7 at | ◌∷◌ t us ↦ none ]
unfolding private_fault
private-alone at x [] = refl
private-alone at x (t ∷ ts) = refl
