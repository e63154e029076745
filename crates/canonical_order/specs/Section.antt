-- Sections: subtags, each with its separator before it; the numbers of subtags; groups in ascending order.
-- Assumes nothing.
use Rattle.std.specs.Prelude.{◌≡◌, Bool, true, false, cond, not, ◌&&◌, ◌||◌, List, [], ◌∷◌, map, ℕ, ◌+◌, ◌<◌, leb, ltb, eqb, length, drop}
use Rattle.standard.specs.Tag.{Tag, same, sort_by, head_tag}
use Rattle.standard.specs.Grammar.{grouped, flat, drop_true, t_tag, arrange, variant_kind, is_field_key, is_variant}
use Rattle.standard.specs.Reading.{split, after_first}
use Rattle.subtag.specs.declared.Subtag.{Subtag}
use Rattle.subtag.specs.Subtags.{subtag_of}
use Rattle.canonical_order.specs.declared.choice.Head.{Head}
use Rattle.subtag.specs.Kinds.{kind_from}
use Rattle.subtag.specs.Sections.{tags_of, led}

-- each of two bytes or more
unfoldable pub Longer : List Tag → Type 0
Longer [] = Unit {0}
Longer (t ∷ ts) = (1 < length t) × Longer ts

-- of each group
unfoldable pub Each : (List Tag → Type 0) → List (List Tag) → Type 0
Each P [] = Unit {0}
Each P (g ∷ gs) = P g × Each P gs

-- A head: a subtag of at most so many bytes.
unfoldable pub is_head : ℕ → Tag → Bool
is_head width t = leb (length t) width

-- The least head above last, of subtags of which the first has its separator at the place at.
unfoldable pub better_of : ℕ → ℕ → ℕ → Subtag → Head → Head
better_of width last at t best =
    cond (leb t.len width) (cond (ltb last t.key) (cond (ltb t.key best.key) (record { at = at; next = at + 1 + t.len; key = t.key }) best) best) best

unfoldable pub no_head : ℕ → Head
no_head n = record { at = n; next = n; key = 18446744073709551615 }

unfoldable pub pick_from : ℕ → ℕ → ℕ → Head → List Tag → Head
pick_from width last at best [] = best
pick_from width last at best (t ∷ ts) = pick_from width last (at + 1 + length t) (better_of width last at (subtag_of t) best) ts

-- where the next head stands
unfoldable pub end_from : ℕ → ℕ → List Tag → ℕ
end_from width at [] = at
end_from width at (t ∷ ts) = cond (is_head width t) at (end_from width (at + 1 + length t) ts)

-- the end of a group whose head ends at next, without a type that is exactly `true`
unfoldable pub end_without : Subtag → ℕ → ℕ → ℕ
end_without t next end = cond (eqb (next + 1 + t.len) end) (cond (eqb t.key 8390898132396802048) next end) end

unfoldable pub trimmed_end : Bool → List ℕ → ℕ → ℕ → ℕ
trimmed_end trim s next end = cond trim (cond (leb end next) end (end_without (subtag_of (head_tag (split (drop (next + 1) s)))) next end)) end

unfoldable pub trimmed : Bool → List Tag → List Tag
trimmed true g = drop_true g
trimmed false g = g

-- the groups of a section, sorted, and in `u` without a type that is `true`
unfoldable pub sorted_tags : ℕ → Bool → List ℕ → List Tag
sorted_tags width trim s = flat (sort_by head_tag (map (trimmed trim) (grouped (is_head width) (tags_of s)).groups))

unfoldable pub sorted_bytes : ℕ → Bool → List ℕ → List ℕ
sorted_bytes width trim s = led (sorted_tags width trim s)

-- the extensions of a section, arranged
unfoldable pub arranged_tags : List ℕ → List Tag
arranged_tags s = flat (arrange (grouped (is_head 1) (tags_of s)).groups)

-- a variant, by what the code keeps of a subtag
unfoldable pub of_variant : Subtag → Bool
of_variant t = variant_kind (kind_from t)

-- where the first subtag stands that passes the test
unfoldable pub place_of : (Subtag → Bool) → ℕ → List Tag → ℕ
place_of p at [] = at
place_of p at (t ∷ ts) = cond (p (subtag_of t)) at (place_of p (at + 1 + length t) ts)

-- What an accepted language part and accepted fields have: after the first variant only variants; after the first field
-- no other subtag of two bytes.
unfoldable pub every_tag : (Tag → Bool) → List Tag → Bool
every_tag p [] = true
every_tag p (t ∷ ts) = p t && every_tag p ts

unfoldable pub PartOk : List Tag → Type 0
PartOk ts = every_tag is_variant (flat (grouped is_variant (after_first ts)).groups) ≡ true

unfoldable pub key_or_value : Tag → Bool
key_or_value t = not (is_head 2 t) || is_field_key t

unfoldable pub FieldsOk : List Tag → Type 0
FieldsOk ts = PartOk (grouped is_field_key ts).before × (every_tag key_or_value (flat (grouped is_field_key ts).groups) ≡ true)

-- what an accepted extension has: a singleton, subtags of two bytes or more, and in `t` the order above
unfoldable pub Arrangeable : List Tag → Type 0
Arrangeable [] = ⊥
Arrangeable (h ∷ ts) = (length h ≡ 1) × Longer ts × (same h t_tag ≡ true → FieldsOk ts)
