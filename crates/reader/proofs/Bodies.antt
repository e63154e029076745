-- The subtags up to the next singleton, and what stands from it on, one subtag at a time. Assumes nothing.
use mathlib.Core.Path.{◌≡◌, refl, sym, ap}
use mathlib.Core.Bool.{Bool, true, false}
use mathlib.Core.List.{List, [], ◌∷◌}
use mathlib.Core.Option.{Option}
use Prim.Native.Nat.{ℕ, ◌+◌}
use native.Mathlib.Omega.{arith}
use lib.ListN.{length}
use Rattle.standard.specs.Tag.{Tag}
use Rattle.standard.specs.Grammar.{is_singleton, is_field_key, size_of, one_size, Groups, with_tag, grouped, flat}
use Rattle.standard.specs.Identifier.{parts}
use Rattle.standard.specs.Reading.{Fault, first_of, is_x, up_to, from, by_part, groups_fault, extension_fault, private_fault}
use Rattle.standard.proofs.General.{clash, bool_cases}
use Rattle.standard.proofs.Shapes.{single-not-x}

-- before the next singleton; the extensions from it on; of a `t` extension, before the next key, and the fields from it on
unfoldable pub body : List Tag → List Tag
body ts = (grouped is_singleton (up_to is_x ts)).before

unfoldable pub heads : List Tag → List (List Tag)
heads ts = (grouped is_singleton (up_to is_x ts)).groups

unfoldable pub ahead : List Tag → List Tag
ahead b = (grouped is_field_key b).before

unfoldable pub fields : List Tag → List (List Tag)
fields b = (grouped is_field_key b).groups

pub single-length : (t : Tag) → is_singleton t ≡ true → length t ≡ 1
unfolding is_singleton one_size size_of
single-length [] e = clash {b = true} refl (sym e)
single-length (a ∷ []) e = refl
single-length (a ∷ b ∷ []) e = clash {b = true} refl (sym e)
single-length (a ∷ b ∷ c ∷ []) e = clash {b = true} refl (sym e)
single-length (a ∷ b ∷ c ∷ d ∷ []) e = clash {b = true} refl (sym e)
single-length (a ∷ b ∷ c ∷ d ∷ f ∷ []) e = clash {b = true} refl (sym e)
single-length (a ∷ b ∷ c ∷ d ∷ f ∷ g ∷ []) e = clash {b = true} refl (sym e)
single-length (a ∷ b ∷ c ∷ d ∷ f ∷ g ∷ h ∷ []) e = clash {b = true} refl (sym e)
single-length (a ∷ b ∷ c ∷ d ∷ f ∷ g ∷ h ∷ i ∷ []) e = clash {b = true} refl (sym e)
single-length (a ∷ b ∷ c ∷ d ∷ f ∷ g ∷ h ∷ i ∷ j ∷ t) e = clash {b = true} refl (sym e)

groups : List Tag → Groups
groups ts = grouped is_singleton (up_to is_x ts)

-- a subtag that is no singleton
module _ (t : Tag) (ts : List Tag) (e : is_singleton t ≡ false) where
  groups-more : groups (t ∷ ts) ≡ with_tag false t (groups ts)
  unfolding groups up_to grouped
  groups-more = rw (single-not-x t e, up_to) (ap (λ (b : Bool). with_tag b t (grouped is_singleton (up_to is_x ts))) e)

  pub body_more : body (t ∷ ts) ≡ t ∷ body ts
  unfolding body groups with_tag
  body_more = ap (λ (g : Groups). g.before) groups-more

  pub heads-more : heads (t ∷ ts) ≡ heads ts
  unfolding heads groups with_tag
  heads-more = ap (λ (g : Groups). g.groups) groups-more

  pub from_more : from is_x (t ∷ ts) ≡ from is_x ts
  unfolding from
  from_more = rw (single-not-x t e, from)

-- a singleton other than `x`, and `x`
module _ (t : Tag) (ts : List Tag) (e : is_singleton t ≡ true) (f : is_x t ≡ false) where
  groups-head : groups (t ∷ ts) ≡ with_tag true t (groups ts)
  unfolding groups up_to grouped
  groups-head = rw (f, up_to) (ap (λ (b : Bool). with_tag b t (grouped is_singleton (up_to is_x ts))) e)

  pub body-head : body (t ∷ ts) ≡ []
  unfolding body groups with_tag
  body-head = ap (λ (g : Groups). g.before) groups-head

  pub heads-head : heads (t ∷ ts) ≡ (t ∷ body ts) ∷ heads ts
  unfolding heads body groups with_tag
  heads-head = ap (λ (g : Groups). g.groups) groups-head

  pub from-head : from is_x (t ∷ ts) ≡ from is_x ts
  unfolding from
  from-head = rw (f, from)

module _ (t : Tag) (ts : List Tag) (f : is_x t ≡ true) where
  up_to-x : up_to is_x (t ∷ ts) ≡ []
  unfolding up_to
  up_to-x = rw (f, up_to)

  pub body-x : body (t ∷ ts) ≡ []
  unfolding body grouped
  body-x = ap (λ (us : List Tag). (grouped is_singleton us).before) up_to-x

  pub heads-x : heads (t ∷ ts) ≡ []
  unfolding heads grouped
  heads-x = ap (λ (us : List Tag). (grouped is_singleton us).groups) up_to-x

  pub from-x : from is_x (t ∷ ts) ≡ t ∷ ts
  unfolding from
  from-x = rw (f, from)

pub body-single : (t : Tag) (ts : List Tag) → is_singleton t ≡ true → body (t ∷ ts) ≡ []
body-single t ts e = bool_cases (is_x t) (body-x t ts) (body-head t ts e)

-- fields
module _ (t : Tag) (b : List Tag) where
  fields-step : (k : Bool) → is_field_key t ≡ k → grouped is_field_key (t ∷ b) ≡ with_tag k t (grouped is_field_key b)
  unfolding grouped
  fields-step k e = ap (λ (h : Bool). with_tag h t (grouped is_field_key b)) e

  pub ahead_more : is_field_key t ≡ false → ahead (t ∷ b) ≡ t ∷ ahead b
  unfolding ahead with_tag
  ahead_more e = ap (λ (g : Groups). g.before) (fields-step false e)

  pub fields-more : is_field_key t ≡ false → fields (t ∷ b) ≡ fields b
  unfolding fields with_tag
  fields-more e = ap (λ (g : Groups). g.groups) (fields-step false e)

  pub ahead-key : is_field_key t ≡ true → ahead (t ∷ b) ≡ []
  unfolding ahead with_tag
  ahead-key e = ap (λ (g : Groups). g.before) (fields-step true e)

  pub fields-key : is_field_key t ≡ true → fields (t ∷ b) ≡ (t ∷ ahead b) ∷ fields b
  unfolding ahead fields with_tag
  fields-key e = ap (λ (g : Groups). g.groups) (fields-step true e)

-- What the standard says of the extensions that begin at `at`, after the singletons seen.
unfoldable pub behind : List Tag → ℕ → List Tag → Option Fault
behind seen at ts = first_of (groups_fault (extension_fault by_part.extension) seen at (heads ts)) (private_fault (at + parts (flat (heads ts))) (from is_x ts))

pub behind_more : (seen : List Tag) (at : ℕ) (t : Tag) (ts : List Tag) → is_singleton t ≡ false → behind seen at (t ∷ ts) ≡ behind seen at ts
unfolding behind
behind_more seen at t ts e = rw (heads-more t ts e, from_more t ts e)

pub behind-x : (seen : List Tag) (at : ℕ) (t : Tag) (ts : List Tag) → is_x t ≡ true → behind seen at (t ∷ ts) ≡ private_fault at (t ∷ ts)
unfolding behind groups_fault first_of flat parts
behind-x seen at t ts e = let z : at + 0 ≡ at = omega arith in rw (heads-x t ts e, from-x t ts e) (ap (λ (n : ℕ). private_fault n (t ∷ ts)) z)
