-- Rows by their fields.
-- Assumes nothing.
use mathlib.Core.Path.{◌≡◌, refl, sym, ap, ap₂, ◌∙◌}
use mathlib.Core.Bool.{Bool, true, false, cond, not, ◌&&◌, or-false}
use mathlib.Core.List.{List, [], ◌∷◌, ◌++◌, head-eq_of_cons-eq, tail-eq_of_cons-eq}
use Prim.Native.Nat.{ℕ, ◌+◌}
use native.Mathlib.Omega.{arith}
use lib.ListN.{length, take, drop, length-append}
use Rattle.standard.specs.Tag.{Tag, order, same, present}
use Rattle.standard.specs.Grammar.{is_language}
use Rattle.standard.specs.Identifier.{Three as Subtags, three, und, zzzz, zz, complete, without, without_unknown, same_three}
use Rattle.standard.specs.Table.{parse, language_is_und, alias_shape}
use Rattle.standard.proofs.Tags.{same-eq, same_refl}
use Rattle.standard.proofs.General.{bool_cases, both_ways, no}
use Rattle.std.specs.Prelude.{Some, None}
use Rattle.row_shapes.specs.declared.lsr.Three.{Three}
use Rattle.row_shapes.specs.declared.aliases.AliasKind.TheVariants.{Language, Script, Region, Variant}
use Rattle.row_shapes.specs.Shapes.{is_script, is_region, between, ThreeAt}
use Rattle.row_shapes.specs.Rows.{is_known, known_parts, language_name, script_name, region_name, variant_name, kind_named, language_alias, shape_by}

-- A known value, by its parts.
known-one : (z t : Tag) → present t ≡ true → same (without z t) t ≡ not (same t z)
unfolding without present same order
known-one z [] e = no e
known-one z (b ∷ bs) e = bool_cases (same (b ∷ bs) z) (λ f. rw f) (λ f. rw f (same_refl (b ∷ bs)))

known-tests : (l s r : Tag) → (complete (three l s r) && same_three (without_unknown (three l s r)) (three l s r)) ≡ known_parts l s r
unfolding complete same_three without_unknown known_parts
known-tests l s r =
    bool_cases (present s)
    (λ p. bool_cases (present r) (λ q. rw (p, q, same_refl l, known-one zzzz s p, known-one zz r q) (tests (same l und) (same s zzzz) (same r zz))) (λ q. rw (p, q) (none_of (not (same l und)))))
    (λ p. rw p (none_of (not (same l und))))
  where
    none_of : (a : Bool) → ((a && false) && (same l l && (same (without zzzz s) s && same (without zz r) r))) ≡ false
    none_of true = refl
    none_of false = refl

    tests : (a b c : Bool) → ((not a && (true && true)) && (true && (not b && not c))) ≡ cond true (cond true (cond a false (cond b false (not c))) false) false
    tests true b c = refl
    tests false true c = refl
    tests false false c = refl

module _ (s : List ℕ) (r : Three) (t : ThreeAt s r) where
  pub known_is : known_parts (take r.language s) (between s r.language r.script) (drop (r.script + 1) s) ≡ is_known s
  unfolding is_known
  known_is = sym (rw (t.is, t.parts) (known-tests (take r.language s) (between s r.language r.script) (drop (r.script + 1) s)))

-- Aliases: by the kind that is named.
cancel : (x y : Tag) → x ++ (9 ∷ []) ≡ y ++ (9 ∷ []) → x ≡ y
cancel [] [] e = refl
cancel [] (y ∷ ys) e = let n = simp length-append at (ap length e) in absurd (omega arith)
cancel (x ∷ xs) [] e = let n = simp length-append at (ap length e) in absurd (omega arith)
cancel (x ∷ xs) (y ∷ ys) e = ap₂ ◌∷◌ (head-eq_of_cons-eq e) (cancel xs ys (tail-eq_of_cons-eq e))

named : (kind name : Tag) → same (kind ++ (9 ∷ [])) (name ++ (9 ∷ [])) ≡ same kind name
named kind name = both_ways (same (kind ++ (9 ∷ [])) (name ++ (9 ∷ []))) (same kind name)
    (λ e. ap (λ (x : Tag). same x name) (cancel kind name (same-eq (kind ++ (9 ∷ [])) (name ++ (9 ∷ [])) e)) ∙ same_refl name)
    (λ e. ap (λ (x : Tag). same (x ++ (9 ∷ [])) (name ++ (9 ∷ []))) (same-eq kind name e) ∙ same_refl (name ++ (9 ∷ [])))

module _ (key value : Tag) where
  shape-language : alias_shape (language_name ∷ key ∷ value ∷ []) ≡ shape_by (Some Language) key value
  unfolding alias_shape shape_by language_alias same order
  shape-language = or-false _

  shape-script : alias_shape (script_name ∷ key ∷ value ∷ []) ≡ shape_by (Some Script) key value
  unfolding alias_shape shape_by same order is_script
  shape-script = or-false _

  shape-region : alias_shape (region_name ∷ key ∷ value ∷ []) ≡ shape_by (Some Region) key value
  unfolding alias_shape shape_by same order is_region
  shape-region = or-false _

  shape-variant : alias_shape (variant_name ∷ key ∷ value ∷ []) ≡ shape_by (Some Variant) key value
  unfolding alias_shape shape_by same order
  shape-variant = refl

  shape-unknown : (kind : Tag) → same kind language_name ≡ false → same kind script_name ≡ false → same kind region_name ≡ false → same kind variant_name ≡ false
      → alias_shape (kind ∷ key ∷ value ∷ []) ≡ shape_by None key value
  unfolding alias_shape shape_by
  shape-unknown kind a b c d = rw (named kind language_name ∙ a, named kind script_name ∙ b, named kind region_name ∙ c, named kind variant_name ∙ d)

  pub alias-by : (kind : Tag) → alias_shape (kind ∷ key ∷ value ∷ []) ≡ shape_by (kind_named kind) key value
  unfolding kind_named
  alias-by kind =
      bool_cases (same kind language_name) (λ a. rw a (ap (λ (k : Tag). alias_shape (k ∷ key ∷ value ∷ [])) (same-eq kind language_name a) ∙ shape-language))
      (λ a. bool_cases (same kind script_name) (λ b. rw (a, b) (ap (λ (k : Tag). alias_shape (k ∷ key ∷ value ∷ [])) (same-eq kind script_name b) ∙ shape-script))
      (λ b. bool_cases (same kind region_name) (λ c. rw (a, b, c) (ap (λ (k : Tag). alias_shape (k ∷ key ∷ value ∷ [])) (same-eq kind region_name c) ∙ shape-region))
      (λ c. bool_cases (same kind variant_name) (λ d. rw (a, b, c, d) (ap (λ (k : Tag). alias_shape (k ∷ key ∷ value ∷ [])) (same-eq kind variant_name d) ∙ shape-variant))
      (λ d. rw (a, b, c, d) (shape-unknown kind a b c d)))))

-- the value of a language alias
pub und-language : (s : List ℕ) (r : Three) → ThreeAt s r → language_is_und (parse s) ≡ same (take r.language s) und
unfolding language_is_und
und-language s r t = ap (λ (x : Subtags). same x.language und) t.parts

-- a language alias
module _ (key value : Tag) (e : is_language key ≡ true) (f : same key und ≡ false) where
  pub alias-three : (r : Three) → ThreeAt value r → (b : Bool) → b ≡ same (take r.language value) und → not b ≡ language_alias key value
  unfolding language_alias
  alias-three r t b h = rw (e, f, t.is, und-language value r t, h)
