-- Rows that do not clash, by the keys of the aliases.
-- Assumes nothing.
use mathlib.Core.Path.{◌≡◌, refl, sym, ap, ap₂, ◌∙◌}
use mathlib.Core.Bool.{Bool, true, false, not, ◌&&◌}
use mathlib.Core.Logic.{◌⊎◌, inl, inr, ⊎_elim}
use mathlib.Core.List.{List, [], ◌∷◌, ◌++◌, head-eq_of_cons-eq, tail-eq_of_cons-eq}
use mathlib.Core.Option.{Option, none, some}
use Prim.Native.Nat.{ℕ, ◌+◌, ◌-◌, ◌≤◌, ◌<◌}
use native.Mathlib.Omega.{arith}
use lib.ListN.{length, take, drop, length-drop}
use lib.Seq.{take_all}
use Rattle.standard.specs.Tag.{Tag, order, same}
use Rattle.standard.specs.Grammar.{is_language}
use Rattle.standard.specs.Identifier.{Three as Subtags, three, und}
use Rattle.standard.specs.Table.{Found as Located, pieces, lookup, rows, located, parse, is_three, language_is_und, language_key, script_key, region_key, variant_key, parsed, tables_of, is_variant_tag, alias_shape, is_none, unaliased, alias_free}
use Rattle.standard.proofs.Tags.{same-eq}
use Rattle.standard.proofs.General.{bool_cases, clash, and-true, le-or-lt, no}
use Rattle.byte_string.specs.Strings.{end_of}
use Rattle.table.specs.Lines.{value_if}
use Rattle.byte_string.proofs.Ends.{ends}
use Rattle.table.proofs.Lines.{lookup-located}
use Rattle.std.specs.Prelude.{Option as Perhaps, Some}
use Rattle.row_shapes.specs.declared.lsr.Three.{Three}
use Rattle.row_shapes.specs.declared.aliases.AliasKind.{AliasKind}
use Rattle.row_shapes.specs.declared.aliases.AliasKind.TheVariants.{Language, Script, Region, Variant}
use Rattle.row_shapes.specs.Shapes.{is_script, is_region, between, others, ThreeAt}
use Rattle.row_shapes.specs.Rows.{language_name, script_name, region_name, variant_name, kind_named, language_alias, shape_by}
use Rattle.row_shapes.proofs.Tags.{language-long, script-length, region-sizes, variant-long}
use Rattle.byte_string.proofs.Stores.{all_from}
use Rattle.row_shapes.proofs.Pieces.{pieces-first, others-at, others-none}
use Rattle.row_shapes.proofs.Threes.{ThreeOk, three-ok, parse-pieces}
use Rattle.row_shapes.proofs.Tests.{alias-by}
use Rattle.aliases.specs.Keys.{kind_key, is_key}
use Rattle.table_check.specs.Free.{free_three, own_tag, own_free, free_alias}

-- Keys that are not there.
none-parsed : (o : Option (List ℕ)) → is_none (parsed o) ≡ is_none o
unfolding is_none parsed
none-parsed none = refl
none-parsed (some v) = refl

none-value : (t : List ℕ) (f : Located) → is_none (value_if t f) ≡ not f.found
unfolding is_none
none-value t f = go f.found refl
  where
    go : (b : Bool) → f.found ≡ b → is_none (value_if t f) ≡ not b
    go true e = rw e
    go false e = rw e

no_row : (t key : List ℕ) → is_none (lookup (rows t) key) ≡ not (located t key).found
no_row t key = ap is_none (lookup-located t key) ∙ none-value t (located t key)

and_right : (b : Bool) → (b && true) ≡ b
and_right true = refl
and_right false = refl

unknown : (key value kind : Tag) → same kind language_name ≡ false → same kind script_name ≡ false → same kind region_name ≡ false → same kind variant_name ≡ false → shape_by (kind_named kind) key value ≡ false
unfolding kind_named shape_by
unknown key value kind a b c d = rw (a, b, c, d)

module _ (A L P : List ℕ) where
  no-language : (t : Tag) → is_none ((tables_of A L P).languages t) ≡ not (is_key A Language t)
  unfolding tables_of is_key kind_key
  no-language t = none-parsed (lookup (rows A) (language_key ++ t)) ∙ no_row A (language_key ++ t)

  no-script : (t : Tag) → is_none ((tables_of A L P).scripts t) ≡ not (is_key A Script t)
  unfolding tables_of is_key kind_key
  no-script t = no_row A (script_key ++ t)

  no-region : (t : Tag) → is_none ((tables_of A L P).regions t) ≡ not (is_key A Region t)
  unfolding tables_of is_key kind_key
  no-region t = no_row A (region_key ++ t)

  no_variant : (t : Tag) → is_none ((tables_of A L P).variants t) ≡ not (is_key A Variant t)
  unfolding tables_of is_key kind_key
  no_variant t = no_row A (variant_key ++ t)

  pub free-three : (t : Subtags) → unaliased (tables_of A L P) t ≡ free_three A t
  unfolding unaliased free_three
  free-three t = rw (no-language t.language, no-script t.script, no-region t.region)

  alias-language : (key value : Tag) → alias_free (tables_of A L P) (language_name ∷ key ∷ value ∷ []) ≡ free_alias A (language_name ∷ key ∷ value ∷ [])
  unfolding alias_free free_alias kind_named own_free own_tag same order
  alias-language key value = and_right (is_none ((tables_of A L P).languages (parse value).language)) ∙ no-language (parse value).language

  alias-script : (key value : Tag) → alias_free (tables_of A L P) (script_name ∷ key ∷ value ∷ []) ≡ free_alias A (script_name ∷ key ∷ value ∷ [])
  unfolding alias_free free_alias kind_named own_free own_tag same order
  alias-script key value = and_right (is_none ((tables_of A L P).scripts value)) ∙ no-script value

  alias-region : (key value : Tag) → alias_free (tables_of A L P) (region_name ∷ key ∷ value ∷ []) ≡ free_alias A (region_name ∷ key ∷ value ∷ [])
  unfolding alias_free free_alias kind_named own_free own_tag same order
  alias-region key value = and_right (is_none ((tables_of A L P).regions value)) ∙ no-region value

  alias-variant : (key value : Tag) → alias_free (tables_of A L P) (variant_name ∷ key ∷ value ∷ []) ≡ free_alias A (variant_name ∷ key ∷ value ∷ [])
  unfolding alias_free free_alias kind_named own_free own_tag same order
  alias-variant key value = no_variant value

  -- an alias row that has its shape
  pub free-alias : (ts : List Tag) → alias_shape ts ≡ true → alias_free (tables_of A L P) ts ≡ free_alias A ts
  unfolding alias_shape
  free-alias [] e = no e
  free-alias (a ∷ []) e = no e
  free-alias (a ∷ b ∷ []) e = no e
  free-alias (kind ∷ key ∷ value ∷ []) e = go (rw (alias-by key value kind) at e)
    where
      at : (name : Tag) → same kind name ≡ true → alias_free (tables_of A L P) (name ∷ key ∷ value ∷ []) ≡ free_alias A (name ∷ key ∷ value ∷ [])
          → alias_free (tables_of A L P) (kind ∷ key ∷ value ∷ []) ≡ free_alias A (kind ∷ key ∷ value ∷ [])
      at name f g = let z = same-eq kind name f in ap (λ (x : Tag). alias_free (tables_of A L P) (x ∷ key ∷ value ∷ [])) z ∙ g ∙ ap (λ (x : Tag). free_alias A (x ∷ key ∷ value ∷ [])) (sym z)

      go : shape_by (kind_named kind) key value ≡ true → alias_free (tables_of A L P) (kind ∷ key ∷ value ∷ []) ≡ free_alias A (kind ∷ key ∷ value ∷ [])
      go f =
          bool_cases (same kind language_name) (λ a. at language_name a (alias-language key value))
          (λ a. bool_cases (same kind script_name) (λ b. at script_name b (alias-script key value))
          (λ b. bool_cases (same kind region_name) (λ c. at region_name c (alias-region key value))
          (λ c. bool_cases (same kind variant_name) (λ d. at variant_name d (alias-variant key value)) (λ d. no (sym (unknown key value kind a b c d) ∙ f)))))
  free-alias (a ∷ b ∷ c ∷ d ∷ ts) e = no e

-- Subtags that may be asked for.
language-small : (t : Tag) → is_language t ≡ true → length t ≤ 16
language-small t e = ⊎_elim (λ h. omega arith) (λ h. clash e (sym (language-long t h))) (le-or-lt (length t) 8)

script-small : (t : Tag) → (t ≡ []) ⊎ (is_script t ≡ true) → length t ≤ 16
script-small t (inl e) = rw e (omega arith)
script-small t (inr e) = let n = script-length t e in omega arith

region-small : (t : Tag) → (t ≡ []) ⊎ (is_region t ≡ true) → length t ≤ 16
region-small t (inl e) = rw e (omega arith)
region-small t (inr e) = ⊎_elim (λ n. omega arith) (λ n. omega arith) (region-sizes t e)

variant-small : (t : Tag) → is_variant_tag t ≡ true → length t ≤ 16
variant-small t e = ⊎_elim (λ h. omega arith) (λ h. clash e (sym (variant-long t h))) (le-or-lt (length t) 8)

-- the parts of a value
module _ (s : List ℕ) (r : Three) (t : ThreeAt s r) where
  ok : ThreeOk (three (take r.language s) (between s r.language r.script) (drop (r.script + 1) s))
  ok = rw t.parts at (three-ok s t.is)

  pub language-short : length (take r.language s) ≤ 16
  language-short = language-small (take r.language s) ok.language

  pub script-short : length (between s r.language r.script) ≤ 16
  script-short = script-small (between s r.language r.script) ok.script

  pub region-short : length (between s r.script (length s)) ≤ 16
  region-short = rw (all_from (r.script + 1) s) (region-small (drop (r.script + 1) s) ok.region)

  pub language-clash : (A : List ℕ) → is_key A Language (take r.language s) ≡ true → false ≡ free_three A (parse s)
  unfolding free_three
  language-clash A k = sym (ap (free_three A) t.parts ∙ rw k)

  pub script-clash : (A : List ℕ) → is_key A Language (take r.language s) ≡ false → is_key A Script (between s r.language r.script) ≡ true → false ≡ free_three A (parse s)
  unfolding free_three
  script-clash A k l = sym (ap (free_three A) t.parts ∙ rw (k, l))

  pub region-clash : (A : List ℕ) (b : Bool) → is_key A Language (take r.language s) ≡ false → is_key A Script (between s r.language r.script) ≡ false → b ≡ is_key A Region (between s r.script (length s)) → not b ≡ free_three A (parse s)
  unfolding free_three
  region-clash A b k l m = sym (ap (free_three A) t.parts ∙ rw (k, l) (ap (λ (x : Tag). not (is_key A Region x)) (sym (all_from (r.script + 1) s)) ∙ ap not (sym m)))

-- the own subtag
pub own-language : (v : List ℕ) (l : ℕ) → l ≡ end_of 45 v 0 → take l v ≡ (parse v).language
own-language v l q = sym (ap (λ (t : Subtags). t.language) (parse-pieces v (take l v) (others 45 v l) (pieces-first 45 v l q)))

pub own_is : {k : AliasKind} (l : AliasKind) (v r : Tag) → k ≡ l → r ≡ own_tag l v → r ≡ own_tag k v
own_is l v r e f = f ∙ ap (λ (x : AliasKind). own_tag x v) (sym e)

pub own-whole : (k : AliasKind) (v : Tag) → (k ≡ Script) ⊎ ((k ≡ Region) ⊎ (k ≡ Variant)) → v ≡ own_tag k v
unfolding own_tag
own-whole k v (inl e) = rw e
own-whole k v (inr (inl e)) = rw e
own-whole k v (inr (inr e)) = rw e

own-short : (k : AliasKind) (key v : Tag) → shape_by (Some k) key v ≡ true → length (own_tag k v) ≤ 16
unfolding shape_by language_alias own_tag
own-short Language key v e =
    let h = and-true (is_language key && not (same key und)) (is_three v && not (language_is_und (parse v))) e in
    let i = and-true (is_three v) (not (language_is_und (parse v))) h.1 in
    let o = three-ok v i.0 in
    language-small (parse v).language o.language
own-short Script key v e = script-small v (inr (and-true (is_script key) (is_script v) e).1)
own-short Region key v e = region-small v (inr (and-true (is_region key) (is_region v) e).1)
own-short Variant key v e = variant-small v (and-true (is_variant_tag key) (is_variant_tag v) e).1

-- the fields of an alias row, by its tabs
pub record AliasLine (A l : List ℕ) (x y : ℕ) : Type 0 where
  pub first : x < length l
  pub second : y < length l
  pub low : x + 1 ≤ y
  pub short : (k : AliasKind) → kind_named (take x l) ≡ Some k → length (own_tag k (drop (y + 1) l)) ≤ 16
  pub free : free_alias A (pieces 9 l) ≡ own_free A (kind_named (take x l)) (drop (y + 1) l)

pub others-some : (b : ℕ) (l : List ℕ) (e : ℕ) (t : Tag) (ts : List Tag) → others b l e ≡ t ∷ ts → e < length l
others-some b l e t ts q = ⊎_elim (λ h. let z : t ∷ ts ≡ [] = sym q ∙ others-none b l e h in let n = ap length z in absurd (omega arith)) (λ h. h) (le-or-lt (length l) e)

pub last-piece : (b : ℕ) (l : List ℕ) (e : ℕ) (t : Tag) → others b l e ≡ t ∷ [] → t ≡ drop (e + 1) l
last-piece b l e t q =
    let h = others-some b l e t [] q in
    let f = end_of b l (e + 1) in
    let o = sym (others-at b l e f h refl) ∙ q in
    let d = ends b l (e + 1) f refl (omega arith) in
    sym (head-eq_of_cons-eq o) ∙ ⊎_elim (λ (g : length l ≤ f). take_all (f - (e + 1)) (drop (e + 1) l) (simp length-drop (omega arith)))
    (λ g. let n = ap length (sym (tail-eq_of_cons-eq o) ∙ others-at b l f (end_of b l (f + 1)) g refl) in absurd (omega arith)) (le-or-lt (length l) f)

alias-tags : (A l : List ℕ) (x y : ℕ) → x ≡ end_of 9 l 0 → y ≡ end_of 9 l (x + 1) → (a k v : Tag) → pieces 9 l ≡ a ∷ k ∷ v ∷ [] → shape_by (kind_named a) k v ≡ true → AliasLine A l x y
unfolding free_alias
alias-tags A l x y q r a k v e s =
    let p = sym (pieces-first 9 l x q) ∙ e in
    let h = others-some 9 l x k (v ∷ []) (tail-eq_of_cons-eq p) in
    let o = sym (others-at 9 l x y h r) ∙ tail-eq_of_cons-eq p in
    let g = others-some 9 l y v [] (tail-eq_of_cons-eq o) in
    let d = ends 9 l (x + 1) y r (omega arith) in
    let u = last-piece 9 l y v (tail-eq_of_cons-eq o) in
    let w : a ≡ take x l = sym (head-eq_of_cons-eq p) in
    record {
      first = h;
      second = g;
      low = d.low;
      short = λ i n. rw (← u) (own-short i k v (ap (λ (z : Perhaps AliasKind). shape_by z k v) (sym n ∙ ap kind_named (sym w)) ∙ s));
      free = ap (free_alias A) e ∙ ap₂ (λ (b c : Tag). own_free A (kind_named b) c) w u;
    }

pub alias-line : (A l : List ℕ) (x y : ℕ) → x ≡ end_of 9 l 0 → y ≡ end_of 9 l (x + 1) → alias_shape (pieces 9 l) ≡ true → AliasLine A l x y
unfolding alias_shape
alias-line A l x y q r s = go (pieces 9 l) refl s
  where
    go : (ts : List Tag) → pieces 9 l ≡ ts → alias_shape ts ≡ true → AliasLine A l x y
    go [] e f = no f
    go (a ∷ []) e f = no f
    go (a ∷ b ∷ []) e f = no f
    go (a ∷ k ∷ v ∷ []) e f = alias-tags A l x y q r a k v e (sym (alias-by k v a) ∙ f)
    go (a ∷ b ∷ c ∷ d ∷ ts) e f = no f
