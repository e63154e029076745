-- An identifier without a fault: its subtags in their places in the input, and its language, script and region.
-- Assumes nothing.
use mathlib.Core.Path.{◌≡◌, refl, sym, ap, ◌∙◌, subst}
use mathlib.Core.Bool.{Bool, true, false}
use mathlib.Core.List.{List, [], ◌∷◌, ◌++◌, append_assoc}
use mathlib.Core.Logic.{⊎_elim}
use mathlib.Core.Option.{none, some-ne-none}
use Prim.Native.Nat.{ℕ, suc, ◌+◌, ◌≤◌, ◌<◌}
use native.Mathlib.Omega.{arith}
use lib.ListN.{length, drop, length-drop, length-append}
use lib.Seq.{drop-drop}
use Rattle.standard.specs.Tag.{Tag, same, head_tag, All}
use Rattle.standard.specs.Grammar.{Kind, a_script, a_region, a_variant, a_none, kind_of, is_language, is_variant, is_singleton, flat, only}
use Rattle.standard.specs.Identifier.{part, parts}
use Rattle.standard.specs.Reading.{no_bytes, too_long, unclean, bad_tag, wrong_size, optional, split, root, start, by_part, part_fault, no_language, is_x, up_to, from, grammar_fault, fault_by, fault_of, find, core_of, after_first, identifier_of}
use Rattle.standard.proofs.General.{bool_cases, le-or-lt}
use Rattle.standard.proofs.Faults.{none-bad_tag, after-root}
use Rattle.standard.proofs.Arranged.{first_of-none}
use Rattle.standard.proofs.Numbering.{front}
use Rattle.subtag.specs.Subtags.{PlainTag}
use Rattle.subtag.proofs.Keys.{split-words}
use Rattle.subtag.proofs.Walk.{split-next, split-end}
use borrow.Author.Tests.{lt-ltb, le-ltb}
use Rattle.reader.specs.declared.Parts.{Parts}
use Rattle.reader.specs.Cuts.{language_cut, cuts_after, cuts_of}
use Rattle.reader.specs.Parts.{start_of, parts_of}
use Rattle.subtag.specs.Bytes.{cased}
use Rattle.subtag.proofs.Cased.{cased-nil}
use Rattle.reader.specs.Words.{later_word, LaterFits}
use Rattle.reader.proofs.Bodies.{body, heads}
use Rattle.reader.proofs.Walked.{grouped-flat}
use Rattle.reader.proofs.Stages.{Others, Region, after-language, after-script, region-left}
use Rattle.reader.proofs.Stepping.{Fine}
use Rattle.reader.proofs.Outcomes.{fine, too_long_lem}

-- A subtag at a place.
pub record Place (x : List ℕ) (at : ℕ) (t : Tag) : Type 0 where
  pub is : head_tag (split (drop at x)) ≡ t
  pub short : length t ≤ 8
  pub fits : at ≤ length x

pub all-at : (u : List Tag) (t : Tag) (v : List Tag) → All Fine (u ++ (t ∷ v)) → Fine t
unfolding All
all-at [] t v a = a.0
all-at (w ∷ u) t v a = all-at u t v a.1

-- more than one subtag is longer than the first
longer : (x : List ℕ) (w : Tag) (us : List Tag) (t : Tag) (v : List Tag) → split x ≡ w ∷ (us ++ (t ∷ v)) → length w < length x
unfolding head_tag
longer x w us t v e =
    ⊎_elim (λ h. let f = ap length (split-end x (rw (ap head_tag e) h)) in let g = ap length e in absurd (omega (arith, length-append us (t ∷ v)))) (λ h. h) (le-or-lt (length x) (length w))

tail-is : (w w' : Tag) (us vs : List Tag) → w ∷ us ≡ w' ∷ vs → us ≡ vs
tail-is w w' us vs e = cc

pub place-from : (u : List Tag) (t : Tag) (v : List Tag) (x : List ℕ) → split x ≡ u ++ (t ∷ v) → length t ≤ 8 → Place x (parts u) t
unfolding parts head_tag
place-from [] t v x e h = record { is = ap head_tag e; short = h; fits = omega arith }
place-from (w ∷ u) t v x e h =
    let l : head_tag (split x) ≡ w = ap head_tag e in
    let n = longer x w u t v e in
    let f = split-next x (rw l n) in
    let y : split (drop (suc (length w)) x) ≡ u ++ (t ∷ v) = rw l at (tail-is _ _ _ _ (sym f ∙ e)) in
    let p = place-from u t v (drop (suc (length w)) x) y h in
    let d = drop-drop (parts u) (suc (length w)) x in
    let k = rw length-drop at p.fits in
    record { is = ap (λ (z : List ℕ). head_tag (split z)) (sym d) ∙ p.is; short = h; fits = omega arith }

-- Without a fault.
short : (x : List ℕ) → too_long x ≡ none → length x ≤ 255
short x e = ⊎_elim (λ h. h) (λ h. absurd (some-ne-none _ (sym (too_long_lem x h) ∙ e))) (le-or-lt (length x) 255)

pub record Accepted (x : List ℕ) : Type 0 where
  pub in_size : length x ≤ 255
  pub fine-tags : All Fine (split x)
  pub a-language : no_language by_part.first (body (split x)) ≡ none
  pub core : part_fault by_part.first by_part.later start 0 (body (split x)) ≡ none

pub accepted : (x : List ℕ) → fault_of x ≡ none → Accepted x
unfolding fault_of fault_by grammar_fault body
accepted x e =
    let f₁ = first_of-none (no_bytes x) _ e in
    let f₂ = first_of-none (too_long x) _ f₁.1 in
    let f₃ = first_of-none (unclean 0 x) _ f₂.1 in
    let f₄ = first_of-none (bad_tag 4 wrong_size 0 (split x)) _ f₃.1 in
    let f₅ = first_of-none _ _ f₄.1 in
    let f₆ = first_of-none _ _ f₅.1 in
    record { in_size = short x f₂.0; fine-tags = fine (split x) (split-words x 0 f₃.0) (none-bad_tag 4 wrong_size 0 (split x) f₄.0); a-language = f₅.0; core = f₆.0 }

-- a language, or root and nothing else, or a script
pub data Core (first : Tag) (others : List Tag) : Type 0 where
  of-language : is_language first ≡ true → Others others → Core first others
  of-root : is_language first ≡ false → same first root ≡ true → others ≡ [] → Core first others
  of-script : is_language first ≡ false → same first root ≡ false → Region others → Core first others

pub core-of : (t : Tag) (ts : List Tag) → part_fault by_part.first by_part.later start 0 (t ∷ ts) ≡ none → Core t ts
unfolding part_fault start
core-of t ts e =
    bool_cases (is_language t) (λ f. of-language f (after-language by_part.later [] _ ts (rw (f, start, part_fault) at e)))
    (λ f. bool_cases (same t root) (λ g. of-root f g (after-root by_part.later [] _ ts (rw (f, g, start, part_fault) at e))) (λ g. go f g (kind_of t) refl))
  where
    go : is_language t ≡ false → same t root ≡ false → (k : Kind) → kind_of t ≡ k → Core t ts
    go f g a_script q = of-script f g (after-script by_part.later [] _ ts (rw (f, g, q, start, part_fault) at e))
    go f g a_region q = absurd (some-ne-none _ (rw (f, g, q, start, part_fault) at e))
    go f g a_variant q = absurd (some-ne-none _ (rw (f, g, q, start, part_fault) at e))
    go f g a_none q = absurd (some-ne-none _ (rw (f, g, q, start, part_fault) at e))

-- The whole of the subtags.
up_to-from : (p : Tag → Bool) (ts : List Tag) → up_to p ts ++ from p ts ≡ ts
unfolding up_to from
up_to-from p [] = refl
up_to-from p (t ∷ ts) = bool_cases (p t) (λ e. rw (e, up_to, from)) (λ e. rw (e, up_to, from) (ap (◌∷◌ t) (up_to-from p ts)))

pub all-tags : (ts : List Tag) → ts ≡ body ts ++ (flat (heads ts) ++ from is_x ts)
unfolding body heads
all-tags ts =
    sym (up_to-from is_x ts) ∙ ap (λ (a : List Tag). a ++ from is_x ts) (sym (grouped-flat is_singleton (up_to is_x ts)))
    ∙ append_assoc (body ts) (flat (heads ts)) (from is_x ts)

pub has_first : (b : List Tag) → no_language by_part.first b ≡ none → b ≡ head_tag b ∷ after_first b
unfolding no_language head_tag after_first
has_first [] e = absurd (some-ne-none _ e)
has_first (t ∷ b) e = refl

pub parts-optional : (t : Tag) → parts (optional t) ≡ part t
unfolding parts optional part
parts-optional [] = refl
parts-optional (b ∷ bs) = omega arith

-- a subtag that may be absent, behind others
pub record Later (x : List ℕ) (from to : ℕ) (t : Tag) : Type 0 where
  pub fits : LaterFits from to x
  pub word : (n : ℕ) → later_word n from to x ≡ cased n t
  pub short : length t ≤ 8

later-is : (x : List ℕ) (u : List Tag) (t : Tag) (v : List Tag) (from to : ℕ) → All Fine (split x) → split x ≡ u ++ (optional t ++ v) → parts u ≡ from + 1 → to ≡ from + part t → Later x from to t
unfolding optional part later_word PlainTag
later-is x u [] v from to a e f g =
    record { fits = record { fits = λ h. absurd (omega arith); short = λ h. absurd (omega arith) }; word = λ n. rw (le-ltb from to (omega arith), later_word) (sym (cased-nil n)); short = omega arith }
later-is x u (b ∷ bs) v from to a e f g =
    let w = all-at u (b ∷ bs) v (subst (λ (ts : List Tag). All Fine ts) e a) in
    let p = place-from u (b ∷ bs) v x e w.plain.1 in
    let i : head_tag (split (drop (from + 1) x)) ≡ b ∷ bs = ap (λ (n : ℕ). head_tag (split (drop n x))) (sym f) ∙ p.is in
    record { fits = record { fits = λ h. let k = p.fits in omega arith; short = λ h. rw i p.short }; word = λ n. rw (lt-ltb from to (omega arith), later_word) (ap (cased n) i); short = p.short }

pub others-of : (t : Tag) (ts : List Tag) → Core t ts → Others ts
unfolding find only optional
others-of t ts (of-language f o) = o
others-of t ts (of-root f g o) = rw o
others-of t ts (of-script f g r) = region-left ts r

-- The three, and where they stand.
pub record Named (x : List ℕ) (p : Parts) : Type 0 where
  pub first : Tag
  pub others : List Tag
  pub core : Core first others
  pub front : head_tag (split x) ≡ first
  pub front-short : length (head_tag (split x)) ≤ 8
  pub start : p.start ≡ start_of first
  pub three : (identifier_of (split x)).core ≡ core_of (first ∷ others)
  pub script : is_language first ≡ true → Later x p.language p.script (find a_script others)
  pub region : Later x p.script p.region (find a_region others)
  -- all its subtags, those of the main language part, where the parts end, and the number of variants
  pub behind : List Tag
  pub in_size : length x ≤ 255
  pub first_some : 0 < length first
  pub fine-tags : All Fine (split x)
  pub tags : split x ≡ first ∷ (optional (find a_script others) ++ (optional (find a_region others) ++ (only is_variant others ++ behind)))
  pub main : up_to is_singleton (split x) ≡ first ∷ others
  pub language-end : p.language ≡ language_cut first
  pub script-end : p.script ≡ length first + part (find a_script others)
  pub region-end : p.region ≡ length first + part (find a_script others) + part (find a_region others)
  pub count : p.variant_count ≡ length (only is_variant others)

pub language-cut : (t : Tag) → is_language t ≡ true → language_cut t ≡ length t
unfolding language_cut
language-cut t e = rw (e, language_cut)

pub named : (x : List ℕ) (p : Parts) → fault_of x ≡ none → p ≡ parts_of (split x) → Named x p
unfolding parts_of cuts_of cuts_after body identifier_of head_tag PlainTag parts
named x p e q =
    let a = accepted x e in
    let b = body (split x) in
    let t = head_tag b in
    let o = after_first b in
    let s = find a_script o in
    let r = find a_region o in
    let more = flat (heads (split x)) ++ from is_x (split x) in
    let f = has_first b a.a-language in
    let c = core-of t o (rw f at a.core) in
    let tags : split x ≡ t ∷ (o ++ more) = all-tags (split x) ∙ ap (λ (y : List Tag). y ++ more) f in
    let w = all-at [] t (o ++ more) (subst (λ (ts : List Tag). All Fine ts) tags a.fine-tags) in
    let y : o ++ more ≡ optional s ++ (optional r ++ (only is_variant o ++ more)) =
    ap (λ (z : List Tag). z ++ more) (others-of t o c) ∙ append_assoc (optional s) (optional r ++ only is_variant o) more ∙ ap (◌++◌ (optional s)) (append_assoc (optional r) (only is_variant o) more) in
    let g : head_tag (split x) ≡ t = ap head_tag tags in
    let ps : p.script ≡ length t + part s = ap (λ (z : Parts). z.script) q in
    let pr : p.region ≡ length t + part s + part r = ap (λ (z : Parts). z.region) q in
    let pl : p.language ≡ language_cut t = ap (λ (z : Parts). z.language) q in
    let po = parts-optional s in
    record {
      first = t;
      others = o;
      core = c;
      front = g;
      front-short = rw g w.plain.1;
      start = ap (λ (z : Parts). z.start) q ∙ ap start_of g;
      three = ap core_of f;
      script = λ l. later-is x (t ∷ []) s (optional r ++ (only is_variant o ++ more)) p.language p.script a.fine-tags (tags ∙ ap (◌∷◌ t) y) (let k = pl ∙ language-cut t l in omega arith) (let k = pl ∙ language-cut t l in omega arith);
      region = later-is x (t ∷ optional s) r (only is_variant o ++ more) p.script p.region a.fine-tags (tags ∙ ap (◌∷◌ t) y) (omega arith) (omega arith);
      behind = more;
      in_size = a.in_size;
      first_some = w.plain.0;
      fine-tags = a.fine-tags;
      tags = tags ∙ ap (◌∷◌ t) y;
      main = sym (front (split x)) ∙ f;
      language-end = pl;
      script-end = ps;
      region-end = pr;
      count = ap (λ (z : Parts). z.variant_count) q;
    }
