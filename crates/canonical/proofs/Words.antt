-- The value of a language's alias: language, perhaps script, perhaps region, and where they end. Assumes nothing.
use mathlib.Core.Path.{◌≡◌, refl, sym, ap, ◌∙◌}
use mathlib.Core.Bool.{true, false}
use mathlib.Core.List.{List, [], ◌∷◌, ◌++◌, append-nil, append_assoc}
use mathlib.Core.Logic.{◌⊎◌, inl, inr, ⊎_elim}
use mathlib.Core.Option.{Option, none, some}
use Prim.Native.Nat.{ℕ, suc, ◌+◌, ◌-◌, ◌≤◌}
use native.Mathlib.Omega.{arith}
use lib.Dec.{leb, eqb}
use lib.ListN.{length, take, drop, length-append, length-map}
use lib.Seq.{drop-drop, take_at, drop_at}
use borrow.Author.Tests.{leb-true, ne_eqb}
use Rattle.standard.specs.Tag.{Tag, pick}
use Rattle.standard.specs.Grammar.{upper_byte, small, every, title, upper, Size, size0, size1, size2, size3, size4, size5to8, size_over8, size_of, language_size, is_language, a_script, a_region, kind_of}
use Rattle.standard.specs.Identifier.{Three, three, language_alias}
use Rattle.standard.specs.Reading.{optional, joined}
use Rattle.standard.specs.Table.{lookup, rows, parse, print_three, language_key, parsed, tables_of, check, to_canonicalise}
use Rattle.standard.proofs.General.{clash, and-true, le-or-lt, pick-nil}
use Rattle.standard.proofs.Faults.{Maybe}
use Rattle.standard.proofs.Round.{Shown, Shaped}
use Rattle.standard.proofs.Shapes.{kind-script, kind-region}
use Rattle.standard.proofs.Sound.{shown-none}
use Rattle.standard.proofs.Table.{Passed, passed, three-shaped, three-printed, language-value}
use Rattle.byte_string.specs.Strings.{end_of}
use Rattle.subtag.specs.Sections.{led}
use Rattle.aliases.specs.Replaced.{replaced_by}
use Rattle.row_shapes.specs.Shapes.{script_end}
use Rattle.standard.proofs.Whole.{narrow-aliases}
use Rattle.row_shapes.proofs.Ends.{script-ends}
use Rattle.canonical.specs.Three.{between, after_separator}
use Rattle.canonical_order.proofs.Pending.{led-append}
use Rattle.canonical.proofs.Print.{joined-led}
use Rattle.canonical.proofs.Places.{behind, at_once}

-- the aliases alone
pub aliases-passed : (A : List ℕ) → check to_canonicalise A [] [] ≡ none → Passed A [] []
aliases-passed A e = passed A [] [] (narrow-aliases A ∙ e)

pub three-led : (t : Three) → print_three t ≡ t.language ++ (led (optional t.script) ++ led (optional t.region))
unfolding print_three
three-led t = joined-led t.language (optional t.script ++ optional t.region) ∙ ap (◌++◌ t.language) (led-append (optional t.script) (optional t.region))

-- The alias of a language, or the language itself.
pub record Word (A : List ℕ) (l : Tag) (w : List ℕ) : Type 0 where
  pub value : Three
  pub printed : w ≡ print_three value
  pub shaped : Shaped value
  pub alias : (t : Three) → t.language ≡ l → language_alias ((tables_of A [] []).languages l) t ≡ three value.language (pick t.script value.script) (pick t.region value.region)

pub word : (A : List ℕ) (l : Tag) → check to_canonicalise A [] [] ≡ none → is_language l ≡ true → Word A l (replaced_by (lookup (rows A) (language_key ++ l)) l)
unfolding replaced_by tables_of language_alias parsed print_three optional joined title upper
word A l e k = go (lookup (rows A) (language_key ++ l)) refl
  where
    go : (o : Option (List ℕ)) → lookup (rows A) (language_key ++ l) ≡ o → Word A l (replaced_by o l)
    go none f = record {
      value = three l [] [];
      printed = refl;
      shaped = record { language = k; script = shown-none a_script title refl; region = shown-none a_region upper refl };
      alias = λ t g. ap (λ (o : Option (List ℕ)). language_alias (parsed o) t) f ∙ (λ j. three (g j) (sym (pick-nil t.script) j) (sym (pick-nil t.region) j));
    }
    go (some v) f =
        let h = language-value A [] [] (aliases-passed A e) l v f in
        record {
          value = parse v;
          printed = sym (three-printed v h);
          shaped = three-shaped v h;
          alias = λ t g. ap (λ (o : Option (List ℕ)). language_alias (parsed o) t) f;
        }

-- Sizes.
-- at most so many bytes
unfoldable bytes_of : Size → ℕ
bytes_of s = elim s [ size0 ↦ 0 | size1 ↦ 1 | size2 ↦ 2 | size3 ↦ 3 | size4 ↦ 4 | size5to8 ↦ 8 | size_over8 ↦ 9 ]

size-bytes : (t : Tag) → (size_of t ≡ size_over8 → ⊥) → length t ≤ bytes_of (size_of t)
unfolding bytes_of size_of
size-bytes [] n = omega arith
size-bytes (a ∷ []) n = omega arith
size-bytes (a ∷ b ∷ []) n = omega arith
size-bytes (a ∷ b ∷ c ∷ []) n = omega arith
size-bytes (a ∷ b ∷ c ∷ d ∷ []) n = omega arith
size-bytes (a ∷ b ∷ c ∷ d ∷ e ∷ []) n = omega arith
size-bytes (a ∷ b ∷ c ∷ d ∷ e ∷ f ∷ []) n = omega arith
size-bytes (a ∷ b ∷ c ∷ d ∷ e ∷ f ∷ g ∷ []) n = omega arith
size-bytes (a ∷ b ∷ c ∷ d ∷ e ∷ f ∷ g ∷ h ∷ []) n = omega arith
size-bytes (a ∷ b ∷ c ∷ d ∷ e ∷ f ∷ g ∷ h ∷ i ∷ t) n = absurd (n refl)

size-four : (t : Tag) → size_of t ≡ size4 → length t ≡ 4
unfolding size_of
size-four [] e = cc
size-four (a ∷ []) e = cc
size-four (a ∷ b ∷ []) e = cc
size-four (a ∷ b ∷ c ∷ []) e = cc
size-four (a ∷ b ∷ c ∷ d ∷ []) e = refl
size-four (a ∷ b ∷ c ∷ d ∷ f ∷ []) e = cc
size-four (a ∷ b ∷ c ∷ d ∷ f ∷ g ∷ []) e = cc
size-four (a ∷ b ∷ c ∷ d ∷ f ∷ g ∷ h ∷ []) e = cc
size-four (a ∷ b ∷ c ∷ d ∷ f ∷ g ∷ h ∷ i ∷ []) e = cc
size-four (a ∷ b ∷ c ∷ d ∷ f ∷ g ∷ h ∷ i ∷ j ∷ t) e = cc

pub language-size : (t : Tag) → is_language t ≡ true → length t ≤ 8
unfolding is_language language_size bytes_of
language-size t e =
    let h = (and-true (language_size (size_of t)) (every small t) e).0 in
    go (size_of t) h (size-bytes t (λ z. clash {b = true} refl (sym (rw z at h))))
  where
    go : (s : Size) → language_size s ≡ true → length t ≤ bytes_of s → length t ≤ 8
    go size0 f k = omega arith
    go size1 f k = omega arith
    go size2 f k = omega arith
    go size3 f k = omega arith
    go size4 f k = omega arith
    go size5to8 f k = k
    go size_over8 f k = clash {b = true} refl (sym f)

-- a script with its separator has five bytes, a region at most four
pub script-size : (s : Tag) → Shown a_script title s → (s ≡ []) ⊎ (length s ≡ 4)
unfolding Maybe kind_of title
script-size s h = go h.token h.stored h.kind
  where
    titled : (t : Tag) → length (title t) ≡ length t
    titled [] = refl
    titled (b ∷ t) = refl

    go : (t : Tag) → s ≡ title t → (t ≡ []) ⊎ (kind_of t ≡ a_script) → (s ≡ []) ⊎ (length s ≡ 4)
    go t e (inl q) = inl (e ∙ ap title q)
    go t e (inr q) = inr (ap length e ∙ titled t ∙ size-four t (kind-script (size_of t) _ _ _ q).0)

pub region-size : (r : Tag) → Shown a_region upper r → length r ≤ 3
unfolding Maybe kind_of upper bytes_of
region-size r h = go h.token h.stored h.kind
  where
    sized : (t : Tag) → (size_of t ≡ size2) ⊎ (size_of t ≡ size3) → length t ≤ 3
    sized t (inl z) = let k = size-bytes t (λ y. absurd (let u : ◌≡◌ {A = ℕ} 0 1 = cc in omega arith)) in omega (arith, ap bytes_of z)
    sized t (inr z) = let k = size-bytes t (λ y. absurd (let u : ◌≡◌ {A = ℕ} 0 1 = cc in omega arith)) in omega (arith, ap bytes_of z)

    go : (t : Tag) → r ≡ upper t → (t ≡ []) ⊎ (kind_of t ≡ a_region) → length r ≤ 3
    go t e (inl q) = omega (arith, ap length (e ∙ ap upper q))
    go t e (inr q) = let k = sized t (⊎_elim (λ h. inl h.0) (λ h. inr h.0) (kind-region (size_of t) _ _ _ q)) in omega (arith, ap length e, length-map t upper_byte)

-- Where the parts of a printed three stand.
unfoldable NoHyphen : Tag → Type 0
NoHyphen [] = Unit {0}
NoHyphen (b ∷ t) = (eqb b 45 ≡ false) × NoHyphen t

small-not : (b : ℕ) → small b ≡ true → eqb b 45 ≡ false
unfolding small
small-not b e = let h = and-true (leb 97 b) (leb b 122) e in ne_eqb b 45 (λ z. omega (arith, leb-true 97 b h.0))

small-tag : (t : Tag) → every small t ≡ true → NoHyphen t
unfolding every NoHyphen
small-tag [] e = tt
small-tag (b ∷ t) e = let h = and-true (small b) (every small t) e in (small-not b h.0, small-tag t h.1)

end-at : (t : Tag) (ts : List Tag) → NoHyphen t → end_of 45 (t ++ led ts) 0 ≡ length t
unfolding end_of NoHyphen led
end-at [] [] h = refl
end-at [] (u ∷ ts) h = refl
end-at (b ∷ t) ts h = rw h.0 (ap suc (end-at t ts h.1))

-- one subtag in the middle
pub middle : (x a b : List ℕ) (t : Tag) (at to : ℕ) → x ≡ a ++ (led (optional t) ++ b) → at ≡ length a → to ≡ at + length (led (optional t)) → between x (after_separator at to) to ≡ t
unfolding led optional
middle x a b [] at to e f g =
    let z : to - to ≡ 0 = omega arith in
    rw (at_once at to (omega arith), z)
middle x a b (c ∷ t) at to e f g =
    let s : c ∷ (t ++ []) ≡ c ∷ t = append-nil (c ∷ t) in
    let n : to - (at + 1) ≡ length (c ∷ t) = omega (arith, ap length s) in
    let d : drop (at + 1) x ≡ (c ∷ t) ++ b =
    sym (drop-drop 1 at x) ∙ ap (λ (y : List ℕ). drop 1 (drop at y)) e ∙ ap (drop 1) (drop_at a (45 ∷ ((c ∷ (t ++ [])) ++ b)) at (sym f)) ∙ ap (λ (y : List ℕ). y ++ b) s in
    rw (behind at to (omega arith), d) (take_at (c ∷ t) b (to - (at + 1)) (sym n))

-- the ends in a word
pub record Ended (w : List ℕ) (t : Three) (e s : ℕ) : Type 0 where
  pub language : take e w ≡ t.language
  pub language-fits : e ≤ length w
  pub language-small : e ≤ 8
  pub rises : e ≤ s
  pub fits : s ≤ length w
  pub script : between w (after_separator e s) s ≡ t.script
  pub script-small : s - after_separator e s ≤ 8
  pub region : between w (after_separator s (length w)) (length w) ≡ t.region
  pub region-small : length w - after_separator s (length w) ≤ 8

after-low : (at to n : ℕ) → to ≤ at + n → at ≤ to → to - after_separator at to ≤ n
after-low at to n h k = ⊎_elim (λ z. rw (at_once at to z) (omega arith)) (λ z. rw (behind at to z) (omega arith)) (le-or-lt to at)

pub led-five : (s : Tag) → (s ≡ []) ⊎ (length s ≡ 4) → (length (led (optional s)) ≡ 0) ⊎ (length (led (optional s)) ≡ 5)
unfolding led optional
led-five s (inl e) = inl (ap (λ (x : Tag). length (led (optional x))) e)
led-five [] (inr e) = absurd (omega arith)
led-five (b ∷ s) (inr e) = inr (omega (arith, length-append s []))

pub led-four : (r : Tag) → length r ≤ 3 → length (led (optional r)) ≤ 4
unfolding led optional
led-four [] h = omega arith
led-four (b ∷ r) h = omega (arith, length-append r [])

pub ended : (w : List ℕ) (t : Three) (e s : ℕ) → w ≡ print_three t → Shaped t → e ≡ end_of 45 w 0 → s ≡ script_end e (length w) → Ended w t e s
unfolding is_language
ended w t e s p h f g =
    let l = t.language in
    let a = led (optional t.script) in
    let b = led (optional t.region) in
    let q : w ≡ l ++ (a ++ b) = p ∙ three-led t in
    let q₂ : w ≡ (l ++ a) ++ (b ++ []) = q ∙ sym (append_assoc l a b) ∙ ap (◌++◌ (l ++ a)) (sym (append-nil b)) in
    let k : e ≡ length l = f ∙ ap (λ (x : List ℕ). end_of 45 x 0) (q ∙ ap (◌++◌ l) (sym (led-append (optional t.script) (optional t.region))))
    ∙ end-at l (optional t.script ++ optional t.region) (small-tag l (and-true (language_size (size_of l)) (every small l) h.language).1) in
    let n : length w ≡ length l + (length a + length b) = ap length q ∙ length-append l (a ++ b) ∙ ap (◌+◌ (length l)) (length-append a b) in
    let five = led-five t.script (script-size t.script h.script) in
    let four' = led-four t.region (region-size t.region h.region) in
    let z : s ≡ e + length a = g ∙ script-ends e (length w) (length a) (length b) (omega arith) five four' in
    let y : length w ≡ s + length b = omega arith in
    let x : s ≡ length (l ++ a) = omega (arith, length-append l a) in
    let small' : length a ≤ 8 = ⊎_elim (λ i. omega arith) (λ i. omega arith) five in
    record {
      language = ap (take e) q ∙ take_at l (a ++ b) e (sym k);
      language-fits = omega arith;
      language-small = omega (arith, language-size l h.language);
      rises = omega arith;
      fits = omega arith;
      script = middle w l b t.script e s q k z;
      script-small = after-low e s 8 (omega arith) (omega arith);
      region = middle w (l ++ a) [] t.region s (length w) q₂ x y;
      region-small = after-low s (length w) 8 (omega arith) (omega arith);
    }
