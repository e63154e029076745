-- Where language and script end in a text that is known to be language, perhaps script, perhaps region.
-- Assumes nothing.
use mathlib.Core.Path.{◌≡◌, refl, sym, ap, ap₂, ◌∙◌}
use mathlib.Core.Bool.{true}
use mathlib.Core.Logic.{◌⊎◌, inl, inr, ⊎_elim}
use mathlib.Core.List.{List, [], ◌∷◌, ◌++◌}
use Prim.Native.Nat.{ℕ, suc, ◌+◌, ◌-◌, ◌≤◌, ◌<◌}
use native.Mathlib.Omega.{arith}
use lib.ListN.{length, take, drop, length-append}
use lib.Seq.{take-append_seam, drop-append_seam, drop-drop}
use borrow.Author.Tests.{le-leb, lt-leb}
use Rattle.standard.specs.Tag.{Tag, All}
use Rattle.standard.specs.Identifier.{three}
use Rattle.standard.specs.Table.{parse, is_three}
use Rattle.byte_string.specs.Strings.{end_of}
use Rattle.row_shapes.specs.Shapes.{is_script, is_region, between, script_end, ThreeAt}
use Rattle.row_shapes.proofs.Tags.{script-length, region-sizes}
use Rattle.row_shapes.proofs.Pieces.{Free}
use Rattle.row_shapes.proofs.Threes.{ThreeOk, three-ok, language-free}
use Rattle.standard.proofs.Table.{three-printed as three-text}
use Rattle.row_shapes.proofs.Fronts.{led, printed-led, language-sized}

pub end-script : (e n : ℕ) → e + 5 ≤ n → script_end e n ≡ e + 5
unfolding script_end
end-script e n h = rw (le-leb (e + 5) n h)

pub end_none : (e n : ℕ) → n < e + 5 → script_end e n ≡ e
unfolding script_end
end_none e n h = rw (lt-leb (e + 5) n h)

-- the script ends five bytes after the language, or with it
pub script-ends : (e n s r : ℕ) → n ≡ e + (s + r) → (s ≡ 0) ⊎ (s ≡ 5) → r ≤ 4 → script_end e n ≡ e + s
script-ends e n s r h (inl z) k = end_none e n (omega arith) ∙ omega arith
script-ends e n s r h (inr z) k = end-script e n (omega arith) ∙ omega arith

end-over : (L y : List ℕ) → Free 45 L → end_of 45 y 0 ≡ 0 → end_of 45 (L ++ y) 0 ≡ length L
unfolding end_of All
end-over [] y h e = e
end-over (x ∷ L) y h e = rw h.0 (ap suc (end-over L y h.1 e))

end-led : (S R : Tag) → end_of 45 (led S ++ led R) 0 ≡ 0
unfolding end_of led
end-led [] [] = refl
end-led [] (r ∷ R) = refl
end-led (b ∷ S) R = refl

script-five : (S : Tag) → (S ≡ []) ⊎ (is_script S ≡ true) → (length (led S) ≡ 0) ⊎ (length (led S) ≡ 5)
unfolding led
script-five S (inl e) = inl (ap (λ (x : Tag). length (led x)) e)
script-five [] (inr e) = inl refl
script-five (b ∷ S) (inr e) = inr (ap suc (script-length (b ∷ S) e))

region-four : (R : Tag) → (R ≡ []) ⊎ (is_region R ≡ true) → length (led R) ≤ 4
unfolding led
region-four [] k = omega arith
region-four (b ∷ R) (inl e) = absurd (let n = ap length e in omega arith)
region-four (b ∷ R) (inr e) = ⊎_elim (λ n. omega arith) (λ n. omega arith) (region-sizes (b ∷ R) e)

-- a subtag behind its separator
led-front : (S y : List ℕ) → take (length (led S) - 1) (drop 1 (led S ++ y)) ≡ S
unfolding led
led-front [] y = refl
led-front (b ∷ S) y =
    let n : suc (suc (length S)) - 1 ≡ suc (length S) = omega arith in
    rw n (take-append_seam (b ∷ S) y)

led-rest : (R : List ℕ) → drop 1 (led R) ≡ R
unfolding led
led-rest [] = refl
led-rest (b ∷ R) = refl

module _ (s : List ℕ) (l e : ℕ) (h : is_three s ≡ true) (f : l ≡ end_of 45 s 0) (g : e ≡ script_end l (length s)) where
  abbrev L : Tag
  L = (parse s).language

  abbrev S : Tag
  S = (parse s).script

  abbrev R : Tag
  R = (parse s).region

  ok : ThreeOk (parse s)
  ok = three-ok s h

  text : s ≡ L ++ (led S ++ led R)
  text = sym (three-text s h) ∙ printed-led L S R

  language-end : l ≡ length L
  language-end = f ∙ ap (λ (x : List ℕ). end_of 45 x 0) text ∙ end-over L (led S ++ led R) (language-free L ok.language) (end-led S R)

  size : length s ≡ length L + (length (led S) + length (led R))
  size = ap length text ∙ length-append L (led S ++ led R) ∙ ap (λ (x : ℕ). length L + x) (length-append (led S) (led R))

  script-end : e ≡ l + length (led S)
  script-end = g ∙ script-ends l (length s) (length (led S)) (length (led R)) (omega (arith, size, language-end)) (script-five S ok.script) (region-four R ok.region)

  behind-language : drop l s ≡ led S ++ led R
  behind-language = ap₂ drop language-end text ∙ drop-append_seam L (led S ++ led R)

  behind-script : drop e s ≡ led R
  behind-script =
      ap (λ (n : ℕ). drop n s) script-end
      ∙ sym (drop-drop (length (led S)) l s)
      ∙ ap (drop (length (led S))) behind-language
      ∙ drop-append_seam (led S) (led R)

  the-language : L ≡ take l s
  the-language = sym (ap₂ take language-end text ∙ take-append_seam L (led S ++ led R))

  the-script : S ≡ between s l e
  the-script =
      let n : e - (l + 1) ≡ length (led S) - 1 = omega (arith, script-end) in
      sym (ap₂ take n (sym (drop-drop 1 l s) ∙ ap (drop 1) behind-language) ∙ led-front S (led R))

  the-region : R ≡ drop (e + 1) s
  the-region = sym (sym (drop-drop 1 e s) ∙ ap (drop 1) behind-script ∙ led-rest R)

  pub cut-three : ThreeAt s (record { language = l; script = e })
  cut-three = record {
    is = h;
    low = omega (arith, script-end);
    high = omega (arith, script-end, language-end, size);
    parts = ap₂ (λ (a b : Tag). three a b R) the-language the-script ∙ ap (three (take l s) (between s l e)) the-region;
  }

-- a language has at most 8 bytes
pub language-near : (s : List ℕ) (l : ℕ) → is_three s ≡ true → l ≡ end_of 45 s 0 → l ≤ 4096
language-near s l h f =
    let n = (language-sized (parse s).language (three-ok s h).language).high in
    omega (arith, language-end s l (script_end l (length s)) h f refl)
