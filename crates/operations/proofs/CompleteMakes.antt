-- What is made by parts is what the standard makes of a canonical identifier. Assumes nothing.
use mathlib.Core.Path.{◌≡◌, refl, sym, ap, ap₂, ◌∙◌}
use mathlib.Core.Bool.{Bool, true, false, cond}
use mathlib.Core.Logic.{⊎_elim}
use mathlib.Core.List.{[], ◌∷◌, ◌++◌, append-nil, append_assoc}
use mathlib.Core.Option.{Option, none, some}
use Prim.Native.Nat.{ℕ, ◌+◌, ◌≤◌}
use native.Mathlib.Omega.{arith}
use lib.Dec.{leb}
use lib.ListN.{length}
use Rattle.standard.specs.Tag.{Tag}
use Rattle.standard.specs.Grammar.{flat}
use Rattle.standard.specs.Identifier.{Three, Identifier, Tables, Answer, done, refused, bounded, printed_length, with_three, filled, then, maximal_three, minimal_three, without_unknown}
use Rattle.standard.specs.Reading.{optional, print}
use Rattle.standard.specs.Delivery.{Bytes, refusal, form}
use Rattle.standard.specs.Table.{tables_of, check, to_check}
use Rattle.standard.specs.Make.{made}
use Rattle.standard.proofs.Round.{Shaped, Printable, length-print}
use Rattle.standard.proofs.Core.{Full}
use Rattle.subtag.specs.Sections.{led}
use Rattle.canonical.proofs.Print.{print-led}
use Rattle.canonical.proofs.Words.{language-size, script-size, region-size}
use Rattle.likely.specs.Parts.{led_part, Parts, parts_of, joined_parts, known_parts, fill_parts}
use Rattle.likely.specs.Forms.{short_form, bytes_of, kept_if, made_of, made_filled, made_parts}
use Rattle.likely.proofs.Laws.{known-parts, map_parts, fill-parts, minimal-parts}

-- what stands behind the three
unfoldable pub rest_of : Identifier → Bytes
rest_of i = led i.variants ++ (led (flat i.extensions) ++ led i.private)

led-optional : (t : Tag) → led (optional t) ≡ led_part t
unfolding led optional led_part
led-optional [] = refl
led-optional (b ∷ bs) = ap (λ (z : Bytes). 45 ∷ b ∷ z) (append-nil bs)

-- a printed identifier is its three and the rest
pub print-rest : (i : Identifier) → print i ≡ bytes_of (parts_of i.core) (rest_of i)
unfolding bytes_of rest_of parts_of joined_parts
print-rest i =
    let l = i.core.language in
    let s = led_part i.core.script in
    let r = led_part i.core.region in
    print-led i
    ∙ (ap₂ (λ (x y : Bytes). l ++ (x ++ (y ++ rest_of i))) (led-optional i.core.script) (led-optional i.core.region)
    ∙ (ap (λ (x : Bytes). l ++ x) (sym (append_assoc s r (rest_of i))) ∙ sym (append_assoc l (s ++ r) (rest_of i))))

-- its length is what number 9 is about
with-length : (c : Identifier) (t : Three) → Printable (with_three c t) → length (bytes_of (parts_of t) (rest_of c)) ≡ printed_length (with_three c t)
unfolding with_three rest_of
with-length c t h = sym (ap length (print-rest (with_three c t))) ∙ length-print (with_three c t) h

with-print : (c : Identifier) (t : Three) → print (with_three c t) ≡ bytes_of (parts_of t) (rest_of c)
unfolding with_three rest_of
with-print c t = print-rest (with_three c t)

made-bounded : (f : Identifier → Identifier) (i : Identifier) → made (then (λ m. done (f m)) (bounded i)) ≡ cond (leb (printed_length i) 255) (form (print (f i))) (refusal 9 0 0)
unfolding made then bounded
made-bounded f i = go (leb (printed_length i) 255)
  where
    go : (b : Bool) → made (then (λ m. done (f m)) (cond b (done i) (refused 9))) ≡ cond b (form (print (f i))) (refusal 9 0 0)
    go true = refl
    go false = refl

then_same : (a : Answer) → then (λ m. done m) a ≡ a
unfolding then
then_same (done i) = refl
then_same (refused n) = refl

module _ (A L P : Bytes) (pass : check to_check A L P ≡ none) (c : Identifier) (h : (t : Three) → maximal_three (tables_of A L P) (without_unknown c.core) ≡ some t → Printable (with_three c t)) where
  abbrev T : Tables
  T = tables_of A L P

  fills : fill_parts L (known_parts (parts_of c.core)) ≡ map_parts (maximal_three T (without_unknown c.core))
  fills = ap (fill_parts L) (sym (known-parts c.core)) ∙ fill-parts A L P pass (without_unknown c.core)

  pub maximised-made : made (filled c (maximal_three T (without_unknown c.core))) ≡ made_parts false L (rest_of c) (parts_of c.core)
  unfolding made_parts made filled then made_filled map_parts made_of short_form kept_if
  maximised-made = go (maximal_three T (without_unknown c.core)) refl ∙ ap (made_filled false L (rest_of c)) (sym fills)
    where
      go : (o : Option Three) → maximal_three T (without_unknown c.core) ≡ o → made (filled c o) ≡ made_filled false L (rest_of c) (map_parts o)
      go none e = refl
      go (some t) e =
          ap made (sym (then_same (bounded (with_three c t)))) ∙ (made-bounded (λ m. m) (with_three c t)
          ∙ ap₂ (λ (n : ℕ) (x : Bytes). cond (leb n 255) (form x) (refusal 9 0 0)) (sym (with-length c t (h t e))) (with-print c t))

  pub minimised-made : ((t : Three) → maximal_three T (without_unknown c.core) ≡ some t → Full T t)
      → made (then (λ m. done (with_three m (minimal_three T m.core))) (filled c (maximal_three T (without_unknown c.core)))) ≡ made_parts true L (rest_of c) (parts_of c.core)
  unfolding made_parts made filled then made_filled map_parts made_of short_form kept_if with_three
  minimised-made f = go (maximal_three T (without_unknown c.core)) refl ∙ ap (made_filled true L (rest_of c)) (sym fills)
    where
      go : (o : Option Three) → maximal_three T (without_unknown c.core) ≡ o
          → made (then (λ m. done (with_three m (minimal_three T m.core))) (filled c o)) ≡ made_filled true L (rest_of c) (map_parts o)
      go none e = refl
      go (some t) e =
          made-bounded (λ m. with_three m (minimal_three T m.core)) (with_three c t)
          ∙ ap₂ (λ (n : ℕ) (x : Bytes). cond (leb n 255) (form x) (refusal 9 0 0)) (sym (with-length c t (h t e)))
          (with-print c (minimal_three T t) ∙ ap (λ (q : Parts). bytes_of q (rest_of c)) (sym (minimal-parts A L P pass t (f t e))))

-- A shaped three has room in a key.
led-length : (t : Tag) → length (led_part t) ≤ length t + 1
unfolding led_part
led-length [] = omega arith
led-length (b ∷ bs) = omega arith

pub shaped-short : (t : Three) → Shaped t → length (parts_of t).language + length (parts_of t).script + length (parts_of t).region ≤ 26
unfolding parts_of
shaped-short t h =
    let a = language-size t.language h.language in
    let b : length t.script ≤ 4 = ⊎_elim (λ q. let z = ap length q in omega arith) (λ q. omega arith) (script-size t.script h.script) in
    let c = region-size t.region h.region in
    let d = led-length t.script in
    let e = led-length t.region in
    omega arith
