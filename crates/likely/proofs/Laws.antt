-- The parts of the three stand for the three: what is done with parts is what the definitions do. Assumes nothing.
use mathlib.Core.Path.{◌≡◌, refl, sym, ap, ◌∙◌}
use mathlib.Core.Bool.{Bool, true, false, cond, not, ◌&&◌, and-false}
use mathlib.Core.List.{[], ◌∷◌, ◌++◌, append-nil}
use mathlib.Core.Option.{Option, none, some}
use Prim.Native.Nat.{ℕ, ◌+◌, ◌-◌}
use native.Mathlib.Omega.{arith}
use lib.ListN.{length, drop}
use lib.Seq.{drop-append-add, take-append_seam, drop-append_seam}
use Rattle.standard.specs.Tag.{Tag, order, same, pick, present, replace}
use Rattle.standard.specs.Identifier.{Three, three, und, zzzz, zz, Tables, without, without_unknown, complete, or_else, likely_row, over, over_row, maximal_three, trial, same_three, has_three, minimal_three, Kept}
use Rattle.standard.specs.Reading.{optional, joined}
use Rattle.standard.specs.Delivery.{Bytes}
use Rattle.standard.specs.Table.{lookup, rows, parse, parsed, print_three, tables_of, is_three, to_check, check}
use Rattle.standard.specs.Grammar.{title, upper, a_script}
use Rattle.standard.proofs.Tags.{same_refl}
use Rattle.standard.proofs.Core.{Full, kept_fixed, row-forms}
use Rattle.standard.proofs.Dashes.{NoDash, printed-dash}
use Rattle.standard.proofs.General.{clash, and-true, bool_cases}
use Rattle.standard.proofs.Shapes.{printed-language, printed-script}
use Rattle.standard.proofs.Round.{printed-shown}
use Rattle.standard.proofs.Table.{Passed, passed, three-shaped, three-printed, likely-value}
use Rattle.likely.specs.Parts.{led_part, Parts, parts_of, joined_parts, known_part, known_parts, complete_parts, or_value, shorter_value, row_value, dash_from, dash, cut_parts, language_of, over_parts, over_value, fill_parts, fits_value, fits_parts, parts3, minimal_parts}

-- A key is its parts.
pub print-parts : (t : Three) → print_three t ≡ joined_parts (parts_of t)
unfolding print_three joined optional led_part parts_of joined_parts
print-parts t = go t.script t.region
  where
    go : (s r : Tag) → joined (t.language ∷ (optional s ++ optional r)) ≡ t.language ++ (led_part s ++ led_part r)
    go [] [] = sym (append-nil t.language)
    go [] (b ∷ bs) = refl
    go (b ∷ bs) [] = ap (λ (x : Bytes). t.language ++ (45 ∷ b ∷ x)) (sym (append-nil bs))
    go (b ∷ bs) (c ∷ cs) = refl

-- The first row, by parts.
parsed-or : (a b : Option Bytes) → parsed (or_value a b) ≡ or_else (parsed a) (parsed b)
unfolding parsed or_value or_else
parsed-or none b = refl
parsed-or (some v) b = refl

key-three : (l s r : Tag) → print_three (three l s r) ≡ l ++ (led_part s ++ led_part r)
unfolding joined_parts parts_of
key-three l s r = print-parts (three l s r)

key-script : (l s : Tag) → print_three (three l s []) ≡ l ++ led_part s
unfolding led_part
key-script l s = key-three l s [] ∙ ap (λ (x : Bytes). l ++ x) (append-nil (led_part s))

key-region : (l r : Tag) → print_three (three l [] r) ≡ l ++ led_part r
unfolding led_part
key-region l r = key-three l [] r

key-language : (l : Tag) → print_three (three l [] []) ≡ l
unfolding led_part
key-language l = key-three l [] [] ∙ append-nil l

module _ (A L P : Bytes) where
  pub row-parts : (t : Three) → likely_row (tables_of A L P) t ≡ parsed (row_value L (parts_of t))
  unfolding row_value shorter_value tables_of parts_of
  row-parts t =
      let l = t.language in
      row-forms (tables_of A L P) t ∙ rw (parsed-or, parsed-or, parsed-or, key-three l t.script t.region, key-script l t.script, key-region l t.region, key-language l)

same-led : (a b : Tag) → same (led_part a) (led_part b) ≡ same a b
unfolding same order led_part
same-led [] [] = refl
same-led [] (b ∷ bs) = refl
same-led (a ∷ as') [] = refl
same-led (a ∷ as') (b ∷ bs) = refl

led-pick : (a b : Tag) → led_part (pick a b) ≡ pick (led_part a) (led_part b)
unfolding led_part pick
led-pick [] b = refl
led-pick (a ∷ as') b = refl

present-led : (a : Tag) → present (led_part a) ≡ present a
unfolding led_part present
present-led [] = refl
present-led (a ∷ as') = refl

known-led : (u t : Tag) → led_part (without u t) ≡ cond (same t u) [] (led_part t)
unfolding without led_part
known-led u t = go (same t u)
  where
    go : (b : Bool) → led_part (cond b [] t) ≡ cond b [] (led_part t)
    go true = refl
    go false = refl

pub known-parts : (t : Three) → parts_of (without_unknown t) ≡ known_parts (parts_of t)
unfolding without_unknown parts_of known_parts known_part same order led_part
known-parts t = rw (known-led zzzz t.script, known-led zz t.region, same-led t.script zzzz, same-led t.region zz)

pub complete-parts : (t : Three) → complete_parts (parts_of t) ≡ complete t
unfolding complete complete_parts parts_of
complete-parts t = rw (present-led t.script, present-led t.region)

pub over-parts : (t r : Three) → parts_of (over t r) ≡ over_parts (parts_of t) (parts_of r)
unfolding over over_parts parts_of language_of
over-parts t r = rw (led-pick t.script r.script, led-pick t.region r.region)

-- A value that was found, cut.
dash-more : (at : ℕ) (x y : Bytes) → NoDash x → dash_from at (x ++ (45 ∷ y)) ≡ at + length x
unfolding dash_from NoDash
dash-more at [] y h = omega arith
dash-more at (b ∷ bs) y h = rw (h.0, dash_from) (dash-more (at + 1) bs y h.1 ∙ omega arith)

cut-three : (l s r : Bytes) → NoDash l → NoDash s → cut_parts (l ++ ((45 ∷ s) ++ (45 ∷ r))) ≡ record { language = l; script = 45 ∷ s; region = 45 ∷ r }
unfolding cut_parts dash
cut-three l s r nl ns =
    let x = (45 ∷ s) ++ (45 ∷ r) in
    let a : dash_from 0 (l ++ x) ≡ length l = dash-more 0 l (s ++ (45 ∷ r)) nl ∙ omega arith in
    let e : drop (length l + 1) (l ++ x) ≡ s ++ (45 ∷ r) = drop-append-add l x 1 in
    let b : dash_from (length l + 1) (drop (length l + 1) (l ++ x)) ≡ length l + length (45 ∷ s) = ap (dash_from (length l + 1)) e ∙ (dash-more (length l + 1) s r ns ∙ omega arith) in
    let f : drop (length l + length (45 ∷ s)) (l ++ x) ≡ 45 ∷ r = drop-append-add l x (length (45 ∷ s)) ∙ drop-append_seam (45 ∷ s) (45 ∷ r) in
    let g : (length l + length (45 ∷ s)) - length l ≡ length (45 ∷ s) = omega arith in
    rw (a) (rw (b) (rw (f, g, drop-append_seam l x, take-append_seam l x, take-append_seam (45 ∷ s) (45 ∷ r))))

led-some : (t : Tag) → present t ≡ true → led_part t ≡ 45 ∷ t
unfolding led_part present
led-some [] e = clash {b = false} e refl
led-some (b ∷ bs) e = refl

pub record Cut (v : Bytes) : Type 0 where
  pub parts : cut_parts v ≡ parts_of (parse v)
  pub bytes : v ≡ joined_parts (parts_of (parse v))

-- a complete three, printed, is cut into its parts
pub value-cut : (v : Bytes) → is_three v ≡ true → complete (parse v) ≡ true → Cut v
unfolding complete parts_of joined_parts title upper
value-cut v i c =
    let w = parse v in
    let h = three-shaped v i in
    let k = and-true (not (same w.language und)) (present w.script && present w.region) c in
    let m = and-true (present w.script) (present w.region) k.1 in
    let s = led-some w.script m.0 in
    let r = led-some w.region m.1 in
    let e : v ≡ w.language ++ (led_part w.script ++ led_part w.region) = sym (three-printed v i) ∙ key-three w.language w.script w.region in
    let d = cut-three w.language w.script w.region (printed-dash (printed-language w.language h.language))
    (printed-dash (printed-shown a_script title w.script refl printed-script h.script)) in
    let f : v ≡ w.language ++ ((45 ∷ w.script) ++ (45 ∷ w.region)) = e ∙ rw (s, r) in
    record { parts = ap cut_parts f ∙ (d ∙ rw (s, r)); bytes = e }

unfoldable pub map_parts : Option Three → Option Parts
map_parts none = none
map_parts (some t) = some (parts_of t)

module _ (A L P : Bytes) (pass : check to_check A L P ≡ none) where
  abbrev T : Tables
  T = tables_of A L P

  abbrev ok : Passed A L P
  ok = passed A L P pass

  -- a row's value is one that was found
  row-found : (p : Parts) (v : Bytes) → row_value L p ≡ some v → Cut v
  unfolding row_value shorter_value or_value
  row-found p v e = or-found _ _ (or-found _ _ (or-found _ _ (found _))) e
    where
      found : (k : Bytes) → lookup (rows L) k ≡ some v → Cut v
      found k f = let h = likely-value A L P ok k v f in value-cut v h.0 h.1

      or-found : (k : Bytes) (o : Option Bytes) → (o ≡ some v → Cut v) → or_value (lookup (rows L) k) o ≡ some v → Cut v
      or-found k o next f = go (lookup (rows L) k) refl
        where
          go : (q : Option Bytes) → lookup (rows L) k ≡ q → Cut v
          go none g = next (rw (g, or_value) at f)
          go (some w) g = found k (g ∙ (rw (g, or_value) at f))

  -- Maximising, by parts.
  pub fill-parts : (t : Three) → fill_parts L (parts_of t) ≡ map_parts (maximal_three T t)
  unfolding fill_parts maximal_three over_value over_row map_parts parsed
  fill-parts t = rw (complete-parts t, row-parts A L P t) (go (complete t))
    where
      look : (o : Option Bytes) → row_value L (parts_of t) ≡ o → over_value (parts_of t) o ≡ map_parts (over_row t (parsed o))
      look none f = refl
      look (some v) f = ap (λ (q : Parts). some (over_parts (parts_of t) q)) (row-found (parts_of t) v f).parts ∙ ap some (sym (over-parts t (parse v)))

      go : (b : Bool) → cond b (some (parts_of t)) (over_value (parts_of t) (row_value L (parts_of t))) ≡ map_parts (cond b (some t) (over_row t (parsed (row_value L (parts_of t)))))
      go true = refl
      go false = look (row_value L (parts_of t)) refl

  -- the language of a maximised three is known
  known : (m : Three) → Full T m → same m.language und ≡ false
  unfolding complete
  known m f =
      bool_cases (same m.language und)
      (λ e. clash {b = true} refl (sym (and-true (not (same m.language und)) (present m.script && present m.region) f.all).0 ∙ ap not e)) (λ e. e)

  -- Minimising, by parts: a trial t of the maximised three m has its language, and its script and region or none.
  module _ (m : Three) (f : Full T m) where
    trial-fits : (t : Three) → t.language ≡ m.language → Kept T t → without_unknown t ≡ t → complete t ≡ false
        → has_three (trial T t) m ≡ fits_parts L (parts_of m) (parts_of t)
    unfolding trial maximal_three fits_parts over_row parsed has_three fits_value same_three over parts_of
    trial-fits t l k p c = rw (kept_fixed T t k, p, c, row-parts A L P t) (look (row_value L (parts_of t)) refl)
      where
        look : (o : Option Bytes) → row_value L (parts_of t) ≡ o → has_three (over_row t (parsed o)) m ≡ fits_value (parts_of m) (parts_of t) o
        look none q = refl
        look (some v) q =
            rw ((row-found (parts_of t) v q).parts, l, known m f, same_refl m.language, ← led-pick t.script (parse v).script, ← led-pick t.region (parse v).region, same-led (pick t.script (parse v).script) m.script, same-led (pick t.region (parse v).region) m.region)

    plain-script : without zzzz m.script ≡ m.script
    unfolding without_unknown
    plain-script = ap (λ (t : Three). t.script) f.plain

    plain-region : without zz m.region ≡ m.region
    unfolding without_unknown
    plain-region = ap (λ (t : Three). t.region) f.plain

    -- the trials: language, language-region, language-script
    bare-fits : has_three (trial T (three m.language [] [])) m ≡ fits_parts L (parts_of m) (parts3 m.language [] [])
    unfolding parts_of led_part replace without_unknown without complete present same order
    bare-fits = trial-fits (three m.language [] []) refl (record { language = f.kept.language; script = refl; region = refl }) refl (rw (known m f))

    region-fits : has_three (trial T (three m.language [] m.region)) m ≡ fits_parts L (parts_of m) (parts3 m.language [] (led_part m.region))
    unfolding parts_of led_part replace without_unknown without complete present same order
    region-fits =
        trial-fits (three m.language [] m.region) refl (record { language = f.kept.language; script = refl; region = f.kept.region })
        (ap (λ (r : Tag). three m.language [] r) plain-region) (rw (known m f))

    script-fits : has_three (trial T (three m.language m.script [])) m ≡ fits_parts L (parts_of m) (parts3 m.language (led_part m.script) [])
    unfolding parts_of led_part replace without_unknown without complete present same order
    script-fits =
        trial-fits (three m.language m.script []) refl (record { language = f.kept.language; script = f.kept.script; region = refl })
        (ap (λ (x : Tag). three m.language x []) plain-script) (rw (known m f) (and-false (present m.script)))

    pub minimal-parts : minimal_parts L (parts_of m) ≡ parts_of (minimal_three T m)
    unfolding minimal_parts minimal_three parts_of led_part
    minimal-parts =
        rw (bare-fits, region-fits, script-fits)
        (go (fits_parts L (parts_of m) (parts3 m.language [] [])) (fits_parts L (parts_of m) (parts3 m.language [] (led_part m.region))) (fits_parts L (parts_of m) (parts3 m.language (led_part m.script) [])))
      where
        go : (a b c : Bool) → cond a (parts3 m.language [] []) (cond b (parts3 m.language [] (led_part m.region)) (cond c (parts3 m.language (led_part m.script) []) (parts_of m)))
            ≡ parts_of (cond a (three m.language [] []) (cond b (three m.language [] m.region) (cond c (three m.language m.script []) m)))
        go true b c = refl
        go false true c = refl
        go false false true = refl
        go false false false = refl
