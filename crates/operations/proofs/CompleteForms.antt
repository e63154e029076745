-- From the canonical form in a buffer to what maximising and minimising make of it. Assumes nothing.
use mathlib.Core.Path.{◌≡◌, refl, sym, ap, ap₂, ◌∙◌, subst}
use mathlib.Core.Bool.{Bool, true, false}
use mathlib.Core.List.{[], ◌∷◌, ◌++◌, append_assoc}
use mathlib.Core.Option.{Option, none, some, none-ne-some}
use Prim.Native.Nat.{ℕ, ◌+◌, ◌-◌}
use native.Mathlib.Omega.{arith}
use lib.ListN.{length, take, drop, take-append-drop}
use lib.Seq.{take-append_seam, drop-append_seam, drop-append-add}
use Rattle.standard.specs.Delivery.{Bytes, Made as MadeBytes, refusal, Given, given}
use Rattle.std.specs.Prelude.{Result, Ok, Err}
use Rattle.canonical.specs.declared.form.NoForm.{NoForm}
use Rattle.likely.specs.declared.forms.NoForm.{NoForm as NotMade}
use Rattle.likely.specs.declared.forms.NoForm.TheVariants.{NoRow, Overlong, Short}
use Rattle.operations.specs.Answer.{answer_of, given_is, not_formed}
use Rattle.operations.proofs.Canonicalised.{Canonicalised, refused-by, form-not, refusal-one}
use Rattle.operations.proofs.Delivers.{refused-given}
use Rattle.operations.proofs.Wholes.{printable-among}
use Rattle.operations.specs.Completed.{made_is}
use Rattle.standard.specs.Calls.{canonicalise}
use Rattle.standard.specs.Identifier.{Three, Identifier, Tables, Answer, done, refused, canonical, canonical_form, maximised, minimised, then, maximal_three, without_unknown, trial, with_three, part, printed_length}
use Rattle.standard.specs.Reading.{Read, good, bad, read}
use Rattle.standard.specs.Table.{tables_of, check, to_maximise, to_check}
use Rattle.standard.specs.Make.{operate, made, make_of, make}
use Rattle.standard.proofs.Core.{Full, maximal-full}
use Rattle.standard.proofs.Operations.{bounded-done}
use Rattle.standard.proofs.Round.{Shaped, Printable, length-print}
use Rattle.standard.proofs.Closed.{fill-shaped, strip-shaped, core-printable}
use Rattle.standard.proofs.Table.{Passed, passed, good-tables, shaped-tables}
use Rattle.standard.proofs.Whole.{same-canonical, narrow-likely}
use Rattle.table.specs.Hints.{Indexed}
use Rattle.canonical.specs.declared.form.Form.{Form}
use Rattle.canonical.specs.Form.{refusal as refused_as, form_of, formed, canonical_of, no_form_is, outcome_of, outcome}
use Rattle.likely.specs.Parts.{led_part, Parts, parts_of, joined_parts, fill_parts, HasRoom}
use Rattle.likely.specs.Forms.{given_by, bytes_of, made_parts, RoomFor, ReadyFor}
use Rattle.operations.specs.Both.{operation_of}
use Rattle.operations.specs.Slices.{Slices}
use Rattle.likely.proofs.Laws.{known-parts, map_parts, fill-parts}
use Rattle.standard.specs.Tag.{Tag}
use Rattle.likely.proofs.Delivered.{form-length}
use Rattle.operations.proofs.CompleteMakes.{rest_of, print-rest, maximised-made, minimised-made, shaped-short}

pub slices : (buf a b c d : Bytes) (l s r n : ℕ) → l ≡ length a → s ≡ l + length b → r ≡ s + length c → n ≡ r + length d → take n buf ≡ (a ++ (b ++ c)) ++ d → Slices buf a b c d l s r n
slices buf a b c d l s r n el es er en e =
    let y = drop n buf in
    let z : buf ≡ a ++ (b ++ (c ++ (d ++ y))) = sym (take-append-drop n buf) ∙ (ap (λ (x : Bytes). x ++ y) e ∙ (append_assoc (a ++ (b ++ c)) d y ∙ (append_assoc a (b ++ c) (d ++ y) ∙ ap (λ (x : Bytes). a ++ x) (append_assoc b c (d ++ y))))) in
    let k₁ : s - l ≡ length b = omega arith in
    let k₂ : r - s ≡ length c = omega arith in
    let k₃ : n - r ≡ length d = omega arith in
    let d₁ : drop l buf ≡ b ++ (c ++ (d ++ y)) = ap₂ drop el z ∙ drop-append_seam a (b ++ (c ++ (d ++ y))) in
    let s₂ : s ≡ length a + length b = omega arith in
    let d₂ : drop s buf ≡ c ++ (d ++ y) = ap₂ drop s₂ z ∙ (drop-append-add a (b ++ (c ++ (d ++ y))) (length b) ∙ drop-append_seam b (c ++ (d ++ y))) in
    let r₂ : r ≡ length a + (length b + length c) = omega arith in
    let d₃ : drop r buf ≡ d ++ y = ap₂ drop r₂ z ∙ (drop-append-add a (b ++ (c ++ (d ++ y))) (length b + length c) ∙ (drop-append-add b (c ++ (d ++ y)) (length c) ∙ drop-append_seam c (d ++ y))) in
    record {
      first = ap₂ take el z ∙ take-append_seam a (b ++ (c ++ (d ++ y)));
      second = ap₂ take k₁ d₁ ∙ take-append_seam b (c ++ (d ++ y));
      third = ap₂ take k₂ d₂ ∙ take-append_seam c (d ++ y);
      fourth = ap₂ take k₃ d₃ ∙ take-append_seam d y;
    }

some_one : {p q : Parts} → ◌≡◌ {A = Option Parts} (some p) (some q) → p ≡ q
some_one e = cc

led-size : (t : Tag) → length (led_part t) ≡ part t
unfolding led_part part
led-size [] = refl
led-size (b ∷ bs) = refl

module _ (A L : Bytes) (pass : check to_maximise A L [] ≡ none) (x : Bytes) (f : Form) (buf : Bytes) (w : Canonicalised A x f buf) where
  abbrev T : Tables
  T = tables_of A L []

  abbrev whole : check to_check A L [] ≡ none
  whole = narrow-likely A L ∙ pass

  abbrev ok : Passed A L []
  ok = passed A L [] whole

  abbrev c : Identifier
  c = w.form

  pub canonicalises : canonical T w.input ≡ done c
  canonicalises = same-canonical A L [] [] [] w.input ∙ w.does

  printable : Printable c
  unfolding operate
  printable = printable-among A L [] x canonicalise w.input c whole w.reads canonicalises

  shaped : (t : Three) → maximal_three T (without_unknown c.core) ≡ some t → Shaped t
  shaped t e = fill-shaped T (shaped-tables A L [] ok) (without_unknown c.core) t (strip-shaped T (shaped-tables A L [] ok) c.core printable.core) e

  full : (t : Three) → maximal_three T (without_unknown c.core) ≡ some t → Full T t
  unfolding canonical canonical_form trial
  full t e =
      let k = (bounded-done (canonical_form T w.input) c canonicalises).0 in
      maximal-full T (good-tables A L [] ok) w.input.core t (ap (λ (i : Identifier). maximal_three T (without_unknown i.core)) k ∙ e)

  printables : (t : Three) → maximal_three T (without_unknown c.core) ≡ some t → Printable (with_three c t)
  printables t e = core-printable T (shaped-tables A L [] ok) c t printable (shaped t e)

  pub made_by : (b : Bool) → make T (operation_of b) x ≡ made_parts b L (rest_of c) (parts_of c.core)
  unfolding make make_of operate maximised minimised then operation_of
  made_by false = rw (w.reads, canonicalises) (maximised-made A L [] whole c printables)
  made_by true = rw (w.reads, canonicalises) (minimised-made A L [] whole c printables full)

  pub ready : RoomFor L (parts_of c.core)
  unfolding map_parts
  ready = record {
    first = subst HasRoom (known-parts c.core) (omega (arith, shaped-short (without_unknown c.core) (strip-shaped T (shaped-tables A L [] ok) c.core printable.core)));
    again = λ q e. again q (ap (fill_parts L) (known-parts c.core) ∙ e);
  }
    where
      look : (o : Option Three) → maximal_three T (without_unknown c.core) ≡ o → (q : Parts) → map_parts o ≡ some q → HasRoom q
      look none e q k = absurd (none-ne-some q k)
      look (some t) e q k = let z : parts_of t ≡ q = some_one k in subst HasRoom z (omega (arith, shaped-short t (shaped t e)))

      again : (q : Parts) → fill_parts L (parts_of (without_unknown c.core)) ≡ some q → HasRoom q
      again q e = look (maximal_three T (without_unknown c.core)) refl q (sym (fill-parts A L [] whole (without_unknown c.core)) ∙ e)

  -- how long the printed parts are
  record Sizes : Type 0 where
    language : f.language ≡ length c.core.language
    script : f.script ≡ f.language + length (led_part c.core.script)
    region : f.region ≡ f.script + length (led_part c.core.region)
    len : f.len ≡ f.region + length (rest_of c)

  sizes : Sizes
  unfolding form_of parts_of bytes_of joined_parts
  sizes =
      let e = w.ends in
      let n : printed_length c ≡ length c.core.language + length (led_part c.core.script) + length (led_part c.core.region) + length (rest_of c) =
      sym (length-print c printable) ∙ (ap length (print-rest c) ∙ form-length c.core.language (led_part c.core.script) (led_part c.core.region) (rest_of c)) in
      let a = ap (λ (g : Form). g.language) e in
      let b = ap (λ (g : Form). g.script) e in
      let d = ap (λ (g : Form). g.region) e in
      let k = ap (λ (g : Form). g.len) e in
      let p = led-size c.core.script in
      let q = led-size c.core.region in
      record { language = a; script = omega (arith, a, b, p); region = omega (arith, b, d, q); len = omega (arith, d, k, n, p, q) }

  pub rest-length : f.len - f.region ≡ length (rest_of c)
  rest-length = let k = sizes.len in omega arith

  pub cuts : Slices buf (parts_of c.core).language (parts_of c.core).script (parts_of c.core).region (rest_of c) f.language f.script f.region f.len
  unfolding parts_of bytes_of joined_parts
  cuts = slices buf _ _ _ _ f.language f.script f.region f.len sizes.language sizes.script sizes.region sizes.len (w.bytes ∙ print-rest c)

pub by-slices : (b : Bool) (L hints : Bytes) (p q : Parts) (rest d : Bytes) (G : Given) (out : Bytes) → q ≡ p → d ≡ rest
    → (ReadyFor L hints q → G ≡ given (made_parts b L d q) out) → ReadyFor L hints p → G ≡ given (made_parts b L rest p) out
by-slices b L hints p q rest d G out e ed h k =
    h (subst (ReadyFor L hints) (sym e) k) ∙ ap₂ (λ (x : Bytes) (q : Parts). given (made_parts b L x q) out) ed e

-- what holds of a table with any hints, of one whose rows ascend with its hints
pub by_indexed : (f : Form) (buf : Bytes) (b : Bool) (o : Result ℕ NotMade) (out out' : Bytes) (L' hints' L hints : Bytes) → L' ≡ L → hints' ≡ hints → Indexed L hints
    → ((p : Parts) → (rest : Bytes) → Slices buf p.language p.script p.region rest f.language f.script f.region f.len → ReadyFor L' hints' p → given_by o out' ≡ given (made_parts b L' rest p) out)
    → (p : Parts) → (rest : Bytes) → Slices buf p.language p.script p.region rest f.language f.script f.region f.len → RoomFor L p → given_by o out' ≡ given (made_parts b L rest p) out
by_indexed f buf b o out out' L' hints' L hints e g i h p rest s k =
    h p rest s (rw (e, g) (record { indexed = i; room = k })) ∙ ap (λ (x : Bytes). given (made_parts b x rest p) out) e

-- A refusal of canonicalising stands.
pub refused-made : (A L x : Bytes) (b : Bool) (n p : ℕ) → outcome A x ≡ refused_as n p → make (tables_of A L []) (operation_of b) x ≡ refusal n p 0
unfolding outcome canonical_of formed make make_of made operate operation_of maximised minimised then
refused-made A L x b n p e = go (read x) e
  where
    operated : (i : Identifier) (m : ℕ) → canonical (tables_of A [] []) i ≡ refused m → operate (tables_of A L []) (operation_of b) i ≡ refused m
    operated i m q = both b (same-canonical A L [] [] [] i ∙ q)
      where
        both : (c : Bool) → canonical (tables_of A L []) i ≡ refused m → operate (tables_of A L []) (operation_of c) i ≡ refused m
        both false z = rw z
        both true z = rw z

    by : (i : Identifier) (a : Answer) → canonical (tables_of A [] []) i ≡ a → formed a ≡ refused_as n p → made (operate (tables_of A L []) (operation_of b) i) ≡ refusal n p 0
    by i (done c) q k = form-not k
    by i (refused m) q k = let z = refusal-one k in ap made (operated i m q) ∙ rw (z.0, ← z.1)

    go : (a : Read) → canonical_of (tables_of A [] []) a ≡ refused_as n p → make_of (tables_of A L []) (operation_of b) a ≡ refusal n p 0
    go (bad m q) k = let z = refusal-one k in rw (z.0, z.1)
    go (good i) k = by i (canonical (tables_of A [] []) i) refl k

pub refusal-stands : (A L x : Bytes) (b : Bool) (c : Result Form NoForm) (r : NoForm) (buf out : Bytes) → c ≡ Err r → outcome_of c buf ≡ outcome A x
    → given_is (Err (not_formed r)) out ≡ given (make (tables_of A L []) (operation_of b) x) out
refusal-stands A L x b c r buf out k e =
    refused-given r out
    ∙ ap (λ (m : MadeBytes). given m out) (sym (refused-made A L x b (no_form_is r).number (no_form_is r).place (refused-by A x buf k e)))

-- what was made, with the numbers of the operation
made-given : (o : Result ℕ NotMade) (out : Bytes) → given_is (made_is o) out ≡ given_by o out
unfolding given_is answer_of made_is given_by
made-given (Ok n) out = refl
made-given (Err NoRow) out = refl
made-given (Err Overlong) out = refl
made-given (Err Short) out = refl

pub made-answer : (A L : Bytes) (pass : check to_maximise A L [] ≡ none) (x : Bytes) (f : Form) (buf : Bytes) (w : Canonicalised A x f buf) (b : Bool) (o : Result ℕ NotMade) (out out' : Bytes)
    → ((p : Parts) → (rest : Bytes) → Slices buf p.language p.script p.region rest f.language f.script f.region f.len → RoomFor L p → given_by o out' ≡ given (made_parts b L rest p) out)
    → given_is (made_is o) out' ≡ given (make (tables_of A L []) (operation_of b) x) out
made-answer A L pass x f buf w b o out out' h =
    made-given o out' ∙ h (parts_of w.form.core) (rest_of w.form) (cuts A L pass x f buf w) (ready A L pass x f buf w)
    ∙ ap (λ (m : MadeBytes). given m out) (sym (made_by A L pass x f buf w b))
