-- A group without a type that is exactly `true`; and what one turn of the writing loop does. Assumes nothing.
use mathlib.Core.Path.{◌≡◌, refl, sym, ap, ◌∙◌}
use mathlib.Core.Bool.{Bool, true, false, cond}
use mathlib.Core.List.{List, [], ◌∷◌, ◌++◌, map}
use Prim.Native.Nat.{ℕ, ◌+◌, ◌-◌, ◌≤◌, ◌<◌}
use native.Mathlib.Omega.{arith}
use lib.Dec.{eqb, compare_is_eq}
use lib.ListN.{length, take, drop}
use lib.Seq.{take_at}
use borrow.Author.Tests.{lt-leb, le-leb, eq-eqb, ne_eqb}
use Rattle.standard.specs.Tag.{Tag, same, head_tag}
use Rattle.standard.specs.Grammar.{grouped, flat, drop_true, true_tag}
use Rattle.standard.specs.Reading.{split}
use Rattle.subtag.specs.declared.Subtag.{Subtag}
use Rattle.subtag.specs.Bytes.{normal_byte}
use Rattle.subtag.specs.Subtags.{packed, key_of, subtag_of, PlainBytes, PlainTag}
use Rattle.subtag.specs.Sections.{tags_of, led, Led, Plain}
use Rattle.canonical_order.specs.Section.{is_head, end_from, end_without, trimmed_end, trimmed}
use Rattle.subtag.proofs.Walk.{judged}
use Rattle.canonical_order.proofs.Walk.{step, section-bytes}
use Rattle.subtag.proofs.Keys.{order-key}
use Rattle.canonical_order.proofs.Pending.{led-append, length-led, cut, group_at, Ahead, ahead, head-tags, grouped-all, end_before, map-take}

true-plain : PlainTag true_tag
unfolding PlainTag PlainBytes
true-plain = (omega arith, omega arith, (omega arith, omega arith, (omega arith, omega arith, (omega arith, omega arith, (omega arith, omega arith, tt)))))

same_true : (v : Tag) → PlainTag v → same v true_tag ≡ eqb (key_of v) 8390898132396802048
unfolding same key_of packed
same_true v h = ap compare_is_eq (order-key v true_tag h true-plain)

drop-yes : (k v : Tag) → same v true_tag ≡ true → drop_true (k ∷ v ∷ []) ≡ k ∷ []
unfolding drop_true
drop-yes k v e = rw (e, drop_true)

drop-no : (k v : Tag) → same v true_tag ≡ false → drop_true (k ∷ v ∷ []) ≡ k ∷ v ∷ []
unfolding drop_true
drop-no k v e = rw (e, drop_true)

label-cons : (t : Tag) (ts : List Tag) → length (head_tag (t ∷ ts)) ≡ length t
unfolding head_tag
label-cons t ts = refl

-- a front of a section's subtags, and the bytes of it
front_bytes : (s : List ℕ) (at n : ℕ) (x y : List Tag) → Led (drop at s) → tags_of (drop at s) ≡ x ++ y → length (led x) ≡ n → map normal_byte (take n (drop at s)) ≡ led x
front_bytes s at n x y l e z =
    map-take normal_byte n (drop at s) ∙ ap (take n) (section-bytes (drop at s) l ∙ ap led e ∙ led-append x y) ∙ take_at (led x) (led y) n z

-- the end, by the tests of the code
pub trim-off : (trim : Bool) (s : List ℕ) (next end : ℕ) → trim ≡ false → end ≡ trimmed_end trim s next end
unfolding trimmed_end
trim-off trim s next end e = rw e

pub trim-none : (trim : Bool) (s : List ℕ) (next end : ℕ) → trim ≡ true → end ≤ next → end ≡ trimmed_end trim s next end
unfolding trimmed_end
trim-none trim s next end e h = simp (e, le-leb end next h)

pub trim-on : (trim : Bool) (s : List ℕ) (next end : ℕ) (r : Subtag) → trim ≡ true → next < end → r ≡ subtag_of (head_tag (split (take (length s - (next + 1)) (drop (next + 1) s))))
    → end_without r next end ≡ trimmed_end trim s next end
unfolding trimmed_end
trim-on trim s next end r e h q = simp (e, lt-leb end next h) (ap (λ (t : Subtag). end_without t next end) (judged s (next + 1) r q))

pub record Trimmed (width : ℕ) (trim : Bool) (s : List ℕ) (at next stop : ℕ) : Type 0 where
  pub after : next ≤ stop
  pub fits : stop ≤ length s
  pub bytes : map normal_byte (take (stop - at) (drop at s)) ≡ led (trimmed trim (cut (is_head width) (tags_of (drop at s))))

module _ (width : ℕ) (s : List ℕ) (at next end : ℕ) (h : at < length s) (l : Led (drop at s)) (pl : Plain (tags_of (drop at s)))
    (e : next ≡ at + 1 + length (head_tag (tags_of (drop at s)))) (k : end ≡ end_from width next (tags_of (drop next s))) where
  complete : (trim : Bool) (g : List Tag) (stop : ℕ) → stop ≡ end → cut (is_head width) (tags_of (drop at s)) ≡ g → trimmed trim g ≡ g → Trimmed width trim s at next stop
  complete trim g stop q c d =
      let w = group_at width s at next h l e end k in
      rw q (record { after = w.within; fits = w.fits; bytes = w.bytes ∙ ap led (c ∙ sym (ap (trimmed trim) c ∙ d)) })

  trim-more : (t : Tag) (bs : List Tag) (stop : ℕ) → tags_of (drop at s) ≡ t ∷ tags_of (drop next s) → cut (is_head width) (tags_of (drop at s)) ≡ t ∷ bs
      → tags_of (drop next s) ≡ bs ++ flat (grouped (is_head width) (tags_of (drop next s))).groups → end ≡ next + length (led bs)
      → stop ≡ trimmed_end true s next end → Trimmed width true s at next stop
  unfolding trimmed_end end_without trimmed drop_true Plain subtag_of led
  trim-more t [] stop f c g n q = complete true (t ∷ []) stop (q ∙ simp (le-leb end next (omega arith))) c refl
  trim-more t (v ∷ bs) stop f c g n q = at-type bs refl
    where
      a : Ahead s next
      a = ahead width s at next h l e

      size : end ≡ next + 1 + length v + length (led bs)
      size = let m = length-led v bs in omega arith

      inside : next < length s
      inside = let w = group_at width s at next h l e end k in let z = size in omega (arith, w.fits)

      is : head_tag (split (drop (next + 1) s)) ≡ v
      is = cc (g, (step s next (length (head_tag (split (drop (next + 1) s)))) inside a.begins refl).tags)

      plain : PlainTag v
      plain = (rw (f ∙ ap (◌∷◌ t) g) at pl).1.0

      now-is : stop ≡ cond (eqb (next + 1 + length v) end) (cond (eqb (key_of v) 8390898132396802048) next end) end
      now-is = let z = size in q ∙ simp (lt-leb end next (omega arith), is)

      ends : (b : Bool) → eqb (key_of v) 8390898132396802048 ≡ b → bs ≡ [] → Trimmed width true s at next stop
      ends true b o =
          let z = size in
          let m : length (led bs) ≡ 0 = ap (λ (x : List Tag). length (led x)) o in
          let y : stop ≡ next = now-is ∙ simp (eq-eqb (next + 1 + length v) end (omega arith), b) in
          let x : next - at ≡ length (led (t ∷ [])) = let i = ap (λ (u : List Tag). at + 1 + length (head_tag u)) f in let j = length-led t [] in omega (arith, label-cons t (tags_of (drop next s))) in
          let d : trimmed true (cut (is_head width) (tags_of (drop at s))) ≡ t ∷ [] = ap drop_true (c ∙ ap (λ (r : List Tag). t ∷ v ∷ r) o) ∙ drop-yes t v (same_true v plain ∙ b) in
          rw y (record { after = omega arith; fits = a.fits; bytes = front_bytes s at (next - at) (t ∷ []) (tags_of (drop next s)) l f (sym x) ∙ ap led (sym d) })
      ends false b o =
          let z = size in
          let m : length (led bs) ≡ 0 = ap (λ (x : List Tag). length (led x)) o in
          let y : stop ≡ end = now-is ∙ simp (eq-eqb (next + 1 + length v) end (omega arith), b) in
          complete true (t ∷ v ∷ []) stop y (c ∙ ap (λ (r : List Tag). t ∷ v ∷ r) o) (drop-no t v (same_true v plain ∙ b))

      at-type : (r : List Tag) → bs ≡ r → Trimmed width true s at next stop
      at-type [] o = ends (eqb (key_of v) 8390898132396802048) refl o
      at-type (w ∷ ws) o =
          let z = size in
          let m : length (led bs) ≡ length (led (w ∷ ws)) = ap (λ (x : List Tag). length (led x)) o in
          let j = length-led w ws in
          let y : stop ≡ end = now-is ∙ simp (ne_eqb (next + 1 + length v) end (λ i. omega arith)) in
          complete true (t ∷ v ∷ w ∷ ws) stop y (c ∙ ap (λ (r : List Tag). t ∷ v ∷ r) o) refl

  pub trim-at : (trim : Bool) (stop : ℕ) → stop ≡ trimmed_end trim s next end → Trimmed width trim s at next stop
  unfolding trimmed_end trimmed cut
  trim-at false stop q = complete false _ stop q refl refl
  trim-at true stop q =
      trim-more (head_tag (split (drop (at + 1) s))) (grouped (is_head width) (tags_of (drop next s))).before stop (head-tags width s at next h l e)
      (ap (cut (is_head width)) (head-tags width s at next h l e)) (grouped-all (is_head width) (tags_of (drop next s))) (k ∙ end_before width next (tags_of (drop next s))) q
