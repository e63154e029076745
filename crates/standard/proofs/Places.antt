-- 02, T-10, for all bytes; a file to open first, beside Theorem.antt: cutting the input at the places of its parts
-- gives the written subtags back (`given_back`), they are all the subtags before the first singleton, in order
-- (`all-written`), and they don't overlap (`not-overlapping`). Assumes nothing.
use mathlib.Core.Path.{◌≡◌, refl, sym, ap, ◌∙◌}
use mathlib.Core.Bool.{Bool, true, false}
use mathlib.Core.Logic.{inl, inr}
use mathlib.Core.List.{List, [], ◌∷◌, ◌++◌, map, cons≢nil, head-eq_of_cons-eq, tail-eq_of_cons-eq}
use mathlib.Core.Option.{Option, none, some, some-ne-none}
use Prim.Native.Nat.{ℕ, suc, ◌+◌, ◌≤◌}
use native.Mathlib.Omega.{arith}
use lib.ListN.{length, take, drop, length-map}
use Rattle.standard.specs.Tag.{Tag, same, onto, All}
use Rattle.standard.specs.Grammar.{separator, lower_byte, title, upper, Kind, a_script, a_region, a_variant, a_none, kind, kind_of, size_of, wrong_length, variant_kind, is_variant, is_language, is_singleton, only}
use Rattle.standard.specs.Identifier.{Three, three, und, Identifier, part, parts}
use Rattle.standard.specs.Reading.{optional, split, Fault, no_bytes, too_long, unclean, bad_tag, wrong_size, Stage, after_language, after_script, after_root, rest_fault, root, start, by_part, part_fault, no_language, up_to, grammar_fault, fault_by, fault_of, of_kind, find, core_of, after_first, identifier_of, read_as, read, good}
use Rattle.standard.specs.Table.{lower}
use Rattle.standard.specs.Places.{Span, span, nowhere, spans_from, span_of, variant_spans, Places, places_of, cut_out, cut_lower, GivenBack, shown, written, Apart, Inside}
use Rattle.standard.specs.Report.{report_of, report}
use Rattle.standard.proofs.Tags.{same-eq}
use Rattle.standard.proofs.General.{clash, bool_cases}
use Rattle.standard.proofs.Groups.{Lacks}
use Rattle.standard.proofs.Split.{Printed, no_byte, byte}
use Rattle.standard.proofs.Shapes.{printed-script, printed-region}
use Rattle.standard.proofs.Faults.{none-bad_tag, Variants, Maybe, kind-variant, Rest, none_rest, Tail, none_tail, after-root}
use Rattle.standard.proofs.Arranged.{first_of-none}
use Rattle.standard.proofs.Sound.{up_to-all, find-kind, good-eq, bad-good}
use Rattle.standard.proofs.Bounds.{split_parts, up_from}
use Rattle.standard.proofs.Numbering.{front}

-- one byte further on
shift : (b : ℕ) (bs : List ℕ) (n : ℕ) (ts : List Tag) → map (cut_lower (b ∷ bs)) (spans_from (suc n) ts) ≡ map (cut_lower bs) (spans_from n ts)
unfolding spans_from cut_out
shift b bs n [] = refl
shift b bs n (t ∷ ts) =
    let e : suc n + suc (length t) ≡ suc (n + suc (length t)) = omega arith in
    rw e (ap (◌∷◌ (lower (take (length t) (drop n bs)))) (shift b bs (n + suc (length t)) ts))

-- the subtags are where `spans_from` puts them
pub cuts : (x : List ℕ) → map (cut_lower x) (spans_from 0 (split x)) ≡ split x
unfolding spans_from cut_out split lower onto
cuts [] = refl
cuts (b ∷ bs) = go (separator b) (split bs) (cuts bs)
  where
    go : (c : Bool) (ts : List Tag) → map (cut_lower bs) (spans_from 0 ts) ≡ ts
        → map (cut_lower (b ∷ bs)) (spans_from 0 (elim c [ true ↦ [] ∷ ts | false ↦ onto (lower_byte b) ts ])) ≡ elim c [ true ↦ [] ∷ ts | false ↦ onto (lower_byte b) ts ]
    go true ts e = ap (◌∷◌ []) (shift b bs 0 ts ∙ e)
    go false [] e = refl
    go false (t ∷ ts) e =
        let z : 0 + suc (length t) ≡ suc (length t) = omega arith in
        let y : 0 + suc (suc (length t)) ≡ suc (suc (length t)) = omega arith in
        let h = head-eq_of_cons-eq e in
        let k : map (cut_lower bs) (spans_from (suc (length t)) ts) ≡ ts = rw z at (tail-eq_of_cons-eq e) in
        rw (y, shift b bs (suc (length t)) ts, k) (ap (λ (u : Tag). (lower_byte b ∷ u) ∷ ts) h)

-- Over any way to cut that gives the subtags of `spans_from` back.
module _ (f : Span → Tag) where
  prefix : (p : Tag → Bool) (at : ℕ) (ts : List Tag) → map f (spans_from at ts) ≡ ts → map f (spans_from at (up_to p ts)) ≡ up_to p ts
  unfolding spans_from up_to
  prefix p at [] e = refl
  prefix p at (t ∷ ts) e = go (p t) (prefix p (at + suc (length t)) ts (tail-eq_of_cons-eq e))
    where
      go : (b : Bool) → map f (spans_from (at + suc (length t)) (up_to p ts)) ≡ up_to p ts → map f (spans_from at (elim b [ true ↦ [] | false ↦ t ∷ up_to p ts ])) ≡ elim b [ true ↦ [] | false ↦ t ∷ up_to p ts ]
      go true k = refl
      go false k = rw k (ap (λ (u : Tag). u ∷ up_to p ts) (head-eq_of_cons-eq e))

  found : f nowhere ≡ [] → (k : Kind) (at : ℕ) (ts : List Tag) → map f (spans_from at ts) ≡ ts → f (span_of k at ts) ≡ find k ts
  unfolding spans_from span_of find
  found n k at [] e = n
  found n k at (t ∷ ts) e = go (of_kind k (kind_of t)) (found n k (at + suc (length t)) ts (tail-eq_of_cons-eq e))
    where
      go : (b : Bool) → f (span_of k (at + suc (length t)) ts) ≡ find k ts → f (elim b [ true ↦ span at (length t) | false ↦ span_of k (at + suc (length t)) ts ]) ≡ elim b [ true ↦ t | false ↦ find k ts ]
      go true q = head-eq_of_cons-eq e
      go false q = q

  all_found : (at : ℕ) (ts : List Tag) → map f (spans_from at ts) ≡ ts → map f (variant_spans at ts) ≡ only is_variant ts
  unfolding spans_from variant_spans only
  all_found at [] e = refl
  all_found at (t ∷ ts) e = go (is_variant t) (all_found (at + suc (length t)) ts (tail-eq_of_cons-eq e))
    where
      go : (b : Bool) → map f (variant_spans (at + suc (length t)) ts) ≡ only is_variant ts
          → map f (elim b [ true ↦ span at (length t) ∷ variant_spans (at + suc (length t)) ts | false ↦ variant_spans (at + suc (length t)) ts ]) ≡ elim b [ true ↦ t ∷ only is_variant ts | false ↦ only is_variant ts ]
      go true q = rw q (ap (λ (u : Tag). u ∷ only is_variant ts) (head-eq_of_cons-eq e))
      go false q = q

-- a part that is absent is nowhere
kind-empty : (k : Kind) → of_kind k (kind_of []) ≡ false
unfolding of_kind kind_of kind size_of
kind-empty a_script = refl
kind-empty a_region = refl
kind-empty a_variant = refl
kind-empty a_none = refl

find-empty : (k : Kind) (at : ℕ) (ts : List Tag) → find k ts ≡ [] → span_of k at ts ≡ nowhere
unfolding span_of find
find-empty k at [] e = refl
find-empty k at (t ∷ ts) e = go t (of_kind k (kind_of t)) refl e (find-empty k (at + suc (length t)) ts)
  where
    go : (u : Tag) (b : Bool) → of_kind k (kind_of u) ≡ b → ◌≡◌ {A = Tag} (elim b [ true ↦ u | false ↦ find k ts ]) []
        → (find k ts ≡ [] → span_of k (at + suc (length t)) ts ≡ nowhere) → elim b [ true ↦ span at (length u) | false ↦ span_of k (at + suc (length t)) ts ] ≡ nowhere
    go [] true f q next = clash f (kind-empty k)
    go (b ∷ bs) true f q next = absurd (cons≢nil q)
    go u false f q next = next q

-- where a subtag that may be absent stands
unfoldable pub optional_span : ℕ → Tag → Span
optional_span at [] = nowhere
optional_span at (b ∷ bs) = span at (length (b ∷ bs))

-- script, region and variants behind a first subtag, from `at`, `m` and `n` on
pub record RestAt (at m n : ℕ) (s r : Tag) (vs ts : List Tag) : Type 0 where
  pub script : span_of a_script at ts ≡ optional_span at s
  pub region : span_of a_region at ts ≡ optional_span m r
  pub variants : variant_spans at ts ≡ spans_from n vs

variants_at : (at : ℕ) (vs : List Tag) → Variants vs → RestAt at at at [] [] vs vs
unfolding Variants All span_of variant_spans spans_from of_kind variant_kind optional_span
variants_at at [] h = record { script = refl; region = refl; variants = refl }
variants_at at (v ∷ vs) h =
    let n = variants_at (at + suc (length v)) vs h.1 in
    record {
      script = rw (h.0, span_of) n.script;
      region = rw (h.0, span_of) n.region;
      variants = rw (kind-variant v a_variant h.0, variant_spans) (ap (◌∷◌ (span at (length v))) n.variants);
    }

region-at : (at n : ℕ) (r : Tag) (vs : List Tag) → n ≡ at + part r → Maybe a_region r → Variants vs → RestAt at at n [] r vs (optional r ++ vs)
unfolding Maybe optional span_of variant_spans of_kind variant_kind optional_span part
region-at at n [] vs e m h = let q : n ≡ at = omega arith in rw q (variants_at at vs h)
region-at at n (b ∷ bs) vs e (inl f) h = absurd (cons≢nil f)
region-at at n (b ∷ bs) vs e (inr f) h =
    let q : n ≡ at + suc (length (b ∷ bs)) = omega arith in
    let k = variants_at (at + suc (length (b ∷ bs))) vs h in
    record { script = rw (f, span_of) k.script; region = rw (f, span_of); variants = rw (kind-variant (b ∷ bs) a_region f, variant_spans) (rw q k.variants) }

pub rest_at : (at m n : ℕ) (s r : Tag) (vs : List Tag) → m ≡ at + part s → n ≡ m + part r → Maybe a_script s → Maybe a_region r → Variants vs
    → RestAt at m n s r vs (optional s ++ (optional r ++ vs))
unfolding Maybe optional span_of variant_spans of_kind variant_kind optional_span part
rest_at at m n [] r vs e f k l h = let q : m ≡ at = omega arith in rw q (region-at at n r vs (omega arith) l h)
rest_at at m n (b ∷ bs) r vs e f (inl k) l h = absurd (cons≢nil k)
rest_at at m n (b ∷ bs) r vs e f (inr k) l h =
    let q : m ≡ at + suc (length (b ∷ bs)) = omega arith in
    let g = region-at (at + suc (length (b ∷ bs))) n r vs (omega arith) l h in
    record { script = rw (k, span_of); region = rw (k, span_of) (rw q g.region); variants = rw (kind-variant (b ∷ bs) a_script k, variant_spans) g.variants }

-- together they are all of these subtags
region-shown : (at n : ℕ) (r : Tag) (vs : List Tag) → n ≡ at + part r → shown (optional_span at r) ++ spans_from n vs ≡ spans_from at (optional r ++ vs)
unfolding optional_span shown optional spans_from part
region-shown at n [] vs e = let q : n ≡ at = omega arith in rw q
region-shown at n (b ∷ bs) vs e = let q : n ≡ at + suc (length (b ∷ bs)) = omega arith in rw q

rest-shown : (at m n : ℕ) (s r : Tag) (vs : List Tag) → m ≡ at + part s → n ≡ m + part r
    → shown (optional_span at s) ++ (shown (optional_span m r) ++ spans_from n vs) ≡ spans_from at (optional s ++ (optional r ++ vs))
unfolding optional_span shown optional spans_from part
rest-shown at m n [] r vs e f = let q : m ≡ at = omega arith in rw q (region-shown at n r vs (omega arith))
rest-shown at m n (b ∷ bs) r vs e f =
    let q : m ≡ at + suc (length (b ∷ bs)) = omega arith in
    ap (◌∷◌ (span at (length (b ∷ bs)))) (rw q (region-shown (at + suc (length (b ∷ bs))) n r vs (omega arith)))

rest-written : (at : ℕ) (ts : List Tag) → Rest ts → shown (span_of a_script at ts) ++ (shown (span_of a_region at ts) ++ variant_spans at ts) ≡ spans_from at ts
rest-written at ts r =
    let m = at + part r.script in
    let n = m + part r.region in
    let q = rest_at at m n r.script r.region r.variants refl refl r.a-script r.a-region r.some-variants in
    rw r.same (rw (q.script, q.region, q.variants) (rest-shown at m n r.script r.region r.variants refl refl))

tail_written : (at : ℕ) (ts : List Tag) → Tail ts → shown (span_of a_region at ts) ++ variant_spans at ts ≡ spans_from at ts
tail_written at ts r =
    let n = at + part r.region in
    let q = region-at at n r.region r.variants refl r.a-region r.some-variants in
    rw r.same (rw (q.region, q.variants) (region-shown at n r.region r.variants refl))

spans_apart : (at : ℕ) (ts : List Tag) → Apart at (spans_from at ts)
unfolding Apart spans_from
spans_apart at [] = tt
spans_apart at (t ∷ ts) = (omega arith, spans_apart (at + suc (length t)) ts)

spans-inside : (n at : ℕ) (ts : List Tag) → at + parts ts ≤ suc n → Inside n (spans_from at ts)
unfolding Inside All spans_from parts
spans-inside n at [] h = tt
spans-inside n at (t ∷ ts) h = (omega arith, spans-inside n (at + suc (length t)) ts (omega arith))

-- canonical case undone
lower-printed : {p t : Tag} → Printed p t → lower p ≡ t
unfolding lower
lower-printed no_byte = refl
lower-printed (byte s r) = rw (s.lowers, lower-printed r)

lower-case : (k : Kind) (f : Tag → Tag) → f [] ≡ [] → ((t : Tag) → kind_of t ≡ k → Printed (f t) t) → (t : Tag) → Maybe k t → lower (f t) ≡ t
unfolding Maybe lower
lower-case k f e p t (inl q) = rw q (rw e)
lower-case k f e p t (inr q) = lower-printed (p t q)

script-low : (ts : List Tag) → lower (title (find a_script ts)) ≡ find a_script ts
unfolding title
script-low ts = lower-case a_script title refl printed-script (find a_script ts) (find-kind a_script ts)

region-low : (ts : List Tag) → lower (upper (find a_region ts)) ≡ find a_region ts
unfolding upper
region-low ts = lower-case a_region upper refl printed-region (find a_region ts) (find-kind a_region ts)

no-script-at : (at : ℕ) (ts : List Tag) → title (find a_script ts) ≡ [] → span_of a_script at ts ≡ nowhere
unfolding lower
no-script-at at ts z = find-empty a_script at ts (sym (script-low ts) ∙ ap lower z)

no-region-at : (at : ℕ) (ts : List Tag) → upper (find a_region ts) ≡ [] → span_of a_region at ts ≡ nowhere
unfolding lower
no-region-at at ts z = find-empty a_region at ts (sym (region-low ts) ∙ ap lower z)

-- what is said of the places of one language part
record Part (f : Span → Tag) (ts : List Tag) (ps : Places) (c : Three) : Type 0 where
  given : GivenBack f c (only is_variant (after_first ts)) ps
  all : written ps ≡ spans_from 0 ts

module _ (v w : ℕ) (f : Span → Tag) (n : f nowhere ≡ []) (b : ℕ) (bs : Tag) (ts : List Tag) (e : map f (spans_from 0 ((b ∷ bs) ∷ ts)) ≡ (b ∷ bs) ∷ ts) where
  abbrev first : Tag
  first = b ∷ bs

  abbrev at : ℕ
  at = suc (length first)

  -- the first, and the others
  at_first : f (span 0 (length first)) ≡ first
  unfolding spans_from
  at_first = head-eq_of_cons-eq e

  next : 0 + suc (length first) ≡ suc (length first)
  next = omega arith

  at_others : map f (spans_from at ts) ≡ ts
  unfolding spans_from
  at_others = rw next at (tail-eq_of_cons-eq e)

  language-first : is_language first ≡ true → rest_fault w after_language [] at ts ≡ none
      → Part f (first ∷ ts) (record { language = span 0 (length first); script = span_of a_script at ts; region = span_of a_region at ts; variants = variant_spans at ts }) (three first (title (find a_script ts)) (upper (find a_region ts)))
  unfolding spans_from after_first written shown
  language-first l q =
      record {
        given = record {
          a-language = inl at_first;
          a-script = found f n a_script at ts at_others ∙ sym (script-low ts);
          a-region = found f n a_region at ts at_others ∙ sym (region-low ts);
          all-variants = all_found f at ts at_others;
          no-language = λ z. absurd (omega arith);
          no-script = no-script-at at ts;
          no-region = no-region-at at ts;
        };
        all = ap (◌∷◌ (span 0 (length first)))
            (rest-written at ts (none_rest w [] at ts q) ∙ ap (λ (m : ℕ). spans_from m ts) (sym next));
      }

  root-first : same first root ≡ true → rest_fault w after_root [] at ts ≡ none
      → Part f (first ∷ ts) (record { language = span 0 (length first); script = nowhere; region = nowhere; variants = [] }) (three und [] [])
  unfolding spans_from after_first written shown lower only
  root-first l q =
      let z : ts ≡ [] = after-root w [] at ts q in
      record {
        given = record {
          a-language = inr (refl, inl (at_first ∙ same-eq first root l));
          a-script = n;
          a-region = n;
          all-variants = rw z;
          no-language = λ z. absurd (omega arith);
          no-script = λ _. refl;
          no-region = λ _. refl;
        };
        all = ap (◌∷◌ (span 0 (length first))) (rw z);
      }

  script-first : kind_of first ≡ a_script → rest_fault w after_script [] at ts ≡ none
      → Part f (first ∷ ts) (record { language = nowhere; script = span 0 (length first); region = span_of a_region at ts; variants = variant_spans at ts }) (three und (title first) (upper (find a_region ts)))
  unfolding spans_from after_first written shown Maybe title lower
  script-first l q =
      record {
        given = record {
          a-language = inr (refl, inr refl);
          a-script = at_first ∙ sym (lower-case a_script title refl printed-script first (inr l));
          a-region = found f n a_region at ts at_others ∙ sym (region-low ts);
          all-variants = all_found f at ts at_others;
          no-language = λ _. refl;
          no-script = λ z. absurd (cons≢nil (sym (lower-case a_script title refl printed-script first (inr l)) ∙ ap lower z));
          no-region = no-region-at at ts;
        };
        all = ap (◌∷◌ (span 0 (length first)))
            (tail_written at ts (none_tail w [] at ts q) ∙ ap (λ (m : ℕ). spans_from m ts) (sym next));
      }

  part_of : part_fault v w start 0 (first ∷ ts) ≡ none → Part f (first ∷ ts) (places_of (first ∷ ts)) (core_of (first ∷ ts))
  unfolding part_fault start places_of core_of
  part_of q =
      bool_cases (is_language first) (λ h. rw (h, places_of) (rw (h, core_of) (language-first h (at_next after_language (rw (h, start, part_fault) at q)))))
      (λ h. bool_cases (same first root) (λ k. rw (h, k, places_of) (rw (h, k, core_of) (root-first k (at_next after_root (rw (h, k, start, part_fault) at q)))))
      (λ k. go h k (kind_of first) refl))
    where
      at_next : (st : Stage) → rest_fault w st [] (0 + suc (length first)) ts ≡ none → rest_fault w st [] at ts ≡ none
      at_next st z = rw next at z

      go : is_language first ≡ false → same first root ≡ false → (k : Kind) → kind_of first ≡ k → Part f (first ∷ ts) (places_of (first ∷ ts)) (core_of (first ∷ ts))
      go h k a_script m = rw (h, k, places_of) (rw (h, k, core_of) (script-first m (at_next after_script (rw (h, k, m, start, part_fault) at q))))
      go h k a_region m = absurd (some-ne-none _ (rw (h, k, m, start, part_fault) at q))
      go h k a_variant m = absurd (some-ne-none _ (rw (h, k, m, start, part_fault) at q))
      go h k a_none m = absurd (some-ne-none _ (rw (h, k, m, start, part_fault) at q))

-- a first subtag with no bytes is refused before
part-some : (v w : ℕ) (f : Span → Tag) → f nowhere ≡ [] → (ts : List Tag) → map f (spans_from 0 ts) ≡ ts → no_language v ts ≡ none → Lacks wrong_size ts → part_fault v w start 0 ts ≡ none → Part f ts (places_of ts) (core_of ts)
unfolding no_language All wrong_size wrong_length size_of
part-some v w f n [] e k o q = absurd (some-ne-none _ k)
part-some v w f n ([] ∷ ts) e k o q = clash {b = true} refl o.0
part-some v w f n ((b ∷ bs) ∷ ts) e k o q = part_of v w f n b bs ts e q

up-all : (p : Tag → Bool) (ts : List Tag) → Lacks wrong_size ts → Lacks wrong_size (up_to p ts)
up-all p ts h = up_to-all p (λ (t : Tag). wrong_size t ≡ false) ts h

-- the subtags before the first singleton
abbrev before : List ℕ → List Tag
before x = up_to is_singleton (split x)

-- they are where they are placed
before-cuts : (x : List ℕ) → map (cut_lower x) (spans_from 0 (before x)) ≡ before x
before-cuts x = prefix (cut_lower x) is_singleton 0 (split x) (cuts x)

-- the language part of every accepted input
accepted-part : (x : List ℕ) → fault_of x ≡ none → Part (cut_lower x) (before x) (places_of (before x)) (core_of (before x))
unfolding fault_of fault_by grammar_fault cut_out lower
accepted-part x q =
    let f₁ = first_of-none (no_bytes x) _ q in
    let f₂ = first_of-none (too_long x) _ f₁.1 in
    let f₃ = first_of-none (unclean 0 x) _ f₂.1 in
    let f₄ = first_of-none (bad_tag 4 wrong_size 0 (split x)) _ f₃.1 in
    let f₅ = first_of-none _ _ f₄.1 in
    let f₆ = first_of-none _ _ f₅.1 in
    let w = front (split x) in
    part-some by_part.first by_part.later (cut_lower x) refl (before x) (before-cuts x) (rw w at f₅.0)
    (up-all is_singleton (split x) (none-bad_tag 4 wrong_size 0 (split x) f₄.0)) (rw w at f₆.0)

-- the places of an accepted input, and what it was read as
record Reported (x : List ℕ) (i : Identifier) : Type 0 where
  core : core_of (before x) ≡ i.core
  variants : only is_variant (after_first (before x)) ≡ i.variants
  part : Part (cut_lower x) (before x) (places_of (before x)) (core_of (before x))

reported : (x : List ℕ) (i : Identifier) → read x ≡ good i → Reported x i
unfolding read read_as identifier_of
reported x i e = go (fault_of x) refl e
  where
    go : (o : Option Fault) → fault_of x ≡ o → read_as o (identifier_of (split x)) ≡ good i → Reported x i
    go (some g) q r = bad-good r
    go none q r =
        let w = front (split x) in
        let j = good-eq r in
        record {
          core = ap core_of (sym w) ∙ ap (λ (k : Identifier). k.core) j;
          variants = ap (λ (ts : List Tag). only is_variant (after_first ts)) (sym w) ∙ ap (λ (k : Identifier). k.variants) j;
          part = accepted-part x q;
        }

-- 02, T-10: cutting the input at these places gives each written subtag back
pub given_back : (x : List ℕ) (i : Identifier) → read x ≡ good i → GivenBack (cut_lower x) i.core i.variants (places_of (up_to is_singleton (split x)))
given_back x i e = let r = reported x i e in rw (← r.core, ← r.variants) r.part.given

-- 02, T-10: the pieces are the subtags before the first singleton, in order
pub all-written : (x : List ℕ) (i : Identifier) → read x ≡ good i
    → (written (places_of (up_to is_singleton (split x))) ≡ spans_from 0 (up_to is_singleton (split x)))
    × (map (cut_lower x) (written (places_of (up_to is_singleton (split x)))) ≡ up_to is_singleton (split x))
all-written x i e =
    let r = reported x i e in
    let w : written (places_of (before x)) ≡ spans_from 0 (before x) = r.part.all in
    (w, rw w (before-cuts x))

-- 02, T-10: pieces don't overlap; and each ends inside the input
pub not-overlapping : (x : List ℕ) (i : Identifier) → read x ≡ good i
    → Apart 0 (written (places_of (up_to is_singleton (split x)))) × Inside (length x) (written (places_of (up_to is_singleton (split x))))
not-overlapping x i e =
    let k = up_from is_singleton (split x) in
    let l = split_parts x in
    rw (all-written x i e).0 (spans_apart 0 (before x), spans-inside (length x) 0 (before x) (omega (arith, k, l)))

-- there are as many places of variants as the report counts variants
pub variants-counted : (x : List ℕ) (i : Identifier) → read x ≡ good i → length (places_of (up_to is_singleton (split x))).variants ≡ (report x).variants
unfolding report report_of
variants-counted x i e =
    sym (length-map (places_of (before x)).variants (cut_lower x)) ∙ ap length (given_back x i e).all-variants ∙ rw e
