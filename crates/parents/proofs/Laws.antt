-- The chain by bytes is the chain of the definitions. Assumes nothing.
use mathlib.Core.Path.{◌≡◌, refl, sym, ap, ◌∙◌, subst}
use mathlib.Core.Bool.{Bool, true, false}
use mathlib.Core.List.{List, [], ◌∷◌, ◌++◌, map, append-nil, append_assoc}
use mathlib.Core.Option.{Option, none, some}
use Prim.Native.Nat.{ℕ, zero, suc, ◌+◌, ◌-◌, ◌≤◌, ◌<◌}
use native.Mathlib.Omega.{arith}
use borrow.Author.Tests.{lt-ltb, le-ltb, eq-eqb}
use lib.Dec.{eqb, ltb}
use lib.ListN.{length, get_or, take, length-append}
use lib.Seq.{take-append_seam, get_or-append_seam, get_or-append-add}
use Rattle.standard.specs.Tag.{Tag, order, same, present, All}
use Rattle.standard.specs.Grammar.{flat, title, upper, a_script, a_region, is_language, language_size, size_of, every, small}
use Rattle.standard.specs.Identifier.{Three, three, und, Identifier, Tables}
use Rattle.standard.specs.Reading.{optional, rest, tags, joined, print}
use Rattle.standard.specs.Delivery.{Bytes}
use Rattle.standard.specs.Chain.{Line, line, all_but_last, shorter, parent_of, parent, is_und_alone, chain}
use Rattle.standard.specs.Table.{lookup, rows, parse, parsed, print_three, tables_of, check, to_check}
use Rattle.standard.specs.Make.{identifier, print_line}
use Rattle.standard.proofs.Tags.{Ascending, same-eq}
use Rattle.standard.proofs.Faults.{Variants}
use Rattle.standard.proofs.Sound.{shown-none}
use Rattle.standard.proofs.Dashes.{NoDash, printed-dash}
use Rattle.standard.proofs.General.{clash, bool_cases}
use Rattle.standard.proofs.Split.{AllPrinted, no-tag, tag}
use Rattle.standard.proofs.Round.{Printable, all-printed, language-printed}
use Rattle.standard.proofs.Lines.{Plain, plain-printable, parent-plain, print-injective}
use Rattle.standard.proofs.Listing.{root-printed}
use Rattle.standard.proofs.Table.{Passed, passed, three-printed, parent-value, parents-shaped}
use Rattle.parents.specs.Texts.{last_below, last_dash, without_last, parent_by, row_text, parent_text, chain_text}

-- the line that the chain of a printable identifier starts with
pub first_plain : (c : Identifier) → Printable c → Plain (line c.core c.variants)
first_plain c h = record { core = h.core; variants = h.variants; words = h.variant-words; ascend = h.variants-ascend }

no-dash-at : (y : Bytes) (k : ℕ) → NoDash y → k < length y → eqb (get_or y k 0) 45 ≡ false
unfolding NoDash
no-dash-at [] k h l = absurd (omega arith)
no-dash-at (b ∷ bs) zero h l = h.0
no-dash-at (b ∷ bs) (suc k) h l = no-dash-at bs k h.1 (omega arith)

-- the last `-` of x-y, where y has none, stands behind x
last-in : (x y : Bytes) (n m : ℕ) → NoDash y → m ≡ length x + n → n ≤ length y → last_below (suc m) (x ++ (45 ∷ y)) ≡ length x
unfolding last_below
last-in x y zero m h e k =
    let q : m ≡ length x = omega arith in
    let g : eqb (get_or (x ++ (45 ∷ y)) m 0) 45 ≡ true = eq-eqb (get_or (x ++ (45 ∷ y)) m 0) 45 (ap (λ (j : ℕ). get_or (x ++ (45 ∷ y)) j 0) q ∙ get_or-append_seam x 45 y 0) in
    rw (g, last_below) q
last-in x y (suc n) zero h e k = absurd (omega arith)
last-in x y (suc n) (suc m) h e k =
    let v : get_or (x ++ (45 ∷ y)) (suc m) 0 ≡ get_or y n 0 = ap (λ (j : ℕ). get_or (x ++ (45 ∷ y)) j 0) e ∙ get_or-append-add x (45 ∷ y) (suc n) 0 in
    let g : eqb (get_or (x ++ (45 ∷ y)) (suc m) 0) 45 ≡ false = ap (λ (j : ℕ). eqb j 45) v ∙ no-dash-at y n h (omega arith) in
    rw (g, last_below) (last-in x y n m h (omega arith) (omega arith))

dash-last : (x y : Bytes) → NoDash y → last_dash (x ++ (45 ∷ y)) ≡ length x
unfolding last_dash
dash-last x y h =
    let l : length (x ++ (45 ∷ y)) ≡ suc (length x + length y) = length-append x (45 ∷ y) ∙ omega arith in
    ap (λ (n : ℕ). last_below n (x ++ (45 ∷ y))) l ∙ last-in x y (length y) (length x + length y) h refl (omega arith)

without-last : (x y : Bytes) → NoDash y → without_last (x ++ (45 ∷ y)) ≡ x
unfolding without_last
without-last x y h =
    let d = dash-last x y h in
    let l : length (x ++ (45 ∷ y)) ≡ suc (length x + length y) = length-append x (45 ∷ y) ∙ omega arith in
    let g : ltb (last_dash (x ++ (45 ∷ y))) (length (x ++ (45 ∷ y))) ≡ true = lt-ltb (last_dash (x ++ (45 ∷ y))) (length (x ++ (45 ∷ y))) (omega arith) in
    rw (g, without_last) (ap (λ (n : ℕ). take n (x ++ (45 ∷ y))) d ∙ take-append_seam x (45 ∷ y))

-- a subtag alone has no `-`
none_below : (n : ℕ) (x : Bytes) → NoDash x → n ≤ length x → last_below n x ≡ length x
unfolding last_below
none_below zero x h k = refl
none_below (suc n) x h k = rw (no-dash-at x n h (omega arith), last_below) (none_below n x h (omega arith))

without-only : (x : Bytes) → NoDash x → without_last x ≡ und
unfolding without_last last_dash
without-only x h =
    let d : last_dash x ≡ length x = none_below (length x) x h (omega arith) in
    let g : ltb (last_dash x) (length x) ≡ false = le-ltb (last_dash x) (length x) (omega arith) in
    rw (g, without_last)

-- Several subtags, without the last.
unfoldable AllNoDash : List Tag → Type 0
AllNoDash [] = Unit {0}
AllNoDash (t ∷ ts) = NoDash t × AllNoDash ts

unfoldable last_tag : Tag → List Tag → Tag
last_tag t [] = t
last_tag t (u ∷ ts) = last_tag u ts

last-no-dash : (t : Tag) (ts : List Tag) → AllNoDash (t ∷ ts) → NoDash (last_tag t ts)
unfolding AllNoDash last_tag
last-no-dash t [] h = h.0
last-no-dash t (u ∷ ts) h = last-no-dash u ts h.1

joined-split : (t u : Tag) (ts : List Tag) → joined (t ∷ u ∷ ts) ≡ joined (all_but_last (t ∷ u ∷ ts)) ++ (45 ∷ last_tag u ts)
unfolding joined all_but_last last_tag
joined-split t u [] = refl
joined-split t u (w ∷ ts) =
    ap (λ (x : Bytes). t ++ (45 ∷ x)) (joined-split u w ts) ∙ sym (append_assoc t (45 ∷ joined (u ∷ all_but_last (w ∷ ts))) (45 ∷ last_tag w ts))

joined-last : (t u : Tag) (ts : List Tag) → AllNoDash (t ∷ u ∷ ts) → without_last (joined (t ∷ u ∷ ts)) ≡ joined (all_but_last (t ∷ u ∷ ts))
unfolding AllNoDash
joined-last t u ts h = ap without_last (joined-split t u ts) ∙ without-last (joined (all_but_last (t ∷ u ∷ ts))) (last_tag u ts) (last-no-dash u ts h.1)

-- The subtags of a line, printed.
unfoldable pub line_tags : Line → List Tag
line_tags l = l.core.language ∷ (optional l.core.script ++ (optional l.core.region ++ l.variants))

line-joined : (l : Line) → print_line l ≡ joined (line_tags l)
unfolding print_line identifier print tags rest line_tags flat
line-joined l = ap joined (append-nil _ ∙ append-nil _)

all-printed-dash : {ps ts : List Tag} → AllPrinted ps ts → AllNoDash ps
unfolding AllNoDash
all-printed-dash no-tag = tt
all-printed-dash (tag h r) = (printed-dash h, all-printed-dash r)

line-no-dash : (l : Line) → Plain l → AllNoDash (line_tags l)
unfolding AllNoDash line_tags identifier rest flat
line-no-dash l h =
    let i = identifier l in
    let p = plain-printable l h in
    let e : (rest i ++ flat i.extensions) ++ i.private ≡ rest i = append-nil _ ∙ append-nil _ in
    (printed-dash (language-printed i p), subst AllNoDash e (all-printed-dash (all-printed i p)))

all-but-append : (t : Tag) (xs : List Tag) (v : Tag) (vs : List Tag) → all_but_last (t ∷ (xs ++ (v ∷ vs))) ≡ t ∷ (xs ++ all_but_last (v ∷ vs))
unfolding all_but_last
all-but-append t [] v vs = refl
all-but-append t (x ∷ xs) v vs = ap (◌∷◌ t) (all-but-append x xs v vs)

joined-without : (t : Tag) (xs : List Tag) (v : Tag) (vs : List Tag) → AllNoDash (t ∷ (xs ++ (v ∷ vs)))
    → without_last (joined (t ∷ (xs ++ (v ∷ vs)))) ≡ joined (t ∷ (xs ++ all_but_last (v ∷ vs)))
joined-without t [] v vs h = joined-last t v vs h ∙ ap joined (all-but-append t [] v vs)
joined-without t (x ∷ xs) v vs h = joined-last t x (xs ++ (v ∷ vs)) h ∙ ap joined (all-but-append t (x ∷ xs) v vs)

-- A line without variants is its three, printed.
three-line : (t : Three) → print_line (line t []) ≡ print_three t
unfolding line_tags print_three
three-line t = line-joined (line t []) ∙ ap (λ (ts : List Tag). joined (t.language ∷ (optional t.script ++ ts))) (append-nil (optional t.region))

three-no-dash : (t : Three) → Plain (line t []) → AllNoDash (t.language ∷ (optional t.script ++ optional t.region))
unfolding line_tags
three-no-dash t h = subst (λ (ts : List Tag). AllNoDash (t.language ∷ (optional t.script ++ ts))) (append-nil (optional t.region)) (line-no-dash (line t []) h)

shorter-text : (t : Three) → Plain (line t []) → print_three (shorter t) ≡ without_last (print_three t)
unfolding shorter print_three optional joined all_but_last AllNoDash
shorter-text t h = go t.region t.script (three-no-dash t h)
  where
    go : (r s : Tag) → AllNoDash (t.language ∷ (optional s ++ optional r))
        → print_three (elim r [ ◌∷◌ b bs ↦ three t.language s [] | [] ↦ elim s [ ◌∷◌ b bs ↦ three t.language [] [] | [] ↦ three und [] [] ] ])
        ≡ without_last (joined (t.language ∷ (optional s ++ optional r)))
    go (b ∷ bs) s n = sym (joined-without t.language (optional s) (b ∷ bs) [] n)
    go [] (b ∷ bs) n = sym (joined-without t.language [] (b ∷ bs) [] n)
    go [] [] n = sym (without-only t.language n.0)

variants-text : (t : Three) (v : Tag) (vs : List Tag) → Plain (line t (v ∷ vs)) → print_line (line t (all_but_last (v ∷ vs))) ≡ without_last (print_line (line t (v ∷ vs)))
unfolding line_tags
variants-text t v vs h =
    let X = optional t.script ++ optional t.region in
    let a : (ws : List Tag) → print_line (line t ws) ≡ joined (t.language ∷ (X ++ ws)) =
    λ ws. line-joined (line t ws) ∙ ap (λ (ts : List Tag). joined (t.language ∷ ts)) (sym (append_assoc (optional t.script) (optional t.region) ws)) in
    let n = subst (λ (ts : List Tag). AllNoDash (t.language ∷ ts)) (sym (append_assoc (optional t.script) (optional t.region) (v ∷ vs))) (line-no-dash (line t (v ∷ vs)) h) in
    a (all_but_last (v ∷ vs)) ∙ (sym (joined-without t.language X v vs n) ∙ ap without_last (sym (a (v ∷ vs))))

but-length : (v : Tag) (vs : List Tag) → length (all_but_last (v ∷ vs)) ≡ length vs
unfolding all_but_last
but-length v [] = refl
but-length v (w ∷ vs) = ap suc (but-length w vs)

abbrev root_line : Line
root_line = line (three und [] []) []

root-plain : Plain root_line
unfolding All Ascending Variants title upper is_language language_size size_of every small
root-plain = record { core = record { language = refl; script = shown-none a_script title refl; region = shown-none a_region upper refl }; variants = tt; words = tt; ascend = tt }

module _ (A L P : Bytes) (pass : check to_check A L P ≡ none) where
  abbrev T : Tables
  T = tables_of A L P

  abbrev ok : Passed A L P
  ok = passed A L P pass

  -- without variants: by the table, or the last subtag dropped
  three-text : (t : Three) → Plain (line t []) → print_line (line (parent_of (T.parents t) t) []) ≡ parent_by (lookup (rows P) (print_three t)) (print_three t)
  unfolding tables_of parsed parent_of parent_by
  three-text t h = go (lookup (rows P) (print_three t)) refl
    where
      go : (o : Option Bytes) → lookup (rows P) (print_three t) ≡ o → print_line (line (parent_of (parsed o) t) []) ≡ parent_by o (print_three t)
      go none e = three-line (shorter t) ∙ shorter-text t h
      go (some w) e = three-line (parse w) ∙ three-printed w (parent-value A L P ok (print_three t) w e)

  parent-text : (l : Line) → Plain l → print_line (parent T l) ≡ parent_text P (length l.variants) (print_line l)
  unfolding parent parent_text row_text parent_by
  parent-text l h = go l.variants h
    where
      go : (vs : List Tag) → Plain (line l.core vs)
          → print_line (parent T (line l.core vs)) ≡ parent_text P (length vs) (print_line (line l.core vs))
      go [] k = three-text l.core k ∙ ap (λ (x : Bytes). parent_by (lookup (rows P) x) x) (sym (three-line l.core))
      go (v ∷ vs) k = variants-text l.core v vs k

  -- the number of variants falls with each parent
  parent-count : (l : Line) → length (parent T l).variants ≡ length l.variants - 1
  unfolding parent
  parent-count l = go l.variants
    where
      go : (vs : List Tag) → length (parent T (line l.core vs)).variants ≡ length vs - 1
      go [] = refl
      go (v ∷ vs) = but-length v vs ∙ omega arith

  root-text : (l : Line) → Plain l → same (print_line l) und ≡ is_und_alone l
  unfolding is_und_alone same order present
  root-text l h =
      bool_cases (is_und_alone l) (λ e. ap (λ (x : Bytes). same x und) (root-printed l e) ∙ sym e)
      (λ e. bool_cases (same (print_line l) und)
      (λ f. let q = print-injective T (parents-shaped A L P ok) l root_line h root-plain (same-eq (print_line l) und f ∙ sym (root-printed root_line refl)) in
      clash {b = is_und_alone root_line} refl (ap is_und_alone (sym q) ∙ e))
      (λ f. f ∙ sym e))

  pub chain-text : (n : ℕ) (l : Line) → Plain l → map print_line (chain T n l) ≡ chain_text P n (length l.variants) (print_line l)
  unfolding chain chain_text
  chain-text zero l h = refl
  chain-text (suc n) l h =
      go (is_und_alone l) (chain-text n (parent T l) (parent-plain T (parents-shaped A L P ok) l h))
      ∙ (ap (λ (b : Bool). lines b (length (parent T l).variants) (print_line (parent T l))) (sym (root-text l h))
      ∙ (ap (λ (m : ℕ). lines (same (print_line l) und) m (print_line (parent T l))) (parent-count l) ∙ ap (lines (same (print_line l) und) (length l.variants - 1)) (parent-text l h)))
    where
      lines : Bool → ℕ → Bytes → List Bytes
      lines b m y = elim b [ true ↦ print_line l ∷ [] | false ↦ print_line l ∷ chain_text P n m y ]

      go : (b : Bool) → map print_line (chain T n (parent T l)) ≡ chain_text P n (length (parent T l).variants) (print_line (parent T l))
          → map print_line (elim b [ true ↦ l ∷ [] | false ↦ l ∷ chain T n (parent T l) ])
          ≡ lines b (length (parent T l).variants) (print_line (parent T l))
      go true next = refl
      go false next = ap (◌∷◌ (print_line l)) next
