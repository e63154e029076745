-- Rows at the front of the rest of a table, by the fields that one pass finds.
-- Assumes nothing.
use mathlib.Core.Path.{◌≡◌, refl, sym, ap, ap₂, ◌∙◌}
use mathlib.Core.Bool.{Bool, true, false, not, ◌&&◌}
use mathlib.Core.Option.{Option as Maybe}
use mathlib.Core.Logic.{◌⊎◌, inl, inr, ⊎_elim}
use mathlib.Core.List.{List, [], ◌∷◌, ◌++◌, append_assoc, cons≢nil, head-eq_of_cons-eq, tail-eq_of_cons-eq}
use Prim.Native.Nat.{ℕ, zero, suc, ◌+◌, ◌-◌, ◌≤◌, ◌<◌}
use native.Mathlib.Omega.{arith}
use native.Mathlib.Numerals.{add-one}
use lib.Dec.{ltb, eqb}
use lib.ListN.{length, get_or, take, drop, length-append, length-drop, get_or-eq_default}
use lib.Seq.{split_at, get_or-drop, take-append_seam, get_or-append_seam, drop_at, drop-drop, take_all, take-take, length-take-le}
use borrow.Author.Tests.{lt-ltb, ltb-true, eq-eqb, ne_eqb, eqb-true, lt-leb}
use Rattle.standard.specs.Tag.{Tag, same, order, All}
use Rattle.standard.specs.Grammar.{small, capital, digit, every, is_language}
use Rattle.standard.specs.Identifier.{three, und}
use Rattle.standard.specs.Reading.{fault}
use Rattle.standard.specs.Table.{pieces, rows_fault, parse, is_three, language_is_und, is_variant_tag, likely_shape, parent_shape, alias_shape, shape_of}
use Rattle.standard.proofs.General.{bool_cases, clash, and-true, both_ways, le-or-lt, no}
use Rattle.subtag.proofs.Bytes.{small-in, capital-in, digit-in}
use Rattle.byte_string.specs.Strings.{end_of}
use Rattle.table.specs.Lines.{starts}
use Rattle.byte_string.proofs.Stores.{all_from}
use Rattle.std.specs.Prelude.{Option, Some, None}
use Rattle.row_shapes.specs.declared.lsr.Front.{Front}
use Rattle.row_shapes.specs.declared.pairs.Pair.{Pair}
use Rattle.row_shapes.specs.declared.pairs.Line.{Line}
use Rattle.row_shapes.specs.declared.aliases.AliasKind.{AliasKind}
use Rattle.row_shapes.specs.declared.aliases.AliasKind.TheVariants.{Language, Script, Region, Variant}
use Rattle.row_shapes.specs.declared.Table.{Table}
use Rattle.row_shapes.specs.declared.Table.TheVariants.{Aliases, Likely, Parents}
use Rattle.row_shapes.specs.Shapes.{is_script, is_region, between, others, no_more, WholeAt, FrontAt, ThreeAt}
use Rattle.row_shapes.specs.Rows.{is_known, known_parts, language_name, kind_named, language_alias, shape_by, AliasAt, PairAt, LineAt, kind_is, key_end, second_tab}
use Rattle.row_shapes.proofs.Tags.{language-every, script-every, region-every, variant-every}
use Rattle.row_shapes.proofs.Pieces.{Free, pieces_more, pieces-alone, pieces-first, others-at, others-none, more-some}
use Rattle.row_shapes.proofs.Threes.{three-ok}
use Rattle.standard.proofs.Table.{three-printed as three-text, pieces-some}
use Rattle.row_shapes.proofs.Fronts.{led, printed-led}
use Rattle.row_shapes.proofs.Sorted.{every_append}
use Rattle.row_shapes.proofs.Passes.{row-split, last_of, pass-short, pass_shape}
use Rattle.row_shapes.proofs.Tests.{known_is, alias-by}
use Rattle.table.proofs.Lines.{drop-take}

-- The bytes of subtags, and the separator, are above every byte that ends a field.
above : ℕ → Bool
above b = ltb 44 b

small-above : (b : ℕ) → small b ≡ true → above b ≡ true
unfolding above
small-above b e = let h = small-in b e in lt-ltb 44 b (omega (arith, h.low))

capital-above : (b : ℕ) → capital b ≡ true → above b ≡ true
unfolding above
capital-above b e = let h = capital-in b e in lt-ltb 44 b (omega (arith, h.low))

digit-above : (b : ℕ) → digit b ≡ true → above b ≡ true
unfolding above
digit-above b e = let h = digit-in b e in lt-ltb 44 b (omega (arith, h.low))

above-free : (b : ℕ) → b < 45 → (t : Tag) → every above t ≡ true → Free b t
unfolding above every All
above-free b h [] e = tt
above-free b h (x ∷ t) e = let g = and-true (ltb 44 x) (every above t) e in (ne_eqb x b (λ q. let k = ltb-true 44 x g.0 in omega arith), above-free b h t g.1)

led-above : (t : Tag) → every above t ≡ true → every above (led t) ≡ true
unfolding led every above
led-above [] e = refl
led-above (b ∷ t) e = e

three-above : (x : List ℕ) → is_three x ≡ true → every above x ≡ true
unfolding every
three-above x e =
    let t = parse x in
    let o = three-ok x e in
    ap (every above) (sym (three-text x e) ∙ printed-led t.language t.script t.region)
    ∙ every_append above t.language (led t.script ++ led t.region) (language-every above small-above capital-above digit-above t.language o.language)
    (every_append above (led t.script) (led t.region) (led-above t.script (script t.script o.script)) (led-above t.region (region t.region o.region)))
  where
    script : (t : Tag) → (t ≡ []) ⊎ (is_script t ≡ true) → every above t ≡ true
    script t (inl e) = ap (every above) e
    script t (inr e) = script-every above small-above capital-above digit-above t e

    region : (t : Tag) → (t ≡ []) ⊎ (is_region t ≡ true) → every above t ≡ true
    region t (inl e) = ap (every above) e
    region t (inr e) = region-every above small-above capital-above digit-above t e

pub three-free : (b : ℕ) → b < 45 → (x : List ℕ) → is_three x ≡ true → Free b x
three-free b h x e = above-free b h x (three-above x e)

-- where a text without the byte ends
end-over : (b : ℕ) (x z : List ℕ) → Free b x → end_of b (x ++ (b ∷ z)) 0 ≡ length x
unfolding end_of All
end-over b [] z f = rw (eq-eqb b b refl)
end-over b (a ∷ x) z f = rw f.0 (ap suc (end-over b x z f.1))

free-append : (b : ℕ) (x y : List ℕ) → Free b x → Free b y → Free b (x ++ y)
unfolding All
free-append b [] y f g = g
free-append b (a ∷ x) y f g = (f.0, free-append b x y f.1 g)

-- a text of one piece
pub one_piece : (b : ℕ) (s t : List ℕ) → pieces b s ≡ t ∷ [] → s ≡ t
unfolding no_more
one_piece b s t e =
    let q = sym (pieces-first b s (end_of b s 0) refl) ∙ e in
    let r = tail-eq_of_cons-eq q in
    ⊎_elim (λ h. sym (take_all (end_of b s 0) s h) ∙ head-eq_of_cons-eq q) (λ h. clash (ap no_more r) (more-some b s (end_of b s 0) h)) (le-or-lt (length s) (end_of b s 0))

-- a text of two
two-pieces : (l k v : List ℕ) → pieces 9 l ≡ k ∷ v ∷ [] → l ≡ k ++ (9 ∷ v)
unfolding others
two-pieces l k v e =
    let a = end_of 9 l 0 in
    let q = sym (pieces-first 9 l a refl) ∙ e in
    let r = tail-eq_of_cons-eq q in
    ⊎_elim (λ h. absurd (cons≢nil (sym r ∙ others-none 9 l a h)))
    (λ h.
    let u : pieces 9 (drop (a + 1) l) ≡ v ∷ [] = rw (lt-ltb a (length l) h, ← add-one a) at r in
    row-split 9 l 0 a refl h ∙ ap₂ (λ (x y : List ℕ). x ++ (9 ∷ y)) (head-eq_of_cons-eq q) (one_piece 9 (drop (a + 1) l) v u))
    (le-or-lt (length l) a)

-- the line at the front of s, by its fields
line-split : (s k v : List ℕ) → end_of 10 s 0 < length s → pieces 9 (take (end_of 10 s 0) s) ≡ k ∷ v ∷ [] → s ≡ k ++ (9 ∷ (v ++ (10 ∷ drop (end_of 10 s 0 + 1) s)))
line-split s k v h e =
    row-split 10 s 0 (end_of 10 s 0) refl h
    ∙ ap (λ (x : List ℕ). x ++ (10 ∷ drop (end_of 10 s 0 + 1) s)) (two-pieces (take (end_of 10 s 0) s) k v e)
    ∙ append_assoc k (9 ∷ v) (10 ∷ drop (end_of 10 s 0 + 1) s)

module _ (k v z : List ℕ) (p : is_three k ≡ true) (q : is_three v ≡ true) where
  abbrev line : List ℕ
  line = k ++ (9 ∷ v)

  abbrev whole : List ℕ
  whole = k ++ (9 ∷ (v ++ (10 ∷ z)))

  line-front : whole ≡ line ++ (10 ∷ z)
  line-front = sym (append_assoc k (9 ∷ v) (10 ∷ z))

  line-free : Free 10 line
  unfolding All
  line-free = free-append 10 k (9 ∷ v) (three-free 10 (omega arith) k p) (refl, three-free 10 (omega arith) v q)

  line-end : end_of 10 whole 0 ≡ length line
  line-end = ap (λ (x : List ℕ). end_of 10 x 0) line-front ∙ end-over 10 line z line-free

  line-is : take (length line) whole ≡ line
  line-is = ap (take (length line)) line-front ∙ take-append_seam line (10 ∷ z)

  line-fields : pieces 9 line ≡ k ∷ v ∷ []
  line-fields = pieces_more 9 k v (three-free 9 (omega arith) k p) ∙ ap (◌∷◌ k) (pieces-alone 9 v (three-free 9 (omega arith) v q))

  line-key : end_of 9 line 0 ≡ length k
  line-key = end-over 9 k v (three-free 9 (omega arith) k p)

-- The two texts that the code found.
record Found (s : List ℕ) (r : Pair) : Type 0 where
  end : r.end ≡ end_of 10 s 0
  fields : pieces 9 (take r.end s) ≡ take r.tab s ∷ between s r.tab r.end ∷ []
  key : r.tab ≡ end_of 9 (take r.end s) 0

found : (s : List ℕ) (r : Pair) → PairAt s r → Found s r
found s r f =
    let k = take r.tab s in
    let v = between s r.tab r.end in
    let z = drop (r.end + 1) s in
    let a = f.low in
    let b = f.high in
    let p = f.key in
    let q = f.value.is in
    let m : length k ≡ r.tab = length-take-le r.tab s (omega arith) in
    let n : length v ≡ r.end - (r.tab + 1) = length-take-le (r.end - (r.tab + 1)) (drop (r.tab + 1) s) (simp length-drop (omega arith)) in
    let o : length (k ++ (9 ∷ v)) ≡ r.end = length-append k (9 ∷ v) ∙ size (length v) (length k) n m a in
    let t : take r.end s ≡ k ++ (9 ∷ v) = ap₂ take (sym o) f.text ∙ line-is k v z p q in
    record {
      end = sym o ∙ sym (line-end k v z p q) ∙ ap (λ (x : List ℕ). end_of 10 x 0) (sym f.text);
      fields = ap (pieces 9) t ∙ line-fields k v z p q;
      key = sym m ∙ sym (line-key k v z p q) ∙ ap (λ (x : List ℕ). end_of 9 x 0) (sym t);
    }
  where
    size : (y x : ℕ) → y ≡ r.end - (r.tab + 1) → x ≡ r.tab → r.tab < r.end → x + suc y ≡ r.end
    size y x e f h = omega arith

pub inside : (s : List ℕ) (i b : ℕ) → 0 < b → get_or s i 0 ≡ b → i < length s
inside s i b h e = ⊎_elim (λ g. absurd (let z = get_or-eq_default s 0 g in omega arith)) (λ g. g) (le-or-lt (length s) i)

abbrev NoPair : List ℕ → Type 0
NoPair s = (k v z : List ℕ) → s ≡ k ++ (9 ∷ (v ++ (10 ∷ z))) → is_three k ≡ true → is_three v ≡ true → ⊥

-- the front of a text, cut off there
cut-three : (x : List ℕ) (v : Front) → FrontAt x v → ThreeAt (take v.end x) (record { language = v.language; script = v.script })
cut-three x v f =
    let l = v.language in
    let m = v.script in
    let n = v.end in
    let a = f.low in
    let b = f.mid in
    let z = length-take-le n x f.high in
    record {
      is = f.is;
      low = f.low;
      high = omega arith;
      parts =
          f.parts
          ∙ ap (λ (t : Tag). three t (between x l m) (between x m n)) (sym (take-take l n x (omega arith)))
          ∙ ap₂ (three (take l (take n x))) (sym (ap (take (m - (l + 1))) (drop-take (l + 1) n x) ∙ take-take (m - (l + 1)) (n - (l + 1)) (drop (l + 1) x) (omega arith))) (sym (drop-take (m + 1) n x));
    }

-- such a text in front of a byte that ends a field is read whole
whole-in : (s k z : List ℕ) (b : ℕ) → b < 45 → s ≡ k ++ (b ∷ z) → is_three k ≡ true → WholeAt s (length k)
whole-in s k z b h e p = record {
  room = let n = ap length e ∙ length-append k (b ∷ z) in omega arith;
  low = let g : get_or s (length k) 0 ≡ b = ap (λ (x : List ℕ). get_or x (length k) 0) e ∙ get_or-append_seam k b z 0 in omega arith;
  three = ap (λ (x : List ℕ). is_three (take (length k) x)) e ∙ ap is_three (take-append_seam k (b ∷ z)) ∙ p;
}

byte-behind : (s k z : List ℕ) (b n : ℕ) → s ≡ k ++ (b ∷ z) → length k ≡ n → get_or s n 0 ≡ b
byte-behind s k z b n e h = ap₂ (λ (x : List ℕ) (i : ℕ). get_or x i 0) e (sym h) ∙ get_or-append_seam k b z 0

pub pair-no-key : (s : List ℕ) → ((f : ℕ) → WholeAt s f → ⊥) → NoPair s
pair-no-key s n x w z e p q = n (length x) (whole-in s x (w ++ (10 ∷ z)) 9 (omega arith) e p)

module _ (s : List ℕ) (k : Front) (f : FrontAt s k) where
  key-read : (x w z : List ℕ) → s ≡ x ++ (9 ∷ (w ++ (10 ∷ z))) → is_three x ≡ true → length x ≡ k.end
  key-read x w z e p = f.whole (length x) (whole-in s x (w ++ (10 ∷ z)) 9 (omega arith) e p)

  pub pair-no-tab : eqb (get_or s k.end 0) 9 ≡ false → NoPair s
  pair-no-tab g x w z e p q =
      clash (eq-eqb _ _ (byte-behind s x (w ++ (10 ∷ z)) 9 k.end e (key-read x w z e p))) g

  behind : (x w z : List ℕ) → s ≡ x ++ (9 ∷ (w ++ (10 ∷ z))) → is_three x ≡ true → drop (k.end + 1) s ≡ w ++ (10 ∷ z)
  behind x w z e p =
      ap (drop (k.end + 1)) (e ∙ sym (append_assoc x (9 ∷ []) (w ++ (10 ∷ z)))) ∙ drop_at (x ++ (9 ∷ [])) (w ++ (10 ∷ z)) (k.end + 1) (length-append x (9 ∷ []) ∙ ap (λ (n : ℕ). n + 1) (key-read x w z e p))

  -- the text behind the tab, as the code lends it
  abbrev lent : List ℕ
  lent = take (length s - (k.end + 1)) (drop (k.end + 1) s)

  pub pair-no-value : ((f : ℕ) → WholeAt lent f → ⊥) → NoPair s
  pair-no-value n x w z e p q = n (length w) (whole-in lent w z 10 (omega arith) (all_from (k.end + 1) s ∙ behind x w z e p) q)

  module _ (v : Front) (h : FrontAt lent v) where
    value-at : FrontAt (drop (k.end + 1) s) v
    value-at = rw (← all_from (k.end + 1) s) h

    pub pair-no-end : eqb (get_or s (k.end + 1 + v.end) 0) 10 ≡ false → NoPair s
    pair-no-end g x w z e p q =
        let b = behind x w z e p in
        let r = value-at.whole (length w) (whole-in (drop (k.end + 1) s) w z 10 (omega arith) b q) in
        clash (eq-eqb _ _ (sym (get_or-drop (k.end + 1) s v.end 0) ∙ byte-behind (drop (k.end + 1) s) w z 10 v.end b r)) g

    pub pair-yes : eqb (get_or s k.end 0) 9 ≡ true → eqb (get_or s (k.end + 1 + v.end) 0) 10 ≡ true
        → PairAt s (record { tab = k.end; language = v.language; script = v.script; end = k.end + 1 + v.end })
    pair-yes b' d' =
        let b : get_or s k.end 0 ≡ 9 = eqb-true _ 9 b' in
        let d : get_or s (k.end + 1 + v.end) 0 ≡ 10 = eqb-true _ 10 d' in
        let y = drop (k.end + 1) s in
        let z : k.end + 1 + v.end - (k.end + 1) ≡ v.end = omega arith in
        let w : k.end + 1 + suc v.end ≡ k.end + 1 + v.end + 1 = omega arith in
        let i = inside s k.end 9 (omega arith) b in
        let j = inside s (k.end + 1 + v.end) 10 (omega arith) d in
        let o : get_or y v.end 0 ≡ 10 = get_or-drop (k.end + 1) s v.end 0 ∙ d in
        let u : y ≡ take v.end y ++ (10 ∷ drop (k.end + 1 + v.end + 1) s) =
        split_at y v.end 0 (simp length-drop (omega arith)) ∙ ap₂ (λ (x : ℕ) (q : List ℕ). take v.end y ++ (x ∷ q)) o (drop-drop (suc v.end) (k.end + 1) s ∙ ap (λ (n : ℕ). drop n s) w) in
        record {
          low = omega arith;
          high = j;
          key = f.is;
          value = rw z (cut-three y v value-at);
          text = rw z (split_at s k.end 0 i ∙ ap₂ (λ (x : ℕ) (q : List ℕ). take k.end s ++ (x ∷ q)) b (ap (λ (n : ℕ). drop n s) (sym (add-one k.end)) ∙ u));
        }

-- Rows of two such texts.
pub record TwoThrees (ts : List Tag) : Type 0 where
  pub first : Tag
  pub second : Tag
  pub are : ts ≡ first ∷ second ∷ []
  pub key : is_three first ≡ true
  pub value : is_three second ≡ true

unfoldable pub two-threes : Table → Type 0
two-threes table = (ts : List Tag) → shape_of (kind_is table) ts ≡ true → TwoThrees ts

pub likely-two : two-threes Likely
unfolding two-threes kind_is shape_of likely_shape
likely-two [] e = no e
likely-two (a ∷ []) e = no e
likely-two (k ∷ v ∷ []) e =
    let h = and-true (is_three k) _ e in
    record { first = k; second = v; are = refl; key = h.0; value = (and-true (is_three v) _ h.1).0 }
likely-two (a ∷ b ∷ c ∷ ts) e = no e

pub parent-two : two-threes Parents
unfolding two-threes kind_is shape_of parent_shape
parent-two [] e = no e
parent-two (a ∷ []) e = no e
parent-two (k ∷ v ∷ []) e =
    let h = and-true (is_three k) _ e in
    record { first = k; second = v; are = refl; key = h.0; value = (and-true (not (same k und)) _ h.1).1 }
parent-two (a ∷ b ∷ c ∷ ts) e = no e

-- no row
abbrev NoLine : Table → List ℕ → Type 0
NoLine table s = end_of 10 s 0 < length s → shape_of (kind_is table) (pieces 9 (take (end_of 10 s 0) s)) ≡ true → ⊥

pub pair-missing : (s : List ℕ) → NoPair s → (table : Table) → two-threes table → NoLine table s
unfolding two-threes
pair-missing s n table two h e = let t = two _ e in n t.first t.second _ (line-split s t.first t.second h t.are) t.key t.value

module _ (s : List ℕ) (r : Pair) (f : PairAt s r) (table : Table) where
  abbrev both : List Tag
  both = take r.tab s ∷ between s r.tab r.end ∷ []

  pub pair-refused : shape_of (kind_is table) both ≡ false → NoLine table s
  pair-refused n h e =
      let g = found s r f in
      clash (sym (ap (shape_of (kind_is table)) g.fields) ∙ ap (λ (i : ℕ). shape_of (kind_is table) (pieces 9 (take i s))) g.end ∙ e) n

  pub pair_row : ((l : List ℕ) → key_end table l ≡ end_of 9 l 0) → shape_of (kind_is table) both ≡ true → LineAt table s (record { key = r.tab; end = r.end })
  pair_row k e =
      let g = found s r f in
      record { end = g.end; high = f.high; shape = ap (shape_of (kind_is table)) g.fields ∙ e; key = g.key ∙ sym (k (take r.end s)) }

pub likely-key : (l : List ℕ) → key_end Likely l ≡ end_of 9 l 0
unfolding key_end
likely-key l = refl

pub parent-key : (l : List ℕ) → key_end Parents l ≡ end_of 9 l 0
unfolding key_end
parent-key l = refl

module _ (s : List ℕ) (r : Pair) (f : PairAt s r) where
  abbrev value : List ℕ
  value = between s r.tab r.end

  pub likely-is : (b : Bool) → b ≡ known_parts (take r.language value) (between value r.language r.script) (drop (r.script + 1) value) → shape_of (kind_is Likely) (take r.tab s ∷ value ∷ []) ≡ b
  unfolding kind_is shape_of likely_shape is_known
  likely-is b e = rw f.key (sym (e ∙ known_is value (record { language = r.language; script = r.script }) f.value))

  pub parent_is : (b : Bool) → b ≡ same (take r.tab s) und → shape_of (kind_is Parents) (take r.tab s ∷ value ∷ []) ≡ not b
  unfolding kind_is shape_of parent_shape
  parent_is b e = rw (f.key, ← e, f.value.is) (last b)
    where
      last : (c : Bool) → (not c && true) ≡ not c
      last true = refl
      last false = refl

-- Alias rows: no value has a tab.
shape_free : (kind : Option AliasKind) (k v : Tag) → shape_by kind k v ≡ true → Free 9 v
unfolding shape_by language_alias
shape_free (Some Language) k v e = three-free 9 (omega arith) v (and-true (is_three v) (not (language_is_und (parse v))) (and-true (is_language k && not (same k und)) (is_three v && not (language_is_und (parse v))) e).1).0
shape_free (Some Script) k v e = above-free 9 (omega arith) v (script-every above small-above capital-above digit-above v (and-true (is_script k) (is_script v) e).1)
shape_free (Some Region) k v e = above-free 9 (omega arith) v (region-every above small-above capital-above digit-above v (and-true (is_region k) (is_region v) e).1)
shape_free (Some Variant) k v e = above-free 9 (omega arith) v (variant-every above small-above capital-above digit-above v (and-true (is_variant_tag k) (is_variant_tag v) e).1)
shape_free None k v e = no e

alias-value : (n k v : Tag) → alias_shape (n ∷ k ∷ pieces 9 v) ≡ shape_by (kind_named n) k v
unfolding alias_shape
alias-value n k v = both_ways (alias_shape (n ∷ k ∷ pieces 9 v)) (shape_by (kind_named n) k v)
    (λ e. let p = pieces-some 9 v in go p.first p.more p.are (sym (ap (λ (ts : List Tag). alias_shape (n ∷ k ∷ ts)) p.are) ∙ e))
    (λ e. ap (λ (ts : List Tag). alias_shape (n ∷ k ∷ ts)) (pieces-alone 9 v (shape_free (kind_named n) k v e)) ∙ alias-by k v n ∙ e)
  where
    go : (t : Tag) (ts : List Tag) → pieces 9 v ≡ t ∷ ts → alias_shape (n ∷ k ∷ t ∷ ts) ≡ true → shape_by (kind_named n) k v ≡ true
    go t [] q e = ap (shape_by (kind_named n) k) (one_piece 9 v t q) ∙ sym (alias-by k t n) ∙ e
    go t (u ∷ ts) q e = no e

module _ (l : List ℕ) (a : ℕ) (q : a ≡ end_of 9 l 0) where
  pub alias-no-tab : length l ≤ a → alias_shape (pieces 9 l) ≡ false
  unfolding alias_shape
  alias-no-tab h = ap alias_shape (pieces-first 9 l a q ∙ ap (◌∷◌ (take a l)) (others-none 9 l a h))

  module _ (b : ℕ) (h : a < length l) (r : b ≡ end_of 9 l (a + 1)) where
    fields : pieces 9 l ≡ take a l ∷ between l a b ∷ others 9 l b
    fields = pieces-first 9 l a q ∙ ap (◌∷◌ (take a l)) (others-at 9 l a b h r)

    pub alias-one-tab : length l ≤ b → alias_shape (pieces 9 l) ≡ false
    unfolding alias_shape
    alias-one-tab g = ap alias_shape (fields ∙ ap (λ (ts : List Tag). take a l ∷ between l a b ∷ ts) (others-none 9 l b g))

    -- the test by the three fields
    shape-is : (kind : Option AliasKind) → b < length l → kind ≡ kind_named (take a l) → shape_by kind (between l a b) (take (length l - (b + 1)) (drop (b + 1) l)) ≡ alias_shape (pieces 9 l)
    unfolding others
    shape-is kind g n =
        let o : others 9 l b ≡ pieces 9 (drop (b + 1) l) = rw (lt-ltb b (length l) g, ← add-one b) in
        ap₂ (λ (i : Option AliasKind) (v : Tag). shape_by i (between l a b) v) n (all_from (b + 1) l) ∙ sym (ap alias_shape (fields ∙ ap (λ (ts : List Tag). take a l ∷ between l a b ∷ ts) o) ∙ alias-value (take a l) (between l a b) (drop (b + 1) l))

    pub alias-two-tabs : (kind : Option AliasKind) → b < length l → kind ≡ kind_named (take a l) → true ≡ shape_by kind (between l a b) (take (length l - (b + 1)) (drop (b + 1) l)) → AliasAt l b
    unfolding key_end second_tab
    alias-two-tabs kind g n e = record { is = sym (e ∙ shape-is kind g n); key = rw (← q, lt-leb (length l) a h) r }

    pub alias-other : (kind : Option AliasKind) → b < length l → kind ≡ kind_named (take a l) → false ≡ shape_by kind (between l a b) (take (length l - (b + 1)) (drop (b + 1) l)) → alias_shape (pieces 9 l) ≡ false
    alias-other kind g n e = sym (e ∙ shape-is kind g n)

  -- a name of no kind
  pub alias-no-kind : None ≡ kind_named (take a l) → alias_shape (pieces 9 l) ≡ false
  unfolding shape_by
  alias-no-kind n =
      ⊎_elim (λ h. alias-no-tab h)
      (λ h. ⊎_elim (λ g. alias-one-tab (end_of 9 l (a + 1)) h refl g) (λ g. alias-other (end_of 9 l (a + 1)) h refl None g n refl) (le-or-lt (length l) (end_of 9 l (a + 1))))
      (le-or-lt (length l) a)

module _ (s : List ℕ) (e : ℕ) (q : e ≡ end_of 10 s 0) where
  pub alias-refused : alias_shape (pieces 9 (take e s)) ≡ false → NoLine Aliases s
  unfolding kind_is shape_of
  alias-refused h g n = clash (ap (λ (i : ℕ). alias_shape (pieces 9 (take i s))) q ∙ n) h

  pub alias-accepted : (tab : ℕ) → AliasAt (take e s) tab → e < length s → LineAt Aliases s (record { key = tab; end = e })
  unfolding kind_is shape_of
  alias-accepted tab a g = record { end = q; high = g; shape = a.is; key = a.key }

-- The row at i of the table t, as the code lends what is left.
end-shift : (b : ℕ) (s : List ℕ) (i : ℕ) → i ≤ length s → end_of b s i ≡ i + end_of b (drop i s) 0
unfolding end_of
end-shift b s zero h = omega arith
end-shift b [] (suc i) h = absurd (omega arith)
end-shift b (x ∷ s) (suc i) h = let n = end-shift b s i (omega arith) in let k : suc i + end_of b (drop i s) 0 ≡ suc (i + end_of b (drop i s) 0) = omega arith in ap suc n ∙ sym k

pub record RowIn (table : Table) (t : List ℕ) (i : ℕ) (r : Line) : Type 0 where
  pub end : i + r.end ≡ end_of 10 t i
  pub high : i + r.end < length t
  pub shape : shape_of (kind_is table) (pieces 9 (take (i + r.end - i) (drop i t))) ≡ true
  pub key : r.key ≡ key_end table (take (i + r.end - i) (drop i t))

module _ (table : Table) (t : List ℕ) (i : ℕ) (h : i < length t) where
  -- the rest of the table, as the code lends it
  abbrev left : List ℕ
  left = take (length t - i) (drop i t)

  pub row_in : (r : Line) → LineAt table left r → RowIn table t i r
  row_in r f =
      let g : LineAt table (drop i t) r = rw (← all_from i t) f in
      let z : i + r.end - i ≡ r.end = omega arith in
      let n = simp length-drop at g.high in
      record {
        end = ap (λ (n : ℕ). i + n) g.end ∙ sym (end-shift 10 t i (omega arith));
        high = omega arith;
        shape = rw z g.shape;
        key = rw z g.key;
      }

  pub row-off : (before : List ℕ) → NoLine table left → fault 12 i ≡ rows_fault (shape_of (kind_is table)) (last_of before) i (pieces 10 (drop i t))
  row-off before f =
      ⊎_elim (λ g. pass-short table t before i (end_of 10 t i) refl h g)
      (λ g. pass_shape table t before i (end_of 10 t i) refl h g (bool_cases (shape_of (kind_is table) (pieces 9 (take (end_of 10 t i - i) (drop i t)))) (λ p. absurd (none g p)) (λ p. p)))
      (le-or-lt (length t) (end_of 10 t i))
    where
      missing : NoLine table (drop i t)
      missing = rw (← all_from i t) f

      none : end_of 10 t i < length t → shape_of (kind_is table) (pieces 9 (take (end_of 10 t i - i) (drop i t))) ≡ true → ⊥
      none g p =
          let n = end-shift 10 t i (omega arith) in
          let z : end_of 10 t i - i ≡ end_of 10 (drop i t) 0 = omega arith in
          missing (simp length-drop (omega arith)) (rw z at p)

-- the next row starts behind this one
pub next_row : (shape : List Tag → Bool) (last : Maybe (List ℕ)) (t : List ℕ) (i e : ℕ) → rows_fault shape last (i + e + 1) (pieces 10 (drop (i + e + 1) t)) ≡ rows_fault shape last (i + (e + 1)) (pieces 10 (drop (i + (e + 1)) t))
next_row shape last t i e = let z : i + e + 1 ≡ i + (e + 1) = omega arith in rw z

-- a row of a language
starts-front : (p l : List ℕ) → starts p l ≡ true → l ≡ p ++ drop (length p) l
unfolding starts
starts-front [] l e = refl
starts-front (a ∷ p) [] e = no e
starts-front (a ∷ p) (b ∷ l) e = bool_cases (eqb a b) (λ h. ap₂ ◌∷◌ (sym (eqb-true a b h)) (starts-front p l (rw h at e))) (λ h. no (rw h at e))

pub language-row : (l : List ℕ) → starts (language_name ++ (9 ∷ [])) l ≡ true → (8 ≡ end_of 9 l 0) × (Some Language ≡ kind_named (take 8 l))
unfolding kind_named same order All
language-row l e =
    let q = starts-front (language_name ++ (9 ∷ [])) l e in
    (sym (ap (λ (x : List ℕ). end_of 9 x 0) q ∙ end-over 9 language_name (drop 9 l) (refl, (refl, (refl, (refl, (refl, (refl, (refl, (refl, tt))))))))), ap (λ (x : List ℕ). kind_named (take 8 x)) (sym q))
