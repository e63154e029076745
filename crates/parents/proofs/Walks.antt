-- The walk of parents over texts, as parts of the table.
-- Assumes nothing.
use mathlib.Core.Path.{◌≡◌, refl, sym, ap, subst, ◌∙◌}
use mathlib.Core.Bool.{Bool, true, false, cond, not, ◌&&◌}
use mathlib.Core.Option.{Option, none, some}
use mathlib.Core.Logic.{inl}
use mathlib.Core.List.{List, [], ◌∷◌, ◌++◌, append-nil, append_assoc}
use Prim.Native.Nat.{ℕ, zero, suc, ◌+◌, ◌-◌, ◌≤◌, ◌<◌}
use native.Mathlib.Omega.{arith}
use lib.ListN.{length, take, drop, length-append, length-take, length-drop}
use lib.Seq.{take_at, take-take}
use Rattle.standard.specs.Tag.{Tag, order, same, present, onto, All}
use Rattle.standard.specs.Identifier.{Three as Subtags, three, und, Tables}
use Rattle.standard.specs.Chain.{Line, line, shorter, parent_of, parent, is_und_alone, reaches}
use Rattle.standard.specs.Reading.{optional, joined}
use Rattle.standard.specs.Table.{pieces, lookup, rows, located, find_in_case, three_of, parse, print_three, is_three, parsed, tables_of, parent_shape, Pass}
use Rattle.standard.proofs.Tags.{same-eq, same_refl}
use Rattle.standard.proofs.General.{bool_cases, and-true, both_ways, no, none-there as not-present}
use Rattle.table.specs.Lines.{value_of, value_if}
use Rattle.table.proofs.Lines.{lookup-located}
use Rattle.row_shapes.specs.declared.lsr.Three.{Three}
use Rattle.row_shapes.specs.Shapes.{between, ThreeAt}
use Rattle.row_shapes.proofs.Texts.{one_piece}
use Rattle.row_shapes.proofs.Pieces.{Free, pieces_more, pieces-free}
use Rattle.parents.specs.Walk.{cut, ValueOk, ShorterIs, ParentIs, reaches_from}
use Rattle.row_shapes.proofs.Threes.{ThreeOk, three-ok, print-is-three, parse-print}
use Rattle.standard.proofs.Table.{three-printed as three-text, row-test as row-shape}

-- Only the parents count in a walk.
pub reaches-parents : (A L B M P : List ℕ) (n : ℕ) (l : Line) → reaches (tables_of A L P) n l ≡ reaches (tables_of B M P) n l
unfolding reaches parent tables_of
reaches-parents A L B M P zero l = refl
reaches-parents A L B M P (suc n) l = bool_cases (is_und_alone l) (λ e. rw (e, reaches)) (λ e. rw (e, reaches) (reaches-parents A L B M P n (parent (tables_of A L P) l)))

-- A text and its parent.
module _ (P x : List ℕ) (e : is_three x ≡ true) where
  abbrev W : Tables
  W = tables_of [] [] P

  parents-is : W.parents (parse x) ≡ parsed (value_if P (located P x))
  unfolding tables_of
  parents-is = ap (λ (y : List ℕ). parsed (lookup (rows P) y)) (three-text x e) ∙ ap parsed (lookup-located P x)

  pub parent-found : (located P x).found ≡ true → parent W (line (parse x) []) ≡ line (parse (value_of P (located P x))) []
  unfolding parent parent_of parsed
  parent-found f = rw (parents-is, f)

  pub parent-none : (located P x).found ≡ false → parent W (line (parse x) []) ≡ line (shorter (parse x)) []
  unfolding parent parent_of parsed
  parent-none f = rw (parents-is, f)

-- the end of the walk
root-text : (t : Subtags) → is_und_alone (line t []) ≡ true → print_three t ≡ und
unfolding is_und_alone print_three optional joined
root-text t e =
    let h = and-true (same t.language und && not (present t.script) && not (present t.region)) true e in
    let i = and-true (same t.language und && not (present t.script)) (not (present t.region)) h.0 in
    let j = and-true (same t.language und) (not (present t.script)) i.0 in
    rw (same-eq t.language und j.0, not-present t.script j.1, not-present t.region i.1)

parse-und : parse und ≡ three und [] []
unfolding parse three_of pieces onto find_in_case
parse-und = refl

und-root : is_und_alone (line (three und [] []) []) ≡ true
unfolding is_und_alone present same order
und-root = refl

pub root_is : (x : List ℕ) → is_three x ≡ true → is_und_alone (line (parse x) []) ≡ same x und
root_is x e = both_ways (is_und_alone (line (parse x) [])) (same x und)
    (λ r. ap (λ (y : Tag). same y und) (sym (three-text x e) ∙ root-text (parse x) r) ∙ same_refl und)
    (λ s. ap (λ (t : Subtags). is_und_alone (line t [])) (ap parse (same-eq x und s) ∙ parse-und) ∙ und-root)

-- Texts without their last subtag.
joined-last : (l : Tag) (ts : List Tag) (r : Tag) → joined (l ∷ (ts ++ (r ∷ []))) ≡ joined (l ∷ ts) ++ (45 ∷ r)
unfolding joined
joined-last l [] r = refl
joined-last l (t ∷ ts) r = ap (λ (y : List ℕ). l ++ (45 ∷ y)) (joined-last t ts r) ∙ sym (append_assoc l (45 ∷ joined (t ∷ ts)) (45 ∷ r))

module _ (x : List ℕ) (r : Three) (t : ThreeAt x r) (e : is_three x ≡ true) where
  abbrev L : Tag
  L = take r.language x

  abbrev S : Tag
  S = between x r.language r.script

  abbrev R : Tag
  R = drop (r.script + 1) x

  parts : parse x ≡ three L S R
  parts = t.parts

  ok : ThreeOk (three L S R)
  ok = rw parts at (three-ok x e)

  -- what a shorter text has to be
  pub record Shorter (y : List ℕ) : Type 0 where
    pub three : is_three y ≡ true
    pub is : shorter (parse x) ≡ parse y

  from-printed : (y : List ℕ) (u : Subtags) → ThreeOk u → y ≡ print_three u → shorter (three L S R) ≡ u → Shorter y
  from-printed y u o q s = record { three = ap is_three q ∙ print-is-three u o; is = ap shorter parts ∙ s ∙ sym (ap parse q ∙ parse-print u o) }

  pub without-region : 0 < length R → Shorter (take r.script x)
  unfolding print_three shorter optional
  without-region h = from-printed (take r.script x) (three L S []) (record { language = ok.language; script = ok.script; region = inl refl }) cut (drops R h)
    where
      drops : (b : Tag) → 0 < length b → shorter (three L S b) ≡ three L S []
      drops [] h = absurd (omega arith)
      drops (b ∷ bs) h = refl

      regions : (b : Tag) → 0 < length b → optional b ≡ b ∷ []
      regions [] h = absurd (omega arith)
      regions (b ∷ bs) h = refl

      text : x ≡ print_three (three L S []) ++ (45 ∷ R)
      text =
          sym (three-text x e) ∙ ap print_three parts ∙ ap (λ (ts : List Tag). joined (L ∷ (optional S ++ ts))) (regions R h) ∙ joined-last L (optional S) R
          ∙ ap (λ (ts : List Tag). joined (L ∷ ts) ++ (45 ∷ R)) (sym (append-nil (optional S)))

      cut : take r.script x ≡ print_three (three L S [])
      cut =
          let n = ap length text ∙ length-append (print_three (three L S [])) (45 ∷ R) in
          let m = length-drop (r.script + 1) x in
          ap (take r.script) text ∙ take_at (print_three (three L S [])) (45 ∷ R) r.script (omega arith)

  pub without-script : length R ≤ 0 → 0 < length S → Shorter (take r.language x)
  unfolding print_three shorter optional joined
  without-script h k = from-printed (take r.language x) (three L [] []) (record { language = ok.language; script = inl refl; region = inl refl }) refl (drops R S h k)
    where
      drops : (b s : Tag) → length b ≤ 0 → 0 < length s → shorter (three L s b) ≡ three L [] []
      drops (b ∷ bs) s h k = absurd (omega arith)
      drops [] [] h k = absurd (omega arith)
      drops [] (c ∷ cs) h k = refl

  pub language-alone : length R ≤ 0 → length S ≤ 0 → shorter (parse x) ≡ three und [] []
  unfolding shorter
  language-alone h k = ap shorter parts ∙ drops R S h k
    where
      drops : (b s : Tag) → length b ≤ 0 → length s ≤ 0 → shorter (three L s b) ≡ three und [] []
      drops (b ∷ bs) s h k = absurd (omega arith)
      drops [] (c ∷ cs) h k = absurd (omega arith)
      drops [] [] h k = refl

value-ok : (x v : List ℕ) → Free 9 x → parent_shape (pieces 9 (x ++ (9 ∷ v))) ≡ true → ValueOk v
unfolding parent_shape All
value-ok x v f e = go (pieces 9 v) refl (rw (pieces_more 9 x v f) at e) (rw (pieces_more 9 x v f) at (pieces-free 9 (x ++ (9 ∷ v))))
  where
    go : (ts : List Tag) → pieces 9 v ≡ ts → parent_shape (x ∷ ts) ≡ true → All (Free 9) (x ∷ pieces 9 v) → ValueOk v
    go [] q s a = no s
    go (w ∷ []) q s a =
        let z = one_piece 9 v w q in
        let h = and-true (is_three x) (not (same x und) && is_three w) s in
        let i = and-true (not (same x und)) (is_three w) h.1 in
        record { three = ap is_three z ∙ i.1; free = rw z (rw q at a.1).0 }
    go (w ∷ u ∷ ts) q s a = no s

pub found-value : (P x : List ℕ) → Pass parent_shape (rows P) → Free 9 x → (located P x).found ≡ true → ValueOk (value_of P (located P x))
found-value P x p f e = value-ok x (value_of P (located P x)) f (row-shape parent_shape (rows P) x (value_of P (located P x)) p (lookup-located P x ∙ rw e))

-- One step of the walk.
module _ (P x : List ℕ) where
  pub walk-root : (n : ℕ) → is_three x ≡ true → same x und ≡ true → true ≡ reaches (tables_of [] [] P) n (line (parse x) [])
  unfolding reaches
  walk-root zero e s = sym (root_is x e ∙ s)
  walk-root (suc n) e s = sym (rw (root_is x e ∙ s, reaches))

  pub walk-stop : is_three x ≡ true → same x und ≡ false → false ≡ reaches (tables_of [] [] P) 0 (line (parse x) [])
  unfolding reaches
  walk-stop e s = sym (root_is x e ∙ s)

  pub walk-next : (n : ℕ) (l : Line) → is_three x ≡ true → same x und ≡ false → parent (tables_of [] [] P) (line (parse x) []) ≡ l → reaches (tables_of [] [] P) (suc n) (line (parse x) []) ≡ reaches (tables_of [] [] P) n l
  unfolding reaches
  walk-next n l e s q = rw (root_is x e ∙ s, reaches) (ap (reaches (tables_of [] [] P) n) q)

pub und-reached : (T : Tables) (n : ℕ) → reaches T n (line (three und [] []) []) ≡ true
unfolding reaches
und-reached T zero = und-root
und-reached T (suc n) = rw (und-root, reaches)

-- The answers of the code.
pub cut-cut : (p : List ℕ) (at end e : ℕ) → e ≤ end - at → cut p at (at + e) ≡ take e (cut p at end)
cut-cut p at end e h = let z : at + e - at ≡ e = omega arith in ap (λ (n : ℕ). take n (drop at p)) z ∙ sym (take-take e (end - at) (drop at p) h)

pub cut-length : (p : List ℕ) (at end : ℕ) → at ≤ end → end ≤ length p → length (cut p at end) ≡ end - at
cut-length p at end h k = simp (length-take, length-drop) (omega arith)

free-take : (n : ℕ) (s : Tag) → Free 9 s → Free 9 (take n s)
unfolding All
free-take zero s h = tt
free-take (suc n) [] h = tt
free-take (suc n) (b ∷ s) h = (h.0, free-take n s h.1)

module _ (x : List ℕ) (v : ValueOk x) where
  module _ (r : Three) (t : ThreeAt x r) where
    shorter-to : (e : ℕ) → Shorter x r t v.three (take e x) → ShorterIs x (some (take e x))
    unfolding ShorterIs
    shorter-to e s = (record { three = s.three; free = free-take e x v.free }, s.is)

    pub shorter-region : r.script + 1 < length x → ShorterIs x (some (take r.script x))
    shorter-region h = shorter-to r.script (without-region x r t v.three (simp length-drop (omega arith)))

    pub shorter-script : length x ≤ r.script + 1 → r.language + 1 < r.script → ShorterIs x (some (take r.language x))
    shorter-script h k =
        let m = t.high in
        shorter-to r.language (without-script x r t v.three (simp length-drop (omega arith)) (simp (length-take, length-drop) (omega arith)))

    pub shorter-root : length x ≤ r.script + 1 → r.script ≤ r.language + 1 → ShorterIs x none
    unfolding ShorterIs
    shorter-root h k = language-alone x r t v.three (simp length-drop (omega arith)) (simp (length-take, length-drop) (omega arith))

  module _ (p : List ℕ) where
    -- by the table
    pub parent_row : Pass parent_shape (rows p) → (y : List ℕ) → some y ≡ value_if p (located p x) → ParentIs p x (some y)
    unfolding ParentIs
    parent_row pass y e = go (located p x).found refl e
      where
        go : (b : Bool) → (located p x).found ≡ b → some y ≡ cond b (some (value_of p (located p x))) none → ValueOk y × (parent (tables_of [] [] p) (line (parse x) []) ≡ line (parse y) [])
        go true f k =
            let z : value_of p (located p x) ≡ y = cc in
            (subst ValueOk z (found-value p x pass v.free f), parent-found p x v.three f ∙ ap (λ (w : List ℕ). line (parse w) []) z)
        go false f k = absurd (cc)

    pub parent_short : (s : Option (List ℕ)) → none ≡ value_if p (located p x) → ShorterIs x s → ParentIs p x s
    unfolding ParentIs ShorterIs
    parent_short s e d = go (located p x).found refl e s d
      where
        go : (b : Bool) → (located p x).found ≡ b → none ≡ cond b (some (value_of p (located p x))) none → (s : Option (List ℕ)) → ShorterIs x s → ParentIs p x s
        go true f k s d = absurd (cc)
        go false f k none d = parent-none p x v.three f ∙ ap (λ (u : Subtags). line u []) d
        go false f k (some y) d = (d.0, parent-none p x v.three f ∙ ap (λ (u : Subtags). line u []) d.1)

    -- the loop
    pub reach-root : (n : ℕ) → same x und ≡ true → true ≡ reaches_from p n x
    unfolding reaches_from
    reach-root n s = walk-root p x n v.three s

    pub reach-end : (n : ℕ) → n ≡ 0 → same x und ≡ reaches_from p n x
    unfolding reaches_from reaches
    reach-end n z = rw z (sym (root_is x v.three))

    module _ (n : ℕ) (h : 0 < n) (s : same x und ≡ false) where
      less : n ≡ suc (n - 1)
      less = omega arith

      pub reach-und : ParentIs p x none → true ≡ reaches_from p n x
      unfolding reaches_from ParentIs
      reach-und k = sym (ap (λ (m : ℕ). reaches (tables_of [] [] p) m (line (parse x) [])) less ∙ walk-next p x (n - 1) (line (three und [] []) []) v.three s k ∙ und-reached (tables_of [] [] p) (n - 1))

      pub reach-next : (y : List ℕ) → ParentIs p x (some y) → reaches_from p n x ≡ reaches_from p (n - 1) y
      unfolding reaches_from ParentIs
      reach-next y k = ap (λ (m : ℕ). reaches (tables_of [] [] p) m (line (parse x) [])) less ∙ walk-next p x (n - 1) (line (parse y) []) v.three s k.1

pub value-ok-of : (p x y : List ℕ) → ParentIs p x (some y) → ValueOk y
unfolding ParentIs
value-ok-of p x y k = k.0
