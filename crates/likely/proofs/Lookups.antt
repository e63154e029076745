-- Laws of the rows that are found by parts, and of their values, cut. Assumes nothing.
use mathlib.Core.Path.{◌≡◌, refl, sym, ap, ap₂, ◌∙◌}
use mathlib.Core.Bool.{Bool, true, false, cond, not, ◌&&◌}
use mathlib.Core.List.{[], ◌∷◌, ◌++◌, append-nil}
use mathlib.Core.Logic.{◌⊎◌, inl, inr}
use Prim.Native.Nat.{ℕ, zero, suc, ◌+◌, ◌-◌, ◌≤◌, ◌<◌}
use native.Mathlib.Omega.{arith}
use native.Mathlib.Nat.{le_of_suc-le-suc, not-suc-le-zero}
use borrow.Author.Tests.{ne_eqb}
use lib.Dec.{eqb}
use mathlib.Core.Option.{Option, none, some}
use lib.ListN.{length, take, drop, drop_of_length-le, length-append, length-drop}
use lib.Seq.{take_all, take-nil, sets, sets-eq, take-append_seam}
use Rattle.standard.specs.Tag.{same, pick, present}
use Rattle.standard.specs.Identifier.{und}
use Rattle.standard.specs.Delivery.{Bytes}
use Rattle.standard.specs.Table.{lookup, rows, located}
use Rattle.standard.proofs.General.{clash, and-true, bool_cases, le-or-lt}
use Rattle.table.specs.Lines.{value_if}
use Rattle.table.proofs.Lines.{lookup-located}
use Rattle.byte_string.specs.Strings.{end_of}
use Rattle.byte_string.proofs.Ends.{end-past, ends, end-le}
use Rattle.byte_string.proofs.Stores.{sets-append}
use Rattle.likely.specs.Parts.{Parts, Ready, joined_parts, dash_from, dash, cut_parts, over_parts, over_value, fill_parts, fits_value, fits_parts, minimal_parts, known_part, language_of, complete_parts, parts3, or_value, shorter_value, row_value}

-- choices
pub pick-none : (x y : Bytes) → length x ≡ 0 → y ≡ pick x y
unfolding pick
pick-none [] y e = refl
pick-none (b ∷ bs) y e = absurd (omega arith)

pub pick_some : (x y : Bytes) → (length x ≡ 0 → ⊥) → x ≡ pick x y
unfolding pick
pick_some [] y n = absurd (n refl)
pick_some (b ∷ bs) y n = refl

pub known-gone : (u p : Bytes) {b : Bool} → b ≡ same p u → b ≡ true → [] ≡ known_part u p
unfolding known_part
known-gone u p e t = rw (← e, t)

pub known_kept : (u p : Bytes) {b : Bool} → b ≡ same p u → b ≡ false → p ≡ known_part u p
unfolding known_part
known_kept u p e t = rw (← e, t)

pub language-other : (l v : Bytes) {b : Bool} → b ≡ same l und → b ≡ true → v ≡ language_of l v
unfolding language_of
language-other l v e t = rw (← e, t)

pub language-kept : (l v : Bytes) {b : Bool} → b ≡ same l und → b ≡ false → l ≡ language_of l v
unfolding language_of
language-kept l v e t = rw (← e, t)

-- what is missing
present-is : (x : Bytes) → present x ≡ not (eqb (length x) 0)
unfolding present
present-is [] = refl
present-is (b ∷ bs) = sym (ap not (ne_eqb (length (b ∷ bs)) 0 (λ z. omega arith)))

-- what `&&` gives, by which of its sides ran
pub and-last : (a x y : Bool) → a ≡ true → x ≡ y → x ≡ (a && y)
and-last a x y e f = f ∙ sym (rw e)

pub and-first : (a y : Bool) → a ≡ false → false ≡ (a && y)
and-first a y e = sym (rw e)

pub whole-is : (l s r : Bytes) (b : Bool) → b ≡ same l und → ((not b && not (eqb (length s) 0)) && not (eqb (length r) 0)) ≡ complete_parts (parts3 l s r)
unfolding complete_parts
whole-is l s r true e = rw (← e)
whole-is l s r false e = rw (← e, present-is s, present-is r)

-- three parts put one behind the other make the key
pub put_three : (z k₁ k₂ k₃ l s r : Bytes) (a b n : ℕ) → k₁ ≡ sets z 0 l → a ≡ 0 + length l → k₂ ≡ sets k₁ a s → b ≡ a + length s → k₃ ≡ sets k₂ b r → n ≡ b + length r
    → length l + length s + length r ≤ 32 → length z ≡ 32 → take n k₃ ≡ l ++ (s ++ r)
put_three z k₁ k₂ k₃ l s r a b n e₁ ea e₂ eb e₃ en h hz =
    let x = l ++ (s ++ r) in
    let n' : length x ≡ length l + (length s + length r) = length-append l (s ++ r) ∙ ap (λ (m : ℕ). length l + m) (length-append s r) in
    let w : k₃ ≡ sets z 0 x = e₃ ∙ (ap₂ (λ (q : Bytes) (m : ℕ). sets q m r) (e₂ ∙ ap₂ (λ (q : Bytes) (m : ℕ). sets q m s) e₁ ea) (eb ∙ ap (λ (m : ℕ). m + length s) ea)
    ∙ (sym (sets-append (sets z 0 l) (0 + length l) s r) ∙ sym (sets-append z 0 l (s ++ r)))) in
    let m : n ≡ length x = omega arith in
    ap₂ take m (w ∙ sets-eq x z 0 (omega arith)) ∙ take-append_seam x (drop (0 + length x) z)

-- a value of the lent table, by the key that stands in a buffer
pub value-by : (t k x : Bytes) (o : Option Bytes) → o ≡ value_if t (located t x) → x ≡ k → o ≡ lookup (rows t) k
value-by t k x o e q = e ∙ sym (lookup-located t x) ∙ ap (lookup (rows t)) q

abbrev pub blank : Bytes
blank = 0 ∷ 0 ∷ 0 ∷ 0 ∷ 0 ∷ 0 ∷ 0 ∷ 0 ∷ 0 ∷ 0 ∷ 0 ∷ 0 ∷ 0 ∷ 0 ∷ 0 ∷ 0 ∷ 0 ∷ 0 ∷ 0 ∷ 0 ∷ 0 ∷ 0 ∷ 0 ∷ 0 ∷ 0 ∷ 0 ∷ 0 ∷ 0 ∷ 0 ∷ 0 ∷ 0 ∷ 0 ∷ []

-- what is ready for parts is ready for fewer of them
module _ (L hints : Bytes) (p : Parts) (r : Ready L hints p) where
  pub ready-alone : Ready L hints (parts3 p.language [] [])
  ready-alone = record { indexed = r.indexed; short = omega (arith, r.short) }

  pub ready-script : Ready L hints (parts3 p.language p.script [])
  ready-script = record { indexed = r.indexed; short = omega (arith, r.short) }

  pub ready-region : Ready L hints (parts3 p.language [] p.region)
  ready-region = record { indexed = r.indexed; short = omega (arith, r.short) }

-- the first that was found, or the next
or-first : (o p : Option Bytes) (v : Bytes) → some v ≡ o → some v ≡ or_value o p
unfolding or_value
or-first o p v e = rw (← e)

or-next : (o p : Option Bytes) → none ≡ o → or_value o p ≡ p
unfolding or_value
or-next o p e = rw (← e)

or-twice : (o : Option Bytes) → or_value o o ≡ o
unfolding or_value
or-twice none = refl
or-twice (some v) = refl

no_bytes_lem : (x : Bytes) → length x ≡ 0 → x ≡ []
no_bytes_lem [] e = refl
no_bytes_lem (b ∷ bs) e = absurd (omega arith)

module _ (L l s r : Bytes) where
  abbrev look : Bytes → Option Bytes
  look k = lookup (rows L) k

  by-script : look (joined_parts (parts3 l s [])) ≡ look (l ++ s)
  unfolding joined_parts
  by-script = ap (λ (x : Bytes). look (l ++ x)) (append-nil s)

  by-region : look (joined_parts (parts3 l [] r)) ≡ look (l ++ r)
  unfolding joined_parts
  by-region = refl

  alone : look (joined_parts (parts3 l [] [])) ≡ look l
  unfolding joined_parts
  alone = ap look (append-nil l)

  pub shorter-first : (v : Bytes) → some v ≡ look (joined_parts (parts3 l s [])) → some v ≡ shorter_value L (parts3 l s r)
  unfolding shorter_value
  shorter-first v e = or-first _ _ v (e ∙ by-script)

  module _ (a : none ≡ look (joined_parts (parts3 l s []))) where
    pub shorter-second : (v : Bytes) → some v ≡ look (joined_parts (parts3 l [] r)) → some v ≡ shorter_value L (parts3 l s r)
    unfolding shorter_value
    shorter-second v e = or-first _ _ v (e ∙ by-region) ∙ sym (or-next _ _ (a ∙ by-script))

    pub shorter-third : (o : Option Bytes) → none ≡ look (joined_parts (parts3 l [] r)) → o ≡ look (joined_parts (parts3 l [] [])) → o ≡ shorter_value L (parts3 l s r)
    unfolding shorter_value
    shorter-third o b e = e ∙ alone ∙ sym (or-next _ _ (a ∙ by-script) ∙ or-next _ _ (b ∙ by-region))

  pub row-first : (v : Bytes) → some v ≡ look (joined_parts (parts3 l s r)) → some v ≡ row_value L (parts3 l s r)
  unfolding row_value joined_parts
  row-first v e = or-first _ _ v e

  module _ (a : none ≡ look (joined_parts (parts3 l s r))) (o : Option Bytes) where
    pub row-shorter : o ≡ shorter_value L (parts3 l s r) → o ≡ row_value L (parts3 l s r)
    unfolding row_value joined_parts
    row-shorter e = e ∙ sym (or-next _ _ a)

    -- the language alone, where script or region is missing
    pub row-no-script : length s ≡ 0 → o ≡ look (joined_parts (parts3 l [] [])) → o ≡ row_value L (parts3 l s r)
    unfolding shorter_value joined_parts
    row-no-script n e =
        let z = no_bytes_lem s n in
        let m : none ≡ look (l ++ r) = a ∙ ap (λ (x : Bytes). look (l ++ (x ++ r))) z in
        let k : look (l ++ s) ≡ look l = ap look (ap (λ (x : Bytes). l ++ x) z ∙ append-nil l) in
        row-shorter (e ∙ alone ∙ sym (ap₂ or_value k (or-next (look (l ++ r)) (look l) m) ∙ or-twice (look l)))

    pub row-no-region : length r ≡ 0 → o ≡ look (joined_parts (parts3 l [] [])) → o ≡ row_value L (parts3 l s r)
    unfolding shorter_value joined_parts
    row-no-region n e =
        let z = no_bytes_lem r n in
        let m : none ≡ look (l ++ s) = a ∙ ap look (ap (λ (x : Bytes). l ++ (s ++ x)) z ∙ ap (λ (x : Bytes). l ++ x) (append-nil s)) in
        let k : look (l ++ r) ≡ look l = ap look (ap (λ (x : Bytes). l ++ x) z ∙ append-nil l) in
        row-shorter (e ∙ alone ∙ sym (or-next (look (l ++ s)) (or_value (look (l ++ r)) (look l)) m ∙ ap (λ (x : Option Bytes). or_value x (look l)) k ∙ or-twice (look l)))

-- A value's cuts: the code seeks the first `-` as it seeks other bytes.
dash-suc : (at : ℕ) (x : Bytes) → dash_from (suc at) x ≡ suc (dash_from at x)
unfolding dash_from
dash-suc at [] = refl
dash-suc at (b ∷ bs) = go (eqb b 45) (dash-suc (at + 1) bs)
  where
    go : (t : Bool) → dash_from (suc (at + 1)) bs ≡ suc (dash_from (at + 1) bs)
        → elim t [ true ↦ suc at | false ↦ dash_from (suc at + 1) bs ] ≡ suc (elim t [ true ↦ at | false ↦ dash_from (at + 1) bs ])
    go true h = refl
    go false h = let z : suc at + 1 ≡ suc (at + 1) = omega arith in ap (λ (n : ℕ). dash_from n bs) z ∙ h

dash-end : (v : Bytes) (at : ℕ) → at ≤ length v → end_of 45 v at ≡ dash v at
unfolding dash dash_from end_of
dash-end [] zero h = refl
dash-end [] (suc at) h = absurd (not-suc-le-zero h)
dash-end (x ∷ v) zero h = go (eqb x 45) (dash-end v zero (omega arith))
  where
    go : (t : Bool) → end_of 45 v zero ≡ dash_from zero v → cond t zero (suc (end_of 45 v zero)) ≡ elim t [ true ↦ zero | false ↦ dash_from (0 + 1) v ]
    go true i = refl
    go false i = ap suc i ∙ sym (dash-suc 0 v)
dash-end (x ∷ v) (suc at) h = ap suc (dash-end v at (le_of_suc-le-suc h)) ∙ sym (dash-suc at (drop at v))

dash-off : (v : Bytes) (i : ℕ) → length v ≤ i → dash v i ≡ i
unfolding dash dash_from
dash-off v i h = rw (drop_of_length-le v h)

pub record Cuts (v : Bytes) (a b : ℕ) : Type 0 where
  pub first : a ≤ b
  pub second : b ≤ length v
  pub are : parts3 (take a v) (take (b - a) (drop a v)) (take (length v - b) (drop b v)) ≡ cut_parts v

pub cuts : (v : Bytes) (a b : ℕ) → a ≡ end_of 45 v 0 → b ≡ end_of 45 v (a + 1) → Cuts v a b
unfolding cut_parts
cuts v a b e f = go (le-or-lt (length v) a)
  where
    d : a ≡ dash v 0
    d = e ∙ dash-end v 0 (omega arith)

    w : drop b v ≡ take (length v - b) (drop b v)
    w = sym (take_all (length v - b) (drop b v) (omega (arith, length-drop b v)))

    low : a ≤ length v
    low = rw e (end-le 45 v 0)

    go : (length v ≤ a) ⊎ (a < length v) → Cuts v a b
    go (inr h) =
        let k = ends 45 v (a + 1) b f (omega arith) in
        record { first = let l = k.low in omega arith; second = k.high; are = rw (← d, ← w) (rw (f ∙ dash-end v (a + 1) (omega arith))) }
    go (inl h) =
        let z : a ≡ length v = omega (arith, low) in
        let y : b ≡ length v = f ∙ end-past 45 v (a + 1) (omega arith) in
        let n : dash v (a + 1) ≡ a + 1 = dash-off v (a + 1) (omega arith) in
        record {
          first = omega arith;
          second = omega arith;
          are =
              rw (← d)
              (rw (n, drop_of_length-le v h, drop_of_length-le v (let q : length v ≤ b = omega arith in q), drop_of_length-le v (let q : length v ≤ a + 1 = omega arith in q), take-nil (b - a), take-nil (a + 1 - a), take-nil (length v - b)));
        }

-- parts completed by a value, or complete already
pick-there : (x y : Bytes) → present x ≡ true → pick x y ≡ x
unfolding pick present
pick-there [] y e = clash {b = false} e refl
pick-there (b ∷ bs) y e = refl

over-complete : (p q : Parts) → complete_parts p ≡ true → over_parts p q ≡ p
unfolding over_parts complete_parts language_of
over-complete p q e =
    let h = and-true (not (same p.language und)) (present p.script && present p.region) e in
    let k = and-true (present p.script) (present p.region) h.1 in
    let l : same p.language und ≡ false = bool_cases (same p.language und) (λ t. clash {b = true} refl (sym h.0 ∙ ap not t)) (λ t. t) in
    rw (l, pick-there p.script q.script k.0, pick-there p.region q.region k.1)

pub filled-whole : (L : Bytes) (p : Parts) {b : Bool} → b ≡ complete_parts p → b ≡ true → some p ≡ fill_parts L p
unfolding fill_parts
filled-whole L p e t = rw (← e, t)

module _ (L : Bytes) (p : Parts) {b : Bool} (e : b ≡ complete_parts p) (t : b ≡ false) where
  pub filled_none : none ≡ row_value L p → none ≡ fill_parts L p
  unfolding fill_parts over_value
  filled_none h = rw (← e, t) (rw (← h))

  pub filled_row : (v : Bytes) (c q : Parts) → some v ≡ row_value L p → c ≡ cut_parts v → q ≡ over_parts p c → some q ≡ fill_parts L p
  unfolding fill_parts over_value
  filled_row v c q h k j = rw (← e, t) (rw (← h, j, k))

-- the parts that code takes from the identifier or the row
pub over-are : (p c : Parts) (l s r : Bytes) → l ≡ language_of p.language c.language → s ≡ pick p.script c.script → r ≡ pick p.region c.region → parts3 l s r ≡ over_parts p c
unfolding over_parts
over-are p c l s r e f g = rw (e, f, g)

-- a trial: no row, another script, or by the region
pub misfit-row : (L : Bytes) (m p : Parts) → none ≡ row_value L p → false ≡ fits_parts L m p
unfolding fits_parts fits_value
misfit-row L m p h = rw (← h)

module _ (L : Bytes) (m p c : Parts) (v : Bytes) (h : some v ≡ row_value L p) (k : c ≡ cut_parts v) (s r : Bytes) (e : s ≡ pick p.script c.script) {b : Bool} (a : b ≡ same s m.script) where
  pub misfit-script : b ≡ false → b ≡ fits_parts L m p
  unfolding fits_parts fits_value
  misfit-script t = rw (← h) (rw (← k, ← e, ← a, t))

  pub fit-region : (f : r ≡ pick p.region c.region) (g : Bool) → b ≡ true → g ≡ same r m.region → g ≡ fits_parts L m p
  unfolding fits_parts fits_value
  fit-region f g t q = rw (← h) (rw (← k, ← e, ← f, ← a, t) q)

-- which trial fits first
module _ (L : Bytes) (m : Parts) {b : Bool} (e : b ≡ fits_parts L m (parts3 m.language [] [])) where
  pub kept-alone : b ≡ true → parts3 m.language [] [] ≡ minimal_parts L m
  unfolding minimal_parts
  kept-alone t = rw (← e, t)

  module _ (t : b ≡ false) {c : Bool} (f : c ≡ fits_parts L m (parts3 m.language [] m.region)) where
    pub kept-region : c ≡ true → parts3 m.language [] m.region ≡ minimal_parts L m
    unfolding minimal_parts
    kept-region u = rw (← e, t, ← f, u)

    module _ (u : c ≡ false) {d : Bool} (g : d ≡ fits_parts L m (parts3 m.language m.script [])) where
      pub kept-script : d ≡ true → parts3 m.language m.script [] ≡ minimal_parts L m
      unfolding minimal_parts
      kept-script w = rw (← e, t, ← f, u, ← g, w)

      pub kept-both : d ≡ false → m ≡ minimal_parts L m
      unfolding minimal_parts
      kept-both w = rw (← e, t, ← f, u, ← g, w)
