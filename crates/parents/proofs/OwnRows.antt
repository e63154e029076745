-- A row of the parents and its own key: where the key's hint names the row, its value is the parent.
-- Assumes nothing.
use mathlib.Core.Path.{◌≡◌, refl, sym, ap, ◌∙◌, subst}
use mathlib.Core.Bool.{true}
use mathlib.Core.List.{List}
use Prim.Native.Nat.{ℕ, ◌+◌, ◌-◌, ◌≤◌}
use native.Mathlib.Omega.{arith}
use lib.ListN.{length, take, drop}
use mathlib.Core.Option.{some}
use Rattle.standard.specs.Table.{rows, parent_shape, Found as Located, located, Pass}
use Rattle.table.specs.Lines.{row_at, row_in, value_if}
use Rattle.table.specs.Hints.{slot_from, hint_at, OpensIs, Seen, Indexed}
use Rattle.table.proofs.Hinting.{leads-at, hint-alone, seen-line}
use Rattle.table.proofs.Lines.{in-row}
use Rattle.parents.specs.Walk.{cut, OwnRow, ParentIs}
use Rattle.parents.proofs.Walks.{cut-length as cut-size, parent_row}

module _ (p hints : List ℕ) (i k e : ℕ) (h : Indexed p hints) (pass : Pass parent_shape (rows p)) (w : OwnRow p i k e) where
  x : List ℕ
  x = cut p i k

  place : i + length x + 1 ≡ k + 1
  unfolding x
  place = let n = cut-size p i k w.low (let a = w.tab in let b = w.high in omega arith) in let l = w.low in omega arith

  pub own_value : (s v : ℕ) → s ≡ slot_from 0 (cut p i k) → v ≡ hint_at hints s → v ≡ i + 1 → v ≤ 32767 → OpensIs p i true → ParentIs p (cut p i k) (some (take (e - (k + 1)) (drop (k + 1) p)))
  unfolding x
  own_value s v es ev vi few o =
      let t = w.tab in
      let g = w.high in
      let l = w.low in
      let F : Located = row_at (i + length x + 1) (e - (i + length x + 1)) in
      let own : F ≡ row_in p x i e = (in-row p x i e true (omega arith) g (sym w.begins) refl).0 in
      let seen : Seen p x i F = seen-line p x i e o w.line F own in
      let j : i ≡ v - 1 = omega arith in
      let loc : F ≡ located p x = hint-alone p x v (leads-at p hints x s v h.hinted es ev) F (omega arith) (omega arith) (subst (λ (q : ℕ). Seen p x q F) j seen) in
      let q : some (take (e - (k + 1)) (drop (k + 1) p)) ≡ value_if p (located p x) = ap (λ (a : ℕ). some (take (e - a) (drop a p))) (sym place) ∙ ap (value_if p) loc in
      parent_row x w.key p pass (take (e - (k + 1)) (drop (k + 1) p)) q
