-- Laws of the key that is looked up for a subtag, and of its slot.
-- Assumes nothing.
use mathlib.Core.Bool.{Bool, false}
use Rattle.std.specs.Prelude.{Option, Some, None}
use Rattle.std.specs.Option.{is_some}
use Rattle.std.specs.declared.ops.Range.{Range}
use Rattle.table.specs.Lines.{found_is}
use mathlib.Core.Path.{◌≡◌, sym, ap, ap₂, ◌∙◌}
use mathlib.Core.List.{List, ◌++◌}
use Prim.Native.Nat.{ℕ, ◌+◌, ◌≤◌, ◌<◌}
use native.Mathlib.Omega.{arith}
use lib.ListN.{length, take, length-append}
use lib.Seq.{sets, length-sets}
use Rattle.standard.specs.Tag.{Tag}
use Rattle.standard.specs.Table.{Found as Located}
use Rattle.byte_string.proofs.Stores.{sets-append, written}
use Rattle.table.specs.Hints.{slot_from, slot_of, hint_at, Leads, Hinted}
use Rattle.table.proofs.Hinting.{slot-append, leads-at, hint-none}
use Rattle.row_shapes.specs.declared.aliases.AliasKind.{AliasKind}
use Rattle.row_shapes.specs.declared.aliases.AliasKind.TheVariants.{Language, Script, Region, Variant}
use Rattle.aliases.specs.Keys.{kind_key, is_key}

-- The hint of a key, whose slot goes on from that of the kind's name.
module _ (A hints : List ℕ) (k : AliasKind) (tag : Tag) (d s v : ℕ) (h : Hinted A hints) (e : d ≡ slot_of (kind_key k)) (f : s ≡ slot_from d tag) (g : v ≡ hint_at hints s) where
  pub key-leads : Leads A (kind_key k ++ tag) v
  unfolding slot_of
  key-leads = leads-at A hints (kind_key k ++ tag) s v h (f ∙ ap (λ (x : ℕ). slot_from x tag) e ∙ sym (slot-append 0 (kind_key k) tag)) g

  pub no_key : v ≡ 0 → false ≡ is_key A k tag
  unfolding is_key
  no_key z = ap (λ (x : Located). x.found) (hint-none A (kind_key k ++ tag) v key-leads z)

-- The key that the search writes.
pub kind-size : (k : AliasKind) → length (kind_key k) ≤ 9
unfolding kind_key
kind-size Language = omega arith
kind-size Script = omega arith
kind-size Region = omega arith
kind-size Variant = omega arith

pub written-key : (k : AliasKind) (tag o o₁ o₂ : List ℕ) (n m : ℕ) → length o ≡ 32 → length tag ≤ 16 → n ≡ length (kind_key k) → o₁ ≡ sets o 0 (kind_key k) → m ≡ n + length tag → o₂ ≡ sets o₁ n tag
    → take m o₂ ≡ kind_key k ++ tag
written-key k tag o o₁ o₂ n m l h en e₁ em e₂ =
    let s = kind-size k in
    let x = kind_key k ++ tag in
    let g = length-append (kind_key k) tag in
    let w : o₂ ≡ sets o 0 x = e₂ ∙ ap₂ (λ (y : List ℕ) (j : ℕ). sets y j tag) e₁ en ∙ sym (sets-append o 0 (kind_key k) tag ∙ ap (λ (j : ℕ). sets (sets o 0 (kind_key k)) j tag) (omega arith)) in
    let z : m ≡ length x = omega arith in
    ap₂ take z w ∙ written o x (omega arith)

-- the answers by the kind
module _ {k : AliasKind} where
  pub seed-is : (l : AliasKind) (r : ℕ) → k ≡ l → r ≡ slot_of (kind_key l) → r < 16384 → (r ≡ slot_of (kind_key k)) × (r < 16384)
  seed-is l r e f g = (f ∙ ap (λ (x : AliasKind). slot_of (kind_key x)) (sym e), g)

  pub put_is : (l : AliasKind) (r : ℕ) (o o₁ x : List ℕ) → k ≡ l → x ≡ kind_key l → r ≡ 0 + length x → o₁ ≡ sets o 0 x → (r ≡ length (kind_key k)) × (o₁ ≡ sets o 0 (kind_key k))
  put_is l r o o₁ x e f g h =
      let z : x ≡ kind_key k = f ∙ ap kind_key (sym e) in
      let n = ap length z in
      (omega arith, h ∙ ap (sets o 0) z)

pub sized : (o o₁ x : List ℕ) (n at : ℕ) → length o ≡ n → o₁ ≡ sets o at x → length o₁ ≡ n
sized o o₁ x n at l e = ap length e ∙ length-sets o at x ∙ l

-- a row was found, or none
pub is-some-found : (r : Option (Range ℕ)) (f : Located) → found_is r ≡ f → {b : Bool} → b ≡ is_some r → b ≡ f.found
is-some-found None f e g = g ∙ ap (λ (x : Located). x.found) e
is-some-found (Some r) f e g = g ∙ ap (λ (x : Located). x.found) e
