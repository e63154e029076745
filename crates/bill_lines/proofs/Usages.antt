-- What a usage line says is its usage. Assumes nothing.
use mathlib.Core.Path.{◌≡◌, refl, sym, ap, ap₂, ◌∙◌}
use mathlib.Core.Bool.{Bool, true, false, cond, ◌&&◌}
use mathlib.Core.List.{[], ◌∷◌}
use mathlib.Core.Option.{Option, none, some, none-ne-some}
use Prim.Native.Nat.{ℕ, ◌+◌, ◌-◌, ◌*◌, ◌≤◌}
use native.Mathlib.Omega.{arith}
use lib.Dec.{leb}
use lib.ListN.{length, take, drop, length-drop}
use lib.Seq.{take_all}
use borrow.Author.Tests.{leb-true}
use Rattle.standard.specs.Grammar.{digit}
use Rattle.standard.specs.Identifier.{Tables}
use Rattle.standard.specs.Delivery.{Bytes}
use Rattle.standard.proofs.General.{and-true}
use Rattle.bill_rules.specs.Bill.{leading, member_of, before_tab, after_tab, key_of, usage_by, usage_at, usage}
use Rattle.bill_lines.specs.declared.shape.Shape.{Shape}
use Rattle.bill_lines.specs.Shapes.{member_if, Shaped}
use Rattle.std.specs.Prelude.{Some, None, Option as Maybe}
use Rattle.bill_lines.specs.Keys.{key_is}
use Rattle.bill_lines.proofs.Shapes.{leading-in, number-eq}

some-if : (b : Bool) (n m : ℕ) → cond b (some n) none ≡ some m → (b ≡ true) × (n ≡ m)
some-if true n m e = (refl, number-eq e)
some-if false n m e = absurd (none-ne-some m e)

-- a member number is 1 to 64
pub member-range : (x : Bytes) (m : ℕ) → member_of x ≡ some m → (1 ≤ m) × (m ≤ 64)
unfolding member_of
member-range [] m e = absurd (none-ne-some m e)
member-range (d ∷ []) m e =
    let s = some-if (leading d) (d - 48) m e in
    let a = leading-in d s.0 in
    let q = s.1 in
    (omega (arith, a.0), omega (arith, a.1))
member-range (d ∷ f ∷ []) m e =
    let n = (d - 48) * 10 + (f - 48) in
    let s = some-if (leading d && (digit f && leb n 64)) n m e in
    let a = and-true (leading d) (digit f && leb n 64) s.0 in
    let b = leading-in d a.0 in
    let c = and-true (digit f) (leb n 64) a.1 in
    let h = leb-true n 64 c.1 in
    let q = s.1 in
    (omega (arith, b.0), omega arith)
member-range (d ∷ f ∷ g ∷ x) m e = absurd (none-ne-some m e)

-- no member
pub no_member : (T : Tables) (l : Bytes) → Shaped l None → none ≡ usage T l
unfolding usage usage_at usage_by member_if
no_member T l s = go (after_tab l) (member_of (before_tab l)) s
  where
    go : (o : Option Bytes) (m : Option ℕ) → member_if o m ≡ none → none ≡ usage_at T m o
    go none m q = refl
    go (some x) none q = refl
    go (some x) (some n) q = absurd (none-ne-some n (sym q))

-- a member and the key of what stands behind the tab
module _ (T : Tables) (l : Bytes) (r : Shape) (s : Shaped l (Some r)) where
  said : usage T l ≡ usage_by (some r.member) (key_of T (drop r.start l))
  unfolding usage usage_at
  said = ap₂ (usage_at T) s.0 s.3

  whole-rest : take (length l - r.start) (drop r.start l) ≡ drop r.start l
  whole-rest = take_all (length l - r.start) (drop r.start l) (let n = length-drop r.start l in omega (arith, n))

  keyed : (n : Maybe ℕ) (out : Bytes) → key_is n out ≡ key_of T (take (length l - r.start) (drop r.start l)) → usage T l ≡ usage_by (some r.member) (key_is n out)
  keyed n out f = said ∙ ap (usage_by (some r.member)) (sym (ap (key_of T) whole-rest) ∙ sym f)

  pub no_key : (out : Bytes) → key_is None out ≡ key_of T (take (length l - r.start) (drop r.start l)) → none ≡ usage T l
  unfolding key_is usage_by
  no_key out f = sym (keyed None out f)

  pub has_key : (n : ℕ) (out : Bytes) → key_is (Some n) out ≡ key_of T (take (length l - r.start) (drop r.start l)) → some (record { member = r.member; key = take n out }) ≡ usage T l
  unfolding key_is usage_by
  has_key n out f = sym (keyed (Some n) out f)
