-- Of a usage line only the first 260 bytes matter: behind a tab at the third place or before it, they hold more than an
-- identifier has. Assumes nothing.
use mathlib.Core.Path.{◌≡◌, refl, ap, ◌∙◌}
use mathlib.Core.Bool.{Bool, true, false}
use mathlib.Core.List.{[], ◌∷◌}
use mathlib.Core.Option.{Option, none, some}
use Prim.Native.Nat.{ℕ, ◌<◌}
use native.Mathlib.Omega.{arith}
use lib.Dec.{eqb}
use lib.ListN.{length, take}
use Rattle.standard.specs.Identifier.{Tables}
use Rattle.standard.specs.Delivery.{Bytes}
use Rattle.standard.proofs.Long.{read-long}
use Rattle.lines.proofs.Pieces.{first-enough}
use Rattle.bill_rules.specs.Bill.{member_of, before_tab, after_tab, key_of, key_of_read, usage_by, usage_at, usage}

key-long : (T : Tables) (x : Bytes) → 255 < length x → key_of T x ≡ none
unfolding key_of key_of_read
key-long T x h = ap (key_of_read T) (read-long x h)

-- no member, or no key
no_member_lem : (T : Tables) (o : Option Bytes) → usage_at T none o ≡ none
unfolding usage_at usage_by
no_member_lem T none = refl
no_member_lem T (some x) = refl

no_key : (T : Tables) (m : Option ℕ) (x : Bytes) → 255 < length x → usage_at T m (some x) ≡ none
unfolding usage_at usage_by
no_key T none x h = refl
no_key T (some m) x h = ap (usage_by (some m)) (key-long T x h)

by_number : (T : Tables) (l : Bytes) → member_of (before_tab l) ≡ none → usage T l ≡ none
unfolding usage
by_number T l e = ap (λ (m : Option ℕ). usage_at T m (after_tab l)) e ∙ no_member_lem T (after_tab l)

by-rest : (T : Tables) (l x : Bytes) → after_tab l ≡ some x → 255 < length x → usage T l ≡ none
unfolding usage
by-rest T l x e h = ap (usage_at T (member_of (before_tab l))) e ∙ no_key T (member_of (before_tab l)) x h

-- the tab, byte by byte
before-yes : (a : ℕ) (x : Bytes) → eqb a 9 ≡ true → before_tab (a ∷ x) ≡ []
unfolding before_tab
before-yes a x e = rw (e, before_tab)

before-no : (a : ℕ) (x : Bytes) → eqb a 9 ≡ false → before_tab (a ∷ x) ≡ a ∷ before_tab x
unfolding before_tab
before-no a x e = rw (e, before_tab)

after-yes : (a : ℕ) (x : Bytes) → eqb a 9 ≡ true → after_tab (a ∷ x) ≡ some x
unfolding after_tab
after-yes a x e = rw (e, after_tab)

after-no : (a : ℕ) (x : Bytes) → eqb a 9 ≡ false → after_tab (a ∷ x) ≡ after_tab x
unfolding after_tab
after-no a x e = rw (e, after_tab)

no-digits : member_of [] ≡ none
unfolding member_of
no-digits = refl

three-digits : (a b c : ℕ) (x : Bytes) → member_of (a ∷ b ∷ c ∷ x) ≡ none
unfolding member_of
three-digits a b c x = refl

-- a line of more than 258 bytes is refused
long-refused : (T : Tables) (l : Bytes) → 258 < length l → usage T l ≡ none
long-refused T [] h = absurd (omega arith)
long-refused T (a ∷ []) h = absurd (omega arith)
long-refused T (a ∷ b ∷ []) h = absurd (omega arith)
long-refused T (a ∷ b ∷ c ∷ l) h = first (eqb a 9) refl
  where
    third : eqb a 9 ≡ false → eqb b 9 ≡ false → (z : Bool) → eqb c 9 ≡ z → usage T (a ∷ b ∷ c ∷ l) ≡ none
    third e f true g =
        let y : after_tab (a ∷ b ∷ c ∷ l) ≡ some l = after-no a (b ∷ c ∷ l) e ∙ after-no b (c ∷ l) f ∙ after-yes c l g in
        by-rest T (a ∷ b ∷ c ∷ l) l y (omega arith)
    third e f false g =
        let y : before_tab (a ∷ b ∷ c ∷ l) ≡ a ∷ b ∷ c ∷ before_tab l = before-no a (b ∷ c ∷ l) e ∙ ap (λ (x : Bytes). a ∷ x) (before-no b (c ∷ l) f ∙ ap (λ (x : Bytes). b ∷ x) (before-no c l g)) in
        by_number T (a ∷ b ∷ c ∷ l) (ap member_of y ∙ three-digits a b c (before_tab l))

    second : eqb a 9 ≡ false → (z : Bool) → eqb b 9 ≡ z → usage T (a ∷ b ∷ c ∷ l) ≡ none
    second e true f =
        let y : after_tab (a ∷ b ∷ c ∷ l) ≡ some (c ∷ l) = after-no a (b ∷ c ∷ l) e ∙ after-yes b (c ∷ l) f in
        by-rest T (a ∷ b ∷ c ∷ l) (c ∷ l) y (omega arith)
    second e false f = third e f (eqb c 9) refl

    first : (z : Bool) → eqb a 9 ≡ z → usage T (a ∷ b ∷ c ∷ l) ≡ none
    first true e = by_number T (a ∷ b ∷ c ∷ l) (ap member_of (before-yes a (b ∷ c ∷ l) e) ∙ no-digits)
    first false e = second e (eqb b 9) refl

pub usage-first : (T : Tables) (l : Bytes) → usage T (take 260 l) ≡ usage T l
usage-first T l = first-enough (usage T) none (long-refused T) l
