-- The marks of an entry are as many as the members that used its key. Assumes nothing.
use mathlib.Core.Path.{◌≡◌, refl, sym, ap, ap₂, ◌∙◌}
use mathlib.Core.Bool.{Bool, true, false, ◌&&◌}
use mathlib.Core.List.{List, [], ◌∷◌}
use Prim.Native.Nat.{ℕ, zero, suc, max, ◌+◌, ◌-◌, ◌*◌, ◌/◌, ◌%◌, ◌^◌, ◌≤◌}
use native.Mathlib.Nat.{pow-suc}
use native.Mathlib.Omega.{arith}
use lib.Bits.{bit_or, or_step, or_zero_r}
use lib.Count.{ones}
use lib.Dec.{eqb, leb}
use borrow.Author.Tests.{eq-eqb, ne_eqb, eqb-true, eqb-false, leb-true, leb-false}
use Rattle.standard.specs.Tag.{Tag, same, All}
use Rattle.bill_rules.specs.Bill.{Usage, more, used, members_up_to, members}
use Rattle.reader.specs.Marks.{bit}
use Rattle.reader.proofs.Bits.{ones-mark, bit-mark-same, bit-mark-other, or-mark, bit-zero}
use Rattle.reader.proofs.Sets.{flag}
use Rattle.bill_ledger.specs.Entries.{mark_of}
use Rattle.bill_ledger.specs.Ledger.{marks_of}

-- a member number
unfoldable pub Member : Usage → Type 0
Member u = (1 ≤ u.member) × (u.member ≤ 64)

or-again : (p n : ℕ) → bit n p ≡ 1 → bit_or n (2 ^ p) ≡ n
unfolding bit
or-again zero n h = or_step n 1 ∙ ap (λ (x : ℕ). x * 2 + max (n % 2) 1) (or_zero_r (n / 2)) ∙ omega arith
or-again (suc p) n h =
    let e : 2 ^ suc p ≡ 2 ^ p * 2 = pow-suc 2 p in
    let f : 2 ^ suc p / 2 ≡ 2 ^ p = omega arith in
    let g : 2 ^ suc p % 2 ≡ 0 = omega arith in
    or_step n (2 ^ suc p) ∙ ap₂ (λ (x y : ℕ). bit_or (n / 2) x * 2 + max (n % 2) y) f g
    ∙ omega (arith, or-again p (n / 2) h)

-- what a usage changes of who used the key
used-other : (k : Tag) (m : ℕ) (u : Usage) (us : List Usage) → (same k u.key && eqb m u.member) ≡ false → used k m (u ∷ us) ≡ used k m us
unfolding used
used-other k m u us e = rw e

and-false : (a b : Bool) → b ≡ false → (a && b) ≡ false
and-false true b e = e
and-false false b e = refl

members-same : (n : ℕ) (k : Tag) (us vs : List Usage) → ((m : ℕ) → m ≤ n → used k m us ≡ used k m vs) → members_up_to n k us ≡ members_up_to n k vs
unfolding members_up_to
members-same zero k us vs f = refl
members-same (suc n) k us vs f = ap₂ more (f (suc n) (omega arith)) (members-same n k us vs (λ m h. f m (omega arith)))

more-suc : (b : Bool) (n : ℕ) → more b (suc n) ≡ suc (more b n)
unfolding more
more-suc true n = refl
more-suc false n = refl

used-self : (k : Tag) (m : ℕ) (u : Usage) (us : List Usage) → same k u.key ≡ true → m ≡ u.member → used k m (u ∷ us) ≡ true
unfolding used
used-self k m u us s e = rw (s, eq-eqb m u.member e)

used-apart : (k : Tag) (m : ℕ) (u : Usage) (us : List Usage) → (m ≡ u.member → ⊥) → used k m (u ∷ us) ≡ used k m us
used-apart k m u us e = used-other k m u us (and-false (same k u.key) (eqb m u.member) (ne_eqb m u.member e))

members-new : (n : ℕ) (k : Tag) (u : Usage) (us : List Usage) → same k u.key ≡ true → 1 ≤ u.member → u.member ≤ n → used k u.member us ≡ false → members_up_to n k (u ∷ us) ≡ suc (members_up_to n k us)
unfolding members_up_to more
members-new zero k u us s l h f = absurd (omega arith)
members-new (suc n) k u us s l h f = go (leb u.member n) refl (λ g. members-new n k u us s l g f)
  where
    go : (b : Bool) → leb u.member n ≡ b → (u.member ≤ n → members_up_to n k (u ∷ us) ≡ suc (members_up_to n k us)) → more (used k (suc n) (u ∷ us)) (members_up_to n k (u ∷ us)) ≡ suc (more (used k (suc n) us) (members_up_to n k us))
    go true e i =
        let g = leb-true u.member n e in
        ap₂ more (used-apart k (suc n) u us (λ (q : suc n ≡ u.member). omega arith)) (i g) ∙ more-suc (used k (suc n) us) (members_up_to n k us)
    go false e i =
        let g = leb-false u.member n e in
        let q : suc n ≡ u.member = omega arith in
        ap₂ more (used-self k (suc n) u us s q) (members-same n k (u ∷ us) us (λ m w. used-apart k m u us (λ (v : m ≡ u.member). omega arith)))
        ∙ sym (ap (λ (b : Bool). suc (more b (members_up_to n k us))) (ap (λ (m : ℕ). used k m us) q ∙ f))

-- the marks are the members
pub record Counted (k : Tag) (us : List Usage) : Type 0 where
  pub bits : (p : ℕ) → bit (marks_of k us) p ≡ flag (used k (suc p) us)
  pub count : ones (marks_of k us) ≡ members k us

marks-skip : (k : Tag) (u : Usage) (us : List Usage) → same k u.key ≡ false → marks_of k (u ∷ us) ≡ marks_of k us
unfolding marks_of
marks-skip k u us e = rw (e, marks_of)

marks-mark : (k : Tag) (u : Usage) (us : List Usage) → same k u.key ≡ true → marks_of k (u ∷ us) ≡ bit_or (marks_of k us) (2 ^ (u.member - 1))
unfolding marks_of mark_of
marks-mark k u us e = rw (e, marks_of)

counted_none : (k : Tag) → Counted k []
unfolding marks_of used members members_up_to ones more
counted_none k = record { bits = bit-zero; count = none 64 }
  where
    none : (n : ℕ) → 0 ≡ members_up_to n k []
    none zero = refl
    none (suc n) = none n

module _ (k : Tag) (u : Usage) (us : List Usage) (m : Member u) (c : Counted k us) where
  skipped : same k u.key ≡ false → Counted k (u ∷ us)
  unfolding members
  skipped e =
      let o : (j : ℕ) → used k j (u ∷ us) ≡ used k j us = λ j. used-other k j u us (ap (λ (b : Bool). b && eqb j u.member) e) in
      record {
        bits = λ p. ap (λ (n : ℕ). bit n p) (marks-skip k u us e) ∙ c.bits p ∙ ap flag (sym (o (suc p)));
        count = ap ones (marks-skip k u us e) ∙ c.count ∙ sym (members-same 64 k (u ∷ us) us (λ j h. o j));
      }

  repeated : same k u.key ≡ true → used k u.member us ≡ true → Counted k (u ∷ us)
  unfolding members Member
  repeated e f =
      let q : suc (u.member - 1) ≡ u.member = omega arith in
      let b : bit (marks_of k us) (u.member - 1) ≡ 1 = c.bits (u.member - 1) ∙ ap (λ (j : ℕ). flag (used k j us)) q ∙ ap flag f in
      let n = marks-mark k u us e ∙ or-again (u.member - 1) (marks_of k us) b in
      let o : (j : ℕ) → used k j (u ∷ us) ≡ used k j us = λ j. again j (eqb j u.member) refl in
      record {
        bits = λ p. ap (λ (n : ℕ). bit n p) n ∙ c.bits p ∙ ap flag (sym (o (suc p)));
        count = ap ones n ∙ c.count ∙ sym (members-same 64 k (u ∷ us) us (λ j h. o j));
      }
    where
      again : (j : ℕ) (b : Bool) → eqb j u.member ≡ b → used k j (u ∷ us) ≡ used k j us
      again j true w = let z = eqb-true j u.member w in used-self k j u us e z ∙ sym (ap (λ (i : ℕ). used k i us) z ∙ f)
      again j false w = used-apart k j u us (eqb-false j u.member w)

  marked : same k u.key ≡ true → used k u.member us ≡ false → Counted k (u ∷ us)
  unfolding members Member
  marked e f =
      let q : suc (u.member - 1) ≡ u.member = omega arith in
      let b : bit (marks_of k us) (u.member - 1) ≡ 0 = c.bits (u.member - 1) ∙ ap (λ (j : ℕ). flag (used k j us)) q ∙ ap flag f in
      let n = marks-mark k u us e ∙ or-mark (u.member - 1) (marks_of k us) b in
      record {
        bits = λ p. ap (λ (n : ℕ). bit n p) n ∙ go p b (eqb (u.member - 1) p) refl;
        count = ap ones n ∙ ones-mark (u.member - 1) (marks_of k us) b ∙ ap suc c.count ∙ sym (members-new 64 k u us e m.0 m.1 f);
      }
    where
      go : (p : ℕ) → bit (marks_of k us) (u.member - 1) ≡ 0 → (t : Bool) → eqb (u.member - 1) p ≡ t → bit (2 ^ (u.member - 1) + marks_of k us) p ≡ flag (used k (suc p) (u ∷ us))
      go p b true w =
          let z = eqb-true (u.member - 1) p w in
          ap (bit (2 ^ (u.member - 1) + marks_of k us)) (sym z) ∙ bit-mark-same (u.member - 1) (marks_of k us) b ∙ sym (ap flag (used-self k (suc p) u us e (let y : suc p ≡ u.member = omega arith in y)))
      go p b false w =
          let z = eqb-false (u.member - 1) p w in
          bit-mark-other (u.member - 1) p (marks_of k us) b z ∙ c.bits p ∙ sym (ap flag (used-apart k (suc p) u us (λ (y : suc p ≡ u.member). z (omega arith))))

  pub counted-more : Counted k (u ∷ us)
  counted-more = go (same k u.key) refl (used k u.member us) refl
    where
      go : (a : Bool) → same k u.key ≡ a → (b : Bool) → used k u.member us ≡ b → Counted k (u ∷ us)
      go false e b f = skipped e
      go true e true f = repeated e f
      go true e false f = marked e f

pub marks-counted : (k : Tag) (us : List Usage) → All Member us → Counted k us
unfolding All
marks-counted k [] a = counted_none k
marks-counted k (u ∷ us) a = counted-more k u us a.0 (marks-counted k us a.1)
