-- Laws of a member and what is wrong with it. Assumes nothing.
use Rattle.std.proofs.Common.{◌≡◌, ℕ, ◌<◌, ◌≤◌, true, false, cond, eqb, [], ◌∷◌, length, get_or, sym, refl, ◌∙◌, true≢false, ap, arith}
use mathlib.Core.Option.{none, some}
use Rattle.standard.specs.Grammar.{digit}
use Rattle.standard.specs.Delivery.{Bytes}
use Rattle.bill_rules.specs.Bill.{member_of}
use Rattle.bill_rules.specs.Refusals.{no_member, no_number, zero_first, out_of_range, digits, leading_zero, range_fault, member_fault}
use Rattle.std.specs.Prelude.{Option as Perhaps, Some, None}
use Rattle.std.specs.Option.{is_some}
use Rattle.std.specs.List.{list_all}
use Rattle.standard.proofs.General.{bool_cases}
use Rattle.bill_lines.specs.Shapes.{member_is as number_is}

-- digits, as std tests them
pub digits-all : (x : Bytes) → list_all digit x ≡ digits x
unfolding digits
digits-all [] = refl
digits-all (d ∷ x) = bool_cases (digit d) (λ e. rw e (digits-all x)) (λ e. rw e)

-- a leading zero
pub zero-short : (x : Bytes) → length x < 2 → leading_zero x ≡ false
unfolding leading_zero
zero-short [] h = refl
zero-short (d ∷ []) h = refl
zero-short (d ∷ e ∷ x) h = absurd (omega arith)

pub zero-long : (x : Bytes) → 2 ≤ length x → leading_zero x ≡ eqb (get_or x 0 0) 48
unfolding leading_zero
zero-long [] h = absurd (omega arith)
zero-long (d ∷ []) h = absurd (omega arith)
zero-long (d ∷ e ∷ x) h = refl

-- no member is named by another number of bytes
pub other-bytes : (x : Bytes) → (length x ≡ 1 → ⊥) → (length x ≡ 2 → ⊥) → none ≡ member_of x
unfolding member_of
other-bytes [] f g = refl
other-bytes (d ∷ []) f g = absurd (f refl)
other-bytes (d ∷ e ∷ []) f g = absurd (g refl)
other-bytes (d ∷ e ∷ f ∷ x) g h = refl

-- what is wrong first
pub no_bytes_lem : (x : Bytes) → length x ≡ 0 → some no_member ≡ member_fault x
unfolding member_fault
no_bytes_lem [] h = refl
no_bytes_lem (d ∷ x) h = absurd (omega arith)

module _ (x : Bytes) (h : length x ≡ 0 → ⊥) where
  some_bytes : member_fault x ≡ cond (digits x) (cond (leading_zero x) (some zero_first) (range_fault (member_of x))) (some no_number)
  unfolding member_fault
  some_bytes = go x h
    where
      go : (x : Bytes) → (length x ≡ 0 → ⊥) → member_fault x ≡ cond (digits x) (cond (leading_zero x) (some zero_first) (range_fault (member_of x))) (some no_number)
      go [] h = absurd (h refl)
      go (d ∷ x) h = refl

  pub no-digits : digits x ≡ false → some no_number ≡ member_fault x
  no-digits e = sym (some_bytes ∙ rw e)

  pub zero-first : digits x ≡ true → leading_zero x ≡ true → some zero_first ≡ member_fault x
  zero-first e f = sym (some_bytes ∙ rw (e, f))

  module _ (e : digits x ≡ true) (f : leading_zero x ≡ false) where
    ranged : member_fault x ≡ range_fault (member_of x)
    ranged = some_bytes ∙ rw (e, f)

    pub out_of_range_lem : none ≡ member_of x → some out_of_range ≡ member_fault x
    unfolding range_fault
    out_of_range_lem z = ap range_fault z ∙ sym ranged

    pub in-range : (o : Perhaps ℕ) → number_is o ≡ member_of x → is_some o ≡ true → none ≡ member_fault x
    unfolding range_fault
    in-range None e z = absurd (true≢false (sym z))
    in-range (Some m) e z = ap range_fault e ∙ sym ranged

pub none-named : (x : Bytes) (o : Perhaps ℕ) → number_is o ≡ member_of x → is_some o ≡ false → none ≡ member_of x
none-named x None e z = e
none-named x (Some m) e z = absurd (true≢false z)
