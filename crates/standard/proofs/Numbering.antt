-- 02, T-03, for all bytes; a file to open first, beside Theorem.antt: what reading refuses is what document 01 refused, at the
-- same place and with the same number, but that 5 is now 5, 15 or 16 by the place. Assumes nothing.
use mathlib.Core.Path.{◌≡◌, refl, sym, ap, ◌∙◌}
use mathlib.Core.Bool.{Bool, true, false, ◌&&◌}
use mathlib.Core.Logic.{◌↔◌}
use mathlib.Core.List.{List, [], ◌∷◌}
use mathlib.Core.Option.{Option, none, some, some-ne-none}
use Prim.Native.Nat.{ℕ, zero, suc, ◌+◌, ◌≤◌, ◌<◌}
use native.Mathlib.Omega.{arith}
use lib.Dec.{leb, eqb}
use lib.ListN.{length}
use borrow.Author.Tests.{lt-ltb, le-ltb}
use Rattle.standard.specs.Tag.{Tag, same, head_tag}
use Rattle.standard.specs.Grammar.{grouped, with_tag, is_singleton, is_field_key, u_tag, t_tag, x_tag, kind_of, is_variant, one_size, size_of}
use Rattle.standard.specs.Identifier.{parts}
use Rattle.standard.specs.Reading.{Fault, first_of, no_bytes, too_long, clean, unclean, bad_tag, wrong_size, member, Stage, accept, rest_fault, start, language_only, by_part, part_fault, alone, groups_fault, wrong_keyword, wrong_value, field_fault, fields_fault, extension_fault, private_fault, is_x, up_to, from, no_language, grammar_fault, fault_by, fault_of, split}
use Rattle.standard.specs.Numbering.{all_five, first_singleton, number_at, renumber, renumbered}
use Rattle.standard.proofs.Tags.{same-eq}
use Rattle.standard.proofs.General.{bool_cases}

-- the number by the place
late : (s p : ℕ) → s < p → number_at s p ≡ 16
unfolding number_at
late s zero h = absurd (omega arith)
late s (suc p) h = rw (lt-ltb s (suc p) h, number_at)

early : (s p : ℕ) → 0 < p → p ≤ s → number_at s p ≡ 15
unfolding number_at
early s zero h k = absurd (omega arith)
early s (suc p) h k = rw (le-ltb s (suc p) k, number_at)

module _ (s : ℕ) where
  five : (w p : ℕ) → number_at s p ≡ w → some (record { number = w; place = p }) ≡ renumbered s (some (record { number = 5; place = p }))
  unfolding renumbered renumber
  five w p e = rw e

  other : (n p : ℕ) → eqb n 5 ≡ false → some (record { number = n; place = p }) ≡ renumbered s (some (record { number = n; place = p }))
  unfolding renumbered renumber
  other n p e = rw (e, renumber)

  both : (a b c d : Option Fault) → a ≡ renumbered s c → b ≡ renumbered s d → first_of a b ≡ renumbered s (first_of c d)
  unfolding first_of renumbered
  both a b none d e f = rw (e, f)
  both a b (some g) d e f = rw e

  bad-tags : (w at : ℕ) (p : Tag → Bool) (ts : List Tag) → ((q : ℕ) → at ≤ q → number_at s q ≡ w) → bad_tag w p at ts ≡ renumbered s (bad_tag 5 p at ts)
  unfolding bad_tag renumbered
  bad-tags w at p [] h = refl
  bad-tags w at p (t ∷ ts) h = go (p t) (bad-tags w (at + suc (length t)) p ts (λ q k. h q (omega arith)))
    where
      go : (b : Bool) → bad_tag w p (at + suc (length t)) ts ≡ renumbered s (bad_tag 5 p (at + suc (length t)) ts)
          → elim b [ true ↦ some (record { number = w; place = at }) | false ↦ bad_tag w p (at + suc (length t)) ts ]
          ≡ renumbered s (elim b [ true ↦ some (record { number = 5; place = at }) | false ↦ bad_tag 5 p (at + suc (length t)) ts ])
      go true e = five w at (h at (omega arith))
      go false e = e

  -- w is the number of every place of these subtags
  rests : (w : ℕ) (st : Stage) (seen : List Tag) (at : ℕ) (ts : List Tag) → ((q : ℕ) → at ≤ q → q < at + parts ts → number_at s q ≡ w)
      → rest_fault w st seen at ts ≡ renumbered s (rest_fault 5 st seen at ts)
  unfolding rest_fault renumbered parts
  rests w st seen at [] h = refl
  rests w st seen at (t ∷ ts) h =
      go (accept st (kind_of t)) (is_variant t && member t seen) (λ next more. rests w next more (at + suc (length t)) ts (λ q k l. h q (omega arith) (omega arith)))
    where
      go : (o : Option Stage) (b : Bool) → ((next : Stage) (more : List Tag) → rest_fault w next more (at + suc (length t)) ts ≡ renumbered s (rest_fault 5 next more (at + suc (length t)) ts))
          → elim o [ none ↦ some (record { number = w; place = at }) | some next ↦ elim b [ true ↦ some (record { number = 6; place = at }) | false ↦ rest_fault w next (elim (is_variant t) [ true ↦ t ∷ seen | false ↦ seen ]) (at + suc (length t)) ts ] ]
          ≡ renumbered s (elim o [ none ↦ some (record { number = 5; place = at }) | some next ↦ elim b [ true ↦ some (record { number = 6; place = at }) | false ↦ rest_fault 5 next (elim (is_variant t) [ true ↦ t ∷ seen | false ↦ seen ]) (at + suc (length t)) ts ] ])
      go none b next = five w at (h at (omega arith) (omega arith))
      go (some n) true next = other 6 at refl
      go (some n) false next = next n _

  part : (m w : ℕ) (first : Tag → Option Stage) (at : ℕ) (ts : List Tag) → number_at s at ≡ m → ((q : ℕ) → at < q → q < at + parts ts → number_at s q ≡ w)
      → part_fault m w first at ts ≡ renumbered s (part_fault 5 5 first at ts)
  unfolding part_fault renumbered parts
  part m w first at [] e h = refl
  part m w first at (t ∷ ts) e h = go (first t)
    where
      go : (o : Option Stage) → elim o [ none ↦ some (record { number = m; place = at }) | some st ↦ rest_fault w st [] (at + suc (length t)) ts ]
          ≡ renumbered s (elim o [ none ↦ some (record { number = 5; place = at }) | some st ↦ rest_fault 5 st [] (at + suc (length t)) ts ])
      go none = five m at e
      go (some st) = rests w st [] (at + suc (length t)) ts (λ q k l. h q (omega arith) (omega arith))

  -- groups from the place m on
  behind : (m : ℕ) (inner was : ℕ → List Tag → Option Fault) → ((at : ℕ) (g : List Tag) → m ≤ at → inner at g ≡ renumbered s (was at g))
      → (seen : List Tag) (at : ℕ) (gs : List (List Tag)) → m ≤ at → groups_fault inner seen at gs ≡ renumbered s (groups_fault was seen at gs)
  unfolding groups_fault renumbered
  behind m inner was h seen at [] k = refl
  behind m inner was h seen at (g ∷ gs) k =
      go (member (head_tag g) seen) (alone g) (behind m inner was h (head_tag g ∷ seen) (at + parts g) gs (omega arith))
    where
      go : (a b : Bool) → groups_fault inner (head_tag g ∷ seen) (at + parts g) gs ≡ renumbered s (groups_fault was (head_tag g ∷ seen) (at + parts g) gs)
          → elim a [ true ↦ some (record { number = 6; place = at }) | false ↦ elim b [ true ↦ some (record { number = 7; place = at }) | false ↦ first_of (inner at g) (groups_fault inner (head_tag g ∷ seen) (at + parts g) gs) ] ]
          ≡ renumbered s (elim a [ true ↦ some (record { number = 6; place = at }) | false ↦ elim b [ true ↦ some (record { number = 7; place = at }) | false ↦ first_of (was at g) (groups_fault was (head_tag g ∷ seen) (at + parts g) gs) ] ])
      go true b e = other 6 at refl
      go false true e = other 7 at refl
      go false false e = both _ _ (was at g) (groups_fault was (head_tag g ∷ seen) (at + parts g) gs) (h at g k) e

  field : (at : ℕ) (g : List Tag) → suc s ≤ at → field_fault 16 at g ≡ renumbered s (field_fault 5 at g)
  unfolding field_fault
  field at g h = bad-tags 16 at wrong_value g (λ q l. late s q (omega arith))

  fields : (at : ℕ) (ts : List Tag) → suc s ≤ at → fields_fault 16 at ts ≡ renumbered s (fields_fault 5 at ts)
  unfolding fields_fault
  fields at ts h =
      let g = grouped is_field_key ts in
      both _ _ (part_fault 5 5 language_only at g.before) (groups_fault (field_fault 5) [] (at + parts g.before) g.groups)
      (part 16 16 language_only at g.before (late s at (omega arith)) (λ q l _. late s q (omega arith)))
      (behind (suc s) (field_fault 16) (field_fault 5) field [] (at + parts g.before) g.groups (omega arith))

  extension : (at : ℕ) (g : List Tag) → s ≤ at → extension_fault 16 at g ≡ renumbered s (extension_fault 5 at g)
  unfolding extension_fault renumbered
  extension at [] h = refl
  extension at (c ∷ ts) h = go (same c u_tag) (same c t_tag)
    where
      go : (a b : Bool) → elim a [ true ↦ bad_tag 16 wrong_keyword (at + 2) ts | false ↦ elim b [ true ↦ fields_fault 16 (at + 2) ts | false ↦ none ] ]
          ≡ renumbered s (elim a [ true ↦ bad_tag 5 wrong_keyword (at + 2) ts | false ↦ elim b [ true ↦ fields_fault 5 (at + 2) ts | false ↦ none ] ])
      go true b = bad-tags 16 (at + 2) wrong_keyword ts (λ q l. late s q (omega arith))
      go false true = fields (at + 2) ts (omega arith)
      go false false = refl

  private-same : (at : ℕ) (ts : List Tag) → private_fault at ts ≡ renumbered s (private_fault at ts)
  unfolding private_fault renumbered
  private-same at [] = refl
  private-same at (x ∷ []) = other 7 at refl
  private-same at (x ∷ t ∷ ts) = refl

  long_same : (x : List ℕ) → too_long x ≡ renumbered s (too_long x)
  unfolding too_long renumbered
  long_same x = go (leb (length x) 255)
    where
      go : (b : Bool) → ◌≡◌ {A = Option Fault} (elim b [ true ↦ none | false ↦ some (record { number = 2; place = 0 }) ]) (renumbered s (elim b [ true ↦ none | false ↦ some (record { number = 2; place = 0 }) ]))
      go true = refl
      go false = other 2 0 refl

  bytes_same : (x : List ℕ) → no_bytes x ≡ renumbered s (no_bytes x)
  unfolding no_bytes renumbered
  bytes_same [] = other 1 0 refl
  bytes_same (b ∷ bs) = refl

  unclean-same : (at : ℕ) (x : List ℕ) → unclean at x ≡ renumbered s (unclean at x)
  unfolding unclean renumbered
  unclean-same at [] = refl
  unclean-same at (b ∷ bs) = go (clean b) (unclean-same (suc at) bs)
    where
      go : (c : Bool) → unclean (suc at) bs ≡ renumbered s (unclean (suc at) bs)
          → elim c [ true ↦ unclean (suc at) bs | false ↦ some (record { number = 3; place = at }) ] ≡ renumbered s (elim c [ true ↦ unclean (suc at) bs | false ↦ some (record { number = 3; place = at }) ])
      go true e = e
      go false e = other 3 at refl

  size_same : (at : ℕ) (ts : List Tag) → bad_tag 4 wrong_size at ts ≡ renumbered s (bad_tag 4 wrong_size at ts)
  unfolding bad_tag renumbered
  size_same at [] = refl
  size_same at (t ∷ ts) = go (wrong_size t) (size_same (at + suc (length t)) ts)
    where
      go : (b : Bool) → bad_tag 4 wrong_size (at + suc (length t)) ts ≡ renumbered s (bad_tag 4 wrong_size (at + suc (length t)) ts)
          → elim b [ true ↦ some (record { number = 4; place = at }) | false ↦ bad_tag 4 wrong_size (at + suc (length t)) ts ]
          ≡ renumbered s (elim b [ true ↦ some (record { number = 4; place = at }) | false ↦ bad_tag 4 wrong_size (at + suc (length t)) ts ])
      go true e = other 4 at refl
      go false e = e

-- the subtags before the first singleton
x-single : (t : Tag) → is_x t ≡ true → is_singleton t ≡ true
unfolding is_x is_singleton one_size size_of
x-single t e = rw (same-eq t x_tag e)

pub front : (ts : List Tag) → (grouped is_singleton (up_to is_x ts)).before ≡ up_to is_singleton ts
unfolding grouped with_tag up_to
front [] = refl
front (t ∷ ts) = bool_cases (is_x t) (λ e. rw (e, up_to) (rw (x-single t e, up_to))) (λ e. rw (e, up_to) (go (is_singleton t) refl (front ts)))
  where
    go : (b : Bool) → is_singleton t ≡ b → (grouped is_singleton (up_to is_x ts)).before ≡ up_to is_singleton ts
        → (with_tag (is_singleton t) t (grouped is_singleton (up_to is_x ts))).before ≡ up_to is_singleton (t ∷ ts)
    go true e f = rw (e, up_to)
    go false e f = rw (e, up_to) (ap (◌∷◌ t) f)

-- the grammar, of a front that is some list of subtags
grammar : (ts : List Tag) → grammar_fault by_part ts ≡ renumbered (first_singleton ts) (grammar_fault all_five ts)
unfolding grammar_fault first_singleton no_language first_of renumbered renumber number_at parts
grammar ts = rw (← (front ts)) (go (grouped is_singleton (up_to is_x ts)).before (grouped is_singleton (up_to is_x ts)).groups)
  where
    go : (bs : List Tag) (gs : List (List Tag))
        → first_of (no_language 5 bs) (first_of (part_fault 5 15 start 0 bs) (first_of (groups_fault (extension_fault 16) [] (parts bs) gs) (private_fault (parts (up_to is_x ts)) (from is_x ts))))
        ≡ renumbered (parts bs) (first_of (no_language 5 bs) (first_of (part_fault 5 5 start 0 bs) (first_of (groups_fault (extension_fault 5) [] (parts bs) gs) (private_fault (parts (up_to is_x ts)) (from is_x ts)))))
    go [] gs = refl
    go (b ∷ bs) gs =
        let s = parts (b ∷ bs) in
        both s _ _ (part_fault 5 5 start 0 (b ∷ bs)) _ (part s 5 15 start 0 (b ∷ bs) refl (λ q k l. early s q k (omega arith)))
        (both s _ _ (groups_fault (extension_fault 5) [] s gs) _ (behind s s (extension_fault 16) (extension_fault 5) (extension s) [] s gs (omega arith)) (private-same s _ _))

-- 02, T-03, whole: a refusal stands at document 01's place and has its number, but that 5 is now 5, 15 or 16 by the place.
pub numbers-split : (x : List ℕ) → fault_of x ≡ renumbered (first_singleton (split x)) (fault_by all_five x)
unfolding fault_of fault_by
numbers-split x =
    let s = first_singleton (split x) in
    both s _ _ (no_bytes x) _ (bytes_same s x) (both s _ _ (too_long x) _ (long_same s x) (both s _ _ (unclean 0 x) _ (unclean-same s 0 x)
    (both s _ _ (bad_tag 4 wrong_size 0 (split x)) _ (size_same s 0 (split x)) (grammar (split x)))))

-- 02, T-03: no identifier that was refused is accepted now, or the reverse.
pub same-accepted : (x : List ℕ) → (fault_of x ≡ none) ↔ (fault_by all_five x ≡ none)
unfolding renumbered
same-accepted x = ((λ e. go (fault_by all_five x) refl (sym (numbers-split x) ∙ e)), (λ e. numbers-split x ∙ ap (renumbered (first_singleton (split x))) e))
  where
    go : (o : Option Fault) → fault_by all_five x ≡ o → renumbered (first_singleton (split x)) o ≡ none → fault_by all_five x ≡ none
    go none e f = e
    go (some g) e f = absurd (some-ne-none _ f)
