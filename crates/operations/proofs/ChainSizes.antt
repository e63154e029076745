-- How long a listing is and how many steps it has, so that its answer fits in one number. Assumes nothing.
use mathlib.Core.Path.{◌≡◌, refl, sym, ap, ◌∙◌, subst}
use mathlib.Core.Bool.{Bool, true, false}
use mathlib.Core.List.{List, [], ◌∷◌}
use mathlib.Core.Option.{Option, none, some, none-ne-some}
use Prim.Native.Nat.{ℕ, zero, suc, ◌+◌, ◌-◌, ◌*◌, ◌≤◌, ◌<◌}
use native.Mathlib.Omega.{arith}
use borrow.Author.Tests.{leb-true}
use lib.Dec.{leb, ltb}
use lib.ListN.{length, take, length-append}
use Rattle.standard.specs.Tag.{Tag, same, All}
use Rattle.standard.specs.Grammar.{a_variant, kind, kind_of, variant_kind, size_of, flat}
use Rattle.standard.specs.Delivery.{Bytes}
use Rattle.standard.specs.Identifier.{Identifier, Tables, done, und, canonical, canonical_form, parts, printed_length}
use Rattle.standard.specs.Calls.{canonicalise}
use Rattle.standard.specs.Reading.{read, good}
use Rattle.standard.specs.Chain.{line}
use Rattle.standard.specs.Table.{lookup, rows, located, tables_of, check, to_chain, to_check, listing}
use Rattle.standard.specs.Make.{operate, identifier, print_line, chain_of}
use Rattle.standard.proofs.General.{clash}
use Rattle.standard.proofs.Faults.{Variants}
use Rattle.standard.proofs.Operations.{bounded-done}
use Rattle.standard.proofs.Round.{Printable, length-print}
use Rattle.standard.proofs.Lines.{Plain, plain-printable}
use Rattle.operations.proofs.Wholes.{printable-among}
use Rattle.standard.proofs.Whole.{narrow-parents}
use Rattle.table.specs.Lines.{value_or}
use Rattle.table.proofs.Lines.{value-located}
use Rattle.parents.specs.Texts.{without_last, last_dash, parent_by, row_text, parent_text, chain_text}
use Rattle.parents.proofs.Laws.{first_plain, chain-text}
use Rattle.parents.proofs.Writing.{part-le, cut-le}
use Rattle.operations.proofs.ChainChecked.{tested-chain}

-- a value is a part of the table
value-le : (P x w : Bytes) → lookup (rows P) x ≡ some w → length w ≤ length P
unfolding value_or
value-le P x w e =
    let k = part-le (located P x).len (located P x).start P in
    let q = ap length (value-located P x ∙ ap value_or e) in
    omega (arith, k, q)

row-le : (P x w : Bytes) (v : ℕ) → row_text P v x ≡ some w → length w ≤ length P
unfolding row_text
row-le P x w zero e = value-le P x w e
row-le P x w (suc v) e = absurd (none-ne-some _ e)

parent-le : (P x : Bytes) (v : ℕ) → length P ≤ 32768 → length x ≤ 32768 → length (parent_text P v x) ≤ 32768
unfolding parent_text parent_by without_last
parent-le P x v p h = go (row_text P v x) refl
  where
    cut : (b : Bool) → length {A = ℕ} (elim b [ true ↦ take (last_dash x) x | false ↦ und ]) ≤ 32768
    cut true = cut-le (last_dash x) x h
    cut false = omega arith

    dropped : length (without_last x) ≤ 32768
    dropped = cut (ltb (last_dash x) (length x))

    go : (o : Option Bytes) → row_text P v x ≡ o → length (parent_by o x) ≤ 32768
    go none e = dropped
    go (some w) e = let k = row-le P x w v e in omega (arith, k)

-- few lines, and each of them short
pub record Short (n : ℕ) (ls : List Bytes) : Type 0 where
  pub few : length ls ≤ n + 1
  pub bytes : length (listing ls) ≤ (n + 1) * 32769

one-short : (n : ℕ) (x : Bytes) → length x ≤ 32768 → Short n (x ∷ [])
unfolding listing
one-short n x h = let k = length-append x (10 ∷ []) in record { few = omega arith; bytes = omega (arith, k) }

more-short : (n : ℕ) (x : Bytes) (ls : List Bytes) → length x ≤ 32768 → Short n ls → Short (suc n) (x ∷ ls)
unfolding listing
more-short n x ls h s = let k = length-append x (10 ∷ listing ls) in record { few = omega (arith, s.few); bytes = omega (arith, k, s.bytes) }

chain-short : (P x : Bytes) (n v : ℕ) → length P ≤ 32768 → length x ≤ 32768 → Short n (chain_text P n v x)
unfolding chain_text
chain-short P x zero v p h = one-short 0 x h
chain-short P x (suc n) v p h = go (same x und) (more-short n x _ h (chain-short P (parent_text P v x) n (v - 1) p (parent-le P x v p h)))
  where
    go : (b : Bool) → Short (suc n) (x ∷ chain_text P n (v - 1) (parent_text P v x)) → Short (suc n) (elim b [ true ↦ x ∷ [] | false ↦ x ∷ chain_text P n (v - 1) (parent_text P v x) ])
    go true s = one-short (suc n) x h
    go false s = s

-- a variant has bytes, and a separator before it
variant-some : (v : Tag) → kind_of v ≡ a_variant → 1 ≤ length v
unfolding kind_of kind size_of variant_kind
variant-some [] e = clash {b = true} refl (sym (ap variant_kind e))
variant-some (b ∷ bs) e = omega arith

variants-halve : (vs : List Tag) → Variants vs → length vs + length vs ≤ parts vs
unfolding parts Variants All
variants-halve [] h = omega arith
variants-halve (v ∷ vs) h = let k = variant-some v h.0 in let m = variants-halve vs h.1 in omega (arith, k, m)

-- the chain of a canonical form: at most 127 variants, so at most 138 lines
module _ (A P x : Bytes) (i c : Identifier) (pass : check to_chain A [] P ≡ none) (r : read x ≡ good i) (d : canonical (tables_of A [] P) i ≡ done c) where
  abbrev T : Tables
  T = tables_of A [] P

  abbrev whole : check to_check A [] P ≡ none
  whole = narrow-parents A P ∙ pass

  printable : Printable c
  unfolding operate
  printable = printable-among A [] P x canonicalise i c whole r d

  plain : Plain (line c.core c.variants)
  plain = first_plain c printable

  form-short : printed_length c ≤ 255
  unfolding canonical
  form-short = let q = bounded-done (canonical_form T i) c d in leb-true _ _ (ap (λ (j : Identifier). leb (printed_length j) 255) (sym q.0) ∙ q.1)

  line-length : length (print_line (line c.core c.variants)) ≤ 255
  unfolding print_line printed_length identifier flat parts
  line-length = let e = length-print (identifier (line c.core c.variants)) (plain-printable _ plain) in omega (arith, e, form-short)

  few-variants : length c.variants ≤ 127
  unfolding printed_length
  few-variants = let h = variants-halve c.variants printable.variants in omega (arith, h, form-short)

  lines-short : Short (length c.variants + 10) (chain_of T c)
  unfolding chain_of
  lines-short =
      let h = line-length in
      subst (Short (length c.variants + 10)) (sym (chain-text A [] P whole (length c.variants + 10) (line c.core c.variants) plain))
      (chain-short P (print_line (line c.core c.variants)) (length c.variants + 10) (length c.variants) (tested-chain A P pass).small (omega (arith, h)))

  pub lines-few : length (chain_of T c) ≤ 138
  lines-few = let s = lines-short in let v = few-variants in omega (arith, s.few, v)

  pub listing-few : length (listing (chain_of T c)) < 16777216
  listing-few = let s = lines-short in let v = few-variants in omega (arith, s.bytes, v)
