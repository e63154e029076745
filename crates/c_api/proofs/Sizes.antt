-- Every answer fits in one number. Assumes nothing.
use mathlib.Core.Path.{◌≡◌, refl, ◌∙◌, subst}
use mathlib.Core.Bool.{Bool, true, false, cond}
use mathlib.Core.List.{[], ◌++◌}
use mathlib.Core.Option.{Option, none, some}
use Prim.Native.Nat.{ℕ, ◌<◌}
use native.Mathlib.Omega.{arith}
use lib.Dec.{leb}
use lib.ListN.{length, drop}
use Rattle.standard.specs.Delivery.{Bytes, Made, result, refusal, Given, given}
use Rattle.standard.specs.Identifier.{Identifier, Tables, Three, Answer, done, refused, bounded, printed_length, filled, then, with_three, canonical, maximised, minimised}
use Rattle.standard.specs.Reading.{Fault, fault_of, Read, good, bad, read_as, read, print, identifier_of, split}
use Rattle.standard.specs.Calls.{Operation, canonicalise, maximise, minimise}
use Rattle.standard.specs.Table.{TableFault, tables_of, check, to_canonicalise, to_maximise, to_chain, to_check}
use Rattle.standard.specs.Make.{operate, made, make_of, make, listed, chain_made, chain_from, after_check, canonicalise_made, maximise_made, minimise_made, list_made}
use Rattle.standard.proofs.Numbers.{at-most-16, ReadingFault, fault-within, TableWithin, check-within}
use Rattle.standard.proofs.Bounds.{Below, fault-below, AllNamed, check-named}
use Rattle.standard.proofs.Long.{read_short}
use Rattle.standard.proofs.Demand.{result-of}
use Rattle.standard.proofs.Table.{passed, good-tables, shaped-tables}
use Rattle.standard.proofs.Whole.{narrow-aliases, narrow-likely}
use Rattle.operations.proofs.ChainSizes.{lines-few, listing-few}

-- an answer whose parts have room in the number
pub record Fitting (g : Given) : Type 0 where
  pub number : g.number < 256
  pub table : g.table < 256
  pub place : g.place < 65536
  pub len : g.len < 16777216
  pub steps : g.steps < 256

-- what is made small enough for that, whatever the output lent
unfoldable pub Small : Made → Type 0
Small (result r s) = (length r < 16777216) × (s < 256)
Small (refusal n p t) = (n < 256) × ((p < 65536) × (t < 256))

pub given-fitting : (m : Made) (out : Bytes) → Small m → Fitting (given m out)
unfolding given Small
given-fitting (refusal n p t) out h = record { number = h.0; table = h.1.1; place = h.1.0; len = omega arith; steps = omega arith }
given-fitting (result r s) out h = go (leb (length r) (length out))
  where
    go : (b : Bool)
        → Fitting (cond b (record { number = 0; place = 0; table = 0; len = length r; steps = s; output = r ++ drop (length r) out }) (record { number = 10; place = 0; table = 0; len = 0; steps = 0; output = out }))
    go true = record { number = omega arith; table = omega arith; place = omega arith; len = h.0; steps = h.1 }
    go false = record { number = omega arith; table = omega arith; place = omega arith; len = omega arith; steps = omega arith }

-- the tables' refusals
after_small : (o : Option TableFault) (m : Made) → TableWithin o → AllNamed o → (o ≡ none → Small m) → Small (after_check o m)
unfolding after_check TableWithin AllNamed Small
after_small none m w n k = k refl
after_small (some f) m w n k = (omega (arith, w.1), (omega (arith, n.place), omega (arith, n.table)))

-- reading's refusals
read_small : (x : Bytes) (n p : ℕ) → read x ≡ bad n p → Small (refusal n p 0)
unfolding read read_as ReadingFault Below Small
read_small x n p e = go (fault_of x) (fault-within x) (fault-below x) e
  where
    bad-one : {a b c d : ℕ} → bad a b ≡ bad c d → (a ≡ c) × (b ≡ d)
    bad-one q = (cc, cc)

    good-not : {i : Identifier} {a b : ℕ} {Q : Type 0} → good i ≡ bad a b → Q
    good-not q = let z : ◌≡◌ {A = ℕ} 0 1 = cc in absurd (omega arith)

    go : (o : Option Fault) → ReadingFault o → Below 600 o → read_as o (identifier_of (split x)) ≡ bad n p → (n < 256) × ((p < 65536) × (0 < 256))
    go none w b q = good-not q
    go (some f) w b q = let z = bad-one q in (omega (arith, at-most-16 f.number w, z.0), (omega (arith, b, z.1), omega arith))

-- 8 and 9
unfoldable SmallAnswer : Answer → Type 0
SmallAnswer (done i) = Unit {0}
SmallAnswer (refused n) = n < 256

bounded-small : (i : Identifier) → SmallAnswer (bounded i)
unfolding bounded SmallAnswer
bounded-small i = go (leb (printed_length i) 255)
  where
    go : (b : Bool) → SmallAnswer (cond b (done i) (refused 9))
    go true = tt
    go false = omega arith

then-small : (f : Identifier → Answer) (a : Answer) → ((i : Identifier) → SmallAnswer (f i)) → SmallAnswer a → SmallAnswer (then f a)
unfolding then SmallAnswer
then-small f (done i) h k = h i
then-small f (refused n) h k = k

filled-small : (c : Identifier) (o : Option Three) → SmallAnswer (filled c o)
unfolding filled SmallAnswer
filled-small c none = omega arith
filled-small c (some t) = bounded-small (with_three c t)

operate-small : (T : Tables) (o : Operation) (i : Identifier) → SmallAnswer (operate T o i)
unfolding operate canonical maximised minimised SmallAnswer
operate-small T canonicalise i = bounded-small _
operate-small T maximise i = then-small _ _ (λ c. filled-small c _) (bounded-small _)
operate-small T minimise i = then-small _ _ (λ m. tt) (then-small _ _ (λ c. filled-small c _) (bounded-small _))

refused-small : (a : Answer) (n : ℕ) → SmallAnswer a → a ≡ refused n → Small (refusal n 0 0)
unfolding SmallAnswer Small
refused-small a n h e = let k = subst SmallAnswer e h in (k, (omega arith, omega arith))

-- a result is read back, and so is short
module _ (A L P x : Bytes) (pass : check to_check A L P ≡ none) where
  abbrev T : Tables
  T = tables_of A L P

  result-small : (o : Operation) (r : Bytes) (w : ℕ) → make T o x ≡ result r w → Small (result r w)
  unfolding Small
  result-small o r w e =
      let k = passed A L P pass in
      let q = result-of T (good-tables A L P k) (shaped-tables A L P k) o x r w e in
      let s = read_short r q.output q.back in
      let z = q.stepless in
      (omega (arith, s), omega (arith, z))

  make-small : (o : Operation) → Small (make T o x)
  unfolding make make_of made
  make-small o = go (read x) refl
    where
      by : (i : Identifier) → read x ≡ good i → (a : Answer) → operate T o i ≡ a → Small (made a)
      by i r (done c) e = result-small o (print c) 0 (rw (r, e))
      by i r (refused n) e = refused-small (operate T o i) n (operate-small T o i) e

      go : (a : Read) → read x ≡ a → Small (make_of T o a)
      go (good i) r = by i r (operate T o i) refl
      go (bad n p) r = read_small x n p r

pub canonicalise-small : (A x : Bytes) → Small (canonicalise_made A x)
unfolding canonicalise_made
canonicalise-small A x = after_small _ _ (check-within to_canonicalise A [] []) (check-named to_canonicalise A [] []) (λ e. make-small A [] [] x (narrow-aliases A ∙ e) canonicalise)

pub maximise-small : (A L x : Bytes) → Small (maximise_made A L x)
unfolding maximise_made
maximise-small A L x = after_small _ _ (check-within to_maximise A L []) (check-named to_maximise A L []) (λ e. make-small A L [] x (narrow-likely A L ∙ e) maximise)

pub minimise-small : (A L x : Bytes) → Small (minimise_made A L x)
unfolding minimise_made
minimise-small A L x = after_small _ _ (check-within to_maximise A L []) (check-named to_maximise A L []) (λ e. make-small A L [] x (narrow-likely A L ∙ e) minimise)

chain-small : (A P x : Bytes) → check to_chain A [] P ≡ none → Small (chain_from (tables_of A [] P) (read x))
unfolding chain_from chain_made listed Small operate
chain-small A P x pass = go (read x) refl
  where
    by : (i : Identifier) → read x ≡ good i → (a : Answer) → canonical (tables_of A [] P) i ≡ a → Small (chain_made (tables_of A [] P) a)
    by i r (done c) e =
        let n = lines-few A P x i c pass r e in
        (listing-few A P x i c pass r e, omega (arith, n))
    by i r (refused n) e = refused-small (canonical (tables_of A [] P) i) n (operate-small (tables_of A [] P) canonicalise i) e

    go : (a : Read) → read x ≡ a → Small (chain_from (tables_of A [] P) a)
    go (good i) r = by i r (canonical (tables_of A [] P) i) refl
    go (bad n p) r = read_small x n p r

pub list-small : (A P x : Bytes) → Small (list_made A P x)
unfolding list_made
list-small A P x = after_small _ _ (check-within to_chain A [] P) (check-named to_chain A [] P) (chain-small A P x)
