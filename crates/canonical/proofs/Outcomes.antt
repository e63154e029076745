-- What canonicalising answers, by what reading answered. Assumes nothing.
use mathlib.Core.Path.{◌≡◌, refl, sym, ap, ap₂, ◌∙◌}
use mathlib.Core.Bool.{Bool, true, false, cond}
use mathlib.Core.List.{List, []}
use mathlib.Core.Option.{Option, none, some}
use Prim.Native.Nat.{ℕ, ◌≤◌, ◌<◌}
use native.Mathlib.Omega.{arith}
use lib.Dec.{leb}
use lib.ListN.{length}
use lib.Seq.{sets}
use borrow.Author.Tests.{le-leb, lt-leb}
use Rattle.reader.specs.declared.Parts.{Parts as ReaderParts}
use Rattle.standard.specs.Identifier.{Identifier, Tables, bounded, done, refused, canonical, printed_length}
use Rattle.standard.specs.Reading.{Fault, fault_of, split, identifier_of, print, read_as, read}
use Rattle.standard.specs.Table.{tables_of}
use Rattle.std.specs.Prelude.{Result, Ok, Err}
use Rattle.reader.specs.declared.Refusal.{Refusal}
use Rattle.reader.specs.Parts.{parts_of, parts, refused as unread, outcome_of as reader_outcome_of, outcome_as, outcome as reader_outcome}
use Rattle.canonical.specs.declared.form.Form.{Form}
use Rattle.canonical.specs.declared.form.NoForm.TheVariants.{Unread as NotRead, Overlong}
use Rattle.canonical.specs.Form.{form_of, form, refusal, outcome_of, formed, canonical_of, outcome, accepted, FormFits}
use Rattle.aliases.proofs.Keyed.{front-in}

-- a refusal of reading
refused_as : (T : Tables) (i : Identifier) (q : ReaderParts) (o : Option Fault) (n p : ℕ) → unread n p ≡ outcome_as o q → refusal n p ≡ canonical_of T (read_as o i)
unfolding outcome_as canonical_of read_as
refused_as T i q none n p e = absurd (let z : ◌≡◌ {A = ℕ} 0 1 = cc in omega arith)
refused_as T i q (some f) n p e = let a : n ≡ f.number = cc in let b : p ≡ f.place = cc in ap₂ refusal a b

module _ (A x out : List ℕ) where
  -- where reading refuses, its answer stands
  pub stands : (r : Result ReaderParts Refusal) (why : Refusal) → reader_outcome_of r ≡ reader_outcome x → r ≡ Err why → (outcome_of (Err (NotRead why)) out ≡ outcome A x) × FormFits (Err (NotRead why))
  unfolding reader_outcome_of reader_outcome outcome_of outcome read FormFits
  stands r why e f = (refused_as (tables_of A [] []) (identifier_of (split x)) (parts_of (split x)) (fault_of x) _ _ (sym (ap reader_outcome_of f) ∙ e), tt)

  -- what was read
  pub was_read : (r : Result ReaderParts Refusal) (p : ReaderParts) → reader_outcome_of r ≡ reader_outcome x → r ≡ Ok p → (fault_of x ≡ none) × (p ≡ parts_of (split x))
  unfolding reader_outcome_of reader_outcome outcome_as
  was_read r p e f = go (fault_of x) refl (sym (ap reader_outcome_of f) ∙ e)
    where
      go : (o : Option Fault) → fault_of x ≡ o → parts p ≡ outcome_as o (parts_of (split x)) → (o ≡ none) × (p ≡ parts_of (split x))
      go none g h = (refl, cc)
      go (some z) g h = absurd (let y : ◌≡◌ {A = ℕ} 0 1 = cc in omega arith)

  module _ (n : fault_of x ≡ none) where
    reads-good : outcome A x ≡ formed (bounded (accepted A x))
    unfolding outcome read canonical_of canonical accepted formed read_as
    reads-good = ap (λ (o : Option Fault). canonical_of (tables_of A [] []) (read_as o (identifier_of (split x)))) n

    module _ (f : Form) (e : f ≡ form_of (accepted A x)) where
      len_is : f.len ≡ printed_length (accepted A x)
      unfolding form_of
      len_is = ap (λ (g : Form). g.len) e

      pub too_long_lem : 255 < f.len → (outcome_of (Err Overlong) out ≡ outcome A x) × FormFits (Err Overlong)
      unfolding outcome_of formed bounded FormFits
      too_long_lem h =
          let b : leb (printed_length (accepted A x)) 255 ≡ false = lt-leb (printed_length (accepted A x)) 255 (omega (arith, len_is)) in
          (sym (reads-good ∙ ap (λ (c : Bool). formed (cond c (done (accepted A x)) (refused 9))) b), tt)

      pub fits : (z : List ℕ) → f.len ≡ length (print (accepted A x)) → out ≡ sets z 0 (print (accepted A x)) → length out ≡ 512 → f.len ≤ 255
          → (outcome_of (Ok f) out ≡ outcome A x) × FormFits (Ok f)
      unfolding outcome_of formed bounded FormFits
      fits z k w l h =
          let b : leb (printed_length (accepted A x)) 255 ≡ true = le-leb (printed_length (accepted A x)) 255 (omega (arith, len_is)) in (
            ap₂ form e (front-in z out (print (accepted A x)) f.len k w (omega arith)) ∙ sym (reads-good ∙ ap (λ (c : Bool). formed (cond c (done (accepted A x)) (refused 9))) b),
            h,
          )
