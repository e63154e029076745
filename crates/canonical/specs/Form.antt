-- What canonicalising an identifier over tested tables gives: the form's bytes and where its parts end, or a refusal.
-- Assumes nothing.
use Rattle.std.specs.Prelude.{cond, List, [], ◌∷◌, ℕ, ◌+◌, ◌≤◌, eqb, length, take, Result, Ok, Err}
use Rattle.standard.specs.Grammar.{flat}
use Rattle.standard.specs.Identifier.{Identifier, Tables, Answer, done, refused, canonical, canonical_form, part, parts, printed_length}
use Rattle.standard.specs.Reading.{Read, good, bad, read, print, split, identifier_of, Fault}
use Rattle.standard.specs.Table.{tables_of}
use Rattle.canonical.specs.declared.form.Form.{Form}
use Rattle.canonical.specs.declared.form.NoForm.{NoForm}
use Rattle.canonical.specs.declared.form.NoForm.TheVariants.{Unread, Overlong}
use Rattle.reader.specs.Parts.{fault_is}

-- 1 for a hyphen; and how many of them
unfoldable pub hyphen_of : ℕ → ℕ
hyphen_of b = cond (eqb b 45) 1 0

unfoldable pub hyphens : List ℕ → ℕ
hyphens [] = 0
hyphens (b ∷ bs) = hyphen_of b + hyphens bs

-- where the parts of a printed identifier end, and how many variants it has
unfoldable pub form_of : Identifier → Form
form_of c =
    let region = length c.core.language + part c.core.script + part c.core.region in
    record {
      language = length c.core.language;
      script = length c.core.language + part c.core.script;
      region = region;
      variants = region + parts c.variants;
      extensions = region + parts c.variants + parts (flat c.extensions);
      len = printed_length c;
      count = length c.variants;
    }

-- A form with its bytes, or document 01's number and place.
pub data Outcome : Type 0 where
  form : Form → List ℕ → Outcome
  refusal : ℕ → ℕ → Outcome

-- 01, Numbers given back: the fault that each refusal of canonicalising is; a refusal of reading stands
abbrev pub no_form_is : NoForm → Fault
no_form_is (Unread r) = fault_is r
no_form_is Overlong = record { number = 9; place = 0 }

-- what each case of the answer stands for, with the buffer that was lent
unfoldable pub outcome_of : Result Form NoForm → List ℕ → Outcome
outcome_of (Ok f) out = form f (take f.len out)
outcome_of (Err r) out = refusal (no_form_is r).number (no_form_is r).place

-- what canonicalising has to give
unfoldable pub formed : Answer → Outcome
formed (done c) = form (form_of c) (print c)
formed (refused n) = refusal n 0

-- of what was read; a refusal of reading stands
unfoldable pub canonical_of : Tables → Read → Outcome
canonical_of T (good i) = formed (canonical T i)
canonical_of T (bad n p) = refusal n p

-- of an identifier, over these aliases
unfoldable pub outcome : List ℕ → List ℕ → Outcome
outcome A x = canonical_of (tables_of A [] []) (read x)

-- the canonical form of an identifier that is accepted
unfoldable pub accepted : List ℕ → List ℕ → Identifier
accepted A x = canonical_form (tables_of A [] []) (identifier_of (split x))

-- a form's bytes are within the lent buffer
unfoldable pub FormFits : Result Form NoForm → Type 0
FormFits (Ok f) = f.len ≤ 255
FormFits (Err r) = Unit {0}
