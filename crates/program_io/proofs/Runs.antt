-- Laws of what a program did. Assumes nothing.
use Rattle.std.proofs.Common.{◌≡◌, ℕ, ◌+◌, ◌%◌, ◌^◌, true, false, List, [], ◌++◌, length, sym, ap, ◌∙◌, subst, inl, inr, arith, length-append}
use mathlib.Core.Option.{Option, none, some}
use Rattle.standard.specs.Table.{TableFault}
use Rattle.tsv.specs.Fields.{table_text}
use Rattle.lines.specs.Squeeze.{Bytes}
use Rattle.program_io.specs.declared.Run.{Run}
use Rattle.program_io.specs.declared.input.Input.{Input}
use Rattle.program_io.specs.declared.output.Output.{Output}
use Rattle.program_io.specs.Handed.{is_failure, Going, Read}
use Rattle.program_io.specs.Printed.{Prints, IsPrinted}
use Rattle.program_io.specs.Runs.{RunsBy, Runs}
use Rattle.program_io.proofs.Printing.{counted}

-- nothing was read
pub read_none : (i : Input) (piece : Bytes) → Going [] i piece → Read [] i
read_none i piece g = record { unfailed = ap is_failure g.more; bytes = g.bytes }

-- a text that was printed, and nothing before it
pub is-printed : (from o : Output) (n : ℕ) (t : Bytes) → from.bytes ≡ 0 → Prints from n o → n ≡ length t → IsPrinted o t
unfolding IsPrinted
is-printed from o n t z p e f = p.counted f ∙ (let m : from.bytes + n ≡ length t = omega (arith, z, e) in ap (λ (k : ℕ). k % 2 ^ 64) m)

module _ (header : Bytes) (answers : List Bytes → Input → Output → Type 0) (o : Option TableFault) (r : Run) where
  pub runs-unheaded : ((piece : Bytes) → Going [] r.input piece) → r.number ≡ 0 → r.output.failed ≡ true → Runs header answers o r
  unfolding Runs
  runs-unheaded g n f = inl (record { number = n; read = read_none r.input [] (g []); failed = f })

  pub runs-replies : o ≡ none → r.number ≡ 0 → (bs : List Bytes) → answers bs r.input r.output → Runs header answers o r
  unfolding Runs RunsBy
  runs-replies e n bs a = inr (subst (λ (p : Option TableFault). RunsBy header answers p r) (sym e) (record { number = n; blocks = bs; given = a }))

  pub runs-refuses : (f : TableFault) → o ≡ some f → r.number ≡ f.fault.number → ((piece : Bytes) → Going [] r.input piece)
      → (from first : Output) → from.bytes ≡ 0 → Prints from (length header) first → first.failed ≡ false
      → Prints first (length (table_text f.fault.number f.fault.place f.table)) r.output → Runs header answers o r
  unfolding Runs RunsBy IsPrinted
  runs-refuses f e n g from first z p h q =
      let t = table_text f.fault.number f.fault.place f.table in
      let whole : from.bytes + (length header + length t) ≡ length (header ++ t) = omega (arith, z, length-append header t) in
      inr (subst (λ (p : Option TableFault). RunsBy header answers p r) (sym e) (record {
        number = n;
        read = read_none r.input [] (g []);
        printed = λ d. q.counted d ∙ counted from.bytes (length header) (length t) first.bytes (p.counted h) ∙ ap (λ (m : ℕ). m % 2 ^ 64) whole;
      }))
