-- Laws of standard input as it is read. Assumes nothing.
use Rattle.std.proofs.Common.{◌≡◌, ℕ, zero, suc, ◌+◌, ◌≤◌, Bool, true, false, List, [], ◌∷◌, ◌++◌, length, take, sym, refl, ap, ◌∙◌, true≢false, arith, length-append, length-take-le}
use Rattle.lines.specs.Squeeze.{Bytes, together}
use Rattle.lines.specs.Reader.{HandsOver}
use Rattle.lines.proofs.Blocks.{together-more, carried-start}
use Rattle.std.specs.Prelude.{Result, Ok, Err}
use Rattle.program_io.specs.declared.input.Input.{Input}
use Rattle.program_io.specs.declared.input.Got.{Got}
use Rattle.program_io.specs.declared.input.Last.{Last}
use Rattle.program_io.specs.declared.input.Last.TheVariants.{Block, End, Failure}
use Rattle.program_io.specs.declared.Status.TheVariants.{Done, Failed, Refused}
use Rattle.program_io.specs.Status.{status_of}
use Rattle.program_io.specs.Handed.{is_end, is_failure, IsGot, Going, Handed, Counted, GotWithin}

-- Nothing was read yet.
pub going_start : (i : Input) (piece : Bytes) → i.taken.whole ≡ 0 → i.taken.end ≡ 0 → i.bytes ≡ 0 → i.last ≡ Block → Going [] i piece
unfolding together
going_start i piece w e b f = record { more = f; bytes = b; carried = carried-start i.taken piece w e }

block-ne-end : Block ≡ End → ⊥
block-ne-end e = true≢false (sym (ap is_end e))

block-ne-failure : Block ≡ Failure → ⊥
block-ne-failure e = true≢false (sym (ap is_failure e))

-- What was read fits the block.
pub got-within : {E : Type 0} (read : Result ℕ E) (g : Got) (room : ℕ) → ((n : ℕ) → read ≡ Ok n → n ≤ room) → IsGot read g → GotWithin g room
got-within (Ok zero) g room f e = record { few = omega (arith, e.len); some = λ z. absurd (block-ne-end (sym z ∙ e.last)); end = λ _. e.len; failure = λ _. e.len }
got-within (Ok (suc n)) g room f e =
    let h = f (suc n) refl in
    record { few = omega (arith, e.len); some = λ _. omega (arith, e.len); end = λ z. absurd (block-ne-end (sym e.last ∙ z)); failure = λ z. absurd (block-ne-failure (sym e.last ∙ z)) }
got-within (Err x) g room f e = record { few = omega (arith, e.len); some = λ z. absurd (block-ne-failure (sym z ∙ e.last)); end = λ _. e.len; failure = λ _. e.len }

-- Once more: some bytes of the block were read, or none.
module _ (i r : Input) (g : Got) (room : ℕ) (w : GotWithin g room) (n : r.got ≡ g.len) (b : r.bytes ≡ i.bytes + g.len) (l : r.last ≡ g.last) where
  pub counted : i.bytes + g.len ≤ 18446744073709551615 → Counted i r room
  counted k = record {
    few = omega (arith, w.few);
    bytes = omega arith;
    most = omega arith;
    some = λ f. let z = w.some (sym l ∙ f) in omega arith;
  }

  module _ (block piece₀ piece : Bytes) (h : length block ≡ room) (bs : List Bytes) (o : Going bs i piece₀) (s : HandsOver bs (take g.len block) r.taken piece) where
    size : length (take g.len block) ≡ g.len
    size = length-take-le g.len block (omega (arith, w.few))

    pub handed-next : Handed bs (take g.len block) r piece
    handed-next = record {
      going = λ f. record {
        more = f;
        bytes = let z = o.bytes in let l = size in let y = length-append (together bs) (take g.len block) in let w : length (together (bs ++ (take g.len block ∷ []))) ≡ length (together bs ++ take g.len block) = ap length (together-more bs (take g.len block)) in omega arith;
        carried = s.carried (let z = w.some (sym l ∙ f) in let k = size in omega arith);
      };
      lines = λ f. s.more (let z = w.some (sym l ∙ f) in let k = size in omega arith);
      ended = λ f. record { no_more = f; bytes = let z = w.end (sym l ∙ f) in let y = o.bytes in omega arith };
      last = λ f. s.last (size ∙ w.end (sym l ∙ f));
      broken = λ f. record { failed = f; bytes = let z = w.failure (sym l ∙ f) in let y = o.bytes in omega arith };
    }

-- What is neither the end nor a failure is a block.
pub block_of : (l : Last) → is_failure l ≡ false → is_end l ≡ false → l ≡ Block
block_of Block f e = refl
block_of End f e = cc
block_of Failure f e = cc

pub end_of : (l : Last) → is_end l ≡ true → l ≡ End
end_of Block e = cc
end_of End e = refl
end_of Failure e = cc

pub failure-of : (l : Last) → is_failure l ≡ true → l ≡ Failure
failure-of Block e = cc
failure-of End e = cc
failure-of Failure e = refl

-- a run that is refused, one that failed to read, and one that did not fail
pub status-refused : (n : ℕ) (l : Last) (o : Bool) → o ≡ false → (n ≡ 0 → ⊥) → Refused ≡ status_of n l o
status-refused n l true f e = absurd (true≢false f)
status-refused zero l false f e = absurd (e refl)
status-refused (suc n) l false f e = refl

pub status-failed : (n : ℕ) (l : Last) (o : Bool) → n ≡ 0 → is_failure l ≡ true → Failed ≡ status_of n l o
status-failed n l true z e = refl
status-failed (suc n) l false z e = absurd (omega arith)
status-failed zero Block false z e = absurd (true≢false (sym e))
status-failed zero End false z e = absurd (true≢false (sym e))
status-failed zero Failure false z e = refl

pub status-done : (n : ℕ) (l : Last) (o : Bool) → o ≡ false → n ≡ 0 → is_failure l ≡ false → Done ≡ status_of n l o
status-done n l true f z e = absurd (true≢false f)
status-done (suc n) l false f z e = absurd (omega arith)
status-done zero Block false f z e = refl
status-done zero End false f z e = refl
status-done zero Failure false f z e = absurd (true≢false e)
