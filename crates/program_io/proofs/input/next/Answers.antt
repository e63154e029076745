-- `program_io::input::next` meets its contract. Assumes nothing.
use Rattle.std.proofs.Common.{◌≡◌, length, refl, rules}
use Rattle.program_io.proofs.Laws.{counted, handed-next}
use borrow.Author.Rules.{rules}
use Rattle.program_io.proofs.input.next.Goals as goal

pub returns : goal.returns
returns c =
    let p = c.next_piece in
    let b = c.read_block-read in
    let same : length b.new.block ≡ length c.args.block.now = search rules in (
      p.ensures.0,
      counted c.args.i _ b.result _ b.ensures.0 refl refl refl b.ensures.1,
      λ bs g. handed-next c.args.i _ b.result _ b.ensures.0 refl refl refl b.new.block _ _ same bs g (p.ensures.1 bs g.carried),
    )
