-- `canonical::lsr::resolve_language` meets its contract. Assumes nothing.
use native.Mathlib.Omega.{arith}
use mathlib.Core.Path.{ap, ◌∙◌}
use lib.ListN.{length}
use lib.Seq.{sets}
use Rattle.canonical.proofs.Cores as cores
use Rattle.canonical.proofs.lsr.resolve_language.Goals as goal

pub slice_bounds-put_replaced-end : goal.slice_bounds-put_replaced-end
slice_bounds-put_replaced-end c =
    cores.key-size c.args.aliases.rows.now c.args.id.now c.requires.2 c.requires.0 _ c.put_language-n.new.out c.put_language-n.result c.put_language-n.ensures.0 c.put_language-n.ensures.2 (omega (arith, c.put_language-n.ensures.1))

pub put_replaced-requires : goal.put_replaced-requires
put_replaced-requires c =
    let A = c.args.aliases.rows.now in
    let x = c.args.id.now in
    let w = cores.key-word A x c.requires.2 c.requires.0 _ c.put_language-n.new.out c.put_language-n.result c.put_language-n.ensures.0 c.put_language-n.ensures.2 (omega (arith, c.put_language-n.ensures.1)) in (
      cores.key-skips A x c.requires.2 c.requires.0 _ c.put_language-n.new.out c.put_language-n.result c.put_language-n.ensures.0 c.put_language-n.ensures.2 (omega (arith, c.put_language-n.ensures.1)),
      omega (arith, ap length w, cores.word_small A x c.requires.2 c.requires.0),
    )

pub returns : goal.returns
returns c =
    let A = c.args.aliases.rows.now in
    let x = c.args.id.now in
    let w = cores.key-word A x c.requires.2 c.requires.0 _ c.put_language-n.new.out c.put_language-n.result c.put_language-n.ensures.0 c.put_language-n.ensures.2 (omega (arith, c.put_language-n.ensures.1)) in (
      omega (arith, c.put_replaced.ensures.0, ap length w),
      omega (arith, c.put_replaced.ensures.0, ap length w, cores.word_small A x c.requires.2 c.requires.0),
      c.put_replaced.ensures.1 ∙ ap (sets c.args.word.now 0) w,
    )
