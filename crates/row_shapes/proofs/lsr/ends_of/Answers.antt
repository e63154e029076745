-- `row_shapes::lsr::ends_of` meets its contract. Assumes nothing.
use Rattle.row_shapes.proofs.Ends.{cut-three, language-near}
use Rattle.row_shapes.proofs.lsr.ends_of.Goals as goal

pub script_end-script-requires : goal.script_end-script-requires
script_end-script-requires c = language-near _ _ c.requires c.end_of-language.ensures

pub returns : goal.returns
returns c = cut-three _ _ _ c.requires c.end_of-language.ensures c.script_end-script.ensures
