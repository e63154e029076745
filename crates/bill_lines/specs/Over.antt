-- The tables that a bill is made over. Assumes nothing.
use Rattle.std.specs.Prelude.{[]}
use Rattle.standard.specs.Identifier.{Tables}
use Rattle.standard.specs.Table.{tables_of}
use Rattle.operations.specs.declared.tables.TestedTables.{TestedTables}

-- aliases and likely rows, and no parents
abbrev pub tables_in : TestedTables → Tables
tables_in t = tables_of t.aliases.rows.now t.likely.rows.now []
