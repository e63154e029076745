-- An answer as one number of 64 bits, and what such a number says. Assumes nothing.
use Rattle.std.specs.Prelude.{ℕ, ◌+◌, ◌*◌, ◌/◌, ◌%◌}
use Rattle.standard.specs.Delivery.{Bytes, Given}
use Rattle.operations.specs.declared.delivery.Answer.{Answer}

-- bits 0 to 7 the number, 8 to 15 the table, 16 to 31 the place, 32 to 55 the length, 56 to 63 the steps
unfoldable pub packed : Answer → ℕ
packed a = a.number + a.table * 256 + a.place % 65536 * 65536 + a.len % 16777216 * 4294967296 + a.steps % 256 * 72057594037927936

-- what a host program reads from the number, with all of the lent output afterwards
unfoldable pub unpacked : ℕ → Bytes → Given
unpacked r out = record {
  number = r % 256;
  place = r / 65536 % 65536;
  table = r / 256 % 256;
  len = r / 4294967296 % 16777216;
  steps = r / 72057594037927936;
  output = out;
}
