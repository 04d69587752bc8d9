use Rattle.std.proofs.Common.{◌≡◌, ◌+◌, ◌*◌, ◌≤◌, drop}
use Rattle.md_meaning.specs.Rest as rest
use Rattle.md_scan.proofs.columns.white_columns.Given as goal

abbrev pub invariant-loop-byte : goal.invariant-loop-byte
invariant-loop-byte l = record {
  value : rest.white_columns l.column l.bytes ≡
      l.columns + rest.white_columns (l.column + l.columns) (drop l.byte-index l.bytes);
  bound : l.columns ≤ 4 * l.byte-index;
}
