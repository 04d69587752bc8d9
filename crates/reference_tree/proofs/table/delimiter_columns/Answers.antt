use Rattle.std.proofs.Common.{◌≡◌, ◌||◌, ◌==◌, true, false, length, refl, rules}
use Rattle.std.specs.List.{list_any, list_all}
use Rattle.std.proofs.lemmas.List.{length-map}
use Rattle.std.proofs.lemmas.List.Folds.{list_all-map}
use Rattle.md_meaning.specs.Table.{is_delimiter, delimiter_columns}
use Rattle.reference_tree.proofs.table.delimiter_columns.Goals as goal
use Rattle.reference_tree.proofs.table.delimiter_columns.Goals.{else-has_mark-via-then-has_mark+else-are_delimiters}
use Rattle.reference_tree.proofs.table.delimiter_columns.Goals.{else-has_mark-via-else-has_mark}

pub returns-then-are_delimiters : goal.returns-then-are_delimiters
unfolding delimiter_columns
returns-then-are_delimiters c =
    let marked : list_any (λ b. (b == 58) || (b == 124)) c.args.row.now ≡ true = cc in
    let all : list_all (λ y. is_delimiter y.now) c.in_ok-cells.cells.items ≡ true = cc in
    let count : c.len.result ≡ length c.in_ok-cells.cells.items = search rules in
    rw (← c.in_ok-cells.ensures, list_all-map, marked, all, length-map, count) refl

pub returns : goal.returns
unfolding delimiter_columns
returns c = rw (← c.in_ok-cells.ensures, list_all-map) (elim c.else-has_mark.branch [
  | else-has_mark-via-then-has_mark+else-are_delimiters w ↦
      let marked : list_any (λ b. (b == 58) || (b == 124)) c.args.row.now ≡ true = cc in
      let all : list_all (λ y. is_delimiter y.now) c.in_ok-cells.cells.items ≡ false = cc in
      rw (marked, all) refl
  | else-has_mark-via-else-has_mark w ↦ (let marked : list_any (λ b. (b == 58) || (b == 124)) c.args.row.now ≡
      false = cc in
      rw marked refl)
])
