-- What opens after a small indent, by the cells of a line and by the rest of the line.
use Rattle.std.proofs.Common.{◌≡◌, ℕ, zero, suc, ◌+◌, ◌^◌, ◌<◌, ◌≤◌, Bool, true, false, cond, List, ◌++◌, length}
use Rattle.std.proofs.Common.{Option, None, refl, sym, ap, ◌∙◌, subst, arith}
use Rattle.std.proofs.lemmas.List.{length-append}
use Rattle.md_engine.specs.declared.configuration.ParseOptions.{ParseOptions}
use Rattle.md_engine.specs.declared.event.Point.{Point}
use Rattle.md_engine.specs.declared.tokenizer.Line.{Line}
use Rattle.md_engine.specs.Meaning.{Cell}
use Rattle.md_containers.specs.ItemPrefix.{ItemPassed}
use Rattle.md_containers.proofs.QuoteLines.{HasWhite, white-walk, white_end-same}
use Rattle.md_meaning.specs.Containers.{Taken}
use Rattle.md_meaning.specs.Rest.{Rest, after_indent, has_small_indent, indent}
use Rattle.md_meaning.proofs.TextsLemmas.{NoEnding}
use Rattle.md_events.specs.Ahead.{begins_white, white_end, white_rest}
use Rattle.md_events.specs.Events.Places.{past_text}
use Rattle.md_events.specs.Spaces.{small_indent}
use Rattle.md_events.proofs.FeedLines.{Stops, spread}
use Rattle.md_events.proofs.LostColumns.{lose-walk}
use Rattle.md_events.proofs.RestCells.{Bare, RestAt, bare, cells_by, indent-length, indent-over, indent-taken}
use Rattle.md_events.proofs.RestCells.{lose-no_ending, past_cut, past_rest, rest_cells, white-length}
use Rattle.md_events.proofs.RestLines.{large-room, small-room}

abbrev rest : ℕ → List ℕ → Rest
rest column bytes = record { column = column; spaces = 0; bytes = bytes }

-- these bytes are after the indent of a rest of a line, at a point
pub record IsAfter (line : Line) (text past : List ℕ) (r : Rest) (p : Point) (stop : List Cell) (bytes : List ℕ)
    (q : Point) : Type 0 where
  pub dark : Bare 0 bytes
  pub valid : RestAt text past (rest (after_indent r).column bytes) q
  pub no_ending : NoEnding bytes
  pub ends : past_text bytes q ≡ past_rest r p
  pub column : q.column ≡ p.column + indent r
  pub shorter : length (spread line bytes q ++ stop) ≤ length (rest_cells line r p ++ stop)
  pub walked : HasWhite text (rest_cells line r p ++ stop) p q
  pub end_is : q ≡ white_end (length (rest_cells line r p ++ stop)) (rest_cells line r p ++ stop) p

-- What opens at such bytes where the definition says, and not where whitespace is left, opens where the definition
-- says.
pub following-indent : (options : ParseOptions) (line : Line) (text past : List ℕ) (r : Rest) (stop : List Cell)
    (p : Point) (Agrees : Option ItemPassed → Option Taken → Type 0) (new : List Cell → Point → Option ItemPassed)
    (found : Rest → Option Taken) →
    RestAt text past r p → NoEnding r.bytes → Stops stop → length (rest_cells line r p ++ stop) < 2 ^ 63 →
    let cells = rest_cells line r p ++ stop in
    let q = white_end (small_indent options) cells p in
    Agrees None None → ((left : List Cell) → begins_white left ≡ true → new left q ≡ None) →
    ((bytes : List ℕ) → IsAfter line text past r p stop bytes q →
    Agrees (new (spread line bytes q ++ stop) q) (found (rest (after_indent r).column bytes))) →
    Agrees (new (white_rest (small_indent options) cells) q)
    (cond (has_small_indent options r) (found (after_indent r)) None)
following-indent options line text past r stop p Agrees new found is h k short none over at =
    go (has_small_indent options r) refl
  where
    room : ℕ
    room = small_indent options

    cells : List Cell
    cells = rest_cells line r p ++ stop

    left : List Cell
    left = white_rest room cells

    q : Point
    q = white_end room cells p

    from : Rest
    from = after_indent r

    small : has_small_indent options r ≡ true → Agrees (new left q) (found from)
    small e =
        let most = indent-length line text past r p is in
        let size = length-append (rest_cells line r p) stop in
        let fits = small-room options r (length cells) e (omega (arith, most, size)) short in
        let indented = indent-taken line text past room r p stop is k fits in
        let lost = lose-walk line text past (indent r) r p stop is k in
        let all = lost.all (omega arith) in
        let columns = lost.column in
        let place = indented.valid.column in
        let start = is.column in
        by from.spaces from.bytes (bare from indented.none) indented.valid (lose-no_ending (indent r) r h)
        indented.ends (omega (arith, columns, all, place, start)) indented.cells (white-length room cells)
        (white-walk line text past (indent r) room r p stop is k refl fits)
        (white_end-same line text past (indent r) room r p stop is k refl fits
        ∙ sym
        (white_end-same line text past (indent r) (length cells) r p stop is k refl (omega (arith, most, size))))
      where
        by : (spaces : ℕ) (bytes : List ℕ) → Bare spaces bytes →
            RestAt text past (record { column = from.column; spaces = spaces; bytes = bytes }) q → NoEnding bytes →
            past_text bytes (past_cut spaces q) ≡ past_rest r p → q.column ≡ p.column + indent r →
            left ≡ cells_by line spaces bytes q ++ stop → length left ≤ length cells → HasWhite text cells p q →
            q ≡ white_end (length cells) cells p →
            Agrees (new left q) (found (record { column = from.column; spaces = spaces; bytes = bytes }))
        by (suc m) bytes dark valid no_ending ends column same less walked end_is = absurd dark
        by zero bytes dark valid no_ending ends column same less walked end_is =
            let size = ap length same in
            subst (λ (l : List Cell). Agrees (new l q) (found (rest from.column bytes))) (sym same)
            (at bytes
            (record {
              dark = dark;
              valid = valid;
              no_ending = no_ending;
              ends = ends;
              column = column;
              shorter = omega (arith, size, less);
              walked = walked;
              end_is = end_is;
            }))

    go : (x : Bool) → has_small_indent options r ≡ x → Agrees (new left q) (cond x (found from) None)
    go true e = small e
    go false e =
        subst (λ (o : Option ItemPassed). Agrees o None)
        (sym (over left (indent-over line text past room r p stop is (large-room options r e)))) none
