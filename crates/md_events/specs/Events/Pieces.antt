-- What the pieces of a text are: the innermost pairs of its events, each over its bytes.
--
-- A piece is never empty and never a block, so every byte of a text is in a piece that says what it is.
use Rattle.std.specs.Prelude.{ℕ, Bool, true, false, ◌&&◌, ◌||◌, ◌==◌, not, if◌then◌else◌, List, slice_range, Option}
use Rattle.std.specs.Prelude.{Some, None}
use Rattle.std.specs.List.{list_all}
use Rattle.md_engine.specs.declared.event.Name.{Name}
use Rattle.md_events.specs.Events.Inline.{Piece, is_one_line}
use Rattle.md_events.specs.Events.Names.{facts}
use Rattle.md_events.specs.Events.Places.{same_place}
use Rattle.md_meaning.specs.Texts.{split_lines}
pub use Rattle.md_events.specs.Events.PieceRules.{is_in_line, is_line_ending, is_one_of, is_run}

-- What a piece of each name is over; a name that has no rule is no piece's.
abbrev pub piece_rule : Name → Option (List ℕ → Bool)
piece_rule name = (facts name).piece

-- whether a piece of this name may be over a text
abbrev pub may_cover : Name → List ℕ → Bool
may_cover name text = elim (piece_rule name) [ None ↦ false | Some rule ↦ rule text ]

-- whether a name is that of a piece, and of no block, group or part
abbrev pub is_piece_name : Name → Bool
is_piece_name name = elim (piece_rule name) [ None ↦ false | Some rule ↦ true ]

-- what may begin within a tab: what a cut tab leaves of the line
abbrev pub begins_in_tab : Name → Bool
begins_in_tab name = (facts name).begins_in_tab

-- what may end within a tab: an indent, and the whitespace of a prefix
abbrev pub ends_in_tab : Name → Bool
ends_in_tab name = (facts name).ends_in_tab

abbrev pub piece_text : List ℕ → Piece → List ℕ
piece_text bytes piece = slice_range bytes piece.first.index piece.after.index

-- Whether a piece may be where it does: it is not empty, it is over what its name says, and a chunk that is not read
-- yet is a line, with its ending or not.
abbrev pub is_valid_piece : List ℕ → Piece → Bool
is_valid_piece bytes piece =
    not (same_place piece.first piece.after)
    && ((piece.first.vs == 0) || begins_in_tab piece.name)
    && ((piece.after.vs == 0) || ends_in_tab piece.name)
    && (if piece.linked then is_one_line (split_lines (piece_text bytes piece)) true
    else may_cover piece.name (piece_text bytes piece))

abbrev pub are_valid_pieces : List ℕ → List Piece → Bool
are_valid_pieces bytes pieces = list_all (is_valid_piece bytes) pieces
