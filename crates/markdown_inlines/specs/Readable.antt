-- Forests that can be read off their spans: their names say which are parts, and text is nowhere beside text.
use Rattle.std.specs.Prelude.{Bool, true, ◌&&◌, ◌||◌, not, nat_lt}
use Rattle.md_events.specs.Events.Pieces.{is_piece_name}
use Rattle.md_inline_events.specs.Forest.{Forest, nothing, part, piece, size}
use Rattle.md_inlines.specs.Atoms.{is_data}

-- whether a forest does not begin with text or with a part over no byte
abbrev pub begins_apart : Forest → Bool
begins_apart nothing = true
begins_apart (piece name more following) = not (is_data name)
begins_apart (part name inside following) = nat_lt 0 (size inside)

-- Whether pieces and parts have names of pieces and of parts, and no part over no byte is right before text or before
-- another such part: where these are left out, no text is beside text that was not.
abbrev pub is_readable : Forest → Bool
is_readable nothing = true
is_readable (piece name more following) = is_piece_name name && is_readable following
is_readable (part name inside following) =
    not (is_piece_name name)
    && ((nat_lt 0 (size inside) || begins_apart following) && (is_readable inside && is_readable following))
