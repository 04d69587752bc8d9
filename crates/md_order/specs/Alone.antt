-- Events in which leaf blocks hold no block, as states and the resolvers in front leave them.
use Rattle.std.specs.Prelude.{◌≡◌, ◌⊎◌, Bool, true, false, ◌||◌, ◌&&◌, not, if◌then◌else◌, List, [], ◌∷◌}
use Rattle.md_engine.specs.declared.event.Event.{Event}
use Rattle.md_engine.specs.declared.event.Name.{Name}
use Rattle.md_engine.specs.declared.event.Name.TheVariants as n
use Rattle.md_events.specs.Events.Nested.{is_enter, is_exit}
use Rattle.md_order.specs.declared.wanted.Wanted.{Wanted}

-- what is open: an ATX heading, a paragraph, the underline of a setext heading, a table, a line ending, or none of them
pub data Open : Type 0 where
  Nothing : Open
  InHeading : Open
  InParagraph : Open
  InUnderline : Open
  InTable : Open
  InEnding : Open

-- what begins with a part of this name
abbrev pub opened_by : Name → Open
opened_by n.HeadingAtx = InHeading
opened_by n.Paragraph = InParagraph
opened_by n.HeadingSetextUnderline = InUnderline
opened_by n.GfmTable = InTable
opened_by n.LineEnding = InEnding
opened_by _ = Nothing

-- whether what is open ends with a part of this name
abbrev pub closed_by : Open → Name → Bool
closed_by InHeading n.HeadingAtx = true
closed_by InParagraph n.Paragraph = true
closed_by InUnderline n.HeadingSetextUnderline = true
closed_by InTable n.GfmTable = true
closed_by InEnding n.LineEnding = true
closed_by _ _ = false

-- whether a part is an item, or one of those leaves
abbrev pub is_set : Name → Bool
is_set n.ListItem = true
is_set n.HeadingAtx = true
is_set n.Paragraph = true
is_set n.HeadingSetextUnderline = true
is_set n.GfmTable = true
is_set _ = false

abbrev pub closes : Open → Event → Bool
closes leaf e = is_exit e.kind && closed_by leaf e.name

-- Outside of them none ends; in one of them no item and none of them begins or ends, up to its own end.
abbrev pub MayBeHere : Open → Event → Type 0
MayBeHere Nothing e = is_exit e.kind ≡ true → opened_by e.name ≡ Nothing
MayBeHere leaf e = closes leaf e ≡ false → is_set e.name ≡ false

abbrev pub open_following : Open → Event → Open
open_following Nothing e = if is_enter e.kind then opened_by e.name else Nothing
open_following leaf e = if closes leaf e then Nothing else leaf

abbrev pub HoldNoBlock : Open → List Event → Type 0
HoldNoBlock leaf [] = Unit {0}
HoldNoBlock leaf (e ∷ es) = MayBeHere leaf e × HoldNoBlock (open_following leaf e) es

-- One resolver alone asks nothing of the events.
abbrev pub is_one : Wanted → Bool
is_one w =
    if w.items then not (w.atx || w.setext || w.tables)
    else if w.atx then not (w.setext || w.tables) else not (w.setext && w.tables)

abbrev pub MayPass : Wanted → List Event → Type 0
MayPass w es = (is_one w ≡ true) ⊎ HoldNoBlock Nothing es
