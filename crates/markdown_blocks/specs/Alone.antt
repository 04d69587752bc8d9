-- Events that stay as they are where content is read, the lines of leaves are joined and the resolvers run.
use Rattle.std.specs.Prelude.{Bool, true, false, ◌&&◌, not}
use Rattle.md_content.specs.Joined.{is_content}
use Rattle.md_engine.specs.declared.event.Event.{Event}
use Rattle.md_engine.specs.declared.event.Name.{Name}
use Rattle.md_engine.specs.declared.event.Name.TheVariants as n
use Rattle.md_leaves.specs.declared.spans.Place.TheVariants.{Outside}
use Rattle.md_leaves.specs.Spanned.{passes_on}

-- whether an event is of no line of text, and passes as it is where lines are joined
abbrev pub passes_alone : Event → Bool
passes_alone e = not (is_content e.name) && passes_on Outside e

-- whether events of a name are of a line of text, or may change where lines are joined or the resolvers run
abbrev pub may_change : Name → Bool
may_change n.ListItem = true
may_change n.HeadingAtx = true
may_change n.HeadingSetextUnderline = true
may_change n.CodeIndented = true
may_change n.CodeFenced = true
may_change n.CodeFlowChunk = true
may_change n.MathFlow = true
may_change n.HtmlFlow = true
may_change n.GfmTable = true
may_change n.Content = true
may_change _ = false

-- whether the name of an event shows that it stays as it is
abbrev pub stays_by_name : Event → Bool
stays_by_name e = not (may_change e.name)
