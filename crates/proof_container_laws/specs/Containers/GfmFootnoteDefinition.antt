-- Footnote definitions (own choice, as on GitHub), as containers of a line.
use Rattle.std.specs.Prelude.{◌≡◌, true, List, Option, Some, None}
use Rattle.md_engine.specs.declared.event.Point.{Point}
use Rattle.md_engine.specs.declared.state.Name.TheVariants as s
use Rattle.md_engine.specs.declared.state.document.State.TheVariants as document
use Rattle.md_engine.specs.declared.state.gfm_footnote_definition.State.TheVariants as its
use Rattle.md_engine.specs.declared.state.list_item.State.TheVariants as item
use Rattle.md_engine.specs.declared.tokenizer.container.name.ContainerKind.TheVariants as kind
use Rattle.md_engine.specs.Meaning.{Cell}
use Rattle.md_engine.specs.World.{container_of}
use Rattle.md_containers.specs.Footnote.{may_begin}
use Rattle.md_containers.specs.FootnotePrefix.{footnote_as, footnote_further, footnote_holds, footnote_new}
use Rattle.md_containers.specs.FootnoteRule.{footnote_at}
use Rattle.md_containers.specs.Item.{least_width}
use Rattle.md_containers.specs.ItemPrefix.{ItemPassed}
use Rattle.md_containers.specs.ItemRule.{item_on}
use Rattle.md_containers.specs.PlainItem.{IsPlainIndent, indented}
use Rattle.md_meaning.specs.Containers.{opens_footnote}
use Rattle.md_meaning.specs.State.{Container, InFootnote}
use Rattle.proof_frame.specs.ContainerRules.{ContainerRules}
use Rattle.proof_frame.specs.Passed.{Passed}

-- one that opens or continues
abbrev pub footnote_passed : ItemPassed → Passed
footnote_passed t = record {
  container = t.container;
  held = footnote_as (container_of kind.GfmFootnoteDefinition);
  events = t.events;
  cells = t.cells;
  point = t.point;
}

abbrev pub footnote_passes : Option ItemPassed → Option Passed
footnote_passes None = None
footnote_passes (Some t) = Some (footnote_passed t)

-- an open one, if it continues
abbrev pub footnote_proceeds : Container → List Cell → Point → Option Passed
footnote_proceeds (InFootnote label) cells p = footnote_passes (footnote_further label cells p)
footnote_proceeds _ cells p = None

-- Its label is not held: the events show it. On a further line it is an item with so many columns, and the states of an
-- item have it continue.
abbrev pub footnote_rules : ContainerRules
footnote_rules = record {
  before = document.ContainerNewBeforeNotList;
  start = s.GfmFootnoteDefinition its.Start;
  begins = λ options cells h. footnote_at options cells h;
  further = s.ListItem item.ContStart;
  continues = λ options cells h. item_on cells h;
  may_open = may_begin;
  may_continue = λ b. true;
  plain = λ held w. IsPlainIndent (least_width held) w;
  taken = λ held w. indented (least_width held) w;
  opens = λ options interrupting cells p. footnote_passes (footnote_new options cells p);
  proceeds = λ options c cells p. footnote_proceeds c cells p;
  found = λ options interrupting r. opens_footnote options r;
  over_empty = λ held. true;
  holds = λ held c. (held.kind ≡ kind.GfmFootnoteDefinition) × footnote_holds held c;
}
