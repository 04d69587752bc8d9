-- List items (CommonMark 5.2), as containers of a line.
use Rattle.std.specs.Prelude.{◌≡◌, not, true, List, Option, Some, None}
use Rattle.md_engine.specs.declared.event.Point.{Point}
use Rattle.md_engine.specs.declared.state.Name.TheVariants as s
use Rattle.md_engine.specs.declared.state.document.State.TheVariants as document
use Rattle.md_engine.specs.declared.state.list_item.State.TheVariants as its
use Rattle.md_engine.specs.declared.tokenizer.container.name.ContainerKind.TheVariants as kind
use Rattle.md_engine.specs.Meaning.{Cell}
use Rattle.md_engine.specs.World.{container_of}
use Rattle.md_containers.specs.Item.{least_width, may_begin}
use Rattle.md_containers.specs.ItemPrefix.{ItemPassed, held_as, item_further, item_holds, item_new}
use Rattle.md_containers.specs.ItemRule.{item_at, item_on}
use Rattle.md_containers.specs.PlainItem.{IsPlainIndent, indented}
use Rattle.md_meaning.specs.Containers.{opens_item}
use Rattle.md_meaning.specs.State.{Container, InItem}
use Rattle.proof_frame.specs.ContainerRules.{ContainerRules}
use Rattle.proof_frame.specs.Passed.{Passed}

-- an item that opens or continues: what is held of it beside its kind, the container shows
abbrev pub item_passed : ItemPassed → Passed
item_passed t = record {
  container = t.container;
  held = held_as (container_of kind.ListItem) t.container;
  events = t.events;
  cells = t.cells;
  point = t.point;
}

abbrev pub item_passes : Option ItemPassed → Option Passed
item_passes None = None
item_passes (Some t) = Some (item_passed t)

-- an open one, if it continues
abbrev pub item_proceeds : Container → List Cell → Point → Option Passed
item_proceeds (InItem digits marker width blank) cells p = item_passes (item_further digits marker width blank cells p)
item_proceeds _ cells p = None

-- its width is held, and whether it started blank
abbrev pub item_rules : ContainerRules
item_rules = record {
  before = document.ContainerNewBeforeNotBlockQuote;
  start = s.ListItem its.Start;
  begins = λ options cells h. item_at options cells h;
  further = s.ListItem its.ContStart;
  continues = λ options cells h. item_on cells h;
  may_open = may_begin;
  may_continue = λ b. true;
  plain = λ held w. IsPlainIndent (least_width held) w;
  taken = λ held w. indented (least_width held) w;
  opens = λ options interrupting cells p. item_passes (item_new options interrupting cells p);
  proceeds = λ options c cells p. item_proceeds c cells p;
  found = λ options interrupting r. opens_item options interrupting r;
  over_empty = λ held. not held.starts_blank;
  holds = λ held c. (held.kind ≡ kind.ListItem) × item_holds held c;
}
