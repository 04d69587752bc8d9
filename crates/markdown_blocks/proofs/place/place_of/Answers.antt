use Rattle.std.proofs.Common.{rules, List, subst}
use Rattle.md_engine.specs.declared.event.Event.{Event}
use Rattle.md_events.specs.Events.Inline.{Part}
use Rattle.md_events.specs.TextPart.{AreBlocks, Document, IsTextPartAt, document_of}
use Rattle.markdown_blocks.specs.Parsed.{IsWithoutMdx}
use Rattle.markdown_blocks.specs.PartPlaces.{IsPartAt}
use Rattle.markdown_blocks.proofs.PlaceOnce.{one-place}
use Rattle.markdown_blocks.proofs.ReadsWith.{blocks-again}
use Rattle.markdown_blocks.proofs.place.place_of.Goals as goal

pub returns-in-Some : goal.returns-in-Some
returns-in-Some c =
    let document : Document = document_of c.args.state.now in
    let part : Part = record { kind = c.args.kind; chunks = c.args.chunks.now } in
    let blocks : List Event = c.in_ok-blocks.blocks.events.items in
    let built : IsWithoutMdx document.options = c.is_without_mdx.ensures (search rules) in
    let here : IsPartAt blocks part c.in-Some.place =
    subst (λ (l : List Event). IsPartAt l part c.in-Some.place) c.deref.ensures.value c.in-Some.ensures in
    let are : AreBlocks document blocks =
    blocks-again document c.requires.blocks blocks built c.requires.are c.in_ok-blocks.ensures.read.are
    c.in_ok-blocks.ensures.read.placed in
    let at : IsTextPartAt document part c.in-Some.place = record {
      blocks = blocks;
      are = are;
      before = here.before;
      begin = here.begin;
      following = here.following;
      among = here.among;
      begins = here.begins;
      place_is = here.place_is;
    } in
    record {
      at = at;
      only = λ other is. one-place document part other c.in-Some.place is at;
    }
