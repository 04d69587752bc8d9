-- A footnote definition continues and opens by the cells of a line where it does by its bytes.
use Rattle.std.proofs.Common.{◌≡◌, ℕ, Bool, false, List, [], ◌∷◌, ◌++◌, Option, Some, None, refl, ap, sym, ◌∙◌, subst}
use Rattle.std.proofs.Common.{arith}
use Rattle.md_engine.specs.declared.configuration.ParseOptions.{ParseOptions}
use Rattle.md_engine.specs.declared.event.Event.{Event}
use Rattle.md_engine.specs.declared.event.Name.TheVariants as n
use Rattle.md_engine.specs.declared.event.Point.{Point}
use Rattle.md_engine.specs.declared.tokenizer.Line.{Line}
use Rattle.md_engine.specs.declared.tokenizer.container.name.ContainerKind.TheVariants as kind
use Rattle.md_engine.specs.Meaning.{Cell}
use Rattle.md_containers.specs.Footnote.{footnote_width, label_link}
use Rattle.md_containers.specs.FootnotePrefix.{as_footnote, footnote_further, footnote_new}
use Rattle.md_containers.specs.ItemPrefix.{ItemPassed, item_further}
use Rattle.md_containers.proofs.FootnoteHeld.{IsSame, further-footnote}
use Rattle.md_containers.proofs.FootnoteLines.{footnote-further_agrees}
use Rattle.md_containers.proofs.FootnoteOpens.{OpensFootnote, footnote-opens_agrees, footnote_prefix}
use Rattle.md_containers.proofs.ItemLines.{ContinuesFurther, ItemAgrees, LeavesRest}
use Rattle.md_meaning.specs.Containers.{Taken, continues, footnote_continues, opens_footnote}
use Rattle.md_meaning.specs.State.{Container, InFootnote}
use Rattle.md_meaning.proofs.TextsLemmas.{NoEnding}
use Rattle.md_events.specs.Events.Inline.{pair_unless_empty}
use Rattle.md_events.specs.Events.Nested.{enter}
use Rattle.md_events.proofs.RestCells.{past_rest, rest_cells}
use Rattle.proof_container_laws.specs.Containers.GfmFootnoteDefinition.{footnote_passed, footnote_passes}
use Rattle.proof_container_laws.specs.Containers.GfmFootnoteDefinition.{footnote_rules}
use Rattle.proof_frame.specs.ContainerNames.{IsOf, container_name}
use Rattle.proof_frame.proofs.ContainerLaws.{ByRest}
use Rattle.proof_container_laws.proofs.GfmFootnoteDefinition.Definition.{IsFootnote, opens-one}
use Rattle.proof_container_laws.proofs.GfmFootnoteDefinition.Facts.{footnote-opens_read}
use Rattle.proof_container_laws.proofs.GfmFootnoteDefinition.Prefix.{IsFront}
use Rattle.proof_container_laws.proofs.GfmFootnoteDefinition.Trial.{each-footnote}
use Rattle.proof_container_laws.proofs.ListItem.Facts.{item-continues}
use Rattle.proof_container_laws.proofs.ListItem.Fronts.{HasColumns, further-columns, rest-cut}
use Rattle.proof_frame.proofs.PassedFacts.{Agree, HasFurther, HasOpening, HasPassed}
use Rattle.proof_frame.proofs.PrefixFacts.{OpensRead}
use Rattle.proof_frame.proofs.RegistryRead.{IsRead}

-- what it leaves, where it opens or continues
footnote-leaves : (line : Line) (text past label : List ℕ) (end : Point) (stop cells : List Cell) (o : ItemPassed)
    (t : Taken) → LeavesRest line text past end stop cells o t → o.container ≡ InFootnote label →
    HasPassed line text past end stop cells (footnote_passed o) t
footnote-leaves line text past label end stop cells o t leaves is = record {
  container = leaves.container;
  read = subst IsRead (sym is) tt;
  fed = leaves.fed;
  valid = leaves.valid;
  ends = leaves.ends;
  no_ending = leaves.no_ending;
  shorter = leaves.shorter;
}

-- It continues, and takes the columns that an item of its width does.

as-columns : (label : List ℕ) (p : Point) (o : Option ItemPassed) → HasColumns p o → HasColumns p (as_footnote label o)
as-columns label p None h = tt
as-columns label p (Some t) h = h

pub footnote-proceeds : (options : ParseOptions) (c : Container) → IsOf kind.GfmFootnoteDefinition c →
    ByRest (λ line text past r stop p.
    let cells = rest_cells line r p ++ stop in
    Agree (HasFurther line text past p (past_rest r p) stop cells) (footnote_rules.proceeds options c cells p)
    (continues options c r))
footnote-proceeds options c is = each-footnote (λ d. ByRest (λ line text past r stop p.
    let cells = rest_cells line r p ++ stop in
    Agree (HasFurther line text past p (past_rest r p) stop cells) (footnote_rules.proceeds options d cells p)
    (continues options d r))) each c is
  where
    each : (label : List ℕ) → ByRest (λ line text past r stop p.
        let cells = rest_cells line r p ++ stop in
        Agree (HasFurther line text past p (past_rest r p) stop cells)
        (footnote_passes (footnote_further label cells p)) (footnote_continues label r))
    each label line text past r stop p is h k short =
        go (footnote_further label cells p) (footnote_continues label r)
        (footnote-further_agrees label line text past r stop p is h k) (further-footnote label cells p)
        (as-columns label p (item_further [] 0 footnote_width false cells p)
        (further-columns [] 0 footnote_width false line text past r p stop is k (omega arith)))
      where
        cells : List Cell
        cells = rest_cells line r p ++ stop

        go : (o : Option ItemPassed) (t : Option Taken) →
            ItemAgrees (ContinuesFurther line text past p (past_rest r p) stop cells) o t → IsSame label o →
            HasColumns p o →
            Agree (HasFurther line text past p (past_rest r p) stop cells) (footnote_passes o) t
        go None None has one columns = tt
        go None (Some t) has one columns = absurd has
        go (Some o) None has one columns = absurd has
        go (Some o) (Some t) has one columns = record {
          passes = footnote-leaves line text past label (past_rest r p) stop cells o t has.leaves one;
          further =
              item-continues text p o.point o.events
              (record {
                events = has.events;
                white = has.white;
                columns = columns;
                cut = rest-cut text past t.rest o.point has.leaves.valid;
              });
        }

-- Where one opens, if footnote definitions are on.

-- after its begin it has its prefix
footnote-front : (line : Line) (text past : List ℕ) (p end : Point) (stop cells : List Cell) (o : ItemPassed)
    (t : Taken) →
    (has : OpensFootnote line text past p end stop cells o t) → NoEnding has.label →
    IsFront text has.label (Some label_link) p o.point
    (pair_unless_empty n.SpaceOrTab p has.start ++ footnote_prefix has.label has.start o.point)
footnote-front line text past p end stop cells o t has one_line = record {
  start = has.start;
  more = has.more;
  text_is = has.text_is;
  whole = has.whole;
  some = omega (arith, has.sized.0);
  one_line = one_line;
  events = refl;
  white_before = has.white_before;
  white_after = has.white_after;
}

pub footnote-begins : (options : ParseOptions) (interrupting : Bool) → ByRest (λ line text past r stop p.
    let cells = rest_cells line r p ++ stop in
    Agree (HasOpening line text past p (past_rest r p) stop cells) (footnote_rules.opens options interrupting cells p)
    (opens_footnote options r))
footnote-begins options interrupting line text past r stop p is h k short =
    go (footnote_new options cells p) (opens_footnote options r)
    (footnote-opens_agrees options line text past r stop p is h k short) (opens-one options r)
  where
    cells : List Cell
    cells = rest_cells line r p ++ stop

    go : (o : Option ItemPassed) (t : Option Taken) →
        ItemAgrees (OpensFootnote line text past p (past_rest r p) stop cells) o t → IsFootnote (NoEnding r.bytes) t →
        Agree (HasOpening line text past p (past_rest r p) stop cells) (footnote_passes o) t
    go None None has one = tt
    go None (Some t) has one = absurd has
    go (Some o) None has one = absurd has
    go (Some o) (Some t) has one =
        let both : InFootnote has.label ≡ InFootnote one.0 = sym has.container ∙ has.leaves.container ∙ one.1 in
        let same : has.label ≡ one.0 = cc in
        let one_line : NoEnding has.label = subst NoEnding (sym same) (one.2 h) in
        let inside : List Event =
        pair_unless_empty n.SpaceOrTab p has.start ++ footnote_prefix has.label has.start o.point in
        record {
          passes = footnote-leaves line text past has.label (past_rest r p) stop cells o t has.leaves has.container;
          inside = inside;
          events = has.events ∙ ap (λ (d : Container). enter (container_name d) p ∷ inside) (sym has.container);
          opening =
              subst (λ (d : Container). OpensRead text d p o.point inside) (sym has.container)
              (footnote-opens_read text has.label p o.point inside
              (footnote-front line text past p (past_rest r p) stop cells o t has one_line));
          fewer = has.fewer;
        }
