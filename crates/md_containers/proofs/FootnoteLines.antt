-- What a footnote definition takes of a further line is what the definition of lines takes.
use Rattle.std.proofs.Common.{◌≡◌, ℕ, ◌++◌, Bool, true, false, cond, ◌||◌, List, [], Option, Some, None, refl, sym}
use Rattle.std.proofs.Common.{subst, arith}
use Rattle.std.specs.Prelude.{nat_le}
use Rattle.md_engine.specs.declared.event.Point.{Point}
use Rattle.md_engine.specs.declared.tokenizer.Line.{Line}
use Rattle.md_engine.specs.Meaning.{Cell}
use Rattle.md_containers.specs.Footnote.{footnote_width}
use Rattle.md_containers.specs.FootnotePrefix.{as_footnote, footnote_further}
use Rattle.md_containers.specs.ItemPrefix.{ItemPassed, item_further}
use Rattle.md_containers.proofs.ItemLines.{ContinuesFurther, ItemAgrees, further-agrees}
use Rattle.md_meaning.specs.Containers.{Taken, footnote_continues, item_continues}
use Rattle.md_meaning.specs.Rest.{Rest, indent, is_blank, lose}
use Rattle.md_meaning.specs.State.{Container, InFootnote, InItem}
use Rattle.md_meaning.proofs.TextsLemmas.{NoEnding}
use Rattle.md_events.proofs.FeedLines.{Stops}
use Rattle.md_events.proofs.RestCells.{RestAt, past_rest, rest_cells}

-- it continues as an item of its width does that did not start blank
pub footnote-further_agrees : (label : List ℕ) (line : Line) (text past : List ℕ) (r : Rest) (stop : List Cell)
    (p : Point) →
    RestAt text past r p → NoEnding r.bytes → Stops stop →
    let cells = rest_cells line r p ++ stop in
    ItemAgrees (ContinuesFurther line text past p (past_rest r p) stop cells) (footnote_further label cells p)
    (footnote_continues label r)
unfolding item_continues footnote_continues
footnote-further_agrees label line text past r stop p is h k =
    go (is_blank r.bytes || nat_le 4 (indent r)) (item_further [] 0 footnote_width false cells p)
    (subst
    (λ (x : Bool).
    Agrees (item_further [] 0 footnote_width false cells p) (cond x (Some (taken (InItem [] 0 4 false))) None))
    (sym (either (is_blank r.bytes) (nat_le 4 (indent r))))
    (further-agrees [] 0 footnote_width false (omega arith) line text past r stop p is h k))
  where
    either : (x y : Bool) → (x || y) ≡ cond x true y
    either true y = refl
    either false y = refl

    cells : List Cell
    cells = rest_cells line r p ++ stop

    taken : Container → Taken
    taken c = record { container = c; rest = lose 4 r }

    Agrees : Option ItemPassed → Option Taken → Type 0
    Agrees o t = ItemAgrees (ContinuesFurther line text past p (past_rest r p) stop cells) o t

    go : (x : Bool) (o : Option ItemPassed) → Agrees o (cond x (Some (taken (InItem [] 0 4 false))) None) →
        Agrees (as_footnote label o) (cond x (Some (taken (InFootnote label))) None)
    go true None has = absurd has
    go true (Some o) has = record {
      leaves = record {
        container = refl;
        fed = has.leaves.fed;
        valid = has.leaves.valid;
        ends = has.leaves.ends;
        no_ending = has.leaves.no_ending;
        shorter = has.leaves.shorter;
      };
      events = has.events;
      white = has.white;
    }
    go false None has = tt
    go false (Some o) has = absurd has
