use Rattle.std.proofs.Common.{◌≡◌, ◌≤◌, List, false, length, nat_lt, sym, ◌∙◌, ap, arith, drop, subst}
use Rattle.std.proofs.lemmas.Bool.Decides.{nat_tests}
use Rattle.std.proofs.lemmas.List.Sums.{prefix_len-le-length}
use Rattle.md_engine.specs.declared.event.Event.{Event}
use Rattle.markdown_blocks.specs.Alone.{passes_alone}
use Rattle.markdown_blocks.specs.ContentRead.{AreSideBySide}
use Rattle.markdown_blocks.proofs.HoldsContent.{alone-passed}
use Rattle.markdown_blocks.proofs.StaysAlone.{none-held}
use Rattle.md_events.proofs.SubstitutedLemmas.{to-end}
use Rattle.markdown_blocks.proofs.parser.is_unread.Goals as goal

pub holds_content-requires : goal.holds_content-requires
holds_content-requires c =
    let es : List Event = c.args.events.now in
    subst AreSideBySide (sym (to-end es c.args.many ∙ ap (λ n. drop n es) c.requires.many))
    (alone-passed es c.requires.side).0

pub returns-then-many-events : goal.returns-then-many-events
returns-then-many-events c =
    let es : List Event = c.args.events.now in
    (rw (to-end es c.args.many, c.requires.many) at c.holds_content.ensures) ∙ (alone-passed es c.requires.side).1

pub returns-else-many-events : goal.returns-else-many-events
returns-else-many-events c =
    let es : List Event = c.args.events.now in
    let past : length es ≤ c.args.many = c.if-many-events.false in
    let none : nat_lt c.args.many (length es) ≡ false = grind (arith, nat_tests) in
    none
    ∙ sym (none-held es (omega (arith, c.requires.many, past, prefix_len-le-length passes_alone es)))
