use Rattle.std.proofs.lemmas.Option.{IfSome_then}
use Rattle.md_registry.proofs.choices.takes_at_once.Goals as goal

pub returns-in-HeadingAtx : goal.returns-in-HeadingAtx
returns-in-HeadingAtx c =
    rw c.in-HeadingAtx.is (IfSome_then c.takes_at_once-in-HeadingAtx.result
    c.takes_at_once-in-HeadingAtx.ensures (λ k h. h))

pub returns-in-ListItem : goal.returns-in-ListItem
returns-in-ListItem c =
    rw c.in-ListItem.is (IfSome_then c.takes_at_once-in-ListItem.result c.takes_at_once-in-ListItem.ensures (λ k h. h))

pub returns-in-ThematicBreak : goal.returns-in-ThematicBreak
returns-in-ThematicBreak c =
    rw c.in-ThematicBreak.is
    (IfSome_then c.takes_at_once-in-ThematicBreak.result c.takes_at_once-in-ThematicBreak.ensures (λ k h. h))
