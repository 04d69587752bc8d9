-- A line of a paragraph is taken as text.
use Rattle.std.proofs.Common.{◌≡◌, Some, refl, ap, ◌∙◌}
use Rattle.md_engine.specs.declared.state.Name.TheVariants as n
use Rattle.md_engine.specs.declared.state.paragraph.State.TheVariants as paragraph
use Rattle.md_engine.specs.declared.state.State.TheVariants.{Next}
use Rattle.md_engine.specs.declared.stay.Stay.TheVariants.{Line}
use Rattle.md_content.specs.Paragraph.{inside_code, paragraph_transition}
use Rattle.md_content.proofs.StaysLemmas.{not-ending}
use Rattle.md_events.specs.Stays.{TakesEach}
use Rattle.md_events.specs.Transition.{taken}

pub paragraph-takes : TakesEach Line (n.Paragraph paragraph.Inside) (paragraph_transition paragraph.Inside)
paragraph-takes w b e h =
    let is : inside_code w (Some b) ≡
    record { to = Next (n.Paragraph paragraph.Inside); world = taken w } = rw (not-ending b h) refl in
    ap (inside_code w) e ∙ is
