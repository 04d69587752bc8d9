use Rattle.std.proofs.Common.{◌≡◌, ◌+◌, ◌∙◌, List, drop, map}
use Rattle.std.specs.List.{position_or_len}
use Rattle.std.specs.Prelude.{None, string_bytes}
use Rattle.md_engine.specs.declared.event.Event.{Event}
use Rattle.md_engine.specs.declared.event.Kind.TheVariants.{Enter}
use Rattle.md_engine.specs.declared.event.Name.TheVariants.{Frontmatter}
use Rattle.md_content.specs.Labels.{begins_label}
use Rattle.md_content.proofs.JoinedLemmas.{first-there}
use Rattle.md_content.proofs.LabelWalks.{label-found, labels-passed}
use Rattle.md_events.proofs.SubstitutedLemmas.{to-end}
use Rattle.md_content.proofs.labels.labels.Goals as goal

-- what indexing gives past the end of a list
abbrev unset : Event
unset = record {
  kind = Enter;
  name = Frontmatter;
  point = record { line = 0; column = 0; index = 0; vs = 0 };
  link = None;
}

pub loop-at-preserved : goal.loop-at-preserved
loop-at-preserved c =
    labels-passed c.args.bytes.now c.args.events.now c.loop-at.at c.before_label-at.result
    (map string_bytes c.loop-at.found.items)
    (rw (to-end c.args.events.now c.loop-at.at) at c.before_label-at.ensures.value) c.loop-at.invariant

pub loop-at-preserved-then-at-events : goal.loop-at-preserved-then-at-events
loop-at-preserved-then-at-events c =
    let events : List Event = c.args.events.now in
    let i = c.loop-at.at in
    let n = c.before_label-at.result in
    let first : n ≡ position_or_len begins_label (drop i events) =
    rw (to-end events i) at c.before_label-at.ensures.value in
    rw c.in_ok-push_label.ensures
    (label-found c.args.bytes.now events (i + n) unset (map string_bytes c.loop-at.found.items) _ c.if-at-events.true
    (first-there begins_label events i n unset first c.if-at-events.true)
    (c.deref.ensures.value ∙ rw (to-end events (i + n + 1)) at c.in_ok-read_label.ensures)
    (labels-passed c.args.bytes.now events i n (map string_bytes c.loop-at.found.items) first c.loop-at.invariant))
