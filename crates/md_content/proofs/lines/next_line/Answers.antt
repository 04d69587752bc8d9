use Rattle.std.proofs.Common.{◌≡◌, ◌<◌, ◌+◌, ◌∙◌, ℕ, List, ap, arith, drop, get_or, length, sym, true}
use Rattle.std.specs.List.{prefix_len}
use Rattle.std.specs.Prelude.{None}
use Rattle.md_engine.specs.declared.event.Event.{Event}
use Rattle.md_engine.specs.declared.event.Kind.TheVariants.{Enter}
use Rattle.md_engine.specs.declared.event.Name.TheVariants.{Frontmatter}
use Rattle.md_content.specs.Joined.{ends_content}
use Rattle.md_content.proofs.ParagraphLines.{joins-two}
use Rattle.md_events.proofs.SubstitutedLemmas.{to-end}
use Rattle.md_content.proofs.lines.next_line.Goals as goal
use Rattle.md_events.specs.Events.Inline.{is_line_ending}
use Rattle.md_events.specs.Substituted.{is_plain_prefix}

-- what indexing gives past the end of a list
abbrev unset : Event
unset = record {
  kind = Enter;
  name = Frontmatter;
  point = record { line = 0; column = 0; index = 0; vs = 0 };
  link = None;
}

pub returns-then-begins_line-clause-line : goal.returns-then-begins_line-clause-line
returns-then-begins_line-clause-line c =
    let events : List Event = c.args.events.now in
    let run : c.plain_prefixes-next.result ≡ prefix_len is_plain_prefix (drop 3 events) =
    rw (to-end events 3) at c.plain_prefixes-next.ensures.value in
    let ends : ends_content (get_or events 0 unset) ≡ true = sym c.ends_line.ensures ∙ c.if-not-ends_line.false in
    let ending : is_line_ending (get_or events 1 unset).name ≡ true =
    sym c.is_ending.ensures ∙ c.if-not-is_ending.false in
    let lt : 3 + c.plain_prefixes-next.result < length events = omega arith in (
      ap (λ (n : ℕ). 3 + n) run,
      joins-two events c.plain_prefixes-next.result unset (omega arith) ends ending run lt
          (sym c.begins_line.ensures ∙ c.if-begins_line.true),
    )
