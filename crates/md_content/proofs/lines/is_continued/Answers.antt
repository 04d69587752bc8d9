use Rattle.std.proofs.Common.{◌≡◌, ◌≤◌, ◌<◌, ◌+◌, ◌∙◌, ℕ, List, arith, drop, false, get_or, length, sym, true}
use Rattle.std.specs.List.{prefix_len}
use Rattle.std.specs.Prelude.{None, nat_lt}
use Rattle.std.proofs.lemmas.Bool.Decides.{nat_tests}
use Rattle.md_engine.specs.declared.event.Event.{Event}
use Rattle.md_engine.specs.declared.event.Kind.TheVariants.{Enter}
use Rattle.md_engine.specs.declared.event.Name.TheVariants.{Frontmatter}
use Rattle.md_content.specs.Joined.{is_of_prefix}
use Rattle.md_content.proofs.JoinedLemmas.{proceeds-none, proceeds-some}
use Rattle.md_events.proofs.SubstitutedLemmas.{to-end}
use Rattle.md_content.proofs.lines.is_continued.Goals as goal
use Rattle.md_events.specs.Events.Inline.{is_line_ending}

-- what indexing gives past the end of a list
abbrev unset : Event
unset = record {
  kind = Enter;
  name = Frontmatter;
  point = record { line = 0; column = 0; index = 0; vs = 0 };
  link = None;
}

pub returns-then-next-events : goal.returns-then-next-events
returns-then-next-events c =
    let events : List Event = c.args.events.now in
    let run : c.prefixes-next.result ≡ prefix_len is_of_prefix (drop 2 events) =
    rw (to-end events 2) at c.prefixes-next.ensures.value in
    let ends : is_line_ending (get_or events 0 unset).name ≡ true = sym c.is_ending.ensures
    ∙ c.if-not-is_ending.false in
    let lt : 2 + c.prefixes-next.result < length events = omega arith in
    c.begins_line.ensures ∙ sym (proceeds-some events unset c.prefixes-next.result (omega arith) ends run lt)

pub returns-else-next-events : goal.returns-else-next-events
returns-else-next-events c =
    let events : List Event = c.args.events.now in
    let run : c.prefixes-next.result ≡ prefix_len is_of_prefix (drop 2 events) =
    rw (to-end events 2) at c.prefixes-next.ensures.value in
    let le : length events ≤ 2 + c.prefixes-next.result = omega arith in
    none (2 + c.prefixes-next.result) (length events) le
    ∙ sym (proceeds-none events c.prefixes-next.result run le)
  where
    none : (a b : ℕ) → b ≤ a → nat_lt a b ≡ false
    none a b h = grind (arith, nat_tests)
