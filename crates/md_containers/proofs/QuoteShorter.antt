-- The prefix of a quote is refused, or takes a cell at least.
use Rattle.std.proofs.Common.{ℕ, ◌<◌, ◌≤◌, not, nat_eq, List, [], ◌∷◌, drop, length, arith}
use Rattle.std.specs.Char.{to_ascii_lowercase}
use Rattle.md_engine.specs.declared.configuration.ParseOptions.{ParseOptions}
use Rattle.md_engine.specs.Meaning.{Accepts, Cell, Fails, Here, Outcome, Refuses}
use Rattle.md_containers.specs.Quote.{name_of}
use Rattle.md_containers.specs.QuoteRule.{alert_at, alert_letter, alert_mark, alert_marker, alert_name, alert_or_end}
use Rattle.md_containers.specs.QuoteRule.{at_marker, after_marker, ended_by, indent_at, opening_at, prefix_at}
use Rattle.md_containers.specs.QuoteRule.{prefix_ended, quote_at}
use Rattle.md_containers.proofs.Shorter.{Shortens, cond-shortens}
use Rattle.md_containers.proofs.QuoteCells.{ending-shorter}
use Rattle.md_leaves.specs.BlankRule.{blank_at}
use Rattle.md_meaning.specs.Bytes.{is_end}
use Rattle.md_meaning.specs.Rest.{is_blank, is_white}
use Rattle.md_events.specs.Ahead.{begins_white, line_bytes}
use Rattle.md_events.specs.Spaces.{small_indent}
use Rattle.md_events.proofs.RestCells.{white-length}

-- what is left at some state is refused, or leaves fewer cells than these, where no more than these are there; or where
-- fewer are there
abbrev Takes : ℕ → (List Cell → Here → Outcome) → Type 0
Takes n next = (cells : List Cell) (h : Here) → length cells ≤ n → Shortens n (next cells h)

abbrev Keeps : ℕ → (List Cell → Here → Outcome) → Type 0
Keeps n next = (cells : List Cell) (h : Here) → length cells < n → Shortens n (next cells h)

after_marker-shortens : (n : ℕ) (next : List Cell → Here → Outcome) (cells : List Cell) (h : Here) → Keeps n next →
    length cells < n → Shortens n (after_marker next cells h)
unfolding after_marker
after_marker-shortens n next [] h keeps lt = keeps [] h lt
after_marker-shortens n next (c ∷ cs) h keeps lt =
    cond-shortens n (is_white c.byte) _ _ (keeps cs _ (omega (arith, lt))) (keeps (c ∷ cs) h lt)

at_marker-shortens : (n : ℕ) (next : List Cell → Here → Outcome) → Keeps n next → Takes n (at_marker next)
unfolding at_marker
at_marker-shortens n next keeps [] h le = tt
at_marker-shortens n next keeps (c ∷ cs) h le =
    cond-shortens n (nat_eq c.byte 62) _ _ (after_marker-shortens n next cs _ keeps (omega (arith, le))) tt

indent-shortens : (options : ParseOptions) (n : ℕ) (next : List Cell → Here → Outcome) (cells : List Cell) (h : Here) →
    ((cells' : List Cell) (k : Here) → length cells' ≤ length cells → Shortens n (next cells' k)) →
    Shortens n (indent_at next options cells h)
unfolding indent_at
indent-shortens options n next cells h then =
    cond-shortens n (begins_white cells) _ _ (then _ _ (white-length (small_indent options) cells))
    (then cells h (omega arith))

-- The marker of an alert.

blank-shortens : (n : ℕ) → Keeps n blank_at
unfolding blank_at
blank-shortens n cells h lt =
    cond-shortens n (is_blank (line_bytes cells)) _ _ (omega (arith, lt, ending-shorter cells)) tt

name-shortens : (n : ℕ) (left : List ℕ) → Keeps n (alert_name left)
unfolding alert_name
name-shortens n left [] h lt = tt
name-shortens n [] (c ∷ cs) h lt =
    cond-shortens n (nat_eq c.byte 93) _ _ (blank-shortens n cs _ (omega (arith, lt))) tt
name-shortens n (b ∷ left) (c ∷ cs) h lt =
    cond-shortens n (nat_eq (to_ascii_lowercase c.byte) b) _ _ (name-shortens n left cs _ (omega (arith, lt))) tt

letter-shortens : (n : ℕ) → Keeps n alert_letter
unfolding alert_letter
letter-shortens n [] h lt = tt
letter-shortens n (c ∷ cs) h lt =
    let name = name_of (to_ascii_lowercase c.byte) in
    cond-shortens n (is_end name) _ _ tt (name-shortens n (drop 1 name) cs _ (omega (arith, lt)))

mark-shortens : (n : ℕ) → Keeps n alert_mark
unfolding alert_mark
mark-shortens n [] h lt = tt
mark-shortens n (c ∷ cs) h lt =
    cond-shortens n (nat_eq c.byte 33) _ _ (letter-shortens n cs _ (omega (arith, lt))) tt

bracket-shortens : (n : ℕ) → Keeps n alert_marker
unfolding alert_marker
bracket-shortens n [] h lt = tt
bracket-shortens n (c ∷ cs) h lt =
    cond-shortens n (nat_eq c.byte 91) _ _ (mark-shortens n cs _ (omega (arith, lt))) tt

ended-shortens : (n : ℕ) (cells : List Cell) (h : Here) (o : Outcome) → length cells < n → Shortens n o →
    Shortens n (ended_by cells h o)
ended-shortens n cells h (Accepts k rest) lt s = s
ended-shortens n cells h (Refuses a g) lt s = lt
ended-shortens n cells h Fails lt s = s

alert-shortens : (options : ParseOptions) (n : ℕ) → Keeps n (alert_or_end options)
alert-shortens options n cells h lt =
    ended-shortens n cells h (alert_at options cells h) lt
    (indent-shortens options n alert_marker cells h (λ cs k le. bracket-shortens n cs k (omega (arith, lt, le))))

-- The whole of a prefix.

pub prefix-shortens : (options : ParseOptions) (cells : List Cell) (h : Here) →
    Shortens (length cells) (prefix_at options cells h)
prefix-shortens options cells h =
    indent-shortens options _ (at_marker prefix_ended) cells h
    (at_marker-shortens _ prefix_ended (λ cells h lt. lt))

pub opening-shortens : (options : ParseOptions) (cells : List Cell) (h : Here) →
    Shortens (length cells) (opening_at options cells h)
opening-shortens options cells h =
    indent-shortens options _ (at_marker (alert_or_end options)) cells h
    (at_marker-shortens _ (alert_or_end options) (alert-shortens options _))

pub quote-shortens : (options : ParseOptions) (cells : List Cell) (h : Here) →
    Shortens (length cells) (quote_at options cells h)
unfolding quote_at
quote-shortens options cells h =
    cond-shortens _ (not options.constructs.block_quote) _ _ tt
    (cond-shortens _ options.constructs.alerts _ _ (opening-shortens options cells _) (prefix-shortens options cells _))
