-- The prefix of a block quote.
use Rattle.std.specs.Prelude.{refl, ℕ, ◌+◌, Bool, true, false, ◌==◌, if◌then◌else◌, List, [], Option, Some}
use Rattle.std.specs.Prelude.{None, codes, slice_get}
use Rattle.std.specs.Char.{to_ascii_lowercase}
use Rattle.md_engine.specs.declared.event.Name.TheVariants.{BlockQuote, BlockQuoteMarker, BlockQuotePrefix, SpaceOrTab}
use Rattle.md_engine.specs.declared.state.Name.{Name as StateName}
use Rattle.md_engine.specs.declared.state.Name.TheVariants as n
use Rattle.md_engine.specs.declared.state.block_quote.State.{State as QuoteState}
use Rattle.md_engine.specs.declared.state.block_quote.State.TheVariants as its
use Rattle.md_engine.specs.declared.state.State.TheVariants.{Ok, Nok, Next, Retry}
use Rattle.md_engine.specs.declared.state.blank_line.State.TheVariants as blank_line
use Rattle.md_engine.specs.declared.tokenizer.Scratch.{Scratch}
use Rattle.md_engine.specs.Scheme.{After, Ends, Rank, Scheme, Position, ranked}
use Rattle.md_engine.specs.World.{World}
use Rattle.md_meaning.specs.Bytes.{is_end}
use Rattle.md_events.specs.Spaces.{IsRest, is_current, later_ready, rest_ready, sees_white, small_indent, white_then}
use Rattle.md_events.specs.Transition.{Transition, entered, exited, taken, tried}

-- what may be first after the indent of a quote's prefix: `>`
abbrev pub may_begin : ℕ → Bool
may_begin b = b == 62

-- the prefix of the line on which a quote opens: that of a further line, unless a marker may give the quote a kind
abbrev pub first_state : Bool → QuoteState
first_state true = its.OpenStart
first_state false = its.ContStart

-- by whether quotes are on, and whether alerts are
abbrev pub start_code : World → Bool → Bool → Transition
start_code w true alerts = record { to = Retry (n.BlockQuote (first_state alerts)); world = entered w BlockQuote }
start_code w false alerts = record { to = Nok; world = w }

-- a small indent, and the state after it: by whether there is whitespace
abbrev pub indent_code : QuoteState → World → Bool → Transition
indent_code next w true = white_then w 1 (small_indent w.setting.options) (Next (n.BlockQuote next)) Nok
indent_code next w false = record { to = Retry (n.BlockQuote next); world = w }

-- the marker of a prefix, and the state after it: by whether `>` is next
abbrev pub marker_code : QuoteState → World → Bool → Transition
marker_code next w true =
    record {
      to = Next (n.BlockQuote next);
      world = exited (taken (entered (entered w BlockQuotePrefix) BlockQuoteMarker)) BlockQuoteMarker;
    }
marker_code next w false = record { to = Nok; world = w }

-- one column of whitespace, by whether there is one, and the state after it
abbrev pub column_code : QuoteState → World → Bool → Transition
column_code next w true = record {
  to = Next (n.BlockQuote next);
  world = exited (taken (entered w SpaceOrTab)) SpaceOrTab;
}
column_code next w false = record { to = Retry (n.BlockQuote next); world = w }

-- the marker of an alert is tried; the prefix ends after it, or here
abbrev pub try_code : World → Transition
try_code w = record {
  to = Retry (n.BlockQuote its.AlertStart);
  world = tried w (Next (n.BlockQuote its.PrefixEnd)) (Next (n.BlockQuote its.PrefixEnd));
}

-- the marker of an alert begins, by whether `[` is next
abbrev pub alert_before_code : World → Bool → Transition
alert_before_code w true = record {
  to = Next (n.BlockQuote its.AlertMark);
  world = taken (entered w BlockQuoteMarker);
}
alert_before_code w false = record { to = Nok; world = w }

-- by whether `!` is next
abbrev pub alert_mark_code : World → Bool → Transition
alert_mark_code w true = record { to = Next (n.BlockQuote its.AlertLetter); world = taken w }
alert_mark_code w false = record { to = Nok; world = w }

-- the name of the kind that begins with this small letter; an empty one where there is none
abbrev pub name_of : ℕ → List ℕ
name_of b =
    if b == 110 then codes "note"
    else if b == 116 then codes "tip"
    else if b == 105 then codes "important"
    else if b == 119 then codes "warning"
    else if b == 99 then codes "caution"
    else []

-- so many bytes of the name with this first letter are read
abbrev pub naming : ℕ → ℕ → Scratch → Scratch
naming letter size s = record s { marker = letter; size = size }

abbrev pub unnamed : Scratch → Scratch
unnamed s = naming 0 0 s

-- the first letter of a name, by the byte that is next
abbrev pub letter_code : World → Option ℕ → Transition
letter_code w None = record { to = Nok; world = w }
letter_code w (Some b) =
    let letter = to_ascii_lowercase b in
    if is_end (name_of letter)
    then record { to = Nok; world = w }
    else record {
      to = Next (n.BlockQuote its.AlertName);
      world = record (taken w) { scratch = naming letter 1 w.scratch };
    }

-- and none, where there is no marker of an alert
abbrev pub forgotten : World → World
forgotten w = record w { scratch = unnamed w.scratch }

-- a further byte of the name or, after it, `]`: by the byte that the name has next, and the one that is next
abbrev pub name_code : World → Option ℕ → Option ℕ → Transition
name_code w left None = record { to = Nok; world = forgotten w }
name_code w None (Some b) =
    if b == 93
    then record {
      to = Next (n.BlankLine blank_line.Start);
      world = forgotten (exited (taken w) BlockQuoteMarker);
    }
    else record { to = Nok; world = forgotten w }
name_code w (Some c) (Some b) =
    if to_ascii_lowercase b == c
    then record {
      to = Next (n.BlockQuote its.AlertName);
      world = record (taken w) { scratch = naming w.scratch.marker (w.scratch.size + 1) w.scratch };
    }
    else record { to = Nok; world = forgotten w }

abbrev pub cont_start_code : World → Bool → Transition
cont_start_code w white = indent_code its.ContBefore w white

abbrev pub cont_before_code : World → Bool → Transition
cont_before_code w marked = marker_code its.ContAfter w marked

-- by whether whitespace is here
abbrev pub cont_after_code : World → Bool → Transition
cont_after_code w true = record {
  to = Ok;
  world = exited (exited (taken (entered w SpaceOrTab)) SpaceOrTab) BlockQuotePrefix;
}
cont_after_code w false = record { to = Ok; world = exited w BlockQuotePrefix }

-- each state with what it does, where there is memory
abbrev pub start_transition : World → Transition
start_transition w = start_code w w.setting.options.constructs.block_quote w.setting.options.constructs.alerts

abbrev pub open_start_transition : World → Transition
open_start_transition w = indent_code its.OpenBefore w (sees_white w.current)

abbrev pub open_before_transition : World → Transition
open_before_transition w = marker_code its.OpenAfter w (is_current 62 w.current)

abbrev pub open_after_transition : World → Transition
open_after_transition w = column_code its.AlertTry w (sees_white w.current)

abbrev pub alert_try_transition : World → Transition
alert_try_transition w = try_code w

abbrev pub alert_start_transition : World → Transition
alert_start_transition w = indent_code its.AlertBefore w (sees_white w.current)

abbrev pub alert_before_transition : World → Transition
alert_before_transition w = alert_before_code w (is_current 91 w.current)

abbrev pub alert_mark_transition : World → Transition
alert_mark_transition w = alert_mark_code w (is_current 33 w.current)

abbrev pub alert_letter_transition : World → Transition
alert_letter_transition w = letter_code w w.current

abbrev pub alert_name_transition : World → Transition
alert_name_transition w = name_code w (slice_get (name_of w.scratch.marker) w.scratch.size) w.current

abbrev pub prefix_end_transition : World → Transition
prefix_end_transition w = record { to = Ok; world = exited w BlockQuotePrefix }

abbrev pub cont_start_transition : World → Transition
cont_start_transition w = cont_start_code w (sees_white w.current)

abbrev pub cont_before_transition : World → Transition
cont_before_transition w = cont_before_code w (is_current 62 w.current)

abbrev pub cont_after_transition : World → Transition
cont_after_transition w = cont_after_code w (sees_white w.current)

-- all of them
abbrev pub quote_transition : QuoteState → World → Transition
quote_transition its.Start w = start_transition w
quote_transition its.OpenStart w = open_start_transition w
quote_transition its.OpenBefore w = open_before_transition w
quote_transition its.OpenAfter w = open_after_transition w
quote_transition its.AlertTry w = alert_try_transition w
quote_transition its.AlertStart w = alert_start_transition w
quote_transition its.AlertBefore w = alert_before_transition w
quote_transition its.AlertMark w = alert_mark_transition w
quote_transition its.AlertLetter w = alert_letter_transition w
quote_transition its.AlertName w = alert_name_transition w
quote_transition its.PrefixEnd w = prefix_end_transition w
quote_transition its.ContStart w = cont_start_transition w
quote_transition its.ContBefore w = cont_before_transition w
quote_transition its.ContAfter w = cont_after_transition w

abbrev pub quote_rank : StateName → Position → Rank
quote_rank (n.BlockQuote its.Start) x = ranked 20 refl
quote_rank (n.BlockQuote its.OpenStart) x = ranked 19 refl
quote_rank (n.BlockQuote its.OpenBefore) x = ranked 17 refl
quote_rank (n.BlockQuote its.OpenAfter) x = ranked 16 refl
quote_rank (n.BlockQuote its.AlertTry) x = ranked 15 refl
quote_rank (n.BlockQuote its.AlertStart) x = ranked 13 refl
quote_rank (n.BlockQuote its.AlertBefore) x = ranked 11 refl
quote_rank (n.BlockQuote its.AlertMark) x = ranked 10 refl
quote_rank (n.BlockQuote its.AlertLetter) x = ranked 9 refl
quote_rank (n.BlockQuote its.AlertName) x = ranked 8 refl
quote_rank (n.BlockQuote its.ContStart) x = ranked 5 refl
quote_rank (n.BlockQuote its.ContBefore) x = ranked 3 refl
quote_rank _ x = ranked 2 refl

abbrev pub quote_tries : StateName → Rank
quote_tries (n.BlockQuote its.OpenBefore) = ranked 18 refl
quote_tries (n.BlockQuote its.PrefixEnd) = ranked 14 refl
quote_tries (n.BlockQuote its.AlertBefore) = ranked 12 refl
quote_tries (n.BlockQuote its.ContBefore) = ranked 4 refl
quote_tries _ = ranked 1 refl

-- the marker of an alert is tried by an attempt in that of the prefix
abbrev pub quote_level : StateName → ℕ
quote_level (n.BlockQuote its.AlertStart) = 1
quote_level (n.BlockQuote its.AlertBefore) = 1
quote_level (n.BlockQuote its.AlertMark) = 1
quote_level (n.BlockQuote its.AlertLetter) = 1
quote_level (n.BlockQuote its.AlertName) = 1
quote_level _ = 2

-- the prefix ends after `>`, and so after the point where it begins; a name is left with no byte counted
abbrev pub quote_ready : StateName → Position → After → Type 0
quote_ready (n.BlockQuote its.OpenAfter) x K = rest_ready x K
quote_ready (n.BlockQuote its.AlertTry) x K = rest_ready x K
quote_ready (n.BlockQuote its.AlertStart) x K = rest_ready x K
quote_ready (n.BlockQuote its.AlertBefore) x K = rest_ready x K
quote_ready (n.BlockQuote its.AlertMark) x K = rest_ready x K
quote_ready (n.BlockQuote its.AlertLetter) x K = rest_ready x K
quote_ready (n.BlockQuote its.AlertName) x K = IsRest (unnamed x.scratch) × Ends IsRest IsRest x K
quote_ready (n.BlockQuote its.PrefixEnd) x K = rest_ready x K
quote_ready (n.BlockQuote its.ContAfter) x K = rest_ready x K
quote_ready _ x K = later_ready x K

abbrev pub quote_scheme : Scheme
quote_scheme = record { ready = quote_ready; level = quote_level; rank = quote_rank; tries = quote_tries }
