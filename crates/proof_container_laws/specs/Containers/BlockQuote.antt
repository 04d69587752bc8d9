-- Block quotes (CommonMark 5.1), as containers of a line.
use Rattle.std.specs.Prelude.{◌≡◌, ◌∷◌, ◌&&◌, false, if◌then◌else◌, List, Option, Some, None}
use Rattle.md_engine.specs.declared.configuration.ParseOptions.{ParseOptions}
use Rattle.md_engine.specs.declared.event.Name.TheVariants as n
use Rattle.md_engine.specs.declared.event.Point.{Point}
use Rattle.md_engine.specs.declared.state.Name.TheVariants as s
use Rattle.md_engine.specs.declared.state.block_quote.State.TheVariants as its
use Rattle.md_engine.specs.declared.state.document.State.TheVariants as document
use Rattle.md_engine.specs.declared.tokenizer.container.name.ContainerKind.TheVariants as kind
use Rattle.md_engine.specs.Meaning.{Cell}
use Rattle.md_engine.specs.World.{container_of}
use Rattle.md_containers.specs.QuotePrefix.{IsPlainPrefix, prefixed}
use Rattle.md_containers.specs.Quote.{may_begin}
use Rattle.md_containers.specs.QuoteRule.{opening_end, opening_events, opening_kind, opening_rest, prefix_at}
use Rattle.md_containers.specs.QuoteRule.{prefix_end, prefix_events, prefix_rest, quote_at, takes_prefix}
use Rattle.md_events.specs.Events.Nested.{enter}
use Rattle.md_meaning.specs.Containers.{opens_quote}
use Rattle.md_meaning.specs.State.{Container, InQuote}
use Rattle.md_meaning.specs.declared.alert.AlertKind.{AlertKind}
use Rattle.proof_frame.specs.ContainerRules.{ContainerRules}
use Rattle.proof_frame.specs.Passed.{Passed}

-- a quote of this kind that continues
abbrev pub quote_on : ParseOptions → Option AlertKind → List Cell → Point → Passed
quote_on options alert cells p = record {
  container = InQuote alert;
  held = container_of kind.BlockQuote;
  events = prefix_events options cells p;
  cells = prefix_rest options cells;
  point = prefix_end options cells p;
}

-- one that opens
abbrev pub quote_new : ParseOptions → List Cell → Point → Passed
quote_new options cells p = record {
  container = InQuote (opening_kind options cells);
  held = container_of kind.BlockQuote;
  events = enter n.BlockQuote p ∷ opening_events options cells p;
  cells = opening_rest options cells;
  point = opening_end options cells p;
}

-- an open one, if it continues
abbrev pub quote_continues : ParseOptions → Container → List Cell → Point → Option Passed
quote_continues options (InQuote alert) cells p =
    if takes_prefix options cells then Some (quote_on options alert cells p) else None
quote_continues options _ cells p = None

-- that it is a quote is held, and no more: the events show whether it is an alert
abbrev pub quote_rules : ContainerRules
quote_rules = record {
  before = document.ContainerNewBefore;
  start = s.BlockQuote its.Start;
  begins = λ options cells h. quote_at options cells h;
  further = s.BlockQuote its.ContStart;
  continues = λ options cells h. prefix_at options cells h;
  may_open = may_begin;
  may_continue = may_begin;
  plain = λ held w. IsPlainPrefix w;
  taken = λ held w. prefixed w;
  opens = λ options interrupting cells p.
      if options.constructs.block_quote && takes_prefix options cells then Some (quote_new options cells p) else None;
  proceeds = λ options c cells p. quote_continues options c cells p;
  found = λ options interrupting r. opens_quote options r;
  over_empty = λ held. false;
  holds = λ held c. held ≡ container_of kind.BlockQuote;
}
