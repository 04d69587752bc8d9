use Rattle.std.proofs.Common.{◌∙◌, ap, subst}
use Rattle.std.proofs.lemmas.Result.{IfOk-weaker}
use Rattle.md_engine.specs.declared.configuration.ParseOptions.{ParseOptions}
use Rattle.markdown_blocks.specs.Parsed.{IsParsed}
use Rattle.printing.specs.Events.{PrintsEvents}
use Rattle.printing.specs.PrintedEvents.{printed_events}
use Rattle.printing.proofs.events.EventsPrinting.output.Goals as goal

pub returns : goal.returns
returns c =
    let text = c.args.text.now in
    let events = c.in_ok-events.events.items in
    let state = c.in_ok-events._state in
    IfOk-weaker c.bytes_of.result _ (λ output. PrintsEvents text c.args.options output.items)
    (λ output copied. record {
      events = events;
      state = state;
      parsed =
          subst
          (λ (options : ParseOptions).
          IsParsed text options events state) c.built-options.ensures.value c.in_ok-events.ensures;
      printing =
          copied ∙ c.as_str.ensures.value ∙ c.in_ok-text.ensures ∙ ap printed_events c.deref.ensures.value;
    })
    c.bytes_of.ensures
