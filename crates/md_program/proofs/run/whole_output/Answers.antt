use Rattle.std.proofs.Common.{◌≡◌, List, ℕ, IsUtf8, sym, ◌∙◌, subst}
use Rattle.md_engine.specs.declared.configuration.ParseOptions.{ParseOptions}
use Rattle.md_program.proofs.run.whole_output.Goals as goal

pub returns : goal.returns
returns g c =
    let items = c.in_ok-bytes.bytes.items in
    let text : c.in-Ok.text.now ≡ items = c.in-Ok.ensures.cases.0 ∙ c.as_slice.ensures.value in
    let prints = g.P.Printing.prints in
    let bytes = c.in_ok-output.output.items in
    record {
      set = c.in-Some.set;
      known = sym c.asked_for.ensures ∙ c.in-Some.is;
      shown = record {
        text = items;
        read = c.in_ok-bytes.ensures;
        utf8 = subst IsUtf8 c.as_slice.ensures.value c.in-Ok.ensures.cases.1;
        shown = subst (λ (o : ParseOptions). prints items o bytes) c.options.ensures.value
            (subst (λ (t : List ℕ). prints t c.options.result bytes) text c.in_ok-output.ensures);
      };
    }
