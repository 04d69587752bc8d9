use Rattle.std.proofs.Common.{ℕ, drop, ap, arith, ◌∙◌, refl}
use Rattle.std.specs.Prelude.{◌==◌}
use Rattle.std.proofs.lemmas.Result.{on_ok_weaker}
use Rattle.markdown_inlines.specs.declared.brackets.Reading.{Reading}
use Rattle.markdown_inlines.proofs.StepLemmas.{Popped, atom-goes, close-goes, held-long}
use Rattle.markdown_inlines.proofs.StepLemmas.{open-goes, popped, run-goes, text-goes}
use Rattle.markdown_inlines.proofs.brackets.step.Goals as goal

pub front_at-requires-clause-is : goal.front_at-requires-clause-is
front_at-requires-clause-is c = (c.args.following.now, c.after-rest.ensures ∙ c.requires.is)

pub returns-in-Found : goal.returns-in-Found
returns-in-Found c =
    on_ok_weaker c.add_atom.result
    (λ added.
    atom-goes c.args.source c.args.reading.now c.add_atom.new.reading c.requires.reads c.is_empty-inside.result
    c.front-before.result.now c.after-rest.result.now c.args.byte c.args.following.now
    (c.is_empty-inside.ensures ∙ ap (λ (k : ℕ). k == 0) c.args.reading.now.brackets.ok.0) c.front-before.ensures
    c.after-rest.ensures c.requires.is c.in-Found.found c.in-Found.ensures added)
    c.add_atom.ensures

pub returns-in-Marks : goal.returns-in-Marks
returns-in-Marks c =
    on_ok_weaker c.add_run.result
    (λ added.
    run-goes c.args.source c.args.reading.now c.add_run.new.reading c.requires.reads c.is_empty-inside.result
    c.front-before.result.now c.after-rest.result.now c.args.byte c.args.following.now
    (c.is_empty-inside.ensures ∙ ap (λ (k : ℕ). k == 0) c.args.reading.now.brackets.ok.0) c.front-before.ensures
    c.after-rest.ensures c.requires.is c.in-Marks.run' c.in-Marks.ensures added)
    c.add_run.ensures

pub returns-in-Text : goal.returns-in-Text
returns-in-Text c =
    on_ok_weaker c.add_text.result
    (λ added.
    text-goes c.args.source c.args.reading.now c.add_text.new.reading c.requires.reads c.is_empty-inside.result
    c.front-before.result.now c.after-rest.result.now c.args.byte c.args.following.now
    (c.is_empty-inside.ensures ∙ ap (λ (k : ℕ). k == 0) c.args.reading.now.brackets.ok.0) c.front-before.ensures
    c.after-rest.ensures c.requires.is c.in-Text.ensures added)
    c.add_text.ensures

pub returns-in-Link : goal.returns-in-Link
returns-in-Link c =
    on_ok_weaker c.open_bracket.result
    (λ added.
    open-goes c.args.source c.args.reading.now c.open_bracket.new.reading c.requires.reads c.is_empty-inside.result
    c.front-before.result.now c.after-rest.result.now c.args.byte c.args.following.now
    (c.is_empty-inside.ensures ∙ ap (λ (k : ℕ). k == 0) c.args.reading.now.brackets.ok.0) c.front-before.ensures
    c.after-rest.ensures c.requires.is 1 (omega arith) c.in-Link.ensures added)
    c.open_bracket.ensures

pub returns-in-Image : goal.returns-in-Image
returns-in-Image c =
    on_ok_weaker c.open_bracket-in-Image.result
    (λ added.
    open-goes c.args.source c.args.reading.now c.open_bracket-in-Image.new.reading c.requires.reads
    c.is_empty-inside.result c.front-before.result.now c.after-rest.result.now c.args.byte c.args.following.now
    (c.is_empty-inside.ensures ∙ ap (λ (k : ℕ). k == 0) c.args.reading.now.brackets.ok.0) c.front-before.ensures
    c.after-rest.ensures c.requires.is 2 (omega arith) c.in-Image.ensures added)
    c.open_bracket-in-Image.ensures

pub close-requires-clause-closing : goal.close-requires-clause-closing
close-requires-clause-closing c =
    (popped c.args.source c.args.reading.now _ c.requires.reads c.in-Some.bracket c.in-Some.ensures.items refl refl
    refl).k

pub close-requires-clause-inside : goal.close-requires-clause-inside
close-requires-clause-inside c =
    held-long c.args.source c.args.reading.now mid c.requires.reads c.in-Some.bracket c.args.byte
    c.args.following.now c.after-held.result.now
    (popped c.args.source c.args.reading.now mid c.requires.reads c.in-Some.bracket c.in-Some.ensures.items refl refl
    refl) refl c.requires.is
    (c.after-held.ensures
    ∙ ap (drop c.in-Some.bracket.len)
    (c.after.ensures ∙ ap (drop c.in-Some.bracket.at) c.front-before.ensures))
  where
    mid : Reading
    mid = record {
      spans = c.args.reading.now.spans;
      runs = c.args.reading.now.runs;
      brackets = c.pop.new.self;
      links = c.args.reading.now.links;
      at = c.args.reading.now.at;
    }

pub returns-in-Some : goal.returns-in-Some
returns-in-Some c =
    on_ok_weaker c.close.result
    (λ all.
    close-goes c.args.source c.args.reading.now mid c.close.new.reading c.requires.reads c.is_empty-inside.result
    c.front-before.result.now c.after-rest.result.now c.args.byte c.args.following.now
    (c.is_empty-inside.ensures ∙ ap (λ (k : ℕ). k == 0) c.args.reading.now.brackets.ok.0) c.front-before.ensures
    c.after-rest.ensures c.requires.is c.in-Some.bracket c.after-held.result.now c.after-in-Closes.result.now
    c.in-Closes.ensures taken refl refl
    (c.after-held.ensures ∙ ap (drop c.in-Some.bracket.len) c.after.ensures) c.after-in-Closes.ensures (all taken.k))
    c.close.ensures
  where
    mid : Reading
    mid = record {
      spans = c.args.reading.now.spans;
      runs = c.args.reading.now.runs;
      brackets = c.pop.new.self;
      links = c.args.reading.now.links;
      at = c.args.reading.now.at;
    }

    taken : Popped c.args.source c.args.reading.now mid c.requires.reads c.in-Some.bracket
    taken =
        popped c.args.source c.args.reading.now mid c.requires.reads c.in-Some.bracket c.in-Some.ensures.items refl refl
        refl
