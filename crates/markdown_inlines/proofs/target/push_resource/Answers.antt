use Rattle.std.proofs.Common.{◌≡◌, ℕ, ◌+◌, List, [], ◌∷◌, ◌++◌, take, drop, ap, subst, ◌∙◌, arith}
use Rattle.md_inlines.specs.Targets.{destination}
use Rattle.markdown_inlines.specs.declared.span.Span.{Span}
use Rattle.markdown_inlines.specs.Filled.{Shows}
use Rattle.markdown_inlines.specs.Leading.{destination_len, ending, ending_len}
use Rattle.markdown_inlines.proofs.LeadingLemmas.{resource-shows, resource-size}
use Rattle.markdown_inlines.proofs.SpanLemmas.{four-spans}
use Rattle.markdown_inlines.proofs.target.push_resource.Goals as goal

pub returns-clause-spans : goal.returns-clause-spans
returns-clause-spans c =
    resource-shows c.args.options.now c.args.found c.args.text.now c.args.at c.in_ok-inside.inside
    c.in_ok-start.start c.in_ok-close.close c.in_ok-quote.quote c.in_ok-end.end c.args.spans.now.items
    c.push_spans.new.spans.items c.push_destination.new.spans.items c.push_spans-2.new.spans.items
    c.push_ending.new.spans.items c.in_ok-inside.ensures c.in_ok-start.ensures close-is c.in_ok-quote.ensures end-is
    (c.in_ok-push_spans.ensures
    ∙ ap (λ (l : List Span). c.args.spans.now.items ++ l)
    (four-spans c.new.result c.new-2.result c.new-3.result c.new-4.result _ _ _ _ c.new.ensures c.new-2.ensures
    c.new-3.ensures c.new-4.ensures))
    (subst
    (λ (l : List ℕ). Shows c.in_ok-start.start c.push_spans.new.spans.items
    (destination c.args.options.now c.args.found.is_literal l) c.push_destination.new.spans.items) target-is
    c.in_ok-push_destination.ensures)
    (c.in_ok-push_spans-2.ensures
    ∙ ap (λ (s : Span). c.push_destination.new.spans.items ++ s ∷ []) c.new-5.ensures)
    (subst
    (λ (l : List ℕ). Shows c.in_ok-quote.quote c.push_spans-2.new.spans.items
    (ending c.args.options.now c.args.found l) c.push_ending.new.spans.items) tail-is c.in_ok-push_ending.ensures)
  where
    rest-is : c.after-rest.result.now ≡ drop (1 + c.args.found.before) c.args.text.now
    rest-is = c.after-rest.ensures ∙ ap (λ (k : ℕ). drop k c.args.text.now) c.in_ok-past.ensures

    target-is : c.front-target.result.now ≡
        take c.args.found.destination (drop (1 + c.args.found.before) c.args.text.now)
    target-is = c.front-target.ensures ∙ ap (take c.args.found.destination) rest-is

    tail-is : c.after-tail.result.now ≡
        drop (c.args.found.destination + c.args.found.between) (drop (1 + c.args.found.before) c.args.text.now)
    tail-is =
        c.after-tail.ensures ∙ ap (λ (k : ℕ). drop k c.after-rest.result.now) c.in_ok-past-2.ensures
        ∙ ap (drop (c.args.found.destination + c.args.found.between)) rest-is

    close-is : c.in_ok-close.close ≡
        c.in_ok-start.start
        + destination_len c.args.found.is_literal
        (take c.args.found.destination (drop (1 + c.args.found.before) c.args.text.now))
    close-is =
        c.in_ok-close.ensures
        ∙ ap (λ (k : ℕ). c.in_ok-start.start + k)
        (c.in_ok-destination_len.ensures ∙ ap (destination_len c.args.found.is_literal) target-is)

    end-is : c.in_ok-end.end ≡
        c.in_ok-quote.quote
        + ending_len c.args.found
        (drop (c.args.found.destination + c.args.found.between) (drop (1 + c.args.found.before) c.args.text.now))
    end-is =
        c.in_ok-end.ensures
        ∙ ap (λ (k : ℕ). c.in_ok-quote.quote + k)
        (c.in_ok-ending_len.ensures ∙ ap (ending_len c.args.found) tail-is)

pub returns-clause-end : goal.returns-clause-end
returns-clause-end c =
    omega (
      arith,
      close-is,
      end-is,
      c.in_ok-quote.ensures,
      c.in_ok-start.ensures,
      c.in_ok-inside.ensures,
      resource-size c.args.options.now c.args.found c.args.text.now,
    )
  where
    rest-is : c.after-rest.result.now ≡ drop (1 + c.args.found.before) c.args.text.now
    rest-is = c.after-rest.ensures ∙ ap (λ (k : ℕ). drop k c.args.text.now) c.in_ok-past.ensures

    target-is : c.front-target.result.now ≡
        take c.args.found.destination (drop (1 + c.args.found.before) c.args.text.now)
    target-is = c.front-target.ensures ∙ ap (take c.args.found.destination) rest-is

    tail-is : c.after-tail.result.now ≡
        drop (c.args.found.destination + c.args.found.between) (drop (1 + c.args.found.before) c.args.text.now)
    tail-is =
        c.after-tail.ensures ∙ ap (λ (k : ℕ). drop k c.after-rest.result.now) c.in_ok-past-2.ensures
        ∙ ap (drop (c.args.found.destination + c.args.found.between)) rest-is

    close-is : c.in_ok-close.close ≡
        c.in_ok-start.start
        + destination_len c.args.found.is_literal
        (take c.args.found.destination (drop (1 + c.args.found.before) c.args.text.now))
    close-is =
        c.in_ok-close.ensures
        ∙ ap (λ (k : ℕ). c.in_ok-start.start + k)
        (c.in_ok-destination_len.ensures ∙ ap (destination_len c.args.found.is_literal) target-is)

    end-is : c.in_ok-end.end ≡
        c.in_ok-quote.quote
        + ending_len c.args.found
        (drop (c.args.found.destination + c.args.found.between) (drop (1 + c.args.found.before) c.args.text.now))
    end-is =
        c.in_ok-end.ensures
        ∙ ap (λ (k : ℕ). c.in_ok-quote.quote + k)
        (c.in_ok-ending_len.ensures ∙ ap (ending_len c.args.found) tail-is)
