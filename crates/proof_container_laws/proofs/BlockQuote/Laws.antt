-- The laws of block quotes, as containers.
use Rattle.std.proofs.Common.{◌≡◌, true, refl, ap, ◌∙◌, [], ◌++◌}
use Rattle.std.specs.Prelude.{None}
use Rattle.md_engine.specs.declared.configuration.ParseOptions.{ParseOptions}
use Rattle.md_engine.specs.declared.tokenizer.container.name.ContainerKind.TheVariants as kind
use Rattle.md_engine.specs.World.{container_of}
use Rattle.md_containers.proofs.QuoteShorter.{prefix-shortens, quote-shortens}
use Rattle.md_meaning.specs.Containers.{continues}
use Rattle.md_meaning.specs.Preamble.{rest_at}
use Rattle.md_outline.specs.HeadingDepths.{is_shallow}
use Rattle.md_meaning.specs.State.{Container, container_block}
use Rattle.md_events.proofs.RestCells.{past_rest, rest_cells}
use Rattle.proof_container_laws.specs.Containers.BlockQuote.{quote_rules}
use Rattle.proof_frame.specs.ContainerNames.{IsOf, container_kind}
use Rattle.proof_container_laws.proofs.BlockQuote.Fronts.{quote-begins, quote-proceeds}
use Rattle.proof_container_laws.proofs.BlockQuote.Tree.{no_quote-empty, opens-quote}
use Rattle.proof_container_laws.proofs.BlockQuote.Trial.{each-quote, prefix-ended, prefix-held, prefix-looked}
use Rattle.proof_container_laws.proofs.BlockQuote.Trial.{prefix-passed, prefix-tried, quote-ended, quote-held}
use Rattle.proof_container_laws.proofs.BlockQuote.Trial.{quote-looked, quote-passed, quote-tried}
use Rattle.proof_frame.proofs.ContainerLaws.{ByRest, ContainerLaws}
use Rattle.proof_frame.proofs.PassedFacts.{Agree, HasFurther}

pub quote-laws : ContainerLaws kind.BlockQuote quote_rules
quote-laws = record {
  begins_is = λ options interrupting cells h rest asked column by_flags.
      quote-tried options interrupting cells h rest asked;
  continues_is = λ options held c cells h rest asked column is holds.
      prefix-tried options c cells h rest (asked ∙ holds) is;
  begins_looked = quote-looked;
  continues_looked = prefix-looked;
  begins_shorter = λ options cells h. quote-shortens options cells h;
  continues_shorter = λ options cells h ends. prefix-shortens options cells h;
  opened = λ options interrupting cells p t e. quote-passed options interrupting cells p t e;
  proceeded = λ options c cells p t is e. prefix-passed options c cells p t e;
  held_new = λ options interrupting cells p t e. quote-held options interrupting cells p t e;
  held_on = λ options held c cells p t holds e. prefix-held options c cells p t e;
  opens_agrees = λ options interrupting. quote-begins options interrupting;
  proceeds_agrees = proceeds;
  found_one = λ options interrupting r t e. ap container_kind (opens-quote options r t e).1;
  opens_not = λ options interrupting cells p ends. quote-ended options interrupting cells p ends;
  continues_over = λ options held c cells p is holds ends. prefix-ended options c cells p is ends;
  over_empty = λ options held c column is holds.
      each-quote (λ d. continues options d (rest_at column []) ≡ None)
      (λ alert. no_quote-empty options alert column) c is;
  over_kind = λ held. refl;
  may_hold = λ c is. (container_of kind.BlockQuote, refl);
  shallow = λ c bs is h. each-quote (λ d. is_shallow (container_block d bs) ≡ true) (λ alert. h) c is;
}
  where
    proceeds : (options : ParseOptions) (c : Container) → IsOf kind.BlockQuote c → ByRest (λ line text past r stop p.
        let cells = rest_cells line r p ++ stop in
        Agree (HasFurther line text past p (past_rest r p) stop cells) (quote_rules.proceeds options c cells p)
        (continues options c r))
    proceeds options c is = each-quote (λ d. ByRest (λ line text past r stop p.
        let cells = rest_cells line r p ++ stop in
        Agree (HasFurther line text past p (past_rest r p) stop cells) (quote_rules.proceeds options d cells p)
        (continues options d r)))
        (λ alert. quote-proceeds options alert) c is
