-- The laws of footnote definitions, as containers.
use Rattle.std.proofs.Common.{◌≡◌, true, [], refl, sym, subst}
use Rattle.std.specs.Prelude.{Option, Some}
use Rattle.md_engine.specs.declared.tokenizer.container.Container.{Container as Held}
use Rattle.md_engine.specs.declared.tokenizer.container.name.ContainerKind.TheVariants as kind
use Rattle.md_engine.specs.World.{container_of}
use Rattle.md_containers.specs.FootnotePrefix.{footnote_as}
use Rattle.md_containers.proofs.FootnoteHeld.{footnote-empty, footnote-looked}
use Rattle.md_containers.proofs.FootnoteShorter.{footnote-shortens}
use Rattle.md_containers.proofs.ItemShorter.{further-shortens}
use Rattle.md_meaning.specs.Containers.{Taken, continues, opens_footnote}
use Rattle.md_meaning.specs.Preamble.{rest_at}
use Rattle.md_meaning.specs.Rest.{Rest}
use Rattle.md_meaning.specs.State.{container_block}
use Rattle.md_meaning.proofs.TextsLemmas.{NoEnding}
use Rattle.md_outline.specs.HeadingDepths.{is_shallow}
use Rattle.proof_container_laws.specs.Containers.GfmFootnoteDefinition.{footnote_rules}
use Rattle.proof_frame.specs.ContainerNames.{IsOf}
use Rattle.proof_frame.proofs.ContainerLaws.{ContainerLaws}
use Rattle.proof_container_laws.proofs.GfmFootnoteDefinition.Definition.{IsFootnote, opens-one}
use Rattle.proof_container_laws.proofs.GfmFootnoteDefinition.Fronts.{footnote-begins, footnote-proceeds}
use Rattle.proof_container_laws.proofs.GfmFootnoteDefinition.Trial.{each-footnote, further-ended, further-holds}
use Rattle.proof_container_laws.proofs.GfmFootnoteDefinition.Trial.{further-passed, further-tried, new-ended, new-holds}
use Rattle.proof_container_laws.proofs.GfmFootnoteDefinition.Trial.{new-passed, new-tried}

-- by the line definition what opens is a footnote definition
found : (r : Rest) (o : Option Taken) (t : Taken) → IsFootnote (NoEnding r.bytes) o → o ≡ Some t →
    IsOf kind.GfmFootnoteDefinition t.container
found r o t h e =
    let is : IsFootnote (NoEnding r.bytes) (Some t) = subst (IsFootnote (NoEnding r.bytes)) e h in
    subst (IsOf kind.GfmFootnoteDefinition) (sym is.1) refl

pub footnote-laws : ContainerLaws kind.GfmFootnoteDefinition footnote_rules
footnote-laws = record {
  begins_is = λ options interrupting cells h rest asked column by_flags. new-tried options cells h rest asked;
  continues_is = λ options held c cells h rest asked column is holds.
      further-tried held c cells h rest asked holds.0 holds.1;
  begins_looked = λ options cells h b rest seen other. footnote-looked options cells h b rest seen other;
  continues_looked = λ options cells h b rest seen other. cc;
  begins_shorter = λ options cells h. footnote-shortens options cells h;
  continues_shorter = λ options cells h ends. further-shortens cells h ends;
  opened = λ options interrupting cells p t e. new-passed options interrupting cells p t e;
  proceeded = λ options c cells p t is e. further-passed c cells p t is e;
  held_new = λ options interrupting cells p t e. new-holds options interrupting cells p t e;
  held_on = λ options held c cells p t holds e. further-holds held c cells p t holds.1 e;
  opens_agrees = λ options interrupting. footnote-begins options interrupting;
  proceeds_agrees = footnote-proceeds;
  found_one = λ options interrupting r t e. found r (opens_footnote options r) t (opens-one options r) e;
  opens_not = λ options interrupting cells p ends. new-ended options interrupting cells p ends;
  continues_over = λ options held c cells p is holds ends. further-ended held c cells p holds.0 holds.1 ends;
  over_empty = λ options held c column is holds.
      each-footnote
      (λ d. continues options d (rest_at column []) ≡ Some (record { container = d; rest = rest_at column [] }))
      (λ label. footnote-empty label column) c is;
  over_kind = λ held. refl;
  may_hold = each-footnote (λ c. (held : Held) × footnote_rules.holds held c)
      (λ label. (footnote_as (container_of kind.GfmFootnoteDefinition), (refl, (refl, refl))));
  shallow = λ c bs is h. each-footnote (λ d. is_shallow (container_block d bs) ≡ true) (λ label. h) c is;
}
