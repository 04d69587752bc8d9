-- The indent of a footnote definition on a further line, taken at once, is what the states of an item take.
use Rattle.proof_container_laws.specs.Containers.GfmFootnoteDefinition.{footnote_rules}
use Rattle.md_registry.proofs.ListItem.Plain.{item-plain}
use Rattle.md_registry.proofs.PlainLaws.{PlainLaws}

pub footnote-plain : PlainLaws footnote_rules
footnote-plain = record {
  asked = item-plain.asked;
  may = item-plain.may;
  not_end = item-plain.not_end;
  took = item-plain.took;
  runs = item-plain.runs;
}
