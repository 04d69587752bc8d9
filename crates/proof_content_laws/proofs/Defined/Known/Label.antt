-- What is known of the label of a definition, with its marks.
use Rattle.std.proofs.Common.{ℕ, List, ◌++◌, refl}
use Rattle.md_engine.specs.declared.event.Event.{Event}
use Rattle.md_engine.specs.declared.event.Name.TheVariants as n
use Rattle.md_events.specs.Events.Grammar.{Expression, Nothing, following, inside, plain_text}
use Rattle.md_events.specs.Events.Nested.{around, pair}
use Rattle.md_events.specs.Events.Spelled.{OpenLeaf}
use Rattle.proof_content_laws.proofs.Defined.Known.Enclosed.{IsMarkName, parts-enclosed}
use Rattle.proof_content_laws.proofs.Defined.Form.{Form, IsByte, label_by, strand_done, strand_unread}
use Rattle.proof_frame.proofs.PartsFacts.{PartsFacts, around-reads, parts-around}

label-mark : IsMarkName n.DefinitionLabelMarker
label-mark = record { quiet = tt; others = λ p q. refl; ends = λ text. refl }

-- what is in it, and what is left of that after its first mark, and after its text
abbrev pub label_begin : Expression
label_begin = inside plain_text n.DefinitionLabel

abbrev pub label_text : Expression
label_text = following n.DefinitionLabelMarker label_begin

abbrev pub label_last : Expression
label_last = following n.DefinitionLabelString label_text

-- by what is known of its text
pub label-parts : (bytes : List ℕ) (x : Form) (left : Expression) (from to : OpenLeaf) →
    IsByte bytes 91 x.p x.a → IsByte bytes 93 x.b x.c →
    PartsFacts bytes x.a x.b label_text label_last from to
    (around n.DefinitionLabelString x.a x.b (strand_unread x.label))
    (around n.DefinitionLabelString x.a x.b (strand_done bytes x.label)) →
    PartsFacts bytes x.p x.c left (following n.DefinitionLabel left) from to (label_by strand_unread x)
    (label_by (strand_done bytes) x)
label-parts bytes x left from to opens closes text =
    parts-around bytes n.DefinitionLabel x.p x.c left label_begin Nothing from to from to (enclosed unread)
    (enclosed done)
    (record {
      no_part = refl;
      part = tt;
      still = tt;
      begins = λ text. refl;
      enters = λ p. refl;
      exits = λ p. refl;
    })
    refl refl refl inside_facts
    (around-reads bytes n.DefinitionLabel x.p x.c from to (enclosed done) tt inside_facts.reads)
  where
    unread : List Event
    unread = around n.DefinitionLabelString x.a x.b (strand_unread x.label)

    done : List Event
    done = around n.DefinitionLabelString x.a x.b (strand_done bytes x.label)

    enclosed : List Event → List Event
    enclosed es = pair n.DefinitionLabelMarker x.p x.a ++ es ++ pair n.DefinitionLabelMarker x.b x.c

    inside_facts : PartsFacts bytes x.p x.c label_begin Nothing from to (enclosed unread) (enclosed done)
    inside_facts =
        parts-enclosed bytes n.DefinitionLabelMarker 91 93 x.p x.a x.b x.c label_begin label_last from to unread done
        label-mark (record { over = refl; low = refl }) (record { over = refl; low = refl }) opens closes text
