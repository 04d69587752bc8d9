-- What is known of what is before the content of a footnote definition where it opens. Where it continues, that is what
-- an item takes (`item-continues`).
use Rattle.std.proofs.Common.{◌≡◌, ℕ, true, List, refl}
use Rattle.std.specs.Prelude.{None, Option, Some}
use Rattle.md_engine.specs.declared.event.Event.{Event}
use Rattle.md_engine.specs.declared.event.Link.{Link}
use Rattle.md_engine.specs.declared.event.Point.{Point}
use Rattle.md_containers.specs.Footnote.{label_link}
use Rattle.md_meaning.specs.State.{InFootnote}
use Rattle.proof_container_laws.proofs.GfmFootnoteDefinition.Grammar.{front-leads, front-valid}
use Rattle.proof_container_laws.proofs.FrontParts.{FrontPart, part-facts}
use Rattle.proof_container_laws.proofs.GfmFootnoteDefinition.Names.{front-line, front-part, front-some}
use Rattle.proof_container_laws.proofs.GfmFootnoteDefinition.Parts.{front-reads}
use Rattle.proof_container_laws.proofs.GfmFootnoteDefinition.Pieces.{LabelCovers, label-linked, label-read}
use Rattle.proof_container_laws.proofs.GfmFootnoteDefinition.Prefix.{IsFront}
use Rattle.proof_container_laws.proofs.GfmFootnoteDefinition.Read.{front-read}
use Rattle.proof_container_laws.proofs.ListItem.Parted.{white-clear}
use Rattle.proof_frame.proofs.PrefixFacts.{Opens, OpensRead}
use Rattle.proof_frame.proofs.PrefixNames.{is_alone}

-- where it opens, be its label read or not
footnote-opens : (bytes label : List ℕ) (link : Option Link) (p q : Point) (es : List Event) →
    (is : IsFront bytes label link p q es) → LabelCovers bytes link label is.start → is_alone link ≡ true →
    Opens bytes (InFootnote label) p q es
footnote-opens bytes label link p q es is valid alone =
    let part : FrontPart bytes p q es = front-part bytes label link p q es is valid alone in
    record {
      common =
          part-facts part (front-line bytes label link p q es is)
          (λ following. white-clear bytes p is.start is.white_before (rw is.whole refl));
      names = part.names;
      plain = part.plain;
      sits = part.sits;
      leads = λ text takes. front-leads bytes label link p q es is part.unlisted text takes;
      valid = λ held. front-valid bytes label link p q es held is;
      unlisted = part.unlisted;
      read = λ r none shut. front-read bytes label link p q es r is none;
      shown = refl;
      some = front-some bytes label link p q es is;
    }

-- before its label is read, and once it is
pub footnote-opens_read : (bytes label : List ℕ) (p q : Point) (es : List Event) →
    IsFront bytes label (Some label_link) p q es → OpensRead bytes (InFootnote label) p q es
footnote-opens_read bytes label p q es is =
    let read = front-reads bytes label p q es is in
    record {
      unread =
          footnote-opens bytes label (Some label_link) p q es is
          (label-linked bytes label (Some label_link) p q es is) refl;
      done = read.0;
      read =
          footnote-opens bytes label None p q read.0 read.1 (label-read bytes label None p q read.0 read.1) refl;
      reads = read.2;
    }
