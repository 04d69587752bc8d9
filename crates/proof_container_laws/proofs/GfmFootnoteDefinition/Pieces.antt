-- The label of a footnote definition is over its bytes.
use Rattle.std.proofs.Common.{◌≡◌, ℕ, true, List, refl}
use Rattle.std.specs.Prelude.{Option, None, Some}
use Rattle.std.proofs.lemmas.Bool.{and_from}
use Rattle.md_engine.specs.declared.event.Event.{Event}
use Rattle.md_engine.specs.declared.event.Kind.TheVariants.{Enter}
use Rattle.md_engine.specs.declared.event.Link.{Link}
use Rattle.md_engine.specs.declared.event.Name.TheVariants as n
use Rattle.md_engine.specs.declared.event.Point.{Point}
use Rattle.md_containers.specs.Footnote.{label_link}
use Rattle.md_events.specs.Events.Inline.{Piece, is_linked}
use Rattle.md_events.specs.Events.Pieces.{is_valid_piece}
use Rattle.proof_frame.proofs.ChunkFacts.{in-line}
use Rattle.proof_container_laws.proofs.GfmFootnoteDefinition.Prefix.{IsFront, data_at, label-text, label_at, label_end}
use Rattle.proof_container_laws.proofs.GfmFootnoteDefinition.Prefix.{label_part}
use Rattle.proof_frame.proofs.LineTexts.{one-last}
use Rattle.proof_frame.proofs.PieceFacts.{PiecesValid, begins-whole, chunk-valid, over-front, over-valid}
use Rattle.proof_frame.proofs.PieceFacts.{is_valid-around}

-- the label, as it is read later or was read
abbrev label_piece : Option Link → Point → Point → Piece
label_piece link p q = record {
  name = n.Data;
  linked = is_linked (record { kind = Enter; name = n.Data; point = p; link = link });
  first = p;
  after = q;
}

-- it is over its bytes
abbrev pub LabelCovers : List ℕ → Option Link → List ℕ → Point → Type 0
LabelCovers bytes link label start =
    is_valid_piece bytes (label_piece link (label_at start) (label_end label start)) ≡ true

pub label-linked : (bytes label : List ℕ) (link : Option Link) (p q : Point) (es : List Event) →
    (is : IsFront bytes label link p q es) → LabelCovers bytes (Some label_link) label is.start
label-linked bytes label link p q es is =
    chunk-valid bytes n.Data (label_at is.start) (label_end label is.start) label
    (over-front bytes (label_at is.start) (label_end label is.start) label _ (label-text bytes label link p q es is)
    is.some refl) refl
    (one-last label is.some is.one_line true refl)

pub label-read : (bytes label : List ℕ) (link : Option Link) (p q : Point) (es : List Event) →
    (is : IsFront bytes label link p q es) → LabelCovers bytes None label is.start
label-read bytes label link p q es is =
    over-valid bytes n.Data (label_at is.start) (label_end label is.start) label
    (over-front bytes (label_at is.start) (label_end label is.start) label _ (label-text bytes label link p q es is)
    is.some refl) (begins-whole n.Data (label_at is.start) refl)
    (in-line label is.one_line)

pub label-is_valid : (bytes label : List ℕ) (link : Option Link) (start : Point) → LabelCovers bytes link label start →
    PiecesValid bytes (label_part link (label_at start) (label_end label start))
label-is_valid bytes label link start valid =
    let first : Point = label_at start in
    let end : Point = label_end label start in
    is_valid-around bytes n.GfmFootnoteDefinitionLabelString first end (data_at link first end) refl
    (record { ends = refl; are_valid = and_from (is_valid_piece bytes (label_piece link first end)) true valid refl })
