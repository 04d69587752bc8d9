-- The texts of a definition as parts of it, by what is known of each.
use Rattle.std.proofs.Common.{◌≡◌, ◌≢◌, ℕ, List, [], ◌∷◌}
use Rattle.std.specs.Prelude.{None, Option, Some}
use Rattle.md_engine.specs.declared.event.Name.TheVariants as n
use Rattle.md_engine.specs.declared.event.Point.{Point}
use Rattle.md_events.specs.Events.Inline.{plain_chunk}
use Rattle.md_events.specs.Events.Nested.{enter_link, exit}
use Rattle.md_events.specs.Events.Spelled.{AsDestination, AsLabel, AsTitle}
use Rattle.md_link_definitions.specs.Chunks.{string_link}
use Rattle.proof_content_laws.proofs.Defined.Form.{Form, IsRun, Strand, Titled, strand_done}
use Rattle.proof_content_laws.proofs.Defined.Form.{strand_lines, strand_unread, target_text}
use Rattle.proof_content_laws.proofs.Defined.Known.Inside.{FormTexts, label_lines}
use Rattle.proof_content_laws.proofs.Defined.Known.Label.{label_text}
use Rattle.proof_content_laws.proofs.Defined.Strings.Facts.{StringFacts, label_recorded, target_recorded}
use Rattle.proof_content_laws.proofs.Defined.Strings.Facts.{title_recorded}
use Rattle.proof_content_laws.proofs.Defined.Known.Title.{TextParts, TitleParts, title_text}

-- What is known of the texts of a definition: of its label, of any destination, and of its title, if it has one.

abbrev pub LabelString : List ℕ → Form → Type 0
LabelString bytes x =
    StringFacts bytes n.DefinitionLabelString AsLabel x.a x.b (label_recorded (strand_lines x.label))
    (strand_unread x.label) (strand_done bytes x.label)

abbrev pub TargetString : List ℕ → Type 0
TargetString bytes =
    (p q : Point) (text : List ℕ) → p.vs ≡ 0 → text ≢ [] → IsRun bytes text p q →
    StringFacts bytes n.DefinitionDestinationString AsDestination p q (target_recorded text)
    (enter_link n.Data p string_link ∷ exit n.Data q ∷ []) (plain_chunk bytes (record { first = p; after = q }))

abbrev pub TextString : List ℕ → Point → Point → Option Strand → Type 0
TextString bytes a b None = Unit {0}
TextString bytes a b (Some s) =
    StringFacts bytes n.DefinitionTitleString AsTitle a b (title_recorded (strand_lines s)) (strand_unread s)
    (strand_done bytes s)

abbrev pub TitleString : List ℕ → Option Titled → Type 0
TitleString bytes None = Unit {0}
TitleString bytes (Some t) = TextString bytes t.a t.b t.text

pub record FormStrings (bytes : List ℕ) (x : Form) : Type 0 where
  pub label : LabelString bytes x
  pub target : TargetString bytes
  pub title : TitleString bytes x.title

-- by which they are parts of it
title-known : (bytes : List ℕ) (label : List (List ℕ)) (target : List ℕ) (title : Option Titled) →
    TitleString bytes title → TitleParts bytes label target title
title-known bytes label target None h = tt
title-known bytes label target (Some t) h = go t.text h
  where
    go : (text : Option Strand) → TextString bytes t.a t.b text → TextParts bytes label target t.a t.b text
    go None h = tt
    go (Some s) h =
        h.facts title_text (record { label = label; destination = target; title = Some [] })

pub form-texts : (bytes : List ℕ) (x : Form) → FormStrings bytes x → FormTexts bytes x
form-texts bytes x h = record {
  label = h.label.facts label_text (record { label = []; destination = []; title = None });
  target = λ a b text y whole some run.
      (h.target a b text whole some run).facts y (record { label = label_lines x; destination = []; title = None });
  title = title-known bytes (label_lines x) (target_text x.target) x.title h.title;
}
