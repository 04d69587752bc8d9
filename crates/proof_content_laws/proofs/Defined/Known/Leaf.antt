-- What is known of a definition, by its form, and what it is read as.
use Rattle.std.proofs.Common.{◌≡◌, ℕ, true, List, [], refl}
use Rattle.std.specs.Prelude.{Some, None}
use Rattle.md_engine.specs.declared.event.Event.{Event}
use Rattle.md_engine.specs.declared.event.Name.TheVariants as n
use Rattle.md_engine.specs.declared.event.Point.{Point}
use Rattle.md_events.specs.Events.Grammar.{Expression, may_end}
use Rattle.md_events.specs.Events.Nested.{around}
use Rattle.md_events.specs.Events.Places.{same_place}
use Rattle.md_events.specs.Events.Spelled.{OfDefinition, fresh}
use Rattle.md_events.proofs.BlocksLemmas.{read-leaf}
use Rattle.md_events.proofs.EndingsLemmas.{Filling}
use Rattle.proof_content_laws.proofs.Defined.Form.{Form, IsForm, form_block, form_done, form_unread, inside_by}
use Rattle.proof_content_laws.proofs.Defined.Form.{strand_done, strand_unread, string_done, string_unread, target_text}
use Rattle.proof_content_laws.proofs.Defined.Known.Inside.{FormTexts, form-fills, form-inside, label_lines, title_lines}
use Rattle.proof_content_laws.proofs.Defined.Known.Left.{end-left, end_left, form_left, so_far}
use Rattle.proof_content_laws.proofs.Defined.Known.Marks.{white-lead, white_left}
use Rattle.proof_frame.proofs.LeafFacts.{LeafFacts}
use Rattle.proof_frame.proofs.LeafLines.Leaf.{facts-after_lead, leaf-around}
use Rattle.proof_frame.proofs.PartsFacts.{PartsFacts}
use Rattle.proof_frame.proofs.PlainFacts.{ArePlain}

-- All that the frame asks of a definition, by what is known of its texts, and that an outline shows it.
pub facts-by : (bytes : List ℕ) (x : Form) (g t : Point) → IsForm bytes x g t → FormTexts bytes x →
    ArePlain bytes (around n.Definition x.p x.last (inside_by (strand_done bytes) (string_done bytes) x)) →
    LeafFacts bytes (Some (form_block x)) true x.first x.last (form_unread x) (form_done bytes x)
facts-by bytes x g t is known plain =
    facts-after_lead (white-lead bytes x.first x.p is.indent)
    (leaf-around n.Definition OfDefinition (record { is = refl; leaf = refl; no_part = refl; block = refl }) (record {
      unread_starts = refl;
      starts = refl;
      stretch = h.stretch;
      unread_word = record { left = left; leads = h.unread_word; ends = ends };
      word = record { left = left; leads = h.word; ends = ends };
      unread_ending = fills.0 true;
      ending = fills.1 true;
      plain = λ whole. plain;
      reads = λ r text shut.
          read-leaf bytes r n.Definition OfDefinition x.p x.last done
          (so_far (label_lines x) (target_text x.target) (title_lines x)) refl shut
          (h.reads (record r { leaf = Some (fresh OfDefinition) }) text refl);
    }))
  where
    done : List Event
    done = inside_by (strand_done bytes) (string_done bytes) x

    left : Expression
    left = white_left (same_place x.e x.last) (end_left x.title)

    ends : may_end left ≡ true
    ends = end-left (same_place x.e x.last) x.title

    h :
        PartsFacts bytes x.p x.last form_left left (so_far [] [] None)
        (so_far (label_lines x) (target_text x.target) (title_lines x)) (inside_by strand_unread string_unread x) done
    h = form-inside bytes x g t is known

    fills : Filling (inside_by strand_unread string_unread x) × Filling done
    fills = form-fills bytes x g t is known
