-- What is known of all that is in a definition.
use Rattle.std.proofs.Common.{◌≡◌, ℕ, List, [], ◌++◌, refl, subst}
use Rattle.std.specs.Prelude.{Option, Some, None, option_map}
use Rattle.md_engine.specs.declared.event.Event.{Event}
use Rattle.md_engine.specs.declared.event.Name.TheVariants as n
use Rattle.md_engine.specs.declared.event.Point.{Point}
use Rattle.md_meaning.specs.Texts.{trim_further}
use Rattle.md_events.specs.Events.Grammar.{Expression, following}
use Rattle.md_events.specs.Events.Inline.{pair_unless_empty}
use Rattle.md_events.specs.Events.Nested.{around, pair}
use Rattle.md_events.specs.Events.Places.{same_place}
use Rattle.md_events.proofs.EndingsLemmas.{AreOthers, Filling, Stays, filling-append}
use Rattle.proof_frame.proofs.FilledAround.{filling-then}
use Rattle.proof_content_laws.proofs.Defined.Known.Enclosed.{white-others}
use Rattle.proof_content_laws.proofs.Defined.Form.{Form, Gap, IsForm, IsGap, IsTitle, IsTitled, Strand, Titled}
use Rattle.proof_content_laws.proofs.Defined.Form.{gap_events, inside_by, label_by, strand_done}
use Rattle.proof_content_laws.proofs.Defined.Form.{strand_lines, strand_unread, string_done, string_of, string_unread}
use Rattle.proof_content_laws.proofs.Defined.Form.{target_by, target_text, text_lines, title_by, titled_by}
use Rattle.proof_content_laws.proofs.Defined.Known.Gap.{gap-between, gap-parts}
use Rattle.proof_content_laws.proofs.Defined.Known.Label.{label-parts, label_last, label_text}
use Rattle.proof_content_laws.proofs.Defined.Known.Left.{following_gap, colon_left, end_left, form_left, so_far}
use Rattle.proof_content_laws.proofs.Defined.Known.Left.{target-gap, target-left, target_left, title-gap, title_left}
use Rattle.proof_content_laws.proofs.Defined.Known.Marks.{mark-following, mark-parts, white-back, white-parts}
use Rattle.proof_content_laws.proofs.Defined.Known.Marks.{white_left}
use Rattle.proof_frame.proofs.PartsFacts.{PartsFacts, parts-append}
use Rattle.proof_content_laws.proofs.Defined.Known.Target.{StringParts, target-fills, target-parts}
use Rattle.proof_content_laws.proofs.Defined.Known.Title.{TextParts, TitleParts, title-back, title-fills, title-parts}

-- the lines of its label, and of its title
abbrev pub label_lines : Form → List (List ℕ)
label_lines x = trim_further (strand_lines x.label)

abbrev pub title_lines : Form → Option (List (List ℕ))
title_lines x = option_map (λ (t : Titled). text_lines t.text) x.title

-- What is known of its texts.
pub record FormTexts (bytes : List ℕ) (x : Form) : Type 0 where
  pub label :
      PartsFacts bytes x.a x.b label_text label_last (so_far [] [] None) (so_far (label_lines x) [] None)
      (around n.DefinitionLabelString x.a x.b (strand_unread x.label))
      (around n.DefinitionLabelString x.a x.b (strand_done bytes x.label))
  pub target : StringParts bytes (label_lines x)
  pub title : TitleParts bytes (label_lines x) (target_text x.target) x.title

-- Up to the destination,
abbrev pub through_gap : (Strand → List Event) → Form → List Event
through_gap f x = label_by f x ++ pair n.DefinitionMarker x.c x.d ++ gap_events x.gap

gap-through : (bytes : List ℕ) (x : Form) (g t : Point) → IsForm bytes x g t → FormTexts bytes x →
    PartsFacts bytes x.p g form_left (following_gap target_left x.gap) (so_far [] [] None)
    (so_far (label_lines x) [] None) (through_gap strand_unread x) (through_gap (strand_done bytes) x)
gap-through bytes x g t is known =
    parts-append
    (parts-append
    (label-parts bytes x form_left (so_far [] [] None) (so_far (label_lines x) [] None) is.opens is.closes known.label)
    (mark-parts bytes n.DefinitionMarker 58 x.c x.d colon_left (so_far (label_lines x) [] None) is.colon tt refl
    (λ text. refl) refl) (λ begin end. mark-following bytes 93 x.b x.c is.closes refl))
    (gap-parts bytes x.d g target_left (following n.SpaceOrTab target_left) (following n.LineEnding target_left)
    (record { label = label_lines x; destination = []; title = None }) x.gap target-gap is.gap)
    (λ begin end. mark-following bytes 58 x.c x.d is.colon refl)

-- with it,
abbrev pub through_target : (Strand → List Event) → (Point → Point → List Event) → Form → List Event
through_target f string x = through_gap f x ++ target_by string x.target

target-through : (bytes : List ℕ) (x : Form) (g t : Point) → IsForm bytes x g t → FormTexts bytes x →
    PartsFacts bytes x.p t form_left title_left (so_far [] [] None) (so_far (label_lines x) (target_text x.target) None)
    (through_target strand_unread string_unread x) (through_target (strand_done bytes) (string_done bytes) x)
target-through bytes x g t is known =
    parts-append (gap-through bytes x g t is known)
    (subst
    (λ (z : Expression).
    PartsFacts bytes g t (following_gap target_left x.gap) z (so_far (label_lines x) [] None)
    (so_far (label_lines x) (target_text x.target) None) (target_by string_unread x.target)
    (target_by (string_done bytes) x.target)) (target-left x.gap)
    (target-parts bytes g t (following_gap target_left x.gap) (label_lines x) x.target known.target is.target))
    (λ begin end. gap-between bytes x.d g x.gap is.gap (mark-following bytes 58 x.c x.d is.colon refl))

-- and with the title.
title-through : (bytes : List ℕ) (x : Form) (g t : Point) → IsForm bytes x g t → FormTexts bytes x →
    PartsFacts bytes x.p x.e form_left (end_left x.title) (so_far [] [] None)
    (so_far (label_lines x) (target_text x.target) (title_lines x))
    (through_target strand_unread string_unread x ++ title_by strand_unread x.title)
    (through_target (strand_done bytes) (string_done bytes) x ++ title_by (strand_done bytes) x.title)
title-through bytes x g t is known =
    parts-append (target-through bytes x g t is known)
    (title-parts bytes t x.e (label_lines x) (target_text x.target) x.title is.title known.title)
    (λ begin end. title-back bytes t x.e x.title is.title end)

-- All of it.
pub form-inside : (bytes : List ℕ) (x : Form) (g t : Point) → IsForm bytes x g t → FormTexts bytes x →
    PartsFacts bytes x.p x.last form_left (white_left (same_place x.e x.last) (end_left x.title)) (so_far [] [] None)
    (so_far (label_lines x) (target_text x.target) (title_lines x)) (inside_by strand_unread string_unread x)
    (inside_by (strand_done bytes) (string_done bytes) x)
form-inside bytes x g t is known =
    parts-append (title-through bytes x g t is known)
    (white-parts bytes x.e x.last (end_left x.title) (so_far (label_lines x) (target_text x.target) (title_lines x))
    is.white) (λ begin end. white-back bytes x.e x.last is.white end)

-- It fills the line on which it ends.

-- a title does, or what is before none
title-last : (f : Strand → List Event) (front target : List Event) (title : Option Titled) → Stays front →
    Filling target → Stays (front ++ target) → ((t : Titled) → title ≡ Some t → Filling (titled_by f t)) →
    Filling (front ++ target ++ title_by f title)
title-last f front target None h fills both last =
    filling-then (front ++ target) [] (filling-append front target h fills) refl
title-last f front target (Some t) h fills both last =
    filling-append (front ++ target) (titled_by f t) both (last t refl)

gap-stays : (bytes : List ℕ) (p q : Point) (g : Gap) → IsGap bytes p q g → Stays (gap_events g)
gap-stays bytes p q g is =
    (gap-parts bytes p q title_left (following n.SpaceOrTab title_left) (following n.LineEnding title_left)
    (record { label = []; destination = []; title = None }) g title-gap is).stays

string-stays : (bytes : List ℕ) (label : List (List ℕ)) (target : List ℕ) (a b : Point) (text : Option Strand) →
    TextParts bytes label target a b text →
    Stays (string_of strand_unread a b text) × Stays (string_of (strand_done bytes) a b text)
string-stays bytes label target a b None known = (λ from. (from, λ ys. refl), λ from. (from, λ ys. refl))
string-stays bytes label target a b (Some s) known = (known.unread_stays, known.stays)

titled-fills : (bytes : List ℕ) (label : List (List ℕ)) (target : List ℕ) (p q : Point) (t : Titled) →
    IsTitled bytes p q t → TextParts bytes label target t.a t.b t.text →
    Filling (titled_by strand_unread t) × Filling (titled_by (strand_done bytes) t)
titled-fills bytes label target p q t is known =
    let gap : Stays (gap_events t.gap) = gap-stays bytes p t.p t.gap is.gap in
    let both : Stays (string_of strand_unread t.a t.b t.text) ×
    Stays (string_of (strand_done bytes) t.a t.b t.text) = string-stays bytes label target t.a t.b t.text known in (
      title-fills (gap_events t.gap) (string_of strand_unread t.a t.b t.text) t.p t.a t.b t.q gap both.0,
      title-fills (gap_events t.gap) (string_of (strand_done bytes) t.a t.b t.text) t.p t.a t.b t.q gap both.1,
    )

title-filled : (bytes : List ℕ) (label : List (List ℕ)) (target : List ℕ) (p q : Point) (title : Option Titled) →
    IsTitle bytes p q title → TitleParts bytes label target title → (t : Titled) → title ≡ Some t →
    Filling (titled_by strand_unread t) × Filling (titled_by (strand_done bytes) t)
title-filled bytes label target p q None is known t e = cc
title-filled bytes label target p q (Some u) is known t e =
    let same : u ≡ t = cc in
    subst (λ (v : Titled). Filling (titled_by strand_unread v) × Filling (titled_by (strand_done bytes) v)) same
    (titled-fills bytes label target p q u is known)

pub form-fills : (bytes : List ℕ) (x : Form) (g t : Point) → IsForm bytes x g t → FormTexts bytes x →
    Filling (inside_by strand_unread string_unread x) × Filling (inside_by (strand_done bytes) (string_done bytes) x)
form-fills bytes x g t is known = (
  filling-then (through_target strand_unread string_unread x ++ title_by strand_unread x.title) white
      (title-last strand_unread (through_gap strand_unread x) (target_by string_unread x.target) x.title
      gap.unread_stays fills.0 target.unread_stays (λ u e. (filled u e).0)) others,
  filling-then
      (through_target (strand_done bytes) (string_done bytes) x ++ title_by (strand_done bytes) x.title) white
      (title-last (strand_done bytes) (through_gap (strand_done bytes) x) (target_by (string_done bytes) x.target)
      x.title gap.stays fills.1 target.stays (λ u e. (filled u e).1)) others,
)
  where
    white : List Event
    white = pair_unless_empty n.SpaceOrTab x.e x.last

    others : AreOthers white
    others = white-others x.e x.last

    gap :
        PartsFacts bytes x.p g form_left (following_gap target_left x.gap) (so_far [] [] None)
        (so_far (label_lines x) [] None) (through_gap strand_unread x) (through_gap (strand_done bytes) x)
    gap = gap-through bytes x g t is known

    target :
        PartsFacts bytes x.p t form_left title_left (so_far [] [] None)
        (so_far (label_lines x) (target_text x.target) None) (through_target strand_unread string_unread x)
        (through_target (strand_done bytes) (string_done bytes) x)
    target = target-through bytes x g t is known

    fills : Filling (target_by string_unread x.target) × Filling (target_by (string_done bytes) x.target)
    fills = target-fills bytes g t x.target is.target

    filled : (u : Titled) → x.title ≡ Some u →
        Filling (titled_by strand_unread u) × Filling (titled_by (strand_done bytes) u)
    filled = title-filled bytes (label_lines x) (target_text x.target) t x.e x.title is.title known.title
