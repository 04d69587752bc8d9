-- The label of a definition among its events.
use Rattle.std.proofs.Common.{◌≡◌, ℕ, Bool, true, false, cond, List, [], ◌∷◌, ◌++◌, refl, ap, ap₂, ◌∙◌, append_assoc}
use Rattle.std.specs.Prelude.{Option, Some, None, not}
use Rattle.std.proofs.lemmas.Bool.{and_from}
use Rattle.md_engine.specs.declared.event.Event.{Event}
use Rattle.md_engine.specs.declared.event.Name.TheVariants as n
use Rattle.md_engine.specs.declared.event.Point.{Point}
use Rattle.md_content.specs.Labels.{is_label, labels_in}
use Rattle.md_content.proofs.LabelsLemmas.{has_no_label, labels-skip}
use Rattle.md_events.specs.Events.Inline.{pair_unless_empty}
use Rattle.md_events.specs.Events.Nested.{around, enter, exit, pair}
use Rattle.md_events.specs.Events.Places.{same_place}
use Rattle.md_events.proofs.PlacesLemmas.{all-append}
use Rattle.md_engine.specs.declared.event.Name.{Name}
use Rattle.proof_content_laws.proofs.Defined.Form.{Form, Gap, IsForm, IsGap, IsStrand, IsText, IsTitle, LastLine}
use Rattle.proof_content_laws.proofs.Defined.Form.{Literal, NoLine, OnLine, OneLine, OverLine, Raw, Strand, Target}
use Rattle.proof_content_laws.proofs.Defined.Form.{Titled, form_block, form_unread, gap_events, strand_unread}
use Rattle.proof_content_laws.proofs.Defined.Form.{string_of, string_unread, target_by, title_by, unless_empty}
use Rattle.proof_frame.proofs.FrontFacts.{LinePrefix}
use Rattle.proof_frame.proofs.FrontNames.{fronts-prefixes}
use Rattle.proof_content_laws.proofs.Labels.Text.{label-normal, prefix-label}
use Rattle.proof_content_laws.proofs.Labels.Trees.{defined_by}
use Rattle.proof_frame.proofs.PrefixNames.{ArePrefixes}

-- Events that are no label.

both : (xs ys : List Event) → has_no_label xs ≡ true → has_no_label ys ≡ true → has_no_label (xs ++ ys) ≡ true
both xs ys h k = all-append (λ (e : Event). not (is_label e.name)) xs ys h k

around-none : (name : Name) (p q : Point) (es : List Event) → is_label name ≡ false → has_no_label es ≡ true →
    has_no_label (around name p q es) ≡ true
around-none name p q es is h =
    and_from _ _ (ap not is) (both es (exit name q ∷ []) h (and_from _ _ (ap not is) refl))

prefixes-none : (es : List Event) → ArePrefixes es → has_no_label es ≡ true
prefixes-none [] h = refl
prefixes-none (e ∷ es) h = and_from _ _ (ap not (prefix-label e.name h.0.0).0) (prefixes-none es h.1)

pub front-none : (bytes : List ℕ) (p q : Point) (front : List Event) → LinePrefix bytes [] p q front →
    has_no_label front ≡ true
front-none bytes p q front is = prefixes-none front (fronts-prefixes bytes [] p q front refl is)

white-none : (p q : Point) → has_no_label (pair_unless_empty n.SpaceOrTab p q) ≡ true
white-none p q = go (same_place p q)
  where
    go : (x : Bool) → has_no_label (cond x [] (pair n.SpaceOrTab p q)) ≡ true
    go true = refl
    go false = refl

strand-none : (bytes : List ℕ) (p q : Point) (s : Strand) → IsStrand bytes p q s → has_no_label (strand_unread s) ≡ true
strand-none bytes p q NoLine is = refl
strand-none bytes p q (LastLine a b text) is = refl
strand-none bytes p q (OneLine a e b r text front NoLine) is =
    both front [] (front-none bytes b r front is.2.front_is) refl
strand-none bytes p q (OneLine a e b r text front (LastLine c d last)) is =
    both front (strand_unread (LastLine c d last)) (front-none bytes b r front is.2.front_is)
    (strand-none bytes r q (LastLine c d last) is.4)
strand-none bytes p q (OneLine a e b r text front (OneLine c d f g next prefix s)) is =
    both front (strand_unread (OneLine c d f g next prefix s)) (front-none bytes b r front is.2.front_is)
    (strand-none bytes r q (OneLine c d f g next prefix s) is.4)

gap-none : (bytes : List ℕ) (p q : Point) (g : Gap) → IsGap bytes p q g → has_no_label (gap_events g) ≡ true
gap-none bytes p q (OnLine a b) is = white-none a b
gap-none bytes p q (OverLine a e b r s front) is =
    both ((pair_unless_empty n.SpaceOrTab a e ++ pair n.LineEnding e b) ++ front) (pair_unless_empty n.SpaceOrTab r s)
    (both (pair_unless_empty n.SpaceOrTab a e ++ pair n.LineEnding e b) front
    (both (pair_unless_empty n.SpaceOrTab a e) (pair n.LineEnding e b) (white-none a e) refl)
    (front-none bytes b r front is.2.front_is)) (white-none r s)

string-none : (text : List ℕ) (a b : Point) → has_no_label (unless_empty text (string_unread a b)) ≡ true
string-none [] a b = refl
string-none (c ∷ cs) a b = refl

target-none : (t : Target) → has_no_label (target_by string_unread t) ≡ true
target-none (Raw p q text) = refl
target-none (Literal p a b q text) =
    let inside : List Event =
    pair n.DefinitionDestinationLiteralMarker p a ++ unless_empty text (string_unread a b)
    ++ pair n.DefinitionDestinationLiteralMarker b q in
    around-none n.DefinitionDestination p q (around n.DefinitionDestinationLiteral p q inside) refl
    (around-none n.DefinitionDestinationLiteral p q inside refl
    (both (pair n.DefinitionDestinationLiteralMarker p a ++ unless_empty text (string_unread a b))
    (pair n.DefinitionDestinationLiteralMarker b q)
    (both (pair n.DefinitionDestinationLiteralMarker p a) (unless_empty text (string_unread a b)) refl
    (string-none text a b)) refl))

string_of-none : (bytes : List ℕ) (p q : Point) (o : Option Strand) → IsText bytes p q o →
    has_no_label (string_of strand_unread p q o) ≡ true
string_of-none bytes p q None is = refl
string_of-none bytes p q (Some s) is =
    around-none n.DefinitionTitleString p q (strand_unread s) refl (strand-none bytes p q s is)

title-none : (bytes : List ℕ) (p q : Point) (o : Option Titled) → IsTitle bytes p q o →
    has_no_label (title_by strand_unread o) ≡ true
title-none bytes p q None is = refl
title-none bytes p q (Some t) is =
    let text : List Event = string_of strand_unread t.a t.b t.text in
    let inside : List Event =
    pair n.DefinitionTitleMarker t.p t.a ++ text ++ pair n.DefinitionTitleMarker t.b t.q in
    both (gap_events t.gap) (around n.DefinitionTitle t.p t.q inside) (gap-none bytes p t.p t.gap is.gap)
    (around-none n.DefinitionTitle t.p t.q inside refl
    (both (pair n.DefinitionTitleMarker t.p t.a ++ text) (pair n.DefinitionTitleMarker t.b t.q)
    (both (pair n.DefinitionTitleMarker t.p t.a) text refl (string_of-none bytes t.a t.b t.text is.inside)) refl))

-- A definition has one label, and it is that of its block.

white-skipped : (bytes : List ℕ) (p q : Point) (es : List Event) →
    labels_in bytes (pair_unless_empty n.SpaceOrTab p q ++ es) ≡ labels_in bytes es
white-skipped bytes p q es = labels-skip bytes (pair_unless_empty n.SpaceOrTab p q) es (white-none p q)

-- what follows the label's text in a definition
abbrev after_text : Form → List Event
after_text x =
    (pair n.DefinitionMarker x.c x.d ++ gap_events x.gap ++ target_by string_unread x.target
    ++ title_by strand_unread x.title)
    ++ pair_unless_empty n.SpaceOrTab x.e x.last ++ exit n.Definition x.last ∷ []

following-none : (bytes : List ℕ) (x : Form) (a b : Point) → IsForm bytes x a b → has_no_label (after_text x) ≡ true
following-none bytes x a b is =
    let mark : List Event = pair n.DefinitionMarker x.c x.d in
    let gap : List Event = gap_events x.gap in
    let target : List Event = target_by string_unread x.target in
    let title : List Event = title_by strand_unread x.title in
    let white : List Event = pair_unless_empty n.SpaceOrTab x.e x.last in
    both ((mark ++ gap ++ target ++ title) ++ white) (exit n.Definition x.last ∷ [])
    (both (mark ++ gap ++ target ++ title) white
    (both (mark ++ gap ++ target) title
    (both (mark ++ gap) target (both mark gap refl (gap-none bytes x.d a x.gap is.gap)) (target-none x.target))
    (title-none bytes b x.e x.title is.title)) (white-none x.e x.last))
    refl

pub form-label : (bytes : List ℕ) (x : Form) (a b : Point) → IsForm bytes x a b → (more : List Event) →
    labels_in bytes (form_unread x ++ more) ≡ defined_by (form_block x) ++ labels_in bytes more
form-label bytes x a b is more =
    ap (labels_in bytes) apart
    ∙ white-skipped bytes x.first x.p (begin ++ (enter n.DefinitionLabelString x.a ∷ (text ++ rest)))
    ∙ ap₂ (λ (l : List ℕ) (ls : List (List ℕ)). l ∷ ls)
    (label-normal bytes x.a x.b x.label is.label x.b (closes ++ (after_text x ++ more)))
    (labels-skip bytes text rest (strand-none bytes x.a x.b x.label is.label)
    ∙ labels-skip bytes (after_text x) more (following-none bytes x a b is))
  where
    text : List Event
    text = strand_unread x.label

    begin : List Event
    begin = enter n.Definition x.p ∷ enter n.DefinitionLabel x.p ∷ pair n.DefinitionLabelMarker x.p x.a

    closes : List Event
    closes = pair n.DefinitionLabelMarker x.b x.c ++ exit n.DefinitionLabel x.c ∷ []

    rest : List Event
    rest = exit n.DefinitionLabelString x.b ∷ (closes ++ (after_text x ++ more))

    apart : form_unread x ++ more ≡
        pair_unless_empty n.SpaceOrTab x.first x.p
        ++ (begin ++ (enter n.DefinitionLabelString x.a ∷ (text ++ rest)))
    apart = simp append_assoc
