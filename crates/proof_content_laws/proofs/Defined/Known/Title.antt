-- What is known of the title of a definition, with the gap before it.
use Rattle.std.proofs.Common.{◌≡◌, ℕ, Bool, true, false, cond, ◌||◌, List, [], ◌∷◌, ◌++◌, refl, sym, ap, ◌∙◌}
use Rattle.std.proofs.Common.{subst, subst₂}
use Rattle.std.specs.Prelude.{◌==◌, Option, Some, None, option_map}
use Rattle.std.proofs.lemmas.Bool.{eqb-true}
use Rattle.md_engine.specs.declared.event.Event.{Event}
use Rattle.md_engine.specs.declared.event.Name.TheVariants as n
use Rattle.md_engine.specs.declared.event.Point.{Point}
use Rattle.md_meaning.specs.Definition.{title_closer}
use Rattle.md_meaning.specs.Texts.{trim_further}
use Rattle.md_outline.specs.Between.{is_between}
use Rattle.md_events.specs.Events.Grammar.{Expression, Nothing, following, inside, plain_text}
use Rattle.md_events.specs.Events.Nested.{around, exit, pair}
use Rattle.md_events.specs.Events.Spelled.{OpenLeaf, at_title, first_recorded, read}
use Rattle.md_events.proofs.EndingsLemmas.{Filling, Stays, filling-append, stays-append, stays-others}
use Rattle.md_events.proofs.SpelledLemmas.{read-from}
use Rattle.proof_frame.proofs.FilledAround.{around-fills}
use Rattle.proof_content_laws.proofs.Defined.Known.Enclosed.{IsMarkByte, IsMarkName, parts-enclosed}
use Rattle.proof_content_laws.proofs.Defined.Form.{IsText, IsTitle, IsTitled, LastLine, NoLine, OneLine, Strand}
use Rattle.proof_content_laws.proofs.Defined.Form.{Titled, strand_done, strand_lines, strand_unread, string_of}
use Rattle.proof_content_laws.proofs.Defined.Form.{text_lines, title_by, titled_by}
use Rattle.proof_content_laws.proofs.Defined.Known.Gap.{gap-back, gap-parts}
use Rattle.proof_content_laws.proofs.Defined.Known.Left.{following_gap, end_left, last_left, so_far, title-gap}
use Rattle.proof_content_laws.proofs.Defined.Known.Left.{title-left, title_left}
use Rattle.proof_content_laws.proofs.Defined.Known.Marks.{mark-before}
use Rattle.proof_frame.proofs.PartsFacts.{IsPartName, PartsFacts, parts-around, parts-append, parts-none, ReadsLeaf}

-- Its marks.

title-name : IsPartName n.DefinitionTitle (inside plain_text n.DefinitionTitle)
title-name = record {
  no_part = refl;
  part = tt;
  still = tt;
  begins = λ text. refl;
  enters = λ p. refl;
  exits = λ p. refl;
}

title-mark : IsMarkName n.DefinitionTitleMarker
title-mark = record { quiet = tt; others = λ p q. refl; ends = λ text. refl }

-- a byte that opens a title is one, and so is the one that closes it
pub title-marks : (b c : ℕ) → title_closer b ≡ Some c →
    IsMarkByte n.DefinitionTitleMarker b × IsMarkByte n.DefinitionTitleMarker c
title-marks b c h = go (b == 34) refl (b == 39) refl (b == 40) refl h
  where
    Both : ℕ → ℕ → Type 0
    Both x y = IsMarkByte n.DefinitionTitleMarker x × IsMarkByte n.DefinitionTitleMarker y

    one : (x : ℕ) → IsMarkByte n.DefinitionTitleMarker x → b ≡ x → Some b ≡ Some c → Both b c
    one x mark is same =
        let closes : c ≡ x = cc in
        subst₂ Both (sym is) (sym closes) (mark, mark)

    go : (x : Bool) → (b == 34) ≡ x → (y : Bool) → (b == 39) ≡ y → (z : Bool) → (b == 40) ≡ z →
        cond (x || y) (Some b) (cond z (Some 41) None) ≡ Some c → Both b c
    go true e y f z g same = one 34 (record { over = refl; low = refl }) (eqb-true b 34 e) same
    go false e true f z g same = one 39 (record { over = refl; low = refl }) (eqb-true b 39 f) same
    go false e false f true g same =
        let closes : c ≡ 41 = cc in
        subst₂ Both (sym (eqb-true b 40 g)) (sym closes)
        (record { over = refl; low = refl }, record { over = refl; low = refl })
    go false e false f false g same = cc

-- As it is read.

-- a title without a text is one empty line
title-reads : (bytes : List ℕ) (label lines : List (List ℕ)) (target : List ℕ) (p q : Point) (es : List Event) →
    ReadsLeaf bytes (so_far label target (Some [])) (so_far label target (Some lines)) es →
    ReadsLeaf bytes (so_far label target None) (so_far label target (Some (first_recorded lines ([] ∷ []))))
    (around n.DefinitionTitle p q es)
title-reads bytes label lines target p q es h s text is_open =
    ap
    (λ (o : Option OpenLeaf).
    read bytes (record s { leaf = option_map at_title o }) (es ++ exit n.DefinitionTitle q ∷ [])) is_open
    ∙ read-from bytes (record s { leaf = Some (so_far label target (Some [])) })
    (record s { leaf = Some (so_far label target (Some lines)) }) es (exit n.DefinitionTitle q ∷ [])
    (h (record s { leaf = Some (so_far label target (Some [])) }) text refl)

-- Its text.

-- what is left after its first mark
abbrev pub title_text : Expression
title_text = following n.DefinitionTitleMarker (inside plain_text n.DefinitionTitle)

-- what is known of it, if there is one
abbrev pub TextParts : List ℕ → List (List ℕ) → List ℕ → Point → Point → Option Strand → Type 0
TextParts bytes label target a b None = Unit {0}
TextParts bytes label target a b (Some s) =
    PartsFacts bytes a b title_text (following n.DefinitionTitleString title_text) (so_far label target (Some []))
    (so_far label target (Some (trim_further (strand_lines s))))
    (around n.DefinitionTitleString a b (strand_unread s)) (around n.DefinitionTitleString a b (strand_done bytes s))

-- a text has a line
text-recorded : (s : Strand) →
    first_recorded (trim_further (strand_lines s)) ([] ∷ []) ≡ trim_further (strand_lines s)
text-recorded NoLine = refl
text-recorded (LastLine p q text) = refl
text-recorded (OneLine p e q r text front s) = refl

abbrev marked : (Strand → List Event) → Titled → List Event
marked f t =
    pair n.DefinitionTitleMarker t.p t.a ++ string_of f t.a t.b t.text ++ pair n.DefinitionTitleMarker t.b t.q

-- between its marks
marked-parts : (bytes : List ℕ) (p q : Point) (label : List (List ℕ)) (target : List ℕ) (t : Titled) →
    IsTitled bytes p q t → TextParts bytes label target t.a t.b t.text →
    (lines : List (List ℕ)) × (recorded : first_recorded lines ([] ∷ []) ≡ text_lines t.text)
    × PartsFacts bytes t.p t.q (inside plain_text n.DefinitionTitle) Nothing (so_far label target (Some []))
    (so_far label target (Some lines)) (marked strand_unread t) (marked (strand_done bytes) t)
marked-parts bytes p q label target t is known = go t.text known is.inside
  where
    marks : IsMarkByte n.DefinitionTitleMarker t.opener × IsMarkByte n.DefinitionTitleMarker t.closer
    marks = title-marks t.opener t.closer is.closer_is

    go : (text : Option Strand) → TextParts bytes label target t.a t.b text → IsText bytes t.a t.b text →
        (lines : List (List ℕ)) × (recorded : first_recorded lines ([] ∷ []) ≡ text_lines text)
        × PartsFacts bytes t.p t.q (inside plain_text n.DefinitionTitle) Nothing (so_far label target (Some []))
        (so_far label target (Some lines)) (marked strand_unread (record t { text = text }))
        (marked (strand_done bytes) (record t { text = text }))
    go None known none = (
      [],
      refl,
      parts-enclosed bytes n.DefinitionTitleMarker t.opener t.closer t.p t.a t.b t.q
          (inside plain_text n.DefinitionTitle) title_text (so_far label target (Some []))
          (so_far label target (Some [])) [] [] title-mark marks.0 marks.1 is.opens is.closes
          (subst
          (λ (e : Point).
          PartsFacts bytes t.a e title_text title_text (so_far label target (Some [])) (so_far label target (Some []))
          [] []) none (parts-none bytes t.a title_text (so_far label target (Some [])))),
    )
    go (Some s) known some = (
      trim_further (strand_lines s),
      text-recorded s,
      parts-enclosed bytes n.DefinitionTitleMarker t.opener t.closer t.p t.a t.b t.q
          (inside plain_text n.DefinitionTitle) (following n.DefinitionTitleString title_text)
          (so_far label target (Some [])) (so_far label target (Some (trim_further (strand_lines s))))
          (around n.DefinitionTitleString t.a t.b (strand_unread s))
          (around n.DefinitionTitleString t.a t.b (strand_done bytes s)) title-mark marks.0 marks.1 is.opens is.closes
          known,
    )

-- With its gap.

titled-parts : (bytes : List ℕ) (p q : Point) (label : List (List ℕ)) (target : List ℕ) (t : Titled) →
    IsTitled bytes p q t → TextParts bytes label target t.a t.b t.text →
    PartsFacts bytes p q title_left last_left (so_far label target None)
    (so_far label target (Some (text_lines t.text))) (titled_by strand_unread t) (titled_by (strand_done bytes) t)
titled-parts bytes p q label target t is known =
    subst
    (λ (e : Point).
    PartsFacts bytes p e title_left last_left (so_far label target None)
    (so_far label target (Some (text_lines t.text))) (titled_by strand_unread t) (titled_by (strand_done bytes) t))
    is.last
    (parts-append
    (gap-parts bytes p t.p title_left (following n.SpaceOrTab title_left) (following n.LineEnding title_left)
    (record { label = label; destination = target; title = None }) t.gap title-gap is.gap)
    (subst
    (λ (z : Expression).
    PartsFacts bytes t.p t.q (following_gap title_left t.gap) z (so_far label target None)
    (so_far label target (Some (text_lines t.text))) (around n.DefinitionTitle t.p t.q (marked strand_unread t))
    (around n.DefinitionTitle t.p t.q (marked (strand_done bytes) t))) (title-left t.gap)
    (parts-around bytes n.DefinitionTitle t.p t.q (following_gap title_left t.gap) (inside plain_text n.DefinitionTitle)
    Nothing (so_far label target (Some [])) (so_far label target (Some h.0)) (so_far label target None)
    (so_far label target (Some (text_lines t.text))) (marked strand_unread t) (marked (strand_done bytes) t) title-name
    refl refl refl h.2
    (subst
    (λ (l : List (List ℕ)).
    ReadsLeaf bytes (so_far label target None) (so_far label target (Some l))
    (around n.DefinitionTitle t.p t.q (marked (strand_done bytes) t))) h.1
    (title-reads bytes label h.0 target t.p t.q (marked (strand_done bytes) t) h.2.reads))))
    (λ begin end. mark-before bytes t.opener t.p t.a is.opens marks.0.low))
  where
    marks : IsMarkByte n.DefinitionTitleMarker t.opener × IsMarkByte n.DefinitionTitleMarker t.closer
    marks = title-marks t.opener t.closer is.closer_is

    h :
        (lines : List (List ℕ)) × (recorded : first_recorded lines ([] ∷ []) ≡ text_lines t.text)
        × PartsFacts bytes t.p t.q (inside plain_text n.DefinitionTitle) Nothing (so_far label target (Some []))
        (so_far label target (Some lines)) (marked strand_unread t) (marked (strand_done bytes) t)
    h = marked-parts bytes p q label target t is known

-- what is known of the text of a title, if there is one
abbrev pub TitleParts : List ℕ → List (List ℕ) → List ℕ → Option Titled → Type 0
TitleParts bytes label target None = Unit {0}
TitleParts bytes label target (Some t) = TextParts bytes label target t.a t.b t.text

-- A title, or none.
pub title-parts : (bytes : List ℕ) (p q : Point) (label : List (List ℕ)) (target : List ℕ) (title : Option Titled) →
    IsTitle bytes p q title → TitleParts bytes label target title →
    PartsFacts bytes p q title_left (end_left title) (so_far label target None)
    (so_far label target (option_map (λ (t : Titled). text_lines t.text) title)) (title_by strand_unread title)
    (title_by (strand_done bytes) title)
title-parts bytes p q label target None is known =
    subst
    (λ (e : Point).
    PartsFacts bytes p e title_left title_left (so_far label target None) (so_far label target None) [] []) is
    (parts-none bytes p title_left (so_far label target None))
title-parts bytes p q label target (Some t) is known = titled-parts bytes p q label target t is known

-- Where it begins is between characters, if where it ends is.
pub title-back : (bytes : List ℕ) (p q : Point) (title : Option Titled) → IsTitle bytes p q title →
    is_between bytes q.index ≡ true → is_between bytes p.index ≡ true
title-back bytes p q None is h = subst (λ (e : Point). is_between bytes e.index ≡ true) (sym is) h
title-back bytes p q (Some t) is h =
    gap-back bytes p t.p t.gap is.gap
    (mark-before bytes t.opener t.p t.a is.opens (title-marks t.opener t.closer is.closer_is).0.low)

-- A title fills the line on which it ends.
pub title-fills : (gap es : List Event) (p a b q : Point) → Stays gap → Stays es →
    Filling
    (gap
    ++ around n.DefinitionTitle p q (pair n.DefinitionTitleMarker p a ++ es ++ pair n.DefinitionTitleMarker b q))
title-fills gap es p a b q g h =
    filling-append gap
    (around n.DefinitionTitle p q (pair n.DefinitionTitleMarker p a ++ es ++ pair n.DefinitionTitleMarker b q)) g
    (around-fills n.DefinitionTitle p q (pair n.DefinitionTitleMarker p a ++ es ++ pair n.DefinitionTitleMarker b q)
    refl refl
    (filling-append (pair n.DefinitionTitleMarker p a ++ es) (pair n.DefinitionTitleMarker b q)
    (stays-append (pair n.DefinitionTitleMarker p a) es (stays-others (pair n.DefinitionTitleMarker p a) refl) h)
    (λ from ys. refl)))
