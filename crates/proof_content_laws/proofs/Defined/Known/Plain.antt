-- A definition as an outline can show it: its parts are in their order, and its names are known.
use Rattle.std.proofs.Common.{◌≡◌, ◌≢◌, ℕ, Bool, true, false, cond, List, [], ◌∷◌, ◌++◌, refl, sym, subst, subst₂}
use Rattle.std.specs.Prelude.{None, Option, Some}
use Rattle.md_engine.specs.declared.event.Event.{Event}
use Rattle.md_engine.specs.declared.event.Name.{Name}
use Rattle.md_engine.specs.declared.event.Name.TheVariants as n
use Rattle.md_engine.specs.declared.event.Point.{Point}
use Rattle.md_outline.specs.LinesAllowed.{AtLabel, AtTitleText, AfterPart, AfterTitleText, DestinationLeft, LabelPart}
use Rattle.md_outline.specs.LinesAllowed.{Left, MayHaveTitle, NoneLeft, Site, TitleLeft, TitlePart}
use Rattle.md_outline.proofs.DefinedPass.{passes-between, passes-definition, passes-destination, passes-titled}
use Rattle.md_outline.proofs.DefinedPass.{passes-untitled}
use Rattle.md_events.specs.Events.Inline.{pair_unless_empty, plain_chunk}
use Rattle.md_events.specs.Events.Nested.{around, enter, exit, pair}
use Rattle.md_events.specs.Events.Places.{same_place}
use Rattle.md_events.specs.Events.Spelled.{IsEnding, IsPrefix, IsQuiet, IsQuoteMarker, Role, role}
use Rattle.md_events.proofs.SpelledLemmas.{Between, Quiet, Roles, roles-append}
use Rattle.proof_content_laws.proofs.Defined.Form.{Form, Gap, IsForm, IsGap, IsRun, IsTarget, IsText, IsTitle, Literal}
use Rattle.proof_content_laws.proofs.Defined.Form.{OnLine, OverLine, Raw, Strand, Target, Titled, gap_events, inside_by}
use Rattle.proof_content_laws.proofs.Defined.Form.{label_by, strand_done, string_done, string_of, target_by, title_by}
use Rattle.proof_content_laws.proofs.Defined.Known.Inside.{through_gap, through_target}
use Rattle.proof_content_laws.proofs.Defined.Known.Passes.{strand-passes}
use Rattle.proof_content_laws.proofs.Defined.Strings.Lines.{strand-lines}
use Rattle.proof_content_laws.proofs.Defined.Known.Target.{chunk-one}
use Rattle.proof_content_laws.proofs.Defined.Known.Texts.{FormStrings, LabelString, TargetString, TextString}
use Rattle.proof_content_laws.proofs.Defined.Known.Texts.{TitleString}
use Rattle.proof_frame.proofs.FrontNames.{fronts-prefixes}
use Rattle.proof_frame.proofs.PlainFacts.{ArePlain, ArePlainFrom, Untold, known-around}
use Rattle.proof_frame.proofs.PlainFacts.{plain-none, plain-quiet, plain-through, plain-untold, quiet-from}
use Rattle.proof_frame.proofs.PrefixNames.{prefixes-roles}

-- What the tree does not show, around others.
around-plain : (bytes : List ℕ) (name : Name) (p q : Point) (from to : Site) (es : List Event) → Quiet (role name) →
    ArePlainFrom bytes from to es → ArePlainFrom bytes from to (around name p q es)
around-plain bytes name p q from to es quiet h =
    plain-through bytes from from to (enter name p ∷ []) (es ++ exit name q ∷ [])
    (quiet-from bytes from (enter name p ∷ []) (quiet, tt))
    (plain-through bytes from to to es (exit name q ∷ []) h (quiet-from bytes to (exit name q ∷ []) (quiet, tt)))

-- between two marks
marks-plain : (bytes : List ℕ) (name : Name) (p a b q : Point) (from to : Site) (es : List Event) → Quiet (role name) →
    ArePlainFrom bytes from to es → ArePlainFrom bytes from to (pair name p a ++ es ++ pair name b q)
marks-plain bytes name p a b q from to es quiet h =
    plain-through bytes from to to (pair name p a ++ es) (pair name b q)
    (plain-through bytes from from to (pair name p a) es (quiet-from bytes from (pair name p a) (quiet, (quiet, tt))) h)
    (quiet-from bytes to (pair name b q) (quiet, (quiet, tt)))

-- whitespace
white-quiet : (p q : Point) → Roles Quiet (pair_unless_empty n.SpaceOrTab p q)
white-quiet p q = go (same_place p q)
  where
    go : (b : Bool) → Roles Quiet (cond b [] (pair n.SpaceOrTab p q))
    go true = tt
    go false = (tt, (tt, tt))

white-roles : (P : Role → Type 0) (p q : Point) → P IsQuiet → Roles P (pair_unless_empty n.SpaceOrTab p q)
white-roles P p q quiet = go (same_place p q)
  where
    go : (b : Bool) → Roles P (cond b [] (pair n.SpaceOrTab p q))
    go true = tt
    go false = (quiet, (quiet, tt))

gap-roles : (P : Role → Type 0) (bytes : List ℕ) (p q : Point) (g : Gap) → P IsQuiet → P IsEnding → P IsPrefix →
    P IsQuoteMarker → IsGap bytes p q g → Roles P (gap_events g)
gap-roles P bytes p q (OnLine a b) quiet ending prefix marker is = white-roles P a b quiet
gap-roles P bytes p q (OverLine a e b r s front) quiet ending prefix marker is =
    roles-append P (pair_unless_empty n.SpaceOrTab a e ++ pair n.LineEnding e b ++ front)
    (pair_unless_empty n.SpaceOrTab r s)
    (roles-append P (pair_unless_empty n.SpaceOrTab a e ++ pair n.LineEnding e b) front
    (roles-append P (pair_unless_empty n.SpaceOrTab a e) (pair n.LineEnding e b) (white-roles P a e quiet)
    (ending, (ending, tt)))
    (prefixes-roles P front quiet prefix marker (fronts-prefixes bytes [] b r front refl is.2.front_is)))
    (white-roles P r s quiet)

-- a gap between two parts
gap-plain : (bytes : List ℕ) (p q : Point) (left : Left) (g : Gap) → IsGap bytes p q g →
    ArePlainFrom bytes (AfterPart left) (AfterPart left) (gap_events g)
gap-plain bytes p q left g is = record {
  known =
      (plain-untold bytes (gap_events g)
      (gap-roles Untold bytes p q g (refl, refl) (refl, refl) (refl, refl) (refl, refl) is)).known;
  lines = passes-between bytes left (gap_events g) (gap-roles Between bytes p q g tt tt tt tt is);
}

-- Its parts.

label-plain : (bytes : List ℕ) (x : Form) (g t : Point) → IsForm bytes x g t → LabelString bytes x →
    ArePlainFrom bytes AtLabel (AfterPart DestinationLeft) (label_by (strand_done bytes) x)
label-plain bytes x g t is known =
    around-plain bytes n.DefinitionLabel x.p x.c AtLabel (AfterPart DestinationLeft)
    (pair n.DefinitionLabelMarker x.p x.a ++ text ++ pair n.DefinitionLabelMarker x.b x.c) tt
    (marks-plain bytes n.DefinitionLabelMarker x.p x.a x.b x.c AtLabel (AfterPart DestinationLeft) text tt
    (record {
      known = known.known refl;
      lines =
          strand-passes bytes LabelPart n.DefinitionLabelString x.a x.b x.label refl is.opens.1.whole
          (strand-lines bytes x.a x.b x.label is.label);
    }))
  where
    text : List Event
    text = around n.DefinitionLabelString x.a x.b (strand_done bytes x.label)

-- what may come after a destination, by whether it has a text
abbrev target_ends : Target → Left
target_ends (Raw p q text) = TitleLeft
target_ends (Literal p a b q []) = DestinationLeft
target_ends (Literal p a b q (c ∷ cs)) = TitleLeft

string-plain : (bytes : List ℕ) (p q : Point) (text : List ℕ) → p.vs ≡ 0 → text ≢ [] → IsRun bytes text p q →
    TargetString bytes → ArePlainFrom bytes (AfterPart DestinationLeft) (AfterPart TitleLeft) (string_done bytes p q)
string-plain bytes p q text whole some run known = record {
  known = (known p q text whole some run).known refl;
  lines =
      passes-destination bytes n.DefinitionDestinationString p q DestinationLeft
      (plain_chunk bytes (record { first = p; after = q })) refl tt
      (subst (Roles Quiet) (sym (chunk-one bytes text p q some run)) (tt, (tt, tt)));
}

target-plain : (bytes : List ℕ) (p q : Point) (t : Target) → IsTarget bytes p q t → TargetString bytes →
    ArePlainFrom bytes (AfterPart DestinationLeft) (AfterPart (target_ends t)) (target_by (string_done bytes) t)
target-plain bytes p q (Raw a b text) is known =
    around-plain bytes n.DefinitionDestination a b (AfterPart DestinationLeft) (AfterPart TitleLeft)
    (around n.DefinitionDestinationRaw a b (string_done bytes a b)) tt
    (around-plain bytes n.DefinitionDestinationRaw a b (AfterPart DestinationLeft) (AfterPart TitleLeft)
    (string_done bytes a b) tt
    (string-plain bytes a b text (subst (λ (x : Point). x.vs ≡ 0) (sym is.0) is.2) is.3
    (subst₂ (λ (x y : Point). IsRun bytes text x y) (sym is.0) (sym is.1) is.4) known))
target-plain bytes p q (Literal o a b e []) is known =
    around-plain bytes n.DefinitionDestination o e (AfterPart DestinationLeft) (AfterPart DestinationLeft)
    (around n.DefinitionDestinationLiteral o e (marked [])) tt
    (around-plain bytes n.DefinitionDestinationLiteral o e (AfterPart DestinationLeft) (AfterPart DestinationLeft)
    (marked []) tt
    (marks-plain bytes n.DefinitionDestinationLiteralMarker o a b e (AfterPart DestinationLeft)
    (AfterPart DestinationLeft) [] tt (plain-none bytes (AfterPart DestinationLeft))))
  where
    marked : List Event → List Event
    marked es =
        pair n.DefinitionDestinationLiteralMarker o a ++ es ++ pair n.DefinitionDestinationLiteralMarker b e
target-plain bytes p q (Literal o a b e (c ∷ cs)) is known =
    around-plain bytes n.DefinitionDestination o e (AfterPart DestinationLeft) (AfterPart TitleLeft)
    (around n.DefinitionDestinationLiteral o e (marked (string_done bytes a b))) tt
    (around-plain bytes n.DefinitionDestinationLiteral o e (AfterPart DestinationLeft) (AfterPart TitleLeft)
    (marked (string_done bytes a b)) tt
    (marks-plain bytes n.DefinitionDestinationLiteralMarker o a b e (AfterPart DestinationLeft) (AfterPart TitleLeft)
    (string_done bytes a b) tt (string-plain bytes a b (c ∷ cs) is.2.1.whole (λ e. cc) is.3 known)))
  where
    marked : List Event → List Event
    marked es =
        pair n.DefinitionDestinationLiteralMarker o a ++ es ++ pair n.DefinitionDestinationLiteralMarker b e

-- a title around its text, or none
text-plain : (bytes : List ℕ) (left : Left) (p a b q : Point) (text : Option Strand) → MayHaveTitle left → a.vs ≡ 0 →
    IsText bytes a b text → TextString bytes a b text →
    ArePlainFrom bytes (AfterPart left) (AfterPart NoneLeft)
    (around n.DefinitionTitle p q
    (pair n.DefinitionTitleMarker p a ++ string_of (strand_done bytes) a b text ++ pair n.DefinitionTitleMarker b q))
text-plain bytes left p a b q None may whole is known = record {
  known =
      known-around bytes n.DefinitionTitle p q
      (pair n.DefinitionTitleMarker p a ++ [] ++ pair n.DefinitionTitleMarker b q)
      refl refl refl
      (plain-quiet bytes (pair n.DefinitionTitleMarker p a ++ [] ++ pair n.DefinitionTitleMarker b q)
      (tt, (tt, (tt, (tt, tt))))).known;
  lines =
      passes-untitled bytes n.DefinitionTitle p q left
      (pair n.DefinitionTitleMarker p a ++ [] ++ pair n.DefinitionTitleMarker b q) refl may
      (tt, (tt, (tt, (tt, tt))));
}
text-plain bytes left p a b q (Some s) may whole is known = record {
  known = known-around bytes n.DefinitionTitle p q marked refl refl refl inside.known;
  lines = passes-titled bytes n.DefinitionTitle p q left marked refl may inside.lines;
}
  where
    text : List Event
    text = around n.DefinitionTitleString a b (strand_done bytes s)

    marked : List Event
    marked = pair n.DefinitionTitleMarker p a ++ text ++ pair n.DefinitionTitleMarker b q

    inside : ArePlainFrom bytes AtTitleText AfterTitleText marked
    inside =
        marks-plain bytes n.DefinitionTitleMarker p a b q AtTitleText AfterTitleText text tt
        (record {
          known = known.known refl;
          lines =
              strand-passes bytes TitlePart n.DefinitionTitleString a b s refl whole (strand-lines bytes a b s is);
        })

-- what may come after it
abbrev title_ends : Left → Option Titled → Left
title_ends left None = left
title_ends left (Some t) = NoneLeft

title-plain : (bytes : List ℕ) (left : Left) (p q : Point) (title : Option Titled) → MayHaveTitle left →
    IsTitle bytes p q title → TitleString bytes title →
    ArePlainFrom bytes (AfterPart left) (AfterPart (title_ends left title)) (title_by (strand_done bytes) title)
title-plain bytes left p q None may is known = plain-none bytes (AfterPart left)
title-plain bytes left p q (Some t) may is known =
    plain-through bytes (AfterPart left) (AfterPart left) (AfterPart NoneLeft) (gap_events t.gap)
    (around n.DefinitionTitle t.p t.q
    (pair n.DefinitionTitleMarker t.p t.a ++ string_of (strand_done bytes) t.a t.b t.text
    ++ pair n.DefinitionTitleMarker t.b t.q)) (gap-plain bytes p t.p left t.gap is.gap)
    (text-plain bytes left t.p t.a t.b t.q t.text may is.opens.1.whole is.inside known)

may-title : (t : Target) → MayHaveTitle (target_ends t)
may-title (Raw p q text) = tt
may-title (Literal p a b q []) = tt
may-title (Literal p a b q (c ∷ cs)) = tt

-- All of it.
inside-plain : (bytes : List ℕ) (x : Form) (g t : Point) → IsForm bytes x g t → FormStrings bytes x →
    ArePlainFrom bytes AtLabel (AfterPart (title_ends (target_ends x.target) x.title))
    (inside_by (strand_done bytes) (string_done bytes) x)
inside-plain bytes x g t is known =
    plain-through bytes AtLabel end end
    (through_target (strand_done bytes) (string_done bytes) x ++ title_by (strand_done bytes) x.title)
    (pair_unless_empty n.SpaceOrTab x.e x.last)
    (plain-through bytes AtLabel (AfterPart (target_ends x.target)) end
    (through_target (strand_done bytes) (string_done bytes) x) (title_by (strand_done bytes) x.title)
    (plain-through bytes AtLabel first (AfterPart (target_ends x.target)) (through_gap (strand_done bytes) x)
    (target_by (string_done bytes) x.target)
    (plain-through bytes AtLabel first first (label_by (strand_done bytes) x ++ pair n.DefinitionMarker x.c x.d)
    (gap_events x.gap)
    (plain-through bytes AtLabel first first (label_by (strand_done bytes) x) (pair n.DefinitionMarker x.c x.d)
    (label-plain bytes x g t is known.label) (quiet-from bytes first (pair n.DefinitionMarker x.c x.d) (tt, (tt, tt))))
    (gap-plain bytes x.d g DestinationLeft x.gap is.gap)) (target-plain bytes g t x.target is.target known.target))
    (title-plain bytes (target_ends x.target) t x.e x.title (may-title x.target) is.title known.title))
    (quiet-from bytes end (pair_unless_empty n.SpaceOrTab x.e x.last) (white-quiet x.e x.last))
  where
    first : Site
    first = AfterPart DestinationLeft

    end : Site
    end = AfterPart (title_ends (target_ends x.target) x.title)

pub form-plain : (bytes : List ℕ) (x : Form) (g t : Point) → IsForm bytes x g t → FormStrings bytes x →
    ArePlain bytes (around n.Definition x.p x.last (inside_by (strand_done bytes) (string_done bytes) x))
form-plain bytes x g t is known =
    let inside = inside_by (strand_done bytes) (string_done bytes) x in
    let h = inside-plain bytes x g t is known in
    record {
      known = known-around bytes n.Definition x.p x.last inside refl refl refl h.known;
      lines =
          passes-definition bytes n.Definition x.p x.last (title_ends (target_ends x.target) x.title) inside refl
          h.lines;
    }
