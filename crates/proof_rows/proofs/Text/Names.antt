-- The names of the events of a definition: what holds of lists of events with such names, of endings, and of such lists
-- one after the other holds of all of it, and of a text from which definitions are cut.
use Rattle.std.proofs.Common.{◌≡◌, ℕ, Bool, true, false, cond, List, [], ◌∷◌, ◌++◌, refl, sym, subst, ◌&&◌, not}
use Rattle.std.specs.Prelude.{Option, Some, None}
use Rattle.md_engine.specs.declared.configuration.ParseOptions.{ParseOptions}
use Rattle.md_engine.specs.declared.event.Event.{Event}
use Rattle.md_engine.specs.declared.event.Name.{Name}
use Rattle.md_engine.specs.declared.event.Name.TheVariants as n
use Rattle.md_engine.specs.declared.event.Point.{Point}
use Rattle.md_leaves.specs.Spanned.{has_lines, is_code_line}
use Rattle.md_leaves.specs.Turned.{is_paragraph, is_underline}
use Rattle.md_link_definitions.specs.Chunks.{string_link}
use Rattle.md_link_definitions.specs.DefinitionRule.{DefinitionParts}
use Rattle.md_order.specs.Alone.{Nothing, opened_by}
use Rattle.md_events.specs.Events.Inline.{pair_unless_empty}
use Rattle.md_events.specs.Events.Nested.{around, enter, enter_link, exit, pair}
use Rattle.md_events.specs.Events.Places.{same_place}
use Rattle.md_events.specs.Events.Prefix.{is_prefix}
use Rattle.md_events.specs.Events.Spelled.{role}
use Rattle.proof_rows.specs.BlockList.{lines_unread}
use Rattle.proof_frame.specs.Row.{Row, last_row}
use Rattle.proof_content_laws.specs.Defined.{defined_unread}
use Rattle.proof_content_laws.proofs.Defined.Form.{Form, Gap, IsForm, IsGap, IsStrand, IsText, IsTitle, LastLine}
use Rattle.proof_content_laws.proofs.Defined.Form.{Literal, NoLine, OneLine, OnLine, OverLine, Raw, Strand, Target}
use Rattle.proof_content_laws.proofs.Defined.Form.{Titled, form_unread, gap_events, inside_by, label_by, strand_unread}
use Rattle.proof_content_laws.proofs.Defined.Form.{string_of, string_unread, target_by, title_by, unless_empty}
use Rattle.proof_content_laws.proofs.Defined.Is.{IsDefined}
use Rattle.proof_content_laws.proofs.Defined.Names.{IsOfDefinition, is_of_definition}
use Rattle.proof_frame.proofs.ClosedFacts.{IsClosed, OpensNothing, closed-append, closed-each, closed-ending}
use Rattle.proof_frame.proofs.EachEvent.{Each, each-append, each-as}
use Rattle.proof_frame.proofs.FrontFacts.{LinePrefix}
use Rattle.proof_frame.proofs.FrontNames.{fronts-prefixes}
use Rattle.proof_rows.proofs.GroupLines.{AreLines}
use Rattle.proof_frame.proofs.PrefixNames.{IsNamed}
use Rattle.proof_frame.proofs.SpannedFacts.{AreUnspanned, IsUnspanned}
use Rattle.proof_rows.proofs.Text.Cut.{IsCutText, between}
use Rattle.proof_rows.proofs.Text.Cut.IsCutText.{Defines, Follows, Remains}
use Rattle.proof_frame.proofs.UnturnedFacts.{AreUnturned, IsUnturned}

-- an event with such a name, but for endings
abbrev is_in_definition : Name → Bool
is_in_definition n.LineEnding = false
is_in_definition name = is_of_definition name

abbrev IsInDefinition : Event → Type 0
IsInDefinition e = is_in_definition e.name ≡ true

prefix-in : (name : Name) → is_prefix name ≡ true → is_in_definition name ≡ true
prefix-in n.SpaceOrTab h = refl
prefix-in _ h = cc

-- what holds of lists of such events, of an ending, and of such lists one after the other
pub record OfDefinitions (L : List Event → Type 0) : Type 0 where
  pub all : (es : List Event) → Each IsInDefinition es → L es
  pub append : (xs ys : List Event) → L xs → L ys → L (xs ++ ys)
  pub ending : (p q : Point) → L (pair n.LineEnding p q)

-- What holds of each event with such a name.

in-of : (name : Name) → is_in_definition name ≡ true → is_of_definition name ≡ true
in-of n.LineEnding h = refl
in-of _ h = h

pub of-each : (P : Event → Type 0) → ((e : Event) → IsOfDefinition e → P e) → OfDefinitions (Each P)
of-each P so = record {
  all = λ es h. each-as IsInDefinition P (λ e is. so e (in-of e.name is)) es h;
  append = each-append P;
  ending = λ p q. (so (enter n.LineEnding p) refl, (so (exit n.LineEnding q) refl, tt));
}

-- they begin and end no line of a leaf of several,
not-lines : (name : Name) → is_of_definition name ≡ true →
    (not (has_lines (role name)) && not (is_code_line name)) ≡ true
not-lines n.CodeIndented h = cc
not-lines _ h = cc

pub unspanned-of : OfDefinitions AreUnspanned
unspanned-of = of-each IsUnspanned (λ e is. not-lines e.name is)

-- and no text and no underline;
not-turned : (name : Name) → is_of_definition name ≡ true →
    cond (is_paragraph name) false (cond (is_underline name) false true) ≡ true
not-turned n.Paragraph h = cc
not-turned _ h = cc

pub unturned-of : OfDefinitions AreUnturned
unturned-of = of-each IsUnturned (λ e is. not-turned e.name is)

-- none of a block that others are held from is open after them.
opens-none : (name : Name) → is_in_definition name ≡ true → opened_by name ≡ Nothing
opens-none n.HeadingAtx h = cc
opens-none _ h = cc

pub closed-of : OfDefinitions IsClosed
closed-of = record {
  all = λ es h. closed-each es (each-as IsInDefinition OpensNothing (λ e is. opens-none e.name is) es h);
  append = closed-append;
  ending = closed-ending;
}

-- Part by part.

front-of : (L : List Event → Type 0) → OfDefinitions L → (bytes : List ℕ) (p q : Point) (front : List Event) →
    LinePrefix bytes [] p q front → L front
front-of L of bytes p q front is =
    of.all front
    (each-as (IsNamed is_prefix) IsInDefinition (λ e named. prefix-in e.name named.0) front
    (fronts-prefixes bytes [] p q front refl is))

white-of : (L : List Event → Type 0) → OfDefinitions L → (p q : Point) → L (pair_unless_empty n.SpaceOrTab p q)
white-of L of p q = go (same_place p q)
  where
    go : (x : Bool) → L (cond x [] (pair n.SpaceOrTab p q))
    go true = of.all [] tt
    go false = of.all (pair n.SpaceOrTab p q) (refl, (refl, tt))

around-of : (L : List Event → Type 0) → OfDefinitions L → (name : Name) (p q : Point) (inside : List Event) →
    is_in_definition name ≡ true → L inside → L (around name p q inside)
around-of L of name p q inside h k =
    let begin : List Event = enter name p ∷ [] in
    let end : List Event = exit name q ∷ [] in
    of.append begin (inside ++ end) (of.all begin (h, tt)) (of.append inside end k (of.all end (h, tt)))

-- a mark, what it is before, and the mark after that
marked-of : (L : List Event → Type 0) → OfDefinitions L → (name : Name) (p a b q : Point) (inside : List Event) →
    is_in_definition name ≡ true → L inside → L (pair name p a ++ inside ++ pair name b q)
marked-of L of name p a b q inside h k =
    of.append (pair name p a ++ inside) (pair name b q)
    (of.append (pair name p a) inside (of.all (pair name p a) (h, (h, tt))) k) (of.all (pair name b q) (h, (h, tt)))

-- a text over lines
strand-of : (L : List Event → Type 0) → OfDefinitions L → (bytes : List ℕ) (p q : Point) (s : Strand) →
    IsStrand bytes p q s → L (strand_unread s)
strand-of L of bytes p q NoLine is = of.all [] tt
strand-of L of bytes p q (LastLine a b text) is = of.all (strand_unread (LastLine a b text)) (refl, (refl, tt))
strand-of L of bytes p q (OneLine a e b r text front NoLine) is =
    let line : List Event = enter_link n.Data a string_link ∷ exit n.Data b ∷ [] in
    of.append line (front ++ []) (of.all line (refl, (refl, tt)))
    (of.append front [] (front-of L of bytes b r front is.2.front_is) (of.all [] tt))
strand-of L of bytes p q (OneLine a e b r text front s) is =
    let line : List Event = enter_link n.Data a string_link ∷ exit n.Data b ∷ [] in
    of.append line (front ++ strand_unread s) (of.all line (refl, (refl, tt)))
    (of.append front (strand_unread s) (front-of L of bytes b r front is.2.front_is) (strand-of L of bytes r q s is.4))

gap-of : (L : List Event → Type 0) → OfDefinitions L → (bytes : List ℕ) (p q : Point) (gap : Gap) →
    IsGap bytes p q gap → L (gap_events gap)
gap-of L of bytes p q (OnLine a b) is = white-of L of a b
gap-of L of bytes p q (OverLine a e b r s front) is =
    let white : List Event = pair_unless_empty n.SpaceOrTab a e in
    let ending : List Event = pair n.LineEnding e b in
    of.append ((white ++ ending) ++ front) (pair_unless_empty n.SpaceOrTab r s)
    (of.append (white ++ ending) front (of.append white ending (white-of L of a e) (of.ending e b))
    (front-of L of bytes b r front is.2.front_is)) (white-of L of r s)

target-of : (L : List Event → Type 0) → OfDefinitions L → (t : Target) → L (target_by string_unread t)
target-of L of (Raw p q text) =
    of.all (target_by string_unread (Raw p q text)) (refl, (refl, (refl, (refl, (refl, (refl, (refl, (refl, tt))))))))
target-of L of (Literal p a b q text) =
    let string : List Event = unless_empty text (string_unread a b) in
    let inside : List Event =
    pair n.DefinitionDestinationLiteralMarker p a ++ string ++ pair n.DefinitionDestinationLiteralMarker b q in
    around-of L of n.DefinitionDestination p q (around n.DefinitionDestinationLiteral p q inside) refl
    (around-of L of n.DefinitionDestinationLiteral p q inside refl
    (marked-of L of n.DefinitionDestinationLiteralMarker p a b q string refl (some text)))
  where
    some : (text : List ℕ) → L (unless_empty text (string_unread a b))
    some [] = of.all [] tt
    some (c ∷ text) = of.all (string_unread a b) (refl, (refl, (refl, (refl, tt))))

text-of : (L : List Event → Type 0) → OfDefinitions L → (bytes : List ℕ) (p q : Point) (s : Option Strand) →
    IsText bytes p q s → L (string_of strand_unread p q s)
text-of L of bytes p q None is = of.all [] tt
text-of L of bytes p q (Some s) is =
    around-of L of n.DefinitionTitleString p q (strand_unread s) refl (strand-of L of bytes p q s is)

title-of : (L : List Event → Type 0) → OfDefinitions L → (bytes : List ℕ) (p q : Point) (t : Option Titled) →
    IsTitle bytes p q t → L (title_by strand_unread t)
title-of L of bytes p q None is = of.all [] tt
title-of L of bytes p q (Some t) is =
    let string : List Event = string_of strand_unread t.a t.b t.text in
    let inside : List Event = pair n.DefinitionTitleMarker t.p t.a ++ string ++ pair n.DefinitionTitleMarker t.b t.q in
    of.append (gap_events t.gap) (around n.DefinitionTitle t.p t.q inside) (gap-of L of bytes p t.p t.gap is.gap)
    (around-of L of n.DefinitionTitle t.p t.q inside refl
    (marked-of L of n.DefinitionTitleMarker t.p t.a t.b t.q string refl (text-of L of bytes t.a t.b t.text is.inside)))

-- All of it.
form-of : (L : List Event → Type 0) → OfDefinitions L →
    (bytes : List ℕ) (x : Form) (following_gap after_target : Point) →
    IsForm bytes x following_gap after_target → L (form_unread x)
form-of L of bytes x following_gap after_target is =
    of.append (pair_unless_empty n.SpaceOrTab x.first x.p)
    (around n.Definition x.p x.last (inside_by strand_unread string_unread x)) (white-of L of x.first x.p)
    (around-of L of n.Definition x.p x.last (inside_by strand_unread string_unread x) refl
    (of.append ((((label ++ colon) ++ gap) ++ target) ++ title) (pair_unless_empty n.SpaceOrTab x.e x.last)
    (of.append (((label ++ colon) ++ gap) ++ target) title
    (of.append ((label ++ colon) ++ gap) target
    (of.append (label ++ colon) gap (of.append label colon label-is (of.all colon (refl, (refl, tt))))
    (gap-of L of bytes x.d following_gap x.gap is.gap))
    (target-of L of x.target)) (title-of L of bytes after_target x.e x.title is.title)) (white-of L of x.e x.last)))
  where
    label : List Event
    label = label_by strand_unread x

    colon : List Event
    colon = pair n.DefinitionMarker x.c x.d

    gap : List Event
    gap = gap_events x.gap

    target : List Event
    target = target_by string_unread x.target

    title : List Event
    title = title_by strand_unread x.title

    string : List Event
    string = around n.DefinitionLabelString x.a x.b (strand_unread x.label)

    label-is : L label
    label-is =
        around-of L of n.DefinitionLabel x.p x.c
        (pair n.DefinitionLabelMarker x.p x.a ++ string ++ pair n.DefinitionLabelMarker x.b x.c) refl
        (marked-of L of n.DefinitionLabelMarker x.p x.a x.b x.c string refl
        (around-of L of n.DefinitionLabelString x.a x.b (strand_unread x.label) refl
        (strand-of L of bytes x.a x.b x.label is.label)))

pub defined-of : (L : List Event → Type 0) → OfDefinitions L → (bytes : List ℕ) (d : DefinitionParts) (row : Row)
    (rows : List Row) → IsDefined bytes d row rows → L (defined_unread d row rows)
defined-of L of bytes d row rows is =
    subst L (sym is.unread) (form-of L of bytes is.form is.following_gap is.after_target is.is)

-- between two blocks of a text
pub between-of : (L : List Event → Type 0) → OfDefinitions L → (bytes : List ℕ) (p q r : Point) (front : List Event) →
    LinePrefix bytes [] q r front → L (between p q front)
between-of L of bytes p q r front is =
    of.append (pair n.LineEnding p q) front (of.ending p q) (front-of L of bytes q r front is)

-- Of a text from which definitions are cut, if it holds of the lines of one.
pub cut-of : (L : List Event → Type 0) → OfDefinitions L → (options : ParseOptions) (bytes : List ℕ) →
    ((row : Row) (rows : List Row) → AreLines options bytes row rows → L (lines_unread row rows)) → (row : Row)
    (rows : List Row) (es fs : List Event) → IsCutText options bytes row rows es fs → L es
cut-of L of options bytes lines row rows es fs (Remains first more are) = lines first more are
cut-of L of options bytes lines row rows es fs (Defines d first more are is) = defined-of L of bytes d first more is
cut-of L of options bytes lines row rows es fs
    (Follows d first own next more q left done are is after ending front rest) =
    let own_events : List Event = defined_unread d first own in
    let gap : List Event = between (last_row first own).end q next.front in
    of.append (own_events ++ gap) left
    (of.append own_events gap (defined-of L of bytes d first own is)
    (between-of L of bytes (last_row first own).end q next.first next.front front))
    (cut-of L of options bytes lines next more left done rest)
