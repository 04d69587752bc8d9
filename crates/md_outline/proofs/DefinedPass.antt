-- The events of a definition, one after the other: from where in it to where they go.
use Rattle.std.proofs.Common.{◌≡◌, ℕ, zero, suc, ◌+◌, ◌-◌, ◌<◌, ◌≤◌, Bool, true, false, ◌||◌, List, [], ◌∷◌, ◌++◌}
use Rattle.std.proofs.Common.{length, take, drop, get_or, slice_range, refl, sym, ◌∙◌, ap, subst, arith}
use Rattle.std.specs.Prelude.{IsTrue, slice_index}
use Rattle.std.specs.List.{list_any}
use Rattle.std.proofs.lemmas.Bool.{true≢false}
use Rattle.std.proofs.lemmas.Bool.Decides.{nat_tests}
use Rattle.std.proofs.lemmas.List.{get_or-drop, get_or-take, length-drop, length-take}
use Rattle.std.proofs.lemmas.List.Folds.{list_any_at}
use Rattle.md_engine.specs.declared.event.Event.{Event}
use Rattle.md_engine.specs.declared.event.Kind.{Kind}
use Rattle.md_engine.specs.declared.event.Kind.TheVariants.{Enter, Exit}
use Rattle.md_engine.specs.declared.event.Name.{Name}
use Rattle.md_engine.specs.declared.event.Point.{Point}
use Rattle.md_meaning.specs.Lines.{is_ending}
use Rattle.md_events.specs.Events.Nested.{Balanced, Fits, Forward, Matches, around, enter, exit, open_following}
use Rattle.md_events.specs.Events.Places.{at_or_before}
use Rattle.md_events.specs.Events.Spelled.{AsDestination, AsLabel, AsTitle, IsEnding, IsPrefix, IsQuiet, IsQuoteMarker}
use Rattle.md_events.specs.Events.Spelled.{IsTitle, OfDefinition, LeafRole, Purpose, Role, TextRole, byte_at, role}
use Rattle.md_events.proofs.SpelledLemmas.{Between, Quiet, QuietOrEnding, Roles}
use Rattle.md_outline.specs.LinesAllowed.{AtLabel, AtTitleText, AfterPart, AfterTitleText, InDestination, InPart}
use Rattle.md_outline.specs.LinesAllowed.{InParted, LabelPart, Left, LinesAllowed, MayHaveDestination, MayHaveTitle}
use Rattle.md_outline.specs.LinesAllowed.{MayBeHere, NoneLeft, Outside, Part, Site}
use Rattle.md_outline.specs.LinesAllowed.{TitleLeft, TitlePart, part_site, site_by}
use Rattle.md_outline.proofs.LinesPass.{Passes, Steps, passes-append, passes-around, passes-event, passes-quiet}
use Rattle.md_outline.proofs.LinesPass.{are_valid-both, passes-lines, passes-inline}

-- All of it.
pub passes-definition : (bytes : List ℕ) (name : Name) (p q : Point) (left : Left) (es : List Event) →
    role name ≡ LeafRole OfDefinition → Passes bytes AtLabel (AfterPart left) es →
    Passes bytes Outside Outside (around name p q es)
passes-definition bytes name p q left es is h =
    passes-around bytes Outside AtLabel (AfterPart left) Outside (LeafRole OfDefinition) name p q es is (tt, refl) h
    (tt, refl)

-- Between its parts endings and prefixes may be,
pub passes-between : (bytes : List ℕ) (left : Left) (es : List Event) → Roles Between es →
    Passes bytes (AfterPart left) (AfterPart left) es
passes-between bytes left es h = passes-lines bytes (AfterPart left) es tt h

-- its destination,
pub passes-destination : (bytes : List ℕ) (name : Name) (p q : Point) (left : Left) (es : List Event) →
    role name ≡ TextRole AsDestination → MayHaveDestination left → Roles Quiet es →
    Passes bytes (AfterPart left) (AfterPart TitleLeft) (around name p q es)
passes-destination bytes name p q left es is may h =
    passes-around bytes (AfterPart left) InDestination InDestination (AfterPart TitleLeft)
    (TextRole AsDestination) name
    p q es is (may, refl) (passes-quiet bytes InDestination es h) (tt, refl)

-- and its title, around its text, or with none.
pub passes-titled : (bytes : List ℕ) (name : Name) (p q : Point) (left : Left) (es : List Event) →
    role name ≡ IsTitle → MayHaveTitle left → Passes bytes AtTitleText AfterTitleText es →
    Passes bytes (AfterPart left) (AfterPart NoneLeft) (around name p q es)
passes-titled bytes name p q left es is may h =
    passes-around bytes (AfterPart left) AtTitleText AfterTitleText (AfterPart NoneLeft) IsTitle name p q es is
    (may, refl) h (tt, refl)

pub passes-untitled : (bytes : List ℕ) (name : Name) (p q : Point) (left : Left) (es : List Event) →
    role name ≡ IsTitle → MayHaveTitle left → Roles Quiet es →
    Passes bytes (AfterPart left) (AfterPart NoneLeft) (around name p q es)
passes-untitled bytes name p q left es is may h =
    passes-around bytes (AfterPart left) AtTitleText AtTitleText (AfterPart NoneLeft) IsTitle name p q es is
    (may, refl) (passes-quiet bytes AtTitleText es h) (tt, refl)

-- The text of its label, or of its title.

abbrev pub part_purpose : Part → Purpose
part_purpose LabelPart = AsLabel
part_purpose TitlePart = AsTitle

-- where it begins
abbrev pub part_begin : Part → Site
part_begin LabelPart = AtLabel
part_begin TitlePart = AtTitleText

passes-text : (bytes : List ℕ) (part : Part) (name : Name) (p q : Point) (site : Site) (es : List Event) →
    role name ≡ TextRole (part_purpose part) → Passes bytes (InPart part p) site es →
    MayBeHere bytes site Exit (TextRole (part_purpose part)) q
    × (site_by bytes site Exit (TextRole (part_purpose part)) q ≡ part_site part) →
    Passes bytes (part_begin part) (part_site part) (around name p q es)
passes-text bytes LabelPart name p q site es is h ends =
    passes-around bytes AtLabel (InPart LabelPart p) site (part_site LabelPart) (TextRole AsLabel) name p q es is
    (tt, refl) h ends
passes-text bytes TitlePart name p q site es is h ends =
    passes-around bytes AtTitleText (InPart TitlePart p) site (part_site TitlePart) (TextRole AsTitle) name p q es is
    (tt, refl) h ends

-- without prefixes
first-ends : (bytes : List ℕ) (part : Part) (p q : Point) →
    MayBeHere bytes (InPart part p) Exit (TextRole (part_purpose part)) q
    × (site_by bytes (InPart part p) Exit (TextRole (part_purpose part)) q ≡ part_site part)
first-ends bytes LabelPart p q = (tt, refl)
first-ends bytes TitlePart p q = (tt, refl)

pub passes-part_line : (bytes : List ℕ) (part : Part) (name : Name) (p q : Point) (es : List Event) →
    role name ≡ TextRole (part_purpose part) → Roles QuietOrEnding es →
    Passes bytes (part_begin part) (part_site part) (around name p q es)
passes-part_line bytes part name p q es is h =
    passes-text bytes part name p q (InPart part p) es is (passes-inline bytes (InPart part p) es tt h)
    (first-ends bytes part p q)

-- and with prefixes, which are after an ending
any-longer : (xs : List ℕ) (m n : ℕ) → m ≤ n → list_any is_ending (take m xs) ≡ true →
    list_any is_ending (take n xs) ≡ true
any-longer xs zero n le h = absurd (true≢false (sym h))
any-longer xs (suc m) zero le h = absurd (omega (arith, le))
any-longer [] (suc m) (suc n) le h = h
any-longer (b ∷ xs) (suc m) (suc n) le h = go (is_ending b) h (any-longer xs m n (omega (arith, le)))
  where
    go : (x : Bool) → (x || list_any is_ending (take m xs)) ≡ true →
        (list_any is_ending (take m xs) ≡ true → list_any is_ending (take n xs) ≡ true) →
        (x || list_any is_ending (take n xs)) ≡ true
    go true h k = refl
    go false h k = k h

-- a text that has an ending up to a point has one up to a later point
pub any-later : (bytes : List ℕ) (from : ℕ) (p q : Point) → IsTrue (at_or_before p q) →
    list_any is_ending (slice_range bytes from p.index) ≡ true →
    list_any is_ending (slice_range bytes from q.index) ≡ true
any-later bytes from p q order h =
    any-longer (drop from bytes) (p.index - from) (q.index - from) (shorter (grows p q order)) h
  where
    grows : (p q : Point) → IsTrue (at_or_before p q) → p.index ≤ q.index
    grows p q h = grind (arith, nat_tests)

    shorter : p.index ≤ q.index → p.index - from ≤ q.index - from
    shorter le = omega (arith, le)

-- and it has one if there is one in it
pub any-slice : (bytes : List ℕ) (from at to : ℕ) → from ≤ at → at < to → at < length bytes →
    is_ending (slice_index bytes at) ≡ true → list_any is_ending (slice_range bytes from to) ≡ true
any-slice bytes from at to first last within h =
    let place : from + (at - from) ≡ at = omega (arith, first) in
    let left = length-drop from bytes in
    let size = length-take (to - from) (drop from bytes) in
    let same : get_or (take (to - from) (drop from bytes)) (at - from) 0 ≡ slice_index bytes at =
    get_or-take (to - from) (drop from bytes) (at - from) 0 (omega (arith, first, last))
    ∙ get_or-drop from bytes (at - from) 0 ∙ ap (λ k. get_or bytes k 0) place in
    list_any_at is_ending (take (to - from) (drop from bytes)) (at - from) 0
    (grind (arith, size, left, first, last, within)) (ap is_ending same ∙ h)

-- no prefix is open
abbrev NoPrefix : Role → Type 0
NoPrefix IsPrefix = ⊥
NoPrefix _ = Unit {0}

abbrev NoPrefixes : List Name → Type 0
NoPrefixes [] = Unit {0}
NoPrefixes (name ∷ names) = NoPrefix (role name) × NoPrefixes names

closed-none : (names : List Name) (name : Name) → NoPrefixes names → NoPrefixes (open_following names Exit name)
closed-none [] name h = tt
closed-none (innermost ∷ names) name h = h.1

-- so none ends
none-ends : (names : List Name) (name : Name) → NoPrefixes names → Fits names Exit name → role name ≡ IsPrefix → ⊥
none-ends [] name h fits is = absurd fits
none-ends (innermost ∷ names) name h fits is = subst NoPrefix (ap role fits ∙ is) h.0

walk-event : (bytes : List ℕ) (part : Part) (q p : Point) (kind : Kind) (name : Name) (names : List Name)
    (zs : List Event) (x : Role) → role name ≡ x → Between x → NoPrefixes names → Fits names kind name →
    list_any is_ending (slice_range bytes (byte_at q) p.index) ≡ true →
    (NoPrefixes (open_following names kind name) → LinesAllowed bytes (InPart part q) zs) →
    LinesAllowed bytes (InParted part) zs →
    MayBeHere bytes (InPart part q) kind x p × LinesAllowed bytes (site_by bytes (InPart part q) kind x p) zs
walk-event bytes part q p Enter name names zs IsQuiet is between none fits some stays parted =
    (tt, stays (subst NoPrefix (sym is) tt, none))
walk-event bytes part q p Exit name names zs IsQuiet is between none fits some stays parted =
    (tt, stays (closed-none names name none))
walk-event bytes part q p Enter name names zs IsQuoteMarker is between none fits some stays parted =
    (tt, stays (subst NoPrefix (sym is) tt, none))
walk-event bytes part q p Exit name names zs IsQuoteMarker is between none fits some stays parted =
    (tt, stays (closed-none names name none))
walk-event bytes part q p Enter name names zs IsEnding is between none fits some stays parted =
    (tt, stays (subst NoPrefix (sym is) tt, none))
walk-event bytes part q p Exit name names zs IsEnding is between none fits some stays parted =
    (tt, stays (closed-none names name none))
walk-event bytes part q p Enter name names zs IsPrefix is between none fits some stays parted = (some, parted)
walk-event bytes part q p Exit name names zs IsPrefix is between none fits some stays parted =
    absurd (none-ends names name none fits is)
walk-event bytes part q p kind name names zs _ is between none fits some stays parted = absurd between

walk : (bytes : List ℕ) (part : Part) (q i : Point) (names : List Name) (es ys : List Event) → NoPrefixes names →
    Matches names es → Forward i es → Roles Between es →
    list_any is_ending (slice_range bytes (byte_at q) i.index) ≡ true → LinesAllowed bytes (InPart part q) ys →
    LinesAllowed bytes (InParted part) ys → LinesAllowed bytes (InPart part q) (es ++ ys)
walk bytes part q i names [] ys none matches forward between some first parted = first
walk bytes part q i names (e ∷ es) ys none matches forward between some first parted =
    let here : list_any is_ending (slice_range bytes (byte_at q) e.point.index) ≡ true =
    any-later bytes (byte_at q) i e.point forward.0 some in
    walk-event bytes part q e.point e.kind e.name names (es ++ ys) (role e.name) refl between.0 none matches.0 here
    (λ left.
    walk bytes part q e.point (open_following names e.kind e.name) es ys left matches.1 forward.1 between.1 here first
    parted)
    (passes-lines bytes (InParted part) es tt between.1 ys parted)

parted-ends : (bytes : List ℕ) (part : Part) (q : Point) →
    MayBeHere bytes (InParted part) Exit (TextRole (part_purpose part)) q
    × (site_by bytes (InParted part) Exit (TextRole (part_purpose part)) q ≡ part_site part)
parted-ends bytes LabelPart q = (tt, refl)
parted-ends bytes TitlePart q = (tt, refl)

-- its first line up to a point after an ending, and what follows that
pub passes-part : (bytes : List ℕ) (part : Part) (name : Name) (p i q : Point) (first further : List Event) →
    role name ≡ TextRole (part_purpose part) → Roles QuietOrEnding first →
    list_any is_ending (slice_range bytes (byte_at p) i.index) ≡ true → Balanced further → Forward i further →
    Roles Between further → Passes bytes (part_begin part) (part_site part) (around name p q (first ++ further))
passes-part bytes part name p i q first further is line some balanced forward between =
    passes-append bytes (part_begin part) (InPart part p) (part_site part) (enter name p ∷ [])
    ((first ++ further) ++ exit name q ∷ []) (passes-event bytes (part_begin part) (InPart part p)
    (TextRole (part_purpose part)) (enter name p) is (begins part)) inside
  where
    begins : (part : Part) → Steps bytes (part_begin part) (InPart part p) Enter (TextRole (part_purpose part)) p
    begins LabelPart = (tt, refl)
    begins TitlePart = (tt, refl)

    ends : (site : Site) → Steps bytes site (part_site part) Exit (TextRole (part_purpose part)) q →
        Passes bytes site (part_site part) (exit name q ∷ [])
    ends site step = passes-event bytes site (part_site part) (TextRole (part_purpose part)) (exit name q) is step

    inside : Passes bytes (InPart part p) (part_site part) ((first ++ further) ++ exit name q ∷ [])
    inside ys more =
        are_valid-both bytes (InPart part p) (first ++ further) (exit name q ∷ []) ys
        (are_valid-both bytes (InPart part p) first further (exit name q ∷ ys)
        (passes-inline bytes (InPart part p) first tt line (further ++ exit name q ∷ ys)
        (walk bytes part p i [] further (exit name q ∷ ys) tt balanced.matches forward between some
        (ends (InPart part p) (first-ends bytes part p q) ys more)
        (ends (InParted part) (parted-ends bytes part q) ys more))))
