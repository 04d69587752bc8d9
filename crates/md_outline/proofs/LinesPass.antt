-- Events one after the other among leaf blocks of several lines: from where in such a leaf block to where they go.
use Rattle.std.proofs.Common.{◌≡◌, ℕ, Bool, true, false, cond, List, [], ◌∷◌, ◌++◌, length, append_assoc, refl, sym}
use Rattle.std.proofs.Common.{subst}
use Rattle.std.specs.Prelude.{nat_lt}
use Rattle.std.proofs.lemmas.Bool.{true≢false}
use Rattle.std.proofs.lemmas.List.{append-nil}
use Rattle.md_engine.specs.declared.event.Event.{Event}
use Rattle.md_engine.specs.declared.event.Kind.{Kind}
use Rattle.md_engine.specs.declared.event.Kind.TheVariants.{Enter, Exit}
use Rattle.md_engine.specs.declared.event.Name.{Name}
use Rattle.md_engine.specs.declared.event.Name.TheVariants as n
use Rattle.md_engine.specs.declared.event.Point.{Point}
use Rattle.md_events.specs.Events.Nested.{around, enter, exit, pair}
use Rattle.md_events.specs.Events.Spelled.{AsHeading, AsMarkers, IsEnding, IsQuiet, IsQuoteMarker, LeafKind, OfCode}
use Rattle.md_events.specs.Events.Spelled.{OfHeadingSetext, LeafRole, Role, TextRole, role}
use Rattle.md_events.proofs.SpelledLemmas.{Between, Quiet, QuietOrEnding, QuietOrPrefix, Roles}
use Rattle.md_outline.specs.LinesAllowed.{AtEnd, AtEnding, AtLine, AtTitle, AfterTitle, AfterUnderline, HasLines}
use Rattle.md_outline.specs.LinesAllowed.{InAtxText, InTitle, InUnderline, LinesAllowed, MayBeHere, Outside, Site}
use Rattle.md_outline.specs.LinesAllowed.{begun_site, site_by, InParted, InPart, InTable, AfterPart, InText}
use Rattle.md_outline.specs.LinesAllowed.{InDestination}
use Rattle.md_outline.specs.Roles.{is_plain}
use Rattle.md_outline.specs.TablePlaces.{AtHead, AfterHead, AfterRow, InCell}

-- Events that go from a site to a site: where what follows them may be there, all of it may be here.
abbrev pub Passes : List ℕ → Site → Site → List Event → Type 0
Passes bytes from to es = (ys : List Event) → LinesAllowed bytes to ys → LinesAllowed bytes from (es ++ ys)

pub passes-none : (bytes : List ℕ) (site : Site) → Passes bytes site site []
passes-none bytes site ys h = h

-- of two runs of events, and what follows them
pub are_valid-both : (bytes : List ℕ) (site : Site) (xs ys zs : List Event) →
    LinesAllowed bytes site (xs ++ (ys ++ zs)) →
    LinesAllowed bytes site ((xs ++ ys) ++ zs)
are_valid-both bytes site xs ys zs h = subst (LinesAllowed bytes site) (sym (append_assoc xs ys zs)) h

pub passes-append : (bytes : List ℕ) (from mid to : Site) (xs ys : List Event) → Passes bytes from mid xs →
    Passes bytes mid to ys → Passes bytes from to (xs ++ ys)
passes-append bytes from mid to xs ys h k zs more = are_valid-both bytes from xs ys zs (h (ys ++ zs) (k zs more))

-- all of some events, which go from outside to there
pub passes-all : (bytes : List ℕ) (es : List Event) → Passes bytes Outside Outside es → LinesAllowed bytes Outside es
passes-all bytes es h = subst (LinesAllowed bytes Outside) (append-nil es) (h [] tt)

-- Events that leave a site, by their roles.

abbrev pub Keeps : List ℕ → Site → Role → Type 0
Keeps bytes site x =
    (kind : Kind) (p : Point) → MayBeHere bytes site kind x p × (site_by bytes site kind x p ≡ site)

pub passes-by : (bytes : List ℕ) (P : Role → Type 0) (site : Site) (es : List Event) →
    ((x : Role) → P x → Keeps bytes site x) → Roles P es → Passes bytes site site es
passes-by bytes P site [] keeps h ys more = more
passes-by bytes P site (e ∷ es) keeps h ys more =
    let here = keeps (role e.name) h.0 e.kind e.point in (
      here.0,
      subst (λ (s : Site). LinesAllowed bytes s (es ++ ys)) (sym here.1) (passes-by bytes P site es keeps h.1 ys more),
    )

pub passes-kept : (bytes : List ℕ) (site : Site) (es : List Event) → Roles (Keeps bytes site) es →
    Passes bytes site site es
passes-kept bytes site es h = passes-by bytes (Keeps bytes site) site es (λ x k. k) h

-- those of no such leaf block leave one outside: so what opens a container passes by `passes-kept`, a footnote
-- definition with its prefix and its label as an item with its digits and its marker,
pub keeps-plain : (bytes : List ℕ) (x : Role) → is_plain x ≡ true → Keeps bytes Outside x
keeps-plain bytes (LeafRole OfCode) h kind p = absurd (true≢false (sym h))
keeps-plain bytes (TextRole AsHeading) h kind p = absurd (true≢false (sym h))
keeps-plain bytes x h Enter p = first_of (cc, search)
keeps-plain bytes x h Exit p = first_of (cc, search)

-- and those that the tree does not show leave one everywhere.
pub keeps-quiet : (bytes : List ℕ) (site : Site) → Keeps bytes site IsQuiet
keeps-quiet bytes Outside Enter p = (tt, refl)
keeps-quiet bytes Outside Exit p = (tt, refl)
keeps-quiet bytes _ Enter p = (tt, refl)
keeps-quiet bytes _ Exit p = (tt, refl)

-- So may a marker of a quote.
pub keeps-quote_marker : (bytes : List ℕ) (site : Site) → Keeps bytes site IsQuoteMarker
keeps-quote_marker bytes Outside Enter p = (tt, refl)
keeps-quote_marker bytes Outside Exit p = (tt, refl)
keeps-quote_marker bytes _ Enter p = (tt, refl)
keeps-quote_marker bytes _ Exit p = (tt, refl)

pub passes-quiet : (bytes : List ℕ) (site : Site) (es : List Event) → Roles Quiet es → Passes bytes site site es
passes-quiet bytes site es h = passes-by bytes Quiet site es one h
  where
    one : (x : Role) → Quiet x → Keeps bytes site x
    one IsQuiet h = keeps-quiet bytes site
    one _ h = absurd h

-- Between the lines of such a leaf block.

-- on a line of it, but not after a further fence
abbrev pub IsOnLine : Site → Type 0
IsOnLine (AtEnding kind) = Unit {0}
IsOnLine (AtLine kind) = Unit {0}
IsOnLine _ = ⊥

-- prefixes of containers may be there,
pub passes-prefixes : (bytes : List ℕ) (site : Site) (es : List Event) → IsOnLine site → Roles QuietOrPrefix es →
    Passes bytes site site es
passes-prefixes bytes site es on h = passes-by bytes QuietOrPrefix site es (λ x. one site x on) h
  where
    one : (site : Site) (x : Role) → IsOnLine site → QuietOrPrefix x → Keeps bytes site x
    one site (LeafRole k) on h kind p = absurd h
    one (AtEnding k) x on h Enter p = search
    one (AtLine k) x on h Enter p = search
    one (AtEnding k) x on h Exit p = search
    one (AtLine k) x on h Exit p = search
    one _ x on h kind p = absurd on

-- and an ending, after which one is here
abbrev pub ended_site : List ℕ → Point → Site → Site
ended_site bytes q site = site_by bytes site Exit IsEnding q

pub on-ended : (bytes : List ℕ) (q : Point) (site : Site) → IsOnLine site → IsOnLine (ended_site bytes q site)
on-ended bytes q (AtEnding kind) on = go (nat_lt q.index (length bytes))
  where
    go : (x : Bool) → IsOnLine (cond x (AtLine kind) (AtEnding kind))
    go true = tt
    go false = tt
on-ended bytes q (AtLine kind) on = tt
on-ended bytes q _ on = absurd on

pub passes-ending : (bytes : List ℕ) (p q : Point) (site : Site) → IsOnLine site →
    Passes bytes site (ended_site bytes q site) (pair n.LineEnding p q)
passes-ending bytes p q (AtEnding kind) on ys more = (tt, (tt, more))
passes-ending bytes p q (AtLine kind) on ys more = (tt, (tt, more))
passes-ending bytes p q _ on ys more = absurd on

-- A part around events.

-- an event of such a role goes from a site to a site
abbrev pub Steps : List ℕ → Site → Site → Kind → Role → Point → Type 0
Steps bytes from to kind x p = MayBeHere bytes from kind x p × (site_by bytes from kind x p ≡ to)

pub passes-event : (bytes : List ℕ) (from to : Site) (x : Role) (e : Event) → role e.name ≡ x →
    Steps bytes from to e.kind x e.point → Passes bytes from to (e ∷ [])
passes-event bytes from to x e is step ys more =
    subst
    (λ (y : Role).
    MayBeHere bytes from e.kind y e.point × LinesAllowed bytes (site_by bytes from e.kind y e.point) ys)
    (sym is) (step.0, subst (λ (s : Site). LinesAllowed bytes s ys) (sym step.1) more)

pub passes-around : (bytes : List ℕ) (from first last to : Site) (x : Role) (name : Name) (p q : Point)
    (es : List Event) → role name ≡ x → Steps bytes from first Enter x p → Passes bytes first last es →
    Steps bytes last to Exit x q → Passes bytes from to (around name p q es)
passes-around bytes from first last to x name p q es is begins h ends =
    passes-append bytes from first to (enter name p ∷ []) (es ++ exit name q ∷ [])
    (passes-event bytes from first x (enter name p) is begins)
    (passes-append bytes first last to es (exit name q ∷ []) h (passes-event bytes last to x (exit name q) is ends))

-- The leaf block.

-- where it may end
abbrev pub MayLeave : Site → Type 0
MayLeave (AtEnding kind) = Unit {0}
MayLeave (AtLine kind) = Unit {0}
MayLeave (AtEnd kind) = Unit {0}
MayLeave _ = ⊥

pub passes-leaf : (bytes : List ℕ) (name : Name) (kind : LeafKind) (p q : Point) (site : Site) (es : List Event) →
    role name ≡ LeafRole kind → HasLines kind → MayLeave site → Passes bytes (begun_site kind) site es →
    Passes bytes Outside Outside (around name p q es)
passes-leaf bytes name kind p q site es is lined leave h =
    passes-around bytes Outside (begun_site kind) site Outside (LeafRole kind) name p q es is (tt, refl) h
    (ends site leave)
  where
    ends : (site : Site) → MayLeave site → Steps bytes site Outside Exit (LeafRole kind) q
    ends (AtEnding k) leave = (lined, refl)
    ends (AtLine k) leave = (lined, refl)
    ends (AtEnd k) leave = (lined, refl)
    ends _ leave = absurd leave

-- Headings.

-- in a text part endings may be,
abbrev pub IsTextSite : Site → Type 0
IsTextSite Outside = Unit {0}
IsTextSite (InText kind purpose) = Unit {0}
IsTextSite InTitle = Unit {0}
IsTextSite InAtxText = Unit {0}
IsTextSite (InPart part q) = Unit {0}
IsTextSite (InParted part) = Unit {0}
IsTextSite InDestination = Unit {0}
IsTextSite (InTable (InCell row)) = Unit {0}
IsTextSite _ = ⊥

pub text-keeps : (bytes : List ℕ) (site : Site) (x : Role) → IsTextSite site → QuietOrEnding x → Keeps bytes site x
text-keeps bytes site (LeafRole k) text is kind p = absurd is
text-keeps bytes (InTable AtHead) x text is kind p = absurd text
text-keeps bytes Outside x text is Enter p = search
text-keeps bytes _ x text is Enter p = search
text-keeps bytes _ x text is Exit p = search

pub passes-inline : (bytes : List ℕ) (site : Site) (es : List Event) → IsTextSite site → Roles QuietOrEnding es →
    Passes bytes site site es
passes-inline bytes site es text h = passes-by bytes QuietOrEnding site es (λ x. text-keeps bytes site x text) h

-- as in that of an ATX heading, in which no prefix is
pub passes-atx_text : (bytes : List ℕ) (name : Name) (p q : Point) (es : List Event) → role name ≡ TextRole AsHeading →
    Roles QuietOrEnding es → Passes bytes Outside Outside (around name p q es)
passes-atx_text bytes name p q es is h =
    passes-around bytes Outside InAtxText InAtxText Outside (TextRole AsHeading) name p q es is (tt, refl)
    (passes-inline bytes InAtxText es tt h) (tt, refl)

-- in the text of a setext heading, and after it, endings and prefixes may be; and so they may in a part of a definition
-- that is parted, between its parts, and between the rows of a table
abbrev pub TakesLines : Site → Type 0
TakesLines InTitle = Unit {0}
TakesLines AfterTitle = Unit {0}
TakesLines (InParted part) = Unit {0}
TakesLines (AfterPart left) = Unit {0}
TakesLines (InTable AfterHead) = Unit {0}
TakesLines (InTable AfterRow) = Unit {0}
TakesLines _ = ⊥

pub passes-lines : (bytes : List ℕ) (site : Site) (es : List Event) → TakesLines site → Roles Between es →
    Passes bytes site site es
passes-lines bytes site es takes h = passes-by bytes Between site es (λ x. one site x takes) h
  where
    one : (site : Site) (x : Role) → TakesLines site → Between x → Keeps bytes site x
    one site (LeafRole k) takes h kind p = absurd h
    one (InTable AtHead) x takes h kind p = absurd takes
    one InTitle x takes h Enter p = search
    one _ x takes h Enter p = search
    one _ x takes h Exit p = search

-- its text
pub passes-title : (bytes : List ℕ) (name : Name) (p q : Point) (es : List Event) → role name ≡ TextRole AsHeading →
    Roles Between es → Passes bytes AtTitle AfterTitle (around name p q es)
passes-title bytes name p q es is h =
    passes-around bytes AtTitle InTitle InTitle AfterTitle (TextRole AsHeading) name p q es is (tt, refl)
    (passes-lines bytes InTitle es tt h) (tt, refl)

-- what is between that and its underline
pub passes-gap : (bytes : List ℕ) (es : List Event) → Roles Between es → Passes bytes AfterTitle AfterTitle es
passes-gap bytes es h = passes-lines bytes AfterTitle es tt h

-- the markers of its underline
pub passes-underline : (bytes : List ℕ) (name : Name) (p q : Point) (es : List Event) →
    role name ≡ TextRole AsMarkers → Roles Quiet es → Passes bytes AfterTitle AfterUnderline (around name p q es)
passes-underline bytes name p q es is h =
    passes-around bytes AfterTitle InUnderline InUnderline AfterUnderline (TextRole AsMarkers) name p q es
    is (tt, refl)
    (passes-quiet bytes InUnderline es h) (tt, refl)

-- all of it
pub passes-heading : (bytes : List ℕ) (name : Name) (p q : Point) (es : List Event) →
    role name ≡ LeafRole OfHeadingSetext → Passes bytes AtTitle AfterUnderline es →
    Passes bytes Outside Outside (around name p q es)
passes-heading bytes name p q es is h =
    passes-around bytes Outside AtTitle AfterUnderline Outside (LeafRole OfHeadingSetext) name p q es is (tt, refl) h
    (tt, refl)
