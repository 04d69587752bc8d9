-- What an outline has read agrees with the tree event by event, where leaf blocks of several lines may be.
use Rattle.std.proofs.Common.{◌≡◌, ℕ, true, false, cond, List, [], ◌∷◌, ◌++◌, slice_range, refl, sym, ◌∙◌, ap, subst}
use Rattle.std.specs.Prelude.{None, Option, Some}
use Rattle.md_engine.specs.declared.event.Kind.{Kind}
use Rattle.md_engine.specs.declared.event.Kind.TheVariants.{Enter, Exit}
use Rattle.md_engine.specs.declared.event.Point.{Point}
use Rattle.md_meaning.specs.declared.outline.Word.TheVariants as word
use Rattle.md_meaning.specs.Outline.{outline}
use Rattle.md_meaning.specs.Tree.{Line}
use Rattle.md_events.specs.Events.Spelled.{AsDestination, AsHeading, AsInfo, AsLabel, AsLine, AsMarkers, AsMeta}
use Rattle.md_events.specs.Events.Spelled.{AsTitle, FootnoteShape, ContainerRole, IsEnding, IsFence, IsPrefix, IsQuiet}
use Rattle.md_events.specs.Events.Spelled.{IsQuoteMarker, IsTitle, LeafKind, OfCode, OfDefinition, OfFence}
use Rattle.md_events.specs.Events.Spelled.{OfFrontmatter, OfHeadingSetext, OfHtml, OfMath, OfTable, LeafRole}
use Rattle.md_events.specs.Events.Spelled.{OrderedShape, Reading, TextRole, UnorderedShape, byte_at, columns_left}
use Rattle.md_events.specs.Events.Spelled.{empty_line, no_heading, read_by, read_exit, next_line}
use Rattle.md_events.specs.Events.Spelled as spelled
use Rattle.md_outline.specs.HeadingDepths.{are_shallow}
use Rattle.md_outline.specs.LinesAllowed.{AtEnd, AtEnding, AtInfo, AtLabel, AtLine, AtMarkers, AtMeta, AtTitle}
use Rattle.md_outline.specs.LinesAllowed.{AtTitleText, AfterPart, AfterTitle, AfterTitleText, AfterUnderline, HasFences}
use Rattle.md_outline.specs.LinesAllowed.{HasInfo, HasMeta, InAtxText, InDestination, InEnd, InMarkers, InPart}
use Rattle.md_outline.specs.LinesAllowed.{InParted, InTable, InText, InTitle, InUnderline, LabelPart, LinesAllowed}
use Rattle.md_outline.specs.LinesAllowed.{MayBeHere, Outside, SameText, Site, TitlePart, site_by, table_site, text_site}
use Rattle.md_outline.specs.TablePlaces.{TablePlace, spot_by}
use Rattle.md_outline.specs.ListsBegin.{AllRecorded, MayFollow, Stage, stage_by}
use Rattle.md_outline.specs.Outlined.{is_unparted, parts_by}
use Rattle.md_outline.specs.OutlineSteps.{OutlineState, state_by, state_exit, recorded_leaf}
use Rattle.md_outline.specs.Roles.{is_shown, shown_as}
use Rattle.md_outline.specs.declared.outline.role.Note.TheVariants as note
use Rattle.md_outline.specs.declared.outline.role.Purpose.TheVariants as purpose
use Rattle.md_outline.proofs.DefinedLemmas as defined
use Rattle.md_outline.proofs.ListLemmas.{AgreesAt, agrees-stage, lines-closed}
use Rattle.md_outline.proofs.OutlineAgrees.{Agrees, agrees-begun, agrees-ending, agrees-quote_marker, agrees-title}
use Rattle.md_outline.proofs.OutlineAgrees.{apart}
use Rattle.md_outline.proofs.RoleLemmas.{IsFresh}
use Rattle.md_outline.proofs.SiteTexts.{IsOpen, NoText, TextFrom, from-here, marker-within, no-span, prefix-enter}
use Rattle.md_outline.proofs.SiteTexts.{prefix-exit, span-quoted, text-ending, text-ends}
use Rattle.md_outline.proofs.TabledLemmas as tabled
use Rattle.md_outline.proofs.TitledLemmas as titled
use Rattle.md_outline.proofs.TitledLemmas.{title-ends, title-from, title-line, title-prefix, underline-ends}
use Rattle.md_outline.proofs.LinedLemmas.{Ended, InTextOf, Lining, Marked, OnLine, ending-agrees, fence-begins}
use Rattle.md_outline.proofs.LinedLemmas.{fence-closes, info-recorded, leaf-ends, line-ended, line-opens, line-recorded}
use Rattle.md_outline.proofs.LinedLemmas.{lining-ends, markers-are_valid, markers-recorded, meta-recorded, text-open}
use Rattle.md_outline.proofs.LinedLemmas.{span-fenced, span-headed, span-line}
use Rattle.md_outline.proofs.LeavesOpen.{gap-line, known-next, known-open, leaf-begins, open-ends}

-- What is known at each site.

abbrev pub AgreesIn : Site → OutlineState → Reading → Type 0
AgreesIn Outside s r = ⊥
AgreesIn (AtMarkers kind) s r = HasFences kind × Lining kind [] None None [] false false s r × NoText s r
AgreesIn (InMarkers kind q) s r = HasFences kind × Lining kind [] None None [] false false s r × TextFrom q s r
AgreesIn (AtInfo kind) s r = HasFences kind × Marked kind None None [] false s r × NoText s r
AgreesIn (AtMeta kind) s r =
    HasMeta kind × ((info : Option (List ℕ)) × Marked kind info None [] false s r) × NoText s r
AgreesIn (InText kind x) s r = InTextOf kind x s r × ((q : Point) × TextFrom q s r)
AgreesIn (AtEnding kind) s r = Ended kind false s r × NoText s r
AgreesIn (AtLine kind) s r = OnLine kind s r × NoText s r
AgreesIn (AtEnd kind) s r = HasFences kind × Ended kind true s r × NoText s r
AgreesIn (InEnd kind) s r = HasFences kind × Ended kind true s r × ((q : Point) × TextFrom q s r)
AgreesIn AtTitle s r = titled.Headed 0 no_heading false s r × NoText s r
AgreesIn InTitle s r = titled.InText s r
AgreesIn AfterTitle s r = titled.Unmarked s r × NoText s r
AgreesIn InUnderline s r = titled.Unmarked s r × ((q : Point) × TextFrom q s r)
AgreesIn AfterUnderline s r = titled.IsMarked s r × NoText s r
AgreesIn InAtxText s r = Agrees s r × (is_unparted s.text ≡ true)
AgreesIn AtLabel s r = defined.AtText LabelPart s r × NoText s r
AgreesIn (InPart part q) s r = defined.AtText part s r × TextFrom q s r
AgreesIn (InParted part) s r = defined.InText part s r
AgreesIn (AfterPart left) s r = defined.Following left s r × NoText s r
AgreesIn InDestination s r = defined.InDestinationText s r × ((q : Point) × TextFrom q s r)
AgreesIn AtTitleText s r = defined.AtText TitlePart s r × NoText s r
AgreesIn AfterTitleText s r = defined.AfterText s r × NoText s r
AgreesIn (InTable spot) s r = tabled.AgreesSpot spot s r

-- One event.

abbrev pub AgreesWithin : Site → Stage → OutlineState → Reading → Type 0
AgreesWithin Outside stage s r = AgreesAt stage s r
AgreesWithin site AllRecorded s r = AgreesIn site s r
AgreesWithin site stage s r = ⊥

has-meta : (kind : LeafKind) → HasInfo kind → HasMeta kind
has-meta OfFence h = tt
has-meta _ h = absurd h

-- after an event in a table
table-agrees : (spot : Option TablePlace) (s : OutlineState) (r : Reading) → tabled.AgreesAfter spot s r →
    AgreesWithin (table_site spot) AllRecorded s r
table-agrees None s r is = is
table-agrees (Some spot) s r is = is

-- what a text that begins at a point and ends at another is read as
abbrev line_to : List ℕ → Point → Point → Line
line_to bytes q p = record { spaces = columns_left q; text = slice_range bytes (byte_at q) p.index }

abbrev markers_noted : List ℕ → Point → Point → OutlineState → OutlineState
markers_noted bytes q p s = recorded_leaf note.Markers (line_to bytes q p).text (record s { text = None })

-- a text of it ends
text-agrees : (bytes : List ℕ) (kind : LeafKind) (y x : spelled.Purpose) (p : Point) (s : OutlineState)
    (r : Reading) → SameText y x → InTextOf kind y s r × ((q : Point) × TextFrom q s r) →
    AgreesWithin (text_site kind y) AllRecorded (state_exit bytes (shown_as (TextRole x)) p s)
    (read_exit bytes (TextRole x) p r)
text-agrees bytes kind AsInfo AsInfo p s r same is =
    let line : Line = line_to bytes is.1.0 p in
    text-ends (AgreesIn (AtMeta kind)) bytes is.1.0 p AsInfo (purpose.Part word.Info) s r is.1.1
    (has-meta kind is.0.0, (Some line.text, info-recorded kind line s r is.0.0 is.0.1), (refl, refl))
text-agrees bytes kind AsMeta AsMeta p s r same is =
    let line : Line = line_to bytes is.1.0 p in
    text-ends (AgreesIn (AtEnding kind)) bytes is.1.0 p AsMeta (purpose.Part word.Meta) s r is.1.1
    ((is.0.1.0, Some line.text, [], meta-recorded kind is.0.1.0 line s r is.0.0 is.0.1.1), (refl, refl))
text-agrees bytes kind AsLine AsLine p s r same is =
    let line : Line = line_to bytes is.1.0 p in
    text-ends (AgreesIn (AtEnding kind)) bytes is.1.0 p AsLine purpose.Line s r is.1.1 (
      (
        is.0.0,
        is.0.1,
        is.0.2 ++ line ∷ [],
        line-recorded kind is.0.0 is.0.1 is.0.2 line s r is.1.1.spaces is.0.3,
      ),
      (refl, refl),
    )
text-agrees bytes kind _ _ p s r same is = absurd same

-- At each site but in an ATX heading a leaf block of several lines is open.
abbrev IsOpenAt : Site → OutlineState → Reading → Type 0
IsOpenAt InAtxText s r = Unit {0}
IsOpenAt _ s r = IsOpen s r

site-open : (site : Site) (s : OutlineState) (r : Reading) → AgreesIn site s r → IsOpenAt site s r
site-open Outside s r is = absurd is
site-open (AtMarkers k) s r is = known-open s r is.1.0
site-open (InMarkers k q) s r is = known-open s r is.1.0
site-open (AtInfo k) s r is = known-open s r is.1.3.0
site-open (AtMeta k) s r is = known-open s r is.1.1.3.0
site-open (InText k y) s r is = text-open k y s r is.0
site-open (AtEnding k) s r is = known-open s r is.0.3.3.0
site-open (AtLine k) s r is = known-open s r is.0.3.3.0
site-open (AtEnd k) s r is = known-open s r is.1.3.3.0
site-open (InEnd k) s r is = known-open s r is.1.3.3.0
site-open AtTitle s r is = known-open s r is.0.0
site-open InTitle s r is = known-open s r is.0
site-open AfterTitle s r is = known-open s r is.0.1.0
site-open InUnderline s r is = known-open s r is.0.1.0
site-open AfterUnderline s r is = known-open s r is.0.1.0
site-open InAtxText s r is = tt
site-open AtLabel s r is = known-open s r is.0.2.0
site-open (InPart part q) s r is = known-open s r is.0.2.0
site-open (InParted part) s r is = known-open s r is.2
site-open (AfterPart left) s r is = known-open s r is.0.4.0
site-open InDestination s r is = known-open s r is.0.1.0
site-open AtTitleText s r is = known-open s r is.0.2.0
site-open AfterTitleText s r is = known-open s r is.0.4.0
site-open (InTable spot) s r is = tabled.spot-open spot s r is

-- What an outline has read agrees with the tree after each event that may come at a site: after what is anywhere, and
-- in fences, in the lines after them, in headings and in definitions.
agrees-in : (bytes : List ℕ) (site : Site) (kind : Kind) (x : spelled.Role) (p : Point) (s : OutlineState)
    (r : Reading) → parts_by bytes kind x p s.text ≡ true → MayBeHere bytes site kind x p → AgreesIn site s r →
    AgreesWithin (site_by bytes site kind x p) AllRecorded (state_by bytes kind (shown_as x) p s)
    (read_by bytes kind x p r)
agrees-in bytes Outside kind x p s r parts may is = absurd is
agrees-in bytes (InTable spot) kind x p s r parts may is =
    table-agrees (spot_by spot kind x) (state_by bytes kind (shown_as x) p s) (read_by bytes kind x p r)
    (tabled.agrees-spot bytes spot kind x p s r may is)
agrees-in bytes InAtxText Enter IsQuoteMarker p s r parts may is =
    (agrees-quote_marker bytes p s r is.0, ap is_unparted (span-quoted bytes p.index s.text s.leaf s.lined s) ∙ is.1)
agrees-in bytes site Enter IsQuoteMarker p s r parts may is =
    marker-within (AgreesIn site) bytes p s r (site-open site s r is) is
agrees-in bytes site Exit IsQuoteMarker p s r parts may is = is
agrees-in bytes site Enter IsQuiet p s r parts may is = is
agrees-in bytes site Exit IsQuiet p s r parts may is = is
agrees-in bytes site Enter IsEnding p s r parts may is = is
agrees-in bytes (AtMarkers k) Enter IsFence p s r parts may is =
    (is.0, fence-begins k s r is.1, (span-fenced s.lined s ∙ is.2.0, is.2.1))
agrees-in bytes (AtMarkers k) Enter (TextRole AsMarkers) p s r parts may is = (is.0, is.1, from-here p s r)
agrees-in bytes (InMarkers k q) Exit (TextRole AsMarkers) p s r parts may is =
    text-ends (AgreesIn (AtInfo k)) bytes q p AsMarkers purpose.Markers s r is.2 (
      is.0,
      markers-recorded k (line_to bytes q p) s r is.0 may is.1,
      (span-headed s.lined (line_to bytes q p).text (markers_noted bytes q p s), refl),
    )
agrees-in bytes (AtInfo k) Enter (TextRole AsInfo) p s r parts may is = ((may, is.1), (p, from-here p s r))
agrees-in bytes (AtInfo k) Enter (TextRole AsMeta) p s r parts may is = ((may, (None, is.1)), (p, from-here p s r))
agrees-in bytes (AtInfo k) Exit IsFence p s r parts may is = ((None, None, [], is.1), is.2)
agrees-in bytes (AtMeta k) Enter (TextRole AsMeta) p s r parts may is = ((is.0, is.1), (p, from-here p s r))
agrees-in bytes (AtMeta k) Exit IsFence p s r parts may is = ((is.1.0, None, [], is.1.1), is.2)
agrees-in bytes (InText k y) Exit IsEnding p s r parts may is =
    text-ending (AgreesIn (InText k y)) bytes is.1.0 p s r is.1.1 is
agrees-in bytes (InText k y) Exit (TextRole x) p s r parts may is = text-agrees bytes k y x p s r may is
agrees-in bytes (AtEnding k) Enter IsPrefix p s r parts may is =
    prefix-enter (Ended k false) bytes p s r (λ s r span spaces text is. is) is
agrees-in bytes (AtEnding k) Exit IsPrefix p s r parts may is =
    prefix-exit (Ended k false) bytes p s r (λ s r span spaces text is. is) is
agrees-in bytes (AtEnding k) Exit IsEnding p s r parts may is =
    ending-agrees (λ x s r. AgreesWithin (cond x (AtLine k) (AtEnding k)) AllRecorded s r) bytes p k s r is.0 is.1
    (line-opens k s r is.0, is.1) is
agrees-in bytes (AtEnding k) Exit IsFence p s r parts may is = is
agrees-in bytes (AtEnding k) Exit (LeafRole x) p s r parts may is =
    leaf-ends bytes x p s r may (lining-ends k is.0.0 is.0.1 is.0.2 false s r is.0.3 is.1)
agrees-in bytes (AtLine k) Enter IsPrefix p s r parts may is =
    prefix-enter (OnLine k) bytes p s r (λ s r span spaces text is. is) is
agrees-in bytes (AtLine k) Exit IsPrefix p s r parts may is =
    prefix-exit (OnLine k) bytes p s r (λ s r span spaces text is. is) is
agrees-in bytes (AtLine k) Exit IsEnding p s r parts may is =
    ending-agrees (λ x s r. OnLine k s r × NoText s r) bytes p k s r (line-ended k s r is.0) is.1
    (line-opens k s r (line-ended k s r is.0), is.1) is
agrees-in bytes (AtLine k) Enter (TextRole AsLine) p s r parts may is = (is.0, (p, from-here p s r))
agrees-in bytes (AtLine k) Enter IsFence p s r parts may is = (
  may,
  (is.0.0, is.0.1, is.0.2, fence-closes k is.0.0 is.0.1 is.0.2 s r may is.0.3),
  (span-fenced s.lined s ∙ is.1.0, is.1.1),
)
agrees-in bytes (AtLine k) Exit (LeafRole x) p s r parts may is =
    leaf-ends bytes x p s r may (lining-ends k is.0.0 is.0.1 (is.0.2 ++ empty_line ∷ []) false s r is.0.3 is.1)
agrees-in bytes (AtEnd k) Enter (TextRole AsMarkers) p s r parts may is = (is.0, is.1, (p, from-here p s r))
agrees-in bytes (AtEnd k) Exit IsFence p s r parts may is = is
agrees-in bytes (AtEnd k) Exit (LeafRole x) p s r parts may is =
    leaf-ends bytes x p s r may (lining-ends k is.1.0 is.1.1 is.1.2 true s r is.1.3 is.2)
agrees-in bytes (InEnd k) Exit (TextRole AsMarkers) p s r parts may is =
    text-ends (AgreesIn (AtEnd k)) bytes is.2.0 p AsMarkers purpose.Markers s r is.2.1 (
      is.0,
      (is.1.0, is.1.1, is.1.2, markers-are_valid k is.1.0 is.1.1 is.1.2 (line_to bytes is.2.0 p) s r is.0 is.1.3),
      (span-headed s.lined (line_to bytes is.2.0 p).text (markers_noted bytes is.2.0 p s), refl),
    )
agrees-in bytes AtTitle Enter (TextRole AsHeading) p s r parts may is = (is.0.0, (refl, (is.0.1, refl)))
agrees-in bytes InTitle Enter IsPrefix p s r parts may is = title-prefix bytes p s r parts is
agrees-in bytes InTitle Exit IsPrefix p s r parts may is =
    (is.0, title-from p (titled.head_lines s r) s.depth s.lines s.text r.text is.1)
agrees-in bytes InTitle Exit IsEnding p s r parts may is = title-line bytes p s r is
agrees-in bytes InTitle Exit (TextRole AsHeading) p s r parts may is = title-ends bytes p s r parts is
agrees-in bytes AfterTitle Enter IsPrefix p s r parts may is =
    prefix-enter titled.Unmarked bytes p s r (λ s r span spaces text is. is) is
agrees-in bytes AfterTitle Exit IsPrefix p s r parts may is =
    prefix-exit titled.Unmarked bytes p s r (λ s r span spaces text is. is) is
agrees-in bytes AfterTitle Exit IsEnding p s r parts may is =
    gap-line titled.Unmarked bytes p s r is.0.1.0 refl (is.0.0, (known-next next_line is.0.1.0 refl, is.0.1.1)) is
agrees-in bytes AfterTitle Enter (TextRole AsMarkers) p s r parts may is = (is.0, (p, from-here p s r))
agrees-in bytes InUnderline Exit (TextRole AsMarkers) p s r parts may is =
    underline-ends bytes is.1.0 p s r is.0 is.1.1
agrees-in bytes AfterUnderline Exit (LeafRole OfHeadingSetext) p s r parts may is =
    open-ends s r is.0.1.0 is.0.1.1 is.1
agrees-in bytes InAtxText Exit IsEnding p s r parts may is =
    (agrees-ending bytes p s r is.0, ap is_unparted (span-line bytes p.index s.lined s.text s) ∙ is.1)
agrees-in bytes InAtxText Exit (TextRole AsHeading) p s r parts may is =
    agrees-title bytes p s r s.text r.text is.0.text is.1 is.0
agrees-in bytes AtLabel Enter (TextRole AsLabel) p s r parts may is = (is.0, from-here p s r)
agrees-in bytes (InPart part q) Enter IsPrefix p s r parts may is = defined.part-parts bytes part q p s r may parts is
agrees-in bytes (InPart part q) Exit IsEnding p s r parts may is =
    text-ending (AgreesIn (InPart part q)) bytes q p s r is.1 is
agrees-in bytes (InPart LabelPart q) Exit (TextRole AsLabel) p s r parts may is = defined.label-first bytes q p s r is
agrees-in bytes (InPart TitlePart q) Exit (TextRole AsTitle) p s r parts may is = defined.title-first bytes q p s r is
agrees-in bytes (InParted part) Enter IsPrefix p s r parts may is = defined.part-prefix bytes part p s r parts is
agrees-in bytes (InParted part) Exit IsPrefix p s r parts may is = defined.part-on part p s r is
agrees-in bytes (InParted part) Exit IsEnding p s r parts may is = defined.part-line bytes part p s r is
agrees-in bytes (InParted LabelPart) Exit (TextRole AsLabel) p s r parts may is =
    defined.label-ends bytes p s r parts is
agrees-in bytes (InParted TitlePart) Exit (TextRole AsTitle) p s r parts may is =
    defined.title-ends bytes p s r parts is
agrees-in bytes (AfterPart left) Enter IsPrefix p s r parts may is =
    prefix-enter (defined.Following left) bytes p s r (λ s r span spaces text is. is) is
agrees-in bytes (AfterPart left) Exit IsPrefix p s r parts may is =
    prefix-exit (defined.Following left) bytes p s r (λ s r span spaces text is. is) is
agrees-in bytes (AfterPart left) Exit IsEnding p s r parts may is =
    gap-line (defined.Following left) bytes p s r is.0.4.0 refl
    (is.0.0, is.0.1, is.0.2, is.0.3, (known-next next_line is.0.4.0 refl, is.0.4.1)) is
agrees-in bytes (AfterPart left) Enter (TextRole AsDestination) p s r parts may is =
    defined.destination-begins left p s r may is.0
agrees-in bytes (AfterPart left) Enter IsTitle p s r parts may is = defined.title-begins bytes left p s r may is
agrees-in bytes (AfterPart left) Exit (LeafRole OfDefinition) p s r parts may is =
    open-ends s r is.0.4.0 is.0.4.1 is.1
agrees-in bytes InDestination Exit IsEnding p s r parts may is =
    text-ending (AgreesIn InDestination) bytes is.1.0 p s r is.1.1 is
agrees-in bytes InDestination Exit (TextRole AsDestination) p s r parts may is =
    defined.destination-ends bytes is.1.0 p s r is.0 is.1.1
agrees-in bytes AtTitleText Enter (TextRole AsTitle) p s r parts may is = (is.0, from-here p s r)
agrees-in bytes AtTitleText Exit IsTitle p s r parts may is = defined.title-empty bytes p s r is
agrees-in bytes AfterTitleText Exit IsTitle p s r parts may is = defined.title-full bytes p s r is
agrees-in bytes site kind x p s r parts may is = absurd may

-- no list begins there
stage-stays : (bytes : List ℕ) (site : Site) (kind : Kind) (x : spelled.Role) (p : Point) (s : OutlineState)
    (r : Reading) → MayBeHere bytes site kind x p → AgreesIn site s r → stage_by AllRecorded kind x p ≡ AllRecorded
stage-stays bytes Outside kind x p s r may is = absurd is
stage-stays bytes site Enter (ContainerRole OrderedShape) p s r may is = absurd may
stage-stays bytes site Enter (ContainerRole UnorderedShape) p s r may is = absurd may
stage-stays bytes site Enter (ContainerRole (FootnoteShape label)) p s r may is = absurd may
stage-stays bytes site Enter x p s r may is = refl
stage-stays bytes site Exit x p s r may is = refl

pub agrees-site : (bytes : List ℕ) (site : Site) (stage : Stage) (kind : Kind) (x : spelled.Role) (p : Point)
    (s : OutlineState) (r : Reading) → is_shown x ≡ true → IsFresh x → parts_by bytes kind x p s.text ≡ true →
    are_shallow (read_by bytes kind x p r).here ≡ true → MayFollow bytes stage kind x p →
    MayBeHere bytes site kind x p → AgreesWithin site stage s r →
    AgreesWithin (site_by bytes site kind x p) (stage_by stage kind x p) (state_by bytes kind (shown_as x) p s)
    (read_by bytes kind x p r)
agrees-site bytes Outside AllRecorded Enter (LeafRole OfCode) p s r h fresh k d may valid is =
    let begins = leaf-begins bytes OfCode word.Code p s r (no-span bytes OfCode p s.text refl k) is in
    ((None, None, [], ([], false, tt, begins.0)), begins.1)
agrees-site bytes Outside AllRecorded Enter (LeafRole OfHtml) p s r h fresh k d may valid is =
    let begins = leaf-begins bytes OfHtml word.Html p s r (no-span bytes OfHtml p s.text refl k) is in
    ((None, None, [], ([], false, tt, begins.0)), begins.1)
agrees-site bytes Outside AllRecorded Enter (LeafRole OfFence) p s r h fresh k d may valid is =
    let begins = leaf-begins bytes OfFence (word.Fence 0 false) p s r (no-span bytes OfFence p s.text refl k) is in
    (tt, begins.0, begins.1)
agrees-site bytes Outside AllRecorded Enter (LeafRole OfMath) p s r h fresh k d may valid is =
    let begins = leaf-begins bytes OfMath (word.Math false) p s r (no-span bytes OfMath p s.text refl k) is in
    (tt, begins.0, begins.1)
agrees-site bytes Outside AllRecorded Enter (LeafRole OfFrontmatter) p s r h fresh k d may valid is =
    let begins =
    leaf-begins bytes OfFrontmatter (word.Frontmatter 0) p s r (no-span bytes OfFrontmatter p s.text refl k)
    is in
    (tt, begins.0, begins.1)
agrees-site bytes Outside AllRecorded Enter (LeafRole OfHeadingSetext) p s r h fresh k d may valid is =
    leaf-begins bytes OfHeadingSetext (word.Heading 0) p s r (no-span bytes OfHeadingSetext p s.text refl k) is
agrees-site bytes Outside AllRecorded Enter (LeafRole OfDefinition) p s r h fresh k d may valid is =
    let begins = leaf-begins bytes OfDefinition word.Definition p s r (no-span bytes OfDefinition p s.text refl k) is in
    (([], [], begins.0), begins.1)
agrees-site bytes Outside AllRecorded Enter (LeafRole OfTable) p s r h fresh k d may valid is =
    leaf-begins bytes OfTable (word.Table 0) p s r (no-span bytes OfTable p s.text refl k) is
agrees-site bytes Outside AllRecorded Enter (TextRole AsHeading) p s r h fresh k d may valid is =
    (agrees-begun p s r (apart bytes Enter (TextRole AsHeading) p s.text (λ t. refl) k) is, refl)
agrees-site bytes Outside AllRecorded Enter (LeafRole x) p s r h fresh k d may valid is =
    agrees-stage bytes AllRecorded Enter (LeafRole x) p s r h fresh k d may is
agrees-site bytes Outside stage Enter (LeafRole x) p s r h fresh k d may valid is = absurd may
agrees-site bytes Outside stage Enter (TextRole AsHeading) p s r h fresh k d may valid is = absurd may
agrees-site bytes Outside stage Exit (LeafRole OfCode) p s r h fresh k d may valid is = absurd valid
agrees-site bytes Outside stage Exit (TextRole AsHeading) p s r h fresh k d may valid is = absurd valid
agrees-site bytes Outside stage kind x p s r h fresh k d may valid is =
    agrees-stage bytes stage kind x p s r (search) fresh k d may is
agrees-site bytes site AllRecorded kind x p s r h fresh k d may valid is =
    subst
    (λ stage.
    AgreesWithin (site_by bytes site kind x p) stage (state_by bytes kind (shown_as x) p s) (read_by bytes kind x p r))
    (sym (stage-stays bytes site kind x p s r valid is)) (agrees-in bytes site kind x p s r k valid is)
agrees-site bytes site stage kind x p s r h fresh k d may valid is = absurd is

-- all events
pub sites-closed : (bytes : List ℕ) (site : Site) (stage : Stage) (s : OutlineState) (r : Reading) → r.outer ≡ [] →
    is_unparted s.text ≡ true → LinesAllowed bytes site [] → AgreesWithin site stage s r → s.lines ≡ outline 0 r.here
sites-closed bytes Outside stage s r e k lines is = lines-closed stage s r e k is
sites-closed bytes _ stage s r e k lines is = absurd lines
