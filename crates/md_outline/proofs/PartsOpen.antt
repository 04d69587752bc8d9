-- What is being read of a text, of a leaf block, or of a list or a footnote definition that has begun is in a part that
-- is open. So where each part has ended, nothing is being read.
use Rattle.std.proofs.Common.{◌≡◌, ℕ, Bool, true, false, cond, List, [], ◌∷◌, length, nat_lt, refl, sym, subst}
use Rattle.std.specs.Prelude.{◌||◌, Option, Some, None, option_map}
use Rattle.std.specs.List.{list_any}
use Rattle.std.proofs.lemmas.Bool.{or_right, true≢false}
use Rattle.md_engine.specs.declared.event.Kind.{Kind}
use Rattle.md_engine.specs.declared.event.Kind.TheVariants.{Enter, Exit}
use Rattle.md_engine.specs.declared.event.Name.{Name}
use Rattle.md_engine.specs.declared.event.Point.{Point}
use Rattle.md_events.specs.Events.Nested.{Fits, open_following}
use Rattle.md_events.specs.Events.Spelled.{AsFootnoteLabel, AsHeading, AsInfo, AsItemMarker, AsLine, AsMarkers}
use Rattle.md_events.specs.Events.Spelled.{ContainerRole}
use Rattle.md_events.specs.Events.Spelled.{FootnoteShape, IsEnding, IsPrefix, IsQuoteMarker, LeafKind, LeafRole}
use Rattle.md_events.specs.Events.Spelled.{OpenLeaf, OrderedShape, Purpose, Reading, Role, Text, TextRole}
use Rattle.md_events.specs.Events.Spelled.{UnorderedShape, finished, left, read_by, read_enter, read_exit, role}
use Rattle.md_events.specs.Events.Spelled.{IsCell, IsFence, IsRow, IsTitle, OfBare, OfHeadingAtx, OpenContainer}
use Rattle.md_events.specs.Events.Spelled.{after_prefix, at_cell, at_fence, at_row, at_title, before_prefix}
use Rattle.md_events.specs.Events.Spelled.{after_title, next_line, recorded_at, unread}
use Rattle.md_outline.specs.LinesAllowed.{AtEnd, AtEnding, AtLine, AtMarkers, AfterPart, AfterUnderline, InAtxText}
use Rattle.md_outline.specs.LinesAllowed.{InEnd, InMarkers, InPart, InParted, InTable, InText, LabelPart, MayBeHere}
use Rattle.md_outline.specs.LinesAllowed.{Outside, Part, Site}
use Rattle.md_outline.specs.LinesAllowed.{TitlePart, begun_site, ending_site, part_site, site_by, table_site, text_site}
use Rattle.md_outline.specs.ListsBegin.{AllRecorded, AtItem, AtLabel, AtMarker, InMarker, MayFollow, Stage, stage_by}
use Rattle.md_outline.specs.Outlined.{span_by, span_enter, span_exit}
use Rattle.md_outline.specs.TablePlaces.{TablePlace, AfterRow, spot_by}
use Rattle.md_outline.specs.declared.outline.TextSpan.{TextSpan}
use Rattle.md_outline.proofs.RoleLemmas.{by-ending, by-marker, by-recorded_at}

-- Parts of a kind.

abbrev is_text : Role → Bool
is_text (TextRole x) = true
is_text _ = false

abbrev is_leaf : Role → Bool
is_leaf (LeafRole kind) = true
is_leaf _ = false

abbrev is_container : Role → Bool
is_container (ContainerRole shape) = true
is_container _ = false

-- whether such a part is open
abbrev is_open : (Role → Bool) → List Name → Bool
is_open p names = list_any (λ (name : Name). p (role name)) names

-- What there is is in such a part: `inside` says whether one is open.
abbrev Within : {A : Type 0} → Bool → Option A → Type 0
Within inside None = Unit {0}
Within inside (Some a) = inside ≡ true

-- where in a leaf block one is: in the text of an ATX heading, or in a leaf block of several lines
abbrev SiteWithin : Bool → Bool → Site → Type 0
SiteWithin text leaf Outside = Unit {0}
SiteWithin text leaf InAtxText = text ≡ true
SiteWithin text leaf _ = leaf ≡ true

-- what is to come of a container
abbrev StageWithin : Bool → Stage → Type 0
StageWithin container AllRecorded = Unit {0}
StageWithin container _ = container ≡ true

-- A part begins or ends: its role is `x`, and the others that are open are as before.

within-mapped : {A B : Type 0} (f : A → B) (inside : Bool) (o : Option A) → Within inside o →
    Within inside (option_map f o)
within-mapped f inside None h = tt
within-mapped f inside (Some a) h = h

-- The text of an outline.

span-enters : (x : Role) (p : Point) (inside : Bool) (span : Option TextSpan) → Within inside span →
    Within (is_text x || inside) (span_enter x p span)
span-enters (TextRole y) p inside span h = refl
span-enters IsPrefix p inside None h = tt
span-enters IsPrefix p inside (Some span) h = h
span-enters _ p inside span h = h

span-exits : (x : Role) (p : Point) (inside : Bool) (span : Option TextSpan) → Within (is_text x || inside) span →
    Within inside (span_exit x p span)
span-exits (TextRole y) p inside span h = tt
span-exits IsPrefix p inside None h = tt
span-exits IsPrefix p inside (Some span) h = h
span-exits _ p inside span h = h

-- The leaf blocks of several lines.

site-begun : (kind : LeafKind) (text : Bool) → SiteWithin text true (begun_site kind)
site-begun OfHeadingAtx text = tt
site-begun (OfBare word) text = tt
site-begun _ text = refl

site-ending : (bytes : List ℕ) (p : Point) (kind : LeafKind) (text leaf : Bool) → leaf ≡ true →
    SiteWithin text leaf (ending_site bytes p kind (AtEnding kind))
site-ending bytes p kind text leaf h = go (nat_lt p.index (length bytes))
  where
    go : (x : Bool) → SiteWithin text leaf (cond x (AtLine kind) (AtEnding kind))
    go true = h
    go false = h

site-text : (kind : LeafKind) (y : Purpose) (text leaf : Bool) → leaf ≡ true → SiteWithin text leaf (text_site kind y)
site-text kind AsInfo text leaf h = h
site-text kind _ text leaf h = h

site-part : (part : Part) (text leaf : Bool) → leaf ≡ true → SiteWithin text leaf (part_site part)
site-part LabelPart text leaf h = h
site-part TitlePart text leaf h = h

site-table : (spot : Option TablePlace) (text leaf : Bool) → leaf ≡ true → SiteWithin text leaf (table_site spot)
site-table None text leaf h = tt
site-table (Some spot) text leaf h = h

site-enters : (bytes : List ℕ) (site : Site) (x : Role) (p : Point) (text leaf : Bool) → SiteWithin text leaf site →
    SiteWithin (is_text x || text) (is_leaf x || leaf) (site_by bytes site Enter x p)
site-enters bytes Outside (LeafRole kind) p text leaf h = site-begun kind text
site-enters bytes Outside (TextRole AsHeading) p text leaf h = refl
site-enters bytes Outside _ p text leaf h = tt
site-enters bytes InAtxText x p text leaf h = or_right (is_text x) text h
site-enters bytes (InTable spot) x p text leaf h =
    site-table (spot_by spot Enter x) (is_text x || text) (is_leaf x || leaf) (or_right (is_leaf x) leaf h)
site-enters bytes (AtMarkers kind) (TextRole AsMarkers) p text leaf h = h
site-enters bytes (AtLine kind) (TextRole AsLine) p text leaf h = h
site-enters bytes (AtEnd kind) (TextRole AsMarkers) p text leaf h = h
site-enters bytes _ (LeafRole kind) p text leaf h = refl
site-enters bytes _ (TextRole y) p text leaf h = h
site-enters bytes _ IsFence p text leaf h = h
site-enters bytes _ IsTitle p text leaf h = h
site-enters bytes _ IsPrefix p text leaf h = h
site-enters bytes _ _ p text leaf h = h

site-exits : (bytes : List ℕ) (site : Site) (x : Role) (p : Point) (text leaf : Bool) → MayBeHere bytes site Exit x p →
    SiteWithin (is_text x || text) (is_leaf x || leaf) site → SiteWithin text leaf (site_by bytes site Exit x p)
site-exits bytes Outside x p text leaf may h = tt
site-exits bytes InAtxText (TextRole y) p text leaf may h = tt
site-exits bytes InAtxText _ p text leaf may h = h
site-exits bytes (InTable AfterRow) (LeafRole kind) p text leaf may h = tt
site-exits bytes (InTable _) (LeafRole kind) p text leaf may h = absurd may
site-exits bytes (InTable spot) x p text leaf may h = site-table (spot_by spot Exit x) text leaf h
site-exits bytes (AtEnding kind) (LeafRole y) p text leaf may h = tt
site-exits bytes (AtLine kind) (LeafRole y) p text leaf may h = tt
site-exits bytes (AtEnd kind) (LeafRole y) p text leaf may h = tt
site-exits bytes AfterUnderline (LeafRole y) p text leaf may h = tt
site-exits bytes (AfterPart left) (LeafRole y) p text leaf may h = tt
site-exits bytes _ (LeafRole y) p text leaf may h = absurd may
site-exits bytes (AtEnding kind) IsEnding p text leaf may h = site-ending bytes p kind text leaf h
site-exits bytes (InText kind y) (TextRole z) p text leaf may h = site-text kind y text leaf h
site-exits bytes (InPart part q) (TextRole y) p text leaf may h = site-part part text leaf h
site-exits bytes (InParted part) (TextRole y) p text leaf may h = site-part part text leaf h
site-exits bytes (InMarkers kind q) (TextRole AsMarkers) p text leaf may h = h
site-exits bytes (InEnd kind) (TextRole AsMarkers) p text leaf may h = h
site-exits bytes _ (TextRole y) p text leaf may h = h
site-exits bytes _ IsFence p text leaf may h = h
site-exits bytes _ IsTitle p text leaf may h = h
site-exits bytes _ _ p text leaf may h = h

-- Lists and footnote definitions.

stage-enters : (stage : Stage) (x : Role) (p : Point) (container : Bool) → StageWithin container stage →
    StageWithin (is_container x || container) (stage_by stage Enter x p)
stage-enters AllRecorded (ContainerRole OrderedShape) p container h = refl
stage-enters AllRecorded (ContainerRole UnorderedShape) p container h = refl
stage-enters AllRecorded (ContainerRole (FootnoteShape label)) p container h = refl
stage-enters AllRecorded _ p container h = tt
stage-enters (AtItem shape) x p container h = or_right (is_container x) container h
stage-enters (AtMarker shape) (TextRole AsItemMarker) p container h = h
stage-enters (AtMarker shape) (ContainerRole y) p container h = refl
stage-enters (AtMarker shape) _ p container h = h
stage-enters (InMarker shape q) x p container h = tt
stage-enters AtLabel x p container h = or_right (is_container x) container h

stage-exits : (bytes : List ℕ) (stage : Stage) (x : Role) (p : Point) (container : Bool) →
    MayFollow bytes stage Exit x p → StageWithin (is_container x || container) stage →
    StageWithin container (stage_by stage Exit x p)
stage-exits bytes AllRecorded x p container may h = tt
stage-exits bytes (AtItem shape) x p container may h = absurd may
stage-exits bytes (AtMarker shape) (ContainerRole y) p container may h = absurd may
stage-exits bytes (AtMarker shape) _ p container may h = h
stage-exits bytes (InMarker shape q) x p container may h = tt
stage-exits bytes AtLabel (ContainerRole y) p container may h = absurd may
stage-exits bytes AtLabel (TextRole AsFootnoteLabel) p container may h = tt
stage-exits bytes AtLabel _ p container may h = h

-- The leaf block and the text of the half-read tree.

abbrev TreeWithin : Bool → Bool → Reading → Type 0
TreeWithin text leaf r = Within text r.text × Within leaf r.leaf

tree-enters : (bytes : List ℕ) (x : Role) (p : Point) (text leaf : Bool) (r : Reading) → TreeWithin text leaf r →
    TreeWithin (is_text x || text) (is_leaf x || leaf) (read_enter bytes x p r)
tree-enters bytes (LeafRole kind) p text leaf r h = (h.0, refl)
tree-enters bytes (TextRole y) p text leaf r h = (refl, h.1)
tree-enters bytes IsFence p text leaf r h = (h.0, within-mapped at_fence leaf r.leaf h.1)
tree-enters bytes IsTitle p text leaf r h = (h.0, within-mapped at_title leaf r.leaf h.1)
tree-enters bytes IsRow p text leaf r h = (h.0, within-mapped at_row leaf r.leaf h.1)
tree-enters bytes IsCell p text leaf r h = (h.0, within-mapped at_cell leaf r.leaf h.1)
tree-enters bytes IsPrefix p text leaf r h = (within-mapped (before_prefix bytes p) text r.text h.0, h.1)
tree-enters bytes IsQuoteMarker p text leaf r h = by-marker (TreeWithin text leaf) bytes p r h (λ kind. h)
tree-enters bytes _ p text leaf r h = h

tree-left : (outer : List OpenContainer) (text leaf : Bool) (r : Reading) → TreeWithin text leaf r →
    TreeWithin text leaf (left outer r)
tree-left [] text leaf r h = h
tree-left (around ∷ outer) text leaf r h = h

tree-finished : (o : Option OpenLeaf) (text leaf : Bool) (r : Reading) → r.leaf ≡ o → Within text r.text →
    TreeWithin text leaf (finished o r)
tree-finished None text leaf r e h = (h, subst (Within leaf) (sym e) tt)
tree-finished (Some l) text leaf r e h = (h, tt)

tree-recorded : (bytes : List ℕ) (y : Purpose) (p : Point) (o : Option Text) (text leaf : Bool) (r : Reading) →
    r.text ≡ o → Within leaf r.leaf → TreeWithin text leaf (recorded_at bytes y p o r)
tree-recorded bytes y p None text leaf r e h = (subst (Within text) (sym e) tt, h)
tree-recorded bytes y p (Some t) text leaf r e h =
    by-recorded_at (TreeWithin text leaf) bytes y p (Some t) (record r { text = None }) (tt, h)
    (record { block = λ b. (tt, h); named = λ f. (tt, h); noted = λ f. (tt, within-mapped f leaf r.leaf h) })

tree-exits : (bytes : List ℕ) (x : Role) (p : Point) (text leaf : Bool) (r : Reading) →
    TreeWithin (is_text x || text) (is_leaf x || leaf) r → TreeWithin text leaf (read_exit bytes x p r)
tree-exits bytes (ContainerRole shape) p text leaf r h = tree-left r.outer text leaf r h
tree-exits bytes (LeafRole kind) p text leaf r h = tree-finished r.leaf text leaf r refl h.0
tree-exits bytes (TextRole y) p text leaf r h = tree-recorded bytes y p r.text text leaf r refl h.1
tree-exits bytes IsTitle p text leaf r h = (h.0, within-mapped after_title leaf r.leaf h.1)
tree-exits bytes IsPrefix p text leaf r h = (within-mapped (after_prefix p) text r.text h.0, h.1)
tree-exits bytes IsEnding p text leaf r h =
    by-ending (TreeWithin text leaf) bytes p r.text r h (h.0, within-mapped next_line leaf r.leaf h.1)
tree-exits bytes _ p text leaf r h = h

-- All of these, by the names that are open.

pub record IsWithin (names : List Name) (span : Option TextSpan) (site : Site) (stage : Stage) (r : Reading) : Type 0
  where
    span_within : Within (is_open is_text names) span
    site_within : SiteWithin (is_open is_text names) (is_open is_leaf names) site
    stage_within : StageWithin (is_open is_container names) stage
    tree_within : TreeWithin (is_open is_text names) (is_open is_leaf names) r

-- one event
pub within-step : (bytes : List ℕ) (names : List Name) (span : Option TextSpan) (site : Site) (stage : Stage)
    (r : Reading) (kind : Kind) (name : Name) (p : Point) →
    Fits names kind name → MayBeHere bytes site kind (role name) p → MayFollow bytes stage kind (role name) p →
    IsWithin names span site stage r →
    IsWithin (open_following names kind name) (span_by kind (role name) p span) (site_by bytes site kind (role name) p)
    (stage_by stage kind (role name) p) (read_by bytes kind (role name) p r)
within-step bytes names span site stage r Enter name p fits valid follows is = record {
  span_within = span-enters (role name) p (is_open is_text names) span is.span_within;
  site_within =
      site-enters bytes site (role name) p (is_open is_text names) (is_open is_leaf names) is.site_within;
  stage_within = stage-enters stage (role name) p (is_open is_container names) is.stage_within;
  tree_within =
      tree-enters bytes (role name) p (is_open is_text names) (is_open is_leaf names) r is.tree_within;
}
within-step bytes [] span site stage r Exit name p fits valid follows is = absurd fits
within-step bytes (innermost ∷ names) span site stage r Exit name p fits valid follows is =
    let known : IsWithin (name ∷ names) span site stage r =
    subst (λ (n : Name). IsWithin (n ∷ names) span site stage r) fits is in
    record {
      span_within = span-exits (role name) p (is_open is_text names) span known.span_within;
      site_within =
          site-exits bytes site (role name) p (is_open is_text names) (is_open is_leaf names) valid known.site_within;
      stage_within =
          stage-exits bytes stage (role name) p (is_open is_container names) follows known.stage_within;
      tree_within =
          tree-exits bytes (role name) p (is_open is_text names) (is_open is_leaf names) r known.tree_within;
    }

-- before the first event
pub within-first : IsWithin [] None Outside AllRecorded unread
within-first = record { span_within = tt; site_within = tt; stage_within = tt; tree_within = (tt, tt) }

-- Where no name is open, nothing is being read.

none-within : {A : Type 0} (o : Option A) → Within false o → o ≡ None
none-within None h = refl
none-within (Some a) h = absurd (true≢false (sym h))

no-site : (site : Site) → SiteWithin false false site → site ≡ Outside
no-site Outside h = refl
no-site _ h = absurd (true≢false (sym h))

no-stage : (stage : Stage) → StageWithin false stage → stage ≡ AllRecorded
no-stage AllRecorded h = refl
no-stage _ h = absurd (true≢false (sym h))

pub record IsUnread (span : Option TextSpan) (site : Site) (stage : Stage) (r : Reading) : Type 0 where
  pub span_none : span ≡ None
  pub outside : site ≡ Outside
  pub all_recorded : stage ≡ AllRecorded
  pub no_text : r.text ≡ None
  pub no_leaf : r.leaf ≡ None

pub none-read : (span : Option TextSpan) (site : Site) (stage : Stage) (r : Reading) →
    IsWithin [] span site stage r → IsUnread span site stage r
none-read span site stage r is = record {
  span_none = none-within span is.span_within;
  outside = no-site site is.site_within;
  all_recorded = no-stage stage is.stage_within;
  no_text = none-within r.text is.tree_within.0;
  no_leaf = none-within r.leaf is.tree_within.1;
}
