-- What events with lists around their items are read as: what the events are read as, grouped.
use Rattle.std.proofs.Common.{◌≡◌, ℕ, Bool, List, [], ◌∷◌, refl, ap, ◌∙◌}
use Rattle.std.specs.Prelude.{Option, Some, None, get_or}
use Rattle.md_engine.specs.declared.event.Event.{Event}
use Rattle.md_engine.specs.declared.event.Kind.{Kind}
use Rattle.md_engine.specs.declared.event.Kind.TheVariants.{Enter, Exit}
use Rattle.md_engine.specs.declared.event.Point.{Point}
use Rattle.md_meaning.specs.Grouped.{grouped}
use Rattle.md_events.specs.Events.Spelled.{Reading, Role, read, read_by, role, spelled, unread}
use Rattle.md_events.proofs.SpelledLemmas.{read-append}
use Rattle.md_containers.specs.ItemsAllowed.{AmongBlocks, InFront, InLabel, InLeaf, InMarker, InText, Inner}
use Rattle.md_containers.specs.ItemsAllowed.{ItemsAllowed, MayBeHere, Site, root, site_after}
use Rattle.md_containers.specs.Listed.{Place, given, listed, listed_from, marker_ahead, marker_by, next_by, next_item}
use Rattle.md_containers.specs.Listed.{place_after, turn}
use Rattle.md_containers.proofs.ListedOpen.{OpenList, as_listed, place_of, Knows, Known, read-turn, Stepped}
use Rattle.md_containers.proofs.ListedBlockSteps.{none-some, apart-end, among-begin, among-end}
use Rattle.md_containers.proofs.ListedPartSteps.{front-begin, front-end, label-begin, label-end, leaf-begin, leaf-end}
use Rattle.md_containers.proofs.ListedPartSteps.{marker-end, text-begin, text-end}

-- All events.

step : (bytes : List ℕ) (inner : Inner) (kind : Kind) (x : Role) (p : Point) (w : Option OpenList)
    (ls : List OpenList) (r : Reading) (ahead : ℕ) (next : Option ℕ) (held : List Bool) →
    MayBeHere bytes (record { held = held; inner = inner }) kind x p →
    Known bytes (record { held = held; inner = inner }) w ls r
    (marker_by kind x (get_or bytes p.index 0) ahead) (next_by kind x ahead next) →
    Stepped bytes kind x p w ls r ahead next held
    (site_after (record { held = held; inner = inner }) kind x p)
step bytes AmongBlocks Enter x p w ls r ahead next held may known =
    among-begin bytes x p w ls r ahead next held may known
step bytes AmongBlocks Exit x p w ls r ahead next held may known =
    among-end bytes x p w ls r ahead next held may known
step bytes InFront Enter x p None ls r ahead next held may known =
    front-begin bytes x p ls r ahead next held may known
step bytes InFront Exit x p None ls r ahead next held may known = front-end bytes x p ls r ahead next held may known
step bytes (InMarker q) Enter x p None ls r ahead next held may known = absurd may
step bytes (InMarker q) Exit x p None ls r ahead next held may known =
    marker-end bytes x p q ls r ahead _ next _ held may known
step bytes InLabel Enter x p None ls r ahead next held may known =
    label-begin bytes x p ls r ahead _ next _ held may known
step bytes InLabel Exit x p None ls r ahead next held may known =
    label-end bytes x p ls r ahead _ next _ held may known
step bytes InLeaf Enter x p None ls r ahead next held may known =
    leaf-begin bytes x p ls r ahead _ next _ held may known
step bytes InLeaf Exit x p None ls r ahead next held may known =
    leaf-end bytes x p ls r ahead _ next _ held may known
step bytes InText Enter x p None ls r ahead next held may known =
    text-begin bytes x p ls r ahead _ next _ held may known
step bytes InText Exit x p None ls r ahead next held may known =
    text-end bytes x p ls r ahead _ next _ held may known
step bytes inner kind x p (Some l) ls r ahead next held may known = absurd known.inner

at-end : (bytes : List ℕ) (inner : Inner) (held : List Bool) (w : Option OpenList) (ls : List OpenList)
    (r : Reading) → Knows bytes inner w ls r 0 None → (as_listed w held ls r).here ≡ grouped r.here
at-end bytes inner held None ls r known = refl
at-end bytes AmongBlocks held (Some l) ls r known = none-some l.marker known.0
at-end bytes _ held (Some l) ls r known = absurd known

walk : (bytes : List ℕ) (es : List Event) (site : Site) (w : Option OpenList) (ls : List OpenList) (r : Reading) →
    ItemsAllowed bytes site es → Known bytes site w ls r (marker_ahead bytes es) (next_item bytes es) →
    (read bytes (as_listed w site.held ls r) (listed_from bytes (place_of w ls) es)).here
    ≡ grouped (read bytes r es).here
walk bytes [] site w ls r are_valid known = at-end bytes site.inner site.held w ls r known.inner
walk bytes (e ∷ es) site w ls r are_valid known =
    let ahead : ℕ = marker_ahead bytes es in
    let next : Option ℕ = next_item bytes es in
    let x : Role = role e.name in
    let place : Place = place_of w ls in
    let following : Site = site_after site e.kind x e.point in
    let s : Stepped bytes e.kind x e.point w ls r ahead next site.held following =
    step bytes site.inner e.kind x e.point w ls r ahead next site.held are_valid.0 known in
    ap (λ (t : Reading). t.here)
    (read-append bytes (as_listed w site.held ls r) (given bytes place e es)
    (listed_from bytes (place_after bytes place e es) es)
    ∙ ap (λ (t : Reading). read bytes t (listed_from bytes (place_after bytes place e es) es))
    (read-turn bytes (turn e.kind x) place ahead next e (as_listed w site.held ls r) ∙ s.reads)
    ∙ ap
    (λ (place : Place).
    read bytes (as_listed s.within following.held s.lists (read_by bytes e.kind x e.point r))
    (listed_from bytes place es)) s.place)
    ∙ walk bytes es following s.within s.lists (read_by bytes e.kind x e.point r) are_valid.1 s.known

-- With lists around their items, events are read as what they are read as, grouped: if blocks are in containers alone,
-- each item begins with its marker, and no list is yet.
pub listed-spelled : (bytes : List ℕ) (events : List Event) → ItemsAllowed bytes root events →
    spelled (listed bytes events) bytes ≡ grouped (spelled events bytes)
unfolding spelled
listed-spelled bytes events are_valid =
    walk bytes events root None [] unread are_valid
    (record { agree = tt; lists = tt; inner = λ m e. apart-end m })
