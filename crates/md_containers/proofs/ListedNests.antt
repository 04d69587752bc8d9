-- Events with lists around their items nest as they did.
--
-- What is open once lists are around items follows from what is open without them, and from the list that continues, if
-- one does: it is open around what was entered since its last item.
use Rattle.std.proofs.Common.{◌≡◌, ℕ, Bool, true, false, cond, List, [], ◌∷◌, ◌++◌, refl, ap, sym, ◌∙◌, subst}
use Rattle.std.specs.Prelude.{IsTrue, Option, Some, None, if◌then◌else◌}
use Rattle.md_engine.specs.declared.event.Event.{Event}
use Rattle.md_engine.specs.declared.event.Kind.{Kind}
use Rattle.md_engine.specs.declared.event.Kind.TheVariants.{Enter, Exit}
use Rattle.md_engine.specs.declared.event.Link.{Link}
use Rattle.md_engine.specs.declared.event.Name.{Name}
use Rattle.md_engine.specs.declared.event.Name.TheVariants as n
use Rattle.md_engine.specs.declared.event.Point.{Point}
use Rattle.md_containers.specs.ItemsHeld.{HoldsItems, ItemsHeld}
use Rattle.md_containers.specs.Listed.{Place, is_continued, is_item, list_begin, list_end, list_name, listed}
use Rattle.md_containers.specs.Listed.{listed_from, marker_ahead, next_by, next_item, outside, place_following}
use Rattle.md_containers.proofs.ListedKept.{by-turn}
use Rattle.md_containers.proofs.ListedLemmas.{passes-given}
use Rattle.md_containers.proofs.ListedBlockSteps.{is_continued-some}
use Rattle.md_events.specs.Events.Blocks.{is_block}
use Rattle.md_events.specs.Events.Nested.{Forward, Matches, Nested, exit, open_after}
use Rattle.md_events.specs.Events.Places.{at_or_before, first_point}
use Rattle.md_events.specs.Events.Spelled.{role}
use Rattle.md_events.proofs.NestedLemmas.{at_or_before-refl}

-- A part that is open: an item with the marker of its list, or another.
data Entry : Type 0 where
  ItemOf : ℕ → Entry
  Part : Name → Entry

abbrev names_of : List Entry → List Name
names_of [] = []
names_of (ItemOf m ∷ entries) = n.ListItem ∷ names_of entries
names_of (Part name ∷ entries) = name ∷ names_of entries

abbrev lists_of : List Entry → List Name
lists_of [] = []
lists_of (ItemOf m ∷ entries) = n.ListItem ∷ list_name m ∷ lists_of entries
lists_of (Part name ∷ entries) = name ∷ lists_of entries

abbrev markers_of : List Entry → List ℕ
markers_of [] = []
markers_of (ItemOf m ∷ entries) = m ∷ markers_of entries
markers_of (Part name ∷ entries) = markers_of entries

abbrev AreEntries : List Entry → Type 0
AreEntries [] = Unit {0}
AreEntries (ItemOf m ∷ entries) = HoldsItems (names_of entries) × AreEntries entries
AreEntries (Part name ∷ entries) = (is_item (role name) ≡ false) × AreEntries entries

-- of no block
abbrev NoBlocks : List Name → Type 0
NoBlocks [] = Unit {0}
NoBlocks (name ∷ names) = (is_block (role name) ≡ false) × NoBlocks names

-- What is open: no list continues here; or one does, with these names open after its last item.
data Now : Type 0 where
  Free : List Entry → Now
  Within : List Name → ℕ → List Entry → Now

abbrev names_at : Now → List Name
names_at (Free entries) = names_of entries
names_at (Within between m entries) = between ++ names_of entries

abbrev lists_at : Now → List Name
lists_at (Free entries) = lists_of entries
lists_at (Within between m entries) = between ++ list_name m ∷ lists_of entries

abbrev place_at : Now → Place
place_at (Free entries) = record { within = false; markers = markers_of entries }
place_at (Within between m entries) = record { within = true; markers = markers_of entries }

abbrev Good : Now → Option ℕ → Type 0
Good (Free entries) next = AreEntries entries
Good (Within between m entries) next =
    AreEntries entries × HoldsItems (names_of entries) × NoBlocks between × (next ≡ Some m)

-- what has to be shown
abbrev Kept : List ℕ → Now → List Event → Type 0
Kept bytes now es =
    Matches (lists_at now) (listed_from bytes (place_at now) es)
    × (open_after (names_at now) es ≡ [] → open_after (lists_at now) (listed_from bytes (place_at now) es) ≡ [])

abbrev Keeps : List ℕ → List Event → Type 0
Keeps bytes es =
    (now : Now) → Good now (next_item bytes es) → Matches (names_at now) es → ItemsHeld (names_at now) es →
    Kept bytes now es

abbrev pub event : Kind → Name → Point → Option Link → Event
event kind name p link = record { kind = kind; name = name; point = p; link = link }

-- An item begins.
begin-free : (bytes : List ℕ) (p : Point) (link : Option Link) (es : List Event) (entries : List Entry) →
    Keeps bytes es → AreEntries entries → Matches (names_of entries) (event Enter n.ListItem p link ∷ es) →
    ItemsHeld (names_of entries) (event Enter n.ListItem p link ∷ es) →
    Kept bytes (Free entries) (event Enter n.ListItem p link ∷ es)
begin-free bytes p link es entries keeps good matches held =
    let k : Kept bytes (Free (ItemOf (marker_ahead bytes es) ∷ entries)) es =
    keeps (Free (ItemOf (marker_ahead bytes es) ∷ entries)) (held.0, good) matches.1 held.1 in
    ((tt, (tt, k.0)), k.1)

begin-within : (bytes : List ℕ) (p : Point) (link : Option Link) (es : List Event) (between : List Name) (m : ℕ)
    (entries : List Entry) → Keeps bytes es → Good (Within between m entries) (Some (marker_ahead bytes es)) →
    Matches (names_at (Within between m entries)) (event Enter n.ListItem p link ∷ es) →
    ItemsHeld (names_at (Within between m entries)) (event Enter n.ListItem p link ∷ es) →
    Kept bytes (Within between m entries) (event Enter n.ListItem p link ∷ es)
begin-within bytes p link es [] m entries keeps good matches held =
    let ahead : ℕ = marker_ahead bytes es in
    let same : ahead ≡ m = cc (good.3) in
    subst (λ (j : ℕ). Kept bytes (Within [] j entries) (event Enter n.ListItem p link ∷ es)) same
    (let k : Kept bytes (Free (ItemOf ahead ∷ entries)) es =
    keeps (Free (ItemOf ahead ∷ entries)) (good.1, good.0) matches.1 held.1 in
    ((tt, k.0), k.1))
begin-within bytes p link es (name ∷ between) m entries keeps good matches held =
    absurd (let no : true ≡ false = sym held.0 ∙ good.2.0 in cc)

-- An item ends.
end-item : (bytes : List ℕ) (p : Point) (link : Option Link) (es : List Event) (m : ℕ) (entries : List Entry) →
    Keeps bytes es → HoldsItems (names_of entries) → AreEntries entries → Matches (names_of entries) es →
    ItemsHeld (names_of entries) es →
    Kept bytes (Free (ItemOf m ∷ entries)) (event Exit n.ListItem p link ∷ es)
end-item bytes p link es m entries keeps holds good matches held = go (is_continued m (next_item bytes es)) refl
  where
    Of : Bool → Type 0
    Of x =
        Matches (lists_of (ItemOf m ∷ entries))
        (event Exit n.ListItem p link ∷ (if x then [] else exit (list_name m) p ∷ [])
        ++ listed_from bytes (record { within = x; markers = markers_of entries }) es)
        × (open_after (names_of entries) es ≡ [] →
        open_after (lists_of (ItemOf m ∷ entries))
        (event Exit n.ListItem p link ∷ (if x then [] else exit (list_name m) p ∷ [])
        ++ listed_from bytes (record { within = x; markers = markers_of entries }) es) ≡ [])

    go : (x : Bool) → is_continued m (next_item bytes es) ≡ x → Of (is_continued m (next_item bytes es))
    go true h =
        subst Of (sym h)
        (let k : Kept bytes (Within [] m entries) es =
        keeps (Within [] m entries) (good, holds, tt, is_continued-some m (next_item bytes es) h) matches held in
        ((refl, k.0), k.1))
    go false h =
        subst Of (sym h)
        (let k : Kept bytes (Free entries) es = keeps (Free entries) good matches held in
        ((refl, (refl, k.0)), k.1))

end-free : (bytes : List ℕ) (p : Point) (link : Option Link) (es : List Event) (entries : List Entry) →
    Keeps bytes es → AreEntries entries → Matches (names_of entries) (event Exit n.ListItem p link ∷ es) →
    ItemsHeld (names_of entries) (event Exit n.ListItem p link ∷ es) →
    Kept bytes (Free entries) (event Exit n.ListItem p link ∷ es)
end-free bytes p link es [] keeps good matches held = absurd matches.0
end-free bytes p link es (ItemOf m ∷ entries) keeps good matches held =
    end-item bytes p link es m entries keeps good.0 good.1 matches.1 held.1
end-free bytes p link es (Part name ∷ entries) keeps good matches held =
    absurd (let no : true ≡ false = ap (λ (x : Name). is_item (role x)) (sym matches.0) ∙ good.0 in cc)

-- An event that passes.
pass-free : (bytes : List ℕ) (kind : Kind) (name : Name) (p : Point) (link : Option Link) (es : List Event)
    (entries : List Entry) → is_item (role name) ≡ false → Keeps bytes es → AreEntries entries →
    Matches (names_of entries) (event kind name p link ∷ es) →
    ItemsHeld (names_of entries) (event kind name p link ∷ es) →
    Matches (lists_of entries) (event kind name p link ∷ listed_from bytes (place_at (Free entries)) es)
    × (open_after (names_of entries) (event kind name p link ∷ es) ≡ [] →
    open_after (lists_of entries) (event kind name p link ∷ listed_from bytes (place_at (Free entries)) es) ≡ [])
pass-free bytes Enter name p link es entries i keeps good matches held =
    let k : Kept bytes (Free (Part name ∷ entries)) es =
    keeps (Free (Part name ∷ entries)) (i, good) matches.1 held.1 in
    ((tt, k.0), k.1)
pass-free bytes Exit name p link es [] i keeps good matches held = absurd matches.0
pass-free bytes Exit name p link es (ItemOf m ∷ entries) i keeps good matches held =
    absurd (let no : true ≡ false = ap (λ (x : Name). is_item (role x)) matches.0 ∙ i in cc)
pass-free bytes Exit name p link es (Part other ∷ entries) i keeps good matches held =
    let k : Kept bytes (Free entries) es = keeps (Free entries) good.1 matches.1 held.1 in ((matches.0, k.0), k.1)

-- before an item that is to come, it is of no block
pub pass-next : (kind : Kind) (name : Name) (ahead m : ℕ) (next : Option ℕ) → is_item (role name) ≡ false →
    next_by kind (role name) ahead next ≡ Some m → (is_block (role name) ≡ false) × (next ≡ Some m)
pass-next kind name ahead m next i h = go (is_block (role name)) refl kind h
  where
    none : Option ℕ
    none = None

    go : (x : Bool) → is_block (role name) ≡ x → (kind : Kind) → next_by kind (role name) ahead next ≡ Some m →
        (is_block (role name) ≡ false) × (next ≡ Some m)
    go true b Enter h = absurd (let no : none ≡ Some m = sym (rw (b, i) refl) ∙ h in cc)
    go true b Exit h = absurd (let no : none ≡ Some m = sym (rw b refl) ∙ h in cc)
    go false b kind h = (b, let same : next ≡ Some m = sym (rw b refl) ∙ h in same)

pass-within : (bytes : List ℕ) (kind : Kind) (name : Name) (p : Point) (link : Option Link) (es : List Event)
    (between : List Name) (m : ℕ) (entries : List Entry) → (is_block (role name) ≡ false) → Keeps bytes es →
    Good (Within between m entries) (next_item bytes es) →
    Matches (names_at (Within between m entries)) (event kind name p link ∷ es) →
    ItemsHeld (names_at (Within between m entries)) (event kind name p link ∷ es) →
    Matches (lists_at (Within between m entries))
    (event kind name p link ∷ listed_from bytes (place_at (Within between m entries)) es)
    × (open_after (names_at (Within between m entries)) (event kind name p link ∷ es) ≡ [] →
    open_after (lists_at (Within between m entries))
    (event kind name p link ∷ listed_from bytes (place_at (Within between m entries)) es) ≡ [])
pass-within bytes Enter name p link es between m entries b keeps good matches held =
    let k : Kept bytes (Within (name ∷ between) m entries) es =
    keeps (Within (name ∷ between) m entries) (good.0, good.1, (b, good.2), good.3) matches.1 held.1 in
    ((tt, k.0), k.1)
pass-within bytes Exit name p link es (other ∷ between) m entries b keeps good matches held =
    let k : Kept bytes (Within between m entries) es =
    keeps (Within between m entries) (good.0, good.1, good.2.1, good.3) matches.1 held.1 in
    ((matches.0, k.0), k.1)
pass-within bytes Exit name p link es [] m [] b keeps good matches held = absurd matches.0
pass-within bytes Exit name p link es [] m (ItemOf k ∷ entries) b keeps good matches held =
    absurd (let no : true ≡ false = ap (λ (x : Name). is_block (role x)) matches.0 ∙ b in cc)
pass-within bytes Exit name p link es [] m (Part other ∷ entries) b keeps good matches held =
    absurd
    (let no : true ≡ false = sym good.1 ∙ ap (λ (x : Name). is_block (role x)) matches.0 ∙ b in cc)

none-some : {X : Type 0} (m : ℕ) → None ≡ Some m → X
none-some m e = absurd (cc)

-- All events.

abbrev KeepsBy : List ℕ → List Event → Point → Option Link → Kind → Name → Type 0
KeepsBy bytes es p link kind name = Keeps bytes (event kind name p link ∷ es)

begins : (bytes : List ℕ) (es : List Event) (p : Point) (link : Option Link) → Keeps bytes es →
    KeepsBy bytes es p link Enter n.ListItem
begins bytes es p link keeps (Free entries) good matches held =
    begin-free bytes p link es entries keeps good matches held
begins bytes es p link keeps (Within between m entries) good matches held =
    begin-within bytes p link es between m entries keeps good matches held

ends : (bytes : List ℕ) (es : List Event) (p : Point) (link : Option Link) → Keeps bytes es →
    KeepsBy bytes es p link Exit n.ListItem
ends bytes es p link keeps (Free entries) good matches held = end-free bytes p link es entries keeps good matches held
ends bytes es p link keeps (Within between m entries) good matches held = none-some m good.3

passes : (bytes : List ℕ) (es : List Event) (p : Point) (link : Option Link) → Keeps bytes es →
    (kind : Kind) (name : Name) → is_item (role name) ≡ false → KeepsBy bytes es p link kind name
passes bytes es p link keeps kind name i now good matches held =
    subst
    (λ (l : List Event).
    Matches (lists_at now) l
    × (open_after (names_at now) (event kind name p link ∷ es) ≡ [] → open_after (lists_at now) l ≡ []))
    (sym (passes-given bytes (place_at now) (event kind name p link) es i)) (go now good matches held)
  where
    go : (now : Now) → Good now (next_by kind (role name) (marker_ahead bytes es) (next_item bytes es)) →
        Matches (names_at now) (event kind name p link ∷ es) → ItemsHeld (names_at now) (event kind name p link ∷ es) →
        Matches (lists_at now) (event kind name p link ∷ listed_from bytes (place_at now) es)
        × (open_after (names_at now) (event kind name p link ∷ es) ≡ [] →
        open_after (lists_at now) (event kind name p link ∷ listed_from bytes (place_at now) es) ≡ [])
    go (Free entries) good matches held = pass-free bytes kind name p link es entries i keeps good matches held
    go (Within between m entries) good matches held =
        let next = pass-next kind name (marker_ahead bytes es) m (next_item bytes es) i good.3 in
        pass-within bytes kind name p link es between m entries next.0 keeps
        (good.0, good.1, good.2, next.1) matches held

keeps-all : (bytes : List ℕ) (es : List Event) → Keeps bytes es
keeps-all bytes [] (Free []) good matches held = (tt, λ e. refl)
keeps-all bytes [] (Free (ItemOf m ∷ entries)) good matches held = (tt, λ e. absurd (cc))
keeps-all bytes [] (Free (Part name ∷ entries)) good matches held = (tt, λ e. absurd (cc))
keeps-all bytes [] (Within between m entries) good matches held = none-some m good.3
keeps-all bytes (e ∷ es) now good matches held =
    by-turn (KeepsBy bytes es e.point e.link) (begins bytes es e.point e.link (keeps-all bytes es))
    (ends bytes es e.point e.link (keeps-all bytes es)) (passes bytes es e.point e.link (keeps-all bytes es))
    e.kind e.name now good matches held

-- Points never go back.

begin-forward : (bytes : List ℕ) (p q : Point) (link : Option Link) (place : Place) (es : List Event) →
    IsTrue (at_or_before p q) →
    Forward q (listed_from bytes (record { within = false; markers = marker_ahead bytes es ∷ place.markers }) es) →
    Forward p (listed_from bytes place (event Enter n.ListItem q link ∷ es))
begin-forward bytes p q link place es h k = go place.within
  where
    go : (within : Bool) →
        Forward p
        ((list_begin within (marker_ahead bytes es) q ++ event Enter n.ListItem q link ∷ [])
        ++ listed_from bytes (record { within = false; markers = marker_ahead bytes es ∷ place.markers }) es)
    go true = (h, k)
    go false = (h, (at_or_before-refl q, k))

end-forward : (markers : List ℕ) (next : Option ℕ) (q : Point) (es : List Event) → Forward q es →
    Forward q (list_end markers next q ++ es)
end-forward [] next q es h = h
end-forward (m ∷ markers) next q es h = go (is_continued m next)
  where
    go : (x : Bool) → Forward q (cond x [] (exit (list_name m) q ∷ []) ++ es)
    go true = h
    go false = (at_or_before-refl q, h)

forward-kept : (bytes : List ℕ) (p : Point) (place : Place) (es : List Event) → Forward p es →
    Forward p (listed_from bytes place es)
forward-kept bytes p place [] h = tt
forward-kept bytes p place (e ∷ es) h =
    by-turn
    (λ (kind : Kind) (name : Name). Forward p (listed_from bytes place (event kind name e.point e.link ∷ es)))
    (begin-forward bytes p e.point e.link place es h.0
    (forward-kept bytes e.point (record { within = false; markers = marker_ahead bytes es ∷ place.markers }) es h.1)) (
      h.0,
      end-forward place.markers (next_item bytes es) e.point
          (listed_from bytes (place_following place (next_item bytes es)) es)
          (forward-kept bytes e.point (place_following place (next_item bytes es)) es h.1),
    )
    (passed (forward-kept bytes e.point place es h.1))
    e.kind e.name
  where
    passed : Forward e.point (listed_from bytes place es) → (kind : Kind) (name : Name) →
        is_item (role name) ≡ false →
        Forward p (listed_from bytes place (event kind name e.point e.link ∷ es))
    passed k kind name i =
        subst (Forward p) (sym (passes-given bytes place (event kind name e.point e.link) es i)) (h.0, k)

-- Events with lists around their items nest, if they did and items begin directly in blocks.
pub listed-nested : (bytes : List ℕ) (events : List Event) → Nested events → ItemsHeld [] events →
    Nested (listed bytes events)
listed-nested bytes events nested held =
    let k : Kept bytes (Free []) events = keeps-all bytes events (Free []) tt nested.balanced.matches held in
    record {
      balanced = record { matches = k.0; closed = k.1 nested.balanced.closed };
      forward = forward-kept bytes first_point outside events nested.forward;
    }
