-- Events with their setext headings nest as they did.
--
-- What is open in the events with headings follows from what is open in those without: a heading is around what was
-- entered since its text ended, and around its text and its underline.
use Rattle.std.proofs.Common.{◌≡◌, Bool, true, false, cond, List, [], ◌∷◌, ◌++◌, refl, ap, sym, ◌∙◌, subst}
use Rattle.std.specs.Prelude.{IsTrue, length, Option}
use Rattle.md_engine.specs.declared.event.Event.{Event}
use Rattle.md_engine.specs.declared.event.Kind.{Kind}
use Rattle.md_engine.specs.declared.event.Kind.TheVariants.{Enter, Exit}
use Rattle.md_engine.specs.declared.event.Link.{Link}
use Rattle.md_engine.specs.declared.event.Name.{Name}
use Rattle.md_engine.specs.declared.event.Name.TheVariants as n
use Rattle.md_engine.specs.declared.event.Point.{Point}
use Rattle.md_leaves.specs.Turned.{BeginsText, EndsText, EndsUnderline, Stays, Turn, given_by, is_paragraph, is_turned}
use Rattle.md_leaves.specs.Turned.{is_underline, on_after, turn, turned, turned_from}
use Rattle.md_leaves.proofs.TurnedLemmas.{passes-given}
use Rattle.md_events.specs.Events.Nested.{Forward, Matches, Nested, around, open_after, pair}
use Rattle.md_events.specs.Events.Places.{at_or_before, first_point}
use Rattle.md_events.proofs.NestedLemmas.{at_or_before-refl}
use Rattle.md_order.specs.TurnsNest.{Apart, Between, InText, InUnderline, IsOther, MayBeAt, Spot, TurnsNest}
use Rattle.md_order.specs.TurnsNest.{TurnsNestFrom, spot_by}

-- What is open: no heading; or one around these names, with those open in it, the innermost first, since its text, the
-- end of its text, or its underline began.
data Now : Type 0 where
  Free : List Name → Now
  Text : List Name → List Name → Now
  Gap : List Name → List Name → Now
  Under : List Name → List Name → Now

abbrev names_at : Now → List Name
names_at (Free names) = names
names_at (Text inside outer) = inside ++ n.Paragraph ∷ outer
names_at (Gap inside outer) = inside ++ outer
names_at (Under inside outer) = inside ++ n.HeadingSetextUnderline ∷ outer

abbrev given_at : Now → List Name
given_at (Free names) = names
given_at (Text inside outer) = inside ++ n.HeadingSetextText ∷ n.HeadingSetext ∷ outer
given_at (Gap inside outer) = inside ++ n.HeadingSetext ∷ outer
given_at (Under inside outer) = inside ++ n.HeadingSetextUnderline ∷ n.HeadingSetext ∷ outer

abbrev on_at : Now → Bool
on_at (Free names) = false
on_at _ = true

abbrev spot_at : Now → Spot
spot_at (Free names) = Apart
spot_at (Text inside outer) = InText
spot_at (Gap inside outer) = Between (length inside)
spot_at (Under inside outer) = InUnderline

-- of no paragraph and no underline
abbrev AreOthers : List Name → Type 0
AreOthers [] = Unit {0}
AreOthers (name ∷ names) = IsOther (is_paragraph name) (is_underline name) × AreOthers names

abbrev Good : Now → Type 0
Good (Free names) = Unit {0}
Good (Text inside outer) = AreOthers inside
Good (Gap inside outer) = AreOthers inside
Good (Under inside outer) = AreOthers inside

-- what has to be shown
abbrev KeptTo : Now → List Event → List Event → Type 0
KeptTo now es given =
    Matches (given_at now) given × (open_after (names_at now) es ≡ [] → open_after (given_at now) given ≡ [])

abbrev Kept : Now → List Event → Type 0
Kept now es = KeptTo now es (turned_from (on_at now) es)

abbrev Keeps : List Event → Type 0
Keeps es =
    (now : Now) → Good now → Matches (names_at now) es → TurnsNestFrom (spot_at now) es → Kept now es

abbrev event : Kind → Name → Point → Option Link → Event
event kind name p link = record { kind = kind; name = name; point = p; link = link }

abbrev KeepsBy : List Event → Point → Option Link → Kind → Name → Type 0
KeepsBy es p link kind name = Keeps (event kind name p link ∷ es)

-- where others are alone no paragraph begins, and what is innermost is neither a paragraph nor an underline
is_none : {X : Type 0} → IsOther true false → X
is_none h = absurd (let no : true ≡ false = h.0 in cc)

no-name : {X : Type 0} (name other : Name) → IsOther (is_paragraph name) (is_underline name) → name ≡ other →
    (is_paragraph other ≡ true) → X
no-name name other h same is =
    absurd (let no : true ≡ false = sym is ∙ ap is_paragraph (sym same) ∙ h.0 in cc)

no-underline : {X : Type 0} (name other : Name) → IsOther (is_paragraph name) (is_underline name) → name ≡ other →
    (is_underline other ≡ true) → X
no-underline name other h same is =
    absurd (let no : true ≡ false = sym is ∙ ap is_underline (sym same) ∙ h.1 in cc)

-- A paragraph begins.
begins : (es : List Event) (p : Point) (link : Option Link) → Keeps es → KeepsBy es p link Enter n.Paragraph
begins es p link keeps (Free names) good matches nests = go (is_turned es) nests.1
  where
    go : (x : Bool) → TurnsNestFrom (cond x InText Apart) es →
        KeptTo (Free names) (event Enter n.Paragraph p link ∷ es)
        (given_by BeginsText false x (event Enter n.Paragraph p link) ++ turned_from x es)
    go true more = let k : Kept (Text [] names) es = keeps (Text [] names) tt matches.1 more in ((tt, (tt, k.0)), k.1)
    go false more =
        let k : Kept (Free (n.Paragraph ∷ names)) es = keeps (Free (n.Paragraph ∷ names)) tt matches.1 more in
        ((tt, k.0), k.1)
begins es p link keeps (Text inside outer) good matches nests = is_none nests.0
begins es p link keeps (Gap [] outer) good matches nests = absurd (let no : true ≡ false = nests.0 in cc)
begins es p link keeps (Gap (name ∷ inside) outer) good matches nests = is_none nests.0
begins es p link keeps (Under inside outer) good matches nests = is_none nests.0

-- One ends.
ends : (es : List Event) (p : Point) (link : Option Link) → Keeps es → KeepsBy es p link Exit n.Paragraph
ends es p link keeps (Free []) good matches nests = absurd matches.0
ends es p link keeps (Free (name ∷ names)) good matches nests =
    let k : Kept (Free names) es = keeps (Free names) tt matches.1 nests.1 in ((matches.0, k.0), k.1)
ends es p link keeps (Text [] outer) good matches nests =
    let k : Kept (Gap [] outer) es = keeps (Gap [] outer) tt matches.1 nests.1 in ((refl, k.0), k.1)
ends es p link keeps (Text (name ∷ inside) outer) good matches nests =
    no-name name n.Paragraph good.0 matches.0 refl
ends es p link keeps (Gap [] outer) good matches nests = absurd nests.0
ends es p link keeps (Gap (name ∷ inside) outer) good matches nests =
    no-name name n.Paragraph good.0 matches.0 refl
ends es p link keeps (Under [] outer) good matches nests =
    absurd (let no : n.HeadingSetextUnderline ≡ n.Paragraph = matches.0 in cc)
ends es p link keeps (Under (name ∷ inside) outer) good matches nests =
    no-name name n.Paragraph good.0 matches.0 refl

-- An underline begins.
underlines : (es : List Event) (p : Point) (link : Option Link) → Keeps es →
    KeepsBy es p link Enter n.HeadingSetextUnderline
underlines es p link keeps (Free names) good matches nests =
    let k : Kept (Free (n.HeadingSetextUnderline ∷ names)) es =
    keeps (Free (n.HeadingSetextUnderline ∷ names)) tt matches.1 nests.1 in
    ((tt, k.0), k.1)
underlines es p link keeps (Text inside outer) good matches nests =
    absurd (let no : true ≡ false = nests.0.1 in cc)
underlines es p link keeps (Gap [] outer) good matches nests =
    let k : Kept (Under [] outer) es = keeps (Under [] outer) tt matches.1 nests.1 in ((tt, k.0), k.1)
underlines es p link keeps (Gap (name ∷ inside) outer) good matches nests =
    absurd (let no : true ≡ false = nests.0.1 in cc)
underlines es p link keeps (Under inside outer) good matches nests =
    absurd (let no : true ≡ false = nests.0.1 in cc)

-- One ends.
underlined : (es : List Event) (p : Point) (link : Option Link) → Keeps es →
    KeepsBy es p link Exit n.HeadingSetextUnderline
underlined es p link keeps (Free []) good matches nests = absurd matches.0
underlined es p link keeps (Free (name ∷ names)) good matches nests =
    let k : Kept (Free names) es = keeps (Free names) tt matches.1 nests.1 in ((matches.0, k.0), k.1)
underlined es p link keeps (Text [] outer) good matches nests =
    absurd (let no : n.Paragraph ≡ n.HeadingSetextUnderline = matches.0 in cc)
underlined es p link keeps (Text (name ∷ inside) outer) good matches nests =
    no-underline name n.HeadingSetextUnderline good.0 matches.0 refl
underlined es p link keeps (Gap [] outer) good matches nests = absurd nests.0
underlined es p link keeps (Gap (name ∷ inside) outer) good matches nests =
    no-underline name n.HeadingSetextUnderline good.0 matches.0 refl
underlined es p link keeps (Under [] outer) good matches nests =
    let k : Kept (Free outer) es = keeps (Free outer) tt matches.1 nests.1 in ((refl, (refl, k.0)), k.1)
underlined es p link keeps (Under (name ∷ inside) outer) good matches nests =
    no-underline name n.HeadingSetextUnderline good.0 matches.0 refl

-- Another event passes.
pass-free : (kind : Kind) (name : Name) (p : Point) (link : Option Link) (es : List Event) (names : List Name) →
    Keeps es → Matches names (event kind name p link ∷ es) → TurnsNestFrom Apart es →
    KeptTo (Free names) (event kind name p link ∷ es) (event kind name p link ∷ turned_from false es)
pass-free Enter name p link es names keeps matches more =
    let k : Kept (Free (name ∷ names)) es = keeps (Free (name ∷ names)) tt matches.1 more in ((tt, k.0), k.1)
pass-free Exit name p link es [] keeps matches more = absurd matches.0
pass-free Exit name p link es (other ∷ names) keeps matches more =
    let k : Kept (Free names) es = keeps (Free names) tt matches.1 more in ((matches.0, k.0), k.1)

pass-text : (kind : Kind) (name : Name) (p : Point) (link : Option Link) (es : List Event)
    (inside outer : List Name) → Keeps es → IsOther (is_paragraph name) (is_underline name) → AreOthers inside →
    Matches (names_at (Text inside outer)) (event kind name p link ∷ es) → TurnsNestFrom InText es →
    KeptTo (Text inside outer) (event kind name p link ∷ es) (event kind name p link ∷ turned_from true es)
pass-text Enter name p link es inside outer keeps other good matches more =
    let k : Kept (Text (name ∷ inside) outer) es = keeps (Text (name ∷ inside) outer) (other, good) matches.1 more in
    ((tt, k.0), k.1)
pass-text Exit name p link es [] outer keeps other good matches more =
    no-name name n.Paragraph other (sym matches.0) refl
pass-text Exit name p link es (same ∷ inside) outer keeps other good matches more =
    let k : Kept (Text inside outer) es = keeps (Text inside outer) good.1 matches.1 more in ((matches.0, k.0), k.1)

pass-under : (kind : Kind) (name : Name) (p : Point) (link : Option Link) (es : List Event)
    (inside outer : List Name) → Keeps es → IsOther (is_paragraph name) (is_underline name) → AreOthers inside →
    Matches (names_at (Under inside outer)) (event kind name p link ∷ es) → TurnsNestFrom InUnderline es →
    KeptTo (Under inside outer) (event kind name p link ∷ es) (event kind name p link ∷ turned_from true es)
pass-under Enter name p link es inside outer keeps other good matches more =
    let k : Kept (Under (name ∷ inside) outer) es =
    keeps (Under (name ∷ inside) outer) (other, good) matches.1 more in
    ((tt, k.0), k.1)
pass-under Exit name p link es [] outer keeps other good matches more =
    no-underline name n.HeadingSetextUnderline other (sym matches.0) refl
pass-under Exit name p link es (same ∷ inside) outer keeps other good matches more =
    let k : Kept (Under inside outer) es = keeps (Under inside outer) good.1 matches.1 more in ((matches.0, k.0), k.1)

pass-gap : (kind : Kind) (name : Name) (p : Point) (link : Option Link) (es : List Event)
    (inside outer : List Name) → Keeps es → IsOther (is_paragraph name) (is_underline name) → AreOthers inside →
    Matches (names_at (Gap inside outer)) (event kind name p link ∷ es) →
    MayBeAt (Between (length inside)) kind false false →
    TurnsNestFrom (spot_by (Between (length inside)) kind false false (is_turned es)) es →
    KeptTo (Gap inside outer) (event kind name p link ∷ es) (event kind name p link ∷ turned_from true es)
pass-gap Enter name p link es [] outer keeps other good matches may more =
    let k : Kept (Gap (name ∷ []) outer) es = keeps (Gap (name ∷ []) outer) (other, tt) matches.1 more in
    ((tt, k.0), k.1)
pass-gap Enter name p link es (same ∷ inside) outer keeps other good matches may more =
    let k : Kept (Gap (name ∷ same ∷ inside) outer) es =
    keeps (Gap (name ∷ same ∷ inside) outer) (other, good) matches.1 more in
    ((tt, k.0), k.1)
pass-gap Exit name p link es [] outer keeps other good matches may more = absurd may
pass-gap Exit name p link es (same ∷ inside) outer keeps other good matches may more =
    let k : Kept (Gap inside outer) es = keeps (Gap inside outer) good.1 matches.1 more in ((matches.0, k.0), k.1)

-- what is asked of such an event, and where one is after it
same-spot : (spot : Spot) (kind : Kind) (x y turned : Bool) (es : List Event) → IsOther x y →
    MayBeAt spot kind x y × TurnsNestFrom (spot_by spot kind x y turned) es →
    MayBeAt spot kind false false × TurnsNestFrom (spot_by spot kind false false turned) es
same-spot spot kind x y turned es other h =
    subst
    (λ (b : Bool). MayBeAt spot kind false b × TurnsNestFrom (spot_by spot kind false b turned) es) other.1
    (subst (λ (b : Bool). MayBeAt spot kind b y × TurnsNestFrom (spot_by spot kind b y turned) es) other.0 h)

apart-spot : (kind : Kind) (turned : Bool) (es : List Event) →
    TurnsNestFrom (spot_by Apart kind false false turned) es → TurnsNestFrom Apart es
apart-spot Enter turned es h = h
apart-spot Exit turned es h = h

text-spot : (kind : Kind) (turned : Bool) (es : List Event) →
    TurnsNestFrom (spot_by InText kind false false turned) es → TurnsNestFrom InText es
text-spot Enter turned es h = h
text-spot Exit turned es h = h

under-spot : (kind : Kind) (turned : Bool) (es : List Event) →
    TurnsNestFrom (spot_by InUnderline kind false false turned) es → TurnsNestFrom InUnderline es
under-spot Enter turned es h = h
under-spot Exit turned es h = h

passes : (es : List Event) (p : Point) (link : Option Link) → Keeps es → (kind : Kind) (name : Name) →
    IsOther (is_paragraph name) (is_underline name) → KeepsBy es p link kind name
passes es p link keeps kind name other now good matches nests =
    subst (KeptTo now (event kind name p link ∷ es))
    (sym (passes-given (on_at now) (event kind name p link) es (rw (other.0, other.1) refl)))
    (go now good matches
    (same-spot (spot_at now) kind (is_paragraph name) (is_underline name) (is_turned es) es other nests))
  where
    go : (now : Now) → Good now → Matches (names_at now) (event kind name p link ∷ es) →
        MayBeAt (spot_at now) kind false false
        × TurnsNestFrom (spot_by (spot_at now) kind false false (is_turned es)) es →
        KeptTo now (event kind name p link ∷ es) (event kind name p link ∷ turned_from (on_at now) es)
    go (Free names) good matches nests =
        pass-free kind name p link es names keeps matches (apart-spot kind (is_turned es) es nests.1)
    go (Text inside outer) good matches nests =
        pass-text kind name p link es inside outer keeps other good matches
        (text-spot kind (is_turned es) es nests.1)
    go (Gap inside outer) good matches nests =
        pass-gap kind name p link es inside outer keeps other good matches nests.0 nests.1
    go (Under inside outer) good matches nests =
        pass-under kind name p link es inside outer keeps other good matches
        (under-spot kind (is_turned es) es nests.1)

-- All events.

paragraph-name : (name : Name) → is_paragraph name ≡ true → name ≡ n.Paragraph
paragraph-name n.Paragraph h = refl
paragraph-name _ h = absurd (let no : false ≡ true = h in cc)

underline-name : (name : Name) → is_underline name ≡ true → name ≡ n.HeadingSetextUnderline
underline-name n.HeadingSetextUnderline h = refl
underline-name _ h = absurd (let no : false ≡ true = h in cc)

-- an event begins or ends a paragraph or an underline, or passes
by-name : (P : Kind → Name → Type 0) → P Enter n.Paragraph → P Exit n.Paragraph → P Enter n.HeadingSetextUnderline →
    P Exit n.HeadingSetextUnderline →
    ((kind : Kind) (name : Name) → IsOther (is_paragraph name) (is_underline name) → P kind name) →
    (kind : Kind) (name : Name) → P kind name
by-name P begins ends underlines underlined passes kind name =
    go (is_paragraph name) refl (is_underline name) refl kind
  where
    go : (x : Bool) → is_paragraph name ≡ x → (y : Bool) → is_underline name ≡ y → (kind : Kind) → P kind name
    go true h y k Enter = subst (P Enter) (sym (paragraph-name name h)) begins
    go true h y k Exit = subst (P Exit) (sym (paragraph-name name h)) ends
    go false h true k Enter = subst (P Enter) (sym (underline-name name k)) underlines
    go false h true k Exit = subst (P Exit) (sym (underline-name name k)) underlined
    go false h false k kind = passes kind name (h, k)

keeps-all : (es : List Event) → Keeps es
keeps-all [] (Free names) good matches nests = (tt, λ e. e)
keeps-all [] (Text inside outer) good matches nests = absurd (let no : InText ≡ Apart = nests in cc)
keeps-all [] (Gap inside outer) good matches nests = absurd (let no : Between (length inside) ≡ Apart = nests in cc)
keeps-all [] (Under inside outer) good matches nests = absurd (let no : InUnderline ≡ Apart = nests in cc)
keeps-all (e ∷ es) now good matches nests =
    by-name (KeepsBy es e.point e.link) (begins es e.point e.link (keeps-all es))
    (ends es e.point e.link (keeps-all es)) (underlines es e.point e.link (keeps-all es))
    (underlined es e.point e.link (keeps-all es)) (passes es e.point e.link (keeps-all es))
    e.kind e.name now good matches nests

-- Points never go back.

given-forward : (t : Turn) (on begins : Bool) (p : Point) (e : Event) (es : List Event) →
    IsTrue (at_or_before p e.point) → Forward e.point es → Forward p (given_by t on begins e ++ es)
given-forward BeginsText on true p e es h k = (h, (at_or_before-refl e.point, k))
given-forward BeginsText on false p e es h k = (h, k)
given-forward EndsText true begins p e es h k = (h, k)
given-forward EndsText false begins p e es h k = (h, k)
given-forward EndsUnderline true begins p e es h k = (h, (at_or_before-refl e.point, k))
given-forward EndsUnderline false begins p e es h k = (h, k)
given-forward Stays on begins p e es h k = (h, k)

turned-forward : (on : Bool) (p : Point) (es : List Event) → Forward p es → Forward p (turned_from on es)
turned-forward on p [] h = tt
turned-forward on p (e ∷ es) h =
    given-forward (turn e) on (is_turned es) p e (turned_from (on_after on e es) es) h.0
    (turned-forward (on_after on e es) e.point es h.1)

-- Events with their setext headings nest, if they did and headings may be there.
pub turned-nested : (events : List Event) → TurnsNest events → Nested events → Nested (turned events)
turned-nested events nests nested =
    let k : Kept (Free []) events = keeps-all events (Free []) tt nested.balanced.matches nests in
    record {
      balanced = record { matches = k.0; closed = k.1 nested.balanced.closed };
      forward = turned-forward false first_point events nested.forward;
    }

-- A paragraph and its underline are so as states give them, an ending between them.
sample : (p q r s : Point) →
    TurnsNest
    (around n.Paragraph p q (pair n.Data p q) ++ pair n.LineEnding q r
    ++ around n.HeadingSetextUnderline r s (pair n.HeadingSetextUnderlineSequence r s))
sample p q r s = (tt, ((refl, refl), (tt, (tt, (refl, (tt, (refl, ((refl, refl), (tt, (tt, refl))))))))))
