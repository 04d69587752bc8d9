-- The walk that puts lists around items, line by line.
--
-- It knows, before each line, the markers of the items that are open, and whether a list continues: whether the next
-- block is an item with the marker of the block that is last there.
use Rattle.std.proofs.Common.{◌≡◌, ℕ, suc, ◌≤◌, ◌<◌, Bool, true, false, cond, ◌&&◌, List, [], ◌∷◌, ◌++◌, length}
use Rattle.std.proofs.Common.{take, drop, refl, ap, ap₂, sym, ◌∙◌, subst, arith, rules, append_assoc, append-nil}
use Rattle.std.specs.Prelude.{◌-◌, ◌==◌, nat_lt, if◌then◌else◌, Option, None}
use Rattle.std.proofs.Math.Seq.{drop-append_seam}
use Rattle.std.proofs.lemmas.Bool.{eqb-true, false_from_ne_true}
use Rattle.std.proofs.lemmas.List.{length-append, length-drop, length-map, take-append-drop, take_all}
use Rattle.md_engine.specs.declared.configuration.ParseOptions.{ParseOptions}
use Rattle.md_engine.specs.declared.event.Event.{Event}
use Rattle.md_engine.specs.declared.event.Name.TheVariants as n
use Rattle.md_engine.specs.declared.event.Point.{Point}
use Rattle.md_meaning.specs.Containers.{Taken}
use Rattle.md_meaning.specs.Rest.{Rest, lose}
use Rattle.md_meaning.specs.State.{Container, InFootnote, InItem, InQuote, Path, spot}
use Rattle.md_meaning.specs.Step.{step}
use Rattle.md_events.specs.Events.Blocks.{is_block}
use Rattle.md_containers.specs.Listed.{Place, is_continued, is_item, listed_from, next_item}
use Rattle.md_events.specs.Exact.Blocks as blocks
use Rattle.md_events.specs.Exact.Leaves.{content_line, joined}
use Rattle.md_events.specs.Exact.Places.{TextLine, ending, line_end, place, piece, white, whole}
use Rattle.md_events.specs.Exact.Prefixes.{begins, following_all, blocks_before, containers, further_prefixes}
use Rattle.md_events.specs.Exact.Rows.{AfterCode, Blank, Role, Row, begin_with_item, ends_from, is_blank_role, list_continued}
use Rattle.md_events.specs.Exact.Rows.{next_role, next_stays, rows_of}
use Rattle.proof_exact_lines.specs.Last.{continues_between, last_at, last_in, last_of, marker_in}
use Rattle.proof_exact_lines.specs.Unlisted.{IsLeaf, MarkersAllowed, NoneIs, plain_begins, plain_ends, without_lists}
use Rattle.proof_exact_lines.proofs.GroupEvents.{all-first, all_events, all_unlisted, begins-without, following-last}
use Rattle.proof_exact_lines.proofs.GroupEvents.{following_leaf, ending-none, ends-without, first_leaf}
use Rattle.proof_exact_lines.proofs.GroupEvents.{tail_name, unlisted-all, unlisted-last, unlisted_after, without-append}
use Rattle.proof_exact_lines.proofs.GroupEvents.{without-none}
use Rattle.proof_exact_lines.proofs.ListWalk.{begins-next, begins-walk, ends-next, ends-walk, further-none}
use Rattle.proof_exact_lines.proofs.ListWalk.{markers-append, markers_from, next-passes, none-append, none-between}
use Rattle.proof_exact_lines.proofs.ListWalk.{none-items, none-piece, walk-passes}
use Rattle.proof_exact_lines.proofs.RowLast.{Begins, Remains, gone-fewer, last-drop, last-whole, on_of}
use Rattle.proof_exact_lines.proofs.StepLast.{held_in}

-- Numbers.

same-size : (n : ℕ) → (n == n) ≡ true
same-size n = search rules

fewer-not : (n m : ℕ) → n < m → (n == m) ≡ false
fewer-not n m h = false_from_ne_true (n == m) (λ e. absurd (omega (arith, h, eqb-true n m e)))

marker-same : (n m : ℕ) → (n == m) ≡ (m == n)
marker-same n m = search rules

one-of : (x : Bool) (n m : ℕ) → m ≤ n → cond x n m ≤ n
one-of true n m h = omega arith
one-of false n m h = h

-- how many containers stay open on the next line
pub stays-fewer : (options : ParseOptions) (p : Path) (lines : List TextLine) →
    next_stays (rows_of options p lines) ≤ length (containers p)
stays-fewer options p [] = omega arith
stays-fewer options p (line ∷ lines) = one-of _ (length (containers p)) (length (on_of options p line))
    (gone-fewer options p (whole line))

-- the list of an item ends where a container around it does
ended-not : (options : ParseOptions) (deep m : ℕ) (below : List Row) → suc (next_stays below) ≤ deep →
    list_continued deep m below ≡ false
ended-not options deep m [] h = refl
ended-not options deep m (row ∷ below) h = ap (λ (x : Bool). x && more) (fewer-not row.stays deep (omega arith))
  where
    more : Bool
    more =
        if nat_lt deep (length row.held) then begin_with_item m (drop deep row.held)
        else is_blank_role row.role && list_continued deep m below

-- Where the walk is.

abbrev pub at : Bool → List ℕ → Place
at within markers = record { within = within; markers = markers }

-- before these lines, where this is open before the first
abbrev pub front_place : ParseOptions → List ℕ → Path → List Row → Place
front_place options bytes p rows =
    at (continues_between (last_at (next_stays rows) p) (next_item bytes (all_unlisted options rows)))
    (markers_from [] (take (next_stays rows) (containers p)))

-- after the leaf of a line, where this is open after it and these events follow
abbrev pub after_place : List ℕ → Path → List Event → Place
after_place bytes p es = at (continues_between (last_in (spot p)) (next_item bytes es)) (markers_from [] (containers p))

-- Before these lines the walk gives their lists,
abbrev pub FrontListed : ParseOptions → List ℕ → Path → List Row → Type 0
FrontListed options bytes p rows =
    listed_from bytes (front_place options bytes p rows) (all_unlisted options rows) ≡ all_events options rows

-- and it does so after the leaf of the first, after which this is open.
abbrev pub AfterListed : ParseOptions → List ℕ → Path → List Row → Type 0
AfterListed options bytes after rows =
    listed_from bytes (after_place bytes after (unlisted_after options rows)) (unlisted_after options rows)
    ≡ following_leaf options rows

-- whether a list continues at these lines is what the next block says
abbrev pub NextRecorded : ParseOptions → List ℕ → List Row → Type 0
NextRecorded options bytes rows =
    (m : ℕ) → list_continued (next_stays rows) m rows ≡ is_continued m (next_item bytes (all_unlisted options rows))

-- After a leaf that ends with its line.

-- what a row has after its leaf
pub record Ending (after : Path) (line : TextLine) (below : List Row) (row : Row) : Type 0 where
  pub ends : row.ends
      ≡ ends_from (next_stays below) (drop (next_stays below) (containers after)) (place line (line_end line)) below
  pub fewer : next_stays below ≤ length (containers after)
  pub last : blocks.is_continued (next_role below) ≡ false

ended-plain : (options : ParseOptions) (after : Path) (line : TextLine) (below : List Row) (row : Row) →
    Ending after line below row →
    unlisted_after options (row ∷ below)
    ≡ plain_ends (drop (next_stays below) (containers after)) (place line (line_end line))
    ++ (ending (tail_name row) row.line ++ all_unlisted options below)
ended-plain options after line below row is =
    unlisted-last options row below is.last
    ∙ ap (λ (l : List Event). l ++ (ending (tail_name row) row.line ++ all_unlisted options below))
    (ap without_lists is.ends
    ∙ ends-without (next_stays below) (drop (next_stays below) (containers after)) (place line (line_end line)) below)

pub ended-walk : (options : ParseOptions) (bytes : List ℕ) (after : Path) (line : TextLine) (below : List Row)
    (row : Row) →
    Ending after line below row → NextRecorded options bytes below → FrontListed options bytes after below →
    AfterListed options bytes after (row ∷ below)
ended-walk options bytes after line below row is recorded front =
    ap (λ (es : List Event). listed_from bytes (after_place bytes after es) es)
    (ended-plain options after line below row is)
    ∙ go cs-left refl ∙ sym listed
  where
    size : ℕ
    size = next_stays below

    cs : List Container
    cs = containers after

    cs-left : List Container
    cs-left = drop size cs

    p : Point
    p = place line (line_end line)

    end : List Event
    end = ending (tail_name row) row.line

    more : List Event
    more = all_unlisted options below

    listed : following_leaf options (row ∷ below) ≡ ends_from size cs-left p below ++ (end ++ all_events options below)
    listed =
        following-last options row below is.last
        ∙ ap (λ (l : List Event). l ++ (end ++ all_events options below)) is.ends

    -- over the ending, where the last block is known
    over : (last : Option ℕ) → last ≡ last_at size after →
        listed_from bytes
        (at (continues_between last (next_item bytes (end ++ more))) (markers_from [] (take size cs))) (end ++ more)
        ≡ end ++ all_events options below
    over last e =
        ap₂ (λ (x : Option ℕ) (y : Option ℕ). listed_from bytes (at (continues_between x y)
        (markers_from [] (take size cs))) (end ++ more))
        e (next-passes bytes end more (ending-none row))
        ∙ walk-passes bytes (front_place options bytes after below) end more (none-items end (ending-none row))
        ∙ ap (λ (l : List Event). end ++ l) front

    go : (left : List Container) → drop size cs ≡ left →
        listed_from bytes (after_place bytes after (plain_ends left p ++ (end ++ more)))
        (plain_ends left p ++ (end ++ more))
        ≡ ends_from size left p below ++ (end ++ all_events options below)
    go [] e =
        let none : length cs - size ≡ 0 = sym (length-drop size cs) ∙ ap (λ (l : List Container). length l) e in
        let whole : size ≡ length cs = omega (arith, none, is.fewer) in
        ap
        (λ (ds : List Container).
        listed_from bytes
        (at (continues_between (last_in (spot after)) (next_item bytes (end ++ more))) (markers_from [] ds))
        (end ++ more))
        (sym (take_all size cs (omega (arith, whole))))
        ∙ over (last_in (spot after)) (sym (last-whole after) ∙ ap (λ (n : ℕ). last_at n after) (sym whole))
    go (c ∷ left) e =
        let rest : List Event = end ++ more in
        ap₂ (λ (w : Bool) (ms : List ℕ). listed_from bytes (at w ms) (plain_ends (c ∷ left) p ++ rest))
        (ap (continues_between (last_in (spot after))) (ends-next bytes c left p rest)
        ∙ none-between (last_in (spot after)))
        (ap (markers_from []) (sym (take-append-drop size cs) ∙ ap (λ (ds : List Container). take size cs ++ ds) e)
        ∙ markers-append [] (take size cs) (c ∷ left))
        ∙ ends-walk bytes size c left p below (markers_from [] (take size cs)) rest
        (λ m. recorded m ∙ ap (is_continued m) (sym (next-passes bytes end more (ending-none row))))
        (λ deep m h. ended-not options deep m below h)
        ∙ ap (λ (l : List Event). ends_from size (c ∷ left) p below ++ l)
        (over (marker_in c) (sym (last-drop size after c left e)))

-- Leaves.

-- what the leaf of a line owes: a blank line is no block
pub record Valid (bytes : List ℕ) (role : Role) (leaf : List Event) : Type 0 where
  pub items : NoneIs is_item leaf
  pub blank : is_blank_role role ≡ true → NoneIs is_block leaf
  pub block : is_blank_role role ≡ false → (rest : List Event) → next_item bytes (leaf ++ rest) ≡ None

content-none : (columns : ℕ) (row : Row) →
    NoneIs is_block (joined (content_line n.SpaceOrTab columns) (row ∷ []))
content-none columns row =
    let line = row.line in
    let r = row.rest in
    let front = white line r (lose columns r) in
    let back = piece line n.SpaceOrTab (lose columns r) (line_end line) in
    none-append is_block ((front ++ back) ++ []) []
    (none-append is_block (front ++ back) []
    (none-append is_block front back (none-piece is_block line n.SpaceOrTab r (lose columns r) refl)
    (none-piece is_block line n.SpaceOrTab (lose columns r) (line_end line) refl)) tt) tt

pub leaf-valid : (options : ParseOptions) (bytes : List ℕ) (role : Role) (row : Row) (further : List Row) →
    (is_blank_role role ≡ true → further ≡ []) →
    (is_blank_role role ≡ false → IsLeaf bytes (blocks.events_by options role (row ∷ further))) →
    Valid bytes role (blocks.events_by options role (row ∷ further))
leaf-valid options bytes role row further alone leaf = go (is_blank_role role) refl
  where
    spaces : (role : Role) → is_blank_role role ≡ true → NoneIs is_block (blocks.events_by options role (row ∷ []))
    spaces Blank e = content-none 0 row
    spaces AfterCode e = content-none 4 row
    spaces _ e = absurd (cc)

    go : (x : Bool) → is_blank_role role ≡ x → Valid bytes role (blocks.events_by options role (row ∷ further))
    go true e =
        let none : NoneIs is_block (blocks.events_by options role (row ∷ further)) =
        subst (λ (rows : List Row). NoneIs is_block (blocks.events_by options role (row ∷ rows))) (sym (alone e))
        (spaces role e) in
        record {
          items = none-items (blocks.events_by options role (row ∷ further)) none;
          blank = λ f. none;
          block = λ f. let no : true ≡ false = sym e ∙ f in absurd (cc);
        }
    go false e = record {
      items = (leaf e).items;
      blank = λ f. let no : false ≡ true = sym e ∙ f in absurd (cc);
      block = λ f. (leaf e).next;
    }

-- Before a line.

abbrev pub after : ParseOptions → Path → TextLine → Path
after options p line = step options p (whole line)

-- what a row has in front
abbrev prefixes : ParseOptions → Path → TextLine → List Event
prefixes options p line = further_prefixes line (whole line) (on_of options p line)

-- where containers open
pub begins-listed : (options : ParseOptions) (bytes : List ℕ) (p : Path) (line : TextLine) (below : List Row)
    (row : Row)
    (t : Taken) (ts : List Taken) → Begins options p line row t ts →
    MarkersAllowed bytes line (following_all (whole line) (on_of options p line)) (t ∷ ts) →
    Valid bytes row.role (first_leaf options row below) →
    AfterListed options bytes (after options p line) (row ∷ below) → FrontListed options bytes p (row ∷ below)
begins-listed options bytes p line below row t ts is markers leaf following =
    ap (λ (es : List Event). listed_from bytes (at (continues_between (last_at row.stays p)
    (next_item bytes es)) ms) es) plain
    ∙ ap (λ (w : Bool). listed_from bytes (at w ms) (front ++ (opening ++ rest))) within
    ∙ walk-passes bytes (at first ms) front (opening ++ rest) (none-items front further)
    ∙ ap (λ (l : List Event). front ++ l)
    (begins-walk bytes line (after options p line) size inner t ts first ms rest markers refl is.opens.inside
    ∙ ap (λ (l : List Event). lists ++ l)
    (ap (λ (ns : List ℕ). listed_from bytes (at false ns) rest) all_open
    ∙ walk-passes bytes (at false (markers_from [] (containers (after options p line)))) leaf_events
    (unlisted_after options (row ∷ below)) leaf.items
    ∙ ap (λ (l : List Event). leaf_events ++ l)
    (ap
    (λ (w : Bool).
    listed_from bytes (at w (markers_from [] (containers (after options p line))))
    (unlisted_after options (row ∷ below)))
    (ap (λ (x : Option ℕ). continues_between x (next_item bytes (unlisted_after options (row ∷ below))))
    (sym is.opens.ends.last))
    ∙ following)))
    ∙ sym (append_assoc front lists (leaf_events ++ following_leaf options (row ∷ below)))
    ∙ ap (λ (l : List Event). l ++ (leaf_events ++ following_leaf options (row ∷ below))) (sym is.front)
    ∙ sym (all-first options row below)
  where
    size : ℕ
    size = length (on_of options p line)

    inner : Rest
    inner = following_all (whole line) (on_of options p line)

    ms : List ℕ
    ms = markers_from [] (take row.stays (containers p))

    front : List Event
    front = prefixes options p line

    opening : List Event
    opening = plain_begins line inner (t ∷ ts)

    lists : List Event
    lists = begins line (after options p line) size inner (t ∷ ts)

    leaf_events : List Event
    leaf_events = first_leaf options row below

    rest : List Event
    rest = leaf_events ++ unlisted_after options (row ∷ below)

    further : NoneIs is_block front
    further = further-none line (whole line) (on_of options p line)

    first : Bool
    first = continues_between (last_of (blocks_before size (after options p line))) (marker_in t.container)

    plain : all_unlisted options (row ∷ below) ≡ front ++ (opening ++ rest)
    plain =
        unlisted-all options row below
        ∙ ap (λ (l : List Event). l ++ rest)
        (ap without_lists is.front ∙ without-append front lists
        ∙ ap₂ (λ (a b : List Event). a ++ b) (without-none front further)
        (begins-without line (after options p line) size inner (t ∷ ts)))
        ∙ append_assoc front opening rest

    within : continues_between (last_at row.stays p) (next_item bytes (front ++ (opening ++ rest))) ≡ first
    within =
        ap₂ continues_between (ap (λ (n : ℕ). last_at n p) is.stays ∙ sym is.opens.before)
        (next-passes bytes front (opening ++ rest) further ∙ begins-next bytes line inner t ts rest markers)

    all_open : markers_from ms (held_in (t ∷ ts)) ≡ markers_from [] (containers (after options p line))
    all_open =
        ap (λ (ns : List ℕ). markers_from ns (held_in (t ∷ ts))) is.markers
        ∙ sym (markers-append [] (held_in (on_of options p line)) (held_in (t ∷ ts)))
        ∙ ap (markers_from []) (sym is.opens.held)

-- where none opens: a blank line is between blocks, and a leaf is a block
pub remains-listed : (options : ParseOptions) (bytes : List ℕ) (p : Path) (line : TextLine) (below : List Row)
    (row : Row) →
    Remains options p line below row → row.held ≡ containers (after options p line) →
    Valid bytes row.role (first_leaf options row below) →
    (is_blank_role row.role ≡ true → blocks.is_continued (next_role below) ≡ false) →
    (blocks.is_continued (next_role below) ≡ true → last_in (spot (after options p line)) ≡ None) →
    AfterListed options bytes (after options p line) (row ∷ below) → FrontListed options bytes p (row ∷ below)
remains-listed options bytes p line below row is held leaf alone opened following =
    ap (λ (es : List Event). listed_from bytes (at (continues_between (last_at row.stays p)
    (next_item bytes es)) ms) es) plain
    ∙ ap₂ (λ (w : Bool) (ns : List ℕ). listed_from bytes (at w ns) (front ++ rest))
    (within (is_blank_role row.role) refl) (sym is.markers ∙ ap (markers_from []) held)
    ∙ walk-passes bytes place_following front rest (none-items front further)
    ∙ ap (λ (l : List Event). front ++ l)
    (walk-passes bytes place_following leaf_events (unlisted_after options (row ∷ below)) leaf.items
    ∙ ap (λ (l : List Event). leaf_events ++ l) following)
    ∙ ap (λ (l : List Event). l ++ (leaf_events ++ following_leaf options (row ∷ below)))
    (sym (is.front ∙ append-nil front))
    ∙ sym (all-first options row below)
  where
    ms : List ℕ
    ms = markers_from [] (take row.stays (containers p))

    front : List Event
    front = prefixes options p line

    leaf_events : List Event
    leaf_events = first_leaf options row below

    rest : List Event
    rest = leaf_events ++ unlisted_after options (row ∷ below)

    place_following : Place
    place_following = after_place bytes (after options p line) (unlisted_after options (row ∷ below))

    further : NoneIs is_block front
    further = further-none line (whole line) (on_of options p line)

    plain : all_unlisted options (row ∷ below) ≡ front ++ rest
    plain =
        unlisted-all options row below
        ∙ ap (λ (l : List Event). l ++ rest)
        (ap without_lists (is.front ∙ append-nil front) ∙ without-none front further)

    next : Option ℕ
    next = next_item bytes (unlisted_after options (row ∷ below))

    none : (x : Bool) → blocks.is_continued (next_role below) ≡ x → is_blank_role row.role ≡ false →
        last_in (spot (after options p line)) ≡ None
    none true g e = opened g
    none false g e = is.last g ∙ ap (λ (x : Bool). cond x (last_at row.stays p) None) e

    within : (x : Bool) → is_blank_role row.role ≡ x →
        continues_between (last_at row.stays p) (next_item bytes (front ++ rest))
        ≡ continues_between (last_in (spot (after options p line))) next
    within true e =
        ap₂ continues_between
        (sym (is.last (alone e) ∙ ap (λ (x : Bool). cond x (last_at row.stays p) None) e))
        (next-passes bytes front rest further
        ∙ next-passes bytes leaf_events (unlisted_after options (row ∷ below)) (leaf.blank e))
    within false e =
        ap (continues_between (last_at row.stays p))
        (next-passes bytes front rest further ∙ leaf.block e (unlisted_after options (row ∷ below)))
        ∙ none-between (last_at row.stays p)
        ∙ ap (λ (x : Option ℕ). continues_between x next)
        (sym (none (blocks.is_continued (next_role below)) refl e))

-- What the next block is.

less-true : (n m : ℕ) → n < m → nat_lt n m ≡ true
less-true n m h = search (rules, h)

less-false : (n : ℕ) → nat_lt n n ≡ false
less-false n = search rules

-- where the lines begin in the container in which the list is
recorded-by : (m : ℕ) (row : Row) (below : List Row) (x : Bool) → nat_lt row.stays (length row.held) ≡ x →
    list_continued row.stays m (row ∷ below)
    ≡ cond x (begin_with_item m (drop row.stays row.held))
    (is_blank_role row.role && list_continued row.stays m below)
recorded-by m row below x e =
    ap₂
    (λ (a b : Bool).
    a && cond b (begin_with_item m (drop row.stays row.held))
    (is_blank_role row.role && list_continued row.stays m below))
    (same-size row.stays) e

first-recorded : (m : ℕ) (c : Container) (cs : List Container) → begin_with_item m (c ∷ cs) ≡
    is_continued m (marker_in c)
first-recorded m (InQuote kind) cs = refl
first-recorded m (InItem digits marker width starts_blank) cs = marker-same marker m
first-recorded m (InFootnote label) cs = refl

pub begins-recorded : (options : ParseOptions) (bytes : List ℕ) (p : Path) (line : TextLine)
    (below : List Row) (row : Row)
    (t : Taken) (ts : List Taken) → Begins options p line row t ts → row.held ≡ containers (after options p line) →
    MarkersAllowed bytes line (following_all (whole line) (on_of options p line)) (t ∷ ts) →
    NextRecorded options bytes (row ∷ below)
begins-recorded options bytes p line below row t ts is held markers m =
    recorded-by m row below true (less-true row.stays (length row.held) longer)
    ∙ ap (begin_with_item m) dropped ∙ first-recorded m t.container (held_in ts) ∙ ap (is_continued m) (sym next)
  where
    on : List Taken
    on = on_of options p line

    all : row.held ≡ held_in on ++ held_in (t ∷ ts)
    all = held ∙ is.opens.held

    longer : row.stays < length row.held
    longer =
        omega (
          arith,
          ap (λ (cs : List Container). length cs) all,
          length-append (held_in on) (held_in (t ∷ ts)),
          length-map on (λ (u : Taken). u.container),
          is.stays,
        )

    dropped : drop row.stays row.held ≡ held_in (t ∷ ts)
    dropped =
        ap₂ (λ (n : ℕ) (cs : List Container). drop n cs)
        (is.stays ∙ sym (length-map on (λ (u : Taken). u.container))) all
        ∙ drop-append_seam (held_in on) (held_in (t ∷ ts))

    front : List Event
    front = prefixes options p line

    rest : List Event
    rest = first_leaf options row below ++ unlisted_after options (row ∷ below)

    opening : List Event
    opening = plain_begins line (following_all (whole line) on) (t ∷ ts)

    next : next_item bytes (all_unlisted options (row ∷ below)) ≡ marker_in t.container
    next =
        ap (next_item bytes)
        (unlisted-all options row below
        ∙ ap (λ (l : List Event). l ++ rest)
        (ap without_lists is.front
        ∙ without-append front (begins line (after options p line) (length on) (following_all (whole line) on) (t ∷ ts))
        ∙ ap₂ (λ (a b : List Event). a ++ b) (without-none front (further-none line (whole line) on))
        (begins-without line (after options p line) (length on) (following_all (whole line) on) (t ∷ ts)))
        ∙ append_assoc front opening rest)
        ∙ next-passes bytes front (opening ++ rest) (further-none line (whole line) on)
        ∙ begins-next bytes line (following_all (whole line) on) t ts rest markers

-- after a blank line
ended-recorded : (options : ParseOptions) (bytes : List ℕ) (after : Path) (line : TextLine)
    (below : List Row) (row : Row) →
    Ending after line below row → NextRecorded options bytes below → (m : ℕ) →
    list_continued (length (containers after)) m below
    ≡ is_continued m (next_item bytes (unlisted_after options (row ∷ below)))
ended-recorded options bytes after line below row is recorded m =
    go (drop size cs) refl
    ∙ ap (λ (es : List Event). is_continued m (next_item bytes es)) (sym (ended-plain options after line below row is))
  where
    size : ℕ
    size = next_stays below

    cs : List Container
    cs = containers after

    p : Point
    p = place line (line_end line)

    end : List Event
    end = ending (tail_name row) row.line

    more : List Event
    more = all_unlisted options below

    go : (left : List Container) → drop size cs ≡ left →
        list_continued (length cs) m below ≡ is_continued m (next_item bytes (plain_ends left p ++ (end ++ more)))
    go [] e =
        let none : length cs - size ≡ 0 = sym (length-drop size cs) ∙ ap (λ (l : List Container). length l) e in
        let whole : length cs ≡ size = omega (arith, none, is.fewer) in
        ap (λ (n : ℕ). list_continued n m below) whole ∙ recorded m
        ∙ ap (is_continued m) (sym (next-passes bytes end more (ending-none row)))
    go (c ∷ left) e =
        let some : length cs - size ≡ suc (length left) =
        sym (length-drop size cs) ∙ ap (λ (l : List Container). length l) e in
        ended-not options (length cs) m below (omega (arith, some))
        ∙ ap (is_continued m) (sym (ends-next bytes c left p (end ++ more)))

pub remains-recorded : (options : ParseOptions) (bytes : List ℕ) (p : Path) (line : TextLine) (below : List Row)
    (row : Row) →
    Remains options p line below row → row.held ≡ containers (after options p line) →
    Valid bytes row.role (first_leaf options row below) →
    (is_blank_role row.role ≡ true → Ending (after options p line) line below row) →
    (is_blank_role row.role ≡ true → NextRecorded options bytes below) → NextRecorded options bytes (row ∷ below)
remains-recorded options bytes p line below row is held leaf ends recorded m =
    recorded-by m row below false
    (ap (nat_lt row.stays) is.size ∙ less-false row.stays)
    ∙ go (is_blank_role row.role) refl ∙ ap (is_continued m) (sym next)
  where
    front : List Event
    front = prefixes options p line

    leaf_events : List Event
    leaf_events = first_leaf options row below

    following : List Event
    following = unlisted_after options (row ∷ below)

    further : NoneIs is_block front
    further = further-none line (whole line) (on_of options p line)

    next : next_item bytes (all_unlisted options (row ∷ below)) ≡ next_item bytes (leaf_events ++ following)
    next =
        ap (next_item bytes)
        (unlisted-all options row below
        ∙ ap (λ (l : List Event). l ++ (leaf_events ++ following))
        (ap without_lists (is.front ∙ append-nil front) ∙ without-none front further))
        ∙ next-passes bytes front (leaf_events ++ following) further

    go : (x : Bool) → is_blank_role row.role ≡ x →
        (is_blank_role row.role && list_continued row.stays m below)
        ≡ is_continued m (next_item bytes (leaf_events ++ following))
    go true e =
        ap (λ (x : Bool). x && list_continued row.stays m below) e
        ∙ ap (λ (n : ℕ). list_continued n m below)
        (sym is.size ∙ ap (λ (cs : List Container). length cs) held)
        ∙ ended-recorded options bytes (after options p line) line below row (ends e) (recorded e) m
        ∙ ap (is_continued m) (sym (next-passes bytes leaf_events following (leaf.blank e)))
    go false e =
        ap (λ (x : Bool). x && list_continued row.stays m below) e
        ∙ ap (is_continued m) (sym (leaf.block e following))
