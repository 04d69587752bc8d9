-- Leaf blocks of several lines: an outline shows their lines as they come. Of setext headings `TitledLemmas` has it, of
-- definitions `DefinedLemmas`, and of tables `TabledLemmas`; `LeavesOpen` has what is the same for all, and
-- `LinedSteps` has all of them, event by event.
use Rattle.std.proofs.Common.{◌≡◌, ℕ, ◌+◌, Bool, true, false, cond, ◌==◌, List, [], ◌∷◌, ◌++◌, length}
use Rattle.std.proofs.Common.{map, refl, sym, ◌∙◌, ap, subst, append_assoc, arith}
use Rattle.std.specs.Prelude.{None, Option, Some, nat_lt, option_map}
use Rattle.std.proofs.lemmas.Bool.{eqb-true, true≢false}
use Rattle.std.proofs.lemmas.List.{map-append}
use Rattle.md_engine.specs.declared.event.Point.{Point}
use Rattle.md_meaning.specs.declared.outline.Word.{Word}
use Rattle.md_meaning.specs.declared.outline.Word.TheVariants as word
use Rattle.md_meaning.specs.Outline.{Entry, block_entries, entries, entry, entry_with, line_entry, part_entry}
use Rattle.md_meaning.specs.Texts.{first_byte}
use Rattle.md_meaning.specs.Tree.{Line}
use Rattle.md_events.specs.Events.Spelled.{AsInfo, AsLine, AsMarkers, AsMeta, CodeLeaf, FenceLeaf, FrontmatterLeaf}
use Rattle.md_events.specs.Events.Spelled.{HtmlLeaf, LeafKind, MathLeaf, OfCode, OfFence, OfFrontmatter, OfHtml, OfMath}
use Rattle.md_events.specs.Events.Spelled.{OpenLeaf, LeafRole, Reading, at_ending, at_fence, block_of, empty_line}
use Rattle.md_events.specs.Events.Spelled.{finished, joined, next_line, on_last, on_leaf, read_exit, without_last}
use Rattle.md_events.specs.Events.Spelled as spelled
use Rattle.md_outline.specs.LinedState.{closed_word, filled_line, has_own_lines, marked_word, shown_spaces, spaces_of}
use Rattle.md_outline.specs.LinedState.{with_head, without_end}
use Rattle.md_outline.specs.LinesAllowed.{HasFences, HasInfo, HasLines, HasMeta}
use Rattle.md_outline.specs.OutlineSteps.{OutlineState, fence_begun, head_marked, line_ended, state_exit, recorded}
use Rattle.md_outline.specs.OutlineSteps.{recorded_leaf}
use Rattle.md_outline.specs.Roles.{shown_as}
use Rattle.md_outline.specs.declared.outline.TextSpan.{TextSpan}
use Rattle.md_outline.specs.declared.outline.lined.Form.{Form}
use Rattle.md_outline.specs.declared.outline.lined.Form.TheVariants as form
use Rattle.md_outline.specs.declared.outline.lined.Lined.{Lined}
use Rattle.md_outline.specs.declared.outline.role.Note.TheVariants as note
use Rattle.md_outline.specs.declared.outline.role.Purpose.TheVariants as purpose
use Rattle.md_outline.proofs.ClosedTrees.{shown}
use Rattle.md_outline.proofs.LeavesOpen.{Shows, known-next, known-open, known-recorded, open-ends}
use Rattle.md_outline.proofs.LinedLines.{end-taken, head-recorded, on-last}
use Rattle.md_outline.proofs.OutlineAgrees.{Agrees}
use Rattle.md_outline.proofs.SiteTexts.{IsOpen, NoText}

-- Such a leaf block, and its lines.

abbrev pub lined_leaf : LeafKind → List ℕ → Option (List ℕ) → Option (List ℕ) → List Line → Bool → OpenLeaf
lined_leaf OfFence markers info meta lines closed =
    FenceLeaf (record { markers = markers; lines = lines; closed = closed }) info meta
lined_leaf OfMath markers info meta lines closed =
    MathLeaf (record { markers = markers; lines = lines; closed = closed }) meta
lined_leaf OfFrontmatter markers info meta lines closed =
    FrontmatterLeaf (record { markers = markers; lines = lines; closed = closed })
lined_leaf OfHtml markers info meta lines closed = HtmlLeaf lines
lined_leaf _ markers info meta lines closed = CodeLeaf lines

abbrev pub lined_word : LeafKind → ℕ → Bool → Word
lined_word OfFence marker closed = word.Fence marker closed
lined_word OfMath marker closed = word.Math closed
lined_word OfFrontmatter marker closed = word.Frontmatter marker
lined_word OfHtml marker closed = word.Html
lined_word _ marker closed = word.Code

abbrev pub lined_parts : LeafKind → ℕ → Option (List ℕ) → Option (List ℕ) → List Entry
lined_parts OfFence depth info meta = part_entry depth word.Info info ++ part_entry depth word.Meta meta
lined_parts OfMath depth info meta = part_entry depth word.Meta meta
lined_parts _ depth info meta = []

-- those of frontmatter are shown without virtual spaces
abbrev pub lined_form : LeafKind → Form
lined_form OfFrontmatter = form.Texts
lined_form _ = form.Lines

abbrev pub lined_line : LeafKind → ℕ → Line → Entry
lined_line OfFrontmatter depth l = entry_with depth word.Line l.text
lined_line _ depth l = line_entry depth l

abbrev pub lined_lines : LeafKind → ℕ → List Line → List Entry
lined_lines kind depth lines = map (lined_line kind depth) lines

abbrev pub lined_entries : LeafKind → ℕ → List ℕ → Option (List ℕ) → Option (List ℕ) → List Line → Bool → List Entry
lined_entries kind depth markers info meta lines closed =
    entry depth (lined_word kind (first_byte markers) closed)
    ∷ (lined_parts kind (depth + 1) info meta ++ lined_lines kind (depth + 1) lines)

texts-shown : (depth : ℕ) (lines : List Line) →
    entries depth word.Line (map (λ (l : Line). l.text) lines) ≡ lined_lines OfFrontmatter depth lines
texts-shown depth [] = refl
texts-shown depth (l ∷ lines) = ap (λ es. entry_with depth word.Line l.text ∷ es) (texts-shown depth lines)

lined-shown : (kind : LeafKind) (depth : ℕ) (markers : List ℕ) (info meta : Option (List ℕ)) (lines : List Line)
    (closed : Bool) →
    block_entries depth (block_of (lined_leaf kind markers info meta lines closed))
    ≡ lined_entries kind depth markers info meta lines closed
lined-shown OfFrontmatter depth markers info meta lines closed =
    ap (λ es. entry depth (word.Frontmatter (first_byte markers)) ∷ es) (texts-shown (depth + 1) lines)
lined-shown _ depth markers info meta lines closed = refl

-- What an outline has shown of one that is open: its lines, as if it ended here.
abbrev pub Lining : LeafKind → List ℕ → Option (List ℕ) → Option (List ℕ) → List Line → Bool → Bool → OutlineState →
    Reading → Type 0
Lining kind markers info meta lines closed fenced s r =
    Shows (lined_leaf kind markers info meta lines closed) (lined_form kind) fenced
    (λ depth. lined_entries kind depth markers info meta lines closed) s r

-- a leaf block with fences has said its markers, if it is said to
abbrev pub IsMarked : LeafKind → List ℕ → Bool → Type 0
IsMarked OfFence markers fenced = (fenced ≡ true) × ((first_byte markers == 0) ≡ false)
IsMarked OfMath markers fenced = (fenced ≡ true) × ((first_byte markers == 0) ≡ false)
IsMarked OfFrontmatter markers fenced = (fenced ≡ true) × ((first_byte markers == 0) ≡ false)
IsMarked _ markers fenced = Unit {0}

-- What is known of it after its markers, if it has some.
abbrev pub Marked : LeafKind → Option (List ℕ) → Option (List ℕ) → List Line → Bool → OutlineState → Reading → Type 0
Marked kind info meta lines closed s r =
    (markers : List ℕ) × (fenced : Bool) × IsMarked kind markers fenced ×
    Lining kind markers info meta lines closed fenced s r

-- with a line that is empty yet, or with any
abbrev pub OnLine : LeafKind → OutlineState → Reading → Type 0
OnLine kind s r =
    (info : Option (List ℕ)) × (meta : Option (List ℕ)) × (lines : List Line) ×
    Marked kind info meta (lines ++ empty_line ∷ []) false s r

abbrev pub Ended : LeafKind → Bool → OutlineState → Reading → Type 0
Ended kind closed s r =
    (info : Option (List ℕ)) × (meta : Option (List ℕ)) × (lines : List Line) × Marked kind info meta lines closed s r

abbrev pub InTextOf : LeafKind → spelled.Purpose → OutlineState → Reading → Type 0
InTextOf kind AsInfo s r = HasInfo kind × Marked kind None None [] false s r
InTextOf kind AsMeta s r = HasMeta kind × ((info : Option (List ℕ)) × Marked kind info None [] false s r)
InTextOf kind AsLine s r = OnLine kind s r
InTextOf kind _ s r = ⊥

pub text-open : (kind : LeafKind) (x : spelled.Purpose) (s : OutlineState) (r : Reading) → InTextOf kind x s r →
    IsOpen s r
text-open kind AsInfo s r is = known-open s r is.1.3.0
text-open kind AsMeta s r is = known-open s r is.1.1.3.0
text-open kind AsLine s r is = known-open s r is.3.3.0
text-open kind _ s r is = absurd is

-- It begins: a fence does before its markers.
first-leaf : (kind : LeafKind) →
    at_fence (lined_leaf kind [] None None [] false) ≡ lined_leaf kind [] None None [] false
first-leaf OfFence = refl
first-leaf _ = refl

pub fence-begins : (kind : LeafKind) (s : OutlineState) (r : Reading) → Lining kind [] None None [] false false s r →
    Lining kind [] None None [] false false (fence_begun s.lined s) (on_leaf at_fence r)
fence-begins kind s r is =
    subst (λ l. Lining kind [] None None [] false false (fence_begun l s) (on_leaf at_fence r)) (sym is.0.lined)
    (known-next at_fence is.0 (first-leaf kind), is.1)

-- Its lines grow.

grown-lines : (before : List Entry) (kind : LeafKind) (depth : ℕ) (markers : List ℕ) (info meta : Option (List ℕ))
    (lines : List Line) (closed : Bool) (line : Line) →
    before ++ lined_entries kind depth markers info meta (lines ++ line ∷ []) closed
    ≡ (before ++ lined_entries kind depth markers info meta lines closed) ++ lined_line kind (depth + 1) line ∷ []
grown-lines before kind depth markers info meta lines closed line =
    let head : Entry = entry depth (lined_word kind (first_byte markers) closed) in
    let parts : List Entry = lined_parts kind (depth + 1) info meta in
    let now : List Entry = lined_lines kind (depth + 1) lines in
    let more : List Entry = lined_line kind (depth + 1) line ∷ [] in
    ap (λ es. before ++ head ∷ (parts ++ es)) (map-append (lined_line kind (depth + 1)) lines (line ∷ []))
    ∙ ap (λ es. before ++ head ∷ es) (sym (append_assoc parts now more))
    ∙ sym (append_assoc before (head ∷ (parts ++ now)) more)

next-lined : (kind : LeafKind) (markers : List ℕ) (info meta : Option (List ℕ)) (lines : List Line) (closed : Bool) →
    next_line (lined_leaf kind markers info meta lines closed)
    ≡ lined_leaf kind markers info meta (lines ++ empty_line ∷ []) closed
next-lined OfFence markers info meta lines closed = refl
next-lined _ markers info meta lines closed = refl

-- a line that is empty yet
empty-line : (kind : LeafKind) (depth : ℕ) → lined_line kind depth empty_line ≡ entry depth word.Line
empty-line OfFrontmatter depth = refl
empty-line _ depth = refl

line-begins : (kind : LeafKind) (info meta : Option (List ℕ)) (lines : List Line) (s : OutlineState) (r : Reading) →
    Marked kind info meta lines false s r →
    Marked kind info meta (lines ++ empty_line ∷ []) false
    (record s { lines = s.lines ++ entry (s.depth + 1) word.Line ∷ [] }) (on_leaf next_line r)
line-begins kind info meta lines s r m = (
  m.0,
  m.1,
  m.2,
  (
    known-next next_line m.3.0 (next-lined kind m.0 info meta lines false),
    ap (λ es. es ++ entry (s.depth + 1) word.Line ∷ []) m.3.1
        ∙ ap (λ e. (shown r.outer r.here ++ lined_entries kind s.depth m.0 info meta lines false) ++ e ∷ [])
        (sym (empty-line kind (s.depth + 1)))
        ∙ sym (grown-lines (shown r.outer r.here) kind s.depth m.0 info meta lines false empty_line),
  ),
)

-- a line ending
own-lines : (kind : LeafKind) → has_own_lines (lined_form kind) ≡ true
own-lines OfFrontmatter = refl
own-lines _ = refl

pub ending-agrees : (P : Bool → OutlineState → Reading → Type 0) (bytes : List ℕ) (p : Point) (kind : LeafKind)
    (s : OutlineState) (r : Reading) → Ended kind false s r → NoText s r →
    P true (record s { lines = s.lines ++ entry (s.depth + 1) word.Line ∷ [] }) (on_leaf next_line r) → P false s r →
    P (nat_lt p.index (length bytes)) (line_ended bytes p.index s.lined s.text s) (at_ending bytes p r.text r)
ending-agrees P bytes p kind s r e none opens stays =
    let further : Bool = nat_lt p.index (length bytes) in
    let lined : Lined =
    record { place = length (shown r.outer r.here); is_fenced = e.3.1; form = lined_form kind } in
    subst (λ l. P further (line_ended bytes p.index l s.text s) (at_ending bytes p r.text r)) (sym e.3.3.0.lined)
    (subst (λ span. P further (line_ended bytes p.index (Some lined) span s) (at_ending bytes p r.text r)) (sym none.0)
    (subst (λ text. P further (line_ended bytes p.index (Some lined) None s) (at_ending bytes p text r)) (sym none.1)
    (subst (λ (own : Bool). P further (cond own (cond further opened s) s) (cond further (on_leaf next_line r) r))
    (sym (own-lines kind)) (go further))))
  where
    opened : OutlineState
    opened = record s { lines = s.lines ++ entry (s.depth + 1) word.Line ∷ [] }

    go : (x : Bool) → P x (cond x opened s) (cond x (on_leaf next_line r) r)
    go true = opens
    go false = stays

pub line-opens : (kind : LeafKind) (s : OutlineState) (r : Reading) → Ended kind false s r →
    OnLine kind (record s { lines = s.lines ++ entry (s.depth + 1) word.Line ∷ [] }) (on_leaf next_line r)
line-opens kind s r e = (e.0, e.1, e.2, line-begins kind e.0 e.1 e.2 s r e.3)

-- Texts.

-- the markers of its first fence
marks-leaf : (kind : LeafKind) (line : Line) → HasFences kind →
    spelled.noted AsMarkers line (lined_leaf kind [] None None [] false)
    ≡ lined_leaf kind line.text None None [] false
marks-leaf OfFence line h = refl
marks-leaf _ line h = search

marks-word : (kind : LeafKind) (b : ℕ) → HasFences kind →
    marked_word b (lined_word kind 0 false) ≡ lined_word kind b false
marks-word OfFence b h = refl
marks-word _ b h = search

is-marked : (kind : LeafKind) (markers : List ℕ) → HasFences kind → (first_byte markers == 0) ≡ false →
    IsMarked kind markers true
is-marked OfFence markers h some = (refl, some)
is-marked _ markers h some = search

pub markers-recorded : (kind : LeafKind) (line : Line) (s : OutlineState) (r : Reading) → HasFences kind →
    (first_byte line.text == 0) ≡ false → Lining kind [] None None [] false false s r →
    Marked kind None None [] false (recorded purpose.Markers false line.text (record s { text = None }))
    (spelled.recorded AsMarkers line (record r { text = None }))
markers-recorded kind line s r h some is =
    let before : List Entry = shown r.outer r.here in
    let b : ℕ = first_byte line.text in
    subst
    (λ lined.
    Marked kind None None [] false
    (head_marked lined line.text (recorded_leaf note.Markers line.text (record s { text = None })))
    (spelled.recorded AsMarkers line (record r { text = None })))
    (sym is.0.lined) (
      line.text,
      true,
      is-marked kind line.text h some,
      (
        known-recorded (spelled.noted AsMarkers line) is.0 (marks-leaf kind line h)
            (ap (option_map (spelled.noted AsMarkers (record { spaces = 0; text = line.text }))) is.0.leaf) refl,
        ap (with_head (marked_word b) (length before)) is.1
            ∙ head-recorded (marked_word b) before (lined_parts kind (s.depth + 1) None None ++ [])
            (entry s.depth (lined_word kind 0 false))
            ∙ ap (λ w. before ++ entry s.depth w ∷ (lined_parts kind (s.depth + 1) None None ++ []))
            (marks-word kind b h),
      ),
    )

-- what follows them: a text that shows the leaf one thing more, and is shown after the others
part-recorded : (w : Word) (records : spelled.Purpose) (kind : LeafKind) (info meta info_new meta_new : Option (List ℕ))
    (line : Line) (s : OutlineState) (r : Reading) →
    ((markers : List ℕ) →
    spelled.noted records line (lined_leaf kind markers info meta [] false) ≡
    lined_leaf kind markers info_new meta_new [] false) →
    ((depth : ℕ) (markers : List ℕ) →
    lined_entries kind depth markers info meta [] false ++ entry_with (depth + 1) w line.text ∷ [] ≡
    lined_entries kind depth markers info_new meta_new [] false) →
    Marked kind info meta [] false s r →
    Marked kind info_new meta_new [] false
    (recorded (purpose.Part w) false line.text (record s { text = None }))
    (record r { text = None; leaf = option_map (spelled.noted records line) r.leaf })
part-recorded w records kind info meta info_new meta_new line s r leaf lines m = (
  m.0,
  m.1,
  m.2,
  (
    known-next (spelled.noted records line) m.3.0 (leaf m.0),
    ap (λ es. es ++ entry_with (s.depth + 1) w line.text ∷ []) m.3.1
        ∙ append_assoc (shown r.outer r.here) (lined_entries kind s.depth m.0 info meta [] false)
        (entry_with (s.depth + 1) w line.text ∷ [])
        ∙ ap (λ es. shown r.outer r.here ++ es) (lines s.depth m.0),
  ),
)

pub info-recorded : (kind : LeafKind) (line : Line) (s : OutlineState) (r : Reading) → HasInfo kind →
    Marked kind None None [] false s r →
    Marked kind (Some line.text) None [] false
    (recorded (purpose.Part word.Info) false line.text (record s { text = None }))
    (spelled.recorded AsInfo line (record r { text = None }))
info-recorded OfFence line s r h m =
    part-recorded word.Info AsInfo OfFence None None (Some line.text) None line s r (λ markers. refl)
    (λ depth markers. refl) m
info-recorded _ line s r h m = absurd h

meta-leaf : (kind : LeafKind) (markers : List ℕ) (info : Option (List ℕ)) (line : Line) → HasMeta kind →
    spelled.noted AsMeta line (lined_leaf kind markers info None [] false)
    ≡ lined_leaf kind markers info (Some line.text) [] false
meta-leaf OfFence markers info line h = refl
meta-leaf _ markers info line h = search

meta-lines : (kind : LeafKind) (depth : ℕ) (markers : List ℕ) (info : Option (List ℕ)) (text : List ℕ) →
    HasMeta kind →
    lined_entries kind depth markers info None [] false ++ entry_with (depth + 1) word.Meta text ∷ []
    ≡ lined_entries kind depth markers info (Some text) [] false
meta-lines OfFence depth markers None text h = refl
meta-lines OfFence depth markers (Some info) text h = refl
meta-lines OfMath depth markers info text h = refl
meta-lines _ depth markers info text h = absurd h

pub meta-recorded : (kind : LeafKind) (info : Option (List ℕ)) (line : Line) (s : OutlineState) (r : Reading) →
    HasMeta kind → Marked kind info None [] false s r →
    Marked kind info (Some line.text) [] false
    (recorded (purpose.Part word.Meta) false line.text (record s { text = None }))
    (spelled.recorded AsMeta line (record r { text = None }))
meta-recorded kind info line s r h m =
    part-recorded word.Meta AsMeta kind info None info (Some line.text) line s r
    (λ markers. meta-leaf kind markers info line h) (λ depth markers. meta-lines kind depth markers info line.text h) m

-- a line
last-left : {A : Type 0} (xs : List A) (x : A) → without_last (xs ++ x ∷ []) ≡ xs
last-left [] x = refl
last-left (y ∷ []) x = refl
last-left (y ∷ z ∷ xs) x = ap (λ ys. y ∷ ys) (last-left (z ∷ xs) x)

line-leaf : (kind : LeafKind) (markers : List ℕ) (info meta : Option (List ℕ)) (lines : List Line) (line : Line) →
    spelled.noted AsLine line (lined_leaf kind markers info meta lines false)
    ≡ lined_leaf kind markers info meta (on_last (λ (l : Line). joined l line) lines) false
line-leaf OfFence markers info meta lines line = refl
line-leaf _ markers info meta lines line = refl

-- as it is shown
recorded-line : (kind : LeafKind) (depth : ℕ) (line : Line) →
    filled_line depth (spaces_of (lined_form kind) line.spaces) line.text ≡ lined_line kind depth line
recorded-line OfFrontmatter depth line = refl
recorded-line _ depth line = refl

pub line-recorded : (kind : LeafKind) (info meta : Option (List ℕ)) (lines : List Line) (line : Line) (s : OutlineState)
    (r : Reading) → s.spaces ≡ line.spaces → Marked kind info meta (lines ++ empty_line ∷ []) false s r →
    Marked kind info meta (lines ++ line ∷ []) false
    (recorded purpose.Line false line.text (record s { text = None }))
    (spelled.recorded AsLine line (record r { text = None }))
line-recorded kind info meta lines line s r spaces m =
    let none : 0 + line.spaces ≡ line.spaces = omega arith in
    let before : List Entry = shown r.outer r.here in
    let front : List Entry = before ++ lined_entries kind s.depth m.0 info meta lines false in (
      m.0,
      m.1,
      m.2,
      (
        known-next (spelled.noted AsLine line) m.3.0
            (line-leaf kind m.0 info meta (lines ++ empty_line ∷ []) line
            ∙ ap (λ ls. lined_leaf kind m.0 info meta ls false)
            (on-last (λ (l : Line). joined l line) lines empty_line)
            ∙ ap (λ n. lined_leaf kind m.0 info meta (lines ++ record line { spaces = n } ∷ []) false) none),
        ap (λ es. without_end es ++ filled_line (s.depth + 1) (shown_spaces s.lined s.spaces) line.text ∷ [])
            (m.3.1 ∙ grown-lines before kind s.depth m.0 info meta lines false empty_line)
            ∙ ap (λ es. es ++ filled_line (s.depth + 1) (shown_spaces s.lined s.spaces) line.text ∷ [])
            (end-taken front (lined_line kind (s.depth + 1) empty_line))
            ∙ ap (λ l. front ++ filled_line (s.depth + 1) (shown_spaces l s.spaces) line.text ∷ []) m.3.0.lined
            ∙ ap (λ n. front ++ filled_line (s.depth + 1) (spaces_of (lined_form kind) n) line.text ∷ []) spaces
            ∙ ap (λ e. front ++ e ∷ []) (recorded-line kind (s.depth + 1) line)
            ∙ sym (grown-lines before kind s.depth m.0 info meta lines false line),
      ),
    )

-- A further fence.

some-markers : (markers : List ℕ) → (first_byte markers == 0) ≡ false → (length markers == 0) ≡ false
some-markers [] h = absurd (true≢false h)
some-markers (b ∷ markers) h = go (length (b ∷ markers) == 0) refl
  where
    go : (x : Bool) → (length (b ∷ markers) == 0) ≡ x → (length (b ∷ markers) == 0) ≡ false
    go true e = let zero : length (b ∷ markers) ≡ 0 =
        eqb-true (length (b ∷ markers)) 0 e in absurd (omega (arith, zero))
    go false e = e

closes-leaf : (kind : LeafKind) (markers : List ℕ) (fenced : Bool) (info meta : Option (List ℕ)) (lines : List Line) →
    HasFences kind → IsMarked kind markers fenced →
    at_fence (lined_leaf kind markers info meta lines false)
    ≡ lined_leaf kind markers info meta (without_last lines) true
closes-leaf OfFence markers fenced info meta lines h m = rw (some-markers markers m.1) refl
closes-leaf OfMath markers fenced info meta lines h m = rw (some-markers markers m.1) refl
closes-leaf OfFrontmatter markers fenced info meta lines h m = rw (some-markers markers m.1) refl
closes-leaf _ markers fenced info meta lines h m = absurd h

is-fenced : (kind : LeafKind) (markers : List ℕ) (fenced : Bool) → HasFences kind → IsMarked kind markers fenced →
    fenced ≡ true
is-fenced OfFence markers fenced h m = m.0
is-fenced _ markers fenced h m = search

closes-word : (kind : LeafKind) (b : ℕ) → HasFences kind →
    closed_word (lined_word kind b false) ≡ lined_word kind b true
closes-word OfFence b h = refl
closes-word _ b h = search

pub fence-closes : (kind : LeafKind) (info meta : Option (List ℕ)) (lines : List Line) (s : OutlineState)
    (r : Reading) → HasFences kind → Marked kind info meta (lines ++ empty_line ∷ []) false s r →
    Marked kind info meta lines true (fence_begun s.lined s) (on_leaf at_fence r)
fence-closes kind info meta lines s r h m =
    let before : List Entry = shown r.outer r.here in
    let front : List Entry = before ++ lined_entries kind s.depth m.0 info meta lines false in
    let lined : Bool → Lined = λ x.
    record { place = length before; is_fenced = x; form = lined_form kind } in
    subst (λ l. Marked kind info meta lines true (fence_begun l s) (on_leaf at_fence r))
    (sym (m.3.0.lined ∙ ap (λ x. Some (lined x)) (is-fenced kind m.0 m.1 h m.2))) (
      m.0,
      m.1,
      m.2,
      (
        known-next at_fence m.3.0
            (closes-leaf kind m.0 m.1 info meta (lines ++ empty_line ∷ []) h m.2
            ∙ ap (λ ls. lined_leaf kind m.0 info meta ls true) (last-left lines empty_line)),
        ap (λ es. with_head closed_word (length before) (without_end es))
            (m.3.1 ∙ grown-lines before kind s.depth m.0 info meta lines false empty_line)
            ∙ ap (with_head closed_word (length before)) (end-taken front (lined_line kind (s.depth + 1) empty_line))
            ∙ head-recorded closed_word before
            (lined_parts kind (s.depth + 1) info meta ++ lined_lines kind (s.depth + 1) lines)
            (entry s.depth (lined_word kind (first_byte m.0) false))
            ∙ ap
            (λ w.
            before
            ++ entry s.depth w ∷ (lined_parts kind (s.depth + 1) info meta ++ lined_lines kind (s.depth + 1) lines))
            (closes-word kind (first_byte m.0) h),
      ),
    )

-- its markers are not said again
valid-leaf : (kind : LeafKind) (markers : List ℕ) (fenced : Bool) (info meta : Option (List ℕ)) (lines : List Line)
    (line : Line) → HasFences kind → IsMarked kind markers fenced →
    spelled.noted AsMarkers line (lined_leaf kind markers info meta lines true)
    ≡ lined_leaf kind markers info meta lines true
valid-leaf OfFence [] fenced info meta lines line h m = absurd (true≢false m.1)
valid-leaf OfMath [] fenced info meta lines line h m = absurd (true≢false m.1)
valid-leaf OfFrontmatter [] fenced info meta lines line h m = absurd (true≢false m.1)
valid-leaf _ markers fenced info meta lines line h m = search

pub markers-are_valid : (kind : LeafKind) (info meta : Option (List ℕ)) (lines : List Line) (line : Line)
    (s : OutlineState)
    (r : Reading) → HasFences kind → Marked kind info meta lines true s r →
    Marked kind info meta lines true (recorded purpose.Markers false line.text (record s { text = None }))
    (spelled.recorded AsMarkers line (record r { text = None }))
markers-are_valid kind info meta lines line s r h m =
    let lined : Bool → Lined = λ x.
    record { place = length (shown r.outer r.here); is_fenced = x; form = lined_form kind } in
    subst
    (λ l.
    Marked kind info meta lines true
    (head_marked l line.text (recorded_leaf note.Markers line.text (record s { text = None })))
    (spelled.recorded AsMarkers line (record r { text = None })))
    (sym (m.3.0.lined ∙ ap (λ x. Some (lined x)) (is-fenced kind m.0 m.1 h m.2))) (
      m.0,
      m.1,
      m.2,
      (
        known-recorded (spelled.noted AsMarkers line) m.3.0 (valid-leaf kind m.0 m.1 info meta lines line h m.2)
            (ap (option_map (spelled.noted AsMarkers (record { spaces = 0; text = line.text }))) m.3.0.leaf)
            m.3.0.lined,
        m.3.1,
      ),
    )

-- It ends.

pub lining-ends : (kind : LeafKind) (info meta : Option (List ℕ)) (lines : List Line) (closed : Bool) (s : OutlineState)
    (r : Reading) → Marked kind info meta lines closed s r → NoText s r →
    Agrees (record s { lined = None }) (finished r.leaf r)
lining-ends kind info meta lines closed s r m none =
    open-ends s r m.3.0
    (m.3.1 ∙ ap (λ es. shown r.outer r.here ++ es) (sym (lined-shown kind s.depth m.0 info meta lines closed))) none

pub leaf-ends : (bytes : List ℕ) (x : LeafKind) (p : Point) (s : OutlineState) (r : Reading) → HasLines x →
    Agrees (record s { lined = None }) (finished r.leaf r) →
    Agrees (state_exit bytes (shown_as (LeafRole x)) p s) (read_exit bytes (LeafRole x) p r)
leaf-ends bytes OfCode p s r h is = is
leaf-ends bytes OfFence p s r h is = is
leaf-ends bytes _ p s r h is = search

-- A line that is empty yet is one of its lines.

pub line-ended : (kind : LeafKind) (s : OutlineState) (r : Reading) → OnLine kind s r → Ended kind false s r
line-ended kind s r is = (is.0, is.1, is.2 ++ empty_line ∷ [], is.3)

-- The text that is read stays.

pub span-headed : (lined : Option Lined) (text : List ℕ) (s : OutlineState) → (head_marked lined text s).text ≡ s.text
span-headed None text s = refl
span-headed (Some lined) text s = go lined.is_fenced
  where
    go : (x : Bool) →
        (cond x s (record s {
          lined = Some (record lined { is_fenced = true });
          lines = with_head (marked_word (first_byte text)) lined.place s.lines;
        })).text ≡ s.text
    go true = refl
    go false = refl

pub span-fenced : (lined : Option Lined) (s : OutlineState) → (fence_begun lined s).text ≡ s.text
span-fenced None s = refl
span-fenced (Some lined) s = go lined.is_fenced
  where
    go : (x : Bool) →
        (cond x (record s { lines = with_head closed_word lined.place (without_end s.lines) }) s).text ≡ s.text
    go true = refl
    go false = refl

pub span-line : (bytes : List ℕ) (end : ℕ) (lined : Option Lined) (text : Option TextSpan) (s : OutlineState) →
    (line_ended bytes end lined text s).text ≡ s.text
span-line bytes end None text s = refl
span-line bytes end (Some lined) (Some text) s = refl
span-line bytes end (Some lined) None s = go (has_own_lines lined.form) (nat_lt end (length bytes))
  where
    go : (y x : Bool) →
        (cond y (cond x (record s { lines = s.lines ++ entry (s.depth + 1) word.Line ∷ [] }) s) s).text ≡ s.text
    go true true = refl
    go true false = refl
    go false x = refl
