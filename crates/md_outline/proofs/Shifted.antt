-- Blocks that were read before some events stay before what these are read as.
use Rattle.std.proofs.Common.{◌≡◌, ℕ, Bool, true, false, cond, List, [], ◌∷◌, ◌++◌, append_assoc, length, nat_lt, refl}
use Rattle.std.proofs.Common.{sym, ◌∙◌, ap}
use Rattle.std.proofs.lemmas.Bool.{and_from, and_parts}
use Rattle.std.specs.Prelude.{Option, Some, None}
use Rattle.md_engine.specs.declared.event.Event.{Event}
use Rattle.md_engine.specs.declared.event.Kind.{Kind}
use Rattle.md_engine.specs.declared.event.Kind.TheVariants.{Enter, Exit}
use Rattle.md_engine.specs.declared.event.Point.{Point}
use Rattle.md_meaning.specs.Outline.{Entry, block_entries, outline}
use Rattle.md_meaning.specs.State.{then_block}
use Rattle.md_meaning.specs.Tree.{Block, Blocks, End, Line, More}
use Rattle.md_events.specs.Events.Spelled.{OpenContainer, AsDigits, AsFootnoteLabel, AsItemMarker, AsParagraph}
use Rattle.md_events.specs.Events.Spelled.{ContainerRole, IsCell, IsEnding, IsFence, IsPrefix, IsQuiet, IsRow, IsTitle}
use Rattle.md_events.specs.Events.Spelled.{OpenLeaf, LeafRole, Purpose, Reading, Role, Shape, TextRole, Text, add_block}
use Rattle.md_events.specs.Events.Spelled.{at_ending, finished, left, named, next_line, on_leaf, IsQuoteMarker}
use Rattle.md_events.specs.Events.Spelled.{is_before_blocks, kind_at, on_shape, with_kind, read, read_by, role}
use Rattle.md_events.specs.Events.Spelled.{recorded, block_around, recorded_at, unread}
use Rattle.md_events.specs.Events.Throughout.{all_blocks, all_within}

-- After blocks.

-- blocks before others
abbrev pub then_blocks : Blocks → Blocks → Blocks
then_blocks End bs = bs
then_blocks (More b front) bs = More b (then_blocks front bs)

pub then-none : (bs : Blocks) → then_blocks bs End ≡ bs
then-none End = refl
then-none (More b bs) = ap (λ (rest : Blocks). More b rest) (then-none bs)

then-last : (bs here : Blocks) (block : Block) →
    then_block (then_blocks bs here) block ≡ then_blocks bs (then_block here block)
then-last End here block = refl
then-last (More b bs) here block = ap (λ (rest : Blocks). More b rest) (then-last bs here block)

-- containers, of which the outermost is after these blocks
abbrev shift_outer : Blocks → List OpenContainer → List OpenContainer
shift_outer bs [] = []
shift_outer bs (a ∷ []) = record a { before = then_blocks bs a.before } ∷ []
shift_outer bs (a ∷ next ∷ outer) = a ∷ shift_outer bs (next ∷ outer)

-- blocks in the innermost of these containers, after these blocks if there are none
abbrev shift_here : Blocks → List OpenContainer → Blocks → Blocks
shift_here bs [] here = then_blocks bs here
shift_here bs (a ∷ outer) here = here

abbrev shift : Blocks → Reading → Reading
shift bs r = record r { outer = shift_outer bs r.outer; here = shift_here bs r.outer r.here }

-- Each event does the same there.

shift-add : (bs : Blocks) (block : Block) (outer : List OpenContainer) (here : Blocks) →
    then_block (shift_here bs outer here) block ≡ shift_here bs outer (then_block here block)
shift-add bs block [] here = then-last bs here block
shift-add bs block (a ∷ outer) here = refl

adds : (bs : Blocks) (block : Block) (r : Reading) → add_block block (shift bs r) ≡ shift bs (add_block block r)
adds bs block r =
    ap (λ (now : Blocks). record (shift bs r) { here = now }) (shift-add bs block r.outer r.here)

-- a container begins
holds : (bs : Blocks) (shape : Shape) (outer : List OpenContainer) (here : Blocks) →
    record { shape = shape; before = shift_here bs outer here } ∷ shift_outer bs outer ≡
    shift_outer bs (record { shape = shape; before = here } ∷ outer)
holds bs shape [] here = refl
holds bs shape (a ∷ outer) here = refl

-- or ends
leaves : (bs : Blocks) (outer : List OpenContainer) (here : Blocks) (leaf : Option OpenLeaf) (text : Option Text) →
    let r : Reading = record { outer = outer; here = here; leaf = leaf; text = text } in
    left (shift_outer bs outer) (shift bs r) ≡ shift bs (left outer r)
leaves bs [] here leaf text = refl
leaves bs (a ∷ []) here leaf text =
    ap
    (λ (now : Blocks). let x : Reading = record { outer = []; here = now; leaf = leaf; text = text } in x)
    (then-last bs a.before (block_around a.shape here))
leaves bs (a ∷ next ∷ outer) here leaf text = refl

-- or is named
names-outer : (bs : Blocks) (f : Shape → Shape) (outer : List OpenContainer) →
    on_shape f (shift_outer bs outer) ≡ shift_outer bs (on_shape f outer)
names-outer bs f [] = refl
names-outer bs f (a ∷ []) = refl
names-outer bs f (a ∷ next ∷ outer) = refl

names-here : (bs : Blocks) (f : Shape → Shape) (outer : List OpenContainer) (here : Blocks) →
    shift_here bs outer here ≡ shift_here bs (on_shape f outer) here
names-here bs f [] here = refl
names-here bs f (a ∷ outer) here = refl

names : (bs : Blocks) (f : Shape → Shape) (r : Reading) →
    record (shift bs r) { outer = on_shape f (shift_outer bs r.outer) } ≡
    shift bs (record r { outer = on_shape f r.outer })
names bs f r =
    ap (λ (outer : List OpenContainer). record (shift bs r) { outer = outer }) (names-outer bs f r.outer)
    ∙ ap
    (λ (now : Blocks).
    let x : Reading = record r { outer = shift_outer bs (on_shape f r.outer); here = now } in x)
    (names-here bs f r.outer r.here)

-- a marker may give a quote its kind: where no container is open it gives none, and in one the blocks are the same
marks : (bs : Blocks) (f : Shape → Shape) (outer : List OpenContainer) (here : Blocks) (leaf : Option OpenLeaf)
    (text : Option Text) →
    let r : Reading = record { outer = outer; here = here; leaf = leaf; text = text } in
    cond (is_before_blocks text leaf (shift_here bs outer here))
    (record (shift bs r) { outer = on_shape f (shift_outer bs outer) }) (shift bs r) ≡
    shift bs (cond (is_before_blocks text leaf here) (record r { outer = on_shape f outer }) r)
marks bs f [] here leaf text =
    same (is_before_blocks text leaf (then_blocks bs here)) (is_before_blocks text leaf here)
  where
    r : Reading
    r = record { outer = []; here = here; leaf = leaf; text = text }

    same : (x y : Bool) → cond x (shift bs r) (shift bs r) ≡ shift bs (cond y r r)
    same true true = refl
    same true false = refl
    same false true = refl
    same false false = refl
marks bs f (a ∷ outer) here leaf text = go (is_before_blocks text leaf here)
  where
    r : Reading
    r = record { outer = a ∷ outer; here = here; leaf = leaf; text = text }

    go : (x : Bool) →
        cond x (record (shift bs r) { outer = on_shape f (shift_outer bs (a ∷ outer)) }) (shift bs r) ≡
        shift bs (cond x (record r { outer = on_shape f (a ∷ outer) }) r)
    go true = names bs f r
    go false = refl

-- a text ends
records : (bs : Blocks) (purpose : Purpose) (line : Line) (r : Reading) →
    recorded purpose line (shift bs r) ≡ shift bs (recorded purpose line r)
records bs AsParagraph line r = adds bs _ r
records bs AsDigits line r = names bs (named AsDigits line.text) r
records bs AsItemMarker line r = names bs (named AsItemMarker line.text) r
records bs AsFootnoteLabel line r = names bs (named AsFootnoteLabel line.text) r
records bs purpose line r = refl

records-at : (bs : Blocks) (bytes : List ℕ) (purpose : Purpose) (p : Point) (text : Option Text) (r : Reading) →
    recorded_at bytes purpose p text (shift bs r) ≡ shift bs (recorded_at bytes purpose p text r)
records-at bs bytes purpose p None r = refl
records-at bs bytes purpose p (Some text) r = records bs purpose _ (record r { text = None })

finishes : (bs : Blocks) (leaf : Option OpenLeaf) (r : Reading) →
    finished leaf (shift bs r) ≡ shift bs (finished leaf r)
finishes bs None r = refl
finishes bs (Some leaf) r = adds bs _ (record r { leaf = None })

ends-line : (bs : Blocks) (bytes : List ℕ) (p : Point) (text : Option Text) (r : Reading) →
    at_ending bytes p text (shift bs r) ≡ shift bs (at_ending bytes p text r)
ends-line bs bytes p (Some text) r = refl
ends-line bs bytes p None r = go (nat_lt p.index (length bytes))
  where
    go : (x : Bool) → cond x (on_leaf next_line (shift bs r)) (shift bs r) ≡ shift bs (cond x (on_leaf next_line r) r)
    go true = refl
    go false = refl

one : (bs : Blocks) (bytes : List ℕ) (kind : Kind) (x : Role) (p : Point) (r : Reading) →
    read_by bytes kind x p (shift bs r) ≡ shift bs (read_by bytes kind x p r)
one bs bytes Enter (ContainerRole shape) p r =
    ap
    (λ (outer : List OpenContainer). let y : Reading = record r { outer = outer; here = End } in y)
    (holds bs shape r.outer r.here)
one bs bytes Enter (LeafRole kind) p r = refl
one bs bytes Enter (TextRole purpose) p r = refl
one bs bytes Enter IsFence p r = refl
one bs bytes Enter IsTitle p r = refl
one bs bytes Enter IsRow p r = refl
one bs bytes Enter IsCell p r = refl
one bs bytes Enter IsPrefix p r = refl
one bs bytes Enter IsEnding p r = refl
one bs bytes Enter IsQuoteMarker p r = marks bs (with_kind (kind_at bytes p.index)) r.outer r.here r.leaf r.text
one bs bytes Enter IsQuiet p r = refl
one bs bytes Exit (ContainerRole shape) p r = leaves bs r.outer r.here r.leaf r.text
one bs bytes Exit (LeafRole kind) p r = finishes bs r.leaf r
one bs bytes Exit (TextRole purpose) p r = records-at bs bytes purpose p r.text r
one bs bytes Exit IsTitle p r = refl
one bs bytes Exit IsPrefix p r = refl
one bs bytes Exit IsEnding p r = ends-line bs bytes p r.text r
one bs bytes Exit IsFence p r = refl
one bs bytes Exit IsQuoteMarker p r = refl
one bs bytes Exit IsRow p r = refl
one bs bytes Exit IsCell p r = refl
one bs bytes Exit IsQuiet p r = refl

shifts : (bs : Blocks) (bytes : List ℕ) (r : Reading) (es : List Event) →
    read bytes (shift bs r) es ≡ shift bs (read bytes r es)
shifts bs bytes r [] = refl
shifts bs bytes r (e ∷ es) =
    ap (λ (x : Reading). read bytes x es) (one bs bytes e.kind (role e.name) e.point r)
    ∙ shifts bs bytes (read_by bytes e.kind (role e.name) e.point r) es

-- So they are before the blocks of some events, if no container is left open.
pub read-then : (bs : Blocks) (bytes : List ℕ) (es : List Event) → (read bytes unread es).outer ≡ [] →
    (read bytes (record unread { here = bs }) es).here ≡ then_blocks bs (read bytes unread es).here
read-then bs bytes es shut =
    ap (λ (now : Blocks). (read bytes (record unread { here = now }) es).here) (sym (then-none bs))
    ∙ ap (λ (r : Reading). r.here) (shifts bs bytes unread es)
    ∙ ap (λ (outer : List OpenContainer). shift_here bs outer (read bytes unread es).here) shut

-- one block
pub read-following : (b : Block) (bytes : List ℕ) (es : List Event) → (read bytes unread es).outer ≡ [] →
    (read bytes (record unread { here = More b End }) es).here ≡ More b (read bytes unread es).here
read-following b bytes es shut = read-then (More b End) bytes es shut

-- What is known of the blocks in front and of those after them is known of all, and the other way round.

pub outline-blocks : (depth : ℕ) (front bs : Blocks) →
    outline depth (then_blocks front bs) ≡ outline depth front ++ outline depth bs
outline-blocks depth End bs = refl
outline-blocks depth (More b front) bs =
    ap (λ (es : List Entry). block_entries depth b ++ es) (outline-blocks depth front bs)
    ∙ sym (append_assoc (block_entries depth b) (outline depth front) (outline depth bs))

pub all-blocks : (p : Block → Bool) (front bs : Blocks) → all_blocks p (then_blocks front bs) ≡ true →
    (all_blocks p front ≡ true) × (all_blocks p bs ≡ true)
all-blocks p End bs h = (refl, h)
all-blocks p (More b front) bs h =
    let parts = and_parts (all_within p b) (all_blocks p (then_blocks front bs)) h in
    let rest = all-blocks p front bs parts.1 in
    (and_from (all_within p b) (all_blocks p front) parts.0 rest.0, rest.1)
