-- The tree of a half-read text, if all containers that are open ended here, and its lines.
use Rattle.std.proofs.Common.{◌≡◌, ℕ, ◌+◌, Bool, true, false, List, [], ◌∷◌, ◌++◌, refl, sym, ◌∙◌, ap, cond, subst}
use Rattle.std.proofs.Common.{append_assoc, append-nil}
use Rattle.std.specs.Prelude.{◌==◌, if◌then◌else◌}
use Rattle.std.proofs.lemmas.Bool.{true≢false}
use Rattle.md_meaning.specs.declared.outline.Word.TheVariants as word
use Rattle.md_meaning.specs.Containers.{is_bullet}
use Rattle.md_meaning.specs.Outline.{Entry, block_entries, entry, entry_with, outline, quote_word}
use Rattle.md_meaning.specs.State.{then_block}
use Rattle.md_meaning.specs.Texts.{first_byte}
use Rattle.md_meaning.specs.Tree.{Block, Blocks, End, Item, More}
use Rattle.md_events.specs.Events.Spelled.{OpenContainer, AsDigits, AsItemMarker, FootnoteShape, ItemShape}
use Rattle.md_events.specs.Events.Spelled.{OrderedShape, QuoteShape, Shape, UnorderedShape, block_around, is_ordered}
use Rattle.md_events.specs.Events.Spelled.{list_marker, named, on_shape}

-- how many containers are open
abbrev pub depth_of : List OpenContainer → ℕ
depth_of [] = 0
depth_of (around ∷ outer) = depth_of outer + 1

abbrev pub closed : List OpenContainer → Blocks → Blocks
closed [] here = here
closed (around ∷ outer) here = closed outer (then_block around.before (block_around around.shape here))

-- the lines of what was read so far
abbrev pub shown : List OpenContainer → Blocks → List Entry
shown outer here = outline 0 (closed outer here)

-- a block that is added last is shown last
pub outline-then : (depth : ℕ) (bs : Blocks) (b : Block) →
    outline depth (then_block bs b) ≡ outline depth bs ++ block_entries depth b
outline-then depth End b = append-nil (block_entries depth b)
outline-then depth (More a bs) b =
    ap (λ es. block_entries depth a ++ es) (outline-then depth bs b)
    ∙ sym (append_assoc (block_entries depth a) (outline depth bs) (block_entries depth b))

-- The markers of lists.

-- the marker that a list is shown with, by its items
abbrev pub list_word : Shape → Blocks → ℕ
list_word OrderedShape items = list_marker is_ordered items
list_word UnorderedShape items = list_marker is_bullet items
list_word _ items = 0

-- a list has said its marker
abbrev pub HasWord : Shape → Blocks → Type 0
HasWord OrderedShape items = (list_marker is_ordered items == 0) ≡ false
HasWord UnorderedShape items = (list_marker is_bullet items == 0) ≡ false
HasWord _ items = Unit {0}

-- so have all lists that are open
abbrev pub HaveWords : List OpenContainer → Blocks → Type 0
HaveWords [] here = Unit {0}
HaveWords (around ∷ outer) here =
    HasWord around.shape here × HaveWords outer (then_block around.before (block_around around.shape here))

-- the innermost container, if it is a list, is shown with the same marker
abbrev pub SameWord : List OpenContainer → Blocks → Blocks → Type 0
SameWord [] xs ys = Unit {0}
SameWord (around ∷ outer) xs ys = list_word around.shape ys ≡ list_word around.shape xs

word-stays : (shape : Shape) (xs ys : Blocks) → list_word shape ys ≡ list_word shape xs → HasWord shape xs →
    HasWord shape ys
word-stays OrderedShape xs ys e h = ap (λ m. m == 0) e ∙ h
word-stays UnorderedShape xs ys e h = ap (λ m. m == 0) e ∙ h
word-stays _ xs ys e h = tt

-- the first item shows it
first-recorded : (f : ℕ → Bool) (before : Blocks) (a b : Block) →
    list_marker f (More b End) ≡ list_marker f (More a End) →
    list_marker f (then_block before b) ≡ list_marker f (then_block before a)
first-recorded f End a b e = e
first-recorded f (More (Item m d x) bs) a b e = refl
first-recorded f (More _ bs) a b e = refl

pub first-word : (shape : Shape) (before : Blocks) (a b : Block) →
    ((f : ℕ → Bool) → list_marker f (More b End) ≡ list_marker f (More a End)) →
    list_word shape (then_block before b) ≡ list_word shape (then_block before a)
first-word OrderedShape before a b e = first-recorded is_ordered before a b (e is_ordered)
first-word UnorderedShape before a b e = first-recorded is_bullet before a b (e is_bullet)
first-word _ before a b e = refl

-- whatever is in it
inside-word : (f : ℕ → Bool) (shape : Shape) (xs ys : Blocks) →
    list_marker f (More (block_around shape ys) End) ≡ list_marker f (More (block_around shape xs) End)
inside-word f OrderedShape xs ys = refl
inside-word f _ xs ys = refl

around-word : (outer : List OpenContainer) (around : OpenContainer) (xs ys : Blocks) →
    SameWord outer (then_block around.before (block_around around.shape xs))
    (then_block around.before (block_around around.shape ys))
around-word [] around xs ys = tt
around-word (list ∷ outer) around xs ys =
    first-word list.shape around.before (block_around around.shape xs) (block_around around.shape ys)
    (λ f. inside-word f around.shape xs ys)

-- and a block after it changes nothing
then-recorded : (f : ℕ → Bool) (here : Blocks) (b : Block) → (list_marker f here == 0) ≡ false →
    list_marker f (then_block here b) ≡ list_marker f here
then-recorded f End b h = absurd (true≢false h)
then-recorded f (More (Item m d x) bs) b h = refl
then-recorded f (More _ bs) b h = refl

then-word : (shape : Shape) (here : Blocks) (b : Block) → HasWord shape here →
    list_word shape (then_block here b) ≡ list_word shape here
then-word OrderedShape here b h = then-recorded is_ordered here b h
then-word UnorderedShape here b h = then-recorded is_bullet here b h
then-word _ here b h = refl

then-same : (outer : List OpenContainer) (here : Blocks) (b : Block) → HaveWords outer here →
    SameWord outer here (then_block here b)
then-same [] here b h = tt
then-same (around ∷ outer) here b h = then-word around.shape here b h.0

words-stay : (outer : List OpenContainer) (xs ys : Blocks) → SameWord outer xs ys → HaveWords outer xs →
    HaveWords outer ys
words-stay [] xs ys e h = tt
words-stay (around ∷ outer) xs ys e h = (
  word-stays around.shape xs ys e h.0,
  words-stay outer (then_block around.before (block_around around.shape xs))
      (then_block around.before (block_around around.shape ys)) (around-word outer around xs ys) h.1,
)

pub words-then : (outer : List OpenContainer) (here : Blocks) (b : Block) → HaveWords outer here →
    HaveWords outer (then_block here b)
words-then outer here b h = words-stay outer here (then_block here b) (then-same outer here b h) h

-- Lines.

-- those with which a container begins, which is shown with this marker if it is a list
abbrev pub opening : ℕ → Shape → ℕ → List Entry
opening depth (QuoteShape kind) marker = entry depth (quote_word kind) ∷ []
opening depth OrderedShape marker = entry depth (word.List marker) ∷ []
opening depth UnorderedShape marker = entry depth (word.List marker) ∷ []
opening depth (ItemShape m d) marker = entry depth word.Item ∷ []
opening depth (FootnoteShape label) marker =
    entry depth word.Footnote ∷ entry_with (depth + 1) word.Label label ∷ []

opening-shown : (depth : ℕ) (shape : Shape) (here : Blocks) →
    block_entries depth (block_around shape here)
    ≡ opening depth shape (list_word shape here) ++ outline (depth + 1) here
opening-shown depth (QuoteShape kind) here = refl
opening-shown depth _ here = refl

-- those before the innermost blocks
abbrev pub fronts : List OpenContainer → Blocks → List Entry
fronts [] here = []
fronts (around ∷ outer) here =
    (fronts outer (then_block around.before (block_around around.shape here)) ++ outline (depth_of outer) around.before)
    ++ opening (depth_of outer) around.shape (list_word around.shape here)

pub shown-fronts : (outer : List OpenContainer) (here : Blocks) →
    shown outer here ≡ fronts outer here ++ outline (depth_of outer) here
shown-fronts [] here = refl
shown-fronts (around ∷ outer) here =
    let depth : ℕ = depth_of outer in
    let block : Block = block_around around.shape here in
    let before : List Entry = outline depth around.before in
    let front : List Entry = fronts outer (then_block around.before block) in
    let begin : List Entry = opening depth around.shape (list_word around.shape here) in
    shown-fronts outer (then_block around.before block)
    ∙ ap (λ l. front ++ l) (outline-then depth around.before block)
    ∙ sym (append_assoc front before (block_entries depth block))
    ∙ ap (λ l. (front ++ before) ++ l) (opening-shown depth around.shape here)
    ∙ sym (append_assoc (front ++ before) begin (outline (depth + 1) here))

-- they are the same where the innermost container is shown with the same marker
pub fronts-same : (outer : List OpenContainer) (xs ys : Blocks) → SameWord outer xs ys →
    fronts outer ys ≡ fronts outer xs
fronts-same [] xs ys e = refl
fronts-same (around ∷ outer) xs ys e =
    let before : List Entry = outline (depth_of outer) around.before in
    ap (λ l. (l ++ before) ++ opening (depth_of outer) around.shape (list_word around.shape ys))
    (fronts-same outer (then_block around.before (block_around around.shape xs))
    (then_block around.before (block_around around.shape ys)) (around-word outer around xs ys))
    ∙ ap
    (λ m.
    (fronts outer (then_block around.before (block_around around.shape xs)) ++ before)
    ++ opening (depth_of outer) around.shape m)
    e

-- so lines that are added to the innermost blocks are added to all
grown : (outer : List OpenContainer) (xs ys : Blocks) (es : List Entry) → SameWord outer xs ys →
    outline (depth_of outer) ys ≡ outline (depth_of outer) xs ++ es →
    shown outer ys ≡ shown outer xs ++ es
grown outer xs ys es e h =
    let depth : ℕ = depth_of outer in
    shown-fronts outer ys
    ∙ ap (λ l. l ++ outline depth ys) (fronts-same outer xs ys e)
    ∙ ap (λ l. fronts outer xs ++ l) h
    ∙ sym (append_assoc (fronts outer xs) (outline depth xs) es)
    ∙ ap (λ l. l ++ es) (sym (shown-fronts outer xs))

-- a block more
pub shown-then : (outer : List OpenContainer) (here : Blocks) (b : Block) → HaveWords outer here →
    shown outer (then_block here b) ≡ shown outer here ++ block_entries (depth_of outer) b
shown-then outer here b h =
    grown outer here (then_block here b) (block_entries (depth_of outer) b) (then-same outer here b h)
    (outline-then (depth_of outer) here b)

-- Items that are said something.

-- only an item is said anything
abbrev RecordedItem : Shape → Shape → Type 0
RecordedItem (ItemShape m d) (ItemShape k e) = Unit {0}
RecordedItem (ItemShape m d) _ = ⊥
RecordedItem x y = x ≡ y

recorded-lines : (depth : ℕ) (x y : Shape) (here : Blocks) → RecordedItem x y →
    block_entries depth (block_around y here) ≡ block_entries depth (block_around x here)
recorded-lines depth (ItemShape m d) (ItemShape k e) here h = refl
recorded-lines depth (ItemShape m d) _ here h = absurd h
recorded-lines depth x y here h = ap (λ shape. block_entries depth (block_around shape here)) (sym h)

recorded-word : (x y : Shape) (here : Blocks) → RecordedItem x y → HasWord x here → HasWord y here
recorded-word (ItemShape m d) (ItemShape k e) here h w = tt
recorded-word (ItemShape m d) _ here h w = absurd h
recorded-word x y here h w = subst (λ shape. HasWord shape here) h w

-- a list that has a marker keeps it
abbrev KeepsWord : (Shape → Shape) → Blocks → Type 0
KeepsWord f here =
    (list : Shape) (before : Blocks) (shape : Shape) → HasWord list (then_block before (block_around shape here)) →
    list_word list (then_block before (block_around (f shape) here))
    ≡ list_word list (then_block before (block_around shape here))

named-same : (f : Shape → Shape) (outer : List OpenContainer) (around : OpenContainer) (here : Blocks) →
    KeepsWord f here → HaveWords outer (then_block around.before (block_around around.shape here)) →
    SameWord outer (then_block around.before (block_around around.shape here))
    (then_block around.before (block_around (f around.shape) here))
named-same f [] around here k h = tt
named-same f (list ∷ outer) around here k h = k list.shape around.before around.shape h.0

-- a container that is shown as before, with what it shows of its list
renamed : (f : Shape → Shape) (around : OpenContainer) (outer : List OpenContainer) (here : Blocks) →
    ((depth : ℕ) → block_entries depth (block_around (f around.shape) here)
    ≡ block_entries depth (block_around around.shape here)) →
    SameWord outer (then_block around.before (block_around around.shape here))
    (then_block around.before (block_around (f around.shape) here)) →
    shown (on_shape f (around ∷ outer)) here ≡ shown (around ∷ outer) here
renamed f around outer here h e =
    let before : List Entry = outline (depth_of outer) around.before in
    let old : Block = block_around around.shape here in
    let new : Block = block_around (f around.shape) here in
    grown outer (then_block around.before old) (then_block around.before new) [] e
    (outline-then (depth_of outer) around.before new ∙ ap (λ l. before ++ l) (h (depth_of outer))
    ∙ sym (outline-then (depth_of outer) around.before old)
    ∙ sym (append-nil (outline (depth_of outer) (then_block around.before old))))
    ∙ append-nil (shown (around ∷ outer) here)

-- lists that have said their markers still have, and as many containers are open
pub words-renamed : (f : Shape → Shape) (outer : List OpenContainer) (here : Blocks) →
    ((shape : Shape) → HasWord shape here → HasWord (f shape) here) → KeepsWord f here → HaveWords outer here →
    HaveWords (on_shape f outer) here
words-renamed f [] here has k h = h
words-renamed f (around ∷ outer) here has k h = (
  has around.shape h.0,
  words-stay outer (then_block around.before (block_around around.shape here))
      (then_block around.before (block_around (f around.shape) here)) (named-same f outer around here k h.1) h.1,
)

pub depth-renamed : (f : Shape → Shape) (outer : List OpenContainer) → depth_of (on_shape f outer) ≡ depth_of outer
depth-renamed f [] = refl
depth-renamed f (around ∷ outer) = refl

-- What is said of the innermost container changes nothing that is shown.
pub record StaysShown (f : Shape → Shape) (outer : List OpenContainer) (here : Blocks) : Type 0 where
  pub lines : shown (on_shape f outer) here ≡ shown outer here
  pub words : HaveWords (on_shape f outer) here
  pub depth : depth_of (on_shape f outer) ≡ depth_of outer

stays-shown : (f : Shape → Shape) (outer : List OpenContainer) (here : Blocks) →
    ((shape : Shape) → RecordedItem shape (f shape)) → KeepsWord f here → HaveWords outer here → StaysShown f outer here
stays-shown f outer here alone k h = record {
  lines = lines outer h;
  words = words-renamed f outer here (λ shape w. recorded-word shape (f shape) here (alone shape) w) k h;
  depth = depth-renamed f outer;
}
  where
    lines : (outer : List OpenContainer) → HaveWords outer here → shown (on_shape f outer) here ≡ shown outer here
    lines [] h = refl
    lines (around ∷ outer) h =
        renamed f around outer here
        (λ depth. recorded-lines depth around.shape (f around.shape) here (alone around.shape))
        (named-same f outer around here k h.1)

-- digits are not shown
digits-alone : (text : List ℕ) (shape : Shape) → RecordedItem shape (named AsDigits text shape)
digits-alone text (ItemShape m d) = tt
digits-alone text _ = refl

digits-word : (f : ℕ → Bool) (text : List ℕ) (shape : Shape) (here : Blocks) →
    list_marker f (More (block_around (named AsDigits text shape) here) End)
    ≡ list_marker f (More (block_around shape here) End)
digits-word f text (ItemShape m d) here = refl
digits-word f text _ here = refl

pub digits-stay : (text : List ℕ) (outer : List OpenContainer) (here : Blocks) → HaveWords outer here →
    StaysShown (named AsDigits text) outer here
digits-stay text outer here h =
    stays-shown (named AsDigits text) outer here (digits-alone text)
    (λ list before shape k.
    first-word list before (block_around shape here) (block_around (named AsDigits text shape) here)
    (λ f. digits-word f text shape here))
    h

-- the marker of an item is not that of a list which has one
marker-alone : (text : List ℕ) (shape : Shape) → RecordedItem shape (named AsItemMarker text shape)
marker-alone text (ItemShape m d) = tt
marker-alone text _ = refl

no-marker : (m : ℕ) (x : Bool) → (m == 0) ≡ true → ((cond x m 0) == 0) ≡ true
no-marker m true h = h
no-marker m false h = refl

marker-recorded : (f : ℕ → Bool) (before : Blocks) (k m : ℕ) (d : List ℕ) (here : Blocks) →
    (list_marker f (then_block before (Item m d here)) == 0) ≡ false →
    list_marker f (then_block before (Item (if m == 0 then k else m) d here))
    ≡ list_marker f (then_block before (Item m d here))
marker-recorded f (More (Item a b c) bs) k m d here h = refl
marker-recorded f (More _ bs) k m d here h = refl
marker-recorded f End k m d here h = go (m == 0) refl
  where
    go : (x : Bool) → (m == 0) ≡ x →
        list_marker f (More (Item (cond x k m) d here) End) ≡ list_marker f (More (Item m d here) End)
    go true e = absurd (true≢false (sym (no-marker m (f m) e) ∙ h))
    go false e = refl

marker-word : (list : Shape) (text : List ℕ) (before : Blocks) (shape : Shape) (here : Blocks) →
    HasWord list (then_block before (block_around shape here)) →
    list_word list (then_block before (block_around (named AsItemMarker text shape) here))
    ≡ list_word list (then_block before (block_around shape here))
marker-word OrderedShape text before (ItemShape m d) here h =
    marker-recorded is_ordered before (first_byte text) m d here h
marker-word UnorderedShape text before (ItemShape m d) here h =
    marker-recorded is_bullet before (first_byte text) m d here h
marker-word OrderedShape text before _ here h = refl
marker-word UnorderedShape text before _ here h = refl
marker-word _ text before shape here h = refl

pub marker-stays : (text : List ℕ) (outer : List OpenContainer) (here : Blocks) → HaveWords outer here →
    StaysShown (named AsItemMarker text) outer here
marker-stays text outer here h =
    stays-shown (named AsItemMarker text) outer here (marker-alone text)
    (λ list before shape k. marker-word list text before shape here k) h
