-- What is read where a path is open: how containers end and begin, and the leaf of the innermost.
use Rattle.md_engine.specs.declared.tokenizer.held_leaf.HeldLeaf.{HeldLeaf}
use Rattle.std.proofs.Common.{◌≡◌, ℕ, zero, suc, List, [], ◌∷◌, ◌++◌, length, map, refl, ap, sym, ◌∙◌, append_assoc}
use Rattle.std.specs.Prelude.{None}
use Rattle.md_engine.specs.declared.configuration.ParseOptions.{ParseOptions}
use Rattle.md_meaning.specs.Rest.{Rest}
use Rattle.md_events.specs.Events.Spelled.{OpenContainer, Reading, Shape, left}
use Rattle.md_meaning.specs.State.{At, Container, ParagraphLine, Leaf, NoLeaf, Path, Innermost, Within, closed, shut}
use Rattle.md_meaning.specs.State.{spot, texts, then_block, then_leaf}
use Rattle.md_meaning.specs.Step.{spot_of}
use Rattle.md_meaning.specs.Tree.{Block, Blocks, End}
use Rattle.proof_frame.specs.TextLines.{text_leaf}
use Rattle.proof_frame.specs.ContainerNames.{shape_of}
use Rattle.proof_frame.specs.Closed.{close_containers}
use Rattle.proof_rows.specs.Fronted.{Contained}
use Rattle.proof_frame.specs.Row.{RowKind}
use Rattle.proof_rows.specs.Rows.{line_kind}
use Rattle.proof_frame.specs.Around.{around_of}
use Rattle.proof_rows.specs.Valid.{containers_of, final_on, outer_on, reading, reading_on}
use Rattle.proof_rows.proofs.LineSteps.{after_path, kept_to, longer, new_line, new_path, renewed, spot_by}
use Rattle.proof_frame.specs.Leaf.Paragraph.{held_of}
use Rattle.md_registry.proofs.Registry.{text-laws}
use Rattle.proof_frame.proofs.ContainerNames.{container-facts}
use Rattle.proof_frame.proofs.Enters.{enters}

-- The ends and begins of containers.

pub close_containers-one : (size : ℕ) (r : Reading) →
    close_containers (suc size) r ≡ left (close_containers size r).outer (close_containers size r)
close_containers-one zero r = refl
close_containers-one (suc size) r = close_containers-one size (left r.outer r)

pub close_containers-between : (size : ℕ) (r : Reading) → r.text ≡ None → r.leaf ≡ None →
    ((close_containers size r).text ≡ None) × ((close_containers size r).leaf ≡ None)
close_containers-between zero r t l = (t, l)
close_containers-between (suc size) r t l =
    let next = go r.outer in close_containers-between size (left r.outer r) next.0 next.1
  where
    go : (outer : List OpenContainer) → ((left outer r).text ≡ None) × ((left outer r).leaf ≡ None)
    go [] = (t, l)
    go (x ∷ outer) = (t, l)

-- where all containers of a path end, all of it is closed
pub close_containers-all : (options : ParseOptions) (outer : List OpenContainer) (p : Path) →
    close_containers (length (containers_of p)) (reading_on options outer p) ≡ final_on options outer p
close_containers-all options outer (At s) = refl
close_containers-all options outer (Within before container p) =
    close_containers-one (length (containers_of p)) (reading_on options (around_of container before ∷ outer) p)
    ∙ ap (λ (r : Reading). left r.outer r) (close_containers-all options (around_of container before ∷ outer) p)
    ∙ ap (λ (b : Block). record { outer = outer; here = then_block before b; leaf = None; text = None })
    ((container-facts container).block (closed options p))

-- The containers of a path are read as these, of which some stay and the others close. One that stays may have changed,
-- but for what the events show.
abbrev pub AreShapes : List Container → List Container → Path → Type 0
AreShapes stays closes p = map shape_of (stays ++ closes) ≡ map shape_of (containers_of p)

pub shapes-length : (cs ds : List Container) → map shape_of cs ≡ map shape_of ds → length cs ≡ length ds
shapes-length [] [] e = refl
shapes-length [] (d ∷ ds) e = cc
shapes-length (c ∷ cs) [] e = cc
shapes-length (c ∷ cs) (d ∷ ds) e =
    let more : map shape_of cs ≡ map shape_of ds = cc in ap (λ (n : ℕ). suc n) (shapes-length cs ds more)

-- of the same shape, a container is read alike
pub around-same : (c d : Container) (before : Blocks) → shape_of c ≡ shape_of d → around_of c before ≡
    around_of d before
around-same c d before e = ap (λ (shape : Shape). record { shape = shape; before = before }) e

-- where some end, the others are kept
pub close_containers-kept : (options : ParseOptions) (stays closes : List Container)
    (outer : List OpenContainer) (p : Path) →
    AreShapes stays closes p →
    close_containers (length closes) (reading_on options outer p) ≡ reading_on options outer (kept_to options stays p)
close_containers-kept options [] closes outer p e =
    ap (λ (n : ℕ). close_containers n (reading_on options outer p)) (shapes-length closes (containers_of p) e)
    ∙ close_containers-all options outer p
close_containers-kept options (c ∷ stays) closes outer (At s) e = cc
close_containers-kept options (c ∷ stays) closes outer (Within before container p) e =
    let same : shape_of c ≡ shape_of container = cc in
    let more : AreShapes stays closes p = cc in
    close_containers-kept options stays closes (around_of container before ∷ outer) p more
    ∙ ap (λ (around : OpenContainer). reading_on options (around ∷ outer) (kept_to options stays p))
    (sym (around-same c container before same))

-- what a line changes of those that stay, the events do not show
pub reading-renewed : (options : ParseOptions) (stays closes : List Container) (outer : List OpenContainer) (p : Path)
    (lines : List ParagraphLine) →
    AreShapes stays closes p →
    reading_on options outer (longer (renewed stays p) lines) ≡ reading_on options outer (longer p lines)
reading-renewed options [] closes outer p lines e = refl
reading-renewed options (c ∷ stays) closes outer (At s) lines e = refl
reading-renewed options (c ∷ stays) closes outer (Within before container p) lines e =
    let same : shape_of c ≡ shape_of container = cc in
    let more : AreShapes stays closes p = cc in
    ap (λ (around : OpenContainer). reading_on options (around ∷ outer) (longer (renewed stays p) lines))
    (around-same c container before same)
    ∙ reading-renewed options stays closes (around_of container before ∷ outer) p lines more

-- new containers with nothing in them
abbrev pub new_none : List Container → Blocks → Path
new_none [] bs = At (spot_of bs)
new_none (c ∷ cs) bs = Within bs c (new_none cs End)

-- what is open after the containers of a line, where it does not continue a text
abbrev pub open_path : ParseOptions → Path → Contained → Path
open_path options p c = after_path (kept_to options c.change.stays p) (new_none c.change.opens)

pub reading-following : (options : ParseOptions) (outer : List OpenContainer) (p : Path) (f : Blocks → Path) →
    reading_on options outer (after_path p f) ≡ reading_on options (outer_on outer p) (f (spot p).here)
reading-following options outer (At s) f = refl
reading-following options outer (Within before container p) f =
    reading-following options (around_of container before ∷ outer) p f

pub kept-none : (options : ParseOptions) (stays : List Container) (p : Path) →
    (spot (kept_to options stays p)).leaf ≡ NoLeaf
kept-none options [] p = refl
kept-none options (c ∷ stays) (At s) = refl
kept-none options (c ∷ stays) (Within before container p) = kept-none options stays p

pub none-shut : (options : ParseOptions) (s : Innermost) → s.leaf ≡ NoLeaf → shut options s ≡ s.here
none-shut options s e = ap (then_leaf options s.here) e

pub reading-none : (options : ParseOptions) (outer : List OpenContainer) (opens : List Container) (bs : Blocks) →
    reading_on options outer (new_none opens bs) ≡
    enters opens (record { outer = outer; here = bs; leaf = None; text = None })
reading-none options outer [] bs = refl
reading-none options outer (c ∷ opens) bs = reading-none options (around_of c bs ∷ outer) opens End

-- after the ends and the begins of containers
pub reading-open : (options : ParseOptions) (p : Path) (c : Contained) → AreShapes c.change.stays c.change.closes p →
    reading options (open_path options p c) ≡
    enters c.change.opens (close_containers (length c.change.closes) (reading options p))
reading-open options p c shapes =
    let k : Path = kept_to options c.change.stays p in
    reading-following options [] k (new_none c.change.opens)
    ∙ reading-none options (outer_on [] k) c.change.opens (spot k).here
    ∙ ap
    (λ (bs : Blocks). enters c.change.opens (record { outer = outer_on [] k; here = bs; leaf = None; text = None }))
    (sym (none-shut options (spot k) (kept-none options c.change.stays p)))
    ∙ ap (enters c.change.opens) (sym (close_containers-kept options c.change.stays c.change.closes [] p shapes))

-- Leaves.

-- a path whose innermost container has something else in it
abbrev pub with_spot : Path → (Blocks → Innermost) → Path
with_spot p s = after_path p (λ bs. At (s bs))

pub outer-with : (outer : List OpenContainer) (p : Path) (s : Blocks → Innermost) → outer_on outer (with_spot p s) ≡
    outer_on outer p
outer-with outer (At x) s = refl
outer-with outer (Within before container p) s = outer-with (around_of container before ∷ outer) p s

pub spot-with : (p : Path) (s : Blocks → Innermost) → spot (with_spot p s) ≡ s (spot p).here
spot-with (At x) s = refl
spot-with (Within before container p) s = spot-with p s

pub following-following : (p : Path) (f : Blocks → Path) (s : Blocks → Innermost) →
    with_spot (after_path p f) s ≡ after_path p (λ bs. with_spot (f bs) s)
following-following (At x) f s = refl
following-following (Within before container p) f s = ap (Within before container) (following-following p f s)

pub following-ap : (p : Path) (f g : Blocks → Path) → ((bs : Blocks) → f bs ≡ g bs) → after_path p f ≡ after_path p g
following-ap (At x) f g each = each x.here
following-ap (Within before container p) f g each = ap (Within before container) (following-ap p f g each)

pub new-with : (options : ParseOptions) (on : HeldLeaf) (opens : List Container) (r : Rest) (bs : Blocks) →
    new_line options on opens r bs ≡ with_spot (new_none opens bs)
    (λ cs. spot_by options cs [] r (line_kind options on r))
new-with options on [] r bs = refl
new-with options on (c ∷ opens) r bs = ap (Within bs c) (new-with options on opens r End)

-- what a line begins is after its containers
pub new-path : (options : ParseOptions) (p : Path) (c : Contained) (kind : RowKind) →
    line_kind options c.on c.rest ≡ kind →
    new_path options p c ≡ with_spot (open_path options p c) (λ bs. spot_by options bs [] c.rest kind)
new-path options p c kind e =
    let k : Path = kept_to options c.change.stays p in
    following-ap k (new_line options c.on c.change.opens c.rest)
    (λ bs. with_spot (new_none c.change.opens bs) (λ cs. spot_by options cs [] c.rest kind))
    (λ bs.
    new-with options c.on c.change.opens c.rest bs
    ∙ ap (λ (x : RowKind). with_spot (new_none c.change.opens bs) (λ cs. spot_by options cs [] c.rest x)) e)
    ∙ sym (following-following k (new_none c.change.opens) (λ bs. spot_by options bs [] c.rest kind))

pub none-none : (opens : List Container) (bs : Blocks) → (spot (new_none opens bs)).leaf ≡ NoLeaf
none-none [] bs = refl
none-none (c ∷ opens) bs = none-none opens End

pub following-leaf : (p : Path) (f : Blocks → Path) → ((bs : Blocks) → (spot (f bs)).leaf ≡ NoLeaf) →
    (spot (after_path p f)).leaf ≡ NoLeaf
following-leaf (At x) f each = each x.here
following-leaf (Within before container p) f each = following-leaf p f each

pub open-none : (options : ParseOptions) (p : Path) (c : Contained) → (spot (open_path options p c)).leaf ≡ NoLeaf
open-none options p c =
    following-leaf (kept_to options c.change.stays p) (new_none c.change.opens) (none-none c.change.opens)

-- a leaf where nothing is open
pub reading-with : (options : ParseOptions) (p : Path) (s : Blocks → Innermost) → (spot p).leaf ≡ NoLeaf →
    reading options (with_spot p s) ≡ record (reading options p) { here = shut options (s (reading options p).here) }
reading-with options p s none =
    ap
    (λ (outer : List OpenContainer).
    record { outer = outer; here = shut options (spot (with_spot p s)); leaf = None; text = None })
    (outer-with [] p s)
    ∙ ap (λ (x : Innermost). record { outer = outer_on [] p; here = shut options x; leaf = None; text = None })
    (spot-with p s)
    ∙ ap (λ (bs : Blocks). record { outer = outer_on [] p; here = shut options (s bs); leaf = None; text = None })
    (sym (none-shut options (spot p) none))

-- a text with more lines
pub longer-with : (p : Path) (lines : List ParagraphLine) → (spot p).leaf ≡ NoLeaf →
    longer p lines ≡ with_spot p (λ bs. record { here = bs; leaf = text_leaf.held lines })
longer-with (At s) lines none =
    ap (λ (x : Leaf). At (record { here = s.here; leaf = text_leaf.held (held_of x ++ lines) })) none
longer-with (Within before container p) lines none = ap (Within before container) (longer-with p lines none)

pub longer-longer : (p : Path) (xs ys : List ParagraphLine) → longer (longer p xs) ys ≡ longer p (xs ++ ys)
longer-longer (At s) xs ys =
    ap (λ (l : List ParagraphLine). At (record { here = s.here; leaf = text_leaf.held l }))
    (append_assoc (held_of s.leaf) xs ys)
longer-longer (Within before container p) xs ys = ap (Within before container) (longer-longer p xs ys)

pub reading-longer : (options : ParseOptions) (p : Path) (lines : List ParagraphLine) → (spot p).leaf ≡ NoLeaf →
    reading options (longer p lines) ≡
    record (reading options p) { here = text_leaf.following options (reading options p).here (texts lines) }
reading-longer options p lines none =
    ap (reading options) (longer-with p lines none)
    ∙ reading-with options p (λ bs. record { here = bs; leaf = text_leaf.held lines }) none
    ∙ ap (λ (bs : Blocks). record (reading options p) { here = bs })
    (text-laws.shut options (reading options p).here lines)
