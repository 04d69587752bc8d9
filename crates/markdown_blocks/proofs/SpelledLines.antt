-- What the events of one line are read as: its prefixes, its leaf, its ending and the ends of containers; and a line
-- that is no text, with what follows it.
use Rattle.md_engine.specs.declared.tokenizer.held_leaf.HeldLeaf.{HeldLeaf}
use Rattle.std.proofs.Common.{◌≡◌, ◌≢◌, ℕ, Bool, true, false, List, [], ◌∷◌, ◌++◌, length, refl, ap, ap₂, sym, ◌∙◌, inl}
use Rattle.std.proofs.Common.{inr}
use Rattle.proof_frame.specs.EndingName.{ending_name}
use Rattle.proof_rows.specs.Rows.{front_done, line_following, Group, groups_events, is_text, line_kind, tail_events}
use Rattle.proof_rows.proofs.LineAfter.{shut-following}
use Rattle.proof_rows.proofs.RowLeaf.{EndsOnLine, block_of}
use Rattle.proof_frame.specs.LeafName.{LeafName}
use Rattle.md_registry.specs.Registry.{leaf}
use Rattle.md_meaning.specs.Leaves.{LeafResult}
use Rattle.md_meaning.specs.Step.{became, step}
use Rattle.std.specs.Prelude.{None}
use Rattle.md_engine.specs.declared.configuration.ParseOptions.{ParseOptions}
use Rattle.md_engine.specs.declared.event.Event.{Event}
use Rattle.md_engine.specs.declared.event.Name.{Name}
use Rattle.md_engine.specs.declared.event.Point.{Point}
use Rattle.md_events.specs.Events.Nested.{enter, exit}
use Rattle.md_meaning.specs.Rest.{Rest}
use Rattle.md_events.specs.Events.Spelled.{Reading, read, role}
use Rattle.md_meaning.specs.State.{Container, NoLeaf, Path, shut}
use Rattle.md_events.proofs.SpelledLemmas.{Between, QuietOrEnding, QuietOrPrefix, read-between, read-from}
use Rattle.md_events.proofs.SpelledLemmas.{read-prefixes}
use Rattle.proof_frame.specs.ContainerNames.{container_name}
use Rattle.proof_frame.specs.Change.{Change, ends_of}
use Rattle.proof_frame.specs.Closed.{close_containers}
use Rattle.proof_rows.specs.Fronted.{Contained, contained, rest_from}
use Rattle.proof_rows.specs.WithoutMdx.{IsWithoutMdx}
use Rattle.proof_frame.specs.Row.{BlankRow, LeafRow, Row, RowKind, TextRow, ending_events}
use Rattle.proof_rows.specs.Valid.{IsPlain, containers_of, still_of, reading}
use Rattle.proof_frame.proofs.FrontFacts.{Following, Begins, LinePrefix, Proceeds}
use Rattle.proof_rows.proofs.LineSteps.{spot_by}
use Rattle.proof_rows.proofs.StepAfter.{still-step}
use Rattle.md_registry.proofs.Registry.{laws}
use Rattle.proof_rows.proofs.RowFacts as f
use Rattle.proof_frame.proofs.LeafFacts.{shown}
use Rattle.proof_frame.proofs.LeafAllowed.{ending-roles}
use Rattle.proof_frame.proofs.PrefixFacts.{begins}
use Rattle.proof_frame.proofs.PrefixNames.{prefixes-roles}
use Rattle.proof_frame.proofs.Unmarked.{inline-between, inline-unmarked}
use Rattle.proof_frame.proofs.ContainerNames.{container-facts}
use Rattle.markdown_blocks.proofs.SpelledPaths.{AreShapes, close_containers-between, close_containers-one, open_path}
use Rattle.markdown_blocks.proofs.SpelledPaths.{reading-open}
use Rattle.proof_frame.proofs.Enters.{enters}
use Rattle.md_link_definitions.specs.Progress.{step as further}
use Rattle.markdown_blocks.proofs.SpelledGroups.{Follows, Reads}

-- each container ends alike
pub read-ends : (bytes : List ℕ) (cs : List Container) (p : Point) (r : Reading) →
    read bytes r (ends_of cs p) ≡ close_containers (length cs) r
read-ends bytes [] p r = refl
read-ends bytes (c ∷ cs) p r =
    let inner : Reading = close_containers (length cs) r in
    read-from bytes r inner (ends_of cs p) (exit (container_name c) p ∷ []) (read-ends bytes cs p r)
    ∙ (container-facts c).read_end bytes p inner ∙ sym (close_containers-one (length cs) r)

pub read-tail : (bytes : List ℕ) (name : Name) (row : Row) (r : Reading) → QuietOrEnding (role name) → r.text ≡ None →
    r.leaf ≡ None → read bytes r (tail_events name row) ≡ close_containers (length row.closed_after) r
read-tail bytes name row r h t l =
    let size : ℕ = length row.closed_after in
    let next = close_containers-between size r t l in
    read-from bytes r (close_containers size r) (ends_of row.closed_after row.end) (ending_events name row)
    (read-ends bytes row.closed_after row.end r)
    ∙ read-between bytes (close_containers size r) (ending_events name row) next.0 next.1
    (ending-roles Between name row (inline-between (role name) h))
    (inline-unmarked bytes (ending_events name row) (ending-roles QuietOrEnding name row h))

-- of the events before a line only those of the containers that begin there are read
pub read-fronts : (bytes : List ℕ) (opens : List Container) (p q : Point) (es : List Event) (r : Reading) →
    LinePrefix bytes opens p q es → r.text ≡ None → r.leaf ≡ None → read bytes r es ≡ enters opens r
read-fronts bytes opens p q es r (Following a) t l = refl
read-fronts bytes opens p q es r (Proceeds many a b d xs ys further more) t l =
    read-from bytes r r xs ys
    (read-prefixes bytes r xs t (prefixes-roles QuietOrPrefix xs tt tt tt further.names) further.unmarked)
    ∙ read-fronts bytes many b d ys r more t l
read-fronts bytes opens p q es r (Begins c many a b d xs ys opening more) t l =
    read-from bytes r (begins c r) (enter (container_name c) a ∷ xs) ys (opening.read r t l)
    ∙ read-fronts bytes many b d ys (begins c r) more t l

-- the parts of the events of a line, and what follows
pub read-parts : (bytes : List ℕ) (r a b c d : Reading) (xs ys zs more : List Event) → read bytes r xs ≡ a →
    read bytes a ys ≡ b → read bytes b zs ≡ c → read bytes c more ≡ d → read bytes r ((xs ++ ys ++ zs) ++ more) ≡ d
read-parts bytes r a b c d xs ys zs more e f g h =
    read-from bytes r c (xs ++ ys ++ zs) more (read-from bytes r b (xs ++ ys) zs (read-from bytes r a xs ys e ∙ f) ∙ g)
    ∙ h

-- what is read before a line, and what it opens after that
pub read-open : (options : ParseOptions) (p : Path) (c : Contained) (row : Row) →
    AreShapes c.change.stays c.change.closes p → row.change ≡ c.change →
    enters row.change.opens (close_containers (length row.change.closes) (reading options p)) ≡
    reading options (open_path options p c)
read-open options p c row shapes same =
    ap (λ (x : Change). enters x.opens (close_containers (length x.closes) (reading options p))) same
    ∙ sym (reading-open options p c shapes)

-- a line that is no text
pub single-reads : (options : ParseOptions) (bytes : List ℕ) (p : Path) (c : Contained) (row : Row) (gs : List Group)
    (last : Reading) (new : Path) (name : Name) (leaf : List Event) →
    AreShapes c.change.stays c.change.closes p →
    row.change ≡ c.change → (a : Point) → LinePrefix bytes row.change.opens a row.first (front_done bytes row) →
    ((e : Reading) → e ≡ reading options (open_path options p c) → read bytes e leaf ≡ reading options new) →
    QuietOrEnding (role name) → Reads options bytes new row.closed_after gs last →
    read bytes (close_containers (length row.change.closes) (reading options p))
    ((front_done bytes row ++ leaf ++ tail_events name row) ++ groups_events options bytes gs) ≡
    last
single-reads options bytes p c row gs last new name leaf shapes change a fronts found between reads =
    let start : Reading = close_containers (length row.change.closes) (reading options p) in
    let begin : Reading = enters row.change.opens start in
    let text = close_containers-between (length row.change.closes) (reading options p) refl refl in
    read-parts bytes start begin (reading options new)
    (close_containers (length row.closed_after) (reading options new)) last (front_done bytes row) leaf
    (tail_events name row)
    (groups_events options bytes gs)
    (read-fronts bytes row.change.opens a row.first (front_done bytes row) start fronts text.0 text.1)
    (found begin (read-open options p c row shapes change))
    (read-tail bytes name row (reading options new) between refl refl) reads

pub kind-name : (l m : LeafName) → LeafRow l ≡ LeafRow m → l ≡ m
kind-name l m e = cc

pub text-kind : (kind : RowKind) → is_text kind ≡ true → kind ≡ TextRow
text-kind TextRow e = refl
text-kind BlankRow e = cc
text-kind (LeafRow l) e = cc

pub other-kind : (kind : RowKind) → kind ≢ TextRow → is_text kind ≡ false
other-kind BlankRow other = refl
other-kind (LeafRow l) other = refl
other-kind TextRow other = absurd (other refl)

-- the kind of a line, by what is left of it after its containers
pub line-is : (options : ParseOptions) (bytes : List ℕ) (cs : List Container) (still : HeldLeaf) (p : Point)
    (line : List ℕ)
    (row : Row) →
    f.IsLine options bytes cs still p line row →
    let c = contained options cs still (rest_from p line) in row.kind ≡ line_kind options c.on c.rest
line-is options bytes cs still p line row is = is.is.kind ∙ ap₂ (line_kind options) is.on is.rest_is

-- and what is open after it
pub line-following : (options : ParseOptions) (bytes : List ℕ) (cs : List Container) (still : HeldLeaf) (p : Point)
    (line : List ℕ) (row : Row) →
    f.IsLine options bytes cs still p line row →
    let c = contained options cs still (rest_from p line) in
    row.following ≡ line_following options c.on c.rest (line_kind options c.on c.rest)
line-following options bytes cs still p line row is =
    is.is.following
    ∙ ap₂ (λ (on : HeldLeaf) (r : Rest). line_following options on r row.kind) is.on is.rest_is
    ∙ ap (line_following options (contained options cs still (rest_from p line)).on
    (contained options cs still (rest_from p line)).rest) (line-is options bytes cs still p line row is)

pub still-line : (options : ParseOptions) (bytes : List ℕ) (a : Path) (p : Point) (line : List ℕ) (row : Row) →
    IsWithoutMdx options →
    IsPlain a → f.IsLine options bytes (containers_of a) (still_of a) p line row →
    still_of (step options a (rest_from p line)) ≡ row.following
still-line options bytes a p line row built plain is =
    still-step options a (rest_from p line) built plain
    ∙ sym (line-following options bytes (containers_of a) (still_of a) p line row is)

-- the ending of a line opens no line of a leaf
pub ending-role : (blank : Bool) → QuietOrEnding (role (ending_name blank))
ending-role true = tt
ending-role false = tt

-- a line that is no text, and no line of a leaf of several, is the block that it shows
pub shown-leaf : (options : ParseOptions) (p : Path) (r : Rest) (kind : RowKind) → kind ≢ TextRow → EndsOnLine kind →
    shown (block_of kind r) (reading options p) ≡
    record (reading options p) { here = shut options (spot_by options (reading options p).here [] r kind) }
shown-leaf options p r BlankRow other ends = refl
shown-leaf options p r (LeafRow l) other ends =
    ap (λ (c : LeafResult). record (reading options p) { here = shut options (became (reading options p).here c) })
    (sym ((laws l).finishes (ends l refl) options NoLeaf r))
shown-leaf options p r TextRow other ends = absurd (other refl)

pub no-joins : (options : ParseOptions) (bytes line : List ℕ) (p : Path) (row : Row) (gs : List Group)
    (last : Reading) →
    f.IsRow options bytes line row → is_text row.kind ≡ false → EndsOnLine row.kind →
    Follows options bytes p row gs last → Reads options bytes p row.closed_after gs last
no-joins options bytes line p row gs last is none ends (inl parts) = parts.reads
no-joins options bytes line p row gs last is none ends (inr (inl joins)) = let text = joins.text in cc
no-joins options bytes line p row gs last is none ends (inr (inr (inr joins))) = let text = joins.text in cc
no-joins options bytes line p row gs last is none ends (inr (inr (inl joins))) =
    let may = joins.may in
    let shut = (shut-following options bytes line row is ends
    (λ (text : row.kind ≡ TextRow). let bad : true ≡ false = sym (ap is_text text) ∙ none in cc)).0 in
    cc
