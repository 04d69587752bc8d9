-- After the states of flow the resolver of content is a step that changes nothing where no line is text: then it does
-- not matter whether it ran.
use Rattle.md_engine.specs.declared.tokenizer.held_leaf.HeldLeaf.{HeldLeaf}
use Rattle.std.proofs.Common.{◌≡◌, ◌≢◌, ℕ, zero, suc, Bool, true, false, cond, List, [], ◌∷◌, length}
use Rattle.proof_rows.specs.Rows.{is_inside, new_after, after_held, Front, Held, held_at, in_front, is_text}
use Rattle.proof_rows.specs.Rows.{opened_prefixes, no_front, row_events, rows_at, rows_by, rows_events}
use Rattle.proof_rows.specs.Rows.{continued_prefixes}
use Rattle.std.proofs.Common.{refl, ap, sym, ◌∙◌, subst, append-nil}
use Rattle.std.specs.Prelude.{Option, Some, None}
use Rattle.std.proofs.lemmas.Bool.{or_parts}
use Rattle.md_engine.specs.declared.configuration.ParseOptions.{ParseOptions}
use Rattle.md_engine.specs.declared.event.Content.{Content}
use Rattle.md_engine.specs.declared.event.Event.{Event}
use Rattle.md_engine.specs.declared.event.Point.{Point}
use Rattle.md_engine.specs.Meaning.{Cell}
use Rattle.md_content.specs.ContentReads.{wants_content}
use Rattle.md_content.specs.Joined.{joined}
use Rattle.md_events.specs.Ahead.{from_ending}
use Rattle.md_meaning.specs.State.{Container}
use Rattle.md_events.specs.Substituted.{Readings, Substituted}
use Rattle.proof_frame.specs.Change.{interrupts, open_following, others_of}
use Rattle.markdown_blocks.specs.FlowReads.{has_text}
use Rattle.proof_frame.specs.Row.{BlankRow, Row, RowKind, TextRow, LeafRow}
use Rattle.proof_frame.proofs.EachEvent.{each-append}
use Rattle.proof_rows.proofs.EachRow.{EachRow}
use Rattle.md_registry.specs.Registry.{proceeds_at, opens_at}
use Rattle.proof_rows.proofs.JoinedLemmas.{EachNoContent, events-no_content, front-no_content, joined-passes}
use Rattle.proof_frame.proofs.SubstitutedLemmas.{keeps}
use Rattle.proof_frame.proofs.ContentFacts.{NoContent, WantsContent, content-alone, no_content-append}
use Rattle.proof_frame.proofs.ContentFacts.{no_content-unwanted, nothing, nothing-wanted}
use Rattle.proof_frame.proofs.PrefixNames.{AreFront, IsFrontEvent}
use Rattle.proof_frame.specs.Passed.{Passed}
use Rattle.md_registry.proofs.RegistryContainers.{proceeds-front, opens-front}

-- What is before a line that flow reads.

-- the events of what is there
abbrev events_of : Front → List Event
events_of f = f.events

-- one more before others
more-front : (f : Passed → Front) (none : Front) → ((t : Passed) → AreFront (f t).events) → AreFront none.events →
    (o : Option Passed) → ((t : Passed) → o ≡ Some t → AreFront t.events) →
    AreFront (events_of (elim o [ None ↦ none | Some t ↦ in_front t (f t) ]))
more-front f none below h None k = h
more-front f none below h (Some t) k = each-append IsFrontEvent t.events (f t).events (k t refl) (below t)

-- all that continue
proceeded-are : (options : ParseOptions) (cs : List Container) (cells : List Cell) (p : Point) →
    AreFront (continued_prefixes options cs cells p).events
proceeded-are options [] cells p = tt
proceeded-are options (c ∷ cs) cells p =
    more-front (λ (t : Passed). continued_prefixes options cs t.cells t.point) (no_front cells p)
    (λ t. proceeded-are options cs t.cells t.point) tt (proceeds_at options c cells p)
    (proceeds-front options c cells p)

-- all that open
new-are : (options : ParseOptions) (interrupting : Bool) (size : ℕ) (cells : List Cell) (p : Point) →
    AreFront (opened_prefixes options interrupting size cells p).events
new-are options interrupting zero cells p = tt
new-are options interrupting (suc size) cells p =
    more-front (λ (t : Passed). opened_prefixes options false size t.cells t.point) (no_front cells p)
    (λ t. new-are options false size t.cells t.point) tt
    (opens_at options interrupting cells p) (opens-front options interrupting cells p)

following-are : (options : ParseOptions) (still : HeldLeaf) (others : List Container) (proceeded : Front) →
    AreFront (new_after options still others proceeded).events
following-are options still others proceeded = go (is_inside still others)
  where
    go : (x : Bool) →
        AreFront
        (cond x (no_front proceeded.cells proceeded.point)
        (opened_prefixes options (interrupts still others) (length proceeded.cells) proceeded.cells
        proceeded.point)).events
    go true = tt
    go false = new-are options (interrupts still others) (length proceeded.cells) proceeded.cells proceeded.point

-- all of it
held-are : (options : ParseOptions) (cs : List Container) (still : HeldLeaf) (cells : List Cell) (p : Point) →
    AreFront (held_at options cs still cells p).front
unfolding held_at
held-are options cs still cells p =
    let proceeded : Front = continued_prefixes options cs cells p in
    let new : Front = new_after options still (others_of cs proceeded.containers) proceeded in
    each-append IsFrontEvent proceeded.events new.events (proceeded-are options cs cells p)
    (following-are options still (others_of cs proceeded.containers) proceeded)

-- Lines.

-- prefixes and begins of containers are before a line
pub record IsFramed (row : Row) : Type 0 where
  pub front : AreFront row.front

-- so it is in the lines that flow reads
rows_by-framed : (options : ParseOptions) (h : Held)
    (further : List Container → HeldLeaf → List Cell → Point → List Row) →
    AreFront h.front →
    ((open_before : List Container) (still : HeldLeaf) (cells : List Cell) (p : Point) →
    EachRow IsFramed (further open_before still cells p)) →
    EachRow IsFramed (rows_by options h further)
rows_by-framed options h further front each = (
  record { front = front },
  go (from_ending h.cells),
)
  where
    still : HeldLeaf
    still = after_held options h

    go : (rest : List Cell) →
        EachRow IsFramed (elim rest [ [] ↦ [] | c ∷ cs ↦ further (open_following h.change) still cs c.after ])
    go [] = tt
    go (c ∷ cs) = each (open_following h.change) still cs c.after

-- however many there are
pub rows_at-framed : (options : ParseOptions) (size : ℕ) (open_before : List Container) (still : HeldLeaf)
    (cells : List Cell) (p : Point) →
    EachRow IsFramed (rows_at options size open_before still cells p)
rows_at-framed options zero open_before still cells p = tt
rows_at-framed options (suc size) open_before still cells p =
    rows_by-framed options (held_at options open_before still cells p) (rows_at options size)
    (held-are options open_before still cells p) (rows_at-framed options size)

-- Reading content.

-- what `is_text` says of a kind
text-kind : (kind : RowKind) → is_text kind ≡ false → kind ≢ TextRow
text-kind TextRow e k = cc
text-kind BlankRow e k = cc
text-kind (LeafRow l) e k = cc

-- where no line is text there is no content
pub rows-no_content : (wants : Content → Bool) → WantsContent wants → (rows : List Row) → EachRow IsFramed rows →
    EachNoContent rows → has_text rows ≡ false → NoContent wants (rows_events rows)
rows-no_content wants w [] framed quiet none = tt
rows-no_content wants w (row ∷ rows) framed quiet none =
    let other = or_parts (is_text row.kind) (has_text rows) none in
    no_content-append wants (row_events row) (rows_events rows)
    (events-no_content wants row row.kind refl (text-kind row.kind other.0)
    (front-no_content wants w row.front framed.0.front) (quiet.0 wants w))
    (rows-no_content wants w rows framed.1 quiet.1 other.1)

-- Where no line is text, reading content changes nothing.
pub content-same : (reads : Readings) (rows : List Row) → EachRow IsFramed rows → EachNoContent rows →
    has_text rows ≡ false → Substituted wants_content reads [] 0 (joined (rows_events rows)) (rows_events rows)
content-same reads rows framed quiet none =
    let es : List Event = rows_events rows in
    let same : joined es ≡ es = ap joined (sym (append-nil es))
    ∙ joined-passes es [] (rows-no_content nothing nothing-wanted rows framed quiet none) ∙ append-nil es in
    subst (λ (l : List Event). Substituted wants_content reads [] 0 l es) (sym same)
    (keeps wants_content reads [] 0 es
    (no_content-unwanted wants_content es (rows-no_content wants_content content-alone rows framed quiet none)))
