-- Heads of tables, read again among the events of the lines of a text: a line of text is, just if the line after it
-- takes it as its head. Then the events are joined.
use Rattle.std.proofs.Common.{◌≡◌, ◌≢◌, ℕ, Bool, true, false, cond, ◌&&◌, List, [], ◌∷◌, ◌++◌, refl, ap, sym, ◌∙◌}
use Rattle.std.proofs.Common.{append_assoc}
use Rattle.std.proofs.lemmas.Bool.{and_parts}
use Rattle.md_engine.specs.declared.configuration.ParseOptions.{ParseOptions}
use Rattle.md_engine.specs.declared.event.Event.{Event}
use Rattle.md_engine.specs.declared.event.Name.TheVariants as n
use Rattle.md_engine.specs.declared.event.Point.{Point}
use Rattle.md_engine.specs.declared.tokenizer.held_leaf.HeldLeaf.{HeldLeaf}
use Rattle.md_content.specs.Chunks.{content_link}
use Rattle.md_content.specs.Joined.{joined}
use Rattle.md_meaning.specs.State.{Container}
use Rattle.md_events.specs.Events.Nested.{enter_link, exit}
use Rattle.md_tables.specs.Heads.{headed, meets_table}
use Rattle.md_tables.proofs.HeadsLemmas.{headed-following, headed-head, headed-text}
use Rattle.proof_leaf_laws.specs.Headed.{heads_read, headed_row}
use Rattle.proof_frame.specs.Row.{BlankRow, LeafRow, Row, RowKind, TextRow}
use Rattle.proof_rows.specs.Rows.{groups, is_further}
use Rattle.proof_rows.specs.Rows.{is_text, row_events, row_events_by, rows_events, tail_events, takes_head}
use Rattle.proof_rows.specs.Unread.{joined_groups}
use Rattle.proof_frame.proofs.ContentFacts.{nothing, nothing-wanted}
use Rattle.proof_frame.proofs.FrontNames.{HasFront}
use Rattle.proof_rows.proofs.GroupLemmas.{rows-end, rows-front}
use Rattle.proof_rows.proofs.HeadLine.{head-bytes}
use Rattle.proof_rows.proofs.HeadMet.{head-met, row-parts, tail-met, text-met}
use Rattle.proof_rows.proofs.HeadRows.{again-joined, again-none, as_table, head_rows, read_again}
use Rattle.proof_leaf_laws.proofs.HeadsRead.{no-chunk}
use Rattle.proof_rows.proofs.JoinedLemmas.{EachNoContent, HasNoContent, events-no_content, has_front-no_content}
use Rattle.proof_rows.proofs.JoinedLemmas.{tail-no_content}
use Rattle.proof_rows.proofs.RowFacts.{AreRows, IsRow, following_line}
use Rattle.proof_rows.proofs.TablesOff.{rows-unheaded}

-- One line, before others.

-- one that is no text passes
other-read : (options : ParseOptions) (bytes : List ℕ) (row : Row) (es : List Event) → row.kind ≢ TextRow →
    HasFront bytes row → HasNoContent row →
    headed bytes options (row_events row ++ es) ≡ row_events row ++ headed bytes options es
other-read options bytes row es other front quiet =
    headed-following bytes options (row_events row) es
    (no-chunk (row_events row)
    (events-no_content nothing row row.kind refl other (has_front-no_content nothing nothing-wanted bytes row front)
    (quiet nothing nothing-wanted)))

-- so does a line of text that meets no table, and one that meets one is read again
text-read : (options : ParseOptions) (bytes : List ℕ) (row : Row) (es read : List Event) → row.kind ≡ TextRow →
    HasFront bytes row →
    headed bytes options
    (enter_link n.Content row.first content_link ∷ exit n.Content row.end ∷ (tail_events n.LineEnding row ++ es)) ≡
    read ++ headed bytes options (tail_events n.LineEnding row ++ es) →
    headed bytes options (row_events row ++ es) ≡
    (row.front ++ read ++ tail_events n.LineEnding row) ++ headed bytes options es
text-read options bytes row es read text front line =
    let tail : List Event = tail_events n.LineEnding row in
    ap (headed bytes options) (row-parts row TextRow es text)
    ∙ headed-following bytes options row.front
    (enter_link n.Content row.first content_link ∷ exit n.Content row.end ∷ (tail ++ es))
    (no-chunk row.front (has_front-no_content nothing nothing-wanted bytes row front))
    ∙ ap (λ (l : List Event). row.front ++ l)
    (line
    ∙ ap (λ (l : List Event). read ++ l)
    (headed-following bytes options tail es (no-chunk tail (tail-no_content nothing n.LineEnding row refl))))
    ∙ sym
    (append_assoc (row.front ++ read) tail (headed bytes options es)
    ∙ append_assoc row.front read (tail ++ headed bytes options es))

text-kept : (options : ParseOptions) (bytes : List ℕ) (row : Row) (es : List Event) → row.kind ≡ TextRow →
    HasFront bytes row → meets_table es ≡ false →
    headed bytes options (row_events row ++ es) ≡ row_events row ++ headed bytes options es
text-kept options bytes row es text front none =
    let begin = enter_link n.Content row.first content_link in
    let end = exit n.Content row.end in
    text-read options bytes row es (begin ∷ end ∷ []) text front
    (headed-text bytes options begin end (tail_events n.LineEnding row ++ es)
    (tail-met n.LineEnding row es none) refl)
    ∙ ap (λ (kind : RowKind). row_events_by kind row ++ headed bytes options es) (sym text)

text-again : (options : ParseOptions) (bytes line : List ℕ) (row : Row) (es : List Event) →
    IsRow options bytes line row → row.kind ≡ TextRow → HasFront bytes row →
    meets_table (tail_events n.LineEnding row ++ es) ≡ true →
    headed bytes options (row_events row ++ es) ≡ row_events (as_table bytes row) ++ headed bytes options es
text-again options bytes line row es is text front meets =
    text-read options bytes row es (headed_row bytes row).inside text front
    (headed-head bytes options (enter_link n.Content row.first content_link) (exit n.Content row.end)
    (tail_events n.LineEnding row ++ es) refl meets
    ∙ ap (λ (l : List Event). l ++ headed bytes options (tail_events n.LineEnding row ++ es))
    (head-bytes options bytes line row is text))

-- All lines.

-- a line before another, and of those after
row-read : (options : ParseOptions) (bytes : List ℕ) (open_before : List Container) (still : HeldLeaf) (p : Point)
    (line next : List ℕ) (lines : List (List ℕ)) (row below : Row) (rows : List Row) →
    AreRows options bytes open_before still p (line ∷ next ∷ lines) (row ∷ below ∷ rows) → HasNoContent row →
    headed bytes options (row_events row ++ rows_events (below ∷ rows)) ≡
    row_events (read_again bytes row (below ∷ rows)) ++ headed bytes options (rows_events (below ∷ rows))
row-read options bytes open_before still p line next lines row below rows are quiet = go row.kind refl
  where
    es : List Event
    es = rows_events (below ∷ rows)

    front : HasFront bytes row
    front = (p, are.0.front, are.0.front_read)

    open_next : List Container
    open_next = following_line options open_before still p line

    Read : Bool → Type 0
    Read x =
        headed bytes options (row_events row ++ es) ≡
        row_events (cond x (as_table bytes row) row) ++ headed bytes options es

    text : row.kind ≡ TextRow → (x : Bool) → (is_further below.kind below.on && takes_head below.kind) ≡ x → Read x
    text e true heads =
        let both = and_parts (is_further below.kind below.on) (takes_head below.kind) heads in
        text-again options bytes _ row es are.0.is e front
        (head-met options bytes _ row open_next are.2 (next ∷ lines) below rows are.0.is e are.5 are.1 are.2 are.3
        both.0 both.1)
    text e false none =
        text-kept options bytes row es e front
        (text-met options bytes _ row open_next are.2 (next ∷ lines) below rows are.0.is e are.5 none)

    other : row.kind ≢ TextRow → Read false
    other apart = other-read options bytes row es apart front quiet

    go : (kind : RowKind) → row.kind ≡ kind →
        Read (is_text kind && (is_further below.kind below.on && takes_head below.kind))
    go BlankRow e = other (λ t. let bad : BlankRow ≡ TextRow = sym e ∙ t in cc)
    go (LeafRow l) e = other (λ t. let bad : LeafRow l ≡ TextRow = sym e ∙ t in cc)
    go TextRow e = text e (is_further below.kind below.on && takes_head below.kind) refl

-- the last line
last-read : (options : ParseOptions) (bytes : List ℕ) (row : Row) → HasFront bytes row → HasNoContent row →
    headed bytes options (row_events row ++ []) ≡ row_events row ++ []
last-read options bytes row front quiet = go row.kind refl
  where
    other : row.kind ≢ TextRow → headed bytes options (row_events row ++ []) ≡ row_events row ++ []
    other apart = other-read options bytes row [] apart front quiet

    go : (kind : RowKind) → row.kind ≡ kind → headed bytes options (row_events row ++ []) ≡ row_events row ++ []
    go BlankRow e = other (λ t. let bad : BlankRow ≡ TextRow = sym e ∙ t in cc)
    go (LeafRow l) e = other (λ t. let bad : LeafRow l ≡ TextRow = sym e ∙ t in cc)
    go TextRow e = text-kept options bytes row [] e front refl

rows-read : (options : ParseOptions) (bytes : List ℕ) (open_before : List Container) (still : HeldLeaf) (p : Point)
    (lines : List (List ℕ)) (rows : List Row) →
    AreRows options bytes open_before still p lines rows → EachNoContent rows →
    headed bytes options (rows_events rows) ≡ rows_events (head_rows bytes rows)
rows-read options bytes open_before still p lines [] are quiet = refl
rows-read options bytes open_before still p [] (row ∷ rows) are quiet = absurd are
rows-read options bytes open_before still p (line ∷ []) (row ∷ []) are quiet =
    last-read options bytes row (p, are.0.front, are.0.front_read) quiet.0
rows-read options bytes open_before still p (line ∷ []) (row ∷ below ∷ rows) are quiet = absurd are
rows-read options bytes open_before still p (line ∷ next ∷ lines) (row ∷ []) are quiet = absurd are
rows-read options bytes open_before still p (line ∷ next ∷ lines) (row ∷ below ∷ rows) are quiet =
    row-read options bytes open_before still p line next lines row below rows are quiet.0
    ∙ ap (λ (l : List Event). row_events (read_again bytes row (below ∷ rows)) ++ l)
    (rows-read options bytes (following_line options open_before still p line) row.following are.2 (next ∷ lines)
    (below ∷ rows) are.5 quiet.1)

-- Where tables are off there are none.
pub heads-rows : (options : ParseOptions) (bytes : List ℕ) (open_before : List Container) (still : HeldLeaf) (p : Point)
    (lines : List (List ℕ)) (rows : List Row) →
    AreRows options bytes open_before still p lines rows → EachNoContent rows →
    heads_read options bytes (rows_events rows) ≡ rows_events (head_rows bytes rows)
heads-rows options bytes open_before still p lines rows are quiet = go options.constructs.gfm_table refl
  where
    go : (x : Bool) → options.constructs.gfm_table ≡ x →
        cond x (headed bytes options (rows_events rows)) (rows_events rows) ≡ rows_events (head_rows bytes rows)
    go true on = rows-read options bytes open_before still p lines rows are quiet
    go false off =
        ap rows_events
        (sym (again-none bytes rows (rows-unheaded options bytes open_before still p lines rows off are)))

-- Joined, the events of lines are those of their groups: a head is there as it was read again, and lines of text that
-- follow one another in the same containers are joined.
pub heads-joined : (options : ParseOptions) (bytes : List ℕ) (open_before : List Container) (still : HeldLeaf)
    (p : Point) (lines : List (List ℕ)) (rows : List Row) →
    AreRows options bytes open_before still p lines rows → EachNoContent rows →
    joined (heads_read options bytes (rows_events rows)) ≡ joined_groups bytes (groups rows)
heads-joined options bytes open_before still p lines rows are quiet =
    ap joined (heads-rows options bytes open_before still p lines rows are quiet)
    ∙ again-joined bytes rows (rows-front options bytes open_before still p lines rows are)
    (rows-end options bytes open_before still p lines rows are) quiet
