-- The events of a text are its block list, with what the plain layer reads in the place of each chunk.
use Rattle.md_engine.specs.declared.tokenizer.held_leaf.HeldLeaf.TheVariants as held_leaf
use Rattle.md_engine.specs.declared.tokenizer.held_leaf.HeldLeaf.{HeldLeaf}
use Rattle.std.proofs.Common.{◌≡◌, ℕ, suc, false, List, [], ◌∷◌, ◌++◌, length, refl, ap, sym, ◌∙◌, subst, append-nil}
use Rattle.std.proofs.Common.{◌≤◌, ◌<◌, ◌^◌, arith}
use Rattle.md_registry.specs.Registry.{asked_first, bars_containers}
use Rattle.std.specs.Prelude.{Option, Some, None}
use Rattle.md_engine.specs.declared.configuration.ParseOptions.{ParseOptions}
use Rattle.md_engine.specs.declared.event.Event.{Event}
use Rattle.md_engine.specs.declared.event.Name.{Name}
use Rattle.md_engine.specs.declared.event.Point.{Point}
use Rattle.md_engine.specs.Meaning.{Cell}
use Rattle.md_events.specs.Events.Inline.{Part, together}
use Rattle.md_events.specs.Events.Nested.{pair}
use Rattle.md_meaning.specs.State.{Container}
use Rattle.md_events.specs.Events.Tiles.{EachRead, filled, filled_from, part_kind, parts, plain_lists, plain_read}
use Rattle.proof_frame.specs.Change.{ends_of}
use Rattle.proof_rows.specs.TextRows.{text_cells, text_rows, text_setting}
use Rattle.proof_frame.specs.ReadsPlain.{reads_plain}
use Rattle.proof_frame.specs.Row.{Row, ending_events}
use Rattle.proof_rows.specs.Rows.{final_row, first_row, front_done, group_done, Group, group_events, groups}
use Rattle.proof_rows.specs.Rows.{groups_events, held_at, tail_events, group_ending, is_blank_group, rows_at}
use Rattle.proof_rows.specs.BlockList.{group_unread, tabled_group, tabled_groups}
use Rattle.proof_rows.proofs.GroupLines.{AreGroups}
use Rattle.proof_rows.proofs.GroupsAre.{groups-are}
use Rattle.proof_frame.proofs.FrontNames.{HasFront, ends-no_parts, ends-unlinked}
use Rattle.proof_rows.proofs.JoinedLemmas.{EachNoContent, rows_at-no_content}
use Rattle.proof_rows.proofs.GroupFacts.{group-front, group-leaf, more-groups}
use Rattle.proof_frame.proofs.ReadAs.{read_as-fill}
use Rattle.proof_rows.proofs.RowFacts.{AreRows}
use Rattle.proof_rows.proofs.TextProgress.{IsShut}
use Rattle.proof_rows.proofs.TileParts.{ending-no_part}
use Rattle.proof_frame.proofs.FillFacts.{PartsRead, fill-append, fill-same}
use Rattle.md_events.proofs.FeedLines.{feed-none}
use Rattle.proof_leaf_laws.specs.Front.{body_point, front_events, text_front}

-- events that are those of a block list, with what is read in the place of each chunk
pub record IsFilled (bytes : List ℕ) (blocks events : List Event) : Type 0 where
  pub each : EachRead (reads_plain bytes) (parts blocks) (plain_lists bytes (parts blocks))
  pub read : events ≡ plain_read bytes blocks

-- nothing is after them
fill-all : (bytes : List ℕ) (blocks events : List Event) → PartsRead bytes blocks events → IsFilled bytes blocks events
fill-all bytes blocks events fill =
    let own : fill.own ≡
    parts blocks = sym (ap parts (sym (append-nil blocks)) ∙ fill.parts_are [] ∙ append-nil fill.own) in
    record {
      each = subst (λ (l : List Part). EachRead (reads_plain bytes) l (plain_lists bytes l)) own fill.each;
      read =
          sym (append-nil events)
          ∙ sym (fill.read [] [])
          ∙ ap (λ (l : List Event). filled_from false l (together (plain_lists bytes fill.own) ++ []))
          (append-nil blocks)
          ∙ ap (λ (l : List (List Event)). filled_from false blocks l)
          (append-nil (together (plain_lists bytes fill.own)))
          ∙ ap (λ (l : List Part). filled blocks (together (plain_lists bytes l))) own;
    }

-- Lines.

fill-ending : (bytes : List ℕ) (name : Name) (row : Row) → part_kind name ≡ None →
    PartsRead bytes (ending_events name row) (ending_events name row)
fill-ending bytes name row other = go row.after
  where
    go : (after : Option Point) →
        PartsRead bytes (ending_events name (record row { after = after }))
        (ending_events name (record row { after = after }))
    go None = fill-same bytes [] tt tt
    go (Some q) = fill-same bytes (pair name row.end q) (refl, (refl, tt)) (other, (other, tt))

-- what is in a line, with what is before it, and after it or a further line
fill-line : (bytes : List ℕ) (name : Name) (row last : Row) (xs zs : List Event) → part_kind name ≡ None →
    HasFront bytes row → PartsRead bytes xs zs →
    PartsRead bytes (row.front ++ xs ++ tail_events name last) (front_done bytes row ++ zs ++ tail_events name last)
fill-line bytes name row last xs zs other front h =
    let ends : List Event = ends_of last.closed_after last.end in
    let ending : List Event = ending_events name last in
    fill-append bytes (row.front ++ xs) (front_done bytes row ++ zs) (ends ++ ending) (ends ++ ending)
    (fill-append bytes row.front (front_done bytes row) xs zs
    (read_as-fill bytes row.front (front_done bytes row) front.2.reads) h)
    (fill-append bytes ends ends ending ending
    (fill-same bytes ends (ends-unlinked last.closed_after last.end) (ends-no_parts last.closed_after last.end))
    (fill-ending bytes name last other))

-- Texts.

fill-groups : (options : ParseOptions) (bytes : List ℕ) (gs : List Group) → AreGroups options bytes gs →
    PartsRead bytes (tabled_groups options bytes gs) (groups_events options bytes gs)
fill-groups options bytes [] are = fill-same bytes [] tt tt
fill-groups options bytes (group ∷ gs) are =
    fill-append bytes (tabled_group options bytes group) (group_events options bytes group)
    (tabled_groups options bytes gs)
    (groups_events options bytes gs)
    (fill-line bytes (group_ending group) (first_row group) (final_row group) (group_unread options bytes group)
    (group_done options bytes group) (ending-no_part (is_blank_group group)) (group-front options bytes group gs are)
    (group-leaf options bytes group gs are).1.stretch.filled)
    (fill-groups options bytes gs (more-groups options bytes group gs are))

-- The same with the front of a text before them.
pub blocks-filled : (options : ParseOptions) (bytes : List ℕ) (open_before : List Container) (still : HeldLeaf)
    (p : Point) (front : List Event) (lines : List (List ℕ)) (rows : List Row) →
    PartsRead bytes front front → IsShut still → AreRows options bytes open_before still p lines rows →
    EachNoContent rows →
    IsFilled bytes (front ++ tabled_groups options bytes (groups rows))
    (front ++ groups_events options bytes (groups rows))
blocks-filled options bytes open_before still p front lines rows filled shut are quiet =
    fill-all bytes (front ++ tabled_groups options bytes (groups rows))
    (front ++ groups_events options bytes (groups rows))
    (fill-append bytes front front (tabled_groups options bytes (groups rows))
    (groups_events options bytes (groups rows))
    filled
    (fill-groups options bytes (groups rows) (groups-are options bytes open_before still p lines rows shut are quiet)))

-- So it is with the lines that flow reads.
pub text-filled : (options : ParseOptions) (bytes : List ℕ) (p : Point) (front : List Event) (lines : List (List ℕ)) →
    PartsRead bytes front front → AreRows options bytes [] held_leaf.None p lines (text_rows options bytes p) →
    IsFilled bytes (front ++ tabled_groups options bytes (groups (text_rows options bytes p)))
    (front ++ groups_events options bytes (groups (text_rows options bytes p)))
text-filled options bytes p front lines filled are =
    let cells : List Cell = text_cells bytes options p in
    blocks-filled options bytes [] held_leaf.None p front lines (text_rows options bytes p) filled (refl, refl) are
    (rows_at-no_content options (suc (length cells)) [] held_leaf.None cells p)

-- Where the text ends, no events are.

-- where there are no cells, for a line that is empty
none-read : (options : ParseOptions) (bytes : List ℕ) (p : Point) (cells : List Cell) → cells ≡ [] →
    groups_events options bytes (groups (rows_at options (suc (length cells)) [] held_leaf.None cells p)) ≡ []
unfolding held_at asked_first bars_containers
none-read options bytes p [] e = refl
none-read options bytes p (c ∷ cells) e = absurd (cc)

none-unread : (options : ParseOptions) (bytes : List ℕ) (p : Point) (cells : List Cell) → cells ≡ [] →
    tabled_groups options bytes (groups (rows_at options (suc (length cells)) [] held_leaf.None cells p)) ≡ []
unfolding held_at asked_first bars_containers
none-unread options bytes p [] e = refl
none-unread options bytes p (c ∷ cells) e = absurd (cc)

pub end-read : (options : ParseOptions) (bytes : List ℕ) (p : Point) → length bytes < 2 ^ 61 →
    length bytes ≤ p.index → groups_events options bytes (groups (text_rows options bytes p)) ≡ []
end-read options bytes p small over =
    none-read options bytes p (text_cells bytes options p)
    (feed-none (text_setting bytes options p) p small over)

pub end-unread : (options : ParseOptions) (bytes : List ℕ) (p : Point) → length bytes < 2 ^ 61 →
    length bytes ≤ p.index → tabled_groups options bytes (groups (text_rows options bytes p)) ≡ []
end-unread options bytes p small over =
    none-unread options bytes p (text_cells bytes options p)
    (feed-none (text_setting bytes options p) p small over)

-- So the empty text has none.
none-front : (options : ParseOptions) → front_events options [] ≡ []
unfolding text_front
none-front options = refl

empty-none : (options : ParseOptions) →
    front_events options [] ++ tabled_groups options [] (groups (text_rows options [] (body_point options []))) ≡ []
empty-none options =
    ap
    (λ (es : List Event).
    es ++ tabled_groups options [] (groups (text_rows options [] (body_point options [])))) (none-front options)
    ∙ end-unread options [] (body_point options []) (omega arith) (omega arith)

pub blocks-empty : (options : ParseOptions) (bytes : List ℕ) → bytes ≡ [] →
    front_events options bytes
    ++ tabled_groups options bytes (groups (text_rows options bytes (body_point options bytes))) ≡
    []
blocks-empty options bytes e =
    subst
    (λ (l : List ℕ).
    front_events options l ++ tabled_groups options l (groups (text_rows options l (body_point options l))) ≡ [])
    (sym e) (empty-none options)
