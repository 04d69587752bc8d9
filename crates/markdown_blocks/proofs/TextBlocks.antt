-- What is in a text before its text parts are read, where the constructs of MDX are off: its block list, which tiles it
-- and spells its tree, and its labels. No inline layer changes that.
use Rattle.md_engine.specs.declared.tokenizer.held_leaf.HeldLeaf.TheVariants as held_leaf
use Rattle.std.proofs.Common.{◌≡◌, ◌^◌, ◌<◌, ℕ, true, List, [], ◌++◌, drop, length, refl, ap}
use Rattle.std.proofs.Common.{sym, ◌∙◌, subst}
use Rattle.std.specs.Prelude.{IsTrue}
use Rattle.std.specs.Str.{IsUtf8}
use Rattle.md_engine.specs.declared.configuration.ParseOptions.{ParseOptions}
use Rattle.md_engine.specs.declared.event.Event.{Event}
use Rattle.md_engine.specs.declared.event.Point.{Point}
use Rattle.md_engine.specs.Found.{Found}
use Rattle.md_engine.specs.Place.{first_point}
use Rattle.md_engine.specs.World.{World}
use Rattle.md_containers.specs.ItemsHeld.{ItemsHeld}
use Rattle.md_containers.specs.ItemsAllowed.{ItemsAllowed, root}
use Rattle.md_containers.specs.Listed.{listed}
use Rattle.md_registry.specs.Resolving.{lines_joined}
use Rattle.md_containers.proofs.ListedBlocks.{IsUnlisted, listed-blocks, listed-covers}
use Rattle.md_containers.proofs.ListedFilled.{listed-plain, plain-inline}
use Rattle.md_containers.proofs.ListedKept.{listed-placed}
use Rattle.md_containers.proofs.ListedReads.{listed-spelled}
use Rattle.md_content.specs.FootnoteLabels.{footnote_labels_in}
use Rattle.md_content.specs.Labels.{labels_in}
use Rattle.md_meaning.specs.Grouped.{grouped}
use Rattle.md_leaves.specs.Turned.{turned}
use Rattle.md_events.specs.Events.Inline.{Covers, pieces, together}
use Rattle.md_meaning.specs.Meaning.{tree, with_frontmatter}
use Rattle.md_meaning.specs.Texts.{split_lines}
use Rattle.md_events.specs.Events.Nested.{Nested}
use Rattle.md_events.specs.Events.Places.{are_placed}
use Rattle.md_events.specs.Events.Spelled.{spelled}
use Rattle.md_events.specs.Events.Tiles.{IsBlockList, end_point, parts, plain_lists, plain_read}
use Rattle.md_outline.specs.HeadingDepths.{are_shallow}
use Rattle.md_outline.specs.Outlined.{IsOutlined}
use Rattle.md_events.proofs.FilledLemmas.{spelled-filled}
use Rattle.md_events.specs.Exact.Blocks.{exact}
use Rattle.proof_exact.proofs.ExactIs.{exact-is}
use Rattle.proof_rows.specs.BlockList.{block_list, tabled_groups}
use Rattle.proof_leaf_laws.specs.Front.{body_point, front_events}
use Rattle.markdown_blocks.specs.FlowReads.{FlowReads}
use Rattle.proof_rows.specs.TextRows.{text_rows}
use Rattle.proof_rows.specs.WithoutMdx.{IsWithoutMdx}
use Rattle.proof_frame.specs.Row.{Row}
use Rattle.proof_rows.specs.Rows.{groups, groups_events}
use Rattle.proof_rows.specs.Unread.{unread_groups}
use Rattle.proof_rows.proofs.BetweenRows.{rows-between}
use Rattle.proof_rows.proofs.EndingRows.{blocks-endings}
use Rattle.proof_rows.proofs.GrammarRows.{blocks-grammar}
use Rattle.proof_rows.proofs.HeldRows.{blocks-held, events-held}
use Rattle.proof_rows.proofs.ValidRows.{events-are_valid, rows-are_valid}
use Rattle.proof_rows.proofs.GroupsAre.{groups-are}
use Rattle.markdown_blocks.proofs.Labels.Rows.{rows-labels}
use Rattle.proof_content_laws.proofs.Labels.Footnotes.{are_valid-labels}
use Rattle.proof_content_laws.proofs.Labels.Kept.{listed-labels, read-labels}
use Rattle.proof_content_laws.proofs.Labels.Trees.{defined_in, noted_in}
use Rattle.proof_rows.proofs.PartedRows.{rows-parted}
use Rattle.md_order.proofs.ListsFirst.{lists-first}
use Rattle.md_leaves.specs.HeadingText.{headings_resolved}
use Rattle.md_tables.specs.Tabled.{tabled}
use Rattle.markdown_blocks.proofs.SpelledRows.{rows-outer}
use Rattle.proof_rows.proofs.JoinedLemmas.{EachNoContent}
use Rattle.proof_container_laws.proofs.ListedOutlined.{listed-outlined}
use Rattle.proof_rows.proofs.Begun.{begun, front-nested, front-spelled, front-unlisted}
use Rattle.proof_rows.proofs.Begun.{fronts-grouped, fronts-shallow}
use Rattle.proof_frame.proofs.FillFacts.{fill-same}
use Rattle.proof_frame.proofs.PartsValid.{valid-outside}
use Rattle.proof_rows.proofs.NestedRows.{Nests, rows-nest}
use Rattle.proof_rows.proofs.PieceRows.{blocks-pieces}
use Rattle.proof_rows.proofs.PlainEvents.{groups-unlisted}
use Rattle.proof_rows.proofs.RowFacts.{AreRows}
use Rattle.proof_rows.proofs.AloneGroups.{leaves-alone}
use Rattle.proof_rows.proofs.TabledGroups.{chain}
use Rattle.proof_rows.proofs.TextAre.{MayBegin, from-are, lines_of, rows_of, text-are}
use Rattle.markdown_blocks.proofs.ContentGroups.{content-are, part-of}
use Rattle.markdown_blocks.proofs.FlowReads.{text-quiet}
use Rattle.proof_rows.proofs.TileCovers.{blocks-cover}
use Rattle.proof_rows.proofs.TileParts.{blocks-chunks, blocks-nested, blocks-are_valid}
use Rattle.proof_rows.proofs.TileReads.{blocks-empty, end-unread, text-filled}
use Rattle.markdown_blocks.proofs.TreeRows.{body-rows, body-shallow, body_of, tree-body}

-- Then the lines of each leaf of several were joined, lists were put around items, and headings and tables were set.
pub resolved-are : (options : ParseOptions) (bytes : List ℕ) (p : Point) → IsWithoutMdx options →
    length bytes < 2 ^ 61 → MayBegin bytes p → (found : Found) (new : World) →
    (flow : FlowReads bytes options p found new) →
    new.events ≡ listed bytes (tabled_groups options bytes (groups (text_rows options bytes p)))
resolved-are options bytes p built small begins found new flow =
    let lines : List (List ℕ) = split_lines (drop p.index bytes) in
    let rows : List Row = text_rows options bytes p in
    let are : AreRows options bytes [] held_leaf.None p lines rows = from-are options bytes p built small begins in
    let quiet : EachNoContent rows = text-quiet options bytes p in
    flow.events_are
    ∙ ap (λ (l : List Event). tabled (turned (headings_resolved (listed bytes (lines_joined options l)))))
    (content-are options bytes p built small begins flow.content flow.content_read)
    ∙ lists-first bytes (lines_joined options (unread_groups options bytes (groups rows)))
    (leaves-alone options bytes [] held_leaf.None p lines rows (refl, refl) are quiet)
    ∙ ap (listed bytes) (chain options bytes [] held_leaf.None p lines rows (refl, refl) are quiet)

-- The labels that content found are those of what the lines become.
pub labels-from : (options : ParseOptions) (bytes : List ℕ) (p : Point) → IsWithoutMdx options →
    length bytes < 2 ^ 61 → MayBegin bytes p → (found : Found) (new : World) → FlowReads bytes options p found new →
    found.definitions ≡ defined_in (body_of options bytes p)
labels-from options bytes p built small begins found new flow =
    let lines : List (List ℕ) = split_lines (drop p.index bytes) in
    let rows : List Row = text_rows options bytes p in
    let are : AreRows options bytes [] held_leaf.None p lines rows = from-are options bytes p built small begins in
    flow.definitions
    ∙ ap (labels_in bytes) (content-are options bytes p built small begins flow.content flow.content_read)
    ∙ rows-labels options bytes (groups rows)
    (groups-are options bytes [] held_leaf.None p lines rows (refl, refl) are (text-quiet options bytes p))
    (rows-outer options bytes p lines rows built are)
    ∙ ap defined_in (body-rows options built bytes p rows are)

-- The labels of footnote definitions among the events are, too.
pub footnotes-from : (options : ParseOptions) (bytes : List ℕ) (p : Point) → IsWithoutMdx options →
    length bytes < 2 ^ 61 → MayBegin bytes p → (found : Found) (new : World) → FlowReads bytes options p found new →
    footnote_labels_in bytes new.events ≡ noted_in (body_of options bytes p)
footnotes-from options bytes p built small begins found new flow =
    let lines : List (List ℕ) = split_lines (drop p.index bytes) in
    let rows : List Row = text_rows options bytes p in
    let are : AreRows options bytes [] held_leaf.None p lines rows = from-are options bytes p built small begins in
    let blocks : List Event = tabled_groups options bytes (groups rows) in
    let body : List Event = groups_events options bytes (groups rows) in
    let nests : Nests options bytes p (groups rows) = rows-nest options bytes p lines rows are in
    ap (footnote_labels_in bytes) (resolved-are options bytes p built small begins found new flow)
    ∙ listed-labels bytes bytes blocks
    ∙ sym
    (read-labels bytes blocks
    (blocks-chunks options bytes [] held_leaf.None p [] lines rows (valid-outside bytes [] tt tt) (refl, refl) are
    (text-quiet options bytes p)))
    ∙ ap (footnote_labels_in bytes)
    (sym (text-filled options bytes p [] lines (fill-same bytes [] tt tt) are).read)
    ∙ are_valid-labels bytes body (rows-are_valid options bytes p lines rows are) nests.balanced.matches
    (rows-parted options bytes p lines rows are) (rows-outer options bytes p lines rows built are)
    ∙ ap noted_in (body-rows options built bytes p rows are)

-- What is in a text before lists are put around its items: its blocks, and what the plain layer reads of them.
abbrev pub blocks_of : ParseOptions → List ℕ → List Event
blocks_of options bytes = front_events options bytes ++ tabled_groups options bytes (groups (rows_of options bytes))

abbrev pub read_of : ParseOptions → List ℕ → List Event
read_of options bytes = front_events options bytes ++ groups_events options bytes (groups (rows_of options bytes))

-- the lists may be put around items before texts are read or after
read-listed : (options : ParseOptions) (bytes : List ℕ) → IsWithoutMdx options → length bytes < 2 ^ 61 →
    listed bytes (read_of options bytes) ≡ plain_read bytes (listed bytes (blocks_of options bytes))
read-listed options bytes built small =
    let p : Point = body_point options bytes in
    let lines : List (List ℕ) = lines_of options bytes in
    let rows : List Row = rows_of options bytes in
    let part = part-of options bytes in
    let are : AreRows options bytes [] held_leaf.None p lines rows = text-are options bytes built small in
    ap (listed bytes) (text-filled options bytes p (front_events options bytes) lines part.stretch.filled are).read
    ∙ sym
    (listed-plain bytes bytes (blocks_of options bytes)
    (blocks-chunks options bytes [] held_leaf.None p (front_events options bytes) lines rows part.stretch.parts
    (refl, refl) are (text-quiet options bytes p)))

-- The blocks of a text, before the resolver of lists.
blocks-unlisted : (options : ParseOptions) (bytes : List ℕ) → IsWithoutMdx options → length bytes < 2 ^ 61 →
    IsTrue (are_placed bytes (blocks_of options bytes)) → IsUnlisted bytes (blocks_of options bytes)
blocks-unlisted options bytes built small placed =
    let p : Point = body_point options bytes in
    let lines : List (List ℕ) = lines_of options bytes in
    let rows : List Row = rows_of options bytes in
    let part = part-of options bytes in
    let leaves = (begun options bytes).fronted.leaves in
    let front : List Event = front_events options bytes in
    let are : AreRows options bytes [] held_leaf.None p lines rows = text-are options bytes built small in
    record {
      nested = blocks-nested options bytes p front lines rows part.stretch.nested are;
      items = blocks-held options bytes p front lines rows part are;
      placed = placed;
      lines =
          blocks-are_valid options bytes [] held_leaf.None p front lines rows part.stretch.parts (refl, refl) are
          (text-quiet options bytes p);
      chunks =
          blocks-chunks options bytes [] held_leaf.None p front lines rows part.stretch.parts (refl, refl) are
          (text-quiet options bytes p);
      grammar =
          blocks-grammar options bytes p front lines rows leaves (end-unread options bytes p small) are
          (text-quiet options bytes p);
      pieces_are = blocks-pieces options bytes p front lines rows part are;
      endings =
          blocks-endings options bytes p front lines rows leaves (end-unread options bytes p small) are
          (text-quiet options bytes p);
    }

-- The block list has the lists around these items, and is the exact list.
list-is : (options : ParseOptions) (bytes : List ℕ) → listed bytes (blocks_of options bytes) ≡ block_list options bytes
unfolding block_list
list-is options bytes = refl

blocks-exact : (options : ParseOptions) (bytes : List ℕ) → IsWithoutMdx options → length bytes < 2 ^ 61 →
    listed bytes (blocks_of options bytes) ≡ exact options bytes
blocks-exact options bytes built small = list-is options bytes ∙ exact-is options bytes built small

-- So what the plain layer reads of it has the lists around the items of what it reads of the lines.
pub read-is : (options : ParseOptions) (bytes : List ℕ) → IsWithoutMdx options → length bytes < 2 ^ 61 →
    listed bytes (read_of options bytes) ≡ plain_read bytes (exact options bytes)
read-is options bytes built small =
    read-listed options bytes built small ∙ ap (plain_read bytes) (blocks-exact options bytes built small)

-- What is known of the exact list of a text, which has these places, and of what the plain layer reads of it.
pub record HasBlocks (options : ParseOptions) (bytes : List ℕ) : Type 0 where
  pub list : IsBlockList bytes (exact options bytes)
  pub covers : Covers first_point (pieces (exact options bytes)) (end_point bytes)
  pub spells : spelled (exact options bytes) bytes ≡ tree options bytes
  pub outlined : IsUtf8 bytes → IsOutlined (plain_read bytes (exact options bytes)) bytes
  pub empty : bytes ≡ [] → exact options bytes ≡ []

pub has-blocks : (options : ParseOptions) (bytes : List ℕ) → IsWithoutMdx options → length bytes < 2 ^ 61 →
    are_placed bytes (exact options bytes) ≡ true → HasBlocks options bytes
has-blocks options bytes built small placed =
    let p : Point = body_point options bytes in
    let lines : List (List ℕ) = lines_of options bytes in
    let rows : List Row = rows_of options bytes in
    let body : List Event = groups_events options bytes (groups rows) in
    let events : List Event = read_of options bytes in
    let blocks : List Event = blocks_of options bytes in
    let front : List Event = front_events options bytes in
    let part = part-of options bytes in
    let begins = begun options bytes in
    let are : AreRows options bytes [] held_leaf.None p lines rows = text-are options bytes built small in
    let nests : Nests options bytes p (groups rows) = rows-nest options bytes p lines rows are in
    let nested : Nested events = front-nested p front body part.stretch.nested nests.balanced nests.forward in
    let are_valid : ItemsAllowed bytes root events = events-are_valid options bytes p front lines rows part are in
    let held : ItemsHeld [] events = events-held options bytes p front lines rows part are in
    let shows : spelled body bytes ≡ body_of options bytes p = body-rows options built bytes p rows are in
    let spells : spelled events bytes ≡ with_frontmatter begins.block (body_of options bytes p) =
    front-spelled bytes begins.block p front body begins.fronted (rows-outer options bytes p lines rows built are)
    ∙ ap (with_frontmatter begins.block) shows in
    let same : listed bytes blocks ≡ exact options bytes = blocks-exact options bytes built small in
    let list : IsBlockList bytes (exact options bytes) = subst (IsBlockList bytes) same
    (listed-blocks bytes blocks
    (blocks-unlisted options bytes built small
    (sym (listed-placed bytes bytes blocks) ∙ ap (are_placed bytes) same ∙ placed))) in
    record {
      list = list;
      covers =
          subst (λ (l : List Event). Covers first_point (pieces l) (end_point bytes)) same
          (listed-covers bytes blocks (blocks-cover options bytes p front lines rows part.stretch.tiled are));
      spells =
          sym
          (spelled-filled bytes (exact options bytes)
          (together (plain_lists bytes (parts (exact options bytes)))) list.chunks
          (plain-inline bytes (parts (exact options bytes))))
          ∙ ap (λ (l : List Event). spelled l bytes) (sym (read-is options bytes built small))
          ∙ listed-spelled bytes events are_valid ∙ ap grouped spells
          ∙ fronts-grouped begins.block (body_of options bytes p) begins.kind
          ∙ sym (tree-body options bytes p front begins);
      outlined = λ utf8.
          subst (λ (l : List Event). IsOutlined l bytes) (read-is options bytes built small)
          (listed-outlined bytes events
          (front-unlisted bytes p front body part
          (groups-unlisted options bytes p lines rows are utf8
          (rows-between options bytes p lines rows begins.between are)))
          are_valid nested held
          (ap are_shallow spells
          ∙ fronts-shallow begins.block (body_of options bytes p) begins.kind (body-shallow options bytes p built)));
      empty = λ none. sym same ∙ ap (listed bytes) (blocks-empty options bytes none);
    }
