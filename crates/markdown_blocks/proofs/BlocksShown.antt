-- The blocks of a text, before its text parts are read: an outline can show them, and they spell the tree of the text.
use Rattle.md_engine.specs.declared.tokenizer.held_leaf.HeldLeaf.TheVariants as held_leaf
use Rattle.std.proofs.Common.{◌≡◌, ◌^◌, ◌<◌, ℕ, true, List, [], length, refl, ap, sym, ◌∙◌, subst}
use Rattle.std.specs.Str.{IsUtf8}
use Rattle.md_engine.specs.declared.configuration.ParseOptions.{ParseOptions}
use Rattle.md_engine.specs.declared.event.Event.{Event}
use Rattle.md_engine.specs.declared.event.Point.{Point}
use Rattle.md_containers.specs.ItemsAllowed.{ItemsAllowed, root}
use Rattle.md_containers.specs.ItemsHeld.{ItemsHeld}
use Rattle.md_containers.specs.Listed.{listed}
use Rattle.md_containers.proofs.ListedChunks.{listed-chunks}
use Rattle.md_containers.proofs.ListedNests.{listed-nested}
use Rattle.md_containers.proofs.ListedFilled.{plain-inline}
use Rattle.md_containers.proofs.ListedReads.{listed-spelled}
use Rattle.md_events.specs.Events.Inline.{together}
use Rattle.md_events.specs.Events.Nested.{Balanced, Nested}
use Rattle.md_events.specs.Events.Spelled.{spelled}
use Rattle.md_events.specs.Events.Tiles.{chunks_in_parts, filled, parts, plain_lists}
use Rattle.md_events.proofs.FilledLemmas.{EachInline, spelled-filled}
use Rattle.md_events.specs.Exact.Blocks.{exact}
use Rattle.md_meaning.specs.Grouped.{grouped}
use Rattle.md_meaning.specs.Meaning.{tree, with_frontmatter}
use Rattle.md_outline.specs.HeadingDepths.{are_shallow}
use Rattle.md_outline.specs.Outlined.{IsOutlined}
use Rattle.md_outline.proofs.LayerOutlined.{outlined-filled}
use Rattle.proof_container_laws.proofs.ListedOutlined.{listed-outlined}
use Rattle.proof_exact.proofs.ExactIs.{exact-is}
use Rattle.proof_frame.specs.Row.{Row}
use Rattle.proof_leaf_laws.specs.Front.{body_point, front_events}
use Rattle.proof_rows.specs.BlockList.{block_list}
use Rattle.proof_rows.specs.Rows.{groups, groups_events}
use Rattle.proof_rows.specs.WithoutMdx.{IsWithoutMdx}
use Rattle.proof_rows.proofs.Begun.{begun, front-nested, front-spelled, front-unlisted, fronts-grouped, fronts-shallow}
use Rattle.proof_rows.proofs.BetweenRows.{rows-between}
use Rattle.proof_rows.proofs.HeldRows.{blocks-held, events-held}
use Rattle.proof_rows.proofs.NestedRows.{Nests, rows-nest}
use Rattle.proof_rows.proofs.PlainEvents.{groups-unlisted}
use Rattle.proof_rows.proofs.RowFacts.{AreRows}
use Rattle.proof_rows.proofs.TextAre.{lines_of, rows_of, text-are}
use Rattle.proof_rows.proofs.TileParts.{blocks-chunks, blocks-nested}
use Rattle.proof_rows.proofs.ValidRows.{events-are_valid}
use Rattle.markdown_blocks.proofs.ContentGroups.{part-of}
use Rattle.markdown_blocks.proofs.FlowReads.{text-quiet}
use Rattle.markdown_blocks.proofs.OwnChunks.{own, own-filled, own-inline}
use Rattle.markdown_blocks.proofs.SpelledRows.{rows-outer}
use Rattle.markdown_blocks.proofs.TextBlocks.{blocks_of, read-is, read_of}
use Rattle.markdown_blocks.proofs.TreeRows.{body-rows, body-shallow, body_of, tree-body}

-- the block list has the lists around these items
list-is : (options : ParseOptions) (bytes : List ℕ) → listed bytes (blocks_of options bytes) ≡ block_list options bytes
unfolding block_list
list-is options bytes = refl

module _ (options : ParseOptions) (bytes : List ℕ) (built : IsWithoutMdx options) (small : length bytes < 2 ^ 61) where
  abbrev p : Point
  p = body_point options bytes

  abbrev lines : List (List ℕ)
  lines = lines_of options bytes

  abbrev rows : List Row
  rows = rows_of options bytes

  abbrev front : List Event
  front = front_events options bytes

  are : AreRows options bytes [] held_leaf.None p lines rows
  are = text-are options bytes built small

  same : listed bytes (blocks_of options bytes) ≡ exact options bytes
  same = list-is options bytes ∙ exact-is options bytes built small

  nested : Nested (exact options bytes)
  nested =
      subst Nested same
      (listed-nested bytes (blocks_of options bytes)
      (blocks-nested options bytes p front lines rows (part-of options bytes).stretch.nested are)
      (blocks-held options bytes p front lines rows (part-of options bytes) are))

  chunks : chunks_in_parts 0 (exact options bytes) ≡ true
  chunks =
      subst (λ (l : List Event). chunks_in_parts 0 l ≡ true) same
      (listed-chunks bytes (blocks_of options bytes)
      ∙ blocks-chunks options bytes [] held_leaf.None p front lines rows (part-of options bytes).stretch.parts
      (refl, refl) are (text-quiet options bytes p))

  -- what the plain layer gives for each chunk
  abbrev plain : List (List Event)
  plain = together (plain_lists bytes (parts (exact options bytes)))

  each : EachInline plain
  each = plain-inline bytes (parts (exact options bytes))

  -- What is read, before lists are put around its items.

  abbrev body : List Event
  body = groups_events options bytes (groups rows)

  allowed : ItemsAllowed bytes root (read_of options bytes)
  allowed = events-are_valid options bytes p front lines rows (part-of options bytes) are

  spells : spelled (read_of options bytes) bytes ≡
      with_frontmatter (begun options bytes).block (body_of options bytes p)
  spells =
      let begins = begun options bytes in
      front-spelled bytes begins.block p front body begins.fronted (rows-outer options bytes p lines rows built are)
      ∙ ap (with_frontmatter begins.block) (body-rows options built bytes p rows are)

  -- So the blocks spell the tree of the text,
  pub blocks-spelled : spelled (exact options bytes) bytes ≡ tree options bytes
  blocks-spelled =
      let begins = begun options bytes in
      sym (spelled-filled bytes (exact options bytes) plain chunks each)
      ∙ ap (λ (l : List Event). spelled l bytes) (sym (read-is options bytes built small))
      ∙ listed-spelled bytes (read_of options bytes) allowed ∙ ap grouped spells
      ∙ fronts-grouped begins.block (body_of options bytes p) begins.kind
      ∙ sym (tree-body options bytes p front begins)

  -- and an outline can show them.
  pub blocks-outlined : IsUtf8 bytes → IsOutlined (exact options bytes) bytes
  blocks-outlined utf8 =
      let begins = begun options bytes in
      let nests : Nests options bytes p (groups rows) = rows-nest options bytes p lines rows are in
      let all : Nested (read_of options bytes) =
      front-nested p front body (part-of options bytes).stretch.nested nests.balanced nests.forward in
      let held : ItemsHeld [] (read_of options bytes) =
      events-held options bytes p front lines rows (part-of options bytes) are in
      let own_are : filled (exact options bytes) (own (exact options bytes)) ≡ exact options bytes =
      own-filled (exact options bytes) chunks in
      subst (λ (l : List Event). IsOutlined l bytes) own_are
      (outlined-filled bytes (exact options bytes) plain (own (exact options bytes)) chunks each
      (own-inline (exact options bytes) chunks)
      (subst Balanced (sym own_are) nested.balanced)
      (subst (λ (l : List Event). IsOutlined l bytes) (read-is options bytes built small)
      (listed-outlined bytes (read_of options bytes)
      (front-unlisted bytes p front body (part-of options bytes)
      (groups-unlisted options bytes p lines rows are utf8
      (rows-between options bytes p lines rows begins.between are)))
      allowed all held
      (ap are_shallow spells
      ∙ fronts-shallow begins.block (body_of options bytes p) begins.kind (body-shallow options bytes p built)))))
