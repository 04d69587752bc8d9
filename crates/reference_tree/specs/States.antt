-- What the states of the program mean.
use Rattle.std.specs.Prelude.{◌≡◌, List, [], ◌∷◌, map, Option, Some, None}
use Rattle.std.specs.Option.{option_copied, option_map}
use Rattle.md_meaning.specs.State as s
use Rattle.md_meaning.specs.Leaves as l
use Rattle.md_meaning.specs.Containers as c
use Rattle.reference_tree.specs.declared.state.Container.{Container}
use Rattle.reference_tree.specs.declared.state.Container.TheVariants as container
use Rattle.reference_tree.specs.declared.state.ParagraphLine.{ParagraphLine}
use Rattle.reference_tree.specs.declared.state.Opening.{Opening}
use Rattle.reference_tree.specs.declared.state.Leaf.{Leaf}
use Rattle.reference_tree.specs.declared.state.Leaf.TheVariants as leaf
use Rattle.reference_tree.specs.declared.state.Innermost.{Innermost}
use Rattle.reference_tree.specs.declared.state.Frame.{Frame}
use Rattle.reference_tree.specs.declared.state.Path.{Path}
use Rattle.reference_tree.specs.declared.state.LeafResult.{LeafResult}
use Rattle.reference_tree.specs.declared.state.LeafResult.TheVariants as became
use Rattle.reference_tree.specs.declared.leaves.Transition.{Transition}
use Rattle.reference_tree.specs.declared.leaves.Transition.TheVariants as proceeded
use Rattle.reference_tree.specs.declared.state.ParagraphContext.{ParagraphContext}
use Rattle.reference_tree.specs.declared.state.ParagraphContext.TheVariants as against
use Rattle.reference_tree.specs.declared.state.Taken.{Taken}
use Rattle.reference_tree.specs.Rests.{rest_meaning}
use Rattle.reference_tree.specs.Trees.{meaning, line_meanings}
use Rattle.reference_tree.specs.Held.{blocks_meaning}

abbrev pub container_meaning : Container → s.Container
container_meaning (container.Quote kind) = s.InQuote kind
container_meaning (container.Item digits marker width starts_blank) = s.InItem digits.now marker width starts_blank
container_meaning (container.Footnote label) = s.InFootnote label.now

abbrev pub kept_meaning : ParagraphLine → s.ParagraphLine
kept_meaning k = record { indent = k.indent; text = k.text.now }

abbrev pub kept_meanings : List ParagraphLine → List s.ParagraphLine
kept_meanings ks = map kept_meaning ks

abbrev pub opening_meaning : Opening → s.Opening
opening_meaning o = record {
  marker = o.marker;
  size = o.size;
  indent = o.indent;
  info = option_copied o.info;
  meta = option_copied o.meta;
}

abbrev pub leaf_meaning : Leaf → s.Leaf
leaf_meaning leaf.None = s.NoLeaf
leaf_meaning (leaf.Paragraph lines) = s.OpenParagraph (kept_meanings lines.items)
leaf_meaning (leaf.Code lines) = s.OpenCode (line_meanings lines.items)
leaf_meaning (leaf.Fence o lines) = s.OpenFence (opening_meaning o) (line_meanings lines.items)
leaf_meaning (leaf.Html k lines) = s.OpenHtml k (line_meanings lines.items)
leaf_meaning (leaf.Table delimiter rows) =
    s.OpenTable delimiter.now (map (λ row. map (λ cell. cell.now) row.items) rows.items)

abbrev pub spot_meaning : Innermost → s.Innermost
spot_meaning x = record { here = blocks_meaning x.here; leaf = leaf_meaning x.leaf }

-- these containers, and in them this path
abbrev pub within : List Frame → s.Path → s.Path
within [] p = p
within (f ∷ fs) p = s.Within (blocks_meaning f.before) (container_meaning f.container) (within fs p)

abbrev pub path_meaning : Path → s.Path
path_meaning p = within p.frames.items (s.At (spot_meaning p.spot))

abbrev pub result_meaning : LeafResult → l.LeafResult
result_meaning (became.Opened x) = l.Opened (leaf_meaning x)
result_meaning (became.Finished b) = l.Finished (meaning b)

abbrev pub result_option : Option LeafResult → Option l.LeafResult
result_option o = option_map result_meaning o

abbrev pub against_meaning : ParagraphContext → l.ParagraphContext
against_meaning against.NoText = l.NoText
against_meaning against.Text = l.Text
against_meaning against.LazyText = l.LazyText

abbrev pub taken_meaning : Taken → c.Taken
taken_meaning t = record { container = container_meaning t.container; rest = rest_meaning t.rest }

abbrev pub taken_option : Option Taken → Option c.Taken
taken_option o = option_map taken_meaning o

-- what a leaf that continues has become
abbrev pub proceeded_option : Transition → Option l.LeafResult
proceeded_option (proceeded.On c) = Some (result_meaning c)
proceeded_option (proceeded.Ends x) = None

-- a leaf that ends is handed back
abbrev pub HandsBack : Transition → s.Leaf → Type 0
HandsBack (proceeded.On c) x = Unit {0}
HandsBack (proceeded.Ends y) x = leaf_meaning y ≡ x
