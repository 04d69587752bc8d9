use Rattle.std.proofs.Common.{◌≡◌, ◌^◌, ◌<◌, ℕ, List, length, ap, sym, subst, arith}
use Rattle.std.specs.Str.{IsUtf8}
use Rattle.md_engine.specs.declared.parse_state.ParseState.{ParseState}
use Rattle.md_events.specs.TextPart.{document_of}
use Rattle.md_meaning.specs.Label.{Labels}
use Rattle.markdown_blocks.specs.Parsed.{IsRead}
use Rattle.markdown_blocks.specs.PartRead.{AreAllBlocks}
use Rattle.markdown_blocks.proofs.ReadsWith.{IsAhead, blocks-known, reads-with}
use Rattle.markdown_blocks.proofs.parser.parse_with.Given.{Over}
use Rattle.markdown_blocks.proofs.parser.parse_with.Goals.{After-state-1}
use Rattle.markdown_blocks.proofs.parser.parse_with.Goals as goal

pub read_blocks-requires-clause-small : goal.read_blocks-requires-clause-small
read_blocks-requires-clause-small g c = rw c.as_bytes-bytes.ensures.value c.requires.size

-- the state that the layer is said
abbrev state_of : (g : Over) → After-state-1 g → ParseState
state_of g c = record {
  options = c.args.options;
  bytes = c.as_bytes-bytes.result;
  definitions = c.in_ok-blocks.blocks.definitions;
  gfm_footnote_definitions = c.in_ok-blocks.blocks.gfm_footnote_definitions;
}

-- what is known before it reads a part
is-ahead : (g : Over) (c : After-state-1 g) → IsAhead (state_of g c) c.in_ok-blocks.blocks.events.items
is-ahead g c =
    let bytes : List ℕ = c.as_bytes-bytes.result.now in
    let text : bytes ≡ c.args.value.now = c.as_bytes-bytes.ensures.value in
    let small : length c.args.value.now < 2 ^ 61 = omega (arith, c.requires.size) in
    let all : AreAllBlocks c.args.options.now bytes c.in_ok-blocks.blocks = c.in_ok-blocks.ensures.read in
    record {
      built = c.requires.built;
      utf8 = subst IsUtf8 (sym text) c.utf8.value;
      small = subst (λ (l : List ℕ). length l < 2 ^ 61) (sym text) small;
      are = all.are;
      placed = all.placed;
      definitions = ap (λ (l : Labels). l.definitions) all.labels_are;
      footnotes = ap (λ (l : Labels). l.footnotes) all.labels_are;
    }

pub read_text_parts-requires-clause-are : goal.read_text_parts-requires-clause-are
read_text_parts-requires-clause-are g c =
    blocks-known (state_of g c) c.in_ok-blocks.blocks.events.items (is-ahead g c)

pub read_text_parts-requires-clause-placed : goal.read_text_parts-requires-clause-placed
read_text_parts-requires-clause-placed g c = c.in_ok-blocks.ensures.read.placed

pub returns : goal.returns
returns g c =
    let before : After-state-1 g = (goal.at.returns g c).After-state-1 in
    let state : ParseState = state_of g before in
    subst
    (λ (l : List ℕ).
    IsRead (g.I.Inline.reads c.args.inline.now) l c.args.options.now c.in_ok-events.events.items state)
    c.as_bytes-bytes.ensures.value
    (reads-with state c.in_ok-blocks.blocks.events.items (is-ahead g before) (g.I.Inline.reads c.args.inline.now)
    (g.met.I.Inline.keeps_frame c.args.inline.now (document_of state)) c.in_ok-events.events.items
    c.in_ok-events.ensures)
