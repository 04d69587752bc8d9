use Rattle.std.proofs.Common.{◌≡◌, ◌<◌, ◌+◌, ◌++◌, ◌∷◌, List, ℕ, arith, get_or, length, rules, subst, sym, take}
use Rattle.std.proofs.lemmas.List.{take_rest}
use Rattle.std.specs.Prelude.{None}
use Rattle.md_engine.specs.declared.event.Event.{Event}
use Rattle.md_engine.specs.declared.event.Kind.TheVariants.{Enter}
use Rattle.md_engine.specs.declared.event.Name.TheVariants.{Frontmatter}
use Rattle.md_events.specs.Events.Tiles.{part_at, part_kind}
use Rattle.md_events.specs.TextPart.{document_of}
use Rattle.markdown_blocks.specs.Definitions.{AreRead}
use Rattle.markdown_blocks.proofs.DefinitionLemmas.{among, mark-of, mark-within, reads-all, reads-first, reads-more}
use Rattle.markdown_blocks.proofs.definitions.read_definitions.Goals as goal

-- what indexing gives past the end of a list
abbrev unset : Event
unset = record {
  kind = Enter;
  name = Frontmatter;
  point = record { line = 0; column = 0; index = 0; vs = 0 };
  link = None;
}

pub loop-left-init : goal.loop-left-init
loop-left-init g c =
    reads-first (g.I.Inline.reads c.args.inline.now (document_of c.args.state.now)) c.args.blocks.now _ c.args.marks.now
    c.requires.marks c.new-all.ensures.items

pub bounds-blocks-mark : goal.bounds-blocks-mark
bounds-blocks-mark g c =
    mark-within (g.I.Inline.reads c.args.inline.now (document_of c.args.state.now)) c.args.blocks.now _
    c.loop-left.left.now unset (omega (arith, c.in-len1-up.len_at_least)) c.loop-left.invariant

pub offset_bounds-blocks-mark : goal.offset_bounds-blocks-mark
offset_bounds-blocks-mark g c =
    let within : get_or c.loop-left.left.now 0 0 < length c.args.blocks.now =
    mark-within (g.I.Inline.reads c.args.inline.now (document_of c.args.state.now)) c.args.blocks.now _
    c.loop-left.left.now unset (omega (arith, c.in-len1-up.len_at_least)) c.loop-left.invariant in
    search rules

pub overflow_add-mark : goal.overflow_add-mark
overflow_add-mark g c =
    let within : get_or c.loop-left.left.now 0 0 < length c.args.blocks.now =
    mark-within (g.I.Inline.reads c.args.inline.now (document_of c.args.state.now)) c.args.blocks.now _
    c.loop-left.left.now unset (omega (arith, c.in-len1-up.len_at_least)) c.loop-left.invariant in
    search rules

pub offset_bounds-blocks-mark-in-len1-up : goal.offset_bounds-blocks-mark-in-len1-up
offset_bounds-blocks-mark-in-len1-up g c =
    let within : get_or c.loop-left.left.now 0 0 < length c.args.blocks.now =
    mark-within (g.I.Inline.reads c.args.inline.now (document_of c.args.state.now)) c.args.blocks.now _
    c.loop-left.left.now unset (omega (arith, c.in-len1-up.len_at_least)) c.loop-left.invariant in
    search rules

pub slice_bounds-read_string-count : goal.slice_bounds-read_string-count
slice_bounds-read_string-count g c =
    let within : get_or c.loop-left.left.now 0 0 < length c.args.blocks.now =
    mark-within (g.I.Inline.reads c.args.inline.now (document_of c.args.state.now)) c.args.blocks.now _
    c.loop-left.left.now unset (omega (arith, c.in-len1-up.len_at_least)) c.loop-left.invariant in
    search rules

pub slice_bounds-read_string-start : goal.slice_bounds-read_string-start
slice_bounds-read_string-start g c =
    let within : get_or c.loop-left.left.now 0 0 < length c.args.blocks.now =
    mark-within (g.I.Inline.reads c.args.inline.now (document_of c.args.state.now)) c.args.blocks.now _
    c.loop-left.left.now unset (omega (arith, c.in-len1-up.len_at_least)) c.loop-left.invariant in
    search rules

pub read_string-requires-clause-among : goal.read_string-requires-clause-among
read_string-requires-clause-among g c =
    let blocks : List Event = c.args.blocks.now in
    let m : ℕ = get_or c.loop-left.left.now 0 0 in
    let within : m < length blocks =
    mark-within (g.I.Inline.reads c.args.inline.now (document_of c.args.state.now)) blocks _
    c.loop-left.left.now unset (omega (arith, c.in-len1-up.len_at_least)) c.loop-left.invariant in (
      take m blocks,
      subst (λ (l : List Event). blocks ≡ take m blocks ++ get_or blocks m unset ∷ l) (sym (take_rest blocks (m + 1)))
          (among blocks m unset within),
    )

pub read_string-requires-clause-definition : goal.read_string-requires-clause-definition
read_string-requires-clause-definition g c =
    mark-of (g.I.Inline.reads c.args.inline.now (document_of c.args.state.now)) c.args.blocks.now _
    c.loop-left.left.now unset (omega (arith, c.in-len1-up.len_at_least)) c.loop-left.invariant

pub loop-left-preserved : goal.loop-left-preserved
loop-left-preserved g c =
    let blocks : List Event = c.args.blocks.now in
    let m : ℕ = get_or c.loop-left.left.now 0 0 in
    let e : Event = get_or blocks m unset in
    reads-more (g.I.Inline.reads c.args.inline.now (document_of c.args.state.now)) blocks _ _
    c.read_string.new.answer.items c.loop-left.left.now unset (omega (arith, c.in-len1-up.len_at_least))
    (subst
    (λ (l : List Event).
    AreRead (g.I.Inline.reads c.args.inline.now (document_of c.args.state.now)) (part_at e.kind (part_kind e.name) l)
    c.read_string.new.answer.items) (take_rest blocks (m + 1)) c.in_ok-read_string.ensures)
    (rw (c.in_ok-push.ensures, c.deref.ensures.value) at c.in_ok-append.ensures) c.loop-left.invariant

pub returns : goal.returns
returns g c =
    reads-all (g.I.Inline.reads c.args.inline.now (document_of c.args.state.now)) c.args.blocks.now _ _
    (omega (arith, c.in_default.len_below)) c.loop-left.invariant
