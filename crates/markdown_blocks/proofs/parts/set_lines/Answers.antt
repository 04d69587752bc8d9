use Rattle.std.proofs.Common.{◌≡◌, ℕ, Bool, List, ap, arith, length, refl, subst, sym, ◌∙◌}
use Rattle.std.specs.List.{prefix_len}
use Rattle.md_engine.specs.Found.{found_in}
use Rattle.md_engine.specs.World.{World, fresh, world}
use Rattle.md_engine.specs.declared.event.Event.{Event}
use Rattle.markdown_blocks.specs.Alone.{stays_by_name}
use Rattle.markdown_blocks.specs.ContentRead.{ReadIf}
use Rattle.markdown_blocks.specs.Parsed.{IsSmall, IsWithoutMdx}
use Rattle.markdown_blocks.specs.PartRead.{BeginsPart}
use Rattle.markdown_blocks.proofs.ContentAre.{joined-set}
use Rattle.markdown_blocks.proofs.FlowReads.{FlowFlushed, flow-flushed-from, flow-reads, flushed-events}
use Rattle.markdown_blocks.proofs.FlowReads.{flushed-side}
use Rattle.markdown_blocks.proofs.PartBegins.{part-may}
use Rattle.markdown_blocks.proofs.StaysAlone.{alone-same, stay-alone, stay-none}
use Rattle.markdown_blocks.proofs.TextsRead.{flow-read}
use Rattle.markdown_blocks.proofs.parts.set_lines.Goals as goal

pub returns-then-same-len : goal.returns-then-same-len
returns-then-same-len c =
    let w : World = world c.flush.new.tokenizer in
    let all : prefix_len stays_by_name w.events ≡ length w.events =
    sym
    (c.until_changed-same.ensures.value
    ∙ ap (λ (es : List Event). prefix_len stays_by_name es) c.deref.ensures.value)
    ∙ c.if-same-len.true ∙ c.len.ensures ∙ sym c.deref.ensures.len
    ∙ ap (λ (es : List Event). length es) c.deref.ensures.value in
    let flushed : FlowFlushed c.args.bytes.now c.args.options.now c.args.start (found_in c.nothing-found.result) w =
    flow-flushed-from c.args.bytes.now c.args.options.now c.args.start
    (fresh c.args.bytes.now c.args.options.now c.args.start) (length c.args.bytes.now) _ _ _ _
    (found_in c.nothing-found.result) w refl refl (omega (arith, c.requires.small)) c.requires.runs
    c.in_ok-flush.ensures
    (subst (λ (b : Bool). ReadIf b w (found_in c.nothing-found.result) w) (sym (stay-none w.events all))
    (c.nothing-found.ensures, refl)) in
    flow-reads c.args.bytes.now c.args.options.now c.args.start _ _ _ flushed
    (joined-set c.args.options.now c.args.bytes.now c.args.start c.requires.built (omega (arith, c.requires.small)) _ w
    (part-may c.args.bytes.now c.args.start c.requires.begins) flushed)
    (ap (λ (es : List Event). record w { events = es })
    (sym (alone-same c.args.options.now w.setting.bytes w.events all)))

pub read_texts-requires-clause-side : goal.read_texts-requires-clause-side
read_texts-requires-clause-side c =
    flushed-side c.args.bytes.now c.args.options.now c.args.start
    (fresh c.args.bytes.now c.args.options.now c.args.start) (length c.args.bytes.now) _ _ _ _ refl refl
    (omega (arith, c.requires.small)) c.requires.runs c.in_ok-flush.ensures

pub read_texts-requires-clause-known : goal.read_texts-requires-clause-known
read_texts-requires-clause-known c =
    let w : World = world c.flush.new.tokenizer in
    let is : c.until_changed-same.result ≡ prefix_len stays_by_name w.events =
    c.until_changed-same.ensures.value ∙ ap (λ (es : List Event). prefix_len stays_by_name es) c.deref.ensures.value in
    omega (arith, is, stay-alone w.events)

pub read_texts-requires-clause-built : goal.read_texts-requires-clause-built
read_texts-requires-clause-built c =
    let are = flushed-events c.args.bytes.now c.args.options.now c.args.start
    (fresh c.args.bytes.now c.args.options.now c.args.start) (length c.args.bytes.now) _ _ _ _ refl refl
    (omega (arith, c.requires.small)) c.requires.runs c.in_ok-flush.ensures in
    subst IsWithoutMdx (sym are.options_are) c.requires.built

pub read_texts-requires-clause-small : goal.read_texts-requires-clause-small
read_texts-requires-clause-small c =
    let are = flushed-events c.args.bytes.now c.args.options.now c.args.start
    (fresh c.args.bytes.now c.args.options.now c.args.start) (length c.args.bytes.now) _ _ _ _ refl refl
    (omega (arith, c.requires.small)) c.requires.runs c.in_ok-flush.ensures in
    subst IsSmall (sym are.bytes_are) c.requires.small

pub read_texts-requires-clause-begins : goal.read_texts-requires-clause-begins
read_texts-requires-clause-begins c =
    let are = flushed-events c.args.bytes.now c.args.options.now c.args.start
    (fresh c.args.bytes.now c.args.options.now c.args.start) (length c.args.bytes.now) _ _ _ _ refl refl
    (omega (arith, c.requires.small)) c.requires.runs c.in_ok-flush.ensures in
    subst (λ (l : List ℕ). BeginsPart l c.args.start) (sym are.bytes_are) c.requires.begins

pub read_texts-requires-clause-lines : goal.read_texts-requires-clause-lines
read_texts-requires-clause-lines c =
    flow-read c.args.options.now c.args.bytes.now c.args.start (world c.flush.new.tokenizer)
    (flushed-events c.args.bytes.now c.args.options.now c.args.start
    (fresh c.args.bytes.now c.args.options.now c.args.start) (length c.args.bytes.now) _ _ _ _ refl refl
    (omega (arith, c.requires.small)) c.requires.runs c.in_ok-flush.ensures)

pub resolve_blocks-requires-clause-may : goal.resolve_blocks-requires-clause-may
resolve_blocks-requires-clause-may c =
    (joined-set c.args.options.now c.args.bytes.now c.args.start c.requires.built (omega (arith, c.requires.small))
    (found_in c.in_ok-found.found) (world c.read_texts.new.tokenizer)
    (part-may c.args.bytes.now c.args.start c.requires.begins)
    (flow-flushed-from c.args.bytes.now c.args.options.now c.args.start
    (fresh c.args.bytes.now c.args.options.now c.args.start) (length c.args.bytes.now) _ _ _ _ _ _ refl refl
    (omega (arith, c.requires.small)) c.requires.runs c.in_ok-flush.ensures
    c.in_ok-found.ensures.content)).may_pass

pub returns : goal.returns
returns c =
    let items : World = world c.read_texts.new.tokenizer in
    let flushed : FlowFlushed c.args.bytes.now c.args.options.now c.args.start (found_in c.in_ok-found.found) items =
    flow-flushed-from c.args.bytes.now c.args.options.now c.args.start
    (fresh c.args.bytes.now c.args.options.now c.args.start) (length c.args.bytes.now) _ _ _ _ _ _ refl refl
    (omega (arith, c.requires.small)) c.requires.runs c.in_ok-flush.ensures
    c.in_ok-found.ensures.content in
    flow-reads c.args.bytes.now c.args.options.now c.args.start _ _ _ flushed
    (joined-set c.args.options.now c.args.bytes.now c.args.start c.requires.built (omega (arith, c.requires.small)) _
    items (part-may c.args.bytes.now c.args.start c.requires.begins) flushed)
    c.in_ok-resolve_blocks.ensures
