use Rattle.std.proofs.Common.{◌≡◌, ◌≤◌, ◌-◌, length, List, sym, ◌∙◌, ap, drop, arith, subst}
use Rattle.std.proofs.lemmas.List.{take_all, length-drop}
use Rattle.std.specs.Prelude.{take}
use Rattle.md_engine.specs.declared.event.Event.{Event}
use Rattle.markdown_blocks.specs.ContentRead.{AreSideBySide, holds_content}
use Rattle.markdown_blocks.proofs.HoldsContent.{passed-other}
use Rattle.markdown_blocks.proofs.parser.holds_content.Goals as goal

pub loop-left-preserved : goal.loop-left-preserved
loop-left-preserved c =
    let left : List Event = c.loop-left.left.now in
    let many : 16 ≤ length left = c.in-len16-up.len_at_least in
    let passed-0 =
    passed-other left 0 _ (omega arith) (sym c.is_content.ensures ∙ c.if-is_content.false)
    c.loop-left.invariant.1 in
    let passed-2 =
    passed-other left 2 _ (omega arith) (sym c.is_content-else-is_content.ensures ∙ c.if-is_content-2.false)
    passed-0.0 in
    let passed-4 =
    passed-other left 4 _ (omega arith) (sym c.is_content-else-is_content-2.ensures ∙ c.if-is_content-3.false)
    passed-2.0 in
    let passed-6 =
    passed-other left 6 _ (omega arith) (sym c.is_content-else-is_content-3.ensures ∙ c.if-is_content-4.false)
    passed-4.0 in
    let passed-8 =
    passed-other left 8 _ (omega arith) (sym c.is_content-else-is_content-4.ensures ∙ c.if-is_content-5.false)
    passed-6.0 in
    let passed-10 =
    passed-other left 10 _ (omega arith) (sym c.is_content-else-is_content-5.ensures ∙ c.if-is_content-6.false)
    passed-8.0 in
    let passed-12 =
    passed-other left 12 _ (omega arith) (sym c.is_content-else-is_content-6.ensures ∙ c.if-is_content-7.false)
    passed-10.0 in
    let passed-14 =
    passed-other left 14 _ (omega arith) (sym c.is_content-else-is_content-7.ensures ∙ c.if-is_content-8.false)
    passed-12.0 in
    let rest : take (length left - 16) (drop 16 left) ≡ drop 16 left =
    take_all (length left - 16) (drop 16 left) (omega (arith, length-drop 16 left)) in (
      c.loop-left.invariant.0 ∙ passed-0.1 ∙ passed-2.1 ∙ passed-4.1 ∙ passed-6.1 ∙ passed-8.1 ∙ passed-10.1
          ∙ passed-12.1 ∙ passed-14.1 ∙ ap holds_content (sym rest),
      subst AreSideBySide (sym rest) passed-14.0,
    )
