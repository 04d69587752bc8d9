use Rattle.std.proofs.Common.{◌≡◌, Bool, true, false, ◌&&◌, List, ℕ, drop, map, ap, sym, ◌∙◌}
use Rattle.std.specs.Prelude.{string_bytes}
use Rattle.std.proofs.lemmas.Bool.{and_parts}
use Rattle.std.proofs.lemmas.Result.{IfOk-at_ok, IfOk-weaker}
use Rattle.md_inline_events.specs.Forest.{Forest}
use Rattle.md_inline_events.specs.Tokens.{tokens}
use Rattle.md_inlines.specs.Atoms.{merged}
use Rattle.md_inlines.specs.Content.{has_form}
use Rattle.markdown_inlines.specs.Addressed.{has_at_sign}
use Rattle.markdown_inlines.proofs.ContentTokens.{IsWhole, level-whole, level_read, plain-tokens, searched-tokens}
use Rattle.markdown_inlines.proofs.ContentTokens.{whole-shows}
use Rattle.markdown_inlines.proofs.content.tokens_from.Goals as goal

pub returns-then-may_have_address : goal.returns-then-may_have_address
returns-then-may_have_address c =
    let definitions : List ℕ → Bool = has_form (map string_bytes c.args.labels.now.definitions.forms.now) in
    let footnotes : List ℕ → Bool = has_form (map string_bytes c.args.labels.now.footnotes.forms.now) in
    let level : Forest = level_read c.args.options.now definitions footnotes c.args.text.now c.args.start in
    let whole : IsWhole c.args.options.now definitions footnotes c.args.text.now c.args.start =
    level-whole c.args.options.now definitions footnotes c.args.text.now c.args.start c.requires in
    let plain : c.in_ok-tokens.tokens.items ≡ tokens (merged level) =
    IfOk-at_ok (λ made. made.items ≡ tokens (merged level)) c.in_ok-tokens.was
    (c.tokens_of.ensures (merged level) whole.readable whole.again whole.sized
    (whole-shows c.args.options.now definitions footnotes c.args.text.now c.args.start c.in_ok-spans.spans.items
    c.deref.result.now c.deref.ensures.value c.in_ok-spans.ensures)) in
    let on : c.args.options.now.constructs.gfm_autolink_literal ≡ true =
    (and_parts c.args.options.now.constructs.gfm_autolink_literal (has_at_sign c.after.result.now)
    (sym c.may_have_address.ensures ∙ c.if-may_have_address.true)).0 in
    IfOk-weaker c.with_addresses.result _ _
    (λ made is.
    searched-tokens c.args.options.now definitions footnotes c.args.text.now c.args.start on made.items
    (is (merged level) whole.names whole.readable whole.again whole.sized plain))
    c.with_addresses.ensures

pub returns : goal.returns
returns c =
    let definitions : List ℕ → Bool = has_form (map string_bytes c.args.labels.now.definitions.forms.now) in
    let footnotes : List ℕ → Bool = has_form (map string_bytes c.args.labels.now.footnotes.forms.now) in
    let level : Forest = level_read c.args.options.now definitions footnotes c.args.text.now c.args.start in
    let whole : IsWhole c.args.options.now definitions footnotes c.args.text.now c.args.start =
    level-whole c.args.options.now definitions footnotes c.args.text.now c.args.start c.requires in
    let off : (c.args.options.now.constructs.gfm_autolink_literal && has_at_sign (drop c.args.start c.args.text.now)) ≡
    false =
    ap (λ (l : List ℕ). c.args.options.now.constructs.gfm_autolink_literal && has_at_sign l) (sym c.after.ensures)
    ∙ sym c.may_have_address.ensures ∙ c.if-may_have_address.false in
    plain-tokens c.args.options.now definitions footnotes c.args.text.now c.args.start off c.in_ok-tokens.tokens.items
    (IfOk-at_ok (λ made. made.items ≡ tokens (merged level)) c.in_ok-tokens.was
    (c.tokens_of.ensures (merged level) whole.readable whole.again whole.sized
    (whole-shows c.args.options.now definitions footnotes c.args.text.now c.args.start c.in_ok-spans.spans.items
    c.deref.result.now c.deref.ensures.value c.in_ok-spans.ensures)))
