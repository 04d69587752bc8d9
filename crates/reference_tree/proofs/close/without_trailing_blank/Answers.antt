use Rattle.std.proofs.Common.{◌≡◌, ◌-◌, ◌∙◌, sym, ap, take, length}
use Rattle.std.specs.List.{suffix_len}
use Rattle.md_meaning.specs.Rest.{is_blank}
use Rattle.reference_tree.specs.declared.tree.Line.{Line}
use Rattle.reference_tree.specs.Trees.{line_meaning, line_meanings}
use Rattle.reference_tree.proofs.ParagraphLemmas.{without_suffix-map}
use Rattle.reference_tree.proofs.close.without_trailing_blank.Goals as goal

pub returns : goal.returns
returns c =
    let count : c.blank_len-count.result ≡ suffix_len (λ (l : Line). is_blank l.text.now) c.args.lines.items =
    c.blank_len-count.ensures.value ∙ ap (suffix_len (λ (l : Line). is_blank l.text.now)) c.deref.ensures.value in
    ap line_meanings
    (c.truncate.ensures.items
    ∙ ap (λ n. take (n - c.blank_len-count.result) c.args.lines.items)
    (c.len.ensures ∙ sym c.deref.ensures.len ∙ ap length c.deref.ensures.value)
    ∙ ap (λ n. take (length c.args.lines.items - n) c.args.lines.items) count)
    ∙ without_suffix-map (λ l. is_blank l.text) line_meaning c.args.lines.items
