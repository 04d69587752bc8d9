use Rattle.std.proofs.Common.{◌≡◌, ℕ, List, ◌+◌, ◌-◌, drop, ap, sym, ◌∙◌, arith}
use Rattle.std.proofs.lemmas.List.{drop-drop}
use Rattle.md_meaning.specs.Ascii.{dot}
use Rattle.md_meaning.specs.Lines.{begins_with}
use Rattle.md_inlines.specs.Literal.{domain_len}
use Rattle.markdown_inlines.proofs.ends.domainless_from.Goals as goal

-- so many bytes after the dot
there : (whole rest tail : List ℕ) (at more k : ℕ) → rest ≡ drop at whole → tail ≡ drop 3 rest → k ≡ at + 3 + more →
    drop k whole ≡ drop more tail
there whole rest tail at more k r t is =
    ap (λ (i : ℕ). drop i whole) is
    ∙ sym (drop-drop more (at + 3) whole)
    ∙ ap (drop more) (sym (drop-drop 3 at whole) ∙ ap (drop 3) (sym r) ∙ sym t)

pub returns : goal.returns
returns c k from to dots =
    let whole : List ℕ = c.args.whole.now in
    let tail : List ℕ = c.after.result.now in
    let one : k + 3 ≡ c.args.at + 3 + (k - c.args.at) = omega (arith, from) in
    let two : k + 4 ≡ c.args.at + 3 + (k - c.args.at + 1) = omega (arith, from) in
    ap domain_len
    (there whole c.args.rest.now tail c.args.at (k - c.args.at + 1) (k + 4) c.requires c.after.ensures two)
    ∙ c.no_domain_len.ensures.is (k - c.args.at) (omega (arith, from, to, c.in_ok-to.ensures))
    (ap (begins_with dot)
    (sym (there whole c.args.rest.now tail c.args.at (k - c.args.at) (k + 3) c.requires c.after.ensures one))
    ∙ dots)
