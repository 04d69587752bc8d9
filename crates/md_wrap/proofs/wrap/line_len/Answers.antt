use Rattle.std.proofs.Common.{◌≡◌, ◌≢◌, ℕ, ◌+◌, List, [], drop, length, sym, ◌∙◌, ap, subst}
use Rattle.std.specs.Str.{IsCharBoundary}
use Rattle.md_wrap.specs.Endings.{ending_len}
use Rattle.md_wrap.proofs.LineLemmas.{IsFirstLine, line-boundary, line-cut, line-whole, range-from}
use Rattle.md_wrap.proofs.wrap.line_len.Goals as goal

pub returns-in-Some-clause-line : goal.returns-in-Some-clause-line
returns-in-Some-clause-line c = λ some.
    let text : List ℕ = c.as_bytes-bytes.result.now in
    let at : ℕ = c.in-Some.at in
    let ending : c.ending_len.result ≡ ending_len (drop at text) =
    c.ending_len.ensures.value ∙ ap ending_len (range-from text at) in
    let cut : IsFirstLine text (at + ending_len (drop at text)) =
    line-cut text at c.in-Some.ensures.0.high c.in-Some.ensures.0.before c.in-Some.ensures.1 in
    subst (λ (t : List ℕ). IsFirstLine t (at + c.ending_len.result)) c.as_bytes-bytes.ensures.value
    (subst (λ (k : ℕ). IsFirstLine text (at + k)) (sym ending) cut)

pub returns-in-Some-clause-cut : goal.returns-in-Some-clause-cut
returns-in-Some-clause-cut c =
    let text : List ℕ = c.as_bytes-bytes.result.now in
    let at : ℕ = c.in-Some.at in
    let ending : c.ending_len.result ≡ ending_len (drop at text) =
    c.ending_len.ensures.value ∙ ap ending_len (range-from text at) in
    let cut : IsCharBoundary text (at + ending_len (drop at text)) =
    line-boundary text at c.as_bytes-bytes.ensures.utf8 c.in-Some.ensures.0.high c.in-Some.ensures.1 in
    subst (λ (t : List ℕ). IsCharBoundary t (at + c.ending_len.result)) c.as_bytes-bytes.ensures.value
    (subst (λ (k : ℕ). IsCharBoundary text (at + k)) (sym ending) cut)

pub returns-in-None-clause-line : goal.returns-in-None-clause-line
returns-in-None-clause-line c = λ some.
    subst
    (λ (t : List ℕ). t ≢ [] → IsFirstLine t (length c.as_bytes-bytes.result.now)) c.as_bytes-bytes.ensures.value
    (line-whole c.as_bytes-bytes.result.now c.in-None.ensures) some
