-- Many bytes of text are read as one after the other.
use Rattle.std.proofs.Common.{◌≡◌, ℕ, zero, suc, ◌+◌, ◌<◌, Bool, true, List, [], ◌∷◌, length, take, drop}
use Rattle.std.proofs.Common.{refl, ap, sym, ◌∙◌, subst, arith}
use Rattle.std.specs.Prelude.{◌==◌, not}
use Rattle.std.proofs.lemmas.List.{drop-drop}
use Rattle.markdown_inlines.specs.declared.brackets.Reading.{Reading}
use Rattle.markdown_inlines.specs.declared.brackets.Source.{Source}
use Rattle.markdown_inlines.specs.Plain.{begins_text}
use Rattle.markdown_inlines.specs.Reading.{front_at}
use Rattle.markdown_inlines.specs.Reads.{Reads}
use Rattle.markdown_inlines.proofs.PlainLemmas.{text-front}
use Rattle.markdown_inlines.proofs.StepLemmas.{text-goes}

-- a reader at another place
abbrev pub with_at : Reading → ℕ → Reading
with_at r at =
    record { spans = r.spans; runs = r.runs; brackets = r.brackets; links = r.links; at = at }

-- so many bytes of text
pub texts-pass : (source : Source) (old : Reading) (len : ℕ) → Reads source old →
    ((k : ℕ) → k < len →
    begins_text source.options.now.constructs.gfm_autolink_literal (drop k (drop old.at source.text.now)) ≡ true) →
    Reads source (with_at old (old.at + len))
texts-pass source old zero h all =
    let same : old.at ≡ old.at + 0 = omega arith in
    subst (λ (n : ℕ). Reads source (with_at old n)) same h
texts-pass source old (suc len) h all =
    go (drop (old.at + len) source.text.now) refl
    (ap (begins_text literals) (sym (drop-drop len old.at source.text.now)) ∙ all len (omega arith))
    (texts-pass source old len h (λ k few. all k (omega (arith, few))))
  where
    literals : Bool
    literals = source.options.now.constructs.gfm_autolink_literal

    mid : Reading
    mid = with_at old (old.at + len)

    go : (rest : List ℕ) → drop (old.at + len) source.text.now ≡ rest → begins_text literals rest ≡ true →
        Reads source mid → Reads source (with_at old (old.at + suc len))
    go [] is passes reads = cc
    go (b ∷ following) is passes reads =
        let goes = text-goes source mid (with_at old (old.at + suc len)) reads (length old.brackets.items == 0)
        (take (old.at + len) source.text.now) (drop (old.at + len) source.text.now) b following refl refl refl is
        (sym
        (ap
        (front_at source.options.now (not (length old.brackets.items == 0)) (take (old.at + len) source.text.now) b)
        is
        ∙ text-front source.options.now (not (length old.brackets.items == 0)) (take (old.at + len) source.text.now)
        b following passes))
        (record { spans = refl; runs = refl; brackets = refl; links = refl; at = omega arith }) in
        goes.reads
