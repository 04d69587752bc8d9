-- The exact list of a text without frontmatter: its mark, and its events from after the mark on.
use Rattle.std.proofs.Common.{◌≡◌, ℕ, Bool, true, false, cond, List, [], ◌++◌, drop, take, map, refl, ap, ◌∙◌}
use Rattle.std.proofs.Common.{append-nil}
use Rattle.md_engine.specs.declared.configuration.ParseOptions.{ParseOptions}
use Rattle.md_engine.specs.declared.event.Event.{Event}
use Rattle.md_engine.specs.declared.event.Name.TheVariants as n
use Rattle.md_meaning.specs.Lines.{full_lines_of}
use Rattle.md_meaning.specs.Preamble.{first_column, has_mark, without_mark}
use Rattle.md_meaning.specs.Texts.{first_byte}
use Rattle.md_events.specs.Exact.Blocks.{exact, front_line, front_row, front_size, mark_events, tail, text_lines}
use Rattle.md_events.specs.Exact.Leaves.{leaf}
use Rattle.md_events.specs.Exact.Places.{lines_from}
use Rattle.proof_exact.specs.Parts.{events_from, lines_events}

after-mark : (text : List ℕ) → without_mark text ≡ drop (first_column text) text
after-mark text = go (has_mark text)
  where
    go : (x : Bool) → cond x (drop 3 text) text ≡ drop (cond x 3 0) text
    go true = refl
    go false = refl

pub whole-parts : (options : ParseOptions) (text : List ℕ) → front_size options text ≡ 0 →
    exact options text
    ≡ mark_events text ++ events_from options text 1 (first_column text) (first_column text)
whole-parts options text none =
    ap of none
    ∙ ap (λ (es : List Event). es ++ lines_events options (text_lines text))
    (append-nil (mark_events text ++ []) ∙ append-nil (mark_events text))
    ∙ ap (λ (bytes : List ℕ). mark_events text
    ++ lines_events options (lines_from 1 (first_column text) (first_column text) (full_lines_of bytes)))
    (after-mark text)
  where
    of : ℕ → List Event
    of size =
        let front = map front_row (take size (text_lines text)) in
        mark_events text
        ++ leaf n.Frontmatter (front_line (first_byte (without_mark text))) front ++ tail front
        ++ lines_events options (drop size (text_lines text))
