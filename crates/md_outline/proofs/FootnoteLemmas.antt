-- A footnote definition that has begun: an outline shows the line of its label its text.
use Rattle.std.proofs.Common.{◌≡◌, ℕ, ◌+◌, true, List, [], ◌∷◌, ◌++◌, slice_range, refl, sym, ◌∙◌, ap, subst}
use Rattle.std.proofs.Common.{append_assoc}
use Rattle.std.specs.Prelude.{Option, Some, None}
use Rattle.md_engine.specs.declared.event.Point.{Point}
use Rattle.md_meaning.specs.declared.alert.AlertKind.{AlertKind}
use Rattle.md_meaning.specs.declared.outline.Word.TheVariants as word
use Rattle.md_meaning.specs.Outline.{Entry, entry, entry_with}
use Rattle.md_meaning.specs.Tree.{Blocks, End, Footnote}
use Rattle.md_events.specs.Events.Spelled.{OpenContainer, AsFootnoteLabel, FootnoteShape, Reading, Text, named}
use Rattle.md_events.specs.Events.Spelled.{on_shape, with_kind}
use Rattle.md_events.specs.Events.Spelled as spelled
use Rattle.md_outline.specs.FootnoteState.{label_recorded}
use Rattle.md_outline.specs.Outlined.{is_unparted}
use Rattle.md_outline.specs.OutlineSteps.{OutlineState, recorded_at}
use Rattle.md_outline.specs.declared.outline.TextSpan.{TextSpan}
use Rattle.md_outline.specs.declared.outline.role.Purpose.TheVariants as purpose
use Rattle.md_outline.proofs.ClosedTrees.{HaveWords, depth_of, shown, shown-then, words-then}
use Rattle.md_outline.proofs.LinedLines.{end-taken}
use Rattle.md_outline.proofs.OutlineAgrees.{Agrees, TextIs, text-lines, whole-piece}

-- it is innermost, and has neither a label nor a block
pub record AwaitsLabel (opened : List OpenContainer) (here : Blocks) : Type 0 where
  pub outer : List OpenContainer
  pub before : Blocks
  pub is : opened ≡ record { shape = FootnoteShape []; before = before } ∷ outer
  pub empty : here ≡ End
  pub words : HaveWords outer before

-- it begins
pub awaits-label : (label : List ℕ) (r : Reading) → label ≡ [] → HaveWords r.outer r.here →
    AwaitsLabel (record { shape = FootnoteShape label; before = r.here } ∷ r.outer) End
awaits-label label r fresh words = record {
  outer = r.outer;
  before = r.here;
  is = ap (λ l. record { shape = FootnoteShape l; before = r.here } ∷ r.outer) fresh;
  empty = refl;
  words = words;
}

-- a marker of a quote gives it no kind
pub awaits-given : (kind : Option AlertKind) (opened : List OpenContainer) (here : Blocks) → AwaitsLabel opened here →
    AwaitsLabel (on_shape (with_kind kind) opened) here
awaits-given kind opened here a = record {
  outer = a.outer;
  before = a.before;
  is = ap (on_shape (with_kind kind)) a.is ∙ same kind;
  empty = a.empty;
  words = a.words;
}
  where
    same : (kind : Option AlertKind) →
        on_shape (with_kind kind) (record { shape = FootnoteShape []; before = a.before } ∷ a.outer)
        ≡ record { shape = FootnoteShape []; before = a.before } ∷ a.outer
    same None = refl
    same (Some k) = refl

-- its label ends
label-agrees : (now : List ℕ) (s : OutlineState) (r : Reading) (a : AwaitsLabel r.outer r.here) →
    s.lines ≡ shown r.outer r.here → Agrees s r →
    Agrees (record s { text = None; lines = label_recorded s.depth now s.lines })
    (record r { text = None; outer = on_shape (named AsFootnoteLabel now) r.outer })
label-agrees now s r a same is =
    let recorded : OutlineState = record s { text = None; lines = label_recorded s.depth now s.lines } in
    let before : List Entry = shown a.outer a.before in
    let head : Entry = entry (depth_of a.outer) word.Footnote in
    let depth : s.depth ≡ depth_of a.outer + 1 = is.depth ∙ ap depth_of a.is in
    subst
    (λ (o : List OpenContainer).
    Agrees recorded (record r { text = None; outer = on_shape (named AsFootnoteLabel now) o }))
    (sym a.is)
    (subst
    (λ (h : Blocks).
    Agrees recorded
    (record r {
      text = None;
      here = h;
      outer = record { shape = FootnoteShape now; before = a.before } ∷ a.outer;
    }))
    (sym a.empty)
    (record {
      depth = depth;
      words = (tt, words-then a.outer a.before (Footnote now End) a.words);
      untold = is.untold;
      leaf = is.leaf;
      lined = is.lined;
      known = is.known;
      text =
          ap (label_recorded s.depth now)
          (same ∙ ap (λ o. shown o r.here) a.is
          ∙ ap (shown (record { shape = FootnoteShape []; before = a.before } ∷ a.outer)) a.empty
          ∙ shown-then a.outer a.before (Footnote [] End) a.words
          ∙ sym (append_assoc before (head ∷ []) (entry (depth_of a.outer + 1) word.Label ∷ [])))
          ∙ ap (λ es. es ++ entry_with s.depth word.Label now ∷ [])
          (end-taken (before ++ head ∷ []) (entry (depth_of a.outer + 1) word.Label))
          ∙ append_assoc before (head ∷ []) (entry_with s.depth word.Label now ∷ [])
          ∙ ap (λ d. before ++ head ∷ entry_with d word.Label now ∷ []) depth
          ∙ sym (shown-then a.outer a.before (Footnote now End) a.words);
    }))

pub label-ends : (bytes : List ℕ) (p : Point) (s : OutlineState) (r : Reading) (span : Option TextSpan)
    (text : Option Text) → AwaitsLabel r.outer r.here →
    TextIs (shown r.outer r.here) s.depth s.lines span text → is_unparted span ≡ true → Agrees s r →
    Agrees (recorded_at bytes purpose.FootnoteLabel p.index span s) (spelled.recorded_at bytes AsFootnoteLabel p text r)
label-ends bytes p s r None None a h k is = is
label-ends bytes p s r (Some span) (Some text) a h k is =
    let piece : List ℕ = slice_range bytes span.from p.index in
    subst
    (λ now.
    Agrees (record s { text = None; lines = label_recorded s.depth piece s.lines })
    (record r { text = None; outer = on_shape (named AsFootnoteLabel now) r.outer }))
    (sym (whole-piece bytes p (shown r.outer r.here) s.depth s.lines span text k h))
    (label-agrees piece s r a (text-lines (shown r.outer r.here) s.depth s.lines (Some span) (Some text) k h) is)
label-ends bytes p s r _ _ a h k is = absurd h
