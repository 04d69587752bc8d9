-- What the frame knows of a leaf of several lines that is open between two lines: a line of it is tried first or, as a
-- row of a table, last.
use Rattle.std.proofs.Common.{◌≡◌, ℕ, Bool, true, false, cond, ◌&&◌, ◌||◌, List, [], ◌∷◌, refl, ap, sym, ◌∙◌}
use Rattle.std.specs.Prelude.{not, Option, Some, None}
use Rattle.std.specs.Option.{is_some}
use Rattle.md_engine.specs.declared.configuration.ParseOptions.{ParseOptions}
use Rattle.md_engine.specs.declared.tokenizer.held_leaf.HeldLeaf.{HeldLeaf}
use Rattle.md_engine.specs.declared.tokenizer.held_leaf.HeldLeaf.TheVariants as held_leaf
use Rattle.md_meaning.specs.Leaves.{LeafResult, NoText, is_continued, starts}
use Rattle.md_meaning.specs.Rest.{Rest, is_blank}
use Rattle.md_meaning.specs.State.{Leaf, NoLeaf, OpenCode, OpenFence, OpenHtml, OpenParagraph, OpenTable, then_leaf}
use Rattle.md_meaning.specs.Step.{is_concrete, with_lazy}
use Rattle.md_meaning.specs.Tree.{Blocks, Table}
use Rattle.md_leaves.specs.HeadingSetext.{is_text}
use Rattle.md_outline.specs.HeadingDepths.{are_shallow}
use Rattle.proof_frame.specs.HeldLeaf.{has_lines, kind_of_leaf, left_by, may_continue, met_by, takes_lazy}
use Rattle.proof_leaf_laws.specs.Leaf.GfmTable.{table_leaf}
use Rattle.proof_frame.specs.LeafName.{GfmTable, LeafName, first_of}
use Rattle.proof_frame.specs.Leaf.Paragraph.{open_lines}
use Rattle.md_registry.specs.OpenSpan.{IsBuiltLeaf, IsOpenSpan}
use Rattle.md_registry.specs.Registry.{further_of, asked_first, leaf, bars_containers}
use Rattle.proof_frame.specs.Row.{BlankRow, LeafRow, RowKind, TextRow}
use Rattle.proof_rows.specs.Rows.{inside_or, is_further, kind_of, line_kind}
use Rattle.proof_leaf_laws.proofs.GfmTable.Found.{table-proceeds}
use Rattle.proof_rows.proofs.KindLemmas.{kind-plain, kind-starts}
use Rattle.md_registry.proofs.OpenSpan.{BecomesShallow, OpenSpan}
use Rattle.md_registry.proofs.Dispatch.{IsAgainst, result_of, leaf_at, or_table, other_at, other_trials, table-last}
use Rattle.md_registry.proofs.SpanLeaves.{code-open, fence-open, html-open}
use Rattle.md_registry.proofs.Registry.{bars_containers-none, insider-open, laws, text-laws}
use Rattle.proof_rows.proofs.RegistryFound.{untabled-at, untext-found}
use Rattle.proof_frame.proofs.ShallowBlocks.{shallow-then}
use Rattle.proof_rows.proofs.TableStarts.{asked-untabled}

-- A line that meets no leaf on which it may go, and no text, continues none.
pub none-further : (options : ParseOptions) (on : HeldLeaf) (r : Rest) → may_continue on ≡ false →
    is_further (line_kind options on r) on ≡ false
none-further options on r none = go (line_kind options on r) refl
  where
    not : (l : LeafName) (x : Bool) → (leaf l).further on ≡ x → (leaf l).starts options on r ≡ true → x ≡ false
    not l true e starts = let may = (laws l).meets options on r starts e in cc
    not l false e starts = refl

    go : (kind : RowKind) → line_kind options on r ≡ kind → is_further kind on ≡ false
    go BlankRow e = refl
    go (LeafRow l) e = not l ((leaf l).further on) refl (kind-starts options on r l e)
    go TextRow e = refl

-- Where what is open is no text, a line whose containers do not all continue meets no leaf,
pub met-none : (still : HeldLeaf) → takes_lazy still ≡ false → met_by false still ≡ held_leaf.None
met-none held_leaf.None unlazy = refl
met-none _ unlazy = cc

-- and one that meets it, or no leaf, is against no text.
pub context-none : (on : HeldLeaf) → takes_lazy on ≡ false → IsAgainst NoText on
context-none held_leaf.None unlazy = refl
context-none _ unlazy = cc

-- A leaf of several lines takes no lazy line.
pub span-lazy : (options : ParseOptions) (r : Rest) (open_leaf : Leaf) → has_lines (kind_of_leaf open_leaf) ≡ true →
    with_lazy options open_leaf r ≡ None
span-lazy options r (OpenParagraph lines) e = cc
span-lazy options r _ e = refl

-- the kind of a line that continues no leaf of several lines
abbrev pub other_kind : ParseOptions → HeldLeaf → Rest → RowKind
other_kind options on r = cond (is_blank r.bytes) BlankRow (kind_of (other_at options on r))

-- it continues none indeed
abbrev AllApart : List LeafName → Type 0
AllApart [] = Unit {0}
AllApart (l ∷ ls) = ((on : HeldLeaf) → has_lines on ≡ true → (leaf l).further on ≡ false) × AllApart ls

others-apart : AllApart other_trials
others-apart = (
  λ on h. refl,
  (λ on h. refl, (λ on h. refl, (λ on h. refl, (setext-apart, (λ on h. refl, tt))))),
)
  where
    setext-apart : (on : HeldLeaf) → has_lines on ≡ true → is_text on ≡ false
    setext-apart (held_leaf.Text at) h = cc
    setext-apart _ h = refl

first-apart : (on : HeldLeaf) (test : LeafName → Bool) (ls : List LeafName) → has_lines on ≡ true → AllApart ls →
    is_further (kind_of (first_of test ls)) on ≡ false
first-apart on test [] lines all = refl
first-apart on test (l ∷ ls) lines all = go (test l) (first-apart on test ls lines all.1)
  where
    go : (x : Bool) → is_further (kind_of (first_of test ls)) on ≡ false →
        is_further (kind_of (cond x (Some l) (first_of test ls))) on ≡ false
    go true below = all.0 on lines
    go false below = below

pub other-begins : (options : ParseOptions) (on : HeldLeaf) (r : Rest) → has_lines on ≡ true →
    is_further (other_kind options on r) on ≡ false
other-begins options on r lines = go (is_blank r.bytes)
  where
    go : (x : Bool) → is_further (cond x BlankRow (kind_of (other_at options on r))) on ≡ false
    go true = refl
    go false = first-apart on (λ l. (leaf l).starts options on r) other_trials lines others-apart

pub record FurtherSpan (open_leaf : Leaf) : Type 0 where
  pub name : LeafName
  pub ends : (leaf name).ends ≡ false
  pub same : further_of name ≡ name
  pub further : (leaf name).further (kind_of_leaf open_leaf) ≡ true
  pub lines : has_lines (kind_of_leaf open_leaf) ≡ true
  -- containers open in it where the line definition lets them
  pub concrete : is_concrete open_leaf ≡ bars_containers (kind_of_leaf open_leaf)
  -- which lines continue it, and what it becomes with them
  pub takes : ParseOptions → Rest → Bool
  pub kind : (options : ParseOptions) (r : Rest) →
      line_kind options (kind_of_leaf open_leaf) r ≡
      cond (takes options r) (LeafRow name) (other_kind options (kind_of_leaf open_leaf) r)
  pub proceeds : (options : ParseOptions) (r : Rest) →
      is_continued options open_leaf r ≡ cond (takes options r) (Some ((leaf name).becomes options open_leaf r)) None
  -- that may be open, and an outline can show it
  pub built : (options : ParseOptions) (r : Rest) → (leaf name).starts options (kind_of_leaf open_leaf) r ≡ true →
      IsBuiltLeaf (left_by ((leaf name).becomes options open_leaf r))
  pub shallow : (options : ParseOptions) (r : Rest) → BecomesShallow ((leaf name).becomes options open_leaf r)
  -- so can it where it is closed
  pub closed : (options : ParseOptions) (bs : Blocks) → are_shallow bs ≡ true →
      are_shallow (then_leaf options bs open_leaf) ≡ true

-- One that is asked first: its line is tried before all others.
asked-further : (open_leaf : Leaf) → OpenSpan open_leaf → FurtherSpan open_leaf
asked-further open_leaf is = record {
  name = is.name;
  ends = insider-open on is.name is.asked;
  same = is.same;
  further = is.further;
  lines = is.lines;
  concrete = is.concrete;
  takes = λ options r. (leaf is.name).starts options on r;
  kind = λ options r.
      ap
      (λ (o : Option LeafName).
      inside_or (λ l. (leaf l).starts options on r) o
      (cond (is_blank r.bytes) BlankRow (kind_of (leaf_at options on r))))
      is.asked
      ∙ ap
      (λ (o : Option LeafName).
      cond ((leaf is.name).starts options on r) (LeafRow is.name) (cond (is_blank r.bytes) BlankRow (kind_of o)))
      (untabled-at options on r (asked-untabled on is.name is.asked));
  proceeds = is.proceeds;
  built = is.built;
  shallow = is.shallow;
  closed = is.closed;
}
  where
    on : HeldLeaf
    on = kind_of_leaf open_leaf

-- A table continues up to a blank line and to one that starts another leaf.
table-further : (delimiter : List ℕ) (rows : List (List (List ℕ))) → FurtherSpan (OpenTable delimiter rows)
unfolding asked_first bars_containers IsOpenSpan
table-further delimiter rows = record {
  name = GfmTable;
  ends = refl;
  same = refl;
  further = refl;
  lines = refl;
  concrete = refl;
  takes = takes;
  kind = λ options r.
      kind-plain options held_leaf.Table r refl
      ∙ ap (λ (o : Option LeafName). cond (is_blank r.bytes) BlankRow (kind_of o))
      (table-last options held_leaf.Table r)
      ∙ kind (is_blank r.bytes) (other_at options held_leaf.Table r);
  proceeds = λ options r. table-proceeds options delimiter rows r ∙ proceeds options r (is_blank r.bytes) refl;
  built = λ options r starts. tt;
  shallow = λ options r bs h. h;
  closed = λ options bs h. shallow-then bs (Table delimiter rows) h refl;
}
  where
    takes : ParseOptions → Rest → Bool
    takes options r = not (is_blank r.bytes) && not (is_some (other_at options held_leaf.Table r))

    kind : (x : Bool) (o : Option LeafName) →
        cond x BlankRow (kind_of (or_table true o)) ≡
        cond (not x && not (is_some o)) (LeafRow GfmTable) (cond x BlankRow (kind_of o))
    kind true o = refl
    kind false None = refl
    kind false (Some l) = refl

    become : ParseOptions → Rest → LeafResult
    become options r = table_leaf.becomes options (OpenTable delimiter rows) r

    by : (options : ParseOptions) (r : Rest) (o : Option LeafName) →
        cond (is_some (result_of options r o)) None (Some (become options r)) ≡
        cond (not (is_some o)) (Some (become options r)) None
    by options r None = refl
    by options r (Some l) = refl

    proceeds : (options : ParseOptions) (r : Rest) (x : Bool) → is_blank r.bytes ≡ x →
        cond (x || is_some (starts options NoText r)) None (Some (become options r)) ≡
        cond (not x && not (is_some (other_at options held_leaf.Table r))) (Some (become options r)) None
    proceeds options r true e = refl
    proceeds options r false e =
        ap (λ (o : Option LeafResult). cond (is_some o) None (Some (become options r)))
        (untext-found options held_leaf.Table NoText r refl refl e)
        ∙ by options r (other_at options held_leaf.Table r)

-- So it is with each of those that may be open.
pub further-span : (open_leaf : Leaf) → IsOpenSpan open_leaf → FurtherSpan open_leaf
unfolding IsOpenSpan
further-span NoLeaf is = absurd is
further-span (OpenParagraph lines) is = absurd is
further-span (OpenCode lines) is = asked-further (OpenCode lines) (code-open lines)
further-span (OpenFence o lines) is = asked-further (OpenFence o lines) (fence-open o lines is)
further-span (OpenHtml kind lines) is = asked-further (OpenHtml kind lines) (html-open kind lines)
further-span (OpenTable delimiter rows) is = table-further delimiter rows

-- Containers open in it, or in what else may be open, where the line definition lets them.
pub built-concrete : (open_leaf : Leaf) → IsBuiltLeaf open_leaf →
    is_concrete open_leaf ≡ bars_containers (kind_of_leaf open_leaf)
built-concrete open_leaf plain =
    text-laws.cases IsOpenSpan (λ (l : Leaf). is_concrete l ≡ bars_containers (kind_of_leaf l))
    (sym (bars_containers-none held_leaf.None refl))
    (λ k ks. sym (bars_containers-none (held_leaf.Text (open_lines (k ∷ ks))) refl))
    (λ l is. (further-span l is).concrete) open_leaf plain
