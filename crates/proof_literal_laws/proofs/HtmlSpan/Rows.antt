-- Lines of HTML as rows: their events, and what is held after them.
use Rattle.std.proofs.Common.{◌≡◌, ℕ, zero, suc, ◌+◌, Bool, true, false, cond, ◌&&◌, List, [], ◌∷◌, ◌++◌, length, drop}
use Rattle.std.proofs.Common.{refl, sym, ◌∙◌, ap, arith}
use Rattle.std.specs.Prelude.{◌==◌, Option, Some, None, not}
use Rattle.std.specs.Option.{is_some}
use Rattle.std.proofs.lemmas.Bool.Decides.{nat_tests}
use Rattle.md_engine.specs.declared.configuration.ParseOptions.{ParseOptions}
use Rattle.md_engine.specs.declared.event.Event.{Event}
use Rattle.md_engine.specs.declared.event.Name.TheVariants as n
use Rattle.md_engine.specs.declared.event.Point.{Point}
use Rattle.md_engine.specs.declared.tokenizer.held_leaf.HeldLeaf.{HeldLeaf}
use Rattle.md_meaning.specs.Bytes.{is_end}
use Rattle.md_meaning.specs.Html.{HtmlKind, html_ends, html_kind}
use Rattle.md_meaning.specs.Html.{Basic, Cdata, Comment, Complete, Declaration, Instruction, Raw}
use Rattle.md_meaning.specs.Leaves.{html_at, html_by}
use Rattle.md_meaning.specs.Rest.{Rest, cut_tab, has_small_indent, trim_start}
use Rattle.md_leaves.specs.Further.{further_link}
use Rattle.md_outline.specs.LinesAllowed.{Site}
use Rattle.md_events.specs.Events.Grammar.{Expression}
use Rattle.md_events.specs.Events.Nested.{around, enter_link, exit, pair}
use Rattle.md_events.specs.Events.Places.{past_text}
use Rattle.md_events.specs.Events.Spelled.{OpenLeaf}
use Rattle.md_events.specs.Events.Tiles.{plain_read}
use Rattle.proof_frame.specs.Context.{context_of}
use Rattle.proof_frame.specs.RestLine.{rest_line}
use Rattle.proof_literal_laws.specs.Leaf.HtmlFlow.{further_events, html_further, html_leaf, kind_begun, starts_html}
use Rattle.proof_frame.specs.LineColumns.{part_over}
use Rattle.proof_frame.specs.Row.{Row}
use Rattle.proof_frame.proofs.FillFacts.{fill-same, filled-read}
use Rattle.proof_literal_laws.proofs.HtmlSpan.Lines.{html-inside, html_data, html_parts}
use Rattle.proof_literal_laws.proofs.IndentRemoved.Facts.{line-stretch}
use Rattle.proof_literal_laws.proofs.IndentRemoved.Parts.{inside-others}
use Rattle.proof_frame.proofs.IndentRemoved.Places.{FurtherAt, further-at, further-rest}
use Rattle.proof_frame.proofs.IndentRemoved.Shown.{left-clear}
use Rattle.proof_frame.proofs.PrefixFacts.{is_bare}
use Rattle.proof_frame.proofs.LeafLines.Inside.{InsideFacts}
use Rattle.proof_frame.proofs.LeafLines.Rest.{FurtherLine, leads_back, row_done}
use Rattle.proof_frame.proofs.SpanLaws.{IsLineOf}

-- The line that begins it.

-- it begins a kind,
pub html-begun : (options : ParseOptions) (on : HeldLeaf) (r : Rest) → starts_html options on r ≡ true →
    (kind : HtmlKind) × (kind_begun r ≡ Some kind)
unfolding html_at
html-begun options on r h =
    go (options.constructs.html_flow && has_small_indent options r) (kind_begun r) refl h
  where
    go : (x : Bool) (k : Option HtmlKind) → kind_begun r ≡ k →
        is_some (cond x (html_by (context_of on) r k) None) ≡ true → (kind : HtmlKind) × (kind_begun r ≡ Some kind)
    go true None e h = absurd (cc)
    go true (Some kind) e h = (kind, e)
    go false k e h = absurd (cc)

-- so it has bytes,
some-bytes : (bytes : List ℕ) (kind : HtmlKind) → html_kind (trim_start bytes) ≡ Some kind → is_end bytes ≡ false
unfolding html_kind
some-bytes [] kind e = cc
some-bytes (b ∷ bs) kind e = refl

-- which are its text
text-parts : (r : Rest) (p q : Point) → is_end r.bytes ≡ false → html_parts r p q ≡ pair n.HtmlFlowData p q
text-parts r p q some = go r.spaces r.bytes some
  where
    go : (spaces : ℕ) (bytes : List ℕ) → is_end bytes ≡ false →
        part_over n.HtmlFlowData (cut_tab spaces ++ bytes) p q ≡ pair n.HtmlFlowData p q
    go zero [] h = cc
    go zero (b ∷ bs) h = refl
    go (suc k) bytes h = refl

pub first-parts : (options : ParseOptions) (bytes : List ℕ) (row : Row) →
    (is : IsLineOf options bytes html_leaf row) →
    html_parts is.rest row.first row.end ≡ pair n.HtmlFlowData row.first row.end
first-parts options bytes row is =
    let begun = html-begun options row.on is.rest is.starts in
    text-parts is.rest row.first row.end (some-bytes is.rest.bytes begun.0 begun.1)

-- What is on a line, where it ends and where it began.
pub html-bare : (bytes : List ℕ) (r : Rest) (p q : Point) → FurtherAt bytes r p q →
    is_bare (html_parts r p q) ≡ (p.index == q.index)
html-bare bytes r p q is = go (rest_line r) is.at.size
  where
    go : (line : List ℕ) → q.index ≡ p.index + length line →
        is_bare (part_over n.HtmlFlowData line p q) ≡ (p.index == q.index)
    go [] size = let same : (p.index == q.index) ≡ true = grind (arith, nat_tests) in sym same
    go (b ∷ bs) size = let apart : (p.index == q.index) ≡ false = grind (arith, nat_tests) in sym apart

-- something is on it
pub first-full : (options : ParseOptions) (bytes : List ℕ) (row : Row) → (is : IsLineOf options bytes html_leaf row) →
    not row.empty ≡ true
first-full options bytes row is =
    ap not
    (is.empty
    ∙ ap (λ (x : Bool). x && (row.first.column == 1))
    (sym (html-bare bytes is.rest row.first row.end (further-at options bytes html_leaf row is))
    ∙ ap is_bare (first-parts options bytes row is)))

-- its events
pub first-inside : (options : ParseOptions) (bytes : List ℕ) (row : Row) →
    (is : IsLineOf options bytes html_leaf row) →
    row.inside ≡ around n.HtmlFlow row.first row.end (html_parts is.rest row.first row.end)
first-inside options bytes row is =
    is.inside
    ∙ ap (λ (x : Point). around n.HtmlFlow row.first x (pair n.HtmlFlowData row.first x)) (sym is.at.end)
    ∙ ap (λ (es : List Event). around n.HtmlFlow row.first row.end es) (sym (first-parts options bytes row is))

-- which have no text parts, so they are read as they are
pub first-done : (options : ParseOptions) (bytes : List ℕ) (row : Row) → (is : IsLineOf options bytes html_leaf row) →
    row_done bytes row ≡ row.inside
first-done options bytes row is =
    ap (λ (es : List Event). cond (leads_back es) es (plain_read bytes es)) is.inside
    ∙ filled-read bytes line line
    (fill-same bytes line (refl, (refl, (refl, (refl, tt)))) (refl, (refl, (refl, (refl, tt)))))
    ∙ sym is.inside
  where
    end : Point
    end = past_text (rest_line is.rest) row.first

    line : List Event
    line =
        around n.HtmlFlow row.first (past_text (rest_line is.rest) row.first)
        (pair n.HtmlFlowData row.first (past_text (rest_line is.rest) row.first))

-- A further line.

line-is : (line : List ℕ) (p q : Point) → q ≡ past_text line p →
    further_events line p ≡
    enter_link n.HtmlFlow p further_link ∷ part_over n.HtmlFlowData line p q ++ exit n.HtmlFlow q ∷ []
line-is [] p q e =
    ap (λ (x : Point). enter_link n.HtmlFlow p further_link ∷ exit n.HtmlFlow x ∷ []) (sym e)
line-is (b ∷ bs) p q e =
    ap
    (λ (x : Point).
    enter_link n.HtmlFlow p further_link ∷ pair n.HtmlFlowData p x ++ exit n.HtmlFlow x ∷ []) (sym e)

pub further-inside : (options : ParseOptions) (bytes : List ℕ) (row : Row) →
    (is : IsLineOf options bytes html_further row) →
    row.inside ≡
    enter_link n.HtmlFlow row.first further_link ∷ html_parts is.rest row.first row.end
    ++ exit n.HtmlFlow row.end ∷ []
further-inside options bytes row is = is.inside ∙ line-is (rest_line is.rest) row.first row.end is.at.end

-- with what is known of what is on it
pub further-line : (options : ParseOptions) (bytes : List ℕ) (x left : Expression) (from leaf : OpenLeaf)
    (start site : Site) (row : Row) → (is : IsLineOf options bytes html_further row) →
    InsideFacts bytes row.first row.end x left from leaf start site (html_parts is.rest row.first row.end)
    (html_parts is.rest row.first row.end) → FurtherLine bytes n.HtmlFlow x left from leaf start site row
further-line options bytes x left from leaf start site row is facts = record {
  parts = parts;
  is = further-inside options bytes row is;
  whole = is.at.end_whole;
  clear =
      left-clear bytes (drop row.end.index bytes) is.rest row.first
      (further-rest bytes is.rest row.first row.end at);
  others = inside-others parts (html-inside is.rest row.first row.end);
  balanced = (line-stretch bytes n.HtmlFlowData 0 is.rest row.first row.end html_data at).nested.0;
  bare = html-bare bytes is.rest row.first row.end at;
  empty = is.empty;
  facts = facts;
}
  where
    parts : List Event
    parts = html_parts is.rest row.first row.end

    at : FurtherAt bytes is.rest row.first row.end
    at = further-at options bytes html_further row is

-- no line of no bytes holds an end
pub empty-stays : (kind : HtmlKind) → html_ends kind [] ≡ false
unfolding html_ends
empty-stays Raw = refl
empty-stays Comment = refl
empty-stays Instruction = refl
empty-stays Declaration = refl
empty-stays Cdata = refl
empty-stays Basic = refl
empty-stays Complete = refl
