-- The trials of HTML, of its first line and of a further one, take a line to its end, or refuse it.
use Rattle.std.proofs.Common.{◌≡◌, ℕ, Bool, true, false, cond, ◌&&◌, List, [], ◌∷◌, length, refl, sym, ◌∙◌, ap, arith}
use Rattle.std.specs.Prelude.{Option, Some, None}
use Rattle.std.specs.Option.{is_some}
use Rattle.std.proofs.lemmas.Bool.{and_parts}
use Rattle.std.proofs.lemmas.Bool.Decides.{nat_tests}
use Rattle.md_engine.specs.declared.configuration.ParseOptions.{ParseOptions}
use Rattle.md_engine.specs.declared.tokenizer.held_leaf.HeldLeaf.{HeldLeaf}
use Rattle.md_engine.specs.Meaning.{Accepts, Cell, Fails, Here, Outcome, Refuses}
use Rattle.md_meaning.specs.Html.{HtmlKind, html_kind}
use Rattle.md_leaves.proofs.LeafStart.{rule-refused}
use Rattle.md_literal.specs.Html.{is_html, may_begin}
use Rattle.md_literal.proofs.HtmlWhole as whole
use Rattle.md_literal.proofs.HtmlWhole.{LeavesEnding}
use Rattle.md_literal.specs.HtmlLine.{html_continues, kind_at}
use Rattle.md_literal.specs.HtmlRule.{allowed}
use Rattle.md_events.specs.Ahead.{begins_white, line_bytes, white_rest}
use Rattle.md_events.specs.Look.{seen_after}
use Rattle.md_events.specs.Spaces.{IsRest, small_indent}
use Rattle.proof_literal_laws.specs.Leaf.HtmlFlow.{html_further, html_leaf}
use Rattle.proof_frame.proofs.FromEnding.{from_ending-again}
use Rattle.proof_frame.proofs.LeafLaws.{Shrinks, left_open, whole_line}
use Rattle.md_containers.proofs.QuoteCells.{ending-shorter}

-- A line where another byte than `<` is first after whitespace begins none.

kind-some : (x : Bool) (o : Option HtmlKind) → is_some (cond x o None) ≡ (x && is_some o)
kind-some true o = refl
kind-some false o = refl

no-kind : (on : HeldLeaf) → is_some (allowed on (html_kind [])) ≡ false
unfolding html_kind
no-kind on = refl

other-kind : (on : HeldLeaf) (b : ℕ) (bytes : List ℕ) → may_begin b ≡ false →
    is_some (allowed on (html_kind (b ∷ bytes))) ≡ false
unfolding html_kind
other-kind on b bytes e = rw e refl

pub html-looked : (options : ParseOptions) (on : HeldLeaf) (cells : List Cell) (b : ℕ) → seen_after cells ≡ Some b →
    may_begin b ≡ false → is_some (kind_at options on cells) ≡ false
html-looked options on cells b seen e =
    let room = small_indent options in
    kind-some options.constructs.html_flow (allowed on (html_kind (line_bytes (white_rest room cells))))
    ∙ rule-refused may_begin options.constructs.html_flow (λ line. is_some (allowed on (html_kind line))) room cells b
    (no-kind on) (other-kind on) (λ c white. grind (arith, nat_tests)) seen e

-- Any byte may be first on a further line.
pub further-looked : (options : ParseOptions) (on : HeldLeaf) (cells : List Cell) (b : ℕ) →
    seen_after cells ≡ Some b → html_further.may_begin on (begins_white cells) b ≡ false →
    html_further.takes options on cells ≡ false
further-looked options on cells b seen e = cc

-- A first line is taken to its end,
pub html-took : (options : ParseOptions) (cells : List Cell) (h : Here) → IsRest h.scratch →
    html_leaf.takes options h.flags.leaf cells ≡ true →
    html_leaf.trial options cells h ≡
    whole_line (html_leaf.adds options h.flags.leaf cells h.point)
    (left_open html_leaf.ends (html_leaf.keeps options h.flags.leaf cells h.point) h.flags.leaf) false cells h
html-took options cells h is e = go (kind_at options h.flags.leaf cells) refl e
  where
    go : (o : Option HtmlKind) → kind_at options h.flags.leaf cells ≡ o → is_some o ≡ true →
        html_leaf.trial options cells h ≡
        whole_line (html_leaf.adds options h.flags.leaf cells h.point)
        (html_leaf.keeps options h.flags.leaf cells h.point)
        false cells h
    go None k e = cc
    go (Some kind) k e = whole.html-took options kind cells h is k

-- and any other is refused.
pub html-refused : (options : ParseOptions) (cells : List Cell) (h : Here) → IsRest h.scratch →
    html_leaf.takes options h.flags.leaf cells ≡ false → html_leaf.trial options cells h ≡ Refuses h.scratch h.flags
html-refused options cells h is e =
    whole.html-refused options cells h is (none-is (kind_at options h.flags.leaf cells) e)
  where
    none-is : (o : Option HtmlKind) → is_some o ≡ false → o ≡ None
    none-is None e = refl
    none-is (Some kind) e = cc

-- So it is with a further line, where HTML is open.
pub further-took : (options : ParseOptions) (cells : List Cell) (h : Here) → IsRest h.scratch →
    html_further.takes options h.flags.leaf cells ≡ true →
    html_further.trial options cells h ≡
    whole_line (html_further.adds options h.flags.leaf cells h.point)
    (left_open html_further.ends (html_further.keeps options h.flags.leaf cells h.point) h.flags.leaf) false cells h
further-took options cells h is e =
    let both = and_parts (is_html h.flags.leaf) (html_continues h.flags.leaf cells) e in
    whole.further-took cells h both.0 is both.1

pub further-refused : (options : ParseOptions) (cells : List Cell) (h : Here) → is_html h.flags.leaf ≡ true →
    IsRest h.scratch → html_further.takes options h.flags.leaf cells ≡ false →
    html_further.trial options cells h ≡ Refuses h.scratch h.flags
further-refused options cells h on is e =
    whole.further-refused cells h is (ap (λ (x : Bool). x && html_continues h.flags.leaf cells) (sym on) ∙ e)

-- What is left of a line is no longer than it was, and begins with its ending.

leaves-shrinks : (cells : List Cell) (o : Outcome) → LeavesEnding cells o → Shrinks (length cells) o
leaves-shrinks cells (Accepts h rest) e = rw e (ending-shorter cells, from_ending-again cells)
leaves-shrinks cells (Refuses s g) e = tt
leaves-shrinks cells Fails e = absurd e

pub html-shrinks : (options : ParseOptions) (cells : List Cell) (h : Here) →
    Shrinks (length cells) (html_leaf.trial options cells h)
html-shrinks options cells h =
    leaves-shrinks cells (html_leaf.trial options cells h) (whole.html-leaves options cells h)

pub further-shrinks : (options : ParseOptions) (cells : List Cell) (h : Here) →
    Shrinks (length cells) (html_further.trial options cells h)
further-shrinks options cells h =
    leaves-shrinks cells (html_further.trial options cells h) (whole.further-leaves cells h)
