-- A line of HTML is taken to its end, or refused.
use Rattle.std.proofs.Common.{◌≡◌, ℕ, ◌-◌, Bool, true, false, cond, ◌&&◌, List, [], ◌∷◌, ◌++◌, map}
use Rattle.std.proofs.Common.{Option, Some, None, refl, sym, ◌∙◌, ap, append_assoc, arith}
use Rattle.std.proofs.lemmas.Bool.{and_parts, cond_both, not-false, not-true}
use Rattle.md_engine.specs.declared.configuration.ParseOptions.{ParseOptions}
use Rattle.md_engine.specs.declared.event.Event.{Event}
use Rattle.md_engine.specs.declared.tokenizer.Scratch.{Scratch}
use Rattle.md_engine.specs.declared.tokenizer.held_leaf.HeldLeaf.{HeldLeaf}
use Rattle.md_engine.specs.declared.tokenizer.held_leaf.HeldLeaf.TheVariants as held_leaf
use Rattle.md_engine.specs.Meaning.{Accepts, Cell, Fails, Here, Outcome, Refuses}
use Rattle.md_meaning.specs.Bytes.{is_end}
use Rattle.md_meaning.specs.Html.{HtmlKind, Raw, Basic, Complete}
use Rattle.md_meaning.specs.Html.{html_ends, html_kind}
use Rattle.md_meaning.specs.Leaves.{ends_at_blank}
use Rattle.md_meaning.specs.Rest.{is_blank}
use Rattle.md_literal.specs.Html.{cleared, ends_in_front, is_html, stop_byte, stop_of}
use Rattle.md_literal.specs.HtmlLine.{after_indent, html_adds, html_adds_on, html_continues, html_keeps, html_keeps_on}
use Rattle.md_literal.specs.HtmlLine.{kind_at, left_of}
use Rattle.md_literal.specs.HtmlRule.{allowed, closes, ends_by, entering, further_at, further_begun, html_at, left}
use Rattle.md_literal.specs.HtmlRule.{line_at, line_begun, line_done, nonblank_at, opens, opens_by}
use Rattle.md_leaves.proofs.LeafSteps.{ended}
use Rattle.md_events.specs.Ahead.{from_ending, line_bytes, line_end, white_rest}
use Rattle.md_events.specs.Spaces.{IsRest, small_indent}
use Rattle.md_events.proofs.SpacesTermination.{rest-size}

-- a line that is taken to its end, by what it adds, and what is open after it
abbrev pub line_taken : List Event → HeldLeaf → List Cell → Here → Outcome
line_taken added leaf cells h =
    Accepts
    (record h {
      events = h.events ++ added;
      point = line_end cells h.point;
      flags = record h.flags { leaf = leaf };
    })
    (from_ending cells)

-- at rest, nothing is to be cleared
clear : (s : Scratch) → IsRest s → cleared s ≡ s
clear s is = ap cleared is ∙ sym is

-- The first line.

-- nothing of the indent was taken
full-room : (room size : ℕ) → size ≡ 0 → room - size ≡ room
full-room room size e = omega (arith, e)

-- by the kind that begins
abbrev begun_by : Option HtmlKind → List ℕ → List Cell → Here → Outcome
begun_by None line cells h = Refuses h.scratch h.flags
begun_by (Some kind) line cells h = line_taken (html_adds cells h.point) (left kind line) cells h

begun : (kind : Option HtmlKind) (line : List ℕ) (cells : List Cell) (h : Here) → IsRest h.scratch →
    opens_by kind line cells (line_begun h) ≡ begun_by kind line cells h
begun None line cells h is = ap (λ (s : Scratch). Refuses s h.flags) (clear h.scratch is)
begun (Some kind) line cells h is = rw (clear h.scratch is) (simp append_assoc)

first-line : (options : ParseOptions) (cells : List Cell) (h : Here) → IsRest h.scratch →
    html_at options cells h ≡ begun_by (kind_at options h.flags.leaf cells) (after_indent options cells) cells h
unfolding html_at opens
first-line options cells h is = go options.constructs.html_flow refl
  where
    line : List ℕ
    line = after_indent options cells

    go : (on : Bool) → options.constructs.html_flow ≡ on →
        html_at options cells h ≡ begun_by (kind_at options h.flags.leaf cells) (after_indent options cells) cells h
    go false e = rw e refl
    go true e =
        rw (e, full-room (small_indent options) h.scratch.size (rest-size h.scratch is))
        (begun (allowed h.flags.leaf (html_kind line)) line cells h is)

-- one that begins no kind is refused,
pub html-refused : (options : ParseOptions) (cells : List Cell) (h : Here) → IsRest h.scratch →
    kind_at options h.flags.leaf cells ≡ None → html_at options cells h ≡ Refuses h.scratch h.flags
html-refused options cells h is none =
    first-line options cells h is
    ∙ ap (λ (o : Option HtmlKind). begun_by o (after_indent options cells) cells h) none

-- and one that begins one is taken
pub html-took : (options : ParseOptions) (kind : HtmlKind) (cells : List Cell) (h : Here) → IsRest h.scratch →
    kind_at options h.flags.leaf cells ≡ Some kind →
    html_at options cells h ≡
    line_taken (html_adds cells h.point) (html_keeps options h.flags.leaf cells) cells h
html-took options kind cells h is some =
    first-line options cells h is ∙ rw some refl

-- The ends of the kinds.

-- an end that begins with the byte of a kind is that of the kind,
pub ends-kind : (kind : HtmlKind) (line : List ℕ) → ends_at_blank kind ≡ false →
    ends_by (stop_byte kind) line ≡ html_ends kind line
unfolding ends_by html_ends
ends-kind Basic line e = cc
ends-kind Complete line e = cc
ends-kind _ line e = refl

-- and no line holds the end of one that ends before a blank line
pub ends-never : (kind : HtmlKind) (line : List ℕ) → ends_at_blank kind ≡ true → html_ends kind line ≡ false
unfolding html_ends
ends-never Basic line e = refl
ends-never Complete line e = refl
ends-never _ line e = cc

-- nor does an empty one hold any
pub ends-empty : (kind : HtmlKind) → html_ends kind [] ≡ false
unfolding html_ends
ends-empty Raw = refl
ends-empty _ = refl

-- so what is open after a line stays open where no end is on it, as in one of the last two kinds, or an empty one
keeps-front : (leaf : HeldLeaf) (line : List ℕ) → is_html leaf ≡ true → ends_in_front leaf ≡ true →
    left_of leaf line ≡ leaf
keeps-front (held_leaf.Html kind) line on e = rw (ends-never kind line e) refl
keeps-front _ line on e = cc

keeps-text : (leaf : HeldLeaf) (line : List ℕ) → is_html leaf ≡ true → ends_in_front leaf ≡ false →
    cond (ends_by (stop_of leaf) line) held_leaf.None leaf ≡ left_of leaf line
keeps-text (held_leaf.Html kind) line on e = rw (ends-kind kind line e) refl
keeps-text _ line on e = cc

keeps-empty : (leaf : HeldLeaf) → is_html leaf ≡ true → left_of leaf [] ≡ leaf
keeps-empty (held_leaf.Html kind) on = rw (ends-empty kind) refl
keeps-empty _ on = cc

-- A further line.

-- a line with text does not end
text-proceeds : (line : List ℕ) → is_blank line ≡ false → is_end line ≡ false
text-proceeds [] e = cc
text-proceeds (b ∷ bytes) e = refl

-- a line with text is taken after its begin, and so is an empty one
text-taken : (leaf : HeldLeaf) (cells : List Cell) (h : Here) → IsRest h.scratch →
    is_end (line_bytes cells) ≡ false →
    closes leaf cells (entering (further_begun h)) ≡ line_taken (html_adds_on cells h.point) leaf cells h
text-taken leaf cells h is e = rw (e, clear h.scratch is) (simp append_assoc)

end-taken : (cells : List Cell) (h : Here) → IsRest h.scratch → is_end (line_bytes cells) ≡ true →
    line_done cells (further_begun h) ≡ line_taken (html_adds_on cells h.point) h.flags.leaf cells h
end-taken cells h is e =
    let end = ended cells e in rw (e, end.line, end.ending, clear h.scratch is) (simp append_assoc)

-- what it becomes, by whether its kind ends before a blank line, whether it is blank, and whether it is empty
further-blank : (cells : List Cell) (h : Here) → ends_in_front h.flags.leaf ≡ true →
    is_blank (line_bytes cells) ≡ true → further_at cells h ≡ Refuses (cleared h.scratch) h.flags
unfolding further_at nonblank_at
further-blank cells h e b = rw (e, b) refl

further-text : (cells : List Cell) (h : Here) → ends_in_front h.flags.leaf ≡ true →
    is_blank (line_bytes cells) ≡ false →
    further_at cells h ≡ closes h.flags.leaf cells (entering (further_begun h))
unfolding further_at nonblank_at
further-text cells h e b = rw (e, b) refl

further-end : (cells : List Cell) (h : Here) → ends_in_front h.flags.leaf ≡ false →
    is_end (line_bytes cells) ≡ true → further_at cells h ≡ line_done cells (further_begun h)
unfolding further_at line_at
further-end cells h e k = rw (e, k) refl

further-line : (cells : List Cell) (h : Here) → ends_in_front h.flags.leaf ≡ false →
    is_end (line_bytes cells) ≡ false →
    further_at cells h ≡
    closes (cond (ends_by (stop_of h.flags.leaf) (line_bytes cells)) held_leaf.None h.flags.leaf) cells
    (entering (further_begun h))
unfolding further_at line_at
further-line cells h e k = rw (e, k) refl

-- a blank one is refused where its kind ends before it,
pub further-refused : (cells : List Cell) (h : Here) → IsRest h.scratch → html_continues h.flags.leaf cells ≡ false →
    further_at cells h ≡ Refuses h.scratch h.flags
further-refused cells h is e =
    let both = and_parts (ends_in_front h.flags.leaf) (is_blank (line_bytes cells)) (not-false _ e) in
    further-blank cells h both.0 both.1 ∙ ap (λ (s : Scratch). Refuses s h.flags) (clear h.scratch is)

-- and any other is taken
pub further-took : (cells : List Cell) (h : Here) → is_html h.flags.leaf ≡ true → IsRest h.scratch →
    html_continues h.flags.leaf cells ≡ true →
    further_at cells h ≡
    line_taken (html_adds_on cells h.point) (html_keeps_on h.flags.leaf cells) cells h
further-took cells h on is e =
    go (ends_in_front h.flags.leaf) (is_blank (line_bytes cells)) (is_end (line_bytes cells)) refl refl refl
    (not-true _ e)
  where
    leaf : HeldLeaf
    leaf = h.flags.leaf

    with-leaf : HeldLeaf → Outcome
    with-leaf x = line_taken (html_adds_on cells h.point) x cells h

    go : (front blank end : Bool) → ends_in_front leaf ≡ front → is_blank (line_bytes cells) ≡ blank →
        is_end (line_bytes cells) ≡ end → ends_in_front leaf && is_blank (line_bytes cells) ≡ false →
        further_at cells h ≡ with-leaf (html_keeps_on leaf cells)
    go true true end f b k both = let bad : true ≡ false = rw (f, b) at both in cc
    go true false end f b k both =
        further-text cells h f b ∙ text-taken leaf cells h is (text-proceeds (line_bytes cells) b)
        ∙ ap with-leaf (sym (keeps-front leaf (line_bytes cells) on f))
    go false blank true f b k both =
        let empty : line_bytes cells ≡ [] = ap (map (λ (c : Cell). c.byte)) (ended cells k).line in
        further-end cells h f k ∙ end-taken cells h is k
        ∙ ap with-leaf (sym (ap (left_of leaf) empty ∙ keeps-empty leaf on))
    go false blank false f b k both =
        further-line cells h f k
        ∙ text-taken (cond (ends_by (stop_of leaf) (line_bytes cells)) held_leaf.None leaf) cells h is k
        ∙ ap with-leaf (keeps-text leaf (line_bytes cells) on f)

-- What is left of a line.

-- what is left of a line that is taken is what begins with its ending
abbrev pub LeavesEnding : List Cell → Outcome → Type 0
LeavesEnding cells (Accepts h rest) = rest ≡ from_ending cells
LeavesEnding cells (Refuses s g) = Unit {0}
LeavesEnding cells Fails = ⊥

opens-leaves : (kind : Option HtmlKind) (line : List ℕ) (cells : List Cell) (h : Here) →
    LeavesEnding cells (opens_by kind line cells h)
opens-leaves None line cells h = tt
opens-leaves (Some kind) line cells h = refl

pub html-leaves : (options : ParseOptions) (cells : List Cell) (h : Here) →
    LeavesEnding cells (html_at options cells h)
unfolding html_at opens
html-leaves options cells h =
    let line = line_bytes (white_rest (small_indent options - h.scratch.size) cells) in
    cond_both options.constructs.html_flow _ _ (LeavesEnding cells)
    (λ e. opens-leaves (allowed h.flags.leaf (html_kind line)) line cells (line_begun h)) (λ e. tt)

pub further-leaves : (cells : List Cell) (h : Here) → LeavesEnding cells (further_at cells h)
unfolding further_at nonblank_at line_at
further-leaves cells h =
    cond_both (ends_in_front h.flags.leaf) _ _ (LeavesEnding cells)
    (λ e. cond_both (is_blank (line_bytes cells)) _ _ (LeavesEnding cells) (λ k. tt) (λ k. refl))
    (λ e. cond_both (is_end (line_bytes cells)) _ _ (LeavesEnding cells) (λ k. sym (ended cells k).ending) (λ k. refl))
