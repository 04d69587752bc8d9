-- The underline of a setext heading takes a whole line, or refuses it.
use Rattle.std.proofs.Common.{◌≡◌, ℕ, Bool, true, false, cond, ◌&&◌, List, [], ◌∷◌, ◌++◌, Some, refl, sym, ◌∙◌, ap, ap₂}
use Rattle.std.proofs.Common.{arith, append_assoc}
use Rattle.std.proofs.lemmas.Bool.{and_parts}
use Rattle.std.proofs.lemmas.Bool.Decides.{nat_tests}
use Rattle.md_engine.specs.declared.configuration.ParseOptions.{ParseOptions}
use Rattle.md_engine.specs.declared.event.Event.{Event}
use Rattle.md_engine.specs.declared.event.Name.TheVariants.{HeadingSetextUnderline, SpaceOrTab}
use Rattle.md_engine.specs.declared.event.Point.{Point}
use Rattle.md_engine.specs.declared.tokenizer.held_leaf.HeldLeaf.TheVariants as held_leaf
use Rattle.md_engine.specs.declared.tokenizer.Scratch.{Scratch}
use Rattle.md_engine.specs.Meaning.{Accepts, Cell, Here, Outcome, Refuses}
use Rattle.md_leaves.specs.HeadingSetext.{may_begin, may_turn}
use Rattle.md_leaves.specs.HeadingSetextRule.{before_run, first_cell, is_underline, is_underline_line, runs, setext_at}
use Rattle.md_leaves.specs.HeadingSetextRule.{underline_inside, underlined}
use Rattle.md_leaves.specs.LeafStart.{entered_here}
use Rattle.md_leaves.specs.MarkRuns.{Apart}
use Rattle.md_leaves.proofs.BreakTermination.{rest-marker, rest-white}
use Rattle.md_leaves.proofs.LeafStart.{at-none, at-off, at-white, indented-none, indented-white, rule-refused}
use Rattle.md_events.specs.Ahead.{begins_white, from_ending, line_bytes, line_cells, line_end, white_end, white_rest}
use Rattle.md_events.specs.Events.Nested.{around, pair}
use Rattle.md_events.specs.Look.{seen_after}
use Rattle.md_events.specs.Spaces.{IsRest, calmed, small_indent}
use Rattle.md_events.proofs.AheadLemmas.{none-rest, white-ending, white-line_end}
use Rattle.md_events.proofs.WhiteMeaning.{following_white}

-- the whole line is a part, with this inside, and no leaf is open after it
abbrev pub taken_line : List Event → List Cell → Here → Outcome
taken_line inside cells h =
    let p = line_end cells h.point in
    Accepts
    (record h {
      events = h.events ++ around HeadingSetextUnderline h.point p inside;
      point = p;
      flags = record h.flags { leaf = held_leaf.None };
    })
    (from_ending cells)

-- what is in it after its indent
abbrev after_indent : List Cell → Point → List Event
after_indent cells p = runs Apart (first_cell cells) (line_cells cells) p

-- After the indent an underline is taken to the end of the line,
before-is : (cells : List Cell) (h : Here) → is_underline (line_bytes cells) ≡ true →
    before_run cells h ≡ underlined Apart (first_cell cells) cells h
unfolding before_run
before-is [] h e = cc
before-is (c ∷ cs) h e =
    ap (λ (x : Bool). cond x (underlined Apart c.byte (c ∷ cs) h) (Refuses h.scratch h.flags)) e

-- and nothing else.
before-no : (cells : List Cell) (h : Here) → is_underline (line_bytes cells) ≡ false →
    before_run cells h ≡ Refuses h.scratch h.flags
unfolding before_run
before-no [] h e = refl
before-no (c ∷ cs) h e =
    ap (λ (x : Bool). cond x (underlined Apart c.byte (c ∷ cs) h) (Refuses h.scratch h.flags)) e

-- one that was begun here with no indent,
taken-none : (cells : List Cell) (h : Here) → IsRest h.scratch →
    underlined Apart (first_cell cells) cells (entered_here HeadingSetextUnderline h) ≡
    taken_line (runs Apart (first_cell cells) (line_cells cells) h.point) cells h
taken-none cells h is = rw (rest-marker h.scratch is) (simp append_assoc)

-- and with one
taken-white : (room : ℕ) (cells : List Cell) (h : Here) → IsRest h.scratch →
    underlined Apart (first_cell (white_rest room cells)) (white_rest room cells)
    (following_white room cells (entered_here HeadingSetextUnderline h)) ≡
    taken_line
    (pair SpaceOrTab h.point (white_end room cells h.point)
    ++ runs Apart (first_cell (white_rest room cells)) (line_cells (white_rest room cells))
    (white_end room cells h.point)) cells h
taken-white room cells h is =
    rw (white-ending room cells, white-line_end room cells h.point, rest-white h.scratch is) (simp append_assoc)

-- A line where another byte than a marker is first after whitespace is no underline.
pub setext-looked : (options : ParseOptions) (cells : List Cell) (b : ℕ) → seen_after cells ≡ Some b →
    may_begin b ≡ false → is_underline_line options cells ≡ false
setext-looked options cells b seen e =
    rule-refused may_begin options.constructs.heading_setext is_underline (small_indent options) cells b refl
    (λ c bytes k. rw k refl) (λ c white. grind (arith, nat_tests)) seen e

-- An underline that meets text that it turns takes its line, with its indent and its run,
pub setext-took : (options : ParseOptions) (cells : List Cell) (h : Here) → IsRest h.scratch →
    may_turn options h.flags.leaf && is_underline_line options cells ≡ true →
    setext_at options cells h ≡ taken_line (underline_inside options cells h.point) cells h
setext-took options cells h is e = go (begins_white cells) refl
  where
    room : ℕ
    room = small_indent options

    left : List Cell
    left = white_rest (small_indent options) cells

    both : (may_turn options h.flags.leaf ≡ true) × (is_underline_line options cells ≡ true)
    both = and_parts (may_turn options h.flags.leaf) (is_underline_line options cells) e

    parts : (options.constructs.heading_setext ≡ true) ×
        (is_underline (line_bytes (white_rest (small_indent options) cells)) ≡ true)
    parts =
        and_parts options.constructs.heading_setext
        (is_underline (line_bytes (white_rest (small_indent options) cells))) both.1

    on : options.constructs.heading_setext && may_turn options h.flags.leaf ≡ true
    on = ap₂ (λ (x y : Bool). x && y) parts.0 both.0

    go : (x : Bool) → begins_white cells ≡ x →
        setext_at options cells h ≡ taken_line (underline_inside options cells h.point) cells h
    go true s =
        at-white HeadingSetextUnderline _ before_run options cells h on s
        ∙ before-is left (following_white room cells (entered_here HeadingSetextUnderline h)) parts.1
        ∙ taken-white room cells h is
        ∙ ap (λ (es : List Event). taken_line es cells h) (sym (indented-white after_indent room cells h.point s))
    go false s =
        at-none HeadingSetextUnderline _ before_run options cells h on s
        ∙ before-is cells (entered_here HeadingSetextUnderline h)
        (sym (ap (λ (r : List Cell). is_underline (line_bytes r)) (none-rest room cells s)) ∙ parts.1)
        ∙ taken-none cells h is
        ∙ ap (λ (es : List Event). taken_line es cells h) (sym (indented-none after_indent room cells h.point s))

-- and any other line is refused.
pub setext-refused : (options : ParseOptions) (cells : List Cell) (h : Here) → IsRest h.scratch →
    may_turn options h.flags.leaf && is_underline_line options cells ≡ false →
    setext_at options cells h ≡ Refuses h.scratch h.flags
setext-refused options cells h is e =
    by options.constructs.heading_setext (may_turn options h.flags.leaf) refl refl
  where
    room : ℕ
    room = small_indent options

    left : List Cell
    left = white_rest (small_indent options) cells

    off : options.constructs.heading_setext && may_turn options h.flags.leaf ≡ false →
        setext_at options cells h ≡ Refuses h.scratch h.flags
    off = at-off HeadingSetextUnderline _ before_run options cells h

    go : options.constructs.heading_setext && may_turn options h.flags.leaf ≡ true →
        is_underline (line_bytes left) ≡ false → (x : Bool) → begins_white cells ≡ x →
        setext_at options cells h ≡ Refuses h.scratch h.flags
    go on none true s =
        at-white HeadingSetextUnderline _ before_run options cells h on s
        ∙ before-no left (following_white room cells (entered_here HeadingSetextUnderline h)) none
        ∙ ap (λ (t : Scratch). Refuses (calmed t) h.flags) is ∙ ap (λ (t : Scratch). Refuses t h.flags) (sym is)
    go on none false s =
        at-none HeadingSetextUnderline _ before_run options cells h on s
        ∙ before-no cells (entered_here HeadingSetextUnderline h)
        (sym (ap (λ (r : List Cell). is_underline (line_bytes r)) (none-rest room cells s)) ∙ none)

    by : (x y : Bool) → options.constructs.heading_setext ≡ x → may_turn options h.flags.leaf ≡ y →
        setext_at options cells h ≡ Refuses h.scratch h.flags
    by true true k l =
        go (ap₂ (λ (x y : Bool). x && y) k l)
        (sym (ap₂ (λ (x y : Bool). y && (x && is_underline (line_bytes left))) k l) ∙ e) (begins_white cells) refl
    by true false k l = off (ap₂ (λ (x y : Bool). x && y) k l)
    by false y k l = off (ap (λ (x : Bool). x && may_turn options h.flags.leaf) k)
