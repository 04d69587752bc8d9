-- Indented code takes a whole line, or refuses it.
use Rattle.std.proofs.Common.{◌≡◌, ℕ, zero, suc, Bool, true, false, cond, ◌&&◌, nat_eq, List, [], ◌∷◌, ◌++◌}
use Rattle.std.proofs.Common.{Option, Some, None, refl, sym, ◌∙◌, ap, append_assoc, append-nil}
use Rattle.std.specs.Prelude.{not}
use Rattle.md_engine.specs.declared.configuration.ParseOptions.{ParseOptions}
use Rattle.md_engine.specs.declared.event.Event.{Event}
use Rattle.md_engine.specs.declared.event.Name.TheVariants.{CodeFlowChunk, CodeIndented, SpaceOrTab}
use Rattle.md_engine.specs.declared.event.Point.{Point}
use Rattle.md_engine.specs.declared.tokenizer.Scratch.{Scratch}
use Rattle.md_engine.specs.declared.tokenizer.held_leaf.HeldLeaf.{HeldLeaf}
use Rattle.md_engine.specs.declared.tokenizer.held_leaf.HeldLeaf.TheVariants as held_leaf
use Rattle.md_engine.specs.Meaning.{Cell, Here, Refuses}
use Rattle.md_literal.specs.Code.{may_open}
use Rattle.md_literal.specs.CodeRule.{at_break, after_columns, blank_adds, blank_ends, code_adds, code_adds_on, code_at}
use Rattle.md_literal.specs.CodeRule.{code_begins, code_further, code_continues, further_after, further_begin}
use Rattle.md_literal.specs.CodeRule.{further_inside, in_blank, in_text, is_indented, line_adds, line_at, line_by}
use Rattle.md_literal.specs.CodeRule.{or_blank, then_here}
use Rattle.md_leaves.specs.Further.{further_link}
use Rattle.md_leaves.proofs.LeafSteps.{ended}
use Rattle.md_events.specs.Ahead.{begins_white, line_bytes, line_end, white_end, white_rest}
use Rattle.md_events.specs.Events.Nested.{enter, enter_link, exit, pair}
use Rattle.md_meaning.specs.Bytes.{is_end}
use Rattle.md_meaning.specs.Rest.{is_blank, is_white}
use Rattle.md_events.specs.Spaces.{calmed}
use Rattle.md_events.proofs.AheadLemmas.{none-rest, white-ending, white-line_end, white-no_ending}

-- Whitespace, and the end of a line.

-- an ended line is blank
end-blank : (cells : List Cell) → is_end (line_bytes cells) ≡ true → is_blank (line_bytes cells) ≡ true
end-blank cells e = rw (ended cells e).line refl

-- without whitespace in front, a line is blank where it ends
dark-blank : (cells : List Cell) → begins_white cells ≡ false → is_end (line_bytes cells) ≡ is_blank (line_bytes cells)
dark-blank [] s = refl
dark-blank (c ∷ cs) s = go (nat_eq c.byte 10) refl
  where
    go : (x : Bool) → nat_eq c.byte 10 ≡ x →
        is_end (line_bytes (c ∷ cs)) ≡ is_blank (line_bytes (c ∷ cs))
    go true k = rw k refl
    go false k = rw (k, s) refl

-- whitespace that is left out leaves a line blank, or not
white-blank : (room : ℕ) (cells : List Cell) →
    is_blank (line_bytes (white_rest room cells)) ≡ is_blank (line_bytes cells)
white-blank room [] = refl
white-blank zero (c ∷ cs) = refl
white-blank (suc room) (c ∷ cs) = go (is_white c.byte) refl (white-blank room cs)
  where
    go : (x : Bool) → is_white c.byte ≡ x →
        is_blank (line_bytes (white_rest room cs)) ≡ is_blank (line_bytes cs) →
        is_blank (line_bytes (white_rest (suc room) (c ∷ cs))) ≡ is_blank (line_bytes (c ∷ cs))
    go true s ih = rw (s, white-no_ending c.byte s, s) ih
    go false s ih = rw s refl

-- a line with text does not end
text-proceeds : (cells : List Cell) → is_blank (line_bytes cells) ≡ false → is_end (line_bytes cells) ≡ false
text-proceeds cells e = go (is_end (line_bytes cells)) refl
  where
    go : (x : Bool) → is_end (line_bytes cells) ≡ x → x ≡ false
    go false k = refl
    go true k = let bad : true ≡ false = sym (end-blank cells k) ∙ e in cc

-- a line that is taken after its columns is taken with them,
columns-taken : (blank : Bool) (added : List Event) (cells : List Cell) (h : Here) (leaf : HeldLeaf) →
    calmed h.scratch ≡ h.scratch →
    line_by blank added (white_rest 4 cells) (after_columns 4 cells h) (Some leaf) ≡
    line_by blank (pair SpaceOrTab h.point (white_end 4 cells h.point) ++ added) cells h (Some leaf)
columns-taken blank added cells h leaf calm =
    rw (white-ending 4 cells, white-line_end 4 cells h.point, calm) (simp append_assoc)

-- and one that is taken after its begin with that
begin-taken : (e : Event) (added : List Event) (cells : List Cell) (h : Here) (leaf : HeldLeaf) →
    line_by false added cells (then_here e h) (Some leaf) ≡ line_by false (e ∷ added) cells h (Some leaf)
begin-taken e added cells h leaf = simp append_assoc

-- A line of code.

-- a chunk over the rest of the line, and the end of the line of code
abbrev rest_events : Point → Point → List Event
rest_events q r = pair CodeFlowChunk q r ++ exit CodeIndented r ∷ []

text-break : (cells : List Cell) (h : Here) → is_blank (line_bytes cells) ≡ false →
    at_break cells h ≡ line_by false (rest_events h.point (line_end cells h.point)) cells h (Some held_leaf.Code)
unfolding in_blank in_text
text-break cells h e = rw e (simp append_assoc)

blank-break : (cells : List Cell) (h : Here) → is_blank (line_bytes cells) ≡ true →
    at_break cells h ≡ Refuses h.scratch h.flags
unfolding in_blank
blank-break cells h e = rw e refl

-- what is kept of a line of code, where one may be: an indent, and text after it
abbrev line_keeps : Bool → List Cell → Option HeldLeaf
line_keeps may cells = cond (may && is_indented cells && not (is_blank (line_bytes cells))) (Some held_leaf.Code) None

-- with either begin it is taken, and any other line refused
line-taken : (may : Bool) (begin : Event) (cells : List Cell) (h : Here) → calmed h.scratch ≡ h.scratch →
    line_at may begin cells h ≡ line_by false (line_adds begin cells h.point) cells h (line_keeps may cells)
unfolding line_at
line-taken may begin cells h calm = go may (is_indented cells) (is_blank (line_bytes cells)) refl refl refl
  where
    q : Point
    q = white_end 4 cells h.point

    taken : is_blank (line_bytes cells) ≡ false →
        at_break (white_rest 4 cells) (after_columns 4 cells (then_here begin h)) ≡
        line_by false (line_adds begin cells h.point) cells h (Some held_leaf.Code)
    taken b =
        text-break (white_rest 4 cells) (after_columns 4 cells (then_here begin h)) (white-blank 4 cells ∙ b)
        ∙ columns-taken false (rest_events q (line_end (white_rest 4 cells) q)) cells (then_here begin h)
        held_leaf.Code calm
        ∙ begin-taken begin (pair SpaceOrTab h.point q ++ rest_events q (line_end (white_rest 4 cells) q)) cells h
        held_leaf.Code
        ∙ ap
        (λ (r : Point).
        line_by false (begin ∷ pair SpaceOrTab h.point q ++ rest_events q r) cells h (Some held_leaf.Code))
        (white-line_end 4 cells h.point)

    go : (some indented blank : Bool) → may ≡ some → is_indented cells ≡ indented →
        is_blank (line_bytes cells) ≡ blank →
        line_at may begin cells h ≡
        line_by false (line_adds begin cells h.point) cells h (line_keeps may cells)
    go false indented blank f k b = rw f refl
    go true false blank f k b = rw (f, k) refl
    go true true true f k b =
        rw (f, k, b)
        (blank-break (white_rest 4 cells) (after_columns 4 cells (then_here begin h)) (white-blank 4 cells ∙ b)
        ∙ ap (λ (t : Scratch). Refuses t h.flags) calm)
    go true true false f k b = rw (f, k, b) (taken b)

-- the first line of code is taken, and any other refused
pub code-line : (options : ParseOptions) (cells : List Cell) (h : Here) → calmed h.scratch ≡ h.scratch →
    code_at options cells h ≡
    line_by false (code_adds cells h.point) cells h (code_begins options h.flags.leaf cells)
code-line options cells h calm =
    line-taken (options.constructs.code_indented && may_open h.flags.leaf) (enter CodeIndented h.point) cells h calm

-- A line that may continue open code.

-- what a blank one adds, where whitespace is here
blank-white : (cells : List Cell) (p : Point) (x : Bool) → begins_white cells ≡ true →
    is_end (line_bytes (white_rest 4 cells)) ≡ x →
    blank_adds cells p ≡
    pair SpaceOrTab p (white_end 4 cells p) ++ cond x [] (pair CodeFlowChunk (white_end 4 cells p) (line_end cells p))
blank-white cells p x w e = rw (w, e) refl

-- and where none does
blank-dark : (cells : List Cell) (p : Point) → begins_white cells ≡ false → is_end (line_bytes cells) ≡ true →
    blank_adds cells p ≡ []
blank-dark cells p w e = rw (w, none-rest 4 cells w, e) refl

-- where the line ends here, it is taken as it is
end-taken : (cells : List Cell) (h : Here) → is_end (line_bytes cells) ≡ true →
    blank_ends cells h ≡ line_by true [] cells h (Some h.flags.leaf)
end-taken cells h e = let end = ended cells e in rw (end.line, end.ending, append-nil) refl

-- whitespace to the end of the line is a chunk
chunk-taken : (cells : List Cell) (h : Here) → is_blank (line_bytes cells) ≡ true →
    further_inside cells (then_here (enter CodeFlowChunk h.point) h) ≡
    line_by true (pair CodeFlowChunk h.point (line_end cells h.point)) cells h (Some h.flags.leaf)
unfolding further_inside
chunk-taken cells h b = rw b (simp append_assoc)

after-blank : (cells : List Cell) (h : Here) (x : Bool) → is_blank (line_bytes cells) ≡ true →
    is_end (line_bytes cells) ≡ x →
    further_after cells h ≡
    line_by true (cond x [] (pair CodeFlowChunk h.point (line_end cells h.point))) cells h (Some h.flags.leaf)
unfolding further_after
after-blank cells h true b e = rw e (end-taken cells h e)
after-blank cells h false b e = rw e (chunk-taken cells h b)

-- a blank line is taken
further-blank : (cells : List Cell) (h : Here) (w : Bool) → calmed h.scratch ≡ h.scratch → begins_white cells ≡ w →
    is_blank (line_bytes cells) ≡ true →
    further_begin cells h ≡ line_by true (blank_adds cells h.point) cells h (Some h.flags.leaf)
unfolding further_begin
further-blank cells h true calm w b =
    let q = white_end 4 cells h.point in
    let ends = is_end (line_bytes (white_rest 4 cells)) in
    ap
    (λ (x : Bool).
    cond x (further_after (white_rest 4 cells) (after_columns 4 cells h)) (further_after cells h)) w
    ∙ after-blank (white_rest 4 cells) (after_columns 4 cells h) ends (white-blank 4 cells ∙ b) refl
    ∙ columns-taken true (cond ends [] (pair CodeFlowChunk q (line_end (white_rest 4 cells) q))) cells h h.flags.leaf
    calm
    ∙ ap
    (λ (r : Point).
    line_by true (pair SpaceOrTab h.point q ++ cond ends [] (pair CodeFlowChunk q r)) cells h (Some h.flags.leaf))
    (white-line_end 4 cells h.point)
    ∙ ap (λ (es : List Event). line_by true es cells h (Some h.flags.leaf))
    (sym (blank-white cells h.point ends w refl))
further-blank cells h false calm w b =
    let end = dark-blank cells w ∙ b in
    ap
    (λ (x : Bool).
    cond x (further_after (white_rest 4 cells) (after_columns 4 cells h)) (further_after cells h)) w
    ∙ after-blank cells h true b end
    ∙ ap (λ (es : List Event). line_by true es cells h (Some h.flags.leaf)) (sym (blank-dark cells h.point w end))

-- one with text is refused
after-text : (cells : List Cell) (h : Here) → is_blank (line_bytes cells) ≡ false →
    further_after cells h ≡ Refuses h.scratch h.flags
unfolding further_after further_inside
after-text cells h b = rw (text-proceeds cells b, b) refl

further-text : (cells : List Cell) (h : Here) (w : Bool) → calmed h.scratch ≡ h.scratch → begins_white cells ≡ w →
    is_blank (line_bytes cells) ≡ false →
    further_begin cells h ≡ Refuses h.scratch h.flags
unfolding further_begin
further-text cells h true calm w b =
    rw w
    (after-text (white_rest 4 cells) (after_columns 4 cells h) (white-blank 4 cells ∙ b)
    ∙ ap (λ (t : Scratch). Refuses t h.flags) calm)
further-text cells h false calm w b = rw w (after-text cells h b)

-- it is taken if it is a line of code or blank, and refused elsewhere
pub code-on : (cells : List Cell) (h : Here) → calmed h.scratch ≡ h.scratch →
    code_further cells h ≡
    line_by (is_blank (line_bytes cells)) (code_adds_on cells h.point) cells h (code_continues h.flags.leaf cells)
code-on cells h calm =
    ap (or_blank cells h) (line-taken true begin cells h calm)
    ∙ go (is_indented cells) (is_blank (line_bytes cells)) refl refl
  where
    begin : Event
    begin = enter_link CodeIndented h.point further_link

    go : (indented blank : Bool) → is_indented cells ≡ indented → is_blank (line_bytes cells) ≡ blank →
        or_blank cells h (line_by false (line_adds begin cells h.point) cells h (line_keeps true cells)) ≡
        line_by (is_blank (line_bytes cells)) (code_adds_on cells h.point) cells h (code_continues h.flags.leaf cells)
    go true true k b = rw (k, b) (further-blank cells h (begins_white cells) calm refl b)
    go false true k b = rw (k, b) (further-blank cells h (begins_white cells) calm refl b)
    go true false k b = rw (k, b) refl
    go false false k b = rw (k, b) (further-text cells h (begins_white cells) calm refl b)
