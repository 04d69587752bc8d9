-- What a thematic break becomes, where it takes a line and where it refuses one.
use Rattle.std.proofs.Common.{◌≡◌, ℕ, ◌≤◌, Bool, true, false, cond, List, [], ◌∷◌, ◌++◌, length, arith, refl, sym, ◌∙◌}
use Rattle.std.proofs.Common.{ap, ap₂, append_assoc, Some}
use Rattle.std.proofs.lemmas.Bool.{and_from, and_left, and_parts}
use Rattle.std.proofs.lemmas.Bool.Decides.{nat_tests}
use Rattle.std.specs.Prelude.{◌&&◌, not}
use Rattle.md_engine.specs.declared.configuration.ParseOptions.{ParseOptions}
use Rattle.md_engine.specs.declared.event.Event.{Event}
use Rattle.md_engine.specs.declared.event.Name.TheVariants as n
use Rattle.md_engine.specs.declared.event.Point.{Point}
use Rattle.md_engine.specs.declared.tokenizer.Scratch.{Scratch}
use Rattle.md_engine.specs.Meaning.{Accepts, Cell, Here, Outcome, Refuses}
use Rattle.md_engine.specs.declared.tokenizer.held_leaf.HeldLeaf.{HeldLeaf}
use Rattle.md_leaves.specs.Break.{may_begin, without_marker}
use Rattle.md_leaves.specs.BreakRule.{Apart, before_marker, break_at, broken, runs}
use Rattle.md_leaves.specs.HeadingSetext.{turns_nothing}
use Rattle.md_leaves.specs.HeadingSetextRule.{is_underline}
use Rattle.md_leaves.specs.LeafStart.{entered_here}
use Rattle.md_leaves.proofs.LeafStart.{at-none, at-off, at-white, indented-none, indented-white, rule-refused}
use Rattle.md_leaves.proofs.BreakTermination.{rest-marker, rest-white}
use Rattle.md_events.specs.Ahead.{begins_white, from_ending, line_bytes, line_cells, line_end, white_end, white_rest}
use Rattle.md_events.specs.Look.{seen_after}
use Rattle.md_meaning.specs.Leaves.{is_rule}
use Rattle.md_events.specs.Events.Nested.{around, enter, exit}
use Rattle.md_events.specs.Spaces.{IsRest, small_indent}
use Rattle.md_events.proofs.AheadLemmas.{none-rest, white-ending, white-line_end}
use Rattle.md_events.proofs.WhiteMeaning.{following_white}
use Rattle.proof_leaf_laws.specs.Leaf.ThematicBreak.{break_inside, first_cell, is_break, break_leaf, is_lost}
use Rattle.proof_frame.proofs.FromEnding.{from_ending-again}
use Rattle.proof_frame.proofs.LeafStarts.{start-shrinks}
use Rattle.proof_frame.proofs.LeafLaws.{Shrinks, cond-shrinks, whole_line}
use Rattle.md_containers.proofs.QuoteCells.{ending-shorter}

-- what is in it after its indent
abbrev after_indent : List Cell → Point → List Event
after_indent cells p = runs Apart (first_cell cells) (line_cells cells) p

-- whether a rule is on these cells that is no underline with nothing to turn
abbrev breaks : ParseOptions → HeldLeaf → List Cell → Bool
breaks options on cells =
    is_rule (line_bytes cells) && not (turns_nothing options on && is_underline (line_bytes cells))

-- at the marker a rule is taken to the end of the line, and else nothing is
marked : (options : ParseOptions) (cells : List Cell) (h : Here) → breaks options h.flags.leaf cells ≡ true →
    before_marker options cells h ≡ broken Apart (first_cell cells) cells h
unfolding before_marker
marked options [] h e = cc
marked options (c ∷ cs) h e =
    ap (λ (x : Bool). cond x (broken Apart c.byte (c ∷ cs) h) (Refuses (without_marker h.scratch) h.flags)) e

unmarked : (options : ParseOptions) (cells : List Cell) (h : Here) → breaks options h.flags.leaf cells ≡ false →
    before_marker options cells h ≡ Refuses (without_marker h.scratch) h.flags
unfolding before_marker
unmarked options [] h e = refl
unmarked options (c ∷ cs) h e =
    ap (λ (x : Bool). cond x (broken Apart c.byte (c ∷ cs) h) (Refuses (without_marker h.scratch) h.flags)) e

-- the events of a break, after those that were there
regroup : (es rs : List Event) (a d : Event) → (es ++ a ∷ []) ++ rs ++ d ∷ [] ≡ es ++ (a ∷ rs ++ d ∷ [])
regroup es rs a d =
    ap (λ (xs : List Event). xs ++ d ∷ []) (append_assoc es (a ∷ []) rs) ∙ append_assoc es (a ∷ rs) (d ∷ [])

regroup-white : (es rs : List Event) (a b c d : Event) →
    (es ++ a ∷ []) ++ b ∷ c ∷ [] ++ rs ++ d ∷ [] ≡ es ++ (a ∷ b ∷ c ∷ rs ++ d ∷ [])
regroup-white es rs a b c d =
    ap (λ (xs : List Event). xs ++ d ∷ []) (append_assoc (es ++ a ∷ []) (b ∷ c ∷ []) rs) ∙ regroup es (b ∷ c ∷ rs) a d

-- A line where another byte than a marker is first after whitespace is no break.
pub break-looked : (options : ParseOptions) (on : HeldLeaf) (cells : List Cell) (b : ℕ) →
    seen_after cells ≡ Some b → may_begin b ≡ false → break_leaf.takes options on cells ≡ false
break-looked options on cells b seen e =
    and_left (is_break options cells) (not (is_lost options on cells))
    (rule-refused may_begin options.constructs.thematic_break is_rule (small_indent options) cells b refl
    (λ c bytes k. rw k refl) (λ c white. grind (arith, nat_tests)) seen e)

-- A break takes its line,
pub break-took : (options : ParseOptions) (cells : List Cell) (h : Here) → IsRest h.scratch →
    break_leaf.takes options h.flags.leaf cells ≡ true →
    break_at options cells h ≡
    whole_line (around n.ThematicBreak h.point (line_end cells h.point) (break_inside options cells h.point))
    h.flags.leaf
    false cells h
break-took options cells h is e = go (begins_white cells) refl
  where
    room : ℕ
    room = small_indent options

    p : Point
    p = line_end cells h.point

    q : Point
    q = white_end (small_indent options) cells h.point

    left : List Cell
    left = white_rest (small_indent options) cells

    both : (is_break options cells ≡ true) × (not (is_lost options h.flags.leaf cells) ≡ true)
    both = and_parts (is_break options cells) (not (is_lost options h.flags.leaf cells)) e

    on : options.constructs.thematic_break ≡ true
    on =
        (and_parts options.constructs.thematic_break (is_rule (line_bytes (white_rest (small_indent options) cells)))
        both.0).0

    rule : breaks options h.flags.leaf (white_rest (small_indent options) cells) ≡ true
    rule =
        and_from (is_rule (line_bytes left)) (not (is_lost options h.flags.leaf cells))
        (and_parts options.constructs.thematic_break (is_rule (line_bytes (white_rest (small_indent options) cells)))
        both.0).1
        both.1

    -- what it is up to its scratch, its events and its point
    new : List Event → Point → Scratch → List Cell → Outcome
    new es x s rest =
        Accepts (record { events = es; point = x; scratch = s; flags = h.flags }) rest

    go : (x : Bool) → begins_white cells ≡ x →
        break_at options cells h ≡
        whole_line
        (around n.ThematicBreak h.point (line_end cells h.point) (break_inside options cells h.point))
        h.flags.leaf false
        cells h
    go true s =
        let at : Here = following_white room cells (entered_here n.ThematicBreak h) in
        let end : line_end left q ≡ p = white-line_end room cells h.point in
        let es : List Event = at.events ++ runs Apart (first_cell left) (line_cells left) q
        ++ exit n.ThematicBreak (line_end left q) ∷ [] in
        let same : es ≡ h.events ++ around n.ThematicBreak h.point p (break_inside options cells h.point) =
        regroup-white h.events (runs Apart (first_cell left) (line_cells left) q) (enter n.ThematicBreak h.point)
        (enter n.SpaceOrTab h.point) (exit n.SpaceOrTab q) (exit n.ThematicBreak (line_end left q))
        ∙ ap₂
        (λ (x : Point) (es : List Event).
        h.events ++ (enter n.ThematicBreak h.point ∷ es ++ exit n.ThematicBreak x ∷ [])) end
        (sym (indented-white after_indent room cells h.point s)) in
        at-white n.ThematicBreak _ (before_marker options) options cells h on s ∙ marked options left at rule
        ∙ ap₂ (λ (x : Point) (t : Scratch). new es x t (from_ending left)) end (rest-white h.scratch is)
        ∙ ap₂ (λ (xs : List Event) (rest : List Cell). new xs p h.scratch rest) same (white-ending room cells)
    go false s =
        let at : Here = entered_here n.ThematicBreak h in
        let here' : breaks options h.flags.leaf cells ≡
        true = sym (ap (breaks options h.flags.leaf) (none-rest room cells s))
        ∙ rule in
        let es : List Event = at.events ++ runs Apart (first_cell cells) (line_cells cells) h.point
        ++ exit n.ThematicBreak p ∷ [] in
        let same : es ≡ h.events ++ around n.ThematicBreak h.point p (break_inside options cells h.point) =
        regroup h.events (runs Apart (first_cell cells) (line_cells cells) h.point) (enter n.ThematicBreak h.point)
        (exit n.ThematicBreak p)
        ∙ ap (λ (es : List Event). h.events ++ (enter n.ThematicBreak h.point ∷ es ++ exit n.ThematicBreak p ∷ []))
        (sym (indented-none after_indent room cells h.point s)) in
        at-none n.ThematicBreak _ (before_marker options) options cells h on s ∙ marked options cells at here'
        ∙ ap₂ (λ (xs : List Event) (t : Scratch). new xs p t (from_ending cells)) same (rest-marker h.scratch is)

-- and where none is all is left as it was.
pub break-refused : (options : ParseOptions) (cells : List Cell) (h : Here) → IsRest h.scratch →
    break_leaf.takes options h.flags.leaf cells ≡ false → break_at options cells h ≡ Refuses h.scratch h.flags
break-refused options cells h is e = by options.constructs.thematic_break refl
  where
    room : ℕ
    room = small_indent options

    left : List Cell
    left = white_rest (small_indent options) cells

    go : options.constructs.thematic_break ≡ true → breaks options h.flags.leaf left ≡ false → (x : Bool) →
        begins_white cells ≡ x → break_at options cells h ≡ Refuses h.scratch h.flags
    go on rule true s =
        at-white n.ThematicBreak _ (before_marker options) options cells h on s
        ∙ unmarked options left (following_white room cells (entered_here n.ThematicBreak h)) rule
        ∙ ap (λ (t : Scratch). Refuses t h.flags) (rest-white h.scratch is)
    go on rule false s =
        let here' : breaks options h.flags.leaf cells ≡
        false = sym (ap (breaks options h.flags.leaf) (none-rest room cells s))
        ∙ rule in
        at-none n.ThematicBreak _ (before_marker options) options cells h on s
        ∙ unmarked options cells (entered_here n.ThematicBreak h) here'
        ∙ ap (λ (t : Scratch). Refuses t h.flags) (rest-marker h.scratch is)

    by : (x : Bool) → options.constructs.thematic_break ≡ x → break_at options cells h ≡ Refuses h.scratch h.flags
    by true on = go on (rw on at e) (begins_white cells) refl
    by false off = at-off n.ThematicBreak _ (before_marker options) options cells h off

-- What is left of a line.

before_marker-shrinks : (options : ParseOptions) (n : ℕ) (cells : List Cell) (h : Here) → length cells ≤ n →
    Shrinks n (before_marker options cells h)
unfolding before_marker
before_marker-shrinks options n [] h le = tt
before_marker-shrinks options n (c ∷ cs) h le =
    cond-shrinks n (breaks options h.flags.leaf (c ∷ cs)) _ _
    (let less = ending-shorter (c ∷ cs) in omega arith, from_ending-again (c ∷ cs)) tt

pub break-shrinks : (options : ParseOptions) (cells : List Cell) (h : Here) →
    Shrinks (length cells) (break_at options cells h)
break-shrinks options cells h =
    start-shrinks n.ThematicBreak options.constructs.thematic_break (before_marker options) options cells h
    (before_marker-shrinks options)
