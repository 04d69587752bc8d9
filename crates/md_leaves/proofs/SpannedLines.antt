-- Blocks of several lines, line by line.
--
-- A line is its begin, what is inside, its end, and what is between it and the next block.
use Rattle.std.proofs.Common.{◌≡◌, Bool, true, false, List, [], ◌∷◌, ◌++◌, refl, ap, ◌∙◌}
use Rattle.std.specs.Prelude.{map}
use Rattle.md_engine.specs.declared.event.Event.{Event}
use Rattle.md_engine.specs.declared.event.Kind.{Kind}
use Rattle.md_engine.specs.declared.event.Kind.TheVariants.{Enter, Exit}
use Rattle.md_leaves.specs.declared.spans.Place.{Place}
use Rattle.md_leaves.specs.declared.spans.Place.TheVariants.{Between, Inside, Outside}
use Rattle.md_leaves.specs.Spanned.{Begins, Ends, IsContinued, Turn, begins_further, given_by, is_continued, has_lines}
use Rattle.md_leaves.specs.Spanned.{links_back, passes, place_by, renamed, spanned_from, turn, turn_by}
use Rattle.md_leaves.proofs.SpannedLemmas.{passes-given, stays-given}
use Rattle.md_events.specs.Events.Blocks.{is_block}
use Rattle.md_events.specs.Events.Spelled.{LeafRole, Role, role}

-- events that pass a place as they are; of no line; of no block
abbrev pub Pass : Place → List Event → Type 0
Pass place [] = Unit {0}
Pass place (e ∷ es) = (passes place e ≡ true) × Pass place es

abbrev pub NoLines : List Event → Type 0
NoLines [] = Unit {0}
NoLines (e ∷ es) = (has_lines (role e.name) ≡ false) × NoLines es

abbrev pub NoBlocks : List Event → Type 0
NoBlocks [] = Unit {0}
NoBlocks (e ∷ es) = (is_block (role e.name) ≡ false) × NoBlocks es

-- Events that pass.

-- events that pass stay as they are, before any others
pub spanned-passes : (place : Place) (es rest : List Event) → Pass place es →
    spanned_from place (es ++ rest) ≡ es ++ spanned_from place rest
spanned-passes place [] rest h = refl
spanned-passes place (e ∷ es) rest h =
    passes-given place e (es ++ rest) h.0 ∙ ap (λ (l : List Event). e ∷ l) (spanned-passes place es rest h.1)

-- Events of no line have their names there,
pub spanned-stays : (place : Place) (es rest : List Event) → NoLines es →
    spanned_from place (es ++ rest) ≡ map (renamed place) es ++ spanned_from place rest
spanned-stays place [] rest h = refl
spanned-stays place (e ∷ es) rest h =
    stays-given place e (es ++ rest) h.0
    ∙ ap (λ (l : List Event). renamed place e ∷ l) (spanned-stays place es rest h.1)

-- and inside of a line their own.
pub inside-passes : (es : List Event) → NoLines es → Pass Inside es
inside-passes [] h = tt
inside-passes (e ∷ es) h = (rw h.0 refl, inside-passes es h.1)

pub spanned-inside : (es rest : List Event) → NoLines es →
    spanned_from Inside (es ++ rest) ≡ es ++ spanned_from Inside rest
spanned-inside es rest h = spanned-passes Inside es rest (inside-passes es h)

-- What is ahead.

-- lines are of blocks
pub lines-block : (x : Role) → has_lines x ≡ true → is_block x ≡ true
lines-block (LeafRole kind) h = refl
lines-block _ h = absurd (let none : false ≡ true = h in cc)

no_block-line : (x : Role) → is_block x ≡ false → has_lines x ≡ false
no_block-line (LeafRole kind) h = absurd (let block : true ≡ false = h in cc)
no_block-line _ h = refl

pub blocks-lines : (es : List Event) → NoBlocks es → NoLines es
blocks-lines [] h = tt
blocks-lines (e ∷ es) h = (no_block-line (role e.name) h.0, blocks-lines es h.1)

-- what is of no block is passed by a look ahead
pub is_continued-past : (gap rest : List Event) → NoBlocks gap → is_continued (gap ++ rest) ≡ is_continued rest
is_continued-past [] rest h = refl
is_continued-past (e ∷ gap) rest h = rw h.0 (is_continued-past gap rest h.1)

-- Lines.

pub record IsBegin (e : Event) : Type 0 where
  pub kind : e.kind ≡ Enter
  pub lines : has_lines (role e.name) ≡ true
  pub link : links_back e.link ≡ false

pub record IsFurther (e : Event) : Type 0 where
  pub kind : e.kind ≡ Enter
  pub lines : has_lines (role e.name) ≡ true
  pub link : links_back e.link ≡ true

pub record IsEnd (e : Event) : Type 0 where
  pub kind : e.kind ≡ Exit
  pub lines : has_lines (role e.name) ≡ true

-- the begin of a further line is seen from before it
further-seen : (e : Event) (es : List Event) → IsFurther e → is_continued (e ∷ es) ≡ true
further-seen e es is =
    let block : is_block (role e.name) ≡ true = lines-block (role e.name) is.lines in
    rw (block, is.kind, is.lines, is.link) refl

by-turn : (place : Place) (e : Event) (es : List Event) (t : Turn) → turn e ≡ t →
    spanned_from place (e ∷ es) ≡
    given_by t place (is_continued es) e ++ spanned_from (place_by t place (is_continued es)) es
by-turn place e es t is =
    ap (λ (t : Turn). given_by t place (is_continued es) e ++ spanned_from (place_by t place (is_continued es)) es) is

turn-is : (e : Event) (kind : Kind) (further : Bool) → e.kind ≡ kind → has_lines (role e.name) ≡ true →
    links_back e.link ≡ further → turn e ≡ turn_by kind true further
turn-is e kind further k l m = rw (k, l, m) refl

-- the first line begins
pub line-begins : (place : Place) (e : Event) (es : List Event) → IsBegin e →
    spanned_from place (e ∷ es) ≡ e ∷ spanned_from Inside es
line-begins place e es is = by-turn place e es Begins (turn-is e Enter false is.kind is.lines is.link)

-- a further line begins: nothing is left of its begin
pub further-begins : (e : Event) (es : List Event) → IsFurther e →
    spanned_from Between (e ∷ es) ≡ spanned_from Inside es
further-begins e es is = by-turn Between e es IsContinued (turn-is e Enter true is.kind is.lines is.link)

end-turn : (e : Event) → IsEnd e → turn e ≡ Ends
end-turn e is = turn-is e Exit (links_back e.link) is.kind is.lines refl

-- a line ends, and so does its block
pub block-ends : (place : Place) (e : Event) (es : List Event) → IsEnd e → is_continued es ≡ false →
    spanned_from place (e ∷ es) ≡ e ∷ spanned_from Outside es
block-ends place e es is last =
    by-turn place e es Ends (end-turn e is)
    ∙ ap (λ (on : Bool). given_by Ends place on e ++ spanned_from (place_by Ends place on) es) last

-- a line ends, and its block continues: nothing is left of its end
pub line-ends : (place : Place) (e : Event) (es : List Event) → IsEnd e → is_continued es ≡ true →
    spanned_from place (e ∷ es) ≡ spanned_from Between es
line-ends place e es is on =
    by-turn place e es Ends (end-turn e is)
    ∙ ap (λ (on : Bool). given_by Ends place on e ++ spanned_from (place_by Ends place on) es) on

-- From the end of a line to the begin of the next: what is between them is left, with the names that it has there.
pub lines-joined : (place : Place) (e : Event) (gap : List Event) (f : Event) (rest : List Event) → IsEnd e →
    NoBlocks gap → IsFurther f →
    spanned_from place (e ∷ (gap ++ f ∷ rest)) ≡ map (renamed Between) gap ++ spanned_from Inside rest
lines-joined place e gap f rest end free further =
    line-ends place e (gap ++ f ∷ rest) end
    (is_continued-past gap (f ∷ rest) free ∙ further-seen f rest further)
    ∙ spanned-stays Between gap (f ∷ rest) (blocks-lines gap free)
    ∙ ap (λ (l : List Event). map (renamed Between) gap ++ l) (further-begins f rest further)

-- A line that continues: what is inside, what follows it, and then the next line.
pub line-joined : (inside : List Event) (e : Event) (gap : List Event) (f : Event) (rest : List Event) →
    NoLines inside → IsEnd e → NoBlocks gap → IsFurther f →
    spanned_from Inside (inside ++ e ∷ (gap ++ f ∷ rest))
    ≡ inside ++ (map (renamed Between) gap ++ spanned_from Inside rest)
line-joined inside e gap f rest plain end free further =
    spanned-inside inside (e ∷ (gap ++ f ∷ rest)) plain
    ∙ ap (λ (l : List Event). inside ++ l) (lines-joined Inside e gap f rest end free further)

-- The last line: it ends as it did.
pub line-last : (inside : List Event) (e : Event) (rest : List Event) → NoLines inside → IsEnd e →
    is_continued rest ≡ false →
    spanned_from Inside (inside ++ e ∷ rest) ≡ inside ++ e ∷ spanned_from Outside rest
line-last inside e rest plain end last =
    spanned-inside inside (e ∷ rest) plain ∙ ap (λ (l : List Event). inside ++ l) (block-ends Inside e rest end last)

-- Texts side by side.

-- Nor is what begins or ends another block.
pub is_continued-other : (e : Event) (es : List Event) → is_block (role e.name) ≡ true → begins_further e ≡ false →
    is_continued (e ∷ es) ≡ false
is_continued-other e es block other = rw (block, other) refl

-- Points.
