-- The trials of indented code, of its first line and of a further one, take a line to its end, or refuse it.
use Rattle.std.proofs.Common.{◌≡◌, ◌≤◌, ℕ, Bool, true, false, cond, ◌&&◌, List, length, refl, sym, ◌∙◌, ap, arith}
use Rattle.std.specs.Prelude.{not, Option, Some, None}
use Rattle.std.specs.Option.{is_some}
use Rattle.std.proofs.lemmas.Bool.{and_parts}
use Rattle.md_engine.specs.declared.configuration.ParseOptions.{ParseOptions}
use Rattle.md_engine.specs.declared.event.Event.{Event}
use Rattle.md_engine.specs.declared.tokenizer.Scratch.{Scratch}
use Rattle.md_engine.specs.declared.tokenizer.held_leaf.HeldLeaf.{HeldLeaf}
use Rattle.md_engine.specs.declared.tokenizer.held_leaf.HeldLeaf.TheVariants as held_leaf
use Rattle.md_engine.specs.Meaning.{Accepts, Cell, Fails, Here, Outcome, Refuses}
use Rattle.md_meaning.specs.Bytes.{is_end}
use Rattle.md_meaning.specs.Rest.{is_blank}
use Rattle.md_leaves.proofs.LeafSteps.{ended}
use Rattle.md_literal.specs.Code.{may_open}
use Rattle.md_literal.specs.CodeRule.{at_break, code_continues, further_after, further_begin, further_inside}
use Rattle.md_literal.specs.CodeRule.{further_line, in_blank, in_text, is_indented, line_at, line_by, or_blank}
use Rattle.md_literal.proofs.CodeWhole.{code-line, code-on}
use Rattle.md_events.specs.Ahead.{begins_white, line_bytes, white_rest}
use Rattle.md_events.specs.Spaces.{IsRest, calmed}
use Rattle.md_events.proofs.RestCells.{white-length}
use Rattle.md_events.proofs.SpacesTermination.{rest-calm}
use Rattle.proof_literal_laws.specs.Leaf.CodeIndented.{code_further, code_leaf, is_code}
use Rattle.proof_frame.proofs.FromEnding.{from_ending-again}
use Rattle.proof_frame.proofs.LeafLaws.{Shrinks, cond-shrinks, left_open, whole_line}
use Rattle.md_containers.proofs.QuoteCells.{ending-shorter}

-- What is held, by whether it takes the line.

abbrev pub kept_by : Bool → Option HeldLeaf
kept_by x = cond x (Some held_leaf.Code) None

pub kept-some : (x : Bool) → is_some (kept_by x) ≡ x
kept-some true = refl
kept-some false = refl

-- whether a first line of code is here
abbrev pub is_code_line : ParseOptions → HeldLeaf → List Cell → Bool
is_code_line options on cells =
    options.constructs.code_indented && may_open on && is_indented cells && not (is_blank (line_bytes cells))

kept-is : (x y : Bool) → is_some (kept_by x) ≡ y → kept_by x ≡ kept_by y
kept-is x y e = ap kept_by (sym (kept-some x) ∙ e)

calm : (s : Scratch) → IsRest s → calmed s ≡ s
calm s is = rest-calm s is ∙ sym is

-- A first line of code is taken to its end,
pub code-took : (options : ParseOptions) (cells : List Cell) (h : Here) → IsRest h.scratch →
    code_leaf.takes options h.flags.leaf cells ≡ true →
    code_leaf.trial options cells h ≡
    whole_line (code_leaf.adds options h.flags.leaf cells h.point)
    (left_open code_leaf.ends (code_leaf.keeps options h.flags.leaf cells h.point) h.flags.leaf) false cells h
code-took options cells h is e =
    code-line options cells h (calm h.scratch is)
    ∙ ap (line_by false (code_leaf.adds options h.flags.leaf cells h.point) cells h)
    (kept-is (is_code_line options h.flags.leaf cells) true e)

-- and any other is refused.
pub code-refused : (options : ParseOptions) (cells : List Cell) (h : Here) → IsRest h.scratch →
    code_leaf.takes options h.flags.leaf cells ≡ false → code_leaf.trial options cells h ≡ Refuses h.scratch h.flags
code-refused options cells h is e =
    code-line options cells h (calm h.scratch is)
    ∙ ap (line_by false (code_leaf.adds options h.flags.leaf cells h.point) cells h)
    (kept-is (is_code_line options h.flags.leaf cells) false e)

-- Where code is open a line continues it, which leaves it open,
proceeds-by : (leaf : HeldLeaf) (cells : List Cell) (x : Bool) → is_code leaf ≡ true →
    is_some (code_continues leaf cells) ≡ x →
    code_continues leaf cells ≡ kept_by x
proceeds-by held_leaf.Code cells x on e = go (is_blank (line_bytes cells)) (is_indented cells) e
  where
    go : (blank indented : Bool) →
        is_some (cond blank (Some held_leaf.Code) (cond indented (Some held_leaf.Code) None)) ≡ x →
        cond blank (Some held_leaf.Code) (cond indented (Some held_leaf.Code) None) ≡ kept_by x
    go true indented e = ap kept_by e
    go false true e = ap kept_by e
    go false false e = ap kept_by e
proceeds-by _ cells x on e = cc

-- and is noted as blank if it is,
pub code_further-took : (options : ParseOptions) (cells : List Cell) (h : Here) → IsRest h.scratch →
    code_further.takes options h.flags.leaf cells ≡ true →
    code_further.trial options cells h ≡
    whole_line (code_further.adds options h.flags.leaf cells h.point)
    (left_open code_further.ends (code_further.keeps options h.flags.leaf cells h.point) h.flags.leaf)
    (is_blank (line_bytes cells)) cells h
code_further-took options cells h is e =
    let leaf = h.flags.leaf in
    let both = and_parts (is_code leaf) (is_some (code_continues leaf cells)) e in
    code-on cells h (calm h.scratch is)
    ∙ ap (line_by (is_blank (line_bytes cells)) (code_further.adds options leaf cells h.point) cells h)
    (proceeds-by leaf cells true both.0 both.1)

-- or it is refused.
pub code_further-refused : (options : ParseOptions) (cells : List Cell) (h : Here) → is_code h.flags.leaf ≡ true →
    IsRest h.scratch → code_further.takes options h.flags.leaf cells ≡ false →
    code_further.trial options cells h ≡ Refuses h.scratch h.flags
code_further-refused options cells h on is e =
    let leaf = h.flags.leaf in
    let none : is_some (code_continues leaf cells) ≡ false =
    ap (λ (x : Bool). x && is_some (code_continues leaf cells)) (sym on) ∙ e in
    code-on cells h (calm h.scratch is)
    ∙ ap (line_by (is_blank (line_bytes cells)) (code_further.adds options leaf cells h.point) cells h)
    (proceeds-by leaf cells false on none)

-- What is left of a line.

text-shrinks : (n : ℕ) (cells : List Cell) (h : Here) → length cells ≤ n → Shrinks n (in_text cells h)
unfolding in_text
text-shrinks n cells h le =
    let less = ending-shorter cells in (omega (arith, le, less), from_ending-again cells)

break-shrinks : (n : ℕ) (cells : List Cell) (h : Here) → length cells ≤ n → Shrinks n (at_break cells h)
unfolding in_blank
break-shrinks n cells h le = cond-shrinks n (is_blank (line_bytes cells)) _ _ tt (text-shrinks n cells _ le)

line-shrinks : (may : Bool) (begin : Event) (cells : List Cell) (h : Here) →
    Shrinks (length cells) (line_at may begin cells h)
unfolding line_at
line-shrinks may begin cells h =
    cond-shrinks (length cells) (may && is_indented cells) _ _
    (break-shrinks (length cells) (white_rest 4 cells) _ (white-length 4 cells)) tt

pub code-shrinks : (options : ParseOptions) (cells : List Cell) (h : Here) →
    Shrinks (length cells) (code_leaf.trial options cells h)
code-shrinks options cells h = line-shrinks _ _ cells h

inside-shrinks : (n : ℕ) (cells : List Cell) (h : Here) → length cells ≤ n → Shrinks n (further_inside cells h)
unfolding further_inside
inside-shrinks n cells h le =
    let less = ending-shorter cells in
    cond-shrinks n (is_blank (line_bytes cells)) _ _ (omega (arith, le, less), from_ending-again cells) tt

after-shrinks : (n : ℕ) (cells : List Cell) (h : Here) → length cells ≤ n → Shrinks n (further_after cells h)
unfolding further_after
after-shrinks n cells h le = go (is_end (line_bytes cells)) refl
  where
    go : (x : Bool) → is_end (line_bytes cells) ≡ x → Shrinks n (further_after cells h)
    go true e = rw e (le, (ended cells e).ending)
    go false e = rw e (inside-shrinks n cells _ le)

begin-shrinks : (n : ℕ) (cells : List Cell) (h : Here) → length cells ≤ n → Shrinks n (further_begin cells h)
unfolding further_begin
begin-shrinks n cells h le =
    let less = white-length 4 cells in
    cond-shrinks n (begins_white cells) _ _ (after-shrinks n (white_rest 4 cells) _ (omega (arith, le, less)))
    (after-shrinks n cells h le)

or-shrinks : (n : ℕ) (o : Outcome) (cells : List Cell) (h : Here) → length cells ≤ n → Shrinks n o →
    Shrinks n (or_blank cells h o)
or-shrinks n (Accepts k rest) cells h le shrinks = shrinks
or-shrinks n (Refuses s g) cells h le shrinks = begin-shrinks n cells _ le
or-shrinks n Fails cells h le shrinks = absurd shrinks

pub code_further-shrinks : (options : ParseOptions) (cells : List Cell) (h : Here) →
    Shrinks (length cells) (code_further.trial options cells h)
code_further-shrinks options cells h =
    or-shrinks (length cells) (further_line cells h) cells h (omega arith) (line-shrinks _ _ cells h)
