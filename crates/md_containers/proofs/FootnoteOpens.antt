-- A footnote definition opens by the cells of a line where it does by the definition of lines, and leaves what that
-- says.
use Rattle.std.proofs.Common.{◌≡◌, ℕ, zero, suc, ◌+◌, ◌^◌, ◌<◌, ◌≤◌, Bool, true, false, cond, ◌&&◌, nat_eq, List, []}
use Rattle.std.proofs.Common.{◌∷◌, ◌++◌, length, drop, Option, Some, None, refl, sym, ap, ap₂, ◌∙◌, subst, arith}
use Rattle.std.proofs.Common.{append_assoc}
use Rattle.std.specs.Prelude.{nat_le}
use Rattle.std.specs.List.{starts_with}
use Rattle.std.proofs.lemmas.Bool.{eqb-true}
use Rattle.std.proofs.lemmas.Bool.Decides.{nat_tests}
use Rattle.std.proofs.lemmas.List.{length-append}
use Rattle.md_engine.specs.declared.configuration.ParseOptions.{ParseOptions}
use Rattle.md_engine.specs.declared.event.Event.{Event}
use Rattle.md_engine.specs.declared.event.Name.TheVariants as n
use Rattle.md_engine.specs.declared.event.Point.{Point}
use Rattle.md_engine.specs.declared.tokenizer.Line.{Line}
use Rattle.md_engine.specs.Meaning.{Cell}
use Rattle.md_containers.specs.FootnotePrefix.{footnote_after, footnote_ended, footnote_labelled, footnote_marked}
use Rattle.md_containers.specs.FootnotePrefix.{footnote_new, footnote_opened}
use Rattle.md_containers.specs.FootnoteRule.{LabelCells, bracket_events, caret_events, label_ended, may_have}
use Rattle.md_containers.specs.ItemPrefix.{ItemPassed}
use Rattle.md_containers.specs.QuoteRule.{indent_events}
use Rattle.md_containers.proofs.AfterIndent.{IsAfter, following-indent}
use Rattle.md_containers.proofs.FootnoteLabel.{LabelIs, has_no_white, label-walk, rest}
use Rattle.md_containers.proofs.FootnoteShorter.{LabelFits, label-fits}
use Rattle.md_containers.proofs.ItemDigits.{byte-following, spread-one, starts, starts-spread, starts-stop}
use Rattle.md_containers.proofs.ItemLines.{ItemAgrees, LeavesRest}
use Rattle.md_containers.proofs.QuoteLines.{HasWhite, white-walk, white_end-same}
use Rattle.md_meaning.specs.Containers.{Labelled, Taken, footnote_by, footnote_label, opens_footnote}
use Rattle.md_meaning.specs.Lines.{begins_with}
use Rattle.md_meaning.specs.Rest.{Rest, following, after_indent, has_small_indent, indent}
use Rattle.md_meaning.specs.State.{InFootnote}
use Rattle.md_meaning.proofs.TextsLemmas.{NoEnding}
use Rattle.md_events.specs.Ahead.{begins_white, white_end, white_rest}
use Rattle.md_events.specs.Events.Inline.{pair_unless_empty}
use Rattle.md_events.specs.Events.Nested.{enter, exit, pair}
use Rattle.md_events.specs.Events.Places.{past_byte, past_text}
use Rattle.md_events.specs.Spaces.{any_size, small_indent}
use Rattle.md_events.proofs.FeedLines.{Stops, spread}
use Rattle.md_events.proofs.LostColumns.{White}
use Rattle.md_events.proofs.RestCells.{HasIndent, RestAt, indent-length}
use Rattle.md_events.proofs.RestCells.{indent-taken, lose-no_ending, past_rest, rest_cells, white-length}
use Rattle.md_events.proofs.InlineLemmas.{past_text-append}

-- The points of a prefix that begins at a point: after `[^`, after the label, and after `]:`.

abbrev pub label_start : Point → Point
label_start p = past_byte 94 (past_byte 91 p)

abbrev pub label_end : List ℕ → Point → Point
label_end label p = past_text label (label_start p)

abbrev pub colon_end : List ℕ → Point → Point
colon_end label p = past_byte 58 (past_byte 93 (label_end label p))

-- its bytes, without the whitespace after it
abbrev pub footnote_bytes : List ℕ → List ℕ → List ℕ
footnote_bytes label more = 91 ∷ 94 ∷ (label ++ (93 ∷ 58 ∷ more))

-- its events
abbrev pub footnote_prefix : List ℕ → Point → Point → List Event
footnote_prefix label p q =
    let start = label_start p in
    let end = label_end label p in
    let closed = past_byte 93 end in
    let following = colon_end label p in
    bracket_events p (past_byte 91 p)
    ++ (caret_events (past_byte 91 p) start
    ++ (label_ended end closed
    ++ (pair n.DefinitionMarker closed following
    ++ (pair_unless_empty n.SpaceOrTab following q ++ exit n.GfmFootnoteDefinitionPrefix q ∷ []))))

-- a label has 1 to 999 bytes
abbrev pub IsSized : List ℕ → Type 0
IsSized label = (1 ≤ length label) × (length label ≤ 999)

-- what is left of these bytes after all whitespace at their front, and where that is
pub record WhiteFrom (line : Line) (text past bytes : List ℕ) (p : Point) (stop : List Cell) (end : Point)
    (left : Rest) : Type 0 where
  pub column : ℕ
  pub valid : RestAt text past (rest column bytes) p
  pub end_is : end ≡ white_end (indent (rest column bytes)) (rest_cells line (rest column bytes) p ++ stop) p
  pub left_is : left ≡ after_indent (rest column bytes)

-- After the label.

-- what is left there, after these events: `:` and all whitespace belong to the prefix
record HasColon (line : Line) (text past : List ℕ) (column : ℕ) (bytes : List ℕ) (p : Point) (stop : List Cell)
    (label : List ℕ) (front : List Event) (passed : ItemPassed) (taken : Taken) : Type 0 where
  leaves : LeavesRest line text past (past_text bytes p) stop (spread line bytes p ++ stop) passed taken
  fewer : length passed.cells < length (spread line bytes p ++ stop)
  more : List ℕ
  bytes_are : bytes ≡ 58 ∷ more
  container : passed.container ≡ InFootnote label
  events : passed.events ≡
      front
      ++ (pair n.DefinitionMarker p (past_byte 58 p)
      ++ (pair_unless_empty n.SpaceOrTab (past_byte 58 p) passed.point
      ++ exit n.GfmFootnoteDefinitionPrefix passed.point ∷ []))
  white : White text (past_byte 58 p) passed.point
  padded : WhiteFrom line text past more (past_byte 58 p) stop passed.point taken.rest

-- whitespace after `:`, of which no more may be than there are cells
colon-opened : (line : Line) (text past : List ℕ) (column : ℕ) (bs : List ℕ) (p : Point) (stop : List Cell)
    (label : List ℕ) (front : List Event) →
    RestAt text past (rest column (58 ∷ bs)) p → NoEnding bs → Stops stop →
    length (spread line (58 ∷ bs) p ++ stop) < 2 ^ 63 →
    HasColon line text past column (58 ∷ bs) p stop label front
    (footnote_opened label (front ++ pair n.DefinitionMarker p (past_byte 58 p))
    (spread line bs (past_byte 58 p) ++ stop) (past_byte 58 p))
    (record { container = InFootnote label; rest = after_indent (rest (column + 1) bs) })
colon-opened line text past column bs p stop label front is h k short = record {
  leaves = record {
    container = refl;
    fed = indented.cells;
    valid = indented.valid;
    ends = indented.ends;
    no_ending = lose-no_ending (indent r) r h;
    shorter = omega (arith, size, less);
  };
  fewer = omega (arith, size, less);
  more = bs;
  bytes_are = refl;
  container = refl;
  events =
      append_assoc front marker (white ++ ended)
      ∙ ap (λ (es : List Event). front ++ (marker ++ (es ++ ended))) walked.events;
  white = walked.white;
  padded = record {
    column = column + 1;
    valid = valid;
    end_is = white_end-same line text past (indent r) any_size r q stop valid k refl fits;
    left_is = refl;
  };
}
  where
    q : Point
    q = past_byte 58 p

    r : Rest
    r = rest (column + 1) bs

    cells : List Cell
    cells = spread line bs q ++ stop

    end : Point
    end = white_end any_size cells q

    marker : List Event
    marker = pair n.DefinitionMarker p q

    white : List Event
    white = cond (begins_white cells) (pair n.SpaceOrTab q end) []

    ended : List Event
    ended = exit n.GfmFootnoteDefinitionPrefix end ∷ []

    valid : RestAt text past r q
    valid = byte-following text past column 58 bs p refl is

    size : length (spread line (58 ∷ bs) p ++ stop) ≡ suc (length cells)
    size = ap length (spread-one line 58 bs p stop refl)

    less : length (white_rest any_size cells) ≤ length cells
    less = white-length any_size cells

    fits : indent r ≤ any_size
    fits =
        let most = indent-length line text past r q valid in
        let all = length-append (rest_cells line r q) stop in
        omega (arith, most, all, size, short)

    indented : HasIndent line text past any_size r q stop (after_indent r)
    indented = indent-taken line text past any_size r q stop valid k fits

    walked : HasWhite text cells q end
    walked = white-walk line text past (indent r) any_size r q stop valid k refl fits

ended-none : (label : List ℕ) (front : List Event) (cells : List Cell) (p : Point) →
    starts (λ (b : ℕ). nat_eq b 58) cells ≡ false → footnote_ended label front cells p ≡ None
ended-none label front [] p e = refl
ended-none label front (c ∷ cs) p e = rw e refl

colon-agrees : (line : Line) (text past : List ℕ) (column : ℕ) (bytes : List ℕ) (p : Point) (stop : List Cell)
    (label : List ℕ) (front : List Event) (from : Rest) →
    RestAt text past (rest column bytes) p → NoEnding bytes → Stops stop →
    length (spread line bytes p ++ stop) < 2 ^ 63 → from ≡ rest (column + 1) (drop 1 bytes) →
    ItemAgrees (HasColon line text past column bytes p stop label front)
    (footnote_ended label front (spread line bytes p ++ stop) p)
    (cond (begins_with 58 bytes) (Some (record { container = InFootnote label; rest = after_indent from })) None)
colon-agrees line text past column [] p stop label front from is h k short e =
    subst (λ (o : Option ItemPassed). ItemAgrees (HasColon line text past column [] p stop label front) o None)
    (sym (ended-none label front stop p (starts-stop (λ (b : ℕ). nat_eq b 58) stop refl k))) tt
colon-agrees line text past column (b ∷ bs) p stop label front from is h k short e = go (nat_eq b 58) refl
  where
    taken : Rest → Taken
    taken r = record { container = InFootnote label; rest = after_indent r }

    Has : ℕ → Type 0
    Has c =
        RestAt text past (rest column (c ∷ bs)) p → length (spread line (c ∷ bs) p ++ stop) < 2 ^ 63 →
        ItemAgrees (HasColon line text past column (c ∷ bs) p stop label front)
        (footnote_ended label front (spread line (c ∷ bs) p ++ stop) p) (Some (taken from))

    here : Has 58
    here is short =
        subst
        (λ (l : List Cell).
        ItemAgrees (HasColon line text past column (58 ∷ bs) p stop label front) (footnote_ended label front l p)
        (Some (taken from)))
        (sym (spread-one line 58 bs p stop refl))
        (subst
        (λ (r : Rest).
        HasColon line text past column (58 ∷ bs) p stop label front
        (footnote_opened label (front ++ pair n.DefinitionMarker p (past_byte 58 p))
        (spread line bs (past_byte 58 p) ++ stop) (past_byte 58 p))
        (taken r))
        (sym e) (colon-opened line text past column bs p stop label front is h.1 k short))

    go : (x : Bool) → nat_eq b 58 ≡ x →
        ItemAgrees (HasColon line text past column (b ∷ bs) p stop label front)
        (footnote_ended label front (spread line (b ∷ bs) p ++ stop) p) (cond x (Some (taken from)) None)
    go true f = subst Has (sym (eqb-true b 58 f)) here is short
    go false f =
        subst
        (λ (o : Option ItemPassed).
        ItemAgrees (HasColon line text past column (b ∷ bs) p stop label front) o None)
        (sym
        (ended-none label front (spread line (b ∷ bs) p ++ stop) p
        (starts-spread (λ (b : ℕ). nat_eq b 58) line b bs p stop ∙ f)))
        tt

-- After the indent.

-- a prefix is at these bytes
pub record HasFootnote (line : Line) (text past : List ℕ) (bytes : List ℕ) (p : Point) (stop : List Cell)
    (front : List Event) (passed : ItemPassed) (taken : Taken) : Type 0 where
  pub leaves : LeavesRest line text past (past_text bytes p) stop (spread line bytes p ++ stop) passed taken
  pub fewer : length passed.cells < length (spread line bytes p ++ stop)
  pub label : List ℕ
  pub more : List ℕ
  pub bytes_are : bytes ≡ footnote_bytes label more
  pub sized : IsSized label
  pub dark : has_no_white label ≡ true
  pub container : passed.container ≡ InFootnote label
  pub events : passed.events ≡ front ++ footnote_prefix label p passed.point
  pub white : White text (colon_end label p) passed.point
  pub padded : WhiteFrom line text past more (colon_end label p) stop passed.point taken.rest

-- lists of events, one after another
joined : (a b c d e : List Event) → (((a ++ b) ++ c) ++ d) ++ e ≡ a ++ (b ++ (c ++ (d ++ e)))
joined a b c d e = simp append_assoc

drop-past : (xs ys : List ℕ) (k m : ℕ) → m ≡ length xs + k → drop m (xs ++ ys) ≡ drop k ys
drop-past [] ys k m e = ap (λ (j : ℕ). drop j ys) (omega (arith, e))
drop-past (x ∷ xs) ys k zero e = absurd (omega (arith, e))
drop-past (x ∷ xs) ys k (suc m) e = drop-past xs ys k m (omega (arith, e))

-- after the label, its brackets and what is between these and the text
following-label : (column : ℕ) (label after cs : List ℕ) → cs ≡ label ++ (93 ∷ after) →
    following (length label + 4) (rest column (91 ∷ 94 ∷ cs)) ≡
    rest (column + 1 + 1 + length label + 1 + 1) (drop 1 after)
following-label column label after cs e =
    ap₂ rest (omega arith)
    (ap (λ (m : ℕ). drop m (91 ∷ 94 ∷ cs)) four
    ∙ ap (drop (length label + 2)) e ∙ drop-past label (93 ∷ after) 2 (length label + 2) refl)
  where
    four : length label + 4 ≡ suc (suc (length label + 2))
    four = omega arith

-- two bytes and the cells after them
two-spread : (line : Line) (cs : List ℕ) (p : Point) (stop : List Cell) →
    length (spread line (91 ∷ 94 ∷ cs) p ++ stop) ≡ suc (suc (length (spread line cs (label_start p) ++ stop)))
two-spread line cs p stop =
    ap length (spread-one line 91 (94 ∷ cs) p stop refl)
    ∙ ap (λ (l : List Cell). suc (length l)) (spread-one line 94 cs (past_byte 91 p) stop refl)

-- a label that is read of the cells, and of the bytes after `[^`
labelled-agrees : (line : Line) (text past : List ℕ) (column : ℕ) (cs : List ℕ) (p : Point) (stop : List Cell)
    (front : List Event) (o : Option LabelCells) (t : Option Labelled) →
    LabelIs line text past (column + 1 + 1) cs (label_start p) stop o t →
    LabelFits (length (spread line cs (label_start p) ++ stop)) o → Stops stop →
    length (spread line (91 ∷ 94 ∷ cs) p ++ stop) < 2 ^ 63 →
    ItemAgrees (HasFootnote line text past (91 ∷ 94 ∷ cs) p stop front)
    (footnote_labelled
    ((front ++ bracket_events p (past_byte 91 p)) ++ caret_events (past_byte 91 p) (label_start p)) o)
    (footnote_by (rest column (91 ∷ 94 ∷ cs)) t)
labelled-agrees line text past column cs p stop front None None has fewer k short = tt
labelled-agrees line text past column cs p stop front None (Some m) has fewer k short = absurd has
labelled-agrees line text past column cs p stop front (Some l) None has fewer k short = absurd has
labelled-agrees line text past column cs p stop front (Some l) (Some m) has fewer k short =
    subst
    (λ (x : Option ItemPassed).
    ItemAgrees (HasFootnote line text past (91 ∷ 94 ∷ cs) p stop front) x
    (footnote_by (rest column (91 ∷ 94 ∷ cs)) (Some m)))
    (sym labelled) (go (nat_le 1 (length m.label)) (nat_le (length m.label) 999) refl refl)
  where
    label : List ℕ
    label = m.label

    end : Point
    end = label_end label p

    q : Point
    q = past_byte 93 end

    cells : List Cell
    cells = spread line m.after q ++ stop

    before : List Event
    before = (front ++ bracket_events p (past_byte 91 p)) ++ caret_events (past_byte 91 p) (label_start p)

    front' : List Event
    front' = before ++ label_ended end q

    from : Rest
    from = following (length label + 4) (rest column (91 ∷ 94 ∷ cs))

    taken : Taken
    taken = record { container = InFootnote label; rest = after_indent from }

    -- the label of the cells is that of the bytes
    labelled : footnote_labelled before (Some l) ≡
        cond (may_have (length label)) (footnote_ended label front' cells q) None
    labelled =
        ap
        (λ (bytes : List ℕ).
        cond (may_have (length bytes)) (footnote_ended bytes (before ++ label_ended l.end l.closer.after) l.rest
        l.closer.after) None)
        has.label
        ∙ ap
        (λ (r : Point).
        cond (may_have (length label)) (footnote_ended label (before ++ label_ended r l.closer.after) l.rest
        l.closer.after) None)
        has.end
        ∙ ap
        (λ (c : Cell).
        cond (may_have (length label)) (footnote_ended label (before ++ label_ended end c.after) l.rest c.after) None)
        has.closer
        ∙ ap
        (λ (x : List Cell). cond (may_have (length label)) (footnote_ended label front' x q) None) has.left

    shorter : length cells < length (spread line cs (label_start p) ++ stop)
    shorter = let size = ap length has.left in omega (arith, size, fewer)

    all : length (spread line (91 ∷ 94 ∷ cs) p ++ stop) ≡
        suc (suc (length (spread line cs (label_start p) ++ stop)))
    all = two-spread line cs p stop

    ends : past_text m.after q ≡ past_text (91 ∷ 94 ∷ cs) p
    ends =
        sym
        (ap (λ (l : List ℕ). past_text l (label_start p)) has.bytes_are
        ∙ past_text-append label (93 ∷ m.after) (label_start p))

    found : IsSized label → (x : Option ItemPassed) (t : Option Taken) →
        ItemAgrees
        (HasColon line text past (column + 1 + 1 + length label + 1) m.after q stop label front') x t →
        ItemAgrees (HasFootnote line text past (91 ∷ 94 ∷ cs) p stop front) x t
    found sized None None colon = tt
    found sized None (Some t) colon = absurd colon
    found sized (Some x) None colon = absurd colon
    found sized (Some x) (Some t) colon = record {
      leaves = record {
        container = colon.leaves.container;
        fed = colon.leaves.fed;
        valid = colon.leaves.valid;
        ends = colon.leaves.ends ∙ ends;
        no_ending = colon.leaves.no_ending;
        shorter = let le = colon.leaves.shorter in omega (arith, le, shorter, all);
      };
      fewer = let lt = colon.fewer in omega (arith, lt, shorter, all);
      label = label;
      more = colon.more;
      bytes_are =
          ap (λ (l : List ℕ). 91 ∷ 94 ∷ l)
          (has.bytes_are ∙ ap (λ (l : List ℕ). label ++ (93 ∷ l)) colon.bytes_are);
      sized = sized;
      dark = has.dark;
      container = colon.container;
      events =
          colon.events
          ∙ joined front (bracket_events p (past_byte 91 p)) (caret_events (past_byte 91 p) (label_start p))
          (label_ended end q) _;
      white = colon.white;
      padded = colon.padded;
    }

    colon : ItemAgrees
        (HasColon line text past (column + 1 + 1 + length label + 1) m.after q stop label front')
        (footnote_ended label front' cells q) (cond (begins_with 58 m.after) (Some taken) None)
    colon =
        colon-agrees line text past (column + 1 + 1 + length label + 1) m.after q stop label front' from has.valid
        has.no_ending k (omega (arith, shorter, all, short))
        (following-label column label m.after cs has.bytes_are)

    go : (x y : Bool) → nat_le 1 (length label) ≡ x → nat_le (length label) 999 ≡ y →
        ItemAgrees (HasFootnote line text past (91 ∷ 94 ∷ cs) p stop front)
        (cond (nat_le 1 (length label) && nat_le (length label) 999) (footnote_ended label front' cells q) None)
        (cond (nat_le 1 (length label) && nat_le (length label) 999 && begins_with 58 m.after) (Some taken) None)
    go true true e f =
        rw (e, f)
        (found (grind (arith, nat_tests), grind (arith, nat_tests)) (footnote_ended label front' cells q) _ colon)
    go true false e f = rw (e, f) tt
    go false y e f = rw e tt

-- The whole prefix.

bracket-none : (front : List Event) (cells : List Cell) (p : Point) →
    starts (λ (b : ℕ). nat_eq b 91) cells ≡ false → footnote_after front cells p ≡ None
bracket-none front [] p e = refl
bracket-none front (c ∷ cs) p e = rw e refl

caret-none : (front : List Event) (cells : List Cell) (p : Point) →
    starts (λ (b : ℕ). nat_eq b 94) cells ≡ false → footnote_marked front cells p ≡ None
caret-none front [] p e = refl
caret-none front (c ∷ cs) p e = rw e refl

-- whether `[^` comes first
abbrev begins : List ℕ → Bool
begins bytes = starts_with nat_eq bytes (91 ∷ 94 ∷ [])

no_bracket : (b : ℕ) (bs : List ℕ) → nat_eq b 91 ≡ false → begins (b ∷ bs) ≡ false
no_bracket b bs e = let other : nat_eq 91 b ≡ false = grind (arith, nat_tests) in rw other refl

no_caret : (c : ℕ) (cs : List ℕ) → nat_eq c 94 ≡ false → begins (91 ∷ c ∷ cs) ≡ false
no_caret c cs e = let other : nat_eq 94 c ≡ false = grind (arith, nat_tests) in rw other refl

-- what the definition has of these bytes
abbrev defined : ℕ → List ℕ → Option Taken
defined column bytes =
    cond (begins bytes) (footnote_by (rest column bytes) (footnote_label false (drop 2 bytes))) None

caret-agrees : (line : Line) (text past : List ℕ) (column : ℕ) (bs : List ℕ) (p : Point) (stop : List Cell)
    (front : List Event) →
    RestAt text past (rest column (91 ∷ bs)) p → NoEnding bs → Stops stop →
    length (spread line (91 ∷ bs) p ++ stop) < 2 ^ 63 →
    ItemAgrees (HasFootnote line text past (91 ∷ bs) p stop front)
    (footnote_marked (front ++ bracket_events p (past_byte 91 p)) (spread line bs (past_byte 91 p) ++ stop)
    (past_byte 91 p))
    (defined column (91 ∷ bs))
caret-agrees line text past column [] p stop front is h k short =
    subst
    (λ (o : Option ItemPassed). ItemAgrees (HasFootnote line text past (91 ∷ []) p stop front) o None)
    (sym
    (caret-none (front ++ bracket_events p (past_byte 91 p)) stop (past_byte 91 p)
    (starts-stop (λ (b : ℕ). nat_eq b 94) stop refl k)))
    tt
caret-agrees line text past column (c ∷ cs) p stop front is h k short = go (nat_eq c 94) refl
  where
    a : Point
    a = past_byte 91 p

    before : List Event
    before = front ++ bracket_events p a

    Agrees : ℕ → Type 0
    Agrees d =
        ItemAgrees (HasFootnote line text past (91 ∷ d ∷ cs) p stop front)
        (footnote_marked before (spread line (d ∷ cs) a ++ stop) a) (defined column (91 ∷ d ∷ cs))

    Has : ℕ → Type 0
    Has d =
        RestAt text past (rest column (91 ∷ d ∷ cs)) p →
        length (spread line (91 ∷ d ∷ cs) p ++ stop) < 2 ^ 63 → Agrees d

    here : Has 94
    here is short =
        subst
        (λ (l : List Cell).
        ItemAgrees (HasFootnote line text past (91 ∷ 94 ∷ cs) p stop front) (footnote_marked before l a)
        (defined column (91 ∷ 94 ∷ cs)))
        (sym (spread-one line 94 cs a stop refl))
        (labelled-agrees line text past column cs p stop front _ _
        (label-walk line text past (column + 1 + 1) false cs (label_start p) stop
        (byte-following text past (column + 1) 94 cs a refl (byte-following text past column 91 (94 ∷ cs) p refl is))
        h.1 k)
        (label-fits false (spread line cs (label_start p) ++ stop) (label_start p)) k short)

    go : (x : Bool) → nat_eq c 94 ≡ x → Agrees c
    go true e = subst Has (sym (eqb-true c 94 e)) here is short
    go false e =
        subst
        (λ (o : Option ItemPassed).
        ItemAgrees (HasFootnote line text past (91 ∷ c ∷ cs) p stop front) o (defined column (91 ∷ c ∷ cs)))
        (sym
        (caret-none before (spread line (c ∷ cs) a ++ stop) a
        (starts-spread (λ (b : ℕ). nat_eq b 94) line c cs a stop ∙ e)))
        (subst
        (λ (x : Bool).
        ItemAgrees (HasFootnote line text past (91 ∷ c ∷ cs) p stop front) None
        (cond x (footnote_by (rest column (91 ∷ c ∷ cs)) (footnote_label false cs)) None))
        (sym (no_caret c cs e)) tt)

following-agrees : (line : Line) (text past : List ℕ) (column : ℕ) (bytes : List ℕ) (p : Point) (stop : List Cell)
    (front : List Event) →
    RestAt text past (rest column bytes) p → NoEnding bytes → Stops stop →
    length (spread line bytes p ++ stop) < 2 ^ 63 →
    ItemAgrees (HasFootnote line text past bytes p stop front)
    (footnote_after front (spread line bytes p ++ stop) p) (defined column bytes)
following-agrees line text past column [] p stop front is h k short =
    subst (λ (o : Option ItemPassed). ItemAgrees (HasFootnote line text past [] p stop front) o None)
    (sym (bracket-none front stop p (starts-stop (λ (b : ℕ). nat_eq b 91) stop refl k))) tt
following-agrees line text past column (b ∷ bs) p stop front is h k short = go (nat_eq b 91) refl
  where
    Agrees : ℕ → Type 0
    Agrees c =
        ItemAgrees (HasFootnote line text past (c ∷ bs) p stop front)
        (footnote_after front (spread line (c ∷ bs) p ++ stop) p) (defined column (c ∷ bs))

    Has : ℕ → Type 0
    Has c =
        RestAt text past (rest column (c ∷ bs)) p → length (spread line (c ∷ bs) p ++ stop) < 2 ^ 63 → Agrees c

    here : Has 91
    here is short =
        subst
        (λ (l : List Cell).
        ItemAgrees (HasFootnote line text past (91 ∷ bs) p stop front) (footnote_after front l p)
        (defined column (91 ∷ bs)))
        (sym (spread-one line 91 bs p stop refl))
        (caret-agrees line text past column bs p stop front is h.1 k short)

    go : (x : Bool) → nat_eq b 91 ≡ x → Agrees b
    go true e = subst Has (sym (eqb-true b 91 e)) here is short
    go false e =
        subst
        (λ (o : Option ItemPassed).
        ItemAgrees (HasFootnote line text past (b ∷ bs) p stop front) o (defined column (b ∷ bs)))
        (sym
        (bracket-none front (spread line (b ∷ bs) p ++ stop) p
        (starts-spread (λ (c : ℕ). nat_eq c 91) line b bs p stop ∙ e)))
        (subst
        (λ (x : Bool).
        ItemAgrees (HasFootnote line text past (b ∷ bs) p stop front) None
        (cond x (footnote_by (rest column (b ∷ bs)) (footnote_label false (drop 2 (b ∷ bs)))) None))
        (sym (no_bracket b bs e)) tt)

-- The whole footnote definition.

-- a prefix is here, after the begin of the definition, and so much is left of the line after it
pub record OpensFootnote (line : Line) (text past : List ℕ) (p end : Point) (stop cells : List Cell)
    (passed : ItemPassed) (taken : Taken) : Type 0 where
  pub leaves : LeavesRest line text past end stop cells passed taken
  pub fewer : length passed.cells < length cells
  -- the label, where `[` is, and the bytes from there on
  pub label : List ℕ
  pub start : Point
  pub start_is : start ≡ white_end (length cells) cells p
  pub more : List ℕ
  pub text_is : drop start.index text ≡ footnote_bytes label more
  -- what of them is on the line, and the whitespace at its front
  pub line_more : List ℕ
  pub more_is : more ≡ line_more ++ past
  pub padded : WhiteFrom line text past line_more (colon_end label start) stop passed.point taken.rest
  pub whole : start.vs ≡ 0
  pub sized : IsSized label
  pub dark : has_no_white label ≡ true
  pub container : passed.container ≡ InFootnote label
  pub events : passed.events ≡
      enter n.GfmFootnoteDefinition p
      ∷ (pair_unless_empty n.SpaceOrTab p start ++ footnote_prefix label start passed.point)
  -- whitespace is before the prefix and after `:`
  pub white_before : White text p start
  pub white_after : White text (colon_end label start) passed.point

white-no_bracket : (cells : List Cell) → begins_white cells ≡ true → starts (λ (b : ℕ). nat_eq b 91) cells ≡ false
white-no_bracket [] e = refl
white-no_bracket (c ∷ cs) e = grind (arith, nat_tests)

-- it opens by the cells of a line where it does by the rest of the line
pub footnote-opens_agrees : (options : ParseOptions) (line : Line) (text past : List ℕ) (r : Rest) (stop : List Cell)
    (p : Point) →
    RestAt text past r p → NoEnding r.bytes → Stops stop → length (rest_cells line r p ++ stop) < 2 ^ 63 →
    let cells = rest_cells line r p ++ stop in
    ItemAgrees (OpensFootnote line text past p (past_rest r p) stop cells) (footnote_new options cells p)
    (opens_footnote options r)
unfolding opens_footnote
footnote-opens_agrees options line text past r stop p is h k short = go options.constructs.gfm_footnote_definition
  where
    cells : List Cell
    cells = rest_cells line r p ++ stop

    q : Point
    q = white_end (small_indent options) cells p

    front : List Event
    front = enter n.GfmFootnoteDefinition p ∷ indent_events options cells p

    Agrees : Option ItemPassed → Option Taken → Type 0
    Agrees o t = ItemAgrees (OpensFootnote line text past p (past_rest r p) stop cells) o t

    new : List Cell → Point → Option ItemPassed
    new left at = footnote_after front left at

    found : Rest → Option Taken
    found from = cond (begins from.bytes) (footnote_by from (footnote_label false (drop 2 from.bytes))) None

    whole : (bytes : List ℕ) → IsAfter line text past r p stop bytes q → (o : Option ItemPassed) (t : Option Taken) →
        ItemAgrees (HasFootnote line text past bytes q stop front) o t → Agrees o t
    whole bytes at None None note = tt
    whole bytes at None (Some t) note = absurd note
    whole bytes at (Some o) None note = absurd note
    whole bytes at (Some o) (Some t) note = record {
      leaves = record {
        container = note.leaves.container;
        fed = note.leaves.fed;
        valid = note.leaves.valid;
        ends = note.leaves.ends ∙ at.ends;
        no_ending = note.leaves.no_ending;
        shorter = let size = at.shorter in omega (arith, size, note.leaves.shorter);
      };
      fewer = let size = at.shorter in omega (arith, size, note.fewer);
      label = note.label;
      start = q;
      start_is = at.end_is;
      more = note.more ++ past;
      line_more = note.more;
      more_is = refl;
      padded = note.padded;
      text_is =
          at.valid.text_is ∙ ap (λ (l : List ℕ). l ++ past) note.bytes_are
          ∙ ap (λ (l : List ℕ). 91 ∷ 94 ∷ l) (append_assoc note.label (93 ∷ 58 ∷ note.more) past);
      whole = at.valid.cut;
      sized = note.sized;
      dark = note.dark;
      container = note.container;
      events =
          note.events
          ∙ ap
          (λ (es : List Event). enter n.GfmFootnoteDefinition p ∷ (es ++ footnote_prefix note.label q o.point))
          at.walked.events;
      white_before = at.walked.white;
      white_after = note.white;
    }

    small : Agrees (new (white_rest (small_indent options) cells) q)
        (cond (has_small_indent options r) (found (after_indent r)) None)
    small =
        following-indent options line text past r stop p Agrees new found is h k short tt
        (λ left over. bracket-none front left q (white-no_bracket left over))
        (λ bytes at.
        whole bytes at _ _
        (following-agrees line text past (after_indent r).column bytes q stop front at.valid at.no_ending k
        (let size = at.shorter in omega (arith, size, short))))

    -- a test before a test
    both : (x y : Bool) (t : Option Taken) → cond x (cond y t None) None ≡ cond (x && y) t None
    both true y t = refl
    both false y t = refl

    go : (x : Bool) →
        Agrees (cond x (new (white_rest (small_indent options) cells) q) None)
        (cond (x && has_small_indent options r && begins (after_indent r).bytes)
        (footnote_by (after_indent r) (footnote_label false (drop 2 (after_indent r).bytes))) None)
    go false = tt
    go true =
        subst (Agrees (new (white_rest (small_indent options) cells) q))
        (both (has_small_indent options r) (begins (after_indent r).bytes)
        (footnote_by (after_indent r) (footnote_label false (drop 2 (after_indent r).bytes))))
        small
