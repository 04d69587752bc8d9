-- HTML by the cells of a line: it begins, continues and ends where the line definition says by the bytes of the line's
-- rest.
use Rattle.std.proofs.Common.{◌≡◌, ℕ, zero, suc, ◌^◌, ◌<◌, Bool, true, false, cond, ◌&&◌, List, [], ◌∷◌, ◌++◌}
use Rattle.std.proofs.Common.{length, Option, Some, None, inl, inr, ◌⊎◌, refl, sym, ap, ◌∙◌, subst, arith}
use Rattle.std.specs.Prelude.{◌==◌, not}
use Rattle.std.specs.Option.{is_some}
use Rattle.std.proofs.lemmas.Bool.{and_parts, eqb-true}
use Rattle.std.proofs.lemmas.List.{length-append}
use Rattle.md_engine.specs.declared.configuration.ParseOptions.{ParseOptions}
use Rattle.md_engine.specs.declared.event.Point.{Point}
use Rattle.md_engine.specs.declared.tokenizer.Line.{Line}
use Rattle.md_engine.specs.declared.tokenizer.held_leaf.HeldLeaf.{HeldLeaf}
use Rattle.md_engine.specs.declared.tokenizer.held_leaf.HeldLeaf.TheVariants as held_leaf
use Rattle.md_engine.specs.Meaning.{Cell}
use Rattle.md_meaning.specs.Html.{HtmlKind, Complete, html_ends, html_kind}
use Rattle.md_meaning.specs.Leaves.{ParagraphContext, html_at, html_by, html_line, is_text}
use Rattle.md_meaning.specs.Rest.{Rest, has_small_indent, indent, is_blank, is_white, trim_start}
use Rattle.md_meaning.specs.Rest.{after_indent as rest_after}
use Rattle.md_meaning.proofs.TextsLemmas.{NoEnding}
use Rattle.md_literal.specs.Html.{ends_in_front, is_open_text}
use Rattle.md_literal.specs.HtmlLine.{after_indent, html_continues, html_keeps, html_keeps_on, kind_at, left_by}
use Rattle.md_literal.specs.HtmlLine.{left_of}
use Rattle.md_literal.specs.HtmlRule.{allowed, left}
use Rattle.md_literal.proofs.HtmlSpread.{Blind, Wide, blind-trim, byte, ended, ends-blind, kind-none, of-white, white}
use Rattle.md_literal.proofs.HtmlSpread.{wide-kind, wider}
use Rattle.md_events.specs.Ahead.{begins_white, line_bytes, line_cells, white_end, white_rest}
use Rattle.md_events.specs.Events.Places.{past_byte}
use Rattle.md_events.specs.Spaces.{small_indent}
use Rattle.md_events.proofs.FeedLines.{Stops, bytes_of, cell, columns_more, next_column, spread, tab_cells, tab_end}
use Rattle.md_events.proofs.RestCells.{HasIndent, RestAt, cells_by, indent-length, indent-over, indent-taken}
use Rattle.md_events.proofs.RestCells.{lose-no_ending, rest_cells}
use Rattle.md_events.proofs.RestLines.{bare-spread, blank-cells, indent-trims, large-room, rest-line, small-room}

-- Cells are bytes of which whitespace is wider: those of a tab,
tab-wide : (line : Line) (n b : ℕ) (p : Point) (bs : List ℕ) (cs : List Cell) → is_white b ≡ true →
    Wide bs (bytes_of cs) → Wide (9 ∷ bs) (bytes_of (tab_cells line n b p ++ cs))
tab-wide line zero b p bs cs w h = white 9 b bs (bytes_of cs) refl w h
tab-wide line (suc n) b p bs cs w h = wider 9 b bs _ refl w (tab-wide line n 32 (next_column p) bs cs refl h)

-- and those of a line
pub spread-wide : (line : Line) (bytes : List ℕ) (p : Point) → Wide bytes (bytes_of (spread line bytes p))
spread-wide line [] p = ended
spread-wide line (b ∷ bs) p = go (b == 9) refl (spread-wide line bs (past_byte b p))
  where
    more : List Cell
    more = spread line bs (past_byte b p)

    one : (x : Bool) → is_white b ≡ x → Wide bs (bytes_of more) → Wide (b ∷ bs) (b ∷ bytes_of more)
    one true w h = white b b bs (bytes_of more) w w h
    one false w h = byte b bs (bytes_of more) w h

    go : (x : Bool) → (b == 9) ≡ x → Wide bs (bytes_of more) →
        Wide (b ∷ bs)
        (bytes_of (cond x (tab_cells line (columns_more p) 9 p) (cell b (past_byte b p) line ∷ []) ++ more))
    go true e h =
        subst (λ (c : ℕ). Wide (c ∷ bs) (bytes_of (tab_cells line (columns_more p) 9 p ++ more)))
        (sym (eqb-true b 9 e)) (tab-wide line (columns_more p) 9 p bs more refl h)
    go false e h = one (is_white b) refl h

-- The kind.

-- What follows a small indent by cells is what follows all whitespace by bytes.
pub following-wide : (options : ParseOptions) (line : Line) (text past : List ℕ) (r : Rest) (p : Point)
    (stop : List Cell) →
    RestAt text past r p → NoEnding r.bytes → Stops stop → length (rest_cells line r p ++ stop) < 2 ^ 63 →
    has_small_indent options r ≡ true →
    Wide (trim_start r.bytes) (after_indent options (rest_cells line r p ++ stop))
following-wide options line text past r p stop is h k short small =
    subst (Wide (trim_start r.bytes)) (sym bytes)
    (subst (λ (l : List ℕ). Wide l (bytes_of (spread line b.bytes q))) (indent-trims r taken.none)
    (spread-wide line b.bytes q))
  where
    room : ℕ
    room = small_indent options

    b : Rest
    b = rest_after r

    q : Point
    q = white_end room (rest_cells line r p ++ stop) p

    taken : HasIndent line text past room r p stop b
    taken =
        let size = length-append (rest_cells line r p) stop in
        indent-taken line text past room r p stop is k
        (small-room options r (length (rest_cells line r p)) small (indent-length line text past r p is)
        (omega (arith, size, short)))

    bytes : after_indent options (rest_cells line r p ++ stop) ≡ bytes_of (spread line b.bytes q)
    bytes =
        ap line_bytes taken.cells
        ∙ ap bytes_of (rest-line line b q stop (lose-no_ending (indent r) r h) k)
        ∙ ap bytes_of (bare-spread line b q taken.none)

-- no kind begins with whitespace
white-none : (cells : List Cell) → begins_white cells ≡ true → html_kind (line_bytes cells) ≡ None
white-none [] w = cc
white-none (c ∷ cs) w =
    ap (λ (x : Bool). html_kind (bytes_of (cond x [] (c ∷ line_cells cs))))
    (of-white (λ b. b == 10) false refl refl c.byte w)
    ∙ kind-none c.byte (line_bytes cs) w

pub kind-cells : (options : ParseOptions) (line : Line) (text past : List ℕ) (r : Rest) (p : Point)
    (stop : List Cell) →
    RestAt text past r p → NoEnding r.bytes → Stops stop → length (rest_cells line r p ++ stop) < 2 ^ 63 →
    html_kind (after_indent options (rest_cells line r p ++ stop)) ≡
    cond (has_small_indent options r) (html_kind (trim_start r.bytes)) None
kind-cells options line text past r p stop is h k short = go (has_small_indent options r) refl
  where
    go : (x : Bool) → has_small_indent options r ≡ x →
        html_kind (after_indent options (rest_cells line r p ++ stop)) ≡ cond x (html_kind (trim_start r.bytes)) None
    go true small = sym (wide-kind (following-wide options line text past r p stop is h k short small))
    go false large =
        white-none (white_rest (small_indent options) (rest_cells line r p ++ stop))
        (indent-over line text past (small_indent options) r p stop is (large-room options r large))

-- The kind that begins by the cells, where the line meets a leaf.
at-cells : (options : ParseOptions) (on : HeldLeaf) (line : Line) (text past : List ℕ) (r : Rest) (p : Point)
    (stop : List Cell) →
    RestAt text past r p → NoEnding r.bytes → Stops stop → length (rest_cells line r p ++ stop) < 2 ^ 63 →
    kind_at options on (rest_cells line r p ++ stop) ≡
    cond (options.constructs.html_flow && has_small_indent options r) (allowed on (html_kind (trim_start r.bytes))) None
at-cells options on line text past r p stop is h k short =
    ap (λ (o : Option HtmlKind). cond options.constructs.html_flow (allowed on o) None)
    (kind-cells options line text past r p stop is h k short)
    ∙ go options.constructs.html_flow (has_small_indent options r) (html_kind (trim_start r.bytes))
  where
    go : (x y : Bool) (o : Option HtmlKind) →
        cond x (allowed on (cond y o None)) None ≡ cond (x && y) (allowed on o) None
    go true true o = refl
    go true false o = refl
    go false y o = refl

allowed-some : (on : HeldLeaf) (against : ParagraphContext) (r : Rest) → is_open_text on ≡ is_text against →
    (o : Option HtmlKind) → is_some (allowed on o) ≡ is_some (html_by against r o)
allowed-some on against r e None = refl
allowed-some on against r e (Some Complete) = rw e (go (is_text against))
  where
    go : (x : Bool) →
        is_some (cond x None (Some Complete)) ≡ is_some (cond (not x) (Some (html_line Complete [] r)) None)
    go true = refl
    go false = refl
allowed-some on against r e (Some kind) = refl

-- HTML begins by the cells where the line definition begins it.
pub kind-agrees : (options : ParseOptions) (on : HeldLeaf) (against : ParagraphContext) (line : Line)
    (text past : List ℕ) (r : Rest) (p : Point) (stop : List Cell) →
    is_open_text on ≡ is_text against → RestAt text past r p → NoEnding r.bytes → Stops stop →
    length (rest_cells line r p ++ stop) < 2 ^ 63 →
    is_some (kind_at options on (rest_cells line r p ++ stop)) ≡ is_some (html_at options against r)
unfolding html_at
kind-agrees options on against line text past r p stop e is h k short =
    ap is_some (at-cells options on line text past r p stop is h k short)
    ∙ go (options.constructs.html_flow && has_small_indent options r)
  where
    o : Option HtmlKind
    o = html_kind (trim_start r.bytes)

    go : (x : Bool) → is_some (cond x (allowed on o) None) ≡ is_some (cond x (html_by against r o) None)
    go true = allowed-some on against r e o
    go false = refl

allowed-is : (on : HeldLeaf) (o : Option HtmlKind) → (allowed on o ≡ None) ⊎ (allowed on o ≡ o)
allowed-is on (Some Complete) = go (is_open_text on)
  where
    go : (x : Bool) →
        (cond x None (Some Complete) ≡ None) ⊎ (cond x None (Some Complete) ≡ Some Complete)
    go true = inl refl
    go false = inr refl
allowed-is on _ = inr refl

-- It is the kind that begins by the bytes, after a small indent.
pub kind-found : (options : ParseOptions) (on : HeldLeaf) (line : Line) (text past : List ℕ) (r : Rest) (p : Point)
    (stop : List Cell) (kind : HtmlKind) →
    RestAt text past r p → NoEnding r.bytes → Stops stop → length (rest_cells line r p ++ stop) < 2 ^ 63 →
    kind_at options on (rest_cells line r p ++ stop) ≡ Some kind →
    (has_small_indent options r ≡ true) × (html_kind (trim_start r.bytes) ≡ Some kind)
kind-found options on line text past r p stop kind is h k short e =
    go (options.constructs.html_flow && has_small_indent options r) refl
    (sym (at-cells options on line text past r p stop is h k short) ∙ e)
  where
    o : Option HtmlKind
    o = html_kind (trim_start r.bytes)

    some : (allowed on o ≡ None) ⊎ (allowed on o ≡ o) → allowed on o ≡ Some kind → o ≡ Some kind
    some (inl none) f = let bad : None ≡ Some kind = sym none ∙ f in cc
    some (inr same) f = sym same ∙ f

    go : (x : Bool) → (options.constructs.html_flow && has_small_indent options r) ≡ x →
        cond x (allowed on o) None ≡ Some kind → (has_small_indent options r ≡ true) × (o ≡ Some kind)
    go true both f =
        ((and_parts options.constructs.html_flow (has_small_indent options r) both).1, some (allowed-is on o) f)
    go false both f = cc

-- What is open after a line.

-- after a small indent
pub left-cells : (options : ParseOptions) (line : Line) (text past : List ℕ) (r : Rest) (p : Point)
    (stop : List Cell) (kind : HtmlKind) →
    RestAt text past r p → NoEnding r.bytes → Stops stop → length (rest_cells line r p ++ stop) < 2 ^ 63 →
    has_small_indent options r ≡ true →
    left kind (after_indent options (rest_cells line r p ++ stop)) ≡ left kind r.bytes
left-cells options line text past r p stop kind is h k short small =
    let blind = ends-blind kind in
    ap (λ (x : Bool). cond x held_leaf.None (held_leaf.Html kind))
    (sym (blind.same _ _ (following-wide options line text past r p stop is h k short small))
    ∙ blind-trim (html_ends kind) blind r.bytes)

-- after a first line
pub keeps-cells : (options : ParseOptions) (on : HeldLeaf) (line : Line) (text past : List ℕ) (r : Rest) (p : Point)
    (stop : List Cell) →
    RestAt text past r p → NoEnding r.bytes → Stops stop → length (rest_cells line r p ++ stop) < 2 ^ 63 →
    is_some (kind_at options on (rest_cells line r p ++ stop)) ≡ true →
    html_keeps options on (rest_cells line r p ++ stop) ≡ left_by (html_kind (trim_start r.bytes)) r.bytes
keeps-cells options on line text past r p stop is h k short some = go (kind_at options on cells) refl some
  where
    cells : List Cell
    cells = rest_cells line r p ++ stop

    go : (o : Option HtmlKind) → kind_at options on cells ≡ o → is_some o ≡ true →
        html_keeps options on cells ≡ left_by (html_kind (trim_start r.bytes)) r.bytes
    go None e f = cc
    go (Some kind) e f =
        let found = kind-found options on line text past r p stop kind is h k short e in
        ap (λ (o : Option HtmlKind). left_by o (after_indent options cells)) e
        ∙ left-cells options line text past r p stop kind is h k short found.0
        ∙ ap (λ (o : Option HtmlKind). left_by o r.bytes) (sym found.1)

-- after a further one
blind-columns : (f : List ℕ → Bool) → Blind f → (line : Line) (n : ℕ) (p : Point) (cs : List Cell) →
    f (bytes_of (tab_cells line n 32 p ++ cs)) ≡ f (bytes_of cs)
blind-columns f blind line zero p cs = blind.skips 32 (bytes_of cs) refl
blind-columns f blind line (suc n) p cs =
    blind.skips 32 (bytes_of (tab_cells line n 32 (next_column p) ++ cs)) refl
    ∙ blind-columns f blind line n (next_column p) cs

ends-cells : (kind : HtmlKind) (line : Line) (r : Rest) (p : Point) (stop : List Cell) → NoEnding r.bytes →
    Stops stop → html_ends kind (line_bytes (rest_cells line r p ++ stop)) ≡ html_ends kind r.bytes
ends-cells kind line r p stop h k =
    ap (λ (l : List Cell). html_ends kind (bytes_of l)) (rest-line line r p stop h k) ∙ go r.spaces
  where
    blind : Blind (html_ends kind)
    blind = ends-blind kind

    go : (spaces : ℕ) → html_ends kind (bytes_of (cells_by line spaces r.bytes p)) ≡ html_ends kind r.bytes
    go zero = sym (blind.same _ _ (spread-wide line r.bytes p))
    go (suc n) =
        blind-columns (html_ends kind) blind line n p (spread line r.bytes (tab_end n p))
        ∙ sym (blind.same _ _ (spread-wide line r.bytes (tab_end n p)))

pub keeps_on-cells : (on : HeldLeaf) (line : Line) (r : Rest) (p : Point) (stop : List Cell) → NoEnding r.bytes →
    Stops stop → html_keeps_on on (rest_cells line r p ++ stop) ≡ left_of on r.bytes
keeps_on-cells (held_leaf.Html kind) line r p stop h k =
    ap (λ (x : Bool). cond x held_leaf.None (held_leaf.Html kind)) (ends-cells kind line r p stop h k)
keeps_on-cells _ line r p stop h k = refl

-- A further line continues by the cells where it does by the bytes.
pub proceeds-cells : (on : HeldLeaf) (line : Line) (r : Rest) (p : Point) (stop : List Cell) → NoEnding r.bytes →
    Stops stop → html_continues on (rest_cells line r p ++ stop) ≡ not (ends_in_front on && is_blank r.bytes)
proceeds-cells on line r p stop h k =
    ap (λ (x : Bool). not (ends_in_front on && x)) (blank-cells line r p stop h k)
