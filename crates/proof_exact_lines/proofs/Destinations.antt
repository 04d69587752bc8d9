-- Destinations, by their cells: which of the two kinds one is, and where the rows are after it.
use Rattle.std.proofs.Common.{◌≡◌, ℕ, suc, Bool, true, false, cond, List, [], ◌∷◌, ◌++◌, length, take, drop, map}
use Rattle.std.proofs.Common.{refl, sym, ap, ◌∙◌, subst, arith, append_assoc}
use Rattle.std.specs.Prelude.{◌==◌, Option, Some, None}
use Rattle.std.specs.List.{take_while}
use Rattle.std.proofs.lemmas.Bool.{eqb-true}
use Rattle.std.proofs.lemmas.List.{drop_at, length-append, length-map, take_at}
use Rattle.md_engine.specs.declared.event.Event.{Event}
use Rattle.md_engine.specs.declared.event.Name.TheVariants as n
use Rattle.md_engine.specs.declared.event.Point.{Point}
use Rattle.md_engine.specs.Meaning.{Cell}
use Rattle.md_meaning.specs.Ascii.{greater_than, less_than}
use Rattle.md_meaning.specs.Bytes.{after}
use Rattle.md_meaning.specs.Definition.{Destination, balanced, destination_at, is_raw_byte}
use Rattle.md_meaning.specs.Enclosed.{Lines}
use Rattle.md_meaning.specs.Rest.{is_white, trim_start}
use Rattle.md_link_definitions.specs.CellLines.{cell_lines}
use Rattle.md_link_definitions.specs.Chunks.{before_mark, from_mark}
use Rattle.md_link_definitions.specs.DestinationRule.{begins_literal, destination_last, destination_left}
use Rattle.md_link_definitions.specs.DestinationRule.{destination_part, literal_begin, literal_end, raw_begin, raw_end}
use Rattle.md_link_definitions.specs.DestinationRule.{text_part}
use Rattle.md_link_definitions.specs.Title.{is_mark}
use Rattle.md_link_definitions.specs.WholeCells.{whole_cells}
use Rattle.md_link_definitions.proofs.DestinationLemmas.{line-ends, line-more, raw-cons}
use Rattle.md_link_definitions.proofs.DestinationLines.{destination-valid, destination-texts, destination_lines}
use Rattle.md_link_definitions.proofs.DestinationLines.{destination_on, with_further}
use Rattle.md_link_definitions.proofs.DestinationWhole.{found-literal, found-neither, found-none, found-raw}
use Rattle.md_link_definitions.proofs.DestinationWhole.{literal_found, raw_found}
use Rattle.md_link_definitions.proofs.GapLines.{AreAt}
use Rattle.md_link_definitions.proofs.LineCells.{bytes-length, enclosed-marks, enclosed_by, line-no_feed, line-split}
use Rattle.md_link_definitions.proofs.LineCells.{mark-split, no_feed-split}
use Rattle.md_events.specs.Ahead.{begins_white, from_ending, line_bytes, line_cells, point_after}
use Rattle.md_events.specs.Events.Nested.{around, pair}
use Rattle.md_events.proofs.FeedLines.{NoFeed, bytes_of, point_after-append}
use Rattle.md_events.specs.Exact.Rows.{Row}
use Rattle.md_events.specs.Exact.Texts as Texts
use Rattle.md_events.specs.Exact.Texts.{after_destination, lines_left}
use Rattle.proof_content_laws.proofs.Defined.Along.{Turn}
use Rattle.proof_content_laws.proofs.Defined.Marked.{MarkedOf, marked-of}
use Rattle.proof_content_laws.proofs.Defined.Takes.{Takes, Walk, walk-whole}
use Rattle.proof_content_laws.proofs.Defined.Targets.{RawFront, raw-front, raw-no_feed, raw-no_white, target-of}
use Rattle.proof_exact_lines.proofs.Ahead.{Ahead, left-is}
use Rattle.proof_exact_lines.proofs.Along.{Along, rows-lines, rows-whole}
use Rattle.proof_exact_lines.proofs.Gaps.{first-byte}
use Rattle.proof_exact_lines.proofs.Strands.{chunks-one}
use Rattle.proof_exact_lines.proofs.Targets.{LiteralOn, RawOn, literal-on, literal_events, raw-on, raw_events}

-- What is before cells where a destination is found there.

-- bytes that may be in one, or a text between angle brackets
data Found (cells : List Cell) (d : Destination) : Type 0 where
  Raw : (c : Cell) (text rest : List Cell) → (c ∷ text) ++ rest ≡ cells → NoFeed (c ∷ text) →
      is_white c.byte ≡ false → (c.byte == less_than) ≡ false → bytes_of (c ∷ text) ≡ d.text → Found cells d
  Literal : (c : Cell) (text : List Cell) (k : Cell) (rest : List Cell) → c ∷ (text ++ (k ∷ rest)) ≡ cells →
      c.byte ≡ less_than → k.byte ≡ greater_than → NoFeed text → bytes_of text ≡ d.text → Found cells d

-- without angle brackets
raw-of : (c : Cell) (cs : List Cell) (d : Destination) → is_raw_byte c.byte ≡ true → (c.byte == less_than) ≡ false →
    raw_found (line_bytes (c ∷ cs)) ≡ Some d → Found (c ∷ cs) d
raw-of c cs d raw other e = by known.text known.split known.found (raw-no_feed known.text known.raw)
  where
    known : RawFront (c ∷ cs)
    known = raw-front (c ∷ cs)

    text : List ℕ
    text = take_while is_raw_byte (line_bytes (c ∷ cs))

    more : List ℕ
    more = after is_raw_byte (line_bytes (c ∷ cs))

    recorded : (x : Bool) → cond x (Some (record { text = text; rest = more })) None ≡ Some d → text ≡ d.text
    recorded true f =
        let v : Destination = record { text = text; rest = more } in
        let here : v ≡ d = cc in
        ap (λ (w : Destination). w.text) here
    recorded false f = let no : (let o : Option Destination = None in o) ≡ Some d = f in cc

    by : (front : List Cell) → front ++ known.rest ≡ c ∷ cs → text ≡ bytes_of front → NoFeed front →
        Found (c ∷ cs) d
    by [] split k none =
        let no : [] ≡ c.byte ∷ take_while is_raw_byte (line_bytes cs) = sym k ∙ raw-cons c cs raw in cc
    by (x ∷ xs) split k none =
        let same : x ≡ c = cc in
        Raw x xs known.rest split none (ap (λ (y : Cell). is_white y.byte) same ∙ raw-no_white c.byte raw)
        (ap (λ (y : Cell). y.byte == less_than) same ∙ other) (sym k ∙ recorded (balanced 0 false text) e)

-- between them
literal-of : (c : Cell) (cs text rest : List Cell) (d : Destination) → c.byte ≡ less_than → NoFeed text →
    (text ++ rest) ++ from_ending cs ≡ cs → literal_found (enclosed_by greater_than text rest) ≡ Some d →
    Found (c ∷ cs) d
literal-of c cs text [] d opens none split e = cc
literal-of c cs text (k ∷ ks) d opens none split e = go (k.byte == greater_than) refl
  where
    go : (x : Bool) → (k.byte == greater_than) ≡ x → Found (c ∷ cs) d
    go true closes =
        let v : Destination = record { text = bytes_of text; rest = bytes_of ks } in
        let some : Some v ≡ Some d = rw closes at e in
        let same : v ≡ d = cc in
        Literal c text k (ks ++ from_ending cs)
        (ap (λ (l : List Cell). c ∷ l) (sym (append_assoc text (k ∷ ks) (from_ending cs)) ∙ split)) opens
        (eqb-true k.byte greater_than closes) none (ap (λ (w : Destination). w.text) same)
    go false closes = let none : (let o : Option Destination = None in o) ≡ Some d = rw closes at e in cc

found-of : (cells : List Cell) (d : Destination) → destination_at (line_bytes cells) ≡ Some d → Found cells d
found-of [] d e = let none : (let o : Option Destination = None in o) ≡ Some d = sym found-none ∙ e in cc
found-of (c ∷ cs) d e = go (c.byte == 10) (c.byte == less_than) (is_raw_byte c.byte) refl refl refl
  where
    nothing : (let o : Option Destination = None in o) ≡ Some d → Found (c ∷ cs) d
    nothing bad = cc

    go : (x y z : Bool) → (c.byte == 10) ≡ x → (c.byte == less_than) ≡ y → is_raw_byte c.byte ≡ z → Found (c ∷ cs) d
    go true y z i j k = nothing (sym (ap destination_at (line-ends c cs i) ∙ found-none) ∙ e)
    go false true z i j k =
        let is = is_mark less_than greater_than in
        let line = line_cells cs in
        let split : before_mark is false line ++ from_mark is false line ≡ line = mark-split is false line in
        literal-of c cs (before_mark is false line) (from_mark is false line) d (eqb-true c.byte less_than j)
        (no_feed-split (before_mark is false line) (from_mark is false line)
        (subst NoFeed (sym split) (line-no_feed cs))).0
        (ap (λ (l : List Cell). l ++ from_ending cs) split ∙ line-split cs)
        (sym
        (ap destination_at (line-more c cs i) ∙ found-literal c.byte (line_bytes cs) j
        ∙ ap literal_found (enclosed-marks less_than greater_than false line))
        ∙ e)
    go false false true i j k =
        raw-of c cs d k j
        (sym
        (ap destination_at (line-more c cs i) ∙ found-raw c.byte (line_bytes cs) j k
        ∙ ap raw_found (sym (line-more c cs i)))
        ∙ e)
    go false false false i j k =
        nothing (sym (ap destination_at (line-more c cs i) ∙ found-neither c.byte (line_bytes cs) j k) ∙ e)

-- It begins with a byte that is neither whitespace nor an ending.
pub record FirstDark (cells : List Cell) : Type 0 where
  pub first : Cell
  pub others : List Cell
  pub cells_are : cells ≡ first ∷ others
  pub dark : is_white first.byte ≡ false
  pub plain : (first.byte == 10) ≡ false

pub destination-first : (cells : List Cell) (d : Destination) → destination_at (line_bytes cells) ≡ Some d →
    FirstDark cells
destination-first cells d e = go (found-of cells d e)
  where
    go : Found cells d → FirstDark cells
    go (Raw c text rest split none dark other same) = record {
      first = c;
      others = text ++ rest;
      cells_are = sym split;
      dark = dark;
      plain = none.0;
    }
    go (Literal c text k rest split opens closes none same) = record {
      first = c;
      others = text ++ (k ∷ rest);
      cells_are = sym split;
      dark = rw opens refl;
      plain = rw opens refl;
    }

-- After it a byte begins, or all ends.
pub destination-whole : (text : List ℕ) (last p : Point) (cells : List Cell) (turns : List Turn) (d : Destination) →
    destination_at (line_bytes cells) ≡ Some d → AreAt p cells → Walk text last p cells turns →
    (destination_last d cells p).vs ≡ 0
destination-whole text last p cells turns d e at walk = go (destination_left d cells) refl
  where
    go : (l : List Cell) → destination_left d cells ≡ l → (destination_last d cells p).vs ≡ 0
    go [] k =
        walk-whole text last (destination_last d cells p) (destination_left d cells) turns
        (target-of text last p cells turns d e walk).takes.walk
        (ap (λ (l : List Cell). begins_white l) k)
    go (c ∷ cs) k = (destination-valid p cells d at e).begins c cs k

-- Where it is found in rows.

-- the bytes of what follows it on the first line, before the other lines
destination-rest : (row : Row) (rows : List Row) (lines : List (List ℕ)) (text : List (List ℕ)) →
    destination_on (lines_left (row ∷ rows)) ≡ Some (record { text = text; rest = lines }) →
    after_destination (row ∷ rows) ≡ Texts.left (row ∷ rows) lines
destination-rest row rows lines text e = go (destination_at row.rest.bytes) refl e
  where
    further : List (List ℕ)
    further = map trim_start (map (λ (x : Row). x.rest.bytes) rows)

    size : length further ≡ length rows
    size = length-map (map (λ (x : Row). x.rest.bytes) rows) trim_start ∙ length-map rows (λ (x : Row). x.rest.bytes)

    go : (o : Option Destination) → destination_at row.rest.bytes ≡ o →
        with_further further o ≡ Some (record { text = text; rest = lines }) →
        after_destination (row ∷ rows) ≡ Texts.left (row ∷ rows) lines
    go None k f = let no : (let o : Option Lines = None in o) ≡ Some (record { text = text; rest = lines }) = f in cc
    go (Some d) k f =
        let u : Lines = record { text = d.text ∷ []; rest = d.rest ∷ further } in
        let v : Lines = record { text = text; rest = lines } in
        let some : Some u ≡ Some v = f in
        let same : u ≡ v = cc in
        ap
        (λ (o : Option Destination).
        elim o [
          | Some d ↦ Texts.ahead (row ∷ rows) (length rows) (length d.rest)
          | None ↦ []
        ]) k
        ∙ ap (λ (m : ℕ). Texts.ahead (row ∷ rows) m (length d.rest)) (sym size)
        ∙ ap (λ (w : Lines). Texts.left (row ∷ rows) w.rest) same

destination-found : (text : List ℕ) (row : Row) (rows : List Row) (p : Point) (cells : List Cell) (turns : List Turn)
    (d : Destination) →
    Along text (row ∷ rows) p cells turns → p.vs ≡ 0 → AreAt p cells → destination_at (line_bytes cells) ≡ Some d →
    (ends : List Row) (left : List Turn) →
    Along text ends (destination_last d cells p) (destination_left d cells) left →
    (destination_last d cells p).vs ≡ 0 → Ahead (row ∷ rows) ends → after_destination (row ∷ rows) ≡ ends
destination-found text row rows p cells turns d along whole at e ends left following end ahead =
    destination-rest row rows lines _
    (ap destination_on (sym (rows-lines text (row ∷ rows) p cells turns along whole)) ∙ destination-texts p cells at
    ∙ ap (destination_lines p cells) e)
    ∙ left-is (row ∷ rows) ends lines ahead
    (rows-lines text ends (destination_last d cells p) (destination_left d cells) left following end)
  where
    lines : List (List ℕ)
    lines = cell_lines false (whole_cells (destination_last d cells p) (destination_left d cells))

-- Its events.

-- what a destination has of rows, up to where these are after it
record PartOn (text : List ℕ) (last p : Point) (cells : List Cell) (d : Destination) (turns : List Turn)
    (rows : List Row) : Type 0 where
  ends : List Row
  left : List Turn
  takes : Takes text last p turns (destination_last d cells p) (destination_left d cells) left
      (destination_part (begins_literal cells) d.text cells p) (Texts.destination_part rows ends)
  along : Along text ends (destination_last d cells p) (destination_left d cells) left
  ahead : Ahead rows ends

-- without angle brackets
raw-events : (c : Cell) (cs : List Cell) (p : Point) → NoFeed (c ∷ cs) →
    raw_events p (c ∷ cs) ≡ raw_begin p ++ raw_end (point_after (c ∷ cs) p)
raw-events c cs p none =
    ap
    (λ (l : List Event).
    around n.DefinitionDestination p q
    (around n.DefinitionDestinationRaw p q (around n.DefinitionDestinationString p q l))) (chunks-one c cs p none)
  where
    q : Point
    q = point_after (c ∷ cs) p

raw-as : (text : List ℕ) (last p : Point) (cells front rest : List Cell) (d : Destination) (turns : List Turn)
    (rows ends : List Row) (left : List Turn) →
    begins_literal cells ≡ false → take (length d.text) cells ≡ front → drop (length d.text) cells ≡ rest →
    Takes text last p turns (point_after front p) rest left (raw_begin p ++ raw_end (point_after front p))
    (Texts.destination_part rows ends) → Along text ends (point_after front p) rest left → Ahead rows ends →
    PartOn text last p cells d turns rows
raw-as text last p cells front rest d turns rows ends left bare taken following takes along ahead = record {
  ends = ends;
  left = left;
  takes = rw (bare, taken, following) takes;
  along = rw (bare, taken, following) along;
  ahead = ahead;
}

raw-part : (text : List ℕ) (last p : Point) (c : Cell) (front rest cells : List Cell) (turns : List Turn) (row : Row)
    (rows : List Row) (more : List ℕ) →
    (c ∷ front) ++ rest ≡ cells → NoFeed (c ∷ front) → (c.byte == less_than) ≡ false → Walk text last p cells turns →
    Along text (row ∷ rows) p cells turns → p.vs ≡ 0 →
    (destination_last (record { text = bytes_of (c ∷ front); rest = more }) cells p).vs ≡ 0 →
    PartOn text last p cells (record { text = bytes_of (c ∷ front); rest = more }) turns (row ∷ rows)
raw-part text last p c front rest cells turns row rows more split none other walk along whole end =
    raw-as text last p cells all rest (record { text = bytes_of all; rest = more }) turns (row ∷ rows) on.ends on.left
    bare taken left
    (subst (λ (es : List Event). Takes text last p turns q rest on.left es
    (Texts.destination_part (row ∷ rows) on.ends))
    (raw-events c front p none) on.takes) on.along on.ahead
  where
    all : List Cell
    all = c ∷ front

    q : Point
    q = point_after all p

    bare : begins_literal cells ≡ false
    bare = ap begins_literal (sym split) ∙ other

    taken : take (length (bytes_of all)) cells ≡ all
    taken =
        ap (take (length (bytes_of all))) (sym split)
        ∙ take_at all rest (length (bytes_of all)) (sym (bytes-length all))

    left : drop (length (bytes_of all)) cells ≡ rest
    left =
        ap (drop (length (bytes_of all))) (sym split)
        ∙ drop_at all rest (length (bytes_of all)) (sym (bytes-length all))

    at : q ≡ destination_last (record { text = bytes_of all; rest = more }) cells p
    at = rw (bare, taken) refl

    here : Along text (row ∷ rows) p (all ++ rest) turns
    here = subst (λ (l : List Cell). Along text (row ∷ rows) p l turns) (sym split) along

    on : RawOn text last p all rest turns (row ∷ rows)
    on =
        raw-on text last p all rest turns (row ∷ rows)
        (ap (λ (b : ℕ). b == less_than) (first-byte text row rows p c (front ++ rest) turns here whole none.0) ∙ other)
        (subst (λ (l : List Cell). Walk text last p l turns) (sym split) walk) here (ap (λ (x : Point). x.vs) at ∙ end)

-- between them
literal-events : (p : Point) (o : Cell) (front : List Cell) (k : Cell) → NoFeed front →
    literal_events p o front k ≡
    literal_begin p o.after ++ text_part (bytes_of front) o.after (point_after front o.after)
    ++ literal_end (point_after front o.after) k.after
literal-events p o [] k none = refl
literal-events p o (c ∷ cs) k none =
    ap
    (λ (l : List Event).
    around n.DefinitionDestination p k.after
    (around n.DefinitionDestinationLiteral p k.after
    (pair n.DefinitionDestinationLiteralMarker p o.after ++ around n.DefinitionDestinationString o.after q l
    ++ pair n.DefinitionDestinationLiteralMarker q k.after))) (chunks-one c cs o.after none)
  where
    q : Point
    q = point_after (c ∷ cs) o.after

literal-as : (text : List ℕ) (last p : Point) (o : Cell) (front : List Cell) (k : Cell) (rest : List Cell)
    (d : Destination) (turns : List Turn) (rows ends : List Row) (left : List Turn) →
    begins_literal (o ∷ (front ++ (k ∷ rest))) ≡ true → take (length d.text) (front ++ (k ∷ rest)) ≡ front →
    point_after (take (suc (length d.text)) (front ++ (k ∷ rest))) o.after ≡ k.after →
    drop (suc (length d.text)) (front ++ (k ∷ rest)) ≡ rest →
    Takes text last p turns k.after rest left
    (literal_begin p o.after ++ text_part d.text o.after (point_after front o.after)
    ++ literal_end (point_after front o.after) k.after) (Texts.destination_part rows ends) →
    Along text ends k.after rest left → Ahead rows ends →
    PartOn text last p (o ∷ (front ++ (k ∷ rest))) d turns rows
literal-as text last p o front k rest d turns rows ends left lit taken end following takes along ahead = record {
  ends = ends;
  left = left;
  takes = rw (lit, taken, end, following) takes;
  along = rw (lit, end, following) along;
  ahead = ahead;
}

literal-part : (text : List ℕ) (last p : Point) (o : Cell) (front : List Cell) (k : Cell) (rest : List Cell)
    (turns : List Turn) (row : Row) (rows : List Row) (more : List ℕ) →
    o.byte ≡ less_than → k.byte ≡ greater_than → NoFeed front → Walk text last p (o ∷ (front ++ (k ∷ rest))) turns →
    Along text (row ∷ rows) p (o ∷ (front ++ (k ∷ rest))) turns → p.vs ≡ 0 →
    PartOn text last p (o ∷ (front ++ (k ∷ rest))) (record { text = bytes_of front; rest = more }) turns (row ∷ rows)
literal-part text last p o front k rest turns row rows more opens closes none walk along whole =
    literal-as text last p o front k rest (record { text = bytes_of front; rest = more }) turns (row ∷ rows) on.ends
    on.left lit taken end left
    (subst
    (λ (es : List Event). Takes text last p turns k.after rest on.left es (Texts.destination_part (row ∷ rows) on.ends))
    (literal-events p o front k none) on.takes) on.along on.ahead
  where
    lit : begins_literal (o ∷ (front ++ (k ∷ rest))) ≡ true
    lit = ap (λ (b : ℕ). b == less_than) opens

    size : length (front ++ (k ∷ [])) ≡ suc (length (bytes_of front))
    size =
        let one = length-append front (k ∷ []) in let bytes = bytes-length front in omega (arith, bytes, one)

    taken : take (length (bytes_of front)) (front ++ (k ∷ rest)) ≡ front
    taken = take_at front (k ∷ rest) (length (bytes_of front)) (sym (bytes-length front))

    end : point_after (take (suc (length (bytes_of front))) (front ++ (k ∷ rest))) o.after ≡ k.after
    end =
        ap (λ (l : List Cell). point_after (take (suc (length (bytes_of front))) l) o.after)
        (sym (append_assoc front (k ∷ []) rest))
        ∙ ap (λ (l : List Cell). point_after l o.after)
        (take_at (front ++ (k ∷ [])) rest (suc (length (bytes_of front))) size)
        ∙ point_after-append front (k ∷ []) o.after

    left : drop (suc (length (bytes_of front))) (front ++ (k ∷ rest)) ≡ rest
    left =
        ap (drop (suc (length (bytes_of front)))) (sym (append_assoc front (k ∷ []) rest))
        ∙ drop_at (front ++ (k ∷ [])) rest (suc (length (bytes_of front))) size

    marked : MarkedOf text last p o front k rest turns
    marked =
        marked-of text last p o front k rest turns (rw opens refl) (rw opens refl) (rw closes refl) (rw closes refl)
        walk

    on : LiteralOn text last p o front k rest turns (row ∷ rows)
    on =
        literal-on text last p o front k rest turns row rows
        (ap (λ (b : ℕ). b == less_than)
        (first-byte text row rows p o (front ++ (k ∷ rest)) turns along whole (rw opens refl))
        ∙ ap (λ (b : ℕ). b == less_than) opens)
        opens closes walk along marked.closes.1.whole

part-on : (text : List ℕ) (last p : Point) (cells : List Cell) (d : Destination) (turns : List Turn) (row : Row)
    (rows : List Row) → Found cells d → Walk text last p cells turns → Along text (row ∷ rows) p cells turns →
    p.vs ≡ 0 → (destination_last d cells p).vs ≡ 0 → PartOn text last p cells d turns (row ∷ rows)
part-on text last p cells d turns row rows (Raw c front rest split none dark other same) walk along whole end =
    subst (λ (t : List ℕ). PartOn text last p cells (of_text t) turns (row ∷ rows)) same
    (raw-part text last p c front rest cells turns row rows d.rest split none other walk along whole
    (subst (λ (t : List ℕ). (destination_last (of_text t) cells p).vs ≡ 0) (sym same) end))
  where
    of_text : List ℕ → Destination
    of_text t = record { text = t; rest = d.rest }
part-on text last p cells d turns row rows (Literal o front k rest split opens closes none same) walk along whole end =
    subst (λ (t : List ℕ). PartOn text last p cells (of_text t) turns (row ∷ rows)) same
    (subst (λ (l : List Cell). PartOn text last p l (of_text (bytes_of front)) turns (row ∷ rows)) split
    (literal-part text last p o front k rest turns row rows d.rest opens closes none
    (subst (λ (l : List Cell). Walk text last p l turns) (sym split) walk)
    (subst (λ (l : List Cell). Along text (row ∷ rows) p l turns) (sym split) along) whole))
  where
    of_text : List ℕ → Destination
    of_text t = record { text = t; rest = d.rest }

-- Up to where it is found.
pub record DestinationOn (text : List ℕ) (last p : Point) (cells : List Cell) (d : Destination) (turns : List Turn)
    (rows : List Row) : Type 0 where
  pub left : List Turn
  pub takes : Takes text last p turns (destination_last d cells p) (destination_left d cells) left
      (destination_part (begins_literal cells) d.text cells p)
      (Texts.destination_part rows (after_destination rows))
  pub along : Along text (after_destination rows) (destination_last d cells p) (destination_left d cells) left
  pub ahead : Ahead rows (after_destination rows)
  pub whole : (destination_last d cells p).vs ≡ 0
  pub at : AreAt (destination_last d cells p) (destination_left d cells)

pub destination-on : (text : List ℕ) (last p : Point) (cells : List Cell) (d : Destination) (turns : List Turn)
    (rows : List Row) → destination_at (line_bytes cells) ≡ Some d → Walk text last p cells turns →
    Along text rows p cells turns → p.vs ≡ 0 → DestinationOn text last p cells d turns rows
destination-on text last p cells d turns [] e walk along whole = absurd along
destination-on text last p cells d turns (row ∷ rows) e walk along whole = record {
  left = on.left;
  takes =
      subst
      (λ (l : List Row).
      Takes text last p turns (destination_last d cells p) (destination_left d cells) on.left
      (destination_part (begins_literal cells) d.text cells p) (Texts.destination_part (row ∷ rows) l)) (sym found)
      on.takes;
  along =
      subst (λ (l : List Row). Along text l (destination_last d cells p) (destination_left d cells) on.left)
      (sym found) on.along;
  ahead = subst (Ahead (row ∷ rows)) (sym found) on.ahead;
  whole = end;
  at = destination-valid p cells d at e;
}
  where
    at : AreAt p cells
    at = record { begins = λ c cs k. whole; are = rows-whole text (row ∷ rows) p cells turns along }

    end : (destination_last d cells p).vs ≡ 0
    end = destination-whole text last p cells turns d e at walk

    on : PartOn text last p cells d turns (row ∷ rows)
    on = part-on text last p cells d turns row rows (found-of cells d e) walk along whole end

    found : after_destination (row ∷ rows) ≡ on.ends
    found =
        destination-found text row rows p cells turns d along whole at e on.ends on.left on.along end on.ahead
