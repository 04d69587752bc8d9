-- What is read of a line that is one definition.
use Rattle.std.proofs.Common.{◌≡◌, ℕ, zero, suc, ◌+◌, ◌^◌, ◌<◌, ◌≤◌, Bool, true, false, cond, List, [], ◌∷◌, ◌++◌}
use Rattle.std.proofs.Common.{length, take, drop, Option, Some, None, refl, sym, ◌∙◌, ap, arith, append_assoc}
use Rattle.std.specs.Prelude.{◌==◌, ◌||◌, not, nat_le, nat_lt, slice_index}
use Rattle.std.specs.List.{list_all, prefix_len}
use Rattle.std.proofs.lemmas.Bool.{and_parts, not-true, or_parts}
use Rattle.std.proofs.lemmas.Bool.Decides.{nat_tests}
use Rattle.std.proofs.lemmas.List.{append-nil, drop_at, take-append-drop, take_at}
use Rattle.md_meaning.specs.Ascii.{backslash, left_bracket, left_parenthesis, less_than, right_bracket}
use Rattle.md_meaning.specs.Ascii.{right_parenthesis}
use Rattle.md_meaning.specs.Definition.{destination_at as found_destination}
use Rattle.md_meaning.specs.Rest.{is_blank, is_white}
use Rattle.md_engine.specs.declared.event.Event.{Event}
use Rattle.md_engine.specs.declared.event.Name.TheVariants as n
use Rattle.md_engine.specs.declared.event.Point.{Point}
use Rattle.md_engine.specs.declared.tokenizer.Line.{Line}
use Rattle.md_engine.specs.Meaning.{Cell}
use Rattle.md_engine.specs.Place.{is_ending, next_point, seen_at}
use Rattle.md_engine.specs.TextFeed.{text_feed}
use Rattle.md_engine.specs.World.{Setting}
use Rattle.md_content.specs.WholeDefinitions as whole
use Rattle.md_content.specs.WholeDefinitions.{AreParts, definition_between, definition_part, is_label_byte}
use Rattle.md_content.specs.WholeDefinitions.{IsDefinition, label_part, past}
use Rattle.md_content.proofs.LineReads.{after-plain}
use Rattle.md_link_definitions.specs.Chunks.{before_mark, chunks, from_mark, string_link}
use Rattle.md_link_definitions.specs.DefinitionRule.{DefinitionParts, definition_end, definition_events}
use Rattle.md_link_definitions.specs.DefinitionRule.{definition_parts, definition_rest, destination_begin}
use Rattle.md_link_definitions.specs.DefinitionRule.{destination_end, destination_rest, is_literal, label_begin}
use Rattle.md_link_definitions.specs.DefinitionRule.{titled_part, parts_end, ended, ends_after, parts_labelled}
use Rattle.md_link_definitions.specs.DefinitionRule.{parts_rest, parts_with, title_following}
use Rattle.md_link_definitions.specs.DestinationRule.{begins_literal, destination_left, destination_part}
use Rattle.md_link_definitions.specs.DestinationRule.{destination_size, raw_begin, raw_end}
use Rattle.md_link_definitions.specs.GapRule.{begins_ending, ending_end, ending_part, ending_rest, gap_end, gap_part}
use Rattle.md_link_definitions.specs.GapRule.{white_part, gap_rest}
use Rattle.md_link_definitions.specs.Label.{is_bracket}
use Rattle.md_link_definitions.specs.LabelRule.{has_text, label_events, label_parts, text_size}
use Rattle.md_link_definitions.specs.TitleRule.{TitleParts}
use Rattle.md_link_definitions.specs.PlainDestination.{is_plain_byte, is_plain_destination}
use Rattle.md_link_definitions.proofs.PlainDestination.{plain-found}
use Rattle.md_events.specs.Ahead.{begins_white, line_bytes, point_after, white_end, white_rest}
use Rattle.md_events.specs.Events.Nested.{around, enter, enter_link, exit, pair}
use Rattle.md_events.specs.Look.{first_seen}
use Rattle.md_events.specs.Spaces.{any_size, ends_line}
use Rattle.md_events.proofs.AheadLemmas.{none-end, none-rest}
use Rattle.md_events.proofs.FeedLines.{Stops, after_last, cell, feed-next, past-next, stops-white}
use Rattle.md_events.proofs.PlacesLemmas.{at-next}

-- Cells of bytes that are one column wide.

abbrev pub row : Line → List ℕ → Point → List Cell
row line [] p = []
row line (b ∷ bs) p = cell b (after_last p) line ∷ row line bs (after_last p)

-- the point after them
abbrev pub over : List ℕ → Point → Point
over [] p = p
over (b ∷ bs) p = over bs (after_last p)

-- no control of ASCII
abbrev pub is_flat : ℕ → Bool
is_flat b = nat_le 32 b

-- it ends no line, and is no tab
pub flat-line : (b : ℕ) → is_flat b ≡ true → (is_ending b ≡ false) × ((b == 9) ≡ false)
flat-line b h =
    let lf : (b == 10) ≡ false = grind (arith, nat_tests) in
    let cr : (b == 13) ≡ false = grind (arith, nat_tests) in
    let tab : (b == 9) ≡ false = grind (arith, nat_tests) in
    (rw (lf, cr) refl, tab)

pub row-append : (line : Line) (xs bs : List ℕ) (p : Point) → row line (xs ++ bs) p ≡ row line xs p
    ++ row line bs (over xs p)
row-append line [] bs p = refl
row-append line (a ∷ xs) bs p =
    ap (λ (l : List Cell). cell a (after_last p) line ∷ l) (row-append line xs bs (after_last p))

row-length : (line : Line) (bs : List ℕ) (p : Point) → length (row line bs p) ≡ length bs
row-length line [] p = refl
row-length line (b ∷ bs) p = ap suc (row-length line bs (after_last p))

row-end : (line : Line) (bs : List ℕ) (p : Point) → point_after (row line bs p) p ≡ over bs p
row-end line [] p = refl
row-end line (b ∷ bs) p = row-end line bs (after_last p)

-- a line is fed as such cells
pub row-feed : (x : Setting) (bs rest : List ℕ) (p : Point) → x.limit < 2 ^ 61 → drop p.index x.bytes ≡ bs ++ rest →
    list_all is_flat bs ≡ true → p.index + length bs ≤ x.limit →
    text_feed x p ≡ row x.line bs p ++ text_feed x (over bs p)
row-feed x [] rest p small is flat within = refl
row-feed x (b ∷ bs) rest p small is flat within =
    let both = and_parts (is_flat b) (list_all is_flat bs) flat in
    let here = at-next p.index x.bytes b (bs ++ rest) is in
    let f = flat-line b both.0 in
    let e : is_ending (slice_index x.bytes p.index) ≡ false = ap is_ending here ∙ f.0 in
    let long : p.index + suc (length bs) ≤ x.limit = within in
    feed-next x p small (omega (arith, long))
    ∙ ap (λ (q : Point). cell (seen_at x.bytes p) q x.line ∷ text_feed x q) (after-plain x p e ∙ next here f.0 f.1)
    ∙ ap (λ (a : ℕ). cell a (after_last p) x.line ∷ text_feed x (after_last p)) (seen here f.0 f.1)
    ∙ ap (λ (l : List Cell). cell b (after_last p) x.line ∷ l)
    (row-feed x bs rest (after_last p) small (past-next p.index x.bytes b (bs ++ rest) is) both.1 (omega (arith, long)))
  where
    next : slice_index x.bytes p.index ≡ b → is_ending b ≡ false → (b == 9) ≡ false →
        next_point x.bytes p ≡ after_last p
    next h e t = rw (h, e, t) refl

    seen : slice_index x.bytes p.index ≡ b → is_ending b ≡ false → (b == 9) ≡ false → seen_at x.bytes p ≡ b
    seen h e t = rw (h, e, t) refl

-- The label.

pub record Inner (b : ℕ) : Type 0 where
  pub flat : is_flat b ≡ true
  bracket : is_bracket b ≡ false
  escape : (b == backslash) ≡ false

pub inner : (b : ℕ) → is_label_byte b ≡ true → Inner b
inner b h =
    let both = and_parts (nat_le 32 b) (not ((b == left_bracket) || (b == backslash) || (b == right_bracket))) h in
    let no = not-true ((b == left_bracket) || (b == backslash) || (b == right_bracket)) both.1 in
    let last = or_parts ((b == left_bracket) || (b == backslash)) (b == right_bracket) no in
    let first = or_parts (b == left_bracket) (b == backslash) last.0 in
    record { flat = both.0; bracket = rw (first.0, last.1) refl; escape = first.1 }

before-row : (line : Line) (bs : List ℕ) (p : Point) (c : Cell) (cs : List Cell) → list_all is_label_byte bs ≡ true →
    is_bracket c.byte ≡ true → before_mark is_bracket false (row line bs p ++ c ∷ cs) ≡ row line bs p
before-row line [] p c cs h mark = rw mark refl
before-row line (b ∷ bs) p c cs h mark =
    let both = and_parts (is_label_byte b) (list_all is_label_byte bs) h in
    let i = inner b both.0 in
    rw (i.bracket, i.escape)
    (ap (λ (l : List Cell). cell b (after_last p) line ∷ l) (before-row line bs (after_last p) c cs both.1 mark))

from-row : (line : Line) (bs : List ℕ) (p : Point) (c : Cell) (cs : List Cell) → list_all is_label_byte bs ≡ true →
    is_bracket c.byte ≡ true → from_mark is_bracket false (row line bs p ++ c ∷ cs) ≡ c ∷ cs
from-row line [] p c cs h mark = rw mark refl
from-row line (b ∷ bs) p c cs h mark =
    let both = and_parts (is_label_byte b) (list_all is_label_byte bs) h in
    let i = inner b both.0 in
    rw (i.bracket, i.escape) (from-row line bs (after_last p) c cs both.1 mark)

text-row : (line : Line) (bs : List ℕ) (p : Point) → list_all is_label_byte bs ≡ true → is_blank bs ≡ false →
    has_text (row line bs p) ≡ true
text-row line [] p h filled = let no : true ≡ false = filled in cc
text-row line (b ∷ bs) p h filled =
    go (is_white b) refl (λ more. text-row line bs (after_last p) both.1 more)
  where
    both : (is_label_byte b ≡ true) × (list_all is_label_byte bs ≡ true)
    both = and_parts (is_label_byte b) (list_all is_label_byte bs) h

    no_feed : (b == 10) ≡ false
    no_feed = (or_parts (b == 10) (b == 13) (flat-line b (inner b both.0).flat).0).0

    go : (w : Bool) → is_white b ≡ w → (is_blank bs ≡ false → has_text (row line bs (after_last p)) ≡ true) →
        has_text (row line (b ∷ bs) p) ≡ true
    go true e more = rw e (more (rw e at filled))
    go false e more = rw (e, no_feed) refl

size-row : (line : Line) (bs : List ℕ) (p : Point) → list_all is_label_byte bs ≡ true → p.vs ≡ 0 →
    text_size false (row line bs p) p ≡ length bs
size-row line [] p h whole = refl
size-row line (b ∷ bs) p h whole =
    let both = and_parts (is_label_byte b) (list_all is_label_byte bs) h in
    let no_feed = (or_parts (b == 10) (b == 13) (flat-line b (inner b both.0).flat).0).0 in
    let more = size-row line bs (after_last p) both.1 refl in
    rw (no_feed, whole) (omega (arith, more))

chunks-more : (line : Line) (bs : List ℕ) (p : Point) → list_all is_label_byte bs ≡ true →
    chunks true (row line bs p) p ≡ exit n.Data (over bs p) ∷ []
chunks-more line [] p h = refl
chunks-more line (b ∷ bs) p h =
    let both = and_parts (is_label_byte b) (list_all is_label_byte bs) h in
    let no_feed = (or_parts (b == 10) (b == 13) (flat-line b (inner b both.0).flat).0).0 in
    rw no_feed (chunks-more line bs (after_last p) both.1)

chunks-row : (line : Line) (bs : List ℕ) (p : Point) → list_all is_label_byte bs ≡ true → is_blank bs ≡ false →
    chunks false (row line bs p) p ≡ enter_link n.Data p string_link ∷ exit n.Data (over bs p) ∷ []
chunks-row line [] p h filled = let no : true ≡ false = filled in cc
chunks-row line (b ∷ bs) p h filled =
    let both = and_parts (is_label_byte b) (list_all is_label_byte bs) h in
    let no_feed = (or_parts (b == 10) (b == 13) (flat-line b (inner b both.0).flat).0).0 in
    rw no_feed
    (ap (λ (es : List Event). enter_link n.Data p string_link ∷ es) (chunks-more line bs (after_last p) both.1))

-- the label that these cells begin with
label-row : (line : Line) (bs : List ℕ) (p s : Point) (cs : List Cell) → list_all is_label_byte bs ≡ true →
    is_blank bs ≡ false → length bs ≤ 999 →
    label_parts (cell 91 (after_last p) line ∷ row line bs (after_last p) ++ cell 93 s line ∷ cs) ≡
    Some (record {
      opener = cell 91 (after_last p) line;
      text = row line bs (after_last p);
      closer = cell 93 s line;
      rest = cs;
    })
unfolding label_parts
label-row line bs p s cs plain filled short =
    let q = after_last p in
    let closer = cell 93 s line in
    let fits : nat_le (length bs) 999 ≡ true = grind (arith, nat_tests, short) in
    rw (
      before-row line bs q closer cs plain refl,
      from-row line bs q closer cs plain refl,
      text-row line bs q plain filled,
      size-row line bs q plain refl,
      fits,
    ) refl

-- The destination.

pub record Outer (b : ℕ) : Type 0 where
  pub flat : is_flat b ≡ true
  white : is_white b ≡ false

pub outer : (b : ℕ) → is_plain_byte b ≡ true → Outer b
outer b h =
    let both = and_parts (nat_lt 32 b)
    (not ((b == left_parenthesis) || (b == right_parenthesis) || (b == backslash) || (b == 127))) h in
    let above = both.0 in
    let space : (b == 32) ≡ false = grind (arith, nat_tests) in
    let tab : (b == 9) ≡ false = grind (arith, nat_tests) in
    record { flat = grind (arith, nat_tests); white = rw (space, tab) refl }

-- what a destination begins with
record Begins (line : Line) (bs : List ℕ) (p : Point) (rest : List Cell) : Type 0 where
  white : begins_white (row line bs p ++ rest) ≡ false
  ending : begins_ending (row line bs p ++ rest) ≡ false
  literal : begins_literal (row line bs p ++ rest) ≡ false

begins-row : (line : Line) (bs : List ℕ) (p : Point) (rest : List Cell) → is_plain_destination bs ≡ true →
    Begins line bs p rest
begins-row line [] p rest h = let no : false ≡ true = h in cc
begins-row line (b ∷ bs) p rest h =
    let both = and_parts (not (b == less_than)) (list_all is_plain_byte (b ∷ bs)) h in
    let each = and_parts (is_plain_byte b) (list_all is_plain_byte bs) both.1 in
    let o = outer b each.0 in
    record {
      white = o.white;
      ending = (or_parts (b == 10) (b == 13) (flat-line b o.flat).0).0;
      literal = not-true (b == less_than) both.0;
    }

pub plain-each : (bs : List ℕ) → is_plain_destination bs ≡ true → list_all is_plain_byte bs ≡ true
plain-each [] h = refl
plain-each (b ∷ bs) h = (and_parts (not (b == less_than)) (list_all is_plain_byte (b ∷ bs)) h).1

-- nothing is on the line where an ending or nothing does
stops-line : (rest : List Cell) → Stops rest → line_bytes rest ≡ []
stops-line [] h = refl
stops-line (c ∷ cs) h = rw h refl

-- the bytes of the line
line-row : (line : Line) (bs : List ℕ) (p : Point) (rest : List Cell) → list_all is_plain_byte bs ≡ true → Stops rest →
    line_bytes (row line bs p ++ rest) ≡ bs
line-row line [] p rest h stops = stops-line rest stops
line-row line (b ∷ bs) p rest h stops =
    let both = and_parts (is_plain_byte b) (list_all is_plain_byte bs) h in
    let no_feed = (or_parts (b == 10) (b == 13) (flat-line b (outer b both.0).flat).0).0 in
    rw no_feed (ap (λ (l : List ℕ). b ∷ l) (line-row line bs (after_last p) rest both.1 stops))

-- One space.

white-one : (room : ℕ) (c : Cell) (cs : List Cell) → 0 < room → is_white c.byte ≡ true → begins_white cs ≡ false →
    white_rest room (c ∷ cs) ≡ cs
white-one zero c cs some is dark = absurd (omega arith)
white-one (suc room) c cs some is dark = rw is (none-rest room cs dark)

white-past : (room : ℕ) (c : Cell) (cs : List Cell) (p : Point) → 0 < room → is_white c.byte ≡ true →
    begins_white cs ≡ false → white_end room (c ∷ cs) p ≡ c.after
white-past zero c cs p some is dark = absurd (omega arith)
white-past (suc room) c cs p some is dark = rw is (none-end room cs c.after dark)

any-some : 0 < any_size
any-some = omega arith

ending-none : (cells : List Cell) → begins_ending cells ≡ false → ending_rest cells ≡ cells
ending-none [] h = refl
ending-none (c ∷ cs) h = rw h refl

ending-here : (cells : List Cell) (p : Point) → begins_ending cells ≡ false → ending_end cells p ≡ p
ending-here [] p h = refl
ending-here (c ∷ cs) p h = rw h refl

ending-nothing : (cells : List Cell) (p : Point) → begins_ending cells ≡ false → ending_part cells p ≡ []
ending-nothing [] p h = refl
ending-nothing (c ∷ cs) p h = rw h refl

-- a gap that is one space
record OneGap (c : Cell) (cs : List Cell) (p : Point) : Type 0 where
  rest : gap_rest (c ∷ cs) ≡ cs
  end : gap_end (c ∷ cs) p ≡ c.after
  part : gap_part (c ∷ cs) p ≡ pair n.SpaceOrTab p c.after

one-gap : (c : Cell) (cs : List Cell) (p : Point) → is_white c.byte ≡ true → begins_white cs ≡ false →
    begins_ending cs ≡ false → OneGap c cs p
one-gap c cs p is dark line =
    let left : white_rest any_size (c ∷ cs) ≡ cs = white-one any_size c cs any-some is dark in
    let end : white_end any_size (c ∷ cs) p ≡ c.after = white-past any_size c cs p any-some is dark in
    record {
      rest = ap ending_rest left ∙ ending-none cs line;
      end =
          ap (λ (l : List Cell). ending_end l (white_end any_size (c ∷ cs) p)) left
          ∙ ending-here cs (white_end any_size (c ∷ cs) p) line ∙ end;
      part =
          ap (λ (q : Point). cond (is_white c.byte) (pair n.SpaceOrTab p q) []
          ++ ending_part (white_rest any_size (c ∷ cs)) q) end
          ∙ ap (λ (l : List Cell). cond (is_white c.byte) (pair n.SpaceOrTab p c.after) []
          ++ ending_part l c.after) left
          ∙ ap (λ (es : List Event). cond (is_white c.byte) (pair n.SpaceOrTab p c.after) [] ++ es)
          (ending-nothing cs c.after line)
          ∙ ap (λ (t : Bool). cond t (pair n.SpaceOrTab p c.after) [] ++ []) is;
    }

-- the line ends after the destination
stops-ends : (rest : List Cell) → Stops rest → ends_after rest ≡ true
stops-ends rest h = ap (λ (l : List Cell). ends_line (first_seen l))
    (none-rest any_size rest (stops-white rest h)) ∙ go rest h
  where
    go : (l : List Cell) → Stops l → ends_line (first_seen l) ≡ true
    go [] h = refl
    go (c ∷ cs) h = h

-- The whole definition, by the points of its parts.

abbrev pub parts_of : Line → List ℕ → List ℕ → Point → Point → Point → Point → List Cell → DefinitionParts
parts_of line label dest p s t u rest =
    let more : List Cell = cell 32 u line ∷ row line dest u ++ rest in
    let q = after_last p in
    record {
      cells = cell 91 q line ∷ row line label q ++ cell 93 s line ∷ cell 58 t line ∷ more;
      label = record {
        opener = cell 91 q line;
        text = row line label q;
        closer = cell 93 s line;
        rest =
            cell 58 t line ∷ more;
      };
      colon = cell 58 t line;
      more = more;
      destination = record { text = dest; rest = [] };
      title = None;
    }

pub parts-row : (line : Line) (label dest : List ℕ) (p s t u : Point) (rest : List Cell) →
    AreParts label dest → Stops rest →
    title_following rest ≡ None →
    definition_parts (parts_of line label dest p s t u rest).cells ≡ Some (parts_of line label dest p s t u rest)
unfolding definition_parts
parts-row line label dest p s t u rest are stops untitled =
    ap (λ (l : List Cell). parts_labelled d.cells (label_parts l)) (none-rest any_size d.cells refl)
    ∙ ap (parts_labelled d.cells)
    (label-row line label p s d.label.rest are.plain_label are.filled are.short)
    ∙ ap (parts_with d.cells d.label d.colon d.more)
    (ap found_destination (ap line_bytes gap.rest ∙ line-row line dest u rest
    (plain-each dest are.plain_destination) stops)
    ∙ plain-found dest are.plain_destination)
    ∙ ap
    (λ (o : Option TitleParts).
    ended (record {
      cells = d.cells;
      label = d.label;
      colon = d.colon;
      more = d.more;
      destination = d.destination;
      title = o;
    }))
    (ap title_following left ∙ untitled)
    ∙ ap (λ (x : Bool). cond x (Some d) None) (ap ends_after left ∙ stops-ends rest stops)
  where
    d : DefinitionParts
    d = parts_of line label dest p s t u rest

    begins : Begins line dest u rest
    begins = begins-row line dest u rest are.plain_destination

    gap : OneGap (cell 32 u line) (row line dest u ++ rest) t
    gap = one-gap (cell 32 u line) (row line dest u ++ rest) t refl begins.white begins.ending

    left : destination_left d.destination (gap_rest d.more) ≡ rest
    left =
        ap (destination_left d.destination) gap.rest
        ∙ ap (λ (x : Bool). drop (destination_size x dest) (row line dest u ++ rest)) begins.literal
        ∙ drop_at (row line dest u) rest (length dest) (row-length line dest u)

-- its events, where it ends, and what follows it
pub record IsRead (d : DefinitionParts) (p q r s t u v : Point) (rest : List Cell) : Type 0 where
  pub events : definition_events d p ≡ definition_between p q r s t u v
  pub end : definition_end d ≡ v
  pub left : definition_rest d ≡ rest

-- by its parts
abbrev shape : Point → Point → Point → Point → Point → List Event → List Event → List Event → List Event → List Event
shape p b e s t label gap destination white =
    around n.Definition b e (label ++ pair n.DefinitionMarker s t ++ gap ++ destination ++ white)

events-by : (d : DefinitionParts) (p q r s t u v : Point) → begins_white d.cells ≡ false → d.title ≡ None →
    d.label.closer.after ≡ s → d.colon.after ≡ t → label_events d.label p ≡ label_part p q r s →
    gap_part d.more d.colon.after ≡ pair n.SpaceOrTab t u →
    destination_part (is_literal d) d.destination.text (gap_rest d.more) (destination_begin d) ≡
    whole.destination_part u v →
    definition_end d ≡ v → white_part (parts_rest d) (parts_end d) ≡ [] →
    definition_events d p ≡ definition_between p q r s t u v
events-by d p q r s t u v dark untitled closer colon label gap destination ends tail =
    ap (λ (x : Bool). cond x (pair n.SpaceOrTab p (label_begin d p)) [] ++ body d.title) dark
    ∙ ap body untitled
    ∙ ap (λ (es : List Event). enter n.Definition (label_begin d p) ∷ (es ++ white0)
    ++ exit n.Definition (definition_end d) ∷ [])
    (append-nil
    (label_events d.label (label_begin d p) ++ pair n.DefinitionMarker d.label.closer.after d.colon.after
    ++ gap_part d.more d.colon.after
    ++ destination_part (is_literal d) d.destination.text (gap_rest d.more) (destination_begin d)))
    ∙ ap (λ (b : Point). shape p b e0 s0 t0 (label_events d.label b) gap0 destination0 white0)
    (none-end any_size d.cells p dark)
    ∙ ap (λ (e : Point). shape p p e s0 t0 label0 gap0 destination0 white0) ends
    ∙ ap (λ (a : Point). shape p p v a t0 label0 gap0 destination0 white0) closer
    ∙ ap (λ (a : Point). shape p p v s a label0 gap0 destination0 white0) colon
    ∙ ap (λ (es : List Event). shape p p v s t es gap0 destination0 white0) label
    ∙ ap (λ (es : List Event). shape p p v s t (label_part p q r s) es destination0 white0) gap
    ∙ ap (λ (es : List Event). shape p p v s t (label_part p q r s) (pair n.SpaceOrTab t u) es white0) destination
    ∙ ap
    (λ (es : List Event).
    shape p p v s t (label_part p q r s) (pair n.SpaceOrTab t u) (whole.destination_part u v) es)
    tail
  where
    body : Option TitleParts → List Event
    body title =
        around n.Definition (label_begin d p) (definition_end d)
        (label_events d.label (label_begin d p) ++ pair n.DefinitionMarker d.label.closer.after d.colon.after
        ++ gap_part d.more d.colon.after
        ++ destination_part (is_literal d) d.destination.text (gap_rest d.more) (destination_begin d)
        ++ titled_part title (destination_rest d) (destination_end d) ++ white_part (parts_rest d) (parts_end d))

    e0 : Point
    e0 = definition_end d

    s0 : Point
    s0 = d.label.closer.after

    t0 : Point
    t0 = d.colon.after

    label0 : List Event
    label0 = label_events d.label p

    gap0 : List Event
    gap0 = gap_part d.more d.colon.after

    destination0 : List Event
    destination0 = destination_part (is_literal d) d.destination.text (gap_rest d.more) (destination_begin d)

    white0 : List Event
    white0 = white_part (parts_rest d) (parts_end d)

pub read-row : (line : Line) (label dest : List ℕ) (p s t u : Point) (rest : List Cell) →
    AreParts label dest → Stops rest →
    IsRead (parts_of line label dest p s t u rest) p (after_last p) (over label (after_last p)) s t u (over dest u) rest
read-row line label dest p s t u rest are stops = record {
  events =
      events-by d p q r s t u v refl refl refl refl labelled gap.part
      (at_gap (λ l b. destination_part (begins_literal l) dest l b)
      ∙ ap (λ (x : Bool). destination_part x dest cells u) begins.literal
      ∙ ap (λ (b : Point). raw_begin u ++ raw_end b) taken)
      ends
      (ap (λ (l : List Cell). white_part l (parts_end d)) left
      ∙ ap (λ (x : Bool). cond x (pair n.SpaceOrTab (parts_end d) (white_end any_size rest (parts_end d))) [])
      (stops-white rest stops));
  end = ends;
  left = ap (white_rest any_size) left ∙ none-rest any_size rest (stops-white rest stops);
}
  where
    d : DefinitionParts
    d = parts_of line label dest p s t u rest

    q : Point
    q = after_last p

    r : Point
    r = over label q

    v : Point
    v = over dest u

    cells : List Cell
    cells = row line dest u ++ rest

    begins : Begins line dest u rest
    begins = begins-row line dest u rest are.plain_destination

    gap : OneGap (cell 32 u line) cells t
    gap = one-gap (cell 32 u line) cells t refl begins.white begins.ending

    at_gap : {A : Type 0} (f : List Cell → Point → A) → f (gap_rest d.more) (gap_end d.more t) ≡ f cells u
    at_gap f = ap (λ (l : List Cell). f l (gap_end d.more t)) gap.rest ∙ ap (f cells) gap.end

    taken : point_after (take (length dest) cells) u ≡ v
    taken =
        ap (λ (l : List Cell). point_after l u) (take_at (row line dest u) rest (length dest) (row-length line dest u))
        ∙ row-end line dest u

    left : destination_left d.destination (gap_rest d.more) ≡ rest
    left =
        ap (destination_left d.destination) gap.rest
        ∙ ap (λ (x : Bool). drop (destination_size x dest) cells) begins.literal
        ∙ drop_at (row line dest u) rest (length dest) (row-length line dest u)

    destination_ends : destination_end d ≡ v
    destination_ends =
        at_gap (λ l b. point_after (take (destination_size (begins_literal l) dest) l) b)
        ∙ ap (λ (x : Bool). point_after (take (destination_size x dest) cells) u) begins.literal
        ∙ taken

    ends : definition_end d ≡ v
    ends =
        ap (λ (l : List Cell). white_end any_size l (parts_end d)) left
        ∙ none-end any_size rest (parts_end d) (stops-white rest stops)
        ∙ destination_ends

    labelled : label_events d.label p ≡ label_part p q r s
    labelled =
        ap (λ (b : Point). label_shape b (chunks false (row line label q) q)) (row-end line label q)
        ∙ ap (label_shape r) (chunks-row line label q are.plain_label are.filled)
      where
        label_shape : Point → List Event → List Event
        label_shape b text =
            around n.DefinitionLabel p s
            (pair n.DefinitionLabelMarker p q ++ around n.DefinitionLabelString q b text
            ++ pair n.DefinitionLabelMarker b s)

-- What a look and a writer give.

prefix-all : (f : ℕ → Bool) (xs : List ℕ) → list_all f (take (prefix_len f xs) xs) ≡ true
prefix-all f [] = refl
prefix-all f (x ∷ xs) = go (f x) refl (prefix-all f xs)
  where
    go : (t : Bool) → f x ≡ t → list_all f (take (prefix_len f xs) xs) ≡ true →
        list_all f (take (prefix_len f (x ∷ xs)) (x ∷ xs)) ≡ true
    go true e more =
        let one : 1 + prefix_len f xs ≡ suc (prefix_len f xs) = omega arith in
        rw e (ap (λ (k : ℕ). list_all f (take k (x ∷ xs))) one ∙ rw e more)
    go false e more = rw e refl

pub sized : (line text front back dest : List ℕ) (n : ℕ) → line ≡ 91 ∷ text → n ≡ prefix_len is_label_byte text →
    front ≡ take n text → back ≡ drop n text → back ≡ 93 ∷ 58 ∷ 32 ∷ dest → length front ≤ 999 →
    is_blank front ≡ false → is_plain_destination dest ≡ true → IsDefinition line (length front) (length dest)
sized line text front back dest n begins size label rest closes short filled plain = record {
  label = front;
  destination = dest;
  parts = record {
    plain_label =
        ap (list_all is_label_byte) (label ∙ ap (λ (k : ℕ). take k text) size) ∙ prefix-all is_label_byte text;
    filled = filled;
    short = short;
    plain_destination = plain;
  };
  bytes =
      begins
      ∙ ap (λ (l : List ℕ). 91 ∷ l) (sym (take-append-drop n text))
      ∙ ap (λ (l : List ℕ). 91 ∷ l ++ drop n text) (sym label)
      ∙ ap (λ (l : List ℕ). 91 ∷ front ++ l) (sym rest ∙ closes);
  label_size = refl;
  destination_size = refl;
}

joined : (old : List Event) (a z : Event) (l m g d : List Event) →
    (((((old ++ a ∷ []) ++ l) ++ m) ++ g) ++ d) ++ z ∷ [] ≡ old ++ (a ∷ (l ++ m ++ g ++ d) ++ z ∷ [])
joined old a z l m g d = simp append_assoc

pub written : (p q r s t u v : Point) (k m : ℕ) (o0 o1 o2 o3 o4 o5 o6 : List Event) → q ≡ past 1 p → r ≡
    past (k + 1) p →
    s ≡ past (k + 2) p → t ≡ past (k + 3) p → u ≡ past (k + 4) p → v ≡ past (k + 4 + m) p →
    o1 ≡ o0 ++ enter n.Definition p ∷ [] → o2 ≡ o1 ++ label_part p q r s → o3 ≡ o2 ++ pair n.DefinitionMarker s t →
    o4 ≡ o3 ++ pair n.SpaceOrTab t u → o5 ≡ o4 ++ whole.destination_part u v → o6 ≡ o5 ++ exit n.Definition v ∷ [] →
    o6 ≡ o0 ++ definition_part k m p
written p q r s t u v k m o0 o1 o2 o3 o4 o5 o6 a b c d e f e1 e2 e3 e4 e5 e6 =
    rw (e6, e5, e4, e3, e2, e1, a, b, c, d, e, f)
    (joined o0 (enter n.Definition p) (exit n.Definition (past (k + 4 + m) p))
    (label_part p (past 1 p) (past (k + 1) p) (past (k + 2) p))
    (pair n.DefinitionMarker (past (k + 2) p) (past (k + 3) p))
    (pair n.SpaceOrTab (past (k + 3) p) (past (k + 4) p))
    (whole.destination_part (past (k + 4) p) (past (k + 4 + m) p)))
