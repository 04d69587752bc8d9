-- The marker of an item that opens is in the text, a byte after its digits: what is left of a line is its end.
use Rattle.std.proofs.Common.{◌≡◌, ℕ, zero, suc, ◌+◌, ◌-◌, Bool, true, false, cond, ◌&&◌, not, List, [], ◌∷◌, ◌++◌}
use Rattle.std.proofs.Common.{length, take, drop, refl, ap, sym, ◌∙◌, arith, append_assoc}
use Rattle.std.specs.Prelude.{◌==◌, ◌||◌, get_or, nat_eq, nat_le, Option, Some, None}
use Rattle.std.specs.List.{starts_with, take_while}
use Rattle.std.specs.Option.{option_or}
use Rattle.std.proofs.Math.Seq.{get_or-append_seam}
use Rattle.std.proofs.lemmas.Bool.{eqb-true, false_from_ne_true}
use Rattle.std.proofs.lemmas.List.{get_or-drop, length-append, take-append-drop}
use Rattle.md_engine.specs.declared.configuration.ParseOptions.{ParseOptions}
use Rattle.md_meaning.specs.declared.alert.AlertKind.{AlertKind}
use Rattle.md_meaning.specs.Alert.{alert_at, marker_of}
use Rattle.md_meaning.specs.Ascii.{caret, dot, left_bracket, right_parenthesis, space, tab}
use Rattle.md_meaning.specs.Containers.{Labelled, Marker, Taken, continues, footnote_by, footnote_continues}
use Rattle.md_meaning.specs.Containers.{footnote_label, is_bullet, is_digit, item_by, item_continues, item_padding}
use Rattle.md_meaning.specs.Containers.{list_marker, marker_following, opens, opens_footnote, opens_item, opens_quote}
use Rattle.md_meaning.specs.Containers.{quote_taken, taken_as, with_kind}
use Rattle.md_meaning.specs.Rest.{Rest, following, after_indent, has_small_indent, indent, is_blank, lose, tab_columns}
use Rattle.md_meaning.specs.Rest.{without_column}
use Rattle.md_meaning.specs.State.{At, Container, InFootnote, InItem, InQuote, Path, Within, spot}
use Rattle.md_meaning.specs.Step.{is_concrete, is_open_text, step}
use Rattle.md_meaning.proofs.FindsLemmas.{Finds, first-found, none-found, some-found, when-found}
use Rattle.md_events.specs.Exact.Places.{TextLine, whole}
use Rattle.md_events.specs.Exact.Prefixes.{following_all, containers, taken_prefixes, new_containers, opened}
use Rattle.proof_exact_lines.specs.Unlisted.{LinesAllowed, MarkerAt, MarkerAllowed, MarkersAllowed}

-- The end of a line.

-- these bytes end with those
pub record EndsWith (bytes rest : List ℕ) : Type 0 where
  pub front : List ℕ
  pub is : bytes ≡ front ++ rest

all-end : (bytes : List ℕ) → EndsWith bytes bytes
all-end bytes = record { front = []; is = refl }

ends-on : (a b c : List ℕ) → EndsWith a b → EndsWith b c → EndsWith a c
ends-on a b c h k = record {
  front = h.front ++ k.front;
  is = h.is ∙ ap (λ (l : List ℕ). h.front ++ l) k.is ∙ sym (append_assoc h.front k.front c);
}

drop-end : (n : ℕ) (bytes : List ℕ) → EndsWith bytes (drop n bytes)
drop-end n bytes = record { front = take n bytes; is = sym (take-append-drop n bytes) }

column-end : (column spaces : ℕ) (bytes : List ℕ) → EndsWith bytes (without_column column spaces bytes).bytes
column-end column (suc spaces) bytes = all-end bytes
column-end column zero [] = all-end []
column-end column zero (b ∷ bytes) = go (b == tab) (b == space)
  where
    Of : Rest → Type 0
    Of r = EndsWith (b ∷ bytes) r.bytes

    go : (x y : Bool) →
        Of
        (cond x (record { column = column + 1; spaces = tab_columns column - 1; bytes = bytes })
        (cond y (record { column = column + 1; spaces = 0; bytes = bytes })
        (record { column = column; spaces = 0; bytes = b ∷ bytes })))
    go true y = record { front = b ∷ []; is = refl }
    go false true = record { front = b ∷ []; is = refl }
    go false false = all-end (b ∷ bytes)

lose-end : (n : ℕ) (r : Rest) → EndsWith r.bytes (lose n r).bytes
lose-end zero r = all-end r.bytes
lose-end (suc n) r =
    let s : Rest = without_column r.column r.spaces r.bytes in
    ends-on r.bytes s.bytes (lose n s).bytes (column-end r.column r.spaces r.bytes) (lose-end n s)

following-end : (n : ℕ) (r : Rest) → EndsWith r.bytes (following n r).bytes
following-end n r = drop-end n r.bytes

-- after so many bytes of it, and then so many columns
following-lose : (n m : ℕ) (r : Rest) → EndsWith r.bytes (lose m (following n r)).bytes
following-lose n m r = ends-on r.bytes (following n r).bytes (lose m (following n r)).bytes (following-end n r)
    (lose-end m (following n r))

-- Containers.

-- the marker after digits
record Marked (bytes digits : List ℕ) (marker : ℕ) : Type 0 where
  more : List ℕ
  is : drop (length digits) bytes ≡ marker ∷ more

abbrev IsMarked : Rest → Container → Type 0
IsMarked r (InItem digits marker width starts_blank) = Marked (after_indent r).bytes digits marker
IsMarked r c = Unit {0}

-- what opens leaves an end of the rest, and an item has its marker there
record Leaves (r : Rest) (t : Taken) : Type 0 where
  end : EndsWith r.bytes t.rest.bytes
  marked : IsMarked r t.container

quote-leaves : (options : ParseOptions) (kind : Option AlertKind) (r : Rest) →
    Finds (quote_taken options kind r) (Leaves r)
unfolding quote_taken
quote-leaves options kind r = go _
  where
    t : Taken
    t = record { container = InQuote kind; rest = lose 1 (following 1 (after_indent r)) }

    go : (x : Bool) → Finds (cond x (Some t) None) (Leaves r)
    go x =
        when-found (Leaves r) x (Some t)
        (λ e.
        some-found (Leaves r) t
        (record {
          end =
              ends-on r.bytes (after_indent r).bytes t.rest.bytes (lose-end (indent r) r)
              (following-lose 1 1 (after_indent r));
          marked = tt;
        }))

kind-leaves : (options : ParseOptions) (r : Rest) (o : Option Taken) → Finds o (Leaves r) →
    Finds (with_kind options o) (Leaves r)
kind-leaves options r None h = none-found (Leaves r)
kind-leaves options r (Some t) h = some-found (Leaves r) (taken_as t (alert_at options t.rest))
    (go (alert_at options t.rest))
  where
    go : (a : Option AlertKind) → Leaves r (taken_as t a)
    go None = h t refl
    go (Some kind) =
        let marker : Rest = after_indent t.rest in
        let n : ℕ = length (marker_of kind) in
        let after : Rest = following n marker in
        record {
          end =
              ends-on r.bytes t.rest.bytes (after_indent after).bytes (h t refl).end
              (ends-on t.rest.bytes marker.bytes (after_indent after).bytes (lose-end (indent t.rest) t.rest)
              (following-lose n (indent after) marker));
          marked = tt;
        }

opens-quote : (options : ParseOptions) (r : Rest) → Finds (opens_quote options r) (Leaves r)
unfolding opens_quote
opens-quote options r =
    when-found (Leaves r) options.constructs.block_quote (with_kind options (quote_taken options None r))
    (λ e. kind-leaves options r (quote_taken options None r) (quote-leaves options None r))

abbrev HasMarker : List ℕ → Marker → Type 0
HasMarker bytes marker = Marked bytes marker.digits marker.byte

following-marker : (digits bytes rest : List ℕ) → drop (length digits) bytes ≡ rest →
    Finds (marker_following digits rest) (HasMarker bytes)
following-marker digits bytes [] e = none-found (HasMarker bytes)
following-marker digits bytes (b ∷ more) e =
    when-found (HasMarker bytes) ((b == dot) || (b == right_parenthesis)) (Some (record { digits = digits; byte = b }))
    (λ f. some-found (HasMarker bytes) (record { digits = digits; byte = b }) (record { more = more; is = e }))

list-marker : (bytes : List ℕ) → Finds (list_marker bytes) (HasMarker bytes)
list-marker [] = none-found (HasMarker [])
list-marker (b ∷ bytes) = go (is_bullet b) (nat_le 1 (length digits) && nat_le (length digits) 9)
  where
    digits : List ℕ
    digits = take_while is_digit (b ∷ bytes)

    bullet : Marker
    bullet = record { digits = []; byte = b }

    go : (x y : Bool) →
        Finds
        (cond x (Some bullet) (cond y (marker_following digits (drop (length digits) (b ∷ bytes))) None))
        (HasMarker (b ∷ bytes))
    go true y = some-found (HasMarker (b ∷ bytes)) bullet (record { more = bytes; is = refl })
    go false true = following-marker digits (b ∷ bytes) (drop (length digits) (b ∷ bytes)) refl
    go false false = none-found (HasMarker (b ∷ bytes))

item-leaves : (options : ParseOptions) (interrupting : Bool) (r : Rest) (o : Option Marker) →
    Finds o (HasMarker (after_indent r).bytes) →
    Finds (item_by options interrupting (indent r) (after_indent r) o) (Leaves r)
item-leaves options interrupting r None h = none-found (Leaves r)
item-leaves options interrupting r (Some marker) h = go _ _ _
  where
    from : Rest
    from = after_indent r

    size : ℕ
    size = length marker.digits + 1

    padding : ℕ
    padding = item_padding (following size from)

    go : (x : Bool) (width : ℕ) (blank : Bool) →
        Finds
        (cond x
        (Some
        (record {
          container = InItem marker.digits marker.byte width blank;
          rest = lose padding (following size from);
        }))
        None)
        (Leaves r)
    go x width blank =
        let t : Taken = record {
          container = InItem marker.digits marker.byte width blank;
          rest = lose padding (following size from);
        } in
        when-found (Leaves r) x (Some t)
        (λ e.
        some-found (Leaves r) t
        (record {
          end = ends-on r.bytes from.bytes t.rest.bytes (lose-end (indent r) r) (following-lose size padding from);
          marked = h marker refl;
        }))

opens-item : (options : ParseOptions) (interrupting : Bool) (r : Rest) →
    Finds (opens_item options interrupting r) (Leaves r)
unfolding opens_item
opens-item options interrupting r = go _
  where
    go : (x : Bool) →
        Finds
        (cond x (item_by options interrupting (indent r) (after_indent r) (list_marker (after_indent r).bytes)) None)
        (Leaves r)
    go x =
        when-found (Leaves r) x
        (item_by options interrupting (indent r) (after_indent r) (list_marker (after_indent r).bytes))
        (λ e.
        item-leaves options interrupting r (list_marker (after_indent r).bytes)
        (list-marker (after_indent r).bytes))

footnote-leaves : (r : Rest) (o : Option Labelled) → Finds (footnote_by (after_indent r) o) (Leaves r)
footnote-leaves r None = none-found (Leaves r)
footnote-leaves r (Some l) = go _
  where
    from : Rest
    from = after_indent r

    after : Rest
    after = following (length l.label + 4) from

    t : Taken
    t = record { container = InFootnote l.label; rest = after_indent after }

    go : (x : Bool) → Finds (cond x (Some t) None) (Leaves r)
    go x =
        when-found (Leaves r) x (Some t)
        (λ e.
        some-found (Leaves r) t
        (record {
          end =
              ends-on r.bytes from.bytes t.rest.bytes (lose-end (indent r) r)
              (following-lose (length l.label + 4) (indent after) from);
          marked = tt;
        }))

opens-footnote : (options : ParseOptions) (r : Rest) → Finds (opens_footnote options r) (Leaves r)
unfolding opens_footnote
opens-footnote options r =
    go
    (options.constructs.gfm_footnote_definition && has_small_indent options r
    && starts_with nat_eq (after_indent r).bytes (left_bracket ∷ caret ∷ []))
    (footnote_label false (drop 2 (after_indent r).bytes))
  where
    go : (x : Bool) (o : Option Labelled) → Finds (cond x (footnote_by (after_indent r) o) None) (Leaves r)
    go x o =
        when-found (Leaves r) x (footnote_by (after_indent r) o) (λ e. footnote-leaves r o)

opens-leaves : (options : ParseOptions) (interrupting : Bool) (r : Rest) →
    Finds (opens options interrupting r) (Leaves r)
opens-leaves options interrupting r =
    first-found (Leaves r) (opens_quote options r)
    (option_or (opens_item options interrupting r) (opens_footnote options r)) (opens-quote options r)
    (first-found (Leaves r) (opens_item options interrupting r) (opens_footnote options r)
    (opens-item options interrupting r) (opens-footnote options r))

-- one that continues leaves an end of the rest too
abbrev Ends : Rest → Taken → Type 0
Ends r t = EndsWith r.bytes t.rest.bytes

lost-end : (r : Rest) (x : Bool) (c : Container) (n : ℕ) →
    Finds (cond x (Some (record { container = c; rest = lose n r })) None) (Ends r)
lost-end r x c n =
    let t : Taken = record { container = c; rest = lose n r } in
    when-found (Ends r) x (Some t) (λ e. some-found (Ends r) t (lose-end n r))

item-end : (digits : List ℕ) (marker width : ℕ) (starts_blank : Bool) (r : Rest) →
    Finds (item_continues digits marker width starts_blank r) (Ends r)
unfolding item_continues
item-end digits marker width starts_blank r =
    lost-end r (cond (is_blank r.bytes) (not starts_blank) (nat_le width (indent r)))
    (InItem digits marker width false) width

footnote-end : (label : List ℕ) (r : Rest) → Finds (footnote_continues label r) (Ends r)
unfolding footnote_continues
footnote-end label r = lost-end r (is_blank r.bytes || nat_le 4 (indent r)) (InFootnote label) 4

continues-end : (options : ParseOptions) (c : Container) (r : Rest) → Finds (continues options c r) (Ends r)
continues-end options (InQuote kind) r = λ t e. (quote-leaves options kind r t e).end
continues-end options (InItem digits marker width starts_blank) r = item-end digits marker width starts_blank r
continues-end options (InFootnote label) r = footnote-end label r

gone-end : (options : ParseOptions) (p : Path) (r : Rest) →
    EndsWith r.bytes (following_all r (taken_prefixes options p r)).bytes
gone-end options (At s) r = all-end r.bytes
gone-end options (Within before c p) r = go (gone-end options p) (continues options c r) (continues-end options c r)
  where
    go : ((s : Rest) → EndsWith s.bytes (following_all s (taken_prefixes options p s)).bytes) → (o : Option Taken) →
        Finds o (Ends r) →
        let on : List Taken = elim o [ Some t ↦ t ∷ taken_prefixes options p t.rest | None ↦ [] ] in
        EndsWith r.bytes (following_all r on).bytes
    go below None h = all-end r.bytes
    go below (Some t) h =
        ends-on r.bytes t.rest.bytes (following_all t.rest (taken_prefixes options p t.rest)).bytes (h t refl)
        (below t.rest)

-- Markers.

-- a line is in a text
pub record IsIn (text : List ℕ) (line : TextLine) : Type 0 where
  pub following : List ℕ
  pub is : drop line.index text ≡ line.bytes ++ following

marker-at : (text : List ℕ) (line : TextLine) (digits : List ℕ) (marker : ℕ) (r : Rest) → IsIn text line →
    EndsWith line.bytes r.bytes → Marked (after_indent r).bytes digits marker → MarkerAt text line digits marker r
marker-at text line digits marker r in_text end marked = record {
  byte =
      ap (λ (n : ℕ). get_or text (line.index + n) 0) size
      ∙ sym (get_or-drop line.index text (length front.front) 0)
      ∙ ap (λ (l : List ℕ). get_or l (length front.front) 0)
      (in_text.is
      ∙ ap (λ (l : List ℕ). l ++ in_text.following) (front.is ∙ ap (λ (l : List ℕ). front.front ++ l) marked.is)
      ∙ append_assoc front.front (marker ∷ marked.more) in_text.following)
      ∙ get_or-append_seam front.front marker (marked.more ++ in_text.following) 0;
  one =
      ap
      (λ (l : List ℕ). (length l == length (drop 1 l)) && true)
      marked.is
      ∙ ap (λ (x : Bool). x && true) (unlike (length marked.more));
}
  where
    from : Rest
    from = after_indent r

    left : List ℕ
    left = drop (length digits) from.bytes

    front : EndsWith line.bytes left
    front =
        ends-on line.bytes r.bytes left end
        (ends-on r.bytes from.bytes left (lose-end (indent r) r) (drop-end (length digits) from.bytes))

    size : length line.bytes - length left - 0 ≡ length front.front
    size =
        omega (
          arith,
          ap (λ (l : List ℕ). length l) front.is,
          length-append front.front left,
        )

    unlike : (n : ℕ) → (suc n == n) ≡ false
    unlike n = false_from_ne_true (suc n == n) (λ e. absurd (omega (arith, eqb-true (suc n) n e)))

container-at : (text : List ℕ) (line : TextLine) (r : Rest) (c : Container) → IsIn text line →
    EndsWith line.bytes r.bytes → IsMarked r c → MarkerAllowed text line c r
container-at text line r (InQuote kind) in_text end marked = tt
container-at text line r (InItem digits marker width starts_blank) in_text end marked =
    marker-at text line digits marker r in_text end marked
container-at text line r (InFootnote label) in_text end marked = tt

opened-at : (options : ParseOptions) (text : List ℕ) (line : TextLine) (interrupting : Bool) (n : ℕ) (r : Rest) →
    IsIn text line → EndsWith line.bytes r.bytes → MarkersAllowed text line r (opened options interrupting n r)
opened-at options text line interrupting zero r in_text end = tt
opened-at options text line interrupting (suc n) r in_text end =
    go (λ s. opened-at options text line false n s in_text) (opens options interrupting r)
    (opens-leaves options interrupting r)
  where
    go : ((s : Rest) → EndsWith line.bytes s.bytes → MarkersAllowed text line s (opened options false n s)) →
        (o : Option Taken) → Finds o (Leaves r) →
        let new : List Taken = elim o [ Some t ↦ t ∷ opened options false n t.rest | None ↦ [] ] in
        MarkersAllowed text line r new
    go below None h = tt
    go below (Some t) h = (
      container-at text line r t.container in_text end (h t refl).marked,
      below t.rest (ends-on line.bytes r.bytes t.rest.bytes end (h t refl).end),
    )

new-at : (options : ParseOptions) (text : List ℕ) (line : TextLine) (p : Path) (all : Bool) (r : Rest) →
    IsIn text line → EndsWith line.bytes r.bytes → MarkersAllowed text line r (new_containers options p all r)
new-at options text line p all r in_text end = go (all && is_concrete (spot p).leaf)
  where
    interrupting : Bool
    interrupting = all && is_open_text (spot p).leaf

    go : (x : Bool) → MarkersAllowed text line r (cond x [] (opened options interrupting (length r.bytes) r))
    go true = tt
    go false = opened-at options text line interrupting (length r.bytes) r in_text end

abbrev pub AreIn : List ℕ → List TextLine → Type 0
AreIn text [] = Unit {0}
AreIn text (line ∷ lines) = IsIn text line × AreIn text lines

-- So lines of a text have their markers there.
pub lines-are_valid : (options : ParseOptions) (text : List ℕ) (p : Path) (lines : List TextLine) → AreIn text lines →
    LinesAllowed options text p lines
lines-are_valid options text p [] h = tt
lines-are_valid options text p (line ∷ lines) h =
    let on : List Taken = taken_prefixes options p (whole line) in (
      new-at options text line p (length on == length (containers p)) (following_all (whole line) on) h.0
          (gone-end options p (whole line)),
      lines-are_valid options text (step options p (whole line)) lines h.1,
    )
