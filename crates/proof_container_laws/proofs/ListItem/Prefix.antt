-- What is before the content of a list item: whitespace on a further line, and after its begin a prefix with its
-- marker.
use Rattle.std.proofs.Common.{◌≡◌, ℕ, ◌+◌, ◌≤◌, Bool, true, false, cond, List, [], ◌∷◌, ◌++◌, drop, slice_range, length}
use Rattle.std.proofs.Common.{ap, sym, subst, ◌∙◌, arith, get_or}
use Rattle.std.specs.Prelude.{◌==◌, slice_index}
use Rattle.std.proofs.lemmas.List.{get_or-drop}
use Rattle.md_engine.specs.declared.event.Event.{Event}
use Rattle.md_engine.specs.declared.event.Name.TheVariants as n
use Rattle.md_engine.specs.declared.event.Point.{Point}
use Rattle.md_containers.proofs.ItemOpens.{IsMarker}
use Rattle.md_events.proofs.LostColumns.{White}
use Rattle.md_meaning.specs.Rest.{is_blank}
use Rattle.md_events.specs.Events.Inline.{pair_unless_empty}
use Rattle.md_events.specs.Events.Nested.{around, pair}
use Rattle.md_events.specs.Events.Places.{past_byte, past_text, same_place}
use Rattle.md_events.proofs.FeedLines.{drop-past, past_text-whole}
use Rattle.md_events.proofs.InlineLemmas.{past-index}
use Rattle.proof_frame.proofs.LineTexts.{past_text-line}

-- a point that is not after another one of its line in columns, and is another place only if it is a further column
pub record TakesColumns (p q : Point) : Type 0 where
  pub onward : p.column ≤ q.column
  pub same : same_place p q ≡ (q.column == p.column)

-- on a further line: from a point to a point, which cuts no byte but a tab
pub record IsIndent (bytes : List ℕ) (p q : Point) (es : List Event) : Type 0 where
  pub events : es ≡ pair_unless_empty n.SpaceOrTab p q
  pub white : White bytes p q
  pub columns : TakesColumns p q
  pub cut : (q.vs == 0) ≡ false → is_blank (slice_range bytes q.index (q.index + 1)) ≡ true

-- where an item has no digits
abbrev pub no_digits : List ℕ → Bool
no_digits [] = true
no_digits (d ∷ ds) = false

-- The events after the begin of an item: from a point to the prefix, the marker, after it, and to its end; by whether
-- there is no whitespace before the prefix, no value, and no whitespace after the marker.
abbrev pub inside_by : (none same : Bool) → (start marker following q : Point) → List Event
inside_by none same start marker following q =
    cond none [] (pair n.ListItemValue start marker)
    ++ (pair n.ListItemMarker marker following ++ cond same [] (pair n.SpaceOrTab following q))

abbrev pub front_by : (bare none same : Bool) → (p start marker following q : Point) → List Event
front_by bare none same p start marker following q =
    cond bare [] (pair n.SpaceOrTab p start)
    ++ around n.ListItemPrefix start q (inside_by none same start marker following q)

-- they are those of an item with these digits and this marker
pub record IsFront (bytes digits : List ℕ) (byte : ℕ) (p q : Point) (es : List Event) : Type 0 where
  -- where the digits begin, or the marker if there are none
  pub start : Point
  -- where the marker is, and the point after it
  pub marker : Point
  pub following : Point
  pub marker_is : marker ≡ past_text digits start
  pub following_is : following ≡ past_byte byte marker
  -- the bytes there, of which the first begins in no tab
  pub more : List ℕ
  pub text_is : drop start.index bytes ≡ digits ++ (byte ∷ more)
  pub whole : start.vs ≡ 0
  pub marks : IsMarker digits byte
  pub events : es ≡ front_by (same_place p start) (no_digits digits) (same_place following q) p start marker following q
  -- what is whitespace
  pub white_before : White bytes p start
  pub white_after : White bytes following q

-- what holds of such events whichever of the three are left out holds of them
pub front-each : (P : List Event → Type 0) (bytes digits : List ℕ) (byte : ℕ) (p q : Point) (es : List Event) →
    (is : IsFront bytes digits byte p q es) →
    ((bare none same : Bool) → P (front_by bare none same p is.start is.marker is.following q)) → P es
front-each P bytes digits byte p q es is h =
    subst P (sym is.events) (h (same_place p is.start) (no_digits digits) (same_place is.following q))

-- Its points.

pub marker-whole : (bytes digits : List ℕ) (byte : ℕ) (p q : Point) (es : List Event) →
    (is : IsFront bytes digits byte p q es) → is.marker.vs ≡ 0
marker-whole bytes digits byte p q es is =
    ap (λ (r : Point). r.vs) is.marker_is ∙ past_text-whole digits is.start is.whole

pub marker-index : (bytes digits : List ℕ) (byte : ℕ) (p q : Point) (es : List Event) →
    (is : IsFront bytes digits byte p q es) → is.marker.index ≡ is.start.index + length digits
marker-index bytes digits byte p q es is =
    ap (λ (r : Point). r.index) is.marker_is ∙ past-index digits is.start

pub following-index : (bytes digits : List ℕ) (byte : ℕ) (p q : Point) (es : List Event) →
    (is : IsFront bytes digits byte p q es) → is.following.index ≡ is.marker.index + 1
following-index bytes digits byte p q es is = ap (λ (r : Point). r.index) is.following_is

-- all on one line
pub front-line : (bytes digits : List ℕ) (byte : ℕ) (p q : Point) (es : List Event) → IsFront bytes digits byte p q es →
    q.line ≡ p.line
front-line bytes digits byte p q es is =
    is.white_after.line ∙ ap (λ (r : Point). r.line) is.following_is ∙ ap (λ (r : Point). r.line) is.marker_is
    ∙ past_text-line digits is.start ∙ is.white_before.line

-- the bytes at the marker
pub marker-text : (bytes digits : List ℕ) (byte : ℕ) (p q : Point) (es : List Event) →
    (is : IsFront bytes digits byte p q es) → drop is.marker.index bytes ≡ byte ∷ is.more
marker-text bytes digits byte p q es is =
    ap (λ (i : ℕ). drop i bytes) (marker-index bytes digits byte p q es is)
    ∙ drop-past bytes is.start.index digits (byte ∷ is.more) is.text_is

pub marker-byte : (bytes digits : List ℕ) (byte : ℕ) (p q : Point) (es : List Event) →
    (is : IsFront bytes digits byte p q es) → slice_index bytes is.marker.index ≡ byte
marker-byte bytes digits byte p q es is =
    let same : is.marker.index + 0 ≡ is.marker.index = omega arith in
    ap (λ (i : ℕ). get_or bytes i 0) (sym same) ∙ sym (get_or-drop is.marker.index bytes 0 0)
    ∙ ap (λ (l : List ℕ). get_or l 0 0) (marker-text bytes digits byte p q es is)
