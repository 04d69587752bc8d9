-- Where the lines of the body of a text begin, and what is known of the events before them.
use Rattle.std.proofs.Common.{◌≡◌, ℕ, ◌-◌, ◌+◌, ◌<◌, ◌≤◌, Bool, true, false, cond, List, [], ◌∷◌, ◌++◌, length, drop}
use Rattle.std.proofs.Common.{take, Option, Some, None, refl, sym, ◌∙◌, ap, subst, arith, append-nil}
use Rattle.std.proofs.lemmas.List.{length-append, length-drop}
use Rattle.md_engine.specs.declared.configuration.ParseOptions.{ParseOptions}
use Rattle.md_engine.specs.declared.event.Event.{Event}
use Rattle.md_engine.specs.declared.event.Name.TheVariants as n
use Rattle.md_engine.specs.declared.event.Point.{Point}
use Rattle.md_engine.specs.Place.{first_point}
use Rattle.md_meaning.specs.Grouped.{grouped}
use Rattle.md_meaning.specs.Meaning.{with_frontmatter}
use Rattle.md_meaning.specs.Lines.{full_lines_of, lines_of}
use Rattle.md_meaning.specs.Preamble.{Preamble, first_column, front_of, has_mark, preamble, preamble_by}
use Rattle.md_meaning.specs.Preamble.{rests_at, without_mark}
use Rattle.md_meaning.specs.Tree.{Block, Blocks, Frontmatter}
use Rattle.md_outline.specs.Between.{is_between}
use Rattle.md_outline.specs.HeadingDepths.{are_shallow}
use Rattle.md_outline.specs.Outlined.{IsUnlisted, has_unlisted_name, text_begins_between}
use Rattle.md_events.specs.Events.Nested.{Balanced, Forward, Nested, around, last_point}
use Rattle.md_events.specs.Events.Spelled.{Reading, read, spelled, unread}
use Rattle.md_events.proofs.FeedLines.{past_text-column}
use Rattle.md_events.proofs.NestedLemmas.{balanced-append, forward-append, forward-from}
use Rattle.md_events.proofs.PlacesLemmas.{all-append}
use Rattle.md_events.proofs.SpelledLemmas.{read-from}
use Rattle.md_events.proofs.InlineLemmas.{past-index}
use Rattle.proof_leaf_laws.specs.Front.{FrontRead, body_point, events_of, front_events, front_read, mark_end}
use Rattle.proof_leaf_laws.specs.Front.{mark_events, mark_point, point_or, text_front}
use Rattle.proof_frame.proofs.BetweenFacts.{between-end, ending-following}
use Rattle.proof_leaf_laws.proofs.Frontmatter.Found.{AtEnd, Ended, FrontMeans, Here, Tail, front-means}
use Rattle.proof_leaf_laws.proofs.Frontmatter.Lines.{Closes, IsFront, IsRest, More}
use Rattle.proof_leaf_laws.proofs.Frontmatter.Parts.{end-whole}
use Rattle.proof_leaf_laws.proofs.Frontmatter.Whole.{FrontPart, IsFronted, block_first, front-fronted, mark-fronted}
use Rattle.proof_leaf_laws.proofs.Frontmatter.Whole.{part-between}
use Rattle.md_outline.proofs.Shifted.{read-following}
use Rattle.proof_content_laws.proofs.Labels.Trees.{defined_in, noted_in}
use Rattle.proof_leaf_laws.proofs.MarkLemmas.{body-between, body-column, body-index, body-vs, without-mark}
use Rattle.proof_frame.proofs.PlainRecords.{all-write_message}
use Rattle.proof_frame.proofs.SpanLemmas.{Nested_in}

-- nothing, or frontmatter
pub data Fronts : Option Block → Type 0 where
  NoFront : Fronts None
  HasFront : (m : ℕ) (lines : List (List ℕ)) → Fronts (Some (Frontmatter m lines))

-- The lines of the body begin at this point, after these events.
pub record IsBegun (options : ParseOptions) (bytes : List ℕ) (p : Point) (front : List Event) : Type 0 where
  pub block : Option Block
  pub kind : Fronts block
  pub fronted : IsFronted bytes block p front
  pub index : p.index ≤ length bytes
  pub vs : p.vs ≡ 0
  pub column : 1 ≤ p.column
  pub between : is_between bytes p.index ≡ true
  pub preamble_is : preamble options bytes ≡
      record { front = block; body = rests_at (p.column - 1) (lines_of (drop p.index bytes)) }

-- Where the closing fence of frontmatter ends.
record Ends (bytes : List ℕ) (z : Point) : Type 0 where
  whole : z.vs ≡ 0
  column : 1 ≤ z.column
  within : z.index ≤ length bytes

rest-ends : (bytes : List ℕ) (m : ℕ) (p : Point) (texts : List (List ℕ)) (es : List Event) (z : Point) →
    IsRest bytes m p texts es z → Ends bytes z
rest-ends bytes m p _ _ z (Closes line _ _ h) =
    let size = ap length h.is.valid in
    let parts = length-append line (drop z.index bytes) in
    let before = length-drop p.index bytes in
    let following = length-drop z.index bytes in
    let three = three-long line (ap length h.markers) in
    let at : z.index ≡ p.index + length line = ap (λ (x : Point). x.index) h.is.end ∙ past-index line p in
    record {
      whole = end-whole bytes line p z h.is;
      column = subst (λ (x : Point). 1 ≤ x.column) (sym h.is.end) (past_text-column line p h.is.column);
      within = omega (arith, size, parts, before, following, three, at);
    }
  where
    three-long : (line : List ℕ) → length (take 3 line) ≡ 3 → 0 < length line
    three-long [] e = absurd (omega (arith, e))
    three-long (b ∷ bs) e = omega arith
rest-ends bytes m p _ _ z (More line _ q r _ texts es is ending more) = rest-ends bytes m r texts es z more

-- A mark alone.

body-first : (bytes : List ℕ) → (mark_point bytes).column - 1 ≡ first_column bytes
body-first bytes = go (has_mark bytes)
  where
    go : (x : Bool) → (cond x mark_end first_point).column - 1 ≡ cond x 3 0
    go true = refl
    go false = refl

mark-begun : (options : ParseOptions) (bytes : List ℕ) → front_of options (lines_of (without_mark bytes)) ≡ None →
    IsBegun options bytes (mark_point bytes) (mark_events bytes)
mark-begun options bytes none =
    let p = mark_point bytes in
    let lines = lines_of (without_mark bytes) in
    record {
      block = None;
      kind = NoFront;
      fronted = mark-fronted bytes;
      index = body-index bytes;
      vs = body-vs bytes;
      column = body-column bytes;
      between = body-between bytes;
      preamble_is =
          ap (preamble_by (first_column bytes) lines) none
          ∙ ap (λ (k : ℕ). let b : Preamble = record { front = None; body = rests_at k lines } in b)
          (sym (body-first bytes))
          ∙ ap
          (λ (l : List ℕ).
          let b : Preamble = record { front = None; body = rests_at (p.column - 1) (lines_of l) } in b)
          (without-mark bytes);
    }

-- Frontmatter.

-- where the text ends after it, its body has no lines
no-lines : (b : Block) (k : ℕ) (l : List ℕ) → l ≡ [] →
    (let none : Preamble = record { front = Some b; body = rests_at 0 (lines_of l) } in
    let same : Preamble = record { front = Some b; body = rests_at k (lines_of l) } in none ≡ same)
no-lines b k [] e = refl
no-lines b k (c ∷ l) e = absurd (cc)

following-begun : (options : ParseOptions) (bytes : List ℕ) (texts : List (List ℕ)) (es : List Event) (z q : Point)
    (tail : List Event) →
    (is : IsFront bytes (mark_point bytes) texts es z) → Tail bytes z q tail →
    front_of options (lines_of (without_mark bytes)) ≡
    Some (record { block = Frontmatter is.m texts; after = lines_of (drop q.index bytes) }) →
    IsBegun options bytes q (mark_events bytes ++ (around n.Frontmatter (mark_point bytes) z es ++ tail))
following-begun options bytes texts es z _ _ is (AtEnd left) meaning =
    let ends = rest-ends bytes is.m is.r texts is.rest z is.lines in
    let size = ap length left in
    let rest = length-drop z.index bytes in
    let within = ends.within in
    let same : z.index ≡ length bytes = omega (arith, size, rest, within) in
    record {
      block = Some (Frontmatter is.m texts);
      kind = HasFront is.m texts;
      fronted = front-fronted bytes texts es z z [] is ends.whole ends.within (AtEnd left);
      index = ends.within;
      vs = ends.whole;
      column = ends.column;
      between = between-end bytes z.index same;
      preamble_is =
          ap (preamble_by (first_column bytes) (lines_of (without_mark bytes))) meaning
          ∙ no-lines (Frontmatter is.m texts) (z.column - 1) (drop z.index bytes) left;
    }
following-begun options bytes texts es z _ _ is (Ended r ending) meaning =
    let ends = rest-ends bytes is.m is.r texts is.rest z is.lines in
    let first = ending.column in
    let zero : 0 ≡ r.column - 1 = omega (arith, first) in
    record {
      block = Some (Frontmatter is.m texts);
      kind = HasFront is.m texts;
      fronted = front-fronted bytes texts es z r _ is ends.whole ends.within (Ended r ending);
      index = ending.in_text;
      vs = ending.whole;
      column = omega (arith, first);
      between = ending-following bytes z r ending;
      preamble_is =
          ap (preamble_by (first_column bytes) (lines_of (without_mark bytes))) meaning
          ∙ ap
          (λ (k : ℕ).
          let b : Preamble = record {
            front = Some (Frontmatter is.m texts);
            body = rests_at k (lines_of (drop r.index bytes));
          } in b) zero;
    }

-- The front of a text.

here-mark : (bytes : List ℕ) → Here bytes (without_mark bytes) (mark_point bytes)
here-mark bytes = record {
  valid = sym (without-mark bytes);
  whole = body-vs bytes;
  column = body-column bytes;
}

-- what it has
by-means : (options : ParseOptions) (bytes : List ℕ) (o : Option FrontRead) →
    FrontMeans bytes options (mark_point bytes) (full_lines_of (without_mark bytes)) o →
    IsBegun options bytes (point_or (mark_point bytes) o) (mark_events bytes ++ events_of o)
by-means options bytes None none =
    subst (IsBegun options bytes (mark_point bytes)) (sym (append-nil (mark_events bytes)))
    (mark-begun options bytes none)
by-means options bytes (Some f) found =
    subst (λ (es : List Event). IsBegun options bytes f.point (mark_events bytes ++ es)) (sym found.events)
    (following-begun options bytes found.texts found.es found.z f.point found.tail found.is found.following
    found.meaning)

pub begun : (options : ParseOptions) (bytes : List ℕ) →
    IsBegun options bytes (body_point options bytes) (front_events options bytes)
unfolding text_front
begun options bytes =
    by-means options bytes (front_read options (full_lines_of (without_mark bytes)) (mark_point bytes))
    (front-means bytes options (without_mark bytes) (mark_point bytes) (here-mark bytes))

-- Its events before others.

pub front-nested : (p : Point) (front es : List Event) → Nested_in first_point p front → Balanced es → Forward p es →
    Nested (front ++ es)
front-nested p front es h balanced forward = record {
  balanced = balanced-append front es h.0 balanced;
  forward =
      forward-append first_point front es h.1.0 (forward-from (last_point first_point front) p es h.1.1 forward);
}

pub front-unlisted : (bytes : List ℕ) (p : Point) (front es : List Event) → FrontPart bytes first_point p front →
    IsUnlisted es bytes → IsUnlisted (front ++ es) bytes
front-unlisted bytes p front es part is = record {
  names = all-append has_unlisted_name front es part.plain.known.names is.names;
  text = is.text;
  between =
      all-append (λ (e : Event). is_between bytes e.point.index) front es (part-between bytes first_point p front part)
      is.between;
  texts =
      all-append (text_begins_between bytes) front es (all-write_message bytes front part.plain.known.texts
      (part-between bytes first_point p front part)) is.texts;
  parted = part.stretch.parted es is.parted;
  lines = part.plain.lines es is.lines;
}

-- they are read as the blocks before those after them
pub front-spelled : (bytes : List ℕ) (block : Option Block) (p : Point) (front es : List Event) →
    IsFronted bytes block p front → (read bytes unread es).outer ≡ [] →
    spelled (front ++ es) bytes ≡ with_frontmatter block (spelled es bytes)
unfolding spelled
front-spelled bytes block p front es fronted shut =
    ap (λ (r : Reading). r.here)
    (read-from bytes unread (record unread { here = block_first block }) front es fronted.reads)
    ∙ go block
  where
    go : (b : Option Block) →
        (read bytes (record unread { here = block_first b }) es).here ≡ with_frontmatter b (read bytes unread es).here
    go None = refl
    go (Some b) = read-following b bytes es shut

-- Frontmatter before other blocks: it is in no list, fits an outline, and defines nothing.
pub fronts-grouped : (block : Option Block) (bs : Blocks) → Fronts block →
    grouped (with_frontmatter block bs) ≡ with_frontmatter block (grouped bs)
fronts-grouped _ bs NoFront = refl
fronts-grouped _ bs (HasFront m lines) = refl

pub fronts-shallow : (block : Option Block) (bs : Blocks) → Fronts block → are_shallow bs ≡ true →
    are_shallow (with_frontmatter block bs) ≡ true
fronts-shallow _ bs NoFront h = h
fronts-shallow _ bs (HasFront m lines) h = h

pub fronts-defined : (block : Option Block) (bs : Blocks) → Fronts block →
    defined_in (with_frontmatter block bs) ≡ defined_in bs
fronts-defined _ bs NoFront = refl
fronts-defined _ bs (HasFront m lines) = refl

pub fronts-noted : (block : Option Block) (bs : Blocks) → Fronts block →
    noted_in (with_frontmatter block bs) ≡ noted_in bs
fronts-noted _ bs NoFront = refl
fronts-noted _ bs (HasFront m lines) = refl
