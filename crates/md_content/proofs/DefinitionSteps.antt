-- What is read of a line that is one definition, by what follows it.
use Rattle.std.proofs.Common.{◌≡◌, ℕ, zero, suc, ◌+◌, ◌-◌, ◌^◌, ◌<◌, ◌≤◌, Bool, true, false, cond, ◌&&◌, List, [], ◌∷◌}
use Rattle.std.proofs.Common.{◌++◌, length, drop, Option, Some, None, refl, sym, ◌∙◌, ap, arith, append_assoc}
use Rattle.std.proofs.Common.{length-append, length-drop, subst}
use Rattle.std.specs.Prelude.{◌==◌, not, nat_le, slice_index, slice_range}
use Rattle.std.specs.List.{list_all}
use Rattle.std.proofs.lemmas.Bool.{and_parts, not-true}
use Rattle.std.proofs.lemmas.Bool.Decides.{nat_tests}
use Rattle.std.proofs.lemmas.List.{append-nil, length-take-le, take-append-drop}
use Rattle.std.proofs.lemmas.List.Folds.{list_all-append}
use Rattle.md_engine.specs.declared.configuration.ParseOptions.{ParseOptions}
use Rattle.md_engine.specs.declared.event.Event.{Event}
use Rattle.md_engine.specs.declared.event.Name.TheVariants as parts
use Rattle.md_engine.specs.declared.event.Point.{Point}
use Rattle.md_engine.specs.declared.tokenizer.Line.{Line}
use Rattle.md_engine.specs.Meaning.{Cell}
use Rattle.md_engine.proofs.Sound.{placed-next}
use Rattle.md_engine.specs.Place.{IsPlaced, is_ending, next_point, seen_at}
use Rattle.md_engine.specs.TextFeed.{text_feed}
use Rattle.md_engine.specs.World.{Setting, after, line_begun}
use Rattle.md_content.specs.ContentReads.{first_of, is_piece_end, settled}
use Rattle.md_content.specs.ContentRule.{following_definition, content_by, content_over, definition_in}
use Rattle.md_content.specs.WholeDefinitions.{AreParts, definition_between, definition_line, definition_part}
use Rattle.md_content.specs.WholeDefinitions.{is_label_byte, label_part, past}
use Rattle.md_link_definitions.specs.Chunks.{string_link}
use Rattle.md_content.proofs.ContentRuleLemmas.{content-unfolds}
use Rattle.md_content.proofs.SettledLemmas.{settled-end, settled-other}
use Rattle.md_content.proofs.WholeLines.{Followed, Within, first-vs}
use Rattle.md_content.proofs.WholeLines.{within}
use Rattle.md_content.proofs.WholeDefinitions.{IsRead, flat-line, inner, is_flat, outer, over, parts-row, parts_of}
use Rattle.md_content.proofs.WholeDefinitions.{plain-each, read-row, row, row-append, row-feed}
use Rattle.md_link_definitions.specs.DefinitionRule.{DefinitionParts, definition_end, definition_parts}
use Rattle.md_link_definitions.specs.DefinitionRule.{definition_rest, lone, title_following}
use Rattle.md_link_definitions.specs.GapRule.{ending_rest}
use Rattle.md_link_definitions.specs.TitleRule.{title_parts}
use Rattle.md_link_definitions.specs.PlainDestination.{is_plain_byte}
use Rattle.md_events.specs.declared.inline.Chunk.{Chunk}
use Rattle.md_events.specs.Events.Nested.{enter, enter_link, exit, pair}
use Rattle.md_events.specs.Parts.{ArePlaced, IsChunk}
use Rattle.md_events.specs.Spaces.{any_size}
use Rattle.md_events.proofs.AheadLemmas.{none-rest}
use Rattle.md_events.proofs.FeedLines.{Stops, after_last, cell, feed-next, feed-none, past-next}
use Rattle.md_events.proofs.PlacesLemmas.{at-next}
use Rattle.md_events.proofs.PointOrder.{placed-same}
use Rattle.std.proofs.lemmas.List.Elements.{All-cons, All-nil}

-- all bytes of such a line are one column wide
flat-label : (bs : List ℕ) → list_all is_label_byte bs ≡ true → list_all is_flat bs ≡ true
flat-label [] h = refl
flat-label (b ∷ bs) h =
    let both = and_parts (is_label_byte b) (list_all is_label_byte bs) h in
    rw (inner b both.0).flat (flat-label bs both.1)

flat-destination : (bs : List ℕ) → list_all is_plain_byte bs ≡ true → list_all is_flat bs ≡ true
flat-destination [] h = refl
flat-destination (b ∷ bs) h =
    let both = and_parts (is_plain_byte b) (list_all is_plain_byte bs) h in
    rw (outer b both.0).flat (flat-destination bs both.1)

flat-line_of : (label dest : List ℕ) → AreParts label dest → list_all is_flat (definition_line label dest) ≡ true
flat-line_of label dest are =
    list_all-append is_flat label (93 ∷ 58 ∷ 32 ∷ dest)
    ∙ ap (λ (x : Bool). x && list_all is_flat dest) (flat-label label are.plain_label)
    ∙ flat-destination dest (plain-each dest are.plain_destination)

-- Points on the line.

past-next_byte : (k : ℕ) (p : Point) → after_last (past k p) ≡ past (k + 1) p
past-next_byte k p =
    let c : p.column + k + 1 ≡ p.column + (k + 1) = omega arith in
    let i : p.index + k + 1 ≡ p.index + (k + 1) = omega arith in
    rw (c, i) refl

over-past : (bs : List ℕ) (k : ℕ) (p : Point) → over bs (past k p) ≡ past (k + length bs) p
over-past [] k p = ap (λ (m : ℕ). past m p) (omega arith)
over-past (b ∷ bs) k p =
    ap (over bs) (past-next_byte k p) ∙ over-past bs (k + 1) p ∙ ap (λ (m : ℕ). past m p) (omega arith)

-- The cells of the line, and those after it.

abbrev pub end_of_line : List ℕ → List ℕ → Point → Point
end_of_line label dest p = past (length label + 4 + length dest) p

over-line : (label dest : List ℕ) (p : Point) → over (definition_line label dest) p ≡ end_of_line label dest p
over-line label dest p =
    over-past (label ++ 93 ∷ 58 ∷ 32 ∷ dest) 1 p
    ∙ ap (λ (m : ℕ). past m p) (let size = length-append label (93 ∷ 58 ∷ 32 ∷ dest) in omega (arith, size))

row-line : (x : Setting) (label dest : List ℕ) (p : Point) (rest : List Cell) →
    row x.line (definition_line label dest) p ++ rest ≡
    (parts_of x.line label dest p (after_last (over label (after_last p)))
    (after_last (after_last (over label (after_last p))))
    (after_last (after_last (after_last (over label (after_last p))))) rest).cells
row-line x label dest p rest =
    ap (λ (l : List Cell). cell 91 (after_last p) x.line ∷ l ++ rest)
    (row-append x.line label (93 ∷ 58 ∷ 32 ∷ dest) (after_last p))
    ∙ ap (λ (l : List Cell). cell 91 (after_last p) x.line ∷ l)
    (append_assoc (row x.line label (after_last p))
    (row x.line (93 ∷ 58 ∷ 32 ∷ dest) (over label (after_last p))) rest)

-- where its destination begins
over-label : (label : List ℕ) (p : Point) →
    after_last (after_last (after_last (over label (after_last p)))) ≡ past (length label + 4) p
over-label label p =
    ap (λ (q : Point). after_last (after_last (after_last q))) (over-past label 1 p)
    ∙ ap (λ (q : Point). after_last (after_last q)) (past-next_byte (1 + length label) p)
    ∙ ap after_last (past-next_byte (1 + length label + 1) p)
    ∙ past-next_byte (1 + length label + 1 + 1) p
    ∙ ap (λ (m : ℕ). past m p) (omega arith)

-- the points of its parts
between-part : (label dest : List ℕ) (p : Point) →
    definition_between p (after_last p) (over label (after_last p)) (after_last (over label (after_last p)))
    (after_last (after_last (over label (after_last p))))
    (after_last (after_last (after_last (over label (after_last p)))))
    (over dest (after_last (after_last (after_last (over label (after_last p)))))) ≡
    definition_part (length label) (length dest) p
between-part label dest p =
    let n = length label in
    let r : over label (after_last p) ≡ past (n + 1) p =
    over-past label 1 p ∙ ap (λ (m : ℕ). past m p) (omega arith) in
    let s : after_last (over label (after_last p)) ≡ past (n + 2) p =
    ap after_last r ∙ past-next_byte (n + 1) p ∙ ap (λ (m : ℕ). past m p) (omega arith) in
    let t : after_last (after_last (over label (after_last p))) ≡ past (n + 3) p =
    ap after_last s ∙ past-next_byte (n + 2) p ∙ ap (λ (m : ℕ). past m p) (omega arith) in
    let u : after_last (after_last (after_last (over label (after_last p)))) ≡ past (n + 4) p =
    ap after_last t ∙ past-next_byte (n + 3) p ∙ ap (λ (m : ℕ). past m p) (omega arith) in
    let v = ap (over dest) u ∙ over-past dest (n + 4) p in
    together _ _ _ _ _ _ _ _ _ _ r s t u v
  where
    together : (r r' s s' t t' u u' v v' : Point) → r ≡ r' → s ≡ s' → t ≡ t' → u ≡ u' → v ≡ v' →
        definition_between p (after_last p) r s t u v ≡ definition_between p (after_last p) r' s' t' u' v'
    together r r' s s' t t' u u' v v' a b c d e = rw (a, b, c, d, e) refl

-- What is read of it.

pub line-read : (x : Setting) (options : ParseOptions) (label dest following : List ℕ) (p : Point) → x.limit < 2 ^ 61 →
    options.constructs.definition ≡ true → AreParts label dest →
    drop p.index x.bytes ≡ definition_line label dest ++ following →
    p.index + length (definition_line label dest) ≤ x.limit →
    Stops (text_feed x (end_of_line label dest p)) → title_following (text_feed x (end_of_line label dest p)) ≡ None →
    content_over options (text_feed x p) p ≡
    definition_part (length label) (length dest) p
    ++ following_definition (content_over options) (text_feed x (end_of_line label dest p)) (end_of_line label dest p)
line-read x options label dest following p small on are text within stops untitled =
    content-unfolds options (text_feed x p) p
    ∙ ap (λ (o : Option DefinitionParts). content_by o (content_over options) (text_feed x p) p) found
    ∙ ap (λ (es : List Event). es ++ following_definition (content_over options) (definition_rest d) (definition_end d))
    (read.events ∙ between-part label dest p)
    ∙ ap
    (λ (l : List Cell).
    definition_part (length label) (length dest) p ++ following_definition (content_over options) l (definition_end d))
    read.left
    ∙ ap
    (λ (q : Point).
    definition_part (length label) (length dest) p ++ following_definition (content_over options) rest q)
    (read.end ∙ ends)
  where
    rest : List Cell
    rest = text_feed x (end_of_line label dest p)

    r : Point
    r = over label (after_last p)

    d : DefinitionParts
    d =
        parts_of x.line label dest p (after_last r) (after_last (after_last r))
        (after_last (after_last (after_last r))) rest

    read : IsRead d p (after_last p) r (after_last r) (after_last (after_last r))
        (after_last (after_last (after_last r))) (over dest (after_last (after_last (after_last r)))) rest
    read =
        read-row x.line label dest p (after_last r) (after_last (after_last r))
        (after_last (after_last (after_last r))) rest are stops

    cells : text_feed x p ≡ d.cells
    cells =
        row-feed x (definition_line label dest) following p small text (flat-line_of label dest are) within
        ∙ ap (λ (q : Point). row x.line (definition_line label dest) p ++ text_feed x q) (over-line label dest p)
        ∙ row-line x label dest p rest

    found : definition_in options (text_feed x p) ≡ Some d
    found =
        ap (λ (t : Bool). cond t (definition_parts (text_feed x p)) None) on
        ∙ ap definition_parts cells
        ∙ parts-row x.line label dest p (after_last r) (after_last (after_last r))
        (after_last (after_last (after_last r))) rest are stops untitled

    ends : over dest (after_last (after_last (after_last r))) ≡ end_of_line label dest p
    ends = ap (over dest) (over-label label p) ∙ over-past dest (length label + 4) p

-- Its events stay as they are, but for the end of the last piece.

-- an event that no chunk moves
abbrev pub keeps : Chunk → Event → Bool
keeps chunk e = not (is_piece_end e && nat_le chunk.after.index e.point.index)

settled-all : (chunk : Chunk) (chunks : List Chunk) (xs es : List Event) → list_all (keeps chunk) xs ≡ true →
    settled (chunk ∷ chunks) (xs ++ es) ≡ xs ++ settled (chunk ∷ chunks) es
settled-all chunk chunks [] es h = refl
settled-all chunk chunks (e ∷ xs) es h =
    let both = and_parts (keeps chunk e) (list_all (keeps chunk) xs) h in
    rw (not-true (is_piece_end e && nat_le chunk.after.index e.point.index) both.0)
    (ap (λ (l : List Event). e ∷ l) (settled-all chunk chunks xs es both.1))

-- the events of a definition, up to the end of its destination, and those after that
abbrev front : Point → Point → Point → Point → Point → Point → List Event
front p q r s t u =
    enter parts.Definition p
    ∷ (label_part p q r s ++ pair parts.DefinitionMarker s t ++ pair parts.SpaceOrTab t u
    ++ enter parts.DefinitionDestination u ∷ enter parts.DefinitionDestinationRaw u ∷ enter
    parts.DefinitionDestinationString u
    ∷ enter_link parts.Data u string_link ∷ [])

abbrev back : Point → List Event
back v =
    exit parts.DefinitionDestinationString v ∷ exit parts.DefinitionDestinationRaw v ∷ exit
    parts.DefinitionDestination v
    ∷ exit parts.Definition v ∷ []

front-kept : (chunk : Chunk) (p q r s t u : Point) → r.index < chunk.after.index →
    list_all (keeps chunk) (front p q r s t u) ≡ true
front-kept chunk p q r s t u lt =
    let no : nat_le chunk.after.index r.index ≡ false = grind (arith, nat_tests) in rw no refl

-- after a line that continues
settled-on : (chunk : Chunk) (chunks : List Chunk) (p q r s t u v : Point) (es : List Event) →
    r.index < chunk.after.index → v.index < chunk.after.index →
    settled (chunk ∷ chunks) (definition_between p q r s t u v ++ es) ≡
    definition_between p q r s t u v ++ settled (chunk ∷ chunks) es
settled-on chunk chunks p q r s t u v es one two =
    settled-all chunk chunks (definition_between p q r s t u v) es
    (let no : nat_le chunk.after.index r.index ≡ false = grind (arith, nat_tests, one) in
    let none : nat_le chunk.after.index v.index ≡ false = grind (arith, nat_tests, two) in
    rw (no, none) refl)

-- at the end
settled-last : (chunk : Chunk) (p q r s t u : Point) → r.index < chunk.after.index →
    settled (chunk ∷ []) (definition_between p q r s t u chunk.after) ≡ definition_between p q r s t u chunk.after
settled-last chunk p q r s t u lt =
    settled-all chunk [] (front p q r s t u) (exit parts.Data chunk.after ∷ back chunk.after)
    (front-kept chunk p q r s t u lt)
    ∙ ap (λ (es : List Event). front p q r s t u ++ es)
    (settled-end chunk [] (exit parts.Data chunk.after) (back chunk.after) refl (omega arith))

-- Where a line ends.

point-is : (q : Point) (a b c d : ℕ) → q.line ≡ a → q.column ≡ b → q.index ≡ c → q.vs ≡ d →
    (let p : Point = record { line = a; column = b; index = c; vs = d } in p) ≡ q
point-is q a b c d e f g h = rw (sym e, sym f, sym g, sym h) refl

-- after its ending
feed-ending : (x : Setting) (v q r : Point) → x.limit < 2 ^ 61 → v.index < x.limit → slice_index x.bytes v.index ≡ 10 →
    q.line ≡ v.line + 1 → q.column ≡ 1 → q.index ≡ v.index + 1 → q.vs ≡ 0 → line_begun x q ≡ r →
    text_feed x v ≡ cell 10 r x.line ∷ text_feed x r
feed-ending x v q r small lt is line column index vs begun =
    feed-next x v small lt
    ∙ ap (λ (b : ℕ). cell b (after x v) x.line ∷ text_feed x (after x v)) seen
    ∙ ap (λ (o : Point). cell 10 o x.line ∷ text_feed x o) (following ∙ ap (line_begun x) next ∙ begun)
  where
    seen : seen_at x.bytes v ≡ 10
    seen = rw is refl

    next : next_point x.bytes v ≡ q
    next = rw is (point-is q (v.line + 1) 1 (v.index + 1) 0 line column index vs)

    following : after x v ≡ line_begun x (next_point x.bytes v)
    following = rw is refl

feed-bracket : (x : Setting) (p : Point) → x.limit < 2 ^ 61 → p.index < x.limit → slice_index x.bytes p.index ≡ 91 →
    text_feed x p ≡ cell 91 (after x p) x.line ∷ text_feed x (after x p)
feed-bracket x p small lt is =
    feed-next x p small lt
    ∙ ap (λ (b : ℕ). cell b (after x p) x.line ∷ text_feed x (after x p))
    (let seen : seen_at x.bytes p ≡ 91 = rw is refl in seen)

-- no title begins with a bracket
untitled : (q r : Point) (l : Line) (cells : List Cell) → title_following (cell 10 q l ∷ cell 91 r l ∷ cells) ≡ None
unfolding title_parts
untitled q r l cells =
    ap (λ (cs : List Cell). lone (title_parts (ending_rest cs)))
    (none-rest any_size (cell 10 q l ∷ cell 91 r l ∷ cells) refl)
    ∙ ap (λ (cs : List Cell). lone (title_parts cs)) (none-rest any_size (cell 91 r l ∷ cells) refl)

-- The bytes of a line.

line-length : (label dest : List ℕ) → length (definition_line label dest) ≡ length label + 4 + length dest
line-length label dest = let size = length-append label (93 ∷ 58 ∷ 32 ∷ dest) in omega (arith, size)

pub record HasText (bytes : List ℕ) (p : Point) (end : ℕ) (label dest : List ℕ) : Type 0 where
  pub following : List ℕ
  pub text : drop p.index bytes ≡ definition_line label dest ++ following
  pub size : p.index + (length label + 4 + length dest) ≡ end

pub has-text : (bytes : List ℕ) (p : Point) (end : ℕ) (label dest : List ℕ) → end ≤ length bytes →
    slice_range bytes p.index end ≡ definition_line label dest → HasText bytes p end label dest
has-text bytes p end label dest le is =
    let all = line-length label dest in
    let left = length-drop p.index bytes in
    let cut = length-take-le (end - p.index) (drop p.index bytes) (omega (arith, left, le)) in
    let same = ap length is in
    record {
      following = drop (end - p.index) (drop p.index bytes);
      text =
          sym (take-append-drop (end - p.index) (drop p.index bytes))
          ∙ ap (λ (l : List ℕ). l ++ drop (end - p.index) (drop p.index bytes)) is;
      size = omega (arith, all, cut, same);
    }

-- What is read of a line that continues, and of the last.

abbrev pub reads : ParseOptions → Setting → List Chunk → List Event
reads options x chunks = settled chunks (content_over options (text_feed x (first_of chunks)) (first_of chunks))

pub step-on : (x : Setting) (options : ParseOptions) (chunk next : Chunk) (more : List Chunk) (label dest : List ℕ) →
    x.limit < 2 ^ 61 → options.constructs.definition ≡ true → AreParts label dest → IsChunk x.bytes chunk →
    Followed chunk next → slice_range x.bytes chunk.first.index (chunk.after.index - 1) ≡ definition_line label dest →
    slice_index x.bytes (chunk.after.index - 1) ≡ 10 → line_begun x chunk.after ≡ next.first →
    next.first.index < x.limit → slice_index x.bytes next.first.index ≡ 91 →
    reads options x (chunk ∷ next ∷ more) ≡
    definition_part (length label) (length dest) chunk.first
    ++ pair parts.LineEnding (end_of_line label dest chunk.first) chunk.after ++ reads options x (next ∷ more)
step-on x options chunk next more label dest small on are is f line ending begun inside bracket =
    ap (settled (chunk ∷ next ∷ more))
    (line-read x options label dest has.following p small on are has.text within stops no_title
    ∙ ap (λ (l : List Cell). definition_part (length label) (length dest) p
    ++ following_definition (content_over options) l v)
    feed)
    ∙ settled-on chunk (next ∷ more) p (past 1 p) (past (length label + 1) p) (past (length label + 2) p)
    (past (length label + 3) p) (past (length label + 4) p) v
    (enter parts.LineEnding v ∷ exit parts.LineEnding next.first ∷ rest) (omega (arith, has.size))
    (omega (arith, has.size))
    ∙ ap (λ (es : List Event). definition_part (length label) (length dest) p ++ es)
    (settled-other (chunk ∷ next ∷ more) (enter parts.LineEnding v) (exit parts.LineEnding next.first ∷ rest) refl
    ∙ ap (λ (es : List Event). enter parts.LineEnding v ∷ es)
    (settled-end chunk (next ∷ more) (exit parts.LineEnding next.first) rest refl f.index))
  where
    p : Point
    p = chunk.first

    v : Point
    v = end_of_line label dest p

    rest : List Event
    rest = content_over options (text_feed x next.first) next.first

    has : HasText x.bytes p (chunk.after.index - 1) label dest
    has = has-text x.bytes p (chunk.after.index - 1) label dest (let le = is.after.index in omega (arith, le)) line

    index : chunk.after.index ≡ v.index + 1
    index = omega (arith, has.size)

    within : p.index + length (definition_line label dest) ≤ x.limit
    within = let size = line-length label dest in omega (arith, has.size, size, inside, f.index)

    feed : text_feed x v ≡ cell 10 next.first x.line ∷ text_feed x next.first
    feed =
        feed-ending x v chunk.after next.first small (omega (arith, index, inside, f.index))
        (ap (slice_index x.bytes) (omega (arith, index)) ∙ ending) (sym f.line) f.column index
        (first-vs x.bytes chunk.after is.after f.column) begun

    stops : Stops (text_feed x v)
    stops = subst Stops (sym feed) refl

    no_title : title_following (text_feed x v) ≡ None
    no_title =
        ap title_following
        (feed ∙ ap (λ (l : List Cell). cell 10 next.first x.line ∷ l) (feed-bracket x next.first small inside bracket))
        ∙ untitled next.first (after x next.first) x.line (text_feed x (after x next.first))

-- Where the points of a line are.

past-placed : (bytes bs rest : List ℕ) (p : Point) (k : ℕ) → IsPlaced bytes p → drop p.index bytes ≡ bs ++ rest →
    list_all is_flat bs ≡ true → k < length bs → p.index + length bs ≤ length bytes → IsPlaced bytes (past (k + 1) p)
past-placed bytes [] rest p k at is flat lt within = absurd (omega arith)
past-placed bytes (b ∷ bs) rest p k at is flat lt within =
    go k lt (λ m less. past-placed bytes bs rest (after_last p) m next_at text both.1 less (omega (arith, long)))
  where
    both : (is_flat b ≡ true) × (list_all is_flat bs ≡ true)
    both = and_parts (is_flat b) (list_all is_flat bs) flat

    long : p.index + suc (length bs) ≤ length bytes
    long = within

    f : (is_ending b ≡ false) × ((b == 9) ≡ false)
    f = flat-line b both.0

    here : slice_index bytes p.index ≡ b
    here = at-next p.index bytes b (bs ++ rest) is

    text : drop (p.index + 1) bytes ≡ bs ++ rest
    text = past-next p.index bytes b (bs ++ rest) is

    next : next_point bytes p ≡ after_last p
    next = rw (here, f.0, f.1) refl

    next_at : IsPlaced bytes (after_last p)
    next_at = subst (IsPlaced bytes) next (placed-next bytes p at (omega (arith, long)))

    go : (j : ℕ) → j < suc (length bs) →
        ((m : ℕ) → m < length bs → IsPlaced bytes (past (m + 1) (after_last p))) →
        IsPlaced bytes (past (j + 1) p)
    go zero less more = next_at
    go (suc j) less more =
        let c : p.column + 1 + (j + 1) ≡ p.column + (suc j + 1) = omega arith in
        let i : p.index + 1 + (j + 1) ≡ p.index + (suc j + 1) = omega arith in
        subst (IsPlaced bytes) (rw (c, i) refl) (more j (omega (arith, less)))

-- all points of a definition
record ArePast (bytes : List ℕ) (p : Point) (size : ℕ) : Type 0 where
  first : IsPlaced bytes p
  each : (k : ℕ) → 1 ≤ k → k ≤ size → IsPlaced bytes (past k p)

are-past : (bytes : List ℕ) (p : Point) (end : ℕ) (label dest : List ℕ) → end ≤ length bytes → IsPlaced bytes p →
    AreParts label dest → slice_range bytes p.index end ≡ definition_line label dest →
    ArePast bytes p (length label + 4 + length dest)
are-past bytes p end label dest le at are is =
    let has = has-text bytes p end label dest le is in
    let size = line-length label dest in
    record {
      first = at;
      each =
          λ k some few. let same : (k - 1) + 1 ≡ k = omega (arith, some) in
          subst (λ (m : ℕ). IsPlaced bytes (past m p)) same
          (past-placed bytes (definition_line label dest) has.following p (k - 1) at has.text
          (flat-line_of label dest are)
          (omega (arith, size, some, few)) (omega (arith, size, has.size, le)));
    }

-- one after another
abbrev pub EachPlaced : List ℕ → List Event → Type 0
EachPlaced bytes [] = Unit {0}
EachPlaced bytes (e ∷ es) = IsPlaced bytes e.point × EachPlaced bytes es

pub all-placed : (bytes : List ℕ) (es : List Event) → EachPlaced bytes es → ArePlaced bytes es
all-placed bytes [] h = All-nil (λ (e : Event). IsPlaced bytes e.point)
all-placed bytes (e ∷ es) h = All-cons (λ (e : Event). IsPlaced bytes e.point) e es h.0 (all-placed bytes es h.1)

pub definition-placed : (bytes : List ℕ) (p : Point) (end : ℕ) (label dest : List ℕ) → end ≤ length bytes →
    IsPlaced bytes p → AreParts label dest → slice_range bytes p.index end ≡ definition_line label dest →
    ArePlaced bytes (definition_part (length label) (length dest) p)
definition-placed bytes p end label dest le at are is =
    let m = length label in
    let all = are-past bytes p end label dest le at are is in
    let q = all.each 1 (omega arith) (omega arith) in
    let r = all.each (m + 1) (omega arith) (omega arith) in
    let s = all.each (m + 2) (omega arith) (omega arith) in
    let t = all.each (m + 3) (omega arith) (omega arith) in
    let u = all.each (m + 4) (omega arith) (omega arith) in
    let v = all.each (m + 4 + length dest) (omega arith) (omega arith) in
    all-placed bytes (definition_part m (length dest) p) (
      at,
      (
        at,
        (at, (q, (q, (q, (r, (r, (r, (s, (s, (s, (t, (t, (u, (u, (u, (u, (u, (v, (v, (v, (v, (v, tt)))))))))))))))))))))),
      ),
    )

pub end-placed : (bytes : List ℕ) (p : Point) (end : ℕ) (label dest : List ℕ) → end ≤ length bytes →
    IsPlaced bytes p → AreParts label dest → slice_range bytes p.index end ≡ definition_line label dest →
    IsPlaced bytes (end_of_line label dest p)
end-placed bytes p end label dest le at are is =
    (are-past bytes p end label dest le at are is).each (length label + 4 + length dest) (omega arith) (omega arith)

pub step-last : (x : Setting) (options : ParseOptions) (chunk : Chunk) (label dest : List ℕ) →
    x.limit < 2 ^ 61 → options.constructs.definition ≡ true → AreParts label dest → IsChunk x.bytes chunk →
    Within chunk → slice_range x.bytes chunk.first.index chunk.after.index ≡ definition_line label dest →
    x.limit ≡ chunk.after.index →
    reads options x (chunk ∷ []) ≡ definition_part (length label) (length dest) chunk.first
step-last x options chunk label dest small on are is w line limit =
    ap (settled (chunk ∷ []))
    (line-read x options label dest has.following p small on are has.text within stops no_title
    ∙ ap (λ (l : List Cell). definition_part (length label) (length dest) p
    ++ following_definition (content_over options) l v)
    feed
    ∙ append-nil (definition_part (length label) (length dest) p)
    ∙ ap (λ (o : Point). definition_between p (past 1 p) (past (m + 1) p) (past (m + 2) p) (past (m + 3) p)
    (past (m + 4) p) o)
    ends)
    ∙ settled-last chunk p (past 1 p) (past (m + 1) p) (past (m + 2) p) (past (m + 3) p) (past (m + 4) p)
    (omega (arith, has.size))
    ∙ ap (λ (o : Point). definition_between p (past 1 p) (past (m + 1) p) (past (m + 2) p) (past (m + 3) p)
    (past (m + 4) p) o)
    (sym ends)
  where
    p : Point
    p = chunk.first

    m : ℕ
    m = length label

    v : Point
    v = end_of_line label dest p

    has : HasText x.bytes p chunk.after.index label dest
    has = has-text x.bytes p chunk.after.index label dest is.after.index line

    within : p.index + length (definition_line label dest) ≤ x.limit
    within = let size = line-length label dest in omega (arith, has.size, size, limit)

    feed : text_feed x v ≡ []
    feed = feed-none x v small (omega (arith, has.size, limit))

    stops : Stops (text_feed x v)
    stops = subst Stops (sym feed) tt

    no_title : title_following (text_feed x v) ≡ None
    no_title = ap title_following feed

    ends : v ≡ chunk.after
    ends =
        placed-same x.bytes v chunk.after
        (end-placed x.bytes p chunk.after.index label dest is.after.index is.first are line) is.after
        has.size (sym w.vs)
