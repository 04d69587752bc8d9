-- What is read of whole lines where no definition begins: a paragraph over them.
use Rattle.std.proofs.Common.{◌≡◌, ℕ, zero, suc, ◌+◌, ◌-◌, ◌^◌, ◌<◌, ◌≤◌, inl, inr, Bool, true, false, cond}
use Rattle.std.proofs.Common.{List, Option, get_or, [], ◌∷◌, ◌++◌, length, take, refl, ap, sym, ◌∙◌, append_assoc}
use Rattle.std.proofs.Common.{length-append, arith}
use Rattle.std.specs.Prelude.{◌==◌, nat_le, slice_get, slice_range, Some}
use Rattle.std.specs.List.{All}
use Rattle.std.proofs.lemmas.Bool.{and_parts, cases_lt, eqb-true, leb-true}
use Rattle.std.proofs.lemmas.Bool.Decides.{nat_tests}
use Rattle.std.proofs.lemmas.List.{append-nil, take_all, take_more}
use Rattle.std.proofs.lemmas.List.Elements.{All-append, All-cons, All-head, All-nil, All-tail}
use Rattle.md_engine.specs.declared.configuration.ParseOptions.{ParseOptions}
use Rattle.md_engine.specs.declared.event.Event.{Event}
use Rattle.md_engine.specs.declared.event.Name.TheVariants as parts
use Rattle.md_engine.specs.declared.event.Point.{Point}
use Rattle.md_engine.specs.Place.{IsPlaced, begun_at}
use Rattle.md_engine.specs.Scheme.{cells_left}
use Rattle.md_engine.specs.TextFeed.{text_feed}
use Rattle.md_engine.specs.World.{Setting, World, fresh, line_begun, skipping}
use Rattle.md_content.specs.ContentReads.{content_events, end_of, first_of, part_world, settled, skipping_all}
use Rattle.md_content.specs.ContentRule.{content_by, content_over}
use Rattle.md_content.specs.LabelLook.{may_define_in}
use Rattle.md_content.specs.Paragraph.{text_link}
use Rattle.md_content.specs.ParagraphRule.{line_events}
use Rattle.md_content.specs.WholeLines.{after_of, are_lines, is_followed, is_within_line, lines_of, paragraph_of}
use Rattle.md_content.proofs.ContentReadsLemmas.{skipping-same}
use Rattle.md_content.proofs.ContentRuleLemmas.{content-unfolds}
use Rattle.md_content.proofs.LabelLook.{look-none}
use Rattle.md_content.proofs.LineReads.{Reads, ended-line, last-line, line-order}
use Rattle.md_content.proofs.SettledLemmas.{settled-end, settled-other}
use Rattle.md_link_definitions.specs.DefinitionRule.{DefinitionParts}
use Rattle.md_events.specs.Ahead.{point_after}
use Rattle.md_events.specs.declared.inline.Chunk.{Chunk}
use Rattle.md_events.specs.Events.Nested.{enter, enter_link, exit}
use Rattle.md_events.specs.Parts.{AreChunks, ArePlaced, IsChunk}
use Rattle.md_events.proofs.PointOrder.{Before}

-- Chunks that are lines.

-- what is known of a chunk with the ending of its line, and of the next one
pub record Followed (chunk next : Chunk) : Type 0 where
  pub line : chunk.first.line + 1 ≡ chunk.after.line
  pub column : chunk.after.column ≡ 1
  pub begins : next.first.line ≡ chunk.after.line
  pub index : chunk.after.index ≤ next.first.index

pub followed : (chunk next : Chunk) → is_followed chunk next ≡ true → Followed chunk next
followed chunk next h =
    let all = and_parts _ _ h in
    let lines = and_parts _ _ all.0 in
    let own = and_parts _ _ lines.0 in
    record {
      line = let one = eqb-true (chunk.after.line - chunk.first.line) 1 own.0 in omega (arith, one);
      column = eqb-true chunk.after.column 1 own.1;
      begins = eqb-true next.first.line chunk.after.line lines.1;
      index = leb-true chunk.after.index next.first.index all.1;
    }

-- and of the last
pub record Within (chunk : Chunk) : Type 0 where
  pub line : chunk.first.line ≡ chunk.after.line
  pub index : chunk.first.index < chunk.after.index
  pub vs : chunk.after.vs ≡ 0

pub within : (chunk : Chunk) → is_within_line chunk ≡ true → Within chunk
within chunk h =
    let all = and_parts _ _ h in
    let own = and_parts _ _ all.0 in
    record {
      line = eqb-true chunk.first.line chunk.after.line own.0;
      index = let yes = own.1 in grind (arith, nat_tests);
      vs = eqb-true chunk.after.vs 0 all.1;
    }

-- a line has its ending at its end
pub has-byte : (bytes : List ℕ) (p q : Point) → IsPlaced bytes p → IsPlaced bytes q → q.vs ≡ 0 → p.line < q.line →
    p.index < q.index
has-byte bytes p q h k whole line = elim (cases_lt p.index q.index) [
  | inl lt ↦ lt
  | inr le ↦ absurd (omega (arith, line, line-order bytes q p k h (not-before le)))
]
  where
    not-before : q.index ≤ p.index → Before p q → ⊥
    not-before le (inl b) = omega (arith, le, b)
    not-before le (inr b) = omega (arith, whole, b.1)

pub first-vs : (bytes : List ℕ) (q : Point) → IsPlaced bytes q → q.column ≡ 1 → q.vs ≡ 0
first-vs bytes q k first = let few = k.vs in omega (arith, few, first)

-- no chunk ends after the last
pub end-following : (bytes : List ℕ) (chunk : Chunk) (chunks : List Chunk) → All (IsChunk bytes) (chunk ∷ chunks) →
    are_lines (chunk ∷ chunks) ≡ true → chunk.after.index ≤ end_of (chunk ∷ chunks)
end-following bytes chunk [] are lines = omega arith
end-following bytes chunk (next ∷ chunks) are lines =
    let both = and_parts _ _ lines in
    let f = followed chunk next both.0 in
    let rest = All-tail (IsChunk bytes) chunk (next ∷ chunks) are in
    let own = All-head (IsChunk bytes) next chunks rest in
    omega (arith, f.index, ordered next chunks own both.1, end-following bytes next chunks rest both.1)
  where
    ordered : (c : Chunk) (cs : List Chunk) → IsChunk bytes c → are_lines (c ∷ cs) ≡ true →
        c.first.index < c.after.index
    ordered c [] is l = (within c l).index
    ordered c (d ∷ cs) is l =
        let f = followed c d (and_parts _ _ l).0 in
        has-byte bytes c.first c.after is.first is.after (first-vs bytes c.after is.after f.column)
        (omega (arith, f.line))

pub end-small : (bytes : List ℕ) (chunk : Chunk) (chunks : List Chunk) → All (IsChunk bytes) (chunk ∷ chunks) →
    end_of (chunk ∷ chunks) < 2 ^ 61
end-small bytes chunk [] are =
    let h = (All-head (IsChunk bytes) chunk [] are).after in omega (arith, h.index, h.sized)
end-small bytes chunk (next ∷ chunks) are =
    end-small bytes next chunks (All-tail (IsChunk bytes) chunk (next ∷ chunks) are)

-- where chunks begin
abbrev pub firsts : List Chunk → List Point
firsts [] = []
firsts (chunk ∷ chunks) = chunk.first ∷ firsts chunks

at-seam : (before : List Point) (p : Point) (following : List Point) →
    slice_get (before ++ p ∷ following) (length before) ≡ Some p
at-seam [] p following = refl
at-seam (q ∷ before) p following = at-seam before p following

-- the line after a chunk begins at the next chunk
begun-next : (x : Setting) (before : List Point) (p : Point) (following : List Point) (q : Point) →
    x.skips ≡ before ++ p ∷ following → q.line ≡ x.first_line + length before → q.index ≤ p.index → line_begun x q ≡ p
begun-next x before p following q skips line le =
    let count : q.line - x.first_line ≡ length before = omega (arith, line) in
    let there : nat_le q.index p.index ≡ true = grind (arith, nat_tests, le) in
    ap (λ (l : List Point). begun_at (slice_get l (q.line - x.first_line)) q) skips
    ∙ ap (λ (i : ℕ). begun_at (slice_get (before ++ p ∷ following) i) q) count
    ∙ rw (at-seam before p following, there) refl

-- What is read of them.

-- the events of all lines, where those before the first chunk have begun at these points
read-lines : (x : Setting) (chunk : Chunk) (chunks : List Chunk) (before : List Point) → x.limit < 2 ^ 61 →
    x.limit ≡ end_of (chunk ∷ chunks) → x.skips ≡ before ++ firsts chunks →
    chunk.first.line + 1 ≡ x.first_line + length before → All (IsChunk x.bytes) (chunk ∷ chunks) →
    are_lines (chunk ∷ chunks) ≡ true →
    settled (chunk ∷ chunks)
    (line_events (text_feed x chunk.first) chunk.first
    ++ exit parts.Paragraph (point_after (text_feed x chunk.first) chunk.first) ∷ []) ≡
    exit parts.Data chunk.after ∷ lines_of chunks ++ exit parts.Paragraph (after_of (chunk ∷ chunks)) ∷ []
read-lines x chunk [] before small limit skips line are lines =
    let is = All-head (IsChunk x.bytes) chunk [] are in
    let w = within chunk lines in
    let read : Reads x chunk.first (exit parts.Data chunk.after ∷ []) chunk.after =
    last-line x chunk.after (cells_left x.limit chunk.first) chunk.first small limit is.after w.vs (omega arith)
    is.first w.line (inl w.index) in
    rw (read.0, read.1)
    (settled-end chunk [] (exit parts.Data chunk.after) (exit parts.Paragraph chunk.after ∷ []) refl (omega arith))
read-lines x chunk (next ∷ chunks) before small limit skips line are lines =
    let both = and_parts _ _ lines in
    let f = followed chunk next both.0 in
    let is = All-head (IsChunk x.bytes) chunk (next ∷ chunks) are in
    let rest = All-tail (IsChunk x.bytes) chunk (next ∷ chunks) are in
    let whole = first-vs x.bytes chunk.after is.after f.column in
    let begun : line_begun x chunk.after ≡ next.first =
    begun-next x before next.first (firsts chunks) chunk.after skips (omega (arith, line, f.line)) f.index in
    let following : List Event = line_events (text_feed x next.first) next.first in
    let to : Point = point_after (text_feed x next.first) next.first in
    let read : Reads x chunk.first
    (exit parts.Data next.first ∷ enter_link parts.Data next.first text_link ∷ following) to =
    ended-line x chunk.after next.first following to (cells_left x.limit chunk.first) chunk.first small
    (omega (arith, limit, end-following x.bytes chunk (next ∷ chunks) are lines)) is.after f.column whole begun
    (refl, refl) (omega arith) is.first f.line
    (has-byte x.bytes chunk.first chunk.after is.first is.after whole (omega (arith, f.line))) in
    let more = read-lines x next chunks (before ++ next.first ∷ []) small limit
    (skips ∙ sym (append_assoc before (next.first ∷ []) (firsts chunks)))
    (omega (arith, line, f.line, f.begins, length-append before (next.first ∷ []))) rest both.1 in
    rw (read.0, read.1)
    (settled-end chunk (next ∷ chunks) (exit parts.Data next.first)
    (enter_link parts.Data next.first text_link ∷ following ++ exit parts.Paragraph to ∷ []) refl f.index
    ∙ ap (λ (es : List Event). exit parts.Data chunk.after ∷ es)
    (settled-other (next ∷ chunks) (enter_link parts.Data next.first text_link)
    (following ++ exit parts.Paragraph to ∷ []) refl
    ∙ ap (λ (es : List Event). enter_link parts.Data next.first text_link ∷ es) more))

-- Where they are read.

skips-all : (w : World) (chunks : List Chunk) → (skipping_all w chunks).setting.skips ≡ w.setting.skips ++ firsts chunks
skips-all w [] = sym (append-nil w.setting.skips)
skips-all w (chunk ∷ chunks) =
    skips-all (skipping w chunk.first) chunks ∙ append_assoc w.setting.skips (chunk.first ∷ []) (firsts chunks)

-- a skip of a later line does not move the point
point-all : (w : World) (chunk : Chunk) (chunks : List Chunk) (p : Point) → w.point ≡ p → p.line ≤ chunk.first.line →
    are_lines (chunk ∷ chunks) ≡ true → (skipping_all w chunks).point ≡ p
point-all w chunk [] p at le lines = at
point-all w chunk (next ∷ chunks) p at le lines =
    let both = and_parts _ _ lines in
    let f = followed chunk next both.0 in
    let later : w.point.line < next.first.line =
    omega (arith, le, f.line, f.begins, ap (λ (q : Point). q.line) at) in
    let apart : (w.point.line == next.first.line) ≡ false = grind (arith, nat_tests, later) in
    point-all (skipping w next.first) next chunks p
    (ap (λ (t : Bool). cond t (begun_at (Some next.first) w.point) w.point) apart ∙ at)
    (omega (arith, later, ap (λ (q : Point). q.line) at)) both.1

-- the text of these lines
abbrev pub setting_over : List ℕ → ParseOptions → Chunk → List Chunk → Setting
setting_over bytes options chunk chunks =
    record (fresh bytes options chunk.first).setting {
      limit = end_of (chunk ∷ chunks);
      skips = chunk.first ∷ firsts chunks;
    }

pub world-setting : (bytes : List ℕ) (options : ParseOptions) (chunk : Chunk) (chunks : List Chunk) →
    (part_world bytes options (chunk ∷ chunks)).setting ≡ setting_over bytes options chunk chunks
world-setting bytes options chunk chunks =
    let w = fresh bytes options chunk.first in
    let end = end_of (chunk ∷ chunks) in
    ap (λ (v : World). record v.setting { limit = end }) (skipping-same w (chunk ∷ chunks))
    ∙ ap (λ (l : List Point). record w.setting { skips = l; limit = end }) (skips-all w (chunk ∷ chunks))

pub world-point : (bytes : List ℕ) (options : ParseOptions) (chunk : Chunk) (chunks : List Chunk) →
    are_lines (chunk ∷ chunks) ≡ true → (part_world bytes options (chunk ∷ chunks)).point ≡ chunk.first
world-point bytes options chunk chunks lines =
    point-all (skipping (fresh bytes options chunk.first) chunk.first) chunk chunks chunk.first
    (go (chunk.first.line == chunk.first.line) (nat_le chunk.first.index chunk.first.index)) (omega arith) lines
  where
    go : (s t : Bool) → cond s (cond t chunk.first chunk.first) chunk.first ≡ chunk.first
    go true true = refl
    go true false = refl
    go false t = refl

-- Whole lines are read as one paragraph, where a look at the first refuses a definition.
read-whole : (bytes : List ℕ) (options : ParseOptions) (chunk : Chunk) (chunks : List Chunk) →
    All (IsChunk bytes) (chunk ∷ chunks) →
    may_define_in (slice_range bytes chunk.first.index chunk.after.index) ≡ false →
    are_lines (chunk ∷ chunks) ≡ true → content_events bytes options (chunk ∷ chunks) ≡ paragraph_of (chunk ∷ chunks)
unfolding content_events
read-whole bytes options chunk chunks are first lines =
    let all = chunk ∷ chunks in
    let p = chunk.first in
    let x = setting_over bytes options chunk chunks in
    let small = end-small bytes chunk chunks are in
    let cells = text_feed x p in
    let to = point_after cells p in
    let is = (All-head (IsChunk bytes) chunk chunks are).after in
    let none = look-none x options chunk.after.index p small (end-following bytes chunk chunks are lines)
    is.index first in
    ap (λ (s : Setting). settled all
    (content_over options (text_feed s (part_world bytes options all).point) (part_world bytes options all).point))
    (world-setting bytes options chunk chunks)
    ∙ ap (λ (q : Point). settled all (content_over options (text_feed x q) q))
    (world-point bytes options chunk chunks lines)
    ∙ ap (settled all)
    (content-unfolds options cells p
    ∙ ap (λ (o : Option DefinitionParts). content_by o (content_over options) cells p) none)
    ∙ settled-other all (enter parts.Paragraph p)
    (enter_link parts.Data p text_link ∷ line_events cells p ++ exit parts.Paragraph to ∷ []) refl
    ∙ ap (λ (es : List Event). enter parts.Paragraph p ∷ es)
    (settled-other all (enter_link parts.Data p text_link) (line_events cells p ++ exit parts.Paragraph to ∷ []) refl
    ∙ ap (λ (es : List Event). enter_link parts.Data p text_link ∷ es)
    (read-lines x chunk chunks (p ∷ []) small refl refl (omega arith) are lines))

pub whole-lines : (bytes : List ℕ) (options : ParseOptions) (chunks : List Chunk) (d : Chunk) →
    AreChunks bytes chunks →
    may_define_in (slice_range bytes (get_or chunks 0 d).first.index (get_or chunks 0 d).after.index) ≡ false →
    are_lines chunks ≡ true → content_events bytes options chunks ≡ paragraph_of chunks
whole-lines bytes options [] d are first lines = absurd (let some = are.some in omega (arith, some))
whole-lines bytes options (chunk ∷ chunks) d are first lines =
    read-whole bytes options chunk chunks are.each first lines

-- One chunk after another.

lines-more : (chunks : List Chunk) (chunk : Chunk) →
    lines_of (chunks ++ chunk ∷ []) ≡
    lines_of chunks ++ enter_link parts.Data chunk.first text_link ∷ exit parts.Data chunk.after ∷ []
lines-more [] chunk = refl
lines-more (first ∷ chunks) chunk =
    ap (λ (es : List Event). enter_link parts.Data first.first text_link ∷ exit parts.Data first.after ∷ es)
    (lines-more chunks chunk)

-- so many of the lines of a paragraph
abbrev pub Begun : Point → List Chunk → ℕ → List Event → Type 0
Begun p chunks many events = events ≡ enter parts.Paragraph p ∷ lines_of (take many chunks)

-- one line more
pub begun-more : (p : Point) (chunks : List Chunk) (i : ℕ) (d : Chunk) (old events new : List Event) →
    i < length chunks → Begun p chunks i old →
    events ≡ old ++ enter_link parts.Data (get_or chunks i d).first text_link ∷ [] →
    new ≡ events ++ exit parts.Data (get_or chunks i d).after ∷ [] → Begun p chunks (i + 1) new
begun-more p chunks i d old events new lt so_far begins ends =
    let chunk = get_or chunks i d in
    let own : List Event = enter_link parts.Data chunk.first text_link ∷ [] in
    ends
    ∙ ap (λ (es : List Event). es ++ exit parts.Data chunk.after ∷ []) begins
    ∙ append_assoc old own (exit parts.Data chunk.after ∷ [])
    ∙ ap (λ (es : List Event). es ++ (own ++ exit parts.Data chunk.after ∷ [])) so_far
    ∙ ap (λ (es : List Event). enter parts.Paragraph p ∷ es)
    (sym (ap lines_of (take_more chunks i d lt) ∙ lines-more (take i chunks) chunk))

-- where the last chunk has ended
after-at : (chunks : List Chunk) (i : ℕ) (d : Chunk) → length chunks ≡ suc i →
    (get_or chunks i d).after ≡ after_of chunks
after-at [] i d is = absurd (omega arith)
after-at (chunk ∷ []) zero d is = refl
after-at (chunk ∷ []) (suc i) d is = absurd (omega arith)
after-at (chunk ∷ next ∷ chunks) zero d is = absurd (omega arith)
after-at (chunk ∷ next ∷ chunks) (suc i) d is = after-at (next ∷ chunks) i d (omega arith)

-- all lines
pub begun-all : (chunks : List Chunk) (i : ℕ) (d : Chunk) (old new : List Event) → 0 < length chunks →
    length chunks ≤ i → Begun (first_of chunks) chunks i old →
    new ≡ old ++ exit parts.Paragraph (get_or chunks (length chunks - 1) d).after ∷ [] → new ≡ paragraph_of chunks
begun-all chunks i d old new some le so_far ends =
    let count : length chunks ≡ suc (length chunks - 1) = omega (arith, some) in
    ends
    ∙ ap (λ (q : Point). old ++ exit parts.Paragraph q ∷ []) (after-at chunks (length chunks - 1) d count)
    ∙ ap (λ (es : List Event). es ++ exit parts.Paragraph (after_of chunks) ∷ []) so_far
    ∙ ap (λ (cs : List Chunk).
    enter parts.Paragraph (first_of chunks) ∷ lines_of cs ++ exit parts.Paragraph (after_of chunks) ∷ [])
    (take_all i chunks le)

-- its events are at places of the text, as the chunks are
pub paragraph-placed : (bytes : List ℕ) (chunks : List Chunk) → AreChunks bytes chunks →
    ArePlaced bytes (paragraph_of chunks)
paragraph-placed bytes [] are = absurd (let some = are.some in omega (arith, some))
paragraph-placed bytes (chunk ∷ chunks) are =
    All-cons At (enter parts.Paragraph chunk.first)
    (lines_of (chunk ∷ chunks) ++ exit parts.Paragraph (after_of (chunk ∷ chunks)) ∷ [])
    (All-head (IsChunk bytes) chunk chunks are.each).first
    (All-append At (lines_of (chunk ∷ chunks)) (exit parts.Paragraph (after_of (chunk ∷ chunks)) ∷ [])
    (lines (chunk ∷ chunks) are.each)
    (All-cons At (exit parts.Paragraph (after_of (chunk ∷ chunks))) [] (last chunk chunks are.each) (All-nil At)))
  where
    At : Event → Type 0
    At = λ e. IsPlaced bytes e.point

    lines : (cs : List Chunk) → All (IsChunk bytes) cs → All At (lines_of cs)
    lines [] each = All-nil At
    lines (c ∷ cs) each =
        let is = All-head (IsChunk bytes) c cs each in
        All-cons At (enter_link parts.Data c.first text_link) (exit parts.Data c.after ∷ lines_of cs) is.first
        (All-cons At (exit parts.Data c.after) (lines_of cs) is.after (lines cs (All-tail (IsChunk bytes) c cs each)))

    last : (c : Chunk) (cs : List Chunk) → All (IsChunk bytes) (c ∷ cs) → IsPlaced bytes (after_of (c ∷ cs))
    last c [] each = (All-head (IsChunk bytes) c [] each).after
    last c (e ∷ cs) each = last e cs (All-tail (IsChunk bytes) c (e ∷ cs) each)
