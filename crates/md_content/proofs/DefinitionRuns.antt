-- What is read of lines that are definitions, one line after another.
use Rattle.std.proofs.Common.{◌≡◌, ℕ, zero, suc, ◌+◌, ◌-◌, ◌^◌, ◌<◌, ◌≤◌, true, false, List, [], ◌∷◌}
use Rattle.std.proofs.Common.{◌++◌, length, drop, get_or, Option, Some, None, refl, sym, ◌∙◌, ap, arith, append_assoc}
use Rattle.std.proofs.Common.{add-one, drop-cons, subst}
use Rattle.std.specs.Prelude.{IfSome, is_some, nat_le, slice_get, slice_index, slice_range}
use Rattle.std.specs.List.{All}
use Rattle.std.proofs.lemmas.Bool.{and_parts, le-leb}
use Rattle.std.proofs.lemmas.List.{drop_all}
use Rattle.md_engine.specs.declared.configuration.ParseOptions.{ParseOptions}
use Rattle.md_engine.specs.declared.event.Event.{Event}
use Rattle.md_engine.specs.declared.event.Name.TheVariants as parts
use Rattle.md_engine.specs.declared.event.Point.{Point}
use Rattle.md_engine.specs.Place.{IsPlaced, begun_at, first_point}
use Rattle.md_engine.specs.TextFeed.{text_feed}
use Rattle.md_engine.specs.World.{Setting, fresh, line_begun}
use Rattle.md_content.specs.ContentReads.{content_events, end_of, first_of, part_world, settled}
use Rattle.md_content.specs.WholeLines.{are_lines, is_followed}
use Rattle.md_content.proofs.ContentReadsLemmas.{end-at, small-at}
use Rattle.md_content.specs.ContentRule.{content_over}
use Rattle.md_content.specs.WholeDefinitions.{definition_part}
use Rattle.md_content.specs.WholeDefinitions.{IsDefinition, IsWritten, past}
use Rattle.md_content.proofs.WholeLines.{Followed, end-following, first-vs, firsts, followed, has-byte, setting_over}
use Rattle.md_content.proofs.WholeLines.{within, world-point, world-setting}
use Rattle.md_events.specs.declared.inline.Chunk.{Chunk}
use Rattle.md_events.specs.Events.Nested.{pair}
use Rattle.md_events.specs.Parts.{AreChunks, ArePlaced, IsChunk}
use Rattle.md_events.proofs.PlacesLemmas.{at-next}
use Rattle.std.proofs.lemmas.List.Elements.{All-append, All-drop, All-head}
use Rattle.md_content.proofs.DefinitionSteps.{all-placed, definition-placed, end-placed, has-text, reads}
use Rattle.md_content.proofs.DefinitionSteps.{step-last, step-on}

by-sizes : (P : ℕ → ℕ → Type 0) (a b n m : ℕ) → a ≡ n → b ≡ m → P a b → P n m
by-sizes P a b n m e f h = subst (λ (k : ℕ). P k m) e (subst (P a) f h)

abbrev pub setting_of : List ℕ → ParseOptions → List Chunk → Setting
setting_of bytes options chunks =
    record (fresh bytes options (first_of chunks)).setting { limit = end_of chunks; skips = firsts chunks }

-- what a part is read as
whole-reads : (bytes : List ℕ) (options : ParseOptions) (chunks : List Chunk) → are_lines chunks ≡ true →
    reads options (setting_of bytes options chunks) chunks ≡ content_events bytes options chunks
unfolding content_events
whole-reads bytes options [] lines = let no : false ≡ true = lines in cc
whole-reads bytes options (chunk ∷ chunks) lines =
    let all = chunk ∷ chunks in
    let x = setting_over bytes options chunk chunks in
    sym
    (ap (λ (s : Setting). settled all
    (content_over options (text_feed s (part_world bytes options all).point) (part_world bytes options all).point))
    (world-setting bytes options chunk chunks)
    ∙ ap (λ (q : Point). settled all (content_over options (text_feed x q) q))
    (world-point bytes options chunk chunks lines))

-- the chunks from this one on are left to read
pub record Written (bytes : List ℕ) (chunks : List Chunk) (at : ℕ) (d : Chunk) (events : List Event) : Type 0 where
  pub within : at < length chunks
  pub lines : are_lines (drop at chunks) ≡ true
  pub line : (get_or chunks at d).first.line ≡ (first_of chunks).line + at
  pub end : end_of (drop at chunks) ≡ end_of chunks
  pub placed : ArePlaced bytes events
  pub so_far : (options : ParseOptions) → options.constructs.definition ≡ true →
      slice_index bytes (get_or chunks at d).first.index ≡ 91 →
      events ++ reads options (setting_of bytes options chunks) (drop at chunks) ≡
      reads options (setting_of bytes options chunks) chunks

end-limit : (bytes : List ℕ) (chunks : List Chunk) (d : Chunk) → AreChunks bytes chunks → end_of chunks < 2 ^ 61
end-limit bytes chunks d are =
    let count : length chunks ≡ suc (length chunks - 1) = let some = are.some in omega (arith, some) in
    let last = end-at chunks (length chunks - 1) d count in
    let small = small-at bytes chunks (length chunks - 1) d are (omega (arith, count)) in
    omega (arith, last, small)

firsts-at : (chunks : List Chunk) (i : ℕ) (d : Chunk) → i < length chunks →
    slice_get (firsts chunks) i ≡ Some (get_or chunks i d).first
firsts-at [] i d lt = absurd (omega arith)
firsts-at (chunk ∷ chunks) zero d lt = refl
firsts-at (chunk ∷ chunks) (suc i) d lt = firsts-at chunks i d (omega (arith, lt))

-- lines begin before the end
first-before : (bytes : List ℕ) (chunk : Chunk) (chunks : List Chunk) → All (IsChunk bytes) (chunk ∷ chunks) →
    are_lines (chunk ∷ chunks) ≡ true → chunk.first.index < end_of (chunk ∷ chunks)
first-before bytes chunk [] are lines = (within chunk lines).index
first-before bytes chunk (next ∷ chunks) are lines =
    let f = followed chunk next (and_parts _ _ lines).0 in
    let is = All-head (IsChunk bytes) chunk (next ∷ chunks) are in
    let own = has-byte bytes chunk.first chunk.after is.first is.after (first-vs bytes chunk.after is.after f.column)
    (omega (arith, f.line)) in
    let following = end-following bytes chunk (next ∷ chunks) are lines in
    omega (arith, own, following)

-- its first byte
first-byte : (bytes : List ℕ) (p : Point) (end n m : ℕ) → end ≤ length bytes →
    IsDefinition (slice_range bytes p.index end) n m →
    slice_index bytes p.index ≡ 91
first-byte bytes p end n m le line =
    let has = has-text bytes p end line.label line.destination le line.bytes in
    at-next p.index bytes 91 ((line.label ++ 93 ∷ 58 ∷ 32 ∷ line.destination) ++ has.following) has.text

pub written-more : (bytes : List ℕ) (chunks : List Chunk) (at : ℕ) (d : Chunk) (n m : ℕ) (old new : List Event) →
    AreChunks bytes chunks → Written bytes chunks at d old → at + 1 < length chunks →
    IsDefinition (slice_range bytes (get_or chunks at d).first.index ((get_or chunks at d).after.index - 1)) n m →
    slice_index bytes ((get_or chunks at d).after.index - 1) ≡ 10 →
    new ≡
    (old ++ definition_part n m (get_or chunks at d).first)
    ++ pair parts.LineEnding (past (n + 4 + m) (get_or chunks at d).first) (get_or chunks at d).after →
    Written bytes chunks (at + 1) d new
written-more bytes chunks at d n m old new are w lt line ending is = record {
  within = lt;
  lines = ap are_lines following ∙ both.1;
  line = ap (λ (i : ℕ). (get_or chunks i d).first.line) (add-one at) ∙ omega (arith, f.begins, f.line, w.line);
  end = ap end_of following ∙ sym (ap end_of here) ∙ w.end;
  placed =
      subst (ArePlaced bytes) (sym is)
      (All-append (λ (e : Event). IsPlaced bytes e.point) (old ++ definition_part n m chunk.first)
      (pair parts.LineEnding (past (n + 4 + m) chunk.first) chunk.after)
      (All-append (λ (e : Event). IsPlaced bytes e.point) old (definition_part n m chunk.first) w.placed
      (definition_at n m line.label_size line.destination_size))
      (all-placed bytes (pair parts.LineEnding (past (n + 4 + m) chunk.first) chunk.after)
      (end_at n m line.label_size line.destination_size, (own.after, tt))));
  so_far =
      λ options on bracket. ap (λ (es : List Event). es ++ reads options (x options) (drop (at + 1) chunks)) is
      ∙ ap (λ (cs : List Chunk).
      ((old ++ definition_part n m chunk.first) ++ pair parts.LineEnding (past (n + 4 + m) chunk.first) chunk.after)
      ++ reads options (x options) cs) following
      ∙ join old (definition_part n m chunk.first) (pair parts.LineEnding (past (n + 4 + m) chunk.first) chunk.after)
      (reads options (x options) (next ∷ more))
      ∙ ap (λ (es : List Event). old ++ es)
      (sym (step options on (ap (λ (i : ℕ). slice_index bytes (get_or chunks i d).first.index)
      (sym (add-one at)) ∙ bracket)
      n m line.label_size line.destination_size))
      ∙ ap (λ (cs : List Chunk). old ++ reads options (x options) cs) (sym here)
      ∙ w.so_far options on (first-byte bytes chunk.first (chunk.after.index - 1) n m within_text line);
}
  where
    chunk : Chunk
    chunk = get_or chunks at d

    next : Chunk
    next = get_or chunks (suc at) d

    more : List Chunk
    more = drop (suc (suc at)) chunks

    x : ParseOptions → Setting
    x options = setting_of bytes options chunks

    tail : drop (suc at) chunks ≡ next ∷ more
    tail = drop-cons chunks (suc at) d (omega (arith, lt))

    here : drop at chunks ≡ chunk ∷ next ∷ more
    here = drop-cons chunks at d w.within ∙ ap (λ (cs : List Chunk). chunk ∷ cs) tail

    following : drop (at + 1) chunks ≡ next ∷ more
    following = ap (λ (i : ℕ). drop i chunks) (add-one at) ∙ tail

    both : (is_followed chunk next ≡ true) × (are_lines (next ∷ more) ≡ true)
    both = and_parts (is_followed chunk next) (are_lines (next ∷ more)) (sym (ap are_lines here) ∙ w.lines)

    f : Followed chunk next
    f = followed chunk next both.0

    own : IsChunk bytes chunk
    own = are.each at d w.within

    within_text : chunk.after.index - 1 ≤ length bytes
    within_text = let le = own.after.index in omega (arith, le)

    rest : All (IsChunk bytes) (next ∷ more)
    rest = subst (All (IsChunk bytes)) tail (All-drop (IsChunk bytes) (suc at) chunks are.each)

    inside : next.first.index < end_of chunks
    inside =
        let lt = first-before bytes next more rest both.1 in
        let same = sym (ap end_of here) ∙ w.end in
        omega (arith, lt, same)

    begun : (options : ParseOptions) → line_begun (x options) chunk.after ≡ next.first
    begun options =
        let count : chunk.after.line - (first_of chunks).line ≡ suc at = omega (arith, f.line, w.line) in
        let there : nat_le chunk.after.index next.first.index ≡ true = le-leb _ _ f.index in
        ap (λ (i : ℕ). begun_at (slice_get (firsts chunks) i) chunk.after) count
        ∙ ap (λ (o : Option Point). begun_at o chunk.after) (firsts-at chunks (suc at) d (omega (arith, lt)))
        ∙ rw there refl

    definition_at : (n m : ℕ) → length line.label ≡ n → length line.destination ≡ m →
        ArePlaced bytes (definition_part n m chunk.first)
    definition_at n m a b =
        by-sizes (λ k j. ArePlaced bytes (definition_part k j chunk.first)) (length line.label)
        (length line.destination) n m a b
        (definition-placed bytes chunk.first (chunk.after.index - 1) line.label line.destination within_text own.first
        line.parts line.bytes)

    end_at : (n m : ℕ) → length line.label ≡ n → length line.destination ≡ m →
        IsPlaced bytes (past (n + 4 + m) chunk.first)
    end_at n m a b =
        by-sizes (λ k j. IsPlaced bytes (past (k + 4 + j) chunk.first)) (length line.label)
        (length line.destination) n m a b
        (end-placed bytes chunk.first (chunk.after.index - 1) line.label line.destination within_text own.first
        line.parts line.bytes)

    step : (options : ParseOptions) → options.constructs.definition ≡ true → slice_index bytes next.first.index ≡ 91 →
        (n m : ℕ) → length line.label ≡ n → length line.destination ≡ m →
        reads options (x options) (chunk ∷ next ∷ more) ≡
        definition_part n m chunk.first
        ++ pair parts.LineEnding (past (n + 4 + m) chunk.first) chunk.after
        ++ reads options (x options) (next ∷ more)
    step options on bracket n m a b =
        by-sizes (λ k j. reads options (x options) (chunk ∷ next ∷ more) ≡
        definition_part k j chunk.first ++ pair parts.LineEnding (past (k + 4 + j) chunk.first) chunk.after
        ++ reads options (x options) (next ∷ more)) (length line.label) (length line.destination) n m a b
        (step-on (x options) options chunk next more line.label line.destination (end-limit bytes chunks d are) on
        line.parts own f line.bytes ending (begun options) inside bracket)

    join : (a b c e : List Event) → ((a ++ b) ++ c) ++ e ≡ a ++ (b ++ c ++ e)
    join a b c e = simp append_assoc

pub written-all : (bytes : List ℕ) (chunks : List Chunk) (at : ℕ) (d : Chunk) (n m : ℕ) (old new : List Event) →
    AreChunks bytes chunks → are_lines chunks ≡ true → Written bytes chunks at d old → length chunks ≤ at + 1 →
    IsDefinition (slice_range bytes (get_or chunks at d).first.index (get_or chunks at d).after.index) n m →
    new ≡ old ++ definition_part n m (get_or chunks at d).first →
    ((options : ParseOptions) → options.constructs.definition ≡ true → new ≡ content_events bytes options chunks) ×
    ArePlaced bytes new
written-all bytes chunks at d n m old new are lines w le line is = (
  λ options on. is
      ∙ ap (λ (es : List Event). old ++ es) (sym (step options on n m line.label_size line.destination_size))
      ∙ ap (λ (cs : List Chunk). old ++ reads options (x options) cs) (sym here)
      ∙ w.so_far options on (first-byte bytes chunk.first chunk.after.index n m own.after.index line)
      ∙ whole-reads bytes options chunks lines,
  subst (ArePlaced bytes) (sym is)
      (All-append (λ (e : Event). IsPlaced bytes e.point) old (definition_part n m chunk.first) w.placed
      (definition_at n m line.label_size line.destination_size)),
)
  where
    chunk : Chunk
    chunk = get_or chunks at d

    x : ParseOptions → Setting
    x options = setting_of bytes options chunks

    here : drop at chunks ≡ chunk ∷ []
    here =
        drop-cons chunks at d w.within
        ∙ ap (λ (cs : List Chunk). chunk ∷ cs) (drop_all (suc at) chunks (omega (arith, le)))

    own : IsChunk bytes chunk
    own = are.each at d w.within

    definition_at : (n m : ℕ) → length line.label ≡ n → length line.destination ≡ m →
        ArePlaced bytes (definition_part n m chunk.first)
    definition_at n m a b =
        by-sizes (λ k j. ArePlaced bytes (definition_part k j chunk.first)) (length line.label)
        (length line.destination) n m a b
        (definition-placed bytes chunk.first chunk.after.index line.label line.destination own.after.index own.first
        line.parts line.bytes)

    step : (options : ParseOptions) → options.constructs.definition ≡ true → (n m : ℕ) → length line.label ≡ n →
        length line.destination ≡ m → reads options (x options) (chunk ∷ []) ≡ definition_part n m chunk.first
    step options on n m a b =
        by-sizes (λ k j. reads options (x options) (chunk ∷ []) ≡ definition_part k j chunk.first) (length line.label)
        (length line.destination) n m a b
        (step-last (x options) options chunk line.label line.destination (end-limit bytes chunks d are) on
        line.parts own
        (within chunk (sym (ap are_lines here) ∙ w.lines)) line.bytes (sym w.end ∙ ap end_of here))

-- As the loop has it: chunks by any other default.

abbrev pub no_chunk : Chunk
no_chunk = record { first = first_point; after = first_point }

same-at : (chunks : List Chunk) (i : ℕ) (d e : Chunk) → i < length chunks → get_or chunks i d ≡ get_or chunks i e
same-at [] i d e lt = absurd (omega arith)
same-at (chunk ∷ chunks) zero d e lt = refl
same-at (chunk ∷ chunks) (suc i) d e lt = same-at chunks i d e (omega (arith, lt))

pub loop-more : (bytes : List ℕ) (chunks : List Chunk) (at : ℕ) (d : Chunk) (q : Point) (old some new : List Event) →
    AreChunks bytes chunks → Written bytes chunks at no_chunk old → at + 1 < length chunks →
    slice_index bytes ((get_or chunks at d).after.index - 1) ≡ 10 →
    IsWritten (slice_range bytes (get_or chunks at d).first.index ((get_or chunks at d).after.index - 1))
    (get_or chunks at d).first q old some →
    new ≡ some ++ pair parts.LineEnding q (get_or chunks at d).after → Written bytes chunks (at + 1) no_chunk new
loop-more bytes chunks at d q old some new are w lt ending line is =
    go (get_or chunks at d) (same-at chunks at d no_chunk w.within) ending line is
  where
    go : (chunk : Chunk) → chunk ≡ get_or chunks at no_chunk → slice_index bytes (chunk.after.index - 1) ≡ 10 →
        IsWritten (slice_range bytes chunk.first.index (chunk.after.index - 1)) chunk.first q old some →
        new ≡ some ++ pair parts.LineEnding q chunk.after → Written bytes chunks (at + 1) no_chunk new
    go chunk k ending line is =
        written-more bytes chunks at no_chunk line.n line.m old new are w lt
        (subst (λ (c : Chunk). IsDefinition (slice_range bytes c.first.index (c.after.index - 1)) line.n
        line.m) k line.line)
        (ap (λ (c : Chunk). slice_index bytes (c.after.index - 1)) (sym k) ∙ ending)
        (is
        ∙ ap (λ (es : List Event). es ++ pair parts.LineEnding q chunk.after) line.events
        ∙ ap (λ (o : Point). (old ++ definition_part line.n line.m chunk.first) ++ pair parts.LineEnding o chunk.after)
        line.last
        ∙ ap (λ (c : Chunk). (old ++ definition_part line.n line.m c.first)
        ++ pair parts.LineEnding (past (line.n + 4 + line.m) c.first) c.after) k)

pub loop-all : (bytes : List ℕ) (chunks : List Chunk) (at : ℕ) (d : Chunk) (q : Point) (old new : List Event) →
    AreChunks bytes chunks → are_lines chunks ≡ true → Written bytes chunks at no_chunk old → length chunks ≤ at + 1 →
    IsWritten (slice_range bytes (get_or chunks at d).first.index (get_or chunks at d).after.index)
    (get_or chunks at d).first q old new →
    ((options : ParseOptions) → options.constructs.definition ≡ true → new ≡ content_events bytes options chunks) ×
    ArePlaced bytes new
loop-all bytes chunks at d q old new are lines w le line =
    go (get_or chunks at d) (same-at chunks at d no_chunk w.within) line
  where
    go : (chunk : Chunk) → chunk ≡ get_or chunks at no_chunk →
        IsWritten (slice_range bytes chunk.first.index chunk.after.index) chunk.first q old new →
        ((options : ParseOptions) → options.constructs.definition ≡ true → new ≡ content_events bytes options chunks) ×
        ArePlaced bytes new
    go chunk k line =
        written-all bytes chunks at no_chunk line.n line.m old new are lines w le
        (subst (λ (c : Chunk). IsDefinition (slice_range bytes c.first.index c.after.index) line.n line.m) k line.line)
        (line.events ∙ ap (λ (c : Chunk). old ++ definition_part line.n line.m c.first) k)

pub loop-ends : (bytes : List ℕ) (chunks : List Chunk) (at : ℕ) (d : Chunk) (o : Option Point) (old new : List Event) →
    AreChunks bytes chunks → are_lines chunks ≡ true → Written bytes chunks at no_chunk old → length chunks ≤ at + 1 →
    IfSome o
    (λ q.
    IsWritten (slice_range bytes (get_or chunks at d).first.index (get_or chunks at d).after.index)
    (get_or chunks at d).first q old new) →
    is_some o ≡ true →
    ((options : ParseOptions) → options.constructs.definition ≡ true → new ≡ content_events bytes options chunks) ×
    ArePlaced bytes new
loop-ends bytes chunks at d None old new are lines w le h some = let no : false ≡ true = some in cc
loop-ends bytes chunks at d (Some q) old new are lines w le h some =
    loop-all bytes chunks at d q old new are lines w le h
