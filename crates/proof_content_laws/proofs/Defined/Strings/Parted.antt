-- Prefixes part a text of a definition at the begins of its lines.
use Rattle.std.proofs.Common.{◌≡◌, ◌≢◌, ℕ, ◌+◌, ◌≤◌, Bool, true, false, cond, ◌&&◌, ◌||◌, List, [], ◌∷◌, ◌++◌, length}
use Rattle.std.proofs.Common.{slice_range, refl, ap, sym, ◌∙◌, subst, append_assoc, arith}
use Rattle.std.specs.Prelude.{◌==◌, not, slice_index, Some, None}
use Rattle.std.proofs.lemmas.Bool.{and_from, eqb-true, true≢false}
use Rattle.md_engine.specs.declared.event.Event.{Event}
use Rattle.md_engine.specs.declared.event.Kind.TheVariants.{Enter, Exit}
use Rattle.md_engine.specs.declared.event.Name.{Name}
use Rattle.md_engine.specs.declared.event.Point.{Point}
use Rattle.md_meaning.specs.Lines.{begins_with}
use Rattle.md_meaning.specs.Rest.{is_blank, is_white}
use Rattle.md_meaning.proofs.TextsLemmas.{NoEnding}
use Rattle.md_outline.specs.Outlined.{OpenTextSpan, are_parted, begins_line, parts_by, span_by}
use Rattle.md_outline.specs.Roles.{may_part}
use Rattle.md_events.specs.declared.inline.Chunk.{Chunk}
use Rattle.md_events.specs.Events.Inline.{plain_chunk}
use Rattle.md_events.specs.Events.Nested.{around, enter, exit}
use Rattle.md_events.specs.Events.Spelled.{Purpose, Role, TextRole, byte_at, role}
use Rattle.md_events.proofs.FeedLines.{slice-split}
use Rattle.proof_frame.proofs.BetweenFacts.{ending-following, is_low}
use Rattle.proof_content_laws.proofs.Defined.Form.{IsRun, Strand, strand_done}
use Rattle.proof_content_laws.proofs.Defined.Strings.Facts.{AreFilled, FurtherFilled}
use Rattle.proof_content_laws.proofs.Defined.Strings.Lines.{AreLines, Last, More, NoneLeft}
use Rattle.proof_content_laws.proofs.Defined.Strings.Reads.{RunBytes, run-bytes, plain-begins}
use Rattle.proof_frame.proofs.FrontValid.{fronts-parted}
use Rattle.proof_frame.proofs.PartedFacts.{PrefixesAtLineStart, clear, low-clear, passes-chunk}
use Rattle.proof_frame.proofs.CollectFacts.{slice-none}
use Rattle.proof_frame.proofs.Reached.{Fine, Reaches, cut-white, reaches-ended, reaches-fine}
use Rattle.proof_content_laws.proofs.Text.MayPart.{MayPart, feed-none, line-at}

-- A tab that is cut where a line begins is its first byte.
tab-at : (bytes text : List ℕ) (p q : Point) → text ≢ [] → IsRun bytes text p q → (p.vs == 0) ≡ false →
    slice_index bytes p.index ≡ 9
tab-at bytes [] p q some run e = absurd (some refl)
tab-at bytes (b ∷ text) p q some run e =
    let tab : (b == 9) ≡ true = sym (ap (λ (x : Bool). x || (b == 9)) e) ∙ run.cut_first in
    let zero_at : p.index + 0 ≡ p.index = omega arith in
    ap (slice_index bytes) (sym zero_at)
    ∙ line-at bytes (b ∷ text) p.index q.index 0 b run.slice run.size (omega arith) refl
    ∙ eqb-true b 9 tab

-- so no character is cut there
run-clear : (bytes text : List ℕ) (p q : Point) → text ≢ [] → IsRun bytes text p q → clear bytes p ≡ true
run-clear bytes text p q some run =
    low-clear bytes p (λ e. subst (λ (b : ℕ). is_low b ≡ true) (sym (tab-at bytes text p q some run e)) refl)

run-white : (bytes text : List ℕ) (p q : Point) → text ≢ [] → IsRun bytes text p q →
    is_blank (slice_range bytes p.index (byte_at p)) ≡ true
run-white bytes text p q some run =
    cut-white bytes p (λ e. subst (λ (b : ℕ). is_white b ≡ true) (sym (tab-at bytes text p q some run e)) refl)

filled-some : (text : List ℕ) → is_blank text ≡ false → text ≢ []
filled-some [] h = absurd (true≢false h)
filled-some (b ∷ text) h = λ e. cc

-- after the last line too
strand-clear : (bytes : List ℕ) (p q : Point) (s : Strand) → AreFilled s → AreLines bytes p q s → clear bytes p ≡ true
strand-clear bytes q _ _ filled (NoneLeft _ whole) = low-clear bytes q (λ e. absurd (none e))
  where
    none : (q.vs == 0) ≡ false → ⊥
    none e = absurd (true≢false (sym (ap (λ (v : ℕ). v == 0) whole) ∙ e))
strand-clear bytes p q _ filled (Last _ _ text some run) = run-clear bytes text p q some run
strand-clear bytes p q _ filled (More _ e b r _ text front s run break more) =
    run-clear bytes text p e (filled-some text filled.0) run

-- A piece that continues with no line feed begins with none.
begins-both : (span : OpenTextSpan) (xs ys : List ℕ) → begins_line span xs ≡ true → begins_with 10 ys ≡ false →
    begins_line span (xs ++ ys) ≡ true
begins-both span xs ys h k = go span.is_parted xs h
  where
    go : (x : Bool) (xs : List ℕ) → (not x || not (begins_with 10 xs)) ≡ true →
        (not x || not (begins_with 10 (xs ++ ys))) ≡ true
    go false xs h = refl
    go true [] h = ap not k
    go true (b ∷ xs) h = h

-- no line feed begins the text of a line that is not blank
first-fine : (bytes here : List ℕ) (i j : ℕ) → slice_range bytes i j ≡ here → j ≡ i + length here →
    is_blank here ≡ false → NoEnding here → not (slice_index bytes i == 10) ≡ true
first-fine bytes [] i j slice size filled none = absurd (true≢false filled)
first-fine bytes (b ∷ here) i j slice size filled none =
    let zero_at : i + 0 ≡ i = omega arith in
    let at : slice_index bytes i ≡ b = ap (slice_index bytes) (sym zero_at)
    ∙ line-at bytes (b ∷ here) i j 0 b slice size (omega arith) refl in
    ap (λ (c : ℕ). not (c == 10)) at ∙ feed-none b none.0

-- After the first line.

-- the text ends
exit-parted : (bytes : List ℕ) (name : Name) (purpose : Purpose) (q : Point) (span : OpenTextSpan) (ys : List Event) →
    role name ≡ TextRole purpose → MayPart bytes purpose →
    begins_line span (slice_range bytes span.from q.index) ≡ true →
    are_parted bytes None ys ≡ true → are_parted bytes (Some span) (exit name q ∷ ys) ≡ true
exit-parted bytes name purpose q span ys records may begins h =
    ap (λ (x : Role). parts_by bytes Exit x q (Some span) && are_parted bytes (span_by Exit x q (Some span)) ys) records
    ∙ and_from (parts_by bytes Exit (TextRole purpose) q (Some span)) (are_parted bytes None ys)
    (may q span ∙ begins) h

further-parted : (bytes : List ℕ) (name : Name) (purpose : Purpose) (p q : Point) (s : Strand) (ys : List Event) →
    role name ≡ TextRole purpose → MayPart bytes purpose → AreFilled s → AreLines bytes p q s →
    are_parted bytes None ys ≡ true → (span : OpenTextSpan) → Reaches bytes p span →
    are_parted bytes (Some span) (strand_done bytes s ++ exit name q ∷ ys) ≡ true
further-parted bytes name purpose q _ _ ys records may filled (NoneLeft _ whole) h span reaches =
    let here : byte_at q ≡ q.index = ap (λ (v : ℕ). cond (v == 0) q.index (q.index + 1)) whole in
    exit-parted bytes name purpose q span ys records may
    (reaches.marks q.index (omega (arith, here)) (ap is_blank (slice-none bytes q.index))).0 h
further-parted bytes name purpose p q _ ys records may filled (Last _ _ text some run) h span reaches =
    let chunk : Chunk = record { first = p; after = q } in
    let own : RunBytes bytes text p q = run-bytes bytes text p q run in
    let piece : slice_range bytes span.from q.index ≡ slice_range bytes span.from (byte_at p) ++ own.here =
    slice-split bytes span.from (byte_at p) q.index reaches.from own.within
    ∙ ap (λ (l : List ℕ). slice_range bytes span.from (byte_at p) ++ l) own.slice in
    passes-chunk bytes (Some span) chunk (exit name q ∷ ys)
    ∙ exit-parted bytes name purpose q span ys records may
    (ap (begins_line span) piece
    ∙ begins-both span (slice_range bytes span.from (byte_at p)) own.here
    (reaches.marks (byte_at p) (omega arith) (run-white bytes text p q some run)).0
    (plain-begins own.here own.no_ending)) h
further-parted bytes name purpose p q _ ys records may filled (More _ e b r _ text front s run break more) h span
    reaches =
    let chunk : Chunk = record { first = p; after = b } in
    let events : List Event = plain_chunk bytes chunk in
    let read : List Event = strand_done bytes s in
    let rest : List Event = exit name q ∷ ys in
    let own : RunBytes bytes text p e = run-bytes bytes text p e run in
    let some : text ≢ [] = filled-some text filled.0 in
    let fine : Fine bytes span =
    reaches-fine bytes p span reaches
    (first-fine bytes own.here (byte_at p) e.index own.slice own.size (own.filled filled.0) own.no_ending)
    (run-white bytes text p e some run) in
    let within : span.from ≤ e.index = let from = reaches.from in let le = own.within in omega (arith, from, le) in
    let apart : ((events ++ front) ++ read) ++ rest ≡ events ++ (front ++ (read ++ rest)) = simp append_assoc in
    ap (are_parted bytes (Some span)) apart
    ∙ passes-chunk bytes (Some span) chunk (front ++ (read ++ rest))
    ∙ fronts-parted bytes [] b r front span (read ++ rest) break.front_is refl (ending-following bytes e b break.ending)
    (strand-clear bytes r q s filled.1 more) (reaches-ended bytes e b span break.ending fine within)
    (λ next meets. further-parted bytes name purpose r q s ys records may filled.1 more h next meets)

-- From its first line on, where the text is whole.

first-line : (span : OpenTextSpan) (piece : List ℕ) → span.is_parted ≡ false → begins_line span piece ≡ true
first-line span piece e = ap (λ (x : Bool). not x || not (begins_with 10 piece)) e

first-parted : (bytes : List ℕ) (name : Name) (purpose : Purpose) (p q : Point) (s : Strand) (ys : List Event) →
    role name ≡ TextRole purpose → MayPart bytes purpose → FurtherFilled s → AreLines bytes p q s →
    are_parted bytes None ys ≡ true → (span : OpenTextSpan) → span.is_parted ≡ false → span.from ≡ byte_at p →
    are_parted bytes (Some span) (strand_done bytes s ++ exit name q ∷ ys) ≡ true
first-parted bytes name purpose q _ _ ys records may filled (NoneLeft _ whole) h span begun from =
    exit-parted bytes name purpose q span ys records may (first-line span (slice_range bytes span.from q.index) begun) h
first-parted bytes name purpose p q _ ys records may filled (Last _ _ text some run) h span begun from =
    passes-chunk bytes (Some span) (record { first = p; after = q }) (exit name q ∷ ys)
    ∙ exit-parted bytes name purpose q span ys records may
    (first-line span (slice_range bytes span.from q.index) begun) h
first-parted bytes name purpose p q _ ys records may filled (More _ e b r _ text front s run break more) h span begun
    from =
    let chunk : Chunk = record { first = p; after = b } in
    let events : List Event = plain_chunk bytes chunk in
    let read : List Event = strand_done bytes s in
    let rest : List Event = exit name q ∷ ys in
    let own : RunBytes bytes text p e = run-bytes bytes text p e run in
    let fine : Fine bytes span = ap (λ (x : Bool). not x || not (slice_index bytes span.from == 10)) begun in
    let within : span.from ≤ e.index = let le = own.within in omega (arith, from, le) in
    let apart : ((events ++ front) ++ read) ++ rest ≡ events ++ (front ++ (read ++ rest)) = simp append_assoc in
    ap (are_parted bytes (Some span)) apart
    ∙ passes-chunk bytes (Some span) chunk (front ++ (read ++ rest))
    ∙ fronts-parted bytes [] b r front span (read ++ rest) break.front_is refl (ending-following bytes e b break.ending)
    (strand-clear bytes r q s filled more) (reaches-ended bytes e b span break.ending fine within)
    (λ next meets. further-parted bytes name purpose r q s ys records may filled more h next meets)

-- A text that begins ends.
pub strand-sits : (bytes : List ℕ) (name : Name) (purpose : Purpose) (p q : Point) (s : Strand) →
    role name ≡ TextRole purpose → may_part purpose ≡ true → FurtherFilled s → AreLines bytes p q s →
    PrefixesAtLineStart bytes (around name p q (strand_done bytes s))
strand-sits bytes name purpose p q s records may filled lines ys h =
    let events : List Event = strand_done bytes s in
    let span : OpenTextSpan = record { from = byte_at p; is_parted = false } in
    ap (λ (es : List Event). are_parted bytes None (enter name p ∷ es)) (append_assoc events (exit name q ∷ []) ys)
    ∙ ap (λ (x : Role). are_parted bytes (span_by Enter x p None) (events ++ exit name q ∷ ys)) records
    ∙ first-parted bytes name purpose p q s ys records
    (λ at text. ap
    (λ (x : Bool). cond x (begins_line text (slice_range bytes text.from at.index)) (not text.is_parted)) may)
    filled lines h span refl refl

-- One line is not parted.
pub line-sits : (bytes : List ℕ) (name : Name) (purpose : Purpose) (p q : Point) → role name ≡ TextRole purpose →
    PrefixesAtLineStart bytes (around name p q (plain_chunk bytes (record { first = p; after = q })))
line-sits bytes name purpose p q records ys h =
    let chunk : Chunk = record { first = p; after = q } in
    let events : List Event = plain_chunk bytes chunk in
    let span : OpenTextSpan = record { from = byte_at p; is_parted = false } in
    ap (λ (es : List Event). are_parted bytes None (enter name p ∷ es)) (append_assoc events (exit name q ∷ []) ys)
    ∙ ap (λ (x : Role). are_parted bytes (span_by Enter x p None) (events ++ exit name q ∷ ys)) records
    ∙ passes-chunk bytes (Some span) chunk (exit name q ∷ ys)
    ∙ ap (λ (x : Role). parts_by bytes Exit x q (Some span)
    && are_parted bytes (span_by Exit x q (Some span)) ys) records
    ∙ and_from (parts_by bytes Exit (TextRole purpose) q (Some span)) (are_parted bytes None ys)
    (whole (may_part purpose)) h
  where
    whole : (x : Bool) → cond x true true ≡ true
    whole true = refl
    whole false = refl
