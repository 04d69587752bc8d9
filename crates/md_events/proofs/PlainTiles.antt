-- Whoever reads the text parts of a block list as the plain layer does reads one list of events.
use Rattle.std.proofs.Common.{◌≡◌, ℕ, false, suc, List, [], ◌∷◌, ◌++◌, length, take, drop, ap, ◌∙◌, subst}
use Rattle.md_engine.specs.declared.event.Event.{Event}
use Rattle.md_events.specs.declared.inline.Chunk.{Chunk}
use Rattle.md_events.specs.Events.Inline.{IsPart, Part, cut_at, plain_events, together}
use Rattle.md_events.specs.Events.Places.{first_point}
use Rattle.md_events.specs.Events.Tiles.{IsBlockList, filled_from, parts, plain_lists, plain_read}
use Rattle.md_events.specs.Substituted.{Readings, Substituted, chunk_of, share}
use Rattle.md_events.specs.TextPart.{text_kind, text_readings, wants_text}
use Rattle.md_events.proofs.InlineLemmas.{plain-cut}
use Rattle.md_events.proofs.LayerTiles.{filled-linked, filled-unlinked, left-alone}
use Rattle.md_events.proofs.PartWalks.{Begins, Ends, IsContinued, Stays, Walk, unlinked-unwanted, walk-blocks}
use Rattle.md_events.proofs.PartsLemmas.{EachPart, parts-are}
use Rattle.md_events.proofs.SubstitutedLemmas.{SubstitutedBy}

abbrev plain_readings : List ℕ → Readings
plain_readings bytes = text_readings (λ part answer. answer ≡ plain_events bytes part)

-- so is each part that is still to come, after what is left of the part that has begun
plain-walk : (bytes : List ℕ) {left : List Chunk} {es : List Event} {parts : List Part} → Walk left es parts →
    EachPart (IsPart bytes) parts → (now out : List Event) →
    Substituted wants_text (plain_readings bytes) now (length left) es out →
    out ≡ filled_from false es (cut_at left now ++ together (plain_lists bytes parts))
plain-walk bytes Ends are now out s = s
plain-walk bytes (Stays {e = e} {es = es} {left = left} {parts = parts} unlinked outer walk) are now out s =
    let next : (rest : List Event) × (is : out ≡ e ∷ rest) ×
    Substituted wants_text (plain_readings bytes) now (length left) es rest =
    left-alone (λ part answer. answer ≡ plain_events bytes part) now (length left) e es out
    (unlinked-unwanted wants_text e unlinked) s in
    next.1 ∙ ap (λ (list : List Event). e ∷ list) (plain-walk bytes walk are now next.0 next.2)
    ∙ filled-unlinked e es (cut_at left now ++ together (plain_lists bytes parts)) unlinked
plain-walk bytes (Begins {e = e} {f = f} {es = es} {left = left} {parts = parts} {held = held} is listed walk) are now
    out s =
    let part : Part = record { kind = text_kind held; chunks = chunk_of e f ∷ left } in
    let next : (answer rest : List Event) × (read : answer ≡ plain_events bytes part)
    × (is : out ≡ take (share (length left) answer f.point.index) answer ++ rest)
    × Substituted wants_text (plain_readings bytes) (drop (share (length left) answer f.point.index) answer)
    (length left) es rest =
    subst
    (λ (list : List Chunk).
    (answer rest : List Event)
    × (read : answer ≡ plain_events bytes (record { kind = text_kind held; chunks = chunk_of e f ∷ list }))
    × (is : out ≡ take (share (length list) answer f.point.index) answer ++ rest)
    × Substituted wants_text (plain_readings bytes) (drop (share (length list) answer f.point.index) answer)
    (length list) es rest) listed
    (subst (SubstitutedBy wants_text (plain_readings bytes) now 0 e f es out) is.holds s) in
    let answer : List Event = next.0 in
    let first : List Event = take (share (length left) answer f.point.index) answer in
    let rest : List (List Event) = together (plain_lists bytes parts) in
    next.3
    ∙ ap (λ (list : List Event). first ++ list)
    (plain-walk bytes walk are.1 (drop (share (length left) answer f.point.index) answer) next.1 next.4)
    ∙ filled-linked e f es (cut_at part.chunks answer ++ rest) is.linked
    ∙ ap (λ (lists : List (List Event)). filled_from false (e ∷ f ∷ es) (lists ++ rest))
    (ap (cut_at part.chunks) next.2 ∙ plain-cut bytes first_point part.chunks are.0.order are.0.whole)
plain-walk bytes (IsContinued {e = e} {f = f} {es = es} {left = left} {parts = parts} {held = held} is walk) are now out
    s =
    let next : (rest : List Event) × (is : out ≡ take (share (length left) now f.point.index) now ++ rest)
    × Substituted wants_text (plain_readings bytes) (drop (share (length left) now f.point.index) now)
    (length left) es rest =
    subst (SubstitutedBy wants_text (plain_readings bytes) now (suc (length left)) e f es out) is.holds s in
    let first : List Event = take (share (length left) now f.point.index) now in
    next.1
    ∙ ap (λ (list : List Event). first ++ list)
    (plain-walk bytes walk are (drop (share (length left) now f.point.index) now) next.0 next.2)
    ∙ filled-linked e f es (cut_at (chunk_of e f ∷ left) now ++ together (plain_lists bytes parts)) is.linked

pub plain-only : (bytes : List ℕ) (blocks events : List Event) → IsBlockList bytes blocks →
    Substituted wants_text (plain_readings bytes) [] 0 blocks events → events ≡ plain_read bytes blocks
plain-only bytes blocks events list s =
    plain-walk bytes (walk-blocks bytes blocks list) (parts-are bytes blocks list) [] events s
