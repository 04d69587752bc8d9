-- The label of a footnote definition is a text part of one line, and what is read of it is in its place.
use Rattle.std.proofs.Common.{◌≡◌, ℕ, Bool, true, false, cond, List, [], ◌∷◌, ◌++◌, refl, ap, sym, ◌∙◌, subst}
use Rattle.std.proofs.Common.{ap₂, append-nil}
use Rattle.std.specs.Prelude.{None, Option, Some}
use Rattle.std.proofs.lemmas.Bool.{and_from}
use Rattle.md_engine.specs.declared.event.Event.{Event}
use Rattle.md_engine.specs.declared.event.Link.{Link}
use Rattle.md_engine.specs.declared.event.Name.TheVariants as n
use Rattle.md_engine.specs.declared.event.Point.{Point}
use Rattle.md_containers.specs.Footnote.{label_link}
use Rattle.md_meaning.specs.Lines.{without_ending}
use Rattle.md_meaning.specs.Texts.{split_lines}
use Rattle.md_events.specs.declared.inline.Chunk.{Chunk}
use Rattle.md_events.specs.Events.Inline.{are_lines, is_one_line, line_end, plain_chunk, plain_chunks, together}
use Rattle.md_events.specs.Events.Nested.{around, exit, pair}
use Rattle.md_events.specs.Events.Places.{past_text, same_place}
use Rattle.md_events.proofs.InlineLemmas.{before-text, same-refl}
use Rattle.md_events.proofs.PlacesLemmas.{apart-later}
use Rattle.proof_container_laws.proofs.GfmFootnoteDefinition.Prefix.{IsFront, before_label, following_colon}
use Rattle.proof_container_laws.proofs.GfmFootnoteDefinition.Prefix.{after_label, colon_at, front_by, label-text}
use Rattle.proof_container_laws.proofs.GfmFootnoteDefinition.Prefix.{label_at, closing, label_end, label_part, opening}
use Rattle.proof_frame.proofs.LineTexts.{one-last, without-none}
use Rattle.proof_frame.proofs.PieceFacts.{Over, over-front}
use Rattle.proof_frame.proofs.ReadAs.{Both, Part, ReadAs, Same}

-- The label.

abbrev label_chunk : Point → Point → Chunk
label_chunk p q = record { first = p; after = q }

label-over : (bytes label : List ℕ) (link : Option Link) (p q : Point) (es : List Event) →
    (is : IsFront bytes label link p q es) → Over bytes (label_at is.start) (label_end label is.start) label
label-over bytes label link p q es is =
    over-front bytes (label_at is.start) (label_end label is.start) label _ (label-text bytes label link p q es is)
    is.some refl

-- it is a line
label-line : (bytes label : List ℕ) (link : Option Link) (p q : Point) (es : List Event) →
    (is : IsFront bytes label link p q es) →
    are_lines bytes (label_end label is.start) (label_chunk (label_at is.start) (label_end label is.start) ∷ []) ≡ true
label-line bytes label link p q es is =
    let end : Point = label_end label is.start in
    and_from _ _
    (ap (λ (l : List ℕ). is_one_line (split_lines l) (same_place end end)) (label-over bytes label link p q es is).slice
    ∙ one-last label is.some is.one_line (same_place end end) (same-refl end))
    refl

-- the plain layer gives one piece over it
label-plain : (bytes label : List ℕ) (link : Option Link) (p q : Point) (es : List Event) →
    (is : IsFront bytes label link p q es) →
    together (plain_chunks bytes (label_chunk (label_at is.start) (label_end label is.start) ∷ [])) ≡
    pair n.Data (label_at is.start) (label_end label is.start)
label-plain bytes label link p q es is =
    append-nil (plain_chunk bytes (label_chunk first end))
    ∙ ap
    (λ (e : Point).
    cond (same_place first e) [] (pair n.Data first e) ++ cond (same_place e end) [] (pair n.LineEnding e end)) ends
    ∙ ap₂ (λ (x y : Bool). cond x [] (pair n.Data first end) ++ cond y [] (pair n.LineEnding end end))
    (apart-later first end (label-over bytes label link p q es is).some) (same-refl end)
  where
    first : Point
    first = label_at is.start

    end : Point
    end = label_end label is.start

    ends : line_end bytes (label_chunk first end) ≡ end
    ends =
        ap (λ (l : List ℕ). past_text (without_ending l) first) (label-over bytes label link p q es is).slice
        ∙ ap (λ (l : List ℕ). past_text l first) (without-none label is.one_line)

-- so it is read
label-reads : (bytes label : List ℕ) (link : Option Link) (p q : Point) (es : List Event) →
    (is : IsFront bytes label link p q es) →
    ReadAs bytes (label_part (Some label_link) (label_at is.start) (label_end label is.start))
    (label_part None (label_at is.start) (label_end label is.start))
label-reads bytes label link p q es is =
    let first : Point = label_at is.start in
    let end : Point = label_end label is.start in
    subst
    (λ (l : List Event).
    ReadAs bytes (label_part (Some label_link) first end) (around n.GfmFootnoteDefinitionLabelString first end l))
    (label-plain bytes label link p q es is)
    (Part n.GfmFootnoteDefinitionLabelString first end
    (record {
      kind = refl;
      line = label-line bytes label link p q es is;
      onward = before-text label first;
    }))

-- What is around it is not read later.

white-same : (bytes : List ℕ) (none : Bool) (p q : Point) →
    ReadAs bytes (cond none [] (pair n.SpaceOrTab p q)) (cond none [] (pair n.SpaceOrTab p q))
white-same bytes true p q = Same [] tt tt
white-same bytes false p q = Same (pair n.SpaceOrTab p q) (refl, (refl, tt)) (refl, (refl, tt))

before-same : (bytes : List ℕ) (bare : Bool) (p start : Point) →
    ReadAs bytes (before_label bare p start) (before_label bare p start)
before-same bytes bare p start =
    let white : List Event = cond bare [] (pair n.SpaceOrTab p start) in
    Both white white (opening start) (opening start) (white-same bytes bare p start)
    (Same (opening start) (refl, (refl, (refl, (refl, (refl, (refl, tt))))))
    (refl, (refl, (refl, (refl, (refl, (refl, tt)))))))

following-same : (bytes : List ℕ) (same : Bool) (end close following q : Point) →
    ReadAs bytes (after_label same end close following q) (after_label same end close following q)
following-same bytes same end close following q =
    let white : List Event = cond same [] (pair n.SpaceOrTab following q) in
    let last : List Event = exit n.GfmFootnoteDefinitionPrefix q ∷ [] in
    Both (closing end close following) (closing end close following) (white ++ last) (white ++ last)
    (Same (closing end close following) (refl, (refl, (refl, (refl, (refl, tt)))))
    (refl, (refl, (refl, (refl, (refl, tt))))))
    (Both white white last last (white-same bytes same following q) (Same last (refl, tt) (refl, tt)))

-- All of it.

pub front-reads : (bytes label : List ℕ) (p q : Point) (es : List Event) →
    (is : IsFront bytes label (Some label_link) p q es) →
    (done : List Event) × (same : IsFront bytes label None p q done) × ReadAs bytes es done
front-reads bytes label p q es is = (done, read, reads)
  where
    done : List Event
    done = front_by None (same_place p is.start) (same_place (following_colon label is.start) q) label p is.start q

    read : IsFront bytes label None p q done
    read = record {
      start = is.start;
      whole = is.whole;
      more = is.more;
      text_is = is.text_is;
      some = is.some;
      one_line = is.one_line;
      events = refl;
      white_before = is.white_before;
      white_after = is.white_after;
    }

    first : Point
    first = label_at is.start

    end : Point
    end = label_end label is.start

    -- what is around the label
    before : Bool → List Event
    before bare = before_label bare p is.start

    following : Bool → List Event
    following same = after_label same end (colon_at label is.start) (following_colon label is.start) q

    all : (bare same : Bool) →
        ReadAs bytes (before bare ++ (label_part (Some label_link) first end ++ following same))
        (before bare ++ (label_part None first end ++ following same))
    all bare same =
        let label_read : List Event = label_part None first end in
        let label_unread : List Event = label_part (Some label_link) first end in
        Both (before bare) (before bare) (label_unread ++ following same) (label_read ++ following same)
        (before-same bytes bare p is.start)
        (Both label_unread label_read (following same) (following same)
        (label-reads bytes label (Some label_link) p q es is)
        (following-same bytes same end (colon_at label is.start) (following_colon label is.start) q))

    go : (bare same : Bool) →
        ReadAs bytes (front_by (Some label_link) bare same label p is.start q)
        (front_by None bare same label p is.start q)
    go true true = all true true
    go true false = all true false
    go false true = all false true
    go false false = all false false

    reads : ReadAs bytes es done
    reads =
        subst (λ (l : List Event). ReadAs bytes l done) (sym is.events)
        (go (same_place p is.start) (same_place (following_colon label is.start) q))
