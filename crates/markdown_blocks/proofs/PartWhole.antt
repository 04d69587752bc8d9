-- What is known of a part once it was read.
use Rattle.std.proofs.Common.{◌≡◌, inl, inr, ◌^◌, ◌<◌, ◌≤◌, ◌-◌, ℕ, zero, suc, cond, false, true, List, [], ◌∷◌}
use Rattle.std.proofs.Common.{◌++◌, length, map, take, drop}
use Rattle.std.proofs.Common.{refl, ap, ap₂, sym, ◌∙◌, subst, append-nil, arith}
use Rattle.std.specs.Prelude.{Option, Some, None}
use Rattle.std.specs.String.{string_bytes}
use Rattle.std.proofs.lemmas.List.{length-take-le}
use Rattle.std.proofs.lemmas.List.Elements.{All-cons, All-head, All-nil, All-tail}
use Rattle.md_engine.specs.declared.configuration.ParseOptions.{ParseOptions}
use Rattle.md_engine.specs.declared.event.Event.{Event}
use Rattle.md_engine.specs.declared.event.Point.{Point}
use Rattle.md_engine.specs.declared.state.State.{State}
use Rattle.md_engine.specs.Found.{Found}
use Rattle.md_engine.specs.Place.{IsPlaced}
use Rattle.md_engine.specs.Run.{IsStopped, Runs}
use Rattle.md_engine.specs.World.{Setting, World}
use Rattle.md_events.specs.Events.Inline.{Covers, pieces, plain_chunks, plain_events, together}
use Rattle.md_events.specs.Events.Tiles.{IsBlockList, end_point, plain_read}
use Rattle.md_events.specs.Lined.{AreLines, lined}
use Rattle.md_events.specs.Parts.{ArePlaced}
use Rattle.md_events.proofs.InlineLemmas.{same-refl}
use Rattle.md_events.specs.Substituted.{EachAsked, Substituted}
use Rattle.md_events.specs.TextPart.{text_readings, wants_text}
use Rattle.md_events.proofs.LinedLemmas.{lined-each, lined-substituted}
use Rattle.md_events.proofs.PlainTiles.{plain-only}
use Rattle.md_events.proofs.ReachedLemmas.{events-placed}
use Rattle.md_events.proofs.TextParts.{placed-events}
use Rattle.md_meaning.specs.Label.{Labels, both}
use Rattle.md_meaning.specs.Lines.{full_lines_of}
use Rattle.md_containers.specs.Listed.{listed}
use Rattle.md_registry.specs.States.{FlowStep}
use Rattle.proof_container_laws.specs.Footnotes.{footnotes_listed}
use Rattle.proof_exact_lines.proofs.Front.{begin}
use Rattle.proof_exact.specs.Parts.{placed_lines}
use Rattle.proof_rows.specs.BlockList.{tabled_groups}
use Rattle.proof_rows.specs.Rows.{groups}
use Rattle.proof_rows.specs.TextRows.{text_rows}
use Rattle.proof_rows.specs.WithoutMdx.{IsWithoutMdx}
use Rattle.proof_rows.proofs.TextAre.{MayBegin}
use Rattle.markdown_blocks.specs.declared.parts.Part.{Part}
use Rattle.markdown_blocks.specs.Fed.{flow_begins, line_begins}
use Rattle.markdown_blocks.specs.FlowReads.{FlowReads}
use Rattle.markdown_blocks.specs.PartRead.{AreLaid, BeginsPart, HasUnread, HasPart, IsPartRead, MayEnd, MayRead}
use Rattle.markdown_blocks.specs.PartRead.{before_next, events_after, events_at, is_line_begin, labels_after}
use Rattle.markdown_blocks.specs.PartRead.{labels_at, labels_of}
use Rattle.markdown_blocks.specs.PartRead.{point_after, unread_after, unread_at}
use Rattle.markdown_blocks.proofs.PartBegins.{part-may, part-placed, part-point}
use Rattle.markdown_blocks.proofs.LineWaits.{outside-cut, text-cut}
use Rattle.markdown_blocks.proofs.PartBlocks.{lines-asked, part-blocks, part-covers}
use Rattle.markdown_blocks.proofs.PartEvents.{flow-events}
use Rattle.markdown_blocks.proofs.PartLabels.{listed-all, none-first, none-second}
use Rattle.markdown_blocks.proofs.PartLaid.{covers-to, lined-laid, some-events}
use Rattle.markdown_blocks.proofs.PartLined.{chunks-last, lined-append, lined-within, placed-within}
use Rattle.markdown_blocks.proofs.PartNext.{IsCutAt, LeadsTo, end-whole, leads-to, part-begins, part-ends, part-filled}
use Rattle.markdown_blocks.proofs.TextBlocks.{footnotes-from, labels-from, resolved-are}

-- The text parts of a block list are read as lines just where they are read as the plain layer reads them.
pub lined-plain : (bytes : List ℕ) (blocks : List Event) → length bytes < 2 ^ 61 → IsBlockList bytes blocks →
    lined wants_text bytes blocks ≡ plain_read bytes blocks
lined-plain bytes blocks small list =
    plain-only bytes blocks (lined wants_text bytes blocks) list
    (lined-substituted wants_text bytes (λ content chunks. AreLines bytes chunks)
    (text_readings (λ part answer. answer ≡ plain_events bytes part)) blocks (λ content chunks is. (is, refl))
    (lines-asked bytes blocks small list))

-- What flow has read of a text from a point to its end is a part, whose text parts are not read.
pub is-read : (options : ParseOptions) (bytes : List ℕ) (p : Point) → IsWithoutMdx options → length bytes < 2 ^ 61 →
    BeginsPart bytes p → (found : Found) (new : World) → FlowReads bytes options p found new →
    ArePlaced bytes new.events → (part : Part) → part.events.items ≡ new.events →
    map string_bytes part.definitions.items ≡ found.definitions →
    map string_bytes part.gfm_footnote_definitions.items ≡ footnotes_listed options bytes new.events →
    IsPartRead options bytes p part
is-read options bytes p built small begins found new flow placed part events definitions footnotes = record {
  are = events ∙ same;
  list =
      subst (IsBlockList bytes) (sym events)
      (part-blocks options bytes p built small may new.events resolved placed);
  covers =
      subst (λ (l : List Event). Covers p (pieces l) (end_point bytes)) (sym events)
      (part-covers options bytes p built small may new.events resolved);
  labels_are =
      ap₂ (λ (d f : List (List ℕ)). let l : Labels = record { definitions = d; footnotes = f } in l)
      (definitions ∙ labels-from options bytes p built small may found new flow)
      (footnotes
      ∙ ap (λ (l : List (List ℕ)). cond options.constructs.gfm_footnote_definition l [])
      (footnotes-from options bytes p built small may found new flow));
}
  where
    may : MayBegin bytes p
    may = part-may bytes p begins

    begun : p ≡ begin p.line p.index (p.column - 1)
    begun = part-point bytes p begins

    resolved : new.events ≡ listed bytes (tabled_groups options bytes (groups (text_rows options bytes p)))
    resolved = resolved-are options bytes p built small may found new flow

    same : new.events ≡ unread_at options bytes p
    same =
        flow-events options bytes p.line p.index (p.column - 1) built small (subst (MayBegin bytes) begun may)
        (part-placed bytes p begins) found new (subst (λ (q : Point). FlowReads bytes options q found new) begun flow)

-- A part that was read to the end of a text is the last.
pub last-read : (options : ParseOptions) (text : List ℕ) (p : Point) (part : Part) → MayRead options text p →
    IsPartRead options text p part → HasUnread options text p part None
last-read options text p part reads read = record {
  events = sym read.are ∙ sym (append-nil part.events.items);
  labels =
      sym (read.labels_are ∙ listed-all options (labels_at options text p) reads.notes)
      ∙ ap₂ (λ (d f : List (List ℕ)). let l : Labels = record { definitions = d; footnotes = f } in l)
      (sym (append-nil (labels_of part).definitions)) (sym (append-nil (labels_of part).footnotes));
  list = read.list;
  covers = read.covers;
  some = reads.begins.inside;
  place = same-refl (end_point text);
  within = λ q placed. placed;
}

-- One that was read to where the next begins is before that.
cut-part : (options : ParseOptions) (text : List ℕ) (p next : Point) (part : Part) → length text < 2 ^ 61 →
    p.index < next.index → next.index < length text → is_line_begin text next.index ≡ true → MayRead options text p →
    LeadsTo options text next.index p next → IsPartRead options (take next.index text) p part →
    HasUnread options text p part (Some next) × MayRead options text next
cut-part options text p next part small before inside end reads leads read = (
  record {
    events = leads.events ∙ ap (λ (l : List Event). l ++ unread_at options text next) (sym read.are);
    labels =
        leads.labels
        ∙ ap (λ (l : Labels). both l (labels_at options text next))
        (sym (read.labels_are ∙ listed-all options (labels_at options slice p) first));
    list = read.list;
    covers = read.covers;
    some = let long = length-take-le next.index text (omega (arith, inside)) in omega (arith, before, long);
    place = leads.place;
    within = λ q placed.
        placed-within text next.index q small (omega (arith, inside)) (end-whole text next.index end) placed;
  },
  record {
    begins = leads.begins;
    notes = λ off.
        none-second (labels_at options slice p).footnotes (labels_at options text next).footnotes (all off);
  },
)
  where
    slice : List ℕ
    slice = take next.index text

    all : options.constructs.gfm_footnote_definition ≡ false →
        (labels_at options slice p).footnotes ++ (labels_at options text next).footnotes ≡ []
    all off = sym (ap (λ (l : Labels). l.footnotes) leads.labels) ∙ reads.notes off

    first : options.constructs.gfm_footnote_definition ≡ false → (labels_at options slice p).footnotes ≡ []
    first off =
        none-first (labels_at options slice p).footnotes (labels_at options text next).footnotes (all off)

-- A part was read to this place, and the next begins there.
record IsCutOff (options : ParseOptions) (text : List ℕ) (p next : Point) (part : Part) (to : ℕ) : Type 0 where
  before : p.index < to
  inside : to < length text
  end : is_line_begin text to ≡ true
  leads : LeadsTo options text to p next
  read : IsPartRead options (take to text) p part

cut-off : (options : ParseOptions) (text : List ℕ) (to : ℕ) (p next : Point) (part : Part) → length text < 2 ^ 61 →
    MayRead options text p → IsCutOff options text p next part to →
    HasUnread options text p part (Some next) × MayRead options text next
cut-off options text to p next part small reads is =
    go (subst (IsCutOff options text p next part) (sym is.leads.index) is)
  where
    go : IsCutOff options text p next part next.index →
        HasUnread options text p part (Some next) × MayRead options text next
    go at = cut-part options text p next part small at.before at.inside at.end reads at.leads at.read

-- Where flow waits for a line, and a part may end, the next part begins.
pub cut-read : (options : ParseOptions) (text : List ℕ) (to : ℕ) (p : Point) (state : State) (at : World) →
    IsWithoutMdx options → length text < 2 ^ 61 → MayRead options text p → p.index < to → to < length text →
    is_line_begin text to ≡ true → Runs FlowStep false line_begins (flow_begins (take to text) options p) state at →
    IsStopped false state at → at.setting ≡ (flow_begins (take to text) options p).setting → MayEnd text p to state at →
    IsPlaced (take to text) at.point → (part : Part) → IsPartRead options (take to text) p part →
    HasUnread options text p part (Some at.point) × MayRead options text at.point
cut-read options text to p state at built small reads before inside end run stops set waits placed part read =
    cut-off options text to p at.point part small reads
    (record {
      before = before;
      inside = inside;
      end = end;
      leads = leads-to options text to p at.point small begins before inside end placed past (cut waits);
      read = read;
    })
  where
    begins : BeginsPart text p
    begins = reads.begins

    long : length (take to text) ≡ to
    long = length-take-le to text (omega (arith, inside))

    sized : length (take to text) < 2 ^ 61
    sized = omega (arith, long, small, inside)

    past : length (take to text) ≤ at.point.index
    past =
        let stopped = subst (λ (t : State). IsStopped false t at) (waits-at waits) stops in
        let limit : at.setting.limit ≡ length (take to text) = ap (λ (x : Setting). x.limit) set in
        omega (arith, stopped.1, limit)
      where
        waits-at : MayEnd text p to state at → state ≡ line_begins
        waits-at (inl in-text) = in-text.0.at
        waits-at (inr outside) = outside.0.at

    cut : MayEnd text p to state at →
        IsCutAt options text to
        (placed_lines p.line p.index (p.column - 1) (full_lines_of (drop p.index (take to text))))
    cut (inl in-text) =
        inl (
          text-cut options (take to text) p built sized (part-begins text to p inside end before begins)
              (part-ends text to p inside end before) state at run in-text.0 past,
          in-text.1,
        )
    cut (inr outside) =
        inr
        (outside-cut options (take to text) p built sized (part-begins text to p inside end before begins)
        (part-ends text to p inside end before) state at run outside.0 past
        (part-filled text to p inside end outside.2 outside.1))

-- Its text parts may be read as lines.

pub take-most : (n : ℕ) (l : List ℕ) → length (take n l) ≤ length l
take-most zero l = omega arith
take-most (suc n) [] = omega arith
take-most (suc n) (b ∷ l) = let most = take-most n l in omega (arith, most)

pub part-sized : (text : List ℕ) (next : Option Point) → length text < 2 ^ 61 → length (before_next text next) < 2 ^ 61
part-sized text None small = small
part-sized text (Some next) small = let most = take-most next.index text in omega (arith, most, small)

pub is-asked : (options : ParseOptions) (text : List ℕ) (p : Point) (part : Part) (next : Option Point) →
    length text < 2 ^ 61 → HasUnread options text p part next →
    EachAsked wants_text (λ content chunks. AreLines (before_next text next) chunks) 0 part.events.items
is-asked options text p part next small has =
    lines-asked (before_next text next) part.events.items (part-sized text next small) has.list

pub is-placed : (options : ParseOptions) (text : List ℕ) (p : Point) (part : Part) (next : Option Point) →
    length text < 2 ^ 61 → HasUnread options text p part next → ArePlaced (before_next text next) part.events.items
is-placed options text p part next small has =
    placed-events (before_next text next) (part-sized text next small) part.events.items has.list.placed

-- events at points of the part are at points of the text
all-within : (text bytes : List ℕ) → ((q : Point) → IsPlaced bytes q → IsPlaced text q) → (es : List Event) →
    ArePlaced bytes es → ArePlaced text es
all-within text bytes within [] placed = All-nil (λ (e : Event). IsPlaced text e.point)
all-within text bytes within (e ∷ es) placed =
    All-cons (λ (e : Event). IsPlaced text e.point) e es
    (within e.point (All-head (λ (e : Event). IsPlaced bytes e.point) e es placed))
    (all-within text bytes within es (All-tail (λ (e : Event). IsPlaced bytes e.point) e es placed))

pub text-placed : (options : ParseOptions) (text : List ℕ) (p : Point) (part : Part) (next : Option Point) →
    length text < 2 ^ 61 → HasUnread options text p part next → ArePlaced text part.events.items
text-placed options text p part next small has =
    all-within text (before_next text next) has.within part.events.items
    (is-placed options text p part next small has)

-- read so, they are followed by those of the next part
pub lines-apart : (options : ParseOptions) (text : List ℕ) (p : Point) (part : Part) (next : Option Point) →
    HasUnread options text p part next →
    events_at options text p ≡ lined wants_text text part.events.items ++ events_after options text next
lines-apart options text p part next has =
    ap (lined wants_text text) has.events
    ∙ lined-append wants_text text part.events.items (unread_after options text next)
    (chunks-last 0 part.events.items has.list.chunks)
    ∙ ap (λ (l : List Event). lined wants_text text part.events.items ++ l) (after next)
  where
    after : (next : Option Point) →
        lined wants_text text (unread_after options text next) ≡ events_after options text next
    after None = refl
    after (Some q) = refl

-- Where they were, this is the part that the text has.
pub lines-read : (options : ParseOptions) (text : List ℕ) (p : Point) (part read : Part) (next : Option Point) →
    length text < 2 ^ 61 → HasUnread options text p part next →
    Substituted wants_text
    (λ content chunks answer. answer ≡ together (plain_chunks (before_next text next) chunks)) [] 0 part.events.items
    read.events.items →
    labels_of read ≡ labels_of part → HasPart options text p read next
lines-read options text p part read next small has substituted same = record {
  events =
      lines-apart options text p part next has
      ∙ ap (λ (l : List Event). l ++ events_after options text next)
      (in-text next read-as (is-placed options text p part next small has));
  labels = has.labels ∙ ap (λ (l : Labels). both l (labels_after options text next)) (sym same);
  some = some-events p (end_point bytes) read.events.items laid.covers has.some;
  laid = record {
    nested = laid.nested;
    placed =
        events-placed text read.events.items
        (all-within text bytes has.within read.events.items
        (placed-events bytes sized read.events.items laid.placed));
    covers =
        covers-to p (end_point bytes) (point_after text next) (pieces read.events.items) laid.covers has.place;
  };
}
  where
    bytes : List ℕ
    bytes = before_next text next

    sized : length bytes < 2 ^ 61
    sized = part-sized text next small

    read-as : read.events.items ≡ lined wants_text bytes part.events.items
    read-as =
        plain-only bytes part.events.items read.events.items has.list substituted
        ∙ sym (lined-plain bytes part.events.items sized has.list)

    in-text : (next : Option Point) →
        read.events.items ≡ lined wants_text (before_next text next) part.events.items →
        ArePlaced (before_next text next) part.events.items →
        lined wants_text text part.events.items ≡ read.events.items
    in-text None e placed = sym e
    in-text (Some q) e placed = sym (e ∙ lined-within wants_text text q.index part.events.items placed)

    laid : AreLaid bytes p read.events.items (end_point bytes)
    laid =
        subst (λ (l : List Event). AreLaid bytes p l (end_point bytes)) (sym read-as)
        (lined-laid bytes p (end_point bytes) part.events.items has.list has.covers
        (is-placed options text p part next small has)
        (lined-each wants_text bytes (λ content chunks. AreLines bytes chunks)
        (text_readings (λ part answer. answer ≡ plain_events bytes part)) part.events.items
        (λ content chunks is. (is, refl)) (is-asked options text p part next small has)))
