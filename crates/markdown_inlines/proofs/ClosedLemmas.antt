-- What a `]` makes of its pair keeps the relation between a reader's lists and the items that it read.
use Rattle.std.proofs.Common.{◌≡◌, ℕ, zero, suc, ◌+◌, ◌-◌, ◌^◌, ◌<◌, ◌≤◌, Bool, true, false, List, [], ◌∷◌, ◌++◌}
use Rattle.std.proofs.Common.{length, take, drop, Some, None, refl, ap, sym, ◌∙◌, subst, append_assoc, arith}
use Rattle.std.specs.Prelude.{◌||◌, reverse}
use Rattle.std.proofs.lemmas.List.{append-nil, drop_at, length-append, take_at}
use Rattle.md_engine.specs.declared.event.Name.TheVariants as n
use Rattle.md_inline_events.specs.Forest.{Forest, nothing, over, part, size}
use Rattle.md_inlines.specs.declared.InlineOptions.{InlineOptions}
use Rattle.md_inlines.specs.Atoms.{byte, is_data}
use Rattle.md_inlines.specs.Brackets.{text_item}
use Rattle.md_inlines.specs.Emphasis.{Item, emphasis, read}
use Rattle.md_inlines.specs.Targets.{label_end}
use Rattle.proof_inlines.specs.Sized.{items_size}
use Rattle.proof_inlines.proofs.EmphasisLemmas.{items-append}
use Rattle.proof_inlines.proofs.SizeLemmas.{over-size, part-size, piece-size}
use Rattle.markdown_inlines.specs.declared.attention.PlacedRun.{PlacedRun}
use Rattle.markdown_inlines.specs.declared.brackets.Bracket.{Bracket}
use Rattle.markdown_inlines.specs.declared.brackets.Extent.{Extent}
use Rattle.markdown_inlines.specs.declared.brackets.Labels.{Labels}
use Rattle.markdown_inlines.specs.declared.brackets.Reading.{Reading}
use Rattle.markdown_inlines.specs.declared.span.Span.{Span}
use Rattle.markdown_inlines.specs.declared.target.Target.{Target}
use Rattle.markdown_inlines.specs.declared.brackets.Pair.TheVariants as p
use Rattle.markdown_inlines.specs.Closed.{IsKind, call_made, call_names, end_spans, first_len, image_names, label_spans}
use Rattle.markdown_inlines.specs.Closed.{leading_made, link_names, names_of}
use Rattle.markdown_inlines.specs.Filled.{Filled, Placed, Shows}
use Rattle.markdown_inlines.specs.Leading.{leads}
use Rattle.markdown_inlines.specs.Opened.{Opened, bracket_of, bracket_room}
use Rattle.markdown_inlines.specs.Reads.{ClosedAs, Closing}
use Rattle.markdown_inlines.specs.Spans.{holes, live, span_of, spans_forest, write}
use Rattle.markdown_inlines.proofs.EmphasisSize.{emphasis-size, filled-runs}
use Rattle.markdown_inlines.proofs.OpenedLemmas.{close-pair, close-text, first-bracket, opened-placed, reached-append}
use Rattle.markdown_inlines.proofs.OpenedLemmas.{text-long, text-spans}
use Rattle.markdown_inlines.proofs.ShapeLemmas.{fits, live-last, live-over, live-part, no-spans}
use Rattle.markdown_inlines.proofs.SpanLemmas.{length-holes, moved}

-- A link, an image or a footnote call, by its names; its first bracket has so many bytes after the first.
abbrev labelled : Labels → ℕ → Forest → Forest → Forest
labelled names more inside leads =
    part names.whole
    (part n.Label
    (part names.bracket (over names.first 1 (over names.second more nothing)) (part n.LabelText inside label_end))
    leads)
    nothing

labelled-size : (names : Labels) (more : ℕ) (inside leads : Forest) →
    size (labelled names more inside leads) ≡ 1 + more + size inside + 1 + size leads
labelled-size names more inside leads =
    let markers : Forest = over names.first 1 (over names.second more nothing) in
    let text : Forest = part n.LabelText inside label_end in
    omega (
      arith,
      part-size names.whole (part n.Label (part names.bracket markers text) leads) nothing,
      part-size n.Label (part names.bracket markers text) leads,
      part-size names.bracket markers text,
      over-size names.first 1 (over names.second more nothing),
      over-size names.second more nothing,
      part-size n.LabelText inside label_end,
      part-size n.LabelEnd (byte n.LabelMarker nothing) nothing,
      piece-size n.LabelMarker 0 nothing,
    )

label-end-size : size label_end ≡ 1
label-end-size = refl

labelled-live : (names : Labels) (e : Extent) (more : ℕ) (inside leads : Forest) (own tail : List Span) →
    is_data names.first ≡ false → is_data names.second ≡ false → e.marker ≡ e.at + 1 → e.text ≡ e.marker + more →
    e.close ≡ e.text + size inside → e.label ≡ e.close + 1 → e.end ≡ e.label + size leads →
    live own ≡ spans_forest e.text inside → live tail ≡ spans_forest e.label leads →
    live (label_spans names e ++ (own ++ (end_spans e.close ++ tail))) ≡
    spans_forest e.at (labelled names more inside leads)
labelled-live names e more inside leads own tail first second m t c l w i f =
    ap
    (λ (s : List Span). live (span_of names.whole e.at e.end ∷ span_of n.Label e.at e.label ∷ head ++ s))
    (sym (append_assoc own (end_spans e.close) tail))
    ∙ (live-last e.at e.end names.whole (part n.Label marks leads)
    (span_of n.Label e.at e.label ∷ head ++ ((own ++ end_spans e.close) ++ tail))
    (omega (arith, m, t, c, l, w, marks-size, part-size n.Label marks leads))
    (live-part e.at e.label n.Label marks leads (head ++ (own ++ end_spans e.close)) tail
    (omega (arith, m, t, c, l, marks-size))
    (live-part e.at e.text names.bracket markers text
    (span_of names.first e.at e.marker ∷ span_of names.second e.marker e.text ∷ [])
    (span_of n.LabelText e.text e.close ∷ (own ++ end_spans e.close))
    (omega (arith, m, t, over-size names.first 1 (over names.second more nothing), over-size names.second more nothing))
    (live-over e.at e.marker names.first 1 (over names.second more nothing)
    (span_of names.second e.marker e.text ∷ []) first m
    (live-over e.marker e.text names.second more nothing [] second t (no-spans e.text)))
    (live-part e.text e.close n.LabelText inside label_end own (end_spans e.close) c (fits e.text inside own i)
    (live-last e.close (e.close + 1) n.LabelEnd (byte n.LabelMarker nothing)
    (span_of n.LabelMarker e.close (e.close + 1) ∷ []) refl
    (live-over e.close (e.close + 1) n.LabelMarker 1 nothing [] refl refl (no-spans (e.close + 1))))))
    (fits e.label leads tail f))).is
  where
    markers : Forest
    markers = over names.first 1 (over names.second more nothing)

    text : Forest
    text = part n.LabelText inside label_end

    marks : Forest
    marks = part names.bracket markers text

    head : List Span
    head =
        span_of names.bracket e.at e.text
        ∷ span_of names.first e.at e.marker
        ∷ span_of names.second e.marker e.text
        ∷ span_of n.LabelText e.text e.close
        ∷ []

    marks-size : size marks ≡ 1 + more + (size inside + 1)
    marks-size =
        omega (
          arith,
          part-size names.bracket markers text,
          over-size names.first 1 (over names.second more nothing),
          over-size names.second more nothing,
          part-size n.LabelText inside label_end,
          label-end-size,
        )

-- What is so of a bracket that is closed.

pub frame-at : (start : ℕ) (bracket : Bracket) (old : Reading) (k : Closing start bracket old) →
    (k.frame.at ≡ bracket.at) × (k.frame.len ≡ bracket.len) × (k.frame.links ≡ bracket.links)
frame-at start bracket old k =
    let is : bracket ≡ bracket_of k.frame k.opened.0 k.opened.2 =
    first-bracket bracket (bracket_of k.frame k.opened.0 k.opened.2) (reverse old.brackets.items) k.opened.4
    k.opened.7 in (
      sym (ap (λ (b : Bracket). b.at) is),
      sym (ap (λ (b : Bracket). b.len) is),
      sym (ap (λ (b : Bracket). b.links) is),
    )

place-at : (start : ℕ) (bracket : Bracket) (old : Reading) (k : Closing start bracket old) →
    bracket.place ≡ length k.opened.0
place-at start bracket old k =
    ap (λ (b : Bracket). b.place)
    (first-bracket bracket (bracket_of k.frame k.opened.0 k.opened.2) (reverse old.brackets.items) k.opened.4
    k.opened.7)

runs-at : (start : ℕ) (bracket : Bracket) (old : Reading) (k : Closing start bracket old) →
    bracket.runs ≡ length k.opened.2
runs-at start bracket old k =
    ap (λ (b : Bracket). b.runs)
    (first-bracket bracket (bracket_of k.frame k.opened.0 k.opened.2) (reverse old.brackets.items) k.opened.4
    k.opened.7)

-- what is before its text
front-of : (start : ℕ) (bracket : Bracket) (old : Reading) (k : Closing start bracket old) →
    old.spans.items ≡ (k.opened.0 ++ holes bracket_room) ++ k.opened.1
front-of start bracket old k = k.opened.5 ∙ sym (append_assoc k.opened.0 (holes bracket_room) k.opened.1)

front-long : (start : ℕ) (bracket : Bracket) (old : Reading) (k : Closing start bracket old) →
    length (k.opened.0 ++ holes bracket_room) ≡ bracket.place + bracket_room
front-long start bracket old k =
    omega (
      arith,
      place-at start bracket old k,
      length-append k.opened.0 (holes bracket_room),
      length-holes bracket_room,
    )

pub room-for : (start : ℕ) (bracket : Bracket) (old : Reading) → Closing start bracket old → old.at < 2 ^ 64 →
    (bracket.runs ≤ length old.runs.items) × Placed (length old.spans.items) (drop bracket.runs old.runs.items)
room-for start bracket old k fits =
    opened-placed start k.frames k.frame k.items bracket (reverse old.brackets.items) old.spans.items old.runs.items
    k.opened (omega (arith, fits, k.place))

-- The spans of the text of a pair, once its runs are matched.
pub matched-in : (start : ℕ) (bracket : Bracket) (old : Reading) (k : Closing start bracket old) (single : Bool)
    (matched : List Span) →
    ((at : ℕ) (others own : List Span) (items : List Item) → old.spans.items ≡ others ++ own →
    Filled at (length others) items own (drop bracket.runs old.runs.items) →
    Shows at others (emphasis single items) matched) →
    Shows (k.frame.at + k.frame.len) (k.opened.0 ++ holes bracket_room) (emphasis single k.items) matched
matched-in start bracket old k single matched m =
    m (k.frame.at + k.frame.len) (k.opened.0 ++ holes bracket_room) k.opened.1 k.items (front-of start bracket old k)
    (subst
    (λ (l : List PlacedRun). Filled (k.frame.at + k.frame.len) (length (k.opened.0 ++ holes bracket_room)) k.items
    k.opened.1 l)
    (sym
    (ap (λ (i : ℕ). drop i old.runs.items) (runs-at start bracket old k) ∙ ap (drop (length k.opened.2)) k.opened.6
    ∙ drop_at k.opened.2 k.opened.3 (length k.opened.2) refl))
    (moved (k.frame.at + k.frame.len) (k.frame.at + k.frame.len) (length k.opened.0 + bracket_room)
    (length (k.opened.0 ++ holes bracket_room)) k.items k.opened.1 k.opened.3 refl
    (omega (arith, length-append k.opened.0 (holes bracket_room), length-holes bracket_room)) k.opened.10))

inside-size : (start : ℕ) (bracket : Bracket) (old : Reading) (k : Closing start bracket old) (single : Bool) →
    size (emphasis single k.items) ≡ items_size k.items
inside-size start bracket old k single =
    emphasis-size single k.items
    (filled-runs (k.frame.at + k.frame.len) (length k.opened.0 + bracket_room) k.items k.opened.1 k.opened.3
    k.opened.10)

one-item : (forest : Forest) → items_size (read forest ∷ []) ≡ size forest
one-item forest = omega arith

-- The lists after a pair that is no text.
pub pair-closed : (start : ℕ) (bracket : Bracket) (old new : Reading) (k : Closing start bracket old)
    (names : Labels) (e : Extent) (more : ℕ) (inside lead : Forest) (is_link : Bool) (own tail all : List Span) →
    is_data names.first ≡ false → is_data names.second ≡ false → e.at ≡ bracket.at →
    e.marker ≡ e.at + 1 → e.text ≡ e.marker + more → e.close ≡ old.at →
    e.close ≡ e.text + size inside → e.label ≡ e.close + 1 → e.end ≡ e.label + size lead →
    live own ≡ spans_forest e.text inside → live tail ≡ spans_forest e.label lead →
    all ≡ ((k.opened.0 ++ holes bracket_room) ++ own) ++ (end_spans e.close ++ tail) →
    new.spans.items ≡ write bracket.place (label_spans names e) all → new.runs.items ≡ take bracket.runs
    old.runs.items →
    new.brackets.items ≡ old.brackets.items → new.at ≡ e.end →
    new.links ≡ (bracket.links || (old.links || is_link)) →
    ClosedAs start bracket old k
    (Some (record { forest = labelled names more inside lead; taken = size lead; is_link = is_link })) new
pair-closed start bracket old new k names e more inside lead is_link own tail all first second at m t here c l w
    i f a s r b p q =
    record {
      opened = subst (λ (l : List Bracket). Opened start k.frames closed (reverse l) new.spans.items new.runs.items)
          (sym b)
          (subst (λ (l : List Span). Opened start k.frames closed (reverse old.brackets.items) l new.runs.items) (sym s)
          (subst
          (λ (l : List PlacedRun). Opened start k.frames closed (reverse old.brackets.items)
          (write bracket.place (label_spans names e) all) l) (sym r)
          (close-pair start k.frames k.frame k.items bracket (reverse old.brackets.items) old.spans.items
          old.runs.items (labelled names more inside lead) own (end_spans e.close ++ tail) (label_spans names e)
          k.opened
          refl
          (labelled-live names e more inside lead own tail first second m t c l w i f
          ∙ ap (λ (x : ℕ). spans_forest x (labelled names more inside lead)) (at ∙ sym frame.0)) all a)));
      place =
          omega (
            arith,
            p,
            w,
            l,
            c,
            t,
            m,
            at,
            frame.0,
            k.opened.8,
            reached-append start k.frames k.frame.items (read (labelled names more inside lead) ∷ []),
            one-item (labelled names more inside lead),
            labelled-size names more inside lead,
          );
      at = omega (arith, p, w, l, here);
      links = q;
    }
  where
    closed : List Item
    closed = k.frame.items ++ read (labelled names more inside lead) ∷ []

    frame : (k.frame.at ≡ bracket.at) × (k.frame.len ≡ bracket.len) × (k.frame.links ≡ bracket.links)
    frame = frame-at start bracket old k

or-false : (x : Bool) → (x || false) ≡ x
or-false true = refl
or-false false = refl

-- A pair that is text.
pub text-closed : (start : ℕ) (bracket : Bracket) (old new : Reading) (k : Closing start bracket old) →
    new.spans.items ≡ old.spans.items → new.runs.items ≡ old.runs.items → new.brackets.items ≡ old.brackets.items →
    new.at ≡ old.at + 1 → new.links ≡ (bracket.links || old.links) → ClosedAs start bracket old k None new
text-closed start bracket old new k s r b p q =
    record {
      opened = subst (λ (l : List Bracket). Opened start k.frames closed (reverse l) new.spans.items new.runs.items)
          (sym b)
          (subst (λ (l : List Span). Opened start k.frames closed (reverse old.brackets.items) l new.runs.items) (sym s)
          (subst (λ (l : List PlacedRun). Opened start k.frames closed (reverse old.brackets.items) old.spans.items l)
          (sym r)
          (close-text start k.frames k.frame k.items bracket (reverse old.brackets.items) old.spans.items
          old.runs.items k.opened)));
      place =
          omega (
            arith,
            p,
            k.place,
            k.opened.8,
            reached-append start k.frames k.frame.items (text_item k.frame.len ∷ k.items ++ text_item 1 ∷ []),
            items-append (text_item k.frame.len ∷ []) (k.items ++ text_item 1 ∷ []),
            items-append k.items (text_item 1 ∷ []),
            text-long k.frame.len,
            text-long 1,
          );
      at = omega (arith, p);
      links = q ∙ ap (λ (x : Bool). bracket.links || x) (sym (or-false old.links));
    }
  where
    closed : List Item
    closed = k.frame.items ++ (text_item k.frame.len ∷ k.items ++ text_item 1 ∷ [])

-- A link or an image.

pub leading-closed : (start : ℕ) (bracket : Bracket) (old new : Reading) (k : Closing start bracket old)
    (options : InlineOptions) (after : List ℕ) (is_link : Bool) (target : Target) (e : Extent)
    (matched ended all : List Span) → bracket.len ≡ first_len is_link →
    ((at : ℕ) (others own : List Span) (items : List Item) → old.spans.items ≡ others ++ own →
    Filled at (length others) items own (drop bracket.runs old.runs.items) →
    Shows at others (emphasis options.gfm_strikethrough_single_tilde items) matched) →
    ended ≡ matched ++ end_spans e.close → Shows e.label ended (leads options after target) all →
    e.at ≡ bracket.at → e.marker ≡ bracket.at + 1 → e.text ≡ bracket.at + bracket.len → e.close ≡ old.at →
    e.label ≡ e.close + 1 → e.end ≡ e.label + size (leads options after target) →
    new.spans.items ≡ write bracket.place (label_spans (names_of is_link) e) all →
    new.runs.items ≡ take bracket.runs old.runs.items → new.brackets.items ≡ old.brackets.items → new.at ≡ e.end →
    new.links ≡ (bracket.links || (old.links || is_link)) →
    ClosedAs start bracket old k (Some (leading_made options k.items after is_link target)) new
leading-closed start bracket old new k options after is_link target e matched ended all len m h t at mark text here
    l w s
    r b p q =
    go is_link len s q
  where
    lead : Forest
    lead = leads options after target

    inside : Forest
    inside = emphasis options.gfm_strikethrough_single_tilde k.items

    inner : Shows (k.frame.at + k.frame.len) (k.opened.0 ++ holes bracket_room) inside matched
    inner = matched-in start bracket old k options.gfm_strikethrough_single_tilde matched m

    frame : (k.frame.at ≡ bracket.at) × (k.frame.len ≡ bracket.len) × (k.frame.links ≡ bracket.links)
    frame = frame-at start bracket old k

    text-is : k.frame.at + k.frame.len ≡ e.text
    text-is = omega (arith, frame.0, frame.1, text)

    shown : live inner.own ≡ spans_forest e.text inside
    shown = inner.shown ∙ ap (λ (x : ℕ). spans_forest x inside) text-is

    close-is : e.close ≡ e.text + size inside
    close-is =
        omega (
          arith,
          here,
          k.place,
          text-is,
          inside-size start bracket old k options.gfm_strikethrough_single_tilde,
        )

    all-is : all ≡ ((k.opened.0 ++ holes bracket_room) ++ inner.own) ++ (end_spans e.close ++ t.own)
    all-is =
        t.same ∙ ap (λ (x : List Span). x ++ t.own) (h ∙ ap (λ (x : List Span). x ++ end_spans e.close) inner.same)
        ∙ append_assoc ((k.opened.0 ++ holes bracket_room) ++ inner.own) (end_spans e.close) t.own

    go : (x : Bool) → bracket.len ≡ first_len x →
        new.spans.items ≡ write bracket.place (label_spans (names_of x) e) all →
        new.links ≡ (bracket.links || (old.links || x)) →
        ClosedAs start bracket old k (Some (leading_made options k.items after x target)) new
    go true len s q =
        pair-closed start bracket old new k link_names e 0 inside lead true inner.own t.own all refl refl at
        (omega (arith, at, mark)) (omega (arith, text, mark, len)) here close-is l w shown t.shown
        all-is s r b p q
    go false len s q =
        pair-closed start bracket old new k image_names e 1 inside lead false inner.own t.own all refl refl at
        (omega (arith, at, mark)) (omega (arith, text, mark, len)) here close-is l w shown t.shown
        all-is s r b p q

-- A footnote call.

-- what is found in it is dropped
pub cut-is : (start : ℕ) (bracket : Bracket) (old : Reading) (k : Closing start bracket old) (kept : ℕ) →
    kept ≡ bracket.place + bracket_room → take kept old.spans.items ≡ k.opened.0 ++ holes bracket_room
cut-is start bracket old k kept h =
    ap (take kept) (front-of start bracket old k)
    ∙ take_at (k.opened.0 ++ holes bracket_room) k.opened.1 kept (front-long start bracket old k ∙ sym h)

pub call-closed : (start : ℕ) (bracket : Bracket) (old new : Reading) (k : Closing start bracket old) (len : ℕ)
    (e : Extent) (kept : ℕ) (cut all : List Span) → old.at ≡ bracket.at + 2 + len →
    kept ≡ bracket.place + bracket_room → cut ≡ take kept old.spans.items → all ≡ cut ++ end_spans e.close →
    e.at ≡ bracket.at → e.marker ≡ bracket.at + 1 → e.text ≡ e.marker + 1 → e.close ≡ old.at →
    e.label ≡ e.close + 1 → e.end ≡ e.label → new.spans.items ≡ write bracket.place (label_spans call_names e) all →
    new.runs.items ≡ take bracket.runs old.runs.items → new.brackets.items ≡ old.brackets.items → new.at ≡ e.end →
    new.links ≡ (bracket.links || old.links) → ClosedAs start bracket old k (Some (call_made len)) new
call-closed start bracket old new k len e kept cut all here kept-is c a at mark text close l w s r b p q =
    pair-closed start bracket old new k call_names e 1 (over n.Data len nothing) nothing false [] [] all refl refl at
    (omega (arith, at, mark)) text close (omega (arith, here, close, at, mark, text, over-size n.Data len nothing)) l
    (omega (arith, w)) (sym (text-spans e.text len)) refl
    (a ∙ ap (λ (x : List Span). x ++ end_spans e.close) (c ∙ cut-is start bracket old k kept kept-is)
    ∙ ap (λ (x : List Span). x ++ end_spans e.close) (sym (append-nil (k.opened.0 ++ holes bracket_room)))
    ∙ ap (λ (x : List Span). ((k.opened.0 ++ holes bracket_room) ++ []) ++ x) (sym (append-nil (end_spans e.close)))) s
    r b p (q ∙ ap (λ (x : Bool). bracket.links || x) (sym (or-false old.links)))

-- How many bytes the first bracket of a pair has.

not-two : (len : ℕ) → 0 < len → len ≤ 2 → (len ≡ 2 → ⊥) → len ≡ 1
not-two zero some few h = absurd (omega (arith, some))
not-two (suc zero) some few h = refl
not-two (suc (suc zero)) some few h = absurd (h refl)
not-two (suc (suc (suc len))) some few h = absurd (omega (arith, few))

pub first-is : (len : ℕ) (inside : List ℕ) (is_link : Bool) (target : Target) → 0 < len → len ≤ 2 →
    IsKind len inside (p.Leading is_link target) → len ≡ first_len is_link
first-is len inside true target some few h = not-two len some few h
first-is len inside false target some few h = h

pub call-at : (start : ℕ) (bracket : Bracket) (old : Reading) (inside : List ℕ) → Closing start bracket old →
    IsKind bracket.len inside p.Call → bracket.at + bracket.len + length inside ≡ old.at →
    old.at ≡ bracket.at + 2 + (length inside - 1)
call-at start bracket old inside k h here =
    let one : bracket.len ≡ 1 = not-two bracket.len k.len.0 k.len.1 h.0 in omega (arith, one, h.1, here)
