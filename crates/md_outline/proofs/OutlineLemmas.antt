-- What an outline has read of some events is what the events spell out.
use Rattle.std.proofs.Common.{◌≡◌, ℕ, ◌+◌, ◌<◌, ◌≤◌, Bool, true, false, ◌||◌, not, List, [], ◌∷◌, ◌++◌, length, drop}
use Rattle.std.proofs.Common.{get_or, slice_range, Result, Ok, Err, append-nil, refl, sym, ◌∙◌, ap, subst}
use Rattle.std.specs.Prelude.{Option, Some, None, option_map, OnOk}
use Rattle.std.specs.List.{list_all}
use Rattle.std.specs.Str.{IsUtf8}
use Rattle.std.proofs.lemmas.Bool.{and_from, and_parts, or_right}
use Rattle.std.proofs.lemmas.List.{at_drop_all, at_drop_more}
use Rattle.std.proofs.lemmas.List.Elements.{All-get_or}
use Rattle.std.proofs.lemmas.List.Sums.{AllPass-from_list_all}
use Rattle.md_events.proofs.PlainSteps.{range-none}
use Rattle.md_engine.specs.declared.event.Event.{Event}
use Rattle.md_engine.specs.declared.event.Kind.{Kind}
use Rattle.md_engine.specs.declared.event.Kind.TheVariants.{Enter, Exit}
use Rattle.md_engine.specs.declared.event.Point.{Point}
use Rattle.md_meaning.specs.declared.outline.Word.{Word}
use Rattle.md_meaning.specs.Outline.{Entry, outline}
use Rattle.md_events.specs.Events.Spelled.{AsHeading, ContainerRole, IsCell, IsFence, IsPrefix, OpenLeaf, LeafRole}
use Rattle.md_events.specs.Events.Spelled.{OrderedShape, Reading, TextRole, UnorderedShape, begun, byte_at, read}
use Rattle.md_events.specs.Events.Spelled.{read_by, spelled, unread, OfBare, IsQuoteMarker, IsEnding}
use Rattle.md_events.specs.Events.Spelled as spelled
use Rattle.md_outline.specs.Between.{is_between}
use Rattle.md_outline.specs.HeadingDepths.{fits}
use Rattle.md_outline.specs.ListsBegin.{AllRecorded, ListsBegin, Stage, stage_by}
use Rattle.md_outline.specs.Outlined.{IsOutlined, are_parted, has_shown_name}
use Rattle.md_outline.specs.Outlined.{has_unlisted_name, parts_by, span_by, is_between_characters, text_begins_between}
use Rattle.md_outline.specs.OutlineSteps.{BeginsBetween, IsCutAt, IsCutBy, OutlineState, before_all, leaf_ended}
use Rattle.md_outline.specs.OutlineSteps.{parted_at, state_after, state_by, recorded_at, recorded_leaf, is_titled}
use Rattle.md_outline.specs.OutlineSteps.{marked_at, piece_shown, title_recorded, recorded}
use Rattle.md_outline.specs.LinesAllowed.{LinesAllowed, Outside, Site, site_by}
use Rattle.md_outline.specs.DefinitionState.{part_word}
use Rattle.md_outline.specs.Roles.{is_seen, is_shown, is_recorded, is_unlisted, shown_as}
use Rattle.md_outline.specs.declared.outline.role.Note.TheVariants as note
use Rattle.md_outline.specs.declared.outline.role.Purpose.{Purpose}
use Rattle.md_outline.specs.declared.outline.role.Purpose.TheVariants as purpose
use Rattle.md_outline.specs.declared.outline.role.Role.{Role}
use Rattle.md_outline.specs.declared.outline.role.Role.TheVariants as role
use Rattle.md_outline.specs.declared.outline.TextSpan.{TextSpan}
use Rattle.md_outline.proofs.BlocksStay.{AllHold, blocks-stay, outer_hold}
use Rattle.md_outline.proofs.LinedLemmas.{span-fenced, span-headed, span-line}
use Rattle.md_outline.proofs.LinedSteps.{AgreesWithin, agrees-site, sites-closed}
use Rattle.md_outline.proofs.OutlineDepths.{all-closed}
use Rattle.md_outline.proofs.RoleLemmas.{role-fresh}
use Rattle.md_outline.proofs.SiteTexts.{span-quoted}
use Rattle.md_outline.proofs.TabledLemmas.{span-cell}
use Rattle.md_outline.proofs.TextCuts.{utf8-part}

-- The text that is read is that of the events.

span-parted : (bytes : List ℕ) (i : ℕ) (span : Option TextSpan) (s : OutlineState) → s.text ≡ span →
    (parted_at bytes i span s).text ≡ option_map (λ (t : TextSpan). record t { is_parted = true }) span
span-parted bytes i None s e = e
span-parted bytes i (Some span) s e = refl

span-marked : (untold : Option ℕ) (text : List ℕ) (s : OutlineState) → (marked_at untold text s).text ≡ s.text
span-marked None text s = refl
span-marked (Some place) text s = refl

span-recorded : (bytes : List ℕ) (y : Purpose) (i : ℕ) (span : Option TextSpan) (s : OutlineState) → s.text ≡ span →
    (recorded_at bytes y i span s).text ≡ None
span-recorded bytes y i None s e = e
span-recorded bytes purpose.Title i (Some span) s e = go (is_titled s.lined)
  where
    go : (x : Bool) →
        (title_recorded x (slice_range bytes span.from i) (record s { text = None })).text ≡ None
    go true = refl
    go false = refl
span-recorded bytes purpose.Markers i (Some span) s e =
    span-headed s.lined (slice_range bytes span.from i)
    (recorded_leaf note.Markers (slice_range bytes span.from i) (record s { text = None }))
span-recorded bytes purpose.Marker i (Some span) s e =
    span-marked s.untold (slice_range bytes span.from i) (record s { text = None })
span-recorded bytes _ i (Some span) s e = refl

span-leaf : (leaf : Option OpenLeaf) (s : OutlineState) → (leaf_ended leaf s).text ≡ s.text
span-leaf None s = refl
span-leaf (Some leaf) s = refl

-- what a text of a purpose is shown as
abbrev text_as : spelled.Purpose → Purpose
text_as x = elim (shown_as (TextRole x)) [ role.Text y ↦ y | _ ↦ purpose.Block ]

span-step : (bytes : List ℕ) (kind : Kind) (x : spelled.Role) (p : Point) (s : OutlineState) →
    (state_by bytes kind (shown_as x) p s).text ≡ span_by kind x p s.text
span-step bytes Enter IsPrefix p s = span-parted bytes p.index s.text s refl
span-step bytes Enter IsFence p s = span-fenced s.lined s
span-step bytes Enter IsCell p s = span-cell s
span-step bytes Enter IsQuoteMarker p s = span-quoted bytes p.index s.text s.leaf s.lined s
span-step bytes Exit IsEnding p s = span-line bytes p.index s.lined s.text s
span-step bytes Exit (LeafRole (OfBare word)) p s = span-leaf s.leaf s
span-step bytes Exit (LeafRole _) p s = first_of (cc, search (span-leaf))
span-step bytes Exit (TextRole AsHeading) p s = span-recorded bytes purpose.Title p.index s.text s refl
span-step bytes Exit (TextRole x) p s = span-recorded bytes (text_as x) p.index s.text s refl
span-step bytes Enter (LeafRole (OfBare word)) p s = refl
span-step bytes Enter (TextRole AsHeading) p s = refl
span-step bytes _ (ContainerRole OrderedShape) p s = refl
span-step bytes _ _ p s = refl

-- one event is where it may, and so do those after it
parted-step : (bytes : List ℕ) (e : Event) (events : List Event) (s : OutlineState) →
    are_parted bytes s.text (e ∷ events) ≡ true →
    (parts_by bytes e.kind (spelled.role e.name) e.point s.text ≡ true) ×
    (are_parted bytes (state_by bytes e.kind (shown_as (spelled.role e.name)) e.point s).text events ≡ true)
parted-step bytes e events s k =
    let parts = and_parts (parts_by bytes e.kind (spelled.role e.name) e.point s.text)
    (are_parted bytes (span_by e.kind (spelled.role e.name) e.point s.text) events) k in
    (parts.0, ap (λ x. are_parted bytes x events) (span-step bytes e.kind (spelled.role e.name) e.point s) ∙ parts.1)

-- all events: then no text is parted
agrees-all : (bytes : List ℕ) (events : List Event) (site : Site) (stage : Stage) (s : OutlineState) (r : Reading) →
    list_all has_shown_name events ≡ true → are_parted bytes s.text events ≡ true → ListsBegin bytes stage events →
    LinesAllowed bytes site events → AllHold fits (read bytes r events) → (read bytes r events).outer ≡ [] →
    AgreesWithin site stage s r →
    (state_after bytes s events).lines ≡ outline 0 (read bytes r events).here
agrees-all bytes [] site stage s r h k lists lines d e is = sites-closed bytes site stage s r e k lines is
agrees-all bytes (e ∷ events) site stage s r h k lists lines d closed is =
    let names = and_parts (has_shown_name e) (list_all has_shown_name events) h in
    let parts = parted-step bytes e events s k in
    let x : spelled.Role = spelled.role e.name in
    let next : Reading = read_by bytes e.kind x e.point r in
    agrees-all bytes events (site_by bytes site e.kind x e.point) (stage_by stage e.kind x e.point)
    (state_by bytes e.kind (shown_as x) e.point s) next
    names.1 parts.1 lists.1 lines.1 d closed
    (agrees-site bytes site stage e.kind x e.point s r names.0 (role-fresh e.name) parts.0
    (blocks-stay fits bytes events next d).0 lists.0 lines.0 is)

-- the lines that all events add are those of the tree that they spell out
pub outline-spelled : (bytes : List ℕ) (events : List Event) → IsOutlined events bytes →
    (state_after bytes before_all events).lines ≡ outline 0 (spelled events bytes)
unfolding spelled
outline-spelled bytes events out =
    let closed : (read bytes unread events).outer ≡ [] = all-closed bytes events out.balanced in
    agrees-all bytes events Outside AllRecorded before_all unread out.names out.parted out.lists out.lines
    (out.depths, ap (outer_hold fits) closed) closed
    (record { depth = refl; words = tt; untold = refl; lined = refl; leaf = refl; known = tt; text = refl })

-- Events of no list are shown.

shown-unlisted : (x : spelled.Role) → is_unlisted x ≡ true → is_shown x ≡ true
shown-unlisted (ContainerRole OrderedShape) h = refl
shown-unlisted (ContainerRole UnorderedShape) h = refl
shown-unlisted x h = h

pub names-shown : (events : List Event) → list_all has_unlisted_name events ≡ true →
    list_all has_shown_name events ≡ true
names-shown [] h = refl
names-shown (e ∷ events) h =
    let names = and_parts (has_unlisted_name e) (list_all has_unlisted_name events) h in
    and_from (has_shown_name e) (list_all has_shown_name events) (shown-unlisted (spelled.role e.name) names.0)
    (names-shown events names.1)

-- and they may all are between characters, whatever the tree reads.

between-seen : (x y : Bool) → y ≡ true → (not x || y) ≡ true
between-seen true y h = h
between-seen false y h = refl

pub all-between : (bytes : List ℕ) (events : List Event) →
    list_all (λ (e : Event). is_between bytes e.point.index) events ≡ true →
    list_all (is_between_characters bytes) events ≡ true
all-between bytes [] h = refl
all-between bytes (e ∷ events) h =
    let here = and_parts (is_between bytes e.point.index)
    (list_all (λ (e : Event). is_between bytes e.point.index) events) h in
    and_from (is_between_characters bytes e) (list_all (is_between_characters bytes) events)
    (between-seen (is_seen (shown_as (spelled.role e.name))) (is_between bytes e.point.index) here.0)
    (all-between bytes events here.1)

-- what holds where a call has answered `Ok` gives what follows from it there
pub on_ok-map : {A E P Q : Type 0} (r : Result A E) → (P → Q) → OnOk r P → OnOk r Q
on_ok-map (Ok x) f h = f h
on_ok-map (Err e) f h = h

-- A text is cut.

part-is_text : (bytes part : List ℕ) (span : TextSpan) (end : ℕ) (text : Option TextSpan) → text ≡ Some span →
    IsCutAt bytes text end → part ≡ slice_range bytes span.from end → IsUtf8 part
part-is_text bytes part span end text is cut epart =
    subst IsUtf8 (sym epart)
    (utf8-part bytes span.from end cut.utf8 (subst (BeginsBetween bytes) is cut.begins) cut.ends)

-- a text ends: it is said
pub text-end : (bytes part : List ℕ) (span : TextSpan) (end : ℕ) (text : Option TextSpan) (x y : Purpose)
    (s next : OutlineState) → text ≡ Some span → x ≡ y → part ≡ slice_range bytes span.from end →
    (IsUtf8 part → next ≡ recorded y span.is_parted part (record s { text = None })) → IsCutAt bytes text end →
    next ≡ recorded_at bytes x end text s
text-end bytes part span end text x y s next is same epart reads cut =
    reads (part-is_text bytes part span end text is cut epart)
    ∙ ap (λ t. recorded y span.is_parted t (record s { text = None })) epart
    ∙ sym (ap (λ t. recorded_at bytes x end t s) is ∙ ap (λ z. recorded_at bytes z end (Some span) s) same)

-- and shown by its lines alone
pub lines-end : (bytes part : List ℕ) (span : TextSpan) (end : ℕ) (text : Option TextSpan) (x y : Purpose)
    (s : OutlineState) (lines : List Entry) →
    ((piece : List ℕ) →
    recorded y span.is_parted piece (record s { text = None }) ≡
    record s { text = None; lines = (recorded y span.is_parted piece (record s { text = None })).lines }) →
    text ≡ Some span → x ≡ y → part ≡ slice_range bytes span.from end →
    (IsUtf8 part → lines ≡ (recorded y span.is_parted part (record s { text = None })).lines) → IsCutAt bytes text end →
    record s { text = None; lines = lines } ≡ recorded_at bytes x end text s
lines-end bytes part span end text x y s lines alone is same epart reads cut =
    text-end bytes part span end text x y s (record s { text = None; lines = lines }) is same epart
    (λ utf8. ap (λ es. record s { text = None; lines = es }) (reads utf8) ∙ sym (alone part)) cut

-- a prefix has begun in a text: of another block, or of a part of a definition
pub piece-end : (bytes part : List ℕ) (span : TextSpan) (end : ℕ) (text : Option TextSpan) (s : OutlineState)
    (lines : List Entry) (w : Option Word) (is_begun : Bool) → text ≡ Some span → w ≡ part_word s.lined →
    is_begun ≡ is_titled s.lined || span.is_parted → IsCutAt bytes text end → part ≡ slice_range bytes span.from end →
    (IsUtf8 part → lines ≡ piece_shown w is_begun span.is_parted s.depth part s.lines) →
    record s { text = Some (record span { is_parted = true }); lines = lines } ≡ parted_at bytes end text s
piece-end bytes part span end text s lines w is_begun is by begun cut epart elines =
    let with_lines : List Entry →
    OutlineState = λ es. record s { text = Some (record span { is_parted = true }); lines = es } in
    let piece : List ℕ = slice_range bytes span.from end in
    ap with_lines
    (elines (part-is_text bytes part span end text is cut epart)
    ∙ ap (λ t. piece_shown w is_begun span.is_parted s.depth t s.lines) epart
    ∙ ap (λ x. piece_shown x is_begun span.is_parted s.depth piece s.lines) by
    ∙ ap (λ x. piece_shown (part_word s.lined) x span.is_parted s.depth piece s.lines) begun)
    ∙ sym (ap (λ t. parted_at bytes end t s) is)

-- a prefix begins where another ends: nothing is shown
lines-none : (w : Option Word) (depth : ℕ) (lines : List Entry) → piece_shown w true true depth [] lines ≡ lines
lines-none None depth lines = append-nil (lines ++ []) ∙ append-nil lines
lines-none (Some w) depth lines = append-nil lines

pub piece-none : (bytes : List ℕ) (span : TextSpan) (end : ℕ) (s : OutlineState) → s.text ≡ Some span →
    span.is_parted ≡ true → end ≤ span.from → s ≡ parted_at bytes end s.text s
piece-none bytes span end s is parted le =
    let w : Option Word = part_word s.lined in
    let begun : Bool = is_titled s.lined || span.is_parted in
    let with_text : Bool → OutlineState = λ x. record s { text = Some (record span { is_parted = x }) } in
    let with_lines : List Entry →
    OutlineState = λ es. record s { text = Some (record span { is_parted = true }); lines = es } in
    ap (λ t. record s { text = t }) is
    ∙ ap with_text parted
    ∙ ap with_lines
    (sym
    (ap (λ piece. piece_shown w begun span.is_parted s.depth piece s.lines) (range-none bytes span.from end le)
    ∙ ap (λ x. piece_shown w begun x s.depth [] s.lines) parted
    ∙ ap (λ x. piece_shown w x true s.depth [] s.lines) (or_right (is_titled s.lined) span.is_parted parted)
    ∙ lines-none w s.depth s.lines))
    ∙ sym (ap (λ t. parted_at bytes end t s) is)

-- The purpose of a role, which a text has.

purpose_of : Role → Purpose
purpose_of (role.Text x) = x
purpose_of _ = purpose.Digits

-- a text has one
pub same-purpose : (r : Role) (x y : Purpose) → r ≡ role.Text x → r ≡ role.Text y → x ≡ y
unfolding purpose_of
same-purpose r x y one other = ap purpose_of (sym one ∙ other)

-- The loop over the events.

-- a text that begins or continues at an event does so between characters
begins-step : (bytes : List ℕ) (kind : Kind) (x : spelled.Role) (p : Point) (span : Option TextSpan) →
    (not (is_recorded x) || is_between bytes (byte_at p)) ≡ true → parts_by bytes kind x p span ≡ true →
    BeginsBetween bytes span → BeginsBetween bytes (span_by kind x p span)
begins-step bytes Enter (TextRole x) p span t k h = t
begins-step bytes Enter IsPrefix p None t k h = tt
begins-step bytes Enter IsPrefix p (Some span) t k h = h
begins-step bytes Exit (TextRole x) p span t k h = tt
begins-step bytes Exit IsPrefix p None t k h = tt
begins-step bytes Exit IsPrefix p (Some span) t k h = k
begins-step bytes Enter _ p span t k h = h
begins-step bytes Exit _ p span t k h = h

-- and it may be cut at an event that is so
cut-by : (y : Role) (bytes : List ℕ) (text : Option TextSpan) (end : ℕ) → IsUtf8 bytes → BeginsBetween bytes text →
    (not (is_seen y) || is_between bytes end) ≡ true → IsCutBy y bytes text end
cut-by role.Ending bytes text end u begins h = tt
cut-by role.QuoteMarker bytes text end u begins h = tt
cut-by role.Quiet bytes text end u begins h = tt
cut-by _ bytes text end u begins h = record { utf8 = u; begins = begins; ends = h }

-- what holds of all holds of each
all-at : (p : Event → Bool) (events : List Event) (i : ℕ) (d : Event) → i < length events → list_all p events ≡ true →
    p (get_or events i d) ≡ true
all-at p events i d lt h = All-get_or (λ (e : Event). p e ≡ true) events i d lt (AllPass-from_list_all p events h)

-- what is known before each event: where the text begins, that the events to come are where they may, and what they
-- become
pub record Proceeds (bytes : List ℕ) (events : List Event) (s all : OutlineState) : Type 0 where
  pub begins : BeginsBetween bytes s.text
  pub parted : are_parted bytes s.text events ≡ true
  pub becomes : state_after bytes s events ≡ all

-- one event was read
pub state-next : (bytes : List ℕ) (events : List Event) (i : ℕ) (d : Event) (s next all : OutlineState) →
    IsOutlined events bytes → i < length events → Proceeds bytes (drop i events) s all →
    (IsCutBy (shown_as (spelled.role (get_or events i d).name)) bytes s.text (get_or events i d).point.index →
    next ≡ state_by bytes (get_or events i d).kind (shown_as (spelled.role (get_or events i d).name))
    (get_or events i d).point s) →
    Proceeds bytes (drop (i + 1) events) next all
state-next bytes events i d s next all is lt proceeds reads =
    let e : Event = get_or events i d in
    let x : spelled.Role = spelled.role e.name in
    let between : is_between_characters bytes e ≡ true = all-at (is_between_characters bytes) events i d
    lt is.between in
    let records : text_begins_between bytes e ≡ true = all-at (text_begins_between bytes) events i d lt is.texts in
    let parts = parted-step bytes e (drop (i + 1) events) s
    (sym (at_drop_more (are_parted bytes s.text) events i d lt) ∙ proceeds.parted) in
    let read : next ≡ state_by bytes e.kind (shown_as x) e.point s =
    reads (cut-by (shown_as x) bytes s.text e.point.index is.text proceeds.begins between) in
    record {
      begins =
          subst (BeginsBetween bytes)
          (sym (ap (λ (n : OutlineState). n.text) read ∙ span-step bytes e.kind x e.point s))
          (begins-step bytes e.kind x e.point s.text records parts.0 proceeds.begins);
      parted = ap (λ (n : OutlineState). are_parted bytes n.text (drop (i + 1) events)) read ∙ parts.1;
      becomes =
          ap (λ (n : OutlineState). state_after bytes n (drop (i + 1) events)) read
          ∙ sym (at_drop_more (state_after bytes s) events i d lt) ∙ proceeds.becomes;
    }

-- all events were read
pub state-end : (bytes : List ℕ) (events : List Event) (i : ℕ) (s : OutlineState) → IsOutlined events bytes →
    length events ≤ i → state_after bytes s (drop i events) ≡ state_after bytes before_all events →
    s.lines ≡ outline 0 (spelled events bytes)
state-end bytes events i s is le same =
    ap (λ (x : OutlineState). x.lines) (sym (at_drop_all (state_after bytes s) events i le) ∙ same)
    ∙ outline-spelled bytes events is
