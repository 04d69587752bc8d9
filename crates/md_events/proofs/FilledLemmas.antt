-- A document is read as the same tree before its text parts are read and after.
use Rattle.std.proofs.Common.{◌≡◌, ℕ, zero, suc, Bool, true, false, cond, ◌&&◌, List, [], ◌∷◌, ◌++◌, refl, ap, sym, ◌∙◌}
use Rattle.std.proofs.Common.{subst}
use Rattle.std.specs.Prelude.{Option, Some, option_map, ◌==◌, not}
use Rattle.std.proofs.lemmas.Bool.{and_parts, not-true}
use Rattle.md_engine.specs.declared.event.Point.{Point}
use Rattle.md_engine.specs.declared.event.Event.{Event}
use Rattle.md_engine.specs.declared.event.Kind.{Kind}
use Rattle.md_engine.specs.declared.event.Kind.TheVariants.{Enter, Exit}
use Rattle.md_engine.specs.declared.event.Name.{Name}
use Rattle.md_engine.specs.declared.event.Name.TheVariants as n
use Rattle.md_events.specs.Events.Spelled.{Reading, Text, Purpose, Role, TextRole, IsQuiet, IsQuoteMarker}
use Rattle.md_events.specs.Events.Spelled.{is_before_blocks, kind_at, on_shape, with_kind, IsPrefix, role, begun}
use Rattle.md_events.specs.Events.Spelled.{before_prefix, after_prefix, read_by, read, unread, spelled}
use Rattle.md_events.specs.Events.Inline.{is_linked, is_inline}
use Rattle.md_events.specs.Events.Tiles.{may_be_in_part, is_data, is_part, is_chunk, depth_following, chunks_in_parts}
use Rattle.md_events.specs.Events.Tiles.{first_list, further_lists, filled_from, filled}
use Rattle.md_events.specs.Events.Recorded.{is_recorded}
use Rattle.md_events.specs.Events.Nested.{is_exit}
use Rattle.md_events.proofs.SpelledLemmas.{Roles, QuietOrEnding, read-append, read-inline}
use Rattle.md_events.proofs.RecordedLemmas.{recorded-role}

-- Names.

-- what an inline layer may give is quiet, or a line ending
pub inline-role : (name : Name) → is_inline name ≡ true → QuietOrEnding (role name)
inline-role n.SpaceOrTab h = tt
inline-role n.LineEnding h = tt
inline-role n.Data h = tt
inline-role _ h = cc

-- the slice of a text part is read
part-recorded : (name : Name) → is_part name ≡ true → is_recorded (role name) ≡ true
part-recorded n.Data h = cc
part-recorded _ h = cc

pub part-records : (name : Name) → is_part name ≡ true → (purpose : Purpose) × (role name ≡ TextRole purpose)
part-records name h = recorded-role (role name) (part-recorded name h)

-- what may be inside a text part: what the tree does not show, and container prefixes with their markers
abbrev pub InPart : Role → Type 0
InPart IsQuiet = Unit {0}
InPart IsPrefix = Unit {0}
InPart IsQuoteMarker = Unit {0}
InPart _ = ⊥

pub valid-role : (kind : Kind) (name : Name) → may_be_in_part kind name ≡ true → InPart (role name)
valid-role Exit n.Data h = tt
valid-role kind n.SpaceOrTab h = tt
valid-role kind _ h = first_of (search, cc)

data-role : (name : Name) → is_data name ≡ true → role name ≡ IsQuiet
data-role n.Data h = refl
data-role _ h = cc

pub data-no_part : (name : Name) → is_data name ≡ true → is_part name ≡ false
data-no_part n.Data h = refl
data-no_part _ h = cc

-- A text is being read.

abbrev HasText : Reading → Type 0
HasText r = (text : Text) × (r.text ≡ Some text)

-- at this depth inside a text part
abbrev HasTextAt : ℕ → Reading → Type 0
HasTextAt zero r = Unit {0}
HasTextAt (suc depth) r = HasText r

has-at : (depth : ℕ) (r : Reading) → HasText r → HasTextAt depth r
has-at zero r has = tt
has-at (suc depth) r has = has

part-has : (bytes : List ℕ) (name : Name) (p : Point) (r : Reading) → is_part name ≡ true →
    HasText (read_by bytes Enter (role name) p r)
part-has bytes name p r h =
    let records : (purpose : Purpose) × (role name ≡ TextRole purpose) = part-records name h in
    (begun p, ap (λ (x : Role). (read_by bytes Enter x p r).text) records.1)

enter-has : (bytes : List ℕ) (kind : Kind) (name : Name) (p : Point) (r : Reading) →
    HasTextAt (cond (is_part name && not (is_exit kind)) 1 0) (read_by bytes kind (role name) p r)
enter-has bytes Enter name p r = go (is_part name) refl
  where
    go : (x : Bool) → is_part name ≡ x → HasTextAt (cond (x && true) 1 0) (read_by bytes Enter (role name) p r)
    go true h = part-has bytes name p r h
    go false h = tt
enter-has bytes Exit name p r = go (is_part name)
  where
    go : (x : Bool) → HasTextAt (cond (x && false) 1 0) (read_by bytes Exit (role name) p r)
    go true = tt
    go false = tt

keep-has : (bytes : List ℕ) (kind : Kind) (x : Role) (p : Point) (r : Reading) → InPart x → HasText r →
    HasText (read_by bytes kind x p r)
keep-has bytes Enter IsQuiet p r h has = has
keep-has bytes Exit IsQuiet p r h has = has
keep-has bytes Enter IsPrefix p r h has =
    (before_prefix bytes p has.0, ap (λ (x : Option Text). option_map (before_prefix bytes p) x) has.1)
keep-has bytes Exit IsPrefix p r h has =
    (after_prefix p has.0, ap (λ (x : Option Text). option_map (after_prefix p) x) has.1)
keep-has bytes Enter IsQuoteMarker p r h has = go (is_before_blocks r.text r.leaf r.here)
  where
    go : (x : Bool) →
        HasText (cond x (record r { outer = on_shape (with_kind (kind_at bytes p.index)) r.outer }) r)
    go true = has
    go false = has
keep-has bytes Exit IsQuoteMarker p r h has = has
keep-has bytes kind _ p r h has = absurd h

quiet-kept : (bytes : List ℕ) (kind : Kind) (x : Role) (p : Point) (r : Reading) → x ≡ IsQuiet →
    read_by bytes kind x p r ≡ r
quiet-kept bytes Enter x p r e = ap (λ (x : Role). read_by bytes Enter x p r) e
quiet-kept bytes Exit x p r e = ap (λ (x : Role). read_by bytes Exit x p r) e

-- Chunks.

exit-kind : (kind : Kind) → is_exit kind ≡ true → kind ≡ Exit
exit-kind Exit h = refl
exit-kind Enter h = cc

enter-kind : (kind : Kind) → not (is_exit kind) ≡ true → kind ≡ Enter
enter-kind Enter h = refl
enter-kind Exit h = cc

-- a chunk is `Data` from its begin to its end
pub chunk-parts : (e f : Event) (es : List Event) → is_chunk e (f ∷ es) ≡ true →
    (e.kind ≡ Enter) × (is_data e.name ≡ true) × (f.kind ≡ Exit) × (is_data f.name ≡ true)
chunk-parts e f es chunk =
    let outer : (not (is_exit e.kind) && is_data e.name && is_exit f.kind ≡ true) ×
    (is_data f.name ≡ true) = and_parts (not (is_exit e.kind) && is_data e.name && is_exit f.kind)
    (is_data f.name) chunk in
    let middle : (not (is_exit e.kind) && is_data e.name ≡ true) ×
    (is_exit f.kind ≡ true) = and_parts (not (is_exit e.kind) && is_data e.name) (is_exit f.kind) outer.0 in
    let inner : (not (is_exit e.kind) ≡ true) ×
    (is_data e.name ≡ true) = and_parts (not (is_exit e.kind)) (is_data e.name) middle.0 in
    (enter-kind e.kind inner.0, inner.1, exit-kind f.kind middle.1, outer.1)

-- after it one is in the text part as before it
pub chunk-following : (depth : ℕ) (e f : Event) (es : List Event) → is_chunk e (f ∷ es) ≡ true →
    chunks_in_parts (depth_following e.kind (suc depth)) (f ∷ es) ≡ true → chunks_in_parts (suc depth) es ≡ true
chunk-following depth e f es chunk valid =
    let is = chunk-parts e f es chunk in
    let within : chunks_in_parts (suc (suc depth)) (f ∷ es) ≡
    true = subst (λ (k : Kind). chunks_in_parts (depth_following k (suc depth)) (f ∷ es) ≡ true) is.0 valid in
    let following : (cond (is_linked f) ((suc depth == 0) && is_chunk f es) (may_be_in_part f.kind f.name)
    && chunks_in_parts (depth_following f.kind (suc (suc depth))) es) ≡
    true =
    subst
    (λ (x : Bool).
    cond x (is_exit f.kind && (suc depth == 0) && not (is_linked f) && chunks_in_parts 0 es)
    (cond (is_linked f) ((suc depth == 0) && is_chunk f es) (may_be_in_part f.kind f.name)
    && chunks_in_parts (depth_following f.kind (suc (suc depth))) es) ≡
    true)
    (data-no_part f.name is.3) within in
    subst (λ (k : Kind). chunks_in_parts (depth_following k (suc (suc depth))) es ≡ true) is.2
    (and_parts (cond (is_linked f) ((suc depth == 0) && is_chunk f es) (may_be_in_part f.kind f.name))
    (chunks_in_parts (depth_following f.kind (suc (suc depth))) es) following).1

-- The lists that are in the places of chunks.

abbrev pub EachInline : List (List Event) → Type 0
EachInline [] = Unit {0}
EachInline (events ∷ lists) = Roles QuietOrEnding events × EachInline lists

pub first-inline : (lists : List (List Event)) → EachInline lists → Roles QuietOrEnding (first_list lists)
first-inline [] h = tt
first-inline (events ∷ lists) h = h.0

pub further-inline : (lists : List (List Event)) → EachInline lists → EachInline (further_lists lists)
further-inline [] h = tt
further-inline (events ∷ lists) h = h.1

-- Event by event.

abbrev Same : List ℕ → List Event → Type 0
Same bytes es =
    (depth : ℕ) (r : Reading) (lists : List (List Event)) → chunks_in_parts depth es ≡ true → HasTextAt depth r →
    EachInline lists → read bytes r (filled_from false es lists) ≡ read bytes r es

abbrev SameFollowing : List ℕ → List Event → Type 0
SameFollowing bytes [] = Unit {0}
SameFollowing bytes (e ∷ es) = Same bytes es

-- an event with no link stays as it is
same-unlinked : (bytes : List ℕ) (e : Event) (es : List Event) (depth : ℕ) (r : Reading) (lists : List (List Event)) →
    Same bytes es → is_linked e ≡ false → chunks_in_parts depth es ≡ true →
    HasTextAt depth (read_by bytes e.kind (role e.name) e.point r) → EachInline lists →
    read bytes r (filled_from false (e ∷ es) lists) ≡ read bytes r (e ∷ es)
same-unlinked bytes e es depth r lists same unlinked valid has each =
    ap
    (λ (x : Bool).
    read bytes r
    (cond x (first_list lists ++ filled_from true es (further_lists lists)) (e ∷ filled_from false es lists))) unlinked
    ∙ same depth (read_by bytes e.kind (role e.name) e.point r) lists valid has each

-- a chunk gives way to what an inline layer makes of it
same-linked : (bytes : List ℕ) (e : Event) (es : List Event) (depth : ℕ) (r : Reading) (lists : List (List Event)) →
    SameFollowing bytes es → is_linked e ≡ true → is_chunk e es ≡ true →
    chunks_in_parts (depth_following e.kind (suc depth)) es ≡ true →
    HasText r → EachInline lists → read bytes r (filled_from false (e ∷ es) lists) ≡ read bytes r (e ∷ es)
same-linked bytes e [] depth r lists same linked chunk valid has each = cc
same-linked bytes e (f ∷ es) depth r lists same linked chunk valid has each =
    let chunk_is = chunk-parts e f es chunk in
    let starts : read_by bytes e.kind (role e.name) e.point r ≡
    r = quiet-kept bytes e.kind (role e.name) e.point r (data-role e.name chunk_is.1) in
    let ends : read_by bytes f.kind (role f.name) f.point r ≡
    r = quiet-kept bytes f.kind (role f.name) f.point r (data-role f.name chunk_is.3) in
    let on : chunks_in_parts (suc depth) es ≡ true = chunk-following depth e f es chunk valid in
    ap
    (λ (x : Bool).
    read bytes r
    (cond x (first_list lists ++ filled_from true (f ∷ es) (further_lists lists))
    (e ∷ filled_from false (f ∷ es) lists))) linked
    ∙ read-append bytes r (first_list lists) (filled_from false es (further_lists lists))
    ∙ ap (λ (x : Reading). read bytes x (filled_from false es (further_lists lists)))
    (read-inline bytes r has.0 (first_list lists) has.1 (first-inline lists each))
    ∙ same (suc depth) r (further_lists lists) on has (further-inline lists each)
    ∙ ap (λ (x : Reading). read bytes x es) (sym ends)
    ∙ ap (λ (x : Reading). read bytes (read_by bytes f.kind (role f.name) f.point x) es) (sym starts)

same-step : (bytes : List ℕ) (e : Event) (es : List Event) → Same bytes es → SameFollowing bytes es →
    Same bytes (e ∷ es)
same-step bytes e es same following zero r lists valid has each =
    let parts : (not (is_linked e) ≡ true) ×
    (chunks_in_parts (cond (is_part e.name && not (is_exit e.kind)) 1 0) es ≡ true) = and_parts (not (is_linked e))
    (chunks_in_parts (cond (is_part e.name && not (is_exit e.kind)) 1 0) es) valid in
    same-unlinked bytes e es (cond (is_part e.name && not (is_exit e.kind)) 1 0) r lists same
    (not-true (is_linked e) parts.0) parts.1 (enter-has bytes e.kind e.name e.point r) each
same-step bytes e es same following (suc depth) r lists valid has each = go (is_part e.name) (is_linked e) refl valid
  where
    go : (x y : Bool) → is_linked e ≡ y →
        cond x (is_exit e.kind && (depth == 0) && not (is_linked e) && chunks_in_parts 0 es)
        (cond (is_linked e) ((depth == 0) && is_chunk e es) (may_be_in_part e.kind e.name)
        && chunks_in_parts (depth_following e.kind (suc depth)) es) ≡
        true →
        read bytes r (filled_from false (e ∷ es) lists) ≡ read bytes r (e ∷ es)
    go true y linked h =
        let outer : (is_exit e.kind && (depth == 0) && not (is_linked e) ≡ true) ×
        (chunks_in_parts 0 es ≡ true) = and_parts (is_exit e.kind && (depth == 0) && not (is_linked e))
        (chunks_in_parts 0 es) h in
        same-unlinked bytes e es 0 r lists same
        (not-true (is_linked e) (and_parts (is_exit e.kind && (depth == 0)) (not (is_linked e)) outer.0).1)
        outer.1 tt each
    go false y linked h =
        let outer : (cond (is_linked e) ((depth == 0) && is_chunk e es) (may_be_in_part e.kind e.name) ≡ true) ×
        (chunks_in_parts (depth_following e.kind (suc depth)) es ≡ true) =
        and_parts (cond (is_linked e) ((depth == 0) && is_chunk e es) (may_be_in_part e.kind e.name))
        (chunks_in_parts (depth_following e.kind (suc depth)) es) h in
        by y linked
        (subst
        (λ (x : Bool). cond x ((depth == 0) && is_chunk e es) (may_be_in_part e.kind e.name) ≡ true) linked outer.0)
        outer.1
      where
        by : (y : Bool) → is_linked e ≡ y →
            cond y ((depth == 0) && is_chunk e es) (may_be_in_part e.kind e.name) ≡ true →
            chunks_in_parts (depth_following e.kind (suc depth)) es ≡ true →
            read bytes r (filled_from false (e ∷ es) lists) ≡ read bytes r (e ∷ es)
        by false linked valid on =
            same-unlinked bytes e es (depth_following e.kind (suc depth)) r lists same linked on
            (has-at (depth_following e.kind (suc depth)) (read_by bytes e.kind (role e.name) e.point r)
            (keep-has bytes e.kind (role e.name) e.point r (valid-role e.kind e.name valid) has)) each
        by true linked chunk on =
            same-linked bytes e es depth r lists following linked
            (and_parts (depth == 0) (is_chunk e es) chunk).1 on has each

same-both : (bytes : List ℕ) (es : List Event) → (inner : Same bytes es) × SameFollowing bytes es
same-both bytes [] = ((λ depth r lists valid has each. refl), tt)
same-both bytes (e ∷ es) =
    let both : (inner : Same bytes es) × SameFollowing bytes es = same-both bytes es in
    (same-step bytes e es both.0 both.1, both.0)

-- Whatever a layer gives for the chunks of a block list, the tree is the same.
pub spelled-filled : (bytes : List ℕ) (events : List Event) (lists : List (List Event)) →
    chunks_in_parts 0 events ≡ true →
    EachInline lists → spelled (filled events lists) bytes ≡ spelled events bytes
unfolding spelled
spelled-filled bytes events lists valid each =
    ap (λ (r : Reading). r.here) ((same-both bytes events).0 0 unread lists valid tt each)
